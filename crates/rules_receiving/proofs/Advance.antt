-- A part of a frame, a recording that ends with its m-th octet, and more chips behind it: what is known of all is what
-- was known, and then what the chips that are new say. `w` are whole octets of them.
--     words_same, least_same, heard_same, octets_same     the m octets, whatever follows
--     words_more, least_more, heard_more, octets_more     w octets more
-- Of a recording that ends anywhere behind the part's first chip:
--     unusable_next, unusable_first     9 of all, and of the beginning
--     next_words, words_next, odd_next, odd_first    the words of whole symbols, and 10
--     symbols_whole, words_yet_lem          how many symbols are whole
-- Assumes nothing.
use mathlib.Core.Path.{◌≡◌, refl, sym, ap, ap₂, ◌∙◌}
use mathlib.Core.List.{List, ◌++◌, append_assoc}
use Rattle.std.specs.Prelude.{Option, None, Some}
use Prim.Native.Nat.{ℕ, ◌+◌, ◌-◌, ◌*◌, ◌/◌, ◌%◌, ◌≤◌}
use native.Mathlib.Nat.{mul-add}
use native.Mathlib.Omega.{arith}
use lib.ListN.{length, drop, length-drop, length-append}
use lib.Seq.{drop-append-le, drop-drop, drop_at}
use Rattle.rules_rates.specs.declared.Rate.{Rate}
use Rattle.rules_rates.specs.declared.Rate.TheVariants.{One, Two, Five, Eleven}
use Rattle.rules_rates.specs.Rates.{symbol_chips, symbol_bits, octet_symbols, octet_chips}
use Rattle.rules_rates.proofs.Octets.{part_symbols, part_chips, part_bits}
use Rattle.rules_chips.specs.Chips.{Taken}
use Rattle.rules_bits.specs.Bits.{octets_of}
use Rattle.rules_bits.specs.Growths.{heard, growths_of, last_heard}
use Rattle.rules_bits.specs.Scrambler.{descramble}
use Rattle.rules_bits.specs.Code.{past_after}
use Rattle.rules_bits.proofs.Bits.{octets_append}
use Rattle.rules_bits.proofs.Heard.{heard_append, growths_of_append, growths_of_length, heard_length, heard_parity}
use Rattle.rules_bits.proofs.Scrambler.{descramble_append, descramble_length}
use Rattle.rules_frame.specs.declared.Kind.{Kind}
use Rattle.rules_frame.specs.Frame.{start}
use Rattle.rules_reading.specs.Leads.{decided_leads, least_from}
use Rattle.rules_reading.specs.Reading.{or_else, first_unusable, odd_growth, decided_words}
use Rattle.rules_reading.proofs.Places.{decided_words_length}
use Rattle.rules_reading.proofs.Leads.{leads_length, leads_append, least_joined}
use Rattle.rules_reading.proofs.Passes.{odd_growth_append, decided_words_append}
use Rattle.rules_receiving.specs.Yet.{whole_symbols}
use Rattle.rules_receiving.specs.Sections.{
  Section,
  words_to,
  heard_to,
  least_to,
  octets_to,
  words_yet,
  section_unusable,
  section_odd,
}
use Rattle.rules_receiving.proofs.Prefix.{words_prefix, leads_prefix, unusable_append}

-- ---- octets

module _ (p : Section) (m : ℕ) (rec more : List Taken) (at : length rec ≡ p.from + octet_chips p.rate * m) where
  abbrev r : Rate
  r = p.rate

  abbrev from : ℕ
  from = p.from

  abbrev all : List Taken
  all = rec ++ more

  -- the symbols so far, and those of w octets
  abbrev done : ℕ
  done = octet_symbols r * m

  abbrev new : ℕ → List ℕ
  new w = decided_words r (8 * w / symbol_bits r) more

  whole : from ≤ length rec
  whole = omega (arith, at)

  chips_then : from + symbol_chips r * done ≡ length rec
  chips_then = omega (arith, at, part_chips r m)

  fits : symbol_chips r * done ≤ length (drop from rec)
  fits = omega (arith, chips_then, length-drop from rec)

  behind : drop (symbol_chips r * done) (drop from all) ≡ more
  behind =
      drop-drop (symbol_chips r * done) from all ∙ drop_at rec more (from + symbol_chips r * done) (sym chips_then)

  words_first : decided_words r done (drop from all) ≡ words_to p rec m
  words_first =
      ap (decided_words r done) (drop-append-le from rec more whole)
      ∙ words_prefix r done (drop from rec) more fits
      ∙ ap (λ (j : ℕ). decided_words r j (drop from rec)) (sym (part_symbols r m))

  leads_first : decided_leads r done (drop from all) ≡ decided_leads r (8 * m / symbol_bits r) (drop from rec)
  leads_first =
      ap (decided_leads r done) (drop-append-le from rec more whole)
      ∙ leads_prefix r done (drop from rec) more fits
      ∙ ap (λ (j : ℕ). decided_leads r j (drop from rec)) (sym (part_symbols r m))

  pub words_length : length (words_to p rec m) ≡ done
  words_length = decided_words_length r (8 * m / symbol_bits r) (drop from rec) ∙ part_symbols r m

  symbols_more : (w : ℕ) → 8 * (m + w) / symbol_bits r ≡ done + 8 * w / symbol_bits r
  symbols_more w =
      part_symbols r (m + w) ∙ mul-add (octet_symbols r) m w ∙ ap (λ (j : ℕ). done + j) (sym (part_symbols r w))

  -- the m octets, whatever follows

  pub words_same : words_to p all m ≡ words_to p rec m
  words_same = ap (λ (j : ℕ). decided_words r j (drop from all)) (part_symbols r m) ∙ words_first

  pub least_same : least_to p all m ≡ least_to p rec m
  least_same =
      ap (least_from p.first p.least)
      (ap (λ (j : ℕ). decided_leads r j (drop from all)) (part_symbols r m) ∙ leads_first)

  pub heard_same : heard_to p all m ≡ heard_to p rec m
  heard_same = ap (λ (ws : List ℕ). p.before ++ heard r 0 p.phase ws) words_same

  pub octets_same : (k : Kind) → octets_to p all k m ≡ octets_to p rec k m
  octets_same k =
      ap (λ (bs : List ℕ). octets_of m (drop (length p.before) (descramble (start k) bs))) heard_same

  -- w octets more

  pub words_more : (w : ℕ) → words_to p all (m + w) ≡ words_to p rec m ++ new w
  words_more w =
      ap (λ (j : ℕ). decided_words r j (drop from all)) (symbols_more w)
      ∙ decided_words_append r done (8 * w / symbol_bits r) (drop from all)
      ∙ ap₂ {C = List ℕ} (λ a b. a ++ b) words_first (ap (decided_words r (8 * w / symbol_bits r)) behind)

  pub least_more : (w : ℕ) → least_to p all (m + w)
      ≡ least_from (p.first + done) (least_to p rec m) (decided_leads r (8 * w / symbol_bits r) more)
  least_more w =
      let x = 8 * w / symbol_bits r in
      let before = decided_leads r (8 * m / symbol_bits r) (drop from rec) in
      ap (least_from p.first p.least)
      (ap (λ (j : ℕ). decided_leads r j (drop from all)) (symbols_more w)
      ∙ leads_append r done x (drop from all)
      ∙ ap₂ {C = List ℕ} (λ a b. a ++ b) leads_first (ap (decided_leads r x) behind))
      ∙ least_joined p.first p.least before (decided_leads r x more)
      ∙ ap (λ (j : ℕ). least_from (p.first + j) (least_from p.first p.least before) (decided_leads r x more))
      (leads_length r (8 * m / symbol_bits r) (drop from rec) ∙ part_symbols r m)

  module _ (even : p.first % 2 ≡ 0) (w : ℕ) where
    -- the bits of the new words, with the number that their first symbol has in the frame
    abbrev bits : List ℕ
    bits = heard r (p.first + done) (last_heard r p.phase (words_to p rec m)) (new w)

    numbers : (0 + length (words_to p rec m)) % 2 ≡ (p.first + done) % 2
    numbers = by p.first done (length (words_to p rec m)) even words_length
      where
        by : (f d l : ℕ) → f % 2 ≡ 0 → l ≡ d → (0 + l) % 2 ≡ (f + d) % 2
        by f d l e g = omega arith

    pub heard_more : heard_to p all (m + w) ≡ heard_to p rec m ++ bits
    heard_more =
        let then = heard r 0 p.phase (words_to p rec m) in
        let last = last_heard r p.phase (words_to p rec m) in
        ap (λ (ws : List ℕ). p.before ++ heard r 0 p.phase ws) (words_more w)
        ∙ ap (λ (bs : List ℕ). p.before ++ bs)
        (heard_append r 0 p.phase (words_to p rec m) (new w)
        ∙ ap (λ (bs : List ℕ). then ++ bs)
        (heard_parity r (0 + length (words_to p rec m)) (p.first + done) last (new w) numbers))
        ∙ sym (append_assoc p.before then bits)

    pub octets_more : (k : Kind) → octets_to p all k (m + w)
        ≡ octets_to p rec k m ++ octets_of w (descramble (past_after (start k) (heard_to p rec m)) bits)
    octets_more k =
        let s = start k in
        let plain = descramble s (heard_to p rec m) in
        let rest = descramble (past_after s (heard_to p rec m)) bits in
        let b = length p.before in
        let size : length plain ≡ b + 8 * m =
        descramble_length s (heard_to p rec m)
        ∙ length-append p.before (heard r 0 p.phase (words_to p rec m))
        ∙ ap (λ (j : ℕ). b + j)
        (heard_length r 0 p.phase (words_to p rec m)
        ∙ ap (λ (j : ℕ). symbol_bits r * j) words_length ∙ part_bits r m) in
        ap (λ (bs : List ℕ). octets_of (m + w) (drop b bs))
        (ap (descramble s) heard_more ∙ descramble_append s (heard_to p rec m) bits)
        ∙ ap (octets_of (m + w)) (drop-append-le b plain rest (omega (arith, size)))
        ∙ octets_append m w (drop b plain) rest (length-drop b plain ∙ omega (arith, size))

-- ---- 9 and 10, wherever the recording ends

first_none : (x y : Option ℕ) → or_else x (λ place. Some place) y ≡ None → x ≡ None
first_none None y e = refl
first_none (Some p) y e = e

second : (x y : Option ℕ) → x ≡ None → or_else x (λ place. Some place) y ≡ y
second x y e = ap (λ (o : Option ℕ). or_else o (λ place. Some place) y) e

-- the words of the symbols that more chips make whole
abbrev pub next_words : Section → List Taken → List Taken → List ℕ
next_words p rec more =
    decided_words p.rate (whole_symbols p.rate p.from (rec ++ more) - whole_symbols p.rate p.from rec)
    (drop (symbol_chips p.rate * whole_symbols p.rate p.from rec) (drop p.from (rec ++ more)))

module _ (p : Section) (rec more : List Taken) (whole : p.from ≤ length rec) where
  abbrev rate : Rate
  rate = p.rate

  unusable_both : section_unusable p (rec ++ more)
      ≡ or_else (section_unusable p rec) (λ place. Some place) (first_unusable (length rec) more)
  unusable_both =
      let o = section_unusable p rec in
      ap (first_unusable p.from) (drop-append-le p.from rec more whole)
      ∙ unusable_append p.from (drop p.from rec) more
      ∙ ap (λ (j : ℕ). or_else o (λ place. Some place) (first_unusable j more))
      (omega (arith, length-drop p.from rec, whole))

  pub unusable_next : section_unusable p rec ≡ None → section_unusable p (rec ++ more) ≡ first_unusable (length rec) more
  unusable_next e = unusable_both ∙ second (section_unusable p rec) (first_unusable (length rec) more) e

  pub unusable_first : section_unusable p (rec ++ more) ≡ None → section_unusable p rec ≡ None
  unusable_first e = first_none (section_unusable p rec) (first_unusable (length rec) more) (sym unusable_both ∙ e)

  -- the symbols that are whole, and those that are once all have come
  abbrev before : ℕ
  before = whole_symbols rate p.from rec

  abbrev after : ℕ
  after = whole_symbols rate p.from (rec ++ more)

  abbrev next : List ℕ
  next = next_words p rec more

  grows : after ≡ before + (after - before)
  grows = by rate (length-append rec more)
    where
      by : (q : Rate) → length (rec ++ more) ≡ length rec + length more
          → (length (rec ++ more) - p.from) / symbol_chips q
          ≡ (length rec - p.from) / symbol_chips q
          + ((length (rec ++ more) - p.from) / symbol_chips q - (length rec - p.from) / symbol_chips q)
      by One e = omega arith
      by Two e = omega arith
      by Five e = omega arith
      by Eleven e = omega arith

  there : symbol_chips rate * before ≤ length (drop p.from rec)
  there = by rate (length (drop p.from rec)) (length-drop p.from rec)
    where
      by : (q : Rate) (x : ℕ) → x ≡ length rec - p.from → symbol_chips q * ((length rec - p.from) / symbol_chips q) ≤ x
      by One x e = omega arith
      by Two x e = omega arith
      by Five x e = omega arith
      by Eleven x e = omega arith

  pub words_next : words_yet p (rec ++ more) ≡ words_yet p rec ++ next_words p rec more
  words_next =
      ap (λ (j : ℕ). decided_words rate j (drop p.from (rec ++ more))) grows
      ∙ decided_words_append rate before (after - before) (drop p.from (rec ++ more))
      ∙ ap (λ (ws : List ℕ). ws ++ next)
      (ap (decided_words rate before) (drop-append-le p.from rec more whole)
      ∙ words_prefix rate before (drop p.from rec) more there)

  odd_both : section_odd p (rec ++ more)
      ≡ or_else (section_odd p rec) (λ place. Some place)
      (odd_growth rate (p.from + symbol_chips rate * before)
      (growths_of rate (last_heard rate p.phase (words_yet p rec)) (next_words p rec more)))
  unfolding section_odd
  odd_both =
      let f = p.from in
      let h = p.phase in
      let ws = words_yet p rec in
      let then = growths_of rate (last_heard rate h ws) next in
      ap (λ (l : List ℕ). odd_growth rate f (growths_of rate h l)) words_next
      ∙ ap (odd_growth rate f) (growths_of_append rate h ws next)
      ∙ odd_growth_append rate f (growths_of rate h ws) then
      ∙ ap (λ (j : ℕ). or_else (odd_growth rate f (growths_of rate h ws)) (λ place. Some place)
      (odd_growth rate (f + symbol_chips rate * j) then))
      (growths_of_length rate h ws ∙ decided_words_length rate before (drop f rec))

  pub odd_next : section_odd p rec ≡ None → section_odd p (rec ++ more)
      ≡ odd_growth rate (p.from + symbol_chips rate * before)
      (growths_of rate (last_heard rate p.phase (words_yet p rec)) (next_words p rec more))
  odd_next e = odd_both ∙ second (section_odd p rec) _ e

  pub odd_first : section_odd p (rec ++ more) ≡ None → section_odd p rec ≡ None
  odd_first e = first_none (section_odd p rec) _ (sym odd_both ∙ e)

-- ---- how many symbols are whole

pub symbols_whole : (p : Section) (m h : ℕ) (rec : List Taken) → length rec ≡ p.from + octet_chips p.rate * m + h
    → whole_symbols p.rate p.from rec ≡ octet_symbols p.rate * m + h / symbol_chips p.rate
symbols_whole p m h rec e =
    ap (λ (x : ℕ). x / symbol_chips p.rate) (less (octet_chips p.rate * m) e) ∙ by p.rate
  where
    less : (x : ℕ) → length rec ≡ p.from + x + h → length rec - p.from ≡ x + h
    less x f = omega arith

    by : (r : Rate) → (octet_chips r * m + h) / symbol_chips r ≡ octet_symbols r * m + h / symbol_chips r
    by One = omega arith
    by Two = omega arith
    by Five = omega arith
    by Eleven = omega arith

-- a recording that ends with an octet
pub words_yet_lem : (p : Section) (m : ℕ) (rec : List Taken) → length rec ≡ p.from + octet_chips p.rate * m
    → words_yet p rec ≡ words_to p rec m
words_yet_lem p m rec e =
    ap (λ (j : ℕ). decided_words p.rate j (drop p.from rec))
    (symbols_whole p m 0 rec (omega (arith, e)) ∙ by p.rate)
  where
    by : (r : Rate) → octet_symbols r * m + 0 / symbol_chips r ≡ 8 * m / symbol_bits r
    by One = omega arith
    by Two = omega arith
    by Five = omega arith
    by Eleven = omega arith
