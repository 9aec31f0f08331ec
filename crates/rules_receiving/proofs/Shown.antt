-- The payload of a recording that is cut: what is certain of the first chips, and what the buffer shows of them, beside
-- the whole recording.
--     payload_begins                 the first m octets of n are those of the first m alone
--     unusable_parted, odd_parted    9 and 10 of the whole: of the chips that have come, or else of those behind
--     usable_yet, even_yet           what is clean is clean as far as it has come
--     unusable_come, odd_come        a place is certain once its chip, or its symbol, has come
-- Assumes nothing.
use mathlib.Core.Path.{◌≡◌, refl, sym, ap, ap₂, ◌∙◌}
use mathlib.Core.List.{List, ◌++◌, append_assoc}
use Rattle.std.specs.Prelude.{Option, None, Some}
use Prim.Native.Nat.{ℕ, ◌+◌, ◌-◌, ◌*◌, ◌/◌, ◌≤◌, ◌<◌}
use native.Mathlib.Omega.{arith}
use lib.ListN.{length, take, drop, length-append, length-drop}
use lib.Seq.{take_at, drop-append-le, take-append-add}
use Rattle.rules_rates.specs.declared.Rate.{Rate}
use Rattle.rules_rates.specs.declared.Rate.TheVariants.{One, Two, Five, Eleven}
use Rattle.rules_rates.specs.Rates.{symbol_chips, symbol_bits, octet_symbols, octet_chips}
use Rattle.rules_rates.proofs.Octets.{part_symbols, part_bits}
use Rattle.rules_chips.specs.Chips.{Taken}
use Rattle.rules_bits.specs.Bits.{octets_of}
use Rattle.rules_bits.specs.Growths.{heard, growths_of, last_heard}
use Rattle.rules_bits.specs.Scrambler.{descramble}
use Rattle.rules_bits.specs.Code.{past_after}
use Rattle.rules_bits.proofs.Bits.{octets_append}
use Rattle.rules_bits.proofs.Heard.{heard_append, heard_length, growths_of_append, growths_of_length}
use Rattle.rules_bits.proofs.Scrambler.{descramble_append, descramble_length}
use Rattle.rules_frame.specs.declared.Kind.{Kind}
use Rattle.rules_frame.specs.Frame.{start, front_chips, preamble_length, header_length, frame_chips}
use Rattle.rules_calls.specs.declared.Told.{Told}
use Rattle.rules_reading.specs.Reading.{
  or_else,
  first_unusable,
  odd_growth,
  decided_words,
  payload_phase,
  front_heard,
  payload_words,
  payload_odd,
  payload_of,
}
use Rattle.rules_reading.proofs.Payloads.{found_unusable}
use Rattle.rules_reading.proofs.Places.{decided_words_length, payload_odd_rate}
use Rattle.rules_reading.proofs.Passes.{odd_growth_append, decided_words_append}
use Rattle.rules_reading.proofs.First.{no_place, unusable_first, odd_first}
use Rattle.rules_reading.proofs.Decoding.{front_length}
use Rattle.rules_reading.proofs.Buffers.{payload_length}
use Rattle.rules_receiving.specs.Yet.{whole_symbols, unusable_yet, odd_yet}
use Rattle.rules_receiving.proofs.Prefix.{words_prefix, phase_prefix}
use Rattle.rules_receiving.proofs.Prefix.{unusable_append}

-- ---- the first m octets of m + w

octets_sum : (r : Rate) (m w : ℕ) → 8 * (m + w) / symbol_bits r ≡ 8 * m / symbol_bits r + octet_symbols r * w
octets_sum One m w = omega arith
octets_sum Two m w = omega arith
octets_sum Five m w = omega arith
octets_sum Eleven m w = omega arith

pub payload_begins : (k : Kind) (r : Rate) (m w : ℕ) (rec : List Taken)
    → take m (payload_of k r (m + w) rec) ≡ payload_of k r m rec
payload_begins k r m w rec =
    ap (take m) parted ∙ take_at (payload_of k r m rec) behind m (payload_length k r m rec)
  where
    words : List ℕ
    words = payload_words k r m rec

    rest : List ℕ
    rest =
        decided_words r (octet_symbols r * w)
        (drop (symbol_chips r * (8 * m / symbol_bits r)) (drop (front_chips k) rec))

    words_are : payload_words k r (m + w) rec ≡ words ++ rest
    words_are =
        unfold payload_words in
        ap (λ (i : ℕ). decided_words r i (drop (front_chips k) rec)) (octets_sum r m w)
        ∙ decided_words_append r (8 * m / symbol_bits r) (octet_symbols r * w) (drop (front_chips k) rec)

    phase : ℕ
    phase = payload_phase k rec

    bits : List ℕ
    bits = front_heard k rec ++ heard r 0 phase words

    more : List ℕ
    more = heard r (0 + length words) (last_heard r phase words) rest

    bits_are : front_heard k rec ++ heard r 0 phase (payload_words k r (m + w) rec) ≡ bits ++ more
    bits_are =
        ap (λ (x : List ℕ). front_heard k rec ++ heard r 0 phase x) words_are
        ∙ ap (λ (x : List ℕ). front_heard k rec ++ x) (heard_append r 0 phase words rest)
        ∙ sym (append_assoc (front_heard k rec) (heard r 0 phase words) more)

    front : ℕ
    front = preamble_length k + header_length

    words_long : symbol_bits r * length words ≡ 8 * m
    words_long =
        unfold payload_words in
        ap (λ (i : ℕ). symbol_bits r * i)
        (decided_words_length r (8 * m / symbol_bits r) (drop (front_chips k) rec) ∙ part_symbols r m)
        ∙ part_bits r m

    bits_long : length (descramble (start k) bits) ≡ front + 8 * m
    bits_long =
        descramble_length (start k) bits
        ∙ length-append (front_heard k rec) (heard r 0 phase words)
        ∙ ap₂ {C = ℕ} (λ x y. x + y) (front_length k r rec m) (heard_length r 0 phase words ∙ words_long)

    behind : List ℕ
    behind = octets_of w (descramble (past_after (start k) bits) more)

    parted : payload_of k r (m + w) rec ≡ payload_of k r m rec ++ behind
    parted =
        unfold payload_of in
        ap (λ (x : List ℕ). octets_of (m + w) (drop front (descramble (start k) x))) bits_are
        ∙ ap (λ (x : List ℕ). octets_of (m + w) (drop front x)) (descramble_append (start k) bits more)
        ∙ ap (octets_of (m + w))
        (drop-append-le front (descramble (start k) bits) (descramble (past_after (start k) bits) more)
        (omega (arith, bits_long)))
        ∙ octets_append m w (drop front (descramble (start k) bits)) (descramble (past_after (start k) bits) more)
        (omega (arith, length-drop front (descramble (start k) bits), bits_long))

-- ---- 9 and 10 of the chips that have come, and of those behind

none_first : (a b : Option ℕ) → or_else a (λ place. Some place) b ≡ None → a ≡ None
none_first None b e = refl
none_first (Some p) b e = e

some_second : (a b : Option ℕ) (p : ℕ) → or_else a (λ place. Some place) b ≡ Some p → a ≡ None → b ≡ Some p
some_second None b p e h = e
some_second (Some q) b p e h = absurd (no_place h refl)

symbols_within : (r : Rate) (x n : ℕ) → x ≤ octet_chips r * n
    → (x / symbol_chips r ≤ 8 * n / symbol_bits r) × (symbol_chips r * (x / symbol_chips r) ≤ x)
symbols_within One x n h = (omega arith, omega arith)
symbols_within Two x n h = (omega arith, omega arith)
symbols_within Five x n h = (omega arith, omega arith)
symbols_within Eleven x n h = (omega arith, omega arith)

module _
    (k : Kind) (t : Told) (cut more : List Taken) (whole : front_chips k ≤ length cut)
    (to : length cut ≤ frame_chips k t.rate t.n) where
  abbrev from : ℕ
  from = front_chips k

  abbrev r : Rate
  r = t.rate

  abbrev all : ℕ
  all = frame_chips k t.rate t.n

  abbrev behind : List Taken
  behind = take (all - length cut) more

  chips_parted : take (all - from) (drop from (cut ++ more)) ≡ drop from cut ++ behind
  chips_parted =
      ap (take (all - from)) (drop-append-le from cut more whole)
      ∙ ap (λ (i : ℕ). take i (drop from cut ++ more)) (counted all to)
      ∙ take-append-add (drop from cut) more (all - length cut)
    where
      counted : (a : ℕ) → length cut ≤ a → a - from ≡ length (drop from cut) + (a - length cut)
      counted a h = omega (arith, length-drop from cut, whole)

  pub unusable_parted : found_unusable k t (cut ++ more)
      ≡ or_else (unusable_yet k cut) (λ place. Some place) (first_unusable (length cut) behind)
  unusable_parted =
      ap (first_unusable from) chips_parted
      ∙ unusable_append from (drop from cut) behind
      ∙ ap (λ (i : ℕ). or_else (unusable_yet k cut) (λ place. Some place) (first_unusable i behind))
      (omega (arith, length-drop from cut, whole))

  pub usable_yet : found_unusable k t (cut ++ more) ≡ None → unusable_yet k cut ≡ None
  usable_yet e = none_first (unusable_yet k cut) (first_unusable (length cut) behind) (sym unusable_parted ∙ e)

  pub unusable_come : (p : ℕ) → found_unusable k t (cut ++ more) ≡ Some p → unusable_yet k cut ≡ None → length cut ≤ p
  unusable_come p e h =
      let f = unusable_first (length cut) behind p
      (some_second (unusable_yet k cut) (first_unusable (length cut) behind) p (sym unusable_parted ∙ e) h) in
      omega (arith, f.place_is)

  -- how many symbols have come, and their words
  abbrev come : ℕ
  come = whole_symbols r from cut

  abbrev left : ℕ
  left = 8 * t.n / symbol_bits r - come

  abbrev words : List ℕ
  words = decided_words r come (drop from cut)

  abbrev others : List ℕ
  others = decided_words r left (drop (symbol_chips r * come) (drop from (cut ++ more)))

  within : (come ≤ 8 * t.n / symbol_bits r) × (symbol_chips r * come ≤ length cut - from)
  within = symbols_within r (length cut - from) t.n (omega (arith, to, whole))

  words_parted : payload_words k r t.n (cut ++ more) ≡ words ++ others
  unfolding payload_words
  words_parted =
      ap (λ (i : ℕ). decided_words r i (drop from (cut ++ more))) (parted within.0)
      ∙ decided_words_append r come left (drop from (cut ++ more))
      ∙ ap (λ (x : List ℕ). x ++ others)
      (ap (decided_words r come) (drop-append-le from cut more whole)
      ∙ words_prefix r come (drop from cut) more (omega (arith, within.1, length-drop from cut)))
    where
      parted : {a b : ℕ} → a ≤ b → b ≡ a + (b - a)
      parted h = omega arith

  abbrev grown : List ℕ
  grown = growths_of r (last_heard r (payload_phase k cut) words) others

  pub odd_parted : payload_odd k r t.n (cut ++ more)
      ≡ or_else (odd_yet k r cut) (λ place. Some place) (odd_growth r (from + symbol_chips r * come) grown)
  unfolding payload_odd odd_yet
  odd_parted =
      ap₂ {C = Option ℕ} (λ x y. odd_growth r from (growths_of r x y)) (phase_prefix k cut more whole) words_parted
      ∙ ap (odd_growth r from) (growths_of_append r (payload_phase k cut) words others)
      ∙ odd_growth_append r from (growths_of r (payload_phase k cut) words) grown
      ∙ ap (λ (i : ℕ). or_else (odd_yet k r cut) (λ place. Some place) (odd_growth r (from + symbol_chips r * i) grown))
      (growths_of_length r (payload_phase k cut) words ∙ decided_words_length r come (drop from cut))

  pub even_yet : payload_odd k r t.n (cut ++ more) ≡ None → odd_yet k r cut ≡ None
  even_yet e =
      none_first (odd_yet k r cut) (odd_growth r (from + symbol_chips r * come) grown) (sym odd_parted ∙ e)

  -- a symbol is 11 chips, as it is one at 1 Mbit/s
  pub odd_come : (p : ℕ) → payload_odd k r t.n (cut ++ more) ≡ Some p → odd_yet k r cut ≡ None → length cut < p + 11
  odd_come p e h =
      let f = some_second (odd_yet k r cut) (odd_growth r (from + symbol_chips r * come) grown) p
      (sym odd_parted ∙ e) h in
      omega (arith, whole, by r (payload_odd_rate k (cut ++ more) p t e) (length cut - from) grown f)
    where
      by : (r : Rate) → r ≡ One → (x : ℕ) (gs : List ℕ)
          → odd_growth r (from + symbol_chips r * (x / symbol_chips r)) gs ≡ Some p → from + x < p + 11
      by One i x gs e = omega (arith, (odd_first (from + 11 * (x / 11)) gs p e).place_is)
      by Two i x gs e = absurd (no_place refl e)
      by Five i x gs e = absurd (no_place refl e)
      by Eleven i x gs e = absurd (no_place refl e)
