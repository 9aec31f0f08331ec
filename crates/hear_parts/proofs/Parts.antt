-- Blocks after blocks: what is heard of them is what is heard of all their words.
--     decided_row, words_below         the numbers decided for symbols are their words, below the rate's number of them
--     block_words, block_are_words     those of a block
--     block_leads                      and its leads theirs
--     part_leads_lem, part_leads_length    the leads of two parts, and how many
--     blocks_more, blocks_bits         the line behind two parts, and their bits
--     block_room, block_usable         a block has its chips, and they are usable
--     block_symbol, few_symbols        and the numbers of its symbols do not wrap; there are more chips than symbols
--     over_all                         a word as long as what it is written over
--     Parts, parts_none, parts_more, parts_all    the loop over blocks: before it, a block more, after it
-- Assumes nothing.
use mathlib.Core.Path.{◌≡◌, refl, sym, ap, ap₂, subst, ◌∙◌}
use mathlib.Core.List.{List, [], ◌++◌, append-nil, map}
use Rattle.std.specs.Prelude.{Option, None, Some}
use Prim.Native.Nat.{ℕ, zero, suc, ◌+◌, ◌-◌, ◌*◌, ◌/◌, ◌≤◌, ◌<◌}
use native.Mathlib.Nat.{mul-zero, add-zero, le_antisymm, le_of_suc-le-suc, not-suc-le-zero}
use native.Mathlib.Omega.{arith}
use lib.ListN.{length, get_or, take, drop, drop_of_length-le}
use lib.Seq.{get_or-take, length-take-le, ext_get_or, drop-drop}
use borrow.Rule.Slice.PartMut.{put_mid}
use Rattle.base.specs.Over.{over}
use Rattle.base.proofs.Below.{below_nil, below_cons}
use Rattle.base.proofs.Over.{length_over, over_next}
use Rattle.rules_rates.specs.declared.Rate.{Rate}
use Rattle.rules_rates.specs.declared.Rate.TheVariants.{One, Two, Five, Eleven}
use Rattle.rules_rates.specs.Rates.{symbol_chips, symbol_bits, octet_symbols, octet_chips}
use Rattle.rules_rates.proofs.Octets.{part_symbols, part_chips, part_bits}
use Rattle.rules_chips.specs.Chips.{Taken, taken_counts}
use Rattle.rules_symbols.specs.Choice.{numbers, decided, lead_of}
use Rattle.rules_choosing.proofs.Decided.{decided_below}
use Rattle.rules_bits.specs.Bits.{bits_of, octets_of}
use Rattle.rules_bits.specs.Growths.{heard, growths_of, last_heard}
use Rattle.rules_bits.specs.Scrambler.{descramble}
use Rattle.rules_bits.specs.Code.{past_of, past_after}
use Rattle.common_lines.specs.declared.Line.{Line}
use Rattle.rules_bits.proofs.Bits.{octets_append, octets_length}
use Rattle.rules_bits.proofs.Scrambler.{past_append, descramble_append, descramble_length}
use Rattle.rules_bits.proofs.Heard.{
  heard_append,
  last_heard_append,
  growths_of_append,
  growths_of_length,
  heard_length,
}
use Rattle.rules_calls.specs.declared.Least.{Least}
use Rattle.rules_reading.specs.Reading.{or_else, first_odd, odd_growth, decided_words}
use Rattle.rules_reading.specs.Leads.{decided_leads, least_from}
use Rattle.choose_recorded.specs.Recorded.{symbol_at, AllUsable, DecidedAt, LeadsAt}
use Rattle.choose_recorded.proofs.Search.{usable_part}
use Rattle.hear_blocks.specs.declared.Hearing.{Hearing}
use Rattle.hear_codes.specs.Codes.{AreWords, BlockOf}
use Rattle.hear_blocks.specs.Heard.{received, plain_bits, plain_octets, Heard}
use Rattle.hear_parts.specs.declared.Part.{Part}
use Rattle.hear_parts.specs.Hearing.{part_words, part_leads, PartHeard}
use Rattle.rules_reading.proofs.Places.{decided_words_length}
use Rattle.rules_reading.proofs.Leads.{leads_length, leads_at, leads_append, least_joined}
use Rattle.rules_reading.proofs.Passes.{past_take, descramble_take, odd_growth_append, decided_words_append}

-- ---- the words of a block

words_at : (r : Rate) (m : ℕ) (cs : List Taken) (l : ℕ) → l < m
    → get_or (decided_words r m cs) l 0 ≡ decided r (symbol_at r cs (symbol_chips r * l))
unfolding decided_words
words_at r zero cs l h = absurd (not-suc-le-zero h)
words_at r (suc m) cs zero h = rw mul-zero
words_at r (suc m) cs (suc l) h =
    words_at r m (drop (symbol_chips r) cs) l (le_of_suc-le-suc h)
    ∙ ap (λ (us : List Taken). decided r (map taken_counts (take (symbol_chips r) us)))
    (drop-drop (symbol_chips r * l) (symbol_chips r) cs ∙ ap (λ (k : ℕ). drop k cs) (next r l))
  where
    next : (r : Rate) (l : ℕ) → symbol_chips r + symbol_chips r * l ≡ symbol_chips r * suc l
    next One l = omega arith
    next Two l = omega arith
    next Five l = omega arith
    next Eleven l = omega arith

pub decided_row : (r : Rate) (rec : List Taken) (at m : ℕ) (ns : List ℕ) → DecidedAt r rec at m ns → m ≤ 64
    → take m ns ≡ decided_words r m (drop at rec)
decided_row r rec at m ns d h =
    let long : length (take m ns) ≡ m = length-take-le m ns (omega (arith, d.long)) in
    ext_get_or 0 (take m ns) (decided_words r m (drop at rec)) (long ∙ sym (decided_words_length r m (drop at rec)))
    (λ l k. let b : l < m = omega (arith, long) in
    get_or-take m ns l 0 b
    ∙ d.number l b
    ∙ ap (λ (us : List Taken). decided r (map taken_counts (take (symbol_chips r) us)))
    (sym (drop-drop (symbol_chips r * l) at rec))
    ∙ sym (words_at r m (drop at rec) l b))

leads_row : (r : Rate) (rec : List Taken) (at m : ℕ) (ls : List ℕ) → LeadsAt r rec at m ls → m ≤ 64
    → take m ls ≡ decided_leads r m (drop at rec)
leads_row r rec at m ls d h =
    let long : length (take m ls) ≡ m = length-take-le m ls (omega (arith, d.long)) in
    ext_get_or 0 (take m ls) (decided_leads r m (drop at rec)) (long ∙ sym (leads_length r m (drop at rec)))
    (λ l k. let b : l < m = omega (arith, long) in
    get_or-take m ls l 0 b
    ∙ d.lead l b
    ∙ ap (λ (us : List Taken). lead_of r (map taken_counts (take (symbol_chips r) us)))
    (sym (drop-drop (symbol_chips r * l) at rec))
    ∙ sym (leads_at r m (drop at rec) l b))

pub words_below : (r : Rate) (m : ℕ) (cs : List Taken) → AreWords r (decided_words r m cs)
unfolding decided_words
words_below r zero cs = below_nil (numbers r) (some r)
  where
    some : (r : Rate) → 0 < numbers r
    some One = omega arith
    some Two = omega arith
    some Five = omega arith
    some Eleven = omega arith
words_below r (suc m) cs = below_cons (decided_below r _) (words_below r m (drop (symbol_chips r) cs))

pub part_length : (r : Rate) (at n : ℕ) (rec : List Taken) → length (part_words r at n rec) ≡ octet_symbols r * n
part_length r at n rec = decided_words_length r (8 * n / symbol_bits r) (drop at rec) ∙ part_symbols r n

part_row : (r : Rate) (at n : ℕ) (rec : List Taken)
    → decided_words r (octet_symbols r * n) (drop at rec) ≡ part_words r at n rec
part_row r at n rec = rw (part_symbols r n)

-- the numbers decided for n octets, with the symbols as the code counts them
module _
    (r : Rate) (s n : ℕ) (e : s ≡ octet_symbols r) (rec : List Taken) (at : ℕ) (ns : List ℕ)
    (d : DecidedAt r rec at (s * n) ns) (h : octet_symbols r * n ≤ 64) where
  pub block_words : take (octet_symbols r * n) ns ≡ part_words r at n rec
  block_words = decided_row r rec at (octet_symbols r * n) ns (rw e at d) h ∙ part_row r at n rec

  pub block_are_words : AreWords r (take (octet_symbols r * n) ns)
  block_are_words = rw block_words (words_below r (8 * n / symbol_bits r) (drop at rec))

-- and their leads
pub block_leads : (r : Rate) (s n : ℕ) → s ≡ octet_symbols r → (rec : List Taken) (at : ℕ) (ls : List ℕ)
    → LeadsAt r rec at (s * n) ls → octet_symbols r * n ≤ 64 → take (s * n) ls ≡ part_leads r at n rec
block_leads r s n e rec at ls d h =
    leads_row r rec at (s * n) ls d (rw e h)
    ∙ ap (λ (m : ℕ). decided_leads r m (drop at rec)) (ap (λ (k : ℕ). k * n) e ∙ sym (part_symbols r n))

sum : (r : Rate) (i j : ℕ) → octet_symbols r * (i + j) ≡ octet_symbols r * i + octet_symbols r * j
sum One i j = omega arith
sum Two i j = omega arith
sum Five i j = omega arith
sum Eleven i j = omega arith

pub part_more : (r : Rate) (at i j : ℕ) (rec : List Taken)
    → part_words r at (i + j) rec ≡ part_words r at i rec ++ part_words r (at + octet_chips r * i) j rec
part_more r at i j rec =
    rw (
      part_symbols r (i + j),
      part_symbols r i,
      part_symbols r j,
      sum r i j,
      decided_words_append r (octet_symbols r * i) (octet_symbols r * j) (drop at rec),
      drop-drop,
      part_chips r i,
    )

pub part_leads_length : (r : Rate) (at n : ℕ) (rec : List Taken) → length (part_leads r at n rec) ≡ octet_symbols r * n
part_leads_length r at n rec = leads_length r (8 * n / symbol_bits r) (drop at rec) ∙ part_symbols r n

pub part_leads_lem : (r : Rate) (at i j : ℕ) (rec : List Taken)
    → part_leads r at (i + j) rec ≡ part_leads r at i rec ++ part_leads r (at + octet_chips r * i) j rec
part_leads_lem r at i j rec =
    rw (
      part_symbols r (i + j),
      part_symbols r i,
      part_symbols r j,
      sum r i j,
      leads_append r (octet_symbols r * i) (octet_symbols r * j) (drop at rec),
      drop-drop,
      part_chips r i,
    )

-- the smallest lead of two parts, with the first one's symbols as the code counts them
part_least : (r : Rate) (at i j s k : ℕ) (b : Least) (rec : List Taken) → s ≡ octet_symbols r
    → least_from k b (part_leads r at (i + j) rec)
    ≡ least_from (k + s * i) (least_from k b (part_leads r at i rec)) (part_leads r (at + octet_chips r * i) j rec)
part_least r at i j s k b rec e =
    let first = part_leads r at i rec in
    let then = part_leads r (at + octet_chips r * i) j rec in
    ap (least_from k b) (part_leads_lem r at i j rec)
    ∙ least_joined k b first then
    ∙ ap (λ (n : ℕ). least_from (k + n) (least_from k b first) then)
    (part_leads_length r at i rec ∙ ap (λ (n : ℕ). n * i) (sym e))

pub plain_length : (r : Rate) (f : ℕ) (l : Line) (ws : List ℕ) → length (plain_bits r f l ws) ≡ symbol_bits r * length ws
plain_length r f l ws = descramble_length (past_of l.past) (received r f l ws) ∙ heard_length r f l.phase ws

-- ---- two parts

module _ (r : Rate) (n at : ℕ) (l : Line) (a b : List ℕ) (h : Hearing) (x : Heard r n at l a h)
  where
    -- the bits of words behind others
    same : received r (n + length a) h.line b ≡ heard r (n + length a) (last_heard r l.phase a) b
    same = ap (λ (p : ℕ). heard r (n + length a) p b) x.phase

    pub blocks_more : (g k : Hearing) → Heard r (n + length a) (at + symbol_chips r * length a) h.line b g
        → k.line ≡ g.line
        → k.odd ≡ or_else h.odd (λ place. Some place) g.odd
        → Heard r n at l (a ++ b) k
    blocks_more g k y e f = record {
      past =
          ap (λ (m : Line). past_of m.past) e
          ∙ y.past
          ∙ ap₂ {C = List ℕ} (λ p bs. take 8 (past_after p bs)) x.past same
          ∙ past_take 8 _ _
          ∙ ap (take 8) (sym (past_append (past_of l.past) (received r n l a) _))
          ∙ ap (λ (bs : List ℕ). take 8 (past_after (past_of l.past) bs)) (sym (heard_append r n l.phase a b));
      phase = ap (λ (m : Line). m.phase) e ∙ y.phase ∙ ap (λ (p : ℕ). last_heard r p b) x.phase
          ∙ sym (last_heard_append r l.phase a b);
      small = rw e y.small;
      place = f ∙ ap₂ {C = Option ℕ} (λ o p. or_else o (λ place. Some place) p) x.place
          (y.place ∙ ap (λ (p : ℕ). odd_growth r (at + symbol_chips r * length a) (growths_of r p b)) x.phase
          ∙ ap (λ (m : ℕ). odd_growth r (at + symbol_chips r * m) (growths_of r (last_heard r l.phase a) b))
          (sym (growths_of_length r l.phase a)))
          ∙ sym (odd_growth_append r at (growths_of r l.phase a) _)
          ∙ ap (odd_growth r at) (sym (growths_of_append r l.phase a b));
    }

    pub blocks_bits : plain_bits r n l (a ++ b) ≡ plain_bits r n l a ++ plain_bits r (n + length a) h.line b
    blocks_bits =
        let p = past_of l.past in
        ap (descramble p) (heard_append r n l.phase a b)
        ∙ descramble_append p (received r n l a) _
        ∙ ap (λ (cs : List ℕ). plain_bits r n l a ++ cs)
        (ap (descramble (past_after p (received r n l a))) (sym same)
        ∙ sym (descramble_take 8 (past_after p (received r n l a)) (received r (n + length a) h.line b) (omega arith))
        ∙ ap (λ (q : List ℕ). descramble q (received r (n + length a) h.line b)) (sym x.past))

    pub blocks_octets : (i j : ℕ) → length a ≡ octet_symbols r * i
        → plain_octets r n (i + j) l (a ++ b)
        ≡ plain_octets r n i l a ++ plain_octets r (n + length a) j h.line b
    blocks_octets i j size =
        ap (octets_of (i + j)) blocks_bits
        ∙ octets_append i j (plain_bits r n l a) (plain_bits r (n + length a) h.line b)
        (plain_length r n l a ∙ ap (λ (m : ℕ). symbol_bits r * m) size ∙ part_bits r i)

-- ---- the loop over blocks

pub record Parts (r : Rate) (at : ℕ) (rec : List Taken) (l : Line) (f : ℕ) (b : Least) (d : List ℕ) (p : Part)
    (place k : ℕ) (out : List ℕ) : Type 0 where
  pub fits : k ≤ length d
  pub at_place : place ≡ at + octet_chips r * k
  pub line : Heard r f at l (part_words r at k rec) p.heard
  pub stored : out ≡ over (plain_octets r f k l (part_words r at k rec)) d
  pub least : p.least ≡ least_from f b (part_leads r at k rec)

heard_none : (r : Rate) (f at : ℕ) (l : Line) → l.phase < 4 → Heard r f at l [] (record { line = l; odd = None })
unfolding bits_of heard last_heard growths_of first_odd past_after
heard_none r f at l h = record { past = refl; phase = refl; small = h; place = by r }
  where
    by : (r : Rate) → None ≡ odd_growth r at []
    by One = refl
    by Two = refl
    by Five = refl
    by Eleven = refl

pub parts_none : (r : Rate) (at : ℕ) (rec : List Taken) (l : Line) (f : ℕ) (b : Least) (d : List ℕ) → l.phase < 4
    → Parts r at rec l f b d (record { heard = record { line = l; odd = None }; least = b }) at 0 d
parts_none r at rec l f b d h = record {
  fits = omega arith;
  at_place = rw (mul-zero, add-zero);
  line = rw (part_symbols r 0, mul-zero) (unfold decided_words in heard_none r f at l h);
  stored = unfold over octets_of in refl;
  least = rw (part_symbols r 0, mul-zero) (unfold decided_leads least_from in refl);
}

pub parts_long : {r : Rate} {at : ℕ} {rec : List Taken} {l : Line} {f : ℕ} {b : Least} {d : List ℕ} {p : Part}
    {place k : ℕ} {out : List ℕ} → Parts r at rec l f b d p place k out → length out ≡ length d
parts_long {r} {at} {rec} {l} {d = d} {k = k} s =
    ap length s.stored ∙ length_over _ d (rw octets_length s.fits)

pub chips_sum : (r : Rate) (k n : ℕ) → octet_chips r * (k + n) ≡ octet_chips r * k + octet_chips r * n
chips_sum One k n = omega arith
chips_sum Two k n = omega arith
chips_sum Five k n = omega arith
chips_sum Eleven k n = omega arith

pub few_symbols : (r : Rate) (n : ℕ) → octet_symbols r * n ≤ octet_chips r * n
few_symbols One n = omega arith
few_symbols Two n = omega arith
few_symbols Five n = omega arith
few_symbols Eleven n = omega arith

module _
    (r : Rate) (at : ℕ) (rec : List Taken) (l : Line) (f : ℕ) (a : Least) (d : List ℕ) (p : Part) (place k n : ℕ)
    (out : List ℕ) (s : Parts r at rec l f a d p place k out) (b : k < length d) (w : BlockOf r (length out - k) n)
  where
    -- a block that fits what is left has its chips
    pub block_room : (m : ℕ) → at + octet_chips r * length d ≤ m → place + octet_chips r * n ≤ m
    block_room m e = rw s.at_place (by r (omega (arith, w.within, parts_long s)) e)
      where
        by : (r : Rate) → k + n ≤ length d → at + octet_chips r * length d ≤ m
            → at + octet_chips r * k + octet_chips r * n ≤ m
        by One p q = omega arith
        by Two p q = omega arith
        by Five p q = omega arith
        by Eleven p q = omega arith

    pub block_usable : AllUsable rec at (octet_chips r * length d) → AllUsable rec place (octet_chips r * n)
    block_usable u = rw s.at_place
        (usable_part (octet_chips r * k) (octet_chips r * n) u (by r (omega (arith, w.within, parts_long s))))
      where
        by : (r : Rate) → k + n ≤ length d → octet_chips r * k + octet_chips r * n ≤ octet_chips r * length d
        by One p = omega arith
        by Two p = omega arith
        by Five p = omega arith
        by Eleven p = omega arith

    -- and the numbers of its symbols do not wrap
    pub block_symbol : (symbols m : ℕ) → symbols ≡ octet_symbols r → f + octet_symbols r * length d < m
        → f + symbols * k + octet_symbols r * n < m
    block_symbol symbols m e h = rw e (by r (omega (arith, w.within, parts_long s)) h)
      where
        by : (r : Rate) → k + n ≤ length d → f + octet_symbols r * length d < m
            → f + octet_symbols r * k + octet_symbols r * n < m
        by One p q = omega arith
        by Two p q = omega arith
        by Five p q = omega arith
        by Eleven p q = omega arith

    pub parts_more : (g m : Part) (y : List ℕ) (chips symbols : ℕ)
        → Heard r (f + symbols * k) place p.heard.line (part_words r place n rec) g.heard
        → g.least ≡ least_from (f + symbols * k) p.least (part_leads r place n rec)
        → y
        ≡ over (plain_octets r (f + symbols * k) n p.heard.line (part_words r place n rec))
        (take (length out - k) (drop k out))
        → (m.heard.line ≡ g.heard.line) × ((m.heard.odd
        ≡ or_else p.heard.odd (λ place. Some place) g.heard.odd)
        × (m.least ≡ g.least))
        → chips ≡ octet_chips r → symbols ≡ octet_symbols r
        → Parts r at rec l f a d m (place + chips * n) (k + n) (put_mid k (length out - k) out y)
    parts_more g m y chips symbols x o z j e i =
        let h = p.heard in
        let ws = part_words r at k rec in
        let vs = part_words r place n rec in
        let there : place ≡ at + symbol_chips r * length ws =
        s.at_place
        ∙ ap (λ (i : ℕ). at + i) (sym (ap (λ (i : ℕ). symbol_chips r * i) (part_length r at k rec) ∙ part_chips r k)) in
        let number : f + symbols * k ≡ f + length ws =
        ap (λ (c : ℕ). f + c) (ap (λ (c : ℕ). c * k) i ∙ sym (part_length r at k rec)) in
        let words : part_words r at (k + n) rec ≡ ws ++ vs =
        part_more r at k n rec ∙ ap (λ (p : ℕ). ws ++ part_words r p n rec) (sym s.at_place) in
        record {
          fits = omega (arith, w.within, parts_long s);
          at_place = ap₂ {C = ℕ} (λ p c. p + c * n) s.at_place e ∙ omega (arith, chips_sum r k n);
          line =
              rw words
              (blocks_more r f at l ws vs h s.line g.heard m.heard
              (subst (λ (q : ℕ). Heard r (f + length ws) q h.line vs g.heard) there
              (subst (λ (q : ℕ). Heard r q place h.line vs g.heard) number x))
              j.0 j.1.0);
          stored =
              over_next (plain_octets r f k l ws) (plain_octets r (f + symbols * k) n h.line vs) d out y k s.stored
              (octets_length k (plain_bits r f l ws)) z
              ∙ ap (λ (u : List ℕ). over u d)
              (sym (ap (plain_octets r f (k + n) l) words
              ∙ blocks_octets r f at l ws vs h s.line k n (part_length r at k rec)
              ∙ ap (λ (q : ℕ). plain_octets r f k l ws ++ plain_octets r q n h.line vs) (sym number)));
          least =
              j.1.1 ∙ o
              ∙ ap₂ {C = Least} (λ q c. least_from (f + symbols * k) c (part_leads r q n rec)) s.at_place s.least
              ∙ sym (part_least r at k n symbols f a rec i);
        }

pub over_all : (w d : List ℕ) → length d ≤ length w → over w d ≡ w
unfolding over
over_all w d h = ap (λ (u : List ℕ). w ++ u) (drop_of_length-le d {i = length w} h) ∙ append-nil w

pub parts_all : {r : Rate} {at : ℕ} {rec : List Taken} {l : Line} {f : ℕ} {a : Least} {d : List ℕ} {p : Part}
    {place k : ℕ} {out : List ℕ} → Parts r at rec l f a d p place k out → length d ≤ k
    → PartHeard r at (length d) rec l f a p out
parts_all {r} {at} {rec} {l} {f} {a} {d} {p} {place} {k} {out} s b =
    let is : k ≡ length d = le_antisymm s.fits b in
    record {
      line = subst (λ (n : ℕ). Heard r f at l (part_words r at n rec) p.heard) is s.line;
      octets =
          s.stored
          ∙ over_all (plain_octets r f k l (part_words r at k rec)) d (rw octets_length b)
          ∙ ap (λ (n : ℕ). plain_octets r f n l (part_words r at n rec)) is;
      least = s.least ∙ ap (λ (n : ℕ). least_from f a (part_leads r at n rec)) is;
    }
