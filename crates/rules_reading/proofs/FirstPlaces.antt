-- The first place of 9 and of 10 in a whole recording: none before it, and it is one.
--     front_unusable_first, payload_unusable_first    an unusable chip
--     front_all_usable, payload_all_usable            and none where none was found
--     front_even_ones, payload_even_ones              no odd growth where none was found
--     front_odd_first, payload_odd_first              the first chip of a 1 Mbit/s symbol grown by 1 or 3
--     front_odd_at                                    in a front one of its symbols at 1 Mbit/s
-- By the laws of the two searches, and by the words that the symbols have from their own chips. Assumes nothing.
use mathlib.Core.Path.{◌≡◌, refl, sym, ap, ap₂, ◌∙◌, subst}
use mathlib.Core.Bool.{not, true}
use mathlib.Core.List.{List, map}
use Rattle.std.specs.Prelude.{Option, None, Some}
use Prim.Native.Nat.{ℕ, zero, suc, ◌+◌, ◌-◌, ◌*◌, ◌/◌, ◌%◌, ◌≤◌, ◌<◌}
use native.Mathlib.Decide.{dec_lt}
use native.Mathlib.Omega.{arith}
use lib.Dec.{T}
use lib.ListN.{length, get_or, take, drop, length-drop}
use lib.Seq.{length-take-le, get_or-take, get_or-drop, drop-drop}
use Rattle.rules_rates.specs.declared.Rate.{Rate}
use Rattle.rules_rates.specs.declared.Rate.TheVariants.{One, Two, Five, Eleven}
use Rattle.rules_rates.specs.Rates.{symbol_bits}
use Rattle.rules_chips.specs.Chips.{Taken, unusable, is_unusable, taken_counts}
use Rattle.rules_symbols.specs.Choice.{decided}
use Rattle.rules_bits.specs.Growths.{grown_by, growths_of}
use Rattle.rules_bits.proofs.Heard.{growths_of_length}
use Rattle.rules_bits.proofs.Each.{before, growth_of, last_heard_lem}
use Rattle.rules_frame.specs.declared.Kind.{Kind}
use Rattle.rules_frame.specs.declared.Kind.TheVariants.{Long, Short}
use Rattle.rules_frame.specs.Frame.{
  header_rate,
  goes_with,
  front_chips,
  frame_chips,
  preamble_length,
  header_length,
  preamble_chips,
}
use Rattle.rules_calls.specs.declared.Told.{Told}
use Rattle.rules_reading.specs.Places.{UsableAt, UnusableFirst, word_from, odd_behind, FirstOddSymbol}
use Rattle.rules_reading.specs.Reading.{
  or_else,
  first_unusable,
  first_odd,
  odd_growth,
  decided_words,
  preamble_words,
  header_words,
  reference,
  header_phase,
  payload_phase,
  front_odd,
  payload_words,
  payload_odd,
}
use Rattle.rules_reading.proofs.Payloads.{found_unusable}
use Rattle.rules_reading.proofs.Places.{decided_words_length, front_odd_place}
use Rattle.rules_reading.proofs.First.{no_place, unusable_first, unusable_none, FirstOdd, odd_first, odd_none}
use Rattle.rules_reading.proofs.Sfd.{words_at}

-- ---- 9
-- a part of m chips from place `at` on, all before it usable
module _ (at m : ℕ) (rec : List Taken) (long : at + m ≤ length rec) (free : (q : ℕ) → q < at → UsableAt rec q) where
  abbrev part : List Taken
  part = take m (drop at rec)

  part_length : length part ≡ m
  part_length = length-take-le m (drop at rec) (omega (arith, length-drop at rec))

  part_at : (i : ℕ) → i < m → get_or part i unusable ≡ get_or rec (at + i) unusable
  part_at i l = get_or-take m (drop at rec) i unusable l ∙ get_or-drop at rec i unusable

  pub part_unusable : (p : ℕ) → first_unusable at part ≡ Some p → UnusableFirst rec p
  part_unusable p e =
      let f = unusable_first at part p e in
      let i : f.index < m = omega (arith, f.inside, part_length) in
      let here : at + f.index ≡ p = omega (arith, f.place_is) in
      record {
        there = omega (arith, here, i);
        is_one =
            subst (λ (q : ℕ). T (is_unusable (get_or rec q unusable))) here
            (subst (λ (c : Taken). T (is_unusable c)) (part_at f.index i) f.is_one);
        before = λ q l. by q (dec_lt q at) (omega (arith, l, here));
      }
    where
      by : (q : ℕ) → Dec (q < at) → q < at + (unusable_first at part p e).index → UsableAt rec q
      by q (yes h) l = free q h
      by q (no h) l =
          let f = unusable_first at part p e in
          let back : at + (q - at) ≡ q = omega (arith, h) in
          subst (UsableAt rec) back
          (subst (λ (c : Taken). T (not (is_unusable c)))
          (part_at (q - at) (omega (arith, h, l, f.inside, part_length)))
          (f.before (q - at) (omega (arith, h, l))))

  pub part_usable : first_unusable at part ≡ None → (q : ℕ) → q < at + m → UsableAt rec q
  part_usable e q l = by (dec_lt q at)
    where
      by : Dec (q < at) → UsableAt rec q
      by (yes h) = free q h
      by (no h) =
          let back : at + (q - at) ≡ q = omega (arith, h) in
          subst (UsableAt rec) back
          (subst (λ (c : Taken). T (not (is_unusable c))) (part_at (q - at) (omega (arith, h, l)))
          (unusable_none at part e (q - at) (omega (arith, h, l, part_length))))

nothing_before : (rec : List Taken) (q : ℕ) → q < 0 → UsableAt rec q
nothing_before rec q l = absurd (omega arith)

module _ (k : Kind) (rec : List Taken) where
  pub front_unusable_first : (p : ℕ) → front_chips k ≤ length rec → first_unusable 0 (take (front_chips k) rec) ≡ Some p
      → UnusableFirst rec p
  front_unusable_first p l e = part_unusable 0 (front_chips k) rec (omega (arith, l)) (nothing_before rec) p e

  pub front_all_usable : front_chips k ≤ length rec → first_unusable 0 (take (front_chips k) rec) ≡ None
      → (q : ℕ) → q < front_chips k → UsableAt rec q
  front_all_usable l e q h =
      part_usable 0 (front_chips k) rec (omega (arith, l)) (nothing_before rec) e q (omega (arith, h))

  module _ (t : Told) (there : frame_chips k t.rate t.n ≤ length rec)
      (free : (q : ℕ) → q < front_chips k → UsableAt rec q) where
    abbrev size : ℕ
    size = frame_chips k t.rate t.n - front_chips k

    pub payload_unusable_first : (p : ℕ) → found_unusable k t rec ≡ Some p → UnusableFirst rec p
    payload_unusable_first p e = part_unusable (front_chips k) size rec (omega (arith, there)) free p e

    pub payload_all_usable : found_unusable k t rec ≡ None → (q : ℕ) → q < frame_chips k t.rate t.n → UsableAt rec q
    payload_all_usable e q h = part_usable (front_chips k) size rec (omega (arith, there)) free e q (omega (arith, h))

-- ---- 10
some_none : {p : ℕ} → None ≡ Some p → ⊥
some_none e = no_place refl e

module _ (rec : List Taken) where
  -- symbols suc b, .., b + m, grown from the phase of symbol b
  module _ (b m p : ℕ) (p-is : p ≡ word_from One (11 * b) rec)
      (even : (s : ℕ) → s < b → odd_behind rec s ≡ 0) where
    abbrev ws : List ℕ
    ws = decided_words One m (drop (11 * suc b) rec)

    abbrev gs : List ℕ
    gs = growths_of One p ws

    gs_length : length gs ≡ m
    gs_length = growths_of_length One p ws ∙ decided_words_length One m (drop (11 * suc b) rec)

    word_is : (j : ℕ) → j < m → get_or ws j 0 ≡ word_from One (11 * (suc b + j)) rec
    word_is j l =
        let e : 11 * suc b + 11 * j ≡ 11 * (suc b + j) = omega arith in
        words_at One m j (drop (11 * suc b) rec) l
        ∙ ap (λ (x : List Taken). decided One (map taken_counts (take 11 x)))
        (drop-drop (11 * j) (11 * suc b) rec ∙ ap (λ (i : ℕ). drop i rec) e)

    before_is : (j : ℕ) → j < m → before One p ws j ≡ word_from One (11 * (b + j)) rec
    before_is zero l = let e : b + 0 ≡ b = omega arith in rw e p-is
    before_is (suc j) l = let e : b + suc j ≡ suc b + j = omega arith in rw e (word_is j (omega arith))

    grown_is : (j : ℕ) → j < m → get_or gs j 0 % 2 ≡ odd_behind rec (b + j)
    grown_is j l =
        let e : suc b + j ≡ suc (b + j) = omega arith in
        ap (λ (g : ℕ). g % 2)
        (growth_of One p ws j (omega (arith, l, decided_words_length One m (drop (11 * suc b) rec)))
        ∙ ap₂ {C = ℕ} (λ x y. grown_by x y) (before_is j l)
        (word_is j l ∙ ap (λ (s : ℕ). word_from One (11 * s) rec) e))

    part_odd : (q : ℕ) → first_odd (11 * suc b) gs ≡ Some q → FirstOddSymbol rec q
    part_odd q e =
        let f = odd_first (11 * suc b) gs q e in
        let i : f.index < m = omega (arith, f.inside, gs_length) in
        record {
          symbol = b + f.index;
          place_is = omega (arith, f.place_is);
          is_odd = sym (grown_is f.index i) ∙ f.odd;
          before = λ s l. by s (dec_lt s b) l;
        }
      where
        by : (s : ℕ) → Dec (s < b) → s < b + (odd_first (11 * suc b) gs q e).index → odd_behind rec s ≡ 0
        by s (yes h) l = even s h
        by s (no h) l =
            let f = odd_first (11 * suc b) gs q e in
            let back : b + (s - b) ≡ s = omega (arith, h) in
            subst (λ (t : ℕ). odd_behind rec t ≡ 0) back
            (sym (grown_is (s - b) (omega (arith, h, l, f.inside, gs_length)))
            ∙ f.before (s - b) (omega (arith, h, l)))

    part_even : first_odd (11 * suc b) gs ≡ None → (s : ℕ) → s < b + m → odd_behind rec s ≡ 0
    part_even e s l = by (dec_lt s b)
      where
        by : Dec (s < b) → odd_behind rec s ≡ 0
        by (yes h) = even s h
        by (no h) =
            let back : b + (s - b) ≡ s = omega (arith, h) in
            subst (λ (t : ℕ). odd_behind rec t ≡ 0) back
            (sym (grown_is (s - b) (omega (arith, h, l)))
            ∙ odd_none (11 * suc b) gs e (s - b) (omega (arith, h, l, gs_length)))

  -- the preamble's m symbols: the first counts as grown from itself
  module _ (m : ℕ) (some-symbols : 0 < m) where
    abbrev firsts : List ℕ
    firsts = decided_words One m rec

    abbrev grown : List ℕ
    grown = growths_of One (get_or firsts 0 0) firsts

    grown_length : length grown ≡ m
    grown_length = growths_of_length One (get_or firsts 0 0) firsts ∙ decided_words_length One m rec

    first_is : (j : ℕ) → j < m → get_or firsts j 0 ≡ word_from One (11 * j) rec
    first_is j l = words_at One m j rec l

    itself : (x : ℕ) → grown_by x x % 2 ≡ 0
    itself x = omega arith

    grown_0 : get_or grown 0 0 % 2 ≡ 0
    grown_0 =
        ap (λ (g : ℕ). g % 2)
        (growth_of One (get_or firsts 0 0) firsts 0 (omega (arith, some-symbols, decided_words_length One m rec)))
        ∙ itself (get_or firsts 0 0)

    grown_next : (j : ℕ) → suc j < m → get_or grown (suc j) 0 % 2 ≡ odd_behind rec j
    grown_next j l =
        ap (λ (g : ℕ). g % 2)
        (growth_of One (get_or firsts 0 0) firsts (suc j) (omega (arith, l, decided_words_length One m rec))
        ∙ ap₂ {C = ℕ} (λ x y. grown_by x y) (first_is j (omega arith)) (first_is (suc j) l))

    preamble_odd : (q : ℕ) → first_odd 0 grown ≡ Some q → FirstOddSymbol rec q
    preamble_odd q e = by f.index refl
      where
        f : FirstOdd 0 grown q
        f = odd_first 0 grown q e

        by : (i : ℕ) → f.index ≡ i → FirstOddSymbol rec q
        by zero d = absurd (omega (arith, sym grown_0 ∙ ap (λ (i : ℕ). get_or grown i 0 % 2) (sym d) ∙ f.odd))
        by (suc j) d =
            let l : suc j < m = omega (arith, d, f.inside, grown_length) in
            record {
              symbol = j;
              place_is = omega (arith, d, f.place_is);
              is_odd = sym (grown_next j l) ∙ ap (λ (i : ℕ). get_or grown i 0 % 2) (sym d) ∙ f.odd;
              before = λ s h. sym (grown_next s (omega (arith, h, l))) ∙ f.before (suc s) (omega (arith, h, d));
            }

    preamble_at : (q : ℕ) → first_odd 0 grown ≡ Some q → q < 11 * m
    preamble_at q e = let f = odd_first 0 grown q e in omega (arith, f.place_is, f.inside, grown_length)

    preamble_even : first_odd 0 grown ≡ None → (s : ℕ) → suc s < m → odd_behind rec s ≡ 0
    preamble_even e s l = sym (grown_next s l) ∙ odd_none 0 grown e (suc s) (omega (arith, l, grown_length))

-- how many symbols of a front, from its first on, are at 1 Mbit/s
abbrev pub ones_of : Kind → ℕ
ones_of Long = 192
ones_of Short = 72

abbrev pub IsOne : Rate → Type 0
IsOne One = Unit {0}
IsOne Two = ⊥
IsOne Five = ⊥
IsOne Eleven = ⊥

-- one search after another
or_some : {P : Type 0} (o rest : Option ℕ) (p : ℕ) → or_else o (λ q. Some q) rest ≡ Some p → (o ≡ Some p → P)
    → (o ≡ None → rest ≡ Some p → P) → P
or_some None rest p e f g = g refl e
or_some (Some q) rest p e f g = f e

or_neither : (o rest : Option ℕ) → or_else o (λ q. Some q) rest ≡ None → (o ≡ None) × (rest ≡ None)
or_neither None rest e = (refl, e)
or_neither (Some q) rest e = absurd (no_place e refl)

module _ (rec : List Taken) where
  long_header_phase : header_phase Long rec ≡ word_from One (11 * 143) rec
  unfolding header_phase preamble_words
  long_header_phase =
      let ws = decided_words One 144 rec in
      last_heard_lem One (reference Long rec) ws
      ∙ ap (before One (reference Long rec) ws) (decided_words_length One 144 rec)
      ∙ words_at One 144 143 rec (omega arith)

  long_payload_phase : payload_phase Long rec ≡ word_from One (11 * 191) rec
  unfolding payload_phase header_words
  long_payload_phase =
      let ws = decided_words One 48 (drop 1584 rec) in
      last_heard_lem One (header_phase Long rec) ws
      ∙ ap (before One (header_phase Long rec) ws) (decided_words_length One 48 (drop 1584 rec))
      ∙ words_at One 48 47 (drop 1584 rec) (omega arith)
      ∙ ap (λ (x : List Taken). decided One (map taken_counts (take 11 x))) (drop-drop 517 1584 rec)

  -- the two parts of a front that are searched
  abbrev in_preamble : Kind → Option ℕ
  in_preamble k = first_odd 0 (growths_of One (get_or (decided_words One (preamble_length k) rec) 0 0)
      (decided_words One (preamble_length k) rec))

  abbrev in_header : Kind → Option ℕ
  in_header k =
      odd_growth (header_rate k) (preamble_chips k) (growths_of (header_rate k) (header_phase k rec)
      (decided_words (header_rate k) (header_length / symbol_bits (header_rate k)) (drop (preamble_chips k) rec)))

  front_search : (k : Kind) → front_odd k rec ≡ or_else (in_preamble k) (λ q. Some q) (in_header k)
  unfolding front_odd reference preamble_words header_words
  front_search k = refl

  pub front_odd_first : (k : Kind) (p : ℕ) → front_odd k rec ≡ Some p → FirstOddSymbol rec p
  front_odd_first Long p e =
      or_some (in_preamble Long) (in_header Long) p (sym (front_search Long) ∙ e) (preamble_odd rec 144 (omega arith) p)
      (λ a. part_odd rec 143 48 (header_phase Long rec) long_header_phase
      (λ s l. preamble_even rec 144 (omega arith) a s (omega arith)) p)
  front_odd_first Short p e =
      or_some (in_preamble Short) (in_header Short) p (sym (front_search Short) ∙ e)
      (preamble_odd rec 72 (omega arith) p) (λ a b. absurd (some_none b))

  pub front_odd_at : (k : Kind) (p : ℕ) → front_odd k rec ≡ Some p → p < 11 * ones_of k
  front_odd_at Long p e = front_odd_place Long rec p e
  front_odd_at Short p e =
      or_some (in_preamble Short) (in_header Short) p (sym (front_search Short) ∙ e)
      (preamble_at rec 72 (omega arith) p) (λ a b. absurd (some_none b))

  -- all of a long front's symbols are at 1 Mbit/s
  long_front_even : front_odd Long rec ≡ None → (s : ℕ) → s < 191 → odd_behind rec s ≡ 0
  long_front_even e =
      let o = or_neither (in_preamble Long) (in_header Long) (sym (front_search Long) ∙ e) in
      part_even rec 143 48 (header_phase Long rec) long_header_phase
      (λ s l. preamble_even rec 144 (omega arith) o.0 s (omega arith)) o.1

  -- and a short one's up to the header
  pub front_even_ones : (k : Kind) → front_odd k rec ≡ None → (s : ℕ) → suc s < ones_of k → odd_behind rec s ≡ 0
  front_even_ones Long e s l = long_front_even e s (omega arith)
  front_even_ones Short e s l =
      preamble_even rec 72 (omega arith)
      (or_neither (in_preamble Short) (in_header Short) (sym (front_search Short) ∙ e)).0 s l

  pub payload_odd_first : (k : Kind) (r : Rate) (n p : ℕ) → goes_with k r ≡ true → front_odd k rec ≡ None
      → payload_odd k r n rec ≡ Some p → FirstOddSymbol rec p
  unfolding payload_odd payload_words
  payload_odd_first Long One n p g e f =
      part_odd rec 191 (8 * n / 1) (payload_phase Long rec) long_payload_phase (long_front_even e) p f
  payload_odd_first Short One n p g e f = absurd (subst T (sym g) tt)
  payload_odd_first k Two n p g e f = absurd (some_none f)
  payload_odd_first k Five n p g e f = absurd (some_none f)
  payload_odd_first k Eleven n p g e f = absurd (some_none f)

  pub payload_even_ones : (k : Kind) (r : Rate) (n : ℕ) → goes_with k r ≡ true → r ≡ One → front_odd k rec ≡ None
      → payload_odd k r n rec ≡ None → (s : ℕ) → s < 191 + 8 * n → odd_behind rec s ≡ 0
  unfolding payload_odd payload_words
  payload_even_ones Long One n g o e f s l =
      part_even rec 191 (8 * n / 1) (payload_phase Long rec) long_payload_phase (long_front_even e) f s (omega arith)
  payload_even_ones Short One n g o e f s l = absurd (subst T (sym g) tt)
  payload_even_ones k Two n g o e f s l = absurd (subst IsOne (sym o) tt)
  payload_even_ones k Five n g o e f s l = absurd (subst IsOne (sym o) tt)
  payload_even_ones k Eleven n g o e f s l = absurd (subst IsOne (sym o) tt)
