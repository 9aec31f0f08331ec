-- The lead of a clean symbol: 11 full chips for Barker, 8 at 5.5 Mbit/s, 4 at 11 Mbit/s. How two CCK words stand to
-- each other hangs on their difference alone, so 256 differences are looked at, not 65,536 pairs.
-- Assumes nothing.
use mathlib.Core.Path.{◌≡◌, sym, ap, ◌∙◌, subst}
use mathlib.Core.Bool.{Bool, true, false, not, ◌&&◌}
use mathlib.Core.List.{List}
use Prim.Native.Nat.{ℕ, ◌+◌, ◌*◌, ◌-◌, ◌/◌, ◌%◌, ◌≤◌, ◌<◌}
use native.Mathlib.Nat.{mul-le-mul_left, mul-add}
use native.Mathlib.Omega.{arith}
use lib.Dec.{T, eqb, leb, ltb, eqb→eq, leb→le, ltb→lt}
use borrow.Author.Tests.{ne_eqb, eq-eqb}
use lib.IntN.{pos}
use lib.Signed.{◌≤ℤ◌}
use Rattle.base.proofs.Whole.{up_pos, dn_pos, same, le_of}
use Rattle.base.proofs.Tests.{implies, implied, both_left, both_right, all_at}
use Rattle.rules_rates.specs.declared.Rate.{Rate}
use Rattle.rules_rates.specs.declared.Rate.TheVariants.{One, Two, Five, Eleven}
use Rattle.rules_rates.specs.Rates.{symbol_chips}
use Rattle.rules_chips.specs.declared.Counts.{Counts}
use Rattle.rules_symbols.specs.Words.{barker_word, cck_word, cck_number, cck_of, p1_of, p2_of, p3_of, p4_of, word_of}
use Rattle.rules_symbols.specs.Choice.{numbers, is_allowed, decided, lead_of}
use Rattle.rules_symbols.proofs.Words.{word_phases, word_length, turn}
use Rattle.rules_symbols.proofs.Numbers.{p2_back, p3_back, p4_back}
use Rattle.rules_choosing.specs.Scores.{score_at, DecidedAs, NextAs}
use Rattle.rules_symbols.proofs.Agreement.{agreeing, opposed, clean, clean_lead}
use Rattle.rules_choosing.proofs.Decided.{decided_best}
use Rattle.rules_choosing.proofs.Clean.{Full, score_full, score_self, decided_clean}
use Rattle.rules_choosing.proofs.Leads.{lead_by}
use Rattle.rules_choosing.proofs.Differences.{
  is,
  between,
  how_many,
  apart_of,
  d1,
  d2,
  d3,
  d4,
  difference,
  difference_below,
  difference_none,
  cck_agreeing,
  cck_opposed,
}

-- ---- how near another word can come
-- at 11 Mbit/s 4 chips more agree than are opposed, at most
differ_eleven : (d : ℕ) → d < 256 → (d ≡ 0 → ⊥) → how_many 0 (apart_of d) ≤ 4 + how_many 2 (apart_of d)
unfolding how_many
differ_eleven d h ne =
    leb→le (how_many 0 (apart_of d)) (4 + how_many 2 (apart_of d))
    (implied (not (eqb d 0)) (leb (how_many 0 (apart_of d)) (4 + how_many 2 (apart_of d)))
    (all_at (λ d. implies (not (eqb d 0)) (leb (how_many 0 (apart_of d)) (4 + how_many 2 (apart_of d)))) 256 tt d h)
    (subst (λ (b : Bool). T (not b)) (sym (ne_eqb d 0 ne)) tt))

-- at 5.5 Mbit/s none more, where p3 is the same and p2 and p4 differ by half turns
abbrev five_apart : ℕ → Bool
five_apart d = not (eqb d 0) && eqb (p3_of d) 0 && eqb (p2_of d % 2) 0 && eqb (p4_of d % 2) 0

differ_five : (d : ℕ) → d < 256 → T (five_apart d) → how_many 0 (apart_of d) ≤ how_many 2 (apart_of d)
unfolding how_many
differ_five d h t =
    leb→le (how_many 0 (apart_of d)) (how_many 2 (apart_of d))
    (implied (five_apart d) (leb (how_many 0 (apart_of d)) (how_many 2 (apart_of d)))
    (all_at (λ d. implies (five_apart d) (leb (how_many 0 (apart_of d)) (how_many 2 (apart_of d)))) 256 tt d h) t)

-- so many chips more agree with another word than are opposed to it, at most
abbrev near : Rate → ℕ
near r = symbol_chips r - clean_lead r

abbrev Near : Rate → ℕ → ℕ → Type 0
Near r n w = agreeing (word_of r n) (word_of r w) ≤ near r + opposed (word_of r n) (word_of r w)

abbrev barker_near : ℕ → ℕ → Bool
barker_near n w =
    implies (not (eqb n w)) (leb (agreeing (barker_word n) (barker_word w)) (opposed (barker_word n) (barker_word w)))

unequal : (n w : ℕ) → (n ≡ w → ⊥) → T (not (eqb n w))
unequal n w ne = subst (λ (b : Bool). T (not b)) (sym (ne_eqb n w ne)) tt

barker_near_lem : (n w : ℕ) → n < 4 → w < 4 → (n ≡ w → ⊥)
    → agreeing (barker_word n) (barker_word w) ≤ 0 + opposed (barker_word n) (barker_word w)
unfolding barker_word agreeing opposed
barker_near_lem n w hn hw ne =
    let en : (4 * n + w) / 4 ≡ n = omega arith in
    let ew : (4 * n + w) % 4 ≡ w = omega arith in
    let t : T (barker_near n w) = subst (λ (x : ℕ). T (barker_near x w)) en
    (subst (λ (y : ℕ). T (barker_near ((4 * n + w) / 4) y)) ew
    (all_at (λ j. barker_near (j / 4) (j % 4)) 16 tt (4 * n + w) (omega arith))) in
    let le = leb→le (agreeing (barker_word n) (barker_word w)) (opposed (barker_word n) (barker_word w))
    (implied (not (eqb n w)) _ t (unequal n w ne)) in
    omega (arith, le)

both : (a b : Bool) → T a → T b → T (a && b)
both true b t u = u
both false b t u = absurd t

five_near : (n w : ℕ) → n < 256 → w < 256 → T (is_allowed Five n) → T (is_allowed Five w) → (n ≡ w → ⊥)
    → agreeing (cck_of n) (cck_of w) ≤ 0 + opposed (cck_of n) (cck_of w)
five_near n w hn hw a b ne =
    rw (cck_agreeing n w, cck_opposed n w)
    (omega (arith, differ_five (difference n w) (difference_below n w) apart_five))
  where
    third : (m : ℕ) → T (is_allowed Five m) → p3_of m ≡ 0
    third m t = eqb→eq (p3_of m) 0 (both_left (eqb (p3_of m) 0) (eqb (p2_of m % 2) 1)
        (both_left (eqb (p3_of m) 0 && eqb (p2_of m % 2) 1) (eqb (p4_of m % 2) 0) t))

    second : (m : ℕ) → T (is_allowed Five m) → p2_of m % 2 ≡ 1
    second m t = eqb→eq (p2_of m % 2) 1 (both_right (eqb (p3_of m) 0) (eqb (p2_of m % 2) 1)
        (both_left (eqb (p3_of m) 0 && eqb (p2_of m % 2) 1) (eqb (p4_of m % 2) 0) t))

    fourth : (m : ℕ) → T (is_allowed Five m) → p4_of m % 2 ≡ 0
    fourth m t = eqb→eq (p4_of m % 2) 0
        (both_right (eqb (p3_of m) 0 && eqb (p2_of m % 2) 1) (eqb (p4_of m % 2) 0) t)

    none : (p q : ℕ) → p ≡ 0 → q ≡ 0 → between p q ≡ 0
    none p q e f = omega arith

    parity : (u : ℕ) → u % 4 % 2 ≡ u % 2
    parity u = omega arith

    double : (k : ℕ) → 2 * k % 2 ≡ 0
    double k = omega arith

    odds : (p q : ℕ) → p % 2 ≡ 1 → q % 2 ≡ 1 → between p q % 2 ≡ 0
    odds p q e f =
        let half : q + 3 * p ≡ 2 * (q / 2 + 3 * (p / 2) + 2) = omega arith in
        parity (q + 3 * p) ∙ ap (λ (u : ℕ). u % 2) half ∙ double (q / 2 + 3 * (p / 2) + 2)

    evens : (p q : ℕ) → p % 2 ≡ 0 → q % 2 ≡ 0 → between p q % 2 ≡ 0
    evens p q e f =
        let half : q + 3 * p ≡ 2 * (q / 2 + 3 * (p / 2)) = omega arith in
        parity (q + 3 * p) ∙ ap (λ (u : ℕ). u % 2) half ∙ double (q / 2 + 3 * (p / 2))

    d : ℕ
    d = difference n w

    e2 : p2_of d ≡ d2 n w
    e2 = p2_back (d1 n w) (d2 n w) (d3 n w) (d4 n w) (turn _) (turn _) (turn _) (turn _)

    e3 : p3_of d ≡ d3 n w
    e3 = p3_back (d1 n w) (d2 n w) (d3 n w) (d4 n w) (turn _) (turn _) (turn _) (turn _)

    e4 : p4_of d ≡ d4 n w
    e4 = p4_back (d1 n w) (d2 n w) (d3 n w) (d4 n w) (turn _) (turn _) (turn _) (turn _)

    apart_five : T (five_apart d)
    apart_five =
        both (not (eqb d 0) && eqb (p3_of d) 0 && eqb (p2_of d % 2) 0) (eqb (p4_of d % 2) 0)
        (both (not (eqb d 0) && eqb (p3_of d) 0) (eqb (p2_of d % 2) 0)
        (both (not (eqb d 0)) (eqb (p3_of d) 0)
        (unequal d 0 (λ z. ne (difference_none n w hn hw z)))
        (is (p3_of d) 0 (e3 ∙ none (p3_of n) (p3_of w) (third n a) (third w b))))
        (is (p2_of d % 2) 0 (ap (λ (x : ℕ). x % 2) e2 ∙ odds (p2_of n) (p2_of w) (second n a) (second w b))))
        (is (p4_of d % 2) 0 (ap (λ (x : ℕ). x % 2) e4 ∙ evens (p4_of n) (p4_of w) (fourth n a) (fourth w b)))

eleven_near : (n w : ℕ) → n < 256 → w < 256 → (n ≡ w → ⊥)
    → agreeing (cck_of n) (cck_of w) ≤ 4 + opposed (cck_of n) (cck_of w)
eleven_near n w hn hw ne =
    rw (cck_agreeing n w, cck_opposed n w)
    (differ_eleven (difference n w) (difference_below n w) (λ z. ne (difference_none n w hn hw z)))

others_near : (r : Rate) (n w : ℕ) → n < numbers r → w < numbers r → T (is_allowed r n) → T (is_allowed r w)
    → (n ≡ w → ⊥) → Near r n w
others_near One n w hn hw a b ne = barker_near_lem n w hn hw ne
others_near Two n w hn hw a b ne = barker_near_lem n w hn hw ne
others_near Five n w hn hw a b ne = five_near n w hn hw a b ne
others_near Eleven n w hn hw a b ne = eleven_near n w hn hw ne

-- ---- and one comes so near: a quarter turn on, or at 11 Mbit/s with p2 a quarter turn on
record Nearest (r : Rate) (w : ℕ) : Type 0 where
  m : ℕ
  among : m < numbers r
  allowed : T (is_allowed r m)
  other : m ≡ w → ⊥
  is_near : agreeing (word_of r m) (word_of r w) ≡ near r + opposed (word_of r m) (word_of r w)

abbrev beside : Rate → ℕ → ℕ
beside One w = (w + 1) % 4
beside Two w = (w + 1) % 4
beside Five w = (w + 64) % 256
beside Eleven w = cck_number (p1_of w) ((p2_of w + 1) % 4) (p3_of w) (p4_of w)

abbrev near_beside : Rate → ℕ → Bool
near_beside r w =
    let m = beside r w in
    implies (is_allowed r w)
    (ltb m (numbers r) && is_allowed r m && not (eqb m w)
    && eqb (agreeing (word_of r m) (word_of r w)) (near r + opposed (word_of r m) (word_of r w)))

near_all : (r : Rate) (w : ℕ) → w < numbers r → T (near_beside r w)
unfolding barker_word cck_word agreeing opposed
near_all One w h = all_at (near_beside One) 4 tt w h
near_all Two w h = all_at (near_beside Two) 4 tt w h
near_all Five w h = all_at (near_beside Five) 256 tt w h
near_all Eleven w h = all_at (near_beside Eleven) 256 tt w h

nearest : (r : Rate) (w : ℕ) → w < numbers r → T (is_allowed r w) → Nearest r w
nearest r w h a =
    let m = beside r w in
    let few = ltb m (numbers r) in
    let ok = is_allowed r m in
    let ne = not (eqb m w) in
    let at = eqb (agreeing (word_of r m) (word_of r w)) (near r + opposed (word_of r m) (word_of r w)) in
    let t : T (few && ok && ne && at) = implied (is_allowed r w) (few && ok && ne && at) (near_all r w h) a in
    let three = both_left (few && ok && ne) at t in
    let pair = both_left (few && ok) ne three in
    record {
      m = m;
      among = ltb→lt m (numbers r) (both_left few ok pair);
      allowed = both_right few ok pair;
      other = λ e. subst (λ (b : Bool). T (not b)) (eq-eqb m w e) (both_right (few && ok) ne three);
      is_near = eqb→eq _ _ (both_right (few && ok && ne) at t);
    }

-- ---- the lead
module _ (full : ℕ) (some : 0 < full) (r : Rate) (w : ℕ) (h : w < numbers r) (a : T (is_allowed r w)) where
  abbrev cs : List Counts
  cs = clean full (word_of r w)

  abbrev x : Nearest r w
  x = nearest r w h a

  score_of : (n : ℕ)
      → Full full (score_at r cs n) (agreeing (word_of r n) (word_of r w)) (opposed (word_of r n) (word_of r w))
  score_of n = score_full full (word_of r n) (word_of r w) (word_phases r n) (word_phases r w)

  -- the nearest scores so many full chips, any other at most as many
  near_score : score_at r cs x.m ≡ pos (full * near r)
  near_score = same (score_at r cs x.m) (pos (full * near r)) (omega (
    arith,
    (score_of x.m).is,
    ap (λ (k : ℕ). full * k) x.is_near,
    mul-add full (near r) (opposed (word_of r x.m) (word_of r w)),
    up_pos (full * near r),
    dn_pos (full * near r),
  ))

  at_most_lem : (n : ℕ) → n < numbers r → T (is_allowed r n) → (n ≡ w → ⊥) → score_at r cs n ≤ℤ pos (full * near r)
  at_most_lem n l t ne = le_of (score_at r cs n) (pos (full * near r)) (omega (
    arith,
    (score_of n).is,
    mul-le-mul_left full (others_near r n w l h t a ne),
    mul-add full (near r) (opposed (word_of r n) (word_of r w)),
    up_pos (full * near r),
    dn_pos (full * near r),
  ))

  own_score : score_at r cs w ≡ pos (full * symbol_chips r)
  own_score = same (score_at r cs w) (pos (full * symbol_chips r)) (omega (
    arith,
    (score_self full (word_of r w) (word_phases r w)).is,
    ap (λ (k : ℕ). full * k) (word_length r w),
    up_pos (full * symbol_chips r),
    dn_pos (full * symbol_chips r),
  ))

  best : decided r cs ≡ w
  best = decided_clean full some r w h a

  next : NextAs r cs w x.m
  next = record {
    among = x.among;
    allowed = x.allowed;
    other = x.other;
    top = λ n l t ne. rw near_score (at_most_lem n l t ne);
  }

  -- promise: A clean symbol's lead, for every word and any full chip: 11 full chips for Barker, 8 at 5.5 Mbit/s, 4 at
  -- 11
  -- rule: 3.9
  pub lead_clean : lead_of r cs ≡ full * clean_lead r
  lead_clean = lead_by r cs w x.m (full * symbol_chips r) (full * near r)
      (subst (λ (v : ℕ). DecidedAs r cs v) best (decided_best r cs)) next own_score near_score
      ∙ parts r
    where
      parts : (r : Rate) → full * symbol_chips r - full * near r ≡ full * clean_lead r
      parts One = omega arith
      parts Two = omega arith
      parts Five = omega arith
      parts Eleven = omega arith
