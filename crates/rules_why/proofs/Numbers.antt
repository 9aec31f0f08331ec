-- What is shown of SERVICE and of LENGTH comes to what is said of it in plain numbers, for every number.
--     cleared_is, cleared_once      SERVICE without its allowed bits, and no other number is that
--     left_some                     of a SERVICE that is not allowed something is left
--     wanted_is, wanted_once        the LENGTH that the writer makes for the octets read, and no other number is that
--     wanted_same, wanted_none      it is the LENGTH read only where that is 0 or is not refused, and of 0 it is 0
-- By linear arithmetic, rate by rate. Assumes nothing.
use mathlib.Core.Path.{◌≡◌, refl, sym, ap, subst}
use mathlib.Core.Bool.{Bool, true, false, cond, ◌||◌}
use Prim.Native.Nat.{ℕ, zero, suc, ◌+◌, ◌-◌, ◌*◌, ◌/◌, ◌%◌, ◌≤◌, ◌<◌}
use native.Mathlib.Decide.{dec_lt}
use native.Mathlib.Omega.{arith}
use borrow.Author.Tests.{eqb-false}
use lib.Dec.{eqb}
use lib.IntN.{ℤ, pos, negsuc, neg_ℤ, ◌-ℤ◌, nat_abs}
use Rattle.base.specs.Whole.{up, dn}
use Rattle.base.proofs.Whole.{add, neg_up, neg_dn, up_pos, dn_pos}
use Rattle.rules_rates.specs.declared.Rate.{Rate}
use Rattle.rules_rates.specs.declared.Rate.TheVariants.{One, Two, Five, Eleven}
use Rattle.rules_rates.specs.Rates.{code_of, length_field, whole_octets, octets_read, is_payload}
use Rattle.rules_rates.specs.Plain.{
  LengthOf,
  length_1,
  length_2,
  length_5,
  length_11,
  WholeOf,
  whole_1,
  whole_2,
  whole_5,
  whole_11,
  SevenOf,
  seven_no,
  seven_much,
  seven_little,
}
use Rattle.rules_rates.proofs.Lengths.{less, is_payload_lem}
use Rattle.rules_rates.proofs.Plain.{length_is, length_once, whole_is, whole_once, Holds, sized}
use Rattle.rules_calls.specs.Headers.{service_allowed}
use Rattle.rules_why.specs.Why.{service_left, length_for}
use Rattle.rules_why.specs.Plain.{Cleared, of_two, of_both, LengthWanted, of_octets, too_few, too_many}

-- ---- 14
two_cleared : (rate s : ℕ) → (rate ≡ 110 → ⊥) → Cleared rate s (s - 4 * (s / 4 % 2))
two_cleared rate s n =
    let is : s % 4 + 4 * (s / 4 % 2) + 8 * (s / 8) ≡ s = omega arith in
    let left : s % 4 + 8 * (s / 8) ≡ s - 4 * (s / 4 % 2) = omega arith in
    subst (λ (x : ℕ). Cleared rate x (s - 4 * (s / 4 % 2))) is
    (subst (Cleared rate (s % 4 + 4 * (s / 4 % 2) + 8 * (s / 8))) left
    (of_two rate (s % 4) (s / 4 % 2) (s / 8) n (omega arith) (omega arith)))

-- promise: What is shown of a refused SERVICE is the octet without its allowed bits, in plain numbers, for every octet,
-- and no other number is; it is never 0
-- rule: 6.22
-- code: service_left
-- with: cleared_once, left_some
pub cleared_is : (r : Rate) (s : ℕ) → s < 256 → Cleared (code_of r) s (service_left r s)
cleared_is One s h = two_cleared 10 s (λ e. omega arith)
cleared_is Two s h = two_cleared 20 s (λ e. omega arith)
cleared_is Five s h = two_cleared 55 s (λ e. omega arith)
cleared_is Eleven s h =
    let low = s % 4 in
    let two = s / 4 % 2 in
    let middle = s / 8 % 16 in
    let seven = s / 128 in
    let is : low + 4 * two + 8 * middle + 128 * seven ≡ s = omega arith in
    let left : low + 8 * middle ≡ service_left Eleven s = omega arith in
    subst (λ (x : ℕ). Cleared 110 x (service_left Eleven s)) is
    (subst (Cleared 110 (low + 4 * two + 8 * middle + 128 * seven)) left
    (of_both low two middle seven (omega arith) (omega arith) (omega arith) (omega arith)))

pub cleared_once : {rate rate' s s' a b : ℕ} → Cleared rate s a → Cleared rate' s' b → rate ≡ rate' → s ≡ s' → a ≡ b
cleared_once (of_two rate low two high n a b) (of_two rate' low' two' high' m c d) e q = omega arith
cleared_once (of_two rate low two high n a b) (of_both low' two' middle seven c d f g) e q = absurd (n e)
cleared_once (of_both low two middle seven a b c d) (of_two rate low' two' high n f g) e q = absurd (n (sym e))
cleared_once (of_both low two middle seven a b c d) (of_both low' two' middle' seven' f g h i) e q = omega arith

neither : (a b : Bool) → (a || b) ≡ false → (a ≡ false) × (b ≡ false)
neither false false e = (refl, refl)
neither false true e = (refl, e)
neither true b e = (e, absurd (let z : ◌≡◌ {A = ℕ} 0 1 = cc in omega arith))

two_left : (s : ℕ) → (eqb s 0 || eqb s 4) ≡ false → s - 4 * (s / 4 % 2) ≡ 0 → ⊥
two_left s a e =
    let n = neither (eqb s 0) (eqb s 4) a in
    let zero-not = eqb-false s 0 n.0 in
    let four-not = eqb-false s 4 n.1 in
    omega arith

pub left_some : (r : Rate) (s : ℕ) → s < 256 → service_allowed r s ≡ false → service_left r s ≡ 0 → ⊥
left_some One s h a e = two_left s a e
left_some Two s h a e = two_left s a e
left_some Five s h a e = two_left s a e
left_some Eleven s h a e =
    let n = neither (eqb s 0 || eqb s 4 || eqb s 128) (eqb s 132) a in
    let m = neither (eqb s 0 || eqb s 4) (eqb s 128) n.0 in
    let l = neither (eqb s 0) (eqb s 4) m.0 in
    let zero-not = eqb-false s 0 l.0 in
    let four-not = eqb-false s 4 l.1 in
    let one-not = eqb-false s 128 m.1 in
    let both-not = eqb-false s 132 n.1 in
    omega arith

-- ---- 15
-- outside 1 to 4,095 octets are no payload
no_payload : (z : ℤ) (whole seven : ℕ) → pos whole -ℤ pos seven ≡ z → (seven < whole → whole ≤ 4095 + seven → ⊥)
    → is_payload z ≡ false
no_payload (negsuc m) whole seven e out = refl
no_payload (pos m) whole seven e out = by (is_payload (pos m)) refl
  where
    is : whole ≡ m + seven
    is = omega (
      arith,
      ap up e,
      ap dn e,
      add (pos whole) (neg_ℤ (pos seven)),
      neg_up (pos seven),
      neg_dn (pos seven),
      up_pos whole,
      dn_pos whole,
      up_pos seven,
      dn_pos seven,
      up_pos m,
      dn_pos m,
    )

    by : (b : Bool) → is_payload (pos m) ≡ b → b ≡ false
    by true e = let s = sized (pos m) e in absurd (out (omega (arith, is, s.0)) (omega (arith, is, s.1)))
    by false e = refl

-- promise: The LENGTH that is expected is that of the octets read, in plain numbers, 0 where they are none or too many,
-- for every LENGTH and bit 7, and no other number is; it is the LENGTH read only where that is 0 or is not refused
-- rule: 6.22, 6.23, 5.10, 5.12
-- code: length_for
-- with: wanted_once, wanted_same, wanted_none
pub wanted_is : (r : Rate) (l seven : ℕ) → LengthWanted (code_of r) l seven (length_for r (octets_read r l seven))
wanted_is r l seven = by (dec_lt seven whole) (dec_lt (4095 + seven) whole)
  where
    whole : ℕ
    whole = whole_octets r l

    Wanted : ℤ → Type 0
    Wanted z = LengthWanted (code_of r) l seven (length_for r z)

    inside : seven < whole → whole ≤ 4095 + seven → Wanted (octets_read r l seven)
    inside a b =
        let n = whole_octets r l - seven in
        let is : whole_octets r l ≡ n + seven = omega (arith, a) in
        let fits : is_payload (pos n) ≡ true = is_payload_lem n (omega (arith, a)) (omega (arith, a, b)) in
        subst Wanted (sym (less (whole_octets r l) seven n is))
        (subst (λ (b : Bool). LengthWanted (code_of r) l seven (cond b (length_field r n) 0)) (sym fits)
        (of_octets n (length_field r n) (subst (WholeOf (code_of r) l) is (whole_is r l)) (omega (arith, a))
        (omega (arith, a, b)) (length_is r n)))

    nothing : is_payload (octets_read r l seven) ≡ false → LengthWanted (code_of r) l seven 0
        → Wanted (octets_read r l seven)
    nothing e w =
        subst
        (λ (b : Bool). LengthWanted (code_of r) l seven (cond b (length_field r (nat_abs (octets_read r l seven))) 0))
        (sym e) w

    by : Dec (seven < whole) → Dec (4095 + seven < whole) → Wanted (octets_read r l seven)
    by (yes a) (no b) = inside a (omega (arith, b))
    by (yes a) (yes b) =
        nothing (no_payload (octets_read r l seven) (whole_octets r l) seven refl (λ x y. omega (arith, b, y)))
        (too_many (whole_octets r l) (whole_is r l) b)
    by (no a) b =
        nothing (no_payload (octets_read r l seven) (whole_octets r l) seven refl (λ x y. omega (arith, a, x)))
        (too_few (whole_octets r l) (whole_is r l) (omega (arith, a)))

pub wanted_once : {rate l seven a b : ℕ} → LengthWanted rate l seven a → LengthWanted rate l seven b → a ≡ b
wanted_once {rate} {l} {seven} (of_octets n w h s f x) (of_octets m v g t d y) =
    let e : n ≡ m = omega (arith, whole_once h g) in
    length_once x (subst (λ (i : ℕ). LengthOf rate i v) (sym e) y)
wanted_once (of_octets n w h s f x) (too_few m g t) = absurd (omega (arith, whole_once h g))
wanted_once (of_octets n w h s f x) (too_many m g t) = absurd (omega (arith, whole_once h g))
wanted_once (too_few m g t) (of_octets n w h s f x) = absurd (omega (arith, whole_once h g))
wanted_once (too_many m g t) (of_octets n w h s f x) = absurd (omega (arith, whole_once h g))
wanted_once (too_few m g t) (too_few n h s) = refl
wanted_once (too_few m g t) (too_many n h s) = refl
wanted_once (too_many m g t) (too_few n h s) = refl
wanted_once (too_many m g t) (too_many n h s) = refl

none_of : (rate n l : ℕ) {seven : ℕ} → seven ≡ 0 → (rate ≡ 110 → ⊥) → SevenOf rate n l seven
none_of rate n l e not = subst (SevenOf rate n l) (sym e) (seven_no rate n l not)

-- where LENGTH is that of the octets that it says with bit 7, bit 7 is theirs too
sevens : {rate l whole n w seven : ℕ} → WholeOf rate l whole → LengthOf rate n w → whole ≡ n + seven → w ≡ l
    → SevenOf rate n w seven
sevens (whole_1 l v a b) (length_1 n) e q = none_of 10 n (8 * n) (omega arith) (λ x. omega arith)
sevens (whole_2 l v a b) (length_2 n) e q = none_of 20 n (4 * n) (omega arith) (λ x. omega arith)
sevens (whole_5 l v a b) (length_5 n w c d) e q = none_of 55 n w (omega arith) (λ x. omega arith)
sevens {seven = seven} (whole_11 l v a b) (length_11 n w c d) e q = by seven e
  where
    by : (seven : ℕ) → v ≡ n + seven → SevenOf 110 n w seven
    by zero e = seven_little n w (omega arith)
    by (suc zero) e = seven_much n w (omega arith)
    by (suc (suc x)) e = absurd (omega arith)

pub wanted_same : {rate l seven w : ℕ} → LengthWanted rate l seven w → w ≡ l
    → ((n : ℕ) → Holds rate l seven n → ⊥) → l ≡ 0
wanted_same {rate} {l} {seven} (of_octets n w h s f x) e none =
    absurd
    (none n (record {
      some = s;
      few = f;
      length_of = subst (LengthOf rate n) e x;
      seven_of = subst (λ (y : ℕ). SevenOf rate n y seven) e (sevens h x refl e);
    }))
wanted_same (too_few m g t) e none = sym e
wanted_same (too_many m g t) e none = sym e

pub wanted_none : {rate seven w : ℕ} → LengthWanted rate 0 seven w → w ≡ 0
wanted_none (of_octets n w h s f x) = absurd (omega (arith, none_in h, s))
  where
    none_in : {rate whole : ℕ} → WholeOf rate 0 whole → whole ≡ 0
    none_in (whole_1 l v a b) = omega arith
    none_in (whole_2 l v a b) = omega arith
    none_in (whole_5 l v a b) = omega arith
    none_in (whole_11 l v a b) = omega arith
wanted_none (too_few m g t) = refl
wanted_none (too_many m g t) = refl
