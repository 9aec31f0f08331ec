-- The definitions of LENGTH and of bit 7 come to what is said of them in plain numbers, for every number of octets.
--     length_is, length_only    LENGTH, and no other number is one
--     length_some               of some octets it is not 0
--     seven_is, seven_only      bit 7 beside any LENGTH of the octets, and no other
--     whole_is, whole_once      what a reader takes of LENGTH before bit 7, and no other number is that
--     octets_once               the two together are of one number of octets
--     holds_only                whatever passes refusal 15 is LENGTH and bit 7 of 1 to 4,095 octets
--     holds_any                 and whatever is passes it
-- By linear arithmetic, rate by rate. Assumes nothing.
use mathlib.Core.Path.{◌≡◌, refl, sym, subst}
use mathlib.Core.Bool.{Bool, true, false, cond, ◌&&◌}
use Prim.Native.Nat.{ℕ, ◌+◌, ◌*◌, ◌≤◌, ◌<◌}
use native.Mathlib.Omega.{arith}
use borrow.Author.Tests.{leb-true, leb-false, eqb-true}
use lib.Dec.{T, leb, eqb}
use lib.IntN.{ℤ, pos, negsuc, nat_abs}
use Rattle.base.proofs.Tests.{left_is, right_is}
use Rattle.rules_rates.specs.declared.Rate.{Rate}
use Rattle.rules_rates.specs.declared.Rate.TheVariants.{One, Two, Five, Eleven}
use Rattle.rules_rates.specs.Rates.{code_of, length_field, bit7, whole_octets, octets_read, is_payload, length_holds}
use Rattle.rules_rates.specs.Plain.{
  LengthOf,
  length_1,
  length_2,
  length_5,
  length_11,
  SevenOf,
  seven_no,
  seven_much,
  seven_little,
  WholeOf,
  whole_1,
  whole_2,
  whole_5,
  whole_11,
}
use Rattle.rules_rates.proofs.Lengths.{length_holds_lem}

-- ---- LENGTH
-- promise: LENGTH is what the rule says in plain numbers, for every number of octets, and no other number is
-- rule: 5.10
-- code: length_field
-- with: length_only
pub length_is : (r : Rate) (n : ℕ) → LengthOf (code_of r) n (length_field r n)
length_is One n = length_1 n
length_is Two n = length_2 n
length_is Five n = length_5 n (length_field Five n) (omega arith) (omega arith)
length_is Eleven n = length_11 n (length_field Eleven n) (omega arith) (omega arith)

-- two LENGTHs of the same octets are one
pub length_once : {rate n l m : ℕ} → LengthOf rate n l → LengthOf rate n m → l ≡ m
length_once (length_1 n) (length_1 n') = refl
length_once (length_2 n) (length_2 n') = refl
length_once (length_5 n l a b) (length_5 n' m c d) = omega arith
length_once (length_11 n l a b) (length_11 n' m c d) = omega arith

-- of some octets it is not 0
pub length_some : {rate n l : ℕ} → LengthOf rate n l → 1 ≤ n → 1 ≤ l
length_some (length_1 n) h = omega arith
length_some (length_2 n) h = omega arith
length_some (length_5 n l a b) h = omega arith
length_some (length_11 n l a b) h = omega arith

pub length_only : (r : Rate) {n l : ℕ} → LengthOf (code_of r) n l → l ≡ length_field r n
length_only r {n} h = length_once h (length_is r n)

-- ---- bit 7
seven_at : (n : ℕ) (b : Bool) → leb (8 * n + 8) (11 * length_field Eleven n) ≡ b
    → SevenOf 110 n (length_field Eleven n) (cond b 1 0)
seven_at n true e = seven_much n (length_field Eleven n) (leb-true _ _ e)
seven_at n false e = seven_little n (length_field Eleven n) (leb-false _ _ e)

-- promise: Bit 7 is what the rule says in plain numbers, beside the LENGTH of every number of octets, and no other is
-- rule: 5.11
-- code: bit7
-- with: seven_only
pub seven_is : (r : Rate) (n : ℕ) → SevenOf (code_of r) n (length_field r n) (bit7 r n)
seven_is One n = seven_no 10 n (length_field One n) (λ e. omega arith)
seven_is Two n = seven_no 20 n (length_field Two n) (λ e. omega arith)
seven_is Five n = seven_no 55 n (length_field Five n) (λ e. omega arith)
seven_is Eleven n = seven_at n _ refl

pub seven_once : {rate n l b c : ℕ} → SevenOf rate n l b → SevenOf rate n l c → b ≡ c
seven_once (seven_no rate n l h) (seven_no rate' n' l' k) = refl
seven_once (seven_no rate n l h) (seven_much n' l' k) = absurd (h refl)
seven_once (seven_no rate n l h) (seven_little n' l' k) = absurd (h refl)
seven_once (seven_much n l h) (seven_no rate n' l' k) = absurd (k refl)
seven_once (seven_much n l h) (seven_much n' l' k) = refl
seven_once (seven_much n l h) (seven_little n' l' k) = absurd (omega arith)
seven_once (seven_little n l h) (seven_no rate n' l' k) = absurd (k refl)
seven_once (seven_little n l h) (seven_much n' l' k) = absurd (omega arith)
seven_once (seven_little n l h) (seven_little n' l' k) = refl

pub seven_only : (r : Rate) {n b : ℕ} → SevenOf (code_of r) n (length_field r n) b → b ≡ bit7 r n
seven_only r {n} h = seven_once h (seven_is r n)

-- ---- what is taken of LENGTH before bit 7 is asked
-- promise: The octets that a reader takes of LENGTH, before bit 7, are what the rule says in plain numbers
-- rule: 5.12
-- code: whole_octets
-- with: whole_once
pub whole_is : (r : Rate) (l : ℕ) → WholeOf (code_of r) l (whole_octets r l)
whole_is One l = whole_1 l (whole_octets One l) (omega arith) (omega arith)
whole_is Two l = whole_2 l (whole_octets Two l) (omega arith) (omega arith)
whole_is Five l = whole_5 l (whole_octets Five l) (omega arith) (omega arith)
whole_is Eleven l = whole_11 l (whole_octets Eleven l) (omega arith) (omega arith)

pub whole_once : {rate l w v : ℕ} → WholeOf rate l w → WholeOf rate l v → w ≡ v
whole_once (whole_1 l w a b) (whole_1 l' v c d) = omega arith
whole_once (whole_2 l w a b) (whole_2 l' v c d) = omega arith
whole_once (whole_5 l w a b) (whole_5 l' v c d) = omega arith
whole_once (whole_11 l w a b) (whole_11 l' v c d) = omega arith

-- ---- the octets. At 11 Mbit/s bit 7 says on which side of 8 the eleven rests are that rounding can leave
rounded : {n l b : ℕ} → LengthOf 110 n l → SevenOf 110 n l b
    → (8 * n + 8 * b ≤ 11 * l) × (11 * l < 8 * n + 8 * b + 8)
rounded (length_11 n l x y) (seven_no rate n' l' h) = absurd (h refl)
rounded (length_11 n l x y) (seven_much n' l' h) = (omega arith, omega arith)
rounded (length_11 n l x y) (seven_little n' l' h) = (omega arith, omega arith)

pub octets_once : {rate n n' l l' b b' : ℕ} → LengthOf rate n l → LengthOf rate n' l' → SevenOf rate n l b
    → SevenOf rate n' l' b' → l ≡ l' → b ≡ b' → n ≡ n'
octets_once (length_1 n) (length_1 n') s t e f = omega arith
octets_once (length_2 n) (length_2 n') s t e f = omega arith
octets_once (length_5 n l x y) (length_5 n' l' z w) s t e f = omega arith
octets_once (length_11 n l x y) (length_11 n' l' z w) s t e f =
    let p = rounded (length_11 n l x y) s in
    let q = rounded (length_11 n' l' z w) t in
    omega (arith, p.0, p.1, q.0, q.1)

-- ---- what passes refusal 15
pub record Holds (rate l seven n : ℕ) : Type 0 where
  pub some : 1 ≤ n
  pub few : n ≤ 4095
  pub length_of : LengthOf rate n l
  pub seven_of : SevenOf rate n l seven

pub sized : (z : ℤ) → is_payload z ≡ true → (1 ≤ nat_abs z) × (nat_abs z ≤ 4095)
sized (pos m) h = (leb-true 1 m (left_is _ _ h), leb-true m 4095 (right_is (leb 1 m) _ h))
sized (negsuc m) h = absurd (subst T (sym h) tt)

pub holds_only : (r : Rate) (l seven : ℕ) → length_holds r l seven ≡ true
    → Holds (code_of r) l seven (nat_abs (octets_read r l seven))
holds_only r l seven h =
    let z = octets_read r l seven in
    let n = nat_abs z in
    let first = left_is (is_payload z && eqb (length_field r n) l) (eqb (bit7 r n) seven) h in
    let size = sized z (left_is (is_payload z) (eqb (length_field r n) l) first) in
    let e : length_field r n ≡ l = eqb-true _ _ (right_is (is_payload z) _ first) in
    let f : bit7 r n ≡ seven = eqb-true _ _ (right_is (is_payload z && eqb (length_field r n) l) _ h) in
    record {
      some = size.0;
      few = size.1;
      length_of = subst (LengthOf (code_of r) n) e (length_is r n);
      seven_of =
          subst (λ (b : ℕ). SevenOf (code_of r) n l b) f
          (subst (λ (m : ℕ). SevenOf (code_of r) n m (bit7 r n)) e (seven_is r n));
    }

pub holds_any : (r : Rate) {l seven n : ℕ} → Holds (code_of r) l seven n → length_holds r l seven ≡ true
holds_any r {l} {seven} {n} h =
    let e : l ≡ length_field r n = length_only r h.length_of in
    let f : seven ≡ bit7 r n =
    seven_only r (subst (λ (m : ℕ). SevenOf (code_of r) n m seven) e h.seven_of) in
    rw (e, f) (length_holds_lem r n h.some h.few)
