-- The sum of a usable x with 12288. From x's own fraction it goes to steps, of which 12288 is a whole even number of
-- counts; from 2 ^ 162 to 2 ^ 163 steps the format keeps whole counts, so the sum is 12582912 counts more than x's own,
-- and its bit pattern above that of 8192 by as many as its counts are.
-- Assumes nothing.
use mathlib.Core.Path.{◌≡◌, refl, sym, ap, ◌∙◌, subst⁻¹}
use mathlib.Core.Bool.{Bool, true, false, not, cond}
use Prim.Native.Nat.{ℕ, ◌+◌, ◌-◌, ◌*◌, ◌/◌, ◌^◌, ◌≤◌, ◌<◌}
use native.Mathlib.Nat.{le_trans, lt_of_lt_of_le, lt_of_not-le, not-le_of_lt, le_antisymm}
use native.Mathlib.Nat.{mul-one, mul_assoc, mul_right_comm, add-mul, add_comm, mul-pos}
use native.Mathlib.Nat.{mul-le-mul_right, mul-lt-mul_of_pos_right, mul-div_cancel}
use native.Mathlib.Omega.{arith}
use lib.Dec.{T, ltb, lt→ltb, leb→le, lit≤}
use lib.Pow.{pow_pos, pow_mono}
use lib.IntN.{ℤ, pos}
use lib.Ieee.{Float, nan, inf, fin, binary32, up, down, size, units, round, add, fits, to_bits, is_nan}
use lib.Ieee.Digits.{size-lt, size-le, back}
use lib.Ieee.Fits.{core, round_is, down_pos}
use lib.Ieee.Exact.{HasValue, units_val}
use lib.Ieee.Nearest.{closest, closest_same}
use lib.Ieee.Scale.{round_same}
use Rattle.rules_chips.specs.Floats.{steps, negative, usable, nearest}
use Rattle.rules_chips.proofs.Rounding.{Rounds, only, closest_near, nearest_near, nearest_le, plus, less}
use Rattle.rules_chips.proofs.Steps.{steps_exact, under}

-- M ± n
abbrev pub moved : Bool → ℕ → ℕ → ℕ
moved false M n = M + n
moved true M n = M - n

pub cond_yes : {X : Type 0} (b : Bool) (x y : X) → T b → cond b x y ≡ x
cond_yes true x y t = refl
cond_yes false x y t = absurd t

-- ---- a number from 2 ^ 162 up and below 2 ^ 163 has 163 digits
size_is : (n : ℕ) → 2 ^ 162 ≤ n → n < 2 ^ 163 → size n ≡ 163
size_is n l u =
    le_antisymm (size-le n 163 u)
    (lt_of_not-le (λ (g : size n ≤ 162). not-le_of_lt (lt_of_lt_of_le (size-lt n) (pow_mono g)) l))

-- so the format keeps its whole counts
round_counts : (n : ℕ) → 2 ^ 162 ≤ n → n < 2 ^ 163
    → round binary32 false n (2 ^ 149) ≡ units binary32 false (closest n (2 ^ 139)) 139
round_counts n l u =
    round_is binary32 false n (2 ^ 149)
    ∙ ap (λ (z : ℕ). core binary32 false (n * 2 ^ 149) (2 ^ 149) (z - 24))
    (ap size (mul-div_cancel n (pow_pos 149)) ∙ size_is n l u)
    ∙ ap (λ (q : ℕ). units binary32 false q 139)
    (closest_same (n * 2 ^ 149) (2 ^ 149 * 2 ^ 139) n (2 ^ 139) (pow_pos 288) (pow_pos 139)
    (mul_assoc n (2 ^ 149) (2 ^ 139)))

-- ---- from the float's own fraction a / d to its n steps, of which l are 1
plus_is : (n a d l : ℕ) → n * d ≡ a * l → (a * 1 + 12288 * d) * l ≡ (12288 * l + n) * (d * 1)
plus_is n a d l h =
    let p : (a * 1 + 12288 * d) * l ≡ a * 1 * l + 12288 * d * l = add-mul (a * 1) (12288 * d) l in
    let q : (12288 * l + n) * (d * 1) ≡ 12288 * l * (d * 1) + n * (d * 1) = add-mul (12288 * l) n (d * 1) in
    let r : 12288 * l * (d * 1) ≡ 12288 * d * l =
    ap (λ (x : ℕ). 12288 * l * x) (mul-one d) ∙ mul_right_comm 12288 l d in
    p ∙ ap (λ (x : ℕ). x * l + 12288 * d * l) (mul-one a)
    ∙ ap (λ (x : ℕ). x + 12288 * d * l) (sym h) ∙ add_comm (n * d) (12288 * d * l)
    ∙ sym (q ∙ ap (λ (x : ℕ). 12288 * l * (d * 1) + n * x) (mul-one d) ∙ ap (λ (x : ℕ). x + n * d) r)

-- what is left of m * l once a * l is taken off
left : (a b x y l d : ℕ) → a ≤ b → x ≤ y → b * l ≡ y * d → a * l ≡ x * d → (b - a) * l ≡ (y - x) * d
left a b x y l d h k p q =
    let s : (b - a) * l + a * l ≡ b * l = sym (add-mul (b - a) a l) ∙ ap (λ (z : ℕ). z * l) (back b a h) in
    let t : (y - x) * d + x * d ≡ y * d = sym (add-mul (y - x) x d) ∙ ap (λ (z : ℕ). z * d) (back y x k) in
    omega arith

less_is : (n a d l : ℕ) → n * d ≡ a * l → a ≤ 8 * d → n ≤ 8 * l
    → (12288 * d - a * 1) * l ≡ (12288 * l - n) * (d * 1)
less_is n a d l h i j =
    left (a * 1) (12288 * d) n (12288 * l) l (d * 1) (omega arith) (omega arith)
    (mul_right_comm 12288 d l ∙ ap (λ (x : ℕ). 12288 * l * x) (sym (mul-one d)))
    (ap (λ (x : ℕ). x * l) (mul-one a) ∙ sym h ∙ ap (λ (x : ℕ). n * x) (sym (mul-one d)))

-- the sum, rounded
sum_is : (s : Bool) (m : ℕ) (e : ℤ) → T (fits binary32 (fin s m e)) → steps (fin s m e) ≤ 8 * 2 ^ 149
    → add binary32 (fin s m e) (fin false 3 (pos 12))
    ≡ round binary32 false (moved s (12288 * 2 ^ 149) (steps (fin s m e))) (2 ^ 149)
unfolding add
sum_is false m e t h =
    round_same binary32 false (m * up e * 1 + 12288 * down e) (down e * 1)
    (12288 * 2 ^ 149 + steps (fin false m e)) (2 ^ 149) (mul-pos (down_pos e) (omega arith)) (pow_pos 149)
    (plus_is (steps (fin false m e)) (m * up e) (down e) (2 ^ 149) (steps_exact false m e t))
sum_is true m e t h =
    let n = steps (fin true m e) in
    let x = steps_exact true m e t in
    let a = m * up e * 1 in
    let b = 12288 * down e in
    let u : m * up e ≤ 8 * down e = under n (m * up e) (down e) (2 ^ 149) (down_pos e) (pow_pos 149) x h in
    let p : a < b = omega (arith, down_pos e) in
    cond_yes (ltb a b) (round binary32 false (b - a) (down e * 1)) (round binary32 (ltb b a) (a - b) (down e * 1))
    (lt→ltb a b p)
    ∙ round_same binary32 false (b - a) (down e * 1) (12288 * 2 ^ 149 - n) (2 ^ 149)
    (mul-pos (down_pos e) (omega arith)) (pow_pos 149) (less_is n (m * up e) (down e) (2 ^ 149) x u h)

-- ---- the bounds: the sum is from 8192 up and below 16384
range : (s : Bool) (n l : ℕ) → 0 < l → n ≤ 8 * l
    → (8192 * l ≤ moved s (12288 * l) n) × (moved s (12288 * l) n < 16384 * l)
range false n l p h = (omega arith, omega arith)
range true n l p h = (omega arith, omega arith)

-- the counts kept are those of x, moved
kept : (s : Bool) (n : ℕ) → n ≤ 8 * 2 ^ 149
    → closest (moved s (12288 * 2 ^ 149) n) (2 ^ 139) ≡ moved s 12582912 (nearest n)
kept s n h =
    let N = moved s (12288 * 2 ^ 149) n in
    only (2 ^ 139) N (closest N (2 ^ 139)) (moved s 12582912 (nearest n)) (pow_pos 139)
    (closest_near (2 ^ 139) N (pow_pos 139)) (go s)
  where
    go : (s : Bool) → Rounds (2 ^ 139) (moved s (12288 * 2 ^ 149) n) (moved s 12582912 (nearest n))
    go false = plus (2 ^ 139) n (nearest n) 12582912 refl (nearest_near n)
    go true =
        less (2 ^ 139) n (nearest n) 12582912 refl (le_trans h (lit≤ tt)) (le_trans (nearest_le n h) (lit≤ tt))
        (nearest_near n)

sum_counts : (s : Bool) (m : ℕ) (e : ℤ) → T (fits binary32 (fin s m e)) → steps (fin s m e) ≤ 8 * 2 ^ 149
    → add binary32 (fin s m e) (fin false 3 (pos 12))
    ≡ units binary32 false (moved s 12582912 (nearest (steps (fin s m e)))) 139
sum_counts s m e t h =
    let n = steps (fin s m e) in
    let r = range s n (2 ^ 149) (pow_pos 149) h in
    sum_is s m e t h ∙ round_counts (moved s (12288 * 2 ^ 149) n) r.0 r.1
    ∙ ap (λ (q : ℕ). units binary32 false q 139) (kept s n h)

-- ---- the bit pattern of q counts, where q has 24 digits
digits : (q h : ℕ) → 2 ^ 23 ≤ q → q < 2 ^ 24 → 0 < h → (2 ^ 23 * h ≤ q * h) × (q * h < 2 ^ 24 * h)
digits q h l u p = (mul-le-mul_right h l, mul-lt-mul_of_pos_right u p)

pattern : (x : Float) (q : ℕ) → 2 ^ 23 ≤ q → q < 2 ^ 24 → HasValue x false (q * 2 ^ 139) (2 ^ 149)
    → to_bits binary32 x ≡ 1166016512 + q
unfolding to_bits
pattern nan q l u v = absurd v
pattern (inf s) q l u v = absurd v
pattern (fin s m e) q l u v =
    let d = digits q (2 ^ 139) l u (pow_pos 139) in
    ap (λ (b : Bool). to_bits binary32 (fin b m e)) v.0
    ∙ ap (λ (z : ℕ). 0 + (size z - 24) * 8388608 + z / 2 ^ (size z - 24))
    (ap (λ (z : ℕ). z / down e) v.1 ∙ mul-div_cancel (q * 2 ^ 139) (down_pos e))
    ∙ ap (λ (k : ℕ). 0 + (k - 24) * 8388608 + q * 2 ^ 139 / 2 ^ (k - 24)) (size_is (q * 2 ^ 139) d.0 d.1)
    ∙ ap (λ (z : ℕ). 1166016512 + z) (mul-div_cancel q (pow_pos 139))

number : (x : Float) (a c : ℕ) → HasValue x false a c → T (not (is_nan x))
unfolding is_nan
number nan a c v = absurd v
number (inf s) a c v = absurd v
number (fin s m e) a c v = tt

moved_in : (s : Bool) (k : ℕ) → k ≤ 8192 → (2 ^ 23 ≤ moved s 12582912 k) × (moved s 12582912 k < 2 ^ 24)
moved_in false k h = (omega arith, omega arith)
moved_in true k h = (omega arith, omega arith)

-- ---- what `count` computes with
pub record Summed (x : Float) : Type 0 where
  pub few : nearest (steps x) ≤ 8192
  pub no_nan : T (not (is_nan (add binary32 x (fin false 3 (pos 12)))))
  pub bits : to_bits binary32 (add binary32 x (fin false 3 (pos 12)))
      ≡ 1166016512 + moved (negative x) 12582912 (nearest (steps x))

pub summed : (x : Float) → T (fits binary32 x) → T (usable x) → Summed x
unfolding usable
summed nan t u = absurd u
summed (inf s) t u = absurd u
summed (fin s m e) t u =
    let n = steps (fin s m e) in
    let z = add binary32 (fin s m e) (fin false 3 (pos 12)) in
    let h : n ≤ 8 * 2 ^ 149 = leb→le n (8 * 2 ^ 149) u in
    let few : nearest n ≤ 8192 = nearest_le n h in
    let q = moved s 12582912 (nearest n) in
    let i = moved_in s (nearest n) few in
    let v : HasValue z false (q * 2 ^ 139) (2 ^ 149) =
    subst⁻¹ (λ (z : Float). HasValue z false (q * 2 ^ 139) (2 ^ 149)) (sum_counts s m e t h)
    (units_val binary32 false q 139
    (lt_of_lt_of_le (digits q (2 ^ 139) i.0 i.1 (pow_pos 139)).1 (lit≤ tt))) in
    record { few = few; no_nan = number z (q * 2 ^ 139) (2 ^ 149) v; bits = pattern z q i.0 i.1 v }
