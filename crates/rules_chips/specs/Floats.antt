-- One f32 of a soft sample: its exact value, whether it is usable, its count (RULES 2.3, 2.6, 3.8).
-- A finite f32 is a whole number of steps of 2^-149, and a count, 1/1024, is 2^139 of them.
-- Definitions only. Assumes nothing.
use Rattle.std.specs.Prelude.{ℕ, ◌+◌, ◌*◌, ◌/◌, ◌%◌, ◌^◌, ◌≤◌, ◌≡◌, Bool, true, false, cond, ltb, leb, ℤ, pos, neg_ℤ, nat_abs, ◌-ℤ◌, ◌*ℤ◌, Float}
use Rattle.std.specs.Float.{nan, inf, fin}
use Rattle.std.specs.Float.Ieee.{up, down}

-- the magnitude of a finite f32 in steps: `fin s m e` is m · 2^e, which is m · up e / down e
unfoldable pub steps : Float → ℕ
steps nan = 0
steps (inf s) = 0
steps (fin s m e) = m * up e * 2 ^ 149 / down e

abbrev pub negative : Float → Bool
negative nan = false
negative (inf s) = s
negative (fin s m e) = s

abbrev pub signed : Bool → ℕ → ℤ
signed true n = neg_ℤ (pos n)
signed false n = pos n

-- the exact value in steps
abbrev pub value_of : Float → ℤ
value_of x = signed (negative x) (steps x)

-- not a NaN, not an infinity, not above 8 in magnitude; exactly 8 is usable
unfoldable pub usable : Float → Bool
unfolding steps
usable nan = false
usable (inf s) = false
usable (fin s m e) = leb (steps (fin s m e)) (8 * 2 ^ 149)

-- the whole number of counts nearest to n steps, ties to the even one
unfoldable pub nearest : ℕ → ℕ
nearest n =
    let q = n / 2 ^ 139 in
    let r = n % 2 ^ 139 in
    cond (ltb (2 * r) (2 ^ 139)) q (cond (ltb (2 ^ 139) (2 * r)) (q + 1) (q + q % 2))

-- the count: the whole number nearest to 1024 times the exact value, ties to the even one; 0 of what is not usable
unfoldable pub count_of : Float → ℤ
unfolding steps usable nearest
count_of x = cond (usable x) (signed (negative x) (nearest (steps x))) (pos 0)

-- The same said without a way to find it: k counts are nearest to m steps when twice the distance is at most a count,
-- and where it is just a count, k is even. The laws in proofs/Meaning.antt show that this leaves one answer, `count_of`.
pub record Nearest (m k : ℤ) : Type 0 where
  pub close : 2 * nat_abs (k *ℤ pos (2 ^ 139) -ℤ m) ≤ 2 ^ 139
  pub even : 2 * nat_abs (k *ℤ pos (2 ^ 139) -ℤ m) ≡ 2 ^ 139 → nat_abs k % 2 ≡ 0
