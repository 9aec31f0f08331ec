-- Laws of lists cut by their parts' lengths.
--     part_second, part_third    the second and the third of three parts
--     drop_take                  the end of a beginning
--     run_room                   the i-th of n runs of k elements has room where n have
-- Assumes nothing.
use mathlib.Core.Path.{◌≡◌, sym, ap, ◌∙◌}
use mathlib.Core.List.{List, [], ◌∷◌, ◌++◌}
use Prim.Native.Nat.{ℕ, zero, suc, ◌+◌, ◌-◌, ◌*◌, ◌≤◌, ◌<◌}
use native.Mathlib.Nat.{mul-suc, mul-le-mul_left, le_trans}
use native.Mathlib.Omega.{arith}
use lib.ListN.{length, take, drop}
use lib.Seq.{take_at, take-nil, drop_at, drop-drop}

pub part_second : (x y z : List ℕ) (m n : ℕ) → length x ≡ m → length y ≡ n → take n (drop m (x ++ (y ++ z))) ≡ y
part_second x y z m n e f = rw (drop_at x (y ++ z) m e) (take_at y z n f)

pub part_third : (x y z : List ℕ) (m n : ℕ) → length x ≡ m → length y ≡ n → drop (m + n) (x ++ (y ++ z)) ≡ z
part_third x y z m n e f = rw (← drop-drop n m (x ++ (y ++ z)), drop_at x (y ++ z) m e) (drop_at y z n f)

pub run_room : (k i n m : ℕ) → i < n → k * n ≤ m → k * i + k ≤ m
run_room k i n m h le = omega (arith, mul-suc k i, le_trans (mul-le-mul_left k h) le)

pub drop_take : {A : Type 0} (c j : ℕ) (l : List A) → drop c (take j l) ≡ take (j - c) (drop c l)
drop_take zero j l = ap (λ (n : ℕ). take n l) (all_left j)
  where
    all_left : (j : ℕ) → j ≡ j - 0
    all_left j = omega arith
drop_take (suc c) zero l = ap (λ (n : ℕ). take n (drop (suc c) l)) (none_left c)
  where
    none_left : (c : ℕ) → 0 ≡ 0 - suc c
    none_left c = omega arith
drop_take (suc c) (suc j) [] = sym (take-nil (suc j - suc c))
drop_take (suc c) (suc j) (x ∷ l) = drop_take c j l ∙ ap (λ (n : ℕ). take n (drop c l)) (same c j)
  where
    same : (c j : ℕ) → j - c ≡ suc j - suc c
    same c j = omega arith
