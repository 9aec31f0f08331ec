-- `find_sweep::two` meets its contract: what counts at most 4 times 3 fits. Assumes nothing.
use Prim.Native.Nat.{ℕ, ◌*◌, ◌≤◌, ◌<◌}
use native.Mathlib.Omega.{arith}
use borrow.Author.Rules.{rules}
use native.Mathlib.Nat.{mul-le-mul_left}
use Rattle.find_sweep.proofs.two.Statement.{statement}
use Rattle.find_sweep.proofs.two.Tie as tie

-- the part that counts
few : (by b : ℕ) → by ≤ 4 → b < 4 → by * b ≤ 12
few by b h k = let l : b ≤ 3 = omega arith in omega (arith, mul-le-mul_left by l)

pub two_spec : {M : Type 1} → statement M
two_spec =
    tie.close
    (tie.spec
    (λ c. omega (arith, few _ _ c.requires.0 c.requires.2))
    (λ c. omega (arith, c.requires.1, few _ _ c.requires.0 c.requires.2)) (λ c. search rules))
