-- Numbers below 16 compared with those of an SFD's two octets, entry by entry.
-- Assumes nothing.
use mathlib.Core.Path.{◌≡◌, refl, sym, ◌∙◌, subst}
use mathlib.Core.List.{List}
use Prim.Native.Nat.{ℕ, ◌+◌, ◌/◌, ◌%◌, ◌≤◌, ◌<◌}
use native.Mathlib.Decide.{dec_lt}
use native.Mathlib.Omega.{arith}
use lib.ListN.{length, get_or, set, length-set}
use lib.Seq.{get_or-set_same, get_or-set_other}
use Rattle.find_sweep.specs.Sweep.{MarkedOf}

-- the first l entries are marks of a row as it was, the others as they were
pub record Comparing (low high : ℕ) (before : List ℕ) (l : ℕ) (row : List ℕ) : Type 0 where
  pub marked : MarkedOf low high before l row
  pub kept : (j : ℕ) → l ≤ j → get_or row j 0 ≡ get_or before j 0

pub comparing_none : (low high : ℕ) (row : List ℕ) → length row ≡ 512 → Comparing low high row 0 row
comparing_none low high row e = record {
  marked = record { long = e; each = λ j l. absurd (omega arith) };
  kept = λ j l. refl;
}

-- what is claimed of a mark v at entry j
abbrev Right : ℕ → ℕ → List ℕ → ℕ → ℕ → Type 0
Right low high xs j v =
    get_or xs j 0 ≡ low % 16 → get_or xs (j + 44) 0 ≡ low / 16 → get_or xs (j + 88) 0 ≡ high % 16
    → get_or xs (j + 132) 0 ≡ high / 16 → v ≡ 0 → ⊥

pub comparing_more : {low high : ℕ} {before row : List ℕ} {l : ℕ} (v : ℕ) → l < 512 → Right low high row l v
    → Comparing low high before l row → Comparing low high before (l + 1) (set row l v)
comparing_more {low} {high} {before} {row} {l} v h e w = record {
  marked = record { long = length-set row l v ∙ w.marked.long; each = λ j k. by j k (dec_lt j l) };
  kept = λ j k. get_or-set_other row l j v 0 (λ q. omega arith) ∙ w.kept j (omega arith);
}
  where
    here : Right low high before l (get_or (set row l v) l 0)
    here a b c d z =
        e (w.kept l (omega arith) ∙ a) (w.kept (l + 44) (omega arith) ∙ b) (w.kept (l + 88) (omega arith) ∙ c)
        (w.kept (l + 132) (omega arith) ∙ d) (sym (get_or-set_same row l v 0 (omega (arith, w.marked.long))) ∙ z)

    by : (j : ℕ) → j < l + 1 → Dec (j < l) → Right low high before j (get_or (set row l v) j 0)
    by j k (yes p) a b c d z =
        w.marked.each j p a b c d (sym (get_or-set_other row l j v 0 (λ q. omega arith)) ∙ z)
    by j k (no p) a b c d z =
        let q : l ≡ j = omega arith in
        subst (λ (n : ℕ). Right low high before n (get_or (set row l v) n 0)) q here a b c d z

pub comparing_all : {low high : ℕ} {before row : List ℕ} {l n : ℕ} → n ≤ l → Comparing low high before l row
    → MarkedOf low high before n row
comparing_all h w = record { long = w.marked.long; each = λ j k. w.marked.each j (omega arith) }
