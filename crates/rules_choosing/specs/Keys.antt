-- Keys: of h + h words, the words n and n + h opposite, the better of the two has the key (h + h) s + (h + h - 1 -
-- number). The largest key is the word that is chosen, and the second largest the one next to it.
-- Definitions only. Assumes nothing.
-- working notion: of the choice by keys; no promise needs it
use Rattle.std.specs.Prelude.{ℕ, suc, ◌+◌, ◌*◌, ◌-◌, ◌≤◌, ◌<◌, ◌≡◌, cond, ℤ, pos, negsuc, ltb}
use Rattle.std.specs.Int.Signed.{lt_z}

abbrev pub larger : ℤ → ℤ → ℤ
larger a b = cond (lt_z a b) b a

abbrev pub smaller : ℤ → ℤ → ℤ
smaller a b = cond (lt_z a b) a b

abbrev pub bigger : ℕ → ℕ → ℕ
bigger x y = cond (ltb x y) y x

abbrev pub lesser : ℕ → ℕ → ℕ
lesser x y = cond (ltb x y) x y

-- the key of the better of words n and n + h, whose scores are z and -z
unfoldable pub key_of : ℕ → ℕ → ℤ → ℕ
key_of h n (pos s) = (h + h) * s + (h + h - 1 - n)
key_of h n (negsuc s) = (h + h) * suc s + (h + h - 1 - (n + h))

-- x is the largest of the keys from a to before b: that of p
pub record Largest (k : ℕ → ℕ) (a b x : ℕ) : Type 0 where
  pub p : ℕ
  pub from : a ≤ p
  pub to : p < b
  pub is : x ≡ k p
  pub top : (j : ℕ) → a ≤ j → j < b → k j ≤ x

-- x and y are the two largest of the keys from a to before b: y is that of q, the largest but for x
pub record TwoLargest (k : ℕ → ℕ) (a b x y : ℕ) : Type 0 where
  pub largest : Largest k a b x
  pub q : ℕ
  pub from : a ≤ q
  pub to : q < b
  pub other : q ≡ largest.p → ⊥
  pub is : y ≡ k q
  pub next : (j : ℕ) → a ≤ j → j < b → (j ≡ largest.p → ⊥) → k j ≤ y

-- two whole numbers are the two largest of them
pub record HoldsTwo (k : ℕ → ℕ) (a b : ℕ) (first second : ℤ) : Type 0 where
  pub x : ℕ
  pub y : ℕ
  pub is_x : first ≡ pos x
  pub is_y : second ≡ pos y
  pub two : TwoLargest k a b x y
