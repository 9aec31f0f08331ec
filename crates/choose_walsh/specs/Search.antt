-- The search for the two largest keys of a column, group after group: the sixteen words of a group share p3 and p4, and
-- its last butterfly, by p2, gives the key of the best of them and the next.
-- Definitions only. Assumes nothing.
-- working notion: of the butterflies; no promise needs it
use Rattle.std.specs.Prelude.{◌≡◌, cond, List, ℕ, ◌+◌, ◌*◌, ◌-◌, ◌/◌, ◌%◌, ◌≤◌, ◌<◌, length, get_or, ℤ, pos, negsuc, nat_abs, ◌+ℤ◌, T, ◌≤ℤ◌, ◌<ℤ◌}
use Rattle.std.specs.Int.Signed.{lt_z, non_neg}
use Rattle.rules_chips.specs.declared.Counts.{Counts}
use Rattle.rules_choosing.specs.Keys.{larger, smaller}
use Rattle.choose_walsh.specs.Turns.{fly, top_of, next_of}
use Rattle.choose_walsh.specs.Rows.{row_at, evens, odds}

-- the two keys of group g, 4 p3 + p4, in column l
abbrev pub group_top : List ℤ → ℕ → ℕ → ℤ
group_top a l g = top_of (odds a l (g / 4) (g % 4)) (evens a l (g / 4) (g % 4))

abbrev pub group_next : List ℤ → ℕ → ℕ → ℤ
group_next a l g = next_of (odds a l (g / 4) (g % 4)) (evens a l (g / 4) (g % 4))

-- what a column has so far: the largest key, the next, and the group of the first
pub record Held : Type 0 where
  pub first : ℤ
  pub second : ℤ
  pub group : ℕ

abbrev pub held : ℤ → ℤ → ℕ → Held
held v t g = record { first = v; second = t; group = g }

-- one group more, whose keys are v and t
unfoldable pub merged : Held → ℤ → ℤ → ℕ → Held
merged h v t g =
    held (larger h.first v) (larger h.second (larger (smaller h.first v) t))
    (cond (lt_z h.first v) g h.group)

-- one group more, from its last butterfly; and the four groups of one p3, from the first stage
abbrev pub met : Held → Counts → Counts → ℕ → Held
met h y x g = merged h (top_of y x) (next_of y x) g

unfoldable pub four_more : Held → Counts → Counts → Counts → Counts → ℕ → Held
four_more h q p f e g =
    met (met (met (met h (fly q p 0) (fly f e 0) g) (fly q p 1) (fly f e 1) (g + 1)) (fly q p 2) (fly f e 2) (g + 2))
    (fly q p 3) (fly f e 3) (g + 3)

-- v is the largest of the first n keys and g its place, the first of several; of none it is below all keys
pub record Leads (k : ℕ → ℤ) (n : ℕ) (v : ℤ) (g : ℕ) : Type 0 where
  pub top : (j : ℕ) → j < n → k j ≤ℤ v
  pub first : (j : ℕ) → j < g → k j <ℤ v
  pub some : 0 < n → (g < n) × (v ≡ k g)
  pub none : n ≡ 0 → (g ≡ 0) × (v <ℤ negsuc 0)

-- t is the largest of those keys but that of g, and of the first n next ones: none is above it, and it is not above
-- what is above them all
pub record Follows (k m : ℕ → ℤ) (n g : ℕ) (t : ℤ) : Type 0 where
  pub low : negsuc 1 ≤ℤ t
  pub others : (j : ℕ) → j < n → (j ≡ g → ⊥) → k j ≤ℤ t
  pub nexts : (j : ℕ) → j < n → m j ≤ℤ t
  pub least : (b : ℤ) → negsuc 1 ≤ℤ b → ((j : ℕ) → j < n → (j ≡ g → ⊥) → k j ≤ℤ b)
      → ((j : ℕ) → j < n → m j ≤ℤ b) → t ≤ℤ b

pub record Seeks (k m : ℕ → ℤ) (n : ℕ) (h : Held) : Type 0 where
  pub leads : Leads k n h.first h.group
  pub follows : Follows k m n h.group h.second

-- what column l has
abbrev pub held_at : List ℤ → List ℤ → List ℕ → ℕ → Held
held_at first second at l = held (get_or first l (pos 0)) (get_or second l (pos 0)) (get_or at l 0)

-- so in each of sixteen columns, for the first n groups
pub record Sought (a : List ℤ) (n : ℕ) (first second : List ℤ) (at : List ℕ) : Type 0 where
  pub first_long : length first ≡ 16
  pub second_long : length second ≡ 16
  pub at_long : length at ≡ 16
  pub each : (l : ℕ) → l < 16 → Seeks (group_top a l) (group_next a l) n (held_at first second at l)

-- the groups of one p3 more, in the columns below n
pub record Quartered (a : List ℤ) (p3 : ℕ) (first second : List ℤ) (at : List ℕ) (n : ℕ) (first' second' : List ℤ)
    (at' : List ℕ) : Type 0 where
  pub first_long : length first' ≡ length first
  pub second_long : length second' ≡ length second
  pub at_long : length at' ≡ length at
  pub each : (l : ℕ) → l < n → held_at first' second' at' l
      ≡ four_more (held_at first second at l) (row_at a (384 + 32 * p3) l) (row_at a (128 + 32 * p3) l)
      (row_at a (256 + 32 * p3) l) (row_at a (0 + 32 * p3) l) (4 * p3)
  pub kept : (l : ℕ) → n ≤ l → held_at first' second' at' l ≡ held_at first second at l

-- two keys and a group in each of sixteen columns, of which a word and its lead can be read off
pub record Keyed (first second : List ℤ) (at : List ℕ) : Type 0 where
  pub first_long : length first ≡ 16
  pub second_long : length second ≡ 16
  pub at_long : length at ≡ 16
  pub key : (l : ℕ) → l < 16 → T (non_neg (get_or first l (pos 0)))
  pub place : (l : ℕ) → l < 16 → get_or at l 0 < 16
  pub next : (l : ℕ) → l < 16 → negsuc 1 ≤ℤ get_or second l (pos 0)
  pub order : (l : ℕ) → l < 16 → get_or second l (pos 0) ≤ℤ get_or first l (pos 0)

-- the number of a group as the code holds it; what is below 0 is none of the sixteen
abbrev pub group_of : ℤ → ℕ
group_of (pos n) = n
group_of (negsuc n) = 16 + n

-- the number of the word that has a key, in the group g
abbrev pub word_of_key : ℤ → ℕ → ℕ
word_of_key v g = 16 * (15 - (nat_abs v % 16 + 11) % 16) + g

-- the score of a key, and what the first of two is ahead by
abbrev pub size_of : ℤ → ℕ
size_of v = nat_abs (v +ℤ pos 11) / 16

abbrev pub lead_of_keys : ℤ → ℤ → ℕ
lead_of_keys v t = size_of v - size_of t
