-- The layout of a store as a function from pieces, a tag and its body each, to octets (RULES 6.24); what a write
-- answers and leaves (RULES 6.26).
-- Definitions only. Assumes nothing.
use Rattle.std.specs.Prelude.{ℕ, suc, ◌+◌, ◌-◌, ◌/◌, ◌%◌, ◌≤◌, ◌<◌, cond, not, length, replicate, eqb, ltb}
use mathlib.Core.List.{List, [], ◌∷◌, ◌++◌, Memᴰ}
use Rattle.base.specs.Below.{Below}
use Rattle.rules_store.specs.Store.{table_end, allowed_settings}
use Rattle.rules_store.specs.Plain.{AllowedSettings}

pub record Piece : Type 0 where
  pub tag : ℕ
  pub body : List ℕ

-- the table's octets, the first body being at `at`
unfoldable pub table_from : ℕ → List Piece → List ℕ
table_from at [] = []
table_from at (p ∷ ps) =
    p.tag ∷ at % 256 ∷ at / 256 ∷ length p.body ∷ table_from (at + length p.body) ps

unfoldable pub bodies : List Piece → List ℕ
bodies [] = []
bodies (p ∷ ps) = p.body ++ bodies ps

unfoldable pub laid_out : ℕ → List Piece → List ℕ
laid_out version ps = version ∷ length ps ∷ (table_from (table_end (length ps)) ps ++ bodies ps)

-- ---- what some writer, perhaps a newer one, may lay out

-- tags that rise strictly, the first from `least` on
unfoldable pub Rises : ℕ → List Piece → Type 0
Rises least [] = Unit {0}
Rises least (p ∷ ps) = (least ≤ p.tag) × Rises (suc p.tag) ps

pub record Writable (ps : List Piece) : Type 0 where
  pub few : length ps ≤ 16
  pub rises : Rises 0 ps
  pub tags : (p : Piece) → Memᴰ p ps → p.tag < 256
  pub sizes : (p : Piece) → Memᴰ p ps → length p.body ≤ 255
  pub octets : (p : Piece) → Memᴰ p ps → Below 256 p.body

-- one octet under a tag
abbrev pub setting : ℕ → ℕ → Piece
setting tag value = record { tag = tag; body = value ∷ [] }

-- pieces with the three required, one octet each, with allowed values
pub record Carries (kind rate phase : ℕ) (ps : List Piece) : Type 0 where
  pub kind_there : Memᴰ (setting 1 kind) ps
  pub rate_there : Memᴰ (setting 2 rate) ps
  pub phase_there : Memᴰ (setting 3 phase) ps
  pub good : AllowedSettings kind rate phase

-- ---- writing: version 1, three entries

abbrev pub store_of : ℕ → ℕ → ℕ → List ℕ
store_of kind rate phase = laid_out 1 (setting 1 kind ∷ setting 2 rate ∷ setting 3 phase ∷ [])

abbrev pub store_octets : ℕ
store_octets = 17

-- 28, then 29
-- promise: in writing a store, the octet buffer is shorter than 17 octets
-- rule: 6.4 (29), 6.26
-- code: store_keep::write
unfoldable pub store_written : ℕ → ℕ → ℕ → ℕ → ℕ
store_written kind rate phase room =
    cond (not (allowed_settings kind rate phase)) 28 (cond (ltb room store_octets) 29 0)

-- zeros after the store are no part of it; zeros after either refusal
unfoldable pub write_left : ℕ → ℕ → ℕ → ℕ → List ℕ
write_left kind rate phase room =
    cond (eqb (store_written kind rate phase room) 0) (store_of kind rate phase ++ replicate (room - store_octets) 0)
    (replicate room 0)
