-- The worked values of RULES 2.6, 2.4 and 2.8, computed from the definitions: each float by its bit pattern, each octet
-- and byte by what it is taken as. One statement a table.
-- Assumes nothing.
use mathlib.Core.Path.{◌≡◌, refl}
use mathlib.Core.Bool.{Bool, true, false}
use mathlib.Core.List.{List, [], ◌∷◌, ◌++◌, map}
use Prim.Native.Nat.{ℕ, ◌*◌, ◌^◌}
use lib.ListN.{replicate}
use lib.IntN.{ℤ, pos, neg_ℤ, ◌-ℤ◌}
use lib.Ieee.{Float, binary32, of_bits}
use Rattle.base.specs.Tables.{tabulate}
use Rattle.rules_chips.specs.declared.Chip.TheVariants.{Soft}
use Rattle.rules_chips.specs.Floats.{steps, usable, nearest, count_of}
use Rattle.rules_chips.specs.Chips.{
  pair,
  nothing,
  exact_of,
  unusable,
  counted,
  hard_taken,
  soft_recording,
  byte_counts,
  byte_exact,
  byte_recording,
}

-- the count of a bit pattern, and whether it is usable
unfoldable pub pattern_count : ℕ → ℤ
unfolding of_bits count_of
pattern_count b = count_of (of_bits binary32 b)

unfoldable pub pattern_usable : ℕ → Bool
unfolding of_bits usable
pattern_usable b = usable (of_bits binary32 b)

-- 1, 2^-11, 3·2^-11, 5·2^-11, -3·2^-11, 0, -0, and the smallest subnormal
abbrev pub WorkedCounts : Type 0
WorkedCounts =
    map pattern_count
    (0x3f80_0000 ∷ 0x3a00_0000 ∷ 0x3ac0_0000 ∷ 0x3b20_0000 ∷ 0xbac0_0000 ∷ 0 ∷ 0x8000_0000 ∷ 1 ∷ [])
    ≡ pos 1024 ∷ pos 0 ∷ pos 2 ∷ pos 2 ∷ neg_ℤ (pos 2) ∷ pos 0 ∷ pos 0 ∷ pos 0 ∷ []

pub worked_counts : WorkedCounts
unfolding pattern_count
worked_counts = refl

-- 8 and -8 are usable; the next beyond each, both infinities and a NaN are not
abbrev pub edge_patterns : List ℕ
edge_patterns =
    0x4100_0000 ∷ 0xc100_0000 ∷ 0x4100_0001 ∷ 0xc100_0001 ∷ 0x7f80_0000 ∷ 0xff80_0000 ∷ 0x7fc0_0000 ∷ []

abbrev pub Edges : Type 0
Edges =
    (map pattern_usable edge_patterns ≡ true ∷ true ∷ false ∷ false ∷ false ∷ false ∷ false ∷ [])
    × (map pattern_count edge_patterns ≡ pos 8192 ∷ neg_ℤ (pos 8192) ∷ pos 0 ∷ pos 0 ∷ pos 0 ∷ pos 0 ∷ pos 0 ∷ [])

pub edges : Edges
unfolding pattern_usable pattern_count
edges = (refl, refl)

-- promise: All 256 octets: 0 to 3 are phases, 4 is lost, 5 to 255 are unusable
-- rule: 2.4, 2.5
abbrev pub Octets : Type 0
Octets =
    map hard_taken (tabulate (λ x. x) 256)
    ≡ (counted (pair (pos 1024) (pos 0))
    ∷ counted (pair (pos 0) (pos 1024))
    ∷ counted (pair (neg_ℤ (pos 1024)) (pos 0))
    ∷ counted (pair (pos 0) (neg_ℤ (pos 1024)))
    ∷ counted nothing
    ∷ [])
    ++ replicate 251 unusable

pub octets : Octets
unfolding tabulate
octets = refl

-- soft rows, chip by chip: (1, -3·2^-11), (2^-11, 8), (1, NaN), (an infinity, 0), and a fifth I without its Q
abbrev floats : List ℕ → List Float
floats bs = map (of_bits binary32) bs

abbrev pub SoftRows : Type 0
SoftRows =
    soft_recording (floats (0x3f80_0000 ∷ 0x3a00_0000 ∷ 0x3f80_0000 ∷ 0x7f80_0000 ∷ 0 ∷ []))
    (floats (0xbac0_0000 ∷ 0x4100_0000 ∷ 0x7fc0_0000 ∷ 0 ∷ []))
    ≡ counted (pair (pos 1024) (neg_ℤ (pos 2))) ∷ counted (pair (pos 0) (pos 8192)) ∷ unusable ∷ unusable ∷ []

pub soft_rows : SoftRows
unfolding of_bits steps usable nearest count_of soft_recording
soft_rows = refl

-- the exact value of the soft chip (1, -2^-149), in steps of 2^-149
abbrev pub SoftExact : Type 0
SoftExact =
    exact_of (Soft (record { i = of_bits binary32 0x3f80_0000; q = of_bits binary32 0x8000_0001 }))
    ≡ pair (pos (2 ^ 149)) (neg_ℤ (pos 1))

pub soft_exact : SoftExact
unfolding of_bits steps
soft_exact = refl

-- a row of bytes: I first, 16 times, down to -128; the seventh byte is no chip
abbrev pub ByteRow : Type 0
ByteRow =
    byte_recording
    (pos 64 ∷ neg_ℤ (pos 128) ∷ pos 1 ∷ neg_ℤ (pos 1) ∷ pos 127 ∷ pos 0 ∷ neg_ℤ (pos 64) ∷ [])
    ≡ counted (pair (pos 1024) (neg_ℤ (pos 2048)))
    ∷ counted (pair (pos 16) (neg_ℤ (pos 16)))
    ∷ counted (pair (pos 2032) (pos 0))
    ∷ []

pub byte_row_lem : ByteRow
unfolding byte_recording
byte_row_lem = refl

-- every byte, from -128 to 127: as I and as Q 16 times itself
abbrev pub ByteTable : Type 0
ByteTable =
    tabulate (λ k. byte_counts (pos k -ℤ pos 128) (pos 127 -ℤ pos k)) 256
    ≡ tabulate (λ k. pair (pos (16 * k) -ℤ pos 2048) (pos 2032 -ℤ pos (16 * k))) 256

pub byte_table : ByteTable
unfolding tabulate
byte_table = refl

-- the exact value of the bytes 64 and -1, in steps of 2^-149
abbrev pub ByteExactly : Type 0
ByteExactly = byte_exact (pos 64) (neg_ℤ (pos 1)) ≡ pair (pos (2 ^ 149)) (neg_ℤ (pos (2 ^ 143)))

pub byte_exactly : ByteExactly
byte_exactly = refl
