-- Which half of the phases a Barker symbol is decided as, at every chip, and what octet eight bits would be from there:
-- as rows by their rules. Symbols are 11 chips apart, so what belongs to one front stands 11 entries apart in a row.
-- Definitions only. Assumes nothing.
-- working notion: of the filter of a search; no promise needs it
use Rattle.std.specs.Prelude.{◌≡◌, List, [], ◌∷◌, ℕ, ◌+◌, ◌-◌, ◌*◌, ◌/◌, ◌%◌, ◌≤◌, ◌<◌, leb, length, get_or}
use Rattle.std.specs.Int.Bits.{bit_xor}
use mir.Val.{bool_byte}
use Rattle.base.specs.Tables.{tabulate}
use Rattle.rules_rates.specs.declared.Rate.TheVariants.{One}
use Rattle.rules_chips.specs.Chips.{Taken}
use Rattle.rules_symbols.specs.Choice.{decided}
use Rattle.rules_bits.specs.Bits.{◌⊕◌, number_of}
use Rattle.rules_frame.specs.declared.Kind.{Kind}
use Rattle.rules_frame.specs.Frame.{preamble_chips}
use Rattle.choose_recorded.specs.Recorded.{symbol_at}

-- ---- at a place of a recording

-- 1 where the Barker symbol whose chips start there is decided as phase 2 or 3, else 0; unusable chips count as nothing
unfoldable pub half_at : List Taken → ℕ → ℕ
half_at rec p = decided One (symbol_at One rec p) / 2

-- the bit, as it was sent, of the symbol after that one, if its growth is even
unfoldable pub bit_at : List Taken → ℕ → ℕ
bit_at rec p = half_at rec p ⊕ half_at rec (p + 11)

-- the bit 7 symbols after that one, unscrambled: by those 4 and 7 before it
unfoldable pub plain_at : List Taken → ℕ → ℕ
plain_at rec p = bit_at rec (p + 77) ⊕ bit_at rec (p + 33) ⊕ bit_at rec p

-- eight such bits, a symbol apart, as an octet
unfoldable pub octet_at : List Taken → ℕ → ℕ
octet_at rec p = number_of (tabulate (λ j. plain_at rec (p + 11 * j)) 8)

-- the halves that the SFD of a front is read from are those of 24 symbols, the last ones of the preamble
abbrev pub sfd_from : Kind → ℕ
sfd_from k = preamble_chips k - 264

-- ---- of octets of a hard recording

-- the I and Q of a full chip together, and 1 more
abbrev pub side_of : ℕ → ℕ
side_of x = get_or (2 ∷ 2 ∷ 0 ∷ 0 ∷ []) x 1

-- 1 where I and Q of a Barker symbol together are below 0, by the sides of its chips
abbrev pub half_of_eleven : ℕ → ℕ → ℕ → ℕ → ℕ → ℕ → ℕ → ℕ → ℕ → ℕ → ℕ → ℕ
half_of_eleven a b c d e f g h i j k = bool_byte (leb (a + c + d + f + g + h) (b + e + i + j + k))

-- and of eleven sides in a row
abbrev pub half_of_sides : List ℕ → ℕ
half_of_sides xs =
    half_of_eleven (get_or xs 0 0) (get_or xs 1 0) (get_or xs 2 0) (get_or xs 3 0) (get_or xs 4 0) (get_or xs 5 0)
    (get_or xs 6 0) (get_or xs 7 0) (get_or xs 8 0) (get_or xs 9 0) (get_or xs 10 0)

-- the first m of a row of 144 are the sides of the octets from a place
pub record Sides (octets : List ℕ) (at m : ℕ) (row : List ℕ) : Type 0 where
  pub long : length row ≡ 144
  pub each : (j : ℕ) → j < m → get_or row j 0 ≡ side_of (get_or octets (at + j) 0)

-- ---- rows of 512

-- the first m entries are by a rule; of the others nothing is said
pub record Row (f : ℕ → ℕ) (m : ℕ) (row : List ℕ) : Type 0 where
  pub long : length row ≡ 512
  pub each : (j : ℕ) → j < m → get_or row j 0 ≡ f j

-- n entries from l on are by a rule, those before as they were
pub record Added (f : ℕ → ℕ) (l : ℕ) (before after : List ℕ) (n : ℕ) : Type 0 where
  pub long : length after ≡ 512
  pub kept : (j : ℕ) → j < l → get_or after j 0 ≡ get_or before j 0
  pub each : (s : ℕ) → s < n → get_or after (l + s) 0 ≡ f s

-- the first l entries are by a rule, the others as they were
pub record Worked (f : ℕ → ℕ) (before : List ℕ) (l : ℕ) (row : List ℕ) : Type 0 where
  pub long : length row ≡ 512
  pub each : (j : ℕ) → j < l → get_or row j 0 ≡ f j
  pub kept : (j : ℕ) → l ≤ j → get_or row j 0 ≡ get_or before j 0

-- what each step makes of a row at entry j
abbrev pub half_of : List ℕ → List ℕ → ℕ → ℕ
half_of xs ys j =
    half_of_eleven (get_or xs j 0) (get_or ys (j + 1) 0) (get_or xs (j + 2) 0) (get_or ys (j + 3) 0) (get_or xs (j + 4) 0)
    (get_or ys (j + 5) 0) (get_or xs (j + 6) 0) (get_or ys (j + 7) 0) (get_or xs (j + 8) 0) (get_or ys (j + 9) 0)
    (get_or xs (j + 10) 0)

abbrev pub bit_of : List ℕ → ℕ → ℕ
bit_of xs j = bit_xor (get_or xs j 0) (get_or xs (j + 11) 0)

abbrev pub plain_of : List ℕ → ℕ → ℕ
plain_of xs j = bit_xor (bit_xor (get_or xs (j + 77) 0) (get_or xs (j + 33) 0)) (get_or xs j 0) % 2

-- joined with the entry so far on, which counts so much
abbrev pub joined_of : ℕ → ℕ → List ℕ → ℕ → ℕ
joined_of apart by xs j = get_or xs j 0 + by * get_or xs (j + apart) 0

-- the first m entries are below 4
pub record Small (m : ℕ) (row : List ℕ) : Type 0 where
  pub long : length row ≡ 512
  pub each : (j : ℕ) → j < m → get_or row j 0 < 4

-- entry j of a row of marks is not 0 where the four numbers below 16 from there, 4 symbols apart, are those of two
-- octets, low and high: no other is claimed
pub record MarkedOf (low high : ℕ) (fours : List ℕ) (m : ℕ) (marks : List ℕ) : Type 0 where
  pub long : length marks ≡ 512
  pub each : (j : ℕ) → j < m → get_or fours j 0 ≡ low % 16 → get_or fours (j + 44) 0 ≡ low / 16
      → get_or fours (j + 88) 0 ≡ high % 16 → get_or fours (j + 132) 0 ≡ high / 16 → get_or marks j 0 ≡ 0 → ⊥

-- and of a recording's octets from a place on
pub record Marked (low high : ℕ) (rec : List Taken) (at m : ℕ) (marks : List ℕ) : Type 0 where
  pub long : length marks ≡ 512
  pub each : (j : ℕ) → j < m → octet_at rec (at + j) ≡ low → octet_at rec (at + j + 88) ≡ high → get_or marks j 0 ≡ 0 → ⊥
