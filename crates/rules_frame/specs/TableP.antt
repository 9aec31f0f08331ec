-- Table P (RULES 7): what the definitions compute is what the table prints, one statement over its twelve entries. An
-- entry is a list of rows. Definitions only. Assumes nothing.
use Rattle.std.specs.Prelude.{◌≡◌, false, List, [], ◌∷◌, map, ℕ, take, replicate}
use Rattle.rules_rates.specs.declared.Rate.{Rate}
use Rattle.rules_rates.specs.declared.Rate.TheVariants.{Five, Eleven}
use Rattle.rules_rates.specs.Rates.{length_field, bit7}
use Rattle.rules_chips.specs.declared.Chip.TheVariants.{Lost}
use Rattle.rules_chips.specs.Chips.{counts_of}
use Rattle.rules_symbols.specs.Words.{cck_word}
use Rattle.rules_symbols.specs.Choice.{decided}
use Rattle.rules_bits.specs.Growths.{symbol_of, chips_from}
use Rattle.rules_bits.specs.Scrambler.{scramble}
use Rattle.rules_bits.specs.Crc.{crc_bits}
use Rattle.rules_frame.specs.declared.Kind.TheVariants.{Long, Short}
use Rattle.rules_frame.specs.Frame.{start, preamble_bits, frame}

-- the chips of a 5.5 Mbit/s symbol with p1 = 0 and d2 d3 = a b: d0 d1 = 00 grows by 0
unfoldable pub five : ℕ → ℕ → List ℕ
five a b = chips_from Five 0 (symbol_of Five 0 (0 ∷ 0 ∷ a ∷ b ∷ []) ∷ [])

-- what the definitions compute, the clock bit not set; entry 4, in SYNC, is the same for every rate, clock and payload
unfoldable pub computed : Rate → List ℕ → List (List (List ℕ))
computed r payload =
    (scramble (start Long) (take 8 (preamble_bits Long)) ∷ [])
    ∷ (scramble (start Short) (take 8 (preamble_bits Short)) ∷ [])
    ∷ (crc_bits
    (0 ∷ 1 ∷ 0 ∷ 1 ∷ 0 ∷ 0 ∷ 0 ∷ 0 ∷ 0 ∷ 0 ∷ 0 ∷ 0 ∷ 0 ∷ 0 ∷ 0 ∷ 0
    ∷ 0 ∷ 0 ∷ 0 ∷ 0 ∷ 0 ∷ 0 ∷ 1 ∷ 1 ∷ 0 ∷ 0 ∷ 0 ∷ 0 ∷ 0 ∷ 0 ∷ 0 ∷ 0 ∷ [])
    ∷ [])
    ∷ (take 22 (frame Long r 0 false payload) ∷ [])
    ∷ (cck_word 0 0 0 0 ∷ [])
    ∷ (cck_word 1 1 0 0 ∷ [])
    ∷ (cck_word 0 1 2 3 ∷ [])
    ∷ (five 0 0 ∷ five 0 1 ∷ five 1 0 ∷ five 1 1 ∷ [])
    ∷ ((length_field Eleven 10 ∷ bit7 Eleven 10 ∷ []) ∷ (length_field Eleven 11 ∷ bit7 Eleven 11 ∷ []) ∷ [])
    ∷ ((length_field Eleven 1026 ∷ bit7 Eleven 1026 ∷ []) ∷ (length_field Eleven 4095 ∷ bit7 Eleven 4095 ∷ []) ∷ [])
    ∷ ((length_field Five 4095 ∷ []) ∷ [])
    ∷ ((decided Eleven (map counts_of (replicate 8 Lost)) ∷ []) ∷ [])
    ∷ []

-- what the table prints
unfoldable pub printed : List (List (List ℕ))
printed =
    ((0 ∷ 1 ∷ 1 ∷ 1 ∷ 1 ∷ 1 ∷ 1 ∷ 0 ∷ []) ∷ [])
    ∷ ((0 ∷ 0 ∷ 0 ∷ 1 ∷ 1 ∷ 0 ∷ 0 ∷ 1 ∷ []) ∷ [])
    ∷ ((0 ∷ 1 ∷ 0 ∷ 1 ∷ 1 ∷ 0 ∷ 1 ∷ 1 ∷ 0 ∷ 1 ∷ 0 ∷ 1 ∷ 0 ∷ 1 ∷ 1 ∷ 1 ∷ []) ∷ [])
    ∷ ((0 ∷ 2 ∷ 0 ∷ 0 ∷ 2 ∷ 0 ∷ 0 ∷ 0 ∷ 2 ∷ 2 ∷ 2 ∷ 2 ∷ 0 ∷ 2 ∷ 2 ∷ 0 ∷ 2 ∷ 2 ∷ 2 ∷ 0 ∷ 0 ∷ 0 ∷ []) ∷ [])
    ∷ ((0 ∷ 0 ∷ 0 ∷ 2 ∷ 0 ∷ 0 ∷ 2 ∷ 0 ∷ []) ∷ [])
    ∷ ((2 ∷ 1 ∷ 2 ∷ 3 ∷ 2 ∷ 1 ∷ 0 ∷ 1 ∷ []) ∷ [])
    ∷ ((2 ∷ 1 ∷ 0 ∷ 1 ∷ 3 ∷ 2 ∷ 3 ∷ 0 ∷ []) ∷ [])
    ∷ ((1 ∷ 0 ∷ 1 ∷ 2 ∷ 1 ∷ 0 ∷ 3 ∷ 0 ∷ [])
    ∷ (3 ∷ 2 ∷ 3 ∷ 0 ∷ 1 ∷ 0 ∷ 3 ∷ 0 ∷ [])
    ∷ (3 ∷ 0 ∷ 3 ∷ 2 ∷ 3 ∷ 0 ∷ 1 ∷ 0 ∷ [])
    ∷ (1 ∷ 2 ∷ 1 ∷ 0 ∷ 3 ∷ 0 ∷ 1 ∷ 0 ∷ [])
    ∷ [])
    ∷ ((8 ∷ 1 ∷ []) ∷ (8 ∷ 0 ∷ []) ∷ [])
    ∷ ((747 ∷ 1 ∷ []) ∷ (2979 ∷ 1 ∷ []) ∷ [])
    ∷ ((5957 ∷ []) ∷ [])
    ∷ ((0 ∷ []) ∷ [])
    ∷ []

-- promise: Table P, twelve entries, one statement
-- rule: 7, 9.3
abbrev pub TableP : Type 0
TableP = (r : Rate) (payload : List ℕ) → computed r payload ≡ printed
