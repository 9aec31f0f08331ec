-- Rows of the table, computed from the definitions and compared with RULES 6.22 and 6.23: few of whole recordings, the
-- rest of the parts that they are made of. Assumes nothing.
use mathlib.Core.Path.{◌≡◌, refl}
use mathlib.Core.List.{List, [], ◌∷◌, ◌++◌}
use Prim.Native.Nat.{ℕ, ◌^◌}
use lib.IntN.{pos, negsuc}
use lib.ListN.{replicate}
use Rattle.rules_rates.specs.declared.Rate.TheVariants.{One, Two, Five, Eleven}
use Rattle.rules_rates.specs.Rates.{octets_read}
use Rattle.rules_chips.specs.Chips.{hard_recording}
use Rattle.rules_symbols.specs.Words.{barker_word}
use Rattle.rules_symbols.specs.Choice.{score, those, going, first_largest, decided}
use Rattle.rules_bits.specs.Bits.{bits_of, highest_first}
use Rattle.rules_bits.specs.Crc.{add_where, crc_step, remainder, crc_bits}
use Rattle.rules_frame.specs.Frame.{field_bits}
use Rattle.rules_reading.specs.Reading.{front_by, reading_of}
use Rattle.rules_why.specs.Why.{growth_at, service_left, length_for, reason, why_of}

-- before a chip is looked at: 1, by numbers past 255, 2^32 among them; 8, of an empty recording, of five chips, and a
-- chip short of each front, whatever the chips are
early : why_of 2 [] 1 ∷ why_of 258 (7 ∷ []) 1 ∷ why_of (2 ^ 32) [] 0
    ∷ why_of 0 [] 1 ∷ why_of 0 (0 ∷ 1 ∷ 2 ∷ 3 ∷ 9 ∷ []) 1 ∷ why_of 0 (replicate 2111 5) 1 ∷ why_of 1 (replicate 1055 0) 1
    ∷ []
    ≡ reason 1 0 0 2 ∷ reason 1 0 0 258 ∷ reason 1 0 0 4294967296
    ∷ reason 8 0 2112 0 ∷ reason 8 0 2112 5 ∷ reason 8 0 2112 2111 ∷ reason 8 0 1056 1055 ∷ []
unfolding hard_recording front_by reading_of why_of
early = refl

symbols : List ℕ
symbols = barker_word 0 ++ (barker_word 1 ++ (barker_word 3 ++ barker_word 0))

-- 10: symbols of phases 0, 1, 3 and 0 grew by 1, by 2 and by 1; by the place of the later of the two
grown : growth_at 11 (hard_recording symbols) ∷ growth_at 22 (hard_recording symbols) ∷ growth_at 33 (hard_recording symbols)
    ∷ []
    ≡ 1 ∷ 2 ∷ 1 ∷ []
unfolding symbols hard_recording barker_word score those going first_largest decided
grown = refl

-- 12: the CRC of the standard's example, a header of 192 microseconds at 1 Mbit/s, its first bit the highest
crc : highest_first (crc_bits (field_bits 10 0 192)) ≡ 0x5B57
unfolding bits_of highest_first add_where crc_step remainder crc_bits field_bits
crc = refl

-- 14: bit 2 alone is taken away, at 11 Mbit/s bit 7 too; none of the others
left : service_left One 0x4D ∷ service_left Two 0xFF ∷ service_left Five 128 ∷ service_left Eleven 0xCD
    ∷ service_left Eleven 0xFF ∷ service_left Eleven 1 ∷ []
    ≡ 0x49 ∷ 0xFB ∷ 128 ∷ 0x49 ∷ 0x7B ∷ 1 ∷ []
left = refl

-- 15: the LENGTH of the octets that a LENGTH says: 15 is one octet's and seven microseconds, 7 is none's; 32,768 is of
-- 4,096 octets at 1 Mbit/s. At 11 Mbit/s LENGTH 0 with bit 7 says -1 octets, and 4 with bit 7 says 4, which are 3
wanted : length_for One (octets_read One 15 0) ∷ length_for One (octets_read One 7 0)
    ∷ length_for One (octets_read One 32760 0) ∷ length_for One (octets_read One 32768 0)
    ∷ length_for Two (octets_read Two 7 0) ∷ length_for Five (octets_read Five 4 0)
    ∷ length_for Eleven (octets_read Eleven 0 1) ∷ length_for Eleven (octets_read Eleven 4 1) ∷ length_for Eleven (negsuc 0)
    ∷ length_for Eleven (pos 4096) ∷ []
    ≡ 8 ∷ 0 ∷ 32760 ∷ 0 ∷ 4 ∷ 3 ∷ 0 ∷ 3 ∷ 0 ∷ 0 ∷ []
wanted = refl
