-- Table P holds: its twelve entries are computed together. Assumes nothing.
use mathlib.Core.Path.{refl}
use Rattle.rules_symbols.specs.Words.{barker_word, cck_word}
use Rattle.rules_symbols.specs.Choice.{score, those, going, first_largest, decided}
use Rattle.rules_bits.specs.Bits.{bits_of, octet_bits}
use Rattle.rules_bits.specs.Growths.{growth, symbol_of, symbols_from, symbols_of, chips_from, last_phase}
use Rattle.rules_bits.specs.Scrambler.{mixed, scramble}
use Rattle.rules_bits.specs.Crc.{add_where, crc_step, remainder, crc_bits}
use Rattle.rules_frame.specs.Frame.{
  preamble_bits,
  field_bits,
  header_bits,
  sent_header,
  frame_bits,
  sent_bits,
  parts_chips,
  framed,
  frame,
}
use Rattle.rules_frame.specs.TableP.{TableP, computed, printed, five}

pub table_p : TableP
unfolding
    computed printed five
    barker_word cck_word score those going first_largest decided
    bits_of octet_bits growth symbol_of symbols_from symbols_of chips_from last_phase mixed scramble add_where crc_step
    remainder crc_bits
    preamble_bits field_bits header_bits sent_header frame_bits sent_bits parts_chips framed frame
table_p r payload = refl
