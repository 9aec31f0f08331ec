-- What the code's line stands for, and words one after the other. Definitions only. Assumes nothing.
-- working notion: of the code that sends octets; no promise needs it
use Rattle.std.specs.Prelude.{ℕ, List, [], ◌∷◌, ◌++◌}
use Rattle.rules_symbols.specs.Words.{barker_word}
use Rattle.common_lines.specs.declared.Line.{Line}
use Rattle.rules_bits.specs.Code.{past_of}
use Rattle.write_octets.specs.Sending.{State}

-- the octet sent last is eight outputs, the first lowest
abbrev pub state : Line → State
state l = record { past = past_of l.past; phase = l.phase }

-- the Barker words of phases, one after the other
unfoldable pub barker_words : List ℕ → List ℕ
barker_words [] = []
barker_words (p ∷ ps) = barker_word p ++ barker_words ps
