-- What is known of a line once decided words were heard on it, the first of them with a number of its own. Definitions
-- only. Assumes nothing.
-- working notion: of the code that hears blocks; no promise needs it
use Rattle.std.specs.Prelude.{◌≡◌, ℕ, ◌<◌, List, take}
use Rattle.rules_rates.specs.declared.Rate.{Rate}
use Rattle.rules_bits.specs.Bits.{octets_of}
use Rattle.rules_bits.specs.Growths.{heard, growths_of, last_heard}
use Rattle.rules_bits.specs.Scrambler.{descramble}
use Rattle.rules_bits.specs.Code.{past_of, past_after}
use Rattle.common_lines.specs.declared.Line.{Line}
use Rattle.rules_reading.specs.Reading.{odd_growth}
use Rattle.hear_blocks.specs.declared.Hearing.{Hearing}

-- the received bits of words on a line, the first of them number f
abbrev pub received : Rate → ℕ → Line → List ℕ → List ℕ
received r f l ws = heard r f l.phase ws

-- h is line l after words, the first of which is number f and starts at place `at`: the last eight bits received, the
-- last phase, and the place of the first word that is grown by 1 or 3 at 1 Mbit/s
pub record Heard (r : Rate) (f at : ℕ) (l : Line) (ws : List ℕ) (h : Hearing) : Type 0 where
  pub past : past_of h.line.past ≡ take 8 (past_after (past_of l.past) (received r f l ws))
  pub phase : h.line.phase ≡ last_heard r l.phase ws
  pub small : h.line.phase < 4
  pub place : h.odd ≡ odd_growth r at (growths_of r l.phase ws)

-- the bits received of words, unscrambled, and n octets of them
abbrev pub plain_bits : Rate → ℕ → Line → List ℕ → List ℕ
plain_bits r f l ws = descramble (past_of l.past) (received r f l ws)

abbrev pub plain_octets : Rate → ℕ → ℕ → Line → List ℕ → List ℕ
plain_octets r f n l ws = octets_of n (plain_bits r f l ws)
