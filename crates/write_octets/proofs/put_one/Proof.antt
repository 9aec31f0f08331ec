-- `write_octets::put_one` meets its contract: eight phases, each grown from the one before. Assumes nothing.
use borrow.Author.Rules.{rules}
use Rattle.rules_bits.specs.Bits.{bits_of}
use Rattle.rules_bits.specs.Growths.{symbol_of, symbols_from, chips_from, last_phase}
use Rattle.write_octets.specs.Sending.{symbols_at}
use Rattle.write_octets.specs.Line.{barker_words}
use Rattle.write_octets.proofs.put_one.Statement.{statement}
use Rattle.write_octets.proofs.put_one.Tie as tie

returns : tie.Need-returns
unfolding bits_of symbol_of symbols_from symbols_at chips_from last_phase barker_words
returns c = (cc, cc)

pub put_one_spec : {M : Type 1} → statement M
put_one_spec =
    tie.close
    (tie.spec
    (λ c κs. search rules) (λ c κs. search rules) (λ c κs. search rules) (λ c κs. search rules)
    (λ c κs. search rules) (λ c κs. search rules) (λ c κs. search rules) (λ c κs. search rules) (λ c. search rules)
    (λ c κs. search rules) (λ c. search rules) returns)
