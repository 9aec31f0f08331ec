-- `heard::look`: what is found, and the last phase, are those of the symbols left.
use Rattle.rules_rates.specs.declared.Rate.TheVariants.{One}
use Rattle.receive_parts.specs.Pieces.{new_words}
use Rattle.receive_parts.proofs.Looks.{Looks}
use Rattle.receive_parts.proofs.heard.look.Given as goal

abbrev pub invariant-loop-l : goal.invariant-loop-l
invariant-loop-l s = Looks s.at s.q s.last (new_words One s.h s.row) s.l s.p
