-- `sound::takes`: by the status.
use Rattle.std.proofs.Common.{arith}
use Rattle.std.proofs.lemmas.Bool.Decides.{nat_tests}
use Rattle.rules_receiving.specs.Calls.{takes}
use Rattle.receive_calls.proofs.sound.takes.Goals as goal

pub returns-then-p-room : goal.returns-then-p-room
unfolding takes
returns-then-p-room c = record { answer = grind (arith, nat_tests) }

pub returns-in-1 : goal.returns-in-1
unfolding takes
returns-in-1 c = record { answer = grind (arith, nat_tests) }

pub returns-in-2 : goal.returns-in-2
unfolding takes
returns-in-2 c = record { answer = grind (arith, nat_tests) }

pub returns-in-3 : goal.returns-in-3
unfolding takes
returns-in-3 c = record { answer = grind (arith, nat_tests) }

pub returns-in_default : goal.returns-in_default
unfolding takes
returns-in_default c = record { answer = grind (arith, nat_tests) }
