-- `heard::largest`: none of the octets passed is above the largest so far.
use Rattle.receive_parts.specs.Pieces.{NoneAbove}
use Rattle.receive_parts.proofs.heard.largest.Given as goal

abbrev pub invariant-loop-octet : goal.invariant-loop-octet
invariant-loop-octet l = NoneAbove l.most l.row l.octet-index
