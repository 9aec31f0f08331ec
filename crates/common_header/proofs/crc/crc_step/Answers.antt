-- The register as a number.
use Rattle.std.proofs.Common.{arith}
use Rattle.common_header.proofs.Register.{stepped_none}
use Rattle.common_header.proofs.crc.crc_step.Goals as goal

pub returns : goal.returns
returns c = record { answer = stepped_none c.args.r (omega arith) }
