-- What is left: the octets from the index on.
use Rattle.std.proofs.Common.{◌≡◌, ◌<◌, drop}
use Rattle.rules_bits.specs.Bits.{bits_of, octet_bits}
use Rattle.rules_bits.specs.Crc.{remainder}
use Rattle.common_header.proofs.crc.crc_octets.Given as goal

abbrev pub invariant-loop-x : goal.invariant-loop-x
invariant-loop-x l = record {
  left : remainder (bits_of 16 l.r) (octet_bits (drop l.x-index l.x-items))
      ≡ remainder (bits_of 16 65535) (octet_bits l.x-items);
  small : l.r < 65536;
}
