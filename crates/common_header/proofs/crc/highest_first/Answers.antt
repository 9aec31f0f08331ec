-- The two octets are the register, and its bits turned round are its number.
use Rattle.std.proofs.Common.{◌≡◌, ℕ, ◌+◌, ◌*◌, ◌/◌, ◌%◌, ◌<◌, [], ◌∷◌, ap, ◌∙◌, append-nil, arith}
use Rattle.std.specs.Int.{reverse_bits_onto}
use Rattle.rules_bits.specs.Bits.{highest_first, octet_bits}
use Rattle.rules_bits.proofs.Bits.{bits_two}
use Rattle.common_header.proofs.Register.{turned_bits}
use Rattle.common_header.proofs.crc.highest_first.Goals as goal

turned : (f s : ℕ) → f < 256 → s < 256 → reverse_bits_onto 16 (f + s * 256) 0 ≡ highest_first (octet_bits (f ∷ s ∷ []))
unfolding octet_bits
turned f s h k =
    let low : (f + s * 256) % 256 ≡ f = omega arith in
    let high : (f + s * 256) / 256 ≡ s = omega arith in
    turned_bits 16 (f + s * 256) 0 ∙ rw (append-nil, bits_two, low, high) (omega arith)

pub returns : goal.returns
returns c =
    let f = c.args.first in
    let s = c.args.second in
    record {
      answer = c.reverse_bits.ensures
          ∙ ap (λ (n : ℕ). reverse_bits_onto 16 n 0) c.from_le_bytes.ensures
          ∙ turned f s (omega arith) (omega arith);
    }
