-- One octet more, and the register's complement as two.
use Rattle.std.proofs.Common.{◌≡◌, ℕ, ◌+◌, ◌-◌, ◌/◌, ◌%◌, ◌<◌, ◌≤◌, List, [], ◌∷◌, length, get_or, drop, sym, ap, ◌∙◌, add-one, drop-cons, drop_of_length-le, append-nil, arith}
use Rattle.rules_bits.specs.Bits.{bits_of, octet_bits}
use Rattle.rules_bits.specs.Crc.{remainder, complement, crc_bits}
use Rattle.rules_bits.proofs.Bits.{bits_two}
use Rattle.rules_bits.proofs.Crc.{remainder_append}
use Rattle.common_header.proofs.Register.{nots}
use Rattle.common_header.proofs.crc.crc_octets.Goals as goal

turn : (r s xs : List ℕ) (i : ℕ) → i < length xs → s ≡ remainder r (bits_of 8 (get_or xs i 0))
    → remainder s (octet_bits (drop (i + 1) xs)) ≡ remainder r (octet_bits (drop i xs))
unfolding octet_bits
turn r s xs i h e = sym (rw (drop-cons xs i 0, remainder_append, add-one, e))

ended : (r xs : List ℕ) (i : ℕ) → length xs ≤ i → remainder r (octet_bits (drop i xs)) ≡ r
unfolding remainder octet_bits
ended r xs i h = rw drop_of_length-le

-- the register's complement as two octets
halves : (r : ℕ) → r < 65536 → octet_bits ((65535 - r) % 256 ∷ (65535 - r) / 256 % 256 ∷ []) ≡ complement (bits_of 16 r)
unfolding octet_bits
halves r h =
    let small : (65535 - r) / 256 % 256 ≡ (65535 - r) / 256 = omega arith in
    rw (append-nil, small, ← bits_two (65535 - r)) (nots 16 r h)

crc_is : (r : ℕ) (xs : List ℕ) → bits_of 16 r ≡ remainder (bits_of 16 65535) (octet_bits xs)
    → complement (bits_of 16 r) ≡ crc_bits (octet_bits xs)
unfolding crc_bits bits_of
crc_is r xs e = ap complement e

pub loop-x-preserved : goal.loop-x-preserved
loop-x-preserved c =
    let l = c.loop-x in
    let xs = c.args.a ∷ c.args.b ∷ c.args.c ∷ c.args.d ∷ [] in
    record {
      left = turn (bits_of 16 l.r) _ xs l.x-index c.loop-x-test.true c.crc_octet-r.ensures.answer ∙ l.invariant.left;
      small = c.crc_octet-r.type_inv;
    }

pub returns : goal.returns
returns c =
    let l = c.loop-x in
    let xs : List ℕ = c.args.a ∷ c.args.b ∷ c.args.c ∷ c.args.d ∷ [] in
    record {
      answer = (
        rw c.to_le_bytes.ensures
            (halves l.r l.invariant.small
            ∙ crc_is l.r xs (sym (ended (bits_of 16 l.r) xs l.x-index c.loop-x-test.false) ∙ l.invariant.left)),
        rw c.to_le_bytes.ensures,
      );
    }
