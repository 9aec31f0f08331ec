-- A header is 48 bits, whatever its three fields.
--     header_length_lem, header_below    of any fields
--     sent_length, sent_below        of the header that is sent
--     clock_some                     a clock is yes for every number but 0
--     clock_lt, clock_byte           its bit is a bit, and the octet that stands for a yes or no
-- Assumes nothing.
use mathlib.Core.Path.{◌≡◌, refl, ap, ap₂, ◌∙◌}
use mathlib.Core.Bool.{Bool, true, false, not}
use Prim.Native.Nat.{ℕ, suc, ◌+◌, ◌<◌}
use native.Mathlib.Omega.{arith}
use borrow.Author.Tests.{ne_eqb}
use lib.ListN.{length, length-append}
use mir.Val.{bool_byte}
use Rattle.base.specs.Below.{Below}
use Rattle.base.proofs.Below.{below_append}
use Rattle.rules_rates.specs.declared.Rate.{Rate}
use Rattle.rules_bits.specs.Bits.{bits_of}
use Rattle.rules_bits.specs.Crc.{crc_bits}
use Rattle.rules_bits.proofs.Bits.{bits_below}
use Rattle.rules_bits.proofs.Crc.{crc_length, crc_below}
use Rattle.rules_frame.specs.Frame.{clock_of, clock_bit, field_bits, header_bits, sent_header}

pub clock_some : (clock : ℕ) → clock_of (suc clock) ≡ true
clock_some clock = ap not (ne_eqb (suc clock) 0 (λ e. omega arith))

pub clock_lt : (clock : Bool) → clock_bit clock < 2
clock_lt true = omega arith
clock_lt false = omega arith

pub clock_byte : (clock : Bool) → bool_byte clock ≡ clock_bit clock
clock_byte true = refl
clock_byte false = refl

module _ (s v l : ℕ) where
  fields_length : length (field_bits s v l) ≡ 32
  unfolding field_bits bits_of
  fields_length = refl

  pub header_length_lem : length (header_bits s v l) ≡ 48
  unfolding header_bits
  header_length_lem =
      length-append (field_bits s v l) (crc_bits (field_bits s v l))
      ∙ ap₂ {C = ℕ} (λ a b. a + b) fields_length (crc_length (field_bits s v l))

  fields_below : Below 2 (field_bits s v l)
  unfolding field_bits
  fields_below = below_append (bits_below 8 s) (below_append (bits_below 8 v) (bits_below 16 l))

  pub header_below : Below 2 (header_bits s v l)
  unfolding header_bits
  header_below = below_append fields_below (crc_below (field_bits s v l))

pub sent_length : (r : Rate) (clock : Bool) (n : ℕ) → length (sent_header r clock n) ≡ 48
unfolding sent_header
sent_length r clock n = header_length_lem _ _ _

pub sent_below : (r : Rate) (clock : Bool) (n : ℕ) → Below 2 (sent_header r clock n)
unfolding sent_header
sent_below r clock n = header_below _ _ _
