-- `why::of_header`: each arm shows its row of the table, by the header's octets.
use mathlib.Core.Path.{◌≡◌, refl}
use Prim.Native.Nat.{ℕ}
use lib.ListN.{length, get_or}
use mir.Syntax.{w8}
use mir.Val.{Fits}
use Rattle.std.proofs.Common.{rules}
use Rattle.base.specs.Below.{Below}
use Rattle.rules_bits.specs.Bits.{octet_bits}
use Rattle.rules_calls.specs.declared.Refusal.TheVariants.{Signal, Service, Length}
use Rattle.small_calls.proofs.Header.{row_of, signal_row, service_row, length_row, micros_row}
use Rattle.small_calls.proofs.why.of_header.Goals as goal

pub returns-in-Signal : goal.returns-in-Signal
returns-in-Signal c =
    let a = c.args in
    let six : length a.header ≡ 6 = search rules in
    let fits : (i : ℕ) → Fits w8 (get_or a.header i 0) = λ i. search rules in
    let octets : Below 256 a.header = record { at = λ i. (fits i).fits } in
    record {
      answer = row_of a.kind (octet_bits a.sfd) (octet_bits a.header) a.e (Signal _) c.refused-in-Signal.ensures.answer
          c.in-Signal.is refl (signal_row a.header six octets);
    }

pub returns-in-Service : goal.returns-in-Service
returns-in-Service c =
    let a = c.args in
    let six : length a.header ≡ 6 = search rules in
    let fits : (i : ℕ) → Fits w8 (get_or a.header i 0) = λ i. search rules in
    let octets : Below 256 a.header = record { at = λ i. (fits i).fits } in
    record {
      answer = row_of a.kind (octet_bits a.sfd) (octet_bits a.header) a.e (Service _) c.refused-in-Service.ensures.answer
          c.in-Service.is refl
          (service_row a.header six octets _ c.rate_of-r.ensures.answer c.service_left.ensures.answer);
    }

pub returns-in-Length : goal.returns-in-Length
returns-in-Length c =
    let a = c.args in
    let six : length a.header ≡ 6 = search rules in
    let fits : (i : ℕ) → Fits w8 (get_or a.header i 0) = λ i. search rules in
    let octets : Below 256 a.header = record { at = λ i. (fits i).fits } in
    record {
      answer = row_of a.kind (octet_bits a.sfd) (octet_bits a.header) a.e (Length _) c.refused-in-Length.ensures.answer
          c.in-Length.is
          (length_row a.header six octets _ c.rate_of-r.ensures.answer _ c.both-length.ensures.answer.0
          c.length_for-expected.ensures.answer)
          (micros_row a.header six octets _ c.both-length.ensures.answer.0);
    }
