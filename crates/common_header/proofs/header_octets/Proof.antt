-- `common_header::header_octets` meets its contract: SIGNAL, SERVICE and LENGTH are those that are sent. Assumes
-- nothing.
use mathlib.Core.Path.{◌≡◌, ap₂, ◌∙◌}
use mathlib.Core.Bool.{Bool}
use Prim.Native.Nat.{ℕ, ◌+◌, ◌*◌}
use native.Mathlib.Omega.{arith}
use borrow.Author.Rules.{rules}
use Rattle.rules_rates.specs.declared.Rate.{Rate}
use Rattle.rules_rates.specs.Rates.{code_of, length_field}
use Rattle.rules_frame.specs.Frame.{service_field, header_bits, sent_header}
use Rattle.rules_frame.proofs.Headers.{clock_lt, clock_byte}
use Rattle.rules_calls.proofs.ReadBack.{code_small}
use Rattle.common_header.proofs.header_octets.Statement.{statement}
use Rattle.common_header.proofs.header_octets.Tie as tie

cast_signal : tie.Need-overflow_cast-signal
cast_signal c = rw c.code-signal.ensures (omega (arith, code_small c.args.r))

mul_service : tie.Need-overflow_mul-service
mul_service c =
    record { fits = omega (arith, clock_byte c.args.clock, clock_lt c.args.clock) }

add_service : tie.Need-overflow_add-service
add_service c =
    let clock = c.args.clock in
    record { fits = omega (arith, clock_byte clock, clock_lt clock, c.bit7.ensures.1) }

sent : (r : Rate) (clock : Bool) (n s v l : ℕ) → s ≡ code_of r → v ≡ service_field r clock n → l ≡ length_field r n
    → header_bits s v l ≡ sent_header r clock n
unfolding sent_header
sent r clock n s v l es ev el = rw (es, ev, el)

returns : tie.Need-returns
returns c =
    let last = c.octets_of.ensures in (
      last.0
          ∙ sent _ _ _ _ _ _ c.code-signal.ensures
          (ap₂ {C = ℕ} (λ x y. 4 * x + 128 * y) (clock_byte c.args.clock)
          c.bit7.ensures.0)
          c.length_field-micros.ensures.0,
      last.1,
    )

pub header_octets_spec : {M : Type 1} → statement M
header_octets_spec =
    tie.close
    (tie.spec
    (λ c κs. search rules) cast_signal (λ c. search rules) mul_service (λ c κs. search rules) (λ c. search rules)
    add_service (λ c κs. search rules) (λ c. search rules) (λ c κs. search rules) returns)
