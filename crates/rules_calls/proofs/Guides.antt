-- What three fields come to for a guide of 1997, for every SIGNAL, SERVICE and LENGTH.
--     signal_neither    13 with LENGTH where SIGNAL is neither 10 nor 20, whatever SERVICE and LENGTH are
--     service_set       14 with LENGTH where it is and SERVICE is not 0, whatever LENGTH is
--     not_55, not_110   rates that a guide does not know
--     fields_ours       else just what our own readers make of them under the long kind: 15, or what is told
-- By the tests of the definition (`Accepting`), and what the guides' set of SIGNALs and SERVICEs has. Assumes nothing.
use Rattle.std.specs.Prelude.{Err}
use mathlib.Core.Path.{◌≡◌, refl, sym, subst}
use mathlib.Core.Bool.{true, false}
use Prim.Native.Nat.{ℕ}
use native.Mathlib.Omega.{arith}
use borrow.Author.Tests.{ne_eqb}
use Rattle.rules_frame.specs.declared.Kind.{Kind}
use Rattle.rules_frame.specs.declared.Kind.TheVariants.{Long}
use Rattle.rules_calls.specs.declared.Refusal.TheVariants.{Signal, Service}
use Rattle.rules_calls.specs.Headers.{ours, of1997, fields_of}
use Rattle.rules_calls.specs.Plain.{Rate1997, at_1, at_2}
use Rattle.rules_calls.proofs.Accepting.{signal_refused, service_refused}

known : (k : Kind) {signal : ℕ} → Rate1997 signal → of1997.signals k signal ≡ true
known k at_1 = refl
known k at_2 = refl

unknown : (k : Kind) (signal : ℕ) → (Rate1997 signal → ⊥) → of1997.signals k signal ≡ false
unknown k signal h =
    rw (
      ne_eqb signal 10 (λ e. h (subst Rate1997 (sym e) at_1)),
      ne_eqb signal 20 (λ e. h (subst Rate1997 (sym e) at_2)),
    )

pub not_55 : {rate : ℕ} → rate ≡ 55 → Rate1997 rate → ⊥
not_55 e at_1 = omega arith
not_55 e at_2 = omega arith

pub not_110 : {rate : ℕ} → rate ≡ 110 → Rate1997 rate → ⊥
not_110 e at_1 = omega arith
not_110 e at_2 = omega arith

pub signal_neither : (k : Kind) (signal service l : ℕ) → (Rate1997 signal → ⊥)
    → fields_of of1997 k signal service l ≡ Err (Signal l)
signal_neither k signal service l h = signal_refused of1997 k signal service l (unknown k signal h)

pub service_set : (k : Kind) (signal service l : ℕ) → Rate1997 signal → (service ≡ 0 → ⊥)
    → fields_of of1997 k signal service l ≡ Err (Service l)
service_set k signal service l s h = service_refused of1997 k signal service l (known k s) (ne_eqb service 0 h)

-- promise: What three fields come to for a guide of 1997, for every SIGNAL, SERVICE and LENGTH: 13 where SIGNAL is
-- neither 10 nor 20, then 14 where SERVICE is not 0, each with the LENGTH read and whatever is asked after it; else
-- what our own readers make of them under the long kind
-- rule: 6.30
-- code: fields_of, signal_accepted, service_accepted
-- with: signal_neither, service_set
pub fields_ours : (signal service l : ℕ) → Rate1997 signal → service ≡ 0
    → fields_of of1997 Long signal service l ≡ fields_of ours Long signal service l
unfolding fields_of
fields_ours signal service l at_1 e = rw e
fields_ours signal service l at_2 e = rw e
