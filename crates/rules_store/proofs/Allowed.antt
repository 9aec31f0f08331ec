-- What refusals 1, 2, 3 and 5 allow, in plain numbers.
--     allowed_is, is_allowed_lem     the definition and the seven pairs of kind and rate code
--     allowed_octets             allowed values are octets
-- Assumes nothing.
use mathlib.Core.Path.{◌≡◌, sym, ◌∙◌, subst}
use mathlib.Core.Bool.{true, ◌&&◌}
use Prim.Native.Nat.{ℕ, zero, suc, ◌≤◌, ◌<◌}
use native.Mathlib.Omega.{arith}
use borrow.Author.Tests.{le-ltb}
use lib.Dec.{ltb}
use Rattle.base.proofs.Tests.{left_is, right_is}
use Rattle.rules_rates.specs.declared.Rate.{Rate}
use Rattle.rules_rates.specs.declared.Rate.TheVariants.{One, Two, Five, Eleven}
use Rattle.rules_rates.specs.Rates.{is_code, rate_of, code_of}
use Rattle.rules_rates.proofs.Facts.{no_other_code}
use Rattle.rules_frame.specs.Frame.{is_kind, kind_of, goes_with, is_phase}
use Rattle.rules_frame.proofs.Phases.{is_phase_lem, phase_most}
use Rattle.rules_store.specs.Store.{allowed_settings}
use Rattle.rules_store.specs.Plain.{
  AllowedSettings,
  long_1,
  long_2,
  long_5,
  long_11,
  short_2,
  short_5,
  short_11,
}
use Rattle.rules_store.proofs.Places.{never}

pub allowed_is : {kind rate phase : ℕ} → AllowedSettings kind rate phase → allowed_settings kind rate phase ≡ true
allowed_is (long_1 phase h) = is_phase_lem phase h
allowed_is (long_2 phase h) = is_phase_lem phase h
allowed_is (long_5 phase h) = is_phase_lem phase h
allowed_is (long_11 phase h) = is_phase_lem phase h
allowed_is (short_2 phase h) = is_phase_lem phase h
allowed_is (short_5 phase h) = is_phase_lem phase h
allowed_is (short_11 phase h) = is_phase_lem phase h

-- by the kind and the rate
of_rate : (kind : ℕ) (r : Rate) (phase : ℕ) → ltb kind 2 ≡ true → goes_with (kind_of kind) r ≡ true → phase ≤ 3
    → AllowedSettings kind (code_of r) phase
of_rate zero One phase k g h = long_1 phase h
of_rate zero Two phase k g h = long_2 phase h
of_rate zero Five phase k g h = long_5 phase h
of_rate zero Eleven phase k g h = long_11 phase h
of_rate (suc zero) One phase k g h = absurd (never g)
of_rate (suc zero) Two phase k g h = short_2 phase h
of_rate (suc zero) Five phase k g h = short_5 phase h
of_rate (suc zero) Eleven phase k g h = short_11 phase h
of_rate (suc (suc kind)) r phase k g h = absurd (never (sym (le-ltb (suc (suc kind)) 2 (omega arith)) ∙ k))

pub is_allowed_lem : (kind rate phase : ℕ) → allowed_settings kind rate phase ≡ true → AllowedSettings kind rate phase
is_allowed_lem kind rate phase e =
    let a = is_kind kind in
    let b = is_code rate in
    let c = goes_with (kind_of kind) (rate_of rate) in
    let three = left_is (a && b && c) (is_phase phase) e in
    let two = left_is (a && b) c three in
    subst (λ (x : ℕ). AllowedSettings kind x phase) (sym (no_other_code rate (right_is a b two)))
    (of_rate kind (rate_of rate) phase (left_is a b two) (right_is (a && b) c three)
    (phase_most phase (right_is (a && b && c) (is_phase phase) e)))

octets : {kind rate phase : ℕ} → AllowedSettings kind rate phase → (kind < 256) × (rate < 256) × (phase < 256)
octets (long_1 phase h) = (omega arith, omega arith, omega arith)
octets (long_2 phase h) = (omega arith, omega arith, omega arith)
octets (long_5 phase h) = (omega arith, omega arith, omega arith)
octets (long_11 phase h) = (omega arith, omega arith, omega arith)
octets (short_2 phase h) = (omega arith, omega arith, omega arith)
octets (short_5 phase h) = (omega arith, omega arith, omega arith)
octets (short_11 phase h) = (omega arith, omega arith, omega arith)

pub allowed_octets : (kind rate phase : ℕ) → allowed_settings kind rate phase ≡ true
    → (kind < 256) × (rate < 256) × (phase < 256)
allowed_octets kind rate phase e = octets (is_allowed_lem kind rate phase e)
