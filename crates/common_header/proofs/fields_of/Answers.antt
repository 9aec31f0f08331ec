-- `fields_of`: at each return the tests before it were passed and its own failed.
use mathlib.Core.Path.{ap, ◌∙◌}
use Prim.Native.Nat.{◌/◌, ◌%◌}
use Rattle.rules_rates.specs.declared.Rate.{Rate}
use Rattle.rules_calls.specs.Headers.{accepted_by, fields_of}
use Rattle.common_header.specs.Code.{octets_told}
use Rattle.common_header.proofs.Lengths.{told_fails, told_holds}
use Rattle.base.proofs.Tests.{failed, passed}
use Rattle.common_header.proofs.fields_of.Goals as goal

pub returns-then-not-signal_accepted : goal.returns-then-not-signal_accepted
unfolding fields_of
returns-then-not-signal_accepted c = record { answer = rw (failed c.signal_accepted.ensures.answer c.if-not-signal_accepted.true) }

pub returns-then-not-service_accepted : goal.returns-then-not-service_accepted
unfolding fields_of
returns-then-not-service_accepted c =
    let served = c.service_accepted.ensures.answer
    ∙ ap (λ (r : Rate). (accepted_by c.args.by).services r c.args.service) c.rate_of-rate.ensures.answer in
    record {
      answer = rw (
        passed c.signal_accepted.ensures.answer c.if-not-signal_accepted.false,
        failed served c.if-not-service_accepted.true,
      );
    }

-- what the functions say of the rate that SIGNAL names, past the first two tests
pub returns-in_default : goal.returns-in_default
unfolding fields_of
returns-in_default c =
    let r = c.rate_of-rate.ensures.answer in
    let served = c.service_accepted.ensures.answer
    ∙ ap (λ (r : Rate). (accepted_by c.args.by).services r c.args.service) r in
    let told = c.octets_told.ensures.answer
    ∙ ap (λ (r : Rate). octets_told r c.args.length (c.args.service / 128 % 2)) r in
    record {
      answer = rw (
        passed c.signal_accepted.ensures.answer c.if-not-signal_accepted.false,
        passed served c.if-not-service_accepted.false,
        told_fails _ _ _ _ told c.in_default.is,
      );
    }

pub returns : goal.returns
unfolding fields_of
returns c =
    let r = c.rate_of-rate.ensures.answer in
    let served = c.service_accepted.ensures.answer
    ∙ ap (λ (r : Rate). (accepted_by c.args.by).services r c.args.service) r in
    let told = c.octets_told.ensures.answer
    ∙ ap (λ (r : Rate). octets_told r c.args.length (c.args.service / 128 % 2)) r in
    let some = told_holds _ _ _ _ told _ c.in-Some.is in
    record {
      answer = rw (
        passed c.signal_accepted.ensures.answer c.if-not-signal_accepted.false,
        passed served c.if-not-service_accepted.false,
        some.0,
        some.1,
        r,
      );
    }
