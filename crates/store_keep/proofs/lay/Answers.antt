-- A refusal leaves zeros, else the store is put. Assumes nothing.
use Rattle.std.proofs.Common.{arith}
use Rattle.base.proofs.Tests.{failed, passed}
use Rattle.rules_store.proofs.Allowed.{allowed_octets}
use Rattle.rules_store.proofs.Returns.{wrong_left, short_left, put_left}
use Rattle.store_keep.proofs.lay.Goals as goal

pub returns-then-not-allowed-clause-answer : goal.returns-then-not-allowed-clause-answer
returns-then-not-allowed-clause-answer c =
    (wrong_left _ _ _ c.args.store.now _ c.fill.ensures.row (failed c.allowed.ensures.answer c.if-not-allowed.true)).0

pub returns-then-not-allowed-clause-store : goal.returns-then-not-allowed-clause-store
returns-then-not-allowed-clause-store c =
    (wrong_left _ _ _ c.args.store.now _ c.fill.ensures.row (failed c.allowed.ensures.answer c.if-not-allowed.true)).1

pub returns-then-store-lt17-clause-answer : goal.returns-then-store-lt17-clause-answer
returns-then-store-lt17-clause-answer c =
    (short_left _ _ _ c.args.store.now (passed c.allowed.ensures.answer c.if-not-allowed.false) _
    c.fill-then-store-lt17.ensures.row c.if-store-lt17.true).0

pub returns-then-store-lt17-clause-store : goal.returns-then-store-lt17-clause-store
returns-then-store-lt17-clause-store c =
    (short_left _ _ _ c.args.store.now (passed c.allowed.ensures.answer c.if-not-allowed.false) _
    c.fill-then-store-lt17.ensures.row c.if-store-lt17.true).1

pub overflow_cast-kind : goal.overflow_cast-kind
overflow_cast-kind c =
    omega (
      arith,
      (allowed_octets c.args.kind c.args.rate c.args.phase (passed c.allowed.ensures.answer c.if-not-allowed.false)).0,
    )

pub overflow_cast-rate : goal.overflow_cast-rate
overflow_cast-rate c =
    omega (
      arith,
      (allowed_octets c.args.kind c.args.rate c.args.phase (passed c.allowed.ensures.answer c.if-not-allowed.false)).1,
    )

pub overflow_cast-phase : goal.overflow_cast-phase
overflow_cast-phase c =
    omega (
      arith,
      (allowed_octets c.args.kind c.args.rate c.args.phase (passed c.allowed.ensures.answer c.if-not-allowed.false)).2,
    )

pub returns-clause-answer : goal.returns-clause-answer
returns-clause-answer c =
    (put_left _ _ _ c.args.store.now (passed c.allowed.ensures.answer c.if-not-allowed.false) _ c.if-store-lt17.false
    c.put.ensures.store).0

pub returns-clause-store : goal.returns-clause-store
returns-clause-store c =
    (put_left _ _ _ c.args.store.now (passed c.allowed.ensures.answer c.if-not-allowed.false) _ c.if-store-lt17.false
    c.put.ensures.store).1
