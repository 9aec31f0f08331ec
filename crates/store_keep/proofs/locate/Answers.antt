-- At each return the tests before it were passed and its own failed. Assumes nothing.
use Rattle.std.proofs.Common.{◌≡◌, Err, sym, rules}
use Rattle.rules_store.proofs.Steps.{none_told, short, many, asked_not, rise}
use Rattle.store_keep.specs.Refusals.{number_of}
use Rattle.store_keep.proofs.Found.{nonzero, found}
use Rattle.store_keep.proofs.locate.Goals as goal

pub returns-then-store-lt2 : goal.returns-then-store-lt2
returns-then-store-lt2 c = record { answer = none_told _ c.if-store-lt2.true }

pub returns-then-store-n : goal.returns-then-store-n
returns-then-store-n c = record { answer = short _ _ c.from-n.ensures c.if-store-n.true }

pub returns-then-n-gt16 : goal.returns-then-n-gt16
returns-then-n-gt16 c = record { answer = many _ _ c.from-n.ensures c.if-store-n.false c.if-n-gt16.true }

pub returns-in_err-ask : goal.returns-in_err-ask
returns-in_err-ask c =
    let e = c.in_err-ask.field-0.0 in
    let r : c.from_residual.result ≡ Err e = search rules in
    record {
      answer = rw r
          (asked_not c.args.store.now c.from-n.result c.from-n.ensures c.if-store-n.false c.if-n-gt16.false (number_of e)
          c.in_err-ask.ensures.answer (nonzero e));
    }

pub find_three-requires : goal.find_three-requires
find_three-requires c = (
  c.if-store-n.false,
  rise c.args.store.now c.from-n.result c.from-n.ensures c.if-store-n.false c.if-n-gt16.false
      (sym c.in_ok-ask.ensures.answer),
)

pub returns : goal.returns
returns c =
    record {
      answer = found c.args.store.now c.from-n.result c.from-n.ensures c.if-store-n.false c.if-n-gt16.false
          (sym c.in_ok-ask.ensures.answer) c.find_three.result c.find_three.ensures.answer;
    }
