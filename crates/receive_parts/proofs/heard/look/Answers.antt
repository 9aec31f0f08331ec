-- `heard::look`: a symbol grown by 1 or 3 ends the loop, and past one that is not it goes on.
use Rattle.std.proofs.Common.{refl, sym, arith, ◌/◌}
use Rattle.rules_rates.specs.declared.Rate.TheVariants.{One}
use Rattle.rules_chips.proofs.Recorders.{length_hard}
use Rattle.receive_parts.specs.Pieces.{new_words}
use Rattle.receive_parts.proofs.Rows.{found_place}
use Rattle.receive_parts.proofs.Looks.{
  row_long,
  row_each,
  row_small,
  looks_none,
  looks_odd,
  looks_more,
  looks_all,
  new_usable,
}
use Rattle.receive_parts.proofs.heard.look.Goals as goal

pub decide-requires : goal.decide-requires
decide-requires c =
    let row = c.args.row.now in (
      omega (arith, c.requires.0),
      omega (arith, c.requires.1, length_hard row),
      new_usable c.args.at c.args.h _ row refl c.requires.4 c.requires.1,
      refl,
      refl,
    )

pub loop-l-init : goal.loop-l-init
loop-l-init c = looks_none _ _ _ _ c.requires.3

pub overflow_add-n : goal.overflow_add-n
overflow_add-n c =
    let a = c.args in
    omega (
      arith,
      c.loop-l.invariant.small,
      row_small a.row.now _ a.h _ refl c.requires.0 c.decide.ensures.numbers c.loop-l.l c.loop-l-test.true,
    )

pub returns-then-n-p-eq1 : goal.returns-then-n-p-eq1
returns-then-n-p-eq1 c =
    let a = c.args in
    let few = c.requires.0 in
    let d = c.decide.ensures.numbers in
    let l = c.loop-l.l in
    let b = c.loop-l-test.true in
    let n = row_small a.row.now _ a.h _ refl few d l b in
    record {
      answer = record {
        odd_is = sym (looks_odd a.at (a.h / 11) a.last (new_words One a.h a.row.now) l _ _
            c.loop-l.invariant (rw (row_long a.row.now _ a.h _ refl few d) b)
            (row_each a.row.now _ a.h _ refl few d l b) n c.if-n-p-eq1.true);
        last_is = λ z. found_place _ z;
        small = n;
        odd_few = omega (arith, few, c.requires.2);
      };
    }

pub loop-l-preserved : goal.loop-l-preserved
loop-l-preserved c =
    let a = c.args in
    let few = c.requires.0 in
    let d = c.decide.ensures.numbers in
    let l = c.loop-l.l in
    let b = c.loop-l-test.true in
    looks_more a.at (a.h / 11) a.last (new_words One a.h a.row.now) l _ _
    c.loop-l.invariant (rw (row_long a.row.now _ a.h _ refl few d) b)
    (row_each a.row.now _ a.h _ refl few d l b) (row_small a.row.now _ a.h _ refl few d l b) c.if-n-p-eq1.false

pub returns : goal.returns
returns c =
    let a = c.args in
    let s = c.loop-l.invariant in
    let over = looks_all a.at (a.h / 11) a.last (new_words One a.h a.row.now) c.loop-l.l _ s
    (rw (row_long a.row.now _ a.h _ refl c.requires.0 c.decide.ensures.numbers) c.loop-l-test.false) in
    record { answer = record { odd_is = sym over.0; last_is = λ z. sym over.1; small = s.small; odd_few = tt } }
