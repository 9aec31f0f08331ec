-- `odd::first_odd`: what is found in a block ends the search, and past one with nothing it goes on.
use native.Mathlib.Omega.{arith}
use Rattle.rules_chips.specs.Chips.{hard_recording}
use Rattle.small_calls.proofs.Blocks.{sought_at, sought_usable, sought_here, sought_more, sought_all}
use Rattle.small_calls.proofs.odd.first_odd.Goals as goal

pub block-odd-requires : goal.block-odd-requires
block-odd-requires c =
    let s = c.loop-k.invariant in
    let m = c.min.ensures in (
      omega (arith, m, c.loop-k-test.true),
      omega (arith, m),
      omega (arith, m, s.fits, c.requires.0),
      s.small,
      sought_usable _ s (omega (arith, m)) c.requires.2,
    )

pub returns-in-Some : goal.returns-in-Some
returns-in-Some c = record {
  answer = sought_here (hard_recording c.args.chips.now) _ _ _ _ _ _ _ c.loop-k.invariant (omega (arith, c.min.ensures))
      _ c.block-odd.ensures.answer _ c.in-Some.is;
}

pub loop-k-preserved : goal.loop-k-preserved
loop-k-preserved c =
    sought_at
    (sought_more (hard_recording c.args.chips.now) _ _ _ _ _ _ _ c.loop-k.invariant (omega (arith, c.min.ensures))
    _ c.block-odd.ensures.answer c.in_default.is)
    (omega (arith, c.min.ensures)) (omega (arith, c.min.ensures))

pub returns : goal.returns
returns c = record {
  answer = sought_all (hard_recording c.args.chips.now) _ _ _ c.loop-k.invariant (omega (arith, c.loop-k-test.false));
}
