use Rattle.std.proofs.Common.{length, arith, to_z-of_z}
use Rattle.base.proofs.Whole.{within_zero}
use Rattle.base.proofs.Adding.{within_pos}
use Rattle.choose_walsh.proofs.Stages.{four_more_lem}
use Rattle.choose_stages.proofs.Columns.{scaled_column, place_fits}
use Rattle.choose_stages.proofs.four.Goals as goal

pub entered-c0-requires : goal.entered-c0-requires
entered-c0-requires g c =
    (c.requires.6, omega (arith, c.requires.0, c.requires.2, c.loop-l-test.true), within_pos 16, within_zero 4)

pub entered-c1-requires : goal.entered-c1-requires
entered-c1-requires g c =
    (c.requires.6, omega (arith, c.requires.0, c.requires.2, c.loop-l-test.true), within_pos 16, within_zero 4)

pub entered-c2-requires : goal.entered-c2-requires
entered-c2-requires g c = (
  c.requires.6,
  omega (arith, c.requires.0, c.requires.2, c.loop-l-test.true),
  rw (to_z-of_z c.ranges.third) c.requires.3,
  within_zero 4,
)

pub offset_bounds-z-a-in-loop-l : goal.offset_bounds-z-a-in-loop-l
offset_bounds-z-a-in-loop-l g c =
    place_fits _ (length c.args.z.now) _ (omega (arith, c.requires.1, c.requires.2, c.loop-l-test.true))
    (omega (arith, c.well_formed))

pub offset_bounds-z-a-in-loop-l-2 : goal.offset_bounds-z-a-in-loop-l-2
offset_bounds-z-a-in-loop-l-2 g c =
    place_fits _ (length c.args.z.now) _ (omega (arith, c.requires.1, c.requires.2, c.loop-l-test.true))
    (omega (arith, c.well_formed))

pub offset_bounds-z-a-in-loop-l-3 : goal.offset_bounds-z-a-in-loop-l-3
offset_bounds-z-a-in-loop-l-3 g c =
    place_fits _ (length c.args.z.now) _ (omega (arith, c.requires.1, c.requires.2, c.loop-l-test.true))
    (omega (arith, c.well_formed))

pub loop-l-preserved : goal.loop-l-preserved
loop-l-preserved g c = (
  omega (arith, c.loop-l-test.true),
  scaled_column g.T.Lane.value c.args.z.now c.loop-l.z c.loop-l.invariant.1 c.loop-l-test.true
      (omega (arith, c.requires.1, c.requires.2)) c.entered-c0.ensures.answer c.entered-c1.ensures.answer
      c.entered-c2.ensures.answer c.entered-c3.ensures.answer,
  four_more_lem c.loop-l.invariant.2 c.entered-c0.ensures.small c.entered-c1.ensures.small
      c.entered-c2.ensures.small c.entered-c3.ensures.small,
)
