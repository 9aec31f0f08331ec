-- `search`: 256 offsets after 256. A start ends the search; without one the next offsets meet one of 8 to 15 too, and
-- the halves are carried on.
use mathlib.Core.Path.{◌≡◌, ap}
use Prim.Native.Nat.{ℕ, ◌+◌, ◌-◌, ◌/◌, ◌%◌, ◌≤◌, ◌<◌, min}
use native.Mathlib.Omega.{arith}
use lib.ListN.{length}
use Rattle.rules_chips.specs.Chips.{hard_recording}
use Rattle.rules_chips.proofs.Recorders.{length_hard}
use Rattle.rules_frame.specs.declared.Kind.{Kind}
use Rattle.rules_frame.specs.declared.Kind.TheVariants.{Long, Short}
use Rattle.rules_frame.specs.Frame.{preamble_chips, front_chips}
use Rattle.find_start.proofs.Windows.{unmarked, window_hit, window_miss, window_end, carried}
use Rattle.find_start.proofs.search.Goals as goal

enough : (k : Kind) → (264 ≤ preamble_chips k) × (preamble_chips k + 264 ≤ front_chips k) × (front_chips k ≤ 2112)
enough Long = (omega arith, omega arith, omega arith)
enough Short = (omega arith, omega arith, omega arith)

-- the next offsets, as many as go at once, have the chips of a front behind them
module _ (k : Kind) (chips tried at preamble count : ℕ) (left : at < tried) (p : preamble ≡ preamble_chips k)
    (n : count ≡ min (tried - at) 256) (there : 0 < tried → tried + front_chips k ≤ chips + 1) where
  within : at + count ≤ tried
  within = omega (arith, n, left)

  inside : at + count ≤ chips
  inside = omega (arith, within, left, p, enough k, there (omega arith))

pub seek-requires : goal.seek-requires
seek-requires c =
    let a = c.args in
    let few : c.min-count.result ≤ 256 = omega (arith, c.min-count.ensures) in (
      few,
      inside a.kind (length a.chips.now) _ _ _ _ c.loop-at-test.true
          c.preamble_chips-from.ensures.answer c.min-count.ensures c.tries-tried.ensures.answer.1,
      unmarked a.kind (hard_recording a.chips.now) _ _ _ _ _ _
          (c.marks.ensures.row _ _ _ few c.decide.ensures.halves)
          (ap (λ (n : ℕ). n - 264) c.preamble_chips-from.ensures.answer)
          (ap (λ (n : ℕ). n % 256) c.sfd_of-sfd.ensures.answer) (ap (λ (n : ℕ). n / 256) c.sfd_of-sfd.ensures.answer),
    )

pub returns-in-Ok : goal.returns-in-Ok
returns-in-Ok c =
    let a = c.args in
    record {
      answer = window_hit a.kind (hard_recording a.chips.now) _ _ _ _ _ c.seek.ensures.answer c.loop-at.invariant.2
          (within a.kind (length a.chips.now) _ _ _ _ c.loop-at-test.true c.preamble_chips-from.ensures.answer
          c.min-count.ensures c.tries-tried.ensures.answer.1)
          c.tries-tried.ensures.answer.0 _ c.in-Ok.is;
    }

pub loop-at-preserved : goal.loop-at-preserved
loop-at-preserved c =
    let a = c.args in
    let few : c.min-count.result ≤ 256 = omega (arith, c.min-count.ensures) in (
      c.advance.ensures.halves.long,
      (c.marks.ensures.row _ _ _ few c.decide.ensures.halves).long,
      window_miss a.kind (hard_recording a.chips.now) _ _ 0 _ _ c.seek.ensures.answer c.loop-at.invariant.2
          c.min-count.ensures _ c.in_default.is,
      λ l. carried (hard_recording a.chips.now) _ _ _ _ _ (omega (arith, c.min-count.ensures))
          c.decide.ensures.halves c.advance.ensures.halves,
    )

pub returns : goal.returns
returns c = record {
  answer = window_end c.args.kind (hard_recording c.args.chips.now) _ _ _ (omega (arith, c.loop-at-test.false))
      c.loop-at.invariant.2 (rw (length_hard c.args.chips.now) c.tries-tried.ensures.answer.2);
}

pub returns-in_default : goal.returns-in_default
returns-in_default c = record {
  answer = window_end c.args.kind (hard_recording c.args.chips.now) (c.loop-at.at + 256) _ _ (omega arith)
      (window_miss c.args.kind (hard_recording c.args.chips.now) _ _ 0 _ _ c.seek.ensures.answer c.loop-at.invariant.2
      c.min-count.ensures _ c.in_default.is)
      (rw (length_hard c.args.chips.now) c.tries-tried.ensures.answer.2);
}
