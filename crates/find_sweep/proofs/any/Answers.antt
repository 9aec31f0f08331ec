-- What is gathered is nothing only where nothing was. Assumes nothing.
use Rattle.std.proofs.Common.{◌≡◌, ℕ, get_or, refl, sym, ◌∙◌, below_more, length-take, arith}
use Prim.Native.Nat.{◌/◌, ◌%◌}
use native.Mathlib.Nat.{le-max_left}
use lib.Arith.{bin_ind}
use lib.Bits.{bit_or, or_step, or_comm}
use lib.Seq.{get_or-take}
use Rattle.find_sweep.proofs.any.Goals as goal

or_none : (a b : ℕ) → bit_or a b ≡ 0 → a ≡ 0
or_none =
    bin_ind (λ (n : ℕ). (b : ℕ) → bit_or n b ≡ 0 → n ≡ 0) (λ b e. refl)
    (λ n ih b e.
    let low = ih (b / 2) (omega (arith, or_step n b)) in
    omega (arith, or_step n b, le-max_left (n % 2) (b % 2)))

pub loop-mark-preserved : goal.loop-mark-preserved
loop-mark-preserved c e =
    let marks = c.args.marks.now in
    let l = c.loop-mark.mark-index in
    let here = get_or-take 256 marks l 0 (omega (arith, length-take 256 marks)) in
    below_more (λ j. get_or marks j 0 ≡ 0) l (c.loop-mark.invariant (or_none c.loop-mark.all _ e))
    (sym here ∙ or_none _ c.loop-mark.all (or_comm _ c.loop-mark.all ∙ e))
