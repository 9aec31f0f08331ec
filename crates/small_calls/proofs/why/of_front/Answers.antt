-- `why::of_front`: 10 by its place, 11 to 15 by what was heard.
use mathlib.Core.Path.{◌≡◌, sym, ◌∙◌}
use Prim.Native.Nat.{ℕ}
use Rattle.std.proofs.Common.{rules}
use Rattle.rules_chips.specs.Chips.{hard_recording}
use Rattle.rules_calls.specs.declared.Refusal.TheVariants.{OddGrowth}
use Rattle.rules_calls.specs.Headers.{ours}
use Rattle.small_calls.proofs.OfFront.{odd_front, front_header}
use Rattle.small_calls.proofs.why.of_front.Goals as goal

pub growth_at-requires : goal.growth_at-requires
growth_at-requires c =
    let a = c.args in
    let r = c.requires in
    let opened = c.told-front.ensures.answer (hard_recording a.chips.now) r.1 in
    let odd = c.in-Err-OddGrowth in
    let is : odd.field-0 ≡ OddGrowth odd.place odd.length = search rules in
    odd_front 0 a.kind a.chips.now a.room _ (sym opened.told ∙ odd.is) _ _ is r.0.1 r.0.2

pub returns-in-Err : goal.returns-in-Err
returns-in-Err c =
    let a = c.args in
    let r = c.requires in
    let opened = c.told-front.ensures.answer (hard_recording a.chips.now) r.1 in
    let other : (p l : ℕ) → c.in-Err.e ≡ OddGrowth p l → ⊥ = λ p l q. search rules in
    record {
      answer = λ number. front_header number a.kind a.chips.now a.room _ (sym opened.told ∙ c.in-Err.is) (r.0.0 ours)
          other r.1.sfd r.1.header c.of_header.ensures.answer;
    }
