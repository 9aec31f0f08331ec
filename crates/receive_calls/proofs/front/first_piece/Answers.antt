-- `front::first_piece`: the chips are held, and the first symbol begins the line once it is whole.
use Rattle.std.proofs.Common.{◌≡◌, ℕ, min, ◌+◌, ◌<◌, ◌≤◌, refl, subst, sym, ap, ◌∙◌, Bool, true, false, not, arith}
use Rattle.std.specs.Prelude.{Option, None, is_some}
use Rattle.rules_receiving.specs.declared.Ear.{Ear}
use Rattle.receive_calls.specs.Steps.{advanced, Begun}
use Rattle.receive_calls.proofs.Firsts.{first_starts, first_waits}
use Rattle.receive_calls.proofs.front.first_piece.Goals.{
  then-is_none+then-n-eq11,
  else-is_none,
  else-is_none-via-then-is_none+else-n-eq11,
  else-is_none-via-else-is_none,
}
use Rattle.receive_calls.proofs.front.first_piece.Goals as goal

none_of : (f : Option ℕ) (b : Bool) → is_some f ≡ not b → b ≡ true → f ≡ None
none_of f b e h = grind arith

some_of : {A : Type 0} (f : Option ℕ) (b : Bool) → is_some f ≡ not b → b ≡ false → f ≡ None → A
some_of f b e h n = absurd (grind arith)

least : (m a b : ℕ) → m ≡ min a b → (m ≤ a) × (m ≤ b) × (0 < a → 0 < b → 0 < m)
least m a b e = (omega (arith, e), omega (arith, e), λ x y. omega (arith, e, x, y))

pub returns : goal.returns
returns c =
    let a = c.args in
    let few = least _ _ _ c.min-taken.ensures in
    let y = c.copy_from_slice.ensures.after in
    let f = c.unusable_from-bad.ensures.answer in
    let e = c.advance-progress.ensures.answer
    ∙ ap (λ (i : ℕ). advanced a.p (a.p.count + c.min-taken.result) i a.p.odd c.if-is_none.ear) c.number_of.ensures.answer
    in
    record {
      answer = elim c.if-is_none.branch [
        | then-is_none+then-n-eq11 w ↦
            first_starts a.kind a.p _ _ a.hold.now a.rest.now _ c.requires few refl y _ f
            (none_of _ _ c.is_none.ensures w.if-is_none.true) (omega (arith, w.if-n-eq11.true)) _ _ e
            (subst (λ (x : Ear). Begun a.kind _ x) (sym w.ear-is) w.begin-ear.ensures.answer)
        | else-is_none w ↦
            first_waits a.kind a.p _ _ a.hold.now a.rest.now _ c.requires few refl y _ f
            (elim w.else-is_none.branch [
              | else-is_none-via-then-is_none+else-n-eq11 v ↦ λ z. omega (arith, v.if-n-eq11.false, few.1, c.requires.0)
              | else-is_none-via-else-is_none v ↦ λ z. some_of _ _ c.is_none.ensures v.if-is_none.false z
            ]) _ _ e w.ear-is
      ];
    }
