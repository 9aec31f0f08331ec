-- `front::read_front`: 1, then what the front tells.
use Rattle.std.specs.Prelude.{Result}
use Rattle.rules_calls.specs.declared.Told.{Told}
use Rattle.rules_calls.specs.declared.Refusal.{Refusal}
use mathlib.Core.Path.{◌≡◌, sym, ap, ap₂, ◌∙◌}
use mathlib.Core.Bool.{true}
use Prim.Native.Nat.{ℕ}
use mathlib.Core.List.{List}
use Rattle.base.proofs.Tests.{failed, passed}
use Rattle.rules_chips.specs.Chips.{Taken}
use Rattle.rules_frame.specs.declared.Kind.{Kind}
use Rattle.rules_frame.specs.Frame.{is_kind, kind_of}
use Rattle.rules_reading.specs.Reading.{front_of, whole_of}
use Rattle.rules_calls.specs.Headers.{ours}
use Rattle.rules_coming.specs.declared.Coming.{Coming}
use Rattle.rules_coming.specs.Coming.{front_reading, coming_of}
use Rattle.rules_coming.proofs.Laws.{coming_no_kind, coming_whole}
use Rattle.read_fronts.specs.declared.Opening.{Opening}
use Rattle.read_fronts.specs.Openings.{OpensWhole}
use Rattle.small_calls.proofs.front.read_front.Goals as goal

-- a front that was read
module _ (kind : ℕ) (rec : List Taken) (k : Kind) (r : Coming) (o : Opening) (f : Result Told Refusal) where
  known : k ≡ kind_of kind → is_kind kind ≡ true → OpensWhole ours k rec o → o.front ≡ f → r ≡ coming_of k f
      → r ≡ coming_of (kind_of kind) (front_reading kind rec)
  known k-is h x g e =
      e
      ∙ ap₂ {C = Coming} coming_of k-is
      (sym g ∙ x.told ∙ ap (λ (j : Kind). whole_of j rec (front_of j rec)) k-is ∙ sym (coming_whole kind rec h))

pub returns-then-not-is_kind : goal.returns-then-not-is_kind
returns-then-not-is_kind c = record {
  answer = c.refused.ensures.answer
      ∙ ap₂ {C = Coming} coming_of c.kind_of-k.ensures.answer
      (sym (coming_no_kind _ _ (failed c.is_kind.ensures.answer c.if-not-is_kind.true)));
}

pub returns-in-Err : goal.returns-in-Err
returns-in-Err c = record {
  answer = known _ _ _ _ _ _ c.kind_of-k.ensures.answer (passed c.is_kind.ensures.answer c.if-not-is_kind.false)
      c.read_whole.ensures.answer c.in-Err.is c.refused-in-Err.ensures.answer;
}

pub returns-in-Ok : goal.returns-in-Ok
returns-in-Ok c = record {
  answer = known _ _ _ _ _ _ c.kind_of-k.ensures.answer (passed c.is_kind.ensures.answer c.if-not-is_kind.false)
      c.read_whole.ensures.answer c.in-Ok.is c.told.ensures.answer;
}
