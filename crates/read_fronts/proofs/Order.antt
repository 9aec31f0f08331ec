-- The order of refusals over a front: for each way out of reading it, what the definition says there.
--     front_short, front_unusable, front_usable    a look: 8, 9, or all of it can be heard
-- Each follows by the tests that led there. Assumes nothing.
use mathlib.Core.Path.{◌≡◌, sym, ap, ◌∙◌}
use mathlib.Core.List.{List}
use Rattle.std.specs.Prelude.{Option, None, Some, Err}
use Prim.Native.Nat.{ℕ, ◌-◌, ◌≤◌, ◌<◌}
use native.Mathlib.Omega.{arith}
use lib.ListN.{length, take, drop}
use lib.Seq.{length-take-le}
use borrow.Author.Tests.{lt-ltb, le-ltb}
use Rattle.rules_chips.specs.Chips.{Taken}
use Rattle.rules_frame.specs.declared.Kind.{Kind}
use Rattle.rules_frame.specs.Frame.{front_chips}
use Rattle.rules_calls.specs.declared.Refusal.TheVariants.{ShorterThanFront}
use Rattle.rules_calls.specs.declared.Refusal.TheVariants as refusal
use Rattle.rules_calls.specs.Headers.{Accepted}
use Rattle.rules_reading.specs.Reading.{first_unusable, front_by}
use Rattle.rules_reading.proofs.First.{unusable_first}
use Rattle.choose_recorded.specs.Recorded.{AllUsable}
use Rattle.choose_recorded.proofs.Search.{none_usable}
use Rattle.read_fronts.specs.Openings.{after_usable}

module _ (k : Kind) (rec : List Taken) where
  pub front_short : length rec < front_chips k → (accepted : Accepted) → front_by accepted k rec
      ≡ Err ShorterThanFront
  unfolding front_by
  front_short h accepted = rw (lt-ltb (length rec) (front_chips k) h)

  module _
      (chips : ℕ) (f : Option ℕ) (e : chips ≡ front_chips k) (h : chips ≤ length rec)
      (g : f ≡ first_unusable 0 (take (chips - 0) (drop 0 rec))) where
    searched : first_unusable 0 (take (front_chips k) rec) ≡ f
    searched = let z : chips - 0 ≡ front_chips k = omega arith in sym
        (g ∙ ap (λ (m : ℕ). first_unusable 0 (take m rec)) z)

    enough : front_chips k ≤ length rec
    enough = omega arith

    pub front_unusable : (place : ℕ) → f ≡ Some place
        → ((accepted : Accepted) → front_by accepted k rec ≡ Err (refusal.Unusable place 0)) × (place < length rec)
    front_unusable place t =
        let first = unusable_first 0 (take (front_chips k) rec) place (searched ∙ t) in (
          (λ accepted. unfold front_by in rw (le-ltb (length rec) (front_chips k) enough, searched, t)),
          omega (arith, enough, first.place_is, first.inside, length-take-le (front_chips k) rec enough),
        )

    pub front_usable : f ≡ None
        → ((accepted : Accepted) → front_by accepted k rec ≡ after_usable accepted k rec)
        × (front_chips k ≤ length rec) × AllUsable rec 0 (front_chips k)
    front_usable t = (
      (λ accepted. unfold front_by in rw (le-ltb (length rec) (front_chips k) enough, searched, t)),
      enough,
      none_usable rec 0 (front_chips k) (omega (arith, enough)) (searched ∙ t),
    )
