-- What a front-only reading comes to, and what a full reading makes of it.
--     reads_on           a full reading goes on from what the front told, whatever the room
--     coming_comes       a refusal of the front, or a frame that the recording has
--     coming_no_kind, coming_whole, coming_refused, coming_told, coming_ends
--                        from the kind, what a front tells, and how long the recording is
--     part_there, part_none    the part of a recording that has it, and of one that does not
-- Assumes nothing.
use Rattle.std.specs.Prelude.{Result, Ok, Err}
use mathlib.Core.Path.{◌≡◌, refl, ◌∙◌}
use mathlib.Core.Bool.{Bool, true, false, cond, not}
use mathlib.Core.List.{List, []}
use Prim.Native.Nat.{ℕ, ◌+◌, ◌≤◌, ◌<◌}
use borrow.Author.Tests.{lt-ltb, le-ltb}
use lib.ListN.{length, take, drop}
use Rattle.rules_chips.specs.Chips.{Taken}
use Rattle.rules_frame.specs.declared.Kind.{Kind}
use Rattle.rules_frame.specs.Frame.{is_kind, kind_of, frame_chips}
use Rattle.rules_calls.specs.declared.Refusal.{Refusal}
use Rattle.rules_calls.specs.declared.Refusal.TheVariants.{NoKind, Ends}
use Rattle.rules_calls.specs.declared.Told.{Told}
use Rattle.rules_reading.specs.Reading.{front_of, whole_of, after_front, reading_of}
use Rattle.rules_reading.proofs.Telling.{TellingWhole, TellingWholeIf, whole_telling}
use Rattle.rules_reading.proofs.Refusals.{WholeRefusal, RefusesIf, whole_refuses}
use Rattle.rules_coming.specs.Coming.{front_reading, part_of}

pub data ComingRefusal (kind : ℕ) (rec : List Taken) : Refusal → Type 0 where
  kind_is_none : is_kind kind ≡ false → ComingRefusal kind rec NoKind
  of_front : {e : Refusal} → is_kind kind ≡ true → WholeRefusal (kind_of kind) rec e → ComingRefusal kind rec e

module _ (kind : ℕ) (rec : List Taken) where
  abbrev k : Kind
  k = kind_of kind

  -- promise: A full reading goes on from what a front-only one tells, and a front is refused as a reading refuses it
  -- rule: 6.15
  -- with: coming_whole
  pub reads_on : (room : ℕ) → reading_of kind true rec room ≡ after_front k rec room (front_reading kind rec)
  unfolding reading_of front_reading
  reads_on room = by (is_kind kind) (whole_of k rec (front_of k rec))
    where
      by : (b : Bool) (f : Result Told Refusal)
          → cond (not b) (Err NoKind) (after_front (kind_of kind) rec room f)
          ≡ after_front (kind_of kind) rec room (cond (not b) (Err NoKind) f)
      by true f = refl
      by false f = refl

  abbrev pub ComesIf : Result Told Refusal → Type 0
  ComesIf (Err e) = ComingRefusal kind rec e
  ComesIf (Ok t) = (is_kind kind ≡ true) × TellingWhole k rec t

  pub coming_comes : ComesIf (front_reading kind rec)
  unfolding front_reading
  coming_comes = by (is_kind kind) refl (whole_of k rec (front_of k rec)) (whole_refuses k rec) (whole_telling k rec)
    where
      by : (b : Bool) → is_kind kind ≡ b → (f : Result Told Refusal) → RefusesIf (kind_of kind) rec f
          → TellingWholeIf (kind_of kind) rec f → ComesIf (cond (not b) (Err NoKind) f)
      by true e (Err x) r t = of_front e r
      by true e (Ok u) r t = (e, t)
      by false e f r t = kind_is_none e

  pub coming_no_kind : is_kind kind ≡ false → front_reading kind rec ≡ Err NoKind
  unfolding front_reading
  coming_no_kind e = rw e

  pub coming_whole : is_kind kind ≡ true → front_reading kind rec ≡ whole_of k rec (front_of k rec)
  unfolding front_reading
  coming_whole h = rw h

  pub coming_refused : is_kind kind ≡ true → (e : Refusal) → front_of k rec ≡ Err e
      → front_reading kind rec ≡ Err e
  coming_refused h e f = coming_whole h ∙ rw f

  module _ (h : is_kind kind ≡ true) (t : Told) (f : front_of k rec ≡ Ok t) where
    pub coming_told : frame_chips k t.rate t.n ≤ length rec → front_reading kind rec ≡ Ok t
    coming_told l = coming_whole h ∙ rw (f, le-ltb (length rec) (frame_chips k t.rate t.n) l)

    pub coming_ends : length rec < frame_chips k t.rate t.n
        → front_reading kind rec ≡ Err (Ends t.length)
    coming_ends l = coming_whole h ∙ rw (f, lt-ltb (length rec) (frame_chips k t.rate t.n) l)

pub part_there : (at count : ℕ) (chips : List ℕ) → at + count ≤ length chips
    → part_of at count chips ≡ take count (drop at chips)
part_there at count chips h = rw (le-ltb (length chips) (at + count) h)

pub part_none : (at count : ℕ) (chips : List ℕ) → length chips < at + count → part_of at count chips ≡ []
part_none at count chips h = rw (lt-ltb (length chips) (at + count) h)
