-- What any reading comes to, and why: what its kind, rows or front are refused with and the tests that led there, or
-- what its payload comes to (Payloads.antt).
--     reading_comes    over the kind, the rows and the front
-- By the tests of the definition, followed to their ends. Assumes nothing.
use Rattle.std.specs.Prelude.{Result, Ok, Err}
use mathlib.Core.Path.{◌≡◌, refl}
use mathlib.Core.Bool.{Bool, true, false, cond, not}
use mathlib.Core.List.{List}
use Prim.Native.Nat.{ℕ, ◌≤◌}
use lib.ListN.{length}
use Rattle.rules_chips.specs.Chips.{Taken}
use Rattle.rules_frame.specs.Frame.{is_kind, kind_of, frame_chips}
use Rattle.rules_calls.specs.declared.Refusal.{Refusal}
use Rattle.rules_calls.specs.declared.Refusal.TheVariants.{NoKind, RowsDiffer}
use Rattle.rules_calls.specs.declared.Told.{Told}
use Rattle.rules_calls.specs.declared.Reading.{Reading}
use Rattle.rules_reading.specs.Reading.{front_of, whole_of, payload_reading, after_front, reading_of}
use Rattle.rules_reading.proofs.Refusals.{FrontHeard, WholeRefusal, RefusesIf, whole_refuses}

module _ (kind : ℕ) (agree : Bool) (rec : List Taken) (room : ℕ) where
  pub data ReadingComes : Result Reading Refusal → Type 0 where
    kind_none : is_kind kind ≡ false → ReadingComes (Err NoKind)
    rows_apart : is_kind kind ≡ true → agree ≡ false → ReadingComes (Err RowsDiffer)
    by_front : {e : Refusal} → is_kind kind ≡ true → agree ≡ true → WholeRefusal (kind_of kind) rec e
        → ReadingComes (Err e)
    by_payload : is_kind kind ≡ true → agree ≡ true → (t : Told) → FrontHeard (kind_of kind) rec t
        → frame_chips (kind_of kind) t.rate t.n ≤ length rec
        → ReadingComes (payload_reading (kind_of kind) t rec room)

  after : is_kind kind ≡ true → agree ≡ true → (f : Result Told Refusal) → RefusesIf (kind_of kind) rec f
      → ReadingComes (after_front (kind_of kind) rec room f)
  after a b (Err e) h = by_front a b h
  after a b (Ok t) h = by_payload a b t h.0 h.1

  pub reading_comes : ReadingComes (reading_of kind agree rec room)
  unfolding reading_of
  reading_comes = by (is_kind kind) agree refl refl
    where
      whole : Result Told Refusal
      whole = whole_of (kind_of kind) rec (front_of (kind_of kind) rec)

      by : (a b : Bool) → is_kind kind ≡ a → agree ≡ b
          → ReadingComes
          (cond (not a) (Err NoKind) (cond (not b) (Err RowsDiffer) (after_front (kind_of kind) rec room whole)))
      by false b ea eb = kind_none ea
      by true false ea eb = rows_apart ea eb
      by true true ea eb = after ea eb whole (whole_refuses (kind_of kind) rec)
