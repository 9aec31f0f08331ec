-- A recording compared with itself: two readings that are accepted, with whatever room, have one payload
-- (`itself_octets`). By the cases of both readings. Assumes nothing.
use Rattle.std.specs.Prelude.{Result, Ok, Err}
use Rattle.rules_calls.specs.declared.Refusal.{Refusal}
use mathlib.Core.Path.{◌≡◌, refl, sym, ap, ◌∙◌}
use mathlib.Core.Bool.{true, not}
use mathlib.Core.List.{List, []}
use Prim.Native.Nat.{ℕ}
use Rattle.base.proofs.Tests.{branch}
use Rattle.rules_chips.specs.Chips.{Taken, hard_recording}
use Rattle.rules_frame.specs.declared.Kind.{Kind}
use Rattle.rules_frame.specs.Frame.{is_kind, kind_of}
use Rattle.rules_calls.specs.declared.Told.{Told}
use Rattle.rules_calls.specs.declared.Reading.{Reading}
use Rattle.rules_reading.specs.Reading.{front_of, payload_of, whole_of, payload_reading, after_front, reading_of}
use Rattle.rules_reading.proofs.Refusals.{PayloadIf, payload_comes}
use Rattle.rules_compare.specs.Differences.{differences}
use Rattle.rules_compare.specs.Compared.{hard_reading, payload_differences, octet_list}
use Rattle.rules_compare.proofs.Pairs.{itself}

-- a good reading has what the front tells, whatever the room
module _ (kind : ℕ) (rec : List Taken) where
  abbrev k : Kind
  k = kind_of kind

  abbrev whole : Result Told Refusal
  whole = whole_of k rec (front_of k rec)

  abbrev ToldBy : Result Reading Refusal → Type 0
  ToldBy (Err e) = Unit {0}
  ToldBy (Ok g) = whole ≡ Ok g.told

  told_by : (room : ℕ) → ToldBy (reading_of kind true rec room)
  unfolding reading_of
  told_by room =
      branch ToldBy (not (is_kind kind)) _ _ tt (λ a. after whole refl)
    where
      of_payload : (t : Told) → whole ≡ Ok t → (g : Result Reading Refusal) → PayloadIf k t rec room g → ToldBy g
      of_payload t h (Err e) p = tt
      of_payload t h (Ok g) p = h ∙ ap (λ (v : Told). Ok v) (sym p.1)

      after : (f : Result Told Refusal) → whole ≡ f → ToldBy (after_front k rec room f)
      after (Err e) h = tt
      after (Ok t) h = of_payload t h (payload_reading k t rec room) (payload_comes k t rec room)

  told_or : Told → Result Told Refusal → Told
  told_or t (Err e) = t
  told_or t (Ok u) = u

  none : (f s : Result Reading Refusal) → ToldBy f → ToldBy s → payload_differences k rec rec f s ≡ []
  unfolding told_or
  none (Err e) s x y = refl
  none (Ok g) (Err e) x y = refl
  none (Ok g) (Ok g') x y =
      let same : g.told ≡ g'.told = ap (told_or g.told) (sym x ∙ y) in
      ap (λ (v : Told). differences (payload_of k g.told.rate g.told.n rec) (payload_of k v.rate v.n rec)) (sym same)
      ∙ itself (payload_of k g.told.rate g.told.n rec)

pub itself_octets : (kind : ℕ) (a : List ℕ) (room room' : ℕ) → octet_list kind a a room room' ≡ []
unfolding octet_list
itself_octets kind a room room' =
    none kind (hard_recording a) (hard_reading kind a room) (hard_reading kind a room')
    (told_by kind (hard_recording a) room) (told_by kind (hard_recording a) room')
