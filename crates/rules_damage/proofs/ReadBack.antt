-- A frame that stands its damage is read back, given room, whatever follows it: everything but the lead and its symbol;
-- and its lead is a full chip at least. Without room it is refused with 17, as it would be unspoiled. A front that
-- stands its damage tells what is coming, whatever follows it. Assumes nothing.
use Rattle.std.specs.Prelude.{Ok, Err}
use mathlib.Core.Path.{◌≡◌, refl, ap, ◌∙◌}
use mathlib.Core.Bool.{Bool, true}
use mathlib.Core.List.{List, ◌++◌}
use Prim.Native.Nat.{ℕ, ◌-◌, ◌≤◌, ◌<◌}
use lib.ListN.{length, take, replicate}
use Rattle.base.specs.Below.{Below}
use Rattle.rules_rates.specs.declared.Rate.{Rate}
use Rattle.rules_rates.specs.Rates.{code_of, length_field}
use Rattle.rules_chips.specs.Chips.{Taken, hard_recording}
use Rattle.rules_chips.proofs.Recorders.{append_hard}
use Rattle.rules_frame.specs.declared.Kind.{Kind}
use Rattle.rules_frame.specs.Frame.{is_kind, kind_of, goes_with, front_chips, sent_header, frame, frame_chips}
use Rattle.rules_frame.proofs.Headers.{sent_length}
use Rattle.rules_calls.specs.declared.Told.{Told}
use Rattle.rules_calls.specs.declared.Refusal.TheVariants.{OctetRoom}
use Rattle.rules_calls.specs.Headers.{told}
use Rattle.rules_reading.specs.Leads.{frame_leads, least_of}
use Rattle.rules_reading.specs.Reading.{front_of, reading_of, octets_found}
use Rattle.rules_clean.proofs.FrameWords.{AsSent}
use Rattle.rules_clean.proofs.ReadBack as back
use Rattle.rules_damage.specs.Plain.{FrameStands}
use Rattle.rules_damage.proofs.SpoiledSent.{spoiled_alone, spoiled_sent, spoiled_least}

module _ (kind : ℕ) (r : Rate) (p : ℕ) (clock : Bool) (xs : List ℕ) (is-kind : is_kind kind ≡ true) (l : p < 4)
    (goes : goes_with (kind_of kind) r ≡ true) (some : 1 ≤ length xs) (few : length xs ≤ 4095) (rec tail : List ℕ) where
  abbrev k : Kind
  k = kind_of kind

  abbrev n : ℕ
  n = length xs

  abbrev t : Told
  t = told r (length_field r n) n clock

  abbrev sent : List ℕ
  sent = frame k r p clock xs

  abbrev recording : List Taken
  recording = hard_recording rec ++ hard_recording tail

  -- ---- the front alone, whatever follows it
  pub front_spoiled : FrameStands kind (code_of r) 0 (take (front_chips k) sent) rec
      → front_of k (hard_recording (rec ++ tail)) ≡ Ok t
  unfolding frame
  front_spoiled st =
      ap (front_of k) (append_hard rec tail)
      ∙ back.front_is kind r p clock xs is-kind l goes some few recording
      (spoiled_alone kind is-kind r p (sent_header r clock n) xs (sent_length r clock n) rec (hard_recording tail) st)

  -- ---- the whole frame
  module _ (st : FrameStands kind (code_of r) n sent rec) where
    as_sent : AsSent k r p (sent_header r clock n) xs recording
    unfolding frame
    as_sent =
        spoiled_sent kind is-kind r p (sent_header r clock n) xs (sent_length r clock n) rec (hard_recording tail) st

    pub least_spoiled : 1024 ≤ (least_of (frame_leads k r n (hard_recording (rec ++ tail)))).lead
    unfolding frame
    least_spoiled =
        rw (append_hard rec tail)
        (spoiled_least kind is-kind r p (sent_header r clock n) xs (sent_length r clock n) rec (hard_recording tail) st)

    module _ (room : ℕ) where
      pub reading_spoiled : n ≤ room
          → reading_of kind true (hard_recording (rec ++ tail)) room
          ≡ Ok (record { told = t; used = frame_chips k r n; least = (least_of (frame_leads k r n (hard_recording (rec ++ tail)))) })
      reading_spoiled h =
          rw (append_hard rec tail)
          (back.good_reading kind r p clock xs is-kind l goes some few recording as_sent room true refl h)

      pub octets_spoiled : n ≤ room → Below 256 xs
          → octets_found kind true (hard_recording (rec ++ tail)) room ≡ xs ++ replicate (room - n) 0
      octets_spoiled h o =
          rw (append_hard rec tail)
          (back.good_octets kind r p clock xs is-kind l goes some few recording as_sent room true refl h o)

      pub room_spoiled : room < n
          → reading_of kind true (hard_recording (rec ++ tail)) room ≡ Err (OctetRoom (length_field r n))
      room_spoiled h =
          rw (append_hard rec tail)
          (back.room_refused kind r p clock xs is-kind l goes some few recording as_sent room true refl h)
