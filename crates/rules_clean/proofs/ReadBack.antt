-- Readings of a recording that is decided as a frame was sent (`AsSent`), with the header that is sent, whatever
-- recorded it: good with room, 17 without. Assumes nothing.
use Rattle.std.specs.Prelude.{Ok, Err}
use mathlib.Core.Path.{◌≡◌, ap, ◌∙◌}
use mathlib.Core.Bool.{Bool, true}
use mathlib.Core.List.{List, ◌++◌}
use Prim.Native.Nat.{ℕ, ◌-◌, ◌≤◌, ◌<◌}
use lib.ListN.{length, replicate}
use Rattle.base.specs.Below.{Below}
use Rattle.rules_rates.specs.declared.Rate.{Rate}
use Rattle.rules_rates.specs.Rates.{code_of, length_field}
use Rattle.rules_chips.specs.Chips.{Taken}
use Rattle.rules_frame.specs.declared.Kind.{Kind}
use Rattle.rules_frame.specs.Frame.{is_kind, kind_of, goes_with, service_field, sent_header, frame_chips}
use Rattle.rules_frame.proofs.Headers.{sent_length, sent_below}
use Rattle.rules_calls.proofs.ReadBack.{fields_back, header_sent_lem}
use Rattle.rules_calls.specs.declared.Told.{Told}
use Rattle.rules_calls.specs.declared.Refusal.TheVariants.{OctetRoom}
use Rattle.rules_calls.specs.Headers.{Accepted, ours, fields_of, told}
use Rattle.rules_reading.specs.Leads.{frame_leads, least_of}
use Rattle.rules_reading.specs.Reading.{
  front_by,
  front_of,
  payload_of,
  whole_of,
  payload_reading,
  after_front,
  reading_of,
  octets_after,
  octets_found,
}
use Rattle.rules_clean.proofs.FrameWords.{FrontAsSent, AsSent}
use Rattle.rules_clean.proofs.Whole as whole

pub opened : (kind : ℕ) → is_kind kind ≡ true → (agree : Bool) (rec : List Taken) (room : ℕ) → agree ≡ true
    → reading_of kind agree rec room
    ≡ after_front (kind_of kind) rec room (whole_of (kind_of kind) rec (front_of (kind_of kind) rec))
unfolding reading_of
opened kind is-kind agree rec room e = rw (is-kind, e)

module _ (kind : ℕ) (r : Rate) (p : ℕ) (clock : Bool) (xs : List ℕ) (is-kind : is_kind kind ≡ true) (l : p < 4)
    (goes : goes_with (kind_of kind) r ≡ true) (some : 1 ≤ length xs) (few : length xs ≤ 4095) (rec : List Taken) where
  abbrev k : Kind
  k = kind_of kind

  abbrev n : ℕ
  n = length xs

  abbrev header : List ℕ
  header = sent_header r clock n

  abbrev t : Told
  t = told r (length_field r n) n clock

  -- the front comes to what the three fields do, whoever reads
  pub front_sent_lem : FrontAsSent k r p header xs rec → (accepted : Accepted)
      → front_by accepted k rec ≡ fields_of accepted k (code_of r) (service_field r clock n) (length_field r n)
  front_sent_lem begun accepted =
      whole.front_read k r p header xs (sent_length r clock n) rec l (sent_below r clock n) begun accepted
      ∙ header_sent_lem accepted k r clock n few

  pub front_is : FrontAsSent k r p header xs rec → front_of k rec ≡ Ok t
  front_is begun = front_sent_lem begun ours ∙ fields_back k r clock n goes some few

  module _ (sent : AsSent k r p header xs rec) (room : ℕ) (agree : Bool) (e : agree ≡ true) where
    rec_is : reading_of kind agree rec room ≡ payload_reading k t rec room
    rec_is =
        opened kind is-kind agree rec room e
        ∙ ap (λ f. after_front k rec room (whole_of k rec f)) (front_is sent.front)
        ∙ ap (after_front k rec room)
        (whole.whole_there k r p header xs (sent_length r clock n) rec l (sent_below r clock n) sent
        (length_field r n) clock)

    pub good_reading : n ≤ room
        → reading_of kind agree rec room ≡ Ok (record { told = t; used = frame_chips k r n; least = least_of (frame_leads k r n rec) })
    good_reading h =
        rec_is
        ∙ whole.payload_good k r p header xs (sent_length r clock n) rec l (sent_below r clock n) sent
        (length_field r n) clock room h

    pub good_octets : n ≤ room → Below 256 xs → octets_found kind agree rec room ≡ xs ++ replicate (room - n) 0
    good_octets h o =
        found ∙ ap (λ (x : List ℕ). x ++ replicate (room - n) 0)
        (whole.payload_read k r p header xs (sent_length r clock n) rec l (sent_below r clock n) sent o)
      where
        found : octets_found kind agree rec room ≡ payload_of k r n rec ++ replicate (room - n) 0
        found = unfold octets_found in ap (octets_after k rec room) (good_reading h)

    pub room_refused : room < n → reading_of kind agree rec room ≡ Err (OctetRoom (length_field r n))
    room_refused h =
        rec_is
        ∙ whole.no_room k r p header xs (sent_length r clock n) rec l (sent_below r clock n) sent
        (length_field r n) clock room h
