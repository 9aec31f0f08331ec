-- Readings of a clean frame with the header that is sent: good with room, 17 without, 16 where it is cut in the payload
-- and 8 where it is cut in the front, whatever follows a whole one. A whole one is decided as it was sent
-- (`clean_sent`), and read back as any recording that is (`ReadBack`). Assumes nothing.
use Rattle.std.specs.Prelude.{Ok, Err}
use Rattle.rules_calls.specs.declared.Least.{Least}
use mathlib.Core.Path.{◌≡◌, sym, ap, ◌∙◌}
use mathlib.Core.Bool.{Bool, true}
use mathlib.Core.List.{List, ◌++◌, [], ◌∷◌, append-nil}
use Prim.Native.Nat.{ℕ, ◌-◌, ◌≤◌, ◌<◌}
use native.Mathlib.Omega.{arith}
use borrow.Author.Tests.{lt-ltb}
use lib.ListN.{length, take, drop, replicate}
use lib.Seq.{take-take, length-take-le}
use Rattle.base.specs.Below.{Below}
use Rattle.rules_rates.specs.declared.Rate.{Rate}
use Rattle.rules_rates.specs.declared.Rate.TheVariants.{One}
use Rattle.rules_rates.specs.Rates.{code_of, length_field}
use Rattle.rules_chips.specs.Chips.{Taken}
use Rattle.rules_bits.specs.Code.{words_chips}
use Rattle.rules_frame.specs.declared.Kind.{Kind}
use Rattle.rules_frame.specs.Frame.{
  is_kind,
  kind_of,
  sync_bits,
  sync_bit,
  header_rate,
  goes_with,
  front_chips,
  service_field,
  sent_header,
  frame,
  frame_chips,
}
use Rattle.rules_frame.proofs.Headers.{sent_length, sent_below}
use Rattle.rules_frame.proofs.Sizes.{frame_length}
use Rattle.rules_calls.specs.declared.Told.{Told}
use Rattle.rules_calls.specs.declared.Refusal.TheVariants.{ShorterThanFront, Ends, OctetRoom}
use Rattle.rules_calls.specs.Headers.{Accepted, ours, fields_of, told}
use Rattle.rules_reading.specs.Reading.{
  front_by,
  front_of,
  whole_of,
  front_bits,
  preamble_words,
  header_words,
  payload_words,
  after_front,
  reading_of,
  octets_found,
}
use Rattle.rules_reading.proofs.Local.{front_same}
use Rattle.rules_clean.specs.Clean.{clean_recording, clean_least}
use Rattle.rules_clean.proofs.Decided.{clean_length}
use Rattle.rules_clean.proofs.FrameWords.{AsSent, frame_phases}
use Rattle.rules_clean.proofs.Whole as whole
use Rattle.rules_clean.proofs.CleanSent.{clean_sent, smallest}
use Rattle.rules_clean.proofs.ReadBack as back

module _ (kind : ℕ) (r : Rate) (p : ℕ) (clock : Bool) (xs : List ℕ) (is-kind : is_kind kind ≡ true) (l : p < 4) where
  abbrev k : Kind
  k = kind_of kind

  abbrev n : ℕ
  n = length xs

  abbrev header : List ℕ
  header = sent_header r clock n

  abbrev t : Told
  t = told r (length_field r n) n clock

  abbrev clean : List Taken
  clean = clean_recording (frame k r p clock xs)

  pub phases : Below 4 (frame k r p clock xs)
  unfolding frame
  phases = frame_phases k r p header xs (sent_length r clock n)

  as_sent : (rest : List Taken) → AsSent k r p header xs (clean ++ rest)
  unfolding frame
  as_sent rest = clean_sent k r p header xs rest (sent_length r clock n)

  -- its chips are those of the words that it is read as
  pub words_back : (rest : List Taken) → frame k r p clock xs
      ≡ words_chips One (preamble_words k (clean ++ rest))
      ++ (words_chips (header_rate k) (header_words k (clean ++ rest))
      ++ words_chips r (payload_words k r n (clean ++ rest)))
  unfolding frame
  words_back rest =
      whole.words_sent k r p header xs (sent_length r clock n) (clean ++ rest) l (sent_below r clock n) (as_sent rest)

  -- its SYNC, bit by bit from the ninth on
  pub sync_back : (rest : List Taken) (j : ℕ) → 8 ≤ j → j < sync_bits k
      → take 1 (drop j (front_bits k (clean ++ rest))) ≡ sync_bit k ∷ []
  sync_back rest =
      whole.sync_read k r p header xs (sent_length r clock n) (clean ++ rest) l (sent_below r clock n)
      (as_sent rest).front

  module _ (goes : goes_with k r ≡ true) (some : 1 ≤ n) (few : n ≤ 4095) where
    front_is : (rest : List Taken) → front_of k (clean ++ rest) ≡ Ok t
    front_is rest = back.front_is kind r p clock xs is-kind l goes some few (clean ++ rest) (as_sent rest).front

    pub front_sent_lem : (rest : List Taken) (accepted : Accepted)
        → front_by accepted k (clean ++ rest) ≡ fields_of accepted k (code_of r) (service_field r clock n) (length_field r n)
    front_sent_lem rest = back.front_sent_lem kind r p clock xs is-kind l goes some few (clean ++ rest) (as_sent rest).front

    -- ---- whole, with anything after it
    module _ (rest : List Taken) (room : ℕ) (agree : Bool) (e : agree ≡ true) where
      pub good_reading : n ≤ room
          → reading_of kind agree (clean ++ rest) room ≡ Ok (record { told = t; used = frame_chips k r n; least = clean_least k r })
      unfolding frame
      good_reading h =
          back.good_reading kind r p clock xs is-kind l goes some few (clean ++ rest) (as_sent rest) room agree e h
          ∙ ap (λ (l : Least). Ok (record { told = t; used = frame_chips k r n; least = l })) (smallest k r p header xs rest (sent_length r clock n) some)

      pub good_octets : n ≤ room → Below 256 xs
          → octets_found kind agree (clean ++ rest) room ≡ xs ++ replicate (room - n) 0
      good_octets =
          back.good_octets kind r p clock xs is-kind l goes some few (clean ++ rest) (as_sent rest) room agree e

      pub room_refused : room < n
          → reading_of kind agree (clean ++ rest) room ≡ Err (OctetRoom (length_field r n))
      room_refused =
          back.room_refused kind r p clock xs is-kind l goes some few (clean ++ rest) (as_sent rest) room agree e

    -- ---- cut after j chips
    module _ (j room : ℕ) (less : j < frame_chips k r n) (agree : Bool) (e : agree ≡ true) where
      abbrev cut : List Taken
      cut = take j clean

      cut_length : length cut ≡ j
      cut_length =
          length-take-le j clean (omega (arith, clean_length (frame k r p clock xs), frame_length k r p clock xs))

      pub front_refused : j < front_chips k → reading_of kind agree cut room ≡ Err ShorterThanFront
      front_refused h =
          back.opened kind is-kind agree cut room e ∙ ap (λ f. after_front k cut room (whole_of k cut f)) cut_refused
        where
          cut_refused : front_of k cut ≡ Err ShorterThanFront
          cut_refused = unfold front_by in rw (lt-ltb (length cut) (front_chips k) (omega (arith, cut_length)))

      pub payload_refused : front_chips k ≤ j
          → reading_of kind agree cut room ≡ Err (Ends (length_field r n))
      payload_refused h =
          back.opened kind is-kind agree cut room e ∙ ap (λ f. after_front k cut room (whole_of k cut f)) known
          ∙ ap (after_front k cut room) ends
        where
          known : front_of k cut ≡ Ok t
          known =
              front_same k cut (clean ++ [])
              (take-take (front_chips k) j clean h ∙ ap (take (front_chips k)) (sym (append-nil clean))) ours
              ∙ front_is []

          ends : whole_of k cut (Ok t) ≡ Err (Ends (length_field r n))
          ends = rw (lt-ltb (length cut) (frame_chips k r n) (omega (arith, cut_length)))
