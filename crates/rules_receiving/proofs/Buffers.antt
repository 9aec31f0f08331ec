-- What the octet buffer holds while there is no payload, and a refusal that stays.
--     refused_buffer, short_buffer     a front that is refused, or not whole, leaves zeros
--     told_buffer                      so does a front that is whole, with nothing behind it
--     stays_more                       a refusal that stays, whatever chips follow
-- Assumes nothing.
use Rattle.std.specs.Prelude.{Result, Ok, Err, None}
use mathlib.Core.Path.{◌≡◌, refl, sym, ap, ◌∙◌}
use mathlib.Core.Bool.{Bool, true, false, cond, not}
use mathlib.Core.List.{List, [], ◌++◌}
use Prim.Native.Nat.{ℕ, ◌-◌, ◌/◌, ◌<◌}
use native.Mathlib.Omega.{arith}
use borrow.Author.Tests.{lt-ltb}
use lib.Dec.{ltb}
use lib.ListN.{length, length-append, drop_of_length-le}
use lib.Seq.{take_all}
use Rattle.rules_rates.specs.declared.Rate.{Rate}
use Rattle.rules_rates.specs.declared.Rate.TheVariants.{One, Two, Five, Eleven}
use Rattle.rules_rates.specs.Rates.{symbol_chips, octet_chips}
use Rattle.rules_chips.specs.Chips.{Taken, hard_recording}
use Rattle.rules_chips.proofs.Recorders.{length_hard, append_hard}
use Rattle.rules_bits.specs.Bits.{octets_of}
use Rattle.rules_frame.specs.declared.Kind.{Kind}
use Rattle.rules_frame.specs.Frame.{is_kind, kind_of, front_chips, frame_chips}
use Rattle.rules_calls.specs.declared.Refusal.{Refusal}
use Rattle.rules_calls.specs.declared.Refusal.TheVariants.{ShorterThanFront}
use Rattle.rules_calls.specs.declared.Told.{Told}
use Rattle.rules_reading.specs.Reading.{first_unusable, front_by, front_of, payload_of}
use Rattle.rules_receiving.specs.declared.Progress.{Progress}
use Rattle.rules_receiving.specs.Yet.{
  zeros,
  whole_octets,
  unusable_yet,
  odd_yet,
  payload_yet,
  after_front_yet,
  buffer_yet,
}
use Rattle.rules_receiving.specs.Sections.{payload_section}
use Rattle.rules_receiving.specs.Receivers.{Held, no_kind, front_comes, refused, payload_comes, Going}
use Rattle.rules_receiving.proofs.Prefix.{front_prefix}
use Rattle.rules_receiving.proofs.Fronts.{odd_early}
use Rattle.rules_receiving.proofs.Payloads.{part_odd}

either : (b : Bool) (l : List ℕ) → cond (not b) l l ≡ l
either true l = refl
either false l = refl

pub refused_buffer : (kind room : ℕ) (rec : List Taken) (e : Refusal) → front_of (kind_of kind) rec ≡ Err e
    → buffer_yet kind rec room ≡ zeros room
unfolding buffer_yet
refused_buffer kind room rec e f = rw f (either (is_kind kind) (zeros room))

short_front : (k : Kind) (rec : List Taken) → length rec < front_chips k → front_of k rec ≡ Err ShorterThanFront
unfolding front_by
short_front k rec h = rw (lt-ltb (length rec) (front_chips k) h)

pub short_buffer : (kind room : ℕ) (fed : List ℕ) → length fed < front_chips (kind_of kind)
    → buffer_yet kind (hard_recording fed) room ≡ zeros room
short_buffer kind room fed h =
    refused_buffer kind room (hard_recording fed) ShorterThanFront
    (short_front (kind_of kind) (hard_recording fed) (omega (arith, length_hard fed, h)))

-- ---- a front that is whole, and nothing behind it

none_of : (r : Rate) → (0 / octet_chips r ≡ 0) × (0 < symbol_chips r)
none_of One = (omega arith, omega arith)
none_of Two = (omega arith, omega arith)
none_of Five = (omega arith, omega arith)
none_of Eleven = (omega arith, omega arith)

no_payload : (k : Kind) (r : Rate) (rec : List Taken) → payload_of k r 0 rec ≡ []
unfolding payload_of octets_of
no_payload k r rec = refl

module _ (k : Kind) (t : Told) (rec : List Taken) (at : length rec ≡ front_chips k) where
  no_octets : whole_octets t.rate (front_chips k) rec ≡ 0
  no_octets =
      let behind : length rec - front_chips k ≡ 0 = omega (arith, at) in
      ap (λ (i : ℕ). i / octet_chips t.rate) behind ∙ (none_of t.rate).0

  usable : unusable_yet k rec ≡ None
  unfolding first_unusable
  usable = ap (first_unusable (front_chips k)) (drop_of_length-le rec {i = front_chips k} (omega (arith, at)))

  even : odd_yet k t.rate rec ≡ None
  even =
      part_odd k t.rate rec
      ∙ odd_early (payload_section k t.rate rec) rec (omega (arith, at, (none_of t.rate).1))

  first_octets : (room : ℕ) → payload_yet k t rec room ≡ zeros room
  first_octets room =
      unfold payload_yet in rw (usable, even, no_octets, no_payload k t.rate rec) (same (ltb room t.n))
    where
      same : (b : Bool) → cond b (zeros room) (zeros (room - 0)) ≡ zeros room
      same true = refl
      same false = let e : room - 0 ≡ room = omega arith in ap zeros e

pub told_buffer : (kind room : ℕ) (fed : List ℕ) → length fed ≡ front_chips (kind_of kind)
    → buffer_yet kind (hard_recording fed) room ≡ zeros room
told_buffer kind room fed h = opened ∙ by (front_of k rec)
  where
    k : Kind
    k = kind_of kind

    rec : List Taken
    rec = hard_recording fed

    at : length rec ≡ front_chips k
    at = length_hard fed ∙ h

    by : (f : Result Told Refusal) → cond (not (is_kind kind)) (zeros room) (after_front_yet k rec room f) ≡ zeros room
    by (Err e) = either (is_kind kind) (zeros room)
    by (Ok t) =
        ap (cond (not (is_kind kind)) (zeros room))
        (ap (λ (x : List Taken). payload_yet k t x room)
        (take_all (frame_chips k t.rate t.n) rec (omega (arith, at)))
        ∙ first_octets k t rec at room)
        ∙ either (is_kind kind) (zeros room)

    opened : buffer_yet kind rec room ≡ cond (not (is_kind kind)) (zeros room) (after_front_yet k rec room (front_of k rec))
    opened = unfold buffer_yet in refl

-- ---- a refusal that stays

stays_buffer : (kind room : ℕ) (fed : List ℕ) (p : Progress) (hold preamble header buf : List ℕ)
    → Held kind fed p hold preamble header buf → p.status ≡ 3 → buffer_yet kind (hard_recording fed) room ≡ zeros room
unfolding buffer_yet
stays_buffer kind room fed p hold preamble header buf (no_kind i e h) st = rw i
stays_buffer kind room fed p hold preamble header buf (front_comes i e l h) st = absurd (omega (arith, e, st))
stays_buffer kind room fed p hold preamble header buf (refused i e r l f h) st =
    refused_buffer kind room (hard_recording fed) r f
stays_buffer kind room fed p hold preamble header buf (payload_comes i e t h) st = absurd (omega (arith, e, st))

stays_held : (kind : ℕ) (fed piece : List ℕ) (p : Progress) (hold preamble header buf : List ℕ)
    → Held kind fed p hold preamble header buf → p.status ≡ 3 → Held kind (fed ++ piece) p hold preamble header buf
stays_held kind fed piece p hold preamble header buf (no_kind i e h) st = no_kind i e h
stays_held kind fed piece p hold preamble header buf (front_comes i e l h) st = absurd (omega (arith, e, st))
stays_held kind fed piece p hold preamble header buf (refused i e r l f h) st =
    refused i e r (omega (arith, l, length-append fed piece))
    (rw (append_hard fed piece)
    (front_prefix (kind_of kind) (hard_recording fed) (hard_recording piece) (omega (arith, l, length_hard fed)) ∙ f)) h
stays_held kind fed piece p hold preamble header buf (payload_comes i e t h) st = absurd (omega (arith, e, st))

pub stays_more : (kind room : ℕ) (fed piece : List ℕ) (p : Progress) (hold preamble header buf : List ℕ)
    → p.status ≡ 3 → Going kind room fed p hold preamble header buf
    → Going kind room (fed ++ piece) p hold preamble header buf
stays_more kind room fed piece p hold preamble header buf st x =
    let more = stays_held kind fed piece p hold preamble header buf x.holds st in
    record {
      kind_is = x.kind_is;
      room_is = x.room_is;
      small = x.small;
      last_small = x.last_small;
      holds = more;
      buffer = x.buffer ∙ stays_buffer kind room fed p hold preamble header buf x.holds st
          ∙ sym (stays_buffer kind room (fed ++ piece) p hold preamble header buf more st);
    }
