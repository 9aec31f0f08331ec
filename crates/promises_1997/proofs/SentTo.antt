-- Long frames that our writer makes, as a guide of 1997 reads them: their front comes to what their three fields do
-- (`begun_sent` of promises), and those are 13 at 55 and 110, 14 at 10 and 20 with the clock bit, and else what ours
-- come to.
--     begun_1997    recordings that begin with the front of such a frame, whatever follows
--     sent_1997     whole frames, whatever follows
-- Assumes nothing.
use Rattle.std.specs.Prelude.{Err}
use mathlib.Core.Path.{◌≡◌, refl, sym, ap, ap₂, ◌∙◌, subst}
use mathlib.Core.Bool.{true}
use mathlib.Core.List.{List, ◌++◌, append_assoc}
use Prim.Native.Nat.{ℕ, zero, suc, ◌≤◌}
use native.Mathlib.Omega.{arith}
use lib.ListN.{length, take, drop, take-append-drop}
use lib.Seq.{take-take}
use Rattle.rules_rates.specs.declared.Rate.{Rate}
use Rattle.rules_rates.specs.Rates.{rate_of}
use Rattle.rules_rates.specs.Plain.{LengthOf}
use Rattle.rules_chips.specs.Chips.{Taken, hard_recording}
use Rattle.rules_frame.specs.declared.Kind.TheVariants.{Long}
use Rattle.rules_frame.specs.Frame.{clock_of, service_field}
use Rattle.rules_calls.specs.declared.Written.{Written}
use Rattle.rules_calls.specs.declared.Refusal.{Refusal}
use Rattle.rules_calls.specs.declared.Refusal.TheVariants.{Signal, Service}
use Rattle.rules_calls.specs.Answers.{record_of}
use Rattle.rules_calls.specs.Headers.{ours, of1997, fields_of}
use Rattle.rules_calls.specs.Plain.{Rate1997, at_1, at_2}
use Rattle.rules_calls.proofs.Guides.{signal_neither, service_set, fields_ours}
use Rattle.rules_reading.specs.Reading.{front_by, reading_of, octets_found}
use Rattle.rules_reading.specs.Guides.{reading1997, octets1997}
use Rattle.rules_reading.proofs.Guides.{guide_alike, guide_refused}
use Rattle.promises.specs.Calls.{
  ReadHard,
  Goes,
  long_1,
  long_2,
  long_5,
  long_11,
  good,
  shown,
  sent_lead,
  sent_symbol,
  Sent,
  of_hard,
}
use Rattle.promises.proofs.Back as back
use Rattle.promises.proofs.SentTold.{begun_sent}
use Rattle.promises.proofs.Kept.{kept}
use Rattle.promises_1997.specs.Calls.{Read1997}
use Rattle.promises_1997.specs.Promises.{Sent1997, Begun1997}
use Rattle.promises_1997.proofs.Exactly.{long_read}

-- a long front is 2,112 chips
pub chips_before : {rate front octet : ℕ} → Goes 0 rate front octet → front ≡ 2112
chips_before long_1 = refl
chips_before long_2 = refl
chips_before long_5 = refl
chips_before long_11 = refl

-- SERVICE that is sent at a guide's rates: 0 without the clock bit, and with it not
unset : {rate : ℕ} → Rate1997 rate → (clock n : ℕ) → clock ≡ 0 → service_field (rate_of rate) (clock_of clock) n ≡ 0
unset at_1 clock n e = rw e
unset at_2 clock n e = rw e

set : (r : Rate) (clock n : ℕ) → (clock ≡ 0 → ⊥) → service_field r (clock_of clock) n ≡ 0 → ⊥
set r zero n h e = h refl
set r (suc clock) n h e = omega (arith, e, back.shown_is (suc clock))

module _ (rate phase clock : ℕ) (payload : List ℕ) (w : Written) (chips : List ℕ)
    (s : Sent 0 rate phase clock payload w chips) (l : ℕ) (d : LengthOf rate (length payload) l) where
  abbrev r : Rate
  r = rate_of rate

  abbrev n : ℕ
  n = length payload

  abbrev service : ℕ
  service = service_field r (clock_of clock) n

  -- ---- a recording that begins with the frame's front
  module _ (tail : List ℕ) where
    abbrev rec : List Taken
    rec = hard_recording (take 2112 chips ++ tail)

    fields : (accepted : _) → front_by accepted Long rec ≡ fields_of accepted Long rate service l
    fields accepted =
        let e = chips_before s.sendable.goes in
        ap (λ (m : ℕ). front_by accepted Long (hard_recording (take m chips ++ tail))) (sym e)
        ∙ begun_sent 0 rate phase clock payload w chips s tail accepted
        ∙ ap₂ (λ c m. fields_of accepted Long c service m)
        (back.pair 0 rate phase clock payload w chips s).code_back
        (back.length_sent 0 rate phase clock payload w chips s d)

    -- read alike where the fields come to the same for both, and refused where they are refused
    alike : (room : ℕ) → fields_of of1997 Long rate service l ≡ fields_of ours Long rate service l
        → (record_of (reading1997 rec room) ≡ record_of (reading_of 0 true rec room))
        × (octets1997 rec room ≡ octets_found 0 true rec room)
    alike room e =
        let v = guide_alike rec room (fields of1997 ∙ e ∙ sym (fields ours)) in
        (ap record_of v.0, v.1)

    answered : (room : ℕ) (e : Refusal) → fields_of of1997 Long rate service l ≡ Err e
        → record_of (reading1997 rec room) ≡ record_of (Err e)
    answered room e v = ap record_of (guide_refused rec room e (fields of1997 ∙ v)).0

pub begun_1997 : Begun1997
begun_1997 rate phase clock payload w chips s l d tail room a b left kept f g =
    let n = length payload in
    let service = service_field (rate_of rate) (clock_of clock) n in (
      (λ y c. let v = alike rate phase clock payload w chips s l d tail room
          (fields_ours rate service l y (unset y clock n c)) in
          (f.answer ∙ v.0 ∙ sym g.answer, f.octets ∙ v.1 ∙ sym g.octets)),
      (λ x. f.answer ∙ answered rate phase clock payload w chips s l d tail room (Signal l)
          (signal_neither Long rate service l x)),
      λ y c. f.answer ∙ answered rate phase clock payload w chips s l d tail room (Service l)
          (service_set Long rate service l y (set (rate_of rate) clock n c)),
    )

-- ---- whole frames: the front, and what follows it
module _ (rate phase clock : ℕ) (payload : List ℕ) (w : Written) (chips : List ℕ)
    (s : Sent 0 rate phase clock payload w chips) (tail : List ℕ) where
  abbrev rest : List ℕ
  rest = drop 2112 (take w.chips chips) ++ tail

  -- a frame is longer than its front
  longer : 2112 ≤ w.chips
  longer =
      omega (
        arith,
        chips_before s.sendable.goes,
        (kept.written_frame 0 rate phase clock payload w chips s).1,
      )

  parted : take w.chips chips ++ tail ≡ take 2112 chips ++ rest
  parted =
      ap (λ (x : List ℕ). x ++ tail)
      (sym (take-append-drop 2112 (take w.chips chips))
      ∙ ap (λ (x : List ℕ). x ++ drop 2112 (take w.chips chips)) (take-take 2112 w.chips chips longer))
      ∙ append_assoc (take 2112 chips) (drop 2112 (take w.chips chips)) tail

-- the lead of a clean frame at a guide's rates
leads : {rate : ℕ} → Rate1997 rate → (sent_lead rate ≡ 11264) × (sent_symbol 0 rate ≡ 0)
leads at_1 = (refl, refl)
leads at_2 = (refl, refl)

pub sent_1997 : Sent1997
sent_1997 rate phase clock payload w chips s l d tail room a left f =
    let heard = take w.chips chips ++ tail in
    let b = record_of (reading_of 0 true (hard_recording heard) room) in
    let octets = octets_found 0 true (hard_recording heard) room in
    let g = long_read heard room in
    let same = parted rate phase clock payload w chips s tail in
    let begun = begun_1997 rate phase clock payload w chips s l d (rest rate phase clock payload w chips s tail) room
    a b left octets (subst (λ (x : List ℕ). Read1997 x room a left) same f)
    (subst (λ (x : List ℕ). ReadHard 0 x room b octets) same g) in (
      (λ y c h. let ours = begun.0 y c in
          let read = kept.read_back 0 rate phase clock payload w chips s l d (length tail) room b octets
          (of_hard tail refl g) h in (
            ours.0 ∙ read.0
                ∙ (λ i. good rate l (length payload) w.chips (shown (c i)) ((leads y).0 i) ((leads y).1 i)),
            ours.1 ∙ read.1,
          )),
      begun.1,
      begun.2,
    )
