-- What a recording of hard chips is read as, with what led there.
--     hard_comes     each outcome, by the definition's tests
--     told_length    a front that told has a LENGTH of 1 and more
-- Assumes nothing.
use Rattle.std.specs.Prelude.{Result, Ok, Err, None, Some}
use mathlib.Core.Path.{◌≡◌, refl, sym, subst}
use mathlib.Core.Bool.{Bool, true, false, cond, not}
use mathlib.Core.List.{List}
use Prim.Native.Nat.{ℕ, ◌≤◌, ◌<◌}
use borrow.Author.Tests.{ltb-true, ltb-false}
use lib.Dec.{ltb}
use lib.ListN.{length}
use Rattle.rules_rates.specs.Rates.{code_of}
use Rattle.rules_rates.specs.Plain.{LengthOf}
use Rattle.rules_rates.proofs.Plain.{length_is, length_some}
use Rattle.rules_chips.specs.Chips.{Taken}
use Rattle.rules_frame.specs.declared.Kind.{Kind}
use Rattle.rules_frame.specs.Frame.{is_kind, kind_of, frame_chips}
use Rattle.rules_calls.specs.declared.Refusal.{Refusal}
use Rattle.rules_calls.specs.declared.Refusal.TheVariants.{NoKind, Unusable, OddGrowth, Ends, OctetRoom}
use Rattle.rules_calls.specs.declared.Told.{Told}
use Rattle.rules_calls.specs.declared.Reading.{Reading}
use Rattle.rules_reading.specs.Leads.{frame_leads, least_of}
use Rattle.rules_reading.specs.Reading.{front_of, whole_of, payload_odd, payload_reading, after_front, reading_of}
use Rattle.rules_reading.proofs.Payloads.{found_unusable}
use Rattle.rules_reading.proofs.Telling.{found_or_none, decided_by, Telling, TellingIf, front_telling}

-- what the front told, of a frame that is whole
pub record WholeFrame (kind : ℕ) (rec : List Taken) (t : Told) : Type 0 where
  pub is_kind_lem : is_kind kind ≡ true
  pub told : front_of (kind_of kind) rec ≡ Ok t
  pub long : frame_chips (kind_of kind) t.rate t.n ≤ length rec

module _ (kind : ℕ) (rec : List Taken) (room : ℕ) where
  abbrev k : Kind
  k = kind_of kind

  pub data HardComes : Result Reading Refusal → Type 0 where
    no_kind : is_kind kind ≡ false → HardComes (Err NoKind)
    by_front : {e : Refusal} → front_of k rec ≡ Err e → HardComes (Err e)
    ends : (t : Told) → front_of k rec ≡ Ok t → HardComes (Err (Ends t.length))
    no_room : (t : Told) → WholeFrame kind rec t → room < t.n → HardComes (Err (OctetRoom t.length))
    unusable : (t : Told) → WholeFrame kind rec t → (p : ℕ) → found_unusable k t rec ≡ Some p
        → HardComes (Err (Unusable p t.length))
    odd : (t : Told) → WholeFrame kind rec t → (p : ℕ) → payload_odd k t.rate t.n rec ≡ Some p
        → HardComes (Err (OddGrowth p t.length))
    accepted : (t : Told) → WholeFrame kind rec t → t.n ≤ room → found_unusable k t rec ≡ None
        → payload_odd k t.rate t.n rec ≡ None
        → HardComes (Ok (record { told = t; used = frame_chips k t.rate t.n; least = least_of (frame_leads k t.rate t.n rec) }))

  payload : (t : Told) → WholeFrame kind rec t → HardComes (payload_reading k t rec room)
  unfolding payload_reading
  payload t w =
      decided_by HardComes (ltb room t.n) _ _ (λ b. no_room t w (ltb-true _ _ b))
      (λ a. found_or_none HardComes (found_unusable k t rec) (λ p. Err (Unusable p t.length)) _
      (unusable t w)
      (λ u. found_or_none HardComes (payload_odd k t.rate t.n rec)
      (λ p. Err (OddGrowth p t.length)) _ (odd t w) (accepted t w (ltb-false _ _ a) u)))

  behind : is_kind kind ≡ true → (f : Result Told Refusal) → front_of k rec ≡ f → HardComes (after_front k rec room (whole_of k rec f))
  behind i (Err e) h = by_front h
  behind i (Ok t) h =
      decided_by (λ (f : Result Told Refusal). HardComes (after_front k rec room f))
      (ltb (length rec) (frame_chips k t.rate t.n)) (Err (Ends t.length)) (Ok t)
      (λ b. ends t h)
      (λ a. payload t (record { is_kind_lem = i; told = h; long = ltb-false _ _ a }))

  pub hard_comes : HardComes (reading_of kind true rec room)
  unfolding reading_of
  hard_comes = by (is_kind kind) refl
    where
      by : (b : Bool) → is_kind kind ≡ b
          → HardComes (cond (not b) (Err NoKind) (after_front k rec room (whole_of k rec (front_of k rec))))
      by false e = no_kind e
      by true e = behind e (front_of k rec) refl

pub told_length : (k : Kind) (rec : List Taken) (t : Told) → front_of k rec ≡ Ok t → 1 ≤ t.length
told_length k rec t e =
    let h : Telling k t = subst (TellingIf k) e (front_telling k rec) in
    length_some (subst (LengthOf (code_of t.rate) t.n) (sym h.length_is) (length_is t.rate t.n))
    h.some_octets
