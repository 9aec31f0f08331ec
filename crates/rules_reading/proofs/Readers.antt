-- What readers have in common that accept different headers: 8 to 12 are refused alike, and where none of them comes,
-- only what the three fields of the header tell differs.
--     front_unsound    8, 9 and 10 in the front, 11 and 12: refused alike, whatever headers are accepted
--     front_sound      else the front comes to what the fields that were heard do
--     sound_or_not     each recording is one or the other
--     front_few        a front that tells tells of at most 4,095 octets
-- Assumes nothing.
use Rattle.std.specs.Prelude.{Result, Ok, Err}
use mathlib.Core.Path.{◌≡◌, sym, ◌∙◌, subst}
use mathlib.Core.List.{List}
use Prim.Native.Nat.{ℕ, ◌≤◌}
use native.Mathlib.Omega.{arith}
use borrow.Author.Tests.{lt-ltb, le-ltb}
use lib.ListN.{length}
use Rattle.rules_chips.specs.Chips.{Taken}
use Rattle.rules_frame.specs.declared.Kind.{Kind}
use Rattle.rules_frame.specs.Frame.{front_chips}
use Rattle.rules_calls.specs.declared.Refusal.{Refusal}
use Rattle.rules_calls.specs.declared.Told.{Told}
use Rattle.rules_calls.specs.Answers.{refusal_number}
use Rattle.rules_calls.specs.Headers.{Accepted, fields_of}
use Rattle.rules_calls.proofs.Accepting.{
  FieldsCome,
  signal_out,
  service_out,
  length_out,
  fields_told,
  fields_come,
  sfd_refused,
  crc_refused,
  header_accepted,
}
use Rattle.rules_reading.specs.Heard.{sfd_heard, header_heard, signal_heard, service_heard, length_heard}
use Rattle.rules_reading.specs.Reading.{front_of, front_by}
use Rattle.rules_reading.proofs.Refusals.{
  Sound,
  FrontRefusal,
  front_short,
  front_unusable,
  front_odd_lem,
  sfd_differs,
  crc_differs,
  no_signal,
  no_service,
  no_length,
  FrontIf,
  front_refuses,
}

module _ (k : Kind) (rec : List Taken) where
  pub front_unsound : {e : Refusal} → FrontRefusal k rec e → refusal_number e ≤ 12 → (accepted : Accepted)
      → front_by accepted k rec ≡ Err e
  unfolding front_by
  front_unsound (front_short l) n accepted = rw (lt-ltb (length rec) (front_chips k) l)
  front_unsound (front_unusable p l f) n accepted = rw (le-ltb (length rec) (front_chips k) l, f)
  front_unsound (front_odd_lem p l u f) n accepted = rw (le-ltb (length rec) (front_chips k) l, u, f)
  front_unsound (sfd_differs c d) n accepted =
      rw (le-ltb (length rec) (front_chips k) c.long, c.usable, c.even)
      (sfd_refused accepted k (sfd_heard k rec) (header_heard k rec) d)
  front_unsound (crc_differs c s d) n accepted =
      rw (le-ltb (length rec) (front_chips k) c.long, c.usable, c.even)
      (crc_refused accepted k (sfd_heard k rec) (header_heard k rec) s d)
  front_unsound (no_signal s a) n accepted = absurd (omega arith)
  front_unsound (no_service s a b) n accepted = absurd (omega arith)
  front_unsound (no_length s a b d) n accepted = absurd (omega arith)

  pub front_sound : Sound k rec → (accepted : Accepted)
      → front_by accepted k rec ≡ fields_of accepted k (signal_heard k rec) (service_heard k rec) (length_heard k rec)
  unfolding front_by
  front_sound s accepted =
      rw (le-ltb (length rec) (front_chips k) s.clear.long, s.clear.usable, s.clear.even)
      (header_accepted accepted k (sfd_heard k rec) (header_heard k rec) s.sfd_is s.crc_is)

  pub data SoundOrNot : Type 0 where
    is_sound : Sound k rec → SoundOrNot
    not_sound : {e : Refusal} → FrontRefusal k rec e → refusal_number e ≤ 12 → SoundOrNot

  pub sound_or_not : SoundOrNot
  sound_or_not = go (front_of k rec) (front_refuses k rec)
    where
      by : {e : Refusal} → FrontRefusal k rec e → SoundOrNot
      by (front_short l) = not_sound (front_short l) (omega arith)
      by (front_unusable p l f) = not_sound (front_unusable p l f) (omega arith)
      by (front_odd_lem p l u f) = not_sound (front_odd_lem p l u f) (omega arith)
      by (sfd_differs c d) = not_sound (sfd_differs c d) (omega arith)
      by (crc_differs c s d) = not_sound (crc_differs c s d) (omega arith)
      by (no_signal s a) = is_sound s
      by (no_service s a b) = is_sound s
      by (no_length s a b d) = is_sound s

      go : (f : Result Told Refusal) → FrontIf k rec f → SoundOrNot
      go (Err e) h = by h
      go (Ok t) h = is_sound h.sound

pub front_few : (accepted : Accepted) (k : Kind) (rec : List Taken) (t : Told)
    → front_by accepted k rec ≡ Ok t → t.n ≤ 4095
front_few accepted k rec t e = by (sound_or_not k rec)
  where
    refused_not : (r : Refusal) → Err r ≡ Ok t → t.n ≤ 4095
    refused_not r w = let z : ◌≡◌ {A = ℕ} 0 1 = cc in absurd (omega arith)

    told_few : {f : Result Told Refusal} → FieldsCome accepted k (signal_heard k rec) (service_heard k rec) (length_heard k rec) f
        → f ≡ Ok t → t.n ≤ 4095
    told_few (signal_out a) w = refused_not _ w
    told_few (service_out a b) w = refused_not _ w
    told_few (length_out a b c) w = refused_not _ w
    told_few (fields_told u h) w = let z : u ≡ t = cc in subst (λ (v : Told). v.n ≤ 4095) z h.few

    by : SoundOrNot k rec → t.n ≤ 4095
    by (is_sound s) = told_few (fields_come accepted k _ _ _) (sym (front_sound k rec s accepted) ∙ e)
    by (not_sound r n) = refused_not _ (sym (front_unsound k rec r n accepted) ∙ e)
