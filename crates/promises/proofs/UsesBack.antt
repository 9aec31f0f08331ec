-- Uses of demand 2's statements, as they are kept, so that none of them can be said of nothing and none can lose a
-- part. Assumes nothing.
use mathlib.Core.Path.{◌≡◌, refl, sym, ap, ◌∙◌, subst}
use mathlib.Core.Bool.{true, false}
use mathlib.Core.List.{List, [], ◌∷◌, ◌++◌, append-nil, map}
use Prim.Native.Nat.{ℕ, ◌+◌, ◌-◌, ◌*◌, ◌/◌, ◌%◌, ◌^◌, ◌≤◌, ◌<◌}
use native.Mathlib.Omega.{arith}
use lib.ListN.{length, take, replicate}
use lib.IntN.{ℤ, pos, neg_ℤ}
use lib.Ieee.{Float}
use Rattle.base.specs.Below.{Below}
use Rattle.rules_rates.specs.declared.Rate.TheVariants.{One}
use Rattle.rules_rates.specs.Rates.{rate_of}
use Rattle.rules_rates.specs.Plain.{LengthOf, length_1, length_11}
use Rattle.rules_chips.specs.Chips.{hard_recording}
use Rattle.rules_bits.specs.Code.{words_chips}
use Rattle.rules_frame.specs.declared.Kind.TheVariants.{Long, Short}
use Rattle.rules_frame.specs.Frame.{kind_of, header_rate, frame}
use Rattle.rules_calls.specs.declared.Written.{Written}
use Rattle.rules_calls.specs.declared.Record.{Record}
use Rattle.rules_reading.specs.Reading.{preamble_words, header_words, payload_words}
use Rattle.rules_reading.proofs.Once.{field_once}
use Rattle.rules_clean.specs.Clean.{Exactly, soft_i, soft_q, byte_row}
use Rattle.promises.specs.Calls.{
  ReadHard,
  ReadSoft,
  ReadBytes,
  Sent,
  of_hard,
  of_soft,
  of_bytes,
  good,
  refused,
  shown,
  sent_lead,
  sent_symbol,
}
use Rattle.promises.specs.Promises.{begins_with}
use Rattle.promises.specs.Reasons.{long_bits, short_bits, FrontField}
use Rattle.promises.proofs.Kept.{kept}
use Rattle.promises.proofs.Uses.{goes_1}

-- ---- reading back, by recorder: the rows that hold the chips, and what stands after them
module _ (kind rate phase clock : ℕ) (payload : List ℕ) (w : Written) (chips : List ℕ)
    (s : Sent kind rate phase clock payload w chips) (l : ℕ) (d : LengthOf rate (length payload) l) (room : ℕ)
    (a : Record) (left : List ℕ) where
  abbrev whole : List ℕ
  whole = take w.chips chips

  abbrev Back : Type 0
  Back =
      (a ≡ good rate l (length payload) w.chips (shown clock) (sent_lead rate) (sent_symbol kind rate))
      × (left ≡ payload ++ replicate (room - length payload) 0)

  pub back_hard : (tail : List ℕ) → ReadHard kind (whole ++ tail) room a left → length payload ≤ room → Back
  back_hard tail f h =
      kept.read_back kind rate phase clock payload w chips s l d (length tail) room a left (of_hard tail refl f) h

  pub back_soft : (i q i' q' : List Float) → Exactly whole i q → length i' ≡ length q'
      → ReadSoft kind (i ++ i') (q ++ q') room a left → length payload ≤ room → Back
  back_soft i q i' q' e g f h =
      kept.read_back kind rate phase clock payload w chips s l d (length i') room a left
      (of_soft i q i' q' e refl (sym g) f) h

  pub back_bytes : (tail : List ℤ) → length tail % 2 ≡ 0 → ReadBytes kind (byte_row whole ++ tail) room a left
      → length payload ≤ room → Back
  back_bytes tail even f h =
      kept.read_back kind rate phase clock payload w chips s l d (length tail / 2) room a left
      (of_bytes tail (omega (arith, even)) f) h

  -- short of room, whatever stands after it
  pub no_room_soft : (i q : List Float) → Exactly whole i q → (x y : Float)
      → ReadSoft kind (i ++ (x ∷ [])) (q ++ (y ∷ [])) room a left → room < length payload
      → a ≡ refused 17 l
  no_room_soft i q e x y f h =
      (kept.not_read_back kind rate phase clock payload w chips s l d room a left).0 1
      (of_soft i q (x ∷ []) (y ∷ []) e refl refl f) h

  pub no_room_bytes : ReadBytes kind (byte_row whole ++ (pos 127 ∷ neg_ℤ (pos 128) ∷ [])) room a left
      → room < length payload → a ≡ refused 17 l
  no_room_bytes f h =
      (kept.not_read_back kind rate phase clock payload w chips s l d room a left).0 1
      (of_bytes (pos 127 ∷ neg_ℤ (pos 128) ∷ []) refl f) h

  -- cut after j chips
  module _ (j : ℕ) where
    pub cut_hard : ReadHard kind (take j chips) room a left → j < s.sendable.front → a ≡ refused 8 0
    cut_hard f h =
        (kept.not_read_back kind rate phase clock payload w chips s l d room a left).2 j
        (of_hard [] refl (subst (λ (l : List ℕ). ReadHard kind l room a left) (sym (append-nil _)) f)) h

    pub cut_soft : (i q : List Float) → Exactly (take j chips) i q → ReadSoft kind i q room a left
        → s.sendable.front ≤ j → j < w.chips → a ≡ refused 16 l
    cut_soft i q e f h m =
        (kept.not_read_back kind rate phase clock payload w chips s l d room a left).1 j
        (of_soft i q [] [] e refl refl
        (subst (λ (l : List Float). ReadSoft kind l (q ++ []) room a left) (sym (append-nil i))
        (subst (λ (l : List Float). ReadSoft kind i l room a left) (sym (append-nil q)) f)))
        h m

    pub cut_bytes : ReadBytes kind (byte_row (take j chips)) room a left
        → s.sendable.front ≤ j → j < w.chips → a ≡ refused 16 l
    cut_bytes f h m =
        (kept.not_read_back kind rate phase clock payload w chips s l d room a left).1 j
        (of_bytes [] refl (subst (λ (l : List ℤ). ReadBytes kind l room a left) (sym (append-nil _)) f))
        h m

-- LENGTH in plain numbers, at 1 and at 11 Mbit/s: 8 n, and 8 n / 11 rounded up
pub back_at_1 : (kind phase clock : ℕ) (payload : List ℕ) (w : Written) (chips : List ℕ)
    → Sent kind 10 phase clock payload w chips → (room : ℕ) (a : Record) (left : List ℕ)
    → ReadHard kind (take w.chips chips ++ []) room a left → length payload ≤ room
    → a.length ≡ 8 * length payload
back_at_1 kind phase clock payload w chips s room a left f h =
    ap (λ (v : Record). v.length)
    (back_hard kind 10 phase clock payload w chips s _ (length_1 (length payload)) room a left [] f h).0

pub back_at_11 : (kind phase clock : ℕ) (payload : List ℕ) (w : Written) (chips : List ℕ)
    → Sent kind 110 phase clock payload w chips → (room : ℕ) (a : Record) (left : List ℕ)
    → ReadHard kind (take w.chips chips ++ []) room a left → length payload ≤ room
    → a.length ≡ (8 * length payload + 10) / 11
back_at_11 kind phase clock payload w chips s room a left f h =
    let n = length payload in
    ap (λ (v : Record). v.length)
    (back_hard kind 110 phase clock payload w chips s _
    (length_11 n ((8 * n + 10) / 11) (omega arith) (omega arith)) room a left [] f h).0

-- a clock of 2^40 is shown as 1
pub shown_yes : shown 0 ∷ shown 1 ∷ shown 256 ∷ shown (2 ^ 40) ∷ [] ≡ 0 ∷ 1 ∷ 1 ∷ 1 ∷ []
shown_yes = refl

-- ---- the frame: its chips in plain numbers; with a clock of 2^40 the bit is set
module _ (kind rate phase clock : ℕ) (payload : List ℕ) (w : Written) (chips : List ℕ)
    (s : Sent kind rate phase clock payload w chips) where
  pub chips_at_1 : rate ≡ 10 → (w.number ≡ 0) × (w.chips ≡ 2112 + 88 * length payload)
  chips_at_1 ten =
      let e = kept.written_frame kind rate phase clock payload w chips s in
      let g = goes_1 s.sendable.goes ten in
      (e.0, rw (sym g.1, sym g.2) e.1)

pub frame_without_clock : (kind rate phase : ℕ) (payload : List ℕ) (w : Written) (chips : List ℕ)
    → Sent kind rate phase 0 payload w chips
    → take w.chips chips ≡ frame (kind_of kind) (rate_of rate) phase false payload
frame_without_clock kind rate phase payload w chips s = (kept.written_frame kind rate phase 0 payload w chips s).2

pub frame_with_clock : (kind rate phase : ℕ) (payload : List ℕ) (w : Written) (chips : List ℕ)
    → Sent kind rate phase (2 ^ 40) payload w chips
    → take w.chips chips ≡ frame (kind_of kind) (rate_of rate) phase true payload
frame_with_clock kind rate phase payload w chips s =
    (kept.written_frame kind rate phase (2 ^ 40) payload w chips s).2

-- ---- one source: with the clock bit and without it no two writes leave the same chips; with either, rate, phase and
-- payload are one
pub clocks_differ : (kind rate phase : ℕ) (payload : List ℕ) (w w' : Written) (chips : List ℕ)
    → Sent kind rate phase 0 payload w chips → Sent kind rate phase 256 payload w' chips → ⊥
clocks_differ kind rate phase payload w w' chips s t =
    let e : ◌≡◌ {A = ℕ} 0 1 =
    (kept.one_source kind rate rate phase phase 0 256 payload payload w w' chips s t).2 in
    omega (arith, e)

pub one_payload : (kind rate rate' phase phase' clock clock' : ℕ) (payload payload' : List ℕ) (w w' : Written)
    (chips : List ℕ) → Sent kind rate phase clock payload w chips → Sent kind rate' phase' clock' payload' w' chips
    → (rate ≡ rate') × (phase ≡ phase') × (payload ≡ payload')
one_payload kind rate rate' phase phase' clock clock' payload payload' w w' chips s t =
    let e = kept.one_source kind rate rate' phase phase' clock clock' payload payload' w w' chips s t in
    (e.0, e.1, e.3)

-- ---- the starting phase: a short frame from 2 begins with these symbols; one from 3 has a quarter turn less at every
-- chip than one from 0
pub from_2 : (rate phase clock : ℕ) (payload : List ℕ) (w : Written) (chips : List ℕ)
    → Sent 1 rate phase clock payload w chips → phase ≡ 2
    → take 88 chips ≡ words_chips One (2 ∷ 2 ∷ 2 ∷ 0 ∷ 2 ∷ 2 ∷ 2 ∷ 0 ∷ [])
from_2 rate phase clock payload w chips s e =
    (kept.sent_begins 1 rate phase clock payload w chips s).0 ∙ ap (λ (p : ℕ). words_chips One (begins_with 1 p)) e

pub from_3 : (kind rate clock : ℕ) (payload : List ℕ) (w w' : Written) (chips chips' : List ℕ)
    → Sent kind rate 3 clock payload w chips → Sent kind rate 0 clock payload w' chips'
    → take w.chips chips ≡ map (λ c. (3 + c) % 4) (take w'.chips chips')
from_3 kind rate clock payload w w' chips chips' s t =
    kept.phase_turns kind rate 3 clock payload w w' chips chips' s t

-- ---- SYNC as its symbols say it: bit 100 of a long one is 1 and nothing else, bit 50 of a short one 0
pub sync_ones : (rate phase clock : ℕ) (payload : List ℕ) (w : Written) (chips : List ℕ)
    → Sent 0 rate phase clock payload w chips → (v : ℕ) → FrontField 0 (hard_recording chips) 100 1 v → v ≡ 1
sync_ones rate phase clock payload w chips s v f =
    field_once Long One (hard_recording chips) 0 f
    ((kept.sent_begins 0 rate phase clock payload w chips s).1 _ _ _ 100 long_bits (omega arith) (omega arith))

pub sync_zeros : (rate phase clock : ℕ) (payload : List ℕ) (w : Written) (chips : List ℕ)
    → Sent 1 rate phase clock payload w chips → (v : ℕ) → FrontField 1 (hard_recording chips) 50 1 v → v ≡ 0
sync_zeros rate phase clock payload w chips s v f =
    field_once Short One (hard_recording chips) 0 f
    ((kept.sent_begins 1 rate phase clock payload w chips s).1 _ _ _ 50 short_bits (omega arith) (omega arith))

-- ---- words: two frames whose symbols are read alike have the same chips
pub words_alike : (kind rate phase phase' clock clock' : ℕ) (payload payload' : List ℕ) (w w' : Written)
    (chips chips' : List ℕ) → Sent kind rate phase clock payload w chips
    → Sent kind rate phase' clock' payload' w' chips' → length payload ≡ length payload'
    → preamble_words (kind_of kind) (hard_recording chips) ≡ preamble_words (kind_of kind) (hard_recording chips')
    → header_words (kind_of kind) (hard_recording chips) ≡ header_words (kind_of kind) (hard_recording chips')
    → payload_words (kind_of kind) (rate_of rate) (length payload) (hard_recording chips)
    ≡ payload_words (kind_of kind) (rate_of rate) (length payload') (hard_recording chips')
    → take w.chips chips ≡ take w'.chips chips'
words_alike kind rate phase phase' clock clock' payload payload' w w' chips chips' s t n a b c =
    kept.sent_words kind rate phase clock payload w chips s
    ∙ (λ i. words_chips One (a i) ++ (words_chips (header_rate (kind_of kind)) (b i) ++ words_chips (rate_of rate) (c i)))
    ∙ sym (kept.sent_words kind rate phase' clock' payload' w' chips' t)

-- ---- soft rows that hold the chips there are, with either zero
pub plus_zeros : (phases : List ℕ) → Below 4 phases → Exactly phases (map (soft_i 0) phases) (map (soft_q 0) phases)
plus_zeros phases h = (kept.soft_rows phases h).0

pub minus_zeros : (phases : List ℕ) → Below 4 phases
    → Exactly phases (map (soft_i 0x8000_0000) phases) (map (soft_q 0x8000_0000) phases)
minus_zeros phases h = (kept.soft_rows phases h).1
