-- A guide of 1997 beside our own long reader, for every recording: what its front comes to (`guide_front` of
-- rules_reading) decides whether both answer alike, or it answers 13 or 14 with the LENGTH that ours shows too.
--     came, by_way     the four ways in which a guide answers, with what led there, and what follows from all of them
--     beside_ours, accepted_ours    the statements
-- Assumes nothing.
use Rattle.std.specs.Prelude.{Result, Err}
use Rattle.rules_calls.specs.declared.Told.{Told}
use mathlib.Core.Path.{◌≡◌, refl, sym, ap, ◌∙◌, subst}
use mathlib.Core.Bool.{true}
use mathlib.Core.List.{List}
use Prim.Native.Nat.{ℕ, ◌/◌, ◌%◌, ◌≤◌}
use native.Mathlib.Omega.{arith}
use Rattle.rules_chips.specs.Chips.{Taken, hard_recording}
use Rattle.rules_frame.specs.declared.Kind.TheVariants.{Long}
use Rattle.rules_calls.specs.declared.Refusal.{Refusal}
use Rattle.rules_calls.specs.declared.Record.{Record}
use Rattle.rules_calls.specs.Answers.{refusal_number, refusal_length, record_of}
use Rattle.rules_calls.specs.Headers.{ours, of1997}
use Rattle.rules_calls.specs.Plain.{Rate1997}
use Rattle.rules_reading.specs.Reading.{front_by, front_of}
use Rattle.rules_reading.specs.Heard.{signal_heard, service_heard, length_heard}
use Rattle.rules_reading.proofs.Refusals.{
  Sound,
  FrontRefusal,
  front_short,
  front_unusable,
  front_odd_lem,
  sfd_differs,
  crc_differs,
  no_signal,
  no_service,
  no_length,
  front_number,
}
use Rattle.rules_reading.proofs.Readers.{front_unsound}
use Rattle.rules_reading.proofs.Guides.{
  GuideFront,
  as_unsound,
  by_signal,
  by_service,
  as_ours,
  guide_front,
  guide_alike,
  guide_refused,
}
use Rattle.promises.specs.Calls.{ReadHard, refused}
use Rattle.promises.specs.Reasons.{
  ServiceOf,
  service_0,
  service_4,
  HasHeader,
  ReadAnswer,
  is_1,
  is_7,
  is_8,
  front_9,
  front_10,
  is_11,
  is_12,
  is_13,
  is_14,
  is_15,
  is_16,
  is_17,
  payload_9,
  payload_10,
  is_0,
}
use Rattle.promises.proofs.Reasons.{has_header, read_says}
use Rattle.promises.proofs.Exactly.{one_header, headed_late}
use Rattle.promises_1997.specs.Calls.{Read1997}
use Rattle.promises_1997.specs.Promises.{BesideOurs, AcceptedOurs}

-- what is refused before 13 shows no LENGTH
no_length_yet : {rec : List Taken} {e : Refusal} → FrontRefusal Long rec e → refusal_number e ≤ 12 → refusal_length e ≡ 0
no_length_yet (front_short l) n = refl
no_length_yet (front_unusable p l f) n = refl
no_length_yet (front_odd_lem p l u f) n = refl
no_length_yet (sfd_differs c d) n = refl
no_length_yet (crc_differs c s d) n = refl
no_length_yet (no_signal s a) n = absurd (omega arith)
no_length_yet (no_service s a b) n = absurd (omega arith)
no_length_yet (no_length s a b d) n = absurd (omega arith)

-- what the answer to an accepted frame says of its header
record ToldOf (rec : List Taken) (b : Record) : Type 0 where
  pub service : ℕ
  pub header_is : HasHeader 0 true rec b.rate service b.length
  pub allowed : ServiceOf b.rate service
  pub clock_is : b.clock ≡ service / 4 % 2

told_of : {rec : List Taken} {room : ℕ} {b : Record} → ReadAnswer 0 true rec room b → b.number ≡ 0 → ToldOf rec b
told_of (is_1 h) z = absurd (omega arith)
told_of (is_7 h d) z = absurd (omega arith)
told_of (is_8 h d l) z = absurd (omega arith)
told_of (front_9 h d u) z = absurd (omega arith)
told_of (front_10 h u b d o) z = absurd (omega arith)
told_of (is_11 h d n) z = absurd (omega arith)
told_of (is_12 h f s v l c d) z = absurd (omega arith)
told_of (is_13 h d) z = absurd (omega arith)
told_of (is_14 h d n) z = absurd (omega arith)
told_of (is_15 h d s n) z = absurd (omega arith)
told_of (is_16 p d) z = absurd (omega arith)
told_of (is_17 p t d) z = absurd (omega arith)
told_of (payload_9 p t m f d u) z = absurd (omega arith)
told_of (payload_10 p t m u r f d o) z = absurd (omega arith)
told_of (is_0 {service = service} lead symbol p t m u v) z =
    record { service = service; header_is = p.header; allowed = p.service_of; clock_is = refl }

-- at a guide's rates, SERVICE without the clock bit is 0
no_clock : {rate service : ℕ} → Rate1997 rate → ServiceOf rate service → service / 4 % 2 ≡ 0 → service ≡ 0
no_clock y Rattle.promises.specs.Reasons.service_128 c = elim y [ ]
no_clock y Rattle.promises.specs.Reasons.service_132 c = elim y [ ]
no_clock y (service_0 rate) c = refl
no_clock y (service_4 rate) c = absurd (omega arith)

module _ (chips : List ℕ) (room : ℕ) (a b : Record) (left kept : List ℕ) (f : Read1997 chips room a left)
    (g : ReadHard 0 chips room b kept) where
  abbrev rec : List Taken
  rec = hard_recording chips

  abbrev Headed : ℕ → ℕ → ℕ → Type 0
  Headed = HasHeader 0 true rec

  pub own : ReadAnswer 0 true rec room b
  own = read_says 0 true rec room b kept g

  -- the four ways in which a guide answers
  pub data Came : Type 0 where
    unsound : a ≡ b → left ≡ kept → 8 ≤ b.number → b.number ≤ 12 → b.length ≡ 0 → Came
    thirteen : {signal service l : ℕ} → Headed signal service l → (Rate1997 signal → ⊥) → a ≡ refused 13 l → Came
    fourteen : {signal service l : ℕ} → Headed signal service l → Rate1997 signal → (service ≡ 0 → ⊥) → a ≡ refused 14 l
        → Came
    ours_too : {signal l : ℕ} → Headed signal 0 l → Rate1997 signal → a ≡ b → left ≡ kept → Came

  alike : front_by of1997 Long rec ≡ front_of Long rec → (a ≡ b) × (left ≡ kept)
  alike e =
      let w = guide_alike rec room e in
      (f.answer ∙ ap record_of w.0 ∙ sym g.answer, f.octets ∙ w.1 ∙ sym g.octets)

  answered : (e : Refusal) → front_by of1997 Long rec ≡ Err e → a ≡ record_of (Err e)
  answered e w = f.answer ∙ ap record_of (guide_refused rec room e w).0

  header : Sound Long rec → Headed (signal_heard Long rec) (service_heard Long rec) (length_heard Long rec)
  header s = has_header 0 true rec room refl refl s

  pub came : Came
  came = by (guide_front rec) refl
    where
      by : {x : Result Told Refusal} → GuideFront rec x → front_by of1997 Long rec ≡ x → Came
      by (as_unsound {e} r n) w =
          let z = alike (w ∙ sym (front_unsound Long rec r n ours)) in
          let is : b ≡ record_of (Err e) = sym z.0 ∙ answered e w in
          unsound z.0 z.1 (subst (λ (v : Record). 8 ≤ v.number) (sym is) (front_number r).0)
          (subst (λ (v : Record). v.number ≤ 12) (sym is) n)
          (ap (λ (v : Record). v.length) is ∙ no_length_yet r n)
      by (by_signal s n) w = thirteen (header s) n (answered _ w)
      by (by_service s y n) w = fourteen (header s) y n (answered _ w)
      by (as_ours s y z) w =
          let v = alike w in
          ours_too (subst (λ (x : ℕ). Headed (signal_heard Long rec) x (length_heard Long rec)) z (header s)) y v.0
          v.1

  -- what follows in each of the four ways follows
  by_way : {P : Type 0} → (a ≡ b → left ≡ kept → 8 ≤ b.number → P)
      → ((signal service l : ℕ) → Headed signal service l → (Rate1997 signal → ⊥) → a ≡ refused 13 l → P)
      → ((signal service l : ℕ) → Headed signal service l → Rate1997 signal → (service ≡ 0 → ⊥) → a ≡ refused 14 l → P)
      → ((signal l : ℕ) → Headed signal 0 l → Rate1997 signal → a ≡ b → left ≡ kept → P) → Came → P
  by_way u t v w (unsound e o from to none) = u e o from
  by_way u t v w (thirteen h n e) = t _ _ _ h n e
  by_way u t v w (fourteen h y n e) = v _ _ _ h y n e
  by_way u t v w (ours_too h y e o) = w _ _ h y e o

  -- where SFD and CRC are right, ours shows the header's LENGTH too, and that is not 0 where our number is at most 12
  own_late : {signal service l : ℕ} → Headed signal service l → (b.length ≡ l) × (b.number ≤ 12 → 1 ≤ b.length)
  own_late h = headed_late 0 true rec room h own

-- ---- the statements
pub beside_ours : BesideOurs
beside_ours chips room a b left kept f g =
    by_way chips room a b left kept f g
    (λ e o from. ((λ x y. (e, o)), (λ x y. (e, o)), λ i. (e i).length))
    (λ s v l h n e. (
      (λ x y. absurd (x (λ i. (e i).number))),
      (λ x z. let some = (own_late chips room a b left kept f g h).1 x in absurd (omega arith)),
      (λ i. (e i).length) ∙ sym (own_late chips room a b left kept f g h).0,
    ))
    (λ s v l h y n e. (
      (λ x z. absurd (z (λ i. (e i).number))),
      (λ x z. let some = (own_late chips room a b left kept f g h).1 x in absurd (omega arith)),
      (λ i. (e i).length) ∙ sym (own_late chips room a b left kept f g h).0,
    ))
    (λ s l h y e o. ((λ x z. (e, o)), (λ x z. (e, o)), λ i. (e i).length))
    (came chips room a b left kept f g)

pub accepted_ours : AcceptedOurs
accepted_ours chips room a b left kept f g zero =
    let t = told_of (own chips room a b left kept f g) zero in
    by_way chips room a b left kept f g
    (λ e o from. absurd (omega (arith, zero)))
    (λ s v l h n e. let w = one_header 0 true (hard_recording chips) room h t.header_is in
    let not_known : Rate1997 b.rate → ⊥ = λ y. n (subst Rate1997 (sym w.0) y) in
    ((λ y c. absurd (not_known y)), (λ y. e ∙ ap (refused 13) w.2), λ y c. absurd (not_known y)))
    (λ s v l h y n e. let w = one_header 0 true (hard_recording chips) room h t.header_is in
    let rate_known : Rate1997 b.rate = subst Rate1997 w.0 y in (
      (λ y c. absurd (n (w.1 ∙ no_clock rate_known t.allowed (sym t.clock_is ∙ c)))),
      (λ x. absurd (x rate_known)),
      λ y c. e ∙ ap (refused 14) w.2,
    ))
    (λ s l h y e o. let w = one_header 0 true (hard_recording chips) room h t.header_is in (
      (λ y c. (e, o)),
      (λ x. absurd (x (subst Rate1997 w.0 y))),
      λ y c. absurd (c (t.clock_is ∙ ap (λ (v : ℕ). v / 4 % 2) (sym w.1))),
    ))
    (came chips room a b left kept f g)
