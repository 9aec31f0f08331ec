-- What a guide of 1997 answers is a case of `Answer1997`, and no other case is one but for the lead and its symbol: by
-- the four ways in which it answers (`came`), and since our own long reader's answer is one (`read_answers` of
-- promises). And its numbers are 0 and 8 to 17. Assumes nothing.
use mathlib.Core.Path.{◌≡◌, refl, sym, ap, ◌∙◌, subst}
use mathlib.Core.Bool.{true}
use mathlib.Core.List.{List}
use Prim.Native.Nat.{ℕ, ◌≤◌}
use native.Mathlib.Omega.{arith}
use Rattle.rules_chips.specs.Chips.{Taken, hard_recording}
use Rattle.rules_calls.specs.declared.Record.{Record}
use Rattle.rules_calls.specs.Answers.{record_of}
use Rattle.rules_calls.specs.Plain.{Rate1997}
use Rattle.rules_reading.specs.Reading.{reading_of, octets_found}
use Rattle.promises.specs.Calls.{ReadHard, refused}
use Rattle.promises.specs.Reasons.{
  HasHeader,
  ReadAnswer,
  is_1,
  is_7,
  is_8,
  front_9,
  front_10,
  is_11,
  is_12,
  is_13,
  is_14,
  is_15,
  is_16,
  is_17,
  payload_9,
  payload_10,
  is_0,
  SameButLead,
}
use Rattle.promises.proofs.Reasons.{clash}
use Rattle.promises.proofs.Exactly.{one_header, headed_late, read_answers}
use Rattle.promises_1997.specs.Calls.{Read1997}
use Rattle.promises_1997.specs.Promises.{Answer1997, before_13, from_15, Answers1997}
use Rattle.promises_1997.specs.Promises as answer
use Rattle.promises_1997.proofs.Beside.{Came, unsound, thirteen, fourteen, ours_too, own, came, beside_ours}

-- our own long read of a recording
pub long_read : (chips : List ℕ) (room : ℕ)
    → ReadHard 0 chips room (record_of (reading_of 0 true (hard_recording chips) room))
    (octets_found 0 true (hard_recording chips) room)
long_read chips room = record { answer = refl; octets = refl }

-- the numbers of a long read
long_numbers : {rec : List Taken} {room : ℕ} {b : Record} → ReadAnswer 0 true rec room b → (b.number ≡ 0 → ⊥)
    → (8 ≤ b.number) × (b.number ≤ 17)
long_numbers (is_1 h) z = absurd (omega arith)
long_numbers (is_7 h d) z = absurd (clash refl d)
long_numbers (is_8 h d l) z = (omega arith, omega arith)
long_numbers (front_9 h d u) z = (omega arith, omega arith)
long_numbers (front_10 h u b d o) z = (omega arith, omega arith)
long_numbers (is_11 h d n) z = (omega arith, omega arith)
long_numbers (is_12 h f s v l c d) z = (omega arith, omega arith)
long_numbers (is_13 h d) z = (omega arith, omega arith)
long_numbers (is_14 h d n) z = (omega arith, omega arith)
long_numbers (is_15 h d s n) z = (omega arith, omega arith)
long_numbers (is_16 p d) z = (omega arith, omega arith)
long_numbers (is_17 p t d) z = (omega arith, omega arith)
long_numbers (payload_9 p t m f d u) z = (omega arith, omega arith)
long_numbers (payload_10 p t m u r f d o) z = (omega arith, omega arith)
long_numbers (is_0 lead symbol p t m u v) z = absurd (z refl)

module _ (chips : List ℕ) (room : ℕ) (a : Record) (left : List ℕ) (f : Read1997 chips room a left) where
  abbrev rec : List Taken
  rec = hard_recording chips

  abbrev b : Record
  b = record_of (reading_of 0 true rec room)

  abbrev kept : List ℕ
  kept = octets_found 0 true rec room

  abbrev g : ReadHard 0 chips room b kept
  g = long_read chips room

  own_b : ReadAnswer 0 true rec room b
  own_b = own chips room a b left kept f g

  one_b : (c : Record) → ReadAnswer 0 true rec room c → SameButLead b c
  one_b = (read_answers 0 true rec room b kept g).0

  came_by : Came chips room a b left kept f g
  came_by = came chips room a b left kept f g

  -- ---- its own case
  pub own_case : Answer1997 rec room a
  own_case = by came_by
    where
      by : Came chips room a b left kept f g → Answer1997 rec room a
      by (unsound e o from to none) = subst (Answer1997 rec room) (sym e) (before_13 to none own_b)
      by (thirteen h n e) = subst (Answer1997 rec room) (sym e) (answer.is_13 h n)
      by (fourteen h y n e) = subst (Answer1997 rec room) (sym e) (answer.is_14 h y n)
      by (ours_too h y e o) = subst (Answer1997 rec room) (sym e) (from_15 h y own_b)

  -- ---- and no other
  as_b : (c : Record) → a ≡ b → ReadAnswer 0 true rec room c → SameButLead a c
  as_b c e x = subst (λ (v : Record). SameButLead v c) (sym e) (one_b c x)

  -- where 8 to 12 come for the front there is no header with SFD and CRC right
  not_both : {signal service l : ℕ} → HasHeader 0 true rec signal service l → b.number ≤ 12 → b.length ≡ 0 → ⊥
  not_both h n z = let some = (headed_late 0 true rec room h own_b).1 n in omega arith

  same_refused : (number : ℕ) {l m : ℕ} → l ≡ m → a ≡ refused number m → SameButLead a (refused number l)
  same_refused number {l} q e =
      subst (λ (v : Record). SameButLead v (refused number l)) (sym (e ∙ ap (refused number) (sym q))) refl

  is_one : {c : Record} → Answer1997 rec room c → Came chips room a b left kept f g → SameButLead a c
  is_one {c} (before_13 n z x) k =
      let e = one_b c x in
      let w = (beside_ours chips room a b left kept f g).1 in
      as_b c (w (subst (λ (m : ℕ). m ≤ 12) (λ i. (e i).number) n) ((λ i. (sym e i).length) ∙ z)).0 x
  is_one (answer.is_13 h n) (unsound e o from to none) = absurd (not_both h to none)
  is_one (answer.is_13 h n) (thirteen k m e) =
      same_refused 13 (one_header 0 true rec room h k).2 e
  is_one (answer.is_13 h n) (fourteen k y m e) = absurd (n (subst Rate1997 (one_header 0 true rec room k h).0 y))
  is_one (answer.is_13 h n) (ours_too k y e o) = absurd (n (subst Rate1997 (one_header 0 true rec room k h).0 y))
  is_one (answer.is_14 h y n) (unsound e o from to none) = absurd (not_both h to none)
  is_one (answer.is_14 h y n) (thirteen k m e) = absurd (m (subst Rate1997 (one_header 0 true rec room h k).0 y))
  is_one (answer.is_14 h y n) (fourteen k z m e) =
      same_refused 14 (one_header 0 true rec room h k).2 e
  is_one (answer.is_14 h y n) (ours_too k z e o) = absurd (n (one_header 0 true rec room h k).1)
  is_one {c} (from_15 h y x) (unsound e o from to none) = as_b c e x
  is_one (from_15 h y x) (thirteen k m e) = absurd (m (subst Rate1997 (one_header 0 true rec room h k).0 y))
  is_one (from_15 h y x) (fourteen k z m e) = absurd (m (sym (one_header 0 true rec room h k).1))
  is_one {c} (from_15 h y x) (ours_too k z e o) = as_b c e x

  pub no_other_case : (c : Record) → Answer1997 rec room c → SameButLead a c
  no_other_case c x = is_one x came_by

  -- ---- its numbers
  pub numbers : (a.number ≡ 0 → ⊥) → (8 ≤ a.number) × (a.number ≤ 17)
  numbers z = by own_case z
    where
      by : {c : Record} → Answer1997 rec room c → (c.number ≡ 0 → ⊥) → (8 ≤ c.number) × (c.number ≤ 17)
      by (before_13 n e x) z = long_numbers x z
      by (answer.is_13 h n) z = (omega arith, omega arith)
      by (answer.is_14 h y n) z = (omega arith, omega arith)
      by (from_15 h y x) z = long_numbers x z

pub answers_1997 : Answers1997
answers_1997 chips room a left f = (no_other_case chips room a left f, own_case chips room a left f)
