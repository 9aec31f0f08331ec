-- Uses of what is promised of the call that reads as the guides of 1997 do: each takes a statement out of `kept`, and
-- together they need every part of it.
--     not_1, not_7, not_18, cleared, behind, as_long
--                            what is left, and numbers that do not come
--     by_rate, by_clock      55 with the clock bit, 20 with it, whatever LENGTH says: 13 and 14 with that LENGTH
--     as_long_read, as_cut   SIGNAL 10 and SERVICE 0, and a recording shorter than a front: what a long read has
--     own_length             a LENGTH that is shown is a header's
--     own_answer             13 and 14 show number and LENGTH, and all else 0, the lead and its symbol too
--     accepted_too, front_too, in_front, same_length, only_13_14
--                            beside our own long read
--     known_rate, no_clock   a frame that is accepted is of 10 or 20, without the clock bit
--     from_ours              and one that ours accepts there is accepted; at 110 it is 13, with the clock bit 14
--     caption, too_fast, clock_bit_lem, cut_short, any_end
--                            frames that were written
--     answered_once          another answer to the same recording
-- Assumes nothing.
use mathlib.Core.Path.{◌≡◌, refl, sym, ap, ◌∙◌, subst}
use mathlib.Core.Bool.{true}
use mathlib.Core.List.{List, ◌++◌}
use Prim.Native.Nat.{ℕ, ◌-◌, ◌≤◌, ◌<◌}
use native.Mathlib.Decide.{ℕ_discrete}
use native.Mathlib.Omega.{arith}
use lib.ListN.{length, take, drop, replicate}
use lib.Seq.{take_at}
use Rattle.rules_rates.specs.Plain.{LengthOf}
use Rattle.rules_chips.specs.Chips.{Taken, hard_recording}
use Rattle.rules_calls.specs.declared.Written.{Written}
use Rattle.rules_calls.specs.declared.Record.{Record}
use Rattle.rules_calls.specs.Plain.{Rate1997, at_1, at_2}
use Rattle.rules_calls.proofs.Guides.{not_55, not_110}
use Rattle.promises.specs.Calls.{ReadHard, refused_at, refused, Sent}
use Rattle.promises.specs.Reasons.{HasHeader, ReadAnswer}
use Rattle.promises.specs.Reasons as reasons
use Rattle.promises.proofs.Exactly.{headed_late, read_answers}
use Rattle.promises_1997.specs.Calls.{Read1997}
use Rattle.promises_1997.specs.Promises.{Answer1997, before_13, is_13, is_14, from_15}
use Rattle.promises_1997.proofs.SentTo.{chips_before}
use Rattle.promises_1997.proofs.Kept.{kept}

-- 8 to 12 of a long read with a place below 2,112 show no LENGTH
front_length : {rec : List Taken} {room : ℕ} {c : Record} → ReadAnswer 0 true rec room c → 8 ≤ c.number
    → c.number ≤ 12 → c.place < 2112 → c.length ≡ 0
front_length (reasons.is_1 h) n m p = refl
front_length (reasons.is_7 h d) n m p = refl
front_length (reasons.is_8 h d l) n m p = refl
front_length (reasons.front_9 h d u) n m p = refl
front_length (reasons.front_10 h u b d o) n m p = refl
front_length (reasons.is_11 h d o) n m p = refl
front_length (reasons.is_12 h f s v l c d) n m p = refl
front_length (reasons.is_13 h d) n m p = absurd (omega arith)
front_length (reasons.is_14 h d o) n m p = absurd (omega arith)
front_length (reasons.is_15 h d s o) n m p = absurd (omega arith)
front_length (reasons.is_16 h d) n m p = absurd (omega arith)
front_length (reasons.is_17 h t d) n m p = absurd (omega arith)
front_length (reasons.payload_9 h t r f d u) n m p = let long = chips_before h.goes in absurd (omega arith)
front_length (reasons.payload_10 h t r u e f d o) n m p = let long = chips_before h.goes in absurd (omega arith)
front_length (reasons.is_0 lead symbol h t r u v) n m p = absurd (omega arith)

module _ (chips : List ℕ) (room : ℕ) (a : Record) (left : List ℕ) (f : Read1997 chips room a left) where
  abbrev rec : List Taken
  rec = hard_recording chips

  -- ---- what is left, and numbers
  not_1 : a.number ≡ 1 → ⊥
  not_1 e = omega (arith, ((kept.fills_1997 chips room a left f).1 (λ z. omega arith)).1)

  not_7 : a.number ≡ 7 → ⊥
  not_7 e = omega (arith, ((kept.fills_1997 chips room a left f).1 (λ z. omega arith)).1)

  not_18 : a.number ≡ 18 → ⊥
  not_18 e = omega (arith, ((kept.fills_1997 chips room a left f).1 (λ z. omega arith)).2)

  cleared : (a.number ≡ 0 → ⊥) → left ≡ replicate room 0
  cleared z = ((kept.fills_1997 chips room a left f).1 z).0

  behind : a.number ≡ 0 → drop a.n left ≡ replicate (room - a.n) 0
  behind z = (kept.fills_1997 chips room a left f).2 z

  as_long : length left ≡ room
  as_long = (kept.fills_1997 chips room a left f).0

  -- ---- its number, and why
  by_rate : {l : ℕ} → HasHeader 0 true rec 55 4 l → (a.number ≡ 13) × (a.length ≡ l) × (a.place ≡ 0) × (a.n ≡ 0)
  by_rate {l} h =
      let e = (kept.answers_1997 chips room a left f).0 (refused 13 l) (is_13 h (not_55 refl)) in
      ((λ i. (sym e i).number), (λ i. (sym e i).length), (λ i. (sym e i).place), λ i. (sym e i).n)

  by_clock : {l : ℕ} → HasHeader 0 true rec 20 4 l → (a.number ≡ 14) × (a.length ≡ l) × (a.place ≡ 0) × (a.rate ≡ 0)
  by_clock {l} h =
      let e = (kept.answers_1997 chips room a left f).0 (refused 14 l) (is_14 h at_2 (λ z. omega arith)) in
      ((λ i. (sym e i).number), (λ i. (sym e i).length), (λ i. (sym e i).place), λ i. (sym e i).rate)

  as_long_read : {l : ℕ} (b : Record) → HasHeader 0 true rec 10 0 l → ReadAnswer 0 true rec room b
      → (a.number ≡ b.number) × (a.place ≡ b.place) × (a.used ≡ b.used) × (a.clock ≡ b.clock)
  as_long_read b h x =
      let e = (kept.answers_1997 chips room a left f).0 b (from_15 h at_1 x) in
      ((λ i. (sym e i).number), (λ i. (sym e i).place), (λ i. (sym e i).used), λ i. (sym e i).clock)

  as_cut : ReadAnswer 0 true rec room (refused 8 0) → a.number ≡ 8
  as_cut x =
      λ i. (sym ((kept.answers_1997 chips room a left f).0 (refused 8 0) (before_13 (omega arith) refl x)) i).number

  -- a LENGTH that is shown is a header's
  data Shown : ℕ → Type 0 where
    nothing : Shown 0
    of_header : {signal service l : ℕ} → HasHeader 0 true rec signal service l → Shown l

  own_length : Shown a.length
  own_length = by (kept.answers_1997 chips room a left f).1
    where
      by : {c : Record} → Answer1997 rec room c → Shown c.length
      by (before_13 n z x) = subst Shown (sym z) nothing
      by (is_13 h n) = of_header h
      by (is_14 h y n) = of_header h
      by (from_15 h y x) = subst Shown (sym (headed_late 0 true rec room h x).0) (of_header h)

  -- an answer is number and LENGTH, and all else 0, or one of a long read
  data Bare : Record → Type 0 where
    length_alone : (number l : ℕ) → Bare (refused number l)
    of_long_read : {c : Record} → ReadAnswer 0 true rec room c → Bare c

  own_answer : Bare a
  own_answer = by (kept.answers_1997 chips room a left f).1
    where
      by : {c : Record} → Answer1997 rec room c → Bare c
      by (before_13 n z x) = of_long_read x
      by (is_13 h n) = length_alone 13 _
      by (is_14 h y n) = length_alone 14 _
      by (from_15 h y x) = of_long_read x

  -- ---- beside our own long read
  module _ (b : Record) (octets : List ℕ) (g : ReadHard 0 chips room b octets) where
    accepted_too : a.number ≡ 0 → (a ≡ b) × (left ≡ octets)
    accepted_too z =
        (kept.beside_ours chips room a b left octets f g).0 (λ e. omega arith) (λ e. omega arith)

    front_too : (number place : ℕ) → number ≤ 12 → b ≡ refused_at number place 0
        → (a ≡ refused_at number place 0) × (left ≡ octets)
    front_too number place n e =
        let number_is : b.number ≡ number = λ i. (e i).number in
        let w = (kept.beside_ours chips room a b left octets f g).1 (omega arith) (λ i. (e i).length) in
        (w.0 ∙ e, w.1)

    -- by the place: 9 and 10 below 2,112 are in the front
    in_front : 8 ≤ b.number → b.number ≤ 12 → b.place < 2112 → (a ≡ b) × (left ≡ octets)
    in_front from to p =
        (kept.beside_ours chips room a b left octets f g).1 to
        (front_length (read_answers 0 true rec room b octets g).1 from to p)

    same_length : a.length ≡ b.length
    same_length = (kept.beside_ours chips room a b left octets f g).2

    -- a number that is not ours is 13 or 14
    only_13_14 : (a.number ≡ b.number → ⊥) → (a.number ≡ 13 → ⊥) → a.number ≡ 14
    only_13_14 d n = by (ℕ_discrete a.number 14)
      where
        by : Dec (a.number ≡ 14) → a.number ≡ 14
        by (yes e) = e
        by (no m) = absurd (d (λ i. (((kept.beside_ours chips room a b left octets f g).0 n m).0 i).number))

    -- ---- what is accepted
    also_zero : a.number ≡ 0 → b.number ≡ 0
    also_zero z = (λ i. (sym (accepted_too z).0 i).number) ∙ z

    known_rate : a.number ≡ 0 → (Rate1997 b.rate → ⊥) → ⊥
    known_rate z n =
        let e = (kept.accepted_ours chips room a b left octets f g (also_zero z)).1 n in
        let number : a.number ≡ 13 = λ i. (e i).number in
        omega arith

    no_clock : a.number ≡ 0 → Rate1997 b.rate → b.clock ≡ 0
    no_clock z y = by (ℕ_discrete b.clock 0)
      where
        by : Dec (b.clock ≡ 0) → b.clock ≡ 0
        by (yes e) = e
        by (no n) =
            let e = (kept.accepted_ours chips room a b left octets f g (also_zero z)).2 y n in
            let number : a.number ≡ 14 = λ i. (e i).number in
            absurd (omega arith)

    from_ours : b.number ≡ 0
        → (b.rate ≡ 20 → b.clock ≡ 0 → (a ≡ b) × (left ≡ octets))
        × (b.rate ≡ 110 → a ≡ refused 13 b.length)
        × (b.rate ≡ 10 → b.clock ≡ 1 → a ≡ refused 14 b.length)
    from_ours z =
        let w = kept.accepted_ours chips room a b left octets f g z in (
          (λ r c. w.0 (subst Rate1997 (sym r) at_2) c),
          (λ r. w.1 (not_110 r)),
          λ r c. w.2 (subst Rate1997 (sym r) at_1) (λ z. omega arith),
        )

-- ---- frames that were written
module _ (phase : ℕ) (payload : List ℕ) (w : Written) (chips : List ℕ) (room : ℕ) (a : Record) (left : List ℕ) where
  -- a caption at 1 or 2 Mbit/s, and chips of anything behind it
  caption : {rate : ℕ} → Rate1997 rate → Sent 0 rate phase 0 payload w chips → (tail : List ℕ)
      → Read1997 (take w.chips chips ++ tail) room a left → length payload ≤ room → (l : ℕ)
      → LengthOf rate (length payload) l
      → (a.number ≡ 0) × (a.place ≡ 0) × (a.rate ≡ rate) × (a.length ≡ l) × (a.n ≡ length payload)
      × (a.used ≡ w.chips) × (a.clock ≡ 0) × (a.lead ≡ 11264) × (a.symbol ≡ 0)
      × (take (length payload) left ≡ payload)
  caption {rate} y s tail f h l d =
      let v = (kept.sent_1997 rate phase 0 payload w chips s l d tail room a left f).0 y refl h in (
        (λ i. (v.0 i).number),
        (λ i. (v.0 i).place),
        (λ i. (v.0 i).rate),
        (λ i. (v.0 i).length),
        (λ i. (v.0 i).n),
        (λ i. (v.0 i).used),
        (λ i. (v.0 i).clock),
        (λ i. (v.0 i).lead),
        (λ i. (v.0 i).symbol),
        ap (take (length payload)) v.1
            ∙ take_at payload (replicate (room - length payload) 0) (length payload) refl,
      )

  -- at 5.5 and 11 Mbit/s, with the clock bit or without, and chips of anything behind it
  too_fast : (tail : List ℕ) → Read1997 (take w.chips chips ++ tail) room a left → (clock l : ℕ)
      → (Sent 0 55 phase clock payload w chips → LengthOf 55 (length payload) l → a ≡ refused 13 l)
      × (Sent 0 110 phase clock payload w chips → LengthOf 110 (length payload) l → a ≡ refused 13 l)
  too_fast tail f clock l = (
    (λ s d. (kept.sent_1997 55 phase clock payload w chips s l d tail room a left f).1 (not_55 refl)),
    λ s d. (kept.sent_1997 110 phase clock payload w chips s l d tail room a left f).1 (not_110 refl),
  )

  -- at 1 or 2 Mbit/s with the clock bit, any number but 0
  clock_bit_lem : {rate : ℕ} → Rate1997 rate → (clock : ℕ) → (clock ≡ 0 → ⊥) → Sent 0 rate phase clock payload w chips
      → (tail : List ℕ) → Read1997 (take w.chips chips ++ tail) room a left → (l : ℕ)
      → LengthOf rate (length payload) l → a ≡ refused 14 l
  clock_bit_lem {rate} y clock set s tail f l d =
      (kept.sent_1997 rate phase clock payload w chips s l d tail room a left f).2 y set

  -- the front, and anything or nothing behind it: at 5.5 and 11 Mbit/s 13, clock bit or not; at 1 and 2 Mbit/s with the
  -- clock bit 14, and without it what our own long read has
  module _ (tail : List ℕ) (b : Record) (octets : List ℕ) (f : Read1997 (take 2112 chips ++ tail) room a left)
      (g : ReadHard 0 (take 2112 chips ++ tail) room b octets) (l : ℕ) where
    cut_short : (clock : ℕ)
        → (Sent 0 55 phase clock payload w chips → LengthOf 55 (length payload) l → a ≡ refused 13 l)
        × (Sent 0 110 phase clock payload w chips → LengthOf 110 (length payload) l → a ≡ refused 13 l)
        × ((rate : ℕ) → Rate1997 rate → (clock ≡ 0 → ⊥) → Sent 0 rate phase clock payload w chips
        → LengthOf rate (length payload) l → a ≡ refused 14 l)
    cut_short clock = (
      (λ s d. (kept.begun_1997 55 phase clock payload w chips s l d tail room a b left octets f g).1 (not_55 refl)),
      (λ s d. (kept.begun_1997 110 phase clock payload w chips s l d tail room a b left octets f g).1 (not_110 refl)),
      λ rate y set s d.
          (kept.begun_1997 rate phase clock payload w chips s l d tail room a b left octets f g).2 y set,
    )

    any_end : {rate : ℕ} → Rate1997 rate → Sent 0 rate phase 0 payload w chips → LengthOf rate (length payload) l
        → (a ≡ b) × (left ≡ octets)
    any_end {rate} y s d =
        (kept.begun_1997 rate phase 0 payload w chips s l d tail room a b left octets f g).0 y refl

-- what holds of one answer and what it leaves holds of the other
answered_once : (chips : List ℕ) (room : ℕ) (a b : Record) (left octets : List ℕ) → Read1997 chips room a left
    → Read1997 chips room b octets → (P : Record → Type 0) (Q : List ℕ → Type 0) → P a → Q left → P b × Q octets
answered_once chips room a b left octets f g P Q p q =
    let w = kept.one_answer_1997 chips room a b left octets f g in
    (subst P w.0 p, subst Q w.1 q)
