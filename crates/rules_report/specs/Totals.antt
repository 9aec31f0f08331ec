-- Totals over a list of readings (RULES 6.19): each by its own definition, from what a read of each recording answers.
-- Definitions only. Assumes nothing.
use Rattle.std.specs.Prelude.{ℕ, suc, ◌+◌, Bool, true, cond, not, ◌&&◌, List, [], ◌∷◌, eqb, ltb, Option, None, Some}
use Rattle.rules_chips.specs.Chips.{hard_recording}
use Rattle.rules_calls.specs.declared.Record.{Record}
use Rattle.rules_calls.specs.Answers.{record_of}
use Rattle.rules_reading.specs.Reading.{reading_of}

-- a recording as it is handed in: a kind, which may be none, and hard chips
pub record Recording : Type 0 where
  pub kind : ℕ
  pub chips : List ℕ

-- what comes of one: the kind handed in, and the reader's answer
pub record Outcome : Type 0 where
  pub kind : ℕ
  pub answer : Record

-- each is read with room for 4,095 octets
abbrev pub outcome_of : Recording → Outcome
outcome_of r =
    record { kind = r.kind; answer = record_of (reading_of r.kind true (hard_recording r.chips) 4095) }

-- ---- totals

-- the sum of what each one counts for
unfoldable pub total : (Outcome → ℕ) → List Outcome → ℕ
total f [] = 0
total f (o ∷ os) = f o + total f os

abbrev pub accepted : Outcome → Bool
accepted o = eqb o.answer.number 0

abbrev pub accepted_at : ℕ → Outcome → Bool
accepted_at code o = accepted o && eqb o.answer.rate code

-- frames accepted of a rate, by its code, and their octets
abbrev pub frames_at : ℕ → List Outcome → ℕ
frames_at code os = total (λ o. cond (accepted_at code o) 1 0) os

abbrev pub octets_at : ℕ → List Outcome → ℕ
octets_at code os = total (λ o. cond (accepted_at code o) o.answer.n 0) os

-- recordings refused with a number
abbrev pub refused_with : ℕ → List Outcome → ℕ
refused_with number os = total (λ o. cond (not (accepted o) && eqb o.answer.number number) 1 0) os

-- microseconds of a front: 192 of a long one, 96 of a short one, by the kind handed in
abbrev pub front_time : ℕ → ℕ
front_time kind = cond (eqb kind 0) 192 96

-- microseconds of the frames accepted: each its front and LENGTH
abbrev pub airtime_of : List Outcome → ℕ
airtime_of os = total (λ o. cond (accepted o) (front_time o.kind + o.answer.length) 0) os

-- ---- the smallest lead of the frames accepted, and the recording that it came from

pub record Closest : Type 0 where
  pub lead : ℕ
  pub recording : ℕ

-- one with this lead, unless one after it has a smaller: so the first of equals
abbrev pub closer : ℕ → ℕ → Option Closest → Closest
closer lead at None = record { lead = lead; recording = at }
closer lead at (Some c) = cond (ltb c.lead lead) c (record { lead = lead; recording = at })

-- recordings are counted from `at` on, refused ones too; none, if no frame was accepted
unfoldable pub closest_from : ℕ → List Outcome → Option Closest
closest_from at [] = None
closest_from at (o ∷ os) =
    cond (accepted o) (Some (closer o.answer.lead at (closest_from (suc at) os))) (closest_from (suc at) os)
