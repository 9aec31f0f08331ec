-- What is coming, from a recording's front only (RULES 6.15): the answer, and the part of the recording that holds the
-- payload's chips.
-- Definitions only. Assumes nothing.
use Rattle.rules_calls.specs.declared.Told.{Told}
use Rattle.rules_calls.specs.declared.Refusal.{Refusal}
use Rattle.std.specs.Prelude.{ℕ, ◌+◌, ◌-◌, cond, not, List, [], length, take, drop, ltb, Result, Ok, Err}
use Rattle.rules_rates.specs.Rates.{code_of}
use Rattle.rules_chips.specs.Chips.{Taken}
use Rattle.rules_frame.specs.declared.Kind.{Kind}
use Rattle.rules_frame.specs.Frame.{is_kind, kind_of, clock_bit, front_chips, frame_chips}
use Rattle.rules_calls.specs.declared.Refusal.TheVariants.{NoKind}
use Rattle.rules_calls.specs.Answers.{refusal_number, refusal_place, refusal_length}
use Rattle.rules_reading.specs.Reading.{front_of, whole_of}
use Rattle.rules_coming.specs.declared.Coming.{Coming}

-- 1, 8, then 9 and 10 over the front, 11 to 16, as a reader looks for them; 17 is not asked, nor are 9 and 10 over the
-- payload
unfoldable pub front_reading : ℕ → List Taken → Result Told Refusal
front_reading kind rec =
    cond (not (is_kind kind)) (Err NoKind) (whole_of (kind_of kind) rec (front_of (kind_of kind) rec))

-- a front that is not refused answers number 0, what its header tells, the whole frame's chips, and where the payload's
-- are; a refusal its number, place and LENGTH, all else 0
abbrev pub coming_of : Kind → Result Told Refusal → Coming
coming_of k (Err e) =
    record {
      number = refusal_number e;
      place = refusal_place e;
      rate = 0;
      length = refusal_length e;
      clock = 0;
      n = 0;
      used = 0;
      at = 0;
      count = 0;
    }
coming_of k (Ok t) =
    let all = frame_chips k t.rate t.n in
    record {
      number = 0;
      place = 0;
      rate = code_of t.rate;
      length = t.length;
      clock = clock_bit t.clock;
      n = t.n;
      used = all;
      at = front_chips k;
      count = all - front_chips k;
    }

-- the part of a recording that is `count` chips from the chip `at`; none where the recording does not have them
abbrev pub part_of : ℕ → ℕ → List ℕ → List ℕ
part_of at count chips = cond (ltb (length chips) (at + count)) [] (take count (drop at chips))
