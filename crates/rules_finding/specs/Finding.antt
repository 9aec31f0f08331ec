-- Find the start (RULES 6.17): the smallest offset, of so many to try, from which a read meets none of refusals 8 to
-- 15, 9 and 10 over the front only; and the call's answer.
-- Definitions only. Assumes nothing.
use Rattle.rules_calls.specs.declared.Refusal.{Refusal}
use Rattle.std.specs.Prelude.{ℕ, zero, suc, Bool, cond, not, ◌&&◌, List, drop, leb, Result, Ok, Err}
use Rattle.rules_rates.specs.Rates.{code_of}
use Rattle.rules_chips.specs.Chips.{Taken}
use Rattle.rules_frame.specs.declared.Kind.{Kind}
use Rattle.rules_frame.specs.Frame.{is_kind, kind_of, clock_bit}
use Rattle.rules_calls.specs.declared.Told.{Told}
use Rattle.rules_reading.specs.Reading.{front_of}
use Rattle.rules_finding.specs.declared.NotFound.{NotFound}
use Rattle.rules_finding.specs.declared.NotFound.TheVariants.{NoKind, NoOffsets, NoStart}
use Rattle.rules_finding.specs.declared.Start.{Start}
use Rattle.rules_finding.specs.declared.Found.{Found}

-- 18: the offsets to try are 1 to 4,096
abbrev pub is_offsets : ℕ → Bool
is_offsets n = leb 1 n && leb n 4096

-- a start at this offset
abbrev pub start_at : ℕ → Told → Result Start NotFound
start_at at t = Ok (record { offset = at; told = t })

-- a front that meets none of 8 to 15 starts at this offset; else what comes next
abbrev pub start_or : ℕ → Result Told Refusal → Result Start NotFound → Result Start NotFound
start_or at (Err e) next = next
start_or at (Ok t) next = start_at at t

-- of m offsets from `at` on, where `rec` is what the recording has from there, the smallest; 19 where there is none
unfoldable pub first_start : Kind → ℕ → ℕ → List Taken → Result Start NotFound
first_start k at zero rec = Err NoStart
first_start k at (suc m) rec = start_or at (front_of k rec) (first_start k (suc at) m (drop 1 rec))

-- 1, then 18, both before the recording is looked at
unfoldable pub finding_of : ℕ → ℕ → List Taken → Result Start NotFound
finding_of kind offsets rec =
    cond (not (is_kind kind)) (Err NoKind)
    (cond (not (is_offsets offsets)) (Err NoOffsets)
    (first_start (kind_of kind) 0 offsets rec))

-- the number of a refusal
abbrev pub not_found_number : NotFound → ℕ
not_found_number NoKind = 1
not_found_number NoOffsets = 18
not_found_number NoStart = 19

-- a start answers number 0, its offset, the rate code, LENGTH, the clock bit and n; a refusal its number, all else 0
abbrev pub found_of : Result Start NotFound → Found
found_of (Err e) = record { number = not_found_number e; offset = 0; rate = 0; length = 0; clock = 0; n = 0 }
found_of (Ok s) =
    record {
      number = 0;
      offset = s.offset;
      rate = code_of s.told.rate;
      length = s.told.length;
      clock = clock_bit s.told.clock;
      n = s.told.n;
    }
