-- Reports computed from the definitions and compared with RULES 6.19. Outcomes are made up: kind, then rate, n, LENGTH
-- and lead of a frame, or number and LENGTH of a refusal.
-- Assumes nothing.
use mathlib.Core.Path.{◌≡◌, refl}
use mathlib.Core.Bool.{true, false}
use mathlib.Core.List.{List, [], ◌∷◌, ◌++◌, map}
use Prim.Native.Nat.{ℕ, zero, suc, ◌*◌}
use lib.ListN.{replicate, set}
use Rattle.base.specs.Tables.{tabulate}
use Rattle.rules_chips.specs.Chips.{hard_recording}
use Rattle.rules_frame.specs.declared.Kind.TheVariants.{Long, Short}
use Rattle.rules_frame.specs.Frame.{front_chips}
use Rattle.rules_reading.specs.Reading.{first_unusable, front_by, reading_of}
use Rattle.rules_report.specs.Totals.{Recording, Outcome, outcome_of, total, front_time, closest_from}
use Rattle.rules_report.specs.Report.{
  report_of,
  more,
  added,
  at_most,
  takes_more,
  counted_of,
  recordings,
  list_of,
}
use Rattle.rules_report.specs.declared.Report.{Report}
use Rattle.rules_report.specs.declared.Counted.{Counted}

abbrev frame : ℕ → ℕ → ℕ → ℕ → ℕ → Outcome
frame kind rate n l lead =
    record {
      kind = kind;
      answer =
          record {
            number = 0;
            place = 0;
            rate = rate;
            length = l;
            n = n;
            used = 5;
            clock = 1;
            lead = lead;
            symbol = 7;
          };
    }

abbrev refusal : ℕ → ℕ → ℕ → Outcome
refusal kind number l =
    record {
      kind = kind;
      answer =
          record {
            number = number;
            place = 11;
            rate = 0;
            length = l;
            n = 0;
            used = 0;
            clock = 0;
            lead = 0;
            symbol = 0;
          };
    }

abbrev report : ℕ → List ℕ → List ℕ → List ℕ → ℕ → ℕ → ℕ → ℕ → Report
report seen frames octets refused airtime there lead recording =
    record {
      seen = seen;
      frames = frames;
      octets = octets;
      refused = refused;
      airtime = airtime;
      some = there;
      lead = lead;
      recording = recording;
    }

-- ---- reports of lists

-- every rate, each its own number of times; refusals of both ends and between, LENGTH with some of them; two kinds; the
-- smallest lead twice, behind refused ones and behind larger ones
abbrev month : List Outcome
month =
    refusal 2 1 0 ∷ refusal 0 16 40 ∷ frame 0 10 3 24 9000 ∷ frame 1 110 11 8 500 ∷ refusal 1 12 0
    ∷ frame 0 110 10 8 400 ∷ frame 1 55 3 5 400 ∷ refusal 1 12 0 ∷ frame 1 20 7 28 8000
    ∷ frame 0 20 1 4 401 ∷ frame 0 110 2 2 4096
    ∷ refusal 1 17 9 ∷ frame 1 55 1 2 4000 ∷ refusal 0 8 0 ∷ frame 0 110 1 1 4095 ∷ frame 0 55 4 6 4001 ∷ []

pub month_is : report_of month
    ≡ report 16 (1 ∷ 2 ∷ 3 ∷ 4 ∷ []) (3 ∷ 8 ∷ 8 ∷ 24 ∷ [])
    (0 ∷ 1 ∷ 0 ∷ 0 ∷ 0 ∷ 0 ∷ 0 ∷ 0 ∷ 1 ∷ 0 ∷ 0 ∷ 0 ∷ 2 ∷ 0 ∷ 0 ∷ 0 ∷ 1 ∷ 1 ∷ []) 1624 1 400 5
unfolding total closest_from tabulate report_of
month_is = refl

-- none; refused ones only, with a LENGTH; a lead of 0, behind a refused one; and the first, with a smaller and an equal
-- one behind it
pub small_ones : map report_of
    ([] ∷ (refusal 0 9 77 ∷ refusal 1 9 0 ∷ []) ∷ (refusal 0 11 0 ∷ frame 1 20 1 4 0 ∷ []) ∷ (frame 0 10 1 8 5 ∷ [])
    ∷ (frame 0 10 1 8 5 ∷ frame 0 10 1 8 5 ∷ []) ∷ (frame 0 10 1 8 5 ∷ frame 0 10 2 16 4 ∷ []) ∷ [])
    ≡ report 0 (replicate 4 0) (replicate 4 0) (replicate 18 0) 0 0 0 0
    ∷ report 2 (replicate 4 0) (replicate 4 0) (set (replicate 18 0) 9 2) 0 0 0 0
    ∷ report 2 (0 ∷ 1 ∷ 0 ∷ 0 ∷ []) (0 ∷ 1 ∷ 0 ∷ 0 ∷ []) (set (replicate 18 0) 11 1) 100 1 0 1
    ∷ report 1 (1 ∷ 0 ∷ 0 ∷ 0 ∷ []) (1 ∷ 0 ∷ 0 ∷ 0 ∷ []) (replicate 18 0) 200 1 5 0
    ∷ report 2 (2 ∷ 0 ∷ 0 ∷ 0 ∷ []) (2 ∷ 0 ∷ 0 ∷ 0 ∷ []) (replicate 18 0) 400 1 5 0
    ∷ report 2 (2 ∷ 0 ∷ 0 ∷ 0 ∷ []) (3 ∷ 0 ∷ 0 ∷ 0 ∷ []) (replicate 18 0) 408 1 4 1 ∷ []
unfolding total closest_from tabulate report_of
small_ones = refl

-- each number from 1 to 17 as often as it says, and the largest frame of each rate: 4,095 octets, LENGTH up to 32,760
abbrev met : ℕ → List Outcome
met zero = []
met (suc k) = met k ++ replicate (suc k) (refusal 1 (suc k) 0)

pub every_number : report_of (met 17)
    ≡ report 153 (replicate 4 0) (replicate 4 0) (tabulate (λ k. k) 18) 0 0 0 0
unfolding total closest_from tabulate report_of
every_number = refl

pub largest : report_of
    (frame 0 10 4095 32760 11264 ∷ frame 0 20 4095 16380 11264 ∷ frame 1 55 4095 5957 8192
    ∷ frame 1 110 4095 2979 4096 ∷ [])
    ≡ report 4 (replicate 4 1) (replicate 4 4095) (replicate 18 0) 58652 1 4096 3
unfolding total closest_from tabulate report_of
largest = refl

-- a front's microseconds are its chips, eleven each
pub front_times : 11 * front_time 0 ∷ 11 * front_time 1 ∷ [] ≡ front_chips Long ∷ front_chips Short ∷ []
front_times = refl

-- an outcome has the kind handed in, whatever it is
pub kind_kept : (r : Recording) → (outcome_of r).kind ≡ r.kind
kind_kept r = refl

-- ---- one more, whatever the report: other numbers than a list can have

abbrev odd : ℕ → ℕ → Report
odd there lead = report 3 (100 ∷ 200 ∷ 300 ∷ 400 ∷ []) (1 ∷ 2 ∷ 3 ∷ 4 ∷ []) (tabulate (λ k. k) 18) 50 there lead 9

-- each rate; a lead that is equal, smaller, larger, and the first, where one is kept that is no lead; some may be any
-- number but 0
pub frames_more : added (odd 1 7) (frame 0 10 5 40 7) ∷ added (odd 1 7) (frame 1 20 6 24 6)
    ∷ added (odd 7 7) (frame 1 55 8 12 8) ∷ added (odd 0 7) (frame 0 110 9 7 9)
    ∷ added (odd 256 7) (frame 0 10 1 8 8) ∷ []
    ≡ report 4 (101 ∷ 200 ∷ 300 ∷ 400 ∷ []) (6 ∷ 2 ∷ 3 ∷ 4 ∷ []) (tabulate (λ k. k) 18) 282 1 7 9
    ∷ report 4 (100 ∷ 201 ∷ 300 ∷ 400 ∷ []) (1 ∷ 8 ∷ 3 ∷ 4 ∷ []) (tabulate (λ k. k) 18) 170 1 6 3
    ∷ report 4 (100 ∷ 200 ∷ 301 ∷ 400 ∷ []) (1 ∷ 2 ∷ 11 ∷ 4 ∷ []) (tabulate (λ k. k) 18) 158 7 7 9
    ∷ report 4 (100 ∷ 200 ∷ 300 ∷ 401 ∷ []) (1 ∷ 2 ∷ 3 ∷ 13 ∷ []) (tabulate (λ k. k) 18) 249 1 9 3
    ∷ report 4 (101 ∷ 200 ∷ 300 ∷ 400 ∷ []) (2 ∷ 2 ∷ 3 ∷ 4 ∷ []) (tabulate (λ k. k) 18) 250 256 7 9 ∷ []
unfolding tabulate more added
frames_more = refl

-- a largest frame, and refusals between the ends
pub largest_more : added (odd 1 7) (frame 0 10 4095 32760 7) ∷ added (odd 1 7) (refusal 0 10 0)
    ∷ added (odd 1 7) (refusal 0 13 0) ∷ added (odd 1 7) (refusal 0 14 0) ∷ added (odd 1 7) (refusal 0 15 0) ∷ []
    ≡ report 4 (101 ∷ 200 ∷ 300 ∷ 400 ∷ []) (4096 ∷ 2 ∷ 3 ∷ 4 ∷ []) (tabulate (λ k. k) 18) 33002 1 7 9
    ∷ map
    (λ k. report 4 (100 ∷ 200 ∷ 300 ∷ 400 ∷ []) (1 ∷ 2 ∷ 3 ∷ 4 ∷ []) (set (tabulate (λ j. j) 18) k (suc k)) 50 1 7 9)
    (10 ∷ 13 ∷ 14 ∷ 15 ∷ [])
unfolding tabulate more added
largest_more = refl

-- refusals of both ends: nothing else moves but how many were seen
pub refusals_more : added (odd 1 7) (refusal 0 1 0) ∷ added (odd 0 7) (refusal 1 16 99)
    ∷ added (odd 256 7) (refusal 1 16 99) ∷ []
    ≡ report 4 (100 ∷ 200 ∷ 300 ∷ 400 ∷ []) (1 ∷ 2 ∷ 3 ∷ 4 ∷ []) (set (tabulate (λ k. k) 18) 1 2) 50 1 7 9
    ∷ report 4 (100 ∷ 200 ∷ 300 ∷ 400 ∷ []) (1 ∷ 2 ∷ 3 ∷ 4 ∷ []) (set (tabulate (λ k. k) 18) 16 17) 50 0 7 9
    ∷ report 4 (100 ∷ 200 ∷ 300 ∷ 400 ∷ []) (1 ∷ 2 ∷ 3 ∷ 4 ∷ []) (set (tabulate (λ k. k) 18) 16 17) 50 256 7 9 ∷ []
unfolding tabulate more added
refusals_more = refl

-- ---- 31: each number at its limit and one above, at the first and the last entry of its row
abbrev full : ℕ → ℕ → ℕ → ℕ → ℕ → ℕ → ℕ → ℕ → Report
full seen f f' o o' r r' airtime =
    report seen (f ∷ 0 ∷ 0 ∷ f' ∷ []) (o ∷ 0 ∷ 0 ∷ o' ∷ []) (r ∷ replicate 16 0 ++ (r' ∷ [])) airtime 2000 99999999 5000

pub limits : map takes_more
    (full 999 1000 1000 4095000 4095000 1000 1000 32952000 ∷ full 1000 0 0 0 0 0 0 0 ∷ full 0 1001 0 0 0 0 0 0
    ∷ full 0 0 1001 0 0 0 0 0 ∷ full 0 0 0 4095001 0 0 0 0 ∷ full 0 0 0 0 4095001 0 0 0 ∷ full 0 0 0 0 0 1001 0 0
    ∷ full 0 0 0 0 0 0 1001 0 ∷ full 0 0 0 0 0 0 0 32952001 ∷ [])
    ≡ true ∷ false ∷ false ∷ false ∷ false ∷ false ∷ false ∷ false ∷ false ∷ []
unfolding at_most takes_more
limits = refl

-- ---- the calls, with recordings of no kind, of no chips, and of a front's chips that are unusable

abbrev counts : ℕ → Report → Counted
counts number p = record { number = number; report = p }

abbrev zeros : Report
zeros = report 0 (replicate 4 0) (replicate 4 0) (replicate 18 0) 0 0 0 0

abbrev none_of : ℕ → Recording
none_of kind = record { kind = kind; chips = [] }

pub called : counted_of zeros (none_of 2) ∷ counted_of zeros (none_of 4294967296) ∷ counted_of zeros (none_of 1)
    ∷ counted_of zeros (record { kind = 1; chips = replicate 1056 5 })
    ∷ counted_of (full 1000 1 2 3 4 5 6 7) (none_of 2) ∷ counted_of (full 0 1001 0 0 0 0 0 0) (none_of 2) ∷ []
    ≡ counts 0 (report 1 (replicate 4 0) (replicate 4 0) (set (replicate 18 0) 1 1) 0 0 0 0)
    ∷ counts 0 (report 1 (replicate 4 0) (replicate 4 0) (set (replicate 18 0) 1 1) 0 0 0 0)
    ∷ counts 0 (report 1 (replicate 4 0) (replicate 4 0) (set (replicate 18 0) 8 1) 0 0 0 0)
    ∷ counts 0 (report 1 (replicate 4 0) (replicate 4 0) (set (replicate 18 0) 9 1) 0 0 0 0)
    ∷ counts 31 (full 1000 1 2 3 4 5 6 7) ∷ counts 31 (full 0 1001 0 0 0 0 0 0) ∷ []
unfolding hard_recording first_unusable reading_of front_by more added at_most takes_more counted_of
called = refl

-- lists: of none; rows that differ in length, either way; kinds and chips in step
pub listed : list_of [] [] ∷ list_of (replicate 1001 2) [] ∷ list_of (2 ∷ 2 ∷ []) ([] ∷ [])
    ∷ list_of (2 ∷ []) ([] ∷ [] ∷ []) ∷ list_of (2 ∷ 1 ∷ 256 ∷ []) ((5 ∷ []) ∷ [] ∷ [] ∷ []) ∷ []
    ≡ counts 0 zeros ∷ counts 7 zeros ∷ counts 7 zeros ∷ counts 7 zeros
    ∷ counts 0 (report 3 (replicate 4 0) (replicate 4 0) (set (set (replicate 18 0) 1 2) 8 1) 0 0 0 0) ∷ []
unfolding hard_recording total closest_from tabulate reading_of front_by report_of recordings list_of
listed = refl

-- 1,000 and 1,001 of no kind
pub thousand : list_of (replicate 1000 2) (replicate 1000 []) ∷ list_of (replicate 1001 2) (replicate 1001 []) ∷ []
    ≡ counts 0 (report 1000 (replicate 4 0) (replicate 4 0) (set (replicate 18 0) 1 1000) 0 0 0 0)
    ∷ counts 31 (report 1000 (replicate 4 0) (replicate 4 0) (set (replicate 18 0) 1 1000) 0 0 0 0) ∷ []
unfolding total closest_from tabulate reading_of report_of recordings list_of
thousand = refl
