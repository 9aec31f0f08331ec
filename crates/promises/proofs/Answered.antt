-- Facts: answers that the reader of bytes, that of soft rows that differ, that of fronts and the search for a start may
-- give, computed from their contracts. 1 before 7, 7 before 8; 1 before 18, 18 before 19; chips and places counted in
-- pairs of bytes. The frame is that of `Computed`: 1,056 + 8 chips. Assumes nothing.
use mathlib.Core.Path.{◌≡◌, refl, ◌∙◌}
use mathlib.Core.List.{List, [], ◌∷◌, ◌++◌}
use Prim.Native.Nat.{ℕ}
use lib.ListN.{take, replicate}
use lib.IntN.{ℤ, pos, neg_ℤ}
use lib.Ieee.{nan}
use Rattle.rules_chips.specs.Chips.{hard_recording, byte_recording}
use Rattle.rules_calls.specs.declared.Record.{Record}
use Rattle.rules_reading.specs.Reading.{front_by, reading_of}
use Rattle.rules_clean.specs.Clean.{byte_row}
use Rattle.rules_coming.specs.declared.Coming.{Coming}
use Rattle.rules_coming.specs.Coming.{front_reading}
use Rattle.rules_finding.specs.declared.Found.{Found}
use Rattle.rules_finding.specs.Finding.{first_start, finding_of}
use Rattle.promises.specs.Calls.{ReadSoft, ReadBytes, ReadFront, Finds, good, refused}
use Rattle.promises.specs.Coming.{refused_coming, told_coming}
use Rattle.promises.specs.Finding.{refused_found}
use Rattle.promises.proofs.Computed.{
  Comes,
  Fronts,
  clock_frame,
  turned_frame,
  read_back_is,
  cut_in_front_is,
  place_of_ten_is,
  front_told_is,
  front_cut_is,
}

-- what every answer to a row of bytes is
abbrev pub Answers : ℕ → List ℤ → Record → Type 0
Answers kind bytes answer = (a : Record) (left : List ℕ) → ReadBytes kind bytes 4 a left → a ≡ answer

-- ---- the order of 1, 7 and 8
abbrev pub three : List ℤ
three = pos 64 ∷ neg_ℤ (pos 128) ∷ pos 1 ∷ []

pub no_kind : Answers 2 three (refused 1 0)
unfolding reading_of
no_kind a left r = r.answer ∙ refl

pub odd_row : Answers 0 three (refused 7 0)
unfolding reading_of
odd_row a left r = r.answer ∙ refl

pub no_bytes : Answers 0 [] (refused 8 0)
unfolding reading_of front_by byte_recording
no_bytes a left r = r.answer ∙ refl

pub two_bytes : Answers 0 (take 2 three) (refused 8 0)
unfolding reading_of front_by byte_recording
two_bytes a left r = r.answer ∙ refl

-- soft rows of which either is longer: 7 too, before 8
pub longer_q : (a : Record) (left : List ℕ) → ReadSoft 0 [] (nan ∷ []) 4 a left → a ≡ refused 7 0
unfolding reading_of
longer_q a left r = r.answer ∙ refl

pub longer_i : (a : Record) (left : List ℕ) → ReadSoft 0 (nan ∷ []) [] 4 a left → a ≡ refused 7 0
unfolding reading_of
longer_i a left r = r.answer ∙ refl

-- ---- a frame, one chip short of its front, and with its second symbol turned by 1: long rows, whose readings are
-- computed in `Computed`, apart from the contract
answered : (kind : ℕ) (bytes : List ℤ) {answer : Record} → Comes kind bytes answer → Answers kind bytes answer
answered kind bytes e a left r = r.answer ∙ e

pub read_back : Answers 1 (byte_row clock_frame) (good 110 1 1 1064 1 4096 96)
read_back = answered 1 (byte_row clock_frame) read_back_is

pub cut_in_front : Answers 1 (byte_row (take 1055 clock_frame)) (refused 8 0)
cut_in_front = answered 1 (byte_row (take 1055 clock_frame)) cut_in_front_is

pub place_of_ten : Answers 1 (byte_row turned_frame)
    (record { number = 10; place = 11; rate = 0; length = 0; n = 0; used = 0; clock = 0; lead = 0; symbol = 0 })
place_of_ten = answered 1 (byte_row turned_frame) place_of_ten_is

-- ---- what is coming: 1 before 8, a frame told by its front whatever its payload's chips are, and without them 16
abbrev pub Tells : ℕ → List ℕ → Coming → Type 0
Tells kind chips answer = (c : Coming) → ReadFront kind chips c → c ≡ answer

told : (kind : ℕ) (chips : List ℕ) {answer : Coming} → Fronts kind chips answer → Tells kind chips answer
told kind chips e c r = r.answer ∙ e

pub front_no_kind : Tells 2 [] (refused_coming 1 0 0)
unfolding front_reading
front_no_kind c r = r.answer ∙ refl

pub front_none : Tells 1 [] (refused_coming 8 0 0)
unfolding front_reading front_by hard_recording
front_none c r = r.answer ∙ refl

pub front_told : Tells 1 (take 1056 clock_frame ++ replicate 9 9) (told_coming 110 1 1 1 1056 8)
front_told = told 1 (take 1056 clock_frame ++ replicate 9 9) front_told_is

pub front_cut : Tells 1 (take 1063 clock_frame) (refused_coming 16 0 1)
front_cut = told 1 (take 1063 clock_frame) front_cut_is

-- ---- a start looked for where there is no chip: 1 before 18, 18 before 19, at both ends of the offsets
abbrev pub Searches : ℕ → ℕ → ℕ → Type 0
Searches kind offsets number = (f : Found) → Finds kind offsets [] f → f ≡ refused_found number

pub no_kind_found : Searches 2 0 1
unfolding finding_of
no_kind_found f r = r.answer ∙ refl

pub no_offsets_found : Searches 1 0 18
unfolding finding_of
no_offsets_found f r = r.answer ∙ refl

pub many_offsets_found : Searches 0 4097 18
unfolding finding_of
many_offsets_found f r = r.answer ∙ refl

pub find_nothing : Searches 1 1 19
unfolding finding_of first_start front_by hard_recording
find_nothing f r = r.answer ∙ refl
