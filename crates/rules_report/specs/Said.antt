-- What a report's text says (RULES 6.20), in words and in the numbers that its digits come to: stated beside the
-- definition that makes it (Text.antt), and by nothing of it but its words, so that a number printed wrongly anywhere
-- is seen.
-- Definitions only. Assumes nothing.
use Rattle.std.specs.Prelude.{ℕ, zero, suc, ◌+◌, ◌-◌, ◌*◌, ◌^◌, ◌≤◌, ◌<◌, ◌≡◌, List, [], ◌∷◌, ◌++◌, length, get_or}
use Rattle.rules_report.specs.declared.Report.{Report}
use Rattle.rules_report.specs.Text.{word}

-- a number read from its digits, the highest first, behind those read before
unfoldable pub value_from : ℕ → List ℕ → ℕ
value_from before [] = before
value_from before (d ∷ ds) = value_from (10 * before + (d - 48)) ds

-- the octets of the digits 0 to 9
abbrev pub IsDigit : ℕ → Type 0
IsDigit d = (48 ≤ d) × (d ≤ 57)

-- the decimal digits of a number: at least one, none but digits, and no zero in front of others
pub record DigitsOf (n : ℕ) (ds : List ℕ) : Type 0 where
  pub value : value_from 0 ds ≡ n
  pub some : 1 ≤ length ds
  pub each : (i : ℕ) → i < length ds → IsDigit (get_or ds i 0)
  pub front : 1 < length ds → 48 < get_or ds 0 0

-- ---- lines

pub record RateSaid (rate frames octets : ℕ) (line : List ℕ) : Type 0 where
  pub r : List ℕ
  pub f : List ℕ
  pub o : List ℕ
  pub rate_is : DigitsOf rate r
  pub frames_are : DigitsOf frames f
  pub octets_are : DigitsOf octets o
  pub line_is : line ≡ word "rate " ++ r ++ word " frames " ++ f ++ word " octets " ++ o ++ word "\n"

pub record CountSaid (number count : ℕ) (line : List ℕ) : Type 0 where
  pub n : List ℕ
  pub c : List ℕ
  pub number_is : DigitsOf number n
  pub count_is : DigitsOf count c
  pub line_is : line ≡ word "refused " ++ n ++ word " count " ++ c ++ word "\n"

-- no line of a number that was not met
pub record RefusedSaid (number count : ℕ) (line : List ℕ) : Type 0 where
  pub none : count ≡ 0 → line ≡ []
  pub met : (count ≡ 0 → ⊥) → CountSaid number count line

-- of the numbers 1 to m, rising
pub data RefusalsSaid (refused : List ℕ) : ℕ → List ℕ → Type 0 where
  no_more : RefusalsSaid refused zero []
  and_then : (m : ℕ) (lines line : List ℕ) → RefusalsSaid refused m lines
      → RefusedSaid (suc m) (get_or refused (suc m) 0) line → RefusalsSaid refused (suc m) (lines ++ line)

pub record AirtimeSaid (airtime : ℕ) (line : List ℕ) : Type 0 where
  pub a : List ℕ
  pub airtime_is : DigitsOf airtime a
  pub line_is : line ≡ word "airtime " ++ a ++ word "\n"

pub record WonBySaid (lead recording : ℕ) (line : List ℕ) : Type 0 where
  pub l : List ℕ
  pub r : List ℕ
  pub lead_is : DigitsOf lead l
  pub recording_is : DigitsOf recording r
  pub line_is : line ≡ word "lead " ++ l ++ word " recording " ++ r ++ word "\n"

pub record LeadSaid (some lead recording : ℕ) (line : List ℕ) : Type 0 where
  pub none : some ≡ 0 → line ≡ word "lead none\n"
  pub there : (some ≡ 0 → ⊥) → WonBySaid lead recording line

-- ---- the text

pub record TextSaid (p : Report) (text : List ℕ) : Type 0 where
  pub r10 : List ℕ
  pub r20 : List ℕ
  pub r55 : List ℕ
  pub r110 : List ℕ
  pub refusals : List ℕ
  pub airtime : List ℕ
  pub lead : List ℕ
  pub at_10 : RateSaid 10 (get_or p.frames 0 0) (get_or p.octets 0 0) r10
  pub at_20 : RateSaid 20 (get_or p.frames 1 0) (get_or p.octets 1 0) r20
  pub at_55 : RateSaid 55 (get_or p.frames 2 0) (get_or p.octets 2 0) r55
  pub at_110 : RateSaid 110 (get_or p.frames 3 0) (get_or p.octets 3 0) r110
  pub refusals_are : RefusalsSaid p.refused 17 refusals
  pub airtime_is : AirtimeSaid p.airtime airtime
  pub lead_is : LeadSaid p.some p.lead p.recording lead
  pub text_is : text ≡ r10 ++ r20 ++ r55 ++ r110 ++ refusals ++ airtime ++ lead

-- numbers of 64 bits are below 10 ^ 20: twenty digits hold each
pub record Fits (p : Report) : Type 0 where
  pub frames_fit : (j : ℕ) → get_or p.frames j 0 < 10 ^ 20
  pub octets_fit : (j : ℕ) → get_or p.octets j 0 < 10 ^ 20
  pub refused_fit : (j : ℕ) → get_or p.refused j 0 < 10 ^ 20
  pub airtime_fits : p.airtime < 10 ^ 20
  pub lead_fits : p.lead < 10 ^ 20
  pub recording_fits : p.recording < 10 ^ 20
