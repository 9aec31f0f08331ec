-- The report as text (RULES 6.20): lines of words and decimal numbers, as octets; and what the call that makes it
-- answers and leaves in the octet buffer.
-- Definitions only. Assumes nothing.
use Rattle.std.specs.Prelude.{ℕ, zero, suc, ◌+◌, ◌-◌, ◌/◌, ◌%◌, cond, List, [], ◌∷◌, ◌++◌, length, get_or, take, replicate, eqb, ltb}
use Prim.Native.Char.{code}
use Prim.Native.String.{String, [] as end, ◌∷◌ as ◌then◌}
use Rattle.rules_rates.specs.declared.Rate.TheVariants.{One, Two, Five, Eleven}
use Rattle.rules_rates.specs.Rates.{code_of}
use Rattle.rules_report.specs.declared.Report.{Report}
use Rattle.rules_report.specs.declared.Spelled.{Spelled}

-- a word's octets
unfoldable pub word : String → List ℕ
word end = []
word (c then s) = code c ∷ word s

-- ---- a number in decimal digits, the highest first

-- the last k digits
unfoldable pub digits : ℕ → ℕ → List ℕ
digits zero n = []
digits (suc k) n = digits k (n / 10) ++ ((48 + n % 10) ∷ [])

-- how many digits a number has: 1 below 10, else one more than the tenth of it; at most m + 1
unfoldable pub places : ℕ → ℕ → ℕ
places zero n = 1
places (suc m) n = cond (ltb n 10) 1 (suc (places m (n / 10)))

-- a number of 64 bits has at most 20
unfoldable pub decimal : ℕ → List ℕ
decimal n = digits (places 19 n) n

-- ---- lines

abbrev pub rate_line : ℕ → ℕ → ℕ → List ℕ
rate_line rate frames octets =
    word "rate " ++ decimal rate ++ word " frames " ++ decimal frames ++ word " octets " ++ decimal octets ++ word "\n"

-- only of numbers met
abbrev pub refused_line : ℕ → ℕ → List ℕ
refused_line number count =
    cond (eqb count 0) [] (word "refused " ++ decimal number ++ word " count " ++ decimal count ++ word "\n")

-- of the numbers 1 to m, rising
unfoldable pub refused_lines : ℕ → List ℕ → List ℕ
refused_lines zero refused = []
refused_lines (suc m) refused = refused_lines m refused ++ refused_line (suc m) (get_or refused (suc m) 0)

abbrev pub airtime_line : ℕ → List ℕ
airtime_line airtime = word "airtime " ++ decimal airtime ++ word "\n"

abbrev pub lead_line : ℕ → ℕ → ℕ → List ℕ
lead_line some lead recording =
    cond (eqb some 0) (word "lead none\n")
    (word "lead " ++ decimal lead ++ word " recording " ++ decimal recording ++ word "\n")

unfoldable pub text_of : Report → List ℕ
text_of p =
    rate_line (code_of One) (get_or p.frames 0 0) (get_or p.octets 0 0)
    ++ rate_line (code_of Two) (get_or p.frames 1 0) (get_or p.octets 1 0)
    ++ rate_line (code_of Five) (get_or p.frames 2 0) (get_or p.octets 2 0)
    ++ rate_line (code_of Eleven) (get_or p.frames 3 0) (get_or p.octets 3 0)
    ++ refused_lines 17 p.refused
    ++ airtime_line p.airtime
    ++ lead_line p.some p.lead p.recording

-- ---- the call

-- 17: the octet buffer is shorter than the text
unfoldable pub spelled_of : Report → ℕ → Spelled
spelled_of p room =
    cond (ltb room (length (text_of p))) (record { number = 17; octets = 0 })
    (record { number = 0; octets = length (text_of p) })

-- as much of the text as is told, the whole or nothing, and zeros after it
unfoldable pub text_left : Report → ℕ → List ℕ
text_left p room =
    let told = (spelled_of p room).octets in take told (text_of p) ++ replicate (room - told) 0
