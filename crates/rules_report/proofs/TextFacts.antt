-- The report's text, computed from the definitions and compared with RULES 6.20, octet by octet: numbers, whole texts,
-- and what the call answers and leaves.
-- Assumes nothing.
use mathlib.Core.Path.{◌≡◌, refl}
use mathlib.Core.List.{List, [], ◌∷◌, ◌++◌}
use Prim.Native.Nat.{ℕ}
use lib.ListN.{length, replicate}
use Rattle.rules_report.specs.declared.Report.{Report}
use Rattle.rules_report.specs.Text.{word, digits, places, decimal, refused_lines, text_of, spelled_of, text_left}

-- ---- words and numbers

words : word "rate 10\n" ++ word "frames octets" ++ word "lead none" ++ word "refused count" ++ word "airtime recording"
    ≡ 114 ∷ 97 ∷ 116 ∷ 101 ∷ 32 ∷ 49 ∷ 48 ∷ 10 ∷ 102 ∷ 114 ∷ 97 ∷ 109 ∷ 101 ∷ 115 ∷ 32 ∷ 111 ∷ 99 ∷ 116 ∷ 101 ∷ 116 ∷
    115 ∷ 108 ∷ 101 ∷ 97 ∷ 100 ∷ 32 ∷ 110 ∷ 111 ∷ 110 ∷ 101 ∷ 114 ∷ 101 ∷ 102 ∷ 117 ∷ 115 ∷ 101 ∷ 100 ∷ 32 ∷ 99 ∷
    111 ∷ 117 ∷ 110 ∷ 116 ∷ 97 ∷ 105 ∷ 114 ∷ 116 ∷ 105 ∷ 109 ∷ 101 ∷ 32 ∷ 114 ∷ 101 ∷ 99 ∷ 111 ∷ 114 ∷ 100 ∷ 105 ∷
    110 ∷ 103 ∷ []
unfolding word
words = refl

-- no zero in front, and none left out behind
small : (decimal 0 ≡ 48 ∷ []) × (decimal 7 ≡ word "7") × (decimal 9 ≡ word "9") × (decimal 10 ≡ word "10")
    × (decimal 19 ≡ word "19") × (decimal 90 ≡ word "90") × (decimal 99 ≡ word "99")
    × (decimal 100 ≡ word "100") × (decimal 101 ≡ word "101") × (decimal 999 ≡ word "999")
    × (decimal 1000 ≡ word "1000") × (decimal 1020 ≡ word "1020")
unfolding word digits places decimal
small = (refl, refl, refl, refl, refl, refl, refl, refl, refl, refl, refl, refl)

-- twenty digits, and the largest number of 64 bits
large : (decimal 9999999999999999999 ≡ word "9999999999999999999")
    × (decimal 10000000000000000000 ≡ word "10000000000000000000")
    × (decimal 18446744073709551615 ≡ word "18446744073709551615")
unfolding word digits places decimal
large = (refl, refl, refl)

-- the rate codes
pub code_digits : (length (decimal 10) ≡ 2) × (length (decimal 20) ≡ 2) × (length (decimal 55) ≡ 2)
    × (length (decimal 110) ≡ 3)
unfolding digits places decimal
code_digits = (refl, refl, refl, refl)

-- ---- whole texts

-- a report of nothing
abbrev zeros : Report
zeros =
    record {
      seen = 0;
      frames = 0 ∷ 0 ∷ 0 ∷ 0 ∷ [];
      octets = 0 ∷ 0 ∷ 0 ∷ 0 ∷ [];
      refused = 0 ∷ 0 ∷ 0 ∷ 0 ∷ 0 ∷ 0 ∷ 0 ∷ 0 ∷ 0 ∷ 0 ∷ 0 ∷ 0 ∷ 0 ∷ 0 ∷ 0 ∷ 0 ∷ 0 ∷ 0 ∷ [];
      airtime = 0;
      some = 0;
      lead = 0;
      recording = 0;
    }

zeros_text : text_of zeros
    ≡ word "rate 10 frames 0 octets 0\n" ++ word "rate 20 frames 0 octets 0\n" ++ word "rate 55 frames 0 octets 0\n"
    ++ word "rate 110 frames 0 octets 0\n" ++ word "airtime 0\n" ++ word "lead none\n"
unfolding word digits places decimal refused_lines text_of
zeros_text = refl

-- all numbers different: refusals from 1 on, and no line of what was seen or of entry 0; lead 0 is a lead
abbrev different : Report
different =
    record {
      seen = 999;
      frames = 31 ∷ 32 ∷ 33 ∷ 34 ∷ [];
      octets = 45 ∷ 46 ∷ 47 ∷ 48 ∷ [];
      refused =
          100 ∷ 101 ∷ 102 ∷ 103 ∷ 104 ∷ 105 ∷ 106 ∷ 107 ∷ 108 ∷ 109 ∷ 110 ∷ 111 ∷ 112 ∷ 113 ∷ 114 ∷ 115 ∷ 116 ∷ 117 ∷
          [];
      airtime = 78901;
      some = 1;
      lead = 0;
      recording = 56;
    }

different_text : text_of different
    ≡ word "rate 10 frames 31 octets 45\n" ++ word "rate 20 frames 32 octets 46\n"
    ++ word "rate 55 frames 33 octets 47\n" ++ word "rate 110 frames 34 octets 48\n" ++ word "refused 1 count 101\n"
    ++ word "refused 2 count 102\n" ++ word "refused 3 count 103\n" ++ word "refused 4 count 104\n"
    ++ word "refused 5 count 105\n" ++ word "refused 6 count 106\n" ++ word "refused 7 count 107\n"
    ++ word "refused 8 count 108\n" ++ word "refused 9 count 109\n" ++ word "refused 10 count 110\n"
    ++ word "refused 11 count 111\n" ++ word "refused 12 count 112\n" ++ word "refused 13 count 113\n"
    ++ word "refused 14 count 114\n" ++ word "refused 15 count 115\n" ++ word "refused 16 count 116\n"
    ++ word "refused 17 count 117\n" ++ word "airtime 78901\n" ++ word "lead 0 recording 56\n"
unfolding word digits places decimal refused_lines text_of
different_text = refl

-- refusals met, and no others; any number but 0 tells that there is a lead, and 0 that there is none
abbrev few : ℕ → ℕ → ℕ → Report
few some lead recording =
    record {
      seen = 12;
      frames = 1 ∷ 0 ∷ 0 ∷ 0 ∷ [];
      octets = 4095 ∷ 0 ∷ 0 ∷ 0 ∷ [];
      refused = 9 ∷ 5 ∷ 0 ∷ 0 ∷ 0 ∷ 0 ∷ 0 ∷ 0 ∷ 0 ∷ 0 ∷ 0 ∷ 0 ∷ 3 ∷ 0 ∷ 0 ∷ 0 ∷ 0 ∷ 1 ∷ [];
      airtime = 33;
      some = some;
      lead = lead;
      recording = recording;
    }

abbrev few_lines : List ℕ
few_lines =
    word "rate 10 frames 1 octets 4095\n" ++ word "rate 20 frames 0 octets 0\n"
    ++ word "rate 55 frames 0 octets 0\n" ++ word "rate 110 frames 0 octets 0\n" ++ word "refused 1 count 5\n"
    ++ word "refused 12 count 3\n" ++ word "refused 17 count 1\n" ++ word "airtime 33\n"

few_text : (text_of (few 7 5 0) ≡ few_lines ++ word "lead 5 recording 0\n")
    × (text_of (few 1 0 3) ≡ few_lines ++ word "lead 0 recording 3\n")
    × (text_of (few 0 5 3) ≡ few_lines ++ word "lead none\n")
unfolding word digits places decimal refused_lines text_of
few_text = (refl, refl, refl)

-- the longest: all numbers are the largest of 64 bits
abbrev all : ℕ → Report
all n =
    record {
      seen = n;
      frames = replicate 4 n;
      octets = replicate 4 n;
      refused = replicate 18 n;
      airtime = n;
      some = n;
      lead = n;
      recording = n;
    }

longest : length (text_of (all 18446744073709551615)) ≡ 980
unfolding word digits places decimal refused_lines text_of
longest = refl

-- ---- the call

-- 125 octets of text: no room for the last, just room, and two octets behind it
no_room : (spelled_of zeros 124 ≡ record { number = 17; octets = 0 }) × (text_left zeros 124 ≡ replicate 124 0)
    × (text_left zeros 0 ≡ [])
unfolding word digits places decimal refused_lines text_of spelled_of text_left
no_room = (refl, refl, refl)

just_room : (spelled_of zeros 125 ≡ record { number = 0; octets = 125 }) × (text_left zeros 125 ≡ text_of zeros)
unfolding word digits places decimal refused_lines text_of spelled_of text_left
just_room = (refl, refl)

more_room : (spelled_of zeros 127 ≡ record { number = 0; octets = 125 })
    × (text_left zeros 127 ≡ text_of zeros ++ (0 ∷ 0 ∷ []))
unfolding word digits places decimal refused_lines text_of spelled_of text_left
more_room = (refl, refl)
