-- What putting octets into a row, from a place on, comes to; and lines as the code puts them.
-- Definitions only. Assumes nothing.
-- working notion: of the code that makes a text; no promise needs it
use Rattle.std.specs.Prelude.{◌≡◌, List, [], ◌++◌, ℕ, zero, suc, ◌+◌, length, get_or, take, drop}
use Rattle.report_text.specs.declared.Page.{Page}
use Rattle.rules_rates.specs.declared.Rate.TheVariants.{Eleven}
use Rattle.rules_rates.specs.Rates.{code_of}
use Rattle.rules_report.specs.Report.{codes}
use Rattle.rules_report.specs.Text.{word, decimal, rate_line}

-- a row d with w put at `at` is a row e: its octets up to `end` are those of d up to `at`, and w; from there on they
-- are as they were
pub record Placed (w : List ℕ) (at : ℕ) (d : List ℕ) (end : ℕ) (e : List ℕ) : Type 0 where
  pub stop : end ≡ at + length w
  pub front : take end e ≡ take at d ++ w
  pub rest : drop end e ≡ drop end d

-- a page on which w is put behind what it has
abbrev pub PutOn : List ℕ → Page → Page → Type 0
PutOn w p q = Placed w p.end p.row q.end q.row

-- a line of two words, each with its number
abbrev pub pair_line : List ℕ → ℕ → List ℕ → ℕ → List ℕ
pair_line first x second y = first ++ decimal x ++ second ++ decimal y ++ word "\n"

-- the rate code of an entry, and the lines of the first k rates
abbrev pub code_at : ℕ → ℕ
code_at k = get_or codes k (code_of Eleven)

unfoldable pub rate_lines : ℕ → List ℕ → List ℕ → List ℕ
rate_lines zero frames octets = []
rate_lines (suc k) frames octets =
    rate_lines k frames octets ++ rate_line (code_at k) (get_or frames k 0) (get_or octets k 0)
