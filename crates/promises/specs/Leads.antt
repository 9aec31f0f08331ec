-- How clearly was it won? (RULES 3.9, 6.16.) What a good read tells of the leads of its frame's symbols, over the very
-- lists of words that reading takes its growths and bits from; and what a lead says of the exact recorded numbers.
-- Definitions only. Assumes nothing.
use Rattle.std.specs.Prelude.{ℕ, ◌+◌, ◌*◌, ◌/◌, ◌≤◌, ◌<◌, ◌≡◌, Bool, List, get_or}
use Rattle.rules_rates.specs.declared.Rate.{Rate}
use Rattle.rules_rates.specs.declared.Rate.TheVariants.{One}
use Rattle.rules_rates.specs.Rates.{rate_of, symbol_chips, symbol_bits}
use Rattle.rules_chips.specs.declared.Counts.{Counts}
use Rattle.rules_chips.specs.Chips.{Taken}
use Rattle.rules_choosing.specs.Scores.{LeadsBy}
use Rattle.rules_choosing.specs.Demand3.{LeadsExactly}
use Rattle.rules_frame.specs.declared.Kind.{Kind}
use Rattle.rules_frame.specs.Frame.{
  kind_of,
  header_rate,
  front_chips,
  front_symbols,
  preamble_length,
  header_length,
  preamble_chips,
}
use Rattle.rules_calls.specs.declared.Record.{Record}
use Rattle.rules_reading.specs.Places.{counts_from}
use Rattle.rules_reading.specs.Reading.{preamble_words, header_words, payload_words}
use Rattle.promises.specs.Calls.{Read, Rows, in_hard, in_soft, in_bytes, taken_of}
use Rattle.promises.specs.Right.{exact_from, exact_rows, GoodAt}

-- the symbols of a frame of n octets: each has a number, from 0 at the frame's first, a rate, the place of its first
-- chip, and the word that reading has there
pub data SymbolOf (k : Kind) (r : Rate) (n : ℕ) (rec : List Taken) : ℕ → Rate → ℕ → ℕ → Type 0 where
  of_preamble : (j : ℕ) → j < preamble_length k
      → SymbolOf k r n rec j One (j * symbol_chips One) (get_or (preamble_words k rec) j 0)
  of_header : (j : ℕ) → j < header_length / symbol_bits (header_rate k)
      → SymbolOf k r n rec (preamble_length k + j) (header_rate k) (preamble_chips k + j * symbol_chips (header_rate k))
      (get_or (header_words k rec) j 0)
  of_payload : (j : ℕ) → j < 8 * n / symbol_bits r
      → SymbolOf k r n rec (front_symbols k + j) r (front_chips k + j * symbol_chips r) (get_or (payload_words k r n rec) j 0)

-- a symbol's word leads the other allowed words by at least so much; if it stands before the symbol told, by more
pub record LeadsEnough (lead symbol s : ℕ) (q : Rate) (cs : List Counts) (w : ℕ) : Type 0 where
  pub own : ℕ
  pub by : LeadsBy q cs w own
  pub low : lead ≤ own
  pub first : s < symbol → lead < own

-- the symbol told is one of the frame's, and leads by just so much
pub record LeadsJust (k : Kind) (r : Rate) (n : ℕ) (rec : List Taken) (lead symbol : ℕ) : Type 0 where
  pub rate : Rate
  pub at : ℕ
  pub word : ℕ
  pub is : SymbolOf k r n rec symbol rate at word
  pub by : LeadsBy rate (counts_from rate at rec) word lead

-- the smallest lead in a frame, and the first symbol that has it
pub record LeastIn (k : Kind) (r : Rate) (n : ℕ) (rec : List Taken) (lead symbol : ℕ) : Type 0 where
  pub each : (s : ℕ) (q : Rate) (at w : ℕ) → SymbolOf k r n rec s q at w
      → LeadsEnough lead symbol s q (counts_from q at rec) w
  pub just : LeadsJust k r n rec lead symbol

-- promise: A good read tells the smallest lead of its frame's symbols and the first that has it, whatever recorded:
-- over the very lists of words that it reads, no other allowed word of any symbol scores nearer than that, before the
-- symbol told each leads by more, and there one scores just so much less
-- rule: 3.9, 6.16, 9.3
-- code: dsss_read_hard_3, dsss_read_soft_3, dsss_read_bytes_3
-- with: SymbolOf, LeadsBy
abbrev pub LeastTold : Type 0
LeastTold =
    (kind : ℕ) (agree : Bool) (rec : List Taken) (room : ℕ) (a : Record) (left : List ℕ)
    → Read kind agree rec room a left → a.number ≡ 0
    → LeastIn (kind_of kind) (rate_of a.rate) a.n rec a.lead a.symbol

-- where a symbol's chips are good ones and its lead is above so many counts, its word leads all other allowed ones in
-- the exact recorded numbers too
abbrev pub Sure : (Rate → ℕ) → (ℕ → Type 0) → List Counts → List Taken → Type 0
Sure above good exact rec =
    (k : Kind) (r : Rate) (n s : ℕ) (q : Rate) (at w lead : ℕ) → SymbolOf k r n rec s q at w
    → ((i : ℕ) → i < symbol_chips q → good (at + i))
    → LeadsBy q (counts_from q at rec) w lead → above q < lead
    → LeadsExactly q (exact_from q at exact) w

-- from hard chips and from bytes any lead says so; from soft ones a lead above 8 counts, or 11 for Barker, which is one
-- for each chip
abbrev pub sure_above : Rows → Rate → ℕ
sure_above (in_hard octets) r = 0
sure_above (in_soft i q) r = symbol_chips r
sure_above (in_bytes bytes) r = 0

-- promise: A lead holds in the exact recorded numbers too: from hard chips and signed bytes any above 0, from usable
-- soft samples one above 8 counts, 11 for Barker; of a whole frame, from the record alone, above 11 at every rate, as
-- its front is Barker
-- rule: 1.4 (3), 3.9
-- code: dsss_read_hard_3, dsss_read_soft_3, dsss_read_bytes_3
-- with: hard_frame_sure, soft_frame_sure, bytes_frame_sure
abbrev pub RowsSure : Type 0
RowsSure = (rows : Rows) → Sure (sure_above rows) (GoodAt rows) (exact_rows rows) (taken_of rows)
