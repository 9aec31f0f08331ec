-- The leads of a frame's symbols, and the smallest of them (RULES 6.16): over the very symbols whose words a reading
-- goes by, once for every recorder.
-- Definitions only. Assumes nothing.
use Rattle.std.specs.Prelude.{ℕ, zero, suc, ◌*◌, ◌/◌, cond, List, [], ◌∷◌, ◌++◌, map, get_or, take, drop, ltb}
use Rattle.rules_rates.specs.declared.Rate.{Rate}
use Rattle.rules_rates.specs.declared.Rate.TheVariants.{One}
use Rattle.rules_rates.specs.Rates.{symbol_chips, symbol_bits}
use Rattle.rules_chips.specs.Chips.{Taken, taken_counts}
use Rattle.rules_symbols.specs.Choice.{lead_of}
use Rattle.rules_frame.specs.declared.Kind.{Kind}
use Rattle.rules_frame.specs.Frame.{header_rate, front_chips, preamble_length, header_length, preamble_chips}
use Rattle.rules_calls.specs.declared.Least.{Least}

-- the leads of m symbols, beside the words that they are decided as
unfoldable pub decided_leads : Rate → ℕ → List Taken → List ℕ
decided_leads r zero cs = []
decided_leads r (suc m) cs =
    lead_of r (map taken_counts (take (symbol_chips r) cs)) ∷ decided_leads r m (drop (symbol_chips r) cs)

-- those of the front, from the frame's first symbol, which is only a reference, on; and those of the payload
unfoldable pub front_leads : Kind → List Taken → List ℕ
front_leads k rec =
    decided_leads One (preamble_length k) rec
    ++ decided_leads (header_rate k) (header_length / symbol_bits (header_rate k)) (drop (preamble_chips k) rec)

unfoldable pub payload_leads : Kind → Rate → ℕ → List Taken → List ℕ
payload_leads k r n rec = decided_leads r (8 * n / symbol_bits r) (drop (front_chips k) rec)

abbrev pub frame_leads : Kind → Rate → ℕ → List Taken → List ℕ
frame_leads k r n rec = front_leads k rec ++ payload_leads k r n rec

abbrev pub lead_at : ℕ → ℕ → Least
lead_at lead symbol = record { lead = lead; symbol = symbol }

-- the smallest lead so far, and then leads of the symbols from number k on: one takes its place only if it is smaller
unfoldable pub least_from : ℕ → Least → List ℕ → Least
least_from k least [] = least
least_from k least (x ∷ xs) = least_from (suc k) (cond (ltb x least.lead) (lead_at x k) least) xs

-- the smallest of all, and the first symbol that has it, counted from 0
unfoldable pub least_of : List ℕ → Least
least_of xs = least_from 0 (lead_at (get_or xs 0 0) 0) xs
