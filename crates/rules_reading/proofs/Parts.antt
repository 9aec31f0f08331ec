-- The parts of a frame: how many symbols and bits a front has, which symbol of a row of bits carries one, and a word by
-- its place in the recording.
--     front_symbols_lem, header_bits_lem, header_chips    the two fronts
--     split                                       an offset in a row of bits
--     barker_number, one_number                   a Barker symbol's number does not matter
--     word_in                                     a word of a part
-- Assumes nothing.
use mathlib.Core.Path.{◌≡◌, refl, ap, ◌∙◌}
use mathlib.Core.List.{List, map}
use Prim.Native.Nat.{ℕ, ◌+◌, ◌*◌, ◌/◌, ◌%◌, ◌<◌}
use native.Mathlib.Omega.{arith}
use lib.ListN.{get_or, take, drop}
use lib.Seq.{drop-drop}
use Rattle.rules_rates.specs.declared.Rate.{Rate}
use Rattle.rules_rates.specs.declared.Rate.TheVariants.{One, Two, Five, Eleven}
use Rattle.rules_rates.specs.Rates.{symbol_chips, symbol_bits}
use Rattle.rules_chips.specs.Chips.{Taken, taken_counts}
use Rattle.rules_symbols.specs.Choice.{decided}
use Rattle.rules_bits.specs.Growths.{heard_bits}
use Rattle.rules_frame.specs.declared.Kind.{Kind}
use Rattle.rules_frame.specs.declared.Kind.TheVariants.{Long, Short}
use Rattle.rules_frame.specs.Frame.{header_rate, front_symbols, preamble_length, header_length}
use Rattle.rules_reading.specs.Places.{word_from}
use Rattle.rules_reading.specs.Reading.{decided_words}
use Rattle.rules_reading.proofs.Sfd.{words_at}

-- ---- numbers of a front's symbols and bits
abbrev pub header_symbols : Kind → ℕ
header_symbols k = header_length / symbol_bits (header_rate k)

pub front_symbols_lem : (k : Kind) → front_symbols k ≡ preamble_length k + header_symbols k
front_symbols_lem Long = refl
front_symbols_lem Short = refl

pub header_bits_lem : (k : Kind) → symbol_bits (header_rate k) * header_symbols k ≡ header_length
header_bits_lem Long = refl
header_bits_lem Short = refl

pub header_chips : (k : Kind) → symbol_chips (header_rate k) ≡ 11
header_chips Long = refl
header_chips Short = refl

-- an offset in a row of bits is a symbol and one of its bits
pub split : (q : Rate) (c m : ℕ) → c < symbol_bits q * m
    → (c / symbol_bits q < m) × (c % symbol_bits q < symbol_bits q)
    × (symbol_bits q * (c / symbol_bits q) + c % symbol_bits q ≡ c)
split One c m h = (omega arith, omega arith, omega arith)
split Two c m h = (omega arith, omega arith, omega arith)
split Five c m h = (omega arith, omega arith, omega arith)
split Eleven c m h = (omega arith, omega arith, omega arith)

-- a Barker symbol's number does not matter
pub barker_number : (k : Kind) (i j p n : ℕ) → heard_bits (header_rate k) i p n ≡ heard_bits (header_rate k) j p n
unfolding heard_bits
barker_number Long i j p n = refl
barker_number Short i j p n = refl

pub one_number : (i j p n : ℕ) → heard_bits One i p n ≡ heard_bits One j p n
unfolding heard_bits
one_number i j p n = refl

-- a word of a part, from its place in the recording
pub word_in : (q : Rate) (m at j : ℕ) (rec : List Taken) → j < m
    → get_or (decided_words q m (drop at rec)) j 0 ≡ word_from q (at + symbol_chips q * j) rec
word_in q m at j rec l =
    words_at q m j (drop at rec) l
    ∙ ap (λ (x : List Taken). decided q (map taken_counts (take (symbol_chips q) x)))
    (drop-drop (symbol_chips q * j) at rec)
