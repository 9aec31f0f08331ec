-- A block heard, over the rate: from its rows to what the definitions of reading say of its words.
--     block_odd                             the first odd growth, of any number of words
--     block_heard, block_octets             the line behind whole octets of them with that growth, and the octets
--     phases_low, growths_low, codes_low    the rows' entries are small
-- Assumes nothing.
use Rattle.std.proofs.Common.{◌≡◌, ℕ, Option, zero, suc, ◌+◌, ◌*◌, ◌%◌, ◌^◌, ◌<◌, ◌≤◌, List, ◌∷◌, length, get_or, take, sym, refl, ap, ◌∙◌, subst, ap₂, add-one, arith, length-take-le, take_all, get_or-take, ext_get_or}
use Rattle.base.specs.Below.{Below}
use Rattle.base.specs.Tables.{tabulate}
use Rattle.base.proofs.Tables.{length_tabulate, get_or_tabulate, tabulate_all}
use Rattle.rules_rates.specs.declared.Rate.{Rate}
use Rattle.rules_rates.specs.declared.Rate.TheVariants.{One, Two, Five, Eleven}
use Rattle.rules_rates.specs.Rates.{symbol_bits, octet_symbols}
use Rattle.rules_rates.proofs.Octets.{part_bits}
use Rattle.rules_symbols.specs.Words.{phase_of}
use Rattle.rules_symbols.specs.Choice.{numbers}
use Rattle.rules_bits.specs.Bits.{number_of, octet_bits, octets_of}
use Rattle.rules_bits.specs.Growths.{grown_by, heard_bits, heard, growths_of, last_heard}
use Rattle.rules_bits.specs.Scrambler.{descramble}
use Rattle.rules_bits.specs.Code.{past_of, past_after}
use Rattle.common_lines.specs.declared.Line.{Line}
use Rattle.rules_bits.proofs.Bits.{octets_length, octets_bits}
use Rattle.rules_bits.proofs.Heard.{heard_length, heard_below}
use Rattle.rules_reading.specs.Reading.{first_odd, odd_growth}
use Rattle.hear_codes.specs.Codes.{grown_for, word_bits, phase_before, octet_after, behind, plain, AreWords}
use Rattle.hear_blocks.specs.Heard.{plain_octets, Heard}
use Rattle.hear_codes.proofs.Codes.{word_bits_lem, code_small, octet_room}
use Rattle.hear_codes.proofs.Plain.{from_first, past_last}
use Rattle.hear_codes.proofs.Symbols.{Phases, phase_last, growths_row, octet_row}

-- ---- a row that holds the octets of the bits received

octets_row : (n : ℕ) (bs raw : List ℕ) → ((j : ℕ) → j < n → get_or raw (j + 1) 0 ≡ get_or (octets_of n bs) j 0)
    → behind raw n ≡ octets_of n bs
octets_row n bs raw e =
    ext_get_or 0 (behind raw n) (octets_of n bs) (length_tabulate _ n ∙ sym (octets_length n bs))
    (λ j h. let k : j < n = omega (arith, length_tabulate (λ (j : ℕ). get_or raw (j + 1) 0) n) in
    get_or_tabulate (λ j. get_or raw (j + 1) 0) n j 0 k ∙ e j k)

module _ (r : Rate) (f n : ℕ) (l : Line) (ws raw : List ℕ) (size : length (heard r f l.phase ws) ≡ 8 * n)
    (first : get_or raw 0 0 ≡ l.past)
    (row : (j : ℕ) → j < n → get_or raw (j + 1) 0 ≡ get_or (octets_of n (heard r f l.phase ws)) j 0) where
  all_bits : octet_bits (behind raw n) ≡ heard r f l.phase ws
  all_bits =
      ap octet_bits (octets_row n (heard r f l.phase ws) raw row)
      ∙ octets_bits n (heard r f l.phase ws) (omega arith) (heard_below r f l.phase ws)
      ∙ take_all (8 * n) _ (omega arith)

  row_octets : plain n (get_or raw 0 0) (behind raw n) ≡ plain_octets r f n l ws
  unfolding plain
  row_octets = ap₂ {C = List ℕ} (λ q bs. octets_of n (descramble (past_of q) bs)) first all_bits

  row_past : past_of (get_or raw n 0) ≡ take 8 (past_after (past_of l.past) (heard r f l.phase ws))
  row_past =
      sym
      (ap₂ {C = List ℕ} (λ q bs. take 8 (past_after (past_of q) bs)) (sym first) (sym all_bits)
      ∙ past_last (get_or raw 0 0) (behind raw n)
      ∙ ap (λ (k : ℕ). past_of (get_or (get_or raw 0 0 ∷ behind raw n) k 0)) (length_tabulate _ n)
      ∙ ap past_of (from_first raw n n (omega arith)))

-- ---- small entries

quarter : (x : ℕ) → x % 4 < 4
quarter x = omega arith

module _ (r : Rate) (p : ℕ) (ns : List ℕ) (h : p < 4) where
  pub phases_low : (ps : List ℕ) → ps ≡ tabulate (phase_before r p ns) 65 → Below 4 ps
  phases_low ps e = record {
    at =
        λ i. rw e (tabulate_all (λ (x : ℕ). x < 4) (phase_before r p ns) 65 0 (omega arith) by i);
  }
    where
      by : (j : ℕ) → phase_before r p ns j < 4
      by zero = h
      by (suc j) = quarter (phase_of r (get_or ns j 0))

grown_small : (r : Rate) (k p q : ℕ) → grown_for r k p q < 4
grown_small One k p q = quarter _
grown_small Two k p q = quarter _
grown_small Five k p q = quarter _
grown_small Eleven k p q = quarter _

pub growths_low : (r : Rate) (f : ℕ) (ps g : List ℕ)
    → g ≡ tabulate (λ j. grown_for r (f + j) (get_or ps j 0) (get_or ps (j + 1) 0)) 64 → Below 4 g
growths_low r f ps g e = record {
  at = λ i. rw e
      (tabulate_all (λ (x : ℕ). x < 4) (λ j. grown_for r (f + j) (get_or ps j 0) (get_or ps (j + 1) 0)) 64 0 (omega arith)
      (λ j. grown_small r (f + j) _ _) i);
}

pub codes_low : (r : Rate) (g ns cs : List ℕ) → Below 4 g
    → cs ≡ tabulate (λ j. number_of (word_bits r (get_or g j 0) (get_or ns j 0))) 64 → Below (2 ^ symbol_bits r) cs
codes_low r g ns cs b e = record {
  at = λ i. rw e
      (tabulate_all (λ (x : ℕ). x < 2 ^ symbol_bits r) (λ j. number_of (word_bits r (get_or g j 0) (get_or ns j 0))) 64 0
      (some r) (λ j. code_small r (get_or g j 0) (get_or ns j 0) (b.at j)) i);
}
  where
    some : (r : Rate) → 0 < 2 ^ symbol_bits r
    some One = omega arith
    some Two = omega arith
    some Five = omega arith
    some Eleven = omega arith

-- the phase of a word's number is a phase
phase_small : (r : Rate) (n : ℕ) → n < numbers r → phase_of r n % 4 ≡ phase_of r n
phase_small One n h = omega arith
phase_small Two n h = omega arith
phase_small Five n h = omega arith
phase_small Eleven n h = omega arith

-- ---- the block: its words, and then its octets

module _
    (r : Rate) (f : ℕ) (l : Line) (m : ℕ) (ns ps g : List ℕ) (room : m ≤ 64) (all : length ns ≡ 64)
    (words : AreWords r (take m ns))
    (is-ps : ps ≡ tabulate (phase_before r l.phase ns) 65)
    (is-g : g ≡ tabulate (λ j. grown_for r (f + j) (get_or ps j 0) (get_or ps (j + 1) 0)) 64) where
  abbrev ws : List ℕ
  ws = take m ns

  long : length ws ≡ m
  long = length-take-le m ns (omega arith)

  word_at : (j : ℕ) → j < m → get_or ws j 0 ≡ get_or ns j 0
  word_at j h = get_or-take m ns j 0 h

  phases : Phases r l.phase ws ps m
  phases = record {
    first = ap (λ (xs : List ℕ). get_or xs 0 0) is-ps ∙ get_or_tabulate (phase_before r l.phase ns) 65 0 0 (omega arith);
    at = λ j h.
        ap (λ (xs : List ℕ). get_or xs (j + 1) 0) is-ps
        ∙ get_or_tabulate (phase_before r l.phase ns) 65 (j + 1) 0 (omega arith)
        ∙ ap (phase_before r l.phase ns) (add-one j)
        ∙ ap (λ (x : ℕ). phase_of r x % 4) (sym (word_at j h))
        ∙ phase_small r (get_or ws j 0) (words.at j);
  }

  block_phase : get_or ps m 0 ≡ last_heard r l.phase ws
  block_phase = sym (phase_last ws ps long phases)

  grown_at : (j : ℕ) → j < m → get_or g j 0 ≡ grown_for r (f + j) (get_or ps j 0) (get_or ps (j + 1) 0)
  grown_at j h =
      ap (λ (xs : List ℕ). get_or xs j 0) is-g
      ∙ get_or_tabulate (λ j. grown_for r (f + j) (get_or ps j 0) (get_or ps (j + 1) 0)) 64 j 0 (omega arith)

  -- at 1 Mbit/s the growths are those of the words; at the others none is odd
  pub block_odd : (at : ℕ) → odd_growth r at (take m g) ≡ odd_growth r at (growths_of r l.phase ws)
  block_odd at = by r refl
    where
      by : (s : Rate) → s ≡ r → odd_growth s at (take m g) ≡ odd_growth s at (growths_of r l.phase ws)
      by One e =
          ap (first_odd at)
          (growths_row ws ps long phases (take m g)
          (length-take-le m g (omega (
            arith,
            ap length is-g,
            length_tabulate (λ (j : ℕ). grown_for r (f + j) (get_or ps j 0) (get_or ps (j + 1) 0)) 64,
          )))
          (λ j h. get_or-take m g j 0 h ∙ grown_at j h
          ∙ subst (λ (s : Rate). grown_for s (f + j) (get_or ps j 0) (get_or ps (j + 1) 0)
          ≡ grown_by (get_or ps j 0) (get_or ps (j + 1) 0))
          e refl))
      by Two e = refl
      by Five e = refl
      by Eleven e = refl

  module _
      (n : ℕ) (cs raw : List ℕ) (is_m : m ≡ octet_symbols r * n)
      (is_c : cs ≡ tabulate (λ j. number_of (word_bits r (get_or g j 0) (get_or ns j 0))) 64)
      (is-raw : take (n + 1) raw ≡ tabulate (octet_after r l.past cs) (n + 1)) where
    code_at : (j : ℕ) → j < m → get_or cs j 0 ≡ number_of (heard_bits r (f + j) (get_or ps j 0) (get_or ws j 0))
    code_at j h =
        ap (λ (xs : List ℕ). get_or xs j 0) is_c
        ∙ get_or_tabulate (λ j. number_of (word_bits r (get_or g j 0) (get_or ns j 0))) 64 j 0 (omega arith)
        ∙ ap₂ {C = ℕ} (λ x y. number_of (word_bits r x y))
        (grown_at j h ∙ ap (grown_for r (f + j) (get_or ps j 0)) (phases.at j h)) (sym (word_at j h))
        ∙ ap number_of (sym (word_bits_lem r (f + j) (get_or ps j 0) (get_or ws j 0)))

    raw_at : (j : ℕ) → j < n + 1 → get_or raw j 0 ≡ octet_after r l.past cs j
    raw_at j h =
        sym (get_or-take (n + 1) raw j 0 h)
        ∙ ap (λ (xs : List ℕ). get_or xs j 0) is-raw
        ∙ get_or_tabulate (octet_after r l.past cs) (n + 1) j 0 h

    row : (j : ℕ) → j < n → get_or raw (j + 1) 0 ≡ get_or (octets_of n (heard r f l.phase ws)) j 0
    row j h =
        raw_at (j + 1) (omega arith)
        ∙ ap (octet_after r l.past cs) (add-one j)
        ∙ octet_row ws ps long phases f cs (omega (
          arith,
          ap length is_c,
          length_tabulate
              (λ (j : ℕ). number_of (word_bits r (get_or g j 0) (get_or ns j 0))) 64,
        )) code_at n is_m j h (octet_room r j n m h (omega arith))

    size : length (heard r f l.phase ws) ≡ 8 * n
    size = heard_length r f l.phase ws ∙ ap (λ (k : ℕ). symbol_bits r * k) (long ∙ is_m) ∙ part_bits r n

    block_past : past_of (get_or raw n 0) ≡ take 8 (past_after (past_of l.past) (heard r f l.phase ws))
    block_past = row_past r f n l ws raw size (raw_at 0 (omega arith)) row

    pub block_octets : plain n (get_or raw 0 0) (behind raw n) ≡ plain_octets r f n l ws
    block_octets = row_octets r f n l ws raw size (raw_at 0 (omega arith)) row

    -- the symbols as the code counts them
    counted : (s : ℕ) → s ≡ octet_symbols r → s * n ≡ m
    counted s e = ap (λ (k : ℕ). k * n) e ∙ sym is_m

    -- the line behind the block
    pub block_heard : (s at : ℕ) (o : Option ℕ) → s ≡ octet_symbols r → l.phase < 4
        → o ≡ odd_growth r at (take (s * n) g)
        → Heard r f at l ws (record { line = record { past = get_or raw n 0; phase = get_or ps (s * n) 0 }; odd = o })
    block_heard s at o e h w = record {
      past = block_past;
      phase = ap (λ (k : ℕ). get_or ps k 0) (counted s e) ∙ block_phase;
      small = (phases_low r l.phase ns h ps is-ps).at (s * n);
      place = w ∙ ap (λ (k : ℕ). odd_growth r at (take k g)) (counted s e) ∙ block_odd at;
    }
