-- The words that a frame with any 48 header bits is sent as, part by part, and their chips; and what it is for a
-- recording, whatever recorded it, to be decided as they were sent (`AsSent`). All laws of reading back speak of such
-- a recording: a clean frame is one, and so is a spoiled one that stands its damage. Assumes nothing.
use mathlib.Core.Path.{◌≡◌, sym, ap, ◌∙◌, subst}
use mathlib.Core.List.{List, [], ◌∷◌, ◌++◌}
use Rattle.std.specs.Prelude.{None}
use Prim.Native.Nat.{ℕ, ◌+◌, ◌-◌, ◌*◌, ◌/◌, ◌≤◌}
use native.Mathlib.Omega.{arith}
use lib.ListN.{length, take, drop, length-drop}
use lib.Seq.{length-take-le}
use Rattle.base.specs.Below.{Below}
use Rattle.base.proofs.Below.{below_nil, below_append, below_take, below_drop}
use Rattle.rules_rates.specs.declared.Rate.{Rate}
use Rattle.rules_rates.specs.declared.Rate.TheVariants.{One}
use Rattle.rules_rates.specs.Rates.{symbol_bits}
use Rattle.rules_chips.specs.Chips.{Taken}
use Rattle.rules_symbols.specs.Words.{word_of}
use Rattle.rules_symbols.proofs.Words.{word_phases}
use Rattle.rules_bits.specs.Growths.{symbols_of, last_phase}
use Rattle.rules_bits.specs.Code.{words_chips}
use Rattle.rules_bits.proofs.Scrambler.{scramble_below}
use Rattle.rules_bits.proofs.Sent.{Allowed}
use Rattle.rules_frame.specs.declared.Kind.{Kind}
use Rattle.rules_frame.specs.Frame.{
  header_rate,
  start,
  front_chips,
  frame_bits,
  preamble_length,
  header_length,
  parts_chips,
  sent_bits,
  framed,
  frame_chips,
}
use Rattle.rules_frame.proofs.Sizes.{sent_counted}
use Rattle.rules_frame.proofs.Parity.{header_symbols}
use Rattle.rules_reading.specs.Reading.{first_unusable, preamble_words, header_words, payload_words}
use Rattle.rules_clean.proofs.Parts.{words_of, allowed_of, chips_of, count_words}

words_phases : (r : Rate) (ns : List ℕ) → Below 4 (words_chips r ns)
unfolding words_chips
words_phases r [] = below_nil 4 (omega arith)
words_phases r (n ∷ ns) =
    let first : Below 4 (word_of r n) = record { at = (word_phases r n).at } in
    below_append first (words_phases r ns)

over_one : (a c : ℕ) → a ≡ c → a / 1 ≡ c
over_one a c e = omega arith

module _ (k : Kind) (r : Rate) (p : ℕ) (header xs : List ℕ) where
  abbrev n : ℕ
  n = length xs

  abbrev s : List ℕ
  s = sent_bits k header xs

  abbrev m : ℕ
  m = preamble_length k

  -- the scrambled bits of the three parts
  abbrev pub preamble_out : List ℕ
  preamble_out = take m s

  abbrev pub header_out : List ℕ
  header_out = take header_length (drop m s)

  abbrev pub payload_out : List ℕ
  payload_out = drop (m + header_length) s

  -- the phases that header and payload grow from
  abbrev pub header_from : ℕ
  header_from = last_phase p (symbols_of One preamble_out)

  abbrev pub payload_from : ℕ
  payload_from = last_phase header_from (symbols_of (header_rate k) header_out)

  -- the words that the parts are sent as
  abbrev pub preamble_sent : List ℕ
  preamble_sent = words_of One p preamble_out

  abbrev pub header_sent : List ℕ
  header_sent = words_of (header_rate k) header_from header_out

  abbrev pub payload_sent : List ℕ
  payload_sent = words_of r payload_from payload_out

  -- a recording whose front is decided as it was sent, all of its chips there and none of them unusable
  pub record FrontAsSent (rec : List Taken) : Type 0 where
    pub preamble_words_lem : preamble_words k rec ≡ preamble_sent
    pub header_words_lem : header_words k rec ≡ header_sent
    pub front_there : front_chips k ≤ length rec
    pub front_usable : first_unusable 0 (take (front_chips k) rec) ≡ None

  -- and so is its payload
  pub record AsSent (rec : List Taken) : Type 0 where
    pub front : FrontAsSent rec
    pub payload_words_lem : payload_words k r n rec ≡ payload_sent
    pub frame_there : frame_chips k r n ≤ length rec
    pub payload_usable :
        first_unusable (front_chips k) (take (frame_chips k r n - front_chips k) (drop (front_chips k) rec)) ≡ None

  module _ (eh : length header ≡ header_length) where
    s_length : length s ≡ m + (48 + 8 * n)
    s_length = sent_counted k header xs eh

    s_below : Below 2 s
    unfolding sent_bits
    s_below = scramble_below (start k) (frame_bits k header xs)

    pub preamble_length_lem : length preamble_out ≡ m
    preamble_length_lem = length-take-le m s (omega (arith, s_length))

    pub header_length_lem : length header_out ≡ header_length
    header_length_lem = length-take-le 48 (drop m s) (rw length-drop (omega (arith, s_length)))

    pub payload_length : length payload_out ≡ 8 * n
    payload_length = length-drop (m + 48) s ∙ omega (arith, s_length)

    pub preamble_below : Below 2 preamble_out
    preamble_below = below_take m s_below

    pub header_below : Below 2 header_out
    header_below = below_take 48 (below_drop m s_below)

    pub payload_below : Below 2 payload_out
    payload_below = below_drop (m + 48) s_below

    pub preamble_allowed : Allowed One preamble_sent
    preamble_allowed = allowed_of One p preamble_out preamble_below

    pub header_allowed : Allowed (header_rate k) header_sent
    header_allowed = allowed_of (header_rate k) header_from header_out header_below

    pub payload_allowed : Allowed r payload_sent
    payload_allowed = allowed_of r payload_from payload_out payload_below

    pub preamble_count_lem : length preamble_sent ≡ m
    preamble_count_lem = count_words One p preamble_out ∙ over_one (length preamble_out) m preamble_length_lem

    pub header_count : length header_sent ≡ header_symbols k
    header_count =
        count_words (header_rate k) header_from header_out
        ∙ ap (λ (j : ℕ). j / symbol_bits (header_rate k)) header_length_lem

    pub payload_count : length payload_sent ≡ 8 * n / symbol_bits r
    payload_count = count_words r payload_from payload_out ∙ ap (λ (j : ℕ). j / symbol_bits r) payload_length

    -- the chips are those of the words
    pub words_are : framed k r p header xs
        ≡ words_chips One preamble_sent ++ (words_chips (header_rate k) header_sent ++ words_chips r payload_sent)
    unfolding framed parts_chips
    words_are =
        let c1 = chips_of One p preamble_out preamble_below in
        let c2 = chips_of (header_rate k) header_from header_out header_below in
        let c3 = chips_of r payload_from payload_out payload_below in
        λ i. c1 i ++ (c2 i ++ c3 i)

    -- so every chip is a phase
    pub frame_phases : Below 4 (framed k r p header xs)
    frame_phases =
        subst (λ (c : List ℕ). Below 4 c) (sym words_are)
        (below_append (words_phases One preamble_sent)
        (below_append (words_phases (header_rate k) header_sent) (words_phases r payload_sent)))
