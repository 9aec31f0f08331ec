-- Reading, once for every recorder and for whoever reads: over a list of chips, each unusable or a pair of counts
-- (RULES 2.7, 6.2 to 6.10, 6.12, 6.30). The order is 1, 7, 8, then 9 and 10 over the front, 11, 12, 13, 14, 15, 16,
-- 17, then 9 and 10 over the payload; in each part 9 is looked for through the whole part before 10.
-- Definitions only. Assumes nothing.
use Rattle.rules_calls.specs.declared.Refusal.{Refusal}
use Rattle.std.specs.Prelude.{ℕ, zero, suc, ◌+◌, ◌-◌, ◌*◌, ◌/◌, ◌%◌, Bool, cond, not, List, [], ◌∷◌, ◌++◌, map, length, get_or, take, drop, replicate, eqb, ltb, Option, None, Some, Result, Ok, Err}
use Rattle.rules_rates.specs.declared.Rate.{Rate}
use Rattle.rules_rates.specs.declared.Rate.TheVariants.{One, Two, Five, Eleven}
use Rattle.rules_rates.specs.Rates.{symbol_chips, symbol_bits}
use Rattle.rules_chips.specs.Chips.{Taken, is_unusable, taken_counts}
use Rattle.rules_symbols.specs.Choice.{decided}
use Rattle.rules_bits.specs.Bits.{octets_of}
use Rattle.rules_bits.specs.Growths.{heard, growths_of, last_heard}
use Rattle.rules_bits.specs.Scrambler.{descramble}
use Rattle.rules_frame.specs.declared.Kind.{Kind}
use Rattle.rules_calls.specs.declared.Refusal.TheVariants.{
  NoKind,
  RowsDiffer,
  ShorterThanFront,
  Unusable,
  OddGrowth,
  Ends,
  OctetRoom,
}
use Rattle.rules_calls.specs.declared.Told.{Told}
use Rattle.rules_calls.specs.declared.Reading.{Reading}
use Rattle.rules_calls.specs.Headers.{Accepted, ours, header_of}
use Rattle.rules_reading.specs.Leads.{frame_leads, least_of}
use Rattle.rules_frame.specs.Frame.{
  is_kind,
  kind_of,
  sync_bits,
  header_rate,
  start,
  front_chips,
  preamble_length,
  header_length,
  preamble_chips,
  frame_chips,
}

module _ {A : Type 0} where
  -- what a place found refuses, or what comes next
  abbrev pub or_else : Option ℕ → (ℕ → A) → A → A
  or_else None found next = next
  or_else (Some place) found next = found place

-- ---- a part of the recording

-- 9: the first unusable chip of a part that starts at place `at`
unfoldable pub first_unusable : ℕ → List Taken → Option ℕ
first_unusable at [] = None
first_unusable at (c ∷ cs) = cond (is_unusable c) (Some at) (first_unusable (suc at) cs)

-- 10: the first chip of the first symbol grown by 1 or 3, of 1 Mbit/s symbols that start at place `at`
unfoldable pub first_odd : ℕ → List ℕ → Option ℕ
first_odd at [] = None
first_odd at (g ∷ gs) = cond (eqb (g % 2) 1) (Some at) (first_odd (at + symbol_chips One) gs)

-- symbols of the other rates may grow by anything
abbrev pub odd_growth : Rate → ℕ → List ℕ → Option ℕ
odd_growth One at gs = first_odd at gs
odd_growth Two at gs = None
odd_growth Five at gs = None
odd_growth Eleven at gs = None

-- the words that m symbols are decided as
unfoldable pub decided_words : Rate → ℕ → List Taken → List ℕ
decided_words r zero cs = []
decided_words r (suc m) cs =
    decided r (map taken_counts (take (symbol_chips r) cs)) ∷ decided_words r m (drop (symbol_chips r) cs)

-- ---- the front

-- the words of the preamble, 1 Mbit/s, and of the header
unfoldable pub preamble_words : Kind → List Taken → List ℕ
preamble_words k rec = decided_words One (preamble_length k) rec

unfoldable pub header_words : Kind → List Taken → List ℕ
header_words k rec =
    decided_words (header_rate k) (header_length / symbol_bits (header_rate k)) (drop (preamble_chips k) rec)

-- the first symbol serves only as reference: it counts as grown by 0 from itself, so it is excepted from 10
unfoldable pub reference : Kind → List Taken → ℕ
reference k rec = get_or (preamble_words k rec) 0 0

-- the phases that the header's and the payload's first symbols grow from
unfoldable pub header_phase : Kind → List Taken → ℕ
header_phase k rec = last_heard One (reference k rec) (preamble_words k rec)

unfoldable pub payload_phase : Kind → List Taken → ℕ
payload_phase k rec = last_heard (header_rate k) (header_phase k rec) (header_words k rec)

unfoldable pub front_odd : Kind → List Taken → Option ℕ
front_odd k rec =
    or_else (odd_growth One 0 (growths_of One (reference k rec) (preamble_words k rec))) (λ place. Some place)
    (odd_growth (header_rate k) (preamble_chips k) (growths_of (header_rate k) (header_phase k rec) (header_words k rec)))

-- the front's bits as they were sent, and unscrambled
unfoldable pub front_heard : Kind → List Taken → List ℕ
front_heard k rec =
    heard One 0 (reference k rec) (preamble_words k rec)
    ++ heard (header_rate k) 0 (header_phase k rec) (header_words k rec)

unfoldable pub front_bits : Kind → List Taken → List ℕ
front_bits k rec = descramble (start k) (front_heard k rec)

-- 8, then 9 and 10 over the front, 11 to 15, for a reader that accepts these headers
unfoldable pub front_by : Accepted → Kind → List Taken → Result Told Refusal
front_by accepted k rec =
    cond (ltb (length rec) (front_chips k)) (Err ShorterThanFront)
    (or_else (first_unusable 0 (take (front_chips k) rec)) (λ place. Err (Unusable place 0))
    (or_else (front_odd k rec) (λ place. Err (OddGrowth place 0))
    (header_of accepted k (take 16 (drop (sync_bits k) (front_bits k rec))) (drop (preamble_length k) (front_bits k rec)))))

-- and for our own readers
abbrev pub front_of : Kind → List Taken → Result Told Refusal
front_of k rec = front_by ours k rec

-- ---- the payload

unfoldable pub payload_words : Kind → Rate → ℕ → List Taken → List ℕ
payload_words k r n rec = decided_words r (8 * n / symbol_bits r) (drop (front_chips k) rec)

unfoldable pub payload_odd : Kind → Rate → ℕ → List Taken → Option ℕ
payload_odd k r n rec = odd_growth r (front_chips k) (growths_of r (payload_phase k rec) (payload_words k r n rec))

-- the payload's octets: the front's bits and the payload's are unscrambled in one run
unfoldable pub payload_of : Kind → Rate → ℕ → List Taken → List ℕ
payload_of k r n rec =
    octets_of n
    (drop (preamble_length k + header_length)
    (descramble (start k) (front_heard k rec ++ heard r 0 (payload_phase k rec) (payload_words k r n rec))))

-- 16: the recording ends inside the payload that a front tells of
abbrev pub whole_of : Kind → List Taken → Result Told Refusal → Result Told Refusal
whole_of k rec (Err e) = Err e
whole_of k rec (Ok t) =
    cond (ltb (length rec) (frame_chips k t.rate t.n)) (Err (Ends t.length)) (Ok t)

-- 17, then 9 and 10 over the payload; chips after the frame are not looked at. A good reading has the smallest lead
unfoldable pub payload_reading : Kind → Told → List Taken → ℕ → Result Reading Refusal
payload_reading k t rec room =
    let all = frame_chips k t.rate t.n in
    let from = front_chips k in
    cond (ltb room t.n) (Err (OctetRoom t.length))
    (or_else (first_unusable from (take (all - from) (drop from rec))) (λ p. Err (Unusable p t.length))
    (or_else (payload_odd k t.rate t.n rec) (λ p. Err (OddGrowth p t.length))
    (Ok (record { told = t; used = all; least = least_of (frame_leads k t.rate t.n rec) }))))

abbrev pub after_front : Kind → List Taken → ℕ → Result Told Refusal → Result Reading Refusal
after_front k rec room (Err e) = Err e
after_front k rec room (Ok t) = payload_reading k t rec room

-- 8 to 17, and 9 and 10 over the payload: a recording of a kind, for a reader that accepts these headers, with room for
-- so many octets
abbrev pub reading_by : Accepted → Kind → List Taken → ℕ → Result Reading Refusal
reading_by accepted k rec room = after_front k rec room (whole_of k rec (front_by accepted k rec))

-- ---- the whole

-- from a kind as a number, whether the recorder's rows agree, the recording, and room for so many octets
unfoldable pub reading_of : ℕ → Bool → List Taken → ℕ → Result Reading Refusal
reading_of kind agree rec room =
    cond (not (is_kind kind)) (Err NoKind)
    (cond (not agree) (Err RowsDiffer)
    (reading_by ours (kind_of kind) rec room))

-- octets past n are 0; after a refusal the octet buffer is zeros
abbrev pub octets_after : Kind → List Taken → ℕ → Result Reading Refusal → List ℕ
octets_after k rec room (Err e) = replicate room 0
octets_after k rec room (Ok g) = payload_of k g.told.rate g.told.n rec ++ replicate (room - g.told.n) 0

-- what a read leaves in the octet buffer
unfoldable pub octets_found : ℕ → Bool → List Taken → ℕ → List ℕ
octets_found kind agree rec room = octets_after (kind_of kind) rec room (reading_of kind agree rec room)
