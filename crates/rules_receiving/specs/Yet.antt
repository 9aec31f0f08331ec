-- Reading as the chips arrive: what the octet buffer holds until close, over the list of all chips fed so far and in
-- the words of a whole reading (RULES 6.31).
-- Definitions only. Assumes nothing.
use Rattle.rules_calls.specs.declared.Refusal.{Refusal}
use Rattle.std.specs.Prelude.{cond, not, List, ◌++◌, ℕ, ◌-◌, ◌/◌, ltb, length, take, drop, replicate, Result, Ok, Err, Option}
use Rattle.rules_rates.specs.declared.Rate.{Rate}
use Rattle.rules_rates.specs.Rates.{symbol_chips, octet_chips}
use Rattle.rules_chips.specs.Chips.{Taken}
use Rattle.rules_bits.specs.Growths.{growths_of}
use Rattle.rules_frame.specs.declared.Kind.{Kind}
use Rattle.rules_frame.specs.Frame.{is_kind, kind_of, front_chips, frame_chips}
use Rattle.rules_calls.specs.declared.Told.{Told}
use Rattle.rules_reading.specs.Reading.{
  or_else,
  first_unusable,
  odd_growth,
  decided_words,
  payload_phase,
  front_of,
  payload_of,
}

abbrev pub zeros : ℕ → List ℕ
zeros room = replicate room 0

-- the chips of the frame that have come: those behind it are not looked at
abbrev pub of_frame : Kind → Told → List Taken → List Taken
of_frame k t rec = take (frame_chips k t.rate t.n) rec

-- how many symbols and octets of a part that starts at a place are whole
abbrev pub whole_symbols : Rate → ℕ → List Taken → ℕ
whole_symbols r from rec = (length rec - from) / symbol_chips r

abbrev pub whole_octets : Rate → ℕ → List Taken → ℕ
whole_octets r from rec = (length rec - from) / octet_chips r

-- 9 is certain: an unusable chip of the payload has come, though its symbol be not whole
abbrev pub unusable_yet : Kind → List Taken → Option ℕ
unusable_yet k rec = first_unusable (front_chips k) (drop (front_chips k) rec)

-- 10 is certain: a whole symbol of the payload, at 1 Mbit/s, is grown by 1 or 3
unfoldable pub odd_yet : Kind → Rate → List Taken → Option ℕ
odd_yet k r rec =
    odd_growth r (front_chips k)
    (growths_of r (payload_phase k rec) (decided_words r (whole_symbols r (front_chips k) rec) (drop (front_chips k) rec)))

-- the octets whose chips have all come, then zeros
abbrev pub octets_yet : Kind → Rate → List Taken → ℕ → List ℕ
octets_yet k r rec room =
    payload_of k r (whole_octets r (front_chips k) rec) rec ++ zeros (room - whole_octets r (front_chips k) rec)

-- 17, 9 and 10 make zeros of them
unfoldable pub payload_yet : Kind → Told → List Taken → ℕ → List ℕ
payload_yet k t rec room =
    cond (ltb room t.n) (zeros room)
    (or_else (unusable_yet k rec) (λ place. zeros room)
    (or_else (odd_yet k t.rate rec) (λ place. zeros room) (octets_yet k t.rate rec room)))

-- and so do 8 to 15, of which 8 may pass
abbrev pub after_front_yet : Kind → List Taken → ℕ → Result Told Refusal → List ℕ
after_front_yet k rec room (Err e) = zeros room
after_front_yet k rec room (Ok t) = payload_yet k t (of_frame k t rec) room

-- from a kind as a number, all chips fed so far, and room for so many octets
unfoldable pub buffer_yet : ℕ → List Taken → ℕ → List ℕ
buffer_yet kind rec room =
    cond (not (is_kind kind)) (zeros room) (after_front_yet (kind_of kind) rec room (front_of (kind_of kind) rec))
