-- What is known of a line and of leads once a preamble and a front are heard, and of a front once it is read.
-- Definitions only. Assumes nothing.
-- working notion: of the code that reads a front; no promise needs it
use Rattle.rules_calls.specs.declared.Refusal.{Refusal}
use Rattle.std.specs.Prelude.{◌≡◌, List, ℕ, ◌+◌, ◌≤◌, ◌<◌, length, take, drop, Result, Ok, Err}
use Rattle.rules_rates.specs.declared.Rate.TheVariants.{One}
use Rattle.rules_chips.specs.Chips.{Taken}
use Rattle.rules_bits.specs.Bits.{octet_bits, octets_of}
use Rattle.rules_bits.specs.Growths.{heard, growths_of}
use Rattle.rules_bits.specs.Scrambler.{descramble}
use Rattle.rules_bits.specs.Code.{past_of, past_after}
use Rattle.common_lines.specs.declared.Line.{Line}
use Rattle.rules_frame.specs.declared.Kind.{Kind}
use Rattle.rules_frame.specs.declared.Kind.TheVariants.{Long, Short}
use Rattle.rules_frame.specs.Frame.{start, sync_bits, preamble_length, front_chips, frame_chips}
use Rattle.rules_calls.specs.declared.Refusal.TheVariants.{ShorterThanFront, OddGrowth}
use Rattle.rules_calls.specs.declared.Refusal.TheVariants as refusal
use Rattle.rules_calls.specs.declared.Told.{Told}
use Rattle.rules_calls.specs.Headers.{Accepted, header_of}
use Rattle.rules_reading.specs.Reading.{
  or_else,
  odd_growth,
  preamble_words,
  reference,
  header_phase,
  payload_phase,
  front_odd,
  front_heard,
  front_by,
  whole_of,
}
use Rattle.rules_reading.specs.Heard.{sfd_heard, header_heard}
use Rattle.rules_reading.specs.Leads.{decided_leads, front_leads, least_of}
use Rattle.choose_recorded.specs.Recorded.{AllUsable}
use Rattle.hear_blocks.specs.declared.Hearing.{Hearing}
use Rattle.read_fronts.specs.declared.Preamble.{Preamble}
use Rattle.read_fronts.specs.declared.FrontHeard.{FrontHeard}
use Rattle.read_fronts.specs.declared.Look.{Look}
use Rattle.read_fronts.specs.declared.Look.TheVariants.{Shorter, Unusable, Usable}
use Rattle.read_fronts.specs.declared.Opening.{Opening}

-- SYNC is so many octets
abbrev pub sync_octets : Kind → ℕ
sync_octets Long = 16
sync_octets Short = 7

-- the preamble's bits as they were received
abbrev pub preamble_heard : Kind → List Taken → List ℕ
preamble_heard k rec = heard One 0 (reference k rec) (preamble_words k rec)

-- and its octets as they were sent
abbrev pub preamble_octets : Kind → List Taken → List ℕ
preamble_octets k rec = octets_of (sync_octets k + 2) (descramble (start k) (preamble_heard k rec))

-- the leads of the preamble's symbols
abbrev pub preamble_leads : Kind → List Taken → List ℕ
preamble_leads k rec = decided_leads One (preamble_length k) rec

-- the line once the preamble is heard: the header's first symbol grows from its phase, and its bits are unscrambled
-- after the preamble's
pub record PreambleLine (k : Kind) (rec : List Taken) (h : Hearing) : Type 0 where
  pub odd : h.odd ≡ odd_growth One 0 (growths_of One (reference k rec) (preamble_words k rec))
  pub at_phase : h.line.phase ≡ header_phase k rec
  pub small : h.line.phase < 4
  pub past : take 7 (past_of h.line.past) ≡ take 7 (past_after (start k) (preamble_heard k rec))

-- a preamble heard
pub record PreambleKnown (k : Kind) (rec : List Taken) (p : Preamble) : Type 0 where
  pub line : PreambleLine k rec p.part.heard
  pub sfd : octet_bits p.sfd ≡ drop (sync_bits k) (descramble (start k) (preamble_heard k rec))
  pub least : p.part.least ≡ least_of (preamble_leads k rec)

-- the line once the front is heard: the payload's first symbol grows from its phase, and its bits are unscrambled after
-- the front's
pub record Opened (k : Kind) (rec : List Taken) (l : Line) : Type 0 where
  pub at_phase : l.phase ≡ payload_phase k rec
  pub small : l.phase < 4
  pub past : take 7 (past_of l.past) ≡ take 7 (past_after (start k) (front_heard k rec))

-- a front heard
pub record FrontKnown (k : Kind) (rec : List Taken) (f : FrontHeard) : Type 0 where
  pub odd : f.part.heard.odd ≡ front_odd k rec
  pub sfd : octet_bits f.sfd ≡ sfd_heard k rec
  pub header : octet_bits f.header ≡ header_heard k rec
  pub line : Opened k rec f.part.heard.line
  pub least : f.part.least ≡ least_of (front_leads k rec)

-- what a front of usable chips tells a reader that accepts these headers: 10, then 11 to 15
abbrev pub after_usable : Accepted → Kind → List Taken → Result Told Refusal
after_usable accepted k rec =
    or_else (front_odd k rec) (λ place. Err (OddGrowth place 0))
    (header_of accepted k (sfd_heard k rec) (header_heard k rec))

-- a look at a front, the same whoever reads: 8, or 9 with its place, or all of it can be heard, and then 10 to 15 are
-- left to be told
abbrev pub Looks : Kind → List Taken → Look → Type 0
Looks k rec Shorter = (accepted : Accepted) → front_by accepted k rec ≡ Err ShorterThanFront
Looks k rec (Unusable place) =
    ((accepted : Accepted) → front_by accepted k rec ≡ Err (refusal.Unusable place 0)) × (place < length rec)
Looks k rec Usable =
    ((accepted : Accepted) → front_by accepted k rec ≡ after_usable accepted k rec)
    × (front_chips k ≤ length rec) × AllUsable rec 0 (front_chips k)

-- an opening that tells f: where that is fields, the line goes on from the front, and so does the smallest lead
pub record Opens (k : Kind) (rec : List Taken) (f : Result Told Refusal) (o : Opening) : Type 0 where
  pub told : o.front ≡ f
  pub line : (t : Told) → o.front ≡ Ok t → Opened k rec o.line
  pub least : (t : Told) → o.front ≡ Ok t → o.least ≡ least_of (front_leads k rec)

-- an opening that tells what a recording's front does, refusal 16 included: where that is fields, the recording has the
-- whole frame
pub record OpensWhole (accepted : Accepted) (k : Kind) (rec : List Taken) (o : Opening) : Type 0 where
  pub told : o.front ≡ whole_of k rec (front_by accepted k rec)
  pub line : (t : Told) → o.front ≡ Ok t → Opened k rec o.line
  pub least : (t : Told) → o.front ≡ Ok t → o.least ≡ least_of (front_leads k rec)
  pub few : (t : Told) → o.front ≡ Ok t → t.n ≤ 4095
  pub chips : (t : Told) → o.front ≡ Ok t → frame_chips k t.rate t.n ≤ length rec
