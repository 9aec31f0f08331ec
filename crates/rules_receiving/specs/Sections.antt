-- A section of a frame, preamble, header or payload, that comes octet by octet: what is known of it once some of its
-- chips have come.
-- Definitions only. Assumes nothing.
-- working notion: of the calls of a receiver; no promise needs it
use Rattle.std.specs.Prelude.{◌≡◌, List, [], ◌++◌, ℕ, ◌+◌, ◌-◌, ◌*◌, ◌/◌, length, get_or, take, drop, Option, None}
use Rattle.rules_rates.specs.declared.Rate.{Rate}
use Rattle.rules_rates.specs.declared.Rate.TheVariants.{One}
use Rattle.rules_rates.specs.Rates.{symbol_bits, octet_chips}
use Rattle.rules_chips.specs.Chips.{Taken, hard_recording}
use Rattle.rules_bits.specs.Bits.{octets_of}
use Rattle.rules_bits.specs.Growths.{heard, growths_of, last_heard}
use Rattle.rules_bits.specs.Scrambler.{descramble}
use Rattle.rules_bits.specs.Code.{past_of, past_after}
use Rattle.rules_frame.specs.declared.Kind.{Kind}
use Rattle.rules_frame.specs.Frame.{start, header_rate, front_chips, preamble_length, preamble_chips}
use Rattle.rules_calls.specs.declared.Least.{Least}
use Rattle.rules_reading.specs.Reading.{
  first_unusable,
  odd_growth,
  decided_words,
  preamble_words,
  reference,
  header_phase,
  payload_phase,
  front_heard,
}
use Rattle.rules_reading.specs.Leads.{lead_at, decided_leads, front_leads, least_from, least_of}
use Rattle.rules_receiving.specs.declared.Ear.{Ear}
use Rattle.rules_receiving.specs.Yet.{zeros, whole_symbols, whole_octets}

-- a section: its rate, the place of its first chip, the number of its first symbol in the frame, the phase that this grows
-- from, the bits received before it, and the smallest lead before it
pub record Section : Type 0 where
  pub rate : Rate
  pub from : ℕ
  pub first : ℕ
  pub phase : ℕ
  pub before : List ℕ
  pub least : Least

-- the preamble's bits as they were received
abbrev pub preamble_heard : Kind → List Taken → List ℕ
preamble_heard k rec = heard One 0 (reference k rec) (preamble_words k rec)

-- the three sections of a frame that is recorded
abbrev pub preamble_section : Kind → List Taken → Section
preamble_section k rec =
    record {
      rate = One;
      from = 0;
      first = 0;
      phase = reference k rec;
      before = [];
      least = lead_at (get_or (decided_leads One 1 rec) 0 0) 0;
    }

abbrev pub header_section : Kind → List Taken → Section
header_section k rec =
    record {
      rate = header_rate k;
      from = preamble_chips k;
      first = preamble_chips k / 11;
      phase = header_phase k rec;
      before = preamble_heard k rec;
      least = least_of (decided_leads One (preamble_length k) rec);
    }

abbrev pub payload_section : Kind → Rate → List Taken → Section
payload_section k r rec =
    record {
      rate = r;
      from = front_chips k;
      first = front_chips k / 11;
      phase = payload_phase k rec;
      before = front_heard k rec;
      least = least_of (front_leads k rec);
    }

module _ (p : Section) (rec : List Taken) where
  -- the words of its first m octets, and the bits received up to their end
  abbrev pub words_to : ℕ → List ℕ
  words_to m = decided_words p.rate (8 * m / symbol_bits p.rate) (drop p.from rec)

  abbrev pub heard_to : ℕ → List ℕ
  heard_to m = p.before ++ heard p.rate 0 p.phase (words_to m)

  -- the smallest lead up to their end
  abbrev pub least_to : ℕ → Least
  least_to m =
      least_from p.first p.least (decided_leads p.rate (8 * m / symbol_bits p.rate) (drop p.from rec))

  -- the octets, unscrambled
  abbrev pub octets_to : Kind → ℕ → List ℕ
  octets_to k m = octets_of m (drop (length p.before) (descramble (start k) (heard_to m)))

  -- the words of all symbols that are whole
  abbrev pub words_yet : List ℕ
  words_yet = decided_words p.rate (whole_symbols p.rate p.from rec) (drop p.from rec)

  -- 9 and 10 of what has come
  abbrev pub section_unusable : Option ℕ
  section_unusable = first_unusable p.from (drop p.from rec)

  unfoldable pub section_odd : Option ℕ
  section_odd = odd_growth p.rate p.from (growths_of p.rate p.phase words_yet)

  abbrev pub octets_done : ℕ
  octets_done = whole_octets p.rate p.from rec

  -- the place behind its last whole octet
  abbrev pub octet_end : ℕ
  octet_end = p.from + octet_chips p.rate * octets_done

-- a section that goes on: the whole octets are heard, the chips of the next are held
pub record GoesOn (k : Kind) (p : Section) (fed : List ℕ) (e : Ear) (hold out : List ℕ) : Type 0 where
  pub at_phase : e.phase
      ≡ last_heard p.rate p.phase (words_to p (hard_recording fed) (octets_done p (hard_recording fed)))
  pub behind : take 7 (past_of e.past)
      ≡ take 7 (past_after (start k) (heard_to p (hard_recording fed) (octets_done p (hard_recording fed))))
  pub least : lead_at e.lead e.symbol ≡ least_to p (hard_recording fed) (octets_done p (hard_recording fed))
  pub octets : out ≡ octets_to p (hard_recording fed) k (octets_done p (hard_recording fed))
      ++ zeros (length out - octets_done p (hard_recording fed))
  pub held : take (length fed - octet_end p (hard_recording fed)) hold ≡ drop (octet_end p (hard_recording fed)) fed
  pub last_is : p.rate ≡ One → e.last ≡ last_heard One p.phase (words_yet p (hard_recording fed))

-- a section of which chips have come: 9, 10, or it goes on
pub record SectionIs (k : Kind) (p : Section) (fed : List ℕ) (bad odd : Option ℕ) (e : Ear) (hold out : List ℕ) : Type 0
  where
    pub bad_is : bad ≡ section_unusable p (hard_recording fed)
    pub odd_is : bad ≡ None → odd ≡ section_odd p (hard_recording fed)
    pub goes : bad ≡ None → odd ≡ None → GoesOn k p fed e hold out
