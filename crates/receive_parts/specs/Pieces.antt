-- What a piece of a batch makes of a part that goes on. Definitions only. Assumes nothing.
-- working notion: of the code that hears a part as it comes; no promise needs it
use Rattle.std.specs.Prelude.{◌≡◌, List, ◌++◌, ℕ, ◌+◌, ◌-◌, ◌*◌, ◌/◌, ◌%◌, ◌≤◌, ◌<◌, length, get_or, take, drop, Option, None, Some}
use Rattle.rules_rates.specs.declared.Rate.{Rate}
use Rattle.rules_rates.specs.declared.Rate.TheVariants.{One}
use Rattle.rules_rates.specs.Rates.{symbol_chips, symbol_bits, octet_chips}
use Rattle.rules_chips.specs.Chips.{hard_recording}
use Rattle.rules_bits.specs.Bits.{octets_of}
use Rattle.rules_bits.specs.Growths.{heard, growths_of, last_heard}
use Rattle.rules_bits.specs.Scrambler.{descramble}
use Rattle.rules_bits.specs.Code.{past_of, past_after}
use Rattle.rules_frame.specs.declared.Kind.{Kind}
use Rattle.rules_reading.specs.Reading.{first_unusable, odd_growth, decided_words}
use Rattle.rules_reading.specs.Leads.{lead_at, decided_leads, least_from}
use Rattle.rules_receiving.specs.declared.Ear.{Ear}
use Rattle.rules_receiving.specs.Sections.{Section, section_unusable, section_odd, GoesOn, SectionIs}
use Rattle.receive_parts.specs.declared.Piece.{Piece}
use Rattle.receive_parts.specs.declared.Grown.{Grown}
use Rattle.receive_parts.specs.declared.Taking.{Taking}

-- a place, if there is one, is one of a frame
abbrev pub PlaceBelow : Option ℕ → Type 0
PlaceBelow None = Unit {0}
PlaceBelow (Some place) = place < 1000000

-- a place found in a row whose first chip is chip `at` of the recording, as a place of the recording
abbrev pub moved : ℕ → Option ℕ → Option ℕ
moved at None = None
moved at (Some place) = Some (at + place)

abbrev pub MovedBelow : ℕ → Option ℕ → Type 0
MovedBelow at None = Unit {0}
MovedBelow at (Some place) = at + place < 1000000

-- none of the first k octets of a row is above a number
abbrev pub NoneAbove : ℕ → List ℕ → ℕ → Type 0
NoneAbove most row k = (j : ℕ) → j < k → get_or row j 0 ≤ most

-- the words of w whole octets of a row
abbrev pub row_words : Rate → ℕ → List ℕ → List ℕ
row_words r w row = decided_words r (8 * w / symbol_bits r) (hard_recording row)

-- w whole octets heard, from a row whose first chip is chip `at` of the recording and whose first symbol is number
-- `symbol` of the frame
pub record WholeHeard (r : Rate) (at symbol : ℕ) (e : Ear) (row : List ℕ) (w : ℕ) (x : Piece) (out : List ℕ) : Type 0
  where
    pub bad_is : x.bad ≡ first_unusable at (hard_recording row)
    pub odd_is : x.bad ≡ None → x.odd ≡ odd_growth r at (growths_of r e.phase (row_words r w row))
    pub past : x.bad ≡ None → past_of x.ear.past
        ≡ take 8 (past_after (past_of e.past) (heard r symbol e.phase (row_words r w row)))
    pub phase : x.bad ≡ None → x.ear.phase ≡ last_heard r e.phase (row_words r w row)
    pub last : x.bad ≡ None → x.ear.last ≡ x.ear.phase
    pub least : x.bad ≡ None → lead_at x.ear.lead x.ear.symbol
        ≡ least_from symbol (lead_at e.lead e.symbol) (decided_leads r (8 * w / symbol_bits r) (hard_recording row))
    pub octets : x.bad ≡ None
        → out ≡ octets_of w (descramble (past_of e.past) (heard r symbol e.phase (row_words r w row)))
    pub small : x.ear.phase < 4
    pub last_small : x.ear.last < 4
    pub bad_few : PlaceBelow x.bad
    pub odd_few : PlaceBelow x.odd

-- the words of a row's whole symbols, but for those that were whole when it had h chips
abbrev pub new_words : Rate → ℕ → List ℕ → List ℕ
new_words r h row =
    decided_words r (length row / symbol_chips r - h / symbol_chips r)
    (drop (symbol_chips r * (h / symbol_chips r)) (hard_recording row))

-- they are looked at, at 1 Mbit/s; the symbol before them has phase `last`
pub record Looked (at h : ℕ) (row : List ℕ) (last : ℕ) (x : Grown) : Type 0 where
  pub odd_is : x.odd ≡ odd_growth One (at + 11 * (h / 11)) (growths_of One last (new_words One h row))
  pub last_is : x.odd ≡ None → x.last ≡ last_heard One last (new_words One h row)
  pub small : x.last < 4
  pub odd_few : PlaceBelow x.odd

-- a part of an octet is held, of which h chips were held before
pub record PartHeld (r : Rate) (at : ℕ) (e : Ear) (h : ℕ) (row : List ℕ) (x : Piece) : Type 0 where
  pub bad_is : x.bad ≡ first_unusable at (hard_recording row)
  pub odd_is : x.bad ≡ None → x.odd
      ≡ odd_growth r (at + symbol_chips r * (h / symbol_chips r)) (growths_of r e.last (new_words r h row))
  pub past : x.ear.past ≡ e.past
  pub phase : x.ear.phase ≡ e.phase
  pub lead : x.ear.lead ≡ e.lead
  pub symbol : x.ear.symbol ≡ e.symbol
  pub last_is : x.bad ≡ None → x.odd ≡ None → r ≡ One → x.ear.last ≡ last_heard One e.last (new_words r h row)
  pub last_small : x.ear.last < 4
  pub bad_few : PlaceBelow x.bad
  pub odd_few : PlaceBelow x.odd

-- a piece is put behind h chips that are held, and their octet is heard if it is whole then
pub record Joins (r : Rate) (at symbol : ℕ) (e : Ear) (h : ℕ) (hold piece octet : List ℕ) (x : Piece)
    (hold' octet' : List ℕ) : Type 0 where
  pub hold_is : hold' ≡ take h hold ++ (piece ++ drop (h + length piece) hold)
  pub whole : h + length piece ≡ octet_chips r → WholeHeard r at symbol e (take h hold ++ piece) 1 x octet'
  pub held : h + length piece < octet_chips r
      → PartHeld r at e h (take h hold ++ piece) x × (octet' ≡ octet) × (x.ear.phase ≡ e.phase)

-- w octets are heard at once, behind m of n octets and h chips, from so many chips; 0 where the next is joined
pub record WholeCount (r : Rate) (m h n len w : ℕ) : Type 0 where
  pub within : m + w ≤ n
  pub there : octet_chips r * w ≤ len
  pub edge : 0 < w → h ≡ 0

-- what a part with nothing refused yet becomes by a piece, for every part of this rate, place and first symbol, of
-- which so many chips have come
abbrev pub Becomes : Rate → ℕ → ℕ → ℕ → Ear → List ℕ → List ℕ → List ℕ → Piece → List ℕ → List ℕ → Type 0
Becomes r from first count e hold out piece x hold' out' =
    (k : Kind) (p : Section) (fed : List ℕ) → p.rate ≡ r → p.from ≡ from → p.first ≡ first → first % 2 ≡ 0
    → length fed ≡ count → section_unusable p (hard_recording fed) ≡ None → section_odd p (hard_recording fed) ≡ None
    → GoesOn k p fed e hold out
    → SectionIs k p (fed ++ piece) x.bad x.odd x.ear hold' out'

-- some of the chips left are taken, at least one if there are any, none behind the part's n octets
pub record Takes (r : Rate) (from first n count : ℕ) (e : Ear) (hold rest out : List ℕ) (t : Taking)
    (hold' out' : List ℕ) : Type 0 where
  pub some_taken : 0 < length rest → 0 < t.taken
  pub most : t.taken ≤ length rest
  pub within : count + t.taken ≤ from + octet_chips r * n
  pub becomes : Becomes r from first count e hold out (take t.taken rest) t.piece hold' out'
  pub small : t.piece.ear.phase < 4
  pub last_small : t.piece.ear.last < 4
  pub bad_few : PlaceBelow t.piece.bad
  pub odd_few : PlaceBelow t.piece.odd
  pub hold_long : length hold' ≡ length hold
  pub out_long : length out' ≡ length out
