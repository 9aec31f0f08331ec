-- How much damage a frame stands (RULES 3.10, 6.28), in plain numbers: where its symbols are, how many of a symbol's
-- chips are wrong and how many lost, and the limit that each keeps. Promises speak of these; proofs/ joins them to
-- Damage.antt.
-- Definitions only. Assumes nothing.
use Rattle.std.specs.Prelude.{ℕ, suc, ◌+◌, ◌*◌, ◌≤◌, ◌<◌, ◌≡◌, List, map, length, get_or}
use Rattle.base.specs.Below.{Below}
use Rattle.base.specs.SoMany.{SoMany}
use Rattle.rules_rates.specs.Rates.{rate_of}
use Rattle.rules_chips.specs.Chips.{taken_counts, hard_recording}
use Rattle.rules_symbols.specs.Words.{word_of}
use Rattle.rules_symbols.specs.Choice.{decided}

-- ---- the symbols of a frame

-- a long front has 192 symbols of 11 chips, a short one 96
pub data FrontSymbols : ℕ → ℕ → Type 0 where
  of_long : FrontSymbols 0 192
  of_short : FrontSymbols 1 96

-- by its rate code: the symbols of an octet, the chips of a symbol, and its limit, which is 10 for Barker symbols and 3
-- for CCK symbols
pub data PayloadSymbols : ℕ → ℕ → ℕ → ℕ → Type 0 where
  at_10 : PayloadSymbols 10 8 11 10
  at_20 : PayloadSymbols 20 4 11 10
  at_55 : PayloadSymbols 55 2 8 3
  at_110 : PayloadSymbols 110 1 8 3

-- of a frame of n octets: symbol s, counted from 0 at the frame's first, with the place of its first chip, its chips
-- and its limit. A front's symbols are Barker symbols. With n = 0 there are the symbols of the front alone
pub data SymbolAt (kind rate n : ℕ) : ℕ → ℕ → ℕ → ℕ → Type 0 where
  in_front : (f s : ℕ) → FrontSymbols kind f → s < f → SymbolAt kind rate n s (11 * s) 11 10
  in_payload : (f each chips limit j : ℕ) → FrontSymbols kind f → PayloadSymbols rate each chips limit → j < each * n
      → SymbolAt kind rate n (f + j) (11 * f + chips * j) chips limit

-- a symbol that has the chip at place i
pub record HasChip (kind rate n i s at chips limit : ℕ) : Type 0 where
  pub symbol : SymbolAt kind rate n s at chips limit
  pub from : at ≤ i
  pub to : i < at + chips

pub record SomeSymbol (kind rate n i : ℕ) : Type 0 where
  pub s : ℕ
  pub at : ℕ
  pub chips : ℕ
  pub limit : ℕ
  pub has : HasChip kind rate n i s at chips limit

-- ---- wrong and lost chips

-- the chip at place i is wrong, recorded as another phase than the one sent; it is lost, recorded as a 4
abbrev pub WrongAt : List ℕ → List ℕ → ℕ → Type 0
WrongAt sent rec i = (get_or rec i 0 < 4) × (get_or rec i 0 ≡ get_or sent i 0 → ⊥)

abbrev pub LostAt : List ℕ → ℕ → Type 0
LostAt rec i = get_or rec i 0 ≡ 4

-- ---- what a symbol and a frame stand

-- twice the wrong chips and the lost ones are at most the limit
abbrev pub KeepsLimit : ℕ → ℕ → ℕ → Type 0
KeepsLimit limit wrong lost = 2 * wrong + lost ≤ limit

-- the words that are sent at a rate, by their numbers: the four phases at 1 and 2 Mbit/s; at 5.5 Mbit/s those whose p2
-- is odd, whose p3 is 0 and whose p4 is even; at 11 Mbit/s all
pub data SentAs : ℕ → ℕ → Type 0 where
  phase_at_10 : (n : ℕ) → n < 4 → SentAs 10 n
  phase_at_20 : (n : ℕ) → n < 4 → SentAs 20 n
  word_at_55 : (p1 d2 d3 : ℕ) → p1 < 4 → d2 < 2 → d3 < 2 → SentAs 55 (64 * p1 + 16 * (2 * d2 + 1) + 2 * d3)
  word_at_110 : (n : ℕ) → n < 256 → SentAs 110 n

-- a payload's symbol, sent as word n at a rate and recorded as phases and 4s: its limit, and how many of its chips are
-- wrong and how many lost
pub record SymbolSpoiled (rate n : ℕ) (rec : List ℕ) (limit wrong lost : ℕ) : Type 0 where
  pub word : SentAs rate n
  pub each : ℕ
  pub chips : ℕ
  pub symbol : PayloadSymbols rate each chips limit
  pub all_there : length rec ≡ chips
  pub all_usable : Below 5 rec
  pub wrong_are : SoMany (WrongAt (word_of (rate_of rate) n) rec) 0 chips wrong
  pub lost_are : SoMany (LostAt rec) 0 chips lost

-- such a symbol that is one past its limit and is decided as another word
pub record PastLimit (rate n : ℕ) (rec : List ℕ) (limit wrong lost other : ℕ) : Type 0 where
  pub spoiled : SymbolSpoiled rate n rec limit wrong lost
  pub past : KeepsLimit limit wrong lost → ⊥
  pub just : KeepsLimit (suc limit) wrong lost
  pub decided_as : decided (rate_of rate) (map taken_counts (hard_recording rec)) ≡ other
  pub another : other ≡ n → ⊥

-- every chip of a frame of n octets is recorded as a phase or as a 4, and every symbol keeps its limit
pub record FrameStands (kind rate n : ℕ) (sent rec : List ℕ) : Type 0 where
  pub same_length : length rec ≡ length sent
  pub usable : Below 5 rec
  pub each : (s at chips limit wrong lost : ℕ) → SymbolAt kind rate n s at chips limit
      → SoMany (WrongAt sent rec) at chips wrong → SoMany (LostAt rec) at chips lost → KeepsLimit limit wrong lost

-- a recording that stands, in which each symbol of the front has just `wrong` wrong and `lost` lost chips, and each of
-- the payload `wrong'` and `lost'`
pub record SpoiledBy (kind rate n : ℕ) (sent : List ℕ) (wrong lost wrong' lost' : ℕ) : Type 0 where
  pub rec : List ℕ
  pub stands : FrameStands kind rate n sent rec
  pub in_the_front : (f s at chips limit : ℕ) → FrontSymbols kind f → SymbolAt kind rate n s at chips limit → s < f
      → SoMany (WrongAt sent rec) at chips wrong × SoMany (LostAt rec) at chips lost
  pub in_the_payload : (f s at chips limit : ℕ) → FrontSymbols kind f → SymbolAt kind rate n s at chips limit → f ≤ s
      → SoMany (WrongAt sent rec) at chips wrong' × SoMany (LostAt rec) at chips lost'
