-- What is promised of frames that were written and whose chips were spoiled (RULES 3.10, 6.28): a wrong chip is another
-- phase, a lost one a 4, and every symbol keeps its limit (`FrameStands` of rules_damage, in plain numbers). Statements
-- about a read, the front alone, a search, a report and a comparison speak of answers that the contracts of the calls
-- allow (`Wrote`, `ReadHard`, `ReadFront`, `Finds`, `Adds`, `Compares`), so they are about the programs, and so is the
-- one about a guide of 1997 (Guides.antt); those about symbols and rows, of the definitions. Definitions only. Assumes
-- nothing.
use Rattle.std.specs.Prelude.{ℕ, suc, ◌+◌, ◌-◌, ◌*◌, ◌≤◌, ◌<◌, ◌≡◌, List, [], ◌∷◌, ◌++◌, map, length, get_or, take, replicate, pos, ◌≤ℤ◌}
use Rattle.base.specs.Below.{Below}
use Rattle.base.specs.SoMany.{SoMany}
use Rattle.rules_rates.specs.declared.Rate.TheVariants.{Eleven}
use Rattle.rules_rates.specs.Rates.{rate_of}
use Rattle.rules_rates.specs.Plain.{LengthOf}
use Rattle.rules_chips.specs.Chips.{taken_counts, hard_recording, full_chip}
use Rattle.rules_symbols.specs.Words.{cck_of}
use Rattle.rules_symbols.specs.Choice.{decided, lead_of}
use Rattle.rules_choosing.specs.Scores.{score_at}
use Rattle.rules_frame.specs.Frame.{kind_of}
use Rattle.rules_calls.specs.declared.Written.{Written}
use Rattle.rules_calls.specs.declared.Record.{Record}
use Rattle.rules_coming.specs.declared.Coming.{Coming}
use Rattle.rules_finding.specs.declared.Found.{Found}
use Rattle.rules_report.specs.declared.Report.{Report}
use Rattle.rules_report.specs.declared.Counted.{Counted}
use Rattle.rules_report.specs.Report.{Limits}
use Rattle.rules_report.specs.Shares.{FullRows, OneMore}
use Rattle.rules_compare.specs.declared.Compared.{Compared}
use Rattle.rules_compare.specs.Plain.{Shows}
use Rattle.rules_damage.specs.Damage.{frame_damage}
use Rattle.rules_damage.specs.Plain.{
  FrontSymbols,
  PayloadSymbols,
  SymbolAt,
  HasChip,
  SomeSymbol,
  WrongAt,
  LostAt,
  KeepsLimit,
  SymbolSpoiled,
  PastLimit,
  FrameStands,
  SpoiledBy,
}
use Rattle.promises.specs.Calls.{ReadHard, ReadFront, Handed, Finds, good, refused, shown, Goes, Sent}
use Rattle.promises.specs.Coming.{refused_coming, told_coming}
use Rattle.promises.specs.Finding.{start_found}
use Rattle.promises_report.specs.Calls.{Adds}
use Rattle.promises_compare.specs.Calls.{Compares}
use Rattle.promises_damage.specs.Guides.{Spoiled1997}

-- ---- a frame

-- promise: A frame that was written and recorded as phases and 4s, and whose symbols each keep their limit, is read
-- back by the hard reader under its kind, whatever follows it: with room number 0, rate, LENGTH, n, chips used, clock
-- bit and payload are those written, and the lead is at least one full chip; with less room 17 with LENGTH, and only
-- zeros
-- rule: 6.28, 3.10
-- code: dsss_write_2, dsss_read_hard_3
-- with: FrameStands, SymbolAt, SoMany, KeepsLimit
abbrev pub SpoiledReadBack : Type 0
SpoiledReadBack =
    (kind rate phase clock : ℕ) (payload : List ℕ) (w : Written) (chips : List ℕ)
    → Sent kind rate phase clock payload w chips → (l : ℕ) → LengthOf rate (length payload) l
    → (rec tail : List ℕ) → FrameStands kind rate (length payload) (take w.chips chips) rec
    → (room : ℕ) (a : Record) (left : List ℕ) → ReadHard kind (rec ++ tail) room a left
    → (length payload ≤ room
    → (a ≡ good rate l (length payload) w.chips (shown clock) a.lead a.symbol)
    × (1024 ≤ a.lead)
    × (left ≡ payload ++ replicate (room - length payload) 0))
    × (room < length payload → (a ≡ refused 17 l) × (left ≡ replicate room 0))

-- The next two are of a front alone, which is a frame of no octets.

-- promise: The front of a frame that was written, recorded as phases and 4s and its symbols each within their limit,
-- tells what is coming, whatever became of the payload's chips; with fewer chips behind it than the payload's, 16 with
-- LENGTH
-- rule: 6.28, 6.15
-- code: dsss_write_2, dsss_read_front, small_calls::part
abbrev pub SpoiledTold : Type 0
SpoiledTold =
    (kind rate phase clock : ℕ) (payload : List ℕ) (w : Written) (chips : List ℕ)
    (s : Sent kind rate phase clock payload w chips) (l : ℕ) → LengthOf rate (length payload) l
    → (rec tail : List ℕ) → FrameStands kind rate 0 (take s.sendable.front chips) rec
    → (c : Coming) → ReadFront kind (rec ++ tail) c
    → (s.sendable.octet * length payload ≤ length tail
    → (c
    ≡ told_coming rate l (shown clock) (length payload) s.sendable.front (s.sendable.octet * length payload))
    × ((part : List ℕ) → Handed c (rec ++ tail) part → part ≡ take (s.sendable.octet * length payload) tail))
    × (length tail < s.sendable.octet * length payload → c ≡ refused_coming 16 0 l)

-- promise: A frame that was written, its front recorded as phases and 4s and the symbols of it each within their limit,
-- is not missed by a search, whatever stands before or behind it and whatever became of its payload's chips: a start
-- is found where it starts or before, and if there, it is the frame's
-- rule: 6.28, 6.17
-- code: dsss_write_2, dsss_find
abbrev pub SpoiledFound : Type 0
SpoiledFound =
    (kind rate phase clock : ℕ) (payload : List ℕ) (w : Written) (chips : List ℕ)
    (s : Sent kind rate phase clock payload w chips) (l : ℕ) → LengthOf rate (length payload) l
    → (rec tail : List ℕ) → FrameStands kind rate 0 (take s.sendable.front chips) rec
    → (before : List ℕ) (offsets : ℕ) (f : Found) → length before < offsets → offsets ≤ 4096
    → Finds kind offsets (before ++ (rec ++ tail)) f
    → (f.number ≡ 0) × (f.offset ≤ length before)
    × (f.offset ≡ length before → f ≡ start_found (length before) rate l (shown clock) (length payload))

-- a report grew by one accepted frame of this kind, rate, LENGTH, n, chips and clock bit, its lead at least a full chip
pub record CountsAs (p : Report) (kind rate l n used clock : ℕ) (q : Report) : Type 0 where
  pub lead : ℕ
  pub symbol : ℕ
  pub clear : 1024 ≤ lead
  pub one_more : OneMore p (record { kind = kind; answer = good rate l n used clock lead symbol }) q

-- promise: A frame that was written and recorded as phases and 4s, and whose symbols each keep their limit, is counted
-- in any report that takes one recording more (6.19) as the frame that it was, whatever follows it
-- rule: 6.28, 6.19
-- code: dsss_write_2, dsss_report_add
-- with: CountsAs
abbrev pub SpoiledCounted : Type 0
SpoiledCounted =
    (kind rate phase clock : ℕ) (payload : List ℕ) (w : Written) (chips : List ℕ)
    → Sent kind rate phase clock payload w chips → (l : ℕ) → LengthOf rate (length payload) l
    → (rec tail : List ℕ) → FrameStands kind rate (length payload) (take w.chips chips) rec
    → (p : Report) (c : Counted) → Limits p → FullRows p → Adds p kind (rec ++ tail) c
    → (c.number ≡ 0) × CountsAs p kind rate l (length payload) w.chips (shown clock) c.report

-- promise: Two frames that were written under one kind, or one frame, each recorded as phases and 4s with every symbol
-- within its limit, whatever follows, and compared with room for both: both are accepted, the octets listed are those
-- at which the payloads handed to the writer differ, none where it is one frame, and the two numbers are their lengths
-- rule: 6.28, 6.29
-- code: dsss_write_2, dsss_compare
abbrev pub SpoiledCompared : Type 0
SpoiledCompared =
    (kind rate rate' phase phase' clock clock' : ℕ) (p q : List ℕ) (w v : Written) (sent sent' : List ℕ)
    → Sent kind rate phase clock p w sent → Sent kind rate' phase' clock' q v sent'
    → (rec rec' tail tail' : List ℕ) → FrameStands kind rate (length p) (take w.chips sent) rec
    → FrameStands kind rate' (length q) (take v.chips sent') rec'
    → (places places' room room' : ℕ) (c : Compared) (chips octets first second : List ℕ)
    → length p ≤ room → length q ≤ room'
    → Compares kind (rec ++ tail) (rec' ++ tail') places places' room room' c chips octets first second
    → Shows p q places' c.octets octets × (c.n_a ≡ length p) × (c.n_b ≡ length q)
    × (c.a.number ≡ 0) × (c.b.number ≡ 0)

-- ---- a symbol

-- promise: A symbol of a payload, sent as a word of its rate and recorded as phases and 4s, that keeps its limit is
-- decided as that word, with a lead of at least one full chip
-- rule: 3.10
-- code: dsss_read_hard_3
-- with: SymbolSpoiled
abbrev pub SymbolStands : Type 0
SymbolStands =
    (rate n : ℕ) (rec : List ℕ) (limit wrong lost : ℕ)
    → SymbolSpoiled rate n rec limit wrong lost → KeepsLimit limit wrong lost
    → (decided (rate_of rate) (map taken_counts (hard_recording rec)) ≡ n)
    × (1024 ≤ lead_of (rate_of rate) (map taken_counts (hard_recording rec)))

-- promise: No limit can be raised: at each rate there is a symbol one past it that is decided as another word, at 11
-- Mbit/s with four chips lost, at 5.5 Mbit/s with four lost or two wrong, at 1 and 2 Mbit/s with eleven lost or five
-- wrong and one lost
-- rule: 3.10
-- code: dsss_read_hard_3
-- with: PastLimit
pub record LimitsTight : Type 0 where
  pub eleven_lost : PastLimit 110 16 (4 ∷ 0 ∷ 4 ∷ 2 ∷ 4 ∷ 0 ∷ 4 ∷ 0 ∷ []) 3 0 4 0
  pub five_lost : PastLimit 55 18 (4 ∷ 4 ∷ 4 ∷ 4 ∷ 1 ∷ 0 ∷ 3 ∷ 0 ∷ []) 3 0 4 16
  pub five_wrong : PastLimit 55 18 (1 ∷ 0 ∷ 3 ∷ 0 ∷ 1 ∷ 0 ∷ 3 ∷ 0 ∷ []) 3 2 0 16
  pub two_lost : PastLimit 20 1 (replicate 11 4) 10 0 11 0
  pub two_wrong : PastLimit 20 1 (0 ∷ 2 ∷ 0 ∷ 0 ∷ 2 ∷ 4 ∷ 1 ∷ 1 ∷ 3 ∷ 3 ∷ 3 ∷ []) 10 5 1 0
  pub one_lost : PastLimit 10 1 (replicate 11 4) 10 0 11 0
  pub one_wrong : PastLimit 10 1 (0 ∷ 2 ∷ 0 ∷ 0 ∷ 2 ∷ 4 ∷ 1 ∷ 1 ∷ 3 ∷ 3 ∷ 3 ∷ []) 10 5 1 0

-- promise: On the clean chips of an 11 Mbit/s word no other word scores above 4 full chips
-- rule: 3.10
abbrev pub WordsApart : Type 0
WordsApart =
    (n w : ℕ) → n < 256 → w < 256 → (n ≡ w → ⊥)
    → score_at Eleven (map (full_chip 1024) (cck_of w)) n ≤ℤ pos (4 * 1024)

-- ---- the symbols of a frame, and the row of its damage

-- promise: Each chip of a frame is in exactly one symbol, which has one limit, and no symbol has a chip that is not the
-- frame's
-- rule: 3.10, 5.2, 5.4
-- with: SymbolAt, HasChip
abbrev pub InOneSymbol : Type 0
InOneSymbol =
    (kind rate front octet n i : ℕ) → Goes kind rate front octet
    → (i < front + octet * n → SomeSymbol kind rate n i)
    × ((s at chips limit s' at' chips' limit' : ℕ) → HasChip kind rate n i s at chips limit
    → HasChip kind rate n i s' at' chips' limit'
    → (s ≡ s') × (at ≡ at') × (chips ≡ chips') × (limit ≡ limit'))
    × ((s at chips limit : ℕ) → HasChip kind rate n i s at chips limit → i < front + octet * n)

-- promise: The row of a frame's damage has two numbers for each symbol, in the order of the symbols: how many of its
-- chips are wrong, and how many are lost. A frame recorded as phases and 4s whose row keeps every limit stands
-- rule: 6.28
-- with: SoMany
abbrev pub DamageRow : Type 0
DamageRow =
    (kind rate front octet n : ℕ) → Goes kind rate front octet → (sent rec : List ℕ)
    → front + octet * n ≤ length sent → front + octet * n ≤ length rec
    → ((f each chips limit : ℕ) → FrontSymbols kind f → PayloadSymbols rate each chips limit
    → length (frame_damage (kind_of kind) (rate_of rate) n sent rec) ≡ 2 * (f + each * n))
    × ((s at chips limit : ℕ) → SymbolAt kind rate n s at chips limit
    → SoMany (WrongAt sent rec) at chips (get_or (frame_damage (kind_of kind) (rate_of rate) n sent rec) (2 * s) 0)
    × SoMany (LostAt rec) at chips (get_or (frame_damage (kind_of kind) (rate_of rate) n sent rec) (suc (2 * s)) 0))
    × (length rec ≡ length sent → Below 5 rec
    → ((s at chips limit : ℕ) → SymbolAt kind rate n s at chips limit
    → KeepsLimit limit (get_or (frame_damage (kind_of kind) (rate_of rate) n sent rec) (2 * s) 0)
    (get_or (frame_damage (kind_of kind) (rate_of rate) n sent rec) (suc (2 * s)) 0))
    → FrameStands kind rate n sent rec)

-- promise: Every damage that the limits allow occurs: for any phases as long as a frame, and any two pairs of numbers
-- that keep the limits, there is a recording in which each symbol of the front has just the first pair of wrong and
-- lost chips, and each symbol of the payload the second
-- rule: 3.10
-- with: SpoiledBy
abbrev pub AnyDamage : Type 0
AnyDamage =
    (kind rate front octet n each chips limit : ℕ) → Goes kind rate front octet
    → PayloadSymbols rate each chips limit → (sent : List ℕ) → Below 4 sent → length sent ≡ front + octet * n
    → (wrong lost wrong' lost' : ℕ) → KeepsLimit 10 wrong lost → KeepsLimit limit wrong' lost'
    → SpoiledBy kind rate n sent wrong lost wrong' lost'

-- ---- all of it
pub record DamagePromised : Type 0 where
  pub spoiled_read_back : SpoiledReadBack
  pub spoiled_told : SpoiledTold
  pub spoiled_found : SpoiledFound
  pub spoiled_counted : SpoiledCounted
  pub spoiled_compared : SpoiledCompared
  pub spoiled_1997 : Spoiled1997
  pub symbol_stands : SymbolStands
  pub limits_tight : LimitsTight
  pub words_apart : WordsApart
  pub in_one_symbol : InOneSymbol
  pub damage_row : DamageRow
  pub any_damage : AnyDamage
