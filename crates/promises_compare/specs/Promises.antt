-- What is promised of the call that compares two recordings (RULES 6.29), beside the hard reader's own answers.
-- Statements speak of answers that the contracts allow (`Compares`: Calls.antt, `ReadHard` of promises), so they are
-- about the programs. A list is told by the places of its row (`Shows` of rules_compare).
-- Definitions only. Assumes nothing.
use Rattle.std.specs.Prelude.{ℕ, ◌*◌, ◌≤◌, ◌<◌, ◌≡◌, List, length, get_or, take}
use Rattle.rules_calls.specs.declared.Record.{Record}
use Rattle.rules_compare.specs.declared.Compared.{Compared}
use Rattle.rules_compare.specs.Plain.{ZerosFrom, Shows, Exchanged, ShowsPayloads}
use Rattle.promises.specs.Calls.{ReadHard}
use Rattle.promises_compare.specs.Calls.{Compares}

-- promise: Both records are those of the hard reader, each of its own recording under the same kind and with its own
-- room, and each octet buffer is what that read leaves: a refused one has only zeros, whatever the other is
-- rule: 6.29, 6.8, 6.9
-- code: dsss_compare, dsss_read_hard_3
abbrev pub ComparedReads : Type 0
ComparedReads =
    (kind : ℕ) (a b : List ℕ) (places places' room room' : ℕ) (c : Compared) (chips octets first second : List ℕ)
    → Compares kind a b places places' room room' c chips octets first second
    → ((r : Record) (left : List ℕ) → ReadHard kind a room r left → (c.a ≡ r) × (first ≡ left))
    × ((r : Record) (left : List ℕ) → ReadHard kind b room' r left → (c.b ≡ r) × (second ≡ left))

-- promise: Each list in plain numbers: the number of entries is that of the indexes that differ, as far as the shorter
-- goes, whether they fit or not; a list that fits, three places an entry, has each such index once, rising, with both
-- octets, and zeros behind it; one that does not fit leaves zeros. Chips are compared whatever the readings are, octets
-- where both are accepted. Nothing else is allowed
-- rule: 6.29
-- code: dsss_compare, compare_rows::list
-- with: ShowsPayloads, rules_compare/Shows
abbrev pub ComparedShows : Type 0
ComparedShows =
    (kind : ℕ) (a b : List ℕ) (places places' room room' : ℕ) (c : Compared) (chips octets first second : List ℕ)
    → Compares kind a b places places' room room' c chips octets first second
    → Shows a b places c.chips chips
    × ShowsPayloads places' c octets first second
    × ((entries : ℕ) (row : List ℕ) → Shows a b places entries row → (entries ≡ c.chips) × (row ≡ chips))
    × (c.a.number ≡ 0 → c.b.number ≡ 0 → (entries : ℕ) (row : List ℕ)
    → Shows (take c.a.n first) (take c.b.n second) places' entries row
    → (entries ≡ c.octets) × (row ≡ octets))

-- promise: Rows that always hold their list: of chips with three places for each chip of either recording, of octets
-- with 12,285 places, or three for each octet of room for either payload
-- rule: 6.29
-- code: dsss_compare
abbrev pub ComparedFits : Type 0
ComparedFits =
    (kind : ℕ) (a b : List ℕ) (places places' room room' : ℕ) (c : Compared) (chips octets first second : List ℕ)
    → Compares kind a b places places' room room' c chips octets first second
    → (c.chips ≤ length a) × (c.chips ≤ length b)
    × (c.octets ≤ 4095) × (c.octets ≤ room) × (c.octets ≤ room')

-- promise: A recording compared with itself has no difference, in chips or octets, whatever rows and rooms are lent:
-- both rows are zeros
-- rule: 6.29
-- code: dsss_compare
abbrev pub ComparedItself : Type 0
ComparedItself =
    (kind : ℕ) (a : List ℕ) (places places' room room' : ℕ) (c : Compared) (chips octets first second : List ℕ)
    → Compares kind a a places places' room room' c chips octets first second
    → (c.chips ≡ 0) × (c.octets ≡ 0) × ZerosFrom chips 0 × ZerosFrom octets 0

-- promise: Recordings exchanged, with their rooms: the records and the buffers are exchanged, there are as many entries
-- of each list, and the rows are the same with both octets of every entry exchanged
-- rule: 6.29
-- code: dsss_compare
-- with: Exchanged
abbrev pub ComparedExchanged : Type 0
ComparedExchanged =
    (kind : ℕ) (a b : List ℕ) (places places' room room' : ℕ) (c d : Compared)
    (chips octets first second chips' octets' first' second' : List ℕ)
    → Compares kind a b places places' room room' c chips octets first second
    → Compares kind b a places places' room' room d chips' octets' first' second'
    → (d.a ≡ c.b) × (d.b ≡ c.a) × (d.chips ≡ c.chips) × (d.octets ≡ c.octets)
    × (d.n_a ≡ c.n_b) × (d.n_b ≡ c.n_a) × (first' ≡ second) × (second' ≡ first)
    × ((k : ℕ) → Exchanged chips chips' k) × ((k : ℕ) → Exchanged octets octets' k)

-- promise: Equal lists and one recording give the other, as far as all go: where two comparisons have the same first
-- recording and the same list of chips, which fits, the second recordings are alike; and the first ones where the
-- second is the same
-- rule: 6.29
-- code: dsss_compare
abbrev pub ComparedGives : Type 0
ComparedGives =
    (kind kind' : ℕ) (a a' b b' : List ℕ) (places places' room room' more more' held held' : ℕ) (c d : Compared)
    (chips octets first second chips' octets' first' second' : List ℕ)
    → Compares kind a b places places' room room' c chips octets first second
    → Compares kind' a' b' more more' held held' d chips' octets' first' second'
    → c.chips ≡ d.chips → 3 * c.chips ≤ places
    → take (3 * c.chips) chips ≡ take (3 * c.chips) chips'
    → (a ≡ a' → (i : ℕ) → i < length a → i < length b → i < length b' → get_or b i 0 ≡ get_or b' i 0)
    × (b ≡ b' → (i : ℕ) → i < length b → i < length a → i < length a' → get_or a i 0 ≡ get_or a' i 0)

-- promise: The contract of the call that compares allows exactly one answer for each input, and one of each row
-- rule: 9.2
-- code: dsss_compare
-- no test: a run shows one answer, not that no other is allowed
abbrev pub OneComparison : Type 0
OneComparison =
    (kind : ℕ) (a b : List ℕ) (places places' room room' : ℕ) (c d : Compared)
    (chips octets first second chips' octets' first' second' : List ℕ)
    → Compares kind a b places places' room room' c chips octets first second
    → Compares kind a b places places' room room' d chips' octets' first' second'
    → (c ≡ d) × (chips ≡ chips') × (octets ≡ octets') × (first ≡ first') × (second ≡ second')

-- ---- all of it
pub record ComparePromised : Type 0 where
  pub compared_reads : ComparedReads
  pub compared_shows : ComparedShows
  pub compared_fits : ComparedFits
  pub compared_itself : ComparedItself
  pub compared_exchanged : ComparedExchanged
  pub compared_gives : ComparedGives
  pub one_comparison : OneComparison
