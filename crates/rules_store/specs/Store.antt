-- The store of a table's radio settings (RULES 6.24, 6.25, 6.27): entries as a list made from the octets, each refusal
-- a test over that list, the order as one chain; what a change answers and leaves.
-- Definitions only. Assumes nothing.
use Rattle.std.specs.Prelude.{ℕ, zero, suc, ◌+◌, ◌*◌, Bool, true, false, cond, not, ◌&&◌, List, [], ◌∷◌, length, get_or, drop, set, eqb, ltb, leb}
use Rattle.rules_rates.specs.Rates.{is_code, rate_of}
use Rattle.rules_frame.specs.Frame.{is_kind, kind_of, goes_with, is_phase}
use Rattle.rules_store.specs.declared.Entry.{Entry}
use Rattle.rules_store.specs.declared.Settings.{Settings}

-- ---- entries

-- four octets: the tag, the offset of its body with the low octet first, the body's length
abbrev pub entry_of : List ℕ → Entry
entry_of l = record { tag = get_or l 0 0; offset = get_or l 1 0 + 256 * get_or l 2 0; size = get_or l 3 0 }

unfoldable pub entries_in : ℕ → List ℕ → List Entry
entries_in zero l = []
entries_in (suc n) l = entry_of l ∷ entries_in n (drop 4 l)

-- how many entries octet 1 says there are
abbrev pub count : List ℕ → ℕ
count octets = get_or octets 1 0

-- where the bodies start
abbrev pub table_end : ℕ → ℕ
table_end n = 2 + 4 * n

abbrev pub entries : List ℕ → List Entry
entries octets = entries_in (count octets) (drop 2 octets)

-- ---- the tests, one for each refusal

-- a store of fewer than 2 octets is shorter than any table's end
-- promise: the store is shorter than 2 octets, or than its table of contents
-- rule: 6.4 (21), 6.25
-- code: store_keep::read, store_keep::locate
abbrev pub tabled : List ℕ → Bool
tabled octets = leb (table_end (count octets)) (length octets)

-- promise: the store has more than 16 entries
-- rule: 6.4 (22), 6.24, 6.25
-- code: store_keep::read, store_keep::locate
abbrev pub few : List ℕ → Bool
few octets = leb (count octets) 16

-- tags that rise strictly, the first from `least` on
-- promise: the store's tags do not rise strictly
-- rule: 6.4 (23), 6.24, 6.25
-- code: store_keep::ask
unfoldable pub rising : ℕ → List Entry → Bool
rising least [] = true
rising least (e ∷ es) = leb least e.tag && rising (suc e.tag) es

-- bodies in this order from `at` on, with no gaps, up to the end
-- promise: an offset, a length or the end of the store is not as laid out
-- rule: 6.4 (24), 6.24, 6.25
-- code: store_keep::ask
unfoldable pub laid : ℕ → List Entry → ℕ → Bool
laid at [] end = eqb at end
laid at (e ∷ es) end = eqb e.offset at && laid (at + e.size) es end

-- every tag is below 128; an unknown one is then passed over
-- promise: the store has a tag of 128 or more
-- rule: 6.4 (25), 6.24, 6.25
-- code: store_keep::ask
unfoldable pub passable : List Entry → Bool
passable [] = true
passable (e ∷ es) = ltb e.tag 128 && passable es

-- where a body is, and how many octets it has
pub record Body : Type 0 where
  pub there : Bool
  pub offset : ℕ
  pub size : ℕ

-- the body of the first entry that has a tag; zeros of a tag that none has
unfoldable pub body_of : ℕ → List Entry → Body
body_of tag [] = record { there = false; offset = 0; size = 0 }
body_of tag (e ∷ es) =
    cond (eqb e.tag tag) (record { there = true; offset = e.offset; size = e.size }) (body_of tag es)

-- the three required are there
-- promise: the store lacks tag 1, 2 or 3
-- rule: 6.4 (26), 6.24, 6.25
-- code: store_keep::find_three
abbrev pub complete : List Entry → Bool
complete es = (body_of 1 es).there && (body_of 2 es).there && (body_of 3 es).there

-- one octet each
-- promise: the body of tag 1, 2 or 3 is not one octet
-- rule: 6.4 (27), 6.24, 6.25
-- code: store_keep::find_three
abbrev pub single : List Entry → Bool
single es = eqb (body_of 1 es).size 1 && eqb (body_of 2 es).size 1 && eqb (body_of 3 es).size 1

-- what refusals 1, 2, 3 and 5 of a write allow, the three together
-- promise: kind, rate code and starting phase, together, are not what 1, 2, 3 and 5 allow
-- rule: 6.4 (28), 6.24 to 6.27
-- code: store_keep::allowed, store_keep::stands
abbrev pub allowed_settings : ℕ → ℕ → ℕ → Bool
allowed_settings kind rate phase = is_kind kind && is_code rate && goes_with (kind_of kind) (rate_of rate) && is_phase phase

-- the octet where the body of a tag starts
abbrev pub value_of : ℕ → List ℕ → ℕ
value_of tag octets = get_or octets (body_of tag (entries octets)).offset 0

-- ---- reading

abbrev pub no_settings : ℕ → Settings
no_settings number = record { number = number; kind = 0; rate = 0; phase = 0 }

abbrev pub settings : ℕ → ℕ → ℕ → Settings
settings kind rate phase = record { number = 0; kind = kind; rate = rate; phase = phase }

-- 21 to 28, in this order
unfoldable pub store_read : List ℕ → Settings
store_read octets =
    cond (not (tabled octets)) (no_settings 21)
    (cond (not (few octets)) (no_settings 22)
    (cond (not (rising 0 (entries octets))) (no_settings 23)
    (cond (not (laid (table_end (count octets)) (entries octets) (length octets))) (no_settings 24)
    (cond (not (passable (entries octets))) (no_settings 25)
    (cond (not (complete (entries octets))) (no_settings 26)
    (cond (not (single (entries octets))) (no_settings 27)
    (cond (not (allowed_settings (value_of 1 octets) (value_of 2 octets) (value_of 3 octets))) (no_settings 28)
    (settings (value_of 1 octets) (value_of 2 octets) (value_of 3 octets)))))))))

-- ---- a change of one setting

-- the tags of the three settings
-- promise: the tag of a change is none of 1, 2 and 3
-- rule: 6.4 (30), 6.27
-- code: store_keep::change
abbrev pub is_setting : ℕ → Bool
is_setting tag = leb 1 tag && leb tag 3

-- settings with the one of a tag changed
abbrev pub changed : ℕ → ℕ → Settings → Settings
changed tag value s =
    record {
      number = s.number;
      kind = cond (eqb tag 1) value s.kind;
      rate = cond (eqb tag 2) value s.rate;
      phase = cond (eqb tag 3) value s.phase;
    }

abbrev pub allowed_in : Settings → Bool
allowed_in s = allowed_settings s.kind s.rate s.phase

-- as a read, then 30, then 28 for the settings as they would be
unfoldable pub store_changed : List ℕ → ℕ → ℕ → ℕ
store_changed octets tag value =
    cond (not (eqb (store_read octets).number 0)) (store_read octets).number
    (cond (not (is_setting tag)) 30
    (cond (not (allowed_in (changed tag value (store_read octets)))) 28
    0))

-- refused, the store stays as it was; else only the body's octet is another
unfoldable pub change_left : List ℕ → ℕ → ℕ → List ℕ
change_left octets tag value =
    cond (eqb (store_changed octets tag value) 0) (set octets (body_of tag (entries octets)).offset value) octets
