-- What a list of differences and its row are (RULES 6.29), in plain numbers: by the places of the row. Promises speak
-- of these; proofs/ joins them to Differences.antt.
-- Definitions only. Assumes nothing.
use Rattle.std.specs.Prelude.{ℕ, ◌+◌, ◌*◌, ◌≤◌, ◌<◌, ◌≡◌, List, ◌⊎◌, length, get_or, take}
use Rattle.base.specs.SoMany.{SoMany}
use Rattle.rules_compare.specs.declared.Compared.{Compared}

-- both rows go as far as index i, and differ there
pub record DifferAt (xs ys : List ℕ) (i : ℕ) : Type 0 where
  pub first_goes : i < length xs
  pub second_goes : i < length ys
  pub differ : get_or xs i 0 ≡ get_or ys i 0 → ⊥

-- entry k of a row is that of index i: the rows differ there, and what each has there stands behind the index
pub record EntryIs (xs ys row : List ℕ) (k i : ℕ) : Type 0 where
  pub differ_at : DifferAt xs ys i
  pub index_is : get_or row (3 * k) 0 ≡ i
  pub first_is : get_or row (3 * k + 1) 0 ≡ get_or xs i 0
  pub second_is : get_or row (3 * k + 2) 0 ≡ get_or ys i 0

-- some entry of a row is that of index i
pub record Listed (xs ys row : List ℕ) (entries i : ℕ) : Type 0 where
  pub entry : ℕ
  pub among : entry < entries
  pub is : EntryIs xs ys row entry i

-- a row's first entries are all indexes at which two rows differ, rising
pub record Lists (xs ys row : List ℕ) (entries : ℕ) : Type 0 where
  pub each : (k : ℕ) → k < entries → EntryIs xs ys row k (get_or row (3 * k) 0)
  pub all : (i : ℕ) → DifferAt xs ys i → Listed xs ys row entries i
  pub rising : (j k : ℕ) → j < k → k < entries → get_or row (3 * j) 0 < get_or row (3 * k) 0

-- from a place on a row has only zeros
abbrev pub ZerosFrom : List ℕ → ℕ → Type 0
ZerosFrom row at = (p : ℕ) → at ≤ p → get_or row p 0 ≡ 0

-- what comparing two rows answers and leaves: how many indexes differ, and a row of so many places, which has the list
-- and then zeros if three places an entry are at most the row's places, and else only zeros
pub record Shows (xs ys : List ℕ) (places entries : ℕ) (row : List ℕ) : Type 0 where
  pub exact : SoMany (DifferAt xs ys) 0 (length xs) entries
  pub whole : length row ≡ places
  pub fits : 3 * entries ≤ places → Lists xs ys row entries × ZerosFrom row (3 * entries)
  pub no_room : places < 3 * entries → ZerosFrom row 0

-- entry k of two rows: one index, and octets exchanged
abbrev pub Exchanged : List ℕ → List ℕ → ℕ → Type 0
Exchanged row row' k =
    (get_or row' (3 * k) 0 ≡ get_or row (3 * k) 0)
    × (get_or row' (3 * k + 1) 0 ≡ get_or row (3 * k + 2) 0)
    × (get_or row' (3 * k + 2) 0 ≡ get_or row (3 * k + 1) 0)

-- the two payloads, by the records and the buffers: what is answered and left of them where both are accepted, and
-- where one is not
pub record ShowsPayloads (places : ℕ) (c : Compared) (octets first second : List ℕ) : Type 0 where
  pub both : c.a.number ≡ 0 → c.b.number ≡ 0
      → Shows (take c.a.n first) (take c.b.n second) places c.octets octets
      × (c.n_a ≡ c.a.n) × (c.n_b ≡ c.b.n)
  pub not_both : (c.a.number ≡ 0 → ⊥) ⊎ (c.b.number ≡ 0 → ⊥)
      → (c.octets ≡ 0) × (c.n_a ≡ 0) × (c.n_b ≡ 0) × (length octets ≡ places) × ZerosFrom octets 0
