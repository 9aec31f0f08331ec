-- What the three calls of a store promise: the records that their contracts in crate dsss cite, so that what is proved
-- of them is proved of the programs (RULES 6.25 to 6.27, 9.1).
-- Definitions only. Assumes nothing.
use Rattle.std.specs.Prelude.{ℕ, ◌≡◌, List}
use Rattle.rules_store.specs.declared.Settings.{Settings}
use Rattle.rules_store.specs.Store.{store_read, store_changed, change_left}
use Rattle.rules_store.specs.Pieces.{store_written, write_left}

-- a store written into room for so many octets: its answer, and what it leaves there
pub record StoreWrites (kind rate phase room number : ℕ) (left : List ℕ) : Type 0 where
  -- promise: A write of a store answers the definition's number, for every input
  -- rule: 6.26, 9.1
  -- code: dsss_store_write, store_keep::write
  pub answer : number ≡ store_written kind rate phase room
  -- promise: The octet buffer at the end is the store and then zeros; after a refusal only zeros
  -- rule: 6.24, 6.26, 9.1
  -- code: dsss_store_write, store_keep::write
  pub octets : left ≡ write_left kind rate phase room

-- a store read: its answer
pub record StoreReads (octets : List ℕ) (s : Settings) : Type 0 where
  -- promise: A read of a store answers the definition's record, for every row of octets
  -- rule: 6.24, 6.25, 9.1
  -- code: dsss_store_read, store_keep::read
  pub answer : s ≡ store_read octets

-- a setting of a store changed: its answer, and what it leaves
pub record StoreChanges (before : List ℕ) (tag value number : ℕ) (left : List ℕ) : Type 0 where
  -- promise: A change of a store answers the definition's number, for every store, tag and value
  -- rule: 6.27, 9.1
  -- code: dsss_store_change, store_keep::change
  pub answer : number ≡ store_changed before tag value
  -- promise: The store at the end differs in the octet of the body changed, or in none; after a refusal it is as it was
  -- rule: 6.27, 9.1
  -- code: dsss_store_change, store_keep::change
  pub octets : left ≡ change_left before tag value
