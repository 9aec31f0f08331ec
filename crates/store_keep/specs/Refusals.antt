-- The refusals of a store's calls as numbers (RULES 6.4), and as the code answers them. Definitions only. Assumes
-- nothing.
-- working notion: of the code that keeps a store; promises are over the numbers
use Rattle.std.specs.Prelude.{ℕ, ◌≡◌, true, false, ◌&&◌, eqb, List, Option, Some, None, Result, Ok, Err, cond, not}
use Rattle.rules_store.specs.declared.Entry.{Entry}
use Rattle.rules_store.specs.Store.{body_of, complete, single}
use Rattle.store_keep.specs.declared.refusal.StoreRefusal.{StoreRefusal}
use Rattle.store_keep.specs.declared.refusal.StoreRefusal.TheVariants.{
  ShortTable,
  ManyEntries,
  TagsFall,
  NotLaid,
  HighTag,
  Lacking,
  NotSingle,
  NotAllowed,
  NoRoom,
  NoSuchTag,
}

abbrev pub number_of : StoreRefusal → ℕ
number_of ShortTable = 21
number_of ManyEntries = 22
number_of TagsFall = 23
number_of NotLaid = 24
number_of HighTag = 25
number_of Lacking = 26
number_of NotSingle = 27
number_of NotAllowed = 28
number_of NoRoom = 29
number_of NoSuchTag = 30

-- the answer of a call that tells nothing else
abbrev pub number_shown : Result (Unit {0}) StoreRefusal → ℕ
number_shown (Ok x) = 0
number_shown (Err e) = number_of e

-- the entries of the three settings, where all are there: where the first body stands, whatever the sizes, and whether
-- each body has one octet
abbrev pub ThreeEntries : List Entry → Option (Entry × Entry × Entry) → Type 0
ThreeEntries es None = complete es ≡ false
ThreeEntries es (Some t) =
    (complete es ≡ true) × (t.0.offset ≡ (body_of 1 es).offset)
    × ((eqb t.0.size 1 && eqb t.1.size 1 && eqb t.2.size 1) ≡ single es)

-- where the first of the three settings stands; 26 and 27
abbrev pub first_of : List Entry → Result ℕ StoreRefusal
first_of es =
    cond (not (complete es)) (Err Lacking) (cond (not (single es)) (Err NotSingle) (Ok (body_of 1 es).offset))
