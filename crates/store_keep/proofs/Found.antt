-- Where the three settings of a store are found, once its entries have been asked.
-- Assumes nothing.
use mathlib.Core.Path.{◌≡◌, refl, sym, ap}
use mathlib.Core.Bool.{Bool, true, false, not, cond}
use mathlib.Core.List.{List}
use Prim.Native.Nat.{ℕ, ◌≤◌}
use native.Mathlib.Omega.{arith}
use lib.ListN.{length, drop}
use Rattle.std.specs.Prelude.{Result, Ok, Err}
use Rattle.rules_store.specs.declared.Entry.{Entry}
use Rattle.rules_store.specs.Store.{entries_in, count, table_end, body_of, complete, single, no_settings}
use Rattle.rules_store.proofs.Places.{never}
use Rattle.rules_store.proofs.OnePass.{asked}
use Rattle.rules_store.proofs.Steps.{in_store, told}
use Rattle.store_keep.specs.declared.refusal.StoreRefusal.{StoreRefusal}
use Rattle.store_keep.specs.declared.refusal.StoreRefusal.TheVariants.{
  ShortTable,
  ManyEntries,
  TagsFall,
  NotLaid,
  HighTag,
  Lacking,
  NotSingle,
  NotAllowed,
  NoRoom,
  NoSuchTag,
}
use Rattle.store_keep.specs.Refusals.{number_of, first_of}
use Rattle.store_keep.specs.Reading.{Located}

-- no refusal has the number 0
pub nonzero : (e : StoreRefusal) → number_of e ≡ 0 → ⊥
nonzero ShortTable h = omega arith
nonzero ManyEntries h = omega arith
nonzero TagsFall h = omega arith
nonzero NotLaid h = omega arith
nonzero HighTag h = omega arith
nonzero Lacking h = omega arith
nonzero NotSingle h = omega arith
nonzero NotAllowed h = omega arith
nonzero NoRoom h = omega arith
nonzero NoSuchTag h = omega arith

module _
    (octets : List ℕ) (n : ℕ) (e : n ≡ count octets) (h : table_end n ≤ length octets) (k : n ≤ 16)
    (a : asked octets n ≡ 0) where
  abbrev es : List Entry
  es = entries_in n (drop 2 octets)

  pub found : (r : Result ℕ StoreRefusal) → r ≡ first_of es → Located octets r
  found r f = rw f (by (complete es) (single es) refl refl)
    where
      place : ℕ
      place = (body_of 1 es).offset

      by : (x y : Bool) → complete es ≡ x → single es ≡ y
          → Located octets (cond (not x) (Err Lacking) (cond (not y) (Err NotSingle) (Ok place)))
      by false y p q =
          told octets n e h k a false y place (sym p) (λ t. absurd (never t)) (no_settings 26) refl
      by true false p q =
          told octets n e h k a true false place (sym p) (λ t. (sym q, refl)) (no_settings 27) refl
      by true true p q = (
        in_store octets n e h k a true true place (sym p) (λ t. (sym q, refl)) refl refl,
        ap (λ (m : ℕ). (body_of 1 (entries_in m (drop 2 octets))).offset) e,
        told octets n e h k a true true place (sym p) (λ t. (sym q, refl)) _ refl,
      )
