-- Laws of a change of one setting.
--     there, body_high         the body of one is there, in the store
--     changed_of               settings with one changed, in plain numbers
--     change_is, change_reads  a good change writes one octet, and is read back as the settings with that one changed
--     change_refused           a refused one leaves the store
-- Assumes nothing.
use mathlib.Core.Path.{◌≡◌, refl, sym, ap, ◌∙◌}
use mathlib.Core.Bool.{Bool, true, false, cond, not}
use mathlib.Core.List.{List}
use Prim.Native.Nat.{ℕ, ◌≤◌, ◌<◌}
use native.Mathlib.Omega.{arith}
use borrow.Author.Tests.{eqb-true, eqb-false, ne_eqb}
use lib.ListN.{length, set}
use lib.Seq.{get_or-set_same, get_or-set_other}
use lib.Dec.{eqb}
use Rattle.rules_store.specs.Store.{
  count,
  table_end,
  entries,
  body_of,
  value_of,
  settings,
  store_read,
  is_setting,
  changed,
  allowed_in,
  store_changed,
  change_left,
}
use Rattle.rules_store.specs.Plain.{Changed, new_kind, new_rate, new_phase}
use Rattle.rules_store.proofs.Three.{in_three, each}
use Rattle.rules_store.proofs.Order.{Full, values_of, read_passed, read_good}
use Rattle.rules_store.proofs.Places.{inside, apart, entries_kept, full_kept}

module _ (octets : List ℕ) (f : Full octets) where
  pub there : (t : ℕ) → is_setting t ≡ true → (body_of t (entries octets)).there ≡ true
  there = each (λ t. (body_of t (entries octets)).there) f.whole

  one : (t : ℕ) → is_setting t ≡ true → (body_of t (entries octets)).size ≡ 1
  one t s = eqb-true _ 1 (each (λ t. eqb (body_of t (entries octets)).size 1) f.ones t s)

  -- a body of the three stands behind the table, in the store
  body_low : (t : ℕ) → is_setting t ≡ true → table_end (count octets) ≤ (body_of t (entries octets)).offset
  body_low t s = (inside t _ (entries octets) (length octets) f.sound.out (there t s)).low

  pub body_high : (t : ℕ) → is_setting t ≡ true → (body_of t (entries octets)).offset < length octets
  body_high t s =
      omega (arith, (inside t _ (entries octets) (length octets) f.sound.out (there t s)).high, one t s)

  module _ (tag value : ℕ) (s : is_setting tag ≡ true) where
    abbrev after : List ℕ
    after = set octets (body_of tag (entries octets)).offset value

    same_entries : entries after ≡ entries octets
    same_entries = entries_kept octets (body_of tag (entries octets)).offset value (body_low tag s)

    value_same : value_of tag after ≡ value
    value_same = rw same_entries (get_or-set_same octets (body_of tag (entries octets)).offset value 0 (body_high tag s))

    value_other : (t : ℕ) → is_setting t ≡ true → (t ≡ tag → ⊥) → value_of t after ≡ value_of t octets
    value_other t u n =
        rw same_entries
        (get_or-set_other octets (body_of tag (entries octets)).offset (body_of t (entries octets)).offset value 0
        (apart t tag _ (entries octets) (length octets) f.sound.out n (there t u) (there tag s) (one t u)
        (one tag s)))

  values_changed : (value tag : ℕ) → is_setting tag ≡ true
      → values_of (set octets (body_of tag (entries octets)).offset value) ≡ changed tag value (values_of octets)
  values_changed value =
      in_three
      (λ tag. values_of (set octets (body_of tag (entries octets)).offset value) ≡ changed tag value (values_of octets))
      (let a = value_same 1 value refl in
      let b = value_other 1 value refl 2 refl (λ e. omega arith) in
      let c = value_other 1 value refl 3 refl (λ e. omega arith) in
      λ i. settings (a i) (b i) (c i))
      (let a = value_other 2 value refl 1 refl (λ e. omega arith) in
      let b = value_same 2 value refl in
      let c = value_other 2 value refl 3 refl (λ e. omega arith) in
      λ i. settings (a i) (b i) (c i))
      (let a = value_other 3 value refl 1 refl (λ e. omega arith) in
      let b = value_other 3 value refl 2 refl (λ e. omega arith) in
      let c = value_same 3 value refl in
      λ i. settings (a i) (b i) (c i))

-- ---- the call

record Changing (octets : List ℕ) (tag value : ℕ) : Type 0 where
  read : (store_read octets).number ≡ 0
  tagged : is_setting tag ≡ true
  right : allowed_in (changed tag value (store_read octets)) ≡ true

change_passed : (octets : List ℕ) (tag value : ℕ) → store_changed octets tag value ≡ 0 → Changing octets tag value
unfolding store_changed
change_passed octets tag value e =
    by (eqb (store_read octets).number 0) (is_setting tag) (allowed_in (changed tag value (store_read octets)))
    refl refl refl e
  where
    by : (a b c : Bool) → eqb (store_read octets).number 0 ≡ a → is_setting tag ≡ b
        → allowed_in (changed tag value (store_read octets)) ≡ c
        → cond (not a) (store_read octets).number (cond (not b) 30 (cond (not c) 28 0)) ≡ 0
        → Changing octets tag value
    by false b c p q r z = absurd (eqb-false (store_read octets).number 0 p z)
    by true false c p q r z = absurd (omega arith)
    by true true false p q r z = absurd (omega arith)
    by true true true p q r z = record { read = eqb-true (store_read octets).number 0 p; tagged = q; right = r }

pub change_is : (octets : List ℕ) (tag value : ℕ) → store_changed octets tag value ≡ 0
    → change_left octets tag value ≡ set octets (body_of tag (entries octets)).offset value
unfolding change_left
change_is octets tag value e = rw e

change_read : (octets : List ℕ) (tag value : ℕ) → store_changed octets tag value ≡ 0
    → store_read (change_left octets tag value) ≡ changed tag value (store_read octets)
change_read octets tag value e =
    let c = change_passed octets tag value e in
    let g = read_passed octets c.read in
    let o = (body_of tag (entries octets)).offset in
    let was : store_read octets ≡ values_of octets = read_good octets g in
    let values = values_changed octets g.full value tag c.tagged in
    let good : allowed_in (values_of (set octets o value)) ≡ true =
    ap allowed_in (values ∙ ap (changed tag value) (sym was)) ∙ c.right in
    ap store_read (change_is octets tag value e)
    ∙ read_good (set octets o value)
    (record { full = full_kept octets o value (body_low octets g.full tag c.tagged) g.full; right = good })
    ∙ values
    ∙ ap (changed tag value) (sym was)

-- settings with the one of a tag changed, in plain numbers
pub changed_of : (kind rate phase value tag : ℕ) → is_setting tag ≡ true
    → Changed value tag (settings kind rate phase) (changed tag value (settings kind rate phase))
changed_of kind rate phase value =
    in_three (λ tag. Changed value tag (settings kind rate phase) (changed tag value (settings kind rate phase)))
    (new_kind kind rate phase) (new_rate kind rate phase) (new_phase kind rate phase)

pub change_reads : (octets : List ℕ) (tag value : ℕ) → store_changed octets tag value ≡ 0
    → Changed value tag (store_read octets) (store_read (change_left octets tag value))
change_reads octets tag value e =
    let c = change_passed octets tag value e in
    rw (change_read octets tag value e, read_good octets (read_passed octets c.read))
    (changed_of (value_of 1 octets) (value_of 2 octets) (value_of 3 octets) value tag c.tagged)

pub change_refused : (octets : List ℕ) (tag value : ℕ) → (store_changed octets tag value ≡ 0 → ⊥)
    → change_left octets tag value ≡ octets
unfolding change_left
change_refused octets tag value n = rw (ne_eqb (store_changed octets tag value) 0 n)
