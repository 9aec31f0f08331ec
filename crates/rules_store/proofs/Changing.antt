-- What a change answers and leaves, in plain numbers.
--     changes_are, are_changes     the definition is one of the rows, and each row is the definition
-- Assumes nothing.
use mathlib.Core.Path.{◌≡◌, refl, sym, ap, ◌∙◌, subst}
use mathlib.Core.Bool.{Bool, true, false}
use mathlib.Core.List.{List}
use Prim.Native.Nat.{ℕ, ◌≤◌, ◌<◌}
use native.Mathlib.Decide.{ℕ_discrete}
use native.Mathlib.Omega.{arith}
use borrow.Author.Tests.{ne_eqb, eqb-true, eqb-false, le-leb, leb-true}
use lib.ListN.{length, get_or, set, length-set}
use lib.Seq.{get_or-set_same, get_or-set_other, ext_get_or}
use lib.Dec.{eqb, leb}
use Rattle.base.proofs.Tests.{left_is, right_is}
use Rattle.rules_store.specs.declared.Settings.{Settings}
use Rattle.rules_store.specs.Store.{
  Body,
  entries,
  body_of,
  value_of,
  no_settings,
  store_read,
  is_setting,
  changed,
  allowed_in,
  store_changed,
  change_left,
}
use Rattle.rules_store.specs.Plain.{
  offset_at,
  StoreTells,
  is_21,
  is_21_table,
  is_22,
  is_23,
  is_24,
  is_24_end,
  is_25,
  is_26,
  is_27,
  is_28,
  is_told,
  Changed,
  new_kind,
  new_rate,
  new_phase,
  OneOther,
  Changes,
  as_read,
  changes_30,
  changes_28,
  changes_one,
}
use Rattle.rules_store.proofs.Allowed.{allowed_is, is_allowed_lem}
use Rattle.rules_store.proofs.Order.{Good, values_of, read_passed, read_good}
use Rattle.rules_store.proofs.Places.{never}
use Rattle.rules_store.proofs.OneChanged.{there, body_high, changed_of, change_is, change_refused}
use Rattle.rules_store.proofs.Written.{not_allowed}
use Rattle.rules_store.proofs.Listed.{rises_all, body_listed, listed_body}
use Rattle.rules_store.proofs.Told.{tells_is, read_row}

abbrev number_of : Settings → ℕ
number_of s = s.number

-- the tests, in plain numbers

not_setting : (tag : ℕ) → (1 ≤ tag → tag ≤ 3 → ⊥) → is_setting tag ≡ false
not_setting tag n = by (is_setting tag) refl
  where
    by : (b : Bool) → is_setting tag ≡ b → is_setting tag ≡ false
    by true e =
        absurd (n (leb-true 1 tag (left_is (leb 1 tag) (leb tag 3) e))
        (leb-true tag 3 (right_is (leb 1 tag) (leb tag 3) e)))
    by false e = e

is_setting_lem : (tag : ℕ) → 1 ≤ tag → tag ≤ 3 → is_setting tag ≡ true
is_setting_lem tag a b = rw (le-leb 1 tag a, le-leb tag 3 b)

-- a row of settings changed has passed the tests, and is what the definition makes of them
record Made (tag value : ℕ) (s t : Settings) : Type 0 where
  read : s.number ≡ 0
  tagged : is_setting tag ≡ true
  are : changed tag value s ≡ t

made : {tag value : ℕ} {s t : Settings} → Changed value tag s t → Made tag value s t
made (new_kind kind rate phase) = record { read = refl; tagged = refl; are = refl }
made (new_rate kind rate phase) = record { read = refl; tagged = refl; are = refl }
made (new_phase kind rate phase) = record { read = refl; tagged = refl; are = refl }

-- what is refused is told with zeros
zeros : {octets : List ℕ} {s : Settings} → StoreTells octets s → (s.number ≡ 0 → ⊥) → s ≡ no_settings s.number
zeros (is_21 a) n = refl
zeros (is_21_table a) n = refl
zeros (is_22 a b) n = refl
zeros (is_23 a i b c) n = refl
zeros (is_24 a i b c) n = refl
zeros (is_24_end a b) n = refl
zeros (is_25 a i b c) n = refl
zeros (is_26 a t b c d) n = refl
zeros (is_27 a i b c d e) n = refl
zeros (is_28 a b c d e) n = refl
zeros (is_told a b c d e) n = absurd (n refl)

module _ (octets : List ℕ) (tag value : ℕ) where
  abbrev number : ℕ
  number = store_changed octets tag value

  abbrev left : List ℕ
  left = change_left octets tag value

  abbrev offset : ℕ
  offset = (body_of tag (entries octets)).offset

  -- ---- the order

  refused_read : ((store_read octets).number ≡ 0 → ⊥) → number ≡ (store_read octets).number
  unfolding store_changed
  refused_read n = rw (ne_eqb (store_read octets).number 0 n)

  module _ (z : (store_read octets).number ≡ 0) where
    refused_30 : is_setting tag ≡ false → number ≡ 30
    unfolding store_changed
    refused_30 e = rw (z, e)

    refused_28 : is_setting tag ≡ true → allowed_in (changed tag value (store_read octets)) ≡ false → number ≡ 28
    unfolding store_changed
    refused_28 s e = rw (z, s, e)

    good : is_setting tag ≡ true → allowed_in (changed tag value (store_read octets)) ≡ true → number ≡ 0
    unfolding store_changed
    good s e = rw (z, s, e)

  -- a refusal's number, and what it leaves
  stays : (m : ℕ) → number ≡ m → (m ≡ 0 → ⊥) → (m ≡ number) × (octets ≡ left)
  stays m e d = (sym e, sym (change_refused octets tag value (λ z. d (sym e ∙ z))))

  -- ---- one octet

  one_other : (l : List ℕ) → offset < length octets → OneOther octets l offset value → l ≡ set octets offset value
  one_other l h o =
      ext_get_or 0 l (set octets offset value) (o.sized ∙ sym (length-set octets offset value))
      (λ j b. at j (ℕ_discrete j offset))
    where
      at : (j : ℕ) → Dec (j ≡ offset) → get_or l j 0 ≡ get_or (set octets offset value) j 0
      at j (yes e) =
          ap (λ (k : ℕ). get_or l k 0) e ∙ o.there ∙ sym (get_or-set_same octets offset value 0 h)
          ∙ ap (λ (k : ℕ). get_or (set octets offset value) k 0) (sym e)
      at j (no n) = o.elsewhere j n ∙ sym (get_or-set_other octets offset j value 0 n)

  other_one : offset < length octets → OneOther octets (set octets offset value) offset value
  other_one h = record {
    sized = length-set octets offset value;
    there = get_or-set_same octets offset value 0 h;
    elsewhere = λ j n. get_or-set_other octets offset j value 0 n;
  }

  -- ---- the rows

  pub are_changes : {m : ℕ} {l : List ℕ} → Changes octets tag value m l → (m ≡ number) × (l ≡ left)
  are_changes (as_read n t d) =
      let e : (store_read octets).number ≡ n = ap number_of (sym (tells_is octets t)) in
      stays n (refused_read (λ z. d (sym e ∙ z)) ∙ e) d
  are_changes (changes_30 t d) =
      stays 30 (refused_30 (ap number_of (sym (tells_is octets t))) (not_setting tag d)) (λ z. omega arith)
  are_changes (changes_28 {kind = kind} {rate = rate} {phase = phase} t c d) =
      let m = made c in
      let e = sym (tells_is octets t) in
      stays 28
      (refused_28 (ap number_of e ∙ m.read) m.tagged
      (ap (λ (s : Settings). allowed_in (changed tag value s)) e ∙ ap allowed_in m.are
      ∙ not_allowed kind rate phase d)) (λ z. omega arith)
  are_changes (changes_one {left = l} t c g i h a o) =
      let m = made c in
      let e = sym (tells_is octets t) in
      let z : (store_read octets).number ≡ 0 = ap number_of e ∙ m.read in
      let n = good z m.tagged (ap (λ (s : Settings). allowed_in (changed tag value s)) e ∙ ap allowed_in m.are
      ∙ allowed_is g) in
      let f = (read_passed octets z).full in
      let p : (body_of tag (entries octets)).offset ≡ offset_at octets i =
      ap (λ (b : Body). b.offset) (listed_body octets (rises_all octets f.sound.rises) tag i h a) in (
        sym n,
        one_other l (body_high octets f tag m.tagged) (subst (λ (k : ℕ). OneOther octets l k value) (sym p) o)
            ∙ sym (change_is octets tag value n),
      )

  moved : {m : ℕ} {l : List ℕ} → (m ≡ number) × (l ≡ left) → Changes octets tag value m l
      → Changes octets tag value number left
  moved e c = subst (λ (x : ℕ × List ℕ). Changes octets tag value x.0 x.1) (λ i. (e.0 i, e.1 i)) c

  pub changes_are : Changes octets tag value number left
  changes_are = by (eqb (store_read octets).number 0) refl
    where
      then : (store_read octets).number ≡ 0 → (a b : Bool) → is_setting tag ≡ a
          → allowed_in (changed tag value (store_read octets)) ≡ b → Changes octets tag value number left
      then z a b s r = on a b s r
        where
          g : Good octets
          g = read_passed octets z

          is : store_read octets ≡ values_of octets
          is = read_good octets g

          told : StoreTells octets (values_of octets)
          told = subst (StoreTells octets) is (read_row octets)

          right : {c : Bool} → allowed_in (changed tag value (store_read octets)) ≡ c
              → allowed_in (changed tag value (values_of octets)) ≡ c
          right e = ap (λ (s : Settings). allowed_in (changed tag value s)) (sym is) ∙ e

          row : is_setting tag ≡ true → Changed value tag (values_of octets) (changed tag value (values_of octets))
          row = changed_of (value_of 1 octets) (value_of 2 octets) (value_of 3 octets) value tag

          on : (a b : Bool) → is_setting tag ≡ a → allowed_in (changed tag value (store_read octets)) ≡ b
              → Changes octets tag value number left
          on false b s r =
              moved (stays 30 (refused_30 z s) (λ e. omega arith))
              (changes_30 told (λ h k. never (sym s ∙ is_setting_lem tag h k)))
          on true false s r =
              moved (stays 28 (refused_28 z s r) (λ e. omega arith))
              (changes_28 told (row s) (λ a. never (sym (right r) ∙ allowed_is a)))
          on true true s r =
              let n = good z s r in
              let l = body_listed octets tag (there octets g.full tag s) in
              moved (sym n, sym (change_is octets tag value n))
              (changes_one told (row s) (is_allowed_lem _ _ _ (right r)) l.i l.listed l.tag_is
              (subst (λ (k : ℕ). OneOther octets (set octets offset value) k value) l.offset_is
              (other_one (body_high octets g.full tag s))))

      by : (b : Bool) → eqb (store_read octets).number 0 ≡ b → Changes octets tag value number left
      by false e =
          let d = eqb-false (store_read octets).number 0 e in
          moved (stays (store_read octets).number (refused_read d) d)
          (as_read (store_read octets).number
          (subst (StoreTells octets) (zeros (read_row octets) d) (read_row octets)) d)
      by true e =
          then (eqb-true (store_read octets).number 0 e) (is_setting tag)
          (allowed_in (changed tag value (store_read octets))) refl refl
