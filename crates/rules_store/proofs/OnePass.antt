-- What is asked of all entries, in one pass: as code goes through them, one after the other.
--     pass_none, pass_more      before the first entry, and one entry more
--     pass_falls, pass_gap, pass_over, pass_high, pass_all      what is answered at each return
-- Assumes nothing.
use mathlib.Core.Path.{◌≡◌, refl, sym, ap, ◌∙◌}
use mathlib.Core.Bool.{Bool, true, false, cond, not, ◌&&◌, and-false, and_assoc}
use mathlib.Core.List.{List}
use Prim.Native.Nat.{ℕ, ◌+◌, ◌*◌, ◌≤◌, ◌<◌}
use native.Mathlib.Omega.{arith}
use borrow.Author.Tests.{ltb-true, ltb-false, le-leb, lt-leb, eq-eqb, ne_eqb}
use lib.ListN.{length, drop}
use lib.Dec.{eqb, ltb, leb}
use Rattle.rules_store.specs.declared.Entry.{Entry}
use Rattle.rules_store.specs.Store.{entry_of, entries_in, table_end, rising, laid, passable}
use Rattle.rules_store.proofs.Walks.{
  left,
  left_all,
  rising_end,
  laid_end,
  passable_end,
  step,
  rising_more,
  rising_past,
}

-- what all entries are refused with
abbrev pub asked : List ℕ → ℕ → ℕ
asked l n =
    cond (not (rising 0 (entries_in n (drop 2 l)))) 23
    (cond (not (laid (table_end n) (entries_in n (drop 2 l)) (length l))) 24
    (cond (not (passable (entries_in n (drop 2 l)))) 25 0))

-- each test of all entries is what those before the i-th gave, and the test of those left: `least` is the least tag
-- that may follow, `at` where the next body is to start, `ok` whether those before stand where they are to
pub record OnePass (l : List ℕ) (n i least at : ℕ) (ok : Bool) : Type 0 where
  pub rises : rising least (left l n i) ≡ rising 0 (entries_in n (drop 2 l))
  pub out : (ok && laid at (left l n i) (length l)) ≡ laid (table_end n) (entries_in n (drop 2 l)) (length l)
  pub passes : (leb least 128 && passable (left l n i)) ≡ passable (entries_in n (drop 2 l))

pub pass_none : (l : List ℕ) (n : ℕ) → OnePass l n 0 0 (table_end n) true
pass_none l n =
    let e = left_all l n in
    record {
      rises = ap (rising 0) e;
      out = ap (λ (es : List Entry). laid (table_end n) es (length l)) e;
      passes = ap passable e;
    }

module _ (l : List ℕ) (n i least at : ℕ) (ok : Bool) (w : OnePass l n i least at ok) where
  module _ (e : Entry) (s : e ≡ entry_of (drop (2 + 4 * i) l)) (h : i < n) where
    pub pass_falls : e.tag < least → 23 ≡ asked l n
    pass_falls g =
        let no : rising 0 (entries_in n (drop 2 l)) ≡ false = sym w.rises ∙ rising_past l n i e s h least g in
        rw no

    -- a tag below 128 leaves those before it below 128, as they rise
    low : least ≤ e.tag → (leb least 128 && ltb e.tag 128) ≡ leb (e.tag + 1) 128
    low g = by (ltb e.tag 128) refl
      where
        by : (b : Bool) → ltb e.tag 128 ≡ b → (leb least 128 && b) ≡ leb (e.tag + 1) 128
        by true t =
            let k = ltb-true e.tag 128 t in
            rw (le-leb least 128 (omega arith), le-leb (e.tag + 1) 128 (omega arith))
        by false t =
            let k = ltb-false e.tag 128 t in
            rw (lt-leb (e.tag + 1) 128 (omega arith)) (and-false (leb least 128))

    pub pass_more : least ≤ e.tag → OnePass l n (i + 1) (e.tag + 1) (at + e.size) (ok && eqb e.offset at)
    unfolding laid passable
    pass_more g = record {
      rises = rising_more l n i e s h least g ∙ w.rises;
      out =
          and_assoc ok (eqb e.offset at) (laid (at + e.size) (left l n (i + 1)) (length l))
          ∙ sym (ap (λ (es : List Entry). ok && laid at es (length l)) (step l n i e s h))
          ∙ w.out;
      passes =
          ap (λ (b : Bool). b && passable (left l n (i + 1))) (sym (low g))
          ∙ and_assoc (leb least 128) (ltb e.tag 128) (passable (left l n (i + 1)))
          ∙ sym (ap (λ (es : List Entry). leb least 128 && passable es) (step l n i e s h))
          ∙ w.passes;
    }

  module _ (h : n ≤ i) where
    all_rise : rising 0 (entries_in n (drop 2 l)) ≡ true
    all_rise = sym w.rises ∙ rising_end l n i least h

    all_out : laid (table_end n) (entries_in n (drop 2 l)) (length l) ≡ (ok && eqb at (length l))
    all_out = sym w.out ∙ ap (λ (b : Bool). ok && b) (laid_end l n i at (length l) h)

    all_pass : passable (entries_in n (drop 2 l)) ≡ (leb least 128 && true)
    all_pass = sym w.passes ∙ ap (λ (b : Bool). leb least 128 && b) (passable_end l n i h)

    pub pass_gap : ok ≡ false → 24 ≡ asked l n
    pass_gap k = rw (all_rise, all_out, k)

    module _ (k : ok ≡ true) where
      pub pass_over : (at ≡ length l → ⊥) → 24 ≡ asked l n
      pass_over g = rw (all_rise, all_out, k, ne_eqb at (length l) g)

      module _ (g : at ≡ length l) where
        pub pass_high : 128 < least → 25 ≡ asked l n
        pass_high t = rw (all_rise, all_out, k, eq-eqb at (length l) g, all_pass, lt-leb least 128 t)

        pub pass_all : least ≤ 128 → 0 ≡ asked l n
        pass_all t = rw (all_rise, all_out, k, eq-eqb at (length l) g, all_pass, le-leb least 128 t)
