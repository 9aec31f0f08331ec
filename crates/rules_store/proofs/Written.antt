-- What a write answers and leaves, in plain numbers.
--     writes_are, are_writes     the definition is one of the rows, and each row is the definition
--     bad_number, only_bad       28 comes of settings that are not allowed, and of them only
--     left_read, left_longer     the 17 octets are read back; with some of the zeros behind them they are 24
-- Assumes nothing.
use mathlib.Core.Path.{◌≡◌, refl, sym, ap, ◌∙◌, subst}
use mathlib.Core.Bool.{Bool, true, false, cond, not}
use mathlib.Core.List.{List, [], ◌∷◌, ◌++◌}
use Prim.Native.Nat.{ℕ, ◌+◌, ◌-◌, ◌≤◌, ◌<◌}
use native.Mathlib.Omega.{arith}
use borrow.Author.Tests.{ltb-true, ltb-false, lt-ltb, le-ltb, ne_eqb}
use lib.ListN.{length, take, replicate, length-take, length-replicate}
use lib.Seq.{take_at, take-append-add}
use lib.Dec.{ltb}
use Rattle.rules_store.specs.Store.{entries_in, rising, laid, allowed_settings, no_settings, settings, store_read}
use Rattle.rules_store.specs.Pieces.{table_from, bodies, laid_out, store_of, store_written, write_left}
use Rattle.rules_store.specs.Plain.{AllowedSettings, Writes, writes_28, writes_29, writes_all}
use Rattle.rules_store.proofs.Allowed.{allowed_is, is_allowed_lem}
use Rattle.rules_store.proofs.Order.{read_twenty_four}
use Rattle.rules_store.proofs.Old.{written_read}
use Rattle.rules_store.proofs.Places.{never}

module _ (kind rate phase : ℕ) where
  -- the 17 octets, one by one
  abbrev row : List ℕ
  row = 1 ∷ 3 ∷ 1 ∷ 14 ∷ 0 ∷ 1 ∷ 2 ∷ 15 ∷ 0 ∷ 1 ∷ 3 ∷ 16 ∷ 0 ∷ 1 ∷ kind ∷ rate ∷ phase ∷ []

  named : store_of kind rate phase ≡ row
  unfolding table_from bodies laid_out
  named = refl

  longer : (l : List ℕ) → 1 ≤ length l → store_read (row ++ l) ≡ no_settings 24
  unfolding entries_in rising laid
  longer l h =
      read_twenty_four (row ++ l) (omega arith) (omega arith) refl (ne_eqb 17 (length (row ++ l)) (λ e. omega arith))

  pub not_allowed : (AllowedSettings kind rate phase → ⊥) → allowed_settings kind rate phase ≡ false
  not_allowed n = by (allowed_settings kind rate phase) refl
    where
      by : (b : Bool) → allowed_settings kind rate phase ≡ b → allowed_settings kind rate phase ≡ false
      by true e = absurd (n (is_allowed_lem kind rate phase e))
      by false e = e

  module _ (room : ℕ) where
    abbrev number : ℕ
    number = store_written kind rate phase room

    abbrev left : List ℕ
    left = write_left kind rate phase room

    pub bad_number : allowed_settings kind rate phase ≡ false → number ≡ 28
    unfolding store_written
    bad_number e = rw e

    pub only_bad : number ≡ 28 → allowed_settings kind rate phase ≡ false
    unfolding store_written
    only_bad e = by (allowed_settings kind rate phase) (ltb room 17) refl e
      where
        by : (a b : Bool) → allowed_settings kind rate phase ≡ a → ◌≡◌ {A = ℕ} (cond (not a) 28 (cond b 29 0)) 28
            → allowed_settings kind rate phase ≡ false
        by false b p z = p
        by true true p z = absurd (omega arith)
        by true false p z = absurd (omega arith)

    short_number : allowed_settings kind rate phase ≡ true → room < 17 → number ≡ 29
    unfolding store_written
    short_number e h = rw (e, lt-ltb room 17 h)

    good_number : allowed_settings kind rate phase ≡ true → 17 ≤ room → number ≡ 0
    unfolding store_written
    good_number e h = rw (e, le-ltb room 17 h)

    left_refused : (n : ℕ) → number ≡ n → (n ≡ 0 → ⊥) → left ≡ replicate room 0
    unfolding write_left
    left_refused n e d = rw (ne_eqb number 0 (λ z. d (sym e ∙ z)))

    left_good : number ≡ 0 → left ≡ row ++ replicate (room - 17) 0
    unfolding write_left
    left_good e = rw (e, named)

    -- ---- the rows

    pub are_writes : {m : ℕ} {l : List ℕ} → Writes kind rate phase room m l → (m ≡ number) × (l ≡ left)
    are_writes (writes_28 n) =
        let e = bad_number (not_allowed n) in (sym e, sym (left_refused 28 e (λ z. omega arith)))
    are_writes (writes_29 g h) =
        let e = short_number (allowed_is g) h in (sym e, sym (left_refused 29 e (λ z. omega arith)))
    are_writes (writes_all g h) = let e = good_number (allowed_is g) h in (sym e, sym (left_good e))

    moved : {m : ℕ} {l : List ℕ} → number ≡ m → left ≡ l → Writes kind rate phase room m l
        → Writes kind rate phase room number left
    moved e f w =
        subst (λ (x : ℕ × List ℕ). Writes kind rate phase room x.0 x.1) (λ i. (sym e i, sym f i)) w

    pub writes_are : Writes kind rate phase room number left
    writes_are = by (allowed_settings kind rate phase) (ltb room 17) refl refl
      where
        by : (a b : Bool) → allowed_settings kind rate phase ≡ a → ltb room 17 ≡ b
            → Writes kind rate phase room number left
        by false b p q =
            let e = bad_number p in
            moved e (left_refused 28 e (λ z. omega arith)) (writes_28 (λ g. never (sym p ∙ allowed_is g)))
        by true true p q =
            let e = short_number p (ltb-true room 17 q) in
            moved e (left_refused 29 e (λ z. omega arith))
            (writes_29 (is_allowed_lem kind rate phase p) (ltb-true room 17 q))
        by true false p q =
            let e = good_number p (ltb-false room 17 q) in
            moved e (left_good e) (writes_all (is_allowed_lem kind rate phase p) (ltb-false room 17 q))

    -- ---- read back

    module _ (g : AllowedSettings kind rate phase) (h : 17 ≤ room) where
      is : left ≡ row ++ replicate (room - 17) 0
      is = left_good (good_number (allowed_is g) h)

      pub left_read : store_read (take 17 left) ≡ settings kind rate phase
      left_read =
          ap (λ (l : List ℕ). store_read (take 17 l)) is
          ∙ ap store_read (take_at row (replicate (room - 17) 0) 17 refl ∙ sym named)
          ∙ written_read kind rate phase g

      pub left_longer : (m : ℕ) → 17 < m → m ≤ room → store_read (take m left) ≡ no_settings 24
      left_longer m a b =
          let zeros : List ℕ = replicate (room - 17) 0 in
          let e : m ≡ length row + (m - 17) = omega arith in
          let cut : take m left ≡ row ++ take (m - 17) zeros =
          ap (take m) is ∙ ap (λ (k : ℕ). take k (row ++ zeros)) e ∙ take-append-add row zeros (m - 17) in
          ap store_read cut
          ∙ longer (take (m - 17) zeros)
          (omega (arith, length-take (m - 17) zeros, length-replicate {A = ℕ} (room - 17) 0))
