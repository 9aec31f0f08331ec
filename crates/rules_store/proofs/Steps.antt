-- The order of reading as code follows it: the number of entries is in hand, they have been asked in one pass, and the
-- three required have been looked for.
--     none_told, short, many, asked_not     refusals 21 to 25
--     rise, in_store, told                  26 to 28
--     full_row                              where the three octets stand
-- Assumes nothing.
use mathlib.Core.Path.{◌≡◌, refl, sym, ap, ◌∙◌}
use mathlib.Core.Bool.{Bool, true, false, not, cond}
use mathlib.Core.List.{List}
use Prim.Native.Nat.{ℕ, ◌+◌, ◌≤◌, ◌<◌}
use native.Mathlib.Omega.{arith}
use lib.ListN.{length, get_or, drop}
use Rattle.rules_store.specs.declared.Entry.{Entry}
use Rattle.rules_store.specs.declared.Settings.{Settings}
use Rattle.rules_store.specs.Store.{
  entries_in,
  count,
  table_end,
  entries,
  rising,
  laid,
  passable,
  body_of,
  complete,
  single,
  allowed_settings,
  value_of,
  no_settings,
  settings,
  store_read,
}
use Rattle.rules_store.proofs.Order.{
  Sound,
  Full,
  read_twenty_one,
  read_twenty_two,
  read_twenty_three,
  read_twenty_four,
  read_twenty_five,
  read_twenty_six,
  read_twenty_seven,
  read_full,
}
use Rattle.rules_store.proofs.OneChanged.{body_high}
use Rattle.rules_store.proofs.OnePass.{asked}
use Rattle.rules_store.proofs.Firsts.{InRow, in_row}

-- the three octets of a store stand one behind the other
pub full_row : (octets : List ℕ) → Full octets → InRow (entries octets)
full_row octets f =
    in_row (table_end (count octets)) (entries octets) (length octets) f.sound.rises f.sound.out f.whole
    f.ones

-- shorter than 2 octets
pub none_told : (octets : List ℕ) → length octets < 2 → no_settings 21 ≡ store_read octets
none_told octets h = sym (read_twenty_one octets (omega arith))

module _ (octets : List ℕ) (n : ℕ) (e : n ≡ count octets) where
  abbrev es : List Entry
  es = entries_in n (drop 2 octets)

  same : es ≡ entries octets
  same = ap (λ (k : ℕ). entries_in k (drop 2 octets)) e

  moved : laid (table_end n) es (length octets) ≡ laid (table_end (count octets)) (entries octets) (length octets)
  moved = λ i. laid (table_end (e i)) (same i) (length octets)

  pub short : length octets < table_end n → no_settings 21 ≡ store_read octets
  short h = sym (read_twenty_one octets (omega arith))

  module _ (h : table_end n ≤ length octets) where
    pub many : 16 < n → no_settings 22 ≡ store_read octets
    many k = sym (read_twenty_two octets (omega arith) (omega arith))

    module _ (k : n ≤ 16) where
      rises_is : (b : Bool) → rising 0 es ≡ b → rising 0 (entries octets) ≡ b
      rises_is b r = ap (rising 0) (sym same) ∙ r

      sound : rising 0 es ≡ true → laid (table_end n) es (length octets) ≡ true → Sound octets
      sound r l = record {
        long = omega arith;
        most = omega arith;
        rises = rises_is true r;
        out = sym moved ∙ l;
      }

      pub asked_not : (number : ℕ) → number ≡ asked octets n → (number ≡ 0 → ⊥) → no_settings number ≡ store_read octets
      asked_not number a z =
          by (rising 0 es) (laid (table_end n) es (length octets)) (passable es) refl refl refl a
        where
          by : (r l p : Bool) → rising 0 es ≡ r → laid (table_end n) es (length octets) ≡ l → passable es ≡ p
              → number ≡ cond (not r) 23 (cond (not l) 24 (cond (not p) 25 0)) → no_settings number ≡ store_read octets
          by false l p x y w a =
              ap no_settings a ∙ sym (read_twenty_three octets (omega arith) (omega arith) (rises_is false x))
          by true false p x y w a =
              ap no_settings a
              ∙ sym
              (read_twenty_four octets (omega arith) (omega arith) (rises_is true x) (sym moved ∙ y))
          by true true false x y w a =
              ap no_settings a ∙ sym (read_twenty_five octets (sound x y) (ap passable (sym same) ∙ w))
          by true true true x y w a = absurd (z a)

      record Asked : Type 0 where
        is_sound : Sound octets
        they_rise : rising 0 es ≡ true
        they_pass : passable (entries octets) ≡ true

      module _ (a : asked octets n ≡ 0) where
        all_asked : Asked
        all_asked = by (rising 0 es) (laid (table_end n) es (length octets)) (passable es) refl refl refl a
          where
            by : (r l p : Bool) → rising 0 es ≡ r → laid (table_end n) es (length octets) ≡ l → passable es ≡ p
                → ◌≡◌ {A = ℕ} (cond (not r) 23 (cond (not l) 24 (cond (not p) 25 0))) 0 → Asked
            by false l p x y w a = absurd (omega arith)
            by true false p x y w a = absurd (omega arith)
            by true true false x y w a = absurd (omega arith)
            by true true true x y w a =
                record { is_sound = sound x y; they_rise = x; they_pass = ap passable (sym same) ∙ w }

        pub rise : rising 0 es ≡ true
        rise = all_asked.they_rise

        module _
            (there ones : Bool) (at : ℕ) (t : there ≡ complete es)
            (u : there ≡ true → (ones ≡ single es) × (at ≡ (body_of 1 es).offset)) where
          whole_is : complete (entries octets) ≡ there
          whole_is = ap complete (sym same) ∙ sym t

          module _ (p : there ≡ true) where
            ones_is : single (entries octets) ≡ ones
            ones_is = ap single (sym same) ∙ sym (u p).0

            at_is : at ≡ (body_of 1 (entries octets)).offset
            at_is = (u p).1 ∙ ap (λ (x : List Entry). (body_of 1 x).offset) same

            module _ (q : ones ≡ true) where
              full : Full octets
              full = record {
                sound = all_asked.is_sound;
                passes = all_asked.they_pass;
                whole = whole_is ∙ p;
                ones = ones_is ∙ q;
              }

              pub in_store : at + 2 < length octets
              in_store = omega (arith, at_is, (full_row octets full).third, body_high octets full 3 refl)

          -- the three octets
          abbrev value : ℕ → ℕ
          value i = get_or octets (at + i) 0

          abbrev Told : Bool → Bool → Settings
          Told x y =
              cond (not x) (no_settings 26)
              (cond (not y) (no_settings 27)
              (cond (not (allowed_settings (get_or octets at 0) (value 1) (value 2))) (no_settings 28)
              (settings (get_or octets at 0) (value 1) (value 2))))

          pub told : (s : Settings) → s ≡ Told there ones → s ≡ store_read octets
          told s d = d ∙ sym (by there ones refl refl)
            where
              by : (x y : Bool) → there ≡ x → ones ≡ y → store_read octets ≡ Told x y
              by false y p q = read_twenty_six octets all_asked.is_sound all_asked.they_pass (whole_is ∙ p)
              by true false p q =
                  read_twenty_seven octets all_asked.is_sound all_asked.they_pass (whole_is ∙ p) (ones_is p ∙ q)
              by true true p q =
                  let row = full_row octets (full p q) in
                  let a = ap (λ (k : ℕ). get_or octets k 0) (sym (at_is p)) in
                  let b : value_of 2 octets ≡ value 1 =
                  ap (λ (k : ℕ). get_or octets k 0) (omega (arith, row.second, at_is p)) in
                  let c : value_of 3 octets ≡ value 2 =
                  ap (λ (k : ℕ). get_or octets k 0) (omega (arith, row.third, at_is p)) in
                  read_full octets (full p q)
                  ∙ (λ i. cond (not (allowed_settings (a i) (b i) (c i))) (no_settings 28) (settings (a i) (b i) (c i)))
