-- The order of reading, followed once: what a store that is not refused has passed, and what passes is read.
--     read_twenty_one to read_twenty_seven, read_full      each refusal, past those before it
--     read_passed, read_good      a store that is read has passed them all
-- Assumes nothing.
use mathlib.Core.Path.{◌≡◌, refl, sym, ap, ◌∙◌}
use mathlib.Core.Bool.{Bool, true, false, cond, not}
use mathlib.Core.List.{List}
use Prim.Native.Nat.{ℕ, ◌≤◌, ◌<◌}
use native.Mathlib.Omega.{arith}
use borrow.Author.Tests.{le-leb, lt-leb, leb-true}
use lib.ListN.{length}
use Rattle.rules_store.specs.declared.Settings.{Settings}
use Rattle.rules_store.specs.Store.{
  count,
  table_end,
  entries,
  tabled,
  few,
  rising,
  laid,
  passable,
  complete,
  single,
  allowed_settings,
  value_of,
  no_settings,
  settings,
  store_read,
}

-- past refusals 21 to 24
pub record Sound (octets : List ℕ) : Type 0 where
  pub long : table_end (count octets) ≤ length octets
  pub most : count octets ≤ 16
  pub rises : rising 0 (entries octets) ≡ true
  pub out : laid (table_end (count octets)) (entries octets) (length octets) ≡ true

-- past 25 to 27 too: with no tag of 128 or more, and the three required of one octet each
pub record Full (octets : List ℕ) : Type 0 where
  pub sound : Sound octets
  pub passes : passable (entries octets) ≡ true
  pub whole : complete (entries octets) ≡ true
  pub ones : single (entries octets) ≡ true

abbrev pub values_of : List ℕ → Settings
values_of octets = settings (value_of 1 octets) (value_of 2 octets) (value_of 3 octets)

abbrev pub values_allowed : List ℕ → Bool
values_allowed octets = allowed_settings (value_of 1 octets) (value_of 2 octets) (value_of 3 octets)

-- the order as a function of the tests
order : Bool → Bool → Bool → Bool → Bool → Bool → Bool → Bool → Settings → Settings
order long most rises out passes whole ones good s =
    cond (not long) (no_settings 21)
    (cond (not most) (no_settings 22)
    (cond (not rises) (no_settings 23)
    (cond (not out) (no_settings 24)
    (cond (not passes) (no_settings 25)
    (cond (not whole) (no_settings 26) (cond (not ones) (no_settings 27) (cond (not good) (no_settings 28) s)))))))

abbrev tests : List ℕ → Bool → Bool → Settings
tests octets long most =
    order long most (rising 0 (entries octets))
    (laid (table_end (count octets)) (entries octets) (length octets)) (passable (entries octets))
    (complete (entries octets)) (single (entries octets)) (values_allowed octets) (values_of octets)

ordered : (octets : List ℕ) → store_read octets
    ≡ tests octets (tabled octets) (few octets)
unfolding store_read order
ordered octets = refl

read_on : (octets : List ℕ) → Sound octets → store_read octets
    ≡ order true true true true (passable (entries octets)) (complete (entries octets)) (single (entries octets))
    (values_allowed octets) (values_of octets)
read_on octets s =
    ordered octets
    ∙ rw (
      le-leb (table_end (count octets)) (length octets) s.long,
      le-leb (count octets) 16 s.most,
      s.rises,
      s.out,
    )

pub read_twenty_one : (octets : List ℕ) → length octets < table_end (count octets) → store_read octets ≡ no_settings 21
unfolding order
read_twenty_one octets h = ordered octets ∙ rw (lt-leb (table_end (count octets)) (length octets) h)

module _ (octets : List ℕ) (h : table_end (count octets) ≤ length octets) where
  long : tabled octets ≡ true
  long = le-leb (table_end (count octets)) (length octets) h

  pub read_twenty_two : 16 < count octets → store_read octets ≡ no_settings 22
  unfolding order
  read_twenty_two k = ordered octets ∙ rw (long, lt-leb (count octets) 16 k)

  pub read_twenty_three : count octets ≤ 16 → rising 0 (entries octets) ≡ false → store_read octets ≡ no_settings 23
  unfolding order
  read_twenty_three k e = ordered octets ∙ rw (long, le-leb (count octets) 16 k, e)

  pub read_twenty_four : count octets ≤ 16 → rising 0 (entries octets) ≡ true
      → laid (table_end (count octets)) (entries octets) (length octets) ≡ false → store_read octets ≡ no_settings 24
  unfolding order
  read_twenty_four k r e = ordered octets ∙ rw (long, le-leb (count octets) 16 k, r, e)

pub read_twenty_five : (octets : List ℕ) → Sound octets → passable (entries octets) ≡ false
    → store_read octets ≡ no_settings 25
unfolding order
read_twenty_five octets s e = read_on octets s ∙ rw e

pub read_twenty_six : (octets : List ℕ) → Sound octets → passable (entries octets) ≡ true
    → complete (entries octets) ≡ false → store_read octets ≡ no_settings 26
unfolding order
read_twenty_six octets s p e = read_on octets s ∙ rw (p, e)

pub read_twenty_seven : (octets : List ℕ) → Sound octets → passable (entries octets) ≡ true
    → complete (entries octets) ≡ true → single (entries octets) ≡ false → store_read octets ≡ no_settings 27
unfolding order
read_twenty_seven octets s p w e = read_on octets s ∙ rw (p, w, e)

pub read_full : (octets : List ℕ) → Full octets → store_read octets
    ≡ cond (not (values_allowed octets)) (no_settings 28) (values_of octets)
unfolding order
read_full octets f = read_on octets f.sound ∙ rw (f.passes, f.whole, f.ones)

record Passed (long most rises out passes whole ones good : Bool) : Type 0 where
  is_long : long ≡ true
  is_most : most ≡ true
  they_rise : rises ≡ true
  are_out : out ≡ true
  they_pass : passes ≡ true
  are_whole : whole ≡ true
  are_ones : ones ≡ true
  are_good : good ≡ true

passed_all : (long most rises out passes whole ones good : Bool) (s : Settings)
    → (order long most rises out passes whole ones good s).number ≡ 0
    → Passed long most rises out passes whole ones good
unfolding order
passed_all false most rises out passes whole ones good s e = absurd (omega arith)
passed_all true false rises out passes whole ones good s e = absurd (omega arith)
passed_all true true false out passes whole ones good s e = absurd (omega arith)
passed_all true true true false passes whole ones good s e = absurd (omega arith)
passed_all true true true true false whole ones good s e = absurd (omega arith)
passed_all true true true true true false ones good s e = absurd (omega arith)
passed_all true true true true true true false good s e = absurd (omega arith)
passed_all true true true true true true true false s e = absurd (omega arith)
passed_all true true true true true true true true s e = record {
  is_long = refl;
  is_most = refl;
  they_rise = refl;
  are_out = refl;
  they_pass = refl;
  are_whole = refl;
  are_ones = refl;
  are_good = refl;
}

pub record Good (octets : List ℕ) : Type 0 where
  pub full : Full octets
  pub right : values_allowed octets ≡ true

pub read_passed : (octets : List ℕ) → (store_read octets).number ≡ 0 → Good octets
read_passed octets e =
    let p =
    passed_all _ _ _ _ _ _ _ _ (values_of octets) (sym (ap (λ (s : Settings). s.number) (ordered octets)) ∙ e) in
    record {
      full =
          record {
            sound =
                record {
                  long = leb-true (table_end (count octets)) (length octets) p.is_long;
                  most = leb-true (count octets) 16 p.is_most;
                  rises = p.they_rise;
                  out = p.are_out;
                };
            passes = p.they_pass;
            whole = p.are_whole;
            ones = p.are_ones;
          };
      right = p.are_good;
    }

pub read_good : (octets : List ℕ) → Good octets → store_read octets ≡ values_of octets
read_good octets g = read_full octets g.full ∙ rw g.right
