-- What the definitions of the rates compute, against RULES 3.1, 3.2, 4, 5.2, 5.8 and 5.10 to 5.12: tables of inputs,
-- and one equation over each. The LENGTHs of 1,023 to 1,026 octets are printed in IEEE 802.11b-1999. Assumes nothing.
use mathlib.Core.Path.{◌≡◌, refl}
use mathlib.Core.Bool.{Bool, true, false, cond, ◌||◌}
use mathlib.Core.List.{List, [], ◌∷◌, map}
use Prim.Native.Nat.{ℕ}
use borrow.Author.Tests.{eqb-true}
use lib.Dec.{eqb}
use lib.IntN.{pos, negsuc}
use Rattle.rules_rates.specs.declared.Rate.{Rate}
use Rattle.rules_rates.specs.declared.Rate.TheVariants.{One, Two, Five, Eleven}
use Rattle.rules_rates.specs.Rates.{
  code_of,
  is_code,
  rate_of,
  symbol_chips,
  symbol_bits,
  octet_symbols,
  octet_chips,
  length_field,
  bit7,
  octets_read,
  is_payload,
  length_holds,
}

abbrev rates : List Rate
rates = One ∷ Two ∷ Five ∷ Eleven ∷ []

-- promise: Codes, and the chips of an octet at each rate; no other number is a code
-- rule: 5.2, 5.8
-- code: rules_rates::code, octet_chips
-- with: codes, no_codes, no_other_code
pub sizes : map
    (λ (r : Rate). code_of r ∷ symbol_chips r ∷ symbol_bits r ∷ octet_symbols r ∷ octet_chips r ∷ []) rates
    ≡ (10 ∷ 11 ∷ 1 ∷ 8 ∷ 88 ∷ [])
    ∷ (20 ∷ 11 ∷ 2 ∷ 4 ∷ 44 ∷ [])
    ∷ (55 ∷ 8 ∷ 4 ∷ 2 ∷ 16 ∷ [])
    ∷ (110 ∷ 8 ∷ 8 ∷ 1 ∷ 8 ∷ [])
    ∷ []
sizes = refl

-- the four codes, their rates, and numbers that are no code
pub codes : map is_code (10 ∷ 20 ∷ 55 ∷ 110 ∷ []) ≡ true ∷ true ∷ true ∷ true ∷ []
codes = refl

pub no_codes : map is_code (0 ∷ 1 ∷ 2 ∷ 9 ∷ 11 ∷ 19 ∷ 21 ∷ 50 ∷ 54 ∷ 56 ∷ 109 ∷ 111 ∷ 266 ∷ [])
    ≡ false ∷ false ∷ false ∷ false ∷ false ∷ false ∷ false ∷ false ∷ false ∷ false ∷ false ∷ false ∷ false ∷ []
no_codes = refl

pub their_rates : map rate_of (10 ∷ 20 ∷ 55 ∷ 110 ∷ []) ≡ rates
their_rates = refl

-- and no other number is a code
pub no_other_code : (c : ℕ) → is_code c ≡ true → c ≡ code_of (rate_of c)
no_other_code c =
    go (eqb c 10) (eqb c 20) (eqb c 55) (eqb c 110) (eqb-true c 10) (eqb-true c 20) (eqb-true c 55) (eqb-true c 110)
  where
    go : (a b d e : Bool) → (a ≡ true → c ≡ 10) → (b ≡ true → c ≡ 20) → (d ≡ true → c ≡ 55) → (e ≡ true → c ≡ 110)
        → (a || b || d || e) ≡ true → c ≡ code_of (cond a One (cond b Two (cond d Five Eleven)))
    go true b d e f g h i t = f refl
    go false true d e f g h i t = g refl
    go false false true e f g h i t = h refl
    go false false false e f g h i t = i t

-- LENGTH and bit 7 of n octets at a rate
abbrev fields : Rate → ℕ → List ℕ
fields r n = length_field r n ∷ bit7 r n ∷ []

pub lengths_one : map (fields One) (1 ∷ 2 ∷ 4095 ∷ []) ≡ (8 ∷ 0 ∷ []) ∷ (16 ∷ 0 ∷ []) ∷ (32760 ∷ 0 ∷ []) ∷ []
lengths_one = refl

pub lengths_two : map (fields Two) (1 ∷ 2 ∷ 4095 ∷ []) ≡ (4 ∷ 0 ∷ []) ∷ (8 ∷ 0 ∷ []) ∷ (16380 ∷ 0 ∷ []) ∷ []
lengths_two = refl

-- 16 n / 11 leaves every remainder as n goes from 1 to 11
pub lengths_five : map (fields Five) (1 ∷ 2 ∷ 3 ∷ 4 ∷ 5 ∷ 6 ∷ 7 ∷ 8 ∷ 9 ∷ 10 ∷ 11 ∷ 4095 ∷ [])
    ≡ (2 ∷ 0 ∷ []) ∷ (3 ∷ 0 ∷ []) ∷ (5 ∷ 0 ∷ []) ∷ (6 ∷ 0 ∷ []) ∷ (8 ∷ 0 ∷ []) ∷ (9 ∷ 0 ∷ []) ∷ (11 ∷ 0 ∷ [])
    ∷ (12 ∷ 0 ∷ []) ∷ (14 ∷ 0 ∷ []) ∷ (15 ∷ 0 ∷ []) ∷ (16 ∷ 0 ∷ []) ∷ (5957 ∷ 0 ∷ []) ∷ []
lengths_five = refl

-- promise: LENGTH and bit 7: 16n/11 and 8n/11 leave every remainder as n goes from 1 to 11; at 11 Mbit/s rounding adds
-- 8/11, 9/11 and 10/11 at n = 10, 3 and 7, and only 7/11 at n = 6
-- rule: 5.10, 5.11, 8.1
-- code: length_field, bit7
-- with: lengths_one, lengths_two, lengths_five
pub lengths_eleven : map (fields Eleven)
    (1 ∷ 2 ∷ 3 ∷ 4 ∷ 5 ∷ 6 ∷ 7 ∷ 8 ∷ 9 ∷ 10 ∷ 11 ∷ 1023 ∷ 1024 ∷ 1025 ∷ 1026 ∷ 4095 ∷ [])
    ≡ (1 ∷ 0 ∷ []) ∷ (2 ∷ 0 ∷ []) ∷ (3 ∷ 1 ∷ []) ∷ (3 ∷ 0 ∷ []) ∷ (4 ∷ 0 ∷ []) ∷ (5 ∷ 0 ∷ []) ∷ (6 ∷ 1 ∷ [])
    ∷ (6 ∷ 0 ∷ []) ∷ (7 ∷ 0 ∷ []) ∷ (8 ∷ 1 ∷ []) ∷ (8 ∷ 0 ∷ []) ∷ (744 ∷ 0 ∷ []) ∷ (745 ∷ 0 ∷ [])
    ∷ (746 ∷ 0 ∷ []) ∷ (747 ∷ 1 ∷ []) ∷ (2979 ∷ 1 ∷ []) ∷ []
lengths_eleven = refl

-- octets back, LENGTH and bit 7 given: LENGTH 0 with bit 7 set gives -1
pub octets : octets_read One 15 0 ∷ octets_read Two 7 0 ∷ octets_read Five 15 0 ∷ octets_read Five 16 0
    ∷ octets_read Eleven 8 0 ∷ octets_read Eleven 8 1 ∷ octets_read Eleven 0 1 ∷ []
    ≡ pos 1 ∷ pos 1 ∷ pos 10 ∷ pos 11 ∷ pos 11 ∷ pos 10 ∷ negsuc 0 ∷ []
octets = refl

-- a payload is 1 to 4,095 octets
pub limits : map is_payload (negsuc 0 ∷ pos 0 ∷ pos 1 ∷ pos 4095 ∷ pos 4096 ∷ [])
    ≡ false ∷ false ∷ true ∷ true ∷ false ∷ []
limits = refl

-- LENGTH and bit 7 of no n from 1 to 4,095: 0 and 9 at 1 Mbit/s, 4,096 octets, 4 and 7 at 5.5 Mbit/s (no n has them),
-- 0 with bit 7, 1 with it (n = 0), 2 with it (n = 1 has LENGTH 1), and 3 without it, which is n = 4, for comparison
pub refused : length_holds One 0 0 ∷ length_holds One 9 0 ∷ length_holds One 32768 0 ∷ length_holds Two 16384 0
    ∷ length_holds Five 4 0 ∷ length_holds Five 7 0 ∷ length_holds Five 5958 0 ∷ length_holds Eleven 0 1
    ∷ length_holds Eleven 1 1 ∷ length_holds Eleven 2 1 ∷ length_holds Eleven 2979 0 ∷ length_holds Eleven 3 0 ∷ []
    ≡ false ∷ false ∷ false ∷ false ∷ false ∷ false ∷ false ∷ false ∷ false ∷ false ∷ false ∷ true ∷ []
refused = refl
