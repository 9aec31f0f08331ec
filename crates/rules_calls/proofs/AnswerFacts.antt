-- Answers to a read, computed from the definition and compared with RULES 6.4, 6.8 and 6.10: every refusal's number, 1
-- to 17, a place with 9 and 10 alone, LENGTH with what is asked after the header, and nothing else; what a good read
-- shows. And a law of all of them: a refusal's number is not 0 (`some_number`). Assumes nothing.
use Rattle.std.specs.Prelude.{Ok, Err}
use mathlib.Core.Path.{◌≡◌, refl}
use mathlib.Core.Bool.{Bool, true, false}
use mathlib.Core.List.{List, [], ◌∷◌, map}
use Prim.Native.Nat.{ℕ}
use native.Mathlib.Omega.{arith}
use lib.ListN.{replicate}
use Rattle.rules_rates.specs.declared.Rate.TheVariants.{Five}
use Rattle.rules_calls.specs.declared.Refusal.{Refusal}
use Rattle.rules_calls.specs.declared.Refusal.TheVariants.{
  NoKind,
  NoRate,
  ShortRate,
  PayloadSize,
  NoPhase,
  ChipRoom,
  RowsDiffer,
  ShorterThanFront,
  Unusable,
  OddGrowth,
  Sfd,
  Crc,
  Signal,
  Service,
  Length,
  Ends,
  OctetRoom,
}
use Rattle.rules_calls.specs.declared.Record.{Record}
use Rattle.rules_calls.specs.Answers.{refusal_number, record_of}
use Rattle.rules_calls.specs.Headers.{told}

-- every refusal has a number other than 0
pub some_number : (e : Refusal) → refusal_number e ≡ 0 → ⊥
some_number NoKind h = omega arith
some_number NoRate h = omega arith
some_number ShortRate h = omega arith
some_number PayloadSize h = omega arith
some_number NoPhase h = omega arith
some_number ChipRoom h = omega arith
some_number RowsDiffer h = omega arith
some_number ShorterThanFront h = omega arith
some_number (Unusable p l) h = omega arith
some_number (OddGrowth p l) h = omega arith
some_number Sfd h = omega arith
some_number Crc h = omega arith
some_number (Signal l) h = omega arith
some_number (Service l) h = omega arith
some_number (Length l) h = omega arith
some_number (Ends l) h = omega arith
some_number (OctetRoom l) h = omega arith

-- ---- refusals, for every place and every LENGTH
abbrev answer : Refusal → Record
answer e = record_of (Err e)

module _ (place l : ℕ) where
  abbrev every : List Refusal
  every =
      NoKind ∷ NoRate ∷ ShortRate ∷ PayloadSize ∷ NoPhase ∷ ChipRoom ∷ RowsDiffer ∷ ShorterThanFront
      ∷ Unusable place l ∷ OddGrowth place l ∷ Sfd ∷ Crc ∷ Signal l ∷ Service l ∷ Length l ∷ Ends l ∷ OctetRoom l ∷ []

  -- promise: Each refusal's number, place and LENGTH, whatever they are; all else is 0
  -- rule: 6.4, 6.8
  -- with: places, lengths, no_more
  pub numbers : map (λ (e : Refusal). (answer e).number) every
      ≡ 1 ∷ 2 ∷ 3 ∷ 4 ∷ 5 ∷ 6 ∷ 7 ∷ 8 ∷ 9 ∷ 10 ∷ 11 ∷ 12 ∷ 13 ∷ 14 ∷ 15 ∷ 16 ∷ 17 ∷ []
  numbers = refl

  pub places : map (λ (e : Refusal). (answer e).place) every
      ≡ 0 ∷ 0 ∷ 0 ∷ 0 ∷ 0 ∷ 0 ∷ 0 ∷ 0 ∷ place ∷ place ∷ 0 ∷ 0 ∷ 0 ∷ 0 ∷ 0 ∷ 0 ∷ 0 ∷ []
  places = refl

  pub lengths : map (λ (e : Refusal). (answer e).length) every
      ≡ 0 ∷ 0 ∷ 0 ∷ 0 ∷ 0 ∷ 0 ∷ 0 ∷ 0 ∷ l ∷ l ∷ 0 ∷ 0 ∷ l ∷ l ∷ l ∷ l ∷ l ∷ []
  lengths = refl

  -- a refusal shows no rate, no octets, no chips used, no clock bit, no lead and no symbol
  pub no_more : map
      (λ (e : Refusal).
      (answer e).rate ∷ (answer e).n ∷ (answer e).used ∷ (answer e).clock ∷ (answer e).lead ∷ (answer e).symbol ∷ []) every
      ≡ replicate 17 (0 ∷ 0 ∷ 0 ∷ 0 ∷ 0 ∷ 0 ∷ [])
  no_more = refl

-- ---- a good read shows what its header tells, the chips used, the smallest lead and its symbol, whatever they are;
-- the clock bit as 0 or 1
module _ (l n used lead symbol : ℕ) where
  abbrev answered : Bool → List ℕ
  answered clock =
      let a = record_of (Ok (record { told = (told Five l n clock); used = used; least = record { lead = lead; symbol = symbol } })) in
      a.number ∷ a.place ∷ a.rate ∷ a.length ∷ a.n ∷ a.used ∷ a.clock ∷ a.lead ∷ a.symbol ∷ []

  pub goods : answered false ∷ answered true ∷ []
      ≡ (0 ∷ 0 ∷ 55 ∷ l ∷ n ∷ used ∷ 0 ∷ lead ∷ symbol ∷ [])
      ∷ (0 ∷ 0 ∷ 55 ∷ l ∷ n ∷ used ∷ 1 ∷ lead ∷ symbol ∷ [])
      ∷ []
  goods = refl
