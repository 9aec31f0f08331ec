-- What the contract of the call that compares says of one input, part by part.
--     answered          each member of the answer, by the definitions
--     read_a, read_b    each recording's record and buffer are those of a hard read
--     shown_chips       what is shown of the chips
--     payloads          what is shown of the payloads, where both are accepted and where one is not
--     few_octets        how many entries a list of octets has at most
--     list              the list of octets is that of the payloads in the buffers
-- Assumes nothing.
use Rattle.std.specs.Prelude.{Result}
use Rattle.rules_calls.specs.declared.Refusal.{Refusal}
use mathlib.Core.Path.{◌≡◌, sym, ap, ap₂, ◌∙◌, subst}
use mathlib.Core.Bool.{true}
use mathlib.Core.Logic.{◌⊎◌, inl, inr}
use mathlib.Core.List.{List}
use Prim.Native.Nat.{ℕ, ◌≤◌}
use native.Mathlib.Decide.{ℕ_discrete}
use native.Mathlib.Nat.{min-le_left}
use native.Mathlib.Omega.{arith}
use lib.ListN.{length, take, length-take}
use Rattle.rules_chips.specs.Chips.{hard_recording}
use Rattle.rules_calls.specs.declared.Reading.{Reading}
use Rattle.rules_calls.specs.Answers.{record_of}
use Rattle.rules_compare.specs.declared.Compared.{Compared}
use Rattle.rules_compare.specs.Differences.{Difference, differences}
use Rattle.rules_compare.specs.Compared.{hard_reading, length_beside, octet_list, compared_of}
use Rattle.rules_compare.specs.Plain.{Shows, ShowsPayloads}
use Rattle.rules_compare.proofs.Pairs.{few_shown}
use Rattle.rules_compare.proofs.Octets.{octets_are}
use Rattle.rules_compare.proofs.Whole.{chips_shown, payloads_shown}
use Rattle.promises.specs.Calls.{ReadHard}
use Rattle.promises.proofs.Only.{only_readable}
use Rattle.promises_compare.specs.Calls.{Compares}

take_most : (j : ℕ) (l : List ℕ) → length (take j l) ≤ j
take_most j l = let e = length-take j l in omega (arith, e, min-le_left j (length l))

module _ (kind : ℕ) (a b : List ℕ) (places places' room room' : ℕ) (c : Compared) (chips octets first second : List ℕ)
    (m : Compares kind a b places places' room room' c chips octets first second) where
  abbrev f : Result Reading Refusal
  f = hard_reading kind a room

  abbrev s : Result Reading Refusal
  s = hard_reading kind b room'

  pub record Answered : Type 0 where
    pub record_a : c.a ≡ record_of f
    pub record_b : c.b ≡ record_of s
    pub chips_counted : c.chips ≡ length (differences a b)
    pub octets_counted : c.octets ≡ length (octet_list kind a b room room')
    pub n_a : c.n_a ≡ length_beside f s
    pub n_b : c.n_b ≡ length_beside s f

  pub answered : Answered
  unfolding compared_of
  answered = record {
    record_a = ap (λ (x : Compared). x.a) m.answer;
    record_b = ap (λ (x : Compared). x.b) m.answer;
    chips_counted = ap (λ (x : Compared). x.chips) m.answer;
    octets_counted = ap (λ (x : Compared). x.octets) m.answer;
    n_a = ap (λ (x : Compared). x.n_a) m.answer;
    n_b = ap (λ (x : Compared). x.n_b) m.answer;
  }

  -- each recording's record and buffer, as a call of the hard reader
  pub read_a : ReadHard kind a room c.a first
  read_a = record { answer = answered.record_a; octets = m.first }

  pub read_b : ReadHard kind b room' c.b second
  read_b = record { answer = answered.record_b; octets = m.second }

  -- ---- what is shown
  pub shown_chips : Shows a b places c.chips chips
  shown_chips =
      subst (λ (x : ℕ × List ℕ). Shows a b places x.0 x.1) (λ i. ((sym m.answer i).chips, sym m.chips i))
      (chips_shown kind a b places places' room room')

  pub payloads : ShowsPayloads places' c octets first second
  payloads =
      subst (λ (x : Compared × List ℕ × List ℕ × List ℕ). ShowsPayloads places' x.0 x.1 x.2 x.3)
      (λ i. (sym m.answer i, sym m.octets i, sym m.first i, sym m.second i))
      (payloads_shown kind a b places places' room room')

  -- ---- how many octets there are at most
  pub few_octets : (c.octets ≤ 4095) × (c.octets ≤ room) × (c.octets ≤ room')
  few_octets = by (ℕ_discrete c.a.number 0) (ℕ_discrete c.b.number 0)
    where
      none : (c.a.number ≡ 0 → ⊥) ⊎ (c.b.number ≡ 0 → ⊥)
          → (c.octets ≤ 4095) × (c.octets ≤ room) × (c.octets ≤ room')
      none no_both =
          let z = (payloads.not_both no_both).0 in (omega (arith, z), omega (arith, z), omega (arith, z))

      by : Dec (c.a.number ≡ 0) → Dec (c.b.number ≡ 0)
          → (c.octets ≤ 4095) × (c.octets ≤ room) × (c.octets ≤ room')
      by (yes p) (yes q) =
          let few = few_shown (payloads.both p q).0 in
          let one = (only_readable kind true (hard_recording a) room c.a first read_a p).1 in
          let other = (only_readable kind true (hard_recording b) room' c.b second read_b q).1 in
          let n = take_most c.a.n first in
          let n' = take_most c.b.n second in (
            omega (arith, few.0, n, one.few),
            omega (arith, few.0, n, one.fits),
            omega (arith, few.1, n', other.fits),
          )
      by (no ne) q = none (inl ne)
      by (yes p) (no ne) = none (inr ne)

  -- ---- the list of octets is that of the payloads in the buffers
  pub list : octet_list kind a b room room' ≡ differences (take c.n_a first) (take c.n_b second)
  list =
      octets_are kind a b room room'
      ∙ ap₂ {C = List Difference} (λ (x y : List ℕ). differences x y)
      (ap₂ {C = List ℕ} (λ (n : ℕ) (l : List ℕ). take n l) (sym answered.n_a) (sym m.first))
      (ap₂ {C = List ℕ} (λ (n : ℕ) (l : List ℕ). take n l) (sym answered.n_b) (sym m.second))
