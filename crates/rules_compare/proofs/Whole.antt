-- The answer, in plain numbers: what it says of the chips (`chips_shown`) and of the payloads (`payloads_shown`),
-- beside the rows and buffers that the definitions leave. Assumes nothing.
use mathlib.Core.Path.{◌≡◌, refl, sym, ap, ap₂, ◌∙◌, subst}
use mathlib.Core.Bool.{Bool, true, false, cond, ◌&&◌}
use mathlib.Core.Logic.{◌⊎◌, inl, inr}
use mathlib.Core.List.{List, []}
use Prim.Native.Nat.{ℕ}
use native.Mathlib.Omega.{arith}
use borrow.Author.Tests.{eq-eqb, ne_eqb}
use lib.Dec.{eqb}
use lib.ListN.{length, take}
use Rattle.rules_chips.specs.Chips.{hard_recording}
use Rattle.rules_reading.specs.Reading.{octets_found}
use Rattle.rules_compare.specs.declared.Compared.{Compared}
use Rattle.rules_compare.specs.Differences.{Difference, differences, laid}
use Rattle.rules_compare.specs.Compared.{hard_reading, octet_list, compared_of}
use Rattle.rules_compare.specs.Plain.{Shows, ShowsPayloads}
use Rattle.rules_compare.proofs.Shown.{shows, shows_once}
use Rattle.rules_compare.proofs.Pairs.{itself}
use Rattle.rules_compare.proofs.Octets.{beside_is, other_is, octets_are}

module _ (kind : ℕ) (a b : List ℕ) (places places' room room' : ℕ) where
  abbrev c : Compared
  c = compared_of kind a b room room'

  abbrev first : List ℕ
  first = octets_found kind true (hard_recording a) room

  abbrev second : List ℕ
  second = octets_found kind true (hard_recording b) room'

  abbrev octets : List ℕ
  octets = laid places' (octet_list kind a b room room')

  pub chips_shown : Shows a b places c.chips (laid places (differences a b))
  unfolding compared_of
  chips_shown = shows a b places

  abbrev both : Bool
  both = eqb c.a.number 0 && eqb c.b.number 0

  lengths : (c.n_a ≡ cond both c.a.n 0) × (c.n_b ≡ cond both c.b.n 0)
  unfolding compared_of
  lengths = (
    beside_is (hard_reading kind a room) (hard_reading kind b room'),
    other_is (hard_reading kind a room) (hard_reading kind b room'),
  )

  listed : Shows (take c.n_a first) (take c.n_b second) places' c.octets octets
  unfolding compared_of
  listed =
      subst (λ (ds : List Difference). Shows (take c.n_a first) (take c.n_b second) places' (length ds)
      (laid places' ds)) (sym (octets_are kind a b room room'))
      (shows (take c.n_a first) (take c.n_b second) places')

  of_lengths : {n m : ℕ} → c.n_a ≡ n → c.n_b ≡ m → Shows (take n first) (take m second) places' c.octets octets
  of_lengths e g =
      subst (λ (x : ℕ × ℕ). Shows (take x.0 first) (take x.1 second) places' c.octets octets)
      (λ i. (e i, g i)) listed

  never : (t : Bool) → (t && false) ≡ false
  never true = refl
  never false = refl

  one_not : (c.a.number ≡ 0 → ⊥) ⊎ (c.b.number ≡ 0 → ⊥) → both ≡ false
  one_not (inl ne) = ap (λ (t : Bool). t && eqb c.b.number 0) (ne_eqb c.a.number 0 ne)
  one_not (inr ne) =
      ap (λ (t : Bool). eqb c.a.number 0 && t) (ne_eqb c.b.number 0 ne) ∙ never (eqb c.a.number 0)

  pub payloads_shown : ShowsPayloads places' c octets first second
  payloads_shown = record {
    both = λ p q.
        let yes = ap₂ {C = Bool} (λ x y. x && y) (eq-eqb c.a.number 0 p) (eq-eqb c.b.number 0 q) in
        let n = lengths.0 ∙ ap (λ (t : Bool). cond t c.a.n 0) yes in
        let m = lengths.1 ∙ ap (λ (t : Bool). cond t c.b.n 0) yes in
        (of_lengths n m, n, m);
    not_both = λ no_both.
        let none = one_not no_both in
        let n = lengths.0 ∙ ap (λ (t : Bool). cond t c.a.n 0) none in
        let m = lengths.1 ∙ ap (λ (t : Bool). cond t c.b.n 0) none in
        let nothing : Shows [] [] places' c.octets octets = of_lengths n m in
        let no-entry = (shows_once nothing (shows [] [] places')).0 ∙ ap length (itself []) in
        (no-entry, n, m, nothing.whole, λ p h. (nothing.fits (omega (arith, no-entry))).1 p (omega (arith, no-entry)));
  }
