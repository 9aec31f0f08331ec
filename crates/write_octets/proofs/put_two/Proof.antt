-- `write_octets::put_two` meets its contract: four phases, each grown from the one before by a pair of bits.
-- Assumes nothing.
use mathlib.Core.Path.{◌≡◌, ap₂, ◌∙◌}
use mathlib.Core.List.{List, [], ◌∷◌}
use Prim.Native.Nat.{ℕ, ◌/◌, ◌%◌}
use borrow.Author.Rules.{rules}
use Rattle.base.specs.Over.{over}
use Rattle.rules_rates.specs.declared.Rate.TheVariants.{Two}
use Rattle.rules_chips.specs.Chips.{turned}
use Rattle.rules_bits.specs.Bits.{bits_of}
use Rattle.rules_bits.specs.Growths.{growth, symbol_of, symbols_from, chips_from, last_phase}
use Rattle.rules_bits.specs.Code.{pairs_of}
use Rattle.rules_bits.proofs.PairLaws.{pair_bits}
use Rattle.write_octets.specs.Sending.{symbols_at}
use Rattle.write_octets.specs.Line.{barker_words}
use Rattle.write_octets.proofs.put_two.Statement.{statement}
use Rattle.write_octets.proofs.put_two.Tie as tie

-- growing by the same bits
same : (p q a b x y : ℕ) → q ≡ turned p (growth a b) → a ≡ x → b ≡ y → q ≡ turned p (growth x y)
same p q a b x y e f g = e ∙ ap₂ (λ (u v : ℕ). turned p (growth u v)) f g

four : (p o q0 q1 q2 q3 : ℕ) (z d : List ℕ) → q0 ≡ turned p (growth (o % 2) (o / 2 % 2))
    → q1 ≡ turned q0 (growth (o / 2 / 2 % 2) (o / 2 / 2 / 2 % 2))
    → q2 ≡ turned q1 (growth (o / 2 / 2 / 2 / 2 % 2) (o / 2 / 2 / 2 / 2 / 2 % 2))
    → q3 ≡ turned q2 (growth (o / 2 / 2 / 2 / 2 / 2 / 2 % 2) (o / 2 / 2 / 2 / 2 / 2 / 2 / 2 % 2))
    → z ≡ over (barker_words (q0 ∷ q1 ∷ q2 ∷ q3 ∷ [])) d
    → (q3 ≡ last_phase p (symbols_at Two 0 (bits_of 8 o))) × (z ≡ over (chips_from Two p (symbols_at Two 0 (bits_of 8 o))) d)
unfolding bits_of symbol_of symbols_from symbols_at chips_from last_phase barker_words
four p o q0 q1 q2 q3 z d e0 e1 e2 e3 f = (cc, cc)

two : (p o s q0 q1 q2 q3 : ℕ) (z d : List ℕ) → s ≡ pairs_of o → q0 ≡ turned p (growth (s / 2 % 2) (s % 2))
    → q1 ≡ turned q0 (growth (s / 4 / 2 % 2) (s / 4 % 2)) → q2 ≡ turned q1 (growth (s / 16 / 2 % 2) (s / 16 % 2))
    → q3 ≡ turned q2 (growth (s / 64 / 2 % 2) (s / 64 % 2)) → z ≡ over (barker_words (q0 ∷ q1 ∷ q2 ∷ q3 ∷ [])) d
    → (q3 ≡ last_phase p (symbols_at Two 0 (bits_of 8 o))) × (z ≡ over (chips_from Two p (symbols_at Two 0 (bits_of 8 o))) d)
two p o s q0 q1 q2 q3 z d e e0 e1 e2 e3 f =
    let b = pair_bits o s e in
    four p o q0 q1 q2 q3 z d (same _ _ _ _ _ _ e0 b.0 b.1) (same _ _ _ _ _ _ e1 b.2 b.3)
    (same _ _ _ _ _ _ e2 b.4 b.5) (same _ _ _ _ _ _ e3 b.6 b.7) f

returns : tie.Need-returns
returns c =
    two _ _ _ _ _ _ _ _ _ c.pairs-s.ensures
    c.grown-p0.ensures c.grown-p1.ensures
    c.grown-p2.ensures c.grown-p3.ensures c.put_barkers.ensures

pub put_two_spec : {M : Type 1} → statement M
put_two_spec =
    tie.close
    (tie.spec
    (λ c κs. search rules) (λ c κs. search rules) (λ c κs. search rules) (λ c κs. search rules)
    (λ c κs. search rules) (λ c. search rules) (λ c κs. search rules) (λ c. search rules) returns)
