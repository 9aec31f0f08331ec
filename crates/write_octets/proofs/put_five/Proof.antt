-- `write_octets::put_five` meets its contract: two words, the second over the part that starts where the first ends.
-- Assumes nothing.
use borrow.Author.Rules.{rules}
use mathlib.Core.Path.{◌≡◌, refl, sym, ap, ◌∙◌}
use mathlib.Core.List.{List, [], ◌∷◌, ◌++◌, append-nil}
use Prim.Native.Nat.{ℕ, ◌+◌, ◌-◌, ◌*◌, ◌/◌, ◌%◌}
use lib.ListN.{length, take, drop}
use borrow.Rule.Slice.PartMut.{put_mid}
use Rattle.base.specs.Over.{over}
use Rattle.base.proofs.Over.{over_next}
use Rattle.rules_rates.specs.declared.Rate.TheVariants.{Five}
use Rattle.rules_chips.specs.Chips.{turned}
use Rattle.rules_symbols.specs.Words.{cck_word}
use Rattle.rules_bits.specs.Bits.{bits_of}
use Rattle.rules_bits.specs.Code.{pairs_of}
use Rattle.rules_bits.proofs.PairLaws.{pair_bits}
use Rattle.rules_bits.specs.Growths.{growth, half_turn, symbol_of, symbols_from, chips_from, last_phase}
use Rattle.write_octets.specs.Sending.{symbols_at}
use Rattle.write_octets.proofs.put_five.Statement.{statement}
use Rattle.write_octets.proofs.put_five.Tie as tie

-- the two symbols of eight bits, and their words
five : (p b0 b1 b2 b3 b4 b5 b6 b7 q0 q1 : ℕ) (w v d o y : List ℕ)
    → q0 ≡ turned p (growth b0 b1 + half_turn 0) → q1 ≡ turned q0 (growth b4 b5 + half_turn 1)
    → w ≡ cck_word q0 (2 * b2 + 1) 0 (2 * b3) → v ≡ cck_word q1 (2 * b6 + 1) 0 (2 * b7)
    → o ≡ over w d → y ≡ over v (take (length o - 8) (drop 8 o))
    → (let ss = symbols_at Five 0 (b0 ∷ b1 ∷ b2 ∷ b3 ∷ b4 ∷ b5 ∷ b6 ∷ b7 ∷ []) in
    (q1 ≡ last_phase p ss) × (put_mid 8 (length o - 8) o y ≡ over (chips_from Five p ss) d))
unfolding symbol_of symbols_from symbols_at chips_from last_phase
five p b0 b1 b2 b3 b4 b5 b6 b7 q0 q1 w v d o y e0 e1 f0 f1 g h =
    let eight : length w ≡ 8 = rw f0 (unfold cck_word in refl) in (
      cc,
      over_next w v d o y 8 g eight h
          ∙ ap (λ (l : List ℕ). over l d) (ap (λ (l : List ℕ). w ++ l) (sym (append-nil v)) ∙ cc),
    )

-- the same of the octet's pairs
by_pairs : (p o s q0 q1 : ℕ) (w v d z y : List ℕ) → s ≡ pairs_of o
    → q0 ≡ turned p (growth (s / 2 % 2) (s % 2) + half_turn 0)
    → q1 ≡ turned q0 (growth (s / 16 / 2 % 2) (s / 16 % 2) + half_turn 1)
    → w ≡ cck_word q0 (2 * (s / 4 / 2 % 2) + 1) 0 (2 * (s / 4 % 2))
    → v ≡ cck_word q1 (2 * (s / 64 / 2 % 2) + 1) 0 (2 * (s / 64 % 2))
    → z ≡ over w d → y ≡ over v (take (length z - 8) (drop 8 z))
    → (q1 ≡ last_phase p (symbols_at Five 0 (bits_of 8 o)))
    × (put_mid 8 (length z - 8) z y ≡ over (chips_from Five p (symbols_at Five 0 (bits_of 8 o))) d)
by_pairs p o s q0 q1 w v d z y e e0 e1 f0 f1 g h =
    let b = pair_bits o s e in
    unfold bits_of in
    five p _ _ _ _ _ _ _ _ q0 q1 w v d z y (e0 ∙ rw (b.0, b.1)) (e1 ∙ rw (b.4, b.5)) (f0 ∙ rw (b.2, b.3))
    (f1 ∙ rw (b.6, b.7)) g h

returns : tie.Need-returns
returns c =
    let first = c.put in
    let second = c.put-2 in
    by_pairs _ _ _ _ _ _ _ _ first.new.chips second.new.chips
    c.pairs-s.ensures c.grown_cck-p0.ensures
    c.grown_cck-p1.ensures c.five_word-first.ensures c.five_word-second.ensures
    first.ensures second.ensures

pub put_five_spec : {M : Type 1} → statement M
put_five_spec =
    tie.close
    (tie.spec
    (λ c κs. search rules) (λ c κs. search rules) (λ c κs. search rules) (λ c κs. search rules)
    (λ c κs. search rules) (λ c. search rules) (λ c κs. search rules) (λ c. search rules) (λ c. search rules)
    (λ c. search rules) (λ c. search rules) (λ c κs. search rules) (λ c. search rules) returns)
