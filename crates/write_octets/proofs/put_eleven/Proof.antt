-- `write_octets::put_eleven` meets its contract: one word. Assumes nothing.
use borrow.Author.Rules.{rules}
use mathlib.Core.Path.{◌≡◌, sym, ap, ◌∙◌}
use mathlib.Core.List.{List, append-nil}
use Prim.Native.Nat.{ℕ, ◌+◌, ◌/◌, ◌%◌}
use Rattle.base.specs.Over.{over}
use Rattle.rules_rates.specs.declared.Rate.TheVariants.{Eleven}
use Rattle.rules_chips.specs.Chips.{turned}
use Rattle.rules_symbols.specs.Words.{cck_word}
use Rattle.rules_symbols.proofs.Words.{cck_mod}
use Rattle.rules_bits.specs.Bits.{bits_of}
use Rattle.rules_bits.specs.Growths.{growth, direct, half_turn, symbol_of, symbols_from, chips_from, last_phase}
use Rattle.rules_bits.specs.Code.{pairs_of}
use Rattle.rules_bits.proofs.PairLaws.{pair_bits, pair_phases}
use Rattle.write_octets.specs.Sending.{symbols_at}
use Rattle.write_octets.proofs.put_eleven.Statement.{statement}
use Rattle.write_octets.proofs.put_eleven.Tie as tie

-- the symbol of eight bits, and its word
eleven : (p k o q : ℕ) (w d z : List ℕ)
    → q ≡ turned p (growth (o % 2) (o / 2 % 2) + half_turn k)
    → w ≡ cck_word q (direct (o / 2 / 2 % 2) (o / 2 / 2 / 2 % 2))
    (direct (o / 2 / 2 / 2 / 2 % 2) (o / 2 / 2 / 2 / 2 / 2 % 2))
    (direct (o / 2 / 2 / 2 / 2 / 2 / 2 % 2) (o / 2 / 2 / 2 / 2 / 2 / 2 / 2 % 2))
    → z ≡ over w d
    → (q ≡ last_phase p (symbols_at Eleven k (bits_of 8 o)))
    × (z ≡ over (chips_from Eleven p (symbols_at Eleven k (bits_of 8 o))) d)
unfolding bits_of symbol_of symbols_from symbols_at chips_from last_phase
eleven p k o q w d z e f g = (e, g ∙ ap (λ (v : List ℕ). over v d) (f ∙ sym (append-nil _) ∙ rw e))

-- the same of the octet's pairs
by_pairs : (p k o s q : ℕ) (w d z : List ℕ) → s ≡ pairs_of o
    → q ≡ turned p (growth (s / 2 % 2) (s % 2) + half_turn k) → w ≡ cck_word q (s / 4) (s / 16) (s / 64) → z ≡ over w d
    → (q ≡ last_phase p (symbols_at Eleven k (bits_of 8 o)))
    × (z ≡ over (chips_from Eleven p (symbols_at Eleven k (bits_of 8 o))) d)
by_pairs p k o s q w d z e f g h =
    let b = pair_bits o s e in
    let n = pair_phases o s e in
    eleven p k o q w d z (f ∙ rw (b.0, b.1)) (g ∙ sym (cck_mod q _ _ _) ∙ rw (n.0, n.1, n.2)) h

returns : tie.Need-returns
returns c =
    by_pairs _ _ _ _ _ _ _ _ c.pairs-s.ensures c.grown_cck-p1.ensures
    c.cck_word-word.ensures c.put.ensures

pub put_eleven_spec : {M : Type 1} → statement M
put_eleven_spec =
    tie.close
    (tie.spec
    (λ c κs. search rules) (λ c κs. search rules) (λ c κs. search rules) (λ c. search rules) (λ c κs. search rules)
    (λ c. search rules) returns)
