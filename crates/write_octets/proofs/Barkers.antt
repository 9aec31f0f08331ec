-- Laws of Barker words one after the other, and of the table of the four. Assumes nothing.
use mathlib.Core.Path.{◌≡◌, refl, ap, ◌∙◌}
use mathlib.Core.List.{List, [], ◌∷◌, ◌++◌, append_assoc, append-nil}
use Prim.Native.Nat.{ℕ, ◌+◌, ◌*◌, ◌%◌}
use native.Mathlib.Omega.{arith}
use lib.ListN.{length, get_or}
use Rattle.base.specs.Tables.{tabulate}
use Rattle.base.proofs.Tables.{get_or_tabulate}
use Rattle.rules_symbols.specs.Words.{barker_word}
use Rattle.write_octets.specs.Line.{barker_words}

pub barkers_snoc : (ps : List ℕ) (p : ℕ) → barker_words (ps ++ p ∷ []) ≡ barker_words ps ++ barker_word p
unfolding barker_words
barkers_snoc [] p = append-nil (barker_word p)
barkers_snoc (q ∷ ps) p = rw (barkers_snoc ps p, append_assoc)

pub length_barkers : (ps : List ℕ) → length (barker_words ps) ≡ 11 * length ps
unfolding barker_words barker_word
length_barkers [] = refl
length_barkers (q ∷ ps) = omega (arith, length_barkers ps)

-- a phase may be reduced first
barker_mod : (p : ℕ) → barker_word (p % 4) ≡ barker_word p
unfolding barker_word
barker_mod p = λ i. a i ∷ b i ∷ a i ∷ a i ∷ b i ∷ a i ∷ a i ∷ a i ∷ b i ∷ b i ∷ b i ∷ []
  where
    a : (p % 4 + 0) % 4 ≡ (p + 0) % 4
    a = omega arith

    b : (p % 4 + 2) % 4 ≡ (p + 2) % 4
    b = omega arith

-- a word of the table of the four, by its phase
pub barker_entry : (t : List (List ℕ)) (p : ℕ) → t ≡ tabulate barker_word 4 → get_or t (p % 4) [] ≡ barker_word p
barker_entry t p e = rw e (get_or_tabulate barker_word 4 (p % 4) [] (omega arith) ∙ barker_mod p)

pub length_entry : (t : List (List ℕ)) (p : ℕ) → t ≡ tabulate barker_word 4 → length (get_or t (p % 4) []) ≡ 11
unfolding barker_word
length_entry t p e = ap length (barker_entry t p e)
