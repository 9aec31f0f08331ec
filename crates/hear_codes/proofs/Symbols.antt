-- Symbols of a block by their places, over the rate.
--     phase_at, phase_last    the phase before symbol l, and behind the last
--     growths_row             how far each symbol grew
--     packed_number           the codes of symbols packed are the number of their bits
--     octet_row               octet o of the block
-- Assumes nothing.
use mathlib.Core.Path.{◌≡◌, refl, sym, ap, ap₂, ◌∙◌}
use mathlib.Core.List.{List, [], ◌∷◌}
use Prim.Native.Nat.{ℕ, zero, suc, ◌+◌, ◌*◌, ◌^◌, ◌≤◌, ◌<◌}
use native.Mathlib.Nat.{le_of_suc-le-suc, not-suc-le-zero, add-suc}
use native.Mathlib.Numerals.{add-one}
use native.Mathlib.Omega.{arith}
use lib.ListN.{length, get_or, take, drop, take-append-drop, length-drop}
use lib.Seq.{take-suc, drop-cons, length-take-le, take_at, drop_at, get_or_at, split_at, drop-drop, ext_get_or, take_all}
use Rattle.rules_rates.specs.declared.Rate.{Rate}
use Rattle.rules_rates.specs.Rates.{symbol_bits, octet_symbols}
use Rattle.rules_rates.proofs.Octets.{octet_bits_lem, part_bits}
use Rattle.rules_symbols.specs.Words.{phase_of}
use Rattle.rules_bits.specs.Bits.{number_of, octets_of}
use Rattle.rules_bits.specs.Growths.{grown_by, heard_bits, heard, growths_of, last_heard}
use Rattle.rules_bits.proofs.Bits.{number_append}
use Rattle.rules_bits.proofs.Heard.{
  heard_row,
  heard_append,
  growths_of_append,
  last_heard_append,
  growths_of_length,
  heard_length,
}
use Rattle.hear_codes.specs.Codes.{packed}

-- octet o of bits
octet_at_lem : (n : ℕ) (bs : List ℕ) (o : ℕ) → o < n → get_or (octets_of n bs) o 0 ≡ number_of (take 8 (drop (8 * o) bs))
unfolding octets_of
octet_at_lem zero bs o h = absurd (not-suc-le-zero h)
octet_at_lem (suc n) bs zero h = refl
octet_at_lem (suc n) bs (suc o) h =
    octet_at_lem n (drop 8 bs) o (le_of_suc-le-suc h)
    ∙ ap (λ (l : List ℕ). number_of (take 8 l)) (drop-drop (8 * o) 8 bs)
    ∙ ap (λ (k : ℕ). number_of (take 8 (drop k bs))) (eight o)
  where
    eight : (o : ℕ) → 8 + 8 * o ≡ 8 * suc o
    eight o = omega arith

-- a row has the phase p before words, and behind it theirs
pub record Phases (r : Rate) (p : ℕ) (ws ps : List ℕ) (m : ℕ) : Type 0 where
  pub first : get_or ps 0 0 ≡ p
  pub at : (j : ℕ) → j < m → get_or ps (j + 1) 0 ≡ phase_of r (get_or ws j 0)

module _ {r : Rate} {p m : ℕ} (ws ps : List ℕ) (long : length ws ≡ m) (ph : Phases r p ws ps m) where
  phase_at : (l : ℕ) → l ≤ m → last_heard r p (take l ws) ≡ get_or ps l 0
  unfolding last_heard
  phase_at zero h = sym ph.first
  phase_at (suc l) h =
      ap (last_heard r p) (take-suc ws l 0 (omega arith))
      ∙ last_heard_append r p (take l ws) (get_or ws l 0 ∷ [])
      ∙ sym (ph.at l (omega arith)) ∙ ap (λ (k : ℕ). get_or ps k 0) (add-one l)

  pub phase_last : last_heard r p ws ≡ get_or ps m 0
  phase_last = ap (last_heard r p) (sym (take_all m ws (omega arith))) ∙ phase_at m (omega arith)

  -- how far symbol l grew
  growth_at_lem : (l : ℕ) → l < m → get_or (growths_of r p ws) l 0 ≡ grown_by (get_or ps l 0) (get_or ps (l + 1) 0)
  unfolding growths_of
  growth_at_lem l h =
      ap (λ (xs : List ℕ). get_or (growths_of r p xs) l 0) (split_at ws l 0 (omega arith))
      ∙ ap (λ (xs : List ℕ). get_or xs l 0) (growths_of_append r p (take l ws) (get_or ws l 0 ∷ drop (suc l) ws))
      ∙ get_or_at (growths_of r p (take l ws)) _ _ 0 l
      (growths_of_length r p (take l ws) ∙ length-take-le l ws (omega arith))
      ∙ ap₂ {C = ℕ} grown_by (phase_at l (omega arith)) (sym (ph.at l h))

  pub growths_row : (g : List ℕ) → length g ≡ m
      → ((l : ℕ) → l < m → get_or g l 0 ≡ grown_by (get_or ps l 0) (get_or ps (l + 1) 0)) → g ≡ growths_of r p ws
  growths_row g n e =
      ext_get_or 0 g (growths_of r p ws) (n ∙ sym (growths_of_length r p ws ∙ long))
      (λ l h. e l (omega arith) ∙ sym (growth_at_lem l (omega arith)))

  -- the bits of the e symbols from the k-th on, the first of all being number f
  bits_at : (f e k : ℕ) → k + e ≤ m
      → take (symbol_bits r * e) (drop (symbol_bits r * k) (heard r f p ws))
      ≡ heard r (f + k) (get_or ps k 0) (take e (drop k ws))
  bits_at f e k h =
      ap (λ (xs : List ℕ). take (symbol_bits r * e) (drop (symbol_bits r * k) xs))
      (ap (heard r f p) (sym (take-append-drop k ws)) ∙ heard_append r f p (take k ws) (drop k ws))
      ∙ ap (take (symbol_bits r * e))
      (drop_at (heard r f p (take k ws)) _ (symbol_bits r * k)
      (heard_length r f p (take k ws) ∙ ap (λ (n : ℕ). symbol_bits r * n) (length-take-le k ws (omega arith)))
      ∙ ap₂ {C = List ℕ} (λ n q. heard r n q (drop k ws))
      (ap (λ (n : ℕ). f + n) (length-take-le k ws (omega arith))) (phase_at k (omega arith))
      ∙ ap (heard r (f + k) (get_or ps k 0)) (sym (take-append-drop e (drop k ws)))
      ∙ heard_append r (f + k) (get_or ps k 0) (take e (drop k ws)) (drop e (drop k ws)))
      ∙ take_at (heard r (f + k) (get_or ps k 0) (take e (drop k ws))) _ (symbol_bits r * e)
      (heard_length r (f + k) (get_or ps k 0) (take e (drop k ws))
      ∙ ap (λ (n : ℕ). symbol_bits r * n) (length-take-le e (drop k ws) (rw length-drop (omega arith))))

  module _ (f : ℕ) (cs : List ℕ) (enough : m ≤ length cs)
      (codes : (l : ℕ) → l < m → get_or cs l 0 ≡ number_of (heard_bits r (f + l) (get_or ps l 0) (get_or ws l 0))) where
    packed_number : (e k : ℕ) → k + e ≤ m
        → packed (symbol_bits r) (take e (drop k cs)) ≡ number_of (heard r (f + k) (get_or ps k 0) (take e (drop k ws)))
    unfolding packed number_of heard
    packed_number zero k h = refl
    packed_number (suc e) k h =
        let w = get_or ws k 0 in
        let rest : packed (symbol_bits r) (take e (drop (suc k) cs))
        ≡ number_of (heard r (suc (f + k)) (phase_of r w) (take e (drop (suc k) ws))) =
        packed_number e (suc k) (omega arith)
        ∙ ap₂ {C = ℕ} (λ n q. number_of (heard r n q (take e (drop (suc k) ws)))) (add-suc f k)
        (ap (λ (j : ℕ). get_or ps j 0) (sym (add-one k)) ∙ ph.at k (omega arith)) in
        rw (drop-cons cs k 0 (omega arith), drop-cons ws k 0 (omega arith))
        (ap₂ {C = ℕ} (λ x y. x + 2 ^ symbol_bits r * y) (codes k (omega arith)) rest
        ∙ sym
        (number_append (heard_bits r (f + k) (get_or ps k 0) w)
        (heard r (suc (f + k)) (phase_of r w) (take e (drop (suc k) ws)))
        ∙ ap (λ (n : ℕ). number_of (heard_bits r (f + k) (get_or ps k 0) w) + 2 ^ n
        * number_of (heard r (suc (f + k)) (phase_of r w) (take e (drop (suc k) ws))))
        (heard_row r (f + k) (get_or ps k 0) w).0))

    pub octet_row : (n : ℕ) → m ≡ octet_symbols r * n → (o : ℕ) → o < n
        → octet_symbols r * o + octet_symbols r ≤ m
        → packed (symbol_bits r) (take (octet_symbols r) (drop (octet_symbols r * o) cs))
        ≡ get_or (octets_of n (heard r f p ws)) o 0
    octet_row n is o h l =
        packed_number (octet_symbols r) (octet_symbols r * o) l
        ∙ ap number_of
        (sym (bits_at f (octet_symbols r) (octet_symbols r * o) l)
        ∙ ap₂ {C = List ℕ} (λ a b. take a (drop b (heard r f p ws))) (octet_bits_lem r) (part_bits r o))
        ∙ sym (octet_at_lem n (heard r f p ws) o h)
