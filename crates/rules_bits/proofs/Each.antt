-- One word of a row of words, at any rate: its bits and its growth, by the word and the phase before it.
--     before        the phase that word j grows from: that of the word before it, of the first the one handed in
--     heard_bit     a bit of word j is that bit of its own
--     growth_of     how far word j grew
--     last_heard_lem    the phase of the last word
--     number_field  the number of some bits in a row, bit by bit
--     octet_of_lem      octet j of a row of bits
-- By induction on the words. Assumes nothing.
use mathlib.Core.Path.{◌≡◌, refl, sym, ap, ◌∙◌}
use mathlib.Core.List.{List, [], ◌∷◌}
use Prim.Native.Nat.{ℕ, zero, suc, ◌+◌, ◌*◌, ◌≤◌, ◌<◌}
use native.Mathlib.Nat.{mul-zero, mul-suc}
use native.Mathlib.Omega.{arith}
use lib.ListN.{length, get_or, take, drop, length-drop, get_or-append}
use lib.Seq.{length-take-le, get_or-append-add, get_or-take, get_or-drop, drop-drop}
use Rattle.base.specs.Tables.{tabulate}
use Rattle.base.proofs.Tables.{as_table, tabulate_ext}
use Rattle.rules_rates.specs.declared.Rate.{Rate}
use Rattle.rules_rates.specs.Rates.{symbol_bits}
use Rattle.rules_symbols.specs.Words.{phase_of}
use Rattle.rules_bits.specs.Bits.{number_of, octets_of}
use Rattle.rules_bits.specs.Growths.{grown_by, heard_bits, heard, growths_of, last_heard}
use Rattle.rules_bits.proofs.Heard.{heard_row}

abbrev pub before : Rate → ℕ → List ℕ → ℕ → ℕ
before r p ns zero = p
before r p ns (suc j) = phase_of r (get_or ns j 0)

before_next : (r : Rate) (p n : ℕ) (ns : List ℕ) (j : ℕ) → before r p (n ∷ ns) (suc j) ≡ before r (phase_of r n) ns j
before_next r p n ns zero = refl
before_next r p n ns (suc j) = refl

pub heard_bit : (r : Rate) (k p : ℕ) (ns : List ℕ) (j i : ℕ) → j < length ns → i < symbol_bits r
    → get_or (heard r k p ns) (symbol_bits r * j + i) 0 ≡ get_or (heard_bits r (k + j) (before r p ns j) (get_or ns j 0)) i 0
unfolding heard
heard_bit r k p [] j i h l = absurd (omega arith)
heard_bit r k p (n ∷ ns) zero i h l =
    let e : symbol_bits r * 0 + i ≡ i = omega (arith, mul-zero (symbol_bits r)) in
    let f : k + 0 ≡ k = omega arith in
    rw (e, f)
    (get_or-append (heard_bits r k p n) (heard r (suc k) (phase_of r n) ns) 0 i (omega (arith, (heard_row r k p n).0)))
heard_bit r k p (n ∷ ns) (suc j) i h l =
    let b = symbol_bits r in
    let row = heard_bits r k p n in
    let e : b * suc j + i ≡ length row + (b * j + i) = omega (arith, mul-suc b j, (heard_row r k p n).0) in
    let f : k + suc j ≡ suc k + j = omega arith in
    rw (e, f)
    (get_or-append-add row (heard r (suc k) (phase_of r n) ns) (b * j + i) 0
    ∙ heard_bit r (suc k) (phase_of r n) ns j i (omega arith) l
    ∙ ap (λ (q : ℕ). get_or (heard_bits r (suc k + j) q (get_or ns j 0)) i 0) (sym (before_next r p n ns j)))

pub growth_of : (r : Rate) (p : ℕ) (ns : List ℕ) (j : ℕ) → j < length ns
    → get_or (growths_of r p ns) j 0 ≡ grown_by (before r p ns j) (phase_of r (get_or ns j 0))
unfolding growths_of
growth_of r p [] j h = absurd (omega arith)
growth_of r p (n ∷ ns) zero h = refl
growth_of r p (n ∷ ns) (suc j) h =
    growth_of r (phase_of r n) ns j (omega arith)
    ∙ ap (λ (q : ℕ). grown_by q (phase_of r (get_or ns j 0))) (sym (before_next r p n ns j))

pub last_heard_lem : (r : Rate) (p : ℕ) (ns : List ℕ) → last_heard r p ns ≡ before r p ns (length ns)
unfolding last_heard
last_heard_lem r p [] = refl
last_heard_lem r p (n ∷ ns) = last_heard_lem r (phase_of r n) ns ∙ sym (before_next r p n ns (length ns))

pub number_field : (from count : ℕ) (bs : List ℕ) → from + count ≤ length bs
    → number_of (take count (drop from bs)) ≡ number_of (tabulate (λ i. get_or bs (from + i) 0) count)
number_field from count bs h =
    ap number_of
    (as_table part count 0 (length-take-le count (drop from bs) (omega (arith, length-drop from bs)))
    ∙ tabulate_ext (λ i. get_or part i 0) (λ i. get_or bs (from + i) 0) count
    (λ i l. get_or-take count (drop from bs) i 0 l ∙ get_or-drop from bs i 0))
  where
    part : List ℕ
    part = take count (drop from bs)

pub octet_of_lem : (n j : ℕ) (bs : List ℕ) → j < n → get_or (octets_of n bs) j 0 ≡ number_of (take 8 (drop (8 * j) bs))
unfolding octets_of
octet_of_lem zero j bs h = absurd (omega arith)
octet_of_lem (suc n) zero bs h = refl
octet_of_lem (suc n) (suc j) bs h =
    let e : 8 + 8 * j ≡ 8 * suc j = omega arith in
    octet_of_lem n j (drop 8 bs) (omega arith)
    ∙ ap (λ (x : List ℕ). number_of (take 8 x)) (drop-drop (8 * j) 8 bs ∙ ap (λ (i : ℕ). drop i bs) e)
