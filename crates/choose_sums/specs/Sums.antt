-- Scores by sums of I and of Q apart: a Barker symbol's four by two sums, the sixteen of 5.5 Mbit/s by eight.
-- Definitions only. Assumes nothing.
-- working notion: of the code that chooses words; no promise needs it
use Rattle.std.specs.Prelude.{ℕ, ◌+◌, ◌*◌, Bool, true, false, List, [], ◌∷◌, get_or, ℤ, pos, neg_ℤ, ◌+ℤ◌}
use Rattle.base.specs.Tables.{tabulate}
use Rattle.rules_chips.specs.declared.Counts.{Counts}
use Rattle.rules_chips.specs.Chips.{pair}
use Rattle.rules_symbols.specs.Words.{barker_signs}
use Rattle.rules_choosing.specs.Keys.{key_of}

abbrev pub by_sign : Bool → ℤ → ℤ
by_sign true z = z
by_sign false z = neg_ℤ z

-- the sum of a row by signs
unfoldable pub signed : List Bool → List ℤ → ℤ
signed [] zs = pos 0
signed (s ∷ ss) [] = pos 0
signed (s ∷ ss) (z ∷ zs) = by_sign s z +ℤ signed ss zs

abbrev pub by_signs : List ℤ → ℤ
by_signs zs = signed barker_signs zs

-- a Barker symbol's sums over I and Q as the counts of one chip: it scores what the symbol does
abbrev pub as_chip : ℤ → ℤ → List Counts
as_chip i q = pair i q ∷ []

-- eight chips' counts of their rows of I and of Q
abbrev pub rows : List ℤ → List ℤ → List Counts
rows i q = tabulate (λ k. pair (get_or i k (pos 0)) (get_or q k (pos 0))) 8

-- the k-th of a row
abbrev at : List ℤ → ℕ → ℤ
at zs k = get_or zs k (pos 0)

-- the sums of four words over two rows, chips 1, 3, 5, 7 of s and 0, 2, 4, 6 of t: of I and Q the scores of the first
-- four allowed words of 5.5 Mbit/s, of Q and I those of the next four, the last two of them first
abbrev pub crossed : List ℤ → List ℤ → List ℤ
crossed s t =
    (at t 0 +ℤ (at s 1 +ℤ (at t 2 +ℤ (neg_ℤ (at s 3)
    +ℤ (at t 4 +ℤ (at s 5 +ℤ (neg_ℤ (at t 6) +ℤ (at s 7 +ℤ pos 0))))))))
    ∷ (neg_ℤ (at t 0) +ℤ (neg_ℤ (at s 1) +ℤ (neg_ℤ (at t 2) +ℤ (at s 3
    +ℤ (at t 4 +ℤ (at s 5 +ℤ (neg_ℤ (at t 6) +ℤ (at s 7 +ℤ pos 0))))))))
    ∷ (neg_ℤ (at t 0) +ℤ (at s 1 +ℤ (neg_ℤ (at t 2) +ℤ (neg_ℤ (at s 3)
    +ℤ (neg_ℤ (at t 4) +ℤ (at s 5 +ℤ (at t 6 +ℤ (at s 7 +ℤ pos 0))))))))
    ∷ (at t 0 +ℤ (neg_ℤ (at s 1) +ℤ (at t 2 +ℤ (at s 3
    +ℤ (neg_ℤ (at t 4) +ℤ (at s 5 +ℤ (at t 6 +ℤ (at s 7 +ℤ pos 0))))))))
    ∷ []

-- the better key of pair j
abbrev pub key_at : List ℤ → ℕ → ℕ
key_at h j = key_of 8 j (get_or h j (pos 0))

-- n numbers of a row from a place on, so many apart; of sixteen symbols abreast, whose rows are sixteen of I and then
-- sixteen of Q, those of one axis
abbrev pub spaced : ℕ → List ℤ → ℕ → ℕ → List ℤ
spaced apart row from n = tabulate (λ j. get_or row (from + apart * j) (pos 0)) n

abbrev pub every_row : List ℤ → ℕ → ℕ → List ℤ
every_row row from n = spaced 32 row from n
