-- The fast Walsh structure: a butterfly makes four complex numbers of two, and a last one gives the keys of sixteen
-- words.
-- Definitions only. Assumes nothing.
-- working notion: of the butterflies; no promise needs it
use Rattle.std.specs.Prelude.{ℕ, [], ◌∷◌, get_or, cond, ℤ, pos, negsuc, neg_ℤ, nat_abs, ◌+ℤ◌, ◌-ℤ◌}
use Rattle.std.specs.Int.Signed.{lt_z}
use Rattle.rules_chips.specs.declared.Counts.{Counts}
use Rattle.rules_chips.specs.Chips.{pair, nothing}
use Rattle.rules_choosing.specs.Keys.{larger, smaller}

-- the sum of two, and one turned back by r quarter turns
abbrev pub plus : Counts → Counts → Counts
plus a b = pair (a.i +ℤ b.i) (a.q +ℤ b.q)

abbrev pub back : ℕ → Counts → Counts
back r x =
    get_or
    (x ∷ pair x.q (neg_ℤ x.i) ∷ pair (neg_ℤ x.i) (neg_ℤ x.q) ∷ pair (neg_ℤ x.q) x.i ∷ [])
    r nothing

-- output r of a butterfly: y and x turned back by r
abbrev pub fly : Counts → Counts → ℕ → Counts
fly y x r = plus y (back r x)

-- a, or -a where y is below 0; and what such a number adds to the magnitude of y: the larger of y + a and y - a in
-- magnitude, the second two places behind
unfoldable pub sided : ℤ → ℤ → ℤ
sided y a = cond (lt_z y (pos 0)) (neg_ℤ a) a

unfoldable pub credit : ℤ → ℤ
credit u = larger u (negsuc 1 -ℤ u)

-- the larger key of the words whose sums are y + a and y - a and their opposites, and that of those with b, one place
-- behind: the larger of the two, and the other
unfoldable pub four_top : ℤ → ℤ → ℤ → ℤ
four_top y a b = pos (nat_abs y) +ℤ larger (credit (sided y a)) (credit (sided y b) -ℤ pos 1)

unfoldable pub four_next : ℤ → ℤ → ℤ → ℤ
four_next y a b = pos (nat_abs y) +ℤ smaller (credit (sided y a)) (credit (sided y b) -ℤ pos 1)

-- of all words that y and x make, p1 being 0 and 1, the latter four behind: the largest key, and the next
unfoldable pub top_of : Counts → Counts → ℤ
top_of y x = larger (four_top y.i x.i x.q) (four_top y.q x.q (neg_ℤ x.i) -ℤ pos 4)

unfoldable pub next_of : Counts → Counts → ℤ
next_of y x =
    larger (smaller (four_top y.i x.i x.q) (four_top y.q x.q (neg_ℤ x.i) -ℤ pos 4))
    (larger (four_next y.i x.i x.q) (four_next y.q x.q (neg_ℤ x.i) -ℤ pos 4))
