-- A spoiled symbol within the limit is decided as the word sent. Where another word's chip is v and the one sent w, the
-- sent word is ahead of the other by 0, 1 or 2 full chips as the two are the same, a quarter or a half turn apart; what
-- a lost chip takes from that is at most that, what a wrong one takes at most twice that. So for a weight t, twice the
-- wrong chips and the lost ones, at most 2 t is taken from the lead, and at most t and 2 for each half turn (`ahead`:
-- once over the length). Then one test of every difference of two words is computed (`apart_all`).
-- Assumes nothing.
use mathlib.Core.Path.{◌≡◌, sym, ap, ◌∙◌, subst}
use mathlib.Core.Bool.{Bool, true, false, not, ◌&&◌, ◌||◌}
use mathlib.Core.List.{List, [], ◌∷◌, map}
use Prim.Native.Nat.{ℕ, ◌+◌, ◌*◌, ◌/◌, ◌%◌, ◌≤◌, ◌<◌}
use native.Mathlib.Omega.{arith}
use borrow.Author.Tests.{ne_eqb}
use lib.Dec.{T, eqb, leb, ltb, leb→le, ltb→lt}
use lib.ListN.{length}
use lib.IntN.{ℤ, pos}
use Rattle.base.specs.Whole.{up, dn}
use Rattle.base.specs.Below.{Below}
use Rattle.base.proofs.Whole.{up_pos, dn_pos, add, lt_of}
use Rattle.base.proofs.Below.{below_head, below_tail}
use Rattle.base.proofs.Tests.{implies, implied, both_left, both_right, all_at}
use Rattle.rules_rates.specs.declared.Rate.{Rate}
use Rattle.rules_rates.specs.declared.Rate.TheVariants.{One, Two, Five, Eleven}
use Rattle.rules_rates.specs.Rates.{symbol_chips}
use Rattle.rules_chips.specs.declared.Counts.{Counts}
use Rattle.rules_chips.specs.Chips.{turned, hard_taken, taken_counts}
use Rattle.rules_symbols.specs.Words.{barker_word, cck_of, word_of}
use Rattle.rules_symbols.specs.Choice.{term, score, numbers, is_allowed, decided, lead_of}
use Rattle.rules_symbols.proofs.Words.{Phases, phases_tail, word_phases, word_length}
use Rattle.rules_symbols.proofs.Agreement.{one, agreeing, opposed}
use Rattle.rules_choosing.specs.Scores.{score_at, LeadsBy}
use Rattle.rules_choosing.proofs.Decided.{decided_leads_lem}
use Rattle.rules_choosing.proofs.Leads.{leads_by}
use Rattle.rules_choosing.proofs.Differences.{
  how_many,
  apart_of,
  difference,
  difference_below,
  difference_none,
  cck_agreeing,
  cck_opposed,
}
use Rattle.rules_damage.specs.Damage.{is_lost, is_wrong, wrong, lost}
use Rattle.rules_damage.specs.Plain.{KeepsLimit}

-- ---- one chip, then a symbol

-- y is ahead of z: of so many chips so many agree and so many are opposed, and so much weighs against it
record Ahead (z y : ℤ) (chips agree oppose weight : ℕ) : Type 0 where
  by_weight : up z + dn y + 1024 * (chips + oppose) ≤ up y + dn z + 1024 * (agree + 2 * weight)
  by_halves : up z + dn y + 1024 * (chips + oppose) ≤ up y + dn z + 1024 * (agree + weight + 2 * oppose)

abbrev hard : ℕ → Counts
hard x = taken_counts (hard_taken x)

abbrev agrees : ℕ → ℕ → ℕ
agrees v w = one (eqb v w)

abbrev opposes : ℕ → ℕ → ℕ
opposes v w = one (eqb (turned v 2) w)

abbrev weighs : ℕ → ℕ → ℕ
weighs w x = 2 * one (is_wrong w x) + one (is_lost x)

abbrev chip_ahead : ℕ → ℕ → ℕ → Bool
chip_ahead v w x =
    let z = term v (hard x) in
    let y = term w (hard x) in
    leb (up z + dn y + 1024 * (1 + opposes v w)) (up y + dn z + 1024 * (agrees v w + 2 * weighs w x))
    && leb (up z + dn y + 1024 * (1 + opposes v w))
    (up y + dn z + 1024 * (agrees v w + weighs w x + 2 * opposes v w))

chip_test : (v w x : ℕ) → v < 4 → w < 4 → x < 5 → T (chip_ahead v w x)
unfolding up dn
chip_test v w x hv hw hx =
    subst (λ (a : ℕ). T (chip_ahead a w x)) ev
    (subst (λ (b : ℕ). T (chip_ahead (j / 20) b x)) ew
    (subst (λ (c : ℕ). T (chip_ahead (j / 20) (j / 5 % 4) c)) ex
    (all_at (λ j. chip_ahead (j / 20) (j / 5 % 4) (j % 5)) 80 tt j (omega arith))))
  where
    j : ℕ
    j = 20 * v + 5 * w + x

    ev : (20 * v + 5 * w + x) / 20 ≡ v
    ev = omega arith

    ew : (20 * v + 5 * w + x) / 5 % 4 ≡ w
    ew = omega arith

    ex : (20 * v + 5 * w + x) % 5 ≡ x
    ex = omega arith

chip_ahead_lem : (v w x : ℕ) → v < 4 → w < 4 → x < 5
    → Ahead (term v (hard x)) (term w (hard x)) 1 (agrees v w) (opposes v w) (weighs w x)
chip_ahead_lem v w x hv hw hx =
    let z = term v (hard x) in
    let y = term w (hard x) in
    let a = leb (up z + dn y + 1024 * (1 + opposes v w)) (up y + dn z + 1024 * (agrees v w + 2 * weighs w x)) in
    let b = leb (up z + dn y + 1024 * (1 + opposes v w))
    (up y + dn z + 1024 * (agrees v w + weighs w x + 2 * opposes v w)) in
    let t = chip_test v w x hv hw hx in
    record { by_weight = leb→le _ _ (both_left a b t); by_halves = leb→le _ _ (both_right a b t) }

ahead_none : Ahead (pos 0) (pos 0) 0 0 0 0
ahead_none = record { by_weight = omega arith; by_halves = omega arith }

-- the counts of hard chips, and what weighs against the word sent
abbrev pub counts : List ℕ → List Counts
counts xs = map taken_counts (map hard_taken xs)

abbrev pub weight : List ℕ → List ℕ → ℕ
weight w xs = 2 * wrong w xs + lost xs

ahead : (v w xs : List ℕ) → Phases v → Phases w → Below 5 xs → length v ≡ length w → length xs ≡ length w
    → Ahead (score v (counts xs)) (score w (counts xs)) (length w) (agreeing v w) (opposed v w) (weight w xs)
unfolding score agreeing opposed wrong lost
ahead [] [] [] hv hw hx e f = ahead_none
ahead [] [] (x ∷ xs) hv hw hx e f = absurd (omega arith)
ahead [] (q ∷ w) xs hv hw hx e f = absurd (omega arith)
ahead (p ∷ v) [] xs hv hw hx e f = absurd (omega arith)
ahead (p ∷ v) (q ∷ w) [] hv hw hx e f = absurd (omega arith)
ahead (p ∷ v) (q ∷ w) (x ∷ xs) hv hw hx e f =
    let h = chip_ahead_lem p q x (hv.at 0) (hw.at 0) (below_head hx) in
    let k = ahead v w xs (phases_tail hv) (phases_tail hw) (below_tail hx) (omega arith) (omega arith) in
    record {
      by_weight = omega (
        arith,
        h.by_weight,
        k.by_weight,
        add (term p (hard x)) (score v (counts xs)),
        add (term q (hard x)) (score w (counts xs)),
      );
      by_halves = omega (
        arith,
        h.by_halves,
        k.by_halves,
        add (term p (hard x)) (score v (counts xs)),
        add (term q (hard x)) (score w (counts xs)),
      );
    }

-- ---- every other word is far enough away

-- the limit of a rate's symbols, as the table has it
abbrev pub limit_of : Rate → ℕ
limit_of One = 10
limit_of Two = 10
limit_of Five = 3
limit_of Eleven = 3

-- of so many chips so many agree and so many are opposed: a weight of at most l takes less than the lead
abbrev far_apart : ℕ → ℕ → ℕ → ℕ → Bool
far_apart l chips agree oppose =
    ltb (agree + 2 * l) (chips + oppose) || ltb (agree + l + 2 * oppose) (chips + oppose)

unequal : (n w : ℕ) → (n ≡ w → ⊥) → T (not (eqb n w))
unequal n w ne = subst (λ (b : Bool). T (not b)) (sym (ne_eqb n w ne)) tt

-- every CCK word, by the 255 differences; those of 5.5 Mbit/s are among them
abbrev cck_apart : ℕ → Bool
cck_apart d = implies (not (eqb d 0)) (far_apart 3 8 (how_many 0 (apart_of d)) (how_many 2 (apart_of d)))

cck_apart_lem : (n w : ℕ) → n < 256 → w < 256 → (n ≡ w → ⊥)
    → T (far_apart 3 8 (agreeing (cck_of n) (cck_of w)) (opposed (cck_of n) (cck_of w)))
cck_apart_lem n w hn hw ne =
    rw (cck_agreeing n w, cck_opposed n w)
    (differ (difference n w) (difference_below n w) (λ z. ne (difference_none n w hn hw z)))
  where
    differ : (d : ℕ) → d < 256 → (d ≡ 0 → ⊥) → T (far_apart 3 8 (how_many 0 (apart_of d)) (how_many 2 (apart_of d)))
    differ d h nz =
        unfold how_many in
        implied (not (eqb d 0)) (far_apart 3 8 (how_many 0 (apart_of d)) (how_many 2 (apart_of d)))
        (all_at cck_apart 256 tt d h) (unequal d 0 nz)

-- the four Barker words
abbrev barker_apart : ℕ → ℕ → Bool
barker_apart n w =
    implies (not (eqb n w))
    (far_apart 10 11 (agreeing (barker_word n) (barker_word w)) (opposed (barker_word n) (barker_word w)))

barker_apart_lem : (n w : ℕ) → n < 4 → w < 4 → (n ≡ w → ⊥)
    → T (far_apart 10 11 (agreeing (barker_word n) (barker_word w)) (opposed (barker_word n) (barker_word w)))
unfolding barker_word agreeing opposed
barker_apart_lem n w hn hw ne =
    let en : (4 * n + w) / 4 ≡ n = omega arith in
    let ew : (4 * n + w) % 4 ≡ w = omega arith in
    let t : T (barker_apart n w) = subst (λ (x : ℕ). T (barker_apart x w)) en
    (subst (λ (y : ℕ). T (barker_apart ((4 * n + w) / 4) y)) ew
    (all_at (λ j. barker_apart (j / 4) (j % 4)) 16 tt (4 * n + w) (omega arith))) in
    implied (not (eqb n w)) _ t (unequal n w ne)

apart_all : (r : Rate) (n w : ℕ) → n < numbers r → w < numbers r → (n ≡ w → ⊥)
    → T (far_apart (limit_of r) (symbol_chips r) (agreeing (word_of r n) (word_of r w)) (opposed (word_of r n) (word_of r w)))
apart_all One n w hn hw ne = barker_apart_lem n w hn hw ne
apart_all Two n w hn hw ne = barker_apart_lem n w hn hw ne
apart_all Five n w hn hw ne = cck_apart_lem n w hn hw ne
apart_all Eleven n w hn hw ne = cck_apart_lem n w hn hw ne

-- ---- the symbol
module _ (r : Rate) (w : ℕ) (xs : List ℕ) (h : w < numbers r) (a : T (is_allowed r w))
    (e : length xs ≡ symbol_chips r) (b : Below 5 xs)
    (few : KeepsLimit (limit_of r) (wrong (word_of r w) xs) (lost xs)) where
  -- every other word is behind by a full chip
  pub behind : (n : ℕ) → n < numbers r → (n ≡ w → ⊥)
      → up (score_at r (counts xs) n) + dn (score_at r (counts xs) w) + 1024
      ≤ up (score_at r (counts xs) w) + dn (score_at r (counts xs) n)
  behind n l ne =
      by (ltb (ag + 2 * limit_of r) (symbol_chips r + op)) (ltb (ag + limit_of r + 2 * op) (symbol_chips r + op))
      (ltb→lt _ _) (ltb→lt _ _) (apart_all r n w l h ne)
    where
      ag : ℕ
      ag = agreeing (word_of r n) (word_of r w)

      op : ℕ
      op = opposed (word_of r n) (word_of r w)

      k : Ahead (score_at r (counts xs) n) (score_at r (counts xs) w) (symbol_chips r) ag op (weight (word_of r w) xs)
      k = subst (λ (c : ℕ). Ahead (score_at r (counts xs) n) (score_at r (counts xs) w) c ag op (weight (word_of r w) xs))
          (word_length r w)
          (ahead (word_of r n) (word_of r w) xs (word_phases r n) (word_phases r w) b
          (word_length r n ∙ sym (word_length r w)) (e ∙ sym (word_length r w)))

      by : (s t : Bool) → (T s → ag + 2 * limit_of r < symbol_chips r + op)
          → (T t → ag + limit_of r + 2 * op < symbol_chips r + op) → T (s || t)
          → up (score_at r (counts xs) n) + dn (score_at r (counts xs) w) + 1024
          ≤ up (score_at r (counts xs) w) + dn (score_at r (counts xs) n)
      by true t f g u = omega (arith, f tt, k.by_weight, few)
      by false true f g u = omega (arith, g tt, k.by_halves, few)
      by false false f g u = absurd u

  pub decided_spoiled : decided r (counts xs) ≡ w
  decided_spoiled =
      decided_leads_lem r (counts xs) w h a
      (λ n l t ne. lt_of (score_at r (counts xs) n) (score_at r (counts xs) w) (omega (arith, behind n l ne)))

  -- and its lead is a full chip at least
  pub lead_spoiled : 1024 ≤ lead_of r (counts xs)
  lead_spoiled =
      let x : LeadsBy r (counts xs) w (lead_of r (counts xs))
      = subst (λ (v : ℕ). LeadsBy r (counts xs) v (lead_of r (counts xs))) decided_spoiled (leads_by r (counts xs)) in
      omega (
        arith,
        behind x.next x.among x.other,
        add (score_at r (counts xs) x.next) (pos (lead_of r (counts xs))),
        ap up x.by,
        ap dn x.by,
        up_pos (lead_of r (counts xs)),
        dn_pos (lead_of r (counts xs)),
      )
