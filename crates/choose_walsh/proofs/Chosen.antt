-- The word that the search ends with is the one decided. A key within a group and the group's place make one key of all
-- 128 pairs of opposite words: 16 times the one and 15 less the other. The largest of those is the search's.
-- The next is, by scores, the largest of all pairs but the winner's, so the two give the lead.
--     chosen, led   of a column, from what has entered, the first stage and the search's end
--     keyed         what a word and its lead are read off
-- Assumes nothing.
use mathlib.Core.Path.{◌≡◌, refl, sym, ap, ◌∙◌, subst}
use mathlib.Core.List.{List}
use mathlib.Core.Logic.{◌⊎◌, inl, inr, ⊎_elim}
use Prim.Native.Nat.{ℕ, ◌+◌, ◌*◌, ◌-◌, ◌/◌, ◌%◌, ◌≤◌, ◌<◌}
use native.Mathlib.Decide.{dec_lt}
use native.Mathlib.Omega.{arith}
use lib.Dec.{T, lit<}
use lib.IntN.{ℤ, pos, negsuc, nat_abs, ◌+ℤ◌}
use lib.Signed.{non_neg, ◌≤ℤ◌}
use Rattle.base.specs.Whole.{up, dn}
use Rattle.base.proofs.Whole.{add, of_le, of_lt, le_of, up_pos, dn_pos}
use Rattle.rules_rates.specs.declared.Rate.TheVariants.{Eleven}
use Rattle.rules_chips.specs.declared.Counts.{Counts}
use Rattle.rules_symbols.specs.Choice.{decided}
use Rattle.rules_choosing.specs.Scores.{NextAs}
use Rattle.rules_choosing.specs.Keys.{Largest}
use Rattle.rules_choosing.proofs.KeyLaws.{Better, number_below, number_by}
use Rattle.rules_choosing.proofs.Leads.{runner_up, runner_next, lead_is}
use Rattle.choose_walsh.specs.Rows.{eleven_at, eleven_lead, Entered, Paired}
use Rattle.choose_walsh.specs.Search.{
  group_top,
  group_next,
  Held,
  Seeks,
  Sought,
  held_at,
  Keyed,
  word_of_key,
  size_of,
  lead_of_keys,
}
use Rattle.choose_walsh.proofs.Tops.{Lifted, sides}
use Rattle.choose_walsh.proofs.Pairs.{lifted_key, number_read, lifted_one, raise, up_minus, size_lifted}
use Rattle.choose_walsh.proofs.Groups.{key_in, Raised, TwoKeys, two_keys, top_above}
use Rattle.choose_walsh.proofs.Pairs as pairs

-- ---- a column
module _ (row z a : List ℤ) (l : ℕ) (few : l < 16) (h : Entered row z) (p : Paired z a) where
  abbrev f : ℕ → ℤ
  f = pairs.f row z a l few h p

  abbrev y : ℕ → Counts
  y = pairs.y row z a l few h p

  abbrev x : ℕ → Counts
  x = pairs.x row z a l few h p

  abbrev symbol : List Counts
  symbol = pairs.symbol row z a l few h p

  abbrev key : ℕ → ℕ
  key = pairs.key row z a l few h p

  abbrev one_of : (j : ℕ) → j < 128 → Better 128 f j (key j)
  one_of = pairs.one_of row z a l few h p

  abbrev raised : (g : ℕ) → g < 16 → Raised (y g) (x g)
  raised = pairs.raised row z a l few h p

  module _ (o : Held) (s : Seeks (group_top a l) (group_next a l) 16 o) where
    abbrev v : ℤ
    v = o.first

    abbrev g : ℕ
    g = o.group

    abbrev t : ℤ
    t = o.second

    abbrev two : (j : ℕ) → j < 16 → TwoKeys (y j) (x j)
    two j b = two_keys (y j) (x j) (raised j b)

    here : g < 16
    here = (s.leads.some (lit< tt)).0

    is : v ≡ group_top a l g
    is = (s.leads.some (lit< tt)).1

    abbrev best : TwoKeys (y g) (x g)
    best = two g here

    lifted_best : Lifted 11 best.top v
    lifted_best = subst (λ (u : ℤ). Lifted 11 best.top u) (sym is) best.top_lifted

    abbrev all : ℕ
    all = 16 * best.top + (15 - g)

    -- no group's key is above, and those of the groups before are below
    at_most_lem : (j : ℕ) (b : j < 16) → 16 * (two j b).top + (15 - j) ≤ all
    at_most_lem j b = by (dec_lt j g)
      where
        by : Dec (j < g) → 16 * (two j b).top + (15 - j) ≤ all
        by (yes q) =
            omega (
              arith,
              here,
              lifted_best.is,
              (two j b).top_lifted.is,
              of_lt (group_top a l j) v (s.leads.first j q),
            )
        by (no q) =
            omega (
              arith,
              here,
              lifted_best.is,
              (two j b).top_lifted.is,
              of_le (group_top a l j) v (s.leads.top j b),
            )

    abbrev won : ℕ
    won = 16 * best.largest.p + g

    won_low : won < 128
    won_low = omega (arith, here, best.largest.to)

    won_is : all ≡ key won
    won_is =
        ap (λ (n : ℕ). 16 * n + (15 - g)) best.largest.is
        ∙ sym (pairs.whole row z a l few h p best.largest.p g best.largest.to here)

    largest : Largest key 0 128 all
    largest = record { p = won; from = omega arith; to = won_low; is = won_is; top = λ j b k. one j k }
      where
        one : (j : ℕ) → j < 128 → key j ≤ all
        one j k =
            let e : 16 * (j / 16) + j % 16 ≡ j = omega arith in
            let bm : j / 16 < 8 = omega arith in
            let bo : j % 16 < 16 = omega arith in
            rw (sym e) (rw (pairs.whole row z a l few h p (j / 16) (j % 16) bm bo)
            (omega (arith, at_most_lem (j % 16) bo, (two (j % 16) bo).largest.top (j / 16) (omega arith) bm)))

    number_is : decided Eleven symbol ≡ 255 - all % 256
    unfolding decided
    number_is = number_by 128 f key one_of largest

    above : pos 0 ≤ℤ v
    above = subst (λ (u : ℤ). pos 0 ≤ℤ u) (sym is) (top_above (y g) (x g) (raised g here))

    key_natural : best.top ≡ nat_abs v + 11
    key_natural = lifted_key v best.top lifted_best above

    pub chosen : word_of_key v g ≡ eleven_at row l
    chosen = sym (number_is ∙ number_read (nat_abs v) best.top g key_natural here)

    -- ---- the lead
    abbrev winner : Better 128 f won (key won)
    winner = one_of won won_low

    decided_is : decided Eleven symbol ≡ winner.number
    decided_is =
        number_is ∙ last all winner.size winner.number (won_is ∙ winner.is)
        (number_below 128 f won_low winner)
      where
        last : (k s n : ℕ) → k ≡ 256 * s + (255 - n) → n < 256 → 255 - k % 256 ≡ n
        last k s n e b = omega arith

    -- the next key, and its score
    abbrev next : ℕ
    next = nat_abs (t +ℤ pos 11)

    lifted_next : Lifted 11 next t
    lifted_next = size_lifted t s.follows.low

    -- the score of another pair is not above it
    others_under : (j : ℕ) (b : j < 128) → (j ≡ won → ⊥) → (one_of j b).size ≤ next / 16
    others_under j b d = rw (pairs.size_is row z a l few h p j b) (by (dec_lt i g) (dec_lt g i))
      where
        i : ℕ
        i = j % 16

        bi : j % 16 < 16
        bi = omega arith

        bm : j / 16 < 8
        bm = omega arith

        far : (j % 16 ≡ g → ⊥) → key_in (y (j % 16)) (x (j % 16)) (j / 16) / 16 ≤ next / 16
        far ne =
            omega (
              arith,
              lifted_next.is,
              (two (j % 16) bi).top_lifted.is,
              (two (j % 16) bi).largest.top (j / 16) (omega arith) bm,
              of_le (group_top a l (j % 16)) t (s.follows.others (j % 16) bi ne),
            )

        near : j % 16 ≡ g → key_in (y (j % 16)) (x (j % 16)) (j / 16) / 16 ≤ next / 16
        near e = rw e (omega (
          arith,
          lifted_next.is,
          best.next_lifted.is,
          best.over (j / 16) bm (λ q. d (placed j best.largest.p g q e)),
          of_le (group_next a l g) t (s.follows.nexts g here),
        ))
          where
            placed : (j m g : ℕ) → j / 16 ≡ m → j % 16 ≡ g → j ≡ 16 * m + g
            placed j m g q e = omega arith

        by : Dec (j % 16 < g) → Dec (g < j % 16) → key_in (y (j % 16)) (x (j % 16)) (j / 16) / 16 ≤ next / 16
        by (yes q) r = far (λ e. omega arith)
        by (no q) (yes r) = far (λ e. omega arith)
        by (no q) (no r) = near (omega arith)

    -- the score of the word next to the one decided
    abbrev second : ℕ
    second = runner_up Eleven symbol

    after : NextAs Eleven symbol (decided Eleven symbol) second
    after = runner_next Eleven symbol

    -- it is not above
    second_under : f second ≤ℤ pos (next / 16)
    second_under = by (dec_lt second 128)
      where
        low : {r : ℤ} → r ≤ℤ pos 0 → r ≤ℤ pos (next / 16)
        low {r} k =
            le_of r (pos (next / 16))
            (omega (arith, of_le r (pos 0) k, up_pos 0, dn_pos 0, up_pos (next / 16), dn_pos (next / 16)))

        of_pair : (j : ℕ) (b : j < 128) → (second ≡ j) ⊎ (second ≡ j + 128) → f second ≤ℤ pos (next / 16)
        of_pair j b side = same (dec_lt second (one_of j b).number) (dec_lt (one_of j b).number second)
          where
            other : (second ≡ (one_of j b).number → ⊥) → f second ≤ℤ pos (next / 16)
            other ne = low ((one_of j b).worse second side ne)

            lost : second ≡ (one_of j b).number → j ≡ won → ⊥
            lost e q = after.other (e ∙ pairs.alike row z a l few h p j won b won_low q ∙ sym decided_is)

            this : second ≡ (one_of j b).number → f second ≤ℤ pos (next / 16)
            this e = subst (λ (r : ℤ). r ≤ℤ pos (next / 16)) (sym (ap f e ∙ (one_of j b).score))
                (raise (one_of j b).size (next / 16) (others_under j b (lost e)))

            same : Dec (second < (one_of j b).number) → Dec ((one_of j b).number < second) → f second ≤ℤ pos (next / 16)
            same (yes q) r = other (λ e. omega arith)
            same (no q) (yes r) = other (λ e. omega arith)
            same (no q) (no r) = this (omega arith)

        by : Dec (second < 128) → f second ≤ℤ pos (next / 16)
        by (yes q) = of_pair second q (inl refl)
        by (no q) = of_pair (second - 128) (omega (arith, after.among)) (inr (omega arith))

    -- nor below: the better word of each other pair is one of the others
    pair_under : (j : ℕ) (b : j < 128) → (j ≡ won → ⊥) → (one_of j b).size + dn (f second) ≤ up (f second)
    pair_under j b d =
        omega (
          arith,
          of_le (pos (one_of j b).size) (f second)
              (subst (λ (r : ℤ). r ≤ℤ f second) (one_of j b).score
              (after.top (one_of j b).number (number_below 128 f b (one_of j b)) tt
              (λ e. apart j won (one_of j b).number winner.number (e ∙ decided_is) b won_low d (one_of j b).one_of
              winner.one_of))),
          up_pos (one_of j b).size,
          dn_pos (one_of j b).size,
        )
      where
        apart : (i j n m : ℕ) → n ≡ m → i < 128 → j < 128 → (i ≡ j → ⊥) → (n ≡ i) ⊎ (n ≡ i + 128)
            → (m ≡ j) ⊎ (m ≡ j + 128) → ⊥
        apart i j n m e b c d (inl x) (inl y) = omega arith
        apart i j n m e b c d (inl x) (inr y) = omega arith
        apart i j n m e b c d (inr x) (inl y) = omega arith
        apart i j n m e b c d (inr x) (inr y) = omega arith

    natural : dn (f second) ≡ 0
    natural = by (dec_lt 0 won)
      where
        none : (z : ℤ) → dn z ≤ up z → dn z ≡ 0
        none z k = ⊎_elim (λ e. omega arith) (λ e. omega arith) (sides z)

        by : Dec (0 < won) → dn (f second) ≡ 0
        by (yes q) = none (f second) (omega (arith, pair_under 0 (lit< tt) (λ e. omega arith)))
        by (no q) = none (f second) (omega (arith, pair_under 1 (lit< tt) (λ e. omega arith)))

    key_under : (m j : ℕ) → m < 8 → j < 16 → (16 * m + j ≡ won → ⊥) → key_in (y j) (x j) m / 16 ≤ up (f second)
    key_under m j b k d =
        let c : 16 * m + j < 128 = omega arith in
        omega (arith, pairs.size_at_lem row z a l few h p m j b k c, pair_under (16 * m + j) c d)

    next_under : next / 16 ≤ up (f second)
    next_under =
        let k = s.follows.least (pos (16 * up (f second) + 4)) low others nexts in
        omega (
          arith,
          lifted_next.is,
          of_le t (pos (16 * up (f second) + 4)) k,
          up_pos (16 * up (f second) + 4),
          dn_pos (16 * up (f second) + 4),
        )
      where
        below : {n : ℕ} {r : ℤ} → Lifted 11 n r → n / 16 ≤ up (f second) → r ≤ℤ pos (16 * up (f second) + 4)
        below {n} {r} h k =
            le_of r (pos (16 * up (f second) + 4))
            (omega (arith, h.is, up_pos (16 * up (f second) + 4), dn_pos (16 * up (f second) + 4)))

        low : negsuc 1 ≤ℤ pos (16 * up (f second) + 4)
        low = record { le = tt }

        top_under : (j : ℕ) (b : j < 16) → (j ≡ g → ⊥) → (two j b).top / 16 ≤ up (f second)
        top_under j b ne =
            let w = (two j b).largest in
            omega (arith, w.is, key_under w.p j w.to b (λ e. ne (groups w.p j best.largest.p g e b here)))
          where
            groups : (m i n k : ℕ) → 16 * m + i ≡ 16 * n + k → i < 16 → k < 16 → i ≡ k
            groups m i n k e b c = omega arith

        others : (j : ℕ) → j < 16 → (j ≡ g → ⊥) → group_top a l j ≤ℤ pos (16 * up (f second) + 4)
        others j b ne = below (two j b).top_lifted (top_under j b ne)

        here_under : best.next / 16 ≤ up (f second)
        here_under = best.least (up (f second))
            (λ m b ne. key_under m g b here (λ e. ne (words m best.largest.p g e)))
          where
            words : (m n k : ℕ) → 16 * m + k ≡ 16 * n + k → m ≡ n
            words m n k e = omega arith

        far : (j : ℕ) → j < 16 → (j ≡ g → ⊥) → group_next a l j ≤ℤ pos (16 * up (f second) + 4)
        far j b ne =
            let low : (two j b).next / 16 ≤ up (f second) = omega (arith, top_under j b ne, (two j b).below) in
            below (two j b).next_lifted low

        nexts : (j : ℕ) → j < 16 → group_next a l j ≤ℤ pos (16 * up (f second) + 4)
        nexts j b = by (dec_lt j g) (dec_lt g j)
          where
            by : Dec (j < g) → Dec (g < j) → group_next a l j ≤ℤ pos (16 * up (f second) + 4)
            by (yes q) r = far j b (λ e. omega arith)
            by (no q) (yes r) = far j b (λ e. omega arith)
            by (no q) (no r) =
                let e : g ≡ j = omega arith in
                subst (λ (i : ℕ). group_next a l i ≤ℤ pos (16 * up (f second) + 4)) e
                (below best.next_lifted here_under)

    -- the score of the word decided
    from_two : negsuc 1 ≤ℤ v
    from_two = le_of (negsuc 1) v (omega (arith, of_le (pos 0) v above, up_pos 0, dn_pos 0, up_minus))

    first_size : winner.size ≡ size_of v
    first_size =
        pairs.size_at_lem row z a l few h p best.largest.p g best.largest.to here won_low
        ∙ ap (λ (n : ℕ). n / 16) (sym best.largest.is ∙ lifted_one lifted_best (size_lifted v from_two))

    pub led : lead_of_keys v t ≡ eleven_lead row l
    led =
        let e = lead_is Eleven symbol second after in
        let w : f (decided Eleven symbol) ≡ pos (size_of v) = ap f decided_is ∙ winner.score ∙ ap pos first_size in
        let sum = e ∙ w in
        omega (
          arith,
          add (f second) (pos (eleven_lead row l)),
          ap up sum,
          ap dn sum,
          up_pos (eleven_lead row l),
          dn_pos (eleven_lead row l),
          up_pos (size_of v),
          dn_pos (size_of v),
          natural,
          next_under,
          of_le (f second) (pos (next / 16)) second_under,
          up_pos (next / 16),
          dn_pos (next / 16),
        )

    -- what they are read off
    pub order : t ≤ℤ v
    order = s.follows.least v from_two (λ j b d. s.leads.top j b) under
      where
        under : (j : ℕ) → j < 16 → group_next a l j ≤ℤ v
        under j b =
            let t = two j b in
            le_of (group_next a l j) v
            (omega (
              arith,
              t.next_lifted.is,
              t.top_lifted.is,
              t.below,
              of_le (group_top a l j) v (s.leads.top j b),
            ))

    pub first_natural : T (non_neg v)
    first_natural = plain v above
      where
        plain : (z : ℤ) → pos 0 ≤ℤ z → T (non_neg z)
        plain (pos n) k = tt
        plain (negsuc n) k = absurd k.le

pub keyed : {row z a first second : List ℤ} {at : List ℕ} → Entered row z → Paired z a → Sought a 16 first second at
    → Keyed first second at
keyed {row} {z} {a} {first} {second} {at} h p s = record {
  first_long = s.first_long;
  second_long = s.second_long;
  at_long = s.at_long;
  key = λ l few. first_natural row z a l few h p (held_at first second at l) (s.each l few);
  place = λ l few. ((s.each l few).leads.some (lit< tt)).0;
  next = λ l few. (s.each l few).follows.low;
  order = λ l few. order row z a l few h p (held_at first second at l) (s.each l few);
}
