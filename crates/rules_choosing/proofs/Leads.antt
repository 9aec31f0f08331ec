-- The lead of a choice, at every rate: what the best of the other words lacks of the winning score. It is never below
-- 0, every other word is behind by at least so much and one by just so much, and it is 0 at a tie only.
--     lead_is, lead_by      from any word that is next to the one decided
--     leads_by, leads_once  what it says of the others, and of no other number
--     lead_tie, tied        0 exactly at a tie
-- Assumes nothing.
use mathlib.Core.Path.{◌≡◌, refl, sym, ap, ◌∙◌, subst}
use mathlib.Core.Bool.{Bool, true, false, not, cond, ◌&&◌}
use mathlib.Core.List.{List, [], ◌∷◌, ◌++◌}
use Prim.Native.Nat.{ℕ, zero, suc, ◌-◌, ◌≤◌, ◌<◌}
use native.Mathlib.Decide.{dec_lt}
use native.Mathlib.Omega.{arith}
use lib.Dec.{T, eqb, lit<}
use borrow.Author.Tests.{ne_eqb, eq-eqb}
use lib.IntN.{ℤ, pos, negsuc, neg_ℤ, nat_abs, ◌+ℤ◌, ◌-ℤ◌}
use lib.Signed.{◌≤ℤ◌}
use Rattle.base.specs.Whole.{up, dn}
use Rattle.base.proofs.Whole.{add, neg_up, neg_dn, up_pos, dn_pos, same, of_le, le_of}
use Rattle.base.proofs.Tests.{both_left, both_right}
use Rattle.rules_rates.specs.declared.Rate.{Rate}
use Rattle.rules_rates.specs.declared.Rate.TheVariants.{One, Two, Five, Eleven}
use Rattle.rules_chips.specs.declared.Counts.{Counts}
use Rattle.rules_symbols.specs.Choice.{numbers, is_allowed, those, others, first_largest, decided, lead_of}
use Rattle.rules_choosing.specs.Scores.{score_at, BestOf, DecidedAs, NextTo, NextAs, LeadsBy}
use Rattle.rules_choosing.proofs.Best.{first_best, some_of}
use Rattle.rules_choosing.proofs.Decided.{decided_best, decided_is}

-- ---- the others of those that a test allows are those that a narrower test does
abbrev besides : (ℕ → Bool) → ℕ → ℕ → Bool
besides ok w j = ok j && not (eqb j w)

others_append : (w : ℕ) (xs ys : List ℕ) → others w (xs ++ ys) ≡ others w xs ++ others w ys
unfolding others
others_append w [] ys = refl
others_append w (x ∷ xs) ys = by (eqb x w) (others_append w xs ys)
  where
    by : (b : Bool) → others w (xs ++ ys) ≡ others w xs ++ others w ys
        → cond b (others w (xs ++ ys)) (x ∷ others w (xs ++ ys))
        ≡ cond b (others w xs) (x ∷ others w xs) ++ others w ys
    by true e = e
    by false e = ap (λ (zs : List ℕ). x ∷ zs) e

others_those : (ok : ℕ → Bool) (w n : ℕ) → others w (those ok n) ≡ those (besides ok w) n
unfolding those others
others_those ok w zero = refl
others_those ok w (suc n) =
    others_append w (those ok n) (cond (ok n) (n ∷ []) []) ∙ (λ i. others_those ok w n i ++ last (ok n) i)
  where
    flip : (b : Bool) → cond b [] (n ∷ []) ≡ cond (not b) (n ∷ []) []
    flip true = refl
    flip false = refl

    last : (a : Bool) → others w (cond a (n ∷ []) []) ≡ cond (a && not (eqb n w)) (n ∷ []) []
    last true = flip (eqb n w)
    last false = refl

both : (a b : Bool) → T a → T b → T (a && b)
both true b t u = u
both false b t u = absurd t

beside : (ok : ℕ → Bool) (r m : ℕ) → T (ok m) → (m ≡ r → ⊥) → T (besides ok r m)
beside ok r m t ne = both (ok m) (not (eqb m r)) t (subst (λ (b : Bool). T (not b)) (sym (ne_eqb m r ne)) tt)

differs : (m r : ℕ) → T (not (eqb m r)) → m ≡ r → ⊥
differs m r t e = subst (λ (b : Bool). T (not b)) (eq-eqb m r e) t

-- the first largest of the others is next, where there is another
others_next : (ok : ℕ → Bool) (n : ℕ) (f : ℕ → ℤ) (r m : ℕ) → m < n → T (ok m) → (m ≡ r → ⊥)
    → NextTo ok n f r (first_largest f (others r (those ok n)))
others_next ok n f r m l t ne = rw (others_those ok r n) (record {
  among = best.among;
  allowed = both_left (ok s) (not (eqb s r)) best.allowed;
  other = differs s r (both_right (ok s) (not (eqb s r)) best.allowed);
  top = λ j h a d. best.top j h (beside ok r j a d);
})
  where
    s : ℕ
    s = first_largest f (those (besides ok r) n)

    best : BestOf (besides ok r) n f s
    best = first_best (besides ok r) f n (some_of (besides ok r) n m l (beside ok r m t ne))

-- ---- at every rate there is another allowed word
record Another (r : Rate) (w : ℕ) : Type 0 where
  m : ℕ
  among : m < numbers r
  allowed : T (is_allowed r m)
  other : m ≡ w → ⊥

one_of : (r : Rate) (a b : ℕ) → a < numbers r → b < numbers r → T (is_allowed r a) → T (is_allowed r b) → a < b
    → (w : ℕ) → Another r w
one_of r a b la lb ta tb l w = by (dec_lt a w)
  where
    by : Dec (a < w) → Another r w
    by (yes h) = record { m = a; among = la; allowed = ta; other = λ e. omega arith }
    by (no h) = record { m = b; among = lb; allowed = tb; other = λ e. omega arith }

another : (r : Rate) (w : ℕ) → Another r w
another One = one_of One 0 1 (lit< tt) (lit< tt) tt tt (lit< tt)
another Two = one_of Two 0 1 (lit< tt) (lit< tt) tt tt (lit< tt)
another Five = one_of Five 16 18 (lit< tt) (lit< tt) tt tt (lit< tt)
another Eleven = one_of Eleven 0 1 (lit< tt) (lit< tt) tt tt (lit< tt)

abbrev pub runner_up : Rate → List Counts → ℕ
runner_up r cs = first_largest (score_at r cs) (others (decided r cs) (those (is_allowed r) (numbers r)))

pub runner_next : (r : Rate) (cs : List Counts) → NextAs r cs (decided r cs) (runner_up r cs)
runner_next r cs =
    let a = another r (decided r cs) in
    others_next (is_allowed r) (numbers r) (score_at r cs) (decided r cs) a.m a.among a.allowed a.other

-- ---- a difference that is not below 0
not_below : (z : ℤ) → dn z ≤ up z → (nat_abs z ≡ up z) × (dn z ≡ 0)
unfolding up dn
not_below (pos n) h = (refl, refl)
not_below (negsuc n) h = absurd (omega arith)

gap : (a b : ℤ) → b ≤ℤ a → b +ℤ pos (nat_abs (a -ℤ b)) ≡ a
gap a b h =
    let sum = add a (neg_ℤ b) in
    let less : dn (a -ℤ b) ≤ up (a -ℤ b) = omega (arith, sum, neg_up b, neg_dn b, of_le b a h) in
    let z = not_below (a -ℤ b) less in
    same (b +ℤ pos (nat_abs (a -ℤ b))) a (omega (
      arith,
      sum,
      neg_up b,
      neg_dn b,
      z.0,
      z.1,
      add b (pos (nat_abs (a -ℤ b))),
      up_pos (nat_abs (a -ℤ b)),
      dn_pos (nat_abs (a -ℤ b)),
    ))

≤-antisym : (a b : ℤ) → a ≤ℤ b → b ≤ℤ a → a ≡ b
≤-antisym a b h k = same a b (omega (arith, of_le a b h, of_le b a k))

-- ---- the lead
-- never negative: the score of the runner-up and the lead make the winning score
lead_runner : (r : Rate) (cs : List Counts)
    → score_at r cs (runner_up r cs) +ℤ pos (lead_of r cs) ≡ score_at r cs (decided r cs)
unfolding lead_of
lead_runner r cs =
    let x = runner_next r cs in
    gap (score_at r cs (decided r cs)) (score_at r cs (runner_up r cs))
    ((decided_best r cs).top (runner_up r cs) x.among x.allowed)

-- whatever is next to the word decided
-- promise: A choice's lead: never below 0, 0 exactly at a tie, every other allowed word behind by at least so much and
-- one by just so much; no other number is
-- rule: 3.9
-- with: lead_behind, leads_by, leads_once, lead_tie, tied
pub lead_is : (r : Rate) (cs : List Counts) (m : ℕ) → NextAs r cs (decided r cs) m
    → score_at r cs m +ℤ pos (lead_of r cs) ≡ score_at r cs (decided r cs)
lead_is r cs m x =
    let y = runner_next r cs in
    let e = ≤-antisym (score_at r cs m) (score_at r cs (runner_up r cs)) (y.top m x.among x.allowed x.other)
    (x.top (runner_up r cs) y.among y.allowed y.other) in
    ap (λ (z : ℤ). z +ℤ pos (lead_of r cs)) e ∙ lead_runner r cs

-- two scores that are not below 0
pub lead_by : (r : Rate) (cs : List Counts) (w m s t : ℕ) → DecidedAs r cs w → NextAs r cs w m
    → score_at r cs w ≡ pos s → score_at r cs m ≡ pos t → lead_of r cs ≡ s - t
lead_by r cs w m s t b x es et =
    let e = decided_is r cs w b in
    let l = lead_is r cs m (subst (λ (v : ℕ). NextAs r cs v m) (sym e) x) in
    let sum : pos t +ℤ pos (lead_of r cs) ≡ pos s =
    ap (λ (z : ℤ). z +ℤ pos (lead_of r cs)) (sym et) ∙ l ∙ ap (score_at r cs) e ∙ es in
    let ups = ap up sum in
    let dns = ap dn sum in
    omega (
      arith,
      add (pos t) (pos (lead_of r cs)),
      ups,
      dns,
      up_pos t,
      dn_pos t,
      up_pos s,
      dn_pos s,
      up_pos (lead_of r cs),
      dn_pos (lead_of r cs),
    )

-- every other allowed word is behind by at least the lead
pub lead_behind : (r : Rate) (cs : List Counts) (m : ℕ) → m < numbers r → T (is_allowed r m) → (m ≡ decided r cs → ⊥)
    → (score_at r cs m +ℤ pos (lead_of r cs)) ≤ℤ score_at r cs (decided r cs)
lead_behind r cs m l t ne =
    let f = score_at r cs in
    le_of (f m +ℤ pos (lead_of r cs)) (f (decided r cs)) (omega (
      arith,
      add (f m) (pos (lead_of r cs)),
      add (f (runner_up r cs)) (pos (lead_of r cs)),
      ap up (lead_runner r cs),
      ap dn (lead_runner r cs),
      of_le (f m) (f (runner_up r cs)) ((runner_next r cs).top m l t ne),
    ))

-- and one by just the lead
pub leads_by : (r : Rate) (cs : List Counts) → LeadsBy r cs (decided r cs) (lead_of r cs)
leads_by r cs =
    let x = runner_next r cs in
    record {
      behind = lead_behind r cs;
      next = runner_up r cs;
      among = x.among;
      allowed = x.allowed;
      other = x.other;
      by = lead_runner r cs;
    }

-- a word leads by one number only
pub leads_once : (r : Rate) (cs : List Counts) (w x y : ℕ) → LeadsBy r cs w x → LeadsBy r cs w y → x ≡ y
leads_once r cs w x y a b = both (upto x y a b) (upto y x b a)
  where
    both : {x y : ℕ} → x ≤ y → y ≤ x → x ≡ y
    both h k = omega arith

    f : ℕ → ℤ
    f = score_at r cs

    upto : (x y : ℕ) → LeadsBy r cs w x → LeadsBy r cs w y → x ≤ y
    upto x y a b =
        let le = of_le (f b.next +ℤ pos x) (f w) (a.behind b.next b.among b.allowed b.other) in
        omega (
          arith,
          le,
          add (f b.next) (pos x),
          add (f b.next) (pos y),
          ap up b.by,
          ap dn b.by,
          up_pos x,
          dn_pos x,
          up_pos y,
          dn_pos y,
        )

-- ---- 0 exactly at a tie
-- another allowed word that scores as much as the one decided
pub record Tie (r : Rate) (cs : List Counts) : Type 0 where
  pub m : ℕ
  pub among : m < numbers r
  pub allowed : T (is_allowed r m)
  pub other : m ≡ decided r cs → ⊥
  pub equal : score_at r cs m ≡ score_at r cs (decided r cs)

pub lead_tie : (r : Rate) (cs : List Counts) → Tie r cs → lead_of r cs ≡ 0
lead_tie r cs t =
    let f = score_at r cs in
    let le = of_le (f t.m +ℤ pos (lead_of r cs)) (f (decided r cs))
    (lead_behind r cs t.m t.among t.allowed t.other) in
    omega (
      arith,
      le,
      add (f t.m) (pos (lead_of r cs)),
      ap up t.equal,
      ap dn t.equal,
      up_pos (lead_of r cs),
      dn_pos (lead_of r cs),
    )

pub tied : (r : Rate) (cs : List Counts) → lead_of r cs ≡ 0 → Tie r cs
tied r cs e =
    let x = leads_by r cs in
    let f = score_at r cs in
    record {
      m = x.next;
      among = x.among;
      allowed = x.allowed;
      other = x.other;
      equal = same (f x.next) (f (decided r cs)) (omega (
        arith,
        add (f x.next) (pos (lead_of r cs)),
        ap up x.by,
        ap dn x.by,
        up_pos (lead_of r cs),
        dn_pos (lead_of r cs),
      ));
    }

-- at 1 and 2 Mbit/s the same
pub lead_barker : (cs : List Counts) → lead_of Two cs ≡ lead_of One cs
unfolding lead_of decided
lead_barker cs = refl
