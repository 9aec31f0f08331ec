-- Every damage that the limits allow occurs: for any chips that are phases, and any two pairs of numbers that keep the
-- limits, there is a recording in which each symbol of the front has just the first pair of wrong and lost chips, and
-- each symbol of the payload the second (`any_damage`). The first chips of a symbol are turned by a quarter, the next
-- ones are lost. Assumes nothing.
use mathlib.Core.Path.{◌≡◌, sym, ap, ◌∙◌, subst}
use mathlib.Core.Bool.{true, cond}
use mathlib.Core.List.{List}
use Prim.Native.Nat.{ℕ, zero, suc, ◌+◌, ◌-◌, ◌*◌, ◌%◌, ◌≤◌, ◌<◌}
use native.Mathlib.Nat.{add-zero}
use native.Mathlib.Decide.{dec_lt}
use native.Mathlib.Omega.{arith}
use borrow.Author.Tests.{lt-ltb, le-ltb}
use lib.Dec.{ltb}
use lib.ListN.{length, get_or, get_or-eq_default}
use Rattle.base.specs.Below.{Below}
use Rattle.base.specs.Tables.{tabulate}
use Rattle.base.proofs.Tables.{get_or_tabulate, length_tabulate}
use Rattle.base.specs.SoMany.{SoMany, no_place, such, other}
use Rattle.base.proofs.SoMany.{many_once}
use Rattle.rules_rates.specs.declared.Rate.{Rate}
use Rattle.rules_rates.specs.declared.Rate.TheVariants.{One, Two, Five, Eleven}
use Rattle.rules_rates.specs.Rates.{code_of, symbol_chips, octet_symbols}
use Rattle.rules_frame.specs.declared.Kind.{Kind}
use Rattle.rules_frame.specs.Frame.{is_kind, kind_of, front_chips, front_symbols, frame_chips}
use Rattle.rules_damage.specs.Plain.{
  WrongAt,
  LostAt,
  KeepsLimit,
  FrameStands,
  SpoiledBy,
}
use Rattle.rules_damage.proofs.OneSymbol.{limit_of}
use Rattle.rules_damage.proofs.Symbols.{
  front_table,
  one_front,
  front_eleven,
  by_part,
  payload_symbol,
  symbol_inside,
}

-- ---- of c places from `at` on, x are not such, the next y are, and no more
further : (at i : ℕ) → at + suc i ≡ suc at + i
further at i = omega arith

module _ (Such : ℕ → Type 0) where
  pub stretch : (c at x y : ℕ) → x + y ≤ c → ((i : ℕ) → i < x → Such (at + i) → ⊥)
      → ((i : ℕ) → x ≤ i → i < x + y → Such (at + i)) → ((i : ℕ) → x + y ≤ i → i < c → Such (at + i) → ⊥)
      → SoMany Such at c y
  stretch zero at x y h before in-it after = let e : 0 ≡ y = omega arith in subst (SoMany Such at 0) e no_place
  stretch (suc c) at (suc x) y h before in-it after =
      other (λ s. before 0 (omega arith) (subst Such (sym (add-zero at)) s))
      (stretch c (suc at) x y (omega arith)
      (λ i l s. before (suc i) (omega arith) (subst Such (sym (further at i)) s))
      (λ i l m. subst Such (further at i) (in-it (suc i) (omega arith) (omega arith)))
      (λ i l m s. after (suc i) (omega arith) (omega arith) (subst Such (sym (further at i)) s)))
  stretch (suc c) at zero (suc y) h before in-it after =
      such (subst Such (add-zero at) (in-it 0 (omega arith) (omega arith)))
      (stretch c (suc at) 0 y (omega arith)
      (λ i l s. omega (arith, l))
      (λ i l m. subst Such (further at i) (in-it (suc i) (omega arith) (omega arith)))
      (λ i l m s. after (suc i) (omega arith) (omega arith) (subst Such (sym (further at i)) s)))
  stretch (suc c) at zero zero h before in-it after =
      other (λ s. after 0 (omega arith) (omega arith) (subst Such (sym (add-zero at)) s))
      (stretch c (suc at) 0 0 (omega arith)
      (λ i l s. omega (arith, l))
      (λ i l m. absurd (omega (arith, l, m)))
      (λ i l m s. after (suc i) (omega arith) (omega arith) (subst Such (sym (further at i)) s)))

-- ---- chip i of a symbol, sent as x: the first w are turned by a quarter, the next t are lost
abbrev spoil : ℕ → ℕ → ℕ → ℕ → ℕ
spoil w t i x = cond (ltb i w) ((x + 1) % 4) (cond (ltb i (w + t)) 4 x)

spoil_wrong : (w t i x : ℕ) → i < w → spoil w t i x ≡ (x + 1) % 4
spoil_wrong w t i x l = rw (lt-ltb i w l)

spoil_lost : (w t i x : ℕ) → w ≤ i → i < w + t → spoil w t i x ≡ 4
spoil_lost w t i x l m = rw (le-ltb i w l, lt-ltb i (w + t) m)

spoil_not : (w t i x : ℕ) → w + t ≤ i → spoil w t i x ≡ x
spoil_not w t i x l = let m : w ≤ i = omega arith in rw (le-ltb i w m, le-ltb i (w + t) l)

spoil_usable : (w t i x : ℕ) → x < 4 → spoil w t i x < 5
spoil_usable w t i x l = by (dec_lt i w) (dec_lt i (w + t))
  where
    by : Dec (i < w) → Dec (i < w + t) → spoil w t i x < 5
    by (yes m) d = rw (spoil_wrong w t i x m) (omega arith)
    by (no g) (yes m) = rw (spoil_lost w t i x (omega arith) m) (omega arith)
    by (no g) (no h) = rw (spoil_not w t i x (omega arith)) (omega arith)

-- ---- a symbol that is spoiled so
module _ (sent rec : List ℕ) (at c w t : ℕ) (fits : w + t ≤ c) (phases : Below 4 sent)
    (rule : (i : ℕ) → i < c → get_or rec (at + i) 0 ≡ spoil w t i (get_or sent (at + i) 0)) where
  wrong_so : SoMany (WrongAt sent rec) at c w
  wrong_so =
      stretch (WrongAt sent rec) c at 0 w (omega arith)
      (λ i l s. omega (arith, l))
      (λ i l m. turned i m)
      (λ i l m s. not_wrong i l m s)
    where
      turned : (i : ℕ) → i < 0 + w → WrongAt sent rec (at + i)
      turned i m =
          let x = get_or sent (at + i) 0 in
          let e : get_or rec (at + i) 0 ≡ (x + 1) % 4 = rule i (omega arith) ∙ spoil_wrong w t i x (omega arith) in
          (omega (arith, e), λ h. omega (arith, e, h, phases.at (at + i)))

      not_wrong : (i : ℕ) → 0 + w ≤ i → i < c → WrongAt sent rec (at + i) → ⊥
      not_wrong i l m s = by (dec_lt i (w + t))
        where
          by : Dec (i < w + t) → ⊥
          by (yes n) =
              omega (arith, s.0, rule i m ∙ spoil_lost w t i (get_or sent (at + i) 0) (omega arith) n)
          by (no g) = s.1 (rule i m ∙ spoil_not w t i (get_or sent (at + i) 0) (omega arith))

  lost_so : SoMany (LostAt rec) at c t
  lost_so =
      stretch (LostAt rec) c at w t fits
      (λ i l s. omega (
        arith,
        s,
        rule i (omega arith) ∙ spoil_wrong w t i (get_or sent (at + i) 0) l,
      ))
      (λ i l m. rule i (omega arith) ∙ spoil_lost w t i (get_or sent (at + i) 0) l m)
      (λ i l m s. omega (
        arith,
        s,
        rule i m ∙ spoil_not w t i (get_or sent (at + i) 0) l,
        phases.at (at + i),
      ))

-- ---- a whole frame
in_symbol : (r : Rate) (j i : ℕ) → i < symbol_chips r → (symbol_chips r * j + i) % symbol_chips r ≡ i
in_symbol One j i l = omega arith
in_symbol Two j i l = omega arith
in_symbol Five j i l = omega arith
in_symbol Eleven j i l = omega arith

room_for : (r : Rate) (w t : ℕ) → KeepsLimit (limit_of r) w t → w + t ≤ symbol_chips r
room_for One w t h = omega (arith, h)
room_for Two w t h = omega (arith, h)
room_for Five w t h = omega (arith, h)
room_for Eleven w t h = omega (arith, h)

module _ (kind : ℕ) (is-kind : is_kind kind ≡ true) (r : Rate) (n : ℕ) (sent : List ℕ) (phases : Below 4 sent)
    (long : length sent ≡ frame_chips (kind_of kind) r n) (w t w' t' : ℕ) (keeps : KeepsLimit 10 w t)
    (keeps' : KeepsLimit (limit_of r) w' t') where
  abbrev k : Kind
  k = kind_of kind

  abbrev c : ℕ
  c = symbol_chips r

  abbrev rule : ℕ → ℕ
  rule i =
      cond (ltb i (front_chips k)) (spoil w t (i % 11) (get_or sent i 0))
      (spoil w' t' ((i - front_chips k) % c) (get_or sent i 0))

  abbrev so : List ℕ
  so = tabulate rule (length sent)

  front_rule : (s : ℕ) → s < front_symbols k → (i : ℕ) → i < 11
      → get_or so (11 * s + i) 0 ≡ spoil w t i (get_or sent (11 * s + i) 0)
  front_rule s l i m =
      get_or_tabulate rule (length sent) (11 * s + i) 0 (omega (arith, long, front_eleven k))
      ∙ rw (lt-ltb (11 * s + i) (front_chips k) (omega (arith, front_eleven k)))
      (ap (λ (j : ℕ). spoil w t j (get_or sent (11 * s + i) 0)) place)
    where
      place : (11 * s + i) % 11 ≡ i
      place = omega arith

  payload_rule : (j : ℕ) → front_chips k + c * j + c ≤ length sent → (i : ℕ) → i < c
      → get_or so (front_chips k + c * j + i) 0 ≡ spoil w' t' i (get_or sent (front_chips k + c * j + i) 0)
  payload_rule j h i m =
      get_or_tabulate rule (length sent) (front_chips k + c * j + i) 0 (omega (arith, h, m))
      ∙ rw (le-ltb (front_chips k + c * j + i) (front_chips k) (omega arith))
      (ap (λ (x : ℕ). spoil w' t' x (get_or sent (front_chips k + c * j + i) 0)) place)
    where
      behind : front_chips k + c * j + i - front_chips k ≡ c * j + i
      behind = omega arith

      place : (front_chips k + c * j + i - front_chips k) % c ≡ i
      place = ap (λ (x : ℕ). x % c) behind ∙ in_symbol r j i m

  abbrev Counts : ℕ → ℕ → ℕ → ℕ → Type 0
  Counts at chips x y = SoMany (WrongAt sent so) at chips x × SoMany (LostAt so) at chips y

  front_counts : (s : ℕ) → s < front_symbols k → Counts (11 * s) 11 w t
  front_counts s l =
      let fits : w + t ≤ 11 = omega (arith, keeps) in (
        wrong_so sent so (11 * s) 11 w t fits phases (front_rule s l),
        lost_so sent so (11 * s) 11 w t fits phases (front_rule s l),
      )

  payload_counts : (j : ℕ) → front_chips k + c * j + c ≤ length sent → Counts (front_chips k + c * j) c w' t'
  payload_counts j h =
      let fits = room_for r w' t' keeps' in (
        wrong_so sent so (front_chips k + c * j) c w' t' fits phases (payload_rule j h),
        lost_so sent so (front_chips k + c * j) c w' t' fits phases (payload_rule j h),
      )

  payload_there : (j : ℕ) → j < octet_symbols r * n → front_chips k + c * j + c ≤ length sent
  payload_there j l =
      rw long (symbol_inside kind is-kind r n _ _ _ _ (payload_symbol kind is-kind r n j l))

  usable : Below 5 so
  usable = record { at = λ i. by i (dec_lt i (length sent)) }
    where
      ruled : (i : ℕ) → rule i < 5
      ruled i = by (dec_lt i (front_chips k))
        where
          by : Dec (i < front_chips k) → rule i < 5
          by (yes l) = rw (lt-ltb i (front_chips k) l) (spoil_usable w t (i % 11) (get_or sent i 0) (phases.at i))
          by (no g) =
              rw (le-ltb i (front_chips k) (omega arith))
              (spoil_usable w' t' ((i - front_chips k) % c) (get_or sent i 0) (phases.at i))

      by : (i : ℕ) → Dec (i < length sent) → get_or so i 0 < 5
      by i (yes l) = rw (get_or_tabulate rule (length sent) i 0 l) (ruled i)
      by i (no g) =
          rw (get_or-eq_default so 0 {n = i} (omega (arith, g, length_tabulate rule (length sent)))) (omega arith)

  held : {at chips limit x y x' y' : ℕ} → Counts at chips x y → KeepsLimit limit x y
      → SoMany (WrongAt sent so) at chips x' → SoMany (LostAt so) at chips y' → KeepsLimit limit x' y'
  held {at} {chips} {limit} {x} {y} {x'} {y'} h few mw ml =
      subst (λ (j : ℕ). KeepsLimit limit j y') (many_once h.0 mw)
      (subst (KeepsLimit limit x) (many_once h.1 ml) few)

  so_stands : FrameStands kind (code_of r) n sent so
  so_stands = record {
    same_length = length_tabulate rule (length sent);
    usable = usable;
    each = λ s at chips limit x y is mw ml.
        by_part kind is-kind r n
        (λ s at chips limit. SoMany (WrongAt sent so) at chips x → SoMany (LostAt so) at chips y
        → KeepsLimit limit x y)
        (λ s l. held (front_counts s l) keeps)
        (λ j l. held (payload_counts j (payload_there j l)) keeps') s at chips limit is mw ml;
  }

  pub any_damage : SpoiledBy kind (code_of r) n sent w t w' t'
  any_damage = record {
    rec = so;
    stands = so_stands;
    in_the_front = λ f s at chips limit table is below.
        by_part kind is-kind r n (λ s at chips limit. s < front_symbols k → Counts at chips w t)
        (λ s l m. front_counts s l) (λ j l m. absurd (omega (arith, m))) s at chips limit is
        (subst (λ (x : ℕ). s < x) (one_front kind f (front_symbols k) table (front_table kind is-kind)) below);
    in_the_payload = λ f s at chips limit table is from.
        by_part kind is-kind r n (λ s at chips limit. front_symbols k ≤ s → Counts at chips w' t')
        (λ s l m. absurd (omega (arith, l, m))) (λ j l m. payload_counts j (payload_there j l)) s at chips limit is
        (subst (λ (x : ℕ). x ≤ s) (one_front kind f (front_symbols k) table (front_table kind is-kind)) from);
  }
