-- The new symbols of an octet that is not whole, looked at one after the other at 1 Mbit/s.
--     row_long, row_each, row_small        the numbers decided for the new symbols are their words, and small
--     Looks, looks_none, looks_more        the loop over them: before it, and a symbol more
--     looks_odd, looks_all                 a symbol grown by 1 or 3, and none
--     new_usable                           the chips of the new symbols are usable
--     chips_most                           an octet has at most 88 chips
-- Assumes nothing.
use mathlib.Core.Path.{◌≡◌, refl, sym, ap, ap₂, subst, ◌∙◌}
use mathlib.Core.Bool.{cond}
use mathlib.Core.List.{List, [], ◌∷◌}
use Rattle.std.specs.Prelude.{None, Some}
use Prim.Native.Nat.{ℕ, ◌+◌, ◌-◌, ◌*◌, ◌/◌, ◌%◌, ◌≤◌, ◌<◌}
use native.Mathlib.Nat.{add-zero}
use native.Mathlib.Numerals.{add-one}
use native.Mathlib.Omega.{arith}
use borrow.Author.Tests.{eq-eqb, ne_eqb}
use lib.Dec.{eqb}
use lib.ListN.{length, get_or, take, drop, drop_of_length-le}
use lib.Seq.{drop-cons, get_or-take}
use Rattle.rules_rates.specs.declared.Rate.{Rate}
use Rattle.rules_rates.specs.declared.Rate.TheVariants.{One, Two, Five, Eleven}
use Rattle.rules_rates.specs.Rates.{octet_chips}
use Rattle.rules_chips.specs.Chips.{hard_recording}
use Rattle.rules_bits.specs.Growths.{growths_of, last_heard}
use Rattle.rules_reading.specs.Reading.{first_unusable, first_odd, decided_words}
use Rattle.rules_reading.proofs.Places.{decided_words_length}
use Rattle.choose_recorded.specs.Recorded.{AllUsable, DecidedAt}
use Rattle.choose_recorded.proofs.Search.{usable_part}
use Rattle.hear_parts.proofs.Parts.{decided_row, words_below}
use Rattle.receive_parts.specs.Pieces.{new_words}
use Rattle.receive_parts.proofs.Rows.{row_usable}

-- ---- the words of the new symbols

-- from h chips of a row on, m of them
module _
    (row ns : List ℕ) (h m : ℕ) (e : m ≡ length row / 11 - h / 11) (few : length row ≤ 88)
    (d : DecidedAt One (hard_recording row) (11 * (h / 11)) m ns) where
  row_words : take m ns ≡ new_words One h row
  row_words =
      decided_row One (hard_recording row) (11 * (h / 11)) m ns d (omega arith)
      ∙ ap (λ (i : ℕ). decided_words One i (drop (11 * (h / 11)) (hard_recording row))) e

  pub row_long : length (new_words One h row) ≡ m
  row_long =
      decided_words_length One (length row / 11 - h / 11) (drop (11 * (h / 11)) (hard_recording row)) ∙ sym e

  pub row_each : (l : ℕ) → l < m → get_or ns l 0 ≡ get_or (new_words One h row) l 0
  row_each l b = sym (get_or-take m ns l 0 b) ∙ ap (λ (ws : List ℕ). get_or ws l 0) row_words

  pub row_small : (l : ℕ) → l < m → get_or ns l 0 < 4
  row_small l b =
      rw (row_each l b)
      ((words_below One (length row / 11 - h / 11) (drop (11 * (h / 11)) (hard_recording row))).at l)

-- ---- the loop

-- behind l of the words, whose first is symbol q of the octet, the phase is p: what is found, and the last phase, are
-- those of the words left
pub record Looks (at q last : ℕ) (ws : List ℕ) (l p : ℕ) : Type 0 where
  pub small : p < 4
  pub odd : first_odd (at + 11 * q) (growths_of One last ws)
      ≡ first_odd (at + 11 * (q + l)) (growths_of One p (drop l ws))
  pub ends : last_heard One last ws ≡ last_heard One p (drop l ws)

pub looks_none : (at q last : ℕ) (ws : List ℕ) → last < 4 → Looks at q last ws 0 last
looks_none at q last ws h = record {
  small = h;
  odd = ap (λ (i : ℕ). first_odd (at + 11 * i) (growths_of One last ws)) (sym (add-zero q));
  ends = refl;
}

odd_cons : (at p n : ℕ) (ws : List ℕ) → p < 4 → n < 4
    → first_odd at (growths_of One p (n ∷ ws))
    ≡ cond (eqb ((n + p) % 2) 1) (Some at) (first_odd (at + 11) (growths_of One n ws))
unfolding first_odd growths_of
odd_cons at p n ws h l = let e : (n + 4 - p) % 4 % 2 ≡ (n + p) % 2 = omega arith in rw e

last_cons : (p n : ℕ) (ws : List ℕ) → last_heard One p (n ∷ ws) ≡ last_heard One n ws
unfolding last_heard
last_cons p n ws = refl

module _
    (at q last : ℕ) (ws : List ℕ) (l p n : ℕ) (s : Looks at q last ws l p) (b : l < length ws)
    (e : n ≡ get_or ws l 0) (below : n < 4) where
  words_left : drop l ws ≡ n ∷ drop (l + 1) ws
  words_left = drop-cons ws l 0 b ∙ ap₂ {C = List ℕ} (λ x i. x ∷ drop i ws) (sym e) (sym (add-one l))

  next : first_odd (at + 11 * q) (growths_of One last ws)
      ≡ cond (eqb ((n + p) % 2) 1) (Some (at + 11 * (q + l)))
      (first_odd (at + 11 * (q + l) + 11) (growths_of One n (drop (l + 1) ws)))
  next =
      s.odd
      ∙ ap (λ (vs : List ℕ). first_odd (at + 11 * (q + l)) (growths_of One p vs)) words_left
      ∙ odd_cons (at + 11 * (q + l)) p n (drop (l + 1) ws) s.small below

  pub looks_odd : (n + p) % 2 ≡ 1 → first_odd (at + 11 * q) (growths_of One last ws) ≡ Some (at + 11 * (q + l))
  looks_odd f = next ∙ rw (eq-eqb ((n + p) % 2) 1 f)

  pub looks_more : ((n + p) % 2 ≡ 1 → ⊥) → Looks at q last ws (l + 1) n
  looks_more f = record {
    small = below;
    odd = next ∙ rw (ne_eqb ((n + p) % 2) 1 f)
        (ap (λ (i : ℕ). first_odd i (growths_of One n (drop (l + 1) ws))) (step at q l));
    ends = s.ends ∙ ap (last_heard One p) words_left ∙ last_cons p n (drop (l + 1) ws);
  }
    where
      step : (at q l : ℕ) → at + 11 * (q + l) + 11 ≡ at + 11 * (q + (l + 1))
      step at q l = omega arith

over_odd : (at p : ℕ) → first_odd at (growths_of One p []) ≡ None
unfolding first_odd growths_of
over_odd at p = refl

over_last : (p : ℕ) → last_heard One p [] ≡ p
unfolding last_heard
over_last p = refl

pub looks_all : (at q last : ℕ) (ws : List ℕ) (l p : ℕ) → Looks at q last ws l p → length ws ≤ l
    → (first_odd (at + 11 * q) (growths_of One last ws) ≡ None) × (last_heard One last ws ≡ p)
looks_all at q last ws l p s b =
    let over : drop l ws ≡ [] = drop_of_length-le ws {i = l} b in (
      s.odd ∙ ap (λ (vs : List ℕ). first_odd (at + 11 * (q + l)) (growths_of One p vs)) over
          ∙ over_odd (at + 11 * (q + l)) p,
      s.ends ∙ ap (last_heard One p) over ∙ over_last p,
    )

pub new_usable : (at h m : ℕ) (row : List ℕ) → m ≡ length row / 11 - h / 11
    → first_unusable at (hard_recording row) ≡ None → h ≤ length row
    → AllUsable (hard_recording row) (11 * (h / 11)) (11 * m)
new_usable at h m row e u b =
    subst (λ (i : ℕ). AllUsable (hard_recording row) i (11 * m)) (plus (11 * (h / 11)))
    (usable_part {rec = hard_recording row} {at = 0} {n = length row} (11 * (h / 11)) (11 * m)
    (row_usable at (length row) row refl u) (omega arith))
  where
    plus : (i : ℕ) → 0 + i ≡ i
    plus i = omega arith

pub chips_most : (r : Rate) → octet_chips r ≤ 88
chips_most One = omega arith
chips_most Two = omega arith
chips_most Five = omega arith
chips_most Eleven = omega arith
