-- Symbols at 1 Mbit/s, block after block: the first that is grown by 1 or 3.
--     grown_small                                    two symbols' numbers are phases
--     row_is, row_words                              the numbers decided for a block are its words
--     block_last, block_small                        the phase of its last symbol
--     Sought, sought_at, sought_usable, sought_none, sought_here, sought_more, sought_all
--                                                    the search: before it, found in a block, a block more, after it
-- Assumes nothing.
use mathlib.Core.Path.{◌≡◌, refl, sym, ap, ap₂, subst, ◌∙◌}
use mathlib.Core.List.{List, ◌++◌}
use Rattle.std.specs.Prelude.{Option, None, Some}
use Prim.Native.Nat.{ℕ, suc, ◌+◌, ◌-◌, ◌*◌, ◌≤◌, ◌<◌}
use native.Mathlib.Omega.{arith}
use lib.ListN.{length, get_or, take}
use lib.Seq.{get_or-take}
use Rattle.rules_rates.specs.declared.Rate.TheVariants.{One}
use Rattle.rules_chips.specs.Chips.{Taken}
use Rattle.rules_symbols.specs.Choice.{decided}
use Rattle.rules_choosing.proofs.Decided.{decided_below}
use Rattle.rules_bits.specs.Growths.{growths_of, last_heard}
use Rattle.rules_bits.proofs.Heard.{growths_of_append, growths_of_length}
use Rattle.rules_bits.proofs.Each.{before, last_heard_lem}
use Rattle.rules_reading.specs.Places.{word_from}
use Rattle.rules_reading.specs.Reading.{or_else, first_odd, decided_words}
use Rattle.rules_reading.proofs.Passes.{odd_growth_append}
use Rattle.choose_recorded.specs.Recorded.{AllUsable, symbol_at, DecidedAt}
use Rattle.choose_recorded.proofs.Search.{usable_part}
use Rattle.hear_codes.specs.Codes.{AreWords}
use Rattle.hear_parts.specs.Hearing.{part_words}
use Rattle.hear_parts.proofs.Parts.{block_words, block_are_words, part_length, part_more}
use Rattle.small_calls.specs.declared.odd.Grown.{Grown}
use Rattle.small_calls.specs.Why.{GrownOver}

-- ---- one symbol and the one before it
module _ (rec : List Taken) (place : ℕ) (ns : List ℕ) (l : 11 ≤ place) (d : DecidedAt One rec (place - 11) 2 ns) where
  first_is : get_or ns 0 0 ≡ word_from One (place - 11) rec
  first_is =
      let e : place - 11 + 11 * 0 ≡ place - 11 = omega arith in
      d.number 0 (omega arith) ∙ ap (λ (a : ℕ). decided One (symbol_at One rec a)) e

  second_is : get_or ns 1 0 ≡ word_from One place rec
  second_is =
      let e : place - 11 + 11 * 1 ≡ place = omega arith in
      d.number 1 (omega arith) ∙ ap (λ (a : ℕ). decided One (symbol_at One rec a)) e

  pub grown_small : (get_or ns 0 0 < 4) × (get_or ns 1 0 < 4)
  grown_small = (rw first_is (decided_below One _), rw second_is (decided_below One _))

-- ---- a block of count octets
module _ (rec : List Taken) (at count : ℕ) (ns : List ℕ) (d : DecidedAt One rec at (8 * count) ns)
    (some-octets : 0 < count) (few : count ≤ 8) where
  abbrev words : List ℕ
  words = part_words One at count rec

  pub row_is : take (8 * count) ns ≡ words
  row_is = block_words One 8 count refl rec at ns d (omega arith)

  at_last : get_or ns (8 * count - 1) 0 ≡ get_or words (8 * count - 1) 0
  at_last =
      sym (get_or-take (8 * count) ns (8 * count - 1) 0 (omega arith))
      ∙ ap (λ (ws : List ℕ). get_or ws (8 * count - 1) 0) row_is

  pub block_last : (p : ℕ) → get_or ns (8 * count - 1) 0 ≡ last_heard One p words
  block_last p =
      let size : length words ≡ suc (8 * count - 1) = part_length One at count rec ∙ omega arith in
      at_last ∙ sym (last_heard_lem One p words ∙ ap (before One p words) size)

  pub row_words : AreWords One (take (8 * count) ns)
  row_words = block_are_words One 8 count refl rec at ns d (omega arith)

  pub block_small : get_or ns (8 * count - 1) 0 < 4
  block_small =
      rw (sym (get_or-take (8 * count) ns (8 * count - 1) 0 (omega arith))) (row_words.at (8 * count - 1))

-- ---- block after block
module _ (rec : List Taken) (at p count left : ℕ) (g : Grown) (within : count ≤ left)
    (x : GrownOver at p (part_words One at count rec) g) where
  abbrev block : List ℕ
  block = part_words One at count rec

  abbrev behind : List ℕ
  behind = part_words One (at + 88 * count) (left - count) rec

  joined : part_words One at left rec ≡ block ++ behind
  joined =
      let e : left ≡ count + (left - count) = omega arith in
      ap (λ (n : ℕ). part_words One at n rec) e ∙ part_more One at count (left - count) rec

  -- what is found in the block, or behind it
  block_then : first_odd at (growths_of One p (part_words One at left rec))
      ≡ or_else g.odd (λ q. Some q) (first_odd (at + 88 * count) (growths_of One g.last behind))
  block_then =
      let size : length (growths_of One p block) ≡ 8 * count =
      growths_of_length One p block ∙ part_length One at count rec in
      let place : at + 11 * length (growths_of One p block) ≡ at + 88 * count = omega arith in
      ap (λ (ws : List ℕ). first_odd at (growths_of One p ws)) joined
      ∙ ap (first_odd at) (growths_of_append One p block behind)
      ∙ odd_growth_append One at (growths_of One p block) (growths_of One (last_heard One p block) behind)
      ∙ ap₂ {C = Option ℕ} (λ o r. or_else o (λ q. Some q) r) (sym x.odd)
      (ap₂ {C = Option ℕ} (λ a q. first_odd a (growths_of One q behind)) place (sym x.last))

-- what is found from here on is what is found from the start
pub record Sought (rec : List Taken) (from n phase place left last : ℕ) : Type 0 where
  pub after : from ≤ place
  pub fits : place + 88 * left ≡ from + 88 * n
  pub small : last < 4
  pub same : first_odd from (growths_of One phase (part_words One from n rec))
      ≡ first_odd place (growths_of One last (part_words One place left rec))

-- the same of equal places and numbers of octets
pub sought_at : {rec : List Taken} {from n phase place left last p l : ℕ} → Sought rec from n phase place left last
    → place ≡ p → left ≡ l → Sought rec from n phase p l last
sought_at s e f = rw (e, f) at s

-- the chips of the next block are usable
pub sought_usable : {rec : List Taken} {from n phase place left last : ℕ} (count : ℕ)
    → Sought rec from n phase place left last → count ≤ left → AllUsable rec from (88 * n)
    → AllUsable rec place (88 * count)
sought_usable {rec} {from} {n} {phase} {place} {left} {last} count s within u =
    let e : from + (place - from) ≡ place = omega (arith, s.after) in
    subst (λ (a : ℕ). AllUsable rec a (88 * count)) e
    (usable_part (place - from) (88 * count) u (omega (arith, s.after, s.fits)))

module _ (rec : List Taken) (from n phase : ℕ) where
  pub sought_none : phase < 4 → Sought rec from n phase from n phase
  sought_none h = record { after = omega arith; fits = refl; small = h; same = refl }

  module _ (place left last count : ℕ) (s : Sought rec from n phase place left last) (within : count ≤ left) (g : Grown)
      (x : GrownOver place last (part_words One place count rec) g) where
    -- what is found behind the block
    abbrev later : Option ℕ
    later =
        first_odd (place + 88 * count) (growths_of One g.last (part_words One (place + 88 * count) (left - count) rec))

    found : (o : Option ℕ) → g.odd ≡ o
        → first_odd from (growths_of One phase (part_words One from n rec)) ≡ or_else o (λ q. Some q) later
    found o e =
        s.same ∙ block_then rec place last count left g within x
        ∙ ap (λ (p : Option ℕ). or_else p (λ q. Some q) later) e

    pub sought_here : (q : ℕ) → g.odd ≡ Some q
        → Some q ≡ first_odd from (growths_of One phase (part_words One from n rec))
    sought_here q e = sym (found (Some q) e)

    pub sought_more : g.odd ≡ None
        → Sought rec from n phase (place + 88 * count) (left - count) g.last
    sought_more e = record {
      after = omega (arith, s.after);
      fits = omega (arith, s.fits);
      small = x.small;
      same = found None e;
    }

  none_left : (place last : ℕ) → None ≡ first_odd place (growths_of One last (part_words One place 0 rec))
  unfolding decided_words growths_of first_odd
  none_left place last = refl

  pub sought_all : {place left last : ℕ} → Sought rec from n phase place left last → left ≤ 0
      → None ≡ first_odd from (growths_of One phase (part_words One from n rec))
  sought_all {place} {left} {last} s h =
      let e : left ≡ 0 = omega arith in
      none_left place last
      ∙ sym (s.same ∙ ap (λ (m : ℕ). first_odd place (growths_of One last (part_words One place m rec))) e)
