-- What is promised of the call that compares two recordings is kept, by every program that meets its contract.
-- Assumes nothing.
use mathlib.Core.Path.{◌≡◌, sym, ap, ap₂, ◌∙◌, subst}
use mathlib.Core.List.{List}
use Prim.Native.Nat.{ℕ, ◌*◌, ◌≤◌, ◌<◌}
use native.Mathlib.Nat.{min-le_right}
use native.Mathlib.Omega.{arith}
use lib.ListN.{length, get_or, take, length-take}
use lib.Seq.{get_or-take, length-take-le}
use Rattle.rules_compare.specs.declared.Compared.{Compared}
use Rattle.rules_compare.specs.Differences.{Difference, differences, laid}
use Rattle.rules_compare.specs.Compared.{octet_list, compared_of}
use Rattle.rules_compare.specs.Plain.{Lists, Shows, Exchanged}
use Rattle.rules_compare.proofs.Shown.{none_laid, shows_once}
use Rattle.rules_compare.proofs.Pairs.{itself, few_shown, exchanged, gives_second, gives_first}
use Rattle.rules_compare.proofs.Octets.{octets_are}
use Rattle.rules_compare.proofs.Itself.{itself_octets}
use Rattle.promises_compare.proofs.Answered.{answered, shown_chips, payloads, few_octets, list}
use Rattle.promises_compare.specs.Promises.{
  ComparedReads,
  ComparedShows,
  ComparedFits,
  ComparedItself,
  ComparedExchanged,
  ComparedGives,
  OneComparison,
  ComparePromised,
}

compared_reads : ComparedReads
unfolding compared_of
compared_reads kind a b places places' room room' c chips octets first second m = (
  λ r left h. (ap (λ (x : Compared). x.a) m.answer ∙ sym h.answer, m.first ∙ sym h.octets),
  λ r left h. (ap (λ (x : Compared). x.b) m.answer ∙ sym h.answer, m.second ∙ sym h.octets),
)

compared_shows : ComparedShows
compared_shows kind a b places places' room room' c chips octets first second m =
    let of-chips = shown_chips kind a b places places' room room' c chips octets first second m in
    let of-octets = payloads kind a b places places' room room' c chips octets first second m in (
      of-chips,
      of-octets,
      λ entries row v. shows_once v of-chips,
      λ p q entries row v. shows_once v (of-octets.both p q).0,
    )

compared_fits : ComparedFits
compared_fits kind a b places places' room room' c chips octets first second m =
    let few = few_shown (shown_chips kind a b places places' room room' c chips octets first second m) in
    let most = few_octets kind a b places places' room room' c chips octets first second m in
    (few.0, few.1, most.0, most.1, most.2)

compared_itself : ComparedItself
compared_itself kind a places places' room room' c chips octets first second m =
    let n = answered kind a a places places' room room' c chips octets first second m in (
      n.chips_counted ∙ ap length (itself a),
      n.octets_counted ∙ ap length (itself_octets kind a room room'),
      rw m.chips (none_laid places (differences a a) (itself a)),
      rw m.octets (none_laid places' (octet_list kind a a room room') (itself_octets kind a room room')),
    )

compared_exchanged : ComparedExchanged
compared_exchanged kind a b places places' room room' c d chips octets first second chips' octets' first' second' m w =
    let n = answered kind a b places places' room room' c chips octets first second m in
    let n' = answered kind b a places places' room' room d chips' octets' first' second' w in
    let one : octet_list kind b a room' room ≡ differences (take c.n_b second) (take c.n_a first) =
    octets_are kind b a room' room
    ∙ ap₂ {C = List Difference} (λ (x y : List ℕ). differences x y)
    (ap₂ {C = List ℕ} (λ (n : ℕ) (l : List ℕ). take n l) (sym n.n_b) (sym m.second))
    (ap₂ {C = List ℕ} (λ (n : ℕ) (l : List ℕ). take n l) (sym n.n_a) (sym m.first)) in
    let other = list kind a b places places' room room' c chips octets first second m in
    let swapped = exchanged a b places in
    let swapped' = exchanged (take c.n_a first) (take c.n_b second) places' in (
      n'.record_a ∙ sym n.record_b,
      n'.record_b ∙ sym n.record_a,
      n'.chips_counted ∙ swapped.0 ∙ sym n.chips_counted,
      n'.octets_counted ∙ ap length one ∙ swapped'.0 ∙ sym (n.octets_counted ∙ ap length other),
      n'.n_a ∙ sym n.n_b,
      n'.n_b ∙ sym n.n_a,
      w.first ∙ sym m.second,
      w.second ∙ sym m.first,
      λ k. subst (λ (x : List ℕ × List ℕ). Exchanged x.0 x.1 k)
          (λ i. (sym m.chips i, sym w.chips i)) (swapped.1 k),
      λ k. subst (λ (x : List ℕ × List ℕ). Exchanged x.0 x.1 k)
          (λ i. (sym (m.octets ∙ ap (laid places') other) i, sym (w.octets ∙ ap (laid places') one) i))
          (swapped'.1 k),
    )

compared_gives : ComparedGives
compared_gives kind kind' a a' b b' places places' room room' more more' held held' c d chips octets first second
    chips' octets' first' second' m w e h same = (
      λ q i j k l. gives_second (one.fits h).0 (subst (λ (x : List ℕ). Lists x b' chips' c.chips) (sym q) two)
          alike i j k l,
      λ q i j k l. gives_first (one.fits h).0 (subst (λ (x : List ℕ). Lists a' x chips' c.chips) (sym q) two)
          alike i j k l,
    )
  where
    one : Shows a b places c.chips chips
    one = shown_chips kind a b places places' room room' c chips octets first second m

    other : Shows a' b' more d.chips chips'
    other = shown_chips kind' a' b' more more' held held' d chips' octets' first' second' w

    -- the second row has as many places: the part that is alike is so long
    room_too : 3 * d.chips ≤ more
    room_too =
        let long = length-take-le (3 * c.chips) chips (omega (arith, one.whole, h)) in
        let part = length-take (3 * c.chips) chips' in
        omega (arith, long, part, ap length same, min-le_right (3 * c.chips) (length chips'), other.whole, e)

    two : Lists a' b' chips' c.chips
    two = subst (λ (x : ℕ). Lists a' b' chips' x) (sym e) (other.fits room_too).0

    alike : (p : ℕ) → p < 3 * c.chips → get_or chips p 0 ≡ get_or chips' p 0
    alike p l =
        sym (get_or-take (3 * c.chips) chips p 0 l) ∙ ap (λ (x : List ℕ). get_or x p 0) same
        ∙ get_or-take (3 * c.chips) chips' p 0 l

one_comparison : OneComparison
one_comparison kind a b places places' room room' c d chips octets first second chips' octets' first' second' m w = (
  m.answer ∙ sym w.answer,
  m.chips ∙ sym w.chips,
  m.octets ∙ sym w.octets,
  m.first ∙ sym w.first,
  m.second ∙ sym w.second,
)

pub kept : ComparePromised
kept = record {
  compared_reads = compared_reads;
  compared_shows = compared_shows;
  compared_fits = compared_fits;
  compared_itself = compared_itself;
  compared_exchanged = compared_exchanged;
  compared_gives = compared_gives;
  one_comparison = one_comparison;
}
