-- Uses of what is promised of the call that compares: each takes a statement out of `kept`, and together they need
-- every part of it.
--     kind_none          a kind that is none: both records have 1, both buffers are zeros, and the chips are compared
--     always_listed, by_room
--                        rows that hold every list
--     other_kept         a list of chips that does not fit does not touch that of octets
--     both_read          two reads that are accepted: the lengths are theirs, and one row of octets is allowed
--     second_refused     the second recording is refused: no octets, and the first buffer stands
--     answered_once      another answer to the same input
--     empty_beside       an empty recording beside any other: 8 and zeros, no octets, and the other's record and buffer
--     two_differ         two recordings of four and six chips: their two entries, in a row that just holds them, and
--                        zeros in one that lacks a place
--     none_of_itself, nothing_anywhere
--                        a recording with itself: no entry, and zeros at every place
--     entry_exchanged, exchanged_back
--                        recordings exchanged: an entry, and all of the answer
--     other_given, first_given
--                        a recording as long as the other's, by its list
-- Assumes nothing.
use mathlib.Core.Path.{◌≡◌, refl, sym, ap, ◌∙◌, subst}
use mathlib.Core.Logic.{◌⊎◌, inl, inr, ⊎_elim}
use mathlib.Core.List.{List, [], ◌∷◌}
use Prim.Native.Nat.{ℕ, ◌+◌, ◌*◌, ◌≤◌, ◌<◌}
use native.Mathlib.Omega.{arith}
use borrow.Author.Tests.{le-ltb}
use lib.ListN.{length, get_or, take, replicate}
use lib.Seq.{ext_get_or}
use Rattle.rules_chips.specs.Chips.{hard_recording}
use Rattle.rules_calls.specs.declared.Record.{Record}
use Rattle.rules_reading.specs.Reading.{front_by, reading_of, octets_found}
use Rattle.rules_compare.specs.declared.Compared.{Compared}
use Rattle.rules_compare.specs.Differences.{differences_from, entry_places, laid}
use Rattle.rules_compare.specs.Plain.{Lists, ZerosFrom, Shows}
use Rattle.rules_compare.proofs.Shown.{shows}
use Rattle.promises.specs.Calls.{ReadHard, refused}
use Rattle.promises_compare.specs.Calls.{Compares}
use Rattle.promises_compare.proofs.Kept.{kept}

-- a hard read under a kind that is none
reads_none : (kind : ℕ) (chips : List ℕ) (room : ℕ) → 2 ≤ kind
    → ReadHard kind chips room (refused 1 0) (replicate room 0)
unfolding reading_of octets_found
reads_none kind chips room h = record { answer = rw (le-ltb kind 2 h); octets = rw (le-ltb kind 2 h) }

module _ (kind : ℕ) (a b : List ℕ) (places places' room room' : ℕ) (c : Compared) (chips octets first second : List ℕ)
    (m : Compares kind a b places places' room room' c chips octets first second) where
  kind_none : 2 ≤ kind
      → (c.a ≡ refused 1 0) × (c.b ≡ refused 1 0) × (first ≡ replicate room 0) × (second ≡ replicate room' 0)
      × Shows a b places c.chips chips × (c.octets ≡ 0) × ZerosFrom octets 0
  kind_none h =
      let all = kept.compared_reads kind a b places places' room room' c chips octets first second m in
      let one = all.0 (refused 1 0) (replicate room 0) (reads_none kind a room h) in
      let other = all.1 (refused 1 0) (replicate room' 0) (reads_none kind b room' h) in
      let lists = kept.compared_shows kind a b places places' room room' c chips octets first second m in
      let none =
      lists.1.not_both (inl (λ e. omega (arith, ap (λ (r : Record). r.number) one.0, e))) in
      (one.0, other.0, one.1, other.1, lists.0, none.0, none.4)

  -- rows that hold every list
  always_listed : 3 * length a ≤ places → 12285 ≤ places'
      → Lists a b chips c.chips
      × (c.a.number ≡ 0 → c.b.number ≡ 0
      → Lists (take c.a.n first) (take c.b.n second) octets c.octets)
  always_listed h h' =
      let few = kept.compared_fits kind a b places places' room room' c chips octets first second m in
      let lists = kept.compared_shows kind a b places places' room room' c chips octets first second m in (
        (lists.0.fits (omega (arith, few.0, h))).0,
        λ p q. ((lists.1.both p q).0.fits (omega (arith, few.2, h'))).0,
      )

  -- the list of chips does not fit, and the one of octets does: it is listed all the same
  other_kept : c.a.number ≡ 0 → c.b.number ≡ 0 → places < 3 * c.chips → 3 * c.octets ≤ places'
      → ZerosFrom chips 0 × Lists (take c.a.n first) (take c.b.n second) octets c.octets
  other_kept p q h h' =
      let lists = kept.compared_shows kind a b places places' room room' c chips octets first second m in
      (lists.0.no_room h, ((lists.1.both p q).0.fits h').0)

-- an empty recording of the long kind
reads_empty : (room : ℕ) → ReadHard 0 [] room (refused 8 0) (replicate room 0)
unfolding reading_of front_by octets_found hard_recording
reads_empty room = record { answer = refl; octets = refl }

empty_beside : (b : List ℕ) (places places' room room' : ℕ) (c : Compared) (chips octets first second : List ℕ)
    → Compares 0 [] b places places' room room' c chips octets first second
    → (r : Record) (left : List ℕ) → ReadHard 0 b room' r left
    → (c.a ≡ refused 8 0) × (first ≡ replicate room 0) × (c.b ≡ r) × (second ≡ left)
    × (c.octets ≡ 0) × (c.n_a ≡ 0) × (c.n_b ≡ 0) × (length octets ≡ places')
empty_beside b places places' room room' c chips octets first second m r left h =
    let all = kept.compared_reads 0 [] b places places' room room' c chips octets first second m in
    let one = all.0 (refused 8 0) (replicate room 0) (reads_empty room) in
    let other = all.1 r left h in
    let none =
    (kept.compared_shows 0 [] b places places' room room' c chips octets first second m).1.not_both
    (inl (λ e. omega (arith, ap (λ (r : Record). r.number) one.0, e))) in
    (one.0, one.1, other.0, other.1, none.0, none.1, none.2, none.3)

-- two recordings of four and of six chips: they differ at 1 and 3
abbrev four : List ℕ
four = 0 ∷ 1 ∷ 2 ∷ 3 ∷ []

abbrev six : List ℕ
six = 0 ∷ 3 ∷ 2 ∷ 255 ∷ 1 ∷ 1 ∷ []

six_shows : Shows four six 6 2 (1 ∷ 1 ∷ 3 ∷ 3 ∷ 3 ∷ 255 ∷ [])
unfolding differences_from entry_places laid
six_shows = shows four six 6

five_shows : Shows four six 5 2 (0 ∷ 0 ∷ 0 ∷ 0 ∷ 0 ∷ [])
unfolding differences_from entry_places laid
five_shows = shows four six 5

two_differ : (kind places' room room' : ℕ) (c d : Compared)
    (chips octets first second chips' octets' first' second' : List ℕ)
    → Compares kind four six 6 places' room room' c chips octets first second
    → Compares kind four six 5 places' room room' d chips' octets' first' second'
    → (c.chips ≡ 2) × (chips ≡ 1 ∷ 1 ∷ 3 ∷ 3 ∷ 3 ∷ 255 ∷ []) × (d.chips ≡ 2) × (chips' ≡ 0 ∷ 0 ∷ 0 ∷ 0 ∷ 0 ∷ [])
two_differ kind places' room room' c d chips octets first second chips' octets' first' second' m w =
    let one =
    (kept.compared_shows kind four six 6 places' room room' c chips octets first second m).2 2
    (1 ∷ 1 ∷ 3 ∷ 3 ∷ 3 ∷ 255 ∷ []) six_shows in
    let other =
    (kept.compared_shows kind four six 5 places' room room' d chips' octets' first' second' w).2 2
    (0 ∷ 0 ∷ 0 ∷ 0 ∷ 0 ∷ []) five_shows in
    (sym one.0, sym one.1, sym other.0, sym other.1)

none_of_itself : (kind : ℕ) (a : List ℕ) (places places' room room' : ℕ) (c : Compared)
    (chips octets first second : List ℕ) → Compares kind a a places places' room room' c chips octets first second
    → (c.chips + c.octets ≡ 0) × (get_or chips 0 0 ≡ 0) × (get_or octets 0 0 ≡ 0)
none_of_itself kind a places places' room room' c chips octets first second m =
    let none = kept.compared_itself kind a places places' room room' c chips octets first second m in
    (omega (arith, none.0, none.1), none.2 0 (omega arith), none.3 0 (omega arith))

-- an entry of one comparison, in the other
entry_exchanged : (kind : ℕ) (a b : List ℕ) (places places' room room' : ℕ) (c d : Compared)
    (chips octets first second chips' octets' first' second' : List ℕ)
    → Compares kind a b places places' room room' c chips octets first second
    → Compares kind b a places places' room' room d chips' octets' first' second' → (k : ℕ) → k < c.chips
    → 3 * c.chips ≤ places
    → (d.a.number ≡ c.b.number) × (d.n_a ≡ c.n_b)
    × (get_or chips' (3 * k + 1) 0 ≡ get_or b (get_or chips' (3 * k) 0) 0)
    × (get_or octets' (3 * k + 2) 0 ≡ get_or octets (3 * k + 1) 0) × (first' ≡ second)
entry_exchanged kind a b places places' room room' c d chips octets first second chips' octets' first' second' m w k h
    fits =
    let all =
    kept.compared_exchanged kind a b places places' room room' c d chips octets first second chips' octets' first'
    second' m w in
    let shown = (kept.compared_shows kind a b places places' room room' c chips octets first second m).0 in
    let entry = (shown.fits fits).0.each k h in (
      ap (λ (r : Record). r.number) all.0,
      all.4,
      (all.8 k).1 ∙ entry.second_is ∙ ap (λ (i : ℕ). get_or b i 0) (sym (all.8 k).0),
      (all.9 k).2,
      all.6,
    )

-- a recording that is as long as another and has the same list beside a longer one is that other
other_given : (kind : ℕ) (a b b' : List ℕ) (places room room' : ℕ) (c d : Compared)
    (chips octets first second chips' octets' first' second' : List ℕ)
    → Compares kind a b places 0 room room' c chips octets first second
    → Compares kind a b' places 0 room room' d chips' octets' first' second'
    → length b ≤ length a → length b' ≡ length b → 3 * length b ≤ places → c.chips ≡ d.chips → chips ≡ chips'
    → b ≡ b'
other_given kind a b b' places room room' c d chips octets first second chips' octets' first' second' m w l e h n s =
    let few = (kept.compared_fits kind a b places 0 room room' c chips octets first second m).1 in
    let given =
    (kept.compared_gives kind kind a a b b' places 0 room room' places 0 room room' c d chips octets first second chips'
    octets' first' second' m w n (omega (arith, few, h)) (ap (take (3 * c.chips)) s)).0 refl in
    ext_get_or 0 b b' (sym e) (λ i j. given i (omega (arith, j, l)) j (omega (arith, j, e)))

-- ---- the parts that are left
module _ (kind : ℕ) (a b : List ℕ) (places places' room room' : ℕ) (c : Compared) (chips octets first second : List ℕ)
    (m : Compares kind a b places places' room room' c chips octets first second) where
  -- two hard reads that are accepted: the lengths are theirs, and only one row of octets is allowed
  both_read : (r s : Record) (left left' : List ℕ) → ReadHard kind a room r left → ReadHard kind b room' s left'
      → r.number ≡ 0 → s.number ≡ 0
      → (c.n_a ≡ r.n) × (c.n_b ≡ s.n)
      × ((entries : ℕ) (row : List ℕ) → Shows (take r.n left) (take s.n left') places' entries row
      → (entries ≡ c.octets) × (row ≡ octets))
  both_read r s left left' x y p q =
      let all = kept.compared_reads kind a b places places' room room' c chips octets first second m in
      let one = all.0 r left x in
      let other = all.1 s left' y in
      let lists = kept.compared_shows kind a b places places' room room' c chips octets first second m in
      let p' = ap (λ (t : Record). t.number) one.0 ∙ p in
      let q' = ap (λ (t : Record). t.number) other.0 ∙ q in
      let both = lists.1.both p' q' in (
        both.1 ∙ ap (λ (t : Record). t.n) one.0,
        both.2 ∙ ap (λ (t : Record). t.n) other.0,
        λ entries row v. lists.3 p' q' entries row
            (subst (λ (z : List ℕ × List ℕ). Shows z.0 z.1 places' entries row)
            (λ i. (take (sym one.0 i).n (sym one.1 i), take (sym other.0 i).n (sym other.1 i))) v),
      )

  -- the second recording is refused, the first may be accepted: no octets, no lengths, and the first buffer stands
  second_refused : (r s : Record) (left left' : List ℕ) → ReadHard kind a room r left → ReadHard kind b room' s left'
      → (s.number ≡ 0 → ⊥)
      → (first ≡ left) × (c.a.n ≡ r.n) × (c.octets ≡ 0) × (c.n_a ≡ 0) × (c.n_b ≡ 0) × ZerosFrom octets 0
  second_refused r s left left' x y ne =
      let all = kept.compared_reads kind a b places places' room room' c chips octets first second m in
      let one = all.0 r left x in
      let other = all.1 s left' y in
      let none =
      (kept.compared_shows kind a b places places' room room' c chips octets first second m).1.not_both
      (inr (λ e. ne (sym (ap (λ (t : Record). t.number) other.0) ∙ e))) in
      (one.1, ap (λ (t : Record). t.n) one.0, none.0, none.1, none.2, none.4)

  -- a row with three places for each octet of either room
  by_room : (3 * room ≤ places') ⊎ (3 * room' ≤ places') → c.a.number ≡ 0 → c.b.number ≡ 0
      → Lists (take c.a.n first) (take c.b.n second) octets c.octets
  by_room h p q =
      let few = kept.compared_fits kind a b places places' room room' c chips octets first second m in
      (((kept.compared_shows kind a b places places' room room' c chips octets first second m).1.both p q).0.fits
      (⊎_elim (λ l. omega (arith, few.3, l)) (λ l. omega (arith, few.4, l)) h)).0

  -- another answer to the same
  answered_once : (d : Compared) (chips' octets' first' second' : List ℕ)
      → Compares kind a b places places' room room' d chips' octets' first' second'
      → (c ≡ d) × (chips ≡ chips') × (octets ≡ octets') × (first ≡ first') × (second ≡ second')
  answered_once d chips' octets' first' second' w =
      let e =
      kept.one_comparison kind a b places places' room room' c d chips octets first second chips' octets' first'
      second' m w in
      (e.0, e.1, e.2, e.3, e.4)

-- every place of both rows
nothing_anywhere : (kind : ℕ) (a : List ℕ) (places places' room room' : ℕ) (c : Compared)
    (chips octets first second : List ℕ) → Compares kind a a places places' room room' c chips octets first second
    → (p : ℕ) → (get_or chips p 0 ≡ 0) × (get_or octets p 0 ≡ 0)
nothing_anywhere kind a places places' room room' c chips octets first second m p =
    let none = kept.compared_itself kind a places places' room room' c chips octets first second m in
    (none.2 p (omega arith), none.3 p (omega arith))

-- exchanged twice, all of it
exchanged_back : (kind : ℕ) (a b : List ℕ) (places places' room room' : ℕ) (c d : Compared)
    (chips octets first second chips' octets' first' second' : List ℕ)
    → Compares kind a b places places' room room' c chips octets first second
    → Compares kind b a places places' room' room d chips' octets' first' second'
    → (d ≡ record { a = c.b; b = c.a; chips = c.chips; octets = c.octets; n_a = c.n_b; n_b = c.n_a })
    × (first' ≡ second) × (second' ≡ first)
    × ((k : ℕ) → (get_or chips' (3 * k) 0 ≡ get_or chips (3 * k) 0)
    × (get_or chips' (3 * k + 1) 0 ≡ get_or chips (3 * k + 2) 0) × (get_or chips' (3 * k + 2) 0 ≡ get_or chips (3 * k + 1) 0)
    × (get_or octets' (3 * k) 0 ≡ get_or octets (3 * k) 0)
    × (get_or octets' (3 * k + 1) 0 ≡ get_or octets (3 * k + 2) 0)
    × (get_or octets' (3 * k + 2) 0 ≡ get_or octets (3 * k + 1) 0))
exchanged_back kind a b places places' room room' c d chips octets first second chips' octets' first' second' m w =
    let e =
    kept.compared_exchanged kind a b places places' room room' c d chips octets first second chips' octets' first'
    second' m w in (
      λ i. record { a = e.0 i; b = e.1 i; chips = e.2 i; octets = e.3 i; n_a = e.4 i; n_b = e.5 i },
      e.6,
      e.7,
      λ k. ((e.8 k).0, (e.8 k).1, (e.8 k).2, (e.9 k).0, (e.9 k).1, (e.9 k).2),
    )

-- the first recording from the second, over calls of two kinds and with rows of two sizes
first_given : (kind kind' : ℕ) (a a' b : List ℕ) (places places' room room' more more' held held' : ℕ) (c d : Compared)
    (chips octets first second chips' octets' first' second' : List ℕ)
    → Compares kind a b places places' room room' c chips octets first second
    → Compares kind' a' b more more' held held' d chips' octets' first' second'
    → length a ≤ length b → length a' ≡ length a → 3 * length a ≤ places → c.chips ≡ d.chips
    → take (3 * c.chips) chips ≡ take (3 * c.chips) chips' → a ≡ a'
first_given kind kind' a a' b places places' room room' more more' held held' c d chips octets first second chips'
    octets' first' second' m w l e h n s =
    let few = (kept.compared_fits kind a b places places' room room' c chips octets first second m).0 in
    let given =
    (kept.compared_gives kind kind' a a' b b places places' room room' more more' held held' c d chips octets first
    second chips' octets' first' second' m w n (omega (arith, few, h)) s).1 refl in
    ext_get_or 0 a a' (sym e) (λ i j. given i (omega (arith, j, l)) j (omega (arith, j, e)))
