-- What `take_piece` leaves: the numbers as it counts them, and the two ways in which it takes a piece.
--     Counted, counted     the octets and chips of a part that have come
--     part_long            the octets lent
--     takes_joined         a piece behind the chips that are held
--     takes_whole          whole octets straight from the batch
-- The last two also with the numbers as the code has them: joins_taken, heard_taken.
-- Assumes nothing.
use mathlib.Core.Path.{◌≡◌, refl, sym, ap, subst, ◌∙◌}
use mathlib.Core.List.{List, ◌++◌, append_assoc}
use Prim.Native.Nat.{ℕ, ◌+◌, ◌-◌, ◌*◌, ◌/◌, ◌%◌, ◌≤◌, ◌<◌}
use native.Mathlib.Decide.{dec_le}
use native.Mathlib.Omega.{arith}
use lib.ListN.{length, take, drop, length-append, length-drop}
use lib.Seq.{take_at, drop-drop, length-take-le}
use borrow.Rule.Slice.PartMut.{put_mid, same_len_mid, put_same}
use Rattle.rules_rates.specs.declared.Rate.{Rate}
use Rattle.rules_rates.specs.declared.Rate.TheVariants.{One, Two, Five, Eleven}
use Rattle.rules_rates.specs.Rates.{octet_symbols, octet_chips}
use Rattle.rules_receiving.specs.declared.Ear.{Ear}
use Rattle.receive_parts.specs.declared.Piece.{Piece}
use Rattle.receive_parts.specs.Pieces.{WholeHeard, PartHeld, Joins, WholeCount, Becomes, Takes}
use Rattle.receive_parts.proofs.Looks.{chips_most}
use Rattle.receive_parts.proofs.Joined.{joined_long}
use Rattle.receive_parts.proofs.Becoming.{becomes_whole, becomes_held}

-- ---- the numbers

-- m octets and h chips of a part of n octets have come
pub record Counted (r : Rate) (from n count m h : ℕ) : Type 0 where
  pub before : m < n
  pub part : h < octet_chips r
  pub size : count ≡ from + octet_chips r * m + h

pub counted : (r : Rate) (from n count chips : ℕ) → chips ≡ octet_chips r → from ≤ count
    → count < from + octet_chips r * n → Counted r from n count ((count - from) / chips) ((count - from) % chips)
counted r from n count chips e l b = rw e (by r b)
  where
    by : (r : Rate) → count < from + octet_chips r * n
        → Counted r from n count ((count - from) / octet_chips r) ((count - from) % octet_chips r)
    by One b = record { before = omega arith; part = omega arith; size = omega arith }
    by Two b = record { before = omega arith; part = omega arith; size = omega arith }
    by Five b = record { before = omega arith; part = omega arith; size = omega arith }
    by Eleven b = record { before = omega arith; part = omega arith; size = omega arith }

-- the end of w octets behind m is within n
ends : (r : Rate) (m w n : ℕ) → m + w ≤ n → octet_chips r * m + octet_chips r * w ≤ octet_chips r * n
ends One m w n h = omega arith
ends Two m w n h = omega arith
ends Five m w n h = omega arith
ends Eleven m w n h = omega arith

some_octets : (r : Rate) (w : ℕ) → 0 < w → 0 < octet_chips r * w
some_octets One w h = omega arith
some_octets Two w h = omega arith
some_octets Five w h = omega arith
some_octets Eleven w h = omega arith

-- the octets lent, and back in their place
pub part_long : (m w : ℕ) (out : List ℕ) → m + w ≤ length out → length (take (m + w - m) (drop m out)) ≡ w
part_long m w out h = length-take-le (m + w - m) (drop m out) (rw length-drop (omega arith)) ∙ omega arith

put_back : (m w : ℕ) (out y : List ℕ) → put_mid m (m + w - m) out y ≡ take m out ++ (y ++ drop (m + w) out)
put_back m w out y =
    let e : m + (m + w - m) ≡ m + w = omega arith in
    ap (λ (l : List ℕ). take m out ++ (y ++ l)) (drop-drop (m + w - m) m out ∙ ap (λ (i : ℕ). drop i out) e)

-- ---- a piece behind the chips that are held

module _
    (r : Rate) (from first n count m h : ℕ) (e : Ear) (hold rest out : List ℕ) (x : Piece) (taken : ℕ)
    (hold' octet : List ℕ) (k : Counted r from n count m h) (room : n ≤ length out) (size : length hold ≡ 88)
    (small : e.phase < 4) (most : taken ≤ length rest) (end : taken ≤ octet_chips r - h)
    (some : 0 < length rest → 0 < octet_chips r - h → 0 < taken)
    (j : Joins r (from + octet_chips r * m) (first + octet_symbols r * m) e h hold (take taken rest)
    (take (m + 1 - m) (drop m out)) x hold' octet)
    (lent : length octet ≡ length (take (m + 1 - m) (drop m out))) where
  abbrev piece : List ℕ
  piece = take taken rest

  piece_long : length piece ≡ taken
  piece_long = length-take-le taken rest most

  upto : h + length piece ≤ octet_chips r
  upto = omega (arith, piece_long, end, k.part)

  held_long : length (take h hold) ≡ h
  held_long = length-take-le h hold (omega (arith, k.part, chips_most r, size))

  keeps : take (h + length piece) hold' ≡ take h hold ++ piece
  keeps =
      ap (take (h + length piece)) (j.hold_is ∙ sym (append_assoc (take h hold) piece (drop (h + length piece) hold)))
      ∙ take_at (take h hold ++ piece) (drop (h + length piece) hold) (h + length piece)
      (length-append (take h hold) piece ∙ ap (λ (i : ℕ). i + length piece) held_long)

  hold_long : length hold' ≡ length hold
  hold_long = ap length j.hold_is ∙ joined_long hold piece h (omega (arith, upto, chips_most r, size))

  within : count + taken ≤ from + octet_chips r * n
  within = by (octet_chips r * m) (octet_chips r * n) (octet_chips r) k.size (next r) end k.part
    where
      next : (r : Rate) → octet_chips r * m + octet_chips r ≤ octet_chips r * n
      next One = omega (arith, k.before)
      next Two = omega (arith, k.before)
      next Five = omega (arith, k.before)
      next Eleven = omega (arith, k.before)

      by : (a b c : ℕ) → count ≡ from + a + h → a + c ≤ b → taken ≤ c - h → h < c → count + taken ≤ from + b
      by a b c f g i l = omega arith

  out_long : length (put_mid m (m + 1 - m) out octet) ≡ length out
  out_long = same_len_mid m (m + 1 - m) out octet lent

  joined_whole : h + length piece ≡ octet_chips r → WholeHeard r (from + octet_chips r * m)
      (first + octet_symbols r * m) e (take h hold ++ piece) 1 x octet
      → Takes r from first n count e hold rest out (record { piece = x; taken = taken }) hold'
      (put_mid m (m + 1 - m) out octet)
  joined_whole f w = record {
    some_taken = λ l. some l (omega (arith, k.part));
    most = most;
    within = within;
    becomes =
        rw (put_back m 1 out octet)
        (becomes_whole r from first m h 1 count e hold out piece x hold' octet k.size k.part
        (f ∙ omega arith) (omega (arith, k.before, room)) w);
    small = w.small;
    last_small = w.last_small;
    bad_few = w.bad_few;
    odd_few = w.odd_few;
    hold_long = hold_long;
    out_long = out_long;
  }

  joined_held : h + length piece < octet_chips r
      → PartHeld r (from + octet_chips r * m) e h (take h hold ++ piece) x × (octet ≡ take (m + 1 - m) (drop m out))
      × (x.ear.phase ≡ e.phase)
      → Takes r from first n count e hold rest out (record { piece = x; taken = taken }) hold'
      (put_mid m (m + 1 - m) out octet)
  joined_held f w = record {
    some_taken = λ l. some l (omega (arith, k.part));
    most = most;
    within = within;
    becomes =
        subst (λ (l : List ℕ). Becomes r from first count e hold out piece x hold' l)
        (sym (ap (put_mid m (m + 1 - m) out) w.1 ∙ put_same m (m + 1 - m) out))
        (becomes_held r from first m h count e hold out piece x hold' k.size f keeps w.0);
    small = rw w.2 small;
    last_small = w.0.last_small;
    bad_few = w.0.bad_few;
    odd_few = w.0.odd_few;
    hold_long = hold_long;
    out_long = out_long;
  }

  pub takes_joined : Takes r from first n count e hold rest out (record { piece = x; taken = taken }) hold'
      (put_mid m (m + 1 - m) out octet)
  takes_joined = by (dec_le (octet_chips r) (h + length piece))
    where
      by : Dec (octet_chips r ≤ h + length piece) → Takes r from first n count e hold rest out
          (record { piece = x; taken = taken }) hold' (put_mid m (m + 1 - m) out octet)
      by (yes a) = let f : h + length piece ≡ octet_chips r = omega (arith, a, upto) in joined_whole f (j.whole f)
      by (no a) = let f : h + length piece < octet_chips r = omega (arith, a) in joined_held f (j.held f)

-- ---- whole octets

pub takes_whole : (r : Rate) (from first n count m h w : ℕ) (e : Ear) (hold rest out : List ℕ) (x : Piece)
    (y : List ℕ) → Counted r from n count m h → n ≤ length out → WholeCount r m h n (length rest) w → 0 < w
    → WholeHeard r (from + octet_chips r * m) (first + octet_symbols r * m) e (take (octet_chips r * w) rest) w x y
    → length y ≡ length (take (m + w - m) (drop m out))
    → Takes r from first n count e hold rest out (record { piece = x; taken = octet_chips r * w }) hold
    (put_mid m (m + w - m) out y)
takes_whole r from first n count m h w e hold rest out x y k room c some heard lent = record {
  some_taken = λ l. some_octets r w some;
  most = c.there;
  within = by (octet_chips r * m) (octet_chips r * w) (octet_chips r * n) edge (ends r m w n c.within);
  becomes =
      rw (put_back m w out y)
      (becomes_whole r from first m 0 w count e hold out (take (octet_chips r * w) rest) x hold y edge
      (omega (arith, k.part)) (omega (arith, length-take-le (octet_chips r * w) rest c.there))
      (omega (arith, c.within, room)) heard);
  small = heard.small;
  last_small = heard.last_small;
  bad_few = heard.bad_few;
  odd_few = heard.odd_few;
  hold_long = refl;
  out_long = same_len_mid m (m + w - m) out y lent;
}
  where
    edge : count ≡ from + octet_chips r * m + 0
    edge = k.size ∙ ap (λ (i : ℕ). from + octet_chips r * m + i) (c.edge some)

    by : (a b d : ℕ) → count ≡ from + a + 0 → a + b ≤ d → count + b ≤ from + d
    by a b d f g = omega arith

-- ---- with the numbers as the code has them

pub joins_taken : (r : Rate) (from first n count chips symbols m h : ℕ) (e : Ear) (hold rest out : List ℕ) (x : Piece)
    (taken : ℕ) (hold' octet : List ℕ) → chips ≡ octet_chips r → symbols ≡ octet_symbols r
    → Counted r from n count m h → n ≤ length out → length hold ≡ 88 → e.phase < 4 → taken ≤ length rest
    → taken ≤ chips - h → (0 < length rest → 0 < chips - h → 0 < taken)
    → Joins r (from + chips * m) (first + symbols * m) e h hold (take taken rest) (take (m + 1 - m) (drop m out))
    x hold' octet → length octet ≡ length (take (m + 1 - m) (drop m out))
    → Takes r from first n count e hold rest out (record { piece = x; taken = taken }) hold'
    (put_mid m (m + 1 - m) out octet)
joins_taken r from first n count chips symbols m h e hold rest out x taken hold' octet c s k room size small most end
    some j lent =
    let lend = take (m + 1 - m) (drop m out) in
    let piece = take taken rest in
    takes_joined r from first n count m h e hold rest out x taken hold' octet k room size small most
    (subst (λ (i : ℕ). taken ≤ i - h) c end)
    (subst (λ (i : ℕ). 0 < length rest → 0 < i - h → 0 < taken) c some)
    (subst (λ (i : ℕ). Joins r (from + i * m) (first + octet_symbols r * m) e h hold piece lend x hold' octet) c
    (subst (λ (i : ℕ). Joins r (from + chips * m) (first + i * m) e h hold piece lend x hold' octet) s j)) lent

pub heard_taken : (r : Rate) (from first n count chips symbols m h w : ℕ) (e : Ear) (hold rest out : List ℕ)
    (x : Piece) (y : List ℕ) → chips ≡ octet_chips r → symbols ≡ octet_symbols r
    → Counted r from n count m h → n ≤ length out → WholeCount r m h n (length rest) w → 0 < w
    → WholeHeard r (from + chips * m) (first + symbols * m) e (take (chips * w) rest)
    (length (take (m + w - m) (drop m out))) x y
    → length y ≡ length (take (m + w - m) (drop m out))
    → Takes r from first n count e hold rest out (record { piece = x; taken = chips * w }) hold
    (put_mid m (m + w - m) out y)
heard_taken r from first n count chips symbols m h w e hold rest out x y c s k room count-is some heard lent =
    let long = part_long m w out (omega (arith, count-is.within, room)) in
    subst (λ (i : ℕ). Takes r from first n count e hold rest out (record { piece = x; taken = i * w }) hold
    (put_mid m (m + w - m) out y)) (sym c)
    (takes_whole r from first n count m h w e hold rest out x y k room count-is some
    (subst (λ (i : ℕ). WholeHeard r (from + i * m) (first + octet_symbols r * m) e (take (i * w) rest) w x y) c
    (subst (λ (i : ℕ). WholeHeard r (from + chips * m) (first + i * m) e (take (chips * w) rest) w x y) s
    (subst (λ (i : ℕ). WholeHeard r (from + chips * m) (first + symbols * m) e (take (chips * w) rest) i x y) long
    heard))) lent)
