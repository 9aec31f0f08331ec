-- What the buffer shows of a recording's first c chips, whatever c, by what the whole recording is read as.
--     kind_yet, front_yet            a kind that is none, or a front that is refused: zeros
--     short_yet                      a front that is not whole: zeros
--     room_yet, unusable_yet_lem, odd_yet_lem    17, and 9 and 10 of the payload once they are certain: zeros
--     clean_within, clean_behind     else the octets whose chips have all come
-- Assumes nothing.
use mathlib.Core.Path.{◌≡◌, refl, sym, ap, ◌∙◌}
use mathlib.Core.Bool.{Bool, true, false, cond, not}
use mathlib.Core.List.{List, ◌++◌}
use Rattle.std.specs.Prelude.{Option, None, Some, Ok, Err}
use Prim.Native.Nat.{ℕ, suc, ◌+◌, ◌-◌, ◌*◌, ◌/◌, ◌≤◌, ◌<◌}
use native.Mathlib.Decide.{dec_lt}
use native.Mathlib.Omega.{arith}
use borrow.Author.Tests.{lt-ltb}
use lib.Dec.{ltb}
use lib.ListN.{length, take, drop, length-take, take-append-drop}
use lib.Seq.{length-take-le, take_all, take-take}
use Rattle.rules_rates.specs.declared.Rate.{Rate}
use Rattle.rules_rates.specs.declared.Rate.TheVariants.{One, Two, Five, Eleven}
use Rattle.rules_rates.specs.Rates.{octet_chips}
use Rattle.rules_chips.specs.Chips.{Taken}
use Rattle.rules_frame.specs.declared.Kind.{Kind}
use Rattle.rules_frame.specs.Frame.{is_kind, kind_of, front_chips, frame_chips}
use Rattle.rules_calls.specs.declared.Refusal.{Refusal}
use Rattle.rules_calls.specs.declared.Refusal.TheVariants.{ShorterThanFront}
use Rattle.rules_calls.specs.declared.Told.{Told}
use Rattle.rules_reading.specs.Reading.{or_else, odd_growth, front_of, payload_odd, payload_of}
use Rattle.rules_reading.proofs.Payloads.{found_unusable}
use Rattle.rules_reading.proofs.Places.{payload_unusable_place, payload_odd_place, payload_odd_rate}
use Rattle.rules_reading.proofs.First.{no_place, odd_first}
use Rattle.rules_receiving.specs.Yet.{zeros, unusable_yet, odd_yet, octets_yet, payload_yet, after_front_yet, buffer_yet}
use Rattle.rules_receiving.proofs.Prefix.{front_prefix}
use Rattle.rules_receiving.proofs.Payload.{payload_prefix}
use Rattle.rules_receiving.proofs.Close.{short_front}
use Rattle.rules_receiving.proofs.Telling.{good_yet}
use Rattle.rules_receiving.proofs.Shown.{
  payload_begins,
  usable_yet,
  unusable_come,
  even_yet,
  odd_come,
}

-- ---- no payload

pub kind_yet : (kind room : ℕ) (rec : List Taken) → is_kind kind ≡ false → buffer_yet kind rec room ≡ zeros room
unfolding buffer_yet
kind_yet kind room rec e = rw e

either : (b : Bool) (l : List ℕ) → cond (not b) l l ≡ l
either true l = refl
either false l = refl

refused_yet : (kind room : ℕ) (rec : List Taken) (e : Refusal) → front_of (kind_of kind) rec ≡ Err e
    → buffer_yet kind rec room ≡ zeros room
unfolding buffer_yet
refused_yet kind room rec e f = rw f (either (is_kind kind) (zeros room))

take_most : (c : ℕ) (rec : List Taken) → length (take c rec) ≤ c
take_most c rec = omega (arith, length-take c rec)

pub short_yet : (kind room c : ℕ) (rec : List Taken) → c < front_chips (kind_of kind)
    → buffer_yet kind (take c rec) room ≡ zeros room
short_yet kind room c rec h =
    refused_yet kind room (take c rec) ShorterThanFront
    (short_front (kind_of kind) (take c rec) (omega (arith, take_most c rec)))

-- the front of the first chips is that of all, or it is not whole
front_cut : (k : Kind) (c : ℕ) (rec : List Taken) → front_chips k ≤ length (take c rec)
    → front_of k (take c rec) ≡ front_of k rec
front_cut k c rec h = sym (front_prefix k (take c rec) (drop c rec) h) ∙ ap (front_of k) (take-append-drop c rec)

pub front_yet : (kind room c : ℕ) (rec : List Taken) (e : Refusal) → front_of (kind_of kind) rec ≡ Err e
    → buffer_yet kind (take c rec) room ≡ zeros room
front_yet kind room c rec e f = by (dec_lt (length (take c rec)) (front_chips (kind_of kind)))
  where
    by : Dec (length (take c rec) < front_chips (kind_of kind)) → buffer_yet kind (take c rec) room ≡ zeros room
    by (yes h) =
        refused_yet kind room (take c rec) ShorterThanFront (short_front (kind_of kind) (take c rec) h)
    by (no h) = refused_yet kind room (take c rec) e (front_cut (kind_of kind) c rec (omega (arith, h)) ∙ f)

-- ---- how far a frame of so many chips has come after c chips

data AsFar (c all : ℕ) : ℕ → Type 0 where
  short_of : c ≤ all → AsFar c all c
  at_end : all ≤ c → AsFar c all all

far_most : {c all d : ℕ} → AsFar c all d → d ≤ all
far_most (short_of h) = h
far_most (at_end h) = omega arith

far_from : {c all d : ℕ} → AsFar c all d → (x : ℕ) → x ≤ c → x ≤ all → x ≤ d
far_from (short_of h) x a b = a
far_from (at_end h) x a b = b

cut_frame : {c all d : ℕ} (rec : List Taken) → AsFar c all d → take all (take c rec) ≡ take d rec
cut_frame {c} {all} rec (short_of h) = take_all all (take c rec) (omega (arith, take_most c rec))
cut_frame {c} {all} rec (at_end h) = take-take all c rec h

by_far : {A : Type 0} (c all : ℕ) → ((d : ℕ) → AsFar c all d → A) → A
by_far {A} c all f = by (dec_lt c all)
  where
    by : Dec (c < all) → A
    by (yes h) = f c (short_of (omega arith))
    by (no h) = f all (at_end (omega (arith, h)))

-- the octets that are whole there
abbrev Whole : Rate → ℕ → ℕ → ℕ → Type 0
Whole r f d m = ((d - f) / octet_chips r ≡ m) × (f + octet_chips r * m ≤ d)

octets_within : (r : Rate) (f n m : ℕ) {c d : ℕ} → AsFar c (f + octet_chips r * n) d → f + octet_chips r * m ≤ c
    → c < f + octet_chips r * suc m → m ≤ n → Whole r f d m
octets_within One f n m (short_of h) a b l = (omega arith, omega arith)
octets_within Two f n m (short_of h) a b l = (omega arith, omega arith)
octets_within Five f n m (short_of h) a b l = (omega arith, omega arith)
octets_within Eleven f n m (short_of h) a b l = (omega arith, omega arith)
octets_within One f n m (at_end h) a b l = (omega arith, omega arith)
octets_within Two f n m (at_end h) a b l = (omega arith, omega arith)
octets_within Five f n m (at_end h) a b l = (omega arith, omega arith)
octets_within Eleven f n m (at_end h) a b l = (omega arith, omega arith)

octets_behind : (r : Rate) (f n : ℕ) {c d : ℕ} → AsFar c (f + octet_chips r * n) d → f + octet_chips r * n ≤ c
    → Whole r f d n
octets_behind One f n (short_of h) a = (omega arith, omega arith)
octets_behind Two f n (short_of h) a = (omega arith, omega arith)
octets_behind Five f n (short_of h) a = (omega arith, omega arith)
octets_behind Eleven f n (short_of h) a = (omega arith, omega arith)
octets_behind One f n (at_end h) a = (omega arith, omega arith)
octets_behind Two f n (at_end h) a = (omega arith, omega arith)
octets_behind Five f n (at_end h) a = (omega arith, omega arith)
octets_behind Eleven f n (at_end h) a = (omega arith, omega arith)

-- ---- zeros, by the tests

zeros_room : (k : Kind) (t : Told) (rec : List Taken) (room : ℕ) → room < t.n → payload_yet k t rec room ≡ zeros room
unfolding payload_yet
zeros_room k t rec room h = rw (lt-ltb room t.n h)

same_else : (b : Bool) (l : List ℕ) → cond b l l ≡ l
same_else true l = refl
same_else false l = refl

zeros_unusable : (k : Kind) (t : Told) (rec : List Taken) (room : ℕ) → (unusable_yet k rec ≡ None → ⊥)
    → payload_yet k t rec room ≡ zeros room
unfolding payload_yet
zeros_unusable k t rec room h =
    by (unusable_yet k rec) h
    (or_else (odd_yet k t.rate rec) (λ place. zeros room) (octets_yet k t.rate rec room))
  where
    by : (o : Option ℕ) → (o ≡ None → ⊥) → (l : List ℕ)
        → cond (ltb room t.n) (zeros room) (or_else o (λ place. zeros room) l) ≡ zeros room
    by None h l = absurd (h refl)
    by (Some p) h l = same_else (ltb room t.n) (zeros room)

zeros_odd : (k : Kind) (t : Told) (rec : List Taken) (room : ℕ) → (odd_yet k t.rate rec ≡ None → ⊥)
    → payload_yet k t rec room ≡ zeros room
unfolding payload_yet
zeros_odd k t rec room h =
    by (unusable_yet k rec) (odd_yet k t.rate rec) h (octets_yet k t.rate rec room)
  where
    by : (u o : Option ℕ) → (o ≡ None → ⊥) → (l : List ℕ)
        → cond (ltb room t.n) (zeros room) (or_else u (λ place. zeros room) (or_else o (λ place. zeros room) l))
        ≡ zeros room
    by u None h l = absurd (h refl)
    by None (Some p) h l = same_else (ltb room t.n) (zeros room)
    by (Some q) (Some p) h l = same_else (ltb room t.n) (zeros room)

-- the symbol of an odd growth ends inside the frame
odd_ends : (k : Kind) (t : Told) (rec : List Taken) (p : ℕ) → payload_odd k t.rate t.n rec ≡ Some p
    → p + 11 ≤ frame_chips k t.rate t.n
unfolding payload_odd
odd_ends k t rec p e =
    by t.rate (payload_odd_rate k rec p t e) t.n _ e (payload_odd_place k rec p t e).1
  where
    by : (r : Rate) → r ≡ One → (n : ℕ) (gs : List ℕ) → odd_growth r (front_chips k) gs ≡ Some p
        → p < frame_chips k r n → p + 11 ≤ frame_chips k r n
    by One i n gs e h = omega (arith, (odd_first (front_chips k) gs p e).place_is)
    by Two i n gs e h = absurd (no_place refl e)
    by Five i n gs e h = absurd (no_place refl e)
    by Eleven i n gs e h = absurd (no_place refl e)

-- ---- a front that told, and a frame that is whole

module _
    (kind room : ℕ) (rec : List Taken) (t : Told) (is : is_kind kind ≡ true)
    (told : front_of (kind_of kind) rec ≡ Ok t)
    (long : frame_chips (kind_of kind) t.rate t.n ≤ length rec) where
  abbrev k : Kind
  k = kind_of kind

  abbrev r : Rate
  r = t.rate

  abbrev from : ℕ
  from = front_chips k

  abbrev all : ℕ
  all = frame_chips k t.rate t.n

  yet_told : {c d : ℕ} → AsFar c all d → from ≤ c → buffer_yet kind (take c rec) room ≡ payload_yet k t (take d rec) room
  yet_told {c} {d} f h =
      opened
      ∙ ap (after_front_yet k (take c rec) room) (front_cut k c rec (omega (arith, length-take c rec, long)) ∙ told)
      ∙ ap (λ (x : List Taken). payload_yet k t x room) (cut_frame rec f)
    where
      opened : buffer_yet kind (take c rec) room ≡ after_front_yet k (take c rec) room (front_of k (take c rec))
      opened = unfold buffer_yet in rw is

  -- of the first c chips: zeros where the front is not whole, and else what the chips of the frame come to
  by_cut : (c : ℕ) (l : List ℕ) → (c < from → l ≡ zeros room)
      → ((d : ℕ) → AsFar c all d → from ≤ d → length (take d rec) ≡ d → payload_yet k t (take d rec) room ≡ l)
      → buffer_yet kind (take c rec) room ≡ l
  by_cut c l z f = by_far c all (λ d a. by d a (dec_lt c from))
    where
      by : (d : ℕ) → AsFar c all d → Dec (c < from) → buffer_yet kind (take c rec) room ≡ l
      by d a (yes h) = short_yet kind room c rec h ∙ sym (z h)
      by d a (no h) =
          yet_told a (omega (arith, h))
          ∙ f d a (far_from a from (omega (arith, h)) (omega arith))
          (length-take-le d rec (omega (arith, far_most a, long)))

  pub room_yet : room < t.n → (c : ℕ) → buffer_yet kind (take c rec) room ≡ zeros room
  room_yet h c = by_cut c (zeros room) (λ l. refl) (λ d a g e. zeros_room k t (take d rec) room h)

  -- the frame's first d chips, and those behind
  module _ {c d : ℕ} (a : AsFar c all d) (g : from ≤ d) (e : length (take d rec) ≡ d) where
    abbrev cut : List Taken
    cut = take d rec

    abbrev more : List Taken
    more = drop d rec

    joined : {A : Type 0} (f : List Taken → A) → f (cut ++ more) ≡ f rec
    joined f = ap f (take-append-drop d rec)

    whole : from ≤ length cut
    whole = omega (arith, e, g)

    to : length cut ≤ all
    to = omega (arith, e, far_most a)

    unusable_here : (p : ℕ) → found_unusable k t rec ≡ Some p → p < c → payload_yet k t cut room ≡ zeros room
    unusable_here p f h =
        zeros_unusable k t cut room (λ z.
        let few = unusable_come k t cut more whole to p (joined (found_unusable k t) ∙ f) z in
        let there = far_from a (suc p) h (payload_unusable_place k rec p t f).1 in
        omega (arith, few, there, e))

    odd_here : (p : ℕ) → payload_odd k r t.n rec ≡ Some p → p + 11 ≤ c → payload_yet k t cut room ≡ zeros room
    odd_here p f h =
        zeros_odd k t cut room (λ z.
        let few = odd_come k t cut more whole to p (joined (payload_odd k r t.n) ∙ f) z in
        let there = far_from a (p + 11) h (odd_ends k t rec p f) in
        omega (arith, few, there, e))

    -- what has come of a clean frame
    clean_here : (m : ℕ) → t.n ≤ room → found_unusable k t rec ≡ None → payload_odd k r t.n rec ≡ None
        → m ≤ t.n → Whole r from d m
        → payload_yet k t cut room ≡ take m (payload_of k r t.n rec) ++ zeros (room - m)
    clean_here m fits u o few w =
        good_yet k t cut room fits (usable_yet k t cut more whole to (joined (found_unusable k t) ∙ u))
        (even_yet k t cut more whole to (joined (payload_odd k r t.n) ∙ o))
        ∙ ap (λ (i : ℕ). payload_of k r i cut ++ zeros (room - i)) (ap (λ (i : ℕ). (i - from) / octet_chips r) e ∙ w.0)
        ∙ ap (λ (x : List ℕ). x ++ zeros (room - m))
        (sym (payload_prefix k r m cut more (omega (arith, e, w.1)))
        ∙ joined (payload_of k r m)
        ∙ sym (payload_begins k r m (t.n - m) rec)
        ∙ ap (λ (i : ℕ). take m (payload_of k r i rec)) (parted few))
      where
        parted : {x y : ℕ} → x ≤ y → x + (y - x) ≡ y
        parted h = omega arith

  pub unusable_yet_lem : (p c : ℕ) → found_unusable k t rec ≡ Some p → p < c → buffer_yet kind (take c rec) room ≡ zeros room
  unusable_yet_lem p c f h = by_cut c (zeros room) (λ l. refl) (λ d a g e. unusable_here a g e p f h)

  pub odd_yet_lem : (p c : ℕ) → payload_odd k r t.n rec ≡ Some p → p + 11 ≤ c
      → buffer_yet kind (take c rec) room ≡ zeros room
  odd_yet_lem p c f h = by_cut c (zeros room) (λ l. refl) (λ d a g e. odd_here a g e p f h)

  module _
      (fits : t.n ≤ room) (u : found_unusable k t rec ≡ None) (o : payload_odd k r t.n rec ≡ None) (c : ℕ) where
    abbrev Shows : ℕ → Type 0
    Shows m = buffer_yet kind (take c rec) room ≡ take m (payload_of k r t.n rec) ++ zeros (room - m)

    pub clean_within : (m : ℕ) → from + octet_chips r * m ≤ c → c < from + octet_chips r * suc m → m ≤ t.n → Shows m
    clean_within m x y l =
        by_cut c _ (λ z. absurd (omega (arith, x, z)))
        (λ d a g e. clean_here a g e m fits u o l (octets_within r from t.n m a x y l))

    pub clean_behind : all ≤ c → Shows t.n
    clean_behind x =
        by_cut c _ (λ z. absurd (omega (arith, x, z)))
        (λ d a g e. clean_here a g e t.n fits u o (omega arith) (octets_behind r from t.n a x))
