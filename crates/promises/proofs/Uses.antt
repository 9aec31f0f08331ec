-- Uses of demand 1's statements, of one answer and of Table P, as they are kept, so that none of them can be said of
-- nothing and none can lose a part. Assumes nothing.
use mathlib.Core.Path.{◌≡◌, refl, sym, ap, subst}
use mathlib.Core.Bool.{Bool, true, false}
use mathlib.Core.List.{List, [], ◌∷◌}
use Prim.Native.Nat.{ℕ, suc, ◌+◌, ◌-◌, ◌*◌, ◌≤◌, ◌<◌}
use native.Mathlib.Omega.{arith}
use lib.ListN.{length, get_or, take, drop, replicate}
use lib.IntN.{ℤ}
use lib.Ieee.{Float}
use Rattle.base.specs.Below.{Below}
use Rattle.rules_rates.specs.declared.Rate.{Rate}
use Rattle.rules_rates.specs.Plain.{LengthOf, length_1, length_11}
use Rattle.rules_rates.proofs.Plain.{length_once}
use Rattle.rules_chips.specs.Chips.{Taken}
use Rattle.rules_frame.specs.declared.Kind.TheVariants.{Long}
use Rattle.rules_frame.specs.Frame.{frame}
use Rattle.rules_frame.specs.TableP.{computed, printed}
use Rattle.rules_calls.specs.declared.Refusal.TheVariants.{Unusable}
use Rattle.rules_calls.specs.Answers.{refusal_number}
use Rattle.rules_calls.specs.declared.Written.{Written}
use Rattle.rules_calls.specs.declared.Record.{Record}
use Rattle.promises.specs.Calls.{
  Wrote,
  Read,
  ReadHard,
  ReadSoft,
  ReadBytes,
  in_hard,
  in_soft,
  in_bytes,
  to_write,
  to_read,
  refused,
  Goes,
  long_1,
  long_2,
  long_5,
  long_11,
  short_2,
  short_5,
  short_11,
  Sendable,
}
use Rattle.promises.proofs.Kept.{kept}

-- what the pairs of kind and rate say: two kinds, and 1 Mbit/s with the long one
pub goes_kind : {kind rate front octet : ℕ} → Goes kind rate front octet → kind < 2
goes_kind long_1 = omega arith
goes_kind long_2 = omega arith
goes_kind long_5 = omega arith
goes_kind long_11 = omega arith
goes_kind short_2 = omega arith
goes_kind short_5 = omega arith
goes_kind short_11 = omega arith

pub goes_1 : {kind rate front octet : ℕ} → Goes kind rate front octet → rate ≡ 10
    → (kind ≡ 0) × (front ≡ 2112) × (octet ≡ 88)
goes_1 long_1 e = (refl, refl, refl)
goes_1 long_2 e = absurd (omega arith)
goes_1 long_5 e = absurd (omega arith)
goes_1 long_11 e = absurd (omega arith)
goes_1 short_2 e = absurd (omega arith)
goes_1 short_5 e = absurd (omega arith)
goes_1 short_11 e = absurd (omega arith)

-- ---- a write: its buffer keeps its length and is 4s where refused; not refused, it could be sent, whatever the clock
module _ (kind rate phase clock : ℕ) (payload : List ℕ) (room : ℕ) (w : Written) (left : List ℕ)
    (f : Wrote kind rate phase clock payload room w left) where
  pub chip_room_kept : length left ≡ room
  chip_room_kept = (kept.write_fills kind rate phase clock payload room w left f).0

  pub refused_leaves_fours : (m : ℕ) → w.number ≡ suc m → left ≡ replicate room 4
  refused_leaves_fours m e =
      (kept.write_fills kind rate phase clock payload room w left f).1 (λ z. omega (arith, z, e))

  pub fours_follow : w.number ≡ 0 → drop w.chips left ≡ replicate (room - w.chips) 4
  fours_follow e = (kept.write_fills kind rate phase clock payload room w left f).2 e

  pub sendable_if_written : Below 256 payload → w.number ≡ 0 → Sendable kind rate phase payload
  sendable_if_written octets e = (kept.only_sent kind rate phase clock payload room w left octets f e).sendable

  pub written_once : (w' : Written) (left' : List ℕ) → Wrote kind rate phase clock payload room w' left'
      → (w ≡ w') × (left ≡ left')
  written_once w' left' g =
      let e = kept.one_answer (to_write kind rate phase clock payload room) (w, left) (w', left') f g in
      ((λ i. (e i).0), λ i. (e i).1)

-- ---- a read, whatever recorded
module _ (kind : ℕ) (agree : Bool) (rec : List Taken) (room : ℕ) (a : Record) (left : List ℕ)
    (f : Read kind agree rec room a left) where
  pub octet_room_kept : length left ≡ room
  octet_room_kept = (kept.read_fills kind agree rec room a left f).0

  pub refused_leaves_zeros : (m : ℕ) → a.number ≡ suc m → left ≡ replicate room 0
  refused_leaves_zeros m e = (kept.read_fills kind agree rec room a left f).1 (λ z. omega (arith, z, e))

  pub zeros_follow : a.number ≡ 0 → drop a.n left ≡ replicate (room - a.n) 0
  zeros_follow e = (kept.read_fills kind agree rec room a left f).2 e

  pub refused_shows_none : (m : ℕ) → a.number ≡ suc m
      → (a.rate ≡ 0) × (a.n ≡ 0) × (a.used ≡ 0) × (a.clock ≡ 0) × (a.lead ≡ 0) × (a.symbol ≡ 0)
  refused_shows_none m e = kept.refused_shows kind agree rec room a left f (λ z. omega (arith, z, e))

  pub numbers_if_read : a.number ≡ 0
      → (agree ≡ true) × (kind < 2) × (1 ≤ a.n) × (a.n ≤ 4095) × (a.n ≤ room) × (a.used ≤ length rec)
      × LengthOf a.rate a.n a.length × (a.clock < 2)
  numbers_if_read e =
      let o = kept.only_readable kind agree rec room a left f e in
      let r = o.1 in
      (o.0, goes_kind r.goes, r.some, r.few, r.fits, r.there, r.length_is, r.clock_is)

  pub used_at_1 : a.number ≡ 0 → a.rate ≡ 10 → (kind ≡ 0) × (a.used ≡ 2112 + 88 * a.n)
  used_at_1 e ten =
      let r = (kept.only_readable kind agree rec room a left f e).1 in
      let g = goes_1 r.goes ten in
      (g.0, rw (sym g.1, sym g.2) r.used_is)

  -- LENGTH is the octets', in plain numbers
  length_of : a.number ≡ 0 → (code : ℕ) → a.rate ≡ code → LengthOf code a.n a.length
  length_of e code r =
      subst (λ (x : ℕ). LengthOf x a.n a.length) r
      (kept.only_readable kind agree rec room a left f e).1.length_is

  pub length_at_1 : a.number ≡ 0 → a.rate ≡ 10 → a.length ≡ 8 * a.n
  length_at_1 e ten = length_once (length_of e 10 ten) (length_1 a.n)

  pub length_at_11 : a.number ≡ 0 → a.rate ≡ 110
      → (8 * a.n ≤ 11 * a.length) × (11 * a.length < 8 * a.n + 11)
  length_at_11 e r = by (length_of e 110 r)
    where
      by : {n l : ℕ} → LengthOf 110 n l → (8 * n ≤ 11 * l) × (11 * l < 8 * n + 11)
      by (length_11 n l h g) = (h, g)

  pub read_once : (a' : Record) (left' : List ℕ) → Read kind agree rec room a' left' → (a ≡ a') × (left ≡ left')
  read_once a' left' g =
      let e = kept.one_answer (to_read kind agree rec room) (a, left) (a', left') f g in ((λ i. (e i).0), λ i. (e i).1)

-- ---- 7: rows that differ, under either kind; and nowhere else
pub shorter_i_refused : (kind : ℕ) (i q : List Float) (room : ℕ) (a : Record) (left : List ℕ) → kind < 2
    → length i < length q → ReadSoft kind i q room a left → a ≡ refused 7 0
shorter_i_refused kind i q room a left k l f =
    (kept.rows_refused kind (in_soft i q) room a left f).0 k (λ z. omega (arith, z, l))

pub odd_refused : (kind : ℕ) (bytes : List ℤ) (n room : ℕ) (a : Record) (left : List ℕ) → kind < 2
    → length bytes ≡ 2 * n + 1 → ReadBytes kind bytes room a left → a ≡ refused 7 0
odd_refused kind bytes n room a left k e f =
    (kept.rows_refused kind (in_bytes bytes) room a left f).0 k (λ z. omega (arith, z, e))

pub no_seven : (kind : ℕ) (chips : List ℕ) (room : ℕ) (a : Record) (left : List ℕ) → ReadHard kind chips room a left
    → a.number ≡ 7 → ⊥
no_seven kind chips room a left f e = (kept.rows_refused kind (in_hard chips) room a left f).1 e tt

pub no_seven_same : (kind : ℕ) (i : List Float) (room : ℕ) (a : Record) (left : List ℕ)
    → ReadSoft kind i i room a left → a.number ≡ 7 → ⊥
no_seven_same kind i room a left f e = (kept.rows_refused kind (in_soft i i) room a left f).1 e refl

pub no_seven_even : (kind n : ℕ) (bytes : List ℤ) (room : ℕ) (a : Record) (left : List ℕ)
    → ReadBytes kind bytes room a left → a.number ≡ 7 → length bytes ≡ 2 * n → ⊥
no_seven_even kind n bytes room a left f e even =
    (kept.rows_refused kind (in_bytes bytes) room a left f).1 e (omega (arith, even))

-- the number that never comes is 9
pub never_nine : (kind : ℕ) (bytes : List ℤ) (room : ℕ) (a : Record) (left : List ℕ)
    → ReadBytes kind bytes room a left → refusal_number (Unusable 0 0) ≡ a.number → ⊥
never_nine kind bytes room a left f e = kept.no_byte_unusable kind bytes room a left f (sym e)

-- ---- Table P, entry 4
pub entry_4 : (r : Rate) (payload : List ℕ)
    → take 22 (frame Long r 0 false payload)
    ≡ 0 ∷ 2 ∷ 0 ∷ 0 ∷ 2 ∷ 0 ∷ 0 ∷ 0 ∷ 2 ∷ 2 ∷ 2 ∷ 2 ∷ 0 ∷ 2 ∷ 2 ∷ 0 ∷ 2 ∷ 2 ∷ 2 ∷ 0 ∷ 0 ∷ 0 ∷ []
unfolding computed printed
entry_4 r payload = ap (λ (t : List (List (List ℕ))). get_or (get_or t 3 []) 0 []) (kept.table_p r payload)
