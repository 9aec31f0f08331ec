-- Uses of what is kept of a write's number, so that none of it can be said of nothing and no case can be lost: each of
-- 1 to 6 and 0 at an input that has it, and what an input had that got it. Assumes nothing.
use mathlib.Core.Path.{◌≡◌, refl}
use mathlib.Core.List.{List}
use Prim.Native.Nat.{ℕ, ◌+◌, ◌*◌, ◌≤◌, ◌<◌}
use native.Mathlib.Omega.{arith}
use lib.ListN.{length}
use Rattle.rules_calls.specs.declared.Written.{Written}
use Rattle.promises.specs.Calls.{Wrote, long_1, long_11, short_2}
use Rattle.promises.specs.Refusing.{
  WriteAnswer,
  no_kind,
  no_rate,
  short_at_1,
  no_octets,
  many_octets,
  no_phase,
  no_room,
  is_written,
}
use Rattle.promises.proofs.Kept.{kept}
use Rattle.promises.proofs.Uses.{goes_kind, goes_1}

abbrev refusing : ℕ → Written
refusing number = record { number = number; chips = 0 }

module _ (phase clock : ℕ) (payload : List ℕ) (room : ℕ) (w : Written) (left : List ℕ) where
  -- 1 before all, 2 under either kind, 3
  pub kind_77 : (rate : ℕ) → Wrote 77 rate phase clock payload room w left → w ≡ refusing 1
  kind_77 rate f = (kept.write_answers 77 rate phase clock payload room w left f).0 1 0 (no_kind (omega arith))

  pub rate_30 : (kind : ℕ) → kind < 2 → Wrote kind 30 phase clock payload room w left → w ≡ refusing 2
  rate_30 kind k f =
      (kept.write_answers kind 30 phase clock payload room w left f).0 2 0
      (no_rate k (λ e. omega (arith, e)) (λ e. omega (arith, e)) (λ e. omega (arith, e)) (λ e. omega (arith, e)))

  pub one_and_ten : Wrote 1 10 phase clock payload room w left → w ≡ refusing 3
  one_and_ten f = (kept.write_answers 1 10 phase clock payload room w left f).0 3 0 (short_at_1 refl refl)

  -- 4 for 0 octets and for 5,000, whatever the phase and the room
  pub empty_refused : Wrote 0 10 phase clock payload room w left → length payload ≡ 0 → w ≡ refusing 4
  empty_refused f e = (kept.write_answers 0 10 phase clock payload room w left f).0 4 0 (no_octets long_1 e)

  pub octets_5000 : Wrote 1 20 phase clock payload room w left → length payload ≡ 5000 → w ≡ refusing 4
  octets_5000 f e =
      (kept.write_answers 1 20 phase clock payload room w left f).0 4 0 (many_octets short_2 (omega (arith, e)))

  -- 5 before 6; 6 where a chip is missing, and 0 where none is
  module _ (some : 1 ≤ length payload) (few : length payload ≤ 4095) where
    pub phase_7 : Wrote 0 110 phase clock payload room w left → phase ≡ 7 → w ≡ refusing 5
    phase_7 f e =
        (kept.write_answers 0 110 phase clock payload room w left f).0 5 0
        (no_phase long_11 some few (omega (arith, e)))

    pub one_chip_short : Wrote 0 110 phase clock payload room w left → phase ≤ 3
        → room + 1 ≡ 2112 + 8 * length payload → w ≡ refusing 6
    one_chip_short f h e =
        (kept.write_answers 0 110 phase clock payload room w left f).0 6 0
        (no_room long_11 some few h (omega (arith, e)))

    pub just_room : Wrote 0 110 phase clock payload room w left → phase ≤ 3 → room ≡ 2112 + 8 * length payload
        → w ≡ record { number = 0; chips = room }
    just_room f h e =
        rw e
        ((kept.write_answers 0 110 phase clock payload room w left f).0 0 _
        (is_written long_11 some few h (omega (arith, e))))

-- ---- what an input had that got a number
module _ (kind rate phase clock : ℕ) (payload : List ℕ) (room : ℕ) (w : Written) (left : List ℕ)
    (f : Wrote kind rate phase clock payload room w left) where
  -- by the cases of the statement's second part
  told : WriteAnswer kind rate phase (length payload) room w.number w.chips
  told = (kept.write_answers kind rate phase clock payload room w left f).1

  pub six_at_most : w.number ≤ 6
  six_at_most = by told
    where
      by : {number chips : ℕ} → WriteAnswer kind rate phase (length payload) room number chips → number ≤ 6
      by (no_kind h) = omega arith
      by (no_rate k a b c d) = omega arith
      by (short_at_1 k a) = omega arith
      by (no_octets g e) = omega arith
      by (many_octets g h) = omega arith
      by (no_phase g a b h) = omega arith
      by (no_room g a b h l) = omega arith
      by (is_written g a b h l) = omega arith

  pub refused_tells_none : (w.number ≡ 0 → ⊥) → w.chips ≡ 0
  refused_tells_none z = by told z
    where
      by : {number chips : ℕ} → WriteAnswer kind rate phase (length payload) room number chips → (number ≡ 0 → ⊥)
          → chips ≡ 0
      by (no_kind h) z = refl
      by (no_rate k a b c d) z = refl
      by (short_at_1 k a) z = refl
      by (no_octets g e) z = refl
      by (many_octets g h) z = refl
      by (no_phase g a b h) z = refl
      by (no_room g a b h l) z = refl
      by (is_written g a b h l) z = absurd (z refl)

  -- 5 is given to a kind and 1 to 4,095 octets, and then the phase is above 3
  pub five_only : w.number ≡ 5 → (kind < 2) × (1 ≤ length payload) × (length payload ≤ 4095) × (3 < phase)
  five_only e = by told e
    where
      by : {number chips : ℕ} → WriteAnswer kind rate phase (length payload) room number chips → number ≡ 5
          → (kind < 2) × (1 ≤ length payload) × (length payload ≤ 4095) × (3 < phase)
      by (no_kind h) e = absurd (omega (arith, e))
      by (no_rate k a b c d) e = absurd (omega (arith, e))
      by (short_at_1 k a) e = absurd (omega (arith, e))
      by (no_octets g z) e = absurd (omega (arith, e))
      by (many_octets g h) e = absurd (omega (arith, e))
      by (no_phase g a b h) e = (goes_kind g, a, b, h)
      by (no_room g a b h l) e = absurd (omega (arith, e))
      by (is_written g a b h l) e = absurd (omega (arith, e))

  -- and 6 at 1 Mbit/s only where the buffer lacks a chip of the frame
  pub six_only : w.number ≡ 6 → rate ≡ 10 → (phase ≤ 3) × (room < 2112 + 88 * length payload)
  six_only e r = by told e r
    where
      by : {number chips : ℕ} → WriteAnswer kind rate phase (length payload) room number chips → number ≡ 6
          → rate ≡ 10 → (phase ≤ 3) × (room < 2112 + 88 * length payload)
      by (no_kind h) e r = absurd (omega (arith, e))
      by (no_rate k a b c d) e r = absurd (omega (arith, e))
      by (short_at_1 k a) e r = absurd (omega (arith, e))
      by (no_octets g z) e r = absurd (omega (arith, e))
      by (many_octets g h) e r = absurd (omega (arith, e))
      by (no_phase g a b h) e r = absurd (omega (arith, e))
      by (no_room g a b h l) e r = let q = goes_1 g r in (h, rw (← q.1, ← q.2) l)
      by (is_written g a b h l) e r = absurd (omega (arith, e))
