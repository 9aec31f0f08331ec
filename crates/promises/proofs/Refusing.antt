-- Which answer a write gives, for every input: each case by its law (WriteExactly.antt of rules_calls), and every
-- input is in one of them. Assumes nothing.
use mathlib.Core.Path.{◌≡◌, refl, sym, ap, ap₂, ◌∙◌, subst}
use Prim.Native.Nat.{ℕ, zero, suc, ◌+◌, ◌*◌, ◌≤◌, ◌<◌}
use native.Mathlib.Decide.{dec_le, ℕ_discrete}
use native.Mathlib.Omega.{arith}
use borrow.Author.Tests.{ltb-true}
use lib.ListN.{length}
use Rattle.rules_rates.specs.Rates.{rate_of}
use Rattle.rules_frame.specs.Frame.{kind_of, frame_chips}
use Rattle.rules_calls.specs.declared.Written.{Written}
use Rattle.rules_calls.specs.Answers.{written_of}
use Rattle.rules_calls.specs.Writing.{writing_of}
use Rattle.rules_calls.proofs.WriteExactly.{
  write_1,
  write_2,
  write_3,
  write_4_none,
  write_4_many,
  write_5,
  write_6,
  write_0,
}
use Rattle.promises.specs.Calls.{Goes, long_1, long_2, long_5, long_11, short_2, short_5, short_11}
use Rattle.promises.specs.Refusing.{
  WriteAnswer,
  no_kind,
  no_rate,
  short_at_1,
  no_octets,
  many_octets,
  no_phase,
  no_room,
  is_written,
  WriteAnswers,
}
use Rattle.promises.proofs.Back.{known}

module _ (kind rate phase n room : ℕ) where
  abbrev write : Written
  write = written_of (writing_of kind rate phase n room)

  abbrev Answer : ℕ → ℕ → Type 0
  Answer = WriteAnswer kind rate phase n room

  -- the frame's chips, in the definition's words and in numbers
  size : {front octet : ℕ} → Goes kind rate front octet → frame_chips (kind_of kind) (rate_of rate) n ≡ front + octet * n
  size g = let w = known g in ap₂ {C = ℕ} (λ x y. x + y * n) w.front_is w.octet_is

  a_kind : {front octet : ℕ} → Goes kind rate front octet → kind < 2
  a_kind g = ltb-true kind 2 (known g).kind_is

  -- each case is answered so
  given : {number chips : ℕ} → Answer number chips → write ≡ record { number = number; chips = chips }
  given (no_kind h) = write_1 kind rate phase n room h
  given (no_rate k a b c d) = write_2 kind rate phase n room k a b c d
  given (short_at_1 k a) = write_3 kind rate phase n room k a
  given (no_octets g e) =
      write_4_none kind rate phase n room (a_kind g) (known g).rate_is (known g).together e
  given (many_octets g h) =
      write_4_many kind rate phase n room (a_kind g) (known g).rate_is (known g).together h
  given (no_phase g a b h) =
      write_5 kind rate phase n room (a_kind g) (known g).rate_is (known g).together a b h
  given (no_room g a b h l) =
      write_6 kind rate phase n room (a_kind g) (known g).rate_is (known g).together a b h
      (omega (arith, l, size g))
  given (is_written g a b h l) =
      write_0 kind rate phase n room (a_kind g) (known g).rate_is (known g).together a b h
      (omega (arith, l, size g))
      ∙ ap (λ (c : ℕ). record { number = 0; chips = c }) (size g)

  -- and there is one for every input
  record Case : Type 0 where
    number : ℕ
    chips : ℕ
    is : Answer number chips

  fits : {front octet : ℕ} → Goes kind rate front octet → 1 ≤ n → n ≤ 4095 → phase ≤ 3 → Case
  fits {front} {octet} g a b h = by (dec_le (front + octet * n) room)
    where
      by : Dec (front + octet * n ≤ room) → Case
      by (yes l) = record { number = 0; chips = front + octet * n; is = is_written g a b h l }
      by (no l) = record { number = 6; chips = 0; is = no_room g a b h (omega (arith, l)) }

  goes_on : (front octet : ℕ) → Goes kind rate front octet → Case
  goes_on front octet g = by (dec_le 1 n) (dec_le n 4095) (dec_le phase 3)
    where
      by : Dec (1 ≤ n) → Dec (n ≤ 4095) → Dec (phase ≤ 3) → Case
      by (no a) b c = record { number = 4; chips = 0; is = no_octets g (omega (arith, a)) }
      by (yes a) (no b) c = record { number = 4; chips = 0; is = many_octets g (omega (arith, b)) }
      by (yes a) (yes b) (no c) = record { number = 5; chips = 0; is = no_phase g a b (omega (arith, c)) }
      by (yes a) (yes b) (yes c) = fits g a b c

  at_kind : (k : ℕ) → kind ≡ k → Dec (rate ≡ 10) → Dec (rate ≡ 20) → Dec (rate ≡ 55) → Dec (rate ≡ 110) → Case
  at_kind zero e (yes a) b c d = goes_on 2112 88 (rw (e, a) long_1)
  at_kind zero e (no a) (yes b) c d = goes_on 2112 44 (rw (e, b) long_2)
  at_kind zero e (no a) (no b) (yes c) d = goes_on 2112 16 (rw (e, c) long_5)
  at_kind zero e (no a) (no b) (no c) (yes d) = goes_on 2112 8 (rw (e, d) long_11)
  at_kind zero e (no a) (no b) (no c) (no d) =
      record { number = 2; chips = 0; is = no_rate (omega (arith, e)) a b c d }
  at_kind (suc zero) e (yes a) b c d = record { number = 3; chips = 0; is = short_at_1 e a }
  at_kind (suc zero) e (no a) (yes b) c d = goes_on 1056 44 (rw (e, b) short_2)
  at_kind (suc zero) e (no a) (no b) (yes c) d = goes_on 1056 16 (rw (e, c) short_5)
  at_kind (suc zero) e (no a) (no b) (no c) (yes d) = goes_on 1056 8 (rw (e, d) short_11)
  at_kind (suc zero) e (no a) (no b) (no c) (no d) =
      record { number = 2; chips = 0; is = no_rate (omega (arith, e)) a b c d }
  at_kind (suc (suc k)) e a b c d = record { number = 1; chips = 0; is = no_kind (omega (arith, e)) }

  a_case : Case
  a_case = at_kind kind refl (ℕ_discrete rate 10) (ℕ_discrete rate 20) (ℕ_discrete rate 55) (ℕ_discrete rate 110)

  has_one : Answer write.number write.chips
  has_one = subst (λ (w : Written). Answer w.number w.chips) (sym (given a_case.is)) a_case.is

pub write_answers : WriteAnswers
write_answers kind rate phase clock payload room w left f = (
  (λ number chips h. f.answer ∙ given kind rate phase (length payload) room h),
  subst (λ (v : Written). WriteAnswer kind rate phase (length payload) room v.number v.chips) (sym f.answer)
      (has_one kind rate phase (length payload) room),
)
