-- Which number a write gets, for every kind, rate code, phase, number of octets and room (RULES 6.1, 6.4, 6.11): each
-- of 1 to 6 where the rule gives it, whatever is asked after it, and then no chips; else 0 and the frame's chips.
--     write_1 to write_6, write_0
-- By the tests of the definition, each decided. Assumes nothing.
use mathlib.Core.Path.{◌≡◌}
use mathlib.Core.Bool.{true}
use Prim.Native.Nat.{ℕ, ◌≤◌, ◌<◌}
use native.Mathlib.Omega.{arith}
use borrow.Author.Tests.{lt-ltb, le-ltb, le-leb, lt-leb, ne_eqb}
use Rattle.rules_rates.specs.Rates.{is_code, rate_of}
use Rattle.rules_rates.proofs.Lengths.{is_payload_lem}
use Rattle.rules_frame.specs.Frame.{kind_of, goes_with, frame_chips}
use Rattle.rules_frame.proofs.Phases.{is_phase_lem, no_phase}
use Rattle.rules_calls.specs.declared.Written.{Written}
use Rattle.rules_calls.specs.Answers.{written_of}
use Rattle.rules_calls.specs.Writing.{writing_of}

abbrev answered : ℕ → ℕ → Written
answered number chips = record { number = number; chips = chips }

module _ (kind rate phase n room : ℕ) where
  abbrev write : Written
  write = written_of (writing_of kind rate phase n room)

  pub write_1 : 2 ≤ kind → write ≡ answered 1 0
  unfolding writing_of
  write_1 h = rw (le-ltb kind 2 h)

  pub write_2 : kind < 2 → (rate ≡ 10 → ⊥) → (rate ≡ 20 → ⊥) → (rate ≡ 55 → ⊥) → (rate ≡ 110 → ⊥)
      → write ≡ answered 2 0
  unfolding writing_of
  write_2 k a b c d = rw (lt-ltb kind 2 k, ne_eqb rate 10 a, ne_eqb rate 20 b, ne_eqb rate 55 c, ne_eqb rate 110 d)

  pub write_3 : kind ≡ 1 → rate ≡ 10 → write ≡ answered 3 0
  unfolding writing_of
  write_3 k a = rw (k, a)

  -- a kind, and a rate that goes with it
  module _ (k : kind < 2) (code : is_code rate ≡ true) (goes : goes_with (kind_of kind) (rate_of rate) ≡ true) where
    pub write_4_none : n ≡ 0 → write ≡ answered 4 0
    unfolding writing_of
    write_4_none e = rw (lt-ltb kind 2 k, code, goes, e)

    pub write_4_many : 4095 < n → write ≡ answered 4 0
    unfolding writing_of
    write_4_many h =
        rw (lt-ltb kind 2 k, code, goes, le-leb 1 n (omega arith), lt-leb n 4095 h)

    -- 1 to 4,095 octets
    module _ (some : 1 ≤ n) (few : n ≤ 4095) where
      pub write_5 : 3 < phase → write ≡ answered 5 0
      unfolding writing_of
      write_5 h = rw (lt-ltb kind 2 k, code, goes, is_payload_lem n some few, no_phase phase h)

      pub write_6 : phase ≤ 3 → room < frame_chips (kind_of kind) (rate_of rate) n → write ≡ answered 6 0
      unfolding writing_of
      write_6 h l =
          rw (lt-ltb kind 2 k, code, goes, is_payload_lem n some few, is_phase_lem phase h, lt-ltb room _ l)

      pub write_0 : phase ≤ 3 → frame_chips (kind_of kind) (rate_of rate) n ≤ room
          → write ≡ answered 0 (frame_chips (kind_of kind) (rate_of rate) n)
      unfolding writing_of
      write_0 h l =
          rw (lt-ltb kind 2 k, code, goes, is_payload_lem n some few, is_phase_lem phase h, le-ltb room _ l)
