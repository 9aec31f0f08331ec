-- What a store allows is what a frame's write refuses with none of 1, 2, 3 and 5.
--     serves          a frame of 1 to 4,095 octets is written with allowed settings, where the chip buffer holds it
--     same_refused    28 refuses just what such a write refuses with 1, 2, 3 or 5
-- Assumes nothing.
use mathlib.Core.Path.{◌≡◌, refl, sym, ap, ◌∙◌, subst}
use mathlib.Core.Bool.{Bool, true, false, ◌&&◌}
use Prim.Native.Nat.{ℕ, zero, suc, ◌≤◌, ◌<◌}
use native.Mathlib.Omega.{arith}
use borrow.Author.Tests.{lt-ltb, ltb-true, ltb-false}
use lib.Dec.{ltb}
use Rattle.base.proofs.Tests.{left_is, right_is}
use Rattle.rules_rates.specs.declared.Rate.{Rate}
use Rattle.rules_rates.specs.declared.Rate.TheVariants.{One, Two, Five, Eleven}
use Rattle.rules_rates.specs.Rates.{is_code, rate_of, code_of, octet_chips}
use Rattle.rules_rates.proofs.Facts.{no_other_code}
use Rattle.rules_frame.specs.Frame.{is_kind, kind_of, goes_with, is_phase, front_chips, frame_chips}
use Rattle.rules_frame.proofs.Phases.{phase_most}
use Rattle.rules_calls.specs.declared.Written.{Written}
use Rattle.rules_calls.specs.Answers.{written_of}
use Rattle.rules_calls.specs.Writing.{writing_of}
use Rattle.rules_calls.proofs.WriteExactly.{write_0, write_1, write_2, write_3, write_5, write_6}
use Rattle.rules_store.specs.Store.{allowed_settings, settings}
use Rattle.rules_store.specs.Pieces.{store_written}
use Rattle.rules_store.specs.Plain.{AllowedSettings}
use Rattle.rules_store.proofs.Allowed.{allowed_is}
use Rattle.rules_store.proofs.Places.{never}
use Rattle.rules_store.proofs.Written.{bad_number, only_bad}
use Rattle.promises.specs.Calls.{Goes}
use Rattle.promises.proofs.Only.{goes}
use Rattle.promises_store.specs.Promises.{Served, OfSettings, of_kind, of_rate, of_both, of_phase}

module _ (kind rate phase n room : ℕ) (some : 1 ≤ n) (few : n ≤ 4095) where
  abbrev number : ℕ
  number = (written_of (writing_of kind rate phase n room)).number

  -- the four tests of allowed settings
  record Parts : Type 0 where
    kind_is : kind < 2
    rate_is : is_code rate ≡ true
    together : goes_with (kind_of kind) (rate_of rate) ≡ true
    phase_is : phase ≤ 3

  parts : allowed_settings kind rate phase ≡ true → Parts
  parts e =
      let a = is_kind kind in
      let b = is_code rate in
      let c = goes_with (kind_of kind) (rate_of rate) in
      let three = left_is (a && b && c) (is_phase phase) e in
      let two = left_is (a && b) c three in
      record {
        kind_is = ltb-true kind 2 (left_is a b two);
        rate_is = right_is a b two;
        together = right_is (a && b) c three;
        phase_is = phase_most phase (right_is (a && b && c) (is_phase phase) e);
      }

  at_number : {w : Written} → written_of (writing_of kind rate phase n room) ≡ w → number ≡ w.number
  at_number e = ap (λ (w : Written). w.number) e

  pub serves : AllowedSettings kind rate phase → Served (settings kind rate phase) n room number
  serves g =
      let p = parts (allowed_is g) in
      let front = front_chips (kind_of kind) in
      let octet = octet_chips (rate_of rate) in
      record {
        front = front;
        octet = octet;
        goes =
            subst (λ (x : ℕ). Goes kind x front octet) (sym (no_other_code rate p.rate_is))
            (goes kind (rate_of rate) (lt-ltb kind 2 p.kind_is) p.together);
        good =
            λ h. at_number (write_0 kind rate phase n room p.kind_is p.rate_is p.together some few
            p.phase_is h);
      }

  -- 0 or 6
  allowed_by : allowed_settings kind rate phase ≡ true → OfSettings number → ⊥
  allowed_by e o = by (ltb room (frame_chips (kind_of kind) (rate_of rate) n)) refl
    where
      p : Parts
      p = parts e

      none : (m : ℕ) → OfSettings m → (m ≡ 0 → ⊥) × (m ≡ 6 → ⊥)
      none m of_kind = (λ z. omega arith, λ z. omega arith)
      none m of_rate = (λ z. omega arith, λ z. omega arith)
      none m of_both = (λ z. omega arith, λ z. omega arith)
      none m of_phase = (λ z. omega arith, λ z. omega arith)

      by : (b : Bool) → ltb room (frame_chips (kind_of kind) (rate_of rate) n) ≡ b → ⊥
      by true q =
          (none number o).1
          (at_number (write_6 kind rate phase n room p.kind_is p.rate_is p.together some few p.phase_is
          (ltb-true room _ q)))
      by false q =
          (none number o).0
          (at_number (write_0 kind rate phase n room p.kind_is p.rate_is p.together some few p.phase_is
          (ltb-false room _ q)))

  -- only short and 1 Mbit/s do not go together
  apart : (k : ℕ) (r : Rate) → k < 2 → goes_with (kind_of k) r ≡ false → (k ≡ 1) × (code_of r ≡ 10)
  apart zero r h e = absurd (never (sym e))
  apart (suc zero) One h e = (refl, refl)
  apart (suc zero) Two h e = absurd (never (sym e))
  apart (suc zero) Five h e = absurd (never (sym e))
  apart (suc zero) Eleven h e = absurd (never (sym e))
  apart (suc (suc k)) r h e = absurd (omega arith)

  refused_by : allowed_settings kind rate phase ≡ false → OfSettings number
  refused_by e =
      by (is_kind kind) (is_code rate) (goes_with (kind_of kind) (rate_of rate)) (is_phase phase) refl refl refl refl e
    where
      other : (m : ℕ) → is_code m ≡ true → is_code rate ≡ false → rate ≡ m → ⊥
      other m p q e = never (sym q ∙ ap is_code e ∙ p)

      is : {m : ℕ} {w : Written} → written_of (writing_of kind rate phase n room) ≡ w → w.number ≡ m → OfSettings m
          → OfSettings number
      is e f o = subst OfSettings (sym (at_number e ∙ f)) o

      by : (a b c d : Bool) → is_kind kind ≡ a → is_code rate ≡ b → goes_with (kind_of kind) (rate_of rate) ≡ c
          → is_phase phase ≡ d → (a && b && c && d) ≡ false → OfSettings number
      by false b c d x y z v q = is (write_1 kind rate phase n room (ltb-false kind 2 x)) refl of_kind
      by true false c d x y z v q =
          is (write_2 kind rate phase n room (ltb-true kind 2 x) (other 10 refl y) (other 20 refl y) (other 55 refl y)
          (other 110 refl y)) refl of_rate
      by true true false d x y z v q =
          let t = apart kind (rate_of rate) (ltb-true kind 2 x) z in
          is (write_3 kind rate phase n room t.0 (no_other_code rate y ∙ t.1)) refl of_both
      by true true true false x y z v q =
          is (write_5 kind rate phase n room (ltb-true kind 2 x) y z some few (ltb-false phase 4 v)) refl of_phase
      by true true true true x y z v q = absurd (never (sym q))

  pub same_refused : (held : ℕ)
      → (store_written kind rate phase held ≡ 28 → OfSettings number)
      × (OfSettings number → store_written kind rate phase held ≡ 28)
  same_refused held =
      (λ e. refused_by (only_bad kind rate phase held e), λ o. by o (allowed_settings kind rate phase) refl)
    where
      by : OfSettings number → (b : Bool) → allowed_settings kind rate phase ≡ b → store_written kind rate phase held ≡ 28
      by o true e = absurd (allowed_by e o)
      by o false e = bad_number kind rate phase held e
