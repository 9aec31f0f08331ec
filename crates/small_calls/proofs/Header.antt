-- What the SFD and the header show: 11 to 15.
--     row_of                                             an answer shows the row of its refusal
--     signal_row, service_row, length_row, micros_row    the bits of a row by the octets
-- Assumes nothing.
use mathlib.Core.Path.{◌≡◌, sym, ap, ap₂, ◌∙◌}
use mathlib.Core.List.{List, [], ◌∷◌}
use Prim.Native.Nat.{ℕ, ◌/◌, ◌%◌}
use lib.ListN.{length, get_or, take, drop}
use Rattle.base.specs.Below.{Below}
use Rattle.rules_rates.specs.declared.Rate.{Rate}
use Rattle.rules_rates.specs.Rates.{rate_of, octets_read}
use Rattle.rules_bits.specs.Bits.{number_of, octet_bits}
use Rattle.rules_frame.specs.declared.Kind.{Kind}
use Rattle.rules_calls.specs.declared.Refusal.{Refusal}
use Rattle.rules_calls.specs.Answers.{refusal_number, refusal_place}
use Rattle.rules_calls.proofs.Fields.{signal_cut, service_cut, length_cut}
use Rattle.rules_why.specs.declared.Reason.{Reason}
use Rattle.rules_why.specs.Why.{service_left, length_for, reason}
use Rattle.small_calls.specs.Why.{header_row, header_shown}

-- ---- a row
module _ (k : Kind) (sfd header : List ℕ) where
  pub row_of : (e c : Refusal) {r : Reason} {a b : ℕ} → r ≡ reason (refusal_number e) (refusal_place e) a b → e ≡ c
      → a ≡ (header_row k sfd header c).0 → b ≡ (header_row k sfd header c).1 → r ≡ header_shown k sfd header e
  row_of e c p q x y =
      p ∙ ap₂ {C = Reason} (reason (refusal_number e) (refusal_place e))
      (x ∙ sym (ap (λ (d : Refusal). (header_row k sfd header d).0) q))
      (y ∙ sym (ap (λ (d : Refusal). (header_row k sfd header d).1) q))

-- ---- by the octets
module _ (header : List ℕ) (six : length header ≡ 6) (octets : Below 256 header) where
  abbrev bits : List ℕ
  bits = octet_bits header

  pub signal_row : get_or header 0 0 ≡ number_of (take 8 bits)
  signal_row = sym (signal_cut header six octets)

  module _ (r : Rate) (e : r ≡ rate_of (get_or header 0 0)) where
    pub service_row : {x : ℕ} → x ≡ service_left r (get_or header 1 0)
        → x ≡ service_left (rate_of (number_of (take 8 bits))) (number_of (take 8 (drop 8 bits)))
    service_row h = rw (signal_cut header six octets, service_cut header six octets, ← e) h

    pub length_row : {x : ℕ} (l : ℕ) → l ≡ number_of (octet_bits (get_or header 2 0 ∷ get_or header 3 0 ∷ []))
        → x ≡ length_for r (octets_read r l (get_or header 1 0 / 128 % 2))
        → x ≡ length_for (rate_of (number_of (take 8 bits))) (octets_read (rate_of (number_of (take 8 bits)))
        (number_of (take 16 (drop 16 bits))) (number_of (take 8 (drop 8 bits)) / 128 % 2))
    length_row l q h =
        rw (signal_cut header six octets, service_cut header six octets, length_cut header six, ← e, ← q) h

  pub micros_row : (l : ℕ) → l ≡ number_of (octet_bits (get_or header 2 0 ∷ get_or header 3 0 ∷ []))
      → l ≡ number_of (take 16 (drop 16 bits))
  micros_row l q = q ∙ sym (length_cut header six)
