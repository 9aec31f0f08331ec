-- LENGTH and bit 7 as a reader takes them, in natural numbers: whole octets, less bit 7 where that leaves one.
--     read_payload, read_is                          what is left is a payload exactly when the octets read are
--                                                    one, and is then their number
--     told_over, told_length, told_seven, told_all   what is left is told exactly when it is a payload and its own
--                                                    LENGTH and bit 7 are those read
--     told_fails, told_holds                         LENGTH holds exactly when octets are told, and they are those read
-- A difference that does not go below 0 is a natural number; one that does is no payload, nor is 0. Assumes nothing.
use mathlib.Core.Path.{◌≡◌, refl, sym, ap, ◌∙◌, subst}
use Rattle.std.specs.Prelude.{Option, None, Some}
use mathlib.Core.Bool.{Bool, true, false, cond}
use Prim.Native.Nat.{ℕ, zero, suc, ◌+◌, ◌-◌, ◌≤◌}
use native.Mathlib.Decide.{dec_le}
use native.Mathlib.Omega.{arith}
use borrow.Author.Tests.{eq-eqb, ne_eqb}
use lib.Dec.{T}
use lib.IntN.{ℤ, pos, negsuc, neg_ℤ, nat_abs, ◌-ℤ◌}
use lib.Signed.{le_z, ◌≤ℤ◌}
use Rattle.base.proofs.Whole.{add, neg_up, neg_dn, up_pos, dn_pos, of_le}
use Rattle.rules_rates.specs.declared.Rate.{Rate}
use Rattle.rules_rates.specs.Rates.{length_field, bit7, whole_octets, octets_read, is_payload, length_holds}
use Rattle.rules_rates.proofs.Lengths.{less}
use Rattle.common_header.specs.Code.{octets_told}

below_one : (w s : ℕ) → w ≤ s → (b : Bool) → le_z (pos 1) (pos w -ℤ pos s) ≡ b → b ≡ false
below_one w s h true e =
    absurd
    (omega (
      arith,
      of_le (pos 1) (pos w -ℤ pos s) one,
      add (pos w) (neg_ℤ (pos s)),
      neg_up (pos s),
      neg_dn (pos s),
      up_pos w,
      dn_pos w,
      up_pos s,
      dn_pos s,
      up_pos 1,
      dn_pos 1,
    ))
  where
    one : pos 1 ≤ℤ (pos w -ℤ pos s)
    one = record { le = subst T (sym e) tt }
below_one w s h false e = refl

-- a difference is a payload exactly when what is left, in natural numbers, is one
counted : (w s : ℕ) → is_payload (pos w -ℤ pos s) ≡ is_payload (pos (w - s))
counted w s = by (dec_le s w)
  where
    by : Dec (s ≤ w) → is_payload (pos w -ℤ pos s) ≡ is_payload (pos (w - s))
    by (yes h) = ap is_payload (less w s (w - s) (omega arith))
    by (no h) = let z : w - s ≡ 0 = omega arith in rw (below_one w s (omega arith) _ refl, z)

-- a payload is not none
payload_some : (z : ℤ) → is_payload z ≡ true → nat_abs z ≡ 0 → ⊥
payload_some (pos zero) e q = subst T (sym e) tt
payload_some (pos (suc n)) e q = omega arith
payload_some (negsuc n) e q = subst T (sym e) tt

module _ (r : Rate) (l s n : ℕ) (e : n ≡ whole_octets r l - s) where
  pub read_payload : is_payload (octets_read r l s) ≡ is_payload (pos n)
  read_payload = rw e (counted (whole_octets r l) s)

  pub read_is : is_payload (pos n) ≡ true → octets_read r l s ≡ pos n
  read_is k = let some = payload_some (pos n) k in less (whole_octets r l) s n (left (whole_octets r l) e some)
    where
      left : (w : ℕ) → n ≡ w - s → (n ≡ 0 → ⊥) → w ≡ n + s
      left w e some = omega arith

  pub told_over : is_payload (pos n) ≡ false → None ≡ octets_told r l s
  unfolding octets_told
  told_over k = rw (read_payload, k)

  module _ (k : is_payload (pos n) ≡ true) (f : ℕ) (q : f ≡ length_field r n) where
    pub told_length : (f ≡ l → ⊥) → None ≡ octets_told r l s
    unfolding octets_told
    told_length m = rw (read_is k, k, ← q, ne_eqb f l m)

    module _ (m : f ≡ l) (g : ℕ) (p : g ≡ bit7 r n) where
      pub told_seven : (g ≡ s → ⊥) → None ≡ octets_told r l s
      unfolding octets_told
      told_seven t = rw (read_is k, k, ← q, eq-eqb f l m, ← p, ne_eqb g s t)

      pub told_all : g ≡ s → Some n ≡ octets_told r l s
      unfolding octets_told
      told_all t = rw (read_is k, k, ← q, eq-eqb f l m, ← p, eq-eqb g s t)

module _ (r : Rate) (l s : ℕ) (o : Option ℕ) (e : o ≡ octets_told r l s) where
  when : (b : Bool) → length_holds r l s ≡ b → o ≡ cond b (Some (nat_abs (octets_read r l s))) None
  unfolding octets_told
  when b q = e ∙ ap (λ (t : Bool). cond t (Some (nat_abs (octets_read r l s))) None) q

  pub told_fails : o ≡ None → length_holds r l s ≡ false
  told_fails z = by (length_holds r l s) refl
    where
      by : (b : Bool) → length_holds r l s ≡ b → b ≡ false
      by true q = absurd (let y : ◌≡◌ {A = Option ℕ} None (Some (nat_abs (octets_read r l s))) = sym z ∙ when true q in cc)
      by false q = refl

  pub told_holds : (n : ℕ) → o ≡ Some n → (length_holds r l s ≡ true) × (nat_abs (octets_read r l s) ≡ n)
  told_holds n z = by (length_holds r l s) refl
    where
      by : (b : Bool) → length_holds r l s ≡ b → (b ≡ true) × (nat_abs (octets_read r l s) ≡ n)
      by true q =
          let y : ◌≡◌ {A = Option ℕ} (Some (nat_abs (octets_read r l s))) (Some n) = sym (when true q) ∙ z in (refl, cc)
      by false q = absurd (let y : ◌≡◌ {A = Option ℕ} None (Some n) = sym (when false q) ∙ z in cc)
