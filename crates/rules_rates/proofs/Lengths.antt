-- LENGTH and bit 7 give the octets back.
--     octets_back     at every rate and for every n, what the reader takes from the writer's LENGTH and bit 7 is n
--     length_holds_lem    and where n is 1 to 4,095, refusal 15 does not come
--     is_payload_lem, payload_high    1 to 4,095 octets
-- Each is linear arithmetic with a division by 8, 4, 11 or 16; at 11 Mbit/s by the two cases of bit 7. Assumes nothing.
use mathlib.Core.Path.{◌≡◌, refl, sym, subst}
use mathlib.Core.Bool.{Bool, true, false, cond, ◌&&◌}
use Prim.Native.Nat.{ℕ, ◌+◌, ◌*◌, ◌/◌, ◌≤◌}
use native.Mathlib.Omega.{arith}
use borrow.Author.Tests.{leb-true, leb-false, le-leb, eq-eqb}
use lib.Dec.{T, leb}
use lib.IntN.{pos, neg_ℤ, ◌-ℤ◌}
use Rattle.base.proofs.Whole.{add, neg_up, neg_dn, up_pos, dn_pos, same}
use Rattle.rules_rates.specs.declared.Rate.{Rate}
use Rattle.rules_rates.specs.declared.Rate.TheVariants.{One, Two, Five, Eleven}
use Rattle.rules_rates.specs.Rates.{length_field, bit7, whole_octets, octets_read, is_payload, length_holds}

-- a difference of naturals that does not go below 0
pub less : (a b n : ℕ) → a ≡ n + b → pos a -ℤ pos b ≡ pos n
less a b n e =
    same (pos a -ℤ pos b) (pos n)
    (omega (
      arith,
      add (pos a) (neg_ℤ (pos b)),
      neg_up (pos b),
      neg_dn
          (pos b),
      up_pos a,
      dn_pos a,
      up_pos b,
      dn_pos b,
      up_pos n,
      dn_pos n,
    ))

eleven : (n : ℕ) (b : Bool) → leb (8 * n + 8) (11 * ((8 * n + 10) / 11)) ≡ b
    → (8 * n + 10) / 11 * 11 / 8 ≡ n + cond b 1 0
eleven n true h = let k = leb-true (8 * n + 8) (11 * ((8 * n + 10) / 11)) h in omega arith
eleven n false h = let k = leb-false (8 * n + 8) (11 * ((8 * n + 10) / 11)) h in omega arith

whole : (r : Rate) (n : ℕ) → whole_octets r (length_field r n) ≡ n + bit7 r n
whole One n = omega arith
whole Two n = omega arith
whole Five n = omega arith
whole Eleven n = eleven n _ refl

-- promise: LENGTH and bit 7 give n back at every rate
-- rule: 5.12, 8.1
-- code: octets_told
-- with: length_holds_lem
pub octets_back : (r : Rate) (n : ℕ) → octets_read r (length_field r n) (bit7 r n) ≡ pos n
octets_back r n = less (whole_octets r (length_field r n)) (bit7 r n) n (whole r n)

pub is_payload_lem : (n : ℕ) → 1 ≤ n → n ≤ 4095 → is_payload (pos n) ≡ true
is_payload_lem n h k = rw (le-leb 1 n h, le-leb n 4095 k)

pub payload_high : (n : ℕ) → is_payload (pos n) ≡ true → n ≤ 4095
payload_high n e = leb-true n 4095 (second (leb 1 n) (leb n 4095) e)
  where
    second : (a b : Bool) → (a && b) ≡ true → b ≡ true
    second true b e = e
    second false b e = absurd (subst T (sym e) tt)

pub length_holds_lem : (r : Rate) (n : ℕ) → 1 ≤ n → n ≤ 4095 → length_holds r (length_field r n) (bit7 r n) ≡ true
length_holds_lem r n h k =
    rw (
      octets_back r n,
      is_payload_lem n h k,
      eq-eqb (length_field r n) (length_field r n) refl,
      eq-eqb (bit7 r n)
          (bit7 r n) refl,
    )
