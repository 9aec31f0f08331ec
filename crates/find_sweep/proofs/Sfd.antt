-- A front that meets none of 8 to 15 has its kind's SFD, so the two octets there are its octets: where they are not, no
-- front needs to be read.
-- Assumes nothing.
use Rattle.std.specs.Prelude.{Ok}
use mathlib.Core.Path.{◌≡◌, refl, sym, ap, ◌∙◌}
use mathlib.Core.List.{List, map}
use Prim.Native.Nat.{ℕ, ◌+◌, ◌-◌, ◌*◌, ◌/◌, ◌%◌, ◌≤◌, ◌<◌}
use native.Mathlib.Omega.{arith}
use lib.ListN.{get_or, take, drop}
use lib.Seq.{drop-drop}
use Rattle.base.specs.Tables.{tabulate}
use Rattle.base.proofs.Tables.{tabulate_ext}
use Rattle.rules_rates.specs.declared.Rate.TheVariants.{One}
use Rattle.rules_chips.specs.Chips.{Taken, taken_counts}
use Rattle.rules_symbols.specs.Choice.{decided}
use Rattle.rules_bits.specs.Bits.{◌⊕◌, bits_of, number_of}
use Rattle.rules_bits.specs.Growths.{grown_by}
use Rattle.rules_frame.specs.declared.Kind.{Kind}
use Rattle.rules_frame.specs.declared.Kind.TheVariants.{Long, Short}
use Rattle.rules_frame.specs.Frame.{sfd_of, sync_bits}
use Rattle.rules_calls.specs.declared.Told.{Told}
use Rattle.rules_reading.specs.Reading.{front_of}
use Rattle.rules_reading.proofs.Sfd.{word_at, sfd_bit}
use Rattle.find_sweep.specs.Sweep.{half_at, bit_at, plain_at, octet_at, sfd_from}
use Rattle.rules_reading.proofs.Halves.{front_bit}

module _ (rec : List Taken) (o : ℕ) where
  abbrev from : List Taken
  from = drop o rec

  half_there : (n : ℕ) → word_at One from n / 2 ≡ half_at rec (o + 11 * n)
  unfolding half_at
  half_there n = ap (λ (x : List Taken). decided One (map taken_counts (take 11 x)) / 2) (drop-drop (11 * n) o rec)

  some_sync : (k : Kind) → 8 ≤ sync_bits k
  some_sync Long = omega arith
  some_sync Short = omega arith

  abbrev bit : ℕ → ℕ
  bit n = grown_by (word_at One from n) (word_at One from (n + 1)) / 2

  module _ (k : Kind) (t : Told) (told : front_of k from ≡ Ok t) where
    bit_there : (n : ℕ) → n + 1 < sync_bits k + 16 → bit n ≡ bit_at rec (o + 11 * n)
    unfolding bit_at
    bit_there n h =
        let e : o + 11 * (n + 1) ≡ o + 11 * n + 11 = omega arith in
        let next = half_there (n + 1) ∙ ap (half_at rec) e in
        front_bit k from t told n h ∙ (λ i. half_there n i ⊕ next i)

    plain_there : (n : ℕ) → n + 8 < sync_bits k + 16 → bit (n + 7) ⊕ bit (n + 3) ⊕ bit n ≡ plain_at rec (o + 11 * n)
    unfolding plain_at
    plain_there n h =
        let e : o + 11 * (n + 7) ≡ o + 11 * n + 77 = omega arith in
        let f : o + 11 * (n + 3) ≡ o + 11 * n + 33 = omega arith in
        let last = bit_there (n + 7) (omega arith) ∙ ap (bit_at rec) e in
        let four = bit_there (n + 3) (omega arith) ∙ ap (bit_at rec) f in
        let seven = bit_there n (omega arith) in
        λ i. last i ⊕ four i ⊕ seven i

    -- the SFD's bit i, b of which stand before the place
    plain_is : (b j : ℕ) → b + j < 16
        → plain_at rec (o + sfd_from k + 11 * b + 11 * j) ≡ get_or (bits_of 16 (sfd_of k)) (b + j) 0
    plain_is b j h =
        let n : ℕ = sync_bits k - 8 + (b + j) in
        let e : o + sfd_from k + 11 * b + 11 * j ≡ o + 11 * n = omega (arith, some_sync k) in
        ap (plain_at rec) e ∙ sym (plain_there n (omega (arith, some_sync k)))
        ∙ sfd_bit k from t told n (b + j) (omega (arith, some_sync k)) h

    octet_is : (b : ℕ) → b + 7 < 16
        → octet_at rec (o + sfd_from k + 11 * b)
        ≡ number_of (tabulate (λ j. get_or (bits_of 16 (sfd_of k)) (b + j) 0) 8)
    unfolding octet_at
    octet_is b h =
        ap number_of
        (tabulate_ext (λ j. plain_at rec (o + sfd_from k + 11 * b + 11 * j)) (λ j. get_or (bits_of 16 (sfd_of k)) (b + j) 0) 8
        (λ j l. plain_is b j (omega arith)))

    low_octet : (x : Kind) → number_of (tabulate (λ j. get_or (bits_of 16 (sfd_of x)) (0 + j) 0) 8) ≡ sfd_of x % 256
    unfolding tabulate number_of bits_of
    low_octet Long = refl
    low_octet Short = refl

    high_octet : (x : Kind) → number_of (tabulate (λ j. get_or (bits_of 16 (sfd_of x)) (8 + j) 0) 8) ≡ sfd_of x / 256
    unfolding tabulate number_of bits_of
    high_octet Long = refl
    high_octet Short = refl

    pub sfd_low : octet_at rec (o + sfd_from k) ≡ sfd_of k % 256
    sfd_low =
        let e : o + sfd_from k ≡ o + sfd_from k + 11 * 0 = omega arith in
        ap (octet_at rec) e ∙ octet_is 0 (omega arith) ∙ low_octet k

    pub sfd_high : octet_at rec (o + sfd_from k + 88) ≡ sfd_of k / 256
    sfd_high = octet_is 8 (omega arith) ∙ high_octet k
