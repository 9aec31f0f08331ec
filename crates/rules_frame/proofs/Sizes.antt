-- How many bits and chips a frame has, whatever its 48 header bits.
--     preamble_length_lem, bits_counted, sent_counted    bits of the preamble, of a frame, of what is sent
--     framed_length, frame_length                    chips: the front's, and 88, 44, 16 or 8 for each octet
--     frame_small                                    no frame has more than 362,472
-- A symbol is as many chips as its rate says, and each part is a whole number of symbols. Assumes nothing.
use mathlib.Core.Path.{◌≡◌, ap, ap₂, ◌∙◌}
use mathlib.Core.Bool.{Bool}
use mathlib.Core.List.{List, ◌++◌}
use Prim.Native.Nat.{ℕ, ◌+◌, ◌*◌, ◌/◌, ◌≤◌}
use native.Mathlib.Omega.{arith}
use lib.ListN.{length, take, drop, replicate, length-append, length-replicate, length-drop}
use lib.Seq.{length-take-le}
use Rattle.rules_rates.specs.declared.Rate.{Rate}
use Rattle.rules_rates.specs.declared.Rate.TheVariants.{One, Two, Five, Eleven}
use Rattle.rules_rates.specs.Rates.{symbol_chips, symbol_bits, octet_chips}
use Rattle.rules_rates.proofs.Octets.{part_symbols, part_chips}
use Rattle.rules_bits.specs.Bits.{bits_of}
use Rattle.rules_bits.specs.Growths.{symbols_of, chips_from, last_phase}
use Rattle.rules_bits.proofs.Bits.{bits_length, octet_bits_length}
use Rattle.rules_bits.proofs.Growths.{symbols_from_length, chips_from_length}
use Rattle.rules_bits.proofs.Scrambler.{scramble_length}
use Rattle.rules_frame.specs.declared.Kind.{Kind}
use Rattle.rules_frame.specs.declared.Kind.TheVariants.{Long, Short}
use Rattle.rules_frame.specs.Frame.{
  sync_bits,
  sync_bit,
  sfd_of,
  header_rate,
  start,
  front_chips,
  preamble_bits,
  preamble_length,
  header_length,
  frame_bits,
  parts_chips,
  sent_bits,
  framed,
  frame,
  frame_chips,
}
use Rattle.rules_frame.proofs.Headers.{sent_length}

pub preamble_length_lem : (k : Kind) → length (preamble_bits k) ≡ preamble_length k
unfolding preamble_bits
preamble_length_lem k =
    length-append (replicate (sync_bits k) (sync_bit k)) (bits_of 16 (sfd_of k))
    ∙ ap₂ {C = ℕ} (λ x y. x + y) (length-replicate (sync_bits k) (sync_bit k)) (bits_length 16 (sfd_of k))

pub bits_counted : (k : Kind) (header xs : List ℕ) → length header ≡ header_length
    → length (frame_bits k header xs) ≡ preamble_length k + (header_length + 8 * length xs)
unfolding frame_bits
bits_counted k header xs e = simp (length-append, preamble_length_lem, octet_bits_length, e)

pub sent_counted : (k : Kind) (header xs : List ℕ) → length header ≡ header_length
    → length (sent_bits k header xs) ≡ preamble_length k + (header_length + 8 * length xs)
unfolding sent_bits
sent_counted k header xs e = scramble_length (start k) (frame_bits k header xs) ∙ bits_counted k header xs e

-- the chips of bits at a rate
part_length : (r : Rate) (p : ℕ) (bs : List ℕ) (n : ℕ) → length bs ≡ n
    → length (chips_from r p (symbols_of r bs)) ≡ symbol_chips r * (n / symbol_bits r)
unfolding symbols_of
part_length r p bs n e =
    chips_from_length r p _
    ∙ ap (λ (m : ℕ). symbol_chips r * m) (symbols_from_length r 0 (length bs / symbol_bits r) bs)
    ∙ ap (λ (m : ℕ). symbol_chips r * (m / symbol_bits r)) e

-- the three parts together
parts_sum : (k : Kind) (r : Rate) (n : ℕ)
    → symbol_chips One * (preamble_length k / symbol_bits One)
    + (symbol_chips (header_rate k) * (header_length / symbol_bits (header_rate k)) + symbol_chips r * (8 * n / symbol_bits r))
    ≡ frame_chips k r n
parts_sum k r n = rw (part_symbols r n, part_chips r n) (fronts k (octet_chips r * n))
  where
    fronts : (k : Kind) (m : ℕ)
        → symbol_chips One * (preamble_length k / symbol_bits One)
        + (symbol_chips (header_rate k) * (header_length / symbol_bits (header_rate k)) + m) ≡ front_chips k + m
    fronts Long m = omega arith
    fronts Short m = omega arith

-- three parts of bits as chips
three_length : (k : Kind) (r : Rate) (p : ℕ) (x y z : List ℕ) (n : ℕ) → length x ≡ preamble_length k
    → length y ≡ header_length → length z ≡ 8 * n → length (parts_chips k r p x y z) ≡ frame_chips k r n
unfolding parts_chips
three_length k r p x y z n ex ey ez =
    let a = symbols_of One x in
    let b = symbols_of (header_rate k) y in
    let q = last_phase p a in
    length-append (chips_from One p a) (chips_from (header_rate k) q b ++ chips_from r (last_phase q b) (symbols_of r z))
    ∙ ap₂ {C = ℕ} (λ i j. i + j) (part_length One p x (preamble_length k) ex)
    (length-append (chips_from (header_rate k) q b) (chips_from r (last_phase q b) (symbols_of r z))
    ∙ ap₂ {C = ℕ} (λ i j. i + j) (part_length (header_rate k) q y header_length ey)
    (part_length r (last_phase q b) z (8 * n) ez))
    ∙ parts_sum k r n

-- promise: The frame's length is the front and 88n, 44n, 16n or 8n, for any 48 header bits
-- rule: 5.2
-- code: frame_chips
-- with: frame_length
pub framed_length : (k : Kind) (r : Rate) (p : ℕ) (header xs : List ℕ) → length header ≡ header_length
    → length (framed k r p header xs) ≡ frame_chips k r (length xs)
unfolding framed
framed_length k r p header xs e =
    let s = sent_bits k header xs in
    let m = preamble_length k in
    let all : length s ≡ m + (header_length + 8 * length xs) = sent_counted k header xs e in
    three_length k r p (take m s) (take header_length (drop m s)) (drop (m + header_length) s) (length xs)
    (length-take-le m s (omega (arith, all)))
    (length-take-le header_length (drop m s) (rw length-drop (omega (arith, all))))
    (length-drop (m + header_length) s ∙ omega (arith, all))

pub frame_length : (k : Kind) (r : Rate) (p : ℕ) (clock : Bool) (xs : List ℕ)
    → length (frame k r p clock xs) ≡ frame_chips k r (length xs)
unfolding frame
frame_length k r p clock xs = framed_length k r p _ xs (sent_length r clock (length xs))

pub frame_small : (k : Kind) (r : Rate) (n : ℕ) → n ≤ 4095 → frame_chips k r n ≤ 362472
frame_small Long One n h = omega arith
frame_small Long Two n h = omega arith
frame_small Long Five n h = omega arith
frame_small Long Eleven n h = omega arith
frame_small Short One n h = omega arith
frame_small Short Two n h = omega arith
frame_small Short Five n h = omega arith
frame_small Short Eleven n h = omega arith
