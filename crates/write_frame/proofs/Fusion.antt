-- The frame's definition makes passes over all of its bits; the code sends octets, part by part. They are the same:
-- `framed_parts`.
--     framed_parts    for any six header octets
--     frame_parts     for those that are sent
--     length_front    the front's chips
-- The scrambler's one run is cut where the parts end, and each part is `sent`. Assumes nothing.
use mathlib.Core.Path.{◌≡◌, refl, sym, ap, ap₂, ◌∙◌}
use mathlib.Core.Bool.{Bool}
use mathlib.Core.List.{List, [], ◌∷◌, ◌++◌, append_assoc}
use Prim.Native.Nat.{ℕ, ◌+◌, ◌*◌}
use native.Mathlib.Nat.{mul-zero}
use native.Mathlib.Omega.{arith}
use lib.ListN.{length, length-append}
use lib.Seq.{take_at}
use Rattle.base.proofs.Lists.{part_second, part_third}
use Rattle.rules_rates.specs.declared.Rate.{Rate}
use Rattle.rules_rates.specs.declared.Rate.TheVariants.{One}
use Rattle.rules_rates.specs.Rates.{octet_chips}
use Rattle.rules_bits.specs.Bits.{bits_of, octet_bits}
use Rattle.rules_bits.specs.Growths.{chips_from, last_phase}
use Rattle.rules_bits.specs.Scrambler.{scramble}
use Rattle.rules_bits.proofs.Bits.{octet_bits_length}
use Rattle.rules_bits.proofs.Scrambler.{scramble_append, scramble_length, scramble_window}
use Rattle.rules_frame.specs.declared.Kind.{Kind}
use Rattle.rules_frame.specs.declared.Kind.TheVariants.{Long, Short}
use Rattle.rules_frame.specs.Frame.{
  start,
  header_rate,
  front_chips,
  preamble_bits,
  preamble_length,
  frame_bits,
  sent_bits,
  parts_chips,
  framed,
  frame,
  sent_header,
}
use Rattle.write_octets.specs.Sending.{run}
use Rattle.write_octets.proofs.Run.{length_run}
use Rattle.write_octets.proofs.Sent.{after, Agree, sent, all_symbols, symbols_of_octets}
use Rattle.write_frame.specs.Parts.{preamble_octets, first_state, after_preamble, front_sent, after_front}

pub preamble_octets_lem : (k : Kind) → octet_bits (preamble_octets k) ≡ preamble_bits k
unfolding preamble_octets octet_bits bits_of preamble_bits
preamble_octets_lem Long = refl
preamble_octets_lem Short = refl

preamble_long : (k : Kind) → length (octet_bits (preamble_octets k)) ≡ preamble_length k
unfolding preamble_octets octet_bits bits_of
preamble_long Long = refl
preamble_long Short = refl

scramble_three : (h a b c : List ℕ)
    → scramble h (a ++ (b ++ c)) ≡ scramble h a ++ (scramble (after h a) b ++ scramble (after (after h a) b) c)
scramble_three h a b c = scramble_append h a (b ++ c)
    ∙ ap (λ (l : List ℕ). scramble h a ++ l) (scramble_append (after h a) b c)

-- the frame, from the symbols of its three parts
by_parts : (k : Kind) (r : Rate) (p : ℕ) (header xs : List ℕ) → length header ≡ 6
    → (let h1 = after (start k) (octet_bits (preamble_octets k)) in
    let a = all_symbols One (start k) 0 (preamble_octets k) in
    let b = all_symbols (header_rate k) h1 0 header in
    let c = all_symbols r (after h1 (octet_bits header)) 0 xs in
    framed k r p (octet_bits header) xs
    ≡ chips_from One p a ++ (chips_from (header_rate k) (last_phase p a) b ++ chips_from r (last_phase (last_phase p a) b) c))
unfolding framed frame_bits sent_bits parts_chips
by_parts k r p header xs six =
    let x = scramble (start k) (octet_bits (preamble_octets k)) in
    let h1 = after (start k) (octet_bits (preamble_octets k)) in
    let y = scramble h1 (octet_bits header) in
    let z = scramble (after h1 (octet_bits header)) (octet_bits xs) in
    let m : length x ≡ preamble_length k = scramble_length _ _ ∙ preamble_long k in
    let n : length y ≡ 48 = scramble_length _ _ ∙ octet_bits_length header ∙ omega arith in
    rw (
      ← preamble_octets_lem k,
      scramble_three,
      take_at x (y ++ z) _ m,
      part_second x y z _ 48 m n,
      part_third x y z _ 48 m n,
      symbols_of_octets,
      symbols_of_octets,
      symbols_of_octets,
    )

start_agrees : (k : Kind) → Agree (start k) (start k ++ 0 ∷ [])
start_agrees Long bs = scramble_window _ _ bs refl
start_agrees Short bs = scramble_window _ _ bs refl

-- a frame whose header is any six octets
pub framed_parts : (k : Kind) (r : Rate) (p : ℕ) (header xs : List ℕ) → length header ≡ 6
    → framed k r p (octet_bits header) xs ≡ front_sent k p header ++ run r 0 (after_front k p header) xs
unfolding first_state after_preamble front_sent after_front
framed_parts k r p header xs six =
    let q0 = sent One 0 0 (first_state k p) (start k) (preamble_octets k) refl (start_agrees k) in
    let q1 = sent (header_rate k) 0 0 (after_preamble k p) _ header (sym (mul-zero _)) q0.past in
    let q2 = sent r 0 0 (after_front k p header) _ xs (sym (mul-zero _)) q1.past in
    by_parts k r p header xs six
    ∙ rw (append_assoc, ← q0.chips, ← q0.phase, ← q1.chips, ← q1.phase, ← q2.chips)

-- the front's chips are counted by the kind
pub length_front : (k : Kind) (p : ℕ) (header : List ℕ) → length header ≡ 6
    → length (front_sent k p header) ≡ front_chips k
unfolding front_sent
length_front k p header e =
    length-append (run One 0 (first_state k p) (preamble_octets k)) (run (header_rate k) 0 (after_preamble k p) header)
    ∙ ap₂ {C = ℕ} (λ a b. a + b) (length_run One 0 (first_state k p) (preamble_octets k))
    (length_run (header_rate k) 0 (after_preamble k p) header ∙ ap (λ (n : ℕ). octet_chips (header_rate k) * n) e)
    ∙ sum k
  where
    sum : (k : Kind) → 88 * length (preamble_octets k) + octet_chips (header_rate k) * 6 ≡ front_chips k
    sum Long = unfold preamble_octets in refl
    sum Short = unfold preamble_octets in refl

-- the frame that is sent
pub frame_parts : (k : Kind) (r : Rate) (p : ℕ) (clock : Bool) (header xs : List ℕ)
    → octet_bits header ≡ sent_header r clock (length xs)
    → length header ≡ 6
    → frame k r p clock xs ≡ front_sent k p header ++ run r 0 (after_front k p header) xs
unfolding frame
frame_parts k r p clock header xs e six =
    ap (λ (h : List ℕ). framed k r p h xs) (sym e) ∙ framed_parts k r p header xs six
