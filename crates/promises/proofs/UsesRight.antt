-- Uses of demand 3's statements, as they are kept, so that none of them can be said of nothing; and exact values, in
-- steps. Assumes nothing.
use mathlib.Core.Path.{◌≡◌, refl}
use mathlib.Core.Bool.{not}
use mathlib.Core.List.{List, [], ◌∷◌}
use Prim.Native.Nat.{ℕ, ◌+◌, ◌*◌, ◌/◌, ◌^◌, ◌≤◌, ◌<◌}
use native.Mathlib.Omega.{arith}
use lib.Dec.{T}
use lib.ListN.{length, get_or}
use lib.IntN.{ℤ, pos, neg_ℤ, ◌+ℤ◌}
use lib.Signed.{◌≤ℤ◌, ◌<ℤ◌}
use lib.Ieee.{Float, nan, binary32, of_bits}
use Rattle.rules_rates.specs.declared.Rate.{Rate}
use Rattle.rules_rates.specs.declared.Rate.TheVariants.{One}
use Rattle.rules_rates.specs.Rates.{symbol_chips, symbol_bits}
use Rattle.rules_chips.specs.declared.Counts.{Counts}
use Rattle.rules_chips.specs.Floats.{steps, usable, value_of, count_of, Nearest}
use Rattle.rules_chips.specs.Bounds.{Apart}
use Rattle.rules_chips.specs.Chips.{
  Taken,
  unusable,
  is_unusable,
  taken_counts,
  pair,
  nothing,
  hard_recording,
  soft_recording,
  byte_recording,
}
use Rattle.rules_symbols.specs.Choice.{numbers, is_allowed}
use Rattle.rules_choosing.specs.Demand3.{exact_at}
use Rattle.rules_frame.specs.declared.Kind.{Kind}
use Rattle.rules_frame.specs.Frame.{header_rate, header_length, preamble_chips, front_chips, frame_chips, preamble_length}
use Rattle.rules_reading.specs.Reading.{preamble_words, header_words, payload_words}
use Rattle.promises.specs.Calls.{in_hard, in_soft, in_bytes}
use Rattle.promises.specs.Right.{exact_from, EachRight, exact_hard, exact_soft, exact_bytes}
use Rattle.promises.proofs.Kept.{kept}

pub exact_hard_lem : exact_hard (0 ∷ 1 ∷ 2 ∷ 3 ∷ 4 ∷ [])
    ≡ pair (pos (2 ^ 149)) (pos 0) ∷ pair (pos 0) (pos (2 ^ 149)) ∷ pair (neg_ℤ (pos (2 ^ 149))) (pos 0)
    ∷ pair (pos 0) (neg_ℤ (pos (2 ^ 149))) ∷ nothing ∷ []
exact_hard_lem = refl

-- 2^-11, half a count, and a little more than it below 0
pub exact_soft_lem : exact_soft (of_bits binary32 0x3a00_0000 ∷ []) (of_bits binary32 0xba00_0001 ∷ [])
    ≡ pair (pos (2 ^ 138)) (neg_ℤ (pos (2 ^ 138 + 2 ^ 115))) ∷ []
unfolding of_bits steps exact_soft
exact_soft_lem = refl

pub exact_bytes_lem : exact_bytes (pos 64 ∷ neg_ℤ (pos 1) ∷ pos 5 ∷ [])
    ≡ pair (pos (2 ^ 149)) (neg_ℤ (pos (2 ^ 143))) ∷ []
unfolding exact_bytes
exact_bytes_lem = refl

pub front_right : (k : Kind) (bytes : List ℤ) → 2 * front_chips k ≤ length bytes
    → EachRight 0 One (preamble_length k) 0 (preamble_words k (byte_recording bytes)) (exact_bytes bytes)
front_right k bytes h = (kept.rows_right (in_bytes bytes)).preamble k (λ place l. omega arith)

pub payload_right : (k : Kind) (r : Rate) (n : ℕ) (bytes : List ℤ) → 2 * frame_chips k r n ≤ length bytes
    → EachRight 0 r (8 * n / symbol_bits r) (front_chips k) (payload_words k r n (byte_recording bytes)) (exact_bytes bytes)
payload_right k r n bytes h = (kept.rows_right (in_bytes bytes)).payload k r n (λ place g l. omega arith)

-- hard chips are good up to 4
pub hard_front_right : (k : Kind) (octets : List ℕ) → ((place : ℕ) → place < front_chips k → get_or octets place 5 ≤ 4)
    → EachRight 0 One (preamble_length k) 0 (preamble_words k (hard_recording octets)) (exact_hard octets)
hard_front_right k octets h = (kept.rows_right (in_hard octets)).preamble k h

-- soft ones where I and Q are usable, the header's too
pub soft_header_right : (k : Kind) (i q : List Float)
    → ((place : ℕ) → place < front_chips k → T (usable (get_or i place nan)) × T (usable (get_or q place nan)))
    → EachRight (2 ^ 138) (header_rate k) (header_length / symbol_bits (header_rate k)) (preamble_chips k)
    (header_words k (soft_recording i q)) (exact_soft i q)
soft_header_right k i q h = (kept.rows_right (in_soft i q)).header k h

-- a recorder, by what is asked of it alone: counts at most so many steps off
pub near_front_right : (k : Kind) (half : ℕ) (exact : List Counts) (rec : List Taken) → length exact ≡ length rec
    → ((place : ℕ) → T (not (is_unusable (get_or rec place unusable)))
    → Apart half (taken_counts (get_or rec place unusable)) (get_or exact place nothing))
    → ((place : ℕ) → place < front_chips k → T (not (is_unusable (get_or rec place unusable))))
    → EachRight half One (preamble_length k) 0 (preamble_words k rec) exact
near_front_right k half exact rec l near h =
    (kept.recorded_right half exact rec (record { as_long = l; near = near })).preamble k h

-- every usable number is counted
pub counted_near : (x : Float) → T (usable x) → Nearest (value_of x) (count_of x)
counted_near x u = kept.half_a_count x u

-- word by word: the one of a payload symbol is allowed, no other is above it by more than the error, and one that leads
-- all others by more is it
module _ (k : Kind) (r : Rate) (n j : ℕ) (i q : List Float) (h : j < 8 * n / symbol_bits r)
    (ok : (place : ℕ) → front_chips k ≤ place → place < frame_chips k r n
    → T (usable (get_or i place nan)) × T (usable (get_or q place nan))) where
  abbrev word : ℕ
  word = get_or (payload_words k r n (soft_recording i q)) j 0

  abbrev exactly : ℕ → ℤ
  exactly = exact_at r (exact_from r (front_chips k + j * symbol_chips r) (exact_soft i q))

  abbrev error : ℤ
  error = pos (symbol_chips r * (2 * 2 ^ 138))

  pub word_allowed : (word < numbers r) × T (is_allowed r word)
  word_allowed = let x = (kept.rows_right (in_soft i q)).payload k r n ok j h in (x.among, x.allowed)

  pub none_above_word : (m : ℕ) → m < numbers r → T (is_allowed r m) → exactly m ≤ℤ (exactly word +ℤ error)
  none_above_word m l t = ((kept.rows_right (in_soft i q)).payload k r n ok j h).none_above m l t

  pub leader_is_word : (m : ℕ) → m < numbers r → T (is_allowed r m)
      → ((p : ℕ) → p < numbers r → T (is_allowed r p) → (p ≡ m → ⊥) → (exactly p +ℤ error) <ℤ exactly m)
      → word ≡ m
  leader_is_word m l t leads = ((kept.rows_right (in_soft i q)).payload k r n ok j h).leader_chosen m l t leads
