-- What the symbols of a frame that was written say: every chip is that of the word that its symbol is read as; the
-- first eight go by the starting phase, and SYNC is what the kind says, bit by bit. Assumes nothing.
use mathlib.Core.Path.{◌≡◌, refl, sym, ap, ◌∙◌, subst}
use mathlib.Core.List.{List, [], ◌∷◌, ◌++◌}
use Prim.Native.Nat.{ℕ, ◌+◌, ◌-◌, ◌≤◌, ◌<◌}
use native.Mathlib.Omega.{arith}
use lib.ListN.{length, get_or, take, drop, replicate}
use lib.Seq.{take-append-le}
use Rattle.rules_rates.specs.declared.Rate.TheVariants.{One}
use Rattle.rules_rates.specs.Rates.{rate_of}
use Rattle.rules_chips.specs.Chips.{Taken, hard_recording}
use Rattle.rules_symbols.specs.Words.{barker_word}
use Rattle.rules_bits.specs.Bits.{number_of}
use Rattle.rules_bits.specs.Code.{words_chips}
use Rattle.rules_frame.specs.declared.Kind.{Kind}
use Rattle.rules_frame.specs.declared.Kind.TheVariants.{Long, Short}
use Rattle.rules_frame.specs.Frame.{kind_of, clock_of, sync_bits, sync_bit, header_rate, front_chips, frame_chips}
use Rattle.rules_frame.proofs.Begins.{eight_phases, first_eight}
use Rattle.rules_calls.specs.declared.Written.{Written}
use Rattle.rules_reading.specs.Decoded.{FieldAt}
use Rattle.rules_reading.specs.Reading.{preamble_words, header_words, front_bits, payload_words}
use Rattle.rules_reading.proofs.Decoding.{front_fields}
use Rattle.rules_clean.specs.Clean.{clean_recording}
use Rattle.rules_clean.proofs.Recorded.{hard_recorded}
use Rattle.rules_clean.proofs.Back as clean
use Rattle.promises.specs.Calls.{
  Goes,
  long_1,
  long_2,
  long_5,
  long_11,
  short_2,
  short_5,
  short_11,
  Sent,
}
use Rattle.promises.specs.Reasons.{BitsOf, long_bits, short_bits, FrontField}
use Rattle.promises.specs.Promises.{SentWords, SentBegins, begins_with}
use Rattle.promises.proofs.Back.{pair, sent, chips_are, sent_length, taken, phases}

-- SYNC of a kind, by the definitions
sync_is : {kind at sfd ones : ℕ} → BitsOf kind at sfd ones
    → (at ≡ sync_bits (kind_of kind)) × (sync_bit (kind_of kind) ≡ 1 - kind)
sync_is long_bits = (refl, refl)
sync_is short_bits = (refl, refl)

itself : (x : ℕ) → x + 0 ≡ x
itself x = omega arith

-- the first eight phases, by the definitions
phases_are : {kind rate front octet : ℕ} → Goes kind rate front octet → (p : ℕ)
    → eight_phases (kind_of kind) p ≡ begins_with kind p
phases_are long_1 p = refl
phases_are long_2 p = refl
phases_are long_5 p = refl
phases_are long_11 p = refl
phases_are short_2 p = refl
phases_are short_5 p = refl
phases_are short_11 p = refl

some_front : (k : Kind) → 88 ≤ front_chips k
some_front Long = omega arith
some_front Short = omega arith

-- the first of them is the starting phase
front_chip : (chips : List ℕ) → get_or (take 88 chips) 0 4 ≡ get_or chips 0 4
front_chip [] = refl
front_chip (c ∷ chips) = refl

phase_first : {kind rate front octet : ℕ} → Goes kind rate front octet → (p : ℕ) → p < 4
    → get_or (words_chips One (begins_with kind p)) 0 4 ≡ p
unfolding words_chips barker_word
phase_first long_1 p h = omega arith
phase_first long_2 p h = omega arith
phase_first long_5 p h = omega arith
phase_first long_11 p h = omega arith
phase_first short_2 p h = omega arith
phase_first short_5 p h = omega arith
phase_first short_11 p h = omega arith

module _ (kind rate phase clock : ℕ) (payload : List ℕ) (w : Written) (chips : List ℕ)
    (s : Sent kind rate phase clock payload w chips) where
  abbrev k : Kind
  k = kind_of kind

  abbrev tail : List ℕ
  tail = replicate (s.room - frame_chips k (rate_of rate) (length payload)) 4

  abbrev all : List ℕ
  all = sent kind rate phase clock payload w chips s

  eight : take 88 chips ≡ words_chips One (begins_with kind phase)
  eight =
      ap (take 88) (chips_are kind rate phase clock payload w chips s)
      ∙ take-append-le 88 all tail
      (omega (arith, sent_length kind rate phase clock payload w chips s, some_front k))
      ∙ first_eight k (rate_of rate) phase (clock_of clock) payload s.sendable.phase_is
      ∙ ap (words_chips One) (phases_are s.sendable.goes phase)

  pub first_chip : get_or chips 0 4 ≡ phase
  first_chip =
      sym (front_chip chips) ∙ ap (λ (l : List ℕ). get_or l 0 4) eight
      ∙ phase_first s.sendable.goes phase s.sendable.phase_is

  recorded : hard_recording chips ≡ clean_recording all ++ hard_recording tail
  recorded =
      ap hard_recording (chips_are kind rate phase clock payload w chips s)
      ∙ hard_recorded all tail (phases kind rate phase clock payload w chips s)

  words_are : take w.chips chips
      ≡ words_chips One (preamble_words k (hard_recording chips))
      ++ (words_chips (header_rate k) (header_words k (hard_recording chips))
      ++ words_chips (rate_of rate) (payload_words k (rate_of rate) (length payload) (hard_recording chips)))
  words_are =
      taken kind rate phase clock payload w chips s
      ∙ clean.words_back kind (rate_of rate) phase (clock_of clock) payload
      (pair kind rate phase clock payload w chips s).kind_is s.sendable.phase_is (hard_recording tail)
      ∙ ap
      (λ (t : List Taken). words_chips One (preamble_words k t)
      ++ (words_chips (header_rate k) (header_words k t)
      ++ words_chips (rate_of rate) (payload_words k (rate_of rate) (length payload) t)))
      (sym recorded)

  bit_is : (b : ℕ) → 8 ≤ b → b < sync_bits k → FieldAt k One (hard_recording chips) 0 b 1 (sync_bit k)
  unfolding number_of
  bit_is b h i =
      subst (FieldAt k One (hard_recording chips) 0 b 1)
      (ap (λ (t : List Taken). number_of (take 1 (drop b (front_bits k t)))) recorded
      ∙ ap number_of
      (clean.sync_back kind (rate_of rate) phase (clock_of clock) payload
      (pair kind rate phase clock payload w chips s).kind_is s.sendable.phase_is (hard_recording tail) b h i)
      ∙ itself (sync_bit k))
      (front_fields k One (hard_recording chips) 0 b 1 h (omega (arith, i)))

pub sent_words : SentWords
sent_words = words_are

pub sent_begins : SentBegins
sent_begins kind rate phase clock payload w chips s = (
  eight kind rate phase clock payload w chips s,
  λ at sfd ones b bits h i.
      let e = sync_is bits in
      subst (λ (v : ℕ). FrontField kind (hard_recording chips) b 1 v) e.1
      (bit_is kind rate phase clock payload w chips s b h (omega (arith, i, e.0))),
)
