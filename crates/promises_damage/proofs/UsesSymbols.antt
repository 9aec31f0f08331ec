-- Uses of the statements about single symbols and about where a frame's symbols are, as they are kept. Assumes nothing.
use mathlib.Core.Path.{◌≡◌, refl, sym, ◌∙◌, subst}
use mathlib.Core.List.{List, map}
use Prim.Native.Nat.{ℕ, suc, ◌+◌, ◌*◌, ◌≤◌, ◌<◌}
use native.Mathlib.Decide.{dec_le}
use native.Mathlib.Omega.{arith}
use lib.Dec.{T, lit<}
use lib.ListN.{length}
use lib.IntN.{pos}
use lib.Signed.{◌≤ℤ◌}
use Rattle.base.specs.Below.{Below}
use Rattle.rules_rates.specs.declared.Rate.TheVariants.{Eleven}
use Rattle.rules_rates.specs.Rates.{code_of, rate_of}
use Rattle.rules_chips.specs.Chips.{taken_counts, hard_recording, full_chip}
use Rattle.rules_symbols.specs.Words.{cck_of, word_of}
use Rattle.rules_symbols.specs.Choice.{numbers, is_allowed, decided, lead_of}
use Rattle.rules_choosing.specs.Scores.{score_at}
use Rattle.rules_damage.specs.Damage.{wrong, lost}
use Rattle.rules_damage.specs.Plain.{
  FrontSymbols,
  of_long,
  of_short,
  PayloadSymbols,
  at_10,
  at_20,
  at_55,
  at_110,
  in_front,
  in_payload,
  HasChip,
  SomeSymbol,
  SentAs,
  SymbolSpoiled,
  PastLimit,
}
use Rattle.rules_damage.proofs.SymbolStands.{word_sent, sent_word, symbol_spoiled}
use Rattle.promises.specs.Calls.{Goes, long_1, long_11, short_2, short_5}
use Rattle.promises_damage.proofs.Kept.{kept}

-- ---- any symbol, its chips counted by the definition
pub symbol_read : (rate n : ℕ) (rec : List ℕ) (each chips limit : ℕ) → n < numbers (rate_of rate)
    → T (is_allowed (rate_of rate) n) → PayloadSymbols rate each chips limit → length rec ≡ chips → Below 5 rec
    → 2 * wrong (word_of (rate_of rate) n) rec + lost rec ≤ limit
    → (decided (rate_of rate) (map taken_counts (hard_recording rec)) ≡ n)
    × (1024 ≤ lead_of (rate_of rate) (map taken_counts (hard_recording rec)))
symbol_read rate n rec each chips limit l a u e b few =
    kept.symbol_stands rate n rec limit _ _ (symbol_spoiled rate n rec each chips limit word u e b) few
  where
    coded : (rate each chips limit : ℕ) → PayloadSymbols rate each chips limit → code_of (rate_of rate) ≡ rate
    coded _ _ _ _ at_10 = refl
    coded _ _ _ _ at_20 = refl
    coded _ _ _ _ at_55 = refl
    coded _ _ _ _ at_110 = refl

    word : SentAs rate n
    word = subst (λ (c : ℕ). SentAs c n) (coded rate each chips limit u) (sent_word (rate_of rate) n l a)

-- ---- no limit can be raised
abbrev Raised : ℕ → ℕ → Type 0
Raised rate limit =
    (n : ℕ) (rec : List ℕ) (w t : ℕ) → n < numbers (rate_of rate) → T (is_allowed (rate_of rate) n)
    → SymbolSpoiled rate n rec limit w t → 2 * w + t ≤ suc limit
    → decided (rate_of rate) (map taken_counts (hard_recording rec)) ≡ n

raised_not : {rate n : ℕ} {rec : List ℕ} {limit w t other : ℕ} → PastLimit rate n rec limit w t other
    → Raised rate limit → ⊥
raised_not {rate} {n} {rec} {limit} {w} {t} p h =
    let word = word_sent rate n p.spoiled.word in
    p.another (sym p.decided_as ∙ h n rec w t word.0 word.1 p.spoiled p.just)

pub not_raised : (Raised 10 10 → ⊥) × (Raised 20 10 → ⊥) × (Raised 55 3 → ⊥) × (Raised 110 3 → ⊥)
not_raised = (
  raised_not kept.limits_tight.one_lost,
  raised_not kept.limits_tight.two_lost,
  raised_not kept.limits_tight.five_lost,
  raised_not kept.limits_tight.eleven_lost,
)

-- by wrong chips too
pub not_raised_wrong : (Raised 10 10 → ⊥) × (Raised 20 10 → ⊥) × (Raised 55 3 → ⊥)
not_raised_wrong = (
  raised_not kept.limits_tight.one_wrong,
  raised_not kept.limits_tight.two_wrong,
  raised_not kept.limits_tight.five_wrong,
)

-- and none is past a limit that it keeps
pub past_is : {rate n : ℕ} {rec : List ℕ} {limit w t other : ℕ} → PastLimit rate n rec limit w t other
    → 2 * w + t ≡ suc limit
past_is {limit = limit} {w = w} {t = t} p = by (dec_le (2 * w + t) limit)
  where
    by : Dec (2 * w + t ≤ limit) → 2 * w + t ≡ suc limit
    by (yes h) = absurd (p.past h)
    by (no g) = omega (arith, g, p.just)

-- ---- at 11 Mbit/s another word scores 4 full chips at most
pub eleven_below : (n w : ℕ) → n < 256 → w < 256 → (n ≡ w → ⊥)
    → score_at Eleven (map (full_chip 1024) (cck_of w)) n ≤ℤ pos 4096
eleven_below n w hn hw ne = kept.words_apart n w hn hw ne

-- ---- where symbols are: a chip of a symbol is in no other
module _ (kind rate front octet n : ℕ) (goes : Goes kind rate front octet) (s at chips limit : ℕ) where
  abbrev Is : ℕ → ℕ → ℕ → ℕ → ℕ → Type 0
  Is i s' at' chips' limit' =
      HasChip kind rate n i s at chips limit → HasChip kind rate n i s' at' chips' limit'
      → (s ≡ s') × (at ≡ at') × (chips ≡ chips') × (limit ≡ limit')

  one_symbol : (i s' at' chips' limit' : ℕ) → Is i s' at' chips' limit'
  one_symbol i s' at' chips' limit' h h' =
      (kept.in_one_symbol kind rate front octet n i goes).1 s at chips limit s' at' chips' limit' h h'

-- chip i of a front is in symbol i / 11; chip j of a payload symbol is in that symbol
pub chip_of_front : (kind rate front octet n f x i s at chips limit : ℕ) → Goes kind rate front octet
    → FrontSymbols kind f → x < f → i < 11 → HasChip kind rate n (11 * x + i) s at chips limit
    → (s ≡ x) × (at ≡ 11 * x) × (chips ≡ 11) × (limit ≡ 10)
chip_of_front kind rate front octet n f x i s at chips limit goes table l m h =
    one_symbol kind rate front octet n goes s at chips limit (11 * x + i) x (11 * x) 11 10 h
    (record { symbol = in_front f x table l; from = omega arith; to = omega arith })

pub chip_of_payload : (kind rate front octet n f each c limit j i s at chips limit' : ℕ) → Goes kind rate front octet
    → FrontSymbols kind f → PayloadSymbols rate each c limit → j < each * n → i < c
    → HasChip kind rate n (11 * f + c * j + i) s at chips limit'
    → (s ≡ f + j) × (at ≡ 11 * f + c * j) × (chips ≡ c) × (limit' ≡ limit)
chip_of_payload kind rate front octet n f each c limit j i s at chips limit' goes table u l m h =
    one_symbol kind rate front octet n goes s at chips limit' (11 * f + c * j + i) (f + j) (11 * f + c * j) c limit h
    (record { symbol = in_payload f each c limit j table u l; from = omega arith; to = omega arith })

-- a chip is in a symbol exactly where it is the frame's
pub in_frame : (kind rate front octet n i : ℕ) → Goes kind rate front octet
    → (i < front + octet * n → SomeSymbol kind rate n i) × (SomeSymbol kind rate n i → i < front + octet * n)
in_frame kind rate front octet n i goes =
    let told = kept.in_one_symbol kind rate front octet n i goes in
    (told.0, λ x. told.2 x.s x.at x.chips x.limit x.has)

-- the limits, by rate: those of the payload's first symbol
pub limits_are : (n at s chips limit : ℕ)
    → (HasChip 0 10 n 2112 s at chips limit → 1 ≤ n → (s ≡ 192) × (at ≡ 2112) × (chips ≡ 11) × (limit ≡ 10))
    × (HasChip 1 20 n 1056 s at chips limit → 1 ≤ n → (s ≡ 96) × (at ≡ 1056) × (chips ≡ 11) × (limit ≡ 10))
    × (HasChip 1 55 n 1056 s at chips limit → 1 ≤ n → (s ≡ 96) × (at ≡ 1056) × (chips ≡ 8) × (limit ≡ 3))
    × (HasChip 0 110 n 2112 s at chips limit → 1 ≤ n → (s ≡ 192) × (at ≡ 2112) × (chips ≡ 8) × (limit ≡ 3))
limits_are n at s chips limit = (
  (λ h l. chip_of_payload 0 10 2112 88 n 192 8 11 10 0 0 s at chips limit long_1 of_long at_10 (omega arith) (lit< tt)
      h),
  (λ h l. chip_of_payload 1 20 1056 44 n 96 4 11 10 0 0 s at chips limit short_2 of_short at_20 (omega arith) (lit< tt)
      h),
  (λ h l. chip_of_payload 1 55 1056 16 n 96 2 8 3 0 0 s at chips limit short_5 of_short at_55 (omega arith) (lit< tt)
      h),
  λ h l. chip_of_payload 0 110 2112 8 n 192 1 8 3 0 0 s at chips limit long_11 of_long at_110 (omega arith) (lit< tt) h,
)
