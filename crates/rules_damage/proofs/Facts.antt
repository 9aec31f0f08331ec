-- Worked values that pin the definitions, and symbols one past their limits that are decided as another word (RULES
-- 3.10). Computed. Assumes nothing.
use mathlib.Core.Path.{◌≡◌, refl}
use mathlib.Core.List.{List, [], ◌∷◌, ◌++◌, map}
use Prim.Native.Nat.{ℕ, suc, ◌+◌, ◌*◌, ◌≤◌, ◌<◌}
use native.Mathlib.Decide.{dec_lt}
use native.Mathlib.Omega.{arith}
use lib.Dec.{T, leb, ltb, leb→le, ltb→lt, lit≤, lit<}
use lib.ListN.{length, get_or, replicate, get_or-eq_default}
use Rattle.base.specs.Below.{Below}
use Rattle.base.proofs.Tests.{all, all_at}
use Rattle.rules_rates.specs.declared.Rate.TheVariants.{Five}
use Rattle.rules_rates.specs.Rates.{rate_of}
use Rattle.rules_chips.specs.Chips.{taken_counts, hard_recording}
use Rattle.rules_symbols.specs.Words.{barker_word, cck_word, word_of}
use Rattle.rules_symbols.specs.Choice.{score, those, going, first_largest, decided}
use Rattle.rules_frame.specs.declared.Kind.TheVariants.{Long}
use Rattle.rules_damage.specs.Damage.{wrong, lost, damage, frame_damage}
use Rattle.rules_damage.specs.Plain.{
  PayloadSymbols,
  at_10,
  at_20,
  at_55,
  at_110,
  SentAs,
  phase_at_10,
  phase_at_20,
  word_at_55,
  word_at_110,
  SymbolAt,
  in_front,
  in_payload,
  KeepsLimit,
  PastLimit,
  FrameStands,
}
use Rattle.rules_damage.proofs.SymbolStands.{symbol_spoiled}

-- nothing; wrong by each turn, and lost; an octet above 4 is neither
pub counted :
    wrong (0 ∷ 1 ∷ 2 ∷ 3 ∷ []) (0 ∷ 1 ∷ 2 ∷ 3 ∷ []) ∷ lost (0 ∷ 1 ∷ 2 ∷ 3 ∷ [])
    ∷ wrong (0 ∷ 1 ∷ 2 ∷ 3 ∷ []) (1 ∷ 3 ∷ 1 ∷ 4 ∷ []) ∷ lost (1 ∷ 3 ∷ 1 ∷ 4 ∷ [])
    ∷ wrong (0 ∷ 0 ∷ []) (5 ∷ 255 ∷ []) ∷ lost (5 ∷ 255 ∷ []) ∷ []
    ≡ 0 ∷ 0 ∷ 3 ∷ 1 ∷ 0 ∷ 0 ∷ []
unfolding wrong lost
counted = refl

-- rows are compared as far as the shorter goes
pub counted_none : (ps xs : List ℕ) → (wrong ps [] ≡ 0) × (wrong [] xs ≡ 0)
unfolding wrong
counted_none [] xs = (refl, refl)
counted_none (p ∷ ps) xs = (refl, refl)

-- two CCK symbols: the first with one wrong chip and one lost, the second with three lost
pub two_symbols :
    damage 8 2 (replicate 16 0) (0 ∷ 2 ∷ 0 ∷ 0 ∷ 4 ∷ 0 ∷ 0 ∷ 0 ∷ 4 ∷ 0 ∷ 0 ∷ 4 ∷ 4 ∷ 0 ∷ 0 ∷ 0 ∷ [])
    ≡ 1 ∷ 1 ∷ 0 ∷ 3 ∷ []
unfolding wrong lost damage
two_symbols = refl

-- a long frame of one octet at 5.5 Mbit/s, of phases 0, its last chip of the front, its first and its last one of the
-- payload lost or wrong: 192 symbols, and two behind them
pub whole_row :
    frame_damage Long Five 1 (replicate 2128 0) (replicate 2111 0 ++ (4 ∷ 1 ∷ (replicate 14 0 ++ (3 ∷ []))))
    ≡ replicate 382 0 ++ (0 ∷ 1 ∷ 1 ∷ 0 ∷ 1 ∷ 0 ∷ [])
unfolding wrong lost damage frame_damage
whole_row = refl

-- three lost chips, or one wrong and one lost, keep a limit of 3, ten lost or five wrong one of 10; one more does not
pub keep : KeepsLimit 3 0 3 × KeepsLimit 3 1 1 × KeepsLimit 10 0 10 × KeepsLimit 10 5 0 × KeepsLimit 10 4 2
keep = (lit≤ tt, lit≤ tt, lit≤ tt, lit≤ tt, lit≤ tt)

pub keep_not : (KeepsLimit 3 0 4 → ⊥) × (KeepsLimit 3 1 2 → ⊥) × (KeepsLimit 3 2 0 → ⊥) × (KeepsLimit 10 0 11 → ⊥)
    × (KeepsLimit 10 5 1 → ⊥)
keep_not = (
  (λ h. omega (arith, h)),
  (λ h. omega (arith, h)),
  (λ h. omega (arith, h)),
  (λ h. omega (arith, h)),
  λ h.
      omega (arith, h),
)

-- the limits of the table: ten lost chips keep a Barker symbol's, eleven do not; three keep a CCK symbol's, four do not
abbrev KeepsJust : ℕ → ℕ → Type 0
KeepsJust limit most = KeepsLimit limit 0 most × (KeepsLimit limit 0 (suc most) → ⊥)

pub table_limits : ((each chips limit : ℕ) → PayloadSymbols 10 each chips limit → KeepsJust limit 10)
    × ((each chips limit : ℕ) → PayloadSymbols 20 each chips limit → KeepsJust limit 10)
    × ((each chips limit : ℕ) → PayloadSymbols 55 each chips limit → KeepsJust limit 3)
    × ((each chips limit : ℕ) → PayloadSymbols 110 each chips limit → KeepsJust limit 3)
table_limits = (one, two, five, eleven)
  where
    one : (each chips limit : ℕ) → PayloadSymbols 10 each chips limit → KeepsJust limit 10
    one _ _ _ at_10 = (lit≤ tt, λ h. omega (arith, h))

    two : (each chips limit : ℕ) → PayloadSymbols 20 each chips limit → KeepsJust limit 10
    two _ _ _ at_20 = (lit≤ tt, λ h. omega (arith, h))

    five : (each chips limit : ℕ) → PayloadSymbols 55 each chips limit → KeepsJust limit 3
    five _ _ _ at_55 = (lit≤ tt, λ h. omega (arith, h))

    eleven : (each chips limit : ℕ) → PayloadSymbols 110 each chips limit → KeepsJust limit 3
    eleven _ _ _ at_110 = (lit≤ tt, λ h. omega (arith, h))

-- and of a front's symbols
pub front_limits : (kind rate s at chips limit : ℕ) → SymbolAt kind rate 0 s at chips limit → KeepsJust limit 10
front_limits kind rate _ _ _ _ (in_front f s t l) = (lit≤ tt, λ h. omega (arith, h))
front_limits kind rate _ _ _ _ (in_payload f each chips limit j t u l) = absurd (omega (arith, l))

-- an octet above 4 is none that a frame stands, whatever its place
pub no_five : (kind rate n : ℕ) (sent rec : List ℕ) → FrameStands kind rate n sent rec → (i : ℕ) → 5 ≤ get_or rec i 0 → ⊥
no_five kind rate n sent rec st i h = omega (arith, h, st.usable.at i)

-- ---- the limits cannot be raised

usable : (xs : List ℕ) → T (all (λ i. ltb (get_or xs i 0) 5) (length xs)) → Below 5 xs
usable xs t = record { at = λ i. by i (dec_lt i (length xs)) }
  where
    by : (i : ℕ) → Dec (i < length xs) → get_or xs i 0 < 5
    by i (yes l) = ltb→lt _ _ (all_at (λ i. ltb (get_or xs i 0) 5) (length xs) t i l)
    by i (no g) = rw (get_or-eq_default xs 0 {n = i} (omega arith)) (lit< tt)

-- what is left to compute of a symbol one past its limit
module _ (rate n : ℕ) (rec : List ℕ) (each chips limit other : ℕ) where
  abbrev w : ℕ
  w = wrong (word_of (rate_of rate) n) rec

  abbrev t : ℕ
  t = lost rec

  past_limit : SentAs rate n → PayloadSymbols rate each chips limit → length rec ≡ chips
      → T (all (λ i. ltb (get_or rec i 0) 5) (length rec)) → T (ltb limit (2 * w + t)) → T (leb (2 * w + t) (suc limit))
      → decided (rate_of rate) (map taken_counts (hard_recording rec)) ≡ other → T (ltb other n)
      → PastLimit rate n rec limit w t other
  past_limit word u e b over one d ne = record {
    spoiled = symbol_spoiled rate n rec each chips limit word u e (usable rec b);
    past = λ h. let l = ltb→lt limit (2 * w + t) over in omega (arith, h, l);
    just = leb→le (2 * w + t) (suc limit) one;
    decided_as = d;
    another = λ h. let l = ltb→lt other n ne in omega (arith, h, l);
  }

-- at 11 Mbit/s word (0,1,0,0), number 16, with its first, third, fifth and seventh chips lost is decided as word 0
pub eleven_past : PastLimit 110 16 (4 ∷ 0 ∷ 4 ∷ 2 ∷ 4 ∷ 0 ∷ 4 ∷ 0 ∷ []) 3 0 4 0
unfolding cck_word hard_recording score those going first_largest decided wrong lost
eleven_past =
    past_limit 110 16 (4 ∷ 0 ∷ 4 ∷ 2 ∷ 4 ∷ 0 ∷ 4 ∷ 0 ∷ []) 1 8 3 0 (word_at_110 16 (lit< tt)) at_110 refl tt tt tt refl
    tt

-- at 5.5 Mbit/s word (0,1,0,2), number 18, with its first four chips lost, or its first two a half turn wrong, is
-- decided as (0,1,0,0), number 16
eighteen : SentAs 55 18
eighteen = word_at_55 0 0 1 (lit< tt) (lit< tt) (lit< tt)

pub five_lost : PastLimit 55 18 (4 ∷ 4 ∷ 4 ∷ 4 ∷ 1 ∷ 0 ∷ 3 ∷ 0 ∷ []) 3 0 4 16
unfolding cck_word hard_recording score those going first_largest decided wrong lost
five_lost = past_limit 55 18 (4 ∷ 4 ∷ 4 ∷ 4 ∷ 1 ∷ 0 ∷ 3 ∷ 0 ∷ []) 2 8 3 16 eighteen at_55 refl tt tt tt refl tt

pub five_wrong : PastLimit 55 18 (1 ∷ 0 ∷ 3 ∷ 0 ∷ 1 ∷ 0 ∷ 3 ∷ 0 ∷ []) 3 2 0 16
unfolding cck_word hard_recording score those going first_largest decided wrong lost
five_wrong = past_limit 55 18 (1 ∷ 0 ∷ 3 ∷ 0 ∷ 1 ∷ 0 ∷ 3 ∷ 0 ∷ []) 2 8 3 16 eighteen at_55 refl tt tt tt refl tt

-- a Barker symbol of phase 1 with all eleven chips lost, or its first five turned back by a quarter and its sixth lost,
-- is decided as phase 0
abbrev pub all_lost : List ℕ
all_lost = replicate 11 4

abbrev pub turned_back : List ℕ
turned_back = 0 ∷ 2 ∷ 0 ∷ 0 ∷ 2 ∷ 4 ∷ 1 ∷ 1 ∷ 3 ∷ 3 ∷ 3 ∷ []

pub one_lost : PastLimit 10 1 all_lost 10 0 11 0
unfolding barker_word hard_recording score those going first_largest decided wrong lost
one_lost = past_limit 10 1 all_lost 8 11 10 0 (phase_at_10 1 (lit< tt)) at_10 refl tt tt tt refl tt

pub one_wrong : PastLimit 10 1 turned_back 10 5 1 0
unfolding barker_word hard_recording score those going first_largest decided wrong lost
one_wrong = past_limit 10 1 turned_back 8 11 10 0 (phase_at_10 1 (lit< tt)) at_10 refl tt tt tt refl tt

pub two_lost : PastLimit 20 1 all_lost 10 0 11 0
unfolding barker_word hard_recording score those going first_largest decided wrong lost
two_lost = past_limit 20 1 all_lost 4 11 10 0 (phase_at_20 1 (lit< tt)) at_20 refl tt tt tt refl tt

pub two_wrong : PastLimit 20 1 turned_back 10 5 1 0
unfolding barker_word hard_recording score those going first_largest decided wrong lost
two_wrong = past_limit 20 1 turned_back 4 11 10 0 (phase_at_20 1 (lit< tt)) at_20 refl tt tt tt refl tt
