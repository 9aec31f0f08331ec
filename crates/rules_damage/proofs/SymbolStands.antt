-- A symbol that keeps its limit is decided as the word sent, with a lead of a full chip at least, in plain numbers
-- (`SymbolSpoiled`, `KeepsLimit`); the words that are sent, in plain numbers, are those allowed. Assumes nothing.
use mathlib.Core.Path.{◌≡◌, refl, sym, ◌∙◌, subst}
use mathlib.Core.List.{List, map}
use Prim.Native.Nat.{ℕ, ◌+◌, ◌*◌, ◌/◌, ◌%◌, ◌≤◌, ◌<◌}
use native.Mathlib.Omega.{arith}
use lib.Dec.{T, eqb, eqb→eq}
use lib.ListN.{length}
use Rattle.base.specs.Below.{Below}
use Rattle.base.proofs.Tests.{implies, implied, all_at}
use Rattle.base.proofs.SoMany.{many_once}
use Rattle.rules_rates.specs.declared.Rate.{Rate}
use Rattle.rules_rates.specs.declared.Rate.TheVariants.{One, Two, Five, Eleven}
use Rattle.rules_rates.specs.Rates.{code_of, rate_of, symbol_chips}
use Rattle.rules_chips.specs.Chips.{taken_counts, hard_recording}
use Rattle.rules_symbols.specs.Words.{word_of}
use Rattle.rules_symbols.specs.Choice.{numbers, is_allowed, decided, lead_of}
use Rattle.rules_symbols.proofs.Words.{word_length}
use Rattle.rules_damage.specs.Damage.{wrong, lost}
use Rattle.rules_damage.specs.Plain.{
  PayloadSymbols,
  at_10,
  at_20,
  at_55,
  at_110,
  SentAs,
  phase_at_10,
  phase_at_20,
  word_at_55,
  word_at_110,
  KeepsLimit,
  SymbolSpoiled,
}
use Rattle.rules_damage.proofs.OneSymbol.{limit_of, decided_spoiled, lead_spoiled}
use Rattle.rules_damage.proofs.Counted.{wrong_all, lost_all}

-- the table, by the rate
its_symbol : (rate each chips limit : ℕ) → PayloadSymbols rate each chips limit
    → (symbol_chips (rate_of rate) ≡ chips) × (limit ≡ limit_of (rate_of rate))
its_symbol _ _ _ _ at_10 = (refl, refl)
its_symbol _ _ _ _ at_20 = (refl, refl)
its_symbol _ _ _ _ at_55 = (refl, refl)
its_symbol _ _ _ _ at_110 = (refl, refl)

sent_chips : (rate n each chips limit : ℕ) → PayloadSymbols rate each chips limit
    → length (word_of (rate_of rate) n) ≡ chips
sent_chips rate n each chips limit u =
    word_length (rate_of rate) n ∙ (its_symbol rate each chips limit u).0

-- ---- the words that are sent are those allowed
abbrev five_number : ℕ → ℕ → ℕ → ℕ
five_number p1 d2 d3 = 64 * p1 + 16 * (2 * d2 + 1) + 2 * d3

five_sent : (p1 d2 d3 : ℕ) → p1 < 4 → d2 < 2 → d3 < 2
    → (five_number p1 d2 d3 < 256) × T (is_allowed Five (five_number p1 d2 d3))
five_sent p1 d2 d3 h1 h2 h3 = (
  omega arith,
  subst (λ (n : ℕ). T (is_allowed Five n)) same
      (all_at (λ j. is_allowed Five (five_number (j / 4) (j / 2 % 2) (j % 2))) 16 tt j (omega arith)),
)
  where
    j : ℕ
    j = 4 * p1 + 2 * d2 + d3

    same : five_number ((4 * p1 + 2 * d2 + d3) / 4) ((4 * p1 + 2 * d2 + d3) / 2 % 2) ((4 * p1 + 2 * d2 + d3) % 2)
        ≡ five_number p1 d2 d3
    same = omega arith

pub word_sent : (rate n : ℕ) → SentAs rate n → (n < numbers (rate_of rate)) × T (is_allowed (rate_of rate) n)
word_sent _ _ (phase_at_10 n l) = (l, tt)
word_sent _ _ (phase_at_20 n l) = (l, tt)
word_sent _ _ (word_at_55 p1 d2 d3 h1 h2 h3) = five_sent p1 d2 d3 h1 h2 h3
word_sent _ _ (word_at_110 n l) = (l, tt)

five_is : (n : ℕ) → n < 256 → T (is_allowed Five n) → n ≡ five_number (n / 64) (n / 32 % 2) (n / 2 % 2)
five_is n l a =
    eqb→eq n (five_number (n / 64) (n / 32 % 2) (n / 2 % 2))
    (implied (is_allowed Five n) (eqb n (five_number (n / 64) (n / 32 % 2) (n / 2 % 2)))
    (all_at (λ n. implies (is_allowed Five n) (eqb n (five_number (n / 64) (n / 32 % 2) (n / 2 % 2)))) 256 tt n l) a)

pub sent_word : (r : Rate) (n : ℕ) → n < numbers r → T (is_allowed r n) → SentAs (code_of r) n
sent_word One n l a = phase_at_10 n l
sent_word Two n l a = phase_at_20 n l
sent_word Five n l a =
    subst (SentAs 55) (sym (five_is n l a))
    (word_at_55 (n / 64) (n / 32 % 2) (n / 2 % 2) (omega arith) (omega arith) (omega arith))
sent_word Eleven n l a = word_at_110 n l

-- ---- one symbol
pub symbol_spoiled : (rate n : ℕ) (rec : List ℕ) (each chips limit : ℕ) → SentAs rate n
    → PayloadSymbols rate each chips limit → length rec ≡ chips → Below 5 rec
    → SymbolSpoiled rate n rec limit (wrong (word_of (rate_of rate) n) rec) (lost rec)
symbol_spoiled rate n rec each chips limit word u e b = record {
  word = word;
  each = each;
  chips = chips;
  symbol = u;
  all_there = e;
  all_usable = b;
  wrong_are = wrong_all chips (word_of (rate_of rate) n) rec (sent_chips rate n each chips limit u) e;
  lost_are = lost_all chips rec e;
}

module _ (rate n : ℕ) (rec : List ℕ) (limit w t : ℕ) (s : SymbolSpoiled rate n rec limit w t)
    (few : KeepsLimit limit w t) where
  number : (n < numbers (rate_of rate)) × T (is_allowed (rate_of rate) n)
  number = word_sent rate n s.word

  its : (symbol_chips (rate_of rate) ≡ s.chips) × (limit ≡ limit_of (rate_of rate))
  its = its_symbol rate s.each s.chips limit s.symbol

  long : length rec ≡ symbol_chips (rate_of rate)
  long = s.all_there ∙ sym its.0

  wrong_is : w ≡ wrong (word_of (rate_of rate) n) rec
  wrong_is =
      many_once s.wrong_are
      (wrong_all s.chips (word_of (rate_of rate) n) rec
      (sent_chips rate n s.each s.chips limit s.symbol) s.all_there)

  lost_is : t ≡ lost rec
  lost_is = many_once s.lost_are (lost_all s.chips rec s.all_there)

  keeps : KeepsLimit (limit_of (rate_of rate)) (wrong (word_of (rate_of rate) n) rec) (lost rec)
  keeps =
      subst (λ (x : ℕ). KeepsLimit x (wrong (word_of (rate_of rate) n) rec) (lost rec)) its.1
      (subst (λ (x : ℕ). KeepsLimit limit x (lost rec)) wrong_is (subst (KeepsLimit limit w) lost_is few))

  pub decided_sent : decided (rate_of rate) (map taken_counts (hard_recording rec)) ≡ n
  unfolding hard_recording
  decided_sent = decided_spoiled (rate_of rate) n rec number.0 number.1 long s.all_usable keeps

  pub lead_sent : 1024 ≤ lead_of (rate_of rate) (map taken_counts (hard_recording rec))
  unfolding hard_recording
  lead_sent = lead_spoiled (rate_of rate) n rec number.0 number.1 long s.all_usable keeps
