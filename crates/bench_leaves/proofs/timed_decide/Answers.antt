-- `timed_decide`: a number that is no code and rows shorter than a symbol give 0, and else the symbol at place 0 is
-- decided.
use Prim.Native.Nat.{ℕ, ◌≤◌, ◌<◌}
use mathlib.Core.Path.{◌≡◌, refl, sym, ap, ◌∙◌}
use mathlib.Core.Bool.{Bool, true, false, ◌&&◌}
use mathlib.Core.List.{List}
use native.Mathlib.Omega.{arith}
use lib.ListN.{length}
use lib.Ieee.{Float}
use borrow.Author.Tests.{le-leb, lt-leb}
use Rattle.rules_rates.specs.declared.Rate.{Rate}
use Rattle.rules_rates.specs.Rates.{is_code, rate_of, symbol_chips}
use Rattle.rules_chips.specs.Chips.{soft_recording}
use Rattle.bench_leaves.specs.Leaves.{first_word, decided_soft}
use Rattle.bench_leaves.proofs.timed_decide.Goals as goal

no_code : (n : ℕ) (i q : List Float) → is_code n ≡ false → 0 ≡ decided_soft n i q
unfolding decided_soft
no_code n i q e = rw e

and_false : (b : Bool) → b && false ≡ false
and_false true = refl
and_false false = refl

too_short : (n : ℕ) (i q : List Float) → length (soft_recording i q) < symbol_chips (rate_of n) → 0 ≡ decided_soft n i q
unfolding decided_soft
too_short n i q h = rw (lt-leb (symbol_chips (rate_of n)) (length (soft_recording i q)) h, and_false)

-- the rate r of the code n, and the number d that the first symbol is decided as
whole : (n : ℕ) (r : Rate) (d : ℕ) (i q : List Float) → r ≡ rate_of n → is_code n ≡ true
    → symbol_chips r ≤ length (soft_recording i q) → d ≡ first_word r (soft_recording i q) → d ≡ decided_soft n i q
unfolding decided_soft
whole n r d i q e c h t = t ∙ rw (← e, c, le-leb (symbol_chips r) (length (soft_recording i q)) h)

pub returns-then-not-is_code : goal.returns-then-not-is_code
returns-then-not-is_code c = record { answer = no_code _ _ _ (sym c.is_code.ensures.answer ∙ c.if-not-is_code.true) }

pub returns-then-chip_count-symbol_chips : goal.returns-then-chip_count-symbol_chips
returns-then-chip_count-symbol_chips c =
    let e = ap symbol_chips c.rate_of-r.ensures.answer in
    record {
      answer = too_short _ _ _
          (omega (arith, e, c.chip_count.ensures.answer, c.symbol_chips.ensures.answer, c.if-chip_count-symbol_chips.true));
    }

pub returns : goal.returns
returns c = record {
  answer = whole _ _ _ _ _ c.rate_of-r.ensures.answer (sym c.is_code.ensures.answer ∙ c.if-not-is_code.false)
      (omega (arith, c.chip_count.ensures.answer, c.symbol_chips.ensures.answer, c.if-chip_count-symbol_chips.false))
      c.first_word.ensures.answer;
}
