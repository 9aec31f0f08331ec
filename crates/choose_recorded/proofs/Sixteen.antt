-- Numbers put sixteen at a time: those of a block of up to 64 symbols, of which the last sixteen may be fewer.
-- Assumes nothing.
use mathlib.Core.Path.{◌≡◌, refl, ◌∙◌, subst}
use mathlib.Core.List.{List}
use Prim.Native.Nat.{ℕ, ◌+◌, ◌<◌}
use native.Mathlib.Decide.{dec_lt}
use native.Mathlib.Omega.{arith}
use lib.ListN.{length, get_or, set, length-set}
use lib.Seq.{get_or-set_same, get_or-set_other}
use Rattle.choose_recorded.specs.Recorded.{Put}

-- ---- one number more
pub put_none : {f : ℕ → ℕ} {l : ℕ} (ns : List ℕ) → length ns ≡ 64 → Put f l ns ns 0
put_none ns e = record { long = e; kept = λ j h. refl; each = λ s h. absurd (omega arith) }

pub put_more : {f : ℕ → ℕ} {l : ℕ} {before after : List ℕ} {s : ℕ} (v : ℕ) → l + s < 64 → v ≡ f s
    → Put f l before after s → Put f l before (set after (l + s) v) (s + 1)
put_more {f} {l} {before} {after} {s} v h e p = record {
  long = length-set after (l + s) v ∙ p.long;
  kept = λ j g. get_or-set_other after (l + s) j v 0 (λ q. omega arith) ∙ p.kept j g;
  each = λ t g. by t g (dec_lt t s);
}
  where
    by : (t : ℕ) → t < s + 1 → Dec (t < s) → get_or (set after (l + s) v) (l + t) 0 ≡ f t
    by t g (yes q) = get_or-set_other after (l + s) (l + t) v 0 (λ r. omega arith) ∙ p.each t q
    by t g (no q) =
        let r : s ≡ t = omega arith in
        subst (λ (n : ℕ). get_or (set after (l + s) v) (l + n) 0 ≡ f n) r
        (get_or-set_same after (l + s) v 0 (omega (arith, p.long)) ∙ e)

-- by another rule that answers the same
pub put_ext : {f g : ℕ → ℕ} {l : ℕ} {before after : List ℕ} {n : ℕ} → Put f l before after n
    → ((s : ℕ) → s < n → f s ≡ g s) → Put g l before after n
put_ext p e = record { long = p.long; kept = p.kept; each = λ s h. p.each s h ∙ e s h }
