use Rattle.std.proofs.Common.{◌≡◌, Bool, cond, ℕ, sym, ap, ◌∙◌}
use lib.Ieee.{Float}
use Rattle.rules_choosing.specs.Keys.{lesser}
use Rattle.choose_words.specs.Floats.{smaller_float, holds_float}
use Rattle.choose_words.proofs.Floats.{smaller_is, either}
use Rattle.choose_words.proofs.counts.I32Number.smaller.Goals as goal

-- of two keys it is the smaller one
of_keys : {a b r : Float} → r ≡ smaller_float a b → (x y : ℕ) → holds_float a x → holds_float b y
    → holds_float r (lesser x y)
of_keys e x y h k =
    (e ∙ (λ i. smaller_float (h.0 i) (k.0 i)) ∙ smaller_is x y h.1 k.1, (either 8388608 x y h.1 k.1).1)

pub returns-then-a-b : goal.returns-then-a-b
returns-then-a-b c =
    let e = sym (ap (λ (t : Bool). cond t c.args.a c.args.b) c.if-a-b.true) in
    record { is = e; holds = of_keys e }

pub returns-else-a-b : goal.returns-else-a-b
returns-else-a-b c =
    let e = sym (ap (λ (t : Bool). cond t c.args.a c.args.b) c.if-a-b.false) in
    record { is = e; holds = of_keys e }
