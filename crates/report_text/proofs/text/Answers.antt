-- The text stands on a page, and is copied where there is room. Assumes nothing.
use mathlib.Core.Path.{◌≡◌, sym, ap, ap₂, ◌∙◌}
use mathlib.Core.List.{List, ◌++◌}
use Prim.Native.Nat.{ℕ, zero, suc, ◌-◌, ◌≤◌, ◌<◌}
use native.Mathlib.Omega.{arith}
use lib.ListN.{length, take, drop, replicate, length-replicate}
use Rattle.rules_report.specs.declared.Report.{Report}
use Rattle.rules_report.specs.declared.Spelled.{Spelled}
use Rattle.rules_report.specs.Text.{text_of, spelled_of, text_left}
use Rattle.rules_report.proofs.Spelling.{spelled_whole, spelled_refused, text_most}
use Rattle.report_text.specs.Placed.{Placed}
use Rattle.report_text.proofs.text.Goals as goal

abbrev answer : ℕ → ℕ → Spelled
answer number octets = record { number = number; octets = octets }

-- no room: the zeros stay
refused : (p : Report) (d z row zs : List ℕ) (n : ℕ) → Placed (text_of p) 0 zs n row → z ≡ replicate (length d) 0
    → length z < n → (answer 17 0 ≡ spelled_of p (length d)) × (z ≡ text_left p (length d))
refused p d z row zs n put e h =
    let none = spelled_refused p (length d)
    (omega (arith, put.stop, ap length e, length-replicate {A = ℕ} (length d) 0)) in
    (sym none.0, e ∙ sym none.1)

zeros : (k n : ℕ) → drop {A = ℕ} k (replicate n 0) ≡ replicate (n - k) 0
zeros zero n = let e : n - 0 ≡ n = omega arith in rw e
zeros (suc k) zero = let e : 0 - suc k ≡ 0 = omega arith in rw e
zeros (suc k) (suc n) = let e : suc n - suc k ≡ n - k = omega arith in rw e (zeros k n)

copied : (p : Report) (d z row zs : List ℕ) (n : ℕ) → Placed (text_of p) 0 zs n row → z ≡ replicate (length d) 0
    → n ≤ length z
    → (answer 0 n ≡ spelled_of p (length d)) × (take n row ++ drop n z ≡ text_left p (length d))
copied p d z row zs n put f h =
    let whole = spelled_whole p (length d)
    (omega (arith, put.stop, ap length f, length-replicate {A = ℕ} (length d) 0)) in
    let end : n ≡ length (text_of p) = omega (arith, put.stop) in
    let rest : drop n z ≡ replicate (length d - length (text_of p)) 0 =
    ap (drop n) f ∙ zeros n (length d) ∙ ap (λ (k : ℕ). replicate (length d - k) 0) end in (
      ap (answer 0) end ∙ sym whole.0,
      ap₂ {C = List ℕ} (λ a b. a ++ b) put.front rest ∙ sym whole.1,
    )

pub put_text-requires : goal.put_text-requires
put_text-requires c = omega (arith, text_most c.args.report)

pub returns-then-octets-count-clause-answer : goal.returns-then-octets-count-clause-answer
returns-then-octets-count-clause-answer c =
    (refused _ c.args.octets.now _ _ _ _ c.put_text.ensures.page c.fill.ensures.row c.if-octets-count.true).0

pub returns-then-octets-count-clause-octets : goal.returns-then-octets-count-clause-octets
returns-then-octets-count-clause-octets c =
    (refused _ c.args.octets.now _ _ _ _ c.put_text.ensures.page c.fill.ensures.row c.if-octets-count.true).1

pub shared_ref_as_front-text : goal.shared_ref_as_front-text
shared_ref_as_front-text c = omega (arith, c.put_text.ensures.page.stop, text_most c.args.report)

pub returns-clause-answer : goal.returns-clause-answer
returns-clause-answer c =
    (copied _ c.args.octets.now _ c.put_text.new.self.row _ _ c.put_text.ensures.page c.fill.ensures.row
    c.if-octets-count.false).0

pub returns-clause-octets : goal.returns-clause-octets
returns-clause-octets c =
    let end = c.put_text.new.self.end in
    ap (λ (l : List ℕ). l ++ drop end c.fill.new.row) c.copy_from_slice.ensures.after
    ∙ (copied _ c.args.octets.now _ c.put_text.new.self.row _ _ c.put_text.ensures.page c.fill.ensures.row
    c.if-octets-count.false).1
