-- One refusal's line more. Assumes nothing.
use mathlib.Core.Path.{◌≡◌, refl, subst}
use mathlib.Core.List.{List, ◌++◌}
use Prim.Native.Nat.{ℕ, ◌+◌, ◌-◌, ◌≤◌}
use native.Mathlib.Numerals.{add-one}
use native.Mathlib.Omega.{arith}
use lib.ListN.{length, get_or}
use Rattle.rules_report.specs.Text.{refused_line, refused_lines}
use Rattle.report_text.specs.Placed.{Placed}
use Rattle.report_text.proofs.Puts.{put_none, lines_room, lines_turn}
use Rattle.report_text.proofs.Page.refused_lines.Goals as goal

abbrev next : List ℕ → ℕ → List ℕ
next refused k = refused_line (k + 1) (get_or refused (k + 1) 0)

step : (refused : List ℕ) (k : ℕ) → refused_lines (k + 1) refused ≡ refused_lines k refused ++ next refused k
unfolding refused_lines
step refused k = rw add-one

none : (refused d : List ℕ) (at : ℕ) → Placed (refused_lines 0 refused) at d at d
unfolding refused_lines
none refused d at = put_none at at d refl

-- refusal n, its lines so far being those of n - 1
room : (refused : List ℕ) (n at end : ℕ) → 1 ≤ n → n ≤ 17 → end ≡ at + length (refused_lines (n - 1) refused)
    → at + length (refused_lines 17 refused) ≤ 980 → end + length (refused_line n (get_or refused n 0)) ≤ 980
room refused n at end h k p g =
    let e : n - 1 + 1 ≡ n = omega arith in
    subst (λ (j : ℕ). end + length (refused_line j (get_or refused j 0)) ≤ 980) e
    (lines_room (λ j. refused_lines j refused) (next refused) (step refused) 17 (n - 1) at (omega arith) p g)

turn : (refused : List ℕ) {d o q : List ℕ} (n : ℕ) {at end r : ℕ} → 1 ≤ n
    → Placed (refused_lines (n - 1) refused) at d end o → Placed (refused_line n (get_or refused n 0)) end o r q
    → Placed (refused_lines (n + 1 - 1) refused) at d r q
turn refused {d} {o} {q} n {at} {end} {r} h p t =
    let e : n ≡ n - 1 + 1 = omega arith in
    let f : n - 1 + 1 ≡ n + 1 - 1 = omega arith in
    subst (λ (j : ℕ). Placed (refused_lines j refused) at d r q) f
    (lines_turn (λ j. refused_lines j refused) (next refused) (step refused) (n - 1) p
    (subst (λ (j : ℕ). Placed (refused_line j (get_or refused j 0)) end o r q) e t))

whole : (refused d e : List ℕ) (k at end : ℕ) → k ≡ 17 → Placed (refused_lines k refused) at d end e
    → Placed (refused_lines 17 refused) at d end e
whole refused d e k at end h p = rw h at p

pub loop-number-init : goal.loop-number-init
loop-number-init c = none _ _ _

pub refused_line-requires : goal.refused_line-requires
refused_line-requires c =
    room c.args.refused.now c.loop-number.number c.args.self.now.end _ (omega arith) (omega arith)
    c.loop-number.invariant.stop c.requires

pub loop-number-preserved : goal.loop-number-preserved
loop-number-preserved c =
    turn c.args.refused.now c.loop-number.number (omega arith) c.loop-number.invariant c.refused_line.ensures.page

pub returns : goal.returns
returns c =
    record {
      page = whole c.args.refused.now _ _ (c.loop-number.number - 1) _ _ (omega arith) c.loop-number.invariant;
    }
