-- One rate's line more. Assumes nothing.
use mathlib.Core.Path.{◌≡◌, refl}
use mathlib.Core.List.{List, ◌++◌}
use Prim.Native.Nat.{ℕ, ◌+◌, ◌≤◌, ◌<◌}
use native.Mathlib.Numerals.{add-one}
use native.Mathlib.Omega.{arith}
use lib.ListN.{length, get_or}
use Rattle.rules_report.specs.Text.{rate_line}
use Rattle.report_text.specs.Placed.{Placed, code_at, rate_lines}
use Rattle.report_text.proofs.Puts.{put_none, lines_room, lines_turn}
use Rattle.report_text.proofs.Page.rate_lines.Goals as goal

abbrev line : List ℕ → List ℕ → ℕ → List ℕ
line f o k = rate_line (code_at k) (get_or f k 0) (get_or o k 0)

step : (f o : List ℕ) (k : ℕ) → rate_lines (k + 1) f o ≡ rate_lines k f o ++ line f o k
unfolding rate_lines
step f o k = rw add-one

none : (f o d : List ℕ) (at : ℕ) → Placed (rate_lines 0 f o) at d at d
unfolding rate_lines
none f o d at = put_none at at d refl

room : (f o : List ℕ) (k code at end : ℕ) → k < 4 → code ≡ code_at k → end ≡ at + length (rate_lines k f o)
    → at + length (rate_lines 4 f o) ≤ 980 → end + length (rate_line code (get_or f k 0) (get_or o k 0)) ≤ 980
room f o k code at end h c p g = rw c (lines_room (λ j. rate_lines j f o) (line f o) (step f o) 4 k at h p g)

turn : (f o : List ℕ) {d e q : List ℕ} (k code : ℕ) {at end r : ℕ} → code ≡ code_at k
    → Placed (rate_lines k f o) at d end e → Placed (rate_line code (get_or f k 0) (get_or o k 0)) end e r q
    → Placed (rate_lines (k + 1) f o) at d r q
turn f o k code c p t = lines_turn (λ j. rate_lines j f o) (line f o) (step f o) k p (rw c at t)

whole : (f o d e : List ℕ) (k at end : ℕ) → k ≡ 4 → Placed (rate_lines k f o) at d end e
    → Placed (rate_lines 4 f o) at d end e
whole f o d e k at end h p = rw h at p

pub loop-k-init : goal.loop-k-init
loop-k-init c = none _ _ _ _

pub rate_line-requires : goal.rate_line-requires
rate_line-requires c =
    room c.args.frames c.args.octets c.loop-k.k _ c.args.self.now.end _ (omega arith) c.code_of.ensures.answer
    c.loop-k.invariant.stop c.requires

pub loop-k-preserved : goal.loop-k-preserved
loop-k-preserved c =
    turn c.args.frames c.args.octets c.loop-k.k _ c.code_of.ensures.answer c.loop-k.invariant c.rate_line.ensures.page

pub returns : goal.returns
returns c =
    record { page = whole c.args.frames c.args.octets _ _ c.loop-k.k _ _ (omega arith) c.loop-k.invariant }
