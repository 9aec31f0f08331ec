-- A digit put is one less of what is left. Assumes nothing.
use mathlib.Core.Path.{◌≡◌, refl, sym, ap, ◌∙◌}
use mathlib.Core.List.{List, ◌∷◌, ◌++◌, append-nil}
use Prim.Native.Nat.{ℕ, suc, ◌+◌, ◌-◌, ◌/◌, ◌%◌, ◌≤◌, ◌<◌}
use native.Mathlib.Omega.{arith}
use lib.ListN.{length, set, take, drop, length-set, take-append-drop}
use lib.Seq.{
  append_snoc,
  take-take,
  take-set-le,
  take-set-lt,
  drop-set-lt,
  slice,
  slice_empty,
  slice-cons,
  get_or-set_same,
}
use borrow.Author.Rules.{rules}
use Rattle.rules_report.specs.Text.{digits, places, decimal}
use Rattle.rules_report.proofs.Spelling.{length_decimal}
use Rattle.report_text.specs.Placed.{Placed}
use Rattle.report_text.proofs.put_digits.Goals as goal

start : (x at end : ℕ) (d : List ℕ) → digits (end - at) x ≡ digits (end - at) x ++ slice end end d
start x at end d = rw (slice_empty end d) (sym (append-nil (digits (end - at) x)))

-- an octet put before those from i on
before : (i end v : ℕ) (d : List ℕ) → i < end → end ≤ length d → slice i end (set d i v) ≡ v ∷ slice (suc i) end d
before i end v d h k =
    slice-cons i end (set d i v) 0 h (rw length-set k)
    ∙ rw
    (get_or-set_same d i v 0 (omega arith), take-set-lt end d i v h, drop-set-lt (suc i) (take end d) i v (omega arith))

step : (ds d : List ℕ) (m j end rest : ℕ) → j < end → end ≤ length d
    → ds ≡ digits (suc m) rest ++ slice (suc j) end d
    → ds ≡ digits m (rest / 10) ++ slice j end (set d j (48 + rest % 10))
unfolding digits
step ds d m j end rest h k e =
    e ∙ append_snoc (digits m (rest / 10)) (48 + rest % 10) (slice (suc j) end d)
    ∙ ap (λ (l : List ℕ). digits m (rest / 10) ++ l) (sym (before j end (48 + rest % 10) d h k))

turn : (ds d : List ℕ) (at i end rest : ℕ) → at < i → i ≤ end → end ≤ length d
    → ds ≡ digits (i - at) rest ++ slice i end d
    → ds ≡ digits (i - 1 - at) (rest / 10) ++ slice (i - 1) end (set d (i - 1) (48 + rest % 10))
turn ds d at i end rest h k l e =
    let left : suc (i - 1 - at) ≡ i - at = omega arith in
    let next : suc (i - 1) ≡ i = omega arith in
    step ds d (i - 1 - at) (i - 1) end rest (omega arith) l (rw (left, next) e)

kept : (d e : List ℕ) (at i v : ℕ) → at < i → take at e ≡ take at d → take at (set e (i - 1) v) ≡ take at d
kept d e at i v h f = take-set-le at e (i - 1) v (omega arith) ∙ f

after : (d e : List ℕ) (i end v : ℕ) → 0 < i → i ≤ end → drop end e ≡ drop end d
    → drop end (set e (i - 1) v) ≡ drop end d
after d e i end v h k f = drop-set-lt end e (i - 1) v (omega arith) ∙ f

whole : (x at n i rest : ℕ) (d e : List ℕ) → n ≡ places 19 x → i ≡ at → take at e ≡ take at d
    → drop (at + n) e ≡ drop (at + n) d
    → digits (at + n - at) x ≡ digits (i - at) rest ++ slice i (at + n) e → Placed (decimal x) at d (at + n) e
unfolding digits decimal
whole x at n i rest d e h z f r g =
    let none : at - at ≡ 0 = omega arith in
    let count : at + n - at ≡ places 19 x = omega arith in
    let put : digits (places 19 x) x ≡ slice at (at + n) e = rw (z, none, count) at g in
    record {
      stop = omega (arith, length_decimal x);
      front = sym (take-append-drop at (take (at + n) e)) ∙ rw (take-take at (at + n) e (omega arith), f, put);
      rest = r;
    }

pub overflow_add-end : goal.overflow_add-end
overflow_add-end c = omega (arith, length_decimal c.args.x, c.digits_of.ensures.answer)

pub loop-i-init : goal.loop-i-init
loop-i-init c = (search rules, omega arith, refl, refl, start _ _ _ _)

pub bounds-row-i : goal.bounds-row-i
bounds-row-i c = omega (arith, length_decimal c.args.x, c.digits_of.ensures.answer)

pub loop-i-preserved : goal.loop-i-preserved
loop-i-preserved c =
    let now = c.loop-i in
    let at = c.args.at in
    let row = now.row in (
      simp length-set now.invariant.0,
      omega arith,
      kept _ row at now.i _ (omega arith) now.invariant.2,
      after _ row now.i (at + c.digits_of.result) _ (omega arith) (omega arith) now.invariant.3,
      turn _ row at now.i (at + c.digits_of.result) now.rest (omega arith) (omega arith)
          (omega (arith, length_decimal c.args.x, c.digits_of.ensures.answer)) now.invariant.4,
    )

pub returns : goal.returns
returns c =
    let now = c.loop-i in
    record {
      answer = whole _ _ _ now.i now.rest _ now.row c.digits_of.ensures.answer (omega arith) now.invariant.2
          now.invariant.3 now.invariant.4;
    }
