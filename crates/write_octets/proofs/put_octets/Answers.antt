-- One octet more at every turn.
use Rattle.std.proofs.Common.{◌≡◌, ◌+◌, ◌*◌, ◌<◌, ◌-◌, ℕ, List, [], ◌∷◌, ◌++◌, length, get_or, take, drop, refl, sym, ap, ◌∙◌, arith, add-one, zero-add}
use Rattle.std.proofs.Math.Seq.{take-length, take-suc, length-take-le}
use borrow.Rule.Slice.PartMut.{put_mid}
use Rattle.base.specs.Over.{over}
use Rattle.base.proofs.Over.{over_next}
use Rattle.rules_rates.specs.declared.Rate.{Rate}
use Rattle.rules_rates.specs.Rates.{octet_chips}
use Rattle.write_octets.specs.Sending.{State, emit, step, run, ran}
use Rattle.write_octets.specs.Line.{state}
use Rattle.write_octets.proofs.Run.{length_run, run_snoc, ran_snoc}
use Rattle.write_octets.proofs.put_octets.Goals as goal

-- one octet more
turn : (r : Rate) (s t u : State) (xs d o y : List ℕ) (i n : ℕ) → t ≡ ran r 0 s (take i xs)
    → o ≡ over (run r 0 s (take i xs)) d
    → n ≡ octet_chips r * i → i < length xs
    → u ≡ step r i t (get_or xs i 0) → y ≡ over (emit r i t (get_or xs i 0)) (take (length o - n) (drop n o))
    → (u ≡ ran r 0 s (take (i + 1) xs)) × (put_mid n (length o - n) o y ≡ over (run r 0 s (take (i + 1) xs)) d)
turn r s t u xs d o y i n e f g h m q =
    let next : take (i + 1) xs ≡ take i xs ++ get_or xs i 0 ∷ [] = rw (add-one, take-suc xs i 0) in
    let long : length (take i xs) ≡ i = length-take-le i xs (omega arith) in
    let count : length (run r 0 s (take i xs)) ≡ n =
    length_run r 0 s (take i xs) ∙ ap (λ (k : ℕ). octet_chips r * k) long ∙ sym g in
    let at : 0 + length (take i xs) ≡ i = zero-add _ ∙ long in
    (rw (next, ran_snoc, at) (cc), over_next _ _ d o y n f count q ∙ rw (next, run_snoc, at) (cc))

all : (xs : List ℕ) (i : ℕ) → i ≡ length xs → take i xs ≡ xs
all xs i h = rw (h, take-length)

pub loop-i-init : goal.loop-i-init
unfolding over run ran
loop-i-init c = record { sent = refl; written = refl }

pub loop-i-preserved : goal.loop-i-preserved
loop-i-preserved c =
    let l = c.loop-i in
    let next = turn c.args.r _ _ _ c.args.octets.now _ _ _ l.i _ l.invariant.sent l.invariant.written
    (ap (λ (k : ℕ). k * l.i) c.octet_chips-per.ensures.answer) c.loop-i-test.true c.put_octet-l.ensures.answer
    c.put_octet-l.ensures.chips in
    record { sent = next.0; written = next.1 }

pub returns-clause-answer : goal.returns-clause-answer
returns-clause-answer c =
    c.loop-i.invariant.sent ∙ ap (ran c.args.r 0 (state c.args.line)) (all c.args.octets.now c.loop-i.i (omega arith))

pub returns-clause-chips : goal.returns-clause-chips
returns-clause-chips c =
    c.loop-i.invariant.written
    ∙ ap (λ (v : List ℕ). over (run c.args.r 0 (state c.args.line) v) c.args.chips.now)
    (all c.args.octets.now c.loop-i.i (omega arith))
