-- `hear_blocks::unscramble` meets its contract. The invariant: the first o octets are stored. Assumes nothing.
use Rattle.std.proofs.Common.{◌≡◌, ◌-◌, ◌≤◌, ◌++◌, length, get_or, take, drop, refl, ◌∙◌, arith, length-set}
use Rattle.base.proofs.Over.{over_whole}
use Rattle.hear_codes.specs.Codes.{behind, plain}
use Rattle.hear_codes.proofs.Plain.{plain_length, plain_more}
use Rattle.hear_blocks.proofs.unscramble.Statement.{statement}
use Rattle.hear_blocks.proofs.unscramble.Tie as tie

abbrev invariant_loop : tie.invariant-loop-o
invariant_loop count out₀ raw o₀ out o = (o ≤ count) × (length out ≡ length out₀)
    × (out ≡ take o (plain count (get_or raw 0 0) (behind raw count)) ++ drop o out₀)

abbrev decreases_loop : tie.decreases-loop-o
decreases_loop count out₀ raw o₀ out o = count - o

loop_again : tie.Need-loop-o-preserved invariant_loop decreases_loop
loop_again c =
    let loop = c.loop-o in (
      omega arith,
      length-set loop.out _ _ ∙ loop.invariant.1,
      plain_more c.args.raw c.args.out.now _ c.args.count loop.o _ loop.invariant.2
          (omega arith)
          c.requires.1 c.descramble_octet.ensures,
    )

returns : tie.Need-returns invariant_loop decreases_loop
returns c =
    over_whole _ _ _ c.loop-o.o c.loop-o.invariant.2
    (omega (
      arith,
      plain_length c.args.count (get_or c.args.raw 0 0)
          (behind c.args.raw c.args.count),
    ))

pub unscramble_spec : {M : Type 1} → statement M
unscramble_spec =
    tie.close
    (tie.spec
    invariant_loop decreases_loop (λ c. (omega arith, refl, refl)) (λ c. omega arith) (λ c. omega arith)
    (λ c. omega arith) (λ c κs. tt) (λ c. omega arith) (λ c. omega arith) (λ c. omega arith) loop_again
    (λ c. c.loop-o.invariant.1) returns)
