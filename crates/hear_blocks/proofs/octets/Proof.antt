-- `hear_blocks::octets` meets its contract. The invariant: the octet before the block and its first o are filled.
-- Assumes nothing.
use Rattle.std.proofs.Common.{◌≡◌, ℕ, ◌+◌, ◌-◌, ◌*◌, ◌<◌, ◌≤◌, List, take, drop, refl, ◌∙◌, subst, add-one, arith, rules}
use Rattle.base.specs.Tables.{Filled, tabulate}
use Rattle.base.proofs.Tables.{filled_more}
use Rattle.rules_rates.specs.declared.Rate.{Rate}
use Rattle.rules_rates.specs.Rates.{symbol_bits, octet_symbols}
use Rattle.hear_codes.specs.Codes.{packed, octet_after}
use Rattle.hear_codes.proofs.Codes.{octet_room}
use Rattle.hear_blocks.proofs.octets.Statement.{statement}
use Rattle.hear_blocks.proofs.octets.Tie as tie

abbrev invariant_loop : tie.invariant-loop-o
invariant_loop rate before count c raw₀ symbols o₀ raw o = (o ≤ count) × Filled (octet_after rate before c) 65 raw (o + 1)

abbrev decreases_loop : tie.decreases-loop-o
decreases_loop rate before count c raw₀ symbols o₀ raw o = count - o

room : (r : Rate) (s o n : ℕ) → s ≡ octet_symbols r → o < n → octet_symbols r * n ≤ 64 → s * o + octet_symbols r ≤ 64
room r s o n e h l = rw e (octet_room r o n 64 h l)

octet_is : (r : Rate) (x : ℕ) (cs : List ℕ) (s o v : ℕ) → s ≡ octet_symbols r
    → v ≡ packed (symbol_bits r) (take (octet_symbols r) (drop (s * o) cs)) → v ≡ octet_after r x cs (o + 1)
octet_is r x cs s o v e f = f ∙ rw (e, add-one)

loop_holds : tie.Need-loop-o-init invariant_loop decreases_loop
unfolding tabulate
loop_holds c = (omega arith, record { within = omega arith; len = refl; front = refl })

mul_octet : tie.Need-overflow_mul-symbols invariant_loop decreases_loop
mul_octet c =
    let h = room c.args.rate _ c.loop-o.o _
    c.octet_symbols-symbols.ensures
    c.loop-o-test.true c.requires.0 in
    record { fits = omega arith }

octet_requires : tie.Need-octet-requires invariant_loop decreases_loop
octet_requires c κs = (
  room c.args.rate _ c.loop-o.o _ c.octet_symbols-symbols.ensures
      c.loop-o-test.true c.requires.0,
  search rules,
  c.requires.2,
)

loop_again : tie.Need-loop-o-preserved invariant_loop decreases_loop
loop_again c =
    let loop = c.loop-o in (
      omega arith,
      filled_more _ loop.invariant.1 (omega arith)
          (octet_is c.args.rate _ _ _ loop.o _ c.octet_symbols-symbols.ensures
          c.octet.ensures),
    )

returns : tie.Need-returns invariant_loop decreases_loop
returns c =
    let loop = c.loop-o in
    let a = c.args in
    let e : loop.o ≡ a.count = omega arith in
    subst (λ (n : ℕ). take (n + 1) loop.raw ≡ tabulate (octet_after a.rate a.before a.c) (n + 1)) e
    loop.invariant.1.front

pub octets_spec : {M : Type 1} → statement M
octets_spec =
    tie.close
    (tie.spec
    invariant_loop decreases_loop (λ c. search rules) (λ c κs. tt) loop_holds mul_octet octet_requires
    (λ c. omega arith) (λ c. omega arith) (λ c. omega arith) (λ c. omega arith) loop_again returns)
