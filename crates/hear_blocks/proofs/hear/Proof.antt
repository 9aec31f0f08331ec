-- `hear_blocks::hear` meets its contract: each row by its rule, and what they come to. Assumes nothing.
use Rattle.std.proofs.Common.{◌≡◌, ℕ, ◌+◌, ◌*◌, ◌^◌, ◌<◌, ◌≤◌, List, refl, ap, ◌∙◌, arith, rules}
use Rattle.base.specs.Over.{over}
use Rattle.rules_rates.specs.declared.Rate.{Rate}
use Rattle.rules_rates.specs.Rates.{symbol_chips, octet_symbols, octet_chips}
use Rattle.rules_rates.proofs.Octets.{part_chips}
use Rattle.hear_codes.proofs.Codes.{count_fits}
use Rattle.hear_blocks.proofs.Hears.{phases_low, growths_low, codes_low, block_heard, block_octets}
use Rattle.hear_blocks.proofs.hear.Statement.{statement}
use Rattle.hear_blocks.proofs.hear.Tie as tie

-- the symbols of a block, as the code counts them
within : (r : Rate) (s n : ℕ) → s ≡ octet_symbols r → octet_symbols r * n ≤ 64 → s * n ≤ 64
within r s n e h = rw e h

ends : (r : Rate) (s n place : ℕ) → s ≡ octet_symbols r → place + octet_chips r * n < 2 ^ 64
    → place + symbol_chips r * (s * n) < 2 ^ 64
ends r s n place e h = rw (e, part_chips r n) h

mul_m : tie.Need-overflow_mul-m
mul_m c =
    let h = within c.args.rate _ c.args.count c.octet_symbols-symbols.ensures c.requires.0 in
    record { fits = omega arith }

growths_requires : tie.Need-growths-g-requires
growths_requires c κs =
    phases_low c.args.rate c.args.line.phase _ c.requires.3 _ c.phases-ps.ensures

codes_requires : tie.Need-codes-c-requires
codes_requires c κs =
    growths_low c.args.rate _ c.phases-ps.result _ c.growths-g.ensures

octets_requires : tie.Need-octets-raw-requires
octets_requires c κs = (
  c.requires.0,
  count_fits c.args.rate c.args.count c.requires.0,
  codes_low c.args.rate c.growths-g.result c.args.numbers _
      (growths_low c.args.rate _ c.phases-ps.result _ c.growths-g.ensures)
      c.codes-c.ensures,
)

unscramble_requires : tie.Need-unscramble-requires
unscramble_requires c κs =
    (count_fits c.args.rate c.args.count c.requires.0, c.requires.1)

odd_in_requires : tie.Need-odd_in-odd-requires
odd_in_requires c κs =
    let symbols = c.octet_symbols-symbols.ensures in (
      within c.args.rate _ c.args.count symbols c.requires.0,
      ends c.args.rate _ c.args.count c.args.place symbols c.requires.2,
    )

array_read_past : tie.Need-bounds-raw-count
array_read_past c =
    let h = count_fits c.args.rate c.args.count c.requires.0 in
    omega arith

array_read_phase : tie.Need-bounds-ps-m
array_read_phase c =
    let h = within c.args.rate _ c.args.count
    c.octet_symbols-symbols.ensures
    c.requires.0 in
    omega arith

returns : tie.Need-returns
returns c = (
  block_heard c.args.rate _ c.args.line _ c.args.numbers _ _ c.requires.0
      c.requires.4 c.requires.5 c.phases-ps.ensures c.growths-g.ensures
      c.args.count _ c.octets-raw.result refl c.codes-c.ensures
      c.octets-raw.ensures _ _ _ c.octet_symbols-symbols.ensures c.requires.3 c.odd_in-odd.ensures,
  c.unscramble.ensures
      ∙ ap (λ (w : List ℕ). over w c.args.out.now)
      (block_octets c.args.rate _ c.args.line _ c.args.numbers _ _ c.requires.0
      c.requires.4 c.requires.5 c.phases-ps.ensures c.growths-g.ensures
      c.args.count _ c.octets-raw.result refl c.codes-c.ensures
      c.octets-raw.ensures),
)

pub hear_spec : {M : Type 1} → statement M
hear_spec =
    tie.close
    (tie.spec
    (λ c κs. search rules) mul_m (λ c κs. search rules) growths_requires codes_requires octets_requires
    unscramble_requires odd_in_requires array_read_past array_read_phase (λ c. search rules) returns)
