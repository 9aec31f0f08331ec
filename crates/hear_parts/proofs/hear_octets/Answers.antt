-- `hear_octets`: before the loop nothing is heard; a turn hears a block more; at the end all octets are.
use mathlib.Core.Path.{◌≡◌}
use Prim.Native.Nat.{ℕ, ◌+◌, ◌-◌, ◌*◌, ◌<◌}
use native.Mathlib.Nat.{mul-zero, add-zero}
use native.Mathlib.Omega.{arith}
use lib.ListN.{length-drop}
use Rattle.base.proofs.Over.{lent}
use Rattle.rules_rates.specs.declared.Rate.{Rate}
use Rattle.rules_rates.specs.Rates.{octet_chips}
use Rattle.choose_recorders.specs.Rows.{taken_of}
use Rattle.hear_parts.proofs.Parts.{
  Parts,
  parts_none,
  parts_long,
  parts_more,
  parts_all,
  block_room,
  block_usable,
  block_symbol,
  chips_sum,
}
use Rattle.hear_parts.proofs.hear_octets.Goals as goal

pub loop-k-init : goal.loop-k-init
loop-k-init c =
    let a = c.args in
    rw (mul-zero, add-zero) (parts_none a.rate a.at (taken_of a.rec) a.line a.symbol a.least a.out.now c.requires.2)

-- in a turn there are octets left
left : (out d k : ℕ) → out ≡ d → k < out → k < d
left out d k e h = omega arith

pub hear_block-more-requires : goal.hear_block-more-requires
hear_block-more-requires c =
    let s = c.loop-k.invariant in
    let b = left _ _ c.loop-k.k (parts_long s) c.loop-k-test.true in
    let w = c.block_octets-count.ensures.answer in
    rw (c.octet_chips-chips.ensures.answer) (
      w.fits,
      rw (lent, length-drop) w.within,
      block_room _ _ _ _ _ _ _ _ _ _ _ _ s b w _ c.requires.0,
      block_usable _ _ _ _ _ _ _ _ _ _ _ _ s b w c.requires.1,
      s.line.small,
      block_symbol _ _ _ _ _ _ _ _ _ _ _ _ s b w _ _ c.octet_symbols-symbols.ensures.answer c.requires.3,
    )

-- where the next block starts
next : (r : Rate) (at k n : ℕ) → at + octet_chips r * (k + n) ≡ at + octet_chips r * k + octet_chips r * n
next r at k n = omega (arith, chips_sum r k n)

pub loop-k-preserved : goal.loop-k-preserved
loop-k-preserved c =
    let a = c.args in
    let s = c.loop-k.invariant in
    let b = left _ _ c.loop-k.k (parts_long s) c.loop-k-test.true in
    let w = c.block_octets-count.ensures.answer in
    let e = c.octet_chips-chips.ensures.answer in
    let m = c.hear_block-more.ensures in
    let j = c.joined-part.ensures in
    let more : Parts a.rate a.at (taken_of a.rec) a.line a.symbol a.least a.out.now c.joined-part.result
    (a.at + octet_chips a.rate * c.loop-k.k + c.octet_chips-chips.result * c.block_octets-count.result)
    (c.loop-k.k + c.block_octets-count.result) _ =
    parts_more _ _ _ _ _ _ _ _ _ _ _ _ s b w _ _ _ _ _ (rw e at m.answer) (rw e at m.least) (rw e at m.out)
    (j.line, (j.odd, j.least)) e c.octet_symbols-symbols.ensures.answer in
    rw (next a.rate a.at c.loop-k.k c.block_octets-count.result) (rw e at more)

pub returns : goal.returns
returns c = record { answer = parts_all c.loop-k.invariant (omega (arith, parts_long c.loop-k.invariant)) }
