-- `heard::hear_front`: the preamble and the header are heard one after the other on one line.
use mathlib.Core.Path.{◌≡◌, refl, subst}
use Prim.Native.Nat.{ℕ, ◌+◌, ◌*◌, ◌/◌, ◌≤◌}
use native.Mathlib.Nat.{zero-add}
use native.Mathlib.Omega.{arith}
use Rattle.rules_rates.specs.declared.Rate.{Rate}
use Rattle.rules_rates.specs.Rates.{octet_chips}
use Rattle.rules_chips.specs.Chips.{Taken}
use Rattle.rules_frame.specs.declared.Kind.{Kind}
use Rattle.rules_frame.specs.declared.Kind.TheVariants.{Long, Short}
use Rattle.rules_frame.specs.Frame.{front_chips, header_rate, preamble_chips}
use Rattle.choose_recorded.specs.Recorded.{AllUsable}
use Rattle.choose_recorded.proofs.Search.{usable_part}
use Rattle.rules_calls.specs.declared.Least.{Least}
use Rattle.hear_parts.specs.declared.Part.{Part}
use Rattle.hear_parts.specs.Hearing.{PartHeard}
use Rattle.hear_parts.proofs.Parts.{few_symbols}
use Rattle.common_lines.specs.declared.Line.{Line}
use mathlib.Core.List.{List}
use Rattle.read_fronts.proofs.Whole.{front_known}
use Rattle.read_fronts.proofs.heard.hear_front.Goals as goal

-- the header ends where the front does
module _ (k : Kind) (r : Rate) (from : ℕ) (e : r ≡ header_rate k) (f : from ≡ preamble_chips k) where
  ends : from + octet_chips r * 6 ≡ front_chips k
  ends = rw (e, f) (by k)
    where
      by : (k : Kind) → preamble_chips k + octet_chips (header_rate k) * 6 ≡ front_chips k
      by Long = refl
      by Short = refl

  few : front_chips k ≤ 2112
  few = by k
    where
      by : (k : Kind) → front_chips k ≤ 2112
      by Long = omega arith
      by Short = omega arith

  usable : (rec : List Taken) → AllUsable rec 0 (front_chips k) → AllUsable rec from (octet_chips r * 6)
  usable rec u = rw (zero-add from) at (usable_part from (octet_chips r * 6) u (omega (arith, ends)))

  part : (rec : List Taken) (l : Line) (b : Least) (h : Part) (out : List ℕ)
      → PartHeard r from 6 rec l (from / 11) b h out
      → PartHeard (header_rate k) (preamble_chips k) 6 rec l (preamble_chips k / 11) b h out
  part rec l b h out z =
      subst (λ (i : ℕ). PartHeard (header_rate k) i 6 rec l (i / 11) b h out) f
      (subst (λ (s : Rate). PartHeard s from 6 rec l (from / 11) b h out) e z)

pub hear_octets-behind-requires : goal.hear_octets-behind-requires
hear_octets-behind-requires c =
    let k = c.args.kind in
    let e = c.header_rate-rate.ensures.answer in
    let f = c.preamble_chips-from.ensures.answer in (
      omega (arith, ends k _ _ e f, c.requires.0),
      usable k _ _ e f _ c.requires.1,
      c.hear_preamble.ensures.answer.line.small,
      omega (arith, ends k _ _ e f, few_symbols c.header_rate-rate.result 6, few k _ _ e f),
    )

pub returns : goal.returns
returns c =
    let k = c.args.kind in
    let j = c.joined-part.ensures in
    record {
      answer = front_known k _ _ _ _ _ c.hear_preamble.ensures.answer
          (part k _ _ c.header_rate-rate.ensures.answer c.preamble_chips-from.ensures.answer _ _ _ _ _
          c.hear_octets-behind.ensures.answer)
          (j.line, (j.odd, j.least));
    }
