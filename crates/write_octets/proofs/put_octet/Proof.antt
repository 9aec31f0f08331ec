-- `write_octets::put_octet` meets its contract: the octet is scrambled after the one before it, and its eight bits are
-- written. Assumes nothing.
use mathlib.Core.Path.{◌≡◌}
use mathlib.Core.List.{List, reverse}
use Prim.Native.Nat.{ℕ, ◌*◌}
use borrow.Author.Rules.{rules}
use Rattle.base.specs.Over.{over}
use Rattle.rules_rates.specs.declared.Rate.{Rate}
use Rattle.rules_rates.specs.Rates.{octet_symbols}
use Rattle.rules_bits.specs.Bits.{bits_of}
use Rattle.rules_bits.specs.Growths.{chips_from, last_phase}
use Rattle.rules_bits.specs.Scrambler.{scramble}
use Rattle.write_octets.specs.Sending.{State, symbols_at, step, emit}
use Rattle.write_octets.specs.Line.{state}
use Rattle.write_octets.proofs.put_octet.Statement.{statement}
use Rattle.write_octets.proofs.put_octet.Tie as tie

octet : (r : Rate) (k : ℕ) (s : State) (x q : ℕ) (bs o d : List ℕ) → bs ≡ scramble s.past (bits_of 8 x)
    → (q ≡ last_phase s.phase (symbols_at r (octet_symbols r * k) bs))
    × (o ≡ over (chips_from r s.phase (symbols_at r (octet_symbols r * k) bs)) d)
    → (record { past = reverse bs; phase = q } ≡ step r k s x) × (o ≡ over (emit r k s x) d)
unfolding step emit
octet r k s x q bs o d b h = (cc, cc)

returns : tie.Need-returns
returns c =
    octet c.args.r _ (state c.args.line) _ _ _ _ _
    c.scramble_octet-o.ensures c.put_bits-phase.ensures

pub put_octet_spec : {M : Type 1} → statement M
put_octet_spec = tie.close (tie.spec
    (λ c κs. search rules) (λ c κs. search rules) (λ c. search rules) returns)
