-- `write_frame::put_preamble` meets its contract: in each arm the kind is known. Assumes nothing.
use mathlib.Core.Path.{◌≡◌}
use mathlib.Core.List.{List}
use Prim.Native.Nat.{ℕ, ◌≤◌}
use borrow.Author.Rules.{rules}
use Rattle.base.specs.Over.{over}
use Rattle.rules_rates.specs.declared.Rate.TheVariants.{One}
use Rattle.rules_frame.specs.declared.Kind.{Kind}
use Rattle.write_octets.specs.Sending.{State, run, ran}
use Rattle.rules_frame.specs.Frame.{preamble_chips}
use Rattle.write_frame.specs.Parts.{preamble_octets}
use Rattle.write_frame.proofs.put_preamble.Statement.{statement}
use Rattle.write_frame.proofs.put_preamble.Tie as tie

-- an arm knows the kind
room : (k j : Kind) (n : ℕ) → k ≡ j → preamble_chips k ≤ n → preamble_chips j ≤ n
room k j n e h = rw e at h

with_kind : (k j : Kind) (s u : State) (o d : List ℕ) → k ≡ j
    → (u ≡ ran One 0 s (preamble_octets j)) × (o ≡ over (run One 0 s (preamble_octets j)) d)
    → (u ≡ ran One 0 s (preamble_octets k)) × (o ≡ over (run One 0 s (preamble_octets k)) d)
with_kind k j s u o d e h = rw e h

put_octets_requires : tie.Need-put_octets-requires
put_octets_requires c κs =
    room _ _ _ c.in-Long.is c.requires

put_octets_requires_2 : tie.Need-put_octets-requires-in-Short
put_octets_requires_2 c κs =
    room _ _ _ c.in-Short.is c.requires

returns : tie.Need-returns-in-Long
unfolding preamble_octets
returns c =
    with_kind _ _ _ _ _ _ c.in-Long.is
    c.put_octets.ensures

returns_2 : tie.Need-returns-in-Short
unfolding preamble_octets
returns_2 c =
    with_kind _ _ _ _ _ _ c.in-Short.is
    c.put_octets-in-Short.ensures

pub put_preamble_spec : {M : Type 1} → statement M
put_preamble_spec =
    tie.close
    (tie.spec
    (λ c. search rules) (λ c. search rules) put_octets_requires (λ c. search rules) (λ c. search rules)
    put_octets_requires_2 (λ c. search rules) returns (λ c. search rules) returns_2)
