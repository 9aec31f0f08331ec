-- `write_octets::put_bits` meets its contract: in each arm the rate is known. Assumes nothing.
use mathlib.Core.Path.{◌≡◌}
use mathlib.Core.List.{List}
use Prim.Native.Nat.{ℕ, ◌*◌, ◌%◌, ◌≤◌}
use native.Mathlib.Omega.{arith}
use borrow.Author.Rules.{rules}
use Rattle.base.specs.Over.{over}
use Rattle.rules_rates.specs.declared.Rate.{Rate}
use Rattle.rules_rates.specs.Rates.{octet_symbols, octet_chips}
use Rattle.rules_bits.specs.Growths.{chips_from, last_phase}
use Rattle.rules_bits.proofs.Growths.{symbols_from_parity}
use Rattle.write_octets.specs.Sending.{symbols_at}
use Rattle.write_octets.proofs.put_bits.Statement.{statement}
use Rattle.write_octets.proofs.put_bits.Tie as tie

-- an arm knows the rate
room : (r s : Rate) (n : ℕ) → r ≡ s → octet_chips r ≤ n → octet_chips s ≤ n
room r s n e h = rw e at h

-- and only the parity of a symbol's number matters
with_rate : (r s : Rate) (p j k q : ℕ) (bs o d : List ℕ) → r ≡ s → j % 2 ≡ (octet_symbols s * k) % 2
    → (q ≡ last_phase p (symbols_at s j bs)) × (o ≡ over (chips_from s p (symbols_at s j bs)) d)
    → (q ≡ last_phase p (symbols_at r (octet_symbols r * k) bs))
    × (o ≡ over (chips_from r p (symbols_at r (octet_symbols r * k) bs)) d)
unfolding symbols_at
with_rate r s p j k q bs o d e f h =
    rw (e, ← symbols_from_parity s j (octet_symbols s * k) (octet_symbols s) bs f) h

put_one_requires : tie.Need-put_one-requires
put_one_requires c κs =
    (c.requires.0, room _ _ _ c.in-One.is c.requires.1)

put_two_requires : tie.Need-put_two-requires
put_two_requires c κs =
    (c.requires.0, room _ _ _ c.in-Two.is c.requires.1)

put_five_requires : tie.Need-put_five-requires
put_five_requires c κs = room _ _ _ c.in-Five.is c.requires.1

put_eleven_requires : tie.Need-put_eleven-requires
put_eleven_requires c κs = room _ _ _ c.in-Eleven.is c.requires.1

returns : tie.Need-returns-in-One
returns c =
    with_rate _ _ _ 0 _ _ _ _ _ c.in-One.is (omega arith)
    c.put_one.ensures

returns_2 : tie.Need-returns-in-Two
returns_2 c =
    with_rate _ _ _ 0 _ _ _ _ _ c.in-Two.is (omega arith)
    c.put_two.ensures

returns_3 : tie.Need-returns-in-Five
returns_3 c =
    with_rate _ _ _ 0 _ _ _ _ _ c.in-Five.is (omega arith)
    c.put_five.ensures

returns_4 : tie.Need-returns-in-Eleven
returns_4 c =
    with_rate _ _ _ _ _ _ _ _ _ c.in-Eleven.is (omega arith)
    c.put_eleven.ensures

pub put_bits_spec : {M : Type 1} → statement M
put_bits_spec =
    tie.close
    (tie.spec
    (λ c. search rules) put_one_requires (λ c. search rules) put_two_requires (λ c. search rules) put_five_requires
    (λ c. search rules) put_eleven_requires (λ c. search rules) returns (λ c. search rules) returns_2
    (λ c. search rules) returns_3 (λ c. search rules) returns_4)
