-- `hear_codes::eight_bits` meets its contract. Assumes nothing.
use Prim.Native.Nat.{◌/◌}
use borrow.Author.Rules.{rules}
use Rattle.hear_codes.proofs.Codes.{eight_number, room_2, room_4, room_6}
use Rattle.hear_codes.proofs.eight_bits.Statement.{statement}
use Rattle.hear_codes.proofs.eight_bits.Tie as tie

returns : tie.Need-returns
returns c = eight_number c.args.g c.args.n c.two_bits.result c.requires
    c.two_bits.ensures.0

pub eight_bits_spec : {M : Type 1} → statement M
eight_bits_spec =
    tie.close
    (tie.spec
    (λ c. search rules) (λ c. search rules) (λ c. search rules) (λ c. search rules) (λ c. search rules)
    (λ c. search rules) (λ c. search rules) (λ c. search rules) (λ c. search rules) (λ c κs. search rules)
    (λ c. let n = c.args.n in record { fits = room_2 _ (n / 32) (n / 16) c.two_bits.ensures.1 })
    (λ c. let n = c.args.n in record { fits = room_4 _ (n / 32) (n / 16) (n / 8) (n / 4) c.two_bits.ensures.1 })
    (λ c. let n = c.args.n in record { fits = room_6 _ (n / 32) (n / 16) (n / 8) (n / 4) (n / 2) n c.two_bits.ensures.1 })
    returns)
