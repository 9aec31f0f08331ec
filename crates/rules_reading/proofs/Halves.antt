-- In a front that meets none of 8 to 15 each bit of the preamble, as it was sent, tells by the halves of two phases
-- alone: whether the phase went from 0 or 1 to 2 or 3, or back. Its growths are even.
--     front_bit    the bit after a symbol, by the words of two
-- Assumes nothing.
use Rattle.std.specs.Prelude.{Ok}
use mathlib.Core.Path.{◌≡◌}
use mathlib.Core.List.{List}
use Prim.Native.Nat.{ℕ, ◌+◌, ◌/◌, ◌%◌, ◌<◌}
use native.Mathlib.Omega.{arith}
use Rattle.rules_rates.specs.declared.Rate.TheVariants.{One}
use Rattle.rules_chips.specs.Chips.{Taken}
use Rattle.rules_choosing.proofs.Decided.{decided_below}
use Rattle.rules_bits.specs.Bits.{◌⊕◌}
use Rattle.rules_bits.specs.Growths.{grown_by}
use Rattle.rules_frame.specs.declared.Kind.{Kind}
use Rattle.rules_frame.specs.Frame.{sync_bits}
use Rattle.rules_calls.specs.declared.Told.{Told}
use Rattle.rules_reading.specs.Reading.{front_of}
use Rattle.rules_reading.proofs.Sfd.{word_at}
use Rattle.rules_reading.proofs.Even.{front_even}

even_bit : (a b : ℕ) → a < 4 → b < 4 → grown_by a b % 2 ≡ 0 → grown_by a b / 2 ≡ (a / 2) ⊕ (b / 2)
even_bit a b h k e = omega arith

pub front_bit : (k : Kind) (rec : List Taken) (t : Told) → front_of k rec ≡ Ok t → (n : ℕ) → n + 1 < sync_bits k + 16
    → grown_by (word_at One rec n) (word_at One rec (n + 1)) / 2 ≡ (word_at One rec n / 2) ⊕ (word_at One rec (n + 1) / 2)
front_bit k rec t e n h =
    even_bit (word_at One rec n) (word_at One rec (n + 1)) (decided_below One _) (decided_below One _)
    (front_even k rec t e n h)
