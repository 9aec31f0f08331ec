-- What the call that says why a read is refused promises: the record that its contract in crate dsss cites, so that
-- what is proved of it is proved of the program (RULES 6.22, 9.1).
-- Definitions only. Assumes nothing.
use Rattle.std.specs.Prelude.{ℕ, ◌≡◌, List}
use Rattle.rules_why.specs.declared.Reason.{Reason}
use Rattle.rules_why.specs.Why.{why_of}

-- why a read of a hard recording with room for so many octets is refused: its answer
pub record Explains (kind : ℕ) (chips : List ℕ) (room : ℕ) (r : Reason) : Type 0 where
  -- promise: Why a read is refused answers the definition's record, for every input
  -- rule: 6.22, 9.1
  -- code: dsss_why, small_calls::why
  pub answer : r ≡ why_of kind chips room
