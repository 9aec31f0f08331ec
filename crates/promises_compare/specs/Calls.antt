-- What the call that compares two recordings promises: the record that its contract in crate dsss cites, so that what
-- is proved of it is proved of the program (RULES 6.29, 9.1).
-- Definitions only. Assumes nothing.
use Rattle.std.specs.Prelude.{ℕ, ◌≡◌, true, List}
use Rattle.rules_chips.specs.Chips.{hard_recording}
use Rattle.rules_reading.specs.Reading.{octets_found}
use Rattle.rules_compare.specs.declared.Compared.{Compared}
use Rattle.rules_compare.specs.Differences.{differences, laid}
use Rattle.rules_compare.specs.Compared.{octet_list, compared_of}

-- two hard recordings of one kind compared, with so many places for the list of chips and for that of octets, and room
-- for so many octets of each payload: the answer, and the four lent rows at the end
pub record Compares (kind : ℕ) (a b : List ℕ) (places places' room room' : ℕ) (c : Compared)
    (chip-row octet-row octets-a octets-b : List ℕ) : Type 0 where
  -- promise: Comparing two recordings answers the definition's record, for every input
  -- rule: 6.29, 9.1
  -- code: dsss_compare, small_calls::compare
  pub answer : c ≡ compared_of kind a b room room'
  -- promise: The row of chips at the end is the list of all chips that differ and then zeros, or only zeros where the
  -- list does not fit
  -- rule: 6.29, 9.1
  -- code: dsss_compare, small_calls::compare, compare_rows::list
  pub chips : chip-row ≡ laid places (differences a b)
  -- promise: The row of octets at the end is the list of all payload octets that differ and then zeros, or only zeros
  -- where the list does not fit
  -- rule: 6.29, 9.1
  -- code: dsss_compare, small_calls::compare, compare_rows::list
  pub octets : octet-row ≡ laid places' (octet_list kind a b room room')
  -- promise: The first octet buffer at the end is what a hard read of the first recording leaves
  -- rule: 6.29, 6.9, 9.1
  -- code: dsss_compare, small_calls::compare, read_frames::read_hard
  pub first : octets-a ≡ octets_found kind true (hard_recording a) room
  -- promise: The second octet buffer at the end is what a hard read of the second recording leaves
  -- rule: 6.29, 6.9, 9.1
  -- code: dsss_compare, small_calls::compare, read_frames::read_hard
  pub second : octets-b ≡ octets_found kind true (hard_recording b) room'
