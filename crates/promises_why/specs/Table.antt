-- What is expected and what is found, a row for each refusal, in plain numbers and by what the symbols of the recording
-- say, bit by bit (RULES 6.22): the numbers of the bits that reading asks for, whatever it computes them by.
-- Definitions only. Assumes nothing.
use Rattle.std.specs.Prelude.{ℕ, ◌+◌, ◌*◌, ◌/◌, ◌%◌, ◌<◌, true, List, length, get_or}
use Rattle.rules_chips.specs.Chips.{Taken, hard_recording}
use Rattle.rules_bits.specs.Bits.{highest_first}
use Rattle.rules_bits.specs.Crc.{crc_bits}
use Rattle.rules_frame.specs.Frame.{kind_of, field_bits}
use Rattle.promises.specs.Coming.{FrontOf}
use Rattle.promises.specs.Reasons.{FrontField, HasBits, HasHeader, HasPayload}
use Rattle.rules_why.specs.Plain.{GrownAt, HighestAt, Cleared, LengthWanted}

-- the number that is answered, the place, what is expected and what is found. There is a row for each number that can
-- come: 0 of a good read, 1, and 8 to 17; 7 cannot. A place is told by 9 and 10 alone
module _ (kind : ℕ) (chips : List ℕ) (room : ℕ) where
  abbrev rec : List Taken
  rec = hard_recording chips

  pub data Table : ℕ → ℕ → ℕ → ℕ → Type 0 where
    row_0 : Table 0 0 0 0
    row_1 : Table 1 0 0 kind
    -- the front's chips, in row_16 the frame's, and those of the whole recording
    row_8 : {front : ℕ} → FrontOf kind front → Table 8 0 front (length chips)
    row_9 : (place : ℕ) → 4 < get_or chips place 0 → Table 9 place 0 (get_or chips place 0)
    row_10 : {place grown : ℕ} → GrownAt rec place grown → Table 10 place 0 grown
    -- the kind's SFD, and the sixteen bits that begin where it does, lowest first
    row_11 : {at sfd heard : ℕ} → HasBits kind true rec at sfd → FrontField kind rec at 16 heard
        → Table 11 0 sfd heard
    -- the CRC of SIGNAL, SERVICE and LENGTH as they are read, and the sixteen bits behind them, both highest first
    row_12 : {at sfd signal service l crc : ℕ} → HasBits kind true rec at sfd
        → FrontField kind rec (at + 16) 8 signal → FrontField kind rec (at + 24) 8 service
        → FrontField kind rec (at + 32) 16 l → HighestAt (kind_of kind) rec (at + 48) 16 crc
        → Table 12 0 (highest_first (crc_bits (field_bits signal service l))) crc
    row_13 : {signal service l : ℕ} → HasHeader kind true rec signal service l → Table 13 0 0 signal
    row_14 : {rate service l left : ℕ} → HasHeader kind true rec rate service l → Cleared rate service left
        → Table 14 0 0 left
    row_15 : {rate service l wanted : ℕ} → HasHeader kind true rec rate service l
        → LengthWanted rate l (service / 128 % 2) wanted → Table 15 0 wanted l
    row_16 : {rate service l n front octet : ℕ} → HasPayload kind true rec rate service l n front octet
        → Table 16 0 (front + octet * n) (length chips)
    row_17 : {rate service l n front octet : ℕ} → HasPayload kind true rec rate service l n front octet
        → Table 17 0 n room
