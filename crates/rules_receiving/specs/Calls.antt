-- What each call of a receiver answers and leaves. A receiver that no call can have left, by its numbers, is refused as
-- one that is not open (RULES 6.31).
-- Definitions only. Assumes nothing.
use Rattle.std.specs.Prelude.{◌≡◌, Bool, true, false, cond, ◌&&◌, List, ◌++◌, ℕ, eqb, ltb, leb, length, replicate}
use Rattle.rules_rates.specs.Rates.{is_code, rate_of}
use Rattle.rules_chips.specs.Chips.{hard_recording}
use Rattle.rules_frame.specs.Frame.{is_kind, kind_of, front_chips, frame_chips}
use Rattle.rules_calls.specs.declared.Record.{Record}
use Rattle.rules_calls.specs.Answers.{record_of}
use Rattle.rules_reading.specs.Reading.{reading_of, octets_found}
use Rattle.rules_receiving.specs.declared.Progress.{Progress}
use Rattle.rules_receiving.specs.declared.Receiver.{Receiver}
use Rattle.rules_receiving.specs.Yet.{zeros}
use Rattle.rules_receiving.specs.Receivers.{Receives}

-- the numbers of a receiver whose front comes, and of one whose payload comes
abbrev pub sound_front : Progress → Bool
sound_front p = is_kind p.kind && ltb p.count (front_chips (kind_of p.kind))

abbrev pub sound_payload : Progress → Bool
sound_payload p =
    is_kind p.kind && is_code p.rate && leb p.n 4095 && leb (front_chips (kind_of p.kind)) p.count
    && leb p.count (frame_chips (kind_of p.kind) (rate_of p.rate) p.n)

-- those of one whose refusal stays: 1 where the kind is none, else one of a front that is whole, 9 to 15
abbrev pub sound_refused : Progress → Bool
sound_refused p = cond (is_kind p.kind) (leb 9 p.number && leb p.number 15) (eqb p.number 1)

-- whether a receiver takes a feed or a close with a buffer of so many octets
unfoldable pub takes : Progress → ℕ → Bool
takes p room =
    eqb p.room room && ltb p.ear.phase 4 && ltb p.ear.last 4
    && cond (eqb p.status 1) (sound_front p)
    (cond (eqb p.status 2) (sound_payload p) (eqb p.status 3 && sound_refused p))

-- a receiver that has been fed nothing
abbrev pub fresh : ℕ → ℕ → ℕ → ℕ → Receiver
fresh status kind room number =
    record {
      progress =
          record {
            status = status;
            kind = kind;
            room = room;
            count = 0;
            number = number;
            place = 0;
            rate = 0;
            length = 0;
            n = 0;
            clock = 0;
            bad = 0;
            odd = 0;
            ear = record { lead = 0; symbol = 0; past = 0; phase = 0; last = 0 };
          };
      hold = replicate 88 0;
      preamble = replicate 18 0;
      header = replicate 6 0;
    }

-- the receiver that an open leaves, whatever was there: a kind that is none is refused at close
abbrev pub opened : ℕ → ℕ → Receiver
opened kind room = cond (is_kind kind) (fresh 1 kind room 0) (fresh 3 kind room 1)

pub record ReceiverOpens (kind : ℕ) (buf : List ℕ) (u : Receiver) (answer : ℕ) (out : List ℕ) : Type 0 where
  pub answer_is : answer ≡ 0
  pub receiver_is : u ≡ opened kind (length buf)
  pub buffer_is : out ≡ zeros (length buf)

pub record ReceiverFeeds (s : Receiver) (buf batch : List ℕ) (u : Receiver) (answer : ℕ) (out : List ℕ) : Type 0 where
  pub refused : takes s.progress (length buf) ≡ false → (answer ≡ 20) × (u ≡ s) × (out ≡ buf)
  pub taken : takes s.progress (length buf) ≡ true → answer ≡ 0
  pub long : length out ≡ length buf
  pub receives : (kind : ℕ) (fed : List ℕ) → Receives kind (length buf) fed s buf
      → Receives kind (length buf) (fed ++ batch) u out

-- a record that refuses with 20
abbrev pub not_open : Record
not_open =
    record {
      number = 20;
      place = 0;
      rate = 0;
      length = 0;
      n = 0;
      used = 0;
      clock = 0;
      lead = 0;
      symbol = 0;
    }

-- a receiver that was closed: only its status changes
abbrev pub shut : Receiver → Receiver
shut s =
    record {
      progress =
          record {
            status = 0;
            kind = s.progress.kind;
            room = s.progress.room;
            count = s.progress.count;
            number = s.progress.number;
            place = s.progress.place;
            rate = s.progress.rate;
            length = s.progress.length;
            n = s.progress.n;
            clock = s.progress.clock;
            bad = s.progress.bad;
            odd = s.progress.odd;
            ear = s.progress.ear;
          };
      hold = s.hold;
      preamble = s.preamble;
      header = s.header;
    }

-- what close answers and leaves, of all chips fed
abbrev pub ReadsAll : ℕ → ℕ → List ℕ → Record → List ℕ → Type 0
ReadsAll kind room fed a out =
    (a ≡ record_of (reading_of kind true (hard_recording fed) room))
    × (out ≡ octets_found kind true (hard_recording fed) room)

pub record ReceiverCloses (s : Receiver) (buf : List ℕ) (u : Receiver) (answer : Record) (out : List ℕ) : Type 0 where
  pub refused : takes s.progress (length buf) ≡ false → (answer ≡ not_open) × (u ≡ s) × (out ≡ buf)
  pub taken : takes s.progress (length buf) ≡ true → u ≡ shut s
  pub other : takes s.progress (length buf) ≡ true → answer.number ≡ 20 → ⊥
  pub long : length out ≡ length buf
  pub reads : (kind : ℕ) (fed : List ℕ) → Receives kind (length buf) fed s buf
      → ReadsAll kind (length buf) fed answer out

-- the record of a refusal kept as numbers
abbrev pub kept_record : Progress → Record
kept_record p =
    record {
      number = p.number;
      place = p.place;
      rate = 0;
      length = p.length;
      n = 0;
      used = 0;
      clock = 0;
      lead = 0;
      symbol = 0;
    }
