-- What a piece of a batch makes of a receiver. Definitions only. Assumes nothing.
-- working notion: of the code of a receiver's calls; no promise needs it
use Rattle.std.specs.Prelude.{◌≡◌, true, cond, List, ◌++◌, ℕ, ◌+◌, ◌≤◌, ◌<◌, eqb, length, take}
use Rattle.rules_rates.specs.declared.Rate.{Rate}
use Rattle.rules_rates.specs.Rates.{code_of, is_code, rate_of}
use Rattle.rules_chips.specs.Chips.{hard_recording}
use Rattle.rules_bits.specs.Code.{past_of}
use Rattle.rules_symbols.specs.Choice.{decided, lead_of}
use Rattle.rules_rates.specs.declared.Rate.TheVariants.{One}
use Rattle.rules_frame.specs.declared.Kind.{Kind}
use Rattle.rules_frame.specs.Frame.{is_kind, kind_of, start, front_chips, frame_chips, clock_bit}
use Rattle.rules_calls.specs.declared.Refusal.{Refusal}
use Rattle.rules_calls.specs.declared.Told.{Told}
use Rattle.rules_calls.specs.Answers.{refusal_number, refusal_place, refusal_length}
use Rattle.rules_reading.specs.Reading.{first_unusable}
use Rattle.rules_receiving.specs.declared.Ear.{Ear}
use Rattle.rules_receiving.specs.declared.Progress.{Progress}
use Rattle.rules_receiving.specs.Yet.{zeros}
use Rattle.rules_receiving.specs.declared.Receiver.{Receiver}
use Rattle.rules_receiving.specs.Receivers.{place_number, FrontTo, Held, Going, Receives}
use Rattle.rules_receiving.specs.Calls.{takes}
use Rattle.choose_recorded.specs.Recorded.{symbol_at}
use Rattle.receive_parts.specs.declared.Taking.{Taking}
use Rattle.receive_calls.specs.declared.Pieced.{Pieced}

-- so many chips more have come, and what was found and heard of them
abbrev pub advanced : Progress → ℕ → ℕ → ℕ → Ear → Progress
advanced p count bad odd ear =
    record {
      status = p.status;
      kind = p.kind;
      room = p.room;
      count = count;
      number = p.number;
      place = p.place;
      rate = p.rate;
      length = p.length;
      n = p.n;
      clock = p.clock;
      bad = bad;
      odd = odd;
      ear = ear;
    }

-- chips where a refusal is certain: they are counted, and looked through for 9 where only 10 was found. At most `left`
-- of them are taken
abbrev pub bad_behind : Progress → List ℕ → ℕ
bad_behind p piece = cond (eqb p.bad 0) (place_number (first_unusable p.count (hard_recording piece))) p.bad

pub record Passes (p : Progress) (rest : List ℕ) (left : ℕ) (q : Pieced) : Type 0 where
  pub some_taken : 0 < length rest → 0 < left → 0 < q.taken
  pub most : q.taken ≤ length rest
  pub within : q.taken ≤ left
  pub progress_is : q.progress
      ≡ advanced p (p.count + q.taken) (bad_behind p (take q.taken rest)) p.odd p.ear

-- a piece of a part, kept
pub record Keeps (p : Progress) (t : Taking) (q : Pieced) : Type 0 where
  pub taken_is : q.taken ≡ t.taken
  pub progress_is : q.progress
      ≡ advanced p (p.count + t.taken) (place_number t.piece.bad)
      (place_number t.piece.odd) t.piece.ear

-- a refusal that stays
abbrev pub stayed : Progress → Refusal → Progress
stayed p e =
    record {
      status = 3;
      kind = p.kind;
      room = p.room;
      count = p.count;
      number = refusal_number e;
      place = refusal_place e;
      rate = p.rate;
      length = refusal_length e;
      n = p.n;
      clock = p.clock;
      bad = p.bad;
      odd = p.odd;
      ear = p.ear;
    }

-- what the front told
abbrev pub telling : Progress → Told → Progress
telling p t =
    record {
      status = 2;
      kind = p.kind;
      room = p.room;
      count = p.count;
      number = p.number;
      place = p.place;
      rate = code_of t.rate;
      length = t.length;
      n = t.n;
      clock = clock_bit t.clock;
      bad = 0;
      odd = 0;
      ear =
          record {
            lead = p.ear.lead;
            symbol = p.ear.symbol;
            past = p.ear.past;
            phase = p.ear.phase;
            last = p.ear.phase;
          };
    }

-- the first symbol is whole: hearing starts from its phase and its lead
pub record Begun (k : Kind) (row : List ℕ) (e : Ear) : Type 0 where
  pub phase : e.phase ≡ decided One (symbol_at One (hard_recording row) 0)
  pub last : e.last ≡ decided One (symbol_at One (hard_recording row) 0)
  pub small : e.phase < 4
  pub past : take 7 (past_of e.past) ≡ take 7 (start k)
  pub lead : e.lead ≡ lead_of One (symbol_at One (hard_recording row) 0)
  pub symbol : e.symbol ≡ 0

-- chips of the front are taken, up to its end
pub record FrontTakes (k : Kind) (p : Progress) (hold preamble header rest : List ℕ) (q : Pieced)
    (hold' preamble' header' : List ℕ) : Type 0 where
  pub some_taken : 0 < length rest → 0 < q.taken
  pub most : q.taken ≤ length rest
  pub within : p.count + q.taken ≤ front_chips k
  pub count_is : q.progress.count ≡ p.count + q.taken
  pub status_is : q.progress.status ≡ p.status
  pub kind_is : q.progress.kind ≡ p.kind
  pub room_is : q.progress.room ≡ p.room
  pub small : q.progress.ear.phase < 4
  pub last_small : q.progress.ear.last < 4
  pub hold_long : length hold' ≡ length hold
  pub preamble_long : length preamble' ≡ length preamble
  pub header_long : length header' ≡ length header
  pub front_to : (fed : List ℕ) → length fed < front_chips k → FrontTo k fed p hold preamble header
      → FrontTo k (fed ++ take q.taken rest) q.progress hold' preamble' header'

-- chips of the first symbol, whatever stands in the rows for octets
abbrev pub FirstTakes : Kind → Progress → List ℕ → List ℕ → Pieced → List ℕ → Type 0
FirstTakes k p hold rest q hold' =
    (preamble header : List ℕ) → FrontTakes k p hold preamble header rest q hold' preamble header

-- the front is whole: it is refused for good, or tells of a payload
pub record FrontTold (k : Kind) (p : Progress) (preamble header : List ℕ) (u : Progress) : Type 0 where
  pub takes_more_lem : takes u p.room ≡ true
  pub kind_is : u.kind ≡ p.kind
  pub room_is : u.room ≡ p.room
  pub small : u.ear.phase < 4
  pub last_small : u.ear.last < 4
  pub held : (kind : ℕ) (fed hold buf : List ℕ) → is_kind kind ≡ true → kind_of kind ≡ k → length fed ≡ front_chips k
      → FrontTo k fed p hold preamble header → buf ≡ zeros p.room
      → Held kind fed u hold preamble header buf

-- the numbers of a receiver whose payload comes
pub record Paid (p : Progress) (k : Kind) (r : Rate) : Type 0 where
  pub kind_is : kind_of p.kind ≡ k
  pub is_kind_lem : is_kind p.kind ≡ true
  pub rate_is : rate_of p.rate ≡ r
  pub is_code_lem : is_code p.rate ≡ true
  pub status_is : p.status ≡ 2
  pub few : p.n ≤ 4095
  pub from : front_chips k ≤ p.count
  pub to : p.count ≤ frame_chips k r p.n
  pub small : p.ear.phase < 4
  pub last_small : p.ear.last < 4

-- some of the chips left are taken, at least one if there are any; more is taken behind them
pub record TakesSome (p : Progress) (hold preamble header buf rest : List ℕ) (q : Pieced)
    (hold' preamble' header' out : List ℕ) : Type 0 where
  pub some_taken : 0 < length rest → 0 < q.taken
  pub most : q.taken ≤ length rest
  pub takes_more_lem : takes q.progress (length buf) ≡ true
  pub hold_long : length hold' ≡ length hold
  pub preamble_long : length preamble' ≡ length preamble
  pub header_long : length header' ≡ length header
  pub long : length out ≡ length buf
  pub receives : (kind : ℕ) (fed : List ℕ) → Going kind (length buf) fed p hold preamble header buf
      → Going kind (length buf) (fed ++ take q.taken rest) q.progress hold' preamble' header' out

-- the octets are cleared once a refusal is certain
abbrev pub settled : Progress → List ℕ → List ℕ
settled p buf = cond (eqb p.bad 0) (cond (eqb p.odd 0) buf (zeros (length buf))) (zeros (length buf))

-- a piece of the front leaves the buffer, one of the payload the rows for the front's octets
abbrev pub FrontSome : Progress → List ℕ → List ℕ → List ℕ → List ℕ → Pieced → List ℕ → List ℕ → List ℕ → Type 0
FrontSome p hold preamble header rest q hold' preamble' header' =
    (buf : List ℕ) → takes p (length buf) ≡ true
    → TakesSome p hold preamble header buf rest q hold' preamble' header' buf

abbrev pub PayloadSome : Progress → List ℕ → List ℕ → List ℕ → Pieced → List ℕ → List ℕ → Type 0
PayloadSome p hold buf rest q hold' out =
    (preamble header : List ℕ) → TakesSome p hold preamble header buf rest q hold' preamble header out

-- a batch taken: what was received is received with it
pub record BatchIs (s : Receiver) (buf batch : List ℕ) (u : Receiver) (out : List ℕ) : Type 0 where
  pub long : length out ≡ length buf
  pub receives : (kind : ℕ) (fed : List ℕ) → Receives kind (length buf) fed s buf
      → Receives kind (length buf) (fed ++ batch) u out
