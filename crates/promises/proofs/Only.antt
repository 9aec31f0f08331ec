-- Nothing else is accepted: the tests of writing and reading, followed to a good answer. By the cases of each test;
-- what holds where a refusal is not given is carried to the end. Assumes nothing.
use mathlib.Core.Path.{◌≡◌, refl, sym, ap, ◌∙◌, subst}
use mathlib.Core.Bool.{Bool, true, not}
use mathlib.Core.List.{List}
use Prim.Native.Nat.{ℕ, zero, suc, ◌≤◌}
use native.Mathlib.Omega.{arith}
use borrow.Author.Tests.{leb-true, le-ltb}
use lib.Dec.{T, ltb, leb, nltb→le}
use lib.ListN.{length}
use lib.IntN.{pos}
use Rattle.std.specs.Prelude.{Result, Ok, Err}
use Rattle.base.specs.Below.{Below}
use Rattle.base.proofs.Tests.{held, left_is, right_is, branch}
use Rattle.rules_rates.specs.declared.Rate.{Rate}
use Rattle.rules_rates.specs.declared.Rate.TheVariants.{One, Two, Five, Eleven}
use Rattle.rules_rates.specs.Rates.{code_of, is_code, rate_of, octet_chips, is_payload}
use Rattle.rules_rates.specs.Plain.{LengthOf}
use Rattle.rules_rates.proofs.Facts.{no_other_code}
use Rattle.rules_rates.proofs.Plain.{length_is}
use Rattle.rules_reading.proofs.Telling.{Telling, TellingWhole, TellingWholeIf, whole_telling}
use Rattle.rules_chips.specs.Chips.{Taken}
use Rattle.rules_frame.specs.declared.Kind.{Kind}
use Rattle.rules_frame.specs.Frame.{is_kind, kind_of, goes_with, is_phase, front_chips, frame_chips}
use Rattle.rules_frame.proofs.Phases.{phase_most}
use Rattle.rules_frame.proofs.Headers.{clock_lt}
use Rattle.rules_calls.specs.declared.Frame.{Frame}
use Rattle.rules_calls.specs.declared.Refusal.{Refusal}
use Rattle.rules_calls.specs.declared.Told.{Told}
use Rattle.rules_calls.specs.declared.Reading.{Reading}
use Rattle.rules_calls.specs.declared.Written.{Written}
use Rattle.rules_calls.specs.declared.Least.{Least}
use Rattle.rules_calls.specs.declared.Record.{Record}
use Rattle.rules_calls.specs.Answers.{written_of, record_of}
use Rattle.rules_calls.specs.Writing.{writing_of}
use Rattle.rules_calls.proofs.AnswerFacts.{some_number}
use Rattle.rules_reading.specs.Reading.{front_of, whole_of, payload_reading, after_front, reading_of}
use Rattle.promises.specs.Calls.{Goes, long_1, long_2, long_5, long_11, short_2, short_5, short_11, Sent}
use Rattle.promises.specs.Only.{OnlySent, Readable, OnlyReadable, RefusedShows}
use Rattle.rules_reading.proofs.Refusals.{PayloadIf, payload_comes}

-- ---- the kinds and the rates that go with them
pub goes : (kind : ℕ) (r : Rate) → is_kind kind ≡ true → goes_with (kind_of kind) r ≡ true
    → Goes kind (code_of r) (front_chips (kind_of kind)) (octet_chips r)
goes zero One a b = long_1
goes zero Two a b = long_2
goes zero Five a b = long_5
goes zero Eleven a b = long_11
goes (suc zero) One a b = absurd (subst T (sym b) tt)
goes (suc zero) Two a b = short_2
goes (suc zero) Five a b = short_5
goes (suc zero) Eleven a b = short_11
goes (suc (suc k)) r a b = absurd (subst T (sym a ∙ le-ltb (suc (suc k)) 2 (omega arith)) tt)

pub code_back : (r : Rate) → rate_of (code_of r) ≡ r
code_back One = refl
code_back Two = refl
code_back Five = refl
code_back Eleven = refl

-- LENGTH of a front that tells
pub length_told : {k : Kind} {t : Told} → Telling k t → LengthOf (code_of t.rate) t.n t.length
length_told {k} {t} h = subst (LengthOf (code_of t.rate) t.n) (sym h.length_is) (length_is t.rate t.n)

-- ---- writing
module _ (kind rate phase : ℕ) (payload : List ℕ) (room : ℕ) (octets : Below 256 payload) where
  abbrev n : ℕ
  n = length payload

  abbrev Sendable-in : Result Frame Refusal → Type 0
  Sendable-in (Err e) = Unit {0}
  Sendable-in (Ok f) =
      Goes kind rate (front_chips (kind_of kind)) (octet_chips (rate_of rate))
      × (1 ≤ n) × (n ≤ 4095) × (phase ≤ 3) × (frame_chips (kind_of kind) (rate_of rate) n ≤ room)

  sendable_in : Sendable-in (writing_of kind rate phase n room)
  unfolding writing_of
  sendable_in =
      branch Sendable-in (not (is_kind kind)) _ _ tt
      (λ a. branch Sendable-in (not (is_code rate)) _ _ tt
      (λ b. branch Sendable-in (not (goes_with (kind_of kind) (rate_of rate))) _ _ tt
      (λ c. branch Sendable-in (not (is_payload (pos n))) _ _ tt
      (λ d. branch Sendable-in (not (is_phase phase)) _ _ tt
      (λ e. branch Sendable-in (ltb room (frame_chips (kind_of kind) (rate_of rate) n)) _ _ tt
      (λ f. (
        subst (λ (x : ℕ). Goes kind x (front_chips (kind_of kind)) (octet_chips (rate_of rate)))
            (sym (no_other_code rate (held _ b)))
            (goes kind (rate_of rate) (held _ a) (held _ c)),
        leb-true 1 n (left_is _ _ (held _ d)),
        leb-true n 4095 (right_is (leb 1 n) _ (held _ d)),
        phase_most phase (held _ e),
        nltb→le room (frame_chips (kind_of kind) (rate_of rate) n) f,
      )))))))

pub only_sent : OnlySent
only_sent kind rate phase clock payload room w left octets wrote zero_is =
    go (writing_of kind rate phase (length payload) room) (sendable_in kind rate phase payload room octets)
    (ap (λ (v : Written). v.number) (sym wrote.answer) ∙ zero_is)
  where
    go : (g : Result Frame Refusal) → Sendable-in kind rate phase payload room octets g → (written_of g).number ≡ 0
        → Sent kind rate phase clock payload w left
    go (Err e) p z = absurd (some_number e z)
    go (Ok f) p z = record {
      room = room;
      sendable = record {
        front = front_chips (kind_of kind);
        octet = octet_chips (rate_of rate);
        goes = p.0;
        some = p.1;
        few = p.2;
        phase_is = omega (arith, p.3);
        octets = octets;
      };
      holds = p.4;
      wrote = wrote;
    }

-- ---- reading: what a front tells, then that the recording has the frame's chips, then room
module _ (kind : ℕ) (rec : List Taken) (room : ℕ) (kind-is : is_kind kind ≡ true) where
  abbrev k : Kind
  k = kind_of kind

  abbrev Readable-in : Result Reading Refusal → Type 0
  Readable-in (Err e) = Unit {0}
  Readable-in (Ok g) = Readable kind (length rec) room (record_of (Ok g))

  readable : (t : Told) → TellingWhole k rec t → t.n ≤ room
      → (least : Least) → Readable-in (Ok (record { told = t; used = frame_chips k t.rate t.n; least = least }))
  readable t h b least =
      let r = t.rate in
      record {
        front = front_chips k;
        octet = octet_chips r;
        goes = goes kind r kind-is h.telling.goes;
        some = h.telling.some_octets;
        few = h.telling.few;
        length_is = length_told h.telling;
        used_is = refl;
        there = h.there;
        fits = b;
        clock_is = clock_lt t.clock;
      }

  readable_in : (f : Result Told Refusal) → TellingWholeIf k rec f → Readable-in (after_front k rec room f)
  readable_in (Err e) h = tt
  readable_in (Ok t) h = go (payload_reading k t rec room) (payload_comes k t rec room)
    where
      go : (g : Result Reading Refusal) → PayloadIf k t rec room g → Readable-in g
      go (Err e) p = tt
      go (Ok g) p =
          subst (λ (v : Told). Readable-in (Ok (record { told = v; used = g.used; least = g.least }))) (sym p.1)
          (subst (λ (m : ℕ). Readable-in (Ok (record { told = t; used = m; least = g.least }))) (sym p.2) (readable t h p.0 g.least))

-- a whole reading, where kind and rows pass
abbrev Agreed : ℕ → Bool → List Taken → ℕ → Result Reading Refusal → Type 0
Agreed kind agree rec room (Err e) = Unit {0}
Agreed kind agree rec room (Ok g) =
    (agree ≡ true) × Readable kind (length rec) room (record_of (Ok g))

agreed : (kind : ℕ) (agree : Bool) (rec : List Taken) (room : ℕ)
    → Agreed kind agree rec room (reading_of kind agree rec room)
unfolding reading_of
agreed kind agree rec room =
    branch (Agreed kind agree rec room) (not (is_kind kind)) _ _ tt
    (λ a. branch (Agreed kind agree rec room) (not agree) _ _ tt
    (λ b. let f = whole_of (kind_of kind) rec (front_of (kind_of kind) rec) in
    let known = held (is_kind kind) a in
    with_rows known (held agree b) (after_front (kind_of kind) rec room f)
    (readable_in kind rec room known f (whole_telling (kind_of kind) rec))))
  where
    with_rows : (known : is_kind kind ≡ true) → agree ≡ true → (g : Result Reading Refusal) → Readable-in kind rec room known g
        → Agreed kind agree rec room g
    with_rows known e (Err x) h = tt
    with_rows known e (Ok g) h = (e, h)

pub only_readable : OnlyReadable
only_readable kind agree rec room a left read zero_is =
    subst (λ (v : Record). (agree ≡ true) × Readable kind (length rec) room v) (sym read.answer)
    (go (reading_of kind agree rec room) (agreed kind agree rec room)
    (ap (λ (v : Record). v.number) (sym read.answer) ∙ zero_is))
  where
    go : (g : Result Reading Refusal) → Agreed kind agree rec room g → (record_of g).number ≡ 0
        → (agree ≡ true) × Readable kind (length rec) room (record_of g)
    go (Err e) p z = absurd (some_number e z)
    go (Ok g) p z = p

-- ---- a refused record
abbrev Nothing : Record → Type 0
Nothing v = (v.rate ≡ 0) × (v.n ≡ 0) × (v.used ≡ 0) × (v.clock ≡ 0) × (v.lead ≡ 0) × (v.symbol ≡ 0)

pub refused_shows : RefusedShows
refused_shows kind agree rec room a left read some_is =
    subst (λ (v : Record). (v.number ≡ 0 → ⊥) → Nothing v) (sym read.answer) (go (reading_of kind agree rec room))
    some_is
  where
    go : (g : Result Reading Refusal) → ((record_of g).number ≡ 0 → ⊥) → Nothing (record_of g)
    go (Err e) h = (refl, refl, refl, refl, refl, refl)
    go (Ok g) h = absurd (h refl)
