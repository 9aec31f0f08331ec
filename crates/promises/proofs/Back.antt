-- Demand 2 from the contracts: what the writer left is read back, hard, as exact soft pairs or as bytes; with too
-- little room, or cut, it is refused as stated. A read of any of the three is one of a clean recording (`cleanly`); the
-- laws of clean frames (crate `rules_clean`) say how they are read.
-- Assumes nothing.
use mathlib.Core.Path.{◌≡◌, refl, sym, ap, ap₂, ◌∙◌, subst}
use mathlib.Core.Bool.{Bool, true}
use mathlib.Core.List.{List, [], ◌∷◌, ◌++◌, append-nil}
use Prim.Native.Nat.{ℕ, zero, suc, ◌+◌, ◌-◌, ◌*◌, ◌%◌, ◌≤◌, ◌<◌}
use native.Mathlib.Omega.{arith}
use borrow.Author.Tests.{eq-eqb, le-ltb}
use lib.Dec.{eqb}
use lib.ListN.{length, take, replicate, length-append}
use lib.Seq.{take_at, take-append-le}
use Rattle.std.specs.Prelude.{Ok}
use Rattle.rules_rates.specs.declared.Rate.{Rate}
use Rattle.rules_rates.specs.Rates.{code_of, is_code, rate_of, octet_chips, length_field}
use Rattle.rules_rates.specs.Plain.{LengthOf}
use Rattle.rules_rates.proofs.Lengths.{is_payload_lem}
use Rattle.rules_rates.proofs.Plain.{length_only}
use Rattle.base.specs.Below.{Below}
use Rattle.base.proofs.Below.{below_take}
use Rattle.rules_chips.specs.Chips.{Taken, hard_recording, soft_recording, byte_recording}
use Rattle.rules_chips.proofs.Recorders.{length_hard, length_soft_same}
use Rattle.rules_chips.proofs.Bytes.{length_bytes}
use Rattle.rules_frame.specs.declared.Kind.{Kind}
use Rattle.rules_frame.specs.Frame.{is_kind, kind_of, clock_of, clock_bit, goes_with, front_chips, frame, frame_chips}
use Rattle.rules_frame.proofs.Phases.{is_phase_lem}
use Rattle.rules_frame.proofs.Headers.{clock_some}
use Rattle.rules_frame.proofs.Sizes.{frame_length}
use Rattle.rules_calls.specs.declared.Written.{Written}
use Rattle.rules_calls.specs.declared.Least.{Least}
use Rattle.rules_calls.specs.declared.Record.{Record}
use Rattle.rules_reading.specs.Leads.{lead_at}
use Rattle.rules_calls.specs.Answers.{written_of, record_of}
use Rattle.rules_calls.specs.Writing.{writing_of, chips_after, chips_written}
use Rattle.rules_clean.specs.Clean.{clean_recording, clean_least, byte_row}
use Rattle.rules_clean.proofs.Recorded.{hard_recorded, soft_recorded, rows_agree, byte_recorded, byte_row_length}
use Rattle.rules_clean.proofs.Decided.{clean_take}
use Rattle.rules_clean.proofs.Back as clean
use Rattle.promises.specs.Calls.{
  Read,
  Goes,
  long_1,
  long_2,
  long_5,
  long_11,
  short_2,
  short_5,
  short_11,
  Sent,
  ReadOf,
  of_hard,
  of_soft,
  of_bytes,
  good,
  sent_lead,
  sent_symbol,
  refused,
  shown,
}
use Rattle.promises.specs.Promises.{WrittenFrame, ReadBack, NotReadBack}

-- what the seven pairs of kind and rate are by the definitions
pub record Known (kind rate front octet : ℕ) : Type 0 where
  pub kind_is : is_kind kind ≡ true
  pub rate_is : is_code rate ≡ true
  pub together : goes_with (kind_of kind) (rate_of rate) ≡ true
  pub code_back : code_of (rate_of rate) ≡ rate
  pub front_is : front_chips (kind_of kind) ≡ front
  pub octet_is : octet_chips (rate_of rate) ≡ octet
  pub lead_is : clean_least (kind_of kind) (rate_of rate) ≡ lead_at (sent_lead rate) (sent_symbol kind rate)

pub known : {kind rate front octet : ℕ} → Goes kind rate front octet → Known kind rate front octet
known long_1 =
    record {
      kind_is = refl;
      rate_is = refl;
      together = refl;
      code_back = refl;
      front_is = refl;
      octet_is = refl;
      lead_is = refl;
    }
known long_2 =
    record {
      kind_is = refl;
      rate_is = refl;
      together = refl;
      code_back = refl;
      front_is = refl;
      octet_is = refl;
      lead_is = refl;
    }
known long_5 =
    record {
      kind_is = refl;
      rate_is = refl;
      together = refl;
      code_back = refl;
      front_is = refl;
      octet_is = refl;
      lead_is = refl;
    }
known long_11 =
    record {
      kind_is = refl;
      rate_is = refl;
      together = refl;
      code_back = refl;
      front_is = refl;
      octet_is = refl;
      lead_is = refl;
    }
known short_2 =
    record {
      kind_is = refl;
      rate_is = refl;
      together = refl;
      code_back = refl;
      front_is = refl;
      octet_is = refl;
      lead_is = refl;
    }
known short_5 =
    record {
      kind_is = refl;
      rate_is = refl;
      together = refl;
      code_back = refl;
      front_is = refl;
      octet_is = refl;
      lead_is = refl;
    }
known short_11 =
    record {
      kind_is = refl;
      rate_is = refl;
      together = refl;
      code_back = refl;
      front_is = refl;
      octet_is = refl;
      lead_is = refl;
    }

-- a clock as it is shown
pub shown_is : (clock : ℕ) → clock_bit (clock_of clock) ≡ shown clock
shown_is zero = refl
shown_is (suc clock) = ap clock_bit (clock_some clock)

-- a read of chips that something recorded clean, with so many after them
record Cleanly (kind : ℕ) (sent : List ℕ) (after room : ℕ) (a : Record) (left : List ℕ) : Type 0 where
  agree : Bool
  same : agree ≡ true
  rest : List Taken
  rest_is : length rest ≡ after
  read : Read kind agree (clean_recording sent ++ rest) room a left

cleanly : {kind : ℕ} {sent : List ℕ} {after room : ℕ} {a : Record} {left : List ℕ} → Below 4 sent
    → ReadOf kind sent after room a left → Cleanly kind sent after room a left
cleanly {kind} {sent} {after} {room} {a} {left} phases (of_hard tail e f) = record {
  agree = true;
  same = refl;
  rest = hard_recording tail;
  rest_is = length_hard tail ∙ e;
  read = subst (λ (x : List Taken). Read kind true x room a left) (hard_recorded sent tail phases) f;
}
cleanly {kind} {sent} {after} {room} {a} {left} phases (of_soft i q i' q' h e e' f) = record {
  agree = eqb (length (i ++ i')) (length (q ++ q'));
  same =
      eq-eqb (length (i ++ i')) (length (q ++ q'))
      (omega (arith, length-append i i', length-append q q', rows_agree sent i q h, e, e'));
  rest = soft_recording i' q';
  rest_is = length_soft_same i' q' (e ∙ sym e') ∙ e;
  read =
      subst (λ (x : List Taken). Read kind (eqb (length (i ++ i')) (length (q ++ q'))) x room a left)
      (soft_recorded sent i q i' q' h) f;
}
cleanly {kind} {sent} {after} {room} {a} {left} phases (of_bytes tail e f) = record {
  agree = eqb (length (byte_row sent ++ tail) % 2) 0;
  same =
      eq-eqb (length (byte_row sent ++ tail) % 2) 0
      (omega (arith, length-append (byte_row sent) tail, byte_row_length sent, e));
  rest = byte_recording tail;
  rest_is = length_bytes tail ∙ omega (arith, e);
  read =
      subst (λ (x : List Taken). Read kind (eqb (length (byte_row sent ++ tail) % 2) 0) x room a left)
      (byte_recorded sent tail) f;
}

nothing : (xs : List Taken) → length xs ≡ 0 → xs ≡ []
nothing [] e = refl
nothing (x ∷ xs) e = absurd (omega arith)

module _ (kind rate phase clock : ℕ) (payload : List ℕ) (w : Written) (chips : List ℕ)
    (s : Sent kind rate phase clock payload w chips) where
  abbrev k : Kind
  k = kind_of kind

  abbrev r : Rate
  r = rate_of rate

  abbrev n : ℕ
  n = length payload

  abbrev c : ℕ
  c = frame_chips k r n

  abbrev pub sent : List ℕ
  sent = frame k r phase (clock_of clock) payload

  pub pair : Known kind rate s.sendable.front s.sendable.octet
  pair = known s.sendable.goes

  lp : phase < 4
  lp = s.sendable.phase_is

  -- the chips of the frame, in the definition's words and in numbers
  pub size : c ≡ s.sendable.front + s.sendable.octet * n
  size = ap₂ {C = ℕ} (λ x y. x + y * n) pair.front_is pair.octet_is

  written : writing_of kind rate phase n s.room ≡ Ok (record { kind = k; rate = r; chips = c })
  unfolding writing_of
  written =
      rw (
        pair.kind_is,
        pair.rate_is,
        pair.together,
        is_payload_lem n s.sendable.some s.sendable.few,
        is_phase_lem phase (omega (arith, lp)),
        le-ltb s.room c (omega (arith, size, s.holds)),
      )

  w_is : w ≡ record { number = 0; chips = c }
  w_is = s.wrote.answer ∙ ap written_of written

  pub w_chips : w.chips ≡ c
  w_chips = ap (λ (v : Written). v.chips) w_is

  pub chips_are : chips ≡ sent ++ replicate (s.room - c) 4
  chips_are = s.wrote.chips ∙ after
    where
      after : chips_written kind rate phase clock payload s.room ≡ sent ++ replicate (s.room - c) 4
      after = unfold chips_written in ap (chips_after phase (clock_of clock) payload s.room) written

  pub sent_length : length sent ≡ c
  sent_length = frame_length k r phase (clock_of clock) payload

  pub taken : take w.chips chips ≡ sent
  taken =
      ap₂ {C = List ℕ} (λ j l. take j l) w_chips chips_are ∙ take_at sent (replicate (s.room - c) 4) c sent_length

  pub taken_long : length (take w.chips chips) ≡ w.chips
  taken_long = ap length taken ∙ sent_length ∙ sym w_chips

  pub phases : Below 4 sent
  phases = clean.phases kind r phase (clock_of clock) payload pair.kind_is lp

  -- LENGTH of the octets, in the definition's words
  pub length_sent : {l : ℕ} → LengthOf rate n l → length_field r n ≡ l
  length_sent {l} d = sym (length_only r (subst (λ (x : ℕ). LengthOf x n l) (sym pair.code_back) d))

  abbrev with_lead : ℕ → ℕ → ℕ → Least → Record
  with_lead code used bit least = good code (length_field r n) n used bit least.lead least.symbol

  -- ---- whole, with anything after it
  module _ (after room : ℕ) (a : Record) (left : List ℕ)
      (f : ReadOf kind (take w.chips chips) after room a left) where
    f' : Cleanly kind sent after room a left
    f' = cleanly phases (subst (λ (x : List ℕ). ReadOf kind x after room a left) taken f)

    pub back : n ≤ room
        → (a ≡ good rate (length_field r n) n w.chips (shown clock) (sent_lead rate) (sent_symbol kind rate))
        × (left ≡ payload ++ replicate (room - n) 0)
    back h = (
      f'.read.answer
          ∙ ap record_of (clean.good_reading kind r phase (clock_of clock) payload pair.kind_is lp pair.together
          s.sendable.some s.sendable.few f'.rest room f'.agree f'.same h)
          ∙ as_shown,
      f'.read.octets
          ∙ clean.good_octets kind r phase (clock_of clock) payload pair.kind_is lp pair.together
          s.sendable.some s.sendable.few f'.rest room f'.agree f'.same h s.sendable.octets,
    )
      where
        as_shown : with_lead (code_of r) c (clock_bit (clock_of clock)) (clean_least k r)
            ≡ with_lead rate w.chips (shown clock) (lead_at (sent_lead rate) (sent_symbol kind rate))
        as_shown =
            λ i. with_lead (pair.code_back i) (sym w_chips i) (shown_is clock i) (pair.lead_is i)

    pub too_small : room < n → a ≡ refused 17 (length_field r n)
    too_small h =
        f'.read.answer
        ∙ ap record_of (clean.room_refused kind r phase (clock_of clock) payload pair.kind_is lp pair.together
        s.sendable.some s.sendable.few f'.rest room f'.agree f'.same h)

  -- ---- cut short
  module _ (j room : ℕ) (a : Record) (left : List ℕ) (f : ReadOf kind (take j chips) 0 room a left) (less : j < c) where
    g : Cleanly kind (take j sent) 0 room a left
    g =
        cleanly (below_take j phases)
        (subst (λ (x : List ℕ). ReadOf kind x 0 room a left)
        (ap (take j) chips_are ∙ take-append-le j sent (replicate (s.room - c) 4) (omega (arith, sent_length))) f)

    -- with nothing after it
    g' : Read kind g.agree (take j (clean_recording sent)) room a left
    g' =
        subst (λ (x : List Taken). Read kind g.agree x room a left)
        (ap (λ (x : List Taken). clean_recording (take j sent) ++ x) (nothing g.rest g.rest_is)
        ∙ append-nil (clean_recording (take j sent)) ∙ sym (clean_take j sent))
        g.read

    pub in_front : j < s.sendable.front → a ≡ refused 8 0
    in_front h =
        g'.answer
        ∙ ap record_of (clean.front_refused kind r phase (clock_of clock) payload pair.kind_is lp pair.together
        s.sendable.some s.sendable.few j room less g.agree g.same (omega (arith, pair.front_is)))

    pub in_payload : s.sendable.front ≤ j → a ≡ refused 16 (length_field r n)
    in_payload h =
        g'.answer
        ∙ ap record_of (clean.payload_refused kind r phase (clock_of clock) payload pair.kind_is lp pair.together
        s.sendable.some s.sendable.few j room less g.agree g.same (omega (arith, pair.front_is)))

-- ---- the statements
pub written_frame : WrittenFrame
written_frame kind rate phase clock payload w chips s = (
  ap (λ (v : Written). v.number) (w_is kind rate phase clock payload w chips s),
  w_chips kind rate phase clock payload w chips s ∙ size kind rate phase clock payload w chips s,
  taken kind rate phase clock payload w chips s,
)

pub read_back : ReadBack
read_back kind rate phase clock payload w chips s l d after room a left f h =
    rw (← length_sent kind rate phase clock payload w chips s d)
    (back kind rate phase clock payload w chips s after room a left f h)

pub not_read_back : NotReadBack
not_read_back kind rate phase clock payload w chips s l d room a left =
    let e = length_sent kind rate phase clock payload w chips s d in (
      (λ after f h. too_small kind rate phase clock payload w chips s after room a left f h ∙ ap (refused 17) e),
      (λ j f h i. in_payload kind rate phase clock payload w chips s j room a left f
          (subst (λ (x : ℕ). j < x) (w_chips kind rate phase clock payload w chips s) i) h
          ∙ ap (refused 16) e),
      λ j f h. in_front kind rate phase clock payload w chips s j room a left f
          (omega (arith, size kind rate phase clock payload w chips s)) h,
    )
