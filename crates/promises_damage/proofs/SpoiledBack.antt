-- What was written, spoiled within the limits, is read back by the hard reader and counted in a report: the laws of
-- damage (`ReadBack` of rules_damage), over the contracts. Assumes nothing.
use mathlib.Core.Path.{◌≡◌, refl, sym, ap, ◌∙◌, subst}
use mathlib.Core.Bool.{true}
use mathlib.Core.List.{List, ◌++◌}
use Prim.Native.Nat.{ℕ, ◌-◌, ◌≤◌, ◌<◌}
use native.Mathlib.Omega.{arith}
use lib.ListN.{length, take, replicate}
use Rattle.rules_rates.specs.declared.Rate.{Rate}
use Rattle.rules_rates.specs.Rates.{code_of, rate_of, length_field}
use Rattle.rules_rates.specs.Plain.{LengthOf}
use Rattle.rules_chips.specs.Chips.{hard_recording}
use Rattle.rules_frame.specs.declared.Kind.{Kind}
use Rattle.rules_frame.specs.Frame.{kind_of, clock_of}
use Rattle.rules_calls.specs.declared.Written.{Written}
use Rattle.rules_calls.specs.declared.Record.{Record}
use Rattle.rules_calls.specs.declared.Least.{Least}
use Rattle.rules_calls.specs.Answers.{record_of}
use Rattle.rules_reading.specs.Leads.{frame_leads, lead_at, least_of}
use Rattle.rules_reading.specs.Reading.{reading_of, octets_found}
use Rattle.rules_report.specs.declared.Report.{Report}
use Rattle.rules_report.specs.declared.Counted.{Counted}
use Rattle.rules_report.specs.Report.{Limits}
use Rattle.rules_report.specs.Shares.{FullRows, OneMore}
use Rattle.rules_damage.specs.Plain.{FrameStands}
use Rattle.rules_damage.proofs.ReadBack.{reading_spoiled, octets_spoiled, room_spoiled, least_spoiled}
use Rattle.promises.specs.Calls.{ReadHard, good, refused, shown, Sent}
use Rattle.promises.proofs.Back.{Known, shown_is}
use Rattle.promises.proofs.Back as back
use Rattle.promises.proofs.Fills.{read_fills}
use Rattle.promises_report.specs.Calls.{Adds}
use Rattle.promises_report.proofs.Kept as report
use Rattle.promises_damage.specs.Promises.{SpoiledReadBack, SpoiledCounted, CountsAs}

module _ (kind rate phase clock : ℕ) (payload : List ℕ) (w : Written) (chips : List ℕ)
    (s : Sent kind rate phase clock payload w chips) (l : ℕ) (d : LengthOf rate (length payload) l)
    (rec tail : List ℕ) (stands : FrameStands kind rate (length payload) (take w.chips chips) rec) where
  abbrev k : Kind
  k = kind_of kind

  abbrev r : Rate
  r = rate_of rate

  abbrev n : ℕ
  n = length payload

  abbrev sent : List ℕ
  sent = back.sent kind rate phase clock payload w chips s

  pair : Known kind rate s.sendable.front s.sendable.octet
  pair = back.pair kind rate phase clock payload w chips s

  length_is : length_field r n ≡ l
  length_is = back.length_sent kind rate phase clock payload w chips s d

  -- in the words of the definitions
  stands_sent : FrameStands kind (code_of r) n sent rec
  stands_sent =
      subst (λ (x : List ℕ). FrameStands kind (code_of r) n x rec) (back.taken kind rate phase clock payload w chips s)
      (subst (λ (c : ℕ). FrameStands kind c n (take w.chips chips) rec) (sym pair.code_back) stands)

  abbrev least : Least
  least = least_of (frame_leads k r n (hard_recording (rec ++ tail)))

  clear : 1024 ≤ least.lead
  clear =
      least_spoiled kind r phase (clock_of clock) payload pair.kind_is s.sendable.phase_is pair.together
      s.sendable.some s.sendable.few rec tail stands_sent

  abbrev good_with : Least → Record
  good_with b = good rate l n w.chips (shown clock) b.lead b.symbol

  module _ (room : ℕ) (a : Record) (left : List ℕ) (f : ReadHard kind (rec ++ tail) room a left) where
    answer : n ≤ room → a ≡ good_with least
    answer h =
        f.answer
        ∙ ap record_of (reading_spoiled kind r phase (clock_of clock) payload pair.kind_is s.sendable.phase_is
        pair.together s.sendable.some s.sendable.few rec tail stands_sent room h)
        ∙ (λ i. good (pair.code_back i) (length_is i) n
        (sym (back.w_chips kind rate phase clock payload w chips s) i) (shown_is clock i) least.lead
        least.symbol)

    octets : n ≤ room → left ≡ payload ++ replicate (room - n) 0
    octets h =
        f.octets
        ∙ octets_spoiled kind r phase (clock_of clock) payload pair.kind_is s.sendable.phase_is
        pair.together s.sendable.some s.sendable.few rec tail stands_sent room h s.sendable.octets

    too_small : room < n → a ≡ refused 17 l
    too_small h =
        f.answer
        ∙ ap record_of (room_spoiled kind r phase (clock_of clock) payload pair.kind_is s.sendable.phase_is
        pair.together s.sendable.some s.sendable.few rec tail stands_sent room h)
        ∙ ap (refused 17) length_is

    cleared : room < n → left ≡ replicate room 0
    cleared h =
        (read_fills kind true (hard_recording (rec ++ tail)) room a left f).1
        (λ e. omega (arith, e, ap (λ (b : Record). b.number) (too_small h)))

    read_spoiled : (n ≤ room → (a ≡ good_with (lead_at a.lead a.symbol)) × (1024 ≤ a.lead)
        × (left ≡ payload ++ replicate (room - n) 0))
        × (room < n → (a ≡ refused 17 l) × (left ≡ replicate room 0))
    read_spoiled = (
      (λ h.
          let e = answer h in (
            e ∙ (λ i. good_with (lead_at (sym e i).lead (sym e i).symbol)),
            subst (λ (b : Record). 1024 ≤ b.lead) (sym e) clear,
            octets h,
          )),
      (λ h. (too_small h, cleared h)),
    )

  -- ---- in a report
  module _ (p : Report) (c : Counted) (within : Limits p) (rows : FullRows p) (adds : Adds p kind (rec ++ tail) c) where
    abbrev a : Record
    a = record_of (reading_of kind true (hard_recording (rec ++ tail)) 4095)

    abbrev left : List ℕ
    left = octets_found kind true (hard_recording (rec ++ tail)) 4095

    read : ReadHard kind (rec ++ tail) 4095 a left
    read = record { answer = refl; octets = refl }

    counted_spoiled : (c.number ≡ 0) × CountsAs p kind rate l n w.chips (shown clock) c.report
    counted_spoiled =
        let told = ((report.kept_report).any_report p kind (rec ++ tail) c adds).0 within in (
          told.0,
          record {
            lead = least.lead;
            symbol = least.symbol;
            clear = clear;
            one_more =
                subst (λ (b : Record). OneMore p (record { kind = kind; answer = b }) c.report)
                (answer 4095 a left read s.sendable.few) (told.1 a left rows read);
          },
        )

pub spoiled_read_back : SpoiledReadBack
spoiled_read_back kind rate phase clock payload w chips s l d rec tail stands room a left f =
    read_spoiled kind rate phase clock payload w chips s l d rec tail stands room a left f

pub spoiled_counted : SpoiledCounted
spoiled_counted kind rate phase clock payload w chips s l d rec tail stands p c within rows adds =
    counted_spoiled kind rate phase clock payload w chips s l d rec tail stands p c within rows adds
