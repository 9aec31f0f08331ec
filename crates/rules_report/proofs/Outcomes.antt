-- What a reading with room for 4,095 octets can come to: number 0 with a rate, at most 4,095 octets and a LENGTH of at
-- most 32,760, or one of the refusals 1 and 8 to 16. Assumes nothing.
use Rattle.std.specs.Prelude.{Result, Ok, Err}
use mathlib.Core.Path.{◌≡◌, refl}
use mathlib.Core.Bool.{not}
use mathlib.Core.List.{List}
use Prim.Native.Nat.{ℕ, ◌≤◌}
use native.Mathlib.Omega.{arith}
use borrow.Author.Tests.{le-ltb}
use lib.Dec.{lit≤}
use Rattle.base.proofs.Tests.{branch}
use Rattle.rules_rates.specs.declared.Rate.{Rate}
use Rattle.rules_rates.specs.declared.Rate.TheVariants.{One, Two, Five, Eleven}
use Rattle.rules_rates.specs.Rates.{code_of, length_field}
use Rattle.rules_chips.specs.Chips.{Taken, hard_recording}
use Rattle.rules_frame.specs.declared.Kind.{Kind}
use Rattle.rules_frame.specs.Frame.{is_kind, kind_of}
use Rattle.rules_calls.specs.declared.Refusal.TheVariants.{NoKind, Unusable, OddGrowth}
use Rattle.rules_calls.specs.declared.Refusal.{Refusal}
use Rattle.rules_calls.specs.declared.Told.{Told}
use Rattle.rules_calls.specs.declared.Least.{Least}
use Rattle.rules_calls.specs.declared.Record.{Record}
use Rattle.rules_calls.specs.declared.Reading.{Reading}
use Rattle.rules_calls.specs.Answers.{refusal_number, record_of}
use Rattle.rules_reading.specs.Reading.{front_of, whole_of, payload_odd, payload_reading, after_front, reading_of}
use Rattle.rules_reading.proofs.Payloads.{found_unusable}
use Rattle.rules_reading.proofs.Telling.{searched, Telling, TellingWholeIf, whole_telling}
use Rattle.rules_reading.proofs.Refusals.{RefusesIf, whole_refuses, whole_number}
use Rattle.rules_report.specs.Totals.{Recording, outcome_of}

-- a LENGTH of at most 4,095 octets
length_small : (r : Rate) (n : ℕ) → n ≤ 4095 → length_field r n ≤ 32760
length_small One n h = omega arith
length_small Two n h = omega arith
length_small Five n h = omega arith
length_small Eleven n h = omega arith

-- the answer of such a reading
pub record Fair (a : Record) : Type 0 where
  pub rate : Rate
  pub rate_is : a.number ≡ 0 → a.rate ≡ code_of rate
  pub some : a.number ≡ 0 → 1 ≤ a.n
  pub few : a.n ≤ 4095
  pub brief : a.number ≡ 0 → a.length ≤ 32760
  pub most : a.number ≤ 16
  pub least : 2 ≤ a.number → 8 ≤ a.number

refused : (e : Refusal) → 1 ≤ refusal_number e → refusal_number e ≤ 16 → (2 ≤ refusal_number e → 8 ≤ refusal_number e)
    → Fair (record_of (Err e))
refused e low high from-8 = record {
  rate = One;
  rate_is = λ z. absurd (none z);
  some = λ z. absurd (none z);
  few = lit≤ tt;
  brief = λ z. absurd (none z);
  most = high;
  least = from-8;
}
  where
    none : refusal_number e ≡ 0 → ⊥
    none z = omega arith

abbrev Fairly : Result Reading Refusal → Type 0
Fairly g = Fair (record_of g)

good : (k : Kind) (t : Told) (used : ℕ) (least : Least) → Telling k t → Fairly (Ok (record { told = t; used = used; least = least }))
good k t used least h = record {
  rate = t.rate;
  rate_is = λ z. refl;
  some = λ z. h.some_octets;
  few = h.few;
  brief = λ z. rw h.length_is (length_small t.rate t.n h.few);
  most = lit≤ tt;
  least = λ z. absurd (none z);
}
  where
    none : 2 ≤ 0 → ⊥
    none z = omega arith

-- a payload of at most 4,095 octets has room
payload : (k : Kind) (t : Told) (rec : List Taken) → Telling k t → Fairly (payload_reading k t rec 4095)
unfolding payload_reading
payload k t rec h =
    rw (le-ltb 4095 t.n h.few)
    (searched Fairly (found_unusable k t rec) (λ p. Err (Unusable p t.length)) _
    (λ p e. refused (Unusable p t.length) (lit≤ tt) (lit≤ tt) (λ z. lit≤ tt))
    (searched Fairly (payload_odd k t.rate t.n rec) (λ p. Err (OddGrowth p t.length)) _
    (λ p e. refused (OddGrowth p t.length) (lit≤ tt) (lit≤ tt) (λ z. lit≤ tt)) (good k t _ _ h)))

front_fair : (k : Kind) (rec : List Taken) (f : Result Told Refusal) → TellingWholeIf k rec f → RefusesIf k rec f
    → Fairly (after_front k rec 4095 f)
front_fair k rec (Err e) h n = let b = whole_number n in refused e (omega (arith, b.0)) b.1 (λ z. b.0)
front_fair k rec (Ok t) h n = payload k t rec h.telling

-- whatever the kind and the chips
-- promise: A reading with room for 4,095 octets: number 0 with a rate, at most 4,095 octets and a LENGTH of at most
-- 32,760, or 1 or 8 to 16
-- rule: 6.19
pub fair : (r : Recording) → Fair (outcome_of r).answer
unfolding reading_of
fair r =
    let k = kind_of r.kind in
    let rec = hard_recording r.chips in
    branch Fairly (not (is_kind r.kind)) _ _ (refused NoKind (lit≤ tt) (lit≤ tt) (λ z. omega arith))
    (λ a. front_fair k rec (whole_of k rec (front_of k rec)) (whole_telling k rec) (whole_refuses k rec))
