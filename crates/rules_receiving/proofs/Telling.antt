-- What close tells, by the numbers of a receiver: a law for each way out of the code.
--     tell_short, tell_stays, tell_ends, tell_room, tell_unusable, tell_odd, tell_good
--     good_record     the record of a good reading, from the numbers
-- Assumes nothing.
use mathlib.Core.Path.{◌≡◌, refl, sym, ap, ap₂, subst, ◌∙◌}
use mathlib.Core.Bool.{true}
use mathlib.Core.List.{List}
use Rattle.std.specs.Prelude.{Option, None, Some, Ok, Err}
use Prim.Native.Nat.{ℕ, suc, ◌-◌, ◌≤◌, ◌<◌}
use native.Mathlib.Omega.{arith}
use borrow.Author.Tests.{le-ltb}
use lib.ListN.{take}
use Rattle.rules_rates.specs.Rates.{rate_of}
use Rattle.rules_chips.specs.Chips.{Taken, hard_recording}
use Rattle.rules_frame.specs.declared.Kind.{Kind}
use Rattle.rules_frame.specs.Frame.{is_kind, kind_of, front_chips, frame_chips}
use Rattle.rules_calls.specs.declared.Record.{Record}
use Rattle.rules_calls.specs.declared.Least.{Least}
use Rattle.rules_calls.specs.declared.Refusal.{Refusal}
use Rattle.rules_calls.specs.declared.Refusal.TheVariants.{ShorterThanFront, Unusable, OddGrowth, Ends, OctetRoom}
use Rattle.rules_calls.specs.declared.Told.{Told}
use Rattle.rules_calls.specs.Answers.{record_of}
use Rattle.rules_reading.specs.Leads.{lead_at}
use Rattle.rules_reading.proofs.Leads.{frame_least}
use Rattle.rules_receiving.specs.declared.Progress.{Progress}
use Rattle.rules_receiving.specs.Yet.{
  zeros,
  whole_octets,
  unusable_yet,
  odd_yet,
  octets_yet,
  payload_yet,
  buffer_yet,
}
use Rattle.rules_receiving.specs.Receivers.{
  place_number,
  Stays,
  Tells,
  PayloadComes,
  Held,
  no_kind,
  front_comes,
  refused,
  payload_comes,
}
use Rattle.rules_receiving.specs.Calls.{ReadsAll, kept_record}
use Rattle.rules_receiving.proofs.Takes.{all_of}
use Rattle.rules_receiving.proofs.Calls.{rate_back}
use Rattle.rules_receiving.proofs.Close.{
  read_all,
  zeros_found,
  reads_no_kind,
  reads_refused,
  reads_short,
  yet_is,
  reads_ends,
  reads_room,
  reads_unusable,
  reads_odd,
  reads_good,
  octets_good,
}

refuses : (kind room : ℕ) (fed : List ℕ) (e : Refusal) → read_all kind fed room ≡ Err e
    → ReadsAll kind room fed (record_of (Err e)) (zeros room)
refuses kind room fed e h = (ap record_of (sym h), sym (zeros_found kind room fed e h))

stays_record : (e : Refusal) (p : Progress) → Stays e p → kept_record p ≡ record_of (Err e)
stays_record e p h = λ i. record {
  number = h.number_is i;
  place = h.place_is i;
  rate = 0;
  length = h.length_is i;
  n = 0;
  used = 0;
  clock = 0;
  lead = 0;
  symbol = 0;
}

-- a place kept as a number
place_some : (o : Option ℕ) (b : ℕ) → b ≡ place_number o → (b ≡ 0 → ⊥) → o ≡ Some (b - 1)
place_some None b e h = absurd (h e)
place_some (Some at) b e h = ap Some (by b e)
  where
    by : (b : ℕ) → b ≡ suc at → at ≡ b - 1
    by b e = omega arith

place_none : (o : Option ℕ) (b : ℕ) → b ≡ place_number o → b ≡ 0 → o ≡ None
place_none None b e h = refl
place_none (Some at) b e h = absurd (by b e h)
  where
    by : (b : ℕ) → b ≡ suc at → b ≡ 0 → ⊥
    by b e h = omega arith

-- the record of a good reading from the numbers, and the frame's chips
abbrev pub good_record : Progress → ℕ → Record
good_record p all =
    record {
      number = 0;
      place = 0;
      rate = p.rate;
      length = p.length;
      n = p.n;
      used = all;
      clock = p.clock;
      lead = p.ear.lead;
      symbol = p.ear.symbol;
    }

good_record_lem : (t : Told) (p : Progress) (all all' : ℕ) (least : Least) → Tells t p
    → all ≡ all' → lead_at p.ear.lead p.ear.symbol ≡ least
    → good_record p all ≡ record_of (Ok (record { told = t; used = all'; least = least }))
good_record_lem t p all all' least c e f = λ i. record {
  number = 0;
  place = 0;
  rate = c.rate_is i;
  length = c.length_is i;
  n = c.n_is i;
  used = e i;
  clock = c.clock_is i;
  lead = (f i).lead;
  symbol = (f i).symbol;
}

pub good_yet : (k : Kind) (t : Told) (rec : List Taken) (room : ℕ) → t.n ≤ room → unusable_yet k rec ≡ None
    → odd_yet k t.rate rec ≡ None → payload_yet k t rec room ≡ octets_yet k t.rate rec room
unfolding payload_yet
good_yet k t rec room h e o = rw (le-ltb room t.n h, e, o)

module _ (kind room : ℕ) (fed : List ℕ) (p : Progress) (hold preamble header buf : List ℕ) where
  abbrev Holds : Type 0
  Holds = Held kind fed p hold preamble header buf

  abbrev Told-of : Told → Type 0
  Told-of t = PayloadComes (kind_of kind) t (take (frame_chips (kind_of kind) t.rate t.n) fed) p hold buf

  by_told : {A : Type 0} → Holds → p.status ≡ 2 → ((t : Told) → is_kind kind ≡ true → Told-of t → A) → A
  by_told (no_kind i e h) st f = absurd (omega (arith, e, st))
  by_told (front_comes i e l h) st f = absurd (omega (arith, e, st))
  by_told (refused i e r l g h) st f = absurd (omega (arith, e, st))
  by_told (payload_comes i e t c) st f = f t i c

  pub tell_short : Holds → p.status ≡ 1
      → ReadsAll kind room fed (record_of (Err ShorterThanFront)) (zeros room)
  tell_short (no_kind i e h) st = absurd (omega (arith, e, st))
  tell_short (front_comes i e l h) st = refuses kind room fed ShorterThanFront (reads_short kind room fed i l)
  tell_short (refused i e r l g h) st = absurd (omega (arith, e, st))
  tell_short (payload_comes i e t c) st = absurd (omega (arith, e, st))

  pub tell_stays : Holds → p.status ≡ 3 → ReadsAll kind room fed (kept_record p) (zeros room)
  tell_stays (no_kind i e h) st =
      let x = refuses kind room fed _ (reads_no_kind kind room fed i) in (stays_record _ p h ∙ x.0, x.1)
  tell_stays (front_comes i e l h) st = absurd (omega (arith, e, st))
  tell_stays (refused i e r l g h) st =
      let x = refuses kind room fed r (reads_refused kind room fed r i g) in (stays_record r p h ∙ x.0, x.1)
  tell_stays (payload_comes i e t c) st = absurd (omega (arith, e, st))

  module _ (x : Holds) (st : p.status ≡ 2) (kind-is : p.kind ≡ kind) (room-is : p.room ≡ room) where
    all_is : (t : Told) → Told-of t → all_of p ≡ frame_chips (kind_of kind) t.rate t.n
    all_is t c =
        ap₂ {C = ℕ} (λ k r. frame_chips (kind_of k) r p.n) kind-is
        (ap rate_of c.tells.rate_is ∙ rate_back t.rate)
        ∙ ap (frame_chips (kind_of kind) t.rate) c.tells.n_is

    pub tell_ends : p.count < all_of p
        → ReadsAll kind room fed (record_of (Err (Ends p.length))) (zeros room)
    tell_ends h = by_told x st (λ t i c. rw c.tells.length_is
        (refuses kind room fed (Ends t.length)
        (reads_ends kind room fed t p hold buf i c (subst (λ (a : ℕ). p.count < a) (all_is t c) h))))

    module _ (enough : all_of p ≤ p.count) where
      there : (t : Told) → (c : Told-of t) → frame_chips (kind_of kind) t.rate t.n ≤ p.count
      there t c = subst (λ (a : ℕ). a ≤ p.count) (all_is t c) enough

      pub tell_room : p.room < p.n
          → ReadsAll kind room fed (record_of (Err (OctetRoom p.length))) (zeros room)
      tell_room h = by_told x st (λ t i c. rw c.tells.length_is
          (refuses kind room fed (OctetRoom t.length)
          (reads_room kind room fed t p hold buf i c (there t c) (omega (arith, h, room-is, c.tells.n_is)))))

      pub tell_unusable : p.n ≤ p.room → (p.bad ≡ 0 → ⊥)
          → ReadsAll kind room fed (record_of (Err (Unusable (p.bad - 1) p.length))) (zeros room)
      tell_unusable h b = by_told x st (λ t i c.
          let fits : t.n ≤ p.room = omega (arith, h, c.tells.n_is) in
          rw c.tells.length_is
          (refuses kind room fed (Unusable (p.bad - 1) t.length)
          (reads_unusable kind room fed t p hold buf i c (there t c) (p.bad - 1) (omega (arith, fits, room-is))
          (place_some _ p.bad (c.bad_is fits) b))))

      pub tell_odd : p.n ≤ p.room → p.bad ≡ 0 → (p.odd ≡ 0 → ⊥)
          → ReadsAll kind room fed (record_of (Err (OddGrowth (p.odd - 1) p.length))) (zeros room)
      tell_odd h b o = by_told x st (λ t i c.
          let fits : t.n ≤ p.room = omega (arith, h, c.tells.n_is) in
          let usable = place_none _ p.bad (c.bad_is fits) b in
          rw c.tells.length_is
          (refuses kind room fed (OddGrowth (p.odd - 1) t.length)
          (reads_odd kind room fed t p hold buf i c (there t c) (p.odd - 1) (omega (arith, fits, room-is)) usable
          (place_some _ p.odd (c.odd_is fits usable) o))))

      pub tell_good : buf ≡ buffer_yet kind (hard_recording fed) room → p.n ≤ p.room → p.bad ≡ 0
          → p.odd ≡ 0 → ReadsAll kind room fed (good_record p (all_of p)) buf
      tell_good e h b o = by_told x st (λ t i c.
          let fits : t.n ≤ p.room = omega (arith, h, c.tells.n_is) in
          let k = kind_of kind in
          let rec = hard_recording (take (frame_chips k t.rate t.n) fed) in
          let usable = place_none _ p.bad (c.bad_is fits) b in
          let even = place_none _ p.odd (c.odd_is fits usable) o in
          let enough_room : t.n ≤ room = omega (arith, fits, room-is) in
          let least = (c.goes fits usable even).least
          ∙ sym (frame_least k rec t.rate (whole_octets t.rate (front_chips k) rec)) in (
            good_record_lem t p (all_of p) (frame_chips k t.rate t.n) _ c.tells (all_is t c) least
                ∙ ap record_of (sym (reads_good kind room fed t p hold buf i c (there t c) enough_room usable even)),
            e ∙ yet_is kind room fed t p hold buf i c ∙ good_yet k t _ room enough_room usable even
                ∙ sym (octets_good kind room fed t p hold buf i c (there t c) enough_room usable even),
          ))
