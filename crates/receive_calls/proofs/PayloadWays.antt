-- The ways out of a piece of the payload.
--     way_past        behind the frame
--     way_room, way_certain     17 is certain, or 9 or 10
--     way_part        the piece is heard
-- Assumes nothing.
use mathlib.Core.Path.{◌≡◌, refl, sym, ap, ap₂, subst, ◌∙◌}
use mathlib.Core.Bool.{Bool, true, false, cond}
use mathlib.Core.List.{List, ◌++◌}
use Rattle.std.specs.Prelude.{None}
use Prim.Native.Nat.{ℕ, ◌+◌, ◌-◌, ◌*◌, ◌/◌, ◌%◌, ◌≤◌, ◌<◌}
use native.Mathlib.Omega.{arith}
use lib.Dec.{eqb}
use lib.ListN.{length, take, length-replicate}
use lib.Seq.{length-take-le}
use Rattle.rules_rates.specs.declared.Rate.{Rate}
use Rattle.rules_rates.specs.Rates.{is_code, rate_of, octet_chips}
use Rattle.rules_chips.specs.Chips.{hard_recording}
use Rattle.rules_frame.specs.declared.Kind.{Kind}
use Rattle.rules_frame.specs.declared.Kind.TheVariants.{Long, Short}
use Rattle.rules_frame.specs.Frame.{is_kind, kind_of, front_chips, frame_chips}
use Rattle.rules_calls.specs.declared.Told.{Told}
use Rattle.rules_receiving.specs.declared.Ear.{Ear}
use Rattle.rules_receiving.specs.declared.Progress.{Progress}
use Rattle.rules_receiving.specs.Yet.{zeros, unusable_yet, odd_yet}
use Rattle.rules_receiving.specs.Sections.{payload_section, SectionIs}
use Rattle.rules_receiving.specs.Receivers.{place_number}
use Rattle.rules_receiving.specs.Calls.{takes}
use Rattle.rules_receiving.proofs.Takes.{payload_takes}
use Rattle.rules_receiving.proofs.FrontPieces.{number_none}
use Rattle.rules_receiving.proofs.Payloads.{part_odd, Went, Counts, pass_room, pass_certain, part_next}
use Rattle.rules_receiving.proofs.Cuts.{Matches, payload_past, payload_next}
use Rattle.receive_calls.specs.declared.Pieced.{Pieced}
use Rattle.receive_parts.specs.declared.Taking.{Taking}
use Rattle.receive_parts.specs.Pieces.{Takes}
use Rattle.receive_calls.specs.Steps.{advanced, Paid, Passes, Keeps, settled, PayloadSome}

-- ---- numbers of a frame

first_even : (k : Kind) → front_chips k / 11 % 2 ≡ 0
first_even Long = omega arith
first_even Short = omega arith

-- ---- chips counted

counts_of : (p u : Progress) (n bad odd : ℕ) (ear : Ear) → u ≡ advanced p (p.count + n) bad odd ear → Counts p u n
counts_of p u n bad odd ear e = record {
  status_is = ap (λ (x : Progress). x.status) e;
  kind_is = ap (λ (x : Progress). x.kind) e;
  room_is = ap (λ (x : Progress). x.room) e;
  rate_is = ap (λ (x : Progress). x.rate) e;
  length_is = ap (λ (x : Progress). x.length) e;
  n_is = ap (λ (x : Progress). x.n) e;
  clock_is = ap (λ (x : Progress). x.clock) e;
  count_is = ap (λ (x : Progress). x.count) e;
}

settled_long : (p : Progress) (buf : List ℕ) → length (settled p buf) ≡ length buf
settled_long p buf = by (eqb p.bad 0) (eqb p.odd 0)
  where
    by : (a b : Bool) → length (cond a (cond b buf (zeros (length buf))) (zeros (length buf))) ≡ length buf
    by true true = refl
    by true false = length-replicate (length buf) 0
    by false b = length-replicate (length buf) 0

module _
    (p : Progress) (k : Kind) (r : Rate) (hold buf rest : List ℕ) (a : Paid p k r) (room : p.room ≡ length buf) where
  -- what was counted takes more
  grown : (u : Progress) (n : ℕ) → Counts p u n → p.count + n ≤ frame_chips k r p.n → u.ear.phase < 4
      → u.ear.last < 4 → takes u (length buf) ≡ true
  grown u n x to small last-small =
      payload_takes u (length buf) (x.room_is ∙ room) small last-small (x.status_is ∙ a.status_is)
      (record {
        is_kind_lem = ap is_kind x.kind_is ∙ a.is_kind_lem;
        is_code_lem = ap is_code x.rate_is ∙ a.is_code_lem;
        few = omega (arith, x.n_is, a.few);
        from = subst (λ (c : Kind). front_chips c ≤ u.count) (sym kinds) (omega (arith, a.from, x.count_is));
        to = subst (λ (i : ℕ). u.count ≤ i) (sym all)
            (subst (λ (i : ℕ). i ≤ frame_chips k r p.n) (sym x.count_is) to);
      })
    where
      kinds : kind_of u.kind ≡ k
      kinds = ap kind_of x.kind_is ∙ a.kind_is

      all : frame_chips (kind_of u.kind) (rate_of u.rate) u.n ≡ frame_chips k r p.n
      all =
          ap₂ {C = ℕ} (λ c s. frame_chips c s u.n) kinds (ap rate_of x.rate_is ∙ a.rate_is)
          ∙ ap (frame_chips k r) x.n_is

  none_counted : Counts p p 0
  none_counted = record {
    status_is = refl;
    kind_is = refl;
    room_is = refl;
    rate_is = refl;
    length_is = refl;
    n_is = refl;
    clock_is = refl;
    count_is = omega arith;
  }

  pub way_past : p.count ≡ frame_chips k r p.n
      → PayloadSome p hold buf rest (record { progress = p; taken = length rest }) hold buf
  way_past e preamble header = record {
    some_taken = λ h. h;
    most = omega arith;
    takes_more_lem = grown p 0 none_counted (omega (arith, a.to)) a.small a.last_small;
    hold_long = refl;
    preamble_long = refl;
    header_long = refl;
    long = refl;
    receives = λ kind fed z.
        payload_past k r p p hold hold preamble header buf buf (take (length rest) rest) a.status_is a.kind_is
        a.rate_is 0 none_counted a.small a.last_small kind (length buf) fed (omega (arith, e)) (λ t l w. w) z;
  }

  -- a piece in the frame
  some_of : (q : Pieced) (hold' out : List ℕ) → (0 < length rest → 0 < q.taken) → q.taken ≤ length rest
      → p.count + q.taken ≤ frame_chips k r p.n → Counts p q.progress q.taken
      → q.progress.ear.phase < 4 → q.progress.ear.last < 4 → length hold' ≡ length hold → length out ≡ length buf
      → ((kind : ℕ) (t : Told) (fed : List ℕ) → Matches k r kind t p → Went (kind_of kind) t fed p hold buf
      → length fed + length (take q.taken rest) ≤ frame_chips (kind_of kind) t.rate t.n
      → Counts p q.progress (length (take q.taken rest))
      → Went (kind_of kind) t (fed ++ take q.taken rest) q.progress hold' out)
      → PayloadSome p hold buf rest q hold' out
  some_of q hold' out some most to x small last-small hold-long long f preamble header = record {
    some_taken = some;
    most = most;
    takes_more_lem = grown q.progress q.taken x to small last-small;
    hold_long = hold-long;
    preamble_long = refl;
    header_long = refl;
    long = long;
    receives = λ kind fed z.
        payload_next k r p q.progress hold hold' preamble header buf out (take q.taken rest) a.status_is
        a.kind_is a.rate_is q.taken x small last-small kind (length buf) fed
        (subst (λ (i : ℕ). p.count + i ≤ frame_chips k r p.n) (sym size) to)
        (λ t l m w b. f kind t l m w b (subst (λ (i : ℕ). Counts p q.progress i) (sym size) x)) z;
  }
    where
      size : length (take q.taken rest) ≡ q.taken
      size = length-take-le q.taken rest most

  -- a refusal is certain
  module _
      (q : Pieced) (all : ℕ) (ai : all ≡ frame_chips k r p.n) (less : p.count ≡ all → ⊥)
      (x : Passes p rest (all - p.count) q) where
    fits : p.count < all
    fits = by (subst (λ (i : ℕ). p.count ≤ i) (sym ai) a.to)
      where
        by : p.count ≤ all → p.count < all
        by h = omega (arith, h, less)

    passed : Counts p q.progress q.taken
    passed = counts_of p q.progress q.taken _ _ _ x.progress_is

    some_passed : ((kind : ℕ) (t : Told) (fed : List ℕ) → Matches k r kind t p → Went (kind_of kind) t fed p hold buf
        → length fed + length (take q.taken rest) ≤ frame_chips (kind_of kind) t.rate t.n
        → Counts p q.progress (length (take q.taken rest))
        → Went (kind_of kind) t (fed ++ take q.taken rest) q.progress hold buf)
        → PayloadSome p hold buf rest q hold buf
    some_passed f =
        some_of q hold buf (λ h. x.some_taken h (omega (arith, fits))) x.most
        (subst (λ (i : ℕ). p.count + q.taken ≤ i) ai (omega (arith, x.within, fits))) passed
        (subst (λ (i : ℕ). i < 4) (sym (ap (λ (y : Progress). y.ear.phase) x.progress_is)) a.small)
        (subst (λ (i : ℕ). i < 4) (sym (ap (λ (y : Progress). y.ear.last) x.progress_is)) a.last_small)
        refl refl f

    pub way_room : length buf < p.n → PayloadSome p hold buf rest q hold buf
    way_room h = some_passed (λ kind t fed m w to y.
        pass_room (kind_of kind) t fed (take q.taken rest) p q.progress hold buf w y to
        (omega (arith, h, room, m.n_of)))

    pub way_certain : p.n ≤ length buf → (p.bad ≡ 0 → p.odd ≡ 0 → ⊥) → PayloadSome p hold buf rest q hold buf
    way_certain h certain = some_passed (λ kind t fed m w to y.
        let enough : t.n ≤ p.room = omega (arith, h, room, m.n_of) in
        pass_certain (kind_of kind) t fed (take q.taken rest) p q.progress hold buf w y to enough
        (λ g e. certain (w.comes.bad_is enough ∙ ap place_number g) (w.comes.odd_is enough g ∙ ap place_number e))
        (ap (λ (z : Progress). z.bad) x.progress_is) (ap (λ (z : Progress). z.odd) x.progress_is))

  -- none is: the piece is heard
  pub way_part : (front : ℕ) (t : Taking) (q q' : Pieced) (hold' out' out : List ℕ) → front ≡ front_chips k
      → p.n ≤ length buf → p.bad ≡ 0 → p.odd ≡ 0
      → Takes r front (front / 11) p.n p.count p.ear hold rest buf t hold' out' → Keeps p t q → q' ≡ q
      → out ≡ settled q.progress out' → PayloadSome p hold buf rest q' hold' out
  way_part front t q q' hold' out' out fi enough bad odd x y same o =
      subst (λ (z : Pieced). PayloadSome p hold buf rest z hold' out) (sym same)
      (some_of q hold' out
      (λ h. subst (λ (i : ℕ). 0 < i) (sym y.taken_is) (x.some_taken h))
      (subst (λ (i : ℕ). i ≤ length rest) (sym y.taken_is) x.most)
      (subst (λ (i : ℕ). p.count + q.taken ≤ i + octet_chips r * p.n) fi
      (subst (λ (i : ℕ). p.count + i ≤ front + octet_chips r * p.n) (sym y.taken_is) x.within))
      kept
      (subst (λ (i : ℕ). i < 4) (sym (ap (λ (z : Progress). z.ear.phase) y.progress_is)) x.small)
      (subst (λ (i : ℕ). i < 4) (sym (ap (λ (z : Progress). z.ear.last) y.progress_is)) x.last_small)
      x.hold_long (ap length o ∙ settled_long q.progress out' ∙ x.out_long) heard)
    where
      kept : Counts p q.progress q.taken
      kept =
          subst (λ (i : ℕ). Counts p q.progress i) (sym y.taken_is)
          (counts_of p q.progress t.taken _ _ _ y.progress_is)

      heard : (kind : ℕ) (told : Told) (fed : List ℕ) → Matches k r kind told p → Went (kind_of kind) told fed p hold buf
          → length fed + length (take q.taken rest) ≤ frame_chips (kind_of kind) told.rate told.n
          → Counts p q.progress (length (take q.taken rest))
          → Went (kind_of kind) told (fed ++ take q.taken rest) q.progress hold' out
      heard kind told fed m w to z =
          let fits : told.n ≤ p.room = omega (arith, enough, room, m.n_of) in
          let usable : unusable_yet (kind_of kind) (hard_recording fed) ≡ None =
          number_none (unusable_yet (kind_of kind) (hard_recording fed)) (sym (w.comes.bad_is fits) ∙ bad) in
          let even : odd_yet (kind_of kind) told.rate (hard_recording fed) ≡ None =
          number_none (odd_yet (kind_of kind) told.rate (hard_recording fed))
          (sym (w.comes.odd_is fits usable) ∙ odd) in
          let from : front_chips (kind_of kind) ≡ front = ap front_chips (sym m.kind_of_lem) ∙ sym fi in
          part_next (kind_of kind) told fed (take q.taken rest) p q.progress hold buf w z to fits
          t.piece.bad t.piece.odd hold' out' out
          (subst (λ (n : ℕ). PartIs' kind told fed (take n rest) q.progress.ear) (sym y.taken_is)
          (subst (PartIs' kind told fed (take t.taken rest))
          (sym (ap (λ (v : Progress). v.ear) y.progress_is))
          (x.becomes (kind_of kind) (payload_section (kind_of kind) told.rate (hard_recording fed)) fed (sym m.rate_of_lem)
          from (ap (λ (i : ℕ). i / 11) from)
          (subst (λ (i : ℕ). i / 11 % 2 ≡ 0) (sym fi) (first_even k))
          (sym w.comes.count_is) usable
          (sym (part_odd (kind_of kind) told.rate (hard_recording fed)) ∙ even) (w.comes.goes fits usable even))))
          (ap (λ (v : Progress). v.bad) y.progress_is) (ap (λ (v : Progress). v.odd) y.progress_is)
          (x.out_long ∙ sym room) o
        where
          PartIs' : ℕ → Told → List ℕ → List ℕ → Ear → Type 0
          PartIs' kind told fed piece e =
              SectionIs (kind_of kind) (payload_section (kind_of kind) told.rate (hard_recording fed)) (fed ++ piece)
              t.piece.bad t.piece.odd e hold' out'
