-- The order of refusals: for each way out of reading a payload and a whole recording, what the definition says there.
-- Each follows by the tests that led there. Assumes nothing.
use mathlib.Core.Path.{◌≡◌, refl, sym, ap, ◌∙◌, subst}
use mathlib.Core.Bool.{Bool, true, false}
use mathlib.Core.List.{List}
use Rattle.std.specs.Prelude.{Option, None, Some, Result, Err}
use Prim.Native.Nat.{ℕ, ◌-◌, ◌*◌, ◌≤◌, ◌<◌}
use native.Mathlib.Omega.{arith}
use lib.ListN.{length, take, drop, replicate}
use borrow.Author.Tests.{lt-ltb, le-ltb}
use Rattle.rules_rates.specs.Rates.{octet_chips}
use Rattle.rules_chips.specs.Chips.{Taken}
use Rattle.rules_frame.specs.declared.Kind.{Kind}
use Rattle.rules_frame.specs.declared.Kind.TheVariants.{Long}
use Rattle.rules_frame.specs.Frame.{is_kind, kind_of, front_chips, frame_chips}
use Rattle.rules_calls.specs.declared.Refusal.{Refusal}
use Rattle.rules_calls.specs.declared.Refusal.TheVariants.{NoKind, RowsDiffer, Unusable, OctetRoom}
use Rattle.rules_calls.specs.declared.Told.{Told}
use Rattle.rules_calls.specs.declared.Least.{Least}
use Rattle.rules_calls.specs.declared.Reading.{Reading}
use Rattle.rules_calls.specs.declared.Record.{Record}
use Rattle.rules_calls.specs.Answers.{record_of}
use Rattle.rules_calls.specs.Headers.{Accepted, ours, of1997}
use Rattle.rules_reading.specs.Reading.{
  first_unusable,
  payload_odd,
  payload_reading,
  reading_by,
  reading_of,
  octets_after,
  octets_found,
}
use Rattle.rules_reading.specs.Guides.{reading1997, octets1997}
use Rattle.rules_reading.specs.Leads.{frame_leads, least_of}
use Rattle.choose_recorded.specs.Recorded.{AllUsable}
use Rattle.choose_recorded.proofs.Search.{none_usable}
use Rattle.read_frames.specs.Payloads.{octets_heard, after_heard}

-- ---- the payload

module _ (k : Kind) (t : Told) (rec : List Taken) (room : ℕ) where
  pub payload_room : room < t.n → Err (OctetRoom t.length) ≡ payload_reading k t rec room
  unfolding payload_reading
  payload_room h = rw (lt-ltb room t.n h)

  -- 17 is through, and the payload's chips are searched
  pub record Searched (all : ℕ) (f : Option ℕ) : Type 0 where
    pub whole : all ≡ frame_chips k t.rate t.n
    pub fits : t.n ≤ room
    pub from : ℕ
    pub at_front : from ≡ front_chips k
    pub is : f ≡ first_unusable from (take (all - from) (drop from rec))

  pub searched : {all : ℕ} {f : Option ℕ} → all ≡ frame_chips k t.rate t.n → t.n ≤ room → (from : ℕ)
      → from ≡ front_chips k → f ≡ first_unusable from (take (all - from) (drop from rec)) → Searched all f
  searched w h from e i = record { whole = w; fits = h; from = from; at_front = e; is = i }

  pub payload_unusable : {all : ℕ} {f : Option ℕ} (place : ℕ) → Searched all f → f ≡ Some place
      → Err (Unusable place t.length) ≡ payload_reading k t rec room
  unfolding payload_reading
  payload_unusable {all} place s e = rw (← s.whole, ← s.at_front, le-ltb room t.n s.fits, ← s.is, e)

  pub payload_usable : {all : ℕ} {f : Option ℕ} → Searched all f → f ≡ None
      → frame_chips k t.rate t.n ≤ length rec → AllUsable rec (front_chips k) (octet_chips t.rate * t.n)
  payload_usable {all} s e h =
      let part : all - s.from ≡ octet_chips t.rate * t.n = omega (arith, s.whole, s.at_front) in
      none_usable rec (front_chips k) (octet_chips t.rate * t.n) h
      (rw (← part, ← s.at_front) (sym s.is ∙ e))

  -- what hearing left is what reading leaves
  left : (all : ℕ) (b : Least) (o : Option ℕ)
      → octets_heard k t.rate t.n rec room o
      ≡ octets_after k rec room (after_heard t all b o)
  left all b None = refl
  left all b (Some place) = refl

  pub payload_heard : {all : ℕ} {f : Option ℕ} (o : Option ℕ) (b : Least) (g : Result Reading Refusal) (out : List ℕ) → Searched all f
      → f ≡ None → o ≡ payload_odd k t.rate t.n rec
      → b ≡ least_of (frame_leads k t.rate t.n rec)
      → out ≡ octets_heard k t.rate t.n rec room o
      → g ≡ after_heard t all b o → (g ≡ payload_reading k t rec room) × (out ≡ octets_after k rec room g)
  unfolding payload_reading
  payload_heard {all} o b g out s e p l q w =
      let tests : after_heard t all b o ≡ payload_reading k t rec room =
      rw (← s.whole, ← s.at_front, le-ltb room t.n s.fits, ← s.is, e, ← p, ← l) in
      (w ∙ tests, rw w (q ∙ left all b o))

-- ---- the whole

module _ (kind : ℕ) (agree : Bool) (rec : List Taken) (room : ℕ) where
  both : (g : Result Reading Refusal) (out : List ℕ) → g ≡ reading_of kind agree rec room → out ≡ octets_after (kind_of kind) rec room g
      → (g ≡ reading_of kind agree rec room) × (out ≡ octets_found kind agree rec room)
  unfolding octets_found
  both g out e f = (e, f ∙ ap (octets_after (kind_of kind) rec room) e)

  pub read_no_kind : (out : List ℕ) → is_kind kind ≡ false → out ≡ replicate room 0
      → (Err NoKind ≡ reading_of kind agree rec room) × (out ≡ octets_found kind agree rec room)
  read_no_kind out e z = both (Err NoKind) out (unfold reading_of in rw e) z

  pub read_rows : (out : List ℕ) → is_kind kind ≡ true → agree ≡ false → out ≡ replicate room 0
      → (Err RowsDiffer ≡ reading_of kind agree rec room) × (out ≡ octets_found kind agree rec room)
  read_rows out e a z = both (Err RowsDiffer) out (unfold reading_of in rw (e, a)) z

  pub read_ours : is_kind kind ≡ true → agree ≡ true → (k : Kind) → k ≡ kind_of kind → (g : Result Reading Refusal) (out : List ℕ)
      → (g ≡ reading_by ours k rec room) × (out ≡ octets_after k rec room g)
      → (g ≡ reading_of kind agree rec room) × (out ≡ octets_found kind agree rec room)
  read_ours e a k c g out p =
      both g out (p.0 ∙ (unfold reading_of in rw (e, a, ← c)))
      (p.1 ∙ ap (λ (i : Kind). octets_after i rec room g) c)

pub read_of_1997 : (k : Kind) → k ≡ Long → (rec : List Taken) (room : ℕ) (g : Result Reading Refusal) (out : List ℕ)
    → (g ≡ reading_by of1997 k rec room) × (out ≡ octets_after k rec room g)
    → (g ≡ reading1997 rec room) × (out ≡ octets1997 rec room)
unfolding reading1997 octets1997
read_of_1997 k e rec room g out p =
    let q = subst (λ (i : Kind). (g ≡ reading_by of1997 i rec room) × (out ≡ octets_after i rec room g)) e p in
    (q.0, q.1 ∙ ap (octets_after Long rec room) q.0)

-- a buffer that was filled is zeros, and as long as it was
pub cleared : (d z : List ℕ) → z ≡ replicate (length d) 0 → length z ≡ length d → z ≡ replicate (length z) 0
cleared d z e f = e ∙ ap (λ (m : ℕ). replicate m 0) (sym f)

pub as_long : (accepted : Accepted) (k : Kind) (rec : List Taken) (g : Result Reading Refusal) (out : List ℕ) (m room : ℕ) → m ≡ room
    → (g ≡ reading_by accepted k rec m) × (out ≡ octets_after k rec m g)
    → (g ≡ reading_by accepted k rec room) × (out ≡ octets_after k rec room g)
as_long accepted k rec g out m room e h =
    subst (λ (i : ℕ). (g ≡ reading_by accepted k rec i) × (out ≡ octets_after k rec i g)) e h

-- a call answers the numbers of what reading comes to, and leaves what it leaves
pub in_numbers : {g h : Result Reading Refusal} {r : Record} {out w : List ℕ} → r ≡ record_of g → (g ≡ h) × (out ≡ w)
    → (r ≡ record_of h) × (out ≡ w)
in_numbers e p = (e ∙ ap record_of p.0, p.1)
