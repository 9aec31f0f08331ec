-- The ways out of a close.
--     way_ends, way_room, way_unusable, way_odd, way_good    those of `tell_payload`: the frame's chips are the code's
--     refused_other, kept_other     another number than 20
--     way_short, way_stays          the front is not whole, and a refusal that stays
--     close_taken, close_refused    the call
-- Assumes nothing.
use Rattle.std.specs.Prelude.{Err}
use mathlib.Core.Path.{◌≡◌, refl, sym, ap, ap₂, subst, ◌∙◌}
use mathlib.Core.Bool.{Bool, true, false, cond}
use mathlib.Core.List.{List}
use Prim.Native.Nat.{ℕ, ◌-◌, ◌≤◌, ◌<◌}
use native.Mathlib.Omega.{arith}
use lib.ListN.{length, replicate}
use Rattle.rules_rates.specs.declared.Rate.{Rate}
use Rattle.rules_rates.specs.Rates.{rate_of}
use Rattle.rules_frame.specs.declared.Kind.{Kind}
use Rattle.rules_frame.specs.Frame.{kind_of, frame_chips}
use Rattle.rules_calls.specs.declared.Record.{Record}
use Rattle.rules_calls.specs.declared.Refusal.{Refusal}
use Rattle.rules_calls.specs.declared.Refusal.TheVariants.{ShorterThanFront, Unusable, OddGrowth, Ends, OctetRoom}
use Rattle.rules_calls.specs.Answers.{refusal_number, record_of}
use Rattle.rules_receiving.specs.declared.Progress.{Progress}
use Rattle.rules_receiving.specs.declared.Receiver.{Receiver}
use Rattle.rules_receiving.specs.Receivers.{Going, Receives}
use Rattle.rules_receiving.specs.Calls.{takes, not_open, shut, ReadsAll, ReceiverCloses, kept_record}
use Rattle.rules_receiving.proofs.Takes.{RefusedSound, all_of, refused_most}
use Rattle.rules_receiving.proofs.Calls.{receives_takes}
use Rattle.rules_receiving.proofs.Telling.{
  good_record,
  tell_short,
  tell_stays,
  tell_ends,
  tell_room,
  tell_unusable,
  tell_odd,
  tell_good,
}

module _
    (p : Progress) (buf : List ℕ) (all : ℕ) (k : Kind) (r : Rate) (ki : k ≡ kind_of p.kind)
    (ri : r ≡ rate_of p.rate) (ai : all ≡ frame_chips k r p.n) where
  abbrev pub Answers : Record → List ℕ → Type 0
  Answers a out = (kind : ℕ) (fed hold preamble header : List ℕ) → p.status ≡ 2
      → Going kind (length buf) fed p hold preamble header buf → ReadsAll kind (length buf) fed a out

  all_is : all ≡ all_of p
  all_is = ai ∙ ap₂ {C = ℕ} (λ x y. frame_chips x y p.n) ki ri

  pub way_ends : (a : Record) (out : List ℕ) → p.count < all → a ≡ record_of (Err (Ends p.length))
      → out ≡ replicate (length buf) 0 → Answers a out
  way_ends a out h e f kind fed hold preamble header st y =
      let z = tell_ends kind (length buf) fed p hold preamble header buf y.holds st y.kind_is y.room_is
      (subst (λ (i : ℕ). p.count < i) all_is h) in
      (e ∙ z.0, f ∙ z.1)

  module _ (enough : all ≤ p.count) where
    there : all_of p ≤ p.count
    there = subst (λ (i : ℕ). i ≤ p.count) all_is enough

    pub way_room : (a : Record) (out : List ℕ) → p.room < p.n → a ≡ record_of (Err (OctetRoom p.length))
        → out ≡ replicate (length buf) 0 → Answers a out
    way_room a out h e f kind fed hold preamble header st y =
        let z = tell_room kind (length buf) fed p hold preamble header buf y.holds st y.kind_is y.room_is there
        h in
        (e ∙ z.0, f ∙ z.1)

    pub way_unusable : (a : Record) (out : List ℕ) → p.n ≤ p.room → (p.bad ≡ 0 → ⊥)
        → a ≡ record_of (Err (Unusable (p.bad - 1) p.length)) → out ≡ replicate (length buf) 0
        → Answers a out
    way_unusable a out h b e f kind fed hold preamble header st y =
        let z = tell_unusable kind (length buf) fed p hold preamble header buf y.holds st y.kind_is y.room_is
        there h b in
        (e ∙ z.0, f ∙ z.1)

    pub way_odd : (a : Record) (out : List ℕ) → p.n ≤ p.room → p.bad ≡ 0 → (p.odd ≡ 0 → ⊥)
        → a ≡ record_of (Err (OddGrowth (p.odd - 1) p.length)) → out ≡ replicate (length buf) 0
        → Answers a out
    way_odd a out h b o e f kind fed hold preamble header st y =
        let z = tell_odd kind (length buf) fed p hold preamble header buf y.holds st y.kind_is y.room_is there
        h b o in
        (e ∙ z.0, f ∙ z.1)

    pub way_good : p.n ≤ p.room → p.bad ≡ 0 → p.odd ≡ 0 → Answers (good_record p all) buf
    way_good h b o kind fed hold preamble header st y =
        let z = tell_good kind (length buf) fed p hold preamble header buf y.holds st y.kind_is y.room_is there
        y.buffer h b o in
        (ap (good_record p) all_is ∙ z.0, z.1)

-- ---- the call

-- no number of these is 20
pub refused_other : (a : Record) (e : Refusal) → a ≡ record_of (Err e) → refusal_number e ≤ 17
    → a.number ≡ 20 → ⊥
refused_other a e f h g = omega (arith, ap (λ (x : Record). x.number) f, h, g)

pub kept_other : (p : Progress) (a : Record) → a ≡ kept_record p → RefusedSound p → a.number ≡ 20 → ⊥
kept_other p a f h g = omega (arith, ap (λ (x : Record). x.number) f, refused_most h, g)

pub never : {A : Type 0} → true ≡ false → A
never e = absurd (by (ap (λ (x : Bool). cond x 1 0) e))
  where
    by : ◌≡◌ {A = ℕ} 1 0 → ⊥
    by e = omega arith

module _ (s : Receiver) (buf : List ℕ) where
  abbrev pub Reads : Record → List ℕ → Type 0
  Reads a out = (kind : ℕ) (fed : List ℕ) → Receives kind (length buf) fed s buf → ReadsAll kind (length buf) fed a out

  module _ (b : Bool) (t : b ≡ takes s.progress (length buf)) where
    pub close_taken : (u : Receiver) (a : Record) (out : List ℕ) → b ≡ true → u ≡ shut s → (a.number ≡ 20 → ⊥)
        → length out ≡ length buf → Reads a out → ReceiverCloses s buf u a out
    close_taken u a out e st o l f = record {
      refused = λ g. never (sym e ∙ t ∙ g);
      taken = λ g. st;
      other = λ g. o;
      long = l;
      reads = f;
    }

    pub close_refused : (a : Record) → b ≡ false → a ≡ not_open → ReceiverCloses s buf s a buf
    close_refused a e n = record {
      refused = λ g. (n, refl, refl);
      taken = λ g. never (sym g ∙ sym t ∙ e);
      other = λ g. never (sym g ∙ sym t ∙ e);
      long = refl;
      reads = λ kind fed y. never (sym (receives_takes kind (length buf) fed s buf y) ∙ sym t ∙ e);
    }

  module _ (a : Record) (out : List ℕ) (f : out ≡ replicate (length buf) 0) where
    pub way_short : s.progress.status ≡ 1 → a ≡ record_of (Err ShorterThanFront) → Reads a out
    way_short st e kind fed y =
        let z = tell_short kind (length buf) fed s.progress s.hold s.preamble s.header buf y.holds st in
        (e ∙ z.0, f ∙ z.1)

    pub way_stays : s.progress.status ≡ 3 → a ≡ kept_record s.progress → Reads a out
    way_stays st e kind fed y =
        let z = tell_stays kind (length buf) fed s.progress s.hold s.preamble s.header buf y.holds st in
        (e ∙ z.0, f ∙ z.1)
