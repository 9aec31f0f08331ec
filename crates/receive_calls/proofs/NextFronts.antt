-- Chips of a front, as the calls see them.
--     front_stays     the front is not whole behind them
--     front_ends      it is, and it was told
-- Assumes nothing.
use mathlib.Core.Path.{◌≡◌, refl, sym, ap, subst, ◌∙◌}
use mathlib.Core.Bool.{true}
use mathlib.Core.List.{List, ◌++◌}
use Prim.Native.Nat.{ℕ, ◌≤◌, ◌<◌}
use native.Mathlib.Omega.{arith}
use lib.ListN.{length, take}
use Rattle.rules_frame.specs.declared.Kind.{Kind}
use Rattle.rules_frame.specs.Frame.{is_kind, kind_of, front_chips}
use Rattle.rules_receiving.specs.declared.Progress.{Progress}
use Rattle.rules_receiving.specs.Yet.{zeros}
use Rattle.rules_receiving.specs.Receivers.{
  FrontTo,
  Held,
  no_kind,
  front_comes,
  refused,
  payload_comes,
  Going,
}
use Rattle.rules_receiving.specs.Calls.{takes}
use Rattle.rules_receiving.proofs.Takes.{takes_room, takes_front, front_takes}
use Rattle.rules_receiving.proofs.Buffers.{short_buffer, told_buffer}
use Rattle.receive_calls.specs.declared.Pieced.{Pieced}
use Rattle.receive_calls.specs.Steps.{FrontTakes, FrontTold, FrontSome}

module _
    (p : Progress) (k : Kind) (hold preamble header rest : List ℕ) (q : Pieced) (hold' preamble' header' : List ℕ)
    (st : p.status ≡ 1) (ki : k ≡ kind_of p.kind)
    (x : FrontTakes k p hold preamble header rest q hold' preamble' header')
  where
    abbrev piece : List ℕ
    piece = take q.taken rest

    -- the chips fed are those of a front
    fronted : (kind room : ℕ) (fed buf : List ℕ) → Going kind room fed p hold preamble header buf
        → (is_kind kind ≡ true) × (length fed < front_chips (kind_of kind))
        × FrontTo (kind_of kind) fed p hold preamble header
    fronted kind room fed buf z = by z.holds
      where
        by : Held kind fed p hold preamble header buf → (is_kind kind ≡ true) × (length fed < front_chips (kind_of kind))
            × FrontTo (kind_of kind) fed p hold preamble header
        by (no_kind i e h) = absurd (omega (arith, e, st))
        by (front_comes i e l h) = (i, l, h)
        by (refused i e r l f h) = absurd (omega (arith, e, st))
        by (payload_comes i e t h) = absurd (omega (arith, e, st))

    next : (kind room : ℕ) (fed buf : List ℕ) → Going kind room fed p hold preamble header buf
        → FrontTo k (fed ++ piece) q.progress hold' preamble' header'
    next kind room fed buf z =
        let f = fronted kind room fed buf z in
        let same : kind_of kind ≡ k = sym (ki ∙ ap kind_of z.kind_is) in
        x.front_to fed (subst (λ (c : Kind). length fed < front_chips c) same f.1)
        (subst (λ (c : Kind). FrontTo c fed p hold preamble header) same f.2)

    pub front_stays : q.progress.count < front_chips k
        → FrontSome p hold preamble header rest q hold' preamble' header'
    front_stays less buf e = record {
      some_taken = x.some_taken;
      most = x.most;
      takes_more_lem = front_takes q.progress (length buf) (x.room_is ∙ takes_room p (length buf) e) x.small
          x.last_small (x.status_is ∙ st)
          (record {
            is_kind_lem = ap is_kind x.kind_is ∙ (takes_front p (length buf) e st).is_kind_lem;
            short = subst (λ (c : Kind). q.progress.count < front_chips c) (ki ∙ ap kind_of (sym x.kind_is)) less;
          });
      hold_long = x.hold_long;
      preamble_long = x.preamble_long;
      header_long = x.header_long;
      long = refl;
      receives = λ kind fed z.
          let f = fronted kind (length buf) fed buf z in
          let n = next kind (length buf) fed buf z in
          let same : k ≡ kind_of kind = ki ∙ ap kind_of z.kind_is in
          let short : length (fed ++ piece) < front_chips (kind_of kind) =
          subst (λ (c : Kind). length (fed ++ piece) < front_chips c) same (omega (arith, less, n.count_is)) in
          record {
            kind_is = x.kind_is ∙ z.kind_is;
            room_is = x.room_is ∙ z.room_is;
            small = x.small;
            last_small = x.last_small;
            holds = front_comes f.0 (x.status_is ∙ st) short
                (subst (λ (c : Kind). FrontTo c (fed ++ piece) q.progress hold' preamble' header') same n);
            buffer = z.buffer ∙ short_buffer kind (length buf) fed f.1
                ∙ sym (short_buffer kind (length buf) (fed ++ piece) short);
          };
    }

    pub front_ends : (u : Progress) → front_chips k ≤ q.progress.count
        → FrontTold k q.progress preamble' header' u
        → FrontSome p hold preamble header rest (record { progress = u; taken = q.taken }) hold' preamble' header'
    front_ends u whole y buf e = record {
      some_taken = x.some_taken;
      most = x.most;
      takes_more_lem = ap (takes u) (sym (x.room_is ∙ takes_room p (length buf) e)) ∙ y.takes_more_lem;
      hold_long = x.hold_long;
      preamble_long = x.preamble_long;
      header_long = x.header_long;
      long = refl;
      receives = λ kind fed z.
          let f = fronted kind (length buf) fed buf z in
          let n = next kind (length buf) fed buf z in
          let same : k ≡ kind_of kind = ki ∙ ap kind_of z.kind_is in
          let ends : length (fed ++ piece) ≡ front_chips k = omega (arith, whole, n.count_is, n.within) in
          let empty : buf ≡ zeros (length buf) = z.buffer ∙ short_buffer kind (length buf) fed f.1 in
          record {
            kind_is = y.kind_is ∙ x.kind_is ∙ z.kind_is;
            room_is = y.room_is ∙ x.room_is ∙ z.room_is;
            small = y.small;
            last_small = y.last_small;
            holds = y.held kind (fed ++ piece) hold' buf f.0 (sym same) ends n
                (empty ∙ ap zeros (sym (x.room_is ∙ z.room_is)));
            buffer = empty ∙ sym (told_buffer kind (length buf) (fed ++ piece) (ends ∙ ap front_chips same));
          };
    }
