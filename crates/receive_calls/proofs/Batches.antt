-- Pieces of a batch, one after the other.
--     Gone          the first chips of a batch are taken
--     gone_none, gone_more, gone_all     no chip yet, a piece more, all of them
--     rest_long     what is left of a batch
-- Assumes nothing.
use mathlib.Core.Path.{◌≡◌, refl, sym, ap, subst, ◌∙◌}
use mathlib.Core.Bool.{true}
use mathlib.Core.List.{List, ◌++◌, append-nil, append_assoc}
use Prim.Native.Nat.{ℕ, ◌+◌, ◌-◌, ◌≤◌}
use native.Mathlib.Omega.{arith}
use lib.ListN.{length, take, drop, length-drop}
use lib.Seq.{take_all, take-add, length-take-le}
use Rattle.rules_receiving.specs.declared.Progress.{Progress}
use Rattle.rules_receiving.specs.declared.Receiver.{Receiver}
use Rattle.rules_receiving.specs.Receivers.{Going}
use Rattle.rules_receiving.specs.Calls.{takes}
use Rattle.receive_calls.specs.declared.Pieced.{Pieced}
use Rattle.receive_calls.specs.Steps.{TakesSome, BatchIs}

-- from a receiver's progress and rows and the buffer, to those behind `at` chips of a batch
pub record Gone (p₀ : Progress) (hold₀ preamble₀ header₀ buf₀ batch : List ℕ) (at : ℕ) (p : Progress)
    (hold preamble header buf : List ℕ) : Type 0 where
  pub within : at ≤ length batch
  pub takes_more_lem : takes p (length buf) ≡ true
  pub hold_long : length hold ≡ 88
  pub preamble_long : length preamble ≡ 18
  pub header_long : length header ≡ 6
  pub long : length buf ≡ length buf₀
  pub receives : (kind : ℕ) (fed : List ℕ) → Going kind (length buf₀) fed p₀ hold₀ preamble₀ header₀ buf₀
      → Going kind (length buf₀) (fed ++ take at batch) p hold preamble header buf

pub gone_none : (p : Progress) (hold preamble header buf batch : List ℕ) → takes p (length buf) ≡ true
    → length hold ≡ 88 → length preamble ≡ 18 → length header ≡ 6
    → Gone p hold preamble header buf batch 0 p hold preamble header buf
gone_none p hold preamble header buf batch e a b c = record {
  within = omega arith;
  takes_more_lem = e;
  hold_long = a;
  preamble_long = b;
  header_long = c;
  long = refl;
  receives = λ kind fed x.
      subst (λ (l : List ℕ). Going kind (length buf) l p hold preamble header buf) (sym (append-nil fed)) x;
}

pub rest_long : (batch : List ℕ) (at : ℕ) → at ≤ length batch
    → length (take (length batch - at) (drop at batch)) ≡ length batch - at
rest_long batch at h = length-take-le (length batch - at) (drop at batch) (omega (arith, length-drop at batch))

module _
    (p₀ : Progress) (hold₀ preamble₀ header₀ buf₀ batch : List ℕ) (at : ℕ) (p : Progress)
    (hold preamble header buf : List ℕ) (x : Gone p₀ hold₀ preamble₀ header₀ buf₀ batch at p hold preamble header buf)
  where
    pub gone_more : (q : Pieced) (hold' preamble' header' out : List ℕ)
        → TakesSome p hold preamble header buf (take (length batch - at) (drop at batch)) q hold' preamble' header' out
        → Gone p₀ hold₀ preamble₀ header₀ buf₀ batch (at + q.taken) q.progress hold' preamble' header' out
    gone_more q hold' preamble' header' out y = record {
      within = omega (arith, y.most, rest_long batch at x.within, x.within);
      takes_more_lem = ap (takes q.progress) y.long ∙ y.takes_more_lem;
      hold_long = y.hold_long ∙ x.hold_long;
      preamble_long = y.preamble_long ∙ x.preamble_long;
      header_long = y.header_long ∙ x.header_long;
      long = y.long ∙ x.long;
      receives = λ kind fed z.
          subst (λ (l : List ℕ). Going kind (length buf₀) l q.progress hold' preamble' header' out)
          (append_assoc fed (take at batch) (take q.taken (take (length batch - at) (drop at batch)))
          ∙ ap (λ (l : List ℕ). fed ++ l) joined)
          (subst (λ (n : ℕ).
          Going kind n ((fed ++ take at batch) ++ take q.taken (take (length batch - at) (drop at batch)))
          q.progress hold' preamble' header' out) x.long
          (y.receives kind (fed ++ take at batch)
          (subst (λ (n : ℕ). Going kind n (fed ++ take at batch) p hold preamble header buf) (sym x.long)
          (x.receives kind fed z))));
    }
      where
        joined : take at batch ++ take q.taken (take (length batch - at) (drop at batch))
            ≡ take (at + q.taken) batch
        joined =
            ap (λ (l : List ℕ). take at batch ++ take q.taken l)
            (take_all (length batch - at) (drop at batch) (omega (arith, length-drop at batch)))
            ∙ sym (take-add at q.taken batch)

pub gone_all : (s : Receiver) (buf batch : List ℕ) (at : ℕ) (p : Progress) (hold preamble header out : List ℕ)
    → length batch ≤ at
    → Gone s.progress s.hold s.preamble s.header buf batch at p hold preamble header out
    → BatchIs s buf batch (record { progress = p; hold = hold; preamble = preamble; header = header }) out
gone_all s buf batch at p hold preamble header out h x = record {
  long = x.long;
  receives = λ kind fed y.
      subst (λ (l : List ℕ). Going kind (length buf) (fed ++ l) p hold preamble header out)
      (take_all at batch h) (x.receives kind fed y);
}
