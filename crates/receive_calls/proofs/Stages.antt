-- A call of feed by the receiver's status, and its answer.
--     takes_own, paid_of     what it says that a receiver takes a batch
--     stays_some             a refusal that stays takes every chip and changes nothing
--     feed_refused           what feed answers to a receiver that does not
-- Assumes nothing.
use mathlib.Core.Path.{◌≡◌, refl, sym, ap, subst, ◌∙◌}
use mathlib.Core.Bool.{Bool, true, false}
use mathlib.Core.List.{List}
use Prim.Native.Nat.{ℕ, ◌≤◌}
use native.Mathlib.Omega.{arith}
use lib.ListN.{length, take}
use Rattle.rules_rates.specs.declared.Rate.{Rate}
use Rattle.rules_rates.specs.Rates.{rate_of}
use Rattle.rules_frame.specs.declared.Kind.{Kind}
use Rattle.rules_frame.specs.Frame.{kind_of, front_chips, frame_chips}
use Rattle.rules_receiving.specs.declared.Progress.{Progress}
use Rattle.rules_receiving.specs.declared.Receiver.{Receiver}
use Rattle.rules_receiving.specs.Calls.{takes, ReceiverFeeds}
use Rattle.rules_receiving.proofs.Takes.{takes_room, takes_phase, takes_last, takes_payload}
use Rattle.rules_receiving.proofs.Calls.{receives_takes}
use Rattle.rules_receiving.proofs.Buffers.{stays_more}
use Rattle.receive_calls.specs.Steps.{Paid, TakesSome}
use Rattle.receive_calls.proofs.Closes.{never}

pub takes_own : (p : Progress) (room : ℕ) → takes p room ≡ true → takes p p.room ≡ true
takes_own p room e = ap (takes p) (takes_room p room e) ∙ e

pub paid_of : (p : Progress) (room : ℕ) (k : Kind) (r : Rate) → takes p room ≡ true → p.status ≡ 2
    → k ≡ kind_of p.kind → r ≡ rate_of p.rate → Paid p k r
paid_of p room k r e st ki ri =
    let x = takes_payload p room e st in
    record {
      kind_is = sym ki;
      is_kind_lem = x.is_kind_lem;
      rate_is = sym ri;
      is_code_lem = x.is_code_lem;
      status_is = st;
      few = x.few;
      from = subst (λ (c : Kind). front_chips c ≤ p.count) (sym ki) x.from;
      to = subst (λ (c : Kind). p.count ≤ frame_chips c r p.n) (sym ki)
          (subst (λ (s : Rate). p.count ≤ frame_chips (kind_of p.kind) s p.n) (sym ri) x.to);
      small = takes_phase p room e;
      last_small = takes_last p room e;
    }

pub stays_some : (p : Progress) (hold preamble header buf rest : List ℕ) → takes p (length buf) ≡ true → p.status ≡ 3
    → TakesSome p hold preamble header buf rest (record { progress = p; taken = length rest }) hold preamble header buf
stays_some p hold preamble header buf rest e st = record {
  some_taken = λ h. h;
  most = omega arith;
  takes_more_lem = e;
  hold_long = refl;
  preamble_long = refl;
  header_long = refl;
  long = refl;
  receives = λ kind fed x.
      stays_more kind (length buf) fed (take (length rest) rest) p hold preamble header buf st x;
}

-- ---- the call

module _ (s : Receiver) (buf batch : List ℕ) (b : Bool) (t : b ≡ takes s.progress (length buf)) where
  pub feed_refused : b ≡ false → ReceiverFeeds s buf batch s 20 buf
  feed_refused e = record {
    refused = λ g. (refl, refl, refl);
    taken = λ g. never (sym g ∙ sym t ∙ e);
    long = refl;
    receives = λ kind fed y. never (sym (receives_takes kind (length buf) fed s buf y) ∙ sym t ∙ e);
  }
