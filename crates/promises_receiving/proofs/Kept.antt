-- What is promised of a receiver's calls is kept, by every program that meets their contracts.
-- Assumes nothing.
use mathlib.Core.Path.{◌≡◌, refl, sym, ap, ◌∙◌}
use mathlib.Core.Bool.{Bool, true, false}
use Prim.Native.Nat.{ℕ}
use native.Mathlib.Omega.{arith}
use lib.ListN.{length}
use Rattle.rules_calls.specs.declared.Record.{Record}
use Rattle.rules_receiving.specs.declared.Receiver.{Receiver}
use Rattle.rules_receiving.specs.Calls.{takes, opened}
use Rattle.rules_receiving.proofs.Histories.{
  runs_long,
  runs_buffer,
  runs_answer,
  runs_feed_other,
  runs_close_other,
  runs_close,
  shut_feed,
  shut_close,
}
use Rattle.promises_receiving.specs.Promises.{
  ReceiverOpened,
  ReceivedYet,
  ReceivedAll,
  ReceiverRefused,
  ShutRefused,
  AnyReceiver,
  ReceiverPromised,
}
use Rattle.promises_receiving.proofs.Shown.{received_shown, sent_shown}
use Rattle.promises_receiving.proofs.Cleared.{received_cleared}

receiver_opened : ReceiverOpened
receiver_opened kind buf old out left u v a b x = (
  x.answer_is,
  x.buffer_is,
  λ y e. x.receiver_is ∙ ap (opened kind) (sym e) ∙ sym y.receiver_is,
)

received_yet : ReceivedYet
received_yet kind room fed s buf r = (runs_buffer r, runs_long r, λ batch out u a x. runs_answer r x)

received_all : ReceivedAll
received_all kind room fed s u buf out a r x =
    let e = runs_close r x in record { answer = e.0; octets = e.1 }

receiver_refused : ReceiverRefused
receiver_refused kind room fed s u buf other out r h =
    ((λ batch a x. runs_feed_other r h x), λ a x. runs_close_other r h x)

shut_refused : ShutRefused
shut_refused s u buf out h = ((λ batch a x. shut_feed h x), λ a x. shut_close h x)

-- a call is taken or refused
by_takes : {A : Type 0} (s : Receiver) (n : ℕ) → (takes s.progress n ≡ true → A)
    → (takes s.progress n ≡ false → A) → A
by_takes {A} s n f g = by (takes s.progress n) refl
  where
    by : (b : Bool) → takes s.progress n ≡ b → A
    by true e = f e
    by false e = g e

any_receiver : AnyReceiver
any_receiver s u buf out = (
  (λ batch a x. (
    x.long,
    (λ d. by_takes s (length buf) x.taken (λ e. absurd (d (x.refused e).0))),
    λ e. by_takes s (length buf) (λ t. absurd (omega (arith, e, x.taken t)))
        (λ t. ((x.refused t).1, (x.refused t).2)),
  )),
  λ a x. (
    x.long,
    λ e. by_takes s (length buf) (λ t. absurd (x.other t (ap (λ (v : Record). v.number) e)))
        (λ t. ((x.refused t).1, (x.refused t).2)),
  ),
)

pub kept : ReceiverPromised
kept = record {
  receiver_opened = receiver_opened;
  received_yet = received_yet;
  received_all = received_all;
  received_shown = received_shown;
  sent_shown = sent_shown;
  received_cleared = received_cleared;
  receiver_refused = receiver_refused;
  shut_refused = shut_refused;
  any_receiver = any_receiver;
}
