-- The payload's chips go over the part behind the front's, and the rest is filled.
use Rattle.std.proofs.Common.{◌≡◌, ℕ, ◌+◌, ◌-◌, ◌≤◌, Bool, List, ◌++◌, length, take, drop, replicate, sym, ap, ap₂, ◌∙◌, length-append}
use borrow.Rule.Slice.PartMut.{put_mid}
use Rattle.base.specs.Over.{over}
use Rattle.base.proofs.Over.{over_next, over_filled}
use Rattle.rules_rates.specs.declared.Rate.{Rate}
use Rattle.rules_bits.specs.Bits.{octet_bits}
use Rattle.rules_frame.specs.declared.Kind.{Kind}
use Rattle.rules_frame.specs.Frame.{front_chips, frame_chips, sent_header, frame}
use Rattle.write_octets.specs.Sending.{State, run}
use Rattle.write_octets.proofs.Run.{length_run}
use Rattle.write_frame.specs.Parts.{front_sent, after_front}
use Rattle.write_frame.proofs.Fusion.{frame_parts, length_front}
use Rattle.write_frame.proofs.put_frame.Goals as goal

all : (k : Kind) (r : Rate) (p : ℕ) (clock : Bool) (b e : ℕ) (h xs d o y z : List ℕ) (s : State)
    → octet_bits h ≡ sent_header r clock (length xs) → length h ≡ 6
    → s ≡ after_front k p h → o ≡ over (front_sent k p h) d → b ≡ front_chips k
    → y ≡ over (run r 0 s xs) (take (length o - b) (drop b o)) → e ≡ frame_chips k r (length xs) → e ≤ length d
    → (let m = put_mid b (length o - b) o y in z ≡ replicate (length (take (length m - e) (drop e m))) 4)
    → (let m = put_mid b (length o - b) o y in put_mid e (length m - e) m z
    ≡ frame k r p clock xs ++ replicate (length d - e) 4)
all k r p clock b e h xs d o y z s eh six es eo eb ey ee room ez =
    let m = put_mid b (length o - b) o y in
    let w = front_sent k p h ++ run r 0 s xs in
    let count : length w ≡ e =
    length-append (front_sent k p h) (run r 0 s xs)
    ∙ ap₂ {C = ℕ} (λ a c. a + c) (length_front k p h six) (length_run r 0 s xs) ∙ sym ee in
    let is : w ≡ frame k r p clock xs = ap (λ (t : State). front_sent k p h ++ run r 0 t xs) es
    ∙ sym (frame_parts k r p clock h xs eh six) in
    over_filled w d m z e 4 (over_next (front_sent k p h) (run r 0 s xs) d o y b eo (length_front k p h six ∙ sym eb) ey)
    count room ez
    ∙ ap (λ (v : List ℕ). v ++ replicate (length d - e) 4) is

pub returns : goal.returns
returns c =
    let header = c.header_octets-header in
    let front = c.put_front-l in
    let rest = c.put_octets in
    record {
      chips = all c.args.f.kind c.args.f.rate _ c.args.clock _ c.args.f.chips _ c.args.payload.now _ front.new.chips
          rest.new.chips c.fill.new.row _ header.ensures.answer.0 header.ensures.answer.1 front.ensures.answer
          front.ensures.chips c.front_chips-at.ensures.answer rest.ensures.chips c.requires.1 c.requires.2
          c.fill.ensures.row;
    }
