-- `payload::hear_payload`: the octets are heard into the buffer's front, and cleared where a symbol is grown by 1 or 3.
use mathlib.Core.Path.{◌≡◌, sym, ap, subst, ◌∙◌}
use mathlib.Core.List.{List, ◌++◌}
use Rattle.std.specs.Prelude.{None, Some}
use Prim.Native.Nat.{ℕ, ◌+◌, ◌-◌, ◌*◌, ◌/◌, ◌≤◌, ◌<◌}
use native.Mathlib.Omega.{arith}
use lib.ListN.{length, take, drop, replicate}
use lib.Seq.{length_front}
use Rattle.rules_rates.specs.declared.Rate.{Rate}
use Rattle.rules_rates.specs.Rates.{octet_symbols, octet_chips}
use Rattle.rules_chips.specs.Chips.{Taken}
use Rattle.common_lines.specs.declared.Line.{Line}
use Rattle.rules_frame.specs.declared.Kind.{Kind}
use Rattle.rules_frame.specs.Frame.{front_chips, frame_chips}
use Rattle.rules_reading.specs.Reading.{payload_odd, payload_of}
use Rattle.rules_calls.specs.declared.Least.{Least}
use Rattle.rules_reading.specs.Leads.{front_leads, frame_leads, least_of}
use Rattle.choose_recorded.specs.Recorded.{AllUsable}
use Rattle.hear_parts.specs.declared.Part.{Part}
use Rattle.hear_parts.specs.Hearing.{PartHeard}
use Rattle.hear_parts.proofs.Parts.{few_symbols}
use Rattle.read_fronts.specs.Openings.{Opened}
use Rattle.read_fronts.proofs.Behind.{payload_odd_lem, payload_octets, payload_least, lent_long, octets_back}
use Rattle.read_frames.proofs.payload.hear_payload.Goals as goal

room : (k : Kind) (r : Rate) (n from m all : ℕ) → from ≡ front_chips k → m ≡ n → frame_chips k r n ≤ all
    → from + octet_chips r * m ≤ all
room k r n from m all e f h = rw (e, f) h

-- there are fewer symbols than chips, so that their numbers do not wrap
numbers : (k : Kind) (r : Rate) (n from m all : ℕ) → from ≡ front_chips k → m ≡ n → frame_chips k r n < all
    → from / 11 + octet_symbols r * m < all
numbers k r n from m all e f h = omega (arith, room k r n from m (frame_chips k r n) e f (omega arith), few_symbols r m)

usable : (k : Kind) (r : Rate) (n from m : ℕ) (rec : List Taken) → from ≡ front_chips k → m ≡ n
    → AllUsable rec (front_chips k) (octet_chips r * n) → AllUsable rec from (octet_chips r * m)
usable k r n from m rec e f u = rw (e, f) u

module _
    (k : Kind) (r : Rate) (n from : ℕ) (rec : List Taken) (l : Line) (b : Least) (p : Part) (d out : List ℕ)
    (o : Opened k rec l) (e : from ≡ front_chips k) (fits : n ≤ length d) (zeros : d ≡ replicate (length d) 0)
    (first : b ≡ least_of (front_leads k rec))
    (x : PartHeard r from (length (take (n - 0) d)) rec l (from / 11) b p out)
  where
    part : PartHeard r (front_chips k) n rec l (front_chips k / 11) b p out
    part =
        subst (λ (i : ℕ). PartHeard r i n rec l (i / 11) b p out) e
        (subst (λ (i : ℕ). PartHeard r from i rec l (from / 11) b p out)
        (lent_long n d fits) x)

    odd : (place : ℕ) (z : List ℕ) → p.heard.odd ≡ Some place → length out ≡ length (take (n - 0) d)
        → z ≡ replicate (length (out ++ drop (n - 0) d)) 0
        → (Some place ≡ payload_odd k r n rec)
        × ((p.least ≡ least_of (frame_leads k r n rec)) × (z ≡ replicate (length d) 0))
    odd place z t kept q = (
      sym t ∙ payload_odd_lem k r n rec l b p out o part,
      (
        payload_least k r n rec l b p out o part first,
        q ∙ ap (λ (m : ℕ). replicate m 0) (length_front d out (n - 0) kept),
      ),
    )

    good : p.heard.odd ≡ None → (None ≡ payload_odd k r n rec)
        × ((p.least ≡ least_of (frame_leads k r n rec))
        × (out ++ drop (n - 0) d ≡ payload_of k r n rec ++ replicate (length d - n) 0))
    good t = (
      sym t ∙ payload_odd_lem k r n rec l b p out o part,
      (
        payload_least k r n rec l b p out o part first,
        octets_back n d out (payload_of k r n rec) zeros (payload_octets k r n rec l b p out o part),
      ),
    )

pub hear_octets-part-requires : goal.hear_octets-part-requires
hear_octets-part-requires c =
    let a = c.args in
    let long = lent_long a.n a.octets.now c.requires.2 in
    let from = c.front_chips-from.ensures.answer in (
      room a.kind a.rate a.n _ _ _ from long c.requires.0,
      usable a.kind a.rate a.n _ _ _ from long c.requires.1,
      c.requires.3.small,
      numbers a.kind a.rate a.n _ _ _ from long (omega (arith, c.requires.0, c.is_countable.ensures.few)),
    )

pub returns-in-Some : goal.returns-in-Some
returns-in-Some c =
    let call = c.hear_octets-part in
    let a = c.args in
    let h = odd a.kind a.rate a.n _ _ a.line a.least _ a.octets.now call.new.out c.requires.3 c.front_chips-from.ensures.answer
    c.requires.2 c.requires.4 c.requires.5 call.ensures.answer _ _ c.in-Some.is call.auto.out c.fill.ensures.row in
    record { answer = h.0; least = h.1.0; octets = h.1.1 }

pub returns-in-None : goal.returns-in-None
returns-in-None c =
    let call = c.hear_octets-part in
    let a = c.args in
    let h = good a.kind a.rate a.n _ _ a.line a.least _ a.octets.now call.new.out c.requires.3 c.front_chips-from.ensures.answer
    c.requires.2 c.requires.4 c.requires.5 call.ensures.answer c.in-None.is in
    record { answer = h.0; least = h.1.0; octets = h.1.1 }
