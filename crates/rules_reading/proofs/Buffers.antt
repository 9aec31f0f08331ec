-- What a read leaves in the octet buffer, by the cases of what it comes to: a good reading holds its payload within the
-- room.
--     payload_length    a payload has the octets that the header tells
--     after_fits, reading_fits    which are at most the room
--     filled_octets     the buffer keeps its length; zeros after a refusal, and behind a payload
--     payload_front     the payload is the buffer's front
--     found_long        a read leaves as many octets as there is room for
-- Assumes nothing.
use Rattle.std.specs.Prelude.{Result, Ok, Err}
use Rattle.rules_calls.specs.declared.Refusal.{Refusal}
use mathlib.Core.Path.{◌≡◌, refl, sym, ◌∙◌, subst}
use mathlib.Core.Bool.{Bool, not}
use mathlib.Core.List.{List, ◌++◌}
use Prim.Native.Nat.{ℕ, ◌-◌, ◌≤◌}
use native.Mathlib.Omega.{arith}
use lib.ListN.{length, take, drop, replicate, length-append, length-replicate}
use lib.Seq.{take_at, drop_at}
use Rattle.base.proofs.Tests.{branch}
use Rattle.rules_rates.specs.declared.Rate.{Rate}
use Rattle.rules_chips.specs.Chips.{Taken}
use Rattle.rules_bits.proofs.Bits.{octets_length}
use Rattle.rules_frame.specs.declared.Kind.{Kind}
use Rattle.rules_frame.specs.Frame.{is_kind, kind_of}
use Rattle.rules_calls.specs.declared.Told.{Told}
use Rattle.rules_calls.specs.declared.Reading.{Reading}
use Rattle.rules_calls.specs.Answers.{record_of}
use Rattle.rules_calls.proofs.AnswerFacts.{some_number}
use Rattle.rules_reading.specs.Reading.{
  front_of,
  payload_of,
  whole_of,
  payload_reading,
  after_front,
  reading_of,
  octets_after,
  octets_found,
}
use Rattle.rules_reading.proofs.Refusals.{PayloadIf, payload_comes}

abbrev pub Fits : ℕ → Result Reading Refusal → Type 0
Fits room (Err e) = Unit {0}
Fits room (Ok g) = g.told.n ≤ room

pub after_fits : (k : Kind) (rec : List Taken) (room : ℕ) (f : Result Told Refusal) → Fits room (after_front k rec room f)
after_fits k rec room (Err e) = tt
after_fits k rec room (Ok t) = go (payload_reading k t rec room) (payload_comes k t rec room)
  where
    go : (g : Result Reading Refusal) → PayloadIf k t rec room g → Fits room g
    go (Err e) p = tt
    go (Ok g) p = subst (λ (v : Told). v.n ≤ room) (sym p.1) p.0

pub reading_fits : (kind : ℕ) (agree : Bool) (rec : List Taken) (room : ℕ) → Fits room (reading_of kind agree rec room)
unfolding reading_of
reading_fits kind agree rec room =
    branch (Fits room) (not (is_kind kind)) _ _ tt
    (λ a. branch (Fits room) (not agree) _ _ tt
    (λ b. after_fits (kind_of kind) rec room (whole_of (kind_of kind) rec (front_of (kind_of kind) rec))))

pub payload_length : (k : Kind) (r : Rate) (n : ℕ) (rec : List Taken) → length (payload_of k r n rec) ≡ n
unfolding payload_of
payload_length k r n rec = octets_length n _

pub filled_octets : (k : Kind) (rec : List Taken) (room : ℕ) (g : Result Reading Refusal) → Fits room g
    → (length (octets_after k rec room g) ≡ room)
    × (((record_of g).number ≡ 0 → ⊥) → octets_after k rec room g ≡ replicate room 0)
    × ((record_of g).number ≡ 0 → drop (record_of g).n (octets_after k rec room g) ≡ replicate (room - (record_of g).n) 0)
filled_octets k rec room (Err e) h = (length-replicate room 0, (λ z. refl), λ z. absurd (some_number e z))
filled_octets k rec room (Ok g) h =
    let octets = payload_of k g.told.rate g.told.n rec in
    let e : length octets ≡ g.told.n = payload_length k g.told.rate g.told.n rec in (
      length-append octets (replicate (room - g.told.n) 0)
          ∙ omega (arith, e, h, length-replicate {A = ℕ} (room - g.told.n) 0),
      (λ z. absurd (z refl)),
      λ z. drop_at octets (replicate (room - g.told.n) 0) g.told.n e,
    )

pub payload_front : (k : Kind) (rec : List Taken) (room : ℕ) (t : Told)
    → take t.n (payload_of k t.rate t.n rec ++ replicate (room - t.n) 0) ≡ payload_of k t.rate t.n rec
payload_front k rec room t =
    take_at (payload_of k t.rate t.n rec) (replicate (room - t.n) 0) t.n
    (payload_length k t.rate t.n rec)

pub found_long : (kind : ℕ) (agree : Bool) (rec : List Taken) (room : ℕ)
    → length (octets_found kind agree rec room) ≡ room
unfolding octets_found
found_long kind agree rec room =
    (filled_octets (kind_of kind) rec room (reading_of kind agree rec room) (reading_fits kind agree rec room)).0
