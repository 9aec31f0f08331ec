-- Two recordings that stand their damage, compared: each is read back, and what is compared are the payloads written.
-- Assumes nothing.
use mathlib.Core.Path.{◌≡◌, refl, ap, ◌∙◌, subst}
use mathlib.Core.List.{List, ◌++◌}
use Prim.Native.Nat.{ℕ, ◌-◌, ◌≤◌}
use lib.ListN.{length, take, replicate}
use lib.Seq.{take_at}
use Rattle.rules_rates.specs.Rates.{rate_of, length_field}
use Rattle.rules_rates.specs.Plain.{LengthOf}
use Rattle.rules_rates.proofs.Plain.{length_is}
use Rattle.rules_calls.specs.declared.Record.{Record}
use Rattle.rules_calls.specs.declared.Written.{Written}
use Rattle.rules_compare.specs.Plain.{Shows}
use Rattle.rules_damage.specs.Plain.{FrameStands}
use Rattle.promises.specs.Calls.{ReadHard, Sent}
use Rattle.promises.proofs.Back.{known}
use Rattle.promises_compare.proofs.Answered.{payloads, read_a, read_b}
use Rattle.promises_damage.specs.Promises.{SpoiledCompared}
use Rattle.promises_damage.proofs.SpoiledBack.{spoiled_read_back}

-- a frame that was written and stands its damage, read with room
record Back (payload : List ℕ) (a : Record) (left : List ℕ) : Type 0 where
  number_is : a.number ≡ 0
  n_is : a.n ≡ length payload
  front_is : take (length payload) left ≡ payload

back : (kind rate phase clock : ℕ) (p : List ℕ) (w : Written) (sent : List ℕ) → Sent kind rate phase clock p w sent
    → (rec tail : List ℕ) → FrameStands kind rate (length p) (take w.chips sent) rec
    → (room : ℕ) (a : Record) (left : List ℕ) → length p ≤ room → ReadHard kind (rec ++ tail) room a left
    → Back p a left
back kind rate phase clock p w sent s rec tail stands room a left h r =
    let told =
    (spoiled_read_back kind rate phase clock p w sent s (length_field (rate_of rate) (length p)) of_length rec
    tail stands room a left r).0 h in
    record {
      number_is = ap (λ (x : Record). x.number) told.0;
      n_is = ap (λ (x : Record). x.n) told.0;
      front_is = ap (take (length p)) told.2 ∙ take_at p (replicate (room - length p) 0) (length p) refl;
    }
  where
    of_length : LengthOf rate (length p) (length_field (rate_of rate) (length p))
    of_length =
        subst (λ (x : ℕ). LengthOf x (length p) (length_field (rate_of rate) (length p)))
        (known s.sendable.goes).code_back (length_is (rate_of rate) (length p))

pub spoiled_compared : SpoiledCompared
spoiled_compared kind rate rate' phase phase' clock clock' p q w v sent sent' s t rec rec' tail tail' stands stands'
    places places' room room' c chips octets first second h h' m =
    let a = rec ++ tail in
    let b = rec' ++ tail' in
    let x =
    back kind rate phase clock p w sent s rec tail stands room c.a first h
    (read_a kind a b places places' room room' c chips octets first second m) in
    let y =
    back kind rate' phase' clock' q v sent' t rec' tail' stands' room' c.b second h'
    (read_b kind a b places places' room room' c chips octets first second m) in
    let both =
    (payloads kind a b places places' room room' c chips octets first second m).both x.number_is y.number_is in (
      subst (λ (z : List ℕ × List ℕ). Shows z.0 z.1 places' c.octets octets)
          (λ i. (
            (ap (λ (j : ℕ). take j first) x.n_is ∙ x.front_is) i,
            (ap (λ (j : ℕ). take j second) y.n_is ∙ y.front_is) i,
          ))
          both.0,
      both.1 ∙ x.n_is,
      both.2 ∙ y.n_is,
      x.number_is,
      y.number_is,
    )
