-- Every good read's octets are what the symbols of its frame say, bit by bit (`payload_octet` of rules_reading).
-- Assumes nothing.
use Rattle.std.specs.Prelude.{Result, Ok, Err}
use Rattle.rules_calls.specs.declared.Refusal.{Refusal}
use mathlib.Core.Path.{◌≡◌, sym, ap, ◌∙◌, subst}
use mathlib.Core.List.{List}
use Prim.Native.Nat.{ℕ, ◌+◌, ◌-◌, ◌*◌, ◌<◌}
use native.Mathlib.Omega.{arith}
use lib.ListN.{get_or, replicate, get_or-append}
use Rattle.rules_rates.specs.declared.Rate.{Rate}
use Rattle.rules_rates.specs.Rates.{rate_of}
use Rattle.rules_chips.specs.Chips.{Taken}
use Rattle.rules_frame.specs.declared.Kind.{Kind}
use Rattle.rules_frame.specs.Frame.{kind_of, sync_bits}
use Rattle.rules_calls.specs.declared.Record.{Record}
use Rattle.rules_calls.specs.declared.Reading.{Reading}
use Rattle.rules_calls.specs.Answers.{record_of}
use Rattle.rules_calls.proofs.AnswerFacts.{some_number}
use Rattle.rules_reading.specs.Decoded.{FieldAt}
use Rattle.rules_reading.specs.Reading.{payload_of, reading_of, octets_after, octets_found}
use Rattle.rules_reading.proofs.Decoding.{payload_octet}
use Rattle.rules_reading.proofs.Buffers.{payload_length}
use Rattle.promises.specs.Reasons.{BitsOf, long_bits, short_bits, OctetsDecoded}
use Rattle.promises.proofs.Only.{code_back}

decoded : (kind : ℕ) (rec : List Taken) (room : ℕ) (g : Result Reading Refusal) → (record_of g).number ≡ 0
    → (at sfd ones : ℕ) → BitsOf kind at sfd ones → (j : ℕ) → j < (record_of g).n
    → FieldAt (kind_of kind) (rate_of (record_of g).rate) rec (record_of g).n (at + 64 + 8 * j) 8
    (get_or (octets_after (kind_of kind) rec room g) j 0)
decoded kind rec room (Err e) z at sfd ones b j l = absurd (some_number e z)
decoded kind rec room (Ok g) z at sfd ones b j l =
    rw (code_back r)
    (subst (FieldAt k r rec g.told.n (at + 64 + 8 * j) 8)
    (sym (get_or-append octets (replicate (room - g.told.n) 0) 0 j (omega (arith, l, payload_length k r g.told.n rec))))
    (subst (λ (x : ℕ). FieldAt k r rec g.told.n x 8 (get_or octets j 0)) (place b) (payload_octet k r rec g.told.n j l)))
  where
    k : Kind
    k = kind_of kind

    r : Rate
    r = g.told.rate

    octets : List ℕ
    octets = payload_of (kind_of kind) g.told.rate g.told.n rec

    place : {kind at sfd ones : ℕ} → BitsOf kind at sfd ones
        → sync_bits (kind_of kind) + 16 + 48 + 8 * j ≡ at + 64 + 8 * j
    place long_bits = omega arith
    place short_bits = omega arith

pub octets_decoded : OctetsDecoded
unfolding octets_found
octets_decoded kind agree rec room a left f z at sfd ones b j l =
    rw (f.answer, f.octets)
    (decoded kind rec room (reading_of kind agree rec room) (ap (λ (v : Record). v.number) (sym f.answer) ∙ z) at sfd
    ones b j (subst (λ (v : Record). j < v.n) f.answer l))
