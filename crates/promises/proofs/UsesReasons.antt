-- Uses of what is kept of a read's answer and of its octets, so that none of it can be said of nothing and no part can
-- be lost: the read's own answer is a case, whatever is a case is that answer, and the octets are no others. Assumes
-- nothing.
use mathlib.Core.Path.{◌≡◌}
use mathlib.Core.Bool.{Bool}
use mathlib.Core.List.{List}
use Prim.Native.Nat.{ℕ, ◌+◌, ◌*◌, ◌<◌}
use lib.ListN.{get_or}
use Rattle.rules_rates.specs.Rates.{rate_of}
use Rattle.rules_chips.specs.Chips.{Taken}
use Rattle.rules_frame.specs.Frame.{kind_of}
use Rattle.rules_calls.specs.declared.Record.{Record}
use Rattle.rules_reading.specs.Decoded.{FieldAt}
use Rattle.rules_reading.proofs.Once.{field_once}
use Rattle.promises.specs.Calls.{Read}
use Rattle.promises.specs.Reasons.{BitsOf, ReadAnswer}
use Rattle.promises.proofs.Kept.{kept}

module _ (kind : ℕ) (agree : Bool) (rec : List Taken) (room : ℕ) (a : Record) (left : List ℕ)
    (f : Read kind agree rec room a left) where
  pub own_case : ReadAnswer kind agree rec room a
  own_case = (kept.read_answers kind agree rec room a left f).1

  pub no_other_case : (b : Record) → ReadAnswer kind agree rec room b
      → (b.number ≡ a.number) × (b.place ≡ a.place) × (b.rate ≡ a.rate) × (b.length ≡ a.length)
      × (b.n ≡ a.n) × (b.used ≡ a.used) × (b.clock ≡ a.clock)
  no_other_case b x =
      let e = (kept.read_answers kind agree rec room a left f).0 b x in (
        λ i. (e i).number,
        λ i. (e i).place,
        λ i. (e i).rate,
        λ i. (e i).length,
        λ i. (e i).n,
        λ i. (e i).used,
        λ i. (e i).clock,
      )

  -- octets: no other numbers are those of the frame's bits, 192 bits behind a long frame's first and 120 behind a short
  pub octet_only : a.number ≡ 0 → (at sfd ones : ℕ) → BitsOf kind at sfd ones → (j v : ℕ) → j < a.n
      → FieldAt (kind_of kind) (rate_of a.rate) rec a.n (at + 64 + 8 * j) 8 v → get_or left j 0 ≡ v
  octet_only z at sfd ones b j v l g =
      field_once (kind_of kind) (rate_of a.rate) rec a.n
      (kept.octets_decoded kind agree rec room a left f z at sfd ones b j l) g
