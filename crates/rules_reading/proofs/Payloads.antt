-- What any payload comes to, whatever its front told: 17, then 9, then 10, or good. Assumes nothing.
use mathlib.Core.Path.{◌≡◌}
use mathlib.Core.List.{List}
use Rattle.std.specs.Prelude.{Option, None, Some, Ok, Err}
use Prim.Native.Nat.{ℕ, ◌-◌, ◌≤◌, ◌<◌}
use borrow.Author.Tests.{lt-ltb, le-ltb}
use lib.ListN.{take, drop}
use Rattle.rules_chips.specs.Chips.{Taken}
use Rattle.rules_frame.specs.declared.Kind.{Kind}
use Rattle.rules_frame.specs.Frame.{front_chips, frame_chips}
use Rattle.rules_calls.specs.declared.Refusal.TheVariants.{Unusable, OddGrowth, OctetRoom}
use Rattle.rules_calls.specs.declared.Told.{Told}
use Rattle.rules_reading.specs.Leads.{frame_leads, least_of}
use Rattle.rules_reading.specs.Reading.{first_unusable, payload_odd, payload_reading}

-- the first unusable chip of a payload
abbrev pub found_unusable : Kind → Told → List Taken → Option ℕ
found_unusable k t rec =
    let from = front_chips k in
    first_unusable from (take (frame_chips k t.rate t.n - from) (drop from rec))

module _ (k : Kind) (t : Told) (rec : List Taken) (room : ℕ) where
  -- promise: 17, then 9, then 10 over any payload, or good
  -- rule: 6.2, 6.3
  -- code: read_payload
  -- with: unusable_refused, odd_refused, payload_good
  pub room_refused : room < t.n → payload_reading k t rec room ≡ Err (OctetRoom t.length)
  unfolding payload_reading
  room_refused h = rw (lt-ltb room t.n h)

  pub unusable_refused : (p : ℕ) → t.n ≤ room → found_unusable k t rec ≡ Some p
      → payload_reading k t rec room ≡ Err (Unusable p t.length)
  unfolding payload_reading
  unusable_refused p h e = rw (le-ltb room t.n h, e)

  pub odd_refused : (p : ℕ) → t.n ≤ room → found_unusable k t rec ≡ None → payload_odd k t.rate t.n rec ≡ Some p
      → payload_reading k t rec room ≡ Err (OddGrowth p t.length)
  unfolding payload_reading
  odd_refused p h e o = rw (le-ltb room t.n h, e, o)

  pub payload_good : t.n ≤ room → found_unusable k t rec ≡ None → payload_odd k t.rate t.n rec ≡ None
      → payload_reading k t rec room
      ≡ Ok (record { told = t; used = frame_chips k t.rate t.n; least = least_of (frame_leads k t.rate t.n rec) })
  unfolding payload_reading
  payload_good h e o = rw (le-ltb room t.n h, e, o)
