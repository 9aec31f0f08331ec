-- Uses of the statement about two recordings that stand their damage: one frame and two receivers, each with its own
-- damage, where no octet differs (`heard_alike`); and two frames (`heard_apart`). Assumes nothing.
use mathlib.Core.Path.{◌≡◌, ap, ◌∙◌}
use mathlib.Core.List.{List, ◌++◌}
use Prim.Native.Nat.{ℕ, ◌*◌, ◌≤◌}
use lib.ListN.{length, take}
use Rattle.rules_calls.specs.declared.Written.{Written}
use Rattle.rules_compare.specs.declared.Compared.{Compared}
use Rattle.rules_compare.specs.Plain.{DifferAt, Listed}
use Rattle.rules_compare.proofs.Shown.{shows, shows_once}
use Rattle.rules_compare.proofs.Pairs.{itself}
use Rattle.rules_damage.specs.Plain.{FrameStands}
use Rattle.promises.specs.Calls.{Sent}
use Rattle.promises_compare.specs.Calls.{Compares}
use Rattle.promises_damage.proofs.Kept.{kept}

-- one frame and two receivers, each with its own damage
heard_alike : (kind rate phase clock : ℕ) (p : List ℕ) (w : Written) (sent : List ℕ)
    → Sent kind rate phase clock p w sent → (rec rec' tail tail' : List ℕ)
    → FrameStands kind rate (length p) (take w.chips sent) rec
    → FrameStands kind rate (length p) (take w.chips sent) rec'
    → (places places' room room' : ℕ) (c : Compared) (chips octets first second : List ℕ)
    → length p ≤ room → length p ≤ room'
    → Compares kind (rec ++ tail) (rec' ++ tail') places places' room room' c chips octets first second
    → (c.octets ≡ 0) × (c.n_a ≡ length p) × (c.n_b ≡ length p)
heard_alike kind rate phase clock p w sent s rec rec' tail tail' stands stands' places places' room room' c chips octets
    first second h h' m =
    let told =
    kept.spoiled_compared kind rate rate phase phase clock clock p p w w sent sent s s rec rec' tail tail' stands
    stands' places places' room room' c chips octets first second h h' m in
    ((shows_once told.0 (shows p p places')).0 ∙ ap length (itself p), told.1, told.2)

-- two frames, each with its own rate, phase and clock: both are accepted, and every octet that differs is listed
heard_apart : (kind rate rate' phase phase' clock clock' : ℕ) (p q : List ℕ) (w v : Written) (sent sent' : List ℕ)
    → Sent kind rate phase clock p w sent → Sent kind rate' phase' clock' q v sent' → (rec rec' tail tail' : List ℕ)
    → FrameStands kind rate (length p) (take w.chips sent) rec
    → FrameStands kind rate' (length q) (take v.chips sent') rec'
    → (places places' room room' : ℕ) (c : Compared) (chips octets first second : List ℕ)
    → length p ≤ room → length q ≤ room'
    → Compares kind (rec ++ tail) (rec' ++ tail') places places' room room' c chips octets first second
    → 3 * c.octets ≤ places'
    → (c.a.number ≡ 0) × (c.b.number ≡ 0) × (c.n_a ≡ length p) × (c.n_b ≡ length q)
    × ((i : ℕ) → DifferAt p q i → Listed p q octets c.octets i)
heard_apart kind rate rate' phase phase' clock clock' p q w v sent sent' s t rec rec' tail tail' stands stands' places
    places' room room' c chips octets first second h h' m fits =
    let told =
    kept.spoiled_compared kind rate rate' phase phase' clock clock' p q w v sent sent' s t rec rec' tail tail' stands
    stands' places places' room room' c chips octets first second h h' m in
    (told.3, told.4, told.1, told.2, (told.0.fits fits).0.all)
