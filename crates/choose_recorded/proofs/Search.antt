-- Laws of the search for an unusable chip, once for every recorder.
--     search_on      past a usable chip it goes on behind it
--     search_here    an unusable chip is found where it stands
--     search_over    in nothing left there is nothing
--     search_past    past usable chips it goes on behind them
--     none_usable    where nothing is found all are usable
--     usable_part    a part of usable chips is usable
-- Assumes nothing.
use mathlib.Core.Path.{◌≡◌, refl, ◌∙◌}
use mathlib.Core.Bool.{Bool, true, false, cond}
use mathlib.Core.List.{List, ◌∷◌}
use Rattle.std.specs.Prelude.{Option, None, Some}
use Prim.Native.Nat.{ℕ, zero, suc, ◌+◌, ◌-◌, ◌≤◌, ◌<◌}
use native.Mathlib.Nat.{add-zero, add-suc, suc-add, add_assoc}
use native.Mathlib.Numerals.{add-one}
use native.Mathlib.Omega.{arith}
use lib.ListN.{length, get_or, take, drop}
use lib.Seq.{drop-cons}
use Rattle.rules_chips.specs.Chips.{Taken, unusable, is_unusable}
use Rattle.rules_reading.specs.Reading.{first_unusable}
use Rattle.choose_recorded.specs.Recorded.{AllUsable}

-- the part of a recording from one place to another begins with the chip at the first
part_cons : (rec : List Taken) (at to : ℕ) (d : Taken) → at < to → to ≤ length rec
    → take (to - at) (drop at rec) ≡ get_or rec at d ∷ take (to - (at + 1)) (drop (at + 1) rec)
part_cons rec at to d h k =
    let e : to - at ≡ suc (to - (at + 1)) = omega arith in
    rw (e, drop-cons rec at d (omega arith), add-one)

pub search_on : (rec : List Taken) (at to : ℕ) (d : Taken) → at < to → to ≤ length rec → is_unusable (get_or rec at d)
    ≡ false
    → first_unusable at (take (to - at) (drop at rec))
    ≡ first_unusable (at + 1) (take (to - (at + 1)) (drop (at + 1) rec))
unfolding first_unusable
search_on rec at to d h k u = rw (part_cons rec at to d h k, u, add-one)

pub search_here : (rec : List Taken) (at to : ℕ) (d : Taken) → at < to → to ≤ length rec → is_unusable (get_or rec at d)
    ≡ true
    → first_unusable at (take (to - at) (drop at rec)) ≡ Some at
unfolding first_unusable
search_here rec at to d h k u = rw (part_cons rec at to d h k, u)

pub search_over : (rec : List Taken) (at to : ℕ) → to ≤ at → first_unusable at (take (to - at) (drop at rec)) ≡ None
unfolding first_unusable
search_over rec at to h = let e : to - at ≡ 0 = omega arith in rw e

pub search_past : (rec : List Taken) (at to n : ℕ) → at + n ≤ to → to ≤ length rec → AllUsable rec at n
    → first_unusable at (take (to - at) (drop at rec))
    ≡ first_unusable (at + n) (take (to - (at + n)) (drop (at + n) rec))
search_past rec at to zero h l u = rw add-zero refl
search_past rec at to (suc n) h l u =
    let e : at + suc n ≡ at + n + 1 = omega arith in
    search_past rec at to n (omega arith) l (record { each = λ k b. u.each k (omega arith) })
    ∙ search_on rec (at + n) to unusable (omega arith) l (u.each n (omega arith))
    ∙ rw e refl

-- where a search of these chips finds nothing, the first is usable and the search behind it finds nothing
both : (b : Bool) (at : ℕ) (rest : Option ℕ) → cond b (Some at) rest ≡ None → (b ≡ false) × (rest ≡ None)
both false at rest e = (refl, e)
both true at rest e = absurd (let z : ◌≡◌ {A = ℕ} 0 1 = cc in omega arith)

pub none_usable : (rec : List Taken) (at n : ℕ) → at + n ≤ length rec → first_unusable at (take n (drop at rec)) ≡ None
    → AllUsable rec at n
unfolding first_unusable
none_usable rec at zero h e = record { each = λ k b. absurd (omega arith) }
none_usable rec at (suc n) h e =
    let first = both (is_unusable (get_or rec at unusable)) at (first_unusable (suc at) (take n (drop (suc at) rec)))
    (rw (drop-cons rec at unusable (omega arith)) at e) in
    record { each = by first.0 (none_usable rec (suc at) n (omega arith) first.1) }
  where
    by : is_unusable (get_or rec at unusable) ≡ false → AllUsable rec (suc at) n
        → (k : ℕ) → k < suc n → is_unusable (get_or rec (at + k) unusable) ≡ false
    by a u zero b = rw add-zero a
    by a u (suc k) b = rw (add-suc, ← suc-add) (u.each k (omega arith))

pub usable_part : {rec : List Taken} {at n : ℕ} (from m : ℕ) → AllUsable rec at n → from + m ≤ n
    → AllUsable rec (at + from) m
usable_part {rec} {at} from m u h = record { each = λ k b. rw add_assoc (u.each (from + k) (omega arith)) }
