-- A law of how many places are such.
--     many_once    there is one number of them
-- By induction over the places. Assumes nothing.
use mathlib.Core.Path.{◌≡◌, refl, ap}
use Prim.Native.Nat.{ℕ, suc}
use Rattle.base.specs.SoMany.{SoMany, no_place, such, other}

pub many_once : {Such : ℕ → Type 0} {at places many many' : ℕ} → SoMany Such at places many
    → SoMany Such at places many' → many ≡ many'
many_once no_place no_place = refl
many_once (such h m) (such h' m') = ap suc (many_once m m')
many_once (such h m) (other h' m') = absurd (h' h)
many_once (other h m) (such h' m') = absurd (h h')
many_once (other h m) (other h' m') = many_once m m'
