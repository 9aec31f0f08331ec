-- What reading a store comes to, as the code answers it. Definitions only. Assumes nothing.
-- working notion: of the code that keeps a store; promises are over what is shown
use Rattle.std.specs.Prelude.{ℕ, ◌+◌, ◌<◌, ◌≡◌, List, Result, Ok, Err, cond, not, length, get_or}
use Rattle.rules_store.specs.declared.Settings.{Settings}
use Rattle.rules_store.specs.Store.{entries, body_of, allowed_settings, no_settings, settings, store_read}
use Rattle.store_keep.specs.declared.refusal.StoreRefusal.{StoreRefusal}
use Rattle.store_keep.specs.declared.Three.{Three}
use Rattle.store_keep.specs.Refusals.{number_of}

abbrev pub all_of : Three → Settings
all_of s = settings s.kind s.rate s.phase

-- what a read shows of it
abbrev pub shown : Result Three StoreRefusal → Settings
shown (Ok s) = all_of s
shown (Err e) = no_settings (number_of e)

-- what three octets from a place on tell
abbrev pub told_at : List ℕ → ℕ → Settings
told_at octets at =
    cond (not (allowed_settings (get_or octets at 0) (get_or octets (at + 1) 0) (get_or octets (at + 2) 0)))
    (no_settings 28) (settings (get_or octets at 0) (get_or octets (at + 1) 0) (get_or octets (at + 2) 0))

-- the three settings of a store stand from there on, and only they are left to be judged; or the store is refused
abbrev pub Located : List ℕ → Result ℕ StoreRefusal → Type 0
Located octets (Ok at) =
    (at + 2 < length octets) × (at ≡ (body_of 1 (entries octets)).offset) × (told_at octets at ≡ store_read octets)
Located octets (Err e) = no_settings (number_of e) ≡ store_read octets
