-- What a front tells, where it is not refused: a rate of the kind, 1 to 4,095 octets, and their LENGTH; and where 16 is
-- not given either, that the recording has the frame's chips. It is the header's own law (`header_only` of
-- rules_calls), behind the tests before it. Assumes nothing.
use Rattle.rules_calls.specs.declared.Refusal.{Refusal}
use mathlib.Core.Path.{◌≡◌, refl, ◌∙◌}
use mathlib.Core.Bool.{Bool, true, false, cond}
use mathlib.Core.List.{List}
use Rattle.std.specs.Prelude.{Option, None, Some, Result, Ok, Err}
use Prim.Native.Nat.{ℕ, ◌≤◌}
use lib.Dec.{ltb, nltb→le}
use lib.ListN.{length, take}
use Rattle.base.proofs.Tests.{branch}
use Rattle.rules_rates.specs.Rates.{length_field}
use Rattle.rules_chips.specs.Chips.{Taken}
use Rattle.rules_frame.specs.declared.Kind.{Kind}
use Rattle.rules_frame.specs.Frame.{goes_with, front_chips, frame_chips}
use Rattle.rules_calls.specs.declared.Told.{Told}
use Rattle.rules_calls.specs.Headers.{ours, header_of}
use Rattle.rules_calls.proofs.HeaderOnly.{HeaderSends, header_only}
use Rattle.rules_reading.specs.Reading.{or_else, first_unusable, front_odd, front_by, front_of, whole_of}

-- a search, with what it found, and what holds where it found nothing
pub searched : {A : Type 0} (P : A → Type 0) (o : Option ℕ) (f : ℕ → A) (y : A) → ((p : ℕ) → o ≡ Some p → P (f p)) → P y
    → P (or_else o f y)
searched P None f y h k = k
searched P (Some p) f y h k = h p refl

pub found_or_none : {A : Type 0} (P : A → Type 0) (o : Option ℕ) (f : ℕ → A) (y : A) → ((p : ℕ) → o ≡ Some p → P (f p))
    → (o ≡ None → P y) → P (or_else o f y)
found_or_none P None f y h k = k refl
found_or_none P (Some p) f y h k = h p refl

-- a test, with what it came to
pub decided_by : {A : Type 0} (P : A → Type 0) (b : Bool) (x y : A) → (b ≡ true → P x) → (b ≡ false → P y)
    → P (cond b x y)
decided_by P true x y h k = h refl
decided_by P false x y h k = k refl

pub record Telling (k : Kind) (t : Told) : Type 0 where
  pub goes : goes_with k t.rate ≡ true
  pub some_octets : 1 ≤ t.n
  pub few : t.n ≤ 4095
  pub length_is : t.length ≡ length_field t.rate t.n

abbrev pub TellingIf : Kind → Result Told Refusal → Type 0
TellingIf k (Err e) = Unit {0}
TellingIf k (Ok t) = Telling k t

header_telling : (k : Kind) (sfd header : List ℕ) → TellingIf k (header_of ours k sfd header)
header_telling k sfd header = go (header_of ours k sfd header) (header_only k sfd header)
  where
    go : (f : Result Told Refusal) → HeaderSends k sfd header f → TellingIf k f
    go (Err e) h = tt
    go (Ok t) h =
        let s = h.2 in
        record { goes = s.goes; some_octets = s.some; few = s.few; length_is = s.told_is ∙ s.length_is }

pub front_telling : (k : Kind) (rec : List Taken) → TellingIf k (front_of k rec)
unfolding front_by
front_telling k rec =
    branch (TellingIf k) (ltb (length rec) (front_chips k)) _ _ tt
    (λ a. searched (TellingIf k) (first_unusable 0 (take (front_chips k) rec)) _ _ (λ p e. tt)
    (searched (TellingIf k) (front_odd k rec) _ _ (λ p e. tt) (header_telling k _ _)))

-- and behind refusal 16, that the recording has the frame's chips
pub record TellingWhole (k : Kind) (rec : List Taken) (t : Told) : Type 0 where
  pub telling : Telling k t
  pub there : frame_chips k t.rate t.n ≤ length rec

abbrev pub TellingWholeIf : Kind → List Taken → Result Told Refusal → Type 0
TellingWholeIf k rec (Err e) = Unit {0}
TellingWholeIf k rec (Ok t) = TellingWhole k rec t

pub whole_telling : (k : Kind) (rec : List Taken) → TellingWholeIf k rec (whole_of k rec (front_of k rec))
whole_telling k rec = go (front_of k rec) (front_telling k rec)
  where
    go : (f : Result Told Refusal) → TellingIf k f → TellingWholeIf k rec (whole_of k rec f)
    go (Err e) h = tt
    go (Ok t) h =
        let all = frame_chips k t.rate t.n in
        branch (TellingWholeIf k rec) (ltb (length rec) all) _ _ tt
        (λ a. record { telling = h; there = nltb→le (length rec) all a })
