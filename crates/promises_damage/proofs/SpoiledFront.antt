-- The front of what was written, spoiled within the limit, tells what is coming and is not missed by a search: it is
-- read as the frame's front (`front_spoiled` of rules_damage), and any chips that are tell of it and are found
-- (`tells`, `found_there` of promises). Assumes nothing.
use Rattle.std.specs.Prelude.{Ok}
use mathlib.Core.Path.{◌≡◌, sym, ap, ◌∙◌, subst}
use mathlib.Core.List.{List, ◌++◌}
use Prim.Native.Nat.{ℕ}
use lib.ListN.{length, take}
use Rattle.rules_rates.specs.declared.Rate.{Rate}
use Rattle.rules_rates.specs.Rates.{code_of, rate_of}
use Rattle.rules_chips.specs.Chips.{hard_recording}
use Rattle.rules_frame.specs.declared.Kind.{Kind}
use Rattle.rules_frame.specs.Frame.{kind_of, clock_of, front_chips}
use Rattle.rules_calls.specs.declared.Written.{Written}
use Rattle.rules_reading.specs.Reading.{front_of}
use Rattle.rules_damage.specs.Plain.{FrameStands}
use Rattle.rules_damage.proofs.ReadBack.{front_spoiled}
use Rattle.promises.specs.Calls.{Sent}
use Rattle.promises.proofs.Back.{Known}
use Rattle.promises.proofs.Back as back
use Rattle.promises.proofs.SentTold.{sent_told, tells, begun_is, begun_long}
use Rattle.promises.proofs.SentFound.{found_there}
use Rattle.promises_damage.specs.Promises.{SpoiledTold, SpoiledFound}

module _ (kind rate phase clock : ℕ) (payload : List ℕ) (w : Written) (chips : List ℕ)
    (s : Sent kind rate phase clock payload w chips) (rec tail : List ℕ)
    (stands : FrameStands kind rate 0 (take s.sendable.front chips) rec) where
  abbrev k : Kind
  k = kind_of kind

  abbrev r : Rate
  r = rate_of rate

  abbrev sent : List ℕ
  sent = back.sent kind rate phase clock payload w chips s

  pair : Known kind rate s.sendable.front s.sendable.octet
  pair = back.pair kind rate phase clock payload w chips s

  rec_long : length rec ≡ s.sendable.front
  rec_long = stands.same_length ∙ begun_long kind rate phase clock payload w chips s

  -- in the words of the definitions
  stands_front : FrameStands kind (code_of r) 0 (take (front_chips k) sent) rec
  stands_front =
      subst (λ (x : List ℕ). FrameStands kind (code_of r) 0 x rec)
      (begun_is kind rate phase clock payload w chips s ∙ ap (λ (m : ℕ). take m sent) (sym pair.front_is))
      (subst (λ (c : ℕ). FrameStands kind c 0 (take s.sendable.front chips) rec) (sym pair.code_back) stands)

  told_is : front_of k (hard_recording (rec ++ tail)) ≡ Ok (sent_told kind rate phase clock payload w chips s)
  told_is =
      front_spoiled kind r phase (clock_of clock) payload pair.kind_is s.sendable.phase_is pair.together
      s.sendable.some s.sendable.few rec tail stands_front

pub spoiled_told : SpoiledTold
spoiled_told kind rate phase clock payload w chips s l d rec tail stands c f =
    tells kind rate phase clock payload w chips s rec tail
    (rec_long kind rate phase clock payload w chips s rec tail stands)
    (told_is kind rate phase clock payload w chips s rec tail stands) c f l d

pub spoiled_found : SpoiledFound
spoiled_found kind rate phase clock payload w chips s l d rec tail stands before offsets f below few x =
    found_there kind rate phase clock payload w chips s (rec ++ tail)
    (told_is kind rate phase clock payload w chips s rec tail stands) before offsets below few l d f x
