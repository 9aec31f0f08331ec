-- A frame that was written is not missed, whatever stands before it and follows its front: chips that are read as its
-- front are told from where they start, so a search that comes as far ends there or before. Assumes nothing.
use mathlib.Core.Path.{◌≡◌, refl, sym, ap, ◌∙◌, subst}
use mathlib.Core.List.{List, ◌++◌}
use Rattle.std.specs.Prelude.{Result, Ok, Err}
use Prim.Native.Nat.{ℕ, ◌≤◌, ◌<◌}
use native.Mathlib.Decide.{dec_le}
use native.Mathlib.Omega.{arith}
use lib.Dec.{T}
use lib.ListN.{length, take, drop}
use lib.Seq.{drop_at}
use Rattle.rules_rates.specs.declared.Rate.{Rate}
use Rattle.rules_rates.specs.Rates.{rate_of, length_field}
use Rattle.rules_rates.specs.Plain.{LengthOf}
use Rattle.rules_chips.specs.Chips.{Taken, hard_recording}
use Rattle.rules_chips.proofs.Recorders.{drop_hard}
use Rattle.rules_frame.specs.declared.Kind.{Kind}
use Rattle.rules_frame.specs.Frame.{kind_of}
use Rattle.rules_calls.specs.declared.Written.{Written}
use Rattle.rules_calls.specs.declared.Refusal.{Refusal}
use Rattle.rules_calls.specs.declared.Told.{Told}
use Rattle.rules_reading.specs.Reading.{front_of}
use Rattle.rules_finding.specs.declared.NotFound.{NotFound}
use Rattle.rules_finding.specs.declared.NotFound.TheVariants.{NoKind, NoOffsets, NoStart}
use Rattle.rules_finding.specs.declared.Start.{Start}
use Rattle.rules_finding.specs.declared.Found.{Found}
use Rattle.rules_finding.specs.Finding.{start_at, finding_of, found_of}
use Rattle.rules_finding.proofs.Laws.{Missed, StartsAt, offsets_tried, FindingIf, finding_comes}
use Rattle.promises.specs.Calls.{Finds, shown, Sent}
use Rattle.promises.specs.Finding.{start_found, SentFound}
use Rattle.promises.proofs.Back as back
use Rattle.promises.proofs.SentTold.{sent_told, begun_told}

-- ---- chips that are read as the frame's front, behind others
module _ (kind rate phase clock : ℕ) (payload : List ℕ) (w : Written) (chips : List ℕ)
    (s : Sent kind rate phase clock payload w chips) (behind : List ℕ)
    (is-told : front_of (kind_of kind) (hard_recording behind) ≡ Ok (sent_told kind rate phase clock payload w chips s))
    (before : List ℕ) (offsets : ℕ) (below : length before < offsets) (few : offsets ≤ 4096) where
  abbrev k : Kind
  k = kind_of kind

  abbrev r : Rate
  r = rate_of rate

  abbrev n : ℕ
  n = length payload

  abbrev t : Told
  t = sent_told kind rate phase clock payload w chips s

  abbrev rec : List Taken
  rec = hard_recording (before ++ behind)

  pair : back.Known kind rate s.sendable.front s.sendable.octet
  pair = back.pair kind rate phase clock payload w chips s

  told_there : front_of k (drop (length before) rec) ≡ Ok t
  told_there =
      ap (front_of k)
      (drop_hard (length before) (before ++ behind)
      ∙ ap hard_recording (drop_at before behind (length before) refl))
      ∙ is-told

  not_missed : Missed (front_of k (drop (length before) rec)) → ⊥
  not_missed h = subst Missed told_there h

  -- what is said of every answer
  abbrev Says : Found → Type 0
  Says f =
      (f.number ≡ 0) × (f.offset ≤ length before)
      × (f.offset ≡ length before → f ≡ start_found (length before) rate (length_field r n) (shown clock) n)

  the_frame : found_of (start_at (length before) t) ≡ start_found (length before) rate (length_field r n) (shown clock) n
  the_frame = rw (pair.code_back, back.shown_is clock)

  one_told : (u : Told) → ◌≡◌ {A = Result Told Refusal} (Ok u) (Ok t) → u ≡ t
  one_told u e = cc

  start_says : (offset : ℕ) (u : Told) → StartsAt k 0 offsets rec offset u → Says (found_of (start_at offset u))
  start_says offset u h =
      let i : h.i ≡ offset = omega (arith, h.offset_is) in (
        refl,
        by (dec_le offset (length before)),
        λ e. let same : front_of k (drop (length before) rec) ≡ Ok u = rw (← e, ← i) h.told_there in
            ap (λ (m : ℕ). found_of (start_at m u)) e
            ∙ ap (λ (v : Told). found_of (start_at (length before) v)) (one_told u (sym same ∙ told_there)) ∙ the_frame,
      )
    where
      by : Dec (offset ≤ length before) → offset ≤ length before
      by (yes l) = l
      by (no l) = absurd (not_missed (h.before (length before) (omega (arith, h.offset_is, l))))

  says : (g : Result Start NotFound) → FindingIf kind offsets rec g → Says (found_of g)
  says (Err NoKind) h = absurd (subst T (sym pair.kind_is ∙ h) tt)
  says (Err NoOffsets) h =
      absurd (subst T (sym (offsets_tried offsets (omega (arith, below)) few) ∙ h.1) tt)
  says (Err NoStart) h = absurd (not_missed (h.1 (length before) below))
  says (Ok s) h = start_says s.offset s.told h.1

  pub found_there : (l : ℕ) → LengthOf rate n l → (f : Found) → Finds kind offsets (before ++ behind) f
      → (f.number ≡ 0) × (f.offset ≤ length before)
      × (f.offset ≡ length before → f ≡ start_found (length before) rate l (shown clock) n)
  found_there l d f x =
      rw (← back.length_sent kind rate phase clock payload w chips s d)
      (subst Says (sym x.answer) (says (finding_of kind offsets rec) (finding_comes kind offsets rec)))

pub sent_found : SentFound
sent_found kind rate phase clock payload w chips s l d before tail offsets f below few x =
    found_there kind rate phase clock payload w chips s (take s.sendable.front chips ++ tail)
    (begun_told kind rate phase clock payload w chips s tail) before offsets below few l d f x
