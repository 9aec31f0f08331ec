-- Uses of the statements about the report's text, as they are kept, so that none of them can lose a part: its fills,
-- its words and its numbers. Assumes nothing.
use mathlib.Core.Path.{◌≡◌}
use mathlib.Core.List.{List}
use Prim.Native.Nat.{ℕ, ◌-◌, ◌^◌, ◌≤◌, ◌<◌}
use native.Mathlib.Omega.{arith}
use lib.Dec.{lit≤}
use lib.ListN.{length, get_or, take, drop, replicate}
use Rattle.rules_report.specs.declared.Report.{Report}
use Rattle.rules_report.specs.declared.Spelled.{Spelled}
use Rattle.rules_report.specs.Text.{text_of}
use Rattle.rules_report.specs.Said.{TextSaid, Fits}
use Rattle.rules_report.proofs.Spelling.{text_most}
use Rattle.rules_report.proofs.SaidOnly.{text_only}
use Rattle.promises_report.specs.Calls.{Spells}
use Rattle.promises_report.proofs.Kept.{kept_report}

-- ---- the text
pub text_whole : (p : Report) (s : Spelled) (left : List ℕ) → Spells p 980 s left
    → (s.number ≡ 0) × (take s.octets left ≡ text_of p) × (drop s.octets left ≡ replicate (980 - s.octets) 0)
    × (length left ≡ 980)
text_whole p s left f =
    let t = kept_report.text_fills p 980 s left f in
    let fits = t.1 (text_most p) in
    (t.3 (lit≤ tt), fits.2, fits.3, t.0)

pub text_refused : (p : Report) (s : Spelled) (room : ℕ) (left : List ℕ) → Spells p room s left
    → room < length (text_of p) → (s ≡ record { number = 17; octets = 0 }) × (left ≡ replicate room 0)
text_refused p s room left f h = (kept_report.text_fills p room s left f).2 h

pub text_told : (p : Report) (s : Spelled) (room : ℕ) (left : List ℕ) → Spells p room s left
    → (length (text_of p) ≤ room → (s.number ≡ 0) × (s.octets ≡ length (text_of p))) × (980 ≤ room → s.number ≡ 0)
text_told p s room left f =
    let t = kept_report.text_fills p room s left f in ((λ h. ((t.1 h).0, (t.1 h).1)), t.3)

-- what it says: of any numbers of 64 bits and with any room that takes it, a text that says them is the one told
pub text_one : (p : Report) (room : ℕ) (s : Spelled) (left text : List ℕ) → Spells p room s left → s.number ≡ 0
    → ((j : ℕ) → get_or p.frames j 0 < 2 ^ 64) → ((j : ℕ) → get_or p.octets j 0 < 2 ^ 64)
    → ((j : ℕ) → get_or p.refused j 0 < 2 ^ 64) → p.airtime < 2 ^ 64 → p.lead < 2 ^ 64 → p.recording < 2 ^ 64
    → TextSaid p text → take s.octets left ≡ text
text_one p room s left text f z frames octets refused airtime lead recording said =
    let fit : Fits p = record {
      frames_fit = λ j. omega (arith, frames j);
      octets_fit = λ j. omega (arith, octets j);
      refused_fit = λ j. omega (arith, refused j);
      airtime_fits = omega arith;
      lead_fits = omega arith;
      recording_fits = omega arith;
    } in
    text_only (kept_report.text_says p room s left f fit z) said
