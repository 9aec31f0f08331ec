-- The report of the first recordings of a list, one recording more, and the list's end.
-- Assumes nothing.
use mathlib.Core.Path.{◌≡◌, sym, ap, ◌∙◌}
use mathlib.Core.List.{List, [], map}
use Prim.Native.Nat.{ℕ, ◌+◌, ◌≤◌, ◌<◌, min}
use native.Mathlib.Omega.{arith}
use denote.Ref.{Bor}
use Rattle.std.specs.Array.{AllOfLen}
use Rattle.std.proofs.lemmas.List.FromFn.{fill_by_all}
use lib.ListN.{replicate, length, get_or, take, length-take, length-map, get_or-map}
use lib.Seq.{take_all, get_or-take}
use borrow.Author.Tests.{eq-eqb, ne_eqb, le-leb, lt-leb}
use Rattle.std.specs.List.{zip}
use Rattle.std.proofs.lemmas.List.{get_or_default}
use Rattle.std.proofs.lemmas.Slice.Zip.{length-zip, get_or-zip}
use Rattle.rules_report.specs.Totals.{Recording, outcome_of}
use Rattle.rules_report.specs.Report.{empty, report_of, counted_of, recordings, list_of}
use Rattle.rules_report.specs.declared.Report.{Report}
use Rattle.rules_report.specs.declared.Counted.{Counted}
use Rattle.rules_report.proofs.Taking.{counted_next}
use Rattle.rules_report.proofs.Lists.{length_recordings, recordings_next}

-- a report by default is one of nothing counted
abbrev Zeros : List ℕ → ℕ → Type 0
Zeros row n = AllOfLen (λ x. x ≡ 0) row n

pub nothing_counted : (p : Report)
    → (p.seen ≡ 0) × (Zeros p.frames 4 × (Zeros p.octets 4 × (Zeros p.refused 18 × ((p.airtime ≡ 0) × ((p.some ≡ 0)
    × ((p.lead ≡ 0) × (p.recording ≡ 0))))))) → p ≡ empty
nothing_counted p h =
    let frames : p.frames ≡ replicate 4 0 = fill_by_all (λ k. 0) p.frames 4 0 h.1.0.long (λ k l. h.1.0.at k 0 l) in
    let octets : p.octets ≡ replicate 4 0 = fill_by_all (λ k. 0) p.octets 4 0 h.1.1.0.long (λ k l. h.1.1.0.at k 0 l) in
    let refused : p.refused ≡ replicate 18 0 = fill_by_all (λ k. 0) p.refused 18 0 h.1.1.1.0.long (λ k l. h.1.1.1.0.at k 0 l) in
    λ i.
    record {
      seen = h.0 i;
      frames = frames i;
      octets = octets i;
      refused = refused i;
      airtime = h.1.1.1.1.0 i;
      some = h.1.1.1.1.1.0 i;
      lead = h.1.1.1.1.1.1.0 i;
      recording = h.1.1.1.1.1.1.1 i;
    }

abbrev rows : List (Bor (List ℕ)) → List (List ℕ)
rows list = map (λ r. r.now) list

-- the report of the first so many
abbrev pub firsts : List ℕ → List (Bor (List ℕ)) → ℕ → Report
firsts kinds list i = report_of (map outcome_of (take i (recordings kinds (rows list))))

-- no recording: what a row holds past its end
abbrev nothing : Bor (List ℕ)
nothing = record { ref_ptr = (0, 0); now = [] }

abbrev answer : ℕ → Report → Counted
answer number p = record { number = number; report = p }

-- what a loop goes over: the first 1,000, each with its kind
abbrev pub pairs : List ℕ → List (Bor (List ℕ)) → List (ℕ × Bor (List ℕ))
pairs kinds list = take 1000 (zip kinds list)

module _ (kinds : List ℕ) (list : List (Bor (List ℕ))) where
  pub differ : (length kinds ≡ length list → ⊥) → answer 7 empty ≡ list_of kinds (rows list)
  unfolding list_of
  differ h = rw (length-map, ne_eqb (length kinds) (length list) h)

  module _ (same : length kinds ≡ length list) where
    abbrev all : List Recording
    all = recordings kinds (rows list)

    long : length all ≡ length list
    long =
        length_recordings kinds (rows list) (same ∙ sym (length-map list (λ r. r.now)))
        ∙ length-map list (λ r. r.now)

    next : (i : ℕ) (p : Report) (c : Counted) → i < length list → i < 1000 → p ≡ firsts kinds list i
        → c ≡ counted_of p (record { kind = get_or kinds i 0; chips = (get_or list i nothing).now })
        → c.report ≡ firsts kinds list (i + 1)
    next i p c h few is e =
        let r : Recording = record { kind = get_or kinds i 0; chips = get_or (rows list) i [] } in
        let here = sym (get_or-map (λ r. r.now) list i nothing) in
        ap (λ (x : Counted). x.report)
        (e ∙ (λ j. counted_of (is j) (record { kind = get_or kinds i 0; chips = here j }))
        ∙ counted_next (take i all) r (omega (arith, length-take i all)))
        ∙ ap (λ (rs : List Recording). report_of (map outcome_of rs))
        (sym
        (recordings_next kinds (rows list) i (omega (arith, same)) (omega (arith, length-map list (λ r. r.now)))))

    -- how many are gone over
    pub many_pairs : length (pairs kinds list) ≡ min 1000 (length list)
    many_pairs = omega (arith, length-take 1000 (zip kinds list), length-zip kinds list, same)

    pub next_pair : (i : ℕ) (x : ℕ × Bor (List ℕ)) (p : Report) (c : Counted) → i < length (pairs kinds list)
        → x ≡ get_or (pairs kinds list) i x → p ≡ firsts kinds list i
        → c ≡ counted_of p (record { kind = x.0; chips = x.1.now }) → c.report ≡ firsts kinds list (i + 1)
    next_pair i x p c h here is e =
        let few : i < min 1000 (length list) = omega (arith, many_pairs) in
        let at : x ≡ (get_or kinds i x.0, get_or list i x.1) =
        here ∙ get_or-take 1000 (zip kinds list) i x (omega arith)
        ∙ get_or-zip kinds list i x (omega (arith, same)) (omega arith) in
        let kind : x.0 ≡ get_or kinds i 0 =
        ap (λ (y : ℕ × Bor (List ℕ)). y.0) at ∙ get_or_default kinds i x.0 0 (omega (arith, same)) in
        let chips : x.1 ≡ get_or list i nothing =
        ap (λ (y : ℕ × Bor (List ℕ)). y.1) at ∙ get_or_default list i x.1 nothing (omega arith) in
        next i p c (omega arith) (omega arith) is
        (e ∙ (λ j. counted_of p (record { kind = kind j; chips = (chips j).now })))

    pub many : (i : ℕ) (p : Report) → 1000 < length list → i ≡ min 1000 (length list) → p ≡ firsts kinds list i
        → answer 31 p ≡ list_of kinds (rows list)
    unfolding list_of
    many i p more gone e =
        let last : i ≡ 1000 = omega arith in
        rw (e, last, length-map, eq-eqb (length kinds) (length list) same, lt-leb (length list) 1000 more)

    pub whole : (i : ℕ) (p : Report) → length list ≤ 1000 → i ≡ min 1000 (length list) → p ≡ firsts kinds list i
        → answer 0 p ≡ list_of kinds (rows list)
    unfolding list_of
    whole i p few gone e =
        let to_all : take i all ≡ take 1000 all =
        take_all i all (omega (arith, long)) ∙ sym (take_all 1000 all (omega (arith, long))) in
        rw (e, to_all, length-map, eq-eqb (length kinds) (length list) same, le-leb (length list) 1000 few)
