-- Uses of the statements about spoiled frames, of any recording and not only of those that `any_damage` makes: one as
-- long as the frame, of phases and 4s, whose row of damage keeps the limits, number by number, is read back, counted,
-- told of and found. And the row of any two rows, by each symbol's own chips. Assumes nothing.
use mathlib.Core.Path.{◌≡◌, sym, ap, ◌∙◌, subst}
use mathlib.Core.List.{List, ◌++◌}
use Prim.Native.Nat.{ℕ, suc, ◌+◌, ◌-◌, ◌*◌, ◌≤◌, ◌<◌}
use native.Mathlib.Nat.{mul-zero}
use native.Mathlib.Omega.{arith}
use lib.ListN.{length, get_or, take, drop, replicate}
use Rattle.base.specs.Below.{Below}
use Rattle.base.proofs.SoMany.{many_once}
use Rattle.rules_rates.specs.Rates.{rate_of}
use Rattle.rules_rates.specs.Plain.{LengthOf}
use Rattle.rules_frame.specs.Frame.{kind_of}
use Rattle.rules_calls.specs.declared.Written.{Written}
use Rattle.rules_calls.specs.declared.Record.{Record}
use Rattle.rules_coming.specs.declared.Coming.{Coming}
use Rattle.rules_finding.specs.declared.Found.{Found}
use Rattle.rules_report.specs.declared.Report.{Report}
use Rattle.rules_report.specs.declared.Counted.{Counted}
use Rattle.rules_report.specs.Report.{Limits}
use Rattle.rules_report.specs.Shares.{FullRows}
use Rattle.rules_damage.specs.Damage.{wrong, lost, frame_damage}
use Rattle.rules_damage.specs.Plain.{FrontSymbols, PayloadSymbols, SymbolAt, in_front, in_payload, FrameStands}
use Rattle.rules_damage.proofs.Counted.{wrong_many, lost_many}
use Rattle.rules_damage.proofs.Symbols.{one_front, one_payload}
use Rattle.promises.specs.Calls.{Goes, ReadHard, ReadFront, Finds, shown, Sent}
use Rattle.promises.specs.Coming.{told_coming}
use Rattle.promises.proofs.Back as back
use Rattle.promises.proofs.SentTold.{begun_long}
use Rattle.promises_report.specs.Calls.{Adds}
use Rattle.promises_damage.proofs.Kept.{kept}

-- ---- a row whose numbers keep the limits: the frame stands
module _ (kind rate front octet n : ℕ) (goes : Goes kind rate front octet) (sent rec : List ℕ)
    (long : front + octet * n ≤ length sent) (same : length rec ≡ length sent) (usable : Below 5 rec)
    (f each c limit : ℕ) (table : FrontSymbols kind f) (u : PayloadSymbols rate each c limit) where
  abbrev row : List ℕ
  row = frame_damage (kind_of kind) (rate_of rate) n sent rec

  module _ (in-limit : (s : ℕ) → s < f → 2 * get_or row (2 * s) 0 + get_or row (suc (2 * s)) 0 ≤ 10)
      (in-limit' : (j : ℕ) → j < each * n → 2 * get_or row (2 * (f + j)) 0 + get_or row (suc (2 * (f + j))) 0 ≤ limit) where
    keeps : (s at chips limit : ℕ) → SymbolAt kind rate n s at chips limit
        → 2 * get_or row (2 * s) 0 + get_or row (suc (2 * s)) 0 ≤ limit
    keeps _ _ _ _ (in_front f' s t l) = in-limit s (subst (λ (x : ℕ). s < x) (one_front kind f' f t table) l)
    keeps _ _ _ _ (in_payload f' each' chips limit' j t u' l) =
        let same = one_payload rate each' chips limit' each c limit u' u in
        subst (λ (x : ℕ). 2 * get_or row (2 * (x + j)) 0 + get_or row (suc (2 * (x + j))) 0 ≤ limit')
        (sym (one_front kind f' f t table))
        (subst (λ (x : ℕ). 2 * get_or row (2 * (f + j)) 0 + get_or row (suc (2 * (f + j))) 0 ≤ x) (sym same.2)
        (in-limit' j (subst (λ (x : ℕ). j < x * n) same.0 l)))

    pub stands_so : FrameStands kind rate n sent rec
    stands_so =
        (kept.damage_row kind rate front octet n goes sent rec long (omega (arith, long, same))).2 same usable keeps

-- ---- any frame, any such recording of it
module _ (kind rate phase clock : ℕ) (payload : List ℕ) (w : Written) (chips : List ℕ)
    (s : Sent kind rate phase clock payload w chips) (l : ℕ) (d : LengthOf rate (length payload) l)
    (f each c limit : ℕ) (table : FrontSymbols kind f) (u : PayloadSymbols rate each c limit)
    (rec tail : List ℕ) (usable : Below 5 rec) where
  abbrev n : ℕ
  n = length payload

  abbrev row_of : ℕ → ℕ → List ℕ
  row_of m x = frame_damage (kind_of kind) (rate_of rate) m (take x chips) rec

  sent_long : length (take w.chips chips) ≡ s.sendable.front + s.sendable.octet * n
  sent_long =
      back.taken_long kind rate phase clock payload w chips s
      ∙ back.w_chips kind rate phase clock payload w chips s
      ∙ back.size kind rate phase clock payload w chips s

  -- the whole frame: read back, and counted
  module _ (e : length rec ≡ w.chips)
      (few : (x : ℕ) → x < f
      → 2 * get_or (row_of n w.chips) (2 * x) 0 + get_or (row_of n w.chips) (suc (2 * x)) 0 ≤ 10)
      (few' : (j : ℕ) → j < each * n
      → 2 * get_or (row_of n w.chips) (2 * (f + j)) 0 + get_or (row_of n w.chips) (suc (2 * (f + j))) 0 ≤ limit) where
    whole_stands : FrameStands kind rate n (take w.chips chips) rec
    whole_stands =
        stands_so kind rate s.sendable.front s.sendable.octet n s.sendable.goes (take w.chips chips) rec
        (omega (arith, sent_long)) (e ∙ sym (back.taken_long kind rate phase clock payload w chips s)) usable f each c
        limit table u few few'

    pub row_read : (room : ℕ) (a : Record) (left : List ℕ) → ReadHard kind (rec ++ tail) room a left → n ≤ room
        → (a.number ≡ 0) × (left ≡ payload ++ replicate (room - n) 0)
    row_read room a left r h =
        let told = (kept.spoiled_read_back kind rate phase clock payload w chips s l d rec tail whole_stands room a left
        r).0 h in
        (ap (λ (b : Record). b.number) told.0, told.2)

    pub row_counted : (p : Report) (q : Counted) → Limits p → FullRows p → Adds p kind (rec ++ tail) q → q.number ≡ 0
    row_counted p q within rows adds =
        (kept.spoiled_counted kind rate phase clock payload w chips s l d rec tail whole_stands p q within rows adds).0

  -- the front alone, as a frame of no octets: told, and found
  module _ (e : length rec ≡ s.sendable.front)
      (few : (x : ℕ) → x < f
      → 2 * get_or (row_of 0 s.sendable.front) (2 * x) 0 + get_or (row_of 0 s.sendable.front) (suc (2 * x)) 0
      ≤ 10) where
    begun : length (take s.sendable.front chips) ≡ s.sendable.front
    begun = begun_long kind rate phase clock payload w chips s

    no_octets : (b : ℕ) → s.sendable.front + b * 0 ≤ length (take s.sendable.front chips)
    no_octets b = omega (arith, mul-zero b, begun)

    front_stands : FrameStands kind rate 0 (take s.sendable.front chips) rec
    front_stands =
        stands_so kind rate s.sendable.front s.sendable.octet 0 s.sendable.goes
        (take s.sendable.front chips) rec (no_octets s.sendable.octet) (e ∙ sym begun) usable
        f each c limit table u few (λ j g. absurd (omega (arith, g)))

    pub row_told : (x : Coming) → ReadFront kind (rec ++ tail) x → s.sendable.octet * n ≤ length tail
        → x ≡ told_coming rate l (shown clock) n s.sendable.front (s.sendable.octet * n)
    row_told x r h =
        ((kept.spoiled_told kind rate phase clock payload w chips s l d rec tail front_stands x r).0 h).0

    pub row_found : (before : List ℕ) (offsets : ℕ) (x : Found) → length before < offsets → offsets ≤ 4096
        → Finds kind offsets (before ++ (rec ++ tail)) x → x.offset ≤ length before
    row_found before offsets x below most r =
        (kept.spoiled_found kind rate phase clock payload w chips s l d rec tail front_stands before offsets x below
        most r).1

-- ---- the row of any two rows, long enough: by each symbol's own chips
pub row_any : (kind rate front octet n : ℕ) → Goes kind rate front octet → (sent rec : List ℕ)
    → front + octet * n ≤ length sent → front + octet * n ≤ length rec
    → (s at chips limit : ℕ) → SymbolAt kind rate n s at chips limit → 1 ≤ chips
    → (get_or (frame_damage (kind_of kind) (rate_of rate) n sent rec) (2 * s) 0
    ≡ wrong (take chips (drop at sent)) (take chips (drop at rec)))
    × (get_or (frame_damage (kind_of kind) (rate_of rate) n sent rec) (suc (2 * s)) 0 ≡ lost (take chips (drop at rec)))
row_any kind rate front octet n goes sent rec hs hr s at chips limit is some =
    let own = (kept.damage_row kind rate front octet n goes sent rec hs hr).1 s at chips limit is in
    let last = (kept.in_one_symbol kind rate front octet n (at + chips - 1) goes).2 s at chips limit
    (record { symbol = is; from = omega arith; to = omega arith }) in (
      many_once own.0 (wrong_many chips at sent rec (omega (arith, last, hs)) (omega (arith, last, hr))),
      many_once own.1 (lost_many chips at rec (omega (arith, last, hr))),
    )
