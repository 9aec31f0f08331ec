-- Uses of the statements about spoiled frames, as they are kept: of any frame, any counts that the limits allow and any
-- symbol, so that no statement can be said of nothing and none can lose a part. Assumes nothing.
use mathlib.Core.Path.{◌≡◌, refl, sym, ap, ◌∙◌, subst}
use mathlib.Core.List.{List, ◌++◌}
use Prim.Native.Nat.{ℕ, suc, ◌+◌, ◌-◌, ◌*◌, ◌≤◌, ◌<◌}
use native.Mathlib.Nat.{mul-zero}
use native.Mathlib.Omega.{arith}
use lib.ListN.{length, get_or, take, replicate}
use Rattle.base.specs.Below.{Below}
use Rattle.base.proofs.Below.{below_take}
use Rattle.base.proofs.SoMany.{many_once}
use Rattle.rules_rates.specs.Rates.{rate_of}
use Rattle.rules_rates.specs.Plain.{LengthOf}
use Rattle.rules_frame.specs.Frame.{kind_of}
use Rattle.rules_calls.specs.declared.Written.{Written}
use Rattle.rules_calls.specs.declared.Record.{Record}
use Rattle.rules_coming.specs.declared.Coming.{Coming}
use Rattle.rules_finding.specs.declared.Found.{Found}
use Rattle.rules_report.specs.declared.Report.{Report}
use Rattle.rules_report.specs.declared.Counted.{Counted}
use Rattle.rules_report.specs.Report.{Limits}
use Rattle.rules_report.specs.Shares.{rates, FullRows}
use Rattle.rules_damage.specs.Damage.{frame_damage}
use Rattle.rules_damage.specs.Plain.{FrontSymbols, PayloadSymbols, SymbolAt, SpoiledBy}
use Rattle.promises.specs.Calls.{ReadHard, ReadFront, Handed, Finds, refused, shown, Sent}
use Rattle.promises.specs.Coming.{refused_coming, told_coming}
use Rattle.promises.specs.Finding.{start_found}
use Rattle.promises.proofs.Back as back
use Rattle.promises.proofs.SentTold.{begun_is, begun_long}
use Rattle.promises_report.specs.Calls.{Adds}
use Rattle.promises_damage.proofs.Kept.{kept}

-- ---- any frame, every symbol of which has so many wrong and lost chips
module _ (kind rate phase clock : ℕ) (payload : List ℕ) (sw : Written) (chips : List ℕ)
    (s : Sent kind rate phase clock payload sw chips) (l : ℕ) (d : LengthOf rate (length payload) l)
    (each c limit : ℕ) (u : PayloadSymbols rate each c limit) (w t w' t' : ℕ) (few : 2 * w + t ≤ 10)
    (few' : 2 * w' + t' ≤ limit) where
  abbrev n : ℕ
  n = length payload

  abbrev front : ℕ
  front = s.sendable.front

  abbrev count : ℕ
  count = s.sendable.octet * n

  abbrev sent : List ℕ
  sent = take sw.chips chips

  phases : Below 4 sent
  phases =
      subst (λ (x : List ℕ). Below 4 x) (sym (back.taken kind rate phase clock payload sw chips s))
      (back.phases kind rate phase clock payload sw chips s)

  sent_long : length sent ≡ front + count
  sent_long =
      back.taken_long kind rate phase clock payload sw chips s
      ∙ back.w_chips kind rate phase clock payload sw chips s
      ∙ back.size kind rate phase clock payload sw chips s

  pub whole : SpoiledBy kind rate n sent w t w' t'
  whole =
      kept.any_damage kind rate front s.sendable.octet n each c limit s.sendable.goes u sent phases sent_long
      w t w' t' few few'

  -- it is read back, and its row of damage has just these numbers
  pub read_through : (tail : List ℕ) (room : ℕ) (a : Record) (left : List ℕ)
      → ReadHard kind (whole.rec ++ tail) room a left
      → (n ≤ room
      → (a.number ≡ 0) × (a.rate ≡ rate) × (a.length ≡ l) × (a.n ≡ n) × (a.used ≡ sw.chips)
      × (a.clock ≡ shown clock) × (a.place ≡ 0) × (1024 ≤ a.lead) × (left ≡ payload ++ replicate (room - n) 0))
      × (room < n → (a ≡ refused 17 l) × (left ≡ replicate room 0))
  read_through tail room a left f =
      let told = kept.spoiled_read_back kind rate phase clock payload sw chips s l d whole.rec tail whole.stands
      room a left f in (
        (λ h.
            let e = (told.0 h).0 in (
              ap (λ (b : Record). b.number) e,
              ap (λ (b : Record). b.rate) e,
              ap (λ (b : Record). b.length) e,
              ap (λ (b : Record). b.n) e,
              ap (λ (b : Record). b.used) e,
              ap (λ (b : Record). b.clock) e,
              ap (λ (b : Record). b.place) e,
              (told.0 h).1,
              (told.0 h).2,
            )),
        told.1,
      )

  abbrev row : List ℕ
  row = frame_damage (kind_of kind) (rate_of rate) n sent whole.rec

  rec_long : length whole.rec ≡ front + count
  rec_long = whole.stands.same_length ∙ sent_long

  pub row_front : (f x at chips' limit' : ℕ) → FrontSymbols kind f → SymbolAt kind rate n x at chips' limit' → x < f
      → (length row ≡ 2 * (f + each * n)) × (get_or row (2 * x) 0 ≡ w) × (get_or row (suc (2 * x)) 0 ≡ t)
  row_front f x at chips' limit' table is below =
      let counted = kept.damage_row kind rate front s.sendable.octet n s.sendable.goes sent whole.rec
      (omega (arith, sent_long)) (omega (arith, rec_long)) in
      let own = whole.in_the_front f x at chips' limit' table is below in (
        counted.0 f each c limit table u,
        many_once (counted.1 x at chips' limit' is).0 own.0,
        many_once (counted.1 x at chips' limit' is).1 own.1,
      )

  pub row_payload : (f x at chips' limit' : ℕ) → FrontSymbols kind f → SymbolAt kind rate n x at chips' limit' → f ≤ x
      → (get_or row (2 * x) 0 ≡ w') × (get_or row (suc (2 * x)) 0 ≡ t')
  row_payload f x at chips' limit' table is from =
      let counted = kept.damage_row kind rate front s.sendable.octet n s.sendable.goes sent whole.rec
      (omega (arith, sent_long)) (omega (arith, rec_long)) in
      let own = whole.in_the_payload f x at chips' limit' table is from in (
        many_once (counted.1 x at chips' limit' is).0 own.0,
        many_once (counted.1 x at chips' limit' is).1 own.1,
      )

  -- ---- it is counted as the frame that it was
  pub counted_through : (tail : List ℕ) (p : Report) (q : Counted) → Limits p → FullRows p
      → Adds p kind (whole.rec ++ tail) q
      → (q.number ≡ 0)
      × ((j : ℕ) → j < 4 → get_or rates j 0 ≡ rate
      → (get_or q.report.frames j 0 ≡ get_or p.frames j 0 + 1)
      × (get_or q.report.octets j 0 ≡ get_or p.octets j 0 + n))
      × (kind ≡ 0 → q.report.airtime ≡ p.airtime + (192 + l))
      × ((kind ≡ 0 → ⊥) → q.report.airtime ≡ p.airtime + (96 + l))
      × (p.some ≡ 0 → 1024 ≤ q.report.lead)
      × (q.report.seen ≡ p.seen + 1)
      × ((j : ℕ) → j < 4 → (get_or rates j 0 ≡ rate → ⊥)
      → (get_or q.report.frames j 0 ≡ get_or p.frames j 0 + 0)
      × (get_or q.report.octets j 0 ≡ get_or p.octets j 0 + 0))
      × ((number : ℕ) → number < 18 → get_or q.report.refused number 0 ≡ get_or p.refused number 0 + 0)
  counted_through tail p q within rows adds =
      let told = kept.spoiled_counted kind rate phase clock payload sw chips s l d whole.rec tail whole.stands
      p q within rows adds in
      let more = told.1.one_more in (
        told.0,
        (λ j h e. (
          more.frames_more j 1 h ((λ x. refl), λ g. absurd (g (refl, sym e))),
          more.octets_more j n h ((λ x. refl), λ g. absurd (g (refl, sym e))),
        )),
        (λ e. more.airtime_more (192 + l) (record {
          long = λ x y. refl;
          short = λ x y. absurd (y e);
          refused = λ x. absurd (x refl);
        })),
        (λ e. more.airtime_more (96 + l) (record {
          long = λ x y. absurd (e y);
          short = λ x y. refl;
          refused = λ x. absurd (x refl);
        })),
        (λ e. subst (λ (x : ℕ). 1024 ≤ x) (sym (more.first_lead refl e).1) told.1.clear),
        more.seen_more,
        (λ j h ne. (
          more.frames_more j 0 h ((λ x. absurd (ne (sym x.1))), λ g. refl),
          more.octets_more j 0 h ((λ x. absurd (ne (sym x.1))), λ g. refl),
        )),
        λ number h. more.refused_more number 0 h ((λ x. absurd (x.0 refl)), λ g. refl),
      )

  -- ---- its front alone, whatever follows it
  abbrev begun : List ℕ
  begun = take front chips

  pub alone : SpoiledBy kind rate 0 begun w t w' t'
  alone =
      kept.any_damage kind rate front s.sendable.octet 0 each c limit s.sendable.goes u begun
      (subst (λ (x : List ℕ). Below 4 x) (sym (begun_is kind rate phase clock payload sw chips s))
      (below_take front (back.phases kind rate phase clock payload sw chips s)))
      (begun_long kind rate phase clock payload sw chips s ∙ no_octets front s.sendable.octet)
      w t w' t' few few'
    where
      no_octets : (a b : ℕ) → a ≡ a + b * 0
      no_octets a b = omega (arith, mul-zero b)

  pub told_through : (tail : List ℕ) (x : Coming) → ReadFront kind (alone.rec ++ tail) x
      → (count ≤ length tail
      → (x ≡ told_coming rate l (shown clock) n front count)
      × ((part : List ℕ) → Handed x (alone.rec ++ tail) part → part ≡ take count tail))
      × (length tail < count → x ≡ refused_coming 16 0 l)
  told_through tail x f =
      kept.spoiled_told kind rate phase clock payload sw chips s l d alone.rec tail alone.stands x f

  pub found_through : (before tail : List ℕ) (offsets : ℕ) (f : Found) → length before < offsets → offsets ≤ 4096
      → Finds kind offsets (before ++ (alone.rec ++ tail)) f
      → (f.number ≡ 0) × (f.offset ≤ length before)
      × (f.offset ≡ length before → f ≡ start_found (length before) rate l (shown clock) n)
  found_through before tail offsets f below most x =
      kept.spoiled_found kind rate phase clock payload sw chips s l d alone.rec tail alone.stands before offsets
      f below most x
