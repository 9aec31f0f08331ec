-- The word decided and its lead, together: by the word and the one next to it, and of counts that score alike.
-- Assumes nothing.
use mathlib.Core.Path.{◌≡◌, sym, ap, ◌∙◌, subst}
use mathlib.Core.List.{List}
use Prim.Native.Nat.{ℕ, ◌-◌, ◌<◌}
use native.Mathlib.Omega.{arith}
use lib.IntN.{pos}
use lib.Signed.{◌≤ℤ◌, ◌<ℤ◌}
use Rattle.base.proofs.Whole.{add, up_pos, dn_pos}
use Rattle.base.specs.Whole.{up, dn}
use Rattle.rules_rates.specs.declared.Rate.{Rate}
use Rattle.rules_chips.specs.declared.Counts.{Counts}
use Rattle.rules_symbols.specs.Choice.{numbers, decided, lead_of}
use Rattle.rules_choosing.specs.Scores.{score_at, DecidedAs, NextAs, ChosenAs}
use Rattle.rules_choosing.proofs.Decided.{decided_best, decided_is}
use Rattle.rules_choosing.proofs.Leads.{runner_up, runner_next, lead_is, lead_by}

pub chosen_by : (r : Rate) (cs : List Counts) (w m s t : ℕ) → DecidedAs r cs w → NextAs r cs w m
    → score_at r cs w ≡ pos s → score_at r cs m ≡ pos t → ChosenAs r cs w (s - t)
chosen_by r cs w m s t b x es et = (sym (decided_is r cs w b), sym (lead_by r cs w m s t b x es et))

-- ---- counts with the same scores
module _ (r : Rate) (cs ds : List Counts) (e : (n : ℕ) → n < numbers r → score_at r cs n ≡ score_at r ds n) where
  below : DecidedAs r ds (decided r cs)
  below =
      let b = decided_best r cs in
      record {
        among = b.among;
        allowed = b.allowed;
        top = λ m l a. subst (λ z. z ≤ℤ score_at r ds (decided r cs)) (e m l)
            (subst (λ z. score_at r cs m ≤ℤ z) (e (decided r cs) b.among) (b.top m l a));
        first = λ m l a. subst (λ z. z <ℤ score_at r ds (decided r cs)) (e m (omega (arith, b.among)))
            (subst (λ z. score_at r cs m <ℤ z) (e (decided r cs) b.among) (b.first m l a));
      }

  decided_alike : decided r cs ≡ decided r ds
  decided_alike = sym (decided_is r ds (decided r cs) below)

  abbrev m : ℕ
  m = runner_up r cs

  next : NextAs r ds (decided r ds) m
  next =
      let x = runner_next r cs in
      subst (λ (w : ℕ). NextAs r ds w m) decided_alike (record {
        among = x.among;
        allowed = x.allowed;
        other = x.other;
        top = λ j l a d. subst (λ z. z ≤ℤ score_at r ds m) (e j l)
            (subst (λ z. score_at r cs j ≤ℤ z) (e m x.among) (x.top j l a d));
      })

  lead_alike : lead_of r cs ≡ lead_of r ds
  lead_alike =
      let x = runner_next r cs in
      let mine = lead_is r cs m x in
      let theirs = lead_is r ds m next in
      let best = e (decided r cs) (decided_best r cs).among ∙ ap (score_at r ds) decided_alike in
      omega (
        arith,
        ap up mine,
        ap dn mine,
        ap up theirs,
        ap dn theirs,
        ap up best,
        ap dn best,
        ap up (e m x.among),
        ap dn (e m x.among),
        add (score_at r cs m) (pos (lead_of r cs)),
        add (score_at r ds m) (pos (lead_of r ds)),
        up_pos (lead_of r cs),
        dn_pos (lead_of r cs),
        up_pos (lead_of r ds),
        dn_pos (lead_of r ds),
      )

  pub chosen_alike : {w t : ℕ} → ChosenAs r cs w t → ChosenAs r ds w t
  chosen_alike h = (h.0 ∙ decided_alike, h.1 ∙ lead_alike)
