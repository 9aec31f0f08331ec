-- The first of 64 numbers are by a rule, as far as m of them: put one at a time or sixteen at a time. Numbers decided
-- and their leads are such.
-- Assumes nothing.
use mathlib.Core.Path.{◌≡◌, sym, ap, ◌∙◌, subst}
use mathlib.Core.List.{List}
use Prim.Native.Nat.{ℕ, ◌+◌, ◌*◌, ◌-◌, ◌≤◌, ◌<◌}
use native.Mathlib.Decide.{dec_lt}
use native.Mathlib.Omega.{arith}
use lib.ListN.{length, get_or, set, length-set}
use lib.Seq.{get_or-set_same, get_or-set_other}
use Rattle.base.specs.Tables.{tabulate}
use Rattle.base.proofs.Tables.{length_tabulate, get_or_tabulate}
use Rattle.rules_rates.specs.declared.Rate.{Rate}
use Rattle.rules_rates.specs.declared.Rate.TheVariants.{One, Two}
use Rattle.rules_rates.specs.Rates.{symbol_chips}
use Rattle.rules_chips.specs.Chips.{Taken}
use Rattle.rules_symbols.specs.Choice.{decided, lead_of}
use Rattle.rules_choosing.proofs.Decided.{decided_barker}
use Rattle.rules_choosing.proofs.Leads.{lead_barker}
use Rattle.choose_recorded.specs.Recorded.{symbol_at, DecidedAt, LeadsAt, Put}

module _ (g : ℕ → ℕ) (m : ℕ) where
  pub record Firsts (ns : List ℕ) (l : ℕ) : Type 0 where
    pub long : length ns ≡ 64
    pub each : (j : ℕ) → j < l → j < m → get_or ns j 0 ≡ g j

  pub firsts_none : (ns : List ℕ) → length ns ≡ 64 → Firsts ns 0
  firsts_none ns e = record { long = e; each = λ j h k. absurd (omega arith) }

  -- one more
  pub firsts_more : {ns : List ℕ} {l : ℕ} (v : ℕ) → l < 64 → v ≡ g l → Firsts ns l → Firsts (set ns l v) (l + 1)
  firsts_more {ns} {l} v h e u = record { long = length-set ns l v ∙ u.long; each = λ j k b. by j k b (dec_lt j l) }
    where
      by : (j : ℕ) → j < l + 1 → j < m → Dec (j < l) → get_or (set ns l v) j 0 ≡ g j
      by j k b (yes p) = get_or-set_other ns l j v 0 (λ q. omega arith) ∙ u.each j p b
      by j k b (no p) =
          let q : l ≡ j = omega arith in
          subst (λ (n : ℕ). get_or (set ns l v) n 0 ≡ g n) q (get_or-set_same ns l v 0 (omega (arith, u.long)) ∙ e)

  -- sixteen more
  pub firsts_sixteen : (f : ℕ → ℕ) {before after : List ℕ} {l : ℕ} → Firsts before l → Put f l before after 16
      → ((s : ℕ) → s < 16 → l + s < m → f s ≡ g (l + s)) → Firsts after (l + 16)
  firsts_sixteen f {before} {after} {l} u p e = record { long = p.long; each = λ j h b. by j h b (dec_lt j l) }
    where
      by : (j : ℕ) → j < l + 16 → j < m → Dec (j < l) → get_or after j 0 ≡ g j
      by j h b (yes q) = p.kept j q ∙ u.each j q b
      by j h b (no q) =
          let d : l + (j - l) ≡ j = omega arith in
          subst (λ (n : ℕ). get_or after n 0 ≡ g n) d
          (p.each (j - l) (omega arith) ∙ e (j - l) (omega arith) (omega arith))

-- ---- of symbols from a place
module _ (r : Rate) (rec : List Taken) (at : ℕ) where
  abbrev pub number_at : ℕ → ℕ
  number_at l = decided r (symbol_at r rec (at + symbol_chips r * l))

  abbrev pub lead_at : ℕ → ℕ
  lead_at l = lead_of r (symbol_at r rec (at + symbol_chips r * l))

  pub all_decided : {m : ℕ} {ns : List ℕ} {l : ℕ} → Firsts number_at m ns l → m ≤ l → DecidedAt r rec at m ns
  all_decided u h = record { long = u.long; number = λ j b. u.each j (omega arith) b }

  pub all_leads : {m : ℕ} {ls : List ℕ} {l : ℕ} → Firsts lead_at m ls l → m ≤ l → LeadsAt r rec at m ls
  all_leads u h = record { long = u.long; lead = λ j b. u.each j (omega arith) b }

  -- leads put as numbers g of which counts are t times, and then all 64 in counts
  pub leads_times : (t : ℕ) {g : ℕ → ℕ} {m : ℕ} {ns ls : List ℕ} {l : ℕ} → Firsts g m ns l → m ≤ l → m ≤ 64
      → ls ≡ tabulate (λ k. t * get_or ns k 0) 64 → ((j : ℕ) → j < m → t * g j ≡ lead_at j) → LeadsAt r rec at m ls
  leads_times t {g} {m} {ns} {ls} u h few e is = record {
    long = ap length e ∙ length_tabulate (λ k. t * get_or ns k 0) 64;
    lead = λ j b.
        ap (λ (xs : List ℕ). get_or xs j 0) e
        ∙ get_or_tabulate (λ k. t * get_or ns k 0) 64 j 0 (omega arith)
        ∙ ap (λ (x : ℕ). t * x) (u.each j (omega arith) b)
        ∙ is j b;
  }

-- at 1 and at 2 Mbit/s the same
pub decided_two : (rec : List Taken) (at m : ℕ) (ns : List ℕ) → DecidedAt One rec at m ns → DecidedAt Two rec at m ns
decided_two rec at m ns d = record { long = d.long; number = λ l h. d.number l h ∙ sym (decided_barker _) }

pub leads_two : (rec : List Taken) (at m : ℕ) (ls : List ℕ) → LeadsAt One rec at m ls → LeadsAt Two rec at m ls
leads_two rec at m ls d = record { long = d.long; lead = λ l h. d.lead l h ∙ sym (lead_barker _) }
