-- A part at the end of its m-th octet: the line, the smallest lead and the octets.
--     Stands                         what is known there
--     done_is                        the octets that are whole, by the chips
--     resume, held_is                from a part that goes on, cut at its last whole octet
--     stands_goes                    and back
--     stands_longer, stands_ear      chips behind it change nothing
--     stands_more                    w octets more
-- Assumes nothing.
use mathlib.Core.Path.{◌≡◌, refl, sym, ap, ap₂, subst, ◌∙◌}
use mathlib.Core.List.{List, ◌++◌, append_assoc}
use Prim.Native.Nat.{ℕ, ◌+◌, ◌-◌, ◌*◌, ◌/◌, ◌%◌, ◌≤◌, ◌<◌}
use native.Mathlib.Omega.{arith}
use lib.ListN.{length, take, drop, length-append, length-drop, length-replicate, replicate-append-replicate}
use lib.Seq.{take-take, take_at, drop_at, drop-drop, length-take-le}
use Rattle.rules_rates.specs.declared.Rate.{Rate}
use Rattle.rules_rates.specs.declared.Rate.TheVariants.{One, Two, Five, Eleven}
use Rattle.rules_rates.specs.Rates.{symbol_bits, octet_symbols, octet_chips}
use Rattle.rules_chips.specs.Chips.{Taken, hard_recording}
use Rattle.rules_chips.proofs.Recorders.{length_hard, append_hard}
use Rattle.rules_bits.specs.Bits.{octets_of}
use Rattle.rules_bits.specs.Growths.{heard, last_heard}
use Rattle.rules_bits.specs.Scrambler.{descramble}
use Rattle.rules_bits.specs.Code.{past_of, past_after}
use Rattle.rules_bits.proofs.Bits.{octets_length}
use Rattle.rules_bits.proofs.Heard.{last_heard_append}
use Rattle.rules_bits.proofs.Scrambler.{past_append, descramble_window}
use Rattle.rules_frame.specs.declared.Kind.{Kind}
use Rattle.rules_frame.specs.Frame.{start}
use Rattle.rules_calls.specs.declared.Least.{Least}
use Rattle.rules_reading.specs.Leads.{lead_at, decided_leads, least_from}
use Rattle.rules_reading.specs.Reading.{decided_words}
use Rattle.rules_reading.proofs.Passes.{past_take}
use Rattle.rules_receiving.specs.declared.Ear.{Ear}
use Rattle.rules_receiving.specs.Yet.{zeros}
use Rattle.rules_receiving.specs.Sections.{
  Section,
  words_to,
  heard_to,
  least_to,
  octets_to,
  words_yet,
  octets_done,
  octet_end,
  GoesOn,
}
use Rattle.rules_receiving.proofs.Advance.{
  words_same,
  least_same,
  heard_same,
  octets_same,
  words_more,
  least_more,
  heard_more,
  octets_more,
}

pub record Stands (k : Kind) (p : Section) (m : ℕ) (rec : List Taken) (e : Ear) (out : List ℕ) : Type 0 where
  pub at_phase : e.phase ≡ last_heard p.rate p.phase (words_to p rec m)
  pub behind : take 7 (past_of e.past) ≡ take 7 (past_after (start k) (heard_to p rec m))
  pub least : lead_at e.lead e.symbol ≡ least_to p rec m
  pub octets : out ≡ octets_to p rec k m ++ zeros (length out - m)

-- ---- the octets that are whole

pub done_is : (p : Section) (m h : ℕ) (rec : List Taken) → length rec ≡ p.from + octet_chips p.rate * m + h
    → h < octet_chips p.rate → octets_done p rec ≡ m
done_is p m h rec e l =
    ap (λ (x : ℕ). x / octet_chips p.rate) (less (octet_chips p.rate * m) e) ∙ by p.rate l
  where
    less : (x : ℕ) → length rec ≡ p.from + x + h → length rec - p.from ≡ x + h
    less x f = omega arith

    by : (r : Rate) → h < octet_chips r → (octet_chips r * m + h) / octet_chips r ≡ m
    by One b = omega arith
    by Two b = omega arith
    by Five b = omega arith
    by Eleven b = omega arith

-- ---- from a part that goes on, and back

module _
    (k : Kind) (p : Section) (m : ℕ) (fed held : List ℕ) (e : Ear) (hold out : List ℕ)
    (at : length fed ≡ p.from + octet_chips p.rate * m) (part : length held < octet_chips p.rate)
    (g : GoesOn k p (fed ++ held) e hold out) where
  abbrev rec : List Taken
  rec = hard_recording fed

  abbrev more : List Taken
  more = hard_recording held

  at_end : length rec ≡ p.from + octet_chips p.rate * m
  at_end = length_hard fed ∙ at

  octets_are : octets_done p (hard_recording (fed ++ held)) ≡ m
  octets_are =
      done_is p m (length held) (hard_recording (fed ++ held))
      (length_hard (fed ++ held) ∙ length-append fed held ∙ ap (λ (i : ℕ). i + length held) at) part

  stands : Stands k p m (rec ++ more) e out
  stands =
      subst (λ (cs : List Taken). Stands k p m cs e out) (append_hard fed held)
      (subst (λ (i : ℕ). Stands k p i (hard_recording (fed ++ held)) e out) octets_are
      (record { at_phase = g.at_phase; behind = g.behind; least = g.least; octets = g.octets }))

  pub resume : Stands k p m rec e out
  resume = record {
    at_phase = stands.at_phase
        ∙ ap (last_heard p.rate p.phase) (words_same p m rec more at_end);
    behind = stands.behind
        ∙ ap (λ (bs : List ℕ). take 7 (past_after (start k) bs)) (heard_same p m rec more at_end);
    least = stands.least ∙ least_same p m rec more at_end;
    octets = stands.octets
        ∙ ap (λ (xs : List ℕ). xs ++ zeros (length out - m)) (octets_same p m rec more at_end k);
  }

  pub held_is : take (length held) hold ≡ held
  held_is =
      let end : octet_end p (hard_recording (fed ++ held)) ≡ length fed =
      ap (λ (i : ℕ). p.from + octet_chips p.rate * i) octets_are ∙ sym at in
      let rest : length (fed ++ held) - length fed ≡ length held = omega (arith, length-append fed held) in
      ap (λ (i : ℕ). take i hold) (sym rest)
      ∙ subst (λ (i : ℕ). take (length (fed ++ held) - i) hold ≡ drop i (fed ++ held)) end g.held
      ∙ drop_at fed held (length fed) refl

pub stands_goes : (k : Kind) (p : Section) (m h : ℕ) (fed : List ℕ) (e : Ear) (hold out : List ℕ)
    → length fed ≡ p.from + octet_chips p.rate * m + h → h < octet_chips p.rate
    → Stands k p m (hard_recording fed) e out
    → take h hold ≡ drop (p.from + octet_chips p.rate * m) fed
    → (p.rate ≡ One → e.last ≡ last_heard One p.phase (words_yet p (hard_recording fed)))
    → GoesOn k p fed e hold out
stands_goes k p m h fed e hold out size part s held last =
    let d : octets_done p (hard_recording fed) ≡ m = done_is p m h (hard_recording fed) (length_hard fed ∙ size) part in
    let s : Stands k p (octets_done p (hard_recording fed)) (hard_recording fed) e out =
    subst (λ (i : ℕ). Stands k p i (hard_recording fed) e out) (sym d) s in
    record {
      at_phase = s.at_phase;
      behind = s.behind;
      least = s.least;
      octets = s.octets;
      held =
          subst (λ (i : ℕ). take (length fed - (p.from + octet_chips p.rate * i)) hold
          ≡ drop (p.from + octet_chips p.rate * i) fed) (sym d)
          (ap (λ (i : ℕ). take i hold) (rest (octet_chips p.rate * m) size) ∙ held);
      last_is = last;
    }
  where
    rest : (x : ℕ) → length fed ≡ p.from + x + h → length fed - (p.from + x) ≡ h
    rest x f = omega arith

-- ---- chips behind it

pub stands_ear : {k : Kind} {p : Section} {m : ℕ} {rec : List Taken} {e : Ear} {out : List ℕ} (u : Ear)
    → Stands k p m rec e out → u.past ≡ e.past → u.phase ≡ e.phase → u.lead ≡ e.lead → u.symbol ≡ e.symbol
    → Stands k p m rec u out
stands_ear u s a b c d = record {
  at_phase = b ∙ s.at_phase;
  behind = ap (λ (i : ℕ). take 7 (past_of i)) a ∙ s.behind;
  least = ap₂ {C = Least} lead_at c d ∙ s.least;
  octets = s.octets;
}

module _
    (k : Kind) (p : Section) (m : ℕ) (rec more : List Taken) (e : Ear) (out : List ℕ)
    (at : length rec ≡ p.from + octet_chips p.rate * m) (s : Stands k p m rec e out) where
  pub stands_longer : Stands k p m (rec ++ more) e out
  stands_longer = record {
    at_phase = s.at_phase ∙ ap (last_heard p.rate p.phase) (sym (words_same p m rec more at));
    behind = s.behind
        ∙ ap (λ (bs : List ℕ). take 7 (past_after (start k) bs)) (sym (heard_same p m rec more at));
    least = s.least ∙ sym (least_same p m rec more at);
    octets = s.octets
        ∙ ap (λ (xs : List ℕ). xs ++ zeros (length out - m)) (sym (octets_same p m rec more at k));
  }

  -- w octets more
  module _
      (even : p.first % 2 ≡ 0) (w : ℕ) (u : Ear) (y : List ℕ) (room : m + w ≤ length out) where
    abbrev symbol : ℕ
    symbol = p.first + octet_symbols p.rate * m

    abbrev new : List ℕ
    new = decided_words p.rate (8 * w / symbol_bits p.rate) more

    abbrev bits : List ℕ
    bits = heard p.rate symbol e.phase new

    -- the same bits, heard from the phase behind the m octets
    same : bits ≡ heard p.rate symbol (last_heard p.rate p.phase (words_to p rec m)) new
    same = ap (λ (i : ℕ). heard p.rate symbol i new) s.at_phase

    all_heard : heard_to p (rec ++ more) (m + w) ≡ heard_to p rec m ++ bits
    all_heard = heard_more p m rec more at even w ∙ ap (λ (bs : List ℕ). heard_to p rec m ++ bs) (sym same)

    all_octets : octets_to p (rec ++ more) k (m + w)
        ≡ octets_to p rec k m ++ octets_of w (descramble (past_of e.past) bits)
    all_octets =
        octets_more p m rec more at even w k
        ∙ ap (λ (bs : List ℕ). octets_to p rec k m ++ octets_of w bs)
        (ap (descramble (past_after (start k) (heard_to p rec m))) (sym same)
        ∙ sym (descramble_window (past_of e.past) (past_after (start k) (heard_to p rec m)) bits s.behind))

    pub stands_more : past_of u.past ≡ take 8 (past_after (past_of e.past) bits)
        → u.phase ≡ last_heard p.rate e.phase new
        → lead_at u.lead u.symbol
        ≡ least_from symbol (lead_at e.lead e.symbol) (decided_leads p.rate (8 * w / symbol_bits p.rate) more)
        → y ≡ octets_of w (descramble (past_of e.past) bits)
        → Stands k p (m + w) (rec ++ more) u (take m out ++ (y ++ drop (m + w) out))
    stands_more past phase least octets = record {
      at_phase =
          phase ∙ ap (λ (i : ℕ). last_heard p.rate i new) s.at_phase
          ∙ sym (last_heard_append p.rate p.phase (words_to p rec m) new)
          ∙ ap (last_heard p.rate p.phase) (sym (words_more p m rec more at w));
      behind =
          let b = past_after (start k) (heard_to p rec m) in
          ap (take 7) past
          ∙ take-take 7 8 (past_after (past_of e.past) bits) (omega arith)
          ∙ sym (past_take 7 (past_of e.past) bits)
          ∙ ap (λ (q : List ℕ). take 7 (past_after q bits)) s.behind
          ∙ past_take 7 b bits
          ∙ ap (take 7) (sym (past_append (start k) (heard_to p rec m) bits)
          ∙ ap (past_after (start k)) (sym all_heard));
      least =
          least
          ∙ ap (λ (b : Least). least_from symbol b (decided_leads p.rate (8 * w / symbol_bits p.rate) more))
          s.least
          ∙ sym (least_more p m rec more at w);
      octets = filled;
    }
      where
        first : take m out ≡ octets_to p rec k m
        first = ap (take m) s.octets ∙ take_at (octets_to p rec k m) _ m (octets_length m _)

        parts : length out - m ≡ w + (length out - (m + w))
        parts = omega arith

        rest : drop (m + w) out ≡ zeros (length out - (m + w))
        rest =
            sym (drop-drop w m out)
            ∙ ap (drop w)
            (ap (drop m) s.octets ∙ drop_at (octets_to p rec k m) _ m (octets_length m _)
            ∙ ap zeros parts ∙ sym (replicate-append-replicate w (length out - (m + w)) 0))
            ∙ drop_at (zeros w) (zeros (length out - (m + w))) w (length-replicate w 0)

        long : length (take m out ++ (y ++ drop (m + w) out)) ≡ length out
        long =
            length-append (take m out) (y ++ drop (m + w) out)
            ∙ ap₂ {C = ℕ} (λ a b. a + b) (length-take-le m out (omega arith))
            (length-append y (drop (m + w) out)
            ∙ ap₂ {C = ℕ} (λ a b. a + b) (ap length octets ∙ octets_length w _) (length-drop (m + w) out))
            ∙ omega arith

        filled : take m out ++ (y ++ drop (m + w) out)
            ≡ octets_to p (rec ++ more) k (m + w) ++ zeros (length (take m out ++ (y ++ drop (m + w) out)) - (m + w))
        filled =
            ap₂ {C = List ℕ} (λ a b. a ++ b) first (ap₂ {C = List ℕ} (λ a b. a ++ b) octets rest)
            ∙ sym (append_assoc (octets_to p rec k m) (octets_of w (descramble (past_of e.past) bits)) _)
            ∙ ap₂ {C = List ℕ} (λ a b. a ++ zeros (b - (m + w))) (sym all_octets) (sym long)
