-- The front: a preamble heard, and the header on the same line. What the definition says of all its bits at once is
-- what the two say one after the other.
--     front_known    the two heard are the front heard
-- Assumes nothing.
use mathlib.Core.Path.{◌≡◌, refl, sym, ap, ap₂, subst, ◌∙◌}
use mathlib.Core.List.{List, ◌++◌, append_assoc}
use Rattle.std.specs.Prelude.{Option, Some}
use Prim.Native.Nat.{ℕ, ◌+◌, ◌/◌, ◌%◌}
use native.Mathlib.Omega.{arith}
use lib.ListN.{length, take, drop, take-append-drop, length-drop}
use lib.Seq.{take_all, take_at, drop_at, length-take-le}
use Rattle.rules_rates.specs.declared.Rate.TheVariants.{One, Two}
use Rattle.rules_rates.specs.Rates.{symbol_bits}
use Rattle.rules_chips.specs.Chips.{Taken}
use Rattle.rules_bits.specs.Bits.{octet_bits, octets_of}
use Rattle.rules_bits.specs.Growths.{heard, growths_of, last_heard}
use Rattle.rules_bits.specs.Scrambler.{descramble}
use Rattle.rules_bits.specs.Code.{past_of, past_after}
use Rattle.common_lines.specs.declared.Line.{Line}
use Rattle.rules_bits.proofs.Bits.{octets_bits}
use Rattle.rules_bits.proofs.Scrambler.{
  past_append,
  descramble_append,
  descramble_below,
  descramble_length,
  descramble_window,
}
use Rattle.rules_bits.proofs.Heard.{heard_length, heard_parity}
use Rattle.rules_frame.specs.declared.Kind.{Kind}
use Rattle.rules_frame.specs.declared.Kind.TheVariants.{Long, Short}
use Rattle.rules_frame.specs.Frame.{start, sync_bits, header_rate, preamble_length, header_length, preamble_chips}
use Rattle.rules_reading.specs.Reading.{
  or_else,
  odd_growth,
  preamble_words,
  header_words,
  reference,
  header_phase,
  payload_phase,
  front_odd,
  front_heard,
  front_bits,
}
use Rattle.rules_calls.specs.declared.Least.{Least}
use Rattle.rules_reading.specs.Leads.{decided_leads, least_from}
use Rattle.rules_reading.proofs.Leads.{front_least}
use Rattle.hear_parts.specs.declared.Part.{Part}
use Rattle.hear_blocks.specs.Heard.{received, plain_bits, Heard}
use Rattle.hear_parts.specs.Hearing.{part_words, part_leads, PartHeard}
use Rattle.rules_reading.proofs.Places.{decided_words_length}
use Rattle.hear_parts.proofs.Parts.{plain_length}
use Rattle.read_fronts.specs.declared.Preamble.{Preamble}
use Rattle.read_fronts.specs.Openings.{preamble_heard, PreambleKnown, Opened, FrontKnown}
use Rattle.read_fronts.proofs.Preambles.{preamble_length_lem, goes_on}

header_words_lem : (k : Kind) (rec : List Taken) → part_words (header_rate k) (preamble_chips k) 6 rec ≡ header_words k rec
unfolding header_words
header_words_lem Long rec = refl
header_words_lem Short rec = refl

header_leads_lem : (k : Kind) (rec : List Taken) → part_leads (header_rate k) (preamble_chips k) 6 rec
    ≡ decided_leads (header_rate k) (header_length / symbol_bits (header_rate k)) (drop (preamble_chips k) rec)
header_leads_lem Long rec = refl
header_leads_lem Short rec = refl

header_bits_lem : (k : Kind) (rec : List Taken) (f : ℕ) (l : Line)
    → length (plain_bits (header_rate k) f l (header_words k rec)) ≡ 48
unfolding header_words
header_bits_lem Long rec f l = plain_length One f l _
    ∙ omega (arith, decided_words_length One 48 (drop (preamble_chips Long) rec))
header_bits_lem Short rec f l = plain_length Two f l _
    ∙ omega (arith, decided_words_length Two 24 (drop (preamble_chips Short) rec))

-- the first n bits behind the first m of a row, with more behind them
cut : (a b : List ℕ) (m n : ℕ) → length a ≡ m + n → take n (drop m (a ++ b)) ≡ drop m a
cut a b m n e =
    let left : length (drop m a) ≡ n = length-drop m a ∙ omega arith in
    let whole : a ++ b ≡ take m a ++ (drop m a ++ b) =
    ap (λ (l : List ℕ). l ++ b) (sym (take-append-drop m a)) ∙ append_assoc (take m a) (drop m a) b in
    ap (λ (l : List ℕ). take n (drop m l)) whole
    ∙ ap (take n) (drop_at (take m a) (drop m a ++ b) m (length-take-le m a (omega arith)))
    ∙ take_at (drop m a) b n left

module _
    (k : Kind) (rec : List Taken) (p : Preamble) (c all : Part) (header : List ℕ)
    (x : PreambleKnown k rec p)
    (z : PartHeard (header_rate k) (preamble_chips k) 6 rec p.part.heard.line (preamble_chips k / 11)
    p.part.least c header)
    (pc : (all.heard.line ≡ c.heard.line) × ((all.heard.odd
    ≡ or_else p.part.heard.odd (λ place. Some place) c.heard.odd)
    × (all.least ≡ c.least))) where
  -- the line that the header is heard on
  abbrev L : Line
  L = p.part.heard.line

  -- and the number of its first symbol
  abbrev F : ℕ
  F = preamble_chips k / 11

  header_part : Heard (header_rate k) F (preamble_chips k) L (header_words k rec) c.heard
  header_part =
      subst (λ (ws : List ℕ). Heard (header_rate k) F (preamble_chips k) L ws c.heard)
      (header_words_lem k rec) z.line

  header_heard_lem : received (header_rate k) F L (header_words k rec)
      ≡ heard (header_rate k) 0 (header_phase k rec) (header_words k rec)
  header_heard_lem =
      heard_parity (header_rate k) F 0 L.phase (header_words k rec) (even k)
      ∙ ap (λ (q : ℕ). heard (header_rate k) 0 q (header_words k rec)) x.line.at_phase
    where
      even : (k : Kind) → preamble_chips k / 11 % 2 ≡ 0 % 2
      even Long = refl
      even Short = refl

  all_heard : front_heard k rec ≡ preamble_heard k rec ++ received (header_rate k) F L (header_words k rec)
  unfolding front_heard
  all_heard = sym (ap (λ (bs : List ℕ). preamble_heard k rec ++ bs) header_heard_lem)

  -- the front's bits, part by part
  bits_are : front_bits k rec
      ≡ descramble (start k) (preamble_heard k rec) ++ plain_bits (header_rate k) F L (header_words k rec)
  unfolding front_bits
  bits_are =
      ap (descramble (start k)) all_heard
      ∙ descramble_append (start k) (preamble_heard k rec) (received (header_rate k) F L (header_words k rec))
      ∙ ap (λ (bs : List ℕ). descramble (start k) (preamble_heard k rec) ++ bs)
      (descramble_window (past_after (start k) (preamble_heard k rec)) (past_of L.past)
      (received (header_rate k) F L (header_words k rec)) (sym x.line.past))

  preamble_bits_lem : length (descramble (start k) (preamble_heard k rec)) ≡ sync_bits k + 16
  preamble_bits_lem =
      descramble_length (start k) (preamble_heard k rec)
      ∙ heard_length One 0 (reference k rec) (preamble_words k rec) ∙ omega (arith, preamble_length_lem k rec)

  header_octets : octet_bits header ≡ plain_bits (header_rate k) F L (header_words k rec)
  header_octets =
      let bs = plain_bits (header_rate k) F L (header_words k rec) in
      let long = header_bits_lem k rec F L in
      ap octet_bits
      (z.octets ∙ ap (λ (ws : List ℕ). octets_of 6 (plain_bits (header_rate k) F L ws)) (header_words_lem k rec))
      ∙ octets_bits 6 bs (omega arith) (descramble_below _ _)
      ∙ take_all 48 bs (omega arith)

  opened : Opened k rec c.heard.line
  opened = record {
    at_phase = header_part.phase ∙ ap (λ (q : ℕ). last_heard (header_rate k) q (header_words k rec)) x.line.at_phase
        ∙ (unfold payload_phase in refl);
    small = header_part.small;
    past =
        goes_on (past_after (start k) (preamble_heard k rec)) (header_rate k) F (preamble_chips k) L
        (header_words k rec) c.heard x.line.past header_part
        ∙ ap (take 7) (sym (past_append (start k) (preamble_heard k rec)
        (received (header_rate k) F L (header_words k rec))))
        ∙ ap (λ (bs : List ℕ). take 7 (past_after (start k) bs)) (sym all_heard);
  }

  pub front_known : FrontKnown k rec (record { part = all; sfd = p.sfd; header = header })
  front_known = record {
    odd =
        pc.1.0
        ∙ ap₂ {C = Option ℕ} (λ o q. or_else o (λ place. Some place) q) x.line.odd
        (header_part.place
        ∙ ap (λ (q : ℕ). odd_growth (header_rate k) (preamble_chips k) (growths_of (header_rate k) q (header_words k rec)))
        x.line.at_phase)
        ∙ (unfold front_odd in refl);
    sfd =
        x.sfd
        ∙ sym (ap (λ (bs : List ℕ). take 16 (drop (sync_bits k) bs)) bits_are
        ∙ cut (descramble (start k) (preamble_heard k rec)) _ (sync_bits k) 16 preamble_bits_lem);
    header =
        header_octets
        ∙ sym (ap (drop (preamble_length k)) bits_are
        ∙ drop_at (descramble (start k) (preamble_heard k rec)) _ (preamble_length k) preamble_bits_lem);
    line = rw pc.0 opened;
    least =
        pc.1.1 ∙ z.least
        ∙ ap₂ {C = Least} (least_from (preamble_chips k / 11)) x.least (header_leads_lem k rec) ∙ sym (front_least k rec);
  }
