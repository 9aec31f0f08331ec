-- The payload, heard on the line that the front left: its odd growths and its octets are those that the definition
-- finds in all of the frame's bits at once, and the smallest lead that of all of the frame's symbols.
--     payload_odd_lem, payload_octets, payload_least    of n octets heard
--     octets_back                    the part of the buffer that was lent for them, back in its place
-- Assumes nothing.
use mathlib.Core.Path.{◌≡◌, refl, sym, ap, ap₂, ◌∙◌}
use mathlib.Core.List.{List, ◌++◌}
use Prim.Native.Nat.{ℕ, zero, suc, ◌+◌, ◌-◌, ◌*◌, ◌/◌, ◌%◌, ◌≤◌}
use native.Mathlib.Omega.{arith}
use lib.ListN.{length, take, drop, replicate, length-append}
use lib.Seq.{drop_at, length-take-le}
use Rattle.rules_rates.specs.declared.Rate.{Rate}
use Rattle.rules_rates.specs.declared.Rate.TheVariants.{One, Two}
use Rattle.rules_rates.specs.Rates.{symbol_bits}
use Rattle.rules_chips.specs.Chips.{Taken}
use Rattle.rules_bits.specs.Bits.{octets_of}
use Rattle.rules_bits.specs.Growths.{heard, growths_of}
use Rattle.rules_bits.specs.Scrambler.{descramble}
use Rattle.rules_bits.specs.Code.{past_of, past_after}
use Rattle.rules_bits.proofs.Scrambler.{descramble_append, descramble_length, descramble_window}
use Rattle.rules_frame.specs.declared.Kind.{Kind}
use Rattle.rules_frame.specs.declared.Kind.TheVariants.{Long, Short}
use Rattle.rules_frame.specs.Frame.{start, header_rate, front_chips, preamble_length, header_length, preamble_chips}
use Rattle.rules_reading.specs.Reading.{
  odd_growth,
  decided_words,
  preamble_words,
  header_words,
  reference,
  header_phase,
  payload_phase,
  front_heard,
  payload_words,
  payload_odd,
  payload_of,
}
use Rattle.rules_calls.specs.declared.Least.{Least}
use Rattle.rules_reading.specs.Leads.{front_leads, frame_leads, least_from, least_of}
use Rattle.common_lines.specs.declared.Line.{Line}
use Rattle.hear_parts.specs.declared.Part.{Part}
use Rattle.hear_parts.specs.Hearing.{part_leads, PartHeard}
use Rattle.rules_bits.proofs.Heard.{heard_length, heard_parity}
use Rattle.rules_reading.proofs.Places.{decided_words_length}
use Rattle.rules_reading.proofs.Leads.{frame_least}
use Rattle.read_fronts.specs.Openings.{Opened}

-- how many bits the front has
header_bits_lem : (k : Kind) (rec : List Taken) → symbol_bits (header_rate k) * length (header_words k rec) ≡ header_length
unfolding header_words
header_bits_lem Long rec = omega (arith, decided_words_length One 48 (drop (preamble_chips Long) rec))
header_bits_lem Short rec = omega (arith, decided_words_length Two 24 (drop (preamble_chips Short) rec))

preamble_bits_lem : (k : Kind) (rec : List Taken) → 1 * length (preamble_words k rec) ≡ preamble_length k
unfolding preamble_words
preamble_bits_lem k rec = omega (arith, decided_words_length One (preamble_length k) rec)

pub front_length : (k : Kind) (rec : List Taken) → length (front_heard k rec) ≡ preamble_length k + header_length
unfolding front_heard
front_length k rec =
    length-append (heard One 0 (reference k rec) (preamble_words k rec))
    (heard (header_rate k) 0 (header_phase k rec) (header_words k rec))
    ∙ ap₂ {C = ℕ} (λ x y. x + y)
    (heard_length One 0 (reference k rec) (preamble_words k rec) ∙ preamble_bits_lem k rec)
    (heard_length (header_rate k) 0 (header_phase k rec) (header_words k rec) ∙ header_bits_lem k rec)

-- the payload's first symbol is an even one of the frame
even : (k : Kind) → front_chips k / 11 % 2 ≡ 0 % 2
even Long = refl
even Short = refl

module _
    (k : Kind) (r : Rate) (n : ℕ) (rec : List Taken) (l : Line) (b : Least) (p : Part) (out : List ℕ)
    (o : Opened k rec l) (x : PartHeard r (front_chips k) n rec l (front_chips k / 11) b p out) where
  pub payload_odd_lem : p.heard.odd ≡ payload_odd k r n rec
  unfolding payload_odd payload_words
  payload_odd_lem =
      x.line.place
      ∙ ap (λ (p : ℕ). odd_growth r (front_chips k)
      (growths_of r p (decided_words r (8 * n / symbol_bits r) (drop (front_chips k) rec)))) o.at_phase

  pub payload_octets : out ≡ payload_of k r n rec
  unfolding payload_of payload_words
  payload_octets =
      let ws = decided_words r (8 * n / symbol_bits r) (drop (front_chips k) rec) in
      let bits = heard r 0 (payload_phase k rec) ws in
      x.octets
      ∙ ap (λ (bs : List ℕ). octets_of n (descramble (past_of l.past) bs))
      (heard_parity r (front_chips k / 11) 0 l.phase ws (even k) ∙ ap (λ (p : ℕ). heard r 0 p ws) o.at_phase)
      ∙ ap (octets_of n)
      (descramble_window (past_of l.past) (past_after (start k) (front_heard k rec)) bits o.past
      ∙ sym (ap (drop (preamble_length k + header_length)) (descramble_append (start k) (front_heard k rec) bits)
      ∙ drop_at (descramble (start k) (front_heard k rec)) (descramble (past_after (start k) (front_heard k rec)) bits)
      (preamble_length k + header_length)
      (descramble_length (start k) (front_heard k rec) ∙ front_length k rec)))

  pub payload_least : b ≡ least_of (front_leads k rec) → p.least ≡ least_of (frame_leads k r n rec)
  payload_least e =
      x.least
      ∙ ap (λ (y : Least). least_from (front_chips k / 11) y (part_leads r (front_chips k) n rec)) e
      ∙ sym (frame_least k rec r n)

-- the first n octets of a buffer, as they are lent
pub lent_long : (n : ℕ) (d : List ℕ) → n ≤ length d → length (take (n - 0) d) ≡ n
lent_long n d h = length-take-le (n - 0) d (omega arith) ∙ omega arith

drop_replicate : (n room : ℕ) → drop n (replicate {A = ℕ} room 0) ≡ replicate (room - n) 0
drop_replicate zero room = let e : room ≡ room - 0 = omega arith in ap (λ (m : ℕ). replicate m 0) e
drop_replicate (suc n) zero = let e : 0 ≡ 0 - suc n = omega arith in ap (λ (m : ℕ). replicate m 0) e
drop_replicate (suc n) (suc room) =
    let e : room - n ≡ suc room - suc n = omega arith in drop_replicate n room ∙ ap (λ (m : ℕ). replicate m 0) e

pub octets_back : (n : ℕ) (d out xs : List ℕ) → d ≡ replicate (length d) 0 → out ≡ xs → out ++ drop (n - 0) d
    ≡ xs ++ replicate (length d - n) 0
octets_back n d out xs e f =
    let z : n - 0 ≡ n = omega arith in
    ap₂ {C = List ℕ} (λ a b. a ++ b) f (ap (λ (m : ℕ). drop m d) z ∙ ap (drop n) e ∙ drop_replicate n (length d))
