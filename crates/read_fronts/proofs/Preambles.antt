-- The preamble, heard in two parts on one line: the first block, whose first symbol is the reference, and the rest.
--     goes_on           unscrambling goes on from the bits received
--     start_seven       the past that a frame starts from, in an octet
--     sync_heard, preamble_sfd    the two parts heard are the preamble heard
--     rest_lent, rest_room, decided_small    what the second part asks
-- Assumes nothing.
use mathlib.Core.Path.{◌≡◌, refl, sym, ap, ap₂, subst, ◌∙◌}
use mathlib.Core.List.{List, [], ◌∷◌, ◌++◌, append_assoc}
use Rattle.std.specs.Prelude.{Some}
use Prim.Native.Nat.{ℕ, zero, suc, ◌+◌, ◌-◌, ◌*◌, ◌≤◌, ◌<◌}
use native.Mathlib.Nat.{zero-add, suc-add}
use native.Mathlib.Omega.{arith}
use lib.ListN.{length, get_or, take, drop, take-append-drop, length-drop, length-append}
use lib.Seq.{take-take, take_all, take_at, drop_at, length-take-le}
use borrow.Rule.Slice.PartMut.{put_mid}
use Rattle.base.specs.Over.{over}
use Rattle.base.proofs.Below.{below_drop}
use Rattle.rules_rates.specs.declared.Rate.{Rate}
use Rattle.rules_rates.specs.declared.Rate.TheVariants.{One}
use Rattle.rules_chips.specs.Chips.{Taken}
use Rattle.rules_symbols.specs.Choice.{decided}
use Rattle.rules_choosing.proofs.Decided.{decided_below}
use Rattle.rules_bits.specs.Bits.{octet_bits, octets_of}
use Rattle.rules_bits.specs.Growths.{heard, growths_of, last_heard}
use Rattle.rules_bits.specs.Scrambler.{descramble}
use Rattle.rules_bits.specs.Code.{past_of, past_after}
use Rattle.common_lines.specs.declared.Line.{Line}
use Rattle.rules_bits.proofs.Bits.{octets_append, octets_bits, octets_length}
use Rattle.rules_bits.proofs.Scrambler.{descramble_below, descramble_length, descramble_window}
use Rattle.rules_bits.proofs.Heard.{heard_length}
use Rattle.rules_frame.specs.declared.Kind.{Kind}
use Rattle.rules_frame.specs.declared.Kind.TheVariants.{Long, Short}
use Rattle.rules_frame.specs.Frame.{start, sync_bits, preamble_length, front_chips}
use Rattle.rules_reading.specs.Reading.{or_else, odd_growth, decided_words, preamble_words, reference, header_phase}
use Rattle.rules_calls.specs.declared.Least.{Least}
use Rattle.rules_reading.specs.Leads.{least_from, least_of}
use Rattle.choose_recorded.specs.Recorded.{symbol_at, DecidedAt, LeadsAt}
use Rattle.hear_blocks.specs.declared.Hearing.{Hearing}
use Rattle.hear_blocks.specs.Heard.{received, plain_bits, plain_octets, Heard}
use Rattle.hear_parts.specs.declared.Part.{Part}
use Rattle.hear_parts.specs.Hearing.{part_words, part_leads, PartHeard}
use Rattle.rules_reading.proofs.Places.{decided_words_length}
use Rattle.rules_reading.proofs.Leads.{least_of_joined}
use Rattle.rules_reading.proofs.Passes.{past_take}
use Rattle.hear_parts.proofs.Parts.{
  block_words,
  block_leads,
  part_length,
  part_more,
  part_leads_lem,
  part_leads_length,
  blocks_more,
  blocks_octets,
}
use Rattle.common_kinds.specs.Starts.{Starts}
use Rattle.read_fronts.specs.Openings.{sync_octets, preamble_heard, preamble_octets, preamble_leads, PreambleLine}

-- ---- the words

preamble_words_lem : (k : Kind) (rec : List Taken) → part_words One 0 (sync_octets k + 2) rec ≡ preamble_words k rec
unfolding preamble_words
preamble_words_lem Long rec = refl
preamble_words_lem Short rec = refl

preamble_leads_lem : (k : Kind) (rec : List Taken) → part_leads One 0 (sync_octets k + 2) rec ≡ preamble_leads k rec
preamble_leads_lem Long rec = refl
preamble_leads_lem Short rec = refl

reference_is : (k : Kind) (rec : List Taken) → decided One (symbol_at One rec 0) ≡ reference k rec
unfolding reference preamble_words decided_words
reference_is Long rec = refl
reference_is Short rec = refl

rest : (k : Kind) → 8 + (sync_octets k - 6) ≡ sync_octets k + 2
rest Long = refl
rest Short = refl

sync_bits_lem : (k : Kind) → sync_bits k ≡ 8 * sync_octets k
sync_bits_lem Long = refl
sync_bits_lem Short = refl

pub start_seven : (k : Kind) → take 7 (start k ++ 0 ∷ []) ≡ take 7 (start k)
start_seven Long = refl
start_seven Short = refl

pub preamble_length_lem : (k : Kind) (rec : List Taken) → length (preamble_words k rec) ≡ sync_bits k + 16
unfolding preamble_words
preamble_length_lem k rec = decided_words_length One (preamble_length k) rec

-- ---- unscrambling goes on from the bits received

pub goes_on : (s : List ℕ) (r : Rate) (f at : ℕ) (l : Line) (ws : List ℕ) (h : Hearing) → take 7 (past_of l.past)
    ≡ take 7 s → Heard r f at l ws h
    → take 7 (past_of h.line.past) ≡ take 7 (past_after s (received r f l ws))
goes_on s r f at l ws h e x =
    ap (take 7) x.past
    ∙ take-take 7 8 (past_after (past_of l.past) (received r f l ws)) (omega arith)
    ∙ sym (past_take 7 (past_of l.past) (received r f l ws))
    ∙ ap (λ (p : List ℕ). take 7 (past_after p (received r f l ws))) e
    ∙ past_take 7 s (received r f l ws)

-- ---- the last octets of bits

last_octets : (m n : ℕ) (bs : List ℕ) → length bs ≡ 8 * m + 8 * n → drop m (octets_of (m + n) bs)
    ≡ octets_of n (drop (8 * m) bs)
last_octets m n bs e =
    ap (drop m)
    (ap (octets_of (m + n)) (sym (take-append-drop (8 * m) bs))
    ∙ octets_append m n (take (8 * m) bs) (drop (8 * m) bs) (length-take-le (8 * m) bs (omega arith)))
    ∙ drop_at (octets_of m (take (8 * m) bs)) _ m (octets_length m _)

last_bits : (m : ℕ) (p os xs : List ℕ) → length os ≡ 8 * m + 16 → xs ≡ drop m (octets_of (m + 2) (descramble p os))
    → octet_bits xs ≡ drop (8 * m) (descramble p os)
last_bits m p os xs e f =
    let long : length (descramble p os) ≡ 8 * m + 16 = descramble_length p os ∙ e in
    let left : length (drop (8 * m) (descramble p os)) ≡ 16 = length-drop (8 * m) (descramble p os) ∙ omega arith in
    ap octet_bits (f ∙ last_octets m 2 (descramble p os) (long ∙ omega arith))
    ∙ octets_bits 2 (drop (8 * m) (descramble p os)) (omega arith) (below_drop (8 * m) (descramble_below p os))
    ∙ take_all 16 _ (omega arith)

-- what was written in two parts, the first over the buffer's front
two_parts : (a b d o : List ℕ) (m n s : ℕ) → o ≡ over a d → length a ≡ m → length b ≡ n → m + n ≡ s
    → take s (put_mid m n o b) ≡ a ++ b
unfolding over
two_parts a b d o m n s e f g h =
    let front : take m o ≡ a = ap (take m) e ∙ take_at a _ m f in
    ap (λ (l : List ℕ). take s (l ++ (b ++ drop n (drop m o)))) front
    ∙ ap (take s) (sym (append_assoc a b _))
    ∙ take_at (a ++ b) _ s (length-append a b ∙ ap₂ {C = ℕ} (λ i j. i + j) f g ∙ h)

take_drop : (m n : ℕ) (l : List ℕ) → take n (drop m l) ≡ drop m (take (m + n) l)
take_drop zero n l = ap (λ (k : ℕ). take k l) (sym (zero-add n))
take_drop (suc m) n [] = by n ∙ sym (ap (drop (suc m)) (by (suc m + n)))
  where
    by : (n : ℕ) → take {A = ℕ} n [] ≡ []
    by zero = refl
    by (suc n) = refl
take_drop (suc m) n (x ∷ l) = take_drop m n l ∙ ap (λ (k : ℕ). drop (suc m) (take k (x ∷ l))) (sym (suc-add m n))

-- ---- the two parts

module _
    (k : Kind) (rec : List Taken) (ns ls : List ℕ) (l : Line) (f : Least) (a : Hearing) (b p : Part) (d o y : List ℕ)
    (dec : DecidedAt One rec 0 64 ns) (lead : LeadsAt One rec 0 64 ls) (lo : f ≡ least_of (take 64 ls))
    (s : Starts k (get_or ns 0 0) l)
    (x : Heard One 0 0 l (take 64 ns) a) (ox : o ≡ over (plain_octets One 0 8 l (take 64 ns)) d)
    (z : PartHeard One 704 (sync_octets k - 6) rec a.line 64 f b y)
    (ab : (p.heard.line ≡ b.heard.line) × ((p.heard.odd
    ≡ or_else a.odd (λ place. Some place) b.heard.odd) × (p.least ≡ b.least))) where
  abbrev A : List ℕ
  A = part_words One 0 8 rec

  abbrev B : List ℕ
  B = part_words One 704 (sync_octets k - 6) rec

  first_words : take 64 ns ≡ A
  first_words = block_words One 8 8 refl rec 0 ns dec (omega arith)

  first : Heard One 0 0 l A a
  first = subst (λ (ws : List ℕ). Heard One 0 0 l ws a) first_words x

  both_words : A ++ B ≡ preamble_words k rec
  both_words =
      sym (part_more One 0 8 (sync_octets k - 6) rec)
      ∙ ap (λ (n : ℕ). part_words One 0 n rec) (rest k) ∙ preamble_words_lem k rec

  both : Heard One 0 0 l (preamble_words k rec) p.heard
  both =
      subst (λ (ws : List ℕ). Heard One 0 0 l ws p.heard) both_words
      (blocks_more One 0 0 l A B a first b.heard p.heard
      (subst (λ (n : ℕ). Heard One (0 + n) (0 + 11 * n) a.line B b.heard) (sym (part_length One 0 8 rec))
      z.line)
      ab.0 ab.1.0)

  reference_phase : l.phase ≡ reference k rec
  reference_phase = s.at_phase ∙ dec.number 0 (omega arith) ∙ reference_is k rec

  bits : received One 0 l (preamble_words k rec) ≡ preamble_heard k rec
  bits = ap (λ (q : ℕ). heard One 0 q (preamble_words k rec)) reference_phase

  from_start : take 7 (past_of l.past) ≡ take 7 (start k)
  from_start = ap (take 7) s.past ∙ start_seven k

  preamble_octets_lem : take (sync_octets k + 2) (put_mid 8 (sync_octets k - 6) o y) ≡ preamble_octets k rec
  preamble_octets_lem =
      two_parts (plain_octets One 0 8 l A) y d o 8 (sync_octets k - 6) (sync_octets k + 2)
      (ox ∙ ap (λ (ws : List ℕ). over (plain_octets One 0 8 l ws) d) first_words) (octets_length 8 (plain_bits One 0 l A))
      (ap length z.octets ∙ octets_length (sync_octets k - 6) (plain_bits One 64 a.line B)) (rest k)
      ∙ ap (λ (w : List ℕ). plain_octets One 0 8 l A ++ w) z.octets
      ∙ ap (λ (n : ℕ). plain_octets One 0 8 l A ++ plain_octets One (0 + n) (sync_octets k - 6) a.line B)
      (sym (part_length One 0 8 rec))
      ∙ sym (blocks_octets One 0 0 l A B a first 8 (sync_octets k - 6) (part_length One 0 8 rec))
      ∙ ap₂ {C = List ℕ} (λ n ws. plain_octets One 0 n l ws) (rest k) both_words
      ∙ ap (octets_of (sync_octets k + 2))
      (descramble_window (past_of l.past) (start k) (received One 0 l (preamble_words k rec)) from_start
      ∙ ap (descramble (start k)) bits)

  preamble_line : PreambleLine k rec p.heard
  preamble_line = record {
    odd = both.place ∙ ap (λ (q : ℕ). odd_growth One 0 (growths_of One q (preamble_words k rec))) reference_phase;
    at_phase = both.phase ∙ ap (λ (q : ℕ). last_heard One q (preamble_words k rec)) reference_phase
        ∙ (unfold header_phase in refl);
    small = both.small;
    past = goes_on (start k) One 0 0 l (preamble_words k rec) p.heard from_start both
        ∙ ap (λ (bs : List ℕ). take 7 (past_after (start k) bs)) bits;
  }

  preamble_least : p.least ≡ least_of (preamble_leads k rec)
  preamble_least =
      let C = part_leads One 0 8 rec in
      let D = part_leads One 704 (sync_octets k - 6) rec in
      ab.1.1 ∙ z.least
      ∙ ap (λ (x : Least). least_from 64 x D) (lo ∙ ap least_of (block_leads One 8 8 refl rec 0 ls lead (omega arith)))
      ∙ ap (λ (n : ℕ). least_from n (least_of C) D) (sym (part_leads_length One 0 8 rec))
      ∙ sym (least_of_joined C D (rw (part_leads_length One 0 8 rec) (omega arith)))
      ∙ ap least_of (sym (part_leads_lem One 0 8 (sync_octets k - 6) rec)
      ∙ ap (λ (n : ℕ). part_leads One 0 n rec) (rest k) ∙ preamble_leads_lem k rec)

-- the same, as the code counts the rest
pub sync_heard : (k : Kind) (rec : List Taken) (ns ls : List ℕ) (l : Line) (f : Least) (a : Hearing) (b p : Part)
    (d o y : List ℕ) (count n : ℕ)
    → DecidedAt One rec 0 64 ns → LeadsAt One rec 0 64 ls → f ≡ least_of (take 64 ls)
    → Starts k (get_or ns 0 0) l → Heard One 0 0 l (take 64 ns) a
    → o ≡ over (plain_octets One 0 8 l (take 64 ns)) d → n ≡ sync_octets k - 6 → count ≡ sync_octets k + 2
    → PartHeard One 704 n rec a.line 64 f b y
    → (p.heard.line ≡ b.heard.line) × ((p.heard.odd
    ≡ or_else a.odd (λ place. Some place) b.heard.odd) × (p.least ≡ b.least))
    → PreambleLine k rec p.heard × ((p.least ≡ least_of (preamble_leads k rec))
    × (take (sync_octets k + 2) (put_mid 8 (count - 8) o y) ≡ preamble_octets k rec))
sync_heard k rec ns ls l f a b p d o y count n dec lead lo s x ox en ec z ab =
    let z : PartHeard One 704 (sync_octets k - 6) rec a.line 64 f b y =
    subst (λ (i : ℕ). PartHeard One 704 i rec a.line 64 f b y) en z in
    let left : count - 8 ≡ sync_octets k - 6 = omega arith in (
      preamble_line k rec ns ls l f a b p d o y dec lead lo s x ox z ab,
      (
        preamble_least k rec ns ls l f a b p d o y dec lead lo s x ox z ab,
        ap (λ (i : ℕ). take (sync_octets k + 2) (put_mid 8 i o y)) left
            ∙ preamble_octets_lem k rec ns ls l f a b p d o y dec lead lo s x ox z ab,
      ),
    )

-- the part of the row that the rest is heard into, and the chips that it asks for
pub rest_lent : (k : Kind) (o : List ℕ) (count : ℕ) → length o ≡ 18 → count ≡ sync_octets k + 2
    → length (take (count - 8) (drop 8 o)) ≡ sync_octets k - 6
rest_lent Long o count e f = length-take-le (count - 8) (drop 8 o) (rw length-drop (omega arith)) ∙ omega arith
rest_lent Short o count e f = length-take-le (count - 8) (drop 8 o) (rw length-drop (omega arith)) ∙ omega arith

pub rest_room : (k : Kind) (n m : ℕ) → n ≡ sync_octets k - 6 → front_chips k ≤ m → 704 + 88 * n ≤ m
rest_room Long n m e h = omega arith
rest_room Short n m e h = omega arith

pub decided_small : (rec : List Taken) (ns : List ℕ) → DecidedAt One rec 0 64 ns → (l : ℕ) → l < 64 → get_or ns l 0 < 4
decided_small rec ns d l h = rw (d.number l h) (decided_below One _)

-- the octets behind SYNC
pub preamble_sfd : (k : Kind) (rec : List Taken) (xs os : List ℕ) → take (sync_octets k + 2) os ≡ preamble_octets k rec
    → xs ≡ take 2 (drop (sync_octets k) os)
    → octet_bits xs ≡ drop (sync_bits k) (descramble (start k) (preamble_heard k rec))
preamble_sfd k rec xs os e f =
    let long : length (preamble_heard k rec) ≡ 8 * sync_octets k + 16 =
    heard_length One 0 (reference k rec) (preamble_words k rec) ∙ omega (arith, preamble_length_lem k rec, sync_bits_lem k) in
    last_bits (sync_octets k) (start k) (preamble_heard k rec) xs long
    (f ∙ take_drop (sync_octets k) 2 os ∙ ap (drop (sync_octets k)) e)
    ∙ ap (λ (n : ℕ). drop n (descramble (start k) (preamble_heard k rec))) (sym (sync_bits_lem k))
