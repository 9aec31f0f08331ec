-- Uses of what is kept of leads, so that none of it can be said of nothing: a good read's smallest lead is a symbol's,
-- it bounds the others' scores, no other lead and symbol are a frame's, and above 11 counts it makes the whole frame
-- sure. Assumes nothing.
use mathlib.Core.Path.{◌≡◌}
use mathlib.Core.Bool.{Bool}
use mathlib.Core.List.{List}
use Prim.Native.Nat.{ℕ, ◌+◌, ◌≤◌, ◌<◌}
use native.Mathlib.Decide.{dec_lt}
use native.Mathlib.Omega.{arith}
use lib.Dec.{T}
use lib.ListN.{get_or}
use lib.IntN.{ℤ, pos, ◌+ℤ◌}
use lib.Signed.{◌≤ℤ◌, ◌<ℤ◌}
use lib.Ieee.{Float, nan}
use Rattle.base.proofs.Whole.{of_le, le_of, add, up_pos, dn_pos}
use Rattle.rules_rates.specs.declared.Rate.{Rate}
use Rattle.rules_rates.specs.declared.Rate.TheVariants.{One, Two, Five, Eleven}
use Rattle.rules_rates.specs.Rates.{rate_of, symbol_chips}
use Rattle.rules_chips.specs.Floats.{usable}
use Rattle.rules_chips.specs.Chips.{Taken, hard_recording, soft_recording, byte_recording}
use Rattle.rules_symbols.specs.Choice.{numbers, is_allowed}
use Rattle.rules_choosing.specs.Scores.{score_at, LeadsBy}
use Rattle.rules_choosing.specs.Demand3.{exact_at, LeadsExactly}
use Rattle.rules_choosing.proofs.Leads.{leads_once}
use Rattle.rules_frame.specs.declared.Kind.{Kind}
use Rattle.rules_frame.specs.declared.Kind.TheVariants.{Long, Short}
use Rattle.rules_frame.specs.Frame.{kind_of}
use Rattle.rules_calls.specs.declared.Record.{Record}
use Rattle.rules_reading.specs.Reading.{preamble_words, header_words, payload_words}
use Rattle.rules_reading.specs.Places.{counts_from}
use Rattle.promises.specs.Calls.{Read, ReadHard, ReadSoft, ReadBytes, in_hard, in_soft, in_bytes}
use Rattle.promises.specs.Leads.{
  SymbolOf,
  of_preamble,
  of_header,
  of_payload,
  LeastIn,
}
use Rattle.promises.specs.Right.{exact_from, exact_hard, exact_soft, exact_bytes}
use Rattle.promises.proofs.Frames.{symbol_usable, symbol_there, usable_hard, usable_soft, there_bytes}
use Rattle.promises.proofs.Kept.{kept}

-- a frame has one smallest lead, and one symbol is the first that has it
module _ (k : Kind) (r : Rate) (n : ℕ) (rec : List Taken) where
  not_above : {x y s t : ℕ} → LeastIn k r n rec x s → LeastIn k r n rec y t → (x ≤ y) × (t < s → x < y)
  not_above f g =
      let j = g.just in
      let e = f.each _ j.rate j.at j.word j.is in
      let d = leads_once j.rate (counts_from j.rate j.at rec) j.word e.own _ e.by j.by in
      (omega (arith, d, e.low), λ l. omega (arith, d, e.first l))

  pub least_once : {x y s t : ℕ} → LeastIn k r n rec x s → LeastIn k r n rec y t → (x ≡ y) × (s ≡ t)
  least_once {x} {y} {s} {t} f g =
      let a = not_above f g in
      let b = not_above g f in
      (omega (arith, a.0, b.0), by a b (dec_lt t s) (dec_lt s t))
    where
      by : (x ≤ y) × (t < s → x < y) → (y ≤ x) × (s < t → y < x) → Dec (t < s) → Dec (s < t) → s ≡ t
      by a b (yes p) q = absurd (omega (arith, a.1 p, b.0))
      by a b (no p) (yes q) = absurd (omega (arith, b.1 q, a.0))
      by a b (no p) (no q) = omega arith

module _ (kind : ℕ) (agree : Bool) (rec : List Taken) (room : ℕ) (a : Record) (left : List ℕ)
    (f : Read kind agree rec room a left) (z : a.number ≡ 0) where
  -- no other allowed word of any symbol comes nearer than the lead told
  pub none_nearer : (s : ℕ) (q : Rate) (at w n : ℕ) → SymbolOf (kind_of kind) (rate_of a.rate) a.n rec s q at w
      → n < numbers q → T (is_allowed q n) → (n ≡ w → ⊥)
      → (score_at q (counts_from q at rec) n +ℤ pos a.lead) ≤ℤ score_at q (counts_from q at rec) w
  none_nearer s q at w n x l t ne =
      let e = (kept.least_told kind agree rec room a left f z).each s q at w x in
      let g = score_at q (counts_from q at rec) in
      le_of (g n +ℤ pos a.lead) (g w) (omega (
        arith,
        of_le (g n +ℤ pos e.own) (g w) (e.by.behind n l t ne),
        e.low,
        add (g n) (pos a.lead),
        add (g n) (pos e.own),
        up_pos a.lead,
        dn_pos a.lead,
        up_pos e.own,
        dn_pos e.own,
      ))

  -- before the symbol told every lead is larger
  pub larger_before : (s : ℕ) (q : Rate) (at w lead : ℕ)
      → SymbolOf (kind_of kind) (rate_of a.rate) a.n rec s q at w → LeadsBy q (counts_from q at rec) w lead
      → s < a.symbol → a.lead < lead
  larger_before s q at w lead x by l =
      let e = (kept.least_told kind agree rec room a left f z).each s q at w x in
      let d : lead ≡ e.own = leads_once q (counts_from q at rec) w lead e.own by e.by in
      omega (arith, d, e.first l)

  -- and the symbol told, one of the frame's, has just that: no other lead and symbol are those of the frame
  pub none_but_told : (lead symbol : ℕ) → LeastIn (kind_of kind) (rate_of a.rate) a.n rec lead symbol
      → (lead ≡ a.lead) × (symbol ≡ a.symbol)
  none_but_told lead symbol h =
      least_once (kind_of kind) (rate_of a.rate) a.n rec h (kept.least_told kind agree rec room a left f z)

-- ---- what the lead of one symbol of soft samples says of each other word: one count for each of its chips is enough
pub soft_word_behind : (i q : List Float) (k : Kind) (r : Rate) (n s : ℕ) (p : Rate) (at w lead m : ℕ)
    → SymbolOf k r n (soft_recording i q) s p at w
    → ((j : ℕ) → j < symbol_chips p → T (usable (get_or i (at + j) nan)) × T (usable (get_or q (at + j) nan)))
    → LeadsBy p (counts_from p at (soft_recording i q)) w lead → symbol_chips p < lead
    → m < numbers p → T (is_allowed p m) → (m ≡ w → ⊥)
    → exact_at p (exact_from p at (exact_soft i q)) m <ℤ exact_at p (exact_from p at (exact_soft i q)) w
soft_word_behind i q k r n s p at w lead m x ok by l h t ne =
    kept.rows_sure (in_soft i q) k r n s p at w lead x ok by l m h t ne

-- ---- what the fitter may conclude of a whole frame, from the record alone: a good read has good chips only
at_most_11 : (q : Rate) → symbol_chips q ≤ 11
at_most_11 One = omega arith
at_most_11 Two = omega arith
at_most_11 Five = omega arith
at_most_11 Eleven = omega arith

module _ (kind room : ℕ) (a : Record) (left : List ℕ) (z : a.number ≡ 0) where
  pub soft_frame_sure : (i q : List Float) → ReadSoft kind i q room a left → 11 < a.lead
      → (s : ℕ) (p : Rate) (at w : ℕ) → SymbolOf (kind_of kind) (rate_of a.rate) a.n (soft_recording i q) s p at w
      → LeadsExactly p (exact_from p at (exact_soft i q)) w
  soft_frame_sure i q f l s p at w x =
      let e = (kept.least_told kind _ _ room a left f z).each s p at w x in
      kept.rows_sure (in_soft i q) (kind_of kind) (rate_of a.rate) a.n s p at w e.own x
      (λ j h. usable_soft i q (at + j) (symbol_usable kind _ _ room a left f z x j h)) e.by
      (omega (arith, e.low, at_most_11 p))

  pub hard_frame_sure : (octets : List ℕ) → ReadHard kind octets room a left → 0 < a.lead
      → (s : ℕ) (p : Rate) (at w : ℕ) → SymbolOf (kind_of kind) (rate_of a.rate) a.n (hard_recording octets) s p at w
      → LeadsExactly p (exact_from p at (exact_hard octets)) w
  hard_frame_sure octets f l s p at w x =
      let e = (kept.least_told kind _ _ room a left f z).each s p at w x in
      kept.rows_sure (in_hard octets) (kind_of kind) (rate_of a.rate) a.n s p at w e.own x
      (λ j h. usable_hard octets (at + j) (symbol_usable kind _ _ room a left f z x j h)) e.by
      (omega (arith, e.low))

  pub bytes_frame_sure : (bytes : List ℤ) → ReadBytes kind bytes room a left → 0 < a.lead
      → (s : ℕ) (p : Rate) (at w : ℕ) → SymbolOf (kind_of kind) (rate_of a.rate) a.n (byte_recording bytes) s p at w
      → LeadsExactly p (exact_from p at (exact_bytes bytes)) w
  bytes_frame_sure bytes f l s p at w x =
      let e = (kept.least_told kind _ _ room a left f z).each s p at w x in
      let there = there_bytes bytes (at + symbol_chips p) (symbol_there kind _ _ room a left f z x) in
      kept.rows_sure (in_bytes bytes) (kind_of kind) (rate_of a.rate) a.n s p at w e.own x
      (λ j h. omega (arith, there)) e.by
      (omega (arith, e.low))

-- the first symbol of a frame takes part, and the payload's first is number 192 or 96
pub first_takes_part : (k : Kind) (r : Rate) (n : ℕ) (rec : List Taken)
    → SymbolOf k r n rec 0 One 0 (get_or (preamble_words k rec) 0 0)
first_takes_part Long r n rec = of_preamble 0 (omega arith)
first_takes_part Short r n rec = of_preamble 0 (omega arith)

-- so does the preamble's last, number 143 or 71: no good read tells a lead above its own
pub preamble_ends_at : (r : Rate) (n : ℕ) (rec : List Taken)
    → SymbolOf Long r n rec 143 One 1573 (get_or (preamble_words Long rec) 143 0)
    × SymbolOf Short r n rec 71 One 781 (get_or (preamble_words Short rec) 71 0)
preamble_ends_at r n rec = (of_preamble 143 (omega arith), of_preamble 71 (omega arith))

pub last_of_preamble : (agree : Bool) (rec : List Taken) (room : ℕ) (a : Record) (left : List ℕ)
    → Read 0 agree rec room a left → a.number ≡ 0 → (own : ℕ)
    → LeadsBy One (counts_from One 1573 rec) (get_or (preamble_words Long rec) 143 0) own → a.lead ≤ own
last_of_preamble agree rec room a left f z own by =
    let x = (preamble_ends_at (rate_of a.rate) a.n rec).0 in
    let e = (kept.least_told 0 agree rec room a left f z).each 143 One 1573 _ x in
    let d = leads_once One (counts_from One 1573 rec) _ own e.own by e.by in
    omega (arith, d, e.low)

pub header_takes_part : (r : Rate) (n : ℕ) (rec : List Taken)
    → SymbolOf Short r n rec 95 Two 1045 (get_or (header_words Short rec) 23 0)
header_takes_part r n rec = of_header 23 (omega arith)

pub payload_takes_part : (n : ℕ) (rec : List Taken) → 1 ≤ n
    → SymbolOf Long Eleven n rec 192 Eleven 2112 (get_or (payload_words Long Eleven n rec) 0 0)
payload_takes_part n rec h = of_payload 0 (omega arith)
