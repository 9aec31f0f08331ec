-- How clearly was it won: the smallest lead that a good read tells is that of its frame's symbols, and what a lead says
-- of the exact recorded numbers. Each symbol's word and lead are those of the counts at its place; the rest is the law
-- of the smallest of a list, and that of one symbol. Assumes nothing.
use Rattle.std.specs.Prelude.{Result, Ok, Err}
use Rattle.rules_calls.specs.declared.Refusal.{Refusal}
use mathlib.Core.Path.{◌≡◌, refl, sym, ap, ◌∙◌, subst}
use mathlib.Core.Bool.{Bool, not}
use mathlib.Core.List.{List, ◌++◌, map}
use Prim.Native.Nat.{ℕ, ◌+◌, ◌-◌, ◌*◌, ◌/◌, ◌^◌, ◌<◌}
use native.Mathlib.Nat.{mul_comm, mul-lt-mul_of_pos_right, mul-zero, zero-mul, zero-add}
use native.Mathlib.Decide.{dec_lt}
use native.Mathlib.Omega.{arith}
use lib.Pow.{pow_pos}
use lib.ListN.{length, get_or, take, drop, length-append, get_or-append}
use lib.Seq.{drop-drop, get_or-append-add}
use Rattle.base.proofs.Tests.{branch}
use Rattle.rules_rates.specs.declared.Rate.{Rate}
use Rattle.rules_rates.specs.declared.Rate.TheVariants.{One}
use Rattle.rules_rates.specs.Rates.{rate_of, symbol_chips, symbol_bits}
use Rattle.rules_chips.specs.declared.Counts.{Counts}
use Rattle.rules_chips.specs.Chips.{Taken, taken_counts}
use Rattle.rules_symbols.specs.Choice.{decided, lead_of}
use Rattle.rules_choosing.specs.Scores.{LeadsBy}
use Rattle.rules_choosing.specs.Demand3.{LeadsExactly}
use Rattle.rules_choosing.proofs.Leads.{leads_by, leads_once}
use Rattle.rules_frame.specs.declared.Kind.{Kind}
use Rattle.rules_frame.specs.declared.Kind.TheVariants.{Long, Short}
use Rattle.rules_frame.specs.Frame.{
  is_kind,
  kind_of,
  header_rate,
  front_chips,
  front_symbols,
  preamble_length,
  header_length,
  preamble_chips,
}
use Rattle.rules_frame.proofs.Parity.{front_symbols_lem}
use Rattle.rules_calls.specs.declared.Told.{Told}
use Rattle.rules_calls.specs.declared.Record.{Record}
use Rattle.rules_calls.specs.declared.Reading.{Reading}
use Rattle.rules_calls.specs.Answers.{record_of}
use Rattle.rules_calls.proofs.AnswerFacts.{some_number}
use Rattle.rules_reading.specs.Places.{UsableAt}
use Rattle.rules_reading.specs.Leads.{decided_leads, front_leads, payload_leads, frame_leads, least_of}
use Rattle.rules_reading.specs.Reading.{
  preamble_words,
  header_words,
  payload_words,
  front_of,
  whole_of,
  payload_reading,
  after_front,
  reading_of,
}
use Rattle.rules_reading.proofs.Leads.{leads_length, leads_at, LeastIs, least_is}
use Rattle.rules_reading.proofs.Refusals.{PayloadIf, payload_comes}
use Rattle.rules_reading.specs.Places.{counts_from}
use Rattle.promises.specs.Calls.{in_hard, in_soft, in_bytes}
use Rattle.promises.specs.Right.{exact_from, Keeps}
use Rattle.promises.specs.Leads.{
  SymbolOf,
  of_preamble,
  of_header,
  of_payload,
  LeastIn,
  LeastTold,
  Sure,
  RowsSure,
}
use Rattle.promises.proofs.Only.{code_back}
use Rattle.promises.proofs.Right.{
  word_at,
  word_from_lem,
  symbol_sure,
  hard_keeps,
  hard_good,
  soft_keeps,
  soft_good,
  bytes_keep,
  bytes_good,
}

-- ---- the leads of a part that starts at place `at`
lead_from : (r : Rate) (m at j : ℕ) (rec : List Taken) → j < m
    → get_or (decided_leads r m (drop at rec)) j 0 ≡ lead_of r (counts_from r (at + j * symbol_chips r) rec)
lead_from r m at j rec h =
    leads_at r m (drop at rec) j h
    ∙ ap (λ (l : List Taken). lead_of r (map taken_counts (take (symbol_chips r) l)))
    (drop-drop (symbol_chips r * j) at rec
    ∙ ap (λ (k : ℕ). drop (at + k) rec) (mul_comm (symbol_chips r) j))

module _ (k : Kind) (r : Rate) (n : ℕ) (rec : List Taken) where
  abbrev headers : ℕ
  headers = header_length / symbol_bits (header_rate k)

  abbrev payloads : ℕ
  payloads = 8 * n / symbol_bits r

  abbrev preamble : List ℕ
  preamble = decided_leads One (preamble_length k) rec

  abbrev header : List ℕ
  header = decided_leads (header_rate k) headers (drop (preamble_chips k) rec)

  abbrev payload : List ℕ
  payload = decided_leads r payloads (drop (front_chips k) rec)

  leads_are : frame_leads k r n rec ≡ (preamble ++ header) ++ payload
  unfolding front_leads payload_leads
  leads_are = refl

  front_length : length (preamble ++ header) ≡ front_symbols k
  front_length =
      length-append preamble header
      ∙ (λ i. leads_length One (preamble_length k) rec i
      + leads_length (header_rate k) headers (drop (preamble_chips k) rec) i)
      ∙ front_symbols_lem k

  leads_count : length (frame_leads k r n rec) ≡ front_symbols k + payloads
  leads_count =
      ap length leads_are
      ∙ length-append (preamble ++ header) payload
      ∙ (λ i. front_length i + leads_length r payloads (drop (front_chips k) rec) i)

  -- ---- a symbol's number, word and lead
  symbol_below : {s at w : ℕ} {q : Rate} → SymbolOf k r n rec s q at w → s < front_symbols k + payloads
  symbol_below (of_preamble j h) = omega (arith, front_symbols_lem k)
  symbol_below (of_header j h) = omega (arith, front_symbols_lem k)
  symbol_below (of_payload j h) = omega arith

  symbol_word_lem : {s at w : ℕ} {q : Rate} → SymbolOf k r n rec s q at w → w ≡ decided q (counts_from q at rec)
  unfolding preamble_words header_words payload_words
  symbol_word_lem (of_preamble j h) = word_at One (preamble_length k) j rec (omega arith)
  symbol_word_lem (of_header j h) = word_from_lem (header_rate k) headers (preamble_chips k) j rec h
  symbol_word_lem (of_payload j h) = word_from_lem r payloads (front_chips k) j rec h

  abbrev lead_of_symbol : ℕ → ℕ
  lead_of_symbol s = get_or (frame_leads k r n rec) s 0

  in_front : (s : ℕ) → s < front_symbols k → lead_of_symbol s ≡ get_or (preamble ++ header) s 0
  in_front s h =
      ap (λ (l : List ℕ). get_or l s 0) leads_are
      ∙ get_or-append (preamble ++ header) payload 0 s (omega (arith, front_length))

  symbol_lead : {s at w : ℕ} {q : Rate} → SymbolOf k r n rec s q at w → lead_of_symbol s ≡ lead_of q (counts_from q at rec)
  symbol_lead (of_preamble j h) =
      in_front j (omega (arith, front_symbols_lem k))
      ∙ get_or-append preamble header 0 j (omega (arith, leads_length One (preamble_length k) rec))
      ∙ lead_from One (preamble_length k) 0 j rec (omega arith)
      ∙ ap (λ (x : ℕ). lead_of One (counts_from One x rec)) (zero-add (j * symbol_chips One))
  symbol_lead (of_header j h) =
      in_front (preamble_length k + j) (omega (arith, front_symbols_lem k))
      ∙ ap (λ (x : ℕ). get_or (preamble ++ header) (x + j) 0) (sym (leads_length One (preamble_length k) rec))
      ∙ get_or-append-add preamble header j 0
      ∙ lead_from (header_rate k) headers (preamble_chips k) j rec h
  symbol_lead (of_payload j h) =
      ap (λ (l : List ℕ). get_or l (front_symbols k + j) 0) leads_are
      ∙ ap (λ (x : ℕ). get_or ((preamble ++ header) ++ payload) (x + j) 0) (sym front_length)
      ∙ get_or-append-add (preamble ++ header) payload j 0
      ∙ lead_from r payloads (front_chips k) j rec h

  -- each number is a symbol's
  record Numbered (s : ℕ) : Type 0 where
    rate : Rate
    at : ℕ
    word : ℕ
    is : SymbolOf k r n rec s rate at word

  numbered : (s : ℕ) → s < front_symbols k + payloads → Numbered s
  numbered s h = by (dec_lt s (preamble_length k)) (dec_lt s (front_symbols k))
    where
      by : Dec (s < preamble_length k) → Dec (s < front_symbols k) → Numbered s
      by (yes a) b = record { rate = One; at = s * symbol_chips One; word = _; is = of_preamble s a }
      by (no a) (yes b) =
          let e : preamble_length k + (s - preamble_length k) ≡ s = omega arith in
          let l : s - preamble_length k < headers = omega (arith, front_symbols_lem k) in
          record {
            rate = header_rate k;
            at = preamble_chips k + (s - preamble_length k) * symbol_chips (header_rate k);
            word = get_or (header_words k rec) (s - preamble_length k) 0;
            is = subst
                (λ (x : ℕ). SymbolOf k r n rec x (header_rate k)
                (preamble_chips k + (s - preamble_length k) * symbol_chips (header_rate k))
                (get_or (header_words k rec) (s - preamble_length k) 0)) e (of_header (s - preamble_length k) l);
          }
      by (no a) (no b) =
          let e : front_symbols k + (s - front_symbols k) ≡ s = omega arith in
          let l : s - front_symbols k < payloads = omega arith in
          record {
            rate = r;
            at = front_chips k + (s - front_symbols k) * symbol_chips r;
            word = get_or (payload_words k r n rec) (s - front_symbols k) 0;
            is = subst
                (λ (x : ℕ). SymbolOf k r n rec x r (front_chips k + (s - front_symbols k) * symbol_chips r)
                (get_or (payload_words k r n rec) (s - front_symbols k) 0)) e (of_payload (s - front_symbols k) l);
          }

  -- ---- the smallest of the frame's leads
  some_leads : 0 < length (frame_leads k r n rec)
  some_leads = rw leads_count (by k)
    where
      by : (k : Kind) → 0 < front_symbols k + payloads
      by Long = omega arith
      by Short = omega arith

  led : {s at w : ℕ} {q : Rate} → SymbolOf k r n rec s q at w
      → LeadsBy q (counts_from q at rec) w (lead_of_symbol s)
  led {s} {at} {w} {q} x =
      subst (λ (v : ℕ). LeadsBy q (counts_from q at rec) v (lead_of_symbol s)) (sym (symbol_word_lem x))
      (subst (LeadsBy q (counts_from q at rec) (decided q (counts_from q at rec))) (sym (symbol_lead x))
      (leads_by q (counts_from q at rec)))

  least_in : LeastIn k r n rec (least_of (frame_leads k r n rec)).lead (least_of (frame_leads k r n rec)).symbol
  least_in = record {
    each = λ s q at w x. record {
      own = lead_of_symbol s;
      by = led x;
      low = d.low s (rw leads_count (symbol_below x));
      first = λ l. d.first s l;
    };
    just = record {
      rate = here.rate;
      at = here.at;
      word = here.word;
      is = here.is;
      by = subst (LeadsBy here.rate (counts_from here.rate here.at rec) here.word) d.has (led here.is);
    };
  }
    where
      d : LeastIs (frame_leads k r n rec) (least_of (frame_leads k r n rec))
      d = least_is (frame_leads k r n rec) some_leads

      here : Numbered (least_of (frame_leads k r n rec)).symbol
      here = numbered (least_of (frame_leads k r n rec)).symbol (omega (arith, d.among, leads_count))

-- ---- a good reading has it
abbrev LeastOf : ℕ → List Taken → Result Reading Refusal → Type 0
LeastOf kind rec (Err e) = Unit {0}
LeastOf kind rec (Ok g) = g.least ≡ least_of (frame_leads (kind_of kind) g.told.rate g.told.n rec)

has_least : (kind : ℕ) (agree : Bool) (rec : List Taken) (room : ℕ) → LeastOf kind rec (reading_of kind agree rec room)
unfolding reading_of
has_least kind agree rec room =
    branch (LeastOf kind rec) (not (is_kind kind)) _ _ tt
    (λ a. branch (LeastOf kind rec) (not agree) _ _ tt
    (λ b. after (whole_of (kind_of kind) rec (front_of (kind_of kind) rec))))
  where
    told : (t : Told) (g : Result Reading Refusal) → PayloadIf (kind_of kind) t rec room g → LeastOf kind rec g
    told t (Err e) h = tt
    told t (Ok g) h =
        h.3 ∙ ap (λ (v : Told). least_of (frame_leads (kind_of kind) v.rate v.n rec)) (sym h.1)

    after : (f : Result Told Refusal) → LeastOf kind rec (after_front (kind_of kind) rec room f)
    after (Err e) = tt
    after (Ok t) =
        told t (payload_reading (kind_of kind) t rec room) (payload_comes (kind_of kind) t rec room)

pub least_told : LeastTold
least_told kind agree rec room a left read zero_is =
    subst (λ (v : Record). LeastIn (kind_of kind) (rate_of v.rate) v.n rec v.lead v.symbol)
    (sym read.answer)
    (go (reading_of kind agree rec room) (has_least kind agree rec room)
    (ap (λ (v : Record). v.number) (sym read.answer) ∙ zero_is))
  where
    go : (g : Result Reading Refusal) → LeastOf kind rec g → (record_of g).number ≡ 0
        → LeastIn (kind_of kind) (rate_of (record_of g).rate) (record_of g).n rec (record_of g).lead (record_of g).symbol
    go (Err e) h z = absurd (some_number e z)
    go (Ok g) h z =
        rw (code_back g.told.rate, h) (least_in (kind_of kind) g.told.rate g.told.n rec)

-- ---- what a lead says of the exact numbers, once for every recorder
sure : (half : ℕ) (above : Rate → ℕ) (good : ℕ → Type 0) (exact : List Counts) (rec : List Taken)
    → Keeps half exact rec → ((place : ℕ) → good place → UsableAt rec place)
    → ((q : Rate) (lead : ℕ) → above q < lead → symbol_chips q * (2 * half) < lead * 2 ^ 139)
    → Sure above good exact rec
sure half above good exact rec keeps usable enough k r n s q at w lead x ok by l =
    let cs = counts_from q at rec in
    let e : w ≡ decided q cs = symbol_word_lem k r n rec x in
    let d : lead ≡ lead_of q cs = leads_once q cs w lead (lead_of q cs) by
    (subst (λ (v : ℕ). LeadsBy q cs v (lead_of q cs)) (sym e) (leads_by q cs)) in
    subst (LeadsExactly q (exact_from q at exact)) (sym e)
    (symbol_sure half exact rec keeps q at (λ i h. usable (at + i) (ok i h))
    (subst (λ (y : ℕ). symbol_chips q * (2 * half) < y * 2 ^ 139) d (enough q lead l)))

-- no error: any lead
any_lead : (q : Rate) (lead : ℕ) → 0 < lead → symbol_chips q * (2 * 0) < lead * 2 ^ 139
any_lead q lead h = rw (mul-zero (symbol_chips q)) (mul_pos lead (2 ^ 139) h (pow_pos 139))
  where
    mul_pos : (a b : ℕ) → 0 < a → 0 < b → 0 < a * b
    mul_pos a b ha hb = subst (λ (x : ℕ). x < a * b) (zero-mul b) (mul-lt-mul_of_pos_right ha hb)

-- half a count for each chip, twice
more_chips : (q : Rate) (lead : ℕ) → symbol_chips q < lead → symbol_chips q * (2 * 2 ^ 138) < lead * 2 ^ 139
more_chips q lead h = mul-lt-mul_of_pos_right h (pow_pos 139)

pub rows_sure : RowsSure
rows_sure (in_hard octets) = sure 0 (λ q. 0) _ _ _ (hard_keeps octets) (hard_good octets) any_lead
rows_sure (in_soft i q) = sure (2 ^ 138) symbol_chips _ _ _ (soft_keeps i q) (soft_good i q) more_chips
rows_sure (in_bytes bytes) = sure 0 (λ q. 0) _ _ _ (bytes_keep bytes) (bytes_good bytes) any_lead
