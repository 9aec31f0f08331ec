-- A frame with any 48 header bits that stands its damage, and anything after it, is decided as it was sent (`AsSent` of
-- rules_clean), and every lead of its symbols is a full chip at least; so is its front, where that alone is there.
-- Assumes nothing.
use mathlib.Core.Path.{◌≡◌, sym, ap, ap₂, ◌∙◌, subst}
use mathlib.Core.Bool.{true}
use mathlib.Core.List.{List, [], ◌∷◌, ◌++◌, append-nil, append_assoc}
use Prim.Native.Nat.{ℕ, zero, suc, ◌+◌, ◌-◌, ◌*◌, ◌/◌, ◌≤◌, ◌<◌}
use native.Mathlib.Nat.{mul_comm, le_of_suc-le-suc}
use native.Mathlib.Omega.{arith}
use lib.ListN.{length, get_or, take, drop, length-append, length-drop}
use lib.Seq.{take_at, drop_at, drop-drop, drop-append-le, length-take-le}
use Rattle.base.specs.Below.{Below}
use Rattle.base.proofs.Below.{below_drop}
use Rattle.rules_rates.specs.declared.Rate.{Rate}
use Rattle.rules_rates.specs.declared.Rate.TheVariants.{One}
use Rattle.rules_rates.specs.Rates.{code_of, symbol_chips, symbol_bits, octet_symbols}
use Rattle.rules_rates.proofs.Octets.{part_symbols, part_chips}
use Rattle.rules_chips.specs.Chips.{Taken, hard_recording}
use Rattle.rules_chips.proofs.Recorders.{length_hard, drop_hard}
use Rattle.rules_bits.specs.Code.{words_chips}
use Rattle.rules_bits.proofs.Sent.{Allowed}
use Rattle.rules_frame.specs.declared.Kind.{Kind}
use Rattle.rules_frame.specs.declared.Kind.TheVariants.{Long, Short}
use Rattle.rules_frame.specs.Frame.{
  is_kind,
  kind_of,
  header_rate,
  front_chips,
  front_symbols,
  preamble_length,
  preamble_chips,
  header_length,
  framed,
  frame_chips,
}
use Rattle.rules_frame.proofs.Sizes.{framed_length}
use Rattle.rules_frame.proofs.Parity.{header_symbols, front_symbols_lem}
use Rattle.rules_reading.specs.Leads.{decided_leads, front_leads, payload_leads, frame_leads, least_of}
use Rattle.rules_reading.specs.Reading.{decided_words, preamble_words, header_words, payload_words}
use Rattle.rules_reading.proofs.Leads.{leads_length, least_is}
use Rattle.rules_clean.proofs.Parts.{chips_length}
use Rattle.rules_clean.proofs.FrameWords.{FrontAsSent, AsSent}
use Rattle.rules_clean.proofs.FrameWords as words
use Rattle.rules_clean.proofs.CleanSent.{front_parts}
use Rattle.rules_damage.specs.Damage.{wrong, lost}
use Rattle.rules_damage.specs.Plain.{SymbolAt, KeepsLimit, FrameStands}
use Rattle.rules_damage.proofs.OneSymbol.{limit_of}
use Rattle.rules_damage.proofs.Row.{
  nth_symbol,
  symbol_behind,
  symbol_from,
  SymbolsKeep,
  none_unusable,
  spoiled_words,
  spoiled_leads,
}
use Rattle.rules_damage.proofs.Counted.{wrong_many, lost_many}
use Rattle.rules_damage.proofs.Symbols.{front_eleven, front_symbol, payload_symbol, symbol_inside}

-- ---- every lead is a full chip at least
record AtLeast (xs : List ℕ) : Type 0 where
  at : (j : ℕ) → j < length xs → 1024 ≤ get_or xs j 0

both_least : (xs ys : List ℕ) → AtLeast xs → AtLeast ys → AtLeast (xs ++ ys)
both_least [] ys h k = k
both_least (q ∷ xs) ys h k =
    record { at = by (both_least xs ys (record { at = λ j l. h.at (suc j) (omega arith) }) k).at }
  where
    by : ((j : ℕ) → j < length (xs ++ ys) → 1024 ≤ get_or (xs ++ ys) j 0)
        → (j : ℕ) → j < suc (length (xs ++ ys)) → 1024 ≤ get_or (q ∷ (xs ++ ys)) j 0
    by f zero l = h.at 0 (omega arith)
    by f (suc j) l = f j (le_of_suc-le-suc l)

-- ---- m symbols that begin a recording
record Begins (r : Rate) (m : ℕ) (ns : List ℕ) (cs : List Taken) : Type 0 where
  words : decided_words r m cs ≡ ns
  leads : AtLeast (decided_leads r m cs)

begins : (r : Rate) (ns after sent rec : List ℕ) (rest : List Taken) (m : ℕ) → Allowed r ns → length ns ≡ m
    → Below 5 rec → m * symbol_chips r ≤ length rec → sent ≡ words_chips r ns ++ after
    → SymbolsKeep (limit_of r) (symbol_chips r) m sent rec → Begins r m ns (hard_recording rec ++ rest)
begins r ns after sent rec rest m al e b long es h =
    subst (λ (j : ℕ). Begins r j ns (hard_recording rec ++ rest)) e (record {
      words = spoiled_words r ns after rec rest al b long' h';
      leads = record {
        at = λ j l. spoiled_leads r ns after rec rest al b long' h' j
            (subst (λ (i : ℕ). j < i) (leads_length r (length ns) (hard_recording rec ++ rest)) l);
      };
    })
  where
    long' : length ns * symbol_chips r ≤ length rec
    long' = subst (λ (j : ℕ). j * symbol_chips r ≤ length rec) (sym e) long

    h' : SymbolsKeep (limit_of r) (symbol_chips r) (length ns) (words_chips r ns ++ after) rec
    h' = subst (λ (j : ℕ). SymbolsKeep (limit_of r) (symbol_chips r) j (words_chips r ns ++ after) rec) (sym e)
        (subst (λ (s : List ℕ). SymbolsKeep (limit_of r) (symbol_chips r) m s rec) es h)

-- ---- what each symbol of a frame that stands keeps
module _ (kind rate n : ℕ) (sent rec : List ℕ) (st : FrameStands kind rate n sent rec) where
  keeps_at : (s at chips limit : ℕ) → SymbolAt kind rate n s at chips limit → at + chips ≤ length rec
      → KeepsLimit limit (wrong (take chips (drop at sent)) (take chips (drop at rec)))
      (lost (take chips (drop at rec)))
  keeps_at s at chips limit x h =
      st.each s at chips limit _ _ x (wrong_many chips at sent rec (omega (arith, st.same_length)) h)
      (lost_many chips at rec h)

-- a header's symbols are Barker symbols
header_keeps : (k : Kind) (m : ℕ) (s d : List ℕ) → SymbolsKeep 10 11 m s d
    → SymbolsKeep (limit_of (header_rate k)) (symbol_chips (header_rate k)) m s d
header_keeps Long m s d h = h
header_keeps Short m s d h = h

-- a recording of hard chips and more, from one of them on
dropped : (j : ℕ) (rec : List ℕ) (rest : List Taken) → j ≤ length rec
    → drop j (hard_recording rec ++ rest) ≡ hard_recording (drop j rec) ++ rest
dropped j rec rest h =
    drop-append-le j (hard_recording rec) rest (rw length_hard h)
    ∙ ap (λ (t : List Taken). t ++ rest) (drop_hard j rec)

module _ (kind : ℕ) (is-kind : is_kind kind ≡ true) (r : Rate) (p : ℕ) (header xs : List ℕ)
    (eh : length header ≡ header_length) where
  abbrev k : Kind
  k = kind_of kind

  abbrev n : ℕ
  n = length xs

  abbrev c : ℕ
  c = symbol_chips r

  abbrev rate : Rate
  rate = header_rate k

  abbrev words1 : List ℕ
  words1 = words.preamble_sent k r p header xs

  abbrev words2 : List ℕ
  words2 = words.header_sent k r p header xs

  abbrev words3 : List ℕ
  words3 = words.payload_sent k r p header xs

  -- ---- the front of what was sent, with anything after it, as so many octets
  module _ (after sent rec : List ℕ) (rest : List Taken) (m : ℕ)
      (sent_is : sent ≡ words_chips One words1 ++ (words_chips rate words2 ++ after))
      (st : FrameStands kind (code_of r) m sent rec) (there : front_chips k ≤ length rec) where
    abbrev recording : List Taken
    recording = hard_recording rec ++ rest

    front_keeps : SymbolsKeep 10 11 (front_symbols k) sent rec
    front_keeps j l =
        keeps_at kind (code_of r) m sent rec st j (11 * j) 11 10 (front_symbol kind is-kind r m j l)
        (omega (arith, front_eleven k, there))

    preamble_there : preamble_chips k ≤ length rec
    preamble_there = omega (arith, front_parts k, there)

    preamble_symbols : preamble_length k * 11 ≡ 11 * preamble_length k
    preamble_symbols = omega arith

    header_keep : SymbolsKeep 10 11 (header_symbols k) (drop (preamble_chips k) sent) (drop (preamble_chips k) rec)
    header_keep j l =
        subst (λ (i : ℕ). KeepsLimit 10 (wrong (nth_symbol 11 j (drop i sent)) (nth_symbol 11 j (drop i rec)))
        (lost (nth_symbol 11 j (drop i rec)))) (sym preamble_symbols)
        (subst (λ (x : List ℕ). KeepsLimit 10 (wrong x (nth_symbol 11 j (drop (11 * preamble_length k) rec)))
        (lost (nth_symbol 11 j (drop (11 * preamble_length k) rec)))) (sym (symbol_from 11 (preamble_length k) j sent))
        (subst (λ (x : List ℕ). KeepsLimit 10 (wrong (nth_symbol 11 (preamble_length k + j) sent) x) (lost x))
        (sym (symbol_from 11 (preamble_length k) j rec))
        (front_keeps (preamble_length k + j) (omega (arith, front_symbols_lem k, l)))))

    preamble_begins : Begins One (preamble_length k) words1 recording
    preamble_begins =
        begins One words1 (words_chips rate words2 ++ after) sent rec rest (preamble_length k)
        (words.preamble_allowed k r p header xs eh) (words.preamble_count_lem k r p header xs eh) st.usable
        preamble_there sent_is (λ j l. front_keeps j (omega (arith, front_symbols_lem k, l)))

    header_sent_lem : drop (preamble_chips k) sent ≡ words_chips rate words2 ++ after
    header_sent_lem =
        ap (drop (preamble_chips k)) sent_is
        ∙ drop_at (words_chips One words1) (words_chips rate words2 ++ after) (preamble_chips k)
        (chips_length One words1 ∙ ap (λ (j : ℕ). j * 11) (words.preamble_count_lem k r p header xs eh))

    header_begins : Begins rate (header_symbols k) words2 (drop (preamble_chips k) recording)
    header_begins =
        rw (dropped (preamble_chips k) rec rest preamble_there)
        (begins rate words2 after (drop (preamble_chips k) sent) (drop (preamble_chips k) rec) rest (header_symbols k)
        (words.header_allowed k r p header xs eh) (words.header_count k r p header xs eh)
        (below_drop (preamble_chips k) st.usable) (rw length-drop (omega (arith, there, front_parts k)))
        header_sent_lem
        (header_keeps k (header_symbols k) (drop (preamble_chips k) sent) (drop (preamble_chips k) rec) header_keep))

    spoiled_front : FrontAsSent k r p header xs recording
    unfolding preamble_words header_words
    spoiled_front = record {
      preamble_words_lem = preamble_begins.words;
      header_words_lem = header_begins.words;
      front_there = rw (length-append (hard_recording rec) rest, length_hard rec) (omega (arith, there));
      front_usable = none_unusable 0 (front_chips k) rec rest st.usable there;
    }

    front_least : AtLeast (front_leads k recording)
    unfolding front_leads
    front_least = both_least _ _ preamble_begins.leads header_begins.leads

  -- ---- all of it
  abbrev whole : List ℕ
  whole = framed k r p header xs

  whole_is : whole ≡ words_chips One words1 ++ (words_chips rate words2 ++ words_chips r words3)
  whole_is = words.words_are k r p header xs eh

  -- its front alone
  module _ (rec : List ℕ) (rest : List Taken) (st : FrameStands kind (code_of r) 0 (take (front_chips k) whole) rec) where
    front_words : length (words_chips One words1 ++ words_chips rate words2) ≡ front_chips k
    front_words =
        length-append (words_chips One words1) (words_chips rate words2)
        ∙ ap₂ {C = ℕ} (λ i j. i + j)
        (chips_length One words1 ∙ ap (λ (j : ℕ). j * 11) (words.preamble_count_lem k r p header xs eh))
        (chips_length rate words2 ∙ ap (λ (j : ℕ). j * symbol_chips rate) (words.header_count k r p header xs eh))
        ∙ front_parts k

    front_alone : take (front_chips k) whole ≡ words_chips One words1 ++ (words_chips rate words2 ++ [])
    front_alone =
        ap (take (front_chips k))
        (whole_is ∙ sym (append_assoc (words_chips One words1) (words_chips rate words2) (words_chips r words3)))
        ∙ take_at (words_chips One words1 ++ words_chips rate words2) (words_chips r words3) (front_chips k) front_words
        ∙ ap (λ (t : List ℕ). words_chips One words1 ++ t) (sym (append-nil (words_chips rate words2)))

    pub spoiled_alone : FrontAsSent k r p header xs (hard_recording rec ++ rest)
    spoiled_alone =
        spoiled_front [] (take (front_chips k) whole) rec rest 0 front_alone st
        (omega (arith, st.same_length, long))
      where
        long : length (take (front_chips k) whole) ≡ front_chips k
        long = length-take-le (front_chips k) whole (rw (framed_length k r p header xs eh) (omega arith))

  -- whole
  module _ (rec : List ℕ) (rest : List Taken) (st : FrameStands kind (code_of r) n whole rec) where
    abbrev all : List Taken
    all = hard_recording rec ++ rest

    all_there : length rec ≡ frame_chips k r n
    all_there = st.same_length ∙ framed_length k r p header xs eh

    there : front_chips k ≤ length rec
    there = omega (arith, all_there)

    payload_sent_lem : drop (front_chips k) whole ≡ words_chips r words3 ++ []
    payload_sent_lem =
        ap (λ (j : ℕ). drop j whole) (sym (front_parts k))
        ∙ sym (drop-drop (header_symbols k * symbol_chips rate) (preamble_chips k) whole)
        ∙ ap (drop (header_symbols k * symbol_chips rate))
        (header_sent_lem (words_chips r words3) whole rec rest n whole_is st there)
        ∙ drop_at (words_chips rate words2) (words_chips r words3) (header_symbols k * symbol_chips rate)
        (chips_length rate words2
        ∙ ap (λ (j : ℕ). j * symbol_chips rate) (words.header_count k r p header xs eh))
        ∙ sym (append-nil (words_chips r words3))

    payload_keeps : SymbolsKeep (limit_of r) c (octet_symbols r * n) (drop (front_chips k) whole) (drop (front_chips k) rec)
    payload_keeps j l =
        let at = payload_symbol kind is-kind r n j l in
        subst (λ (x : List ℕ). KeepsLimit (limit_of r) (wrong x (nth_symbol c j (drop (front_chips k) rec)))
        (lost (nth_symbol c j (drop (front_chips k) rec)))) (sym (symbol_behind c (front_chips k) j whole))
        (subst (λ (x : List ℕ). KeepsLimit (limit_of r) (wrong (take c (drop (front_chips k + c * j) whole)) x) (lost x))
        (sym (symbol_behind c (front_chips k) j rec))
        (keeps_at kind (code_of r) n whole rec st _ _ _ _ at
        (rw all_there (symbol_inside kind is-kind r n _ _ _ _ at))))

    payload_begins : Begins r (8 * n / symbol_bits r) words3 (drop (front_chips k) all)
    payload_begins =
        rw (dropped (front_chips k) rec rest there)
        (begins r words3 [] (drop (front_chips k) whole) (drop (front_chips k) rec) rest (8 * n / symbol_bits r)
        (words.payload_allowed k r p header xs eh) (words.payload_count k r p header xs eh)
        (below_drop (front_chips k) st.usable) payload_there payload_sent_lem
        (subst (λ (m : ℕ). SymbolsKeep (limit_of r) c m (drop (front_chips k) whole) (drop (front_chips k) rec))
        (sym (part_symbols r n)) payload_keeps))
      where
        payload_there : 8 * n / symbol_bits r * c ≤ length (drop (front_chips k) rec)
        payload_there =
            rw (length-drop, part_symbols r n)
            (omega (arith, all_there, part_chips r n, mul_comm (octet_symbols r * n) c))

    pub spoiled_sent : AsSent k r p header xs all
    unfolding payload_words
    spoiled_sent = record {
      front = spoiled_front (words_chips r words3) whole rec rest n whole_is st there;
      payload_words_lem = payload_begins.words;
      frame_there = rw (length-append (hard_recording rec) rest, length_hard rec) (omega (arith, all_there));
      payload_usable = rw (dropped (front_chips k) rec rest there)
          (none_unusable (front_chips k) (frame_chips k r n - front_chips k) (drop (front_chips k) rec) rest
          (below_drop (front_chips k) st.usable) (rw length-drop (omega (arith, all_there))));
    }

    all_least : AtLeast (frame_leads k r n all)
    unfolding payload_leads
    all_least =
        both_least _ _ (front_least (words_chips r words3) whole rec rest n whole_is st there) payload_begins.leads

    -- the smallest lead told is a full chip at least
    pub spoiled_least : 1024 ≤ (least_of (frame_leads k r n all)).lead
    spoiled_least =
        let m = least_is (frame_leads k r n all) some in
        subst (λ (j : ℕ). 1024 ≤ j) m.has (all_least.at (least_of (frame_leads k r n all)).symbol m.among)
      where
        begun : (k : Kind) → 0 < preamble_length k
        begun Long = omega arith
        begun Short = omega arith

        some : 0 < length (frame_leads k r n all)
        some =
            unfold front_leads in
            rw (length-append, length-append, leads_length One (preamble_length k) all) (omega (arith, begun k))
