-- What a reading takes from its words is what the symbols of the recording say, bit by bit (Decoded.antt).
--     front_fields     the number of any bits of a front, from the ninth on
--     payload_octet    each octet of a payload
-- By the place of each bit: which symbol carries it, and from which chips that symbol is decided. Assumes nothing.
use mathlib.Core.Path.{◌≡◌, sym, ap, ◌∙◌, subst}
use mathlib.Core.List.{List, ◌++◌}
use Prim.Native.Nat.{ℕ, zero, suc, ◌+◌, ◌-◌, ◌*◌, ◌/◌, ◌%◌, ◌≤◌, ◌<◌}
use native.Mathlib.Decide.{dec_lt}
use native.Mathlib.Omega.{arith}
use borrow.Author.Tests.{lt-ltb, le-ltb}
use lib.ListN.{length, get_or, take, drop, length-append, get_or-append}
use lib.Seq.{get_or-append-add, drop-drop}
use Rattle.rules_rates.specs.declared.Rate.{Rate}
use Rattle.rules_rates.specs.declared.Rate.TheVariants.{One}
use Rattle.rules_rates.specs.Rates.{symbol_chips, symbol_bits, octet_symbols}
use Rattle.rules_rates.proofs.Octets.{part_symbols, part_bits}
use Rattle.rules_chips.specs.Chips.{Taken}
use Rattle.rules_symbols.specs.Words.{phase_of}
use Rattle.rules_bits.specs.Bits.{number_of, ◌⊕◌}
use Rattle.rules_bits.specs.Growths.{heard_bits, heard}
use Rattle.rules_bits.specs.Scrambler.{descramble}
use Rattle.rules_bits.proofs.Heard.{heard_length}
use Rattle.rules_bits.proofs.Scrambler.{descramble_length, descramble_at}
use Rattle.rules_bits.proofs.Each.{before, heard_bit, last_heard_lem, number_field, octet_of_lem}
use Rattle.rules_frame.specs.declared.Kind.{Kind}
use Rattle.rules_frame.specs.declared.Kind.TheVariants.{Long, Short}
use Rattle.rules_frame.specs.Frame.{
  header_rate,
  start,
  front_chips,
  front_symbols,
  preamble_length,
  header_length,
  preamble_chips,
}
use Rattle.rules_reading.specs.Places.{word_from}
use Rattle.rules_reading.specs.Decoded.{
  rate_at,
  place_at,
  bit_at,
  symbols_in,
  word_of_symbol,
  bits_behind,
  SentBit,
  of_symbol,
  PlainBit,
  of_three,
  FieldAt,
}
use Rattle.rules_reading.specs.Reading.{
  preamble_words,
  header_words,
  reference,
  header_phase,
  payload_phase,
  front_heard,
  front_bits,
  payload_words,
  payload_of,
}
use Rattle.rules_reading.proofs.Places.{decided_words_length}
use Rattle.rules_reading.proofs.Sfd.{words_at}
use Rattle.rules_reading.proofs.Parts.{
  header_symbols,
  front_symbols_lem,
  header_bits_lem,
  header_chips,
  split,
  barker_number,
  one_number,
  word_in,
}

module _ (k : Kind) (r : Rate) (rec : List Taken) (n : ℕ) where
  abbrev P : ℕ
  P = preamble_length k

  abbrev F : ℕ
  F = front_symbols k

  within : P ≤ F
  within = omega (arith, front_symbols_lem k)

  -- ---- the symbols, by where they stand
  pub in_preamble_lem : (s : ℕ) → s < P → (rate_at k r s ≡ One) × (place_at k r s ≡ 11 * s) × (bit_at k r s ≡ s)
  in_preamble_lem s h =
      (rw (lt-ltb s P h), rw (lt-ltb s F (omega (arith, within))), rw (lt-ltb s P h))

  pub in_header_lem : (s : ℕ) → P ≤ s → s < F
      → (rate_at k r s ≡ header_rate k) × (place_at k r s ≡ 11 * s)
      × (bit_at k r s ≡ P + symbol_bits (header_rate k) * (s - P))
  in_header_lem s l h =
      (rw (le-ltb s P l, lt-ltb s F h), rw (lt-ltb s F h), rw (le-ltb s P l, lt-ltb s F h))

  pub in_payload : (s : ℕ) → F ≤ s
      → (rate_at k r s ≡ r) × (place_at k r s ≡ front_chips k + symbol_chips r * (s - F))
      × (bit_at k r s ≡ P + header_length + symbol_bits r * (s - F))
  in_payload s l =
      let p : P ≤ s = omega (arith, within) in
      (rw (le-ltb s P p, le-ltb s F l), rw (le-ltb s F l), rw (le-ltb s P p, le-ltb s F l))

  word_is : (s : ℕ) (q : Rate) (at : ℕ) → rate_at k r s ≡ q → place_at k r s ≡ at
      → word_of_symbol k r rec s ≡ word_from q at rec
  word_is s q at e f = λ i. word_from (e i) (f i) rec

  -- ---- a row of words: symbols suc S, suc S + 1, .., grown from symbol S
  module _ (S : ℕ) (q : Rate) (p : ℕ) (ws : List ℕ) (B : ℕ) (p-is : p ≡ phase_of (rate_at k r S) (word_of_symbol k r rec S))
      (words_are : (j : ℕ) → j < length ws → get_or ws j 0 ≡ word_of_symbol k r rec (suc (S + j)))
      (rates-are : (j : ℕ) → j < length ws → rate_at k r (suc (S + j)) ≡ q)
      (bits_are : (j : ℕ) → j < length ws → bit_at k r (suc (S + j)) ≡ B + symbol_bits q * j)
      (number_is : (j x y : ℕ) → heard_bits q j x y ≡ heard_bits q (suc (S + j) - F) x y)
      (fits : S + length ws < symbols_in k r n) where
    before_is : (j : ℕ) → j < length ws
        → before q p ws j ≡ phase_of (rate_at k r (S + j)) (word_of_symbol k r rec (S + j))
    before_is zero l = let e : S + 0 ≡ S = omega arith in rw e p-is
    before_is (suc j) l =
        let e : S + suc j ≡ suc (S + j) = omega arith in
        rw e (λ i. phase_of (sym (rates-are j (omega arith)) i) (words_are j (omega arith) i))

    bits_there : (j : ℕ) → j < length ws → heard_bits q j (before q p ws j) (get_or ws j 0) ≡ bits_behind k r rec (S + j)
    bits_there j l =
        number_is j (before q p ws j) (get_or ws j 0)
        ∙ (λ i. heard_bits (sym (rates-are j l) i) (suc (S + j) - F) (before_is j l i) (words_are j l i))

    in_row : (c : ℕ) → c < symbol_bits q * length ws → SentBit k r rec n (B + c) (get_or (heard q 0 p ws) c 0)
    in_row c h =
        let d = split q c (length ws) h in
        let j = c / symbol_bits q in
        let i = c % symbol_bits q in
        let there : SentBit k r rec n (bit_at k r (suc (S + j)) + i) (get_or (bits_behind k r rec (S + j)) i 0) =
        of_symbol (S + j) i (omega (arith, fits, d.0))
        (subst (λ (x : Rate). i < symbol_bits x) (sym (rates-are j d.0)) d.1) in
        let at : bit_at k r (suc (S + j)) + i ≡ B + c = omega (arith, bits_are j d.0, d.2) in
        let value : get_or (bits_behind k r rec (S + j)) i 0 ≡ get_or (heard q 0 p ws) c 0 =
        ap (λ (x : List ℕ). get_or x i 0) (sym (bits_there j d.0))
        ∙ ap (λ (x : ℕ). get_or (heard_bits q x (before q p ws j) (get_or ws j 0)) i 0) (omega arith)
        ∙ sym (heard_bit q 0 p ws j i d.0 d.1)
        ∙ ap (λ (x : ℕ). get_or (heard q 0 p ws) x 0) d.2 in
        subst (λ (b : ℕ). SentBit k r rec n b (get_or (heard q 0 p ws) c 0)) at
        (subst (λ (v : ℕ). SentBit k r rec n (bit_at k r (suc (S + j)) + i) v) value there)

  -- ---- the preamble: the first symbol is only a reference
  abbrev preamble : List ℕ
  preamble = heard One 0 (reference k rec) (preamble_words k rec)

  preamble_words_lem : length (preamble_words k rec) ≡ P
  unfolding preamble_words
  preamble_words_lem = decided_words_length One P rec

  preamble_length_lem : length preamble ≡ P
  preamble_length_lem =
      let e = heard_length One 0 (reference k rec) (preamble_words k rec) in
      omega (arith, e, preamble_words_lem)

  preamble_word : (s : ℕ) → s < P → get_or (preamble_words k rec) s 0 ≡ word_of_symbol k r rec s
  unfolding preamble_words
  preamble_word s l = let h = in_preamble_lem s l in words_at One P s rec l ∙ sym (word_is s One (11 * s) h.0 h.1)

  sent_preamble : (s : ℕ) → suc s < P → SentBit k r rec n (suc s) (get_or preamble (suc s) 0)
  sent_preamble s l =
      let ws = preamble_words k rec in
      let h = in_preamble_lem s (omega arith) in
      let g = in_preamble_lem (suc s) l in
      let there : SentBit k r rec n (bit_at k r (suc s) + 0) (get_or (bits_behind k r rec s) 0 0) =
      of_symbol s 0 (omega (arith, l, within)) (subst (λ (x : Rate). 0 < symbol_bits x) (sym g.0) (omega arith)) in
      let at : bit_at k r (suc s) + 0 ≡ suc s = omega (arith, g.2) in
      let phase : phase_of (rate_at k r s) (word_of_symbol k r rec s) ≡ get_or ws s 0 =
      λ i. phase_of (h.0 i) (sym (preamble_word s (omega arith)) i) in
      let value : get_or (bits_behind k r rec s) 0 0 ≡ get_or preamble (suc s) 0 =
      (λ i. get_or (heard_bits (g.0 i) (suc s - F) (phase i) (sym (preamble_word (suc s) l) i)) 0 0)
      ∙ ap (λ (x : List ℕ). get_or x 0 0) (one_number (suc s - F) (0 + suc s) (get_or ws s 0) (get_or ws (suc s) 0))
      ∙ sym (heard_bit One 0 (reference k rec) ws (suc s) 0 (omega (arith, l, preamble_words_lem)) (omega arith))
      ∙ ap (λ (x : ℕ). get_or preamble x 0) (omega arith) in
      subst (λ (b : ℕ). SentBit k r rec n b (get_or preamble (suc s) 0)) at
      (subst (λ (v : ℕ). SentBit k r rec n (bit_at k r (suc s) + 0) v) value there)

  -- ---- the header
  abbrev hr : Rate
  hr = header_rate k

  header_words_lem : length (header_words k rec) ≡ header_symbols k
  unfolding header_words
  header_words_lem = decided_words_length hr (header_symbols k) (drop (preamble_chips k) rec)

  header_word : (j : ℕ) → j < header_symbols k → get_or (header_words k rec) j 0 ≡ word_of_symbol k r rec (P + j)
  unfolding header_words
  header_word j l =
      let h = in_header_lem (P + j) (omega arith) (omega (arith, front_symbols_lem k)) in
      let at : preamble_chips k + symbol_chips hr * j ≡ 11 * (P + j) =
      omega (arith, ap (λ (c : ℕ). c * j) (header_chips k)) in
      word_in hr (header_symbols k) (preamble_chips k) j rec l
      ∙ ap (λ (x : ℕ). word_from hr x rec) at ∙ sym (word_is (P + j) hr (11 * (P + j)) h.0 h.1)

  -- the last symbol of the preamble, and of the header
  last_in : (s : ℕ) → suc s ≡ P → header_phase k rec ≡ phase_of (rate_at k r s) (word_of_symbol k r rec s)
  unfolding header_phase
  last_in s e =
      let ws = preamble_words k rec in
      let l : s < P = omega (arith, e) in
      last_heard_lem One (reference k rec) ws
      ∙ ap (before One (reference k rec) ws) (preamble_words_lem ∙ sym e)
      ∙ (λ i. phase_of (sym (in_preamble_lem s l).0 i) (preamble_word s l i))

  abbrev header : List ℕ
  header = heard hr 0 (header_phase k rec) (header_words k rec)

  sent_header_lem : (c : ℕ) → c < header_length → SentBit k r rec n (P + c) (get_or header c 0)
  sent_header_lem c h =
      let S = P - 1 in
      let next : (j : ℕ) → suc (S + j) ≡ P + j = λ j. omega arith in
      let m = header_symbols k in
      let few : (j : ℕ) → j < length (header_words k rec) → j < m = λ j l. omega (arith, l, header_words_lem) in
      let there : (j : ℕ) → j < m → suc (S + j) < F = λ j l. omega (arith, l, front_symbols_lem k) in
      in_row S hr (header_phase k rec) (header_words k rec) P (last_in S (omega arith))
      (λ j l. header_word j (few j l) ∙ ap (word_of_symbol k r rec) (sym (next j)))
      (λ j l. (in_header_lem (suc (S + j)) (omega arith) (there j (few j l))).0)
      (λ j l. (in_header_lem (suc (S + j)) (omega arith) (there j (few j l))).2
      ∙ ap (λ (i : ℕ). P + symbol_bits hr * i) (omega arith))
      (λ j x y. barker_number k j (suc (S + j) - F) x y)
      (omega (arith, header_words_lem, front_symbols_lem k))
      c (subst (λ (i : ℕ). c < symbol_bits hr * i) (sym header_words_lem) (subst (λ (i : ℕ). c < i) (sym (header_bits_lem k)) h))

  pub sent_front : (b : ℕ) → 1 ≤ b → b < P + header_length → SentBit k r rec n b (get_or (front_heard k rec) b 0)
  unfolding front_heard
  sent_front b some l = by b some l (dec_lt b P)
    where
      by : (b : ℕ) → 1 ≤ b → b < P + header_length → Dec (b < P)
          → SentBit k r rec n b (get_or (preamble ++ header) b 0)
      by zero s l d = absurd (omega arith)
      by (suc b) s l (yes h) =
          subst (SentBit k r rec n (suc b))
          (sym (get_or-append preamble header 0 (suc b) (omega (arith, h, preamble_length_lem)))) (sent_preamble b h)
      by (suc b) s l (no h) =
          let c = suc b - P in
          let at : P + c ≡ suc b = omega (arith, h) in
          let behind : length preamble + c ≡ suc b = omega (arith, at, preamble_length_lem) in
          subst (λ (x : ℕ). SentBit k r rec n x (get_or (preamble ++ header) (suc b) 0)) at
          (subst (SentBit k r rec n (P + c))
          (sym (get_or-append-add preamble header c 0) ∙ ap (λ (x : ℕ). get_or (preamble ++ header) x 0) behind)
          (sent_header_lem c (omega (arith, l, h))))

  pub front_length : length (front_heard k rec) ≡ P + header_length
  unfolding front_heard
  front_length =
      length-append preamble (heard hr 0 (header_phase k rec) (header_words k rec))
      ∙ omega (
        arith,
        preamble_length_lem,
        heard_length hr 0 (header_phase k rec) (header_words k rec)
            ∙ ap (λ (m : ℕ). symbol_bits hr * m) header_words_lem ∙ header_bits_lem k,
      )

  -- ---- the payload
  payload_words_lem : length (payload_words k r n rec) ≡ octet_symbols r * n
  unfolding payload_words
  payload_words_lem = decided_words_length r (8 * n / symbol_bits r) (drop (front_chips k) rec) ∙ part_symbols r n

  payload_word : (j : ℕ) → j < octet_symbols r * n → get_or (payload_words k r n rec) j 0 ≡ word_of_symbol k r rec (F + j)
  unfolding payload_words
  payload_word j l =
      let h = in_payload (F + j) (omega arith) in
      word_in r (8 * n / symbol_bits r) (front_chips k) j rec (omega (arith, l, part_symbols r n))
      ∙ sym (word_is (F + j) r (front_chips k + symbol_chips r * j) h.0
      (h.1 ∙ ap (λ (i : ℕ). front_chips k + symbol_chips r * i) (omega arith)))

  last_of_front : (s : ℕ) → suc s ≡ F → payload_phase k rec ≡ phase_of (rate_at k r s) (word_of_symbol k r rec s)
  unfolding payload_phase
  last_of_front s e =
      let ws = header_words k rec in
      let m = s - P in
      let some_symbols : suc m ≡ header_symbols k = omega (arith, e, front_symbols_lem k, header_some k) in
      let at : P + m ≡ s = omega (arith, e, front_symbols_lem k, header_some k) in
      let l : m < header_symbols k = omega (arith, some_symbols) in
      last_heard_lem hr (header_phase k rec) ws
      ∙ ap (before hr (header_phase k rec) ws) (header_words_lem ∙ sym some_symbols)
      ∙ (λ i. phase_of (sym (in_header_lem (P + m) (omega arith) (omega (arith, l, front_symbols_lem k))).0 i)
      (header_word m l i))
      ∙ ap (λ (x : ℕ). phase_of (rate_at k r x) (word_of_symbol k r rec x)) at
    where
      header_some : (k : Kind) → 1 ≤ header_symbols k
      header_some Long = omega arith
      header_some Short = omega arith

  abbrev payload : List ℕ
  payload = heard r 0 (payload_phase k rec) (payload_words k r n rec)

  sent_payload : (c : ℕ) → c < 8 * n → SentBit k r rec n (P + header_length + c) (get_or payload c 0)
  sent_payload c h =
      let S = F - 1 in
      let next : (j : ℕ) → suc (S + j) ≡ F + j = λ j. omega (arith, within) in
      let few : (j : ℕ) → j < length (payload_words k r n rec) → j < octet_symbols r * n =
      λ j l. omega (arith, l, payload_words_lem) in
      in_row S r (payload_phase k rec) (payload_words k r n rec) (P + header_length)
      (last_of_front S (omega (arith, within)))
      (λ j l. payload_word j (few j l) ∙ ap (word_of_symbol k r rec) (sym (next j)))
      (λ j l. (in_payload (suc (S + j)) (omega (arith, within))).0)
      (λ j l. (in_payload (suc (S + j)) (omega (arith, within))).2
      ∙ ap (λ (i : ℕ). P + header_length + symbol_bits r * i) (omega (arith, within)))
      (λ j x y. ap (λ (i : ℕ). heard_bits r i x y) (omega (arith, within)))
      (omega (arith, payload_words_lem, within))
      c
      (subst (λ (i : ℕ). c < symbol_bits r * i) (sym payload_words_lem) (subst (λ (i : ℕ). c < i) (sym (part_bits r n)) h))

  -- ---- the whole frame
  abbrev all : List ℕ
  all = front_heard k rec ++ payload

  all_length : length all ≡ P + header_length + 8 * n
  all_length =
      length-append (front_heard k rec) payload
      ∙ omega (
        arith,
        front_length,
        heard_length r 0 (payload_phase k rec) (payload_words k r n rec)
            ∙ ap (λ (m : ℕ). symbol_bits r * m) payload_words_lem ∙ part_bits r n,
      )

  sent_all : (b : ℕ) → 1 ≤ b → b < P + header_length + 8 * n → SentBit k r rec n b (get_or all b 0)
  sent_all b some l = by (dec_lt b (P + header_length))
    where
      by : Dec (b < P + header_length) → SentBit k r rec n b (get_or all b 0)
      by (yes h) =
          subst (SentBit k r rec n b)
          (sym (get_or-append (front_heard k rec) payload 0 b (omega (arith, h, front_length)))) (sent_front b some h)
      by (no h) =
          let c = b - (P + header_length) in
          let at : P + header_length + c ≡ b = omega (arith, h) in
          let behind : length (front_heard k rec) + c ≡ b = omega (arith, at, front_length) in
          subst (λ (x : ℕ). SentBit k r rec n x (get_or all b 0)) at
          (subst (SentBit k r rec n (P + header_length + c))
          (sym (get_or-append-add (front_heard k rec) payload c 0) ∙ ap (λ (x : ℕ). get_or all x 0) behind)
          (sent_payload c (omega (arith, l, h))))

  -- ---- unscrambled, and as numbers: of any row of bits as they were sent
  module _ (os past : List ℕ) (m : ℕ) (os-length : length os ≡ m)
      (sent : (b : ℕ) → 1 ≤ b → b < m → SentBit k r rec n b (get_or os b 0)) where
    three : (x y z : ℕ) → (x + y + z) % 2 ≡ x ⊕ y ⊕ z
    three x y z = omega arith

    plain : (b : ℕ) → 8 ≤ b → b < m → PlainBit k r rec n b (get_or (descramble past os) b 0)
    plain b some l =
        let c = b - 7 in
        let at : c + 7 ≡ b = omega arith in
        let bit : ℕ → ℕ = λ i. get_or os i 0 in
        subst (λ (x : ℕ). PlainBit k r rec n x (get_or (descramble past os) x 0)) at
        (subst (PlainBit k r rec n (c + 7))
        (three (bit (c + 7)) (bit (c + 3)) (bit c) ∙ sym (descramble_at past os c (omega (arith, os-length))))
        (of_three c (bit (c + 7)) (bit (c + 3)) (bit c) (sent (c + 7) (omega arith) (omega arith))
        (sent (c + 3) (omega arith) (omega arith)) (sent c (omega arith) (omega arith))))

    field : (from count : ℕ) → 8 ≤ from → from + count ≤ m
        → FieldAt k r rec n from count (number_of (take count (drop from (descramble past os))))
    field from count some l = record {
      bit = λ i. get_or (descramble past os) (from + i) 0;
      each = λ i h. plain (from + i) (omega (arith, some)) (omega (arith, h, l));
      value_is =
          number_field from count (descramble past os) (omega (arith, l, os-length, descramble_length past os));
    }

  pub front_fields : (from count : ℕ) → 8 ≤ from → from + count ≤ P + header_length
      → FieldAt k r rec n from count (number_of (take count (drop from (front_bits k rec))))
  unfolding front_bits
  front_fields = field (front_heard k rec) (start k) (P + header_length) front_length sent_front

  pub payload_octet : (j : ℕ) → j < n
      → FieldAt k r rec n (P + header_length + 8 * j) 8 (get_or (payload_of k r n rec) j 0)
  unfolding payload_of
  payload_octet j l =
      let plain-bits = descramble (start k) all in
      subst (FieldAt k r rec n (P + header_length + 8 * j) 8)
      (sym (octet_of_lem n j (drop (P + header_length) plain-bits) l
      ∙ ap (λ (x : List ℕ). number_of (take 8 x)) (drop-drop (8 * j) (P + header_length) plain-bits)))
      (field all (start k) (P + header_length + 8 * n) all_length sent_all (P + header_length + 8 * j) 8 (omega arith)
      (omega arith))
