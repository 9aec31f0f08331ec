-- Uses of what is kept of the call that says why a read is refused, so that none of it can be said of nothing and no
-- part can be lost: each case of a read's answer (`ReadAnswer` of promises), in plain numbers, leaves one reason.
-- Assumes nothing.
use mathlib.Core.Path.{◌≡◌, refl, sym, ap, ◌∙◌, subst}
use mathlib.Core.Bool.{true}
use mathlib.Core.List.{List, [], ◌∷◌}
use Prim.Native.Nat.{ℕ, suc, ◌+◌, ◌*◌, ◌/◌, ◌%◌, ◌≤◌, ◌<◌}
use native.Mathlib.Omega.{arith}
use lib.ListN.{length, get_or, take}
use Rattle.rules_rates.specs.Plain.{LengthOf, SevenOf}
use Rattle.rules_chips.specs.Chips.{Taken, hard_recording}
use Rattle.rules_chips.proofs.Recorders.{length_hard}
use Rattle.rules_bits.specs.Bits.{number_of, highest_first}
use Rattle.rules_bits.specs.Crc.{crc_bits}
use Rattle.rules_frame.specs.Frame.{kind_of, field_bits}
use Rattle.rules_calls.specs.declared.Record.{Record}
use Rattle.rules_calls.specs.Answers.{record_of}
use Rattle.rules_reading.specs.Places.{UsableAt, UnusableFirst, odd_behind, FirstOddSymbol}
use Rattle.rules_reading.specs.Reading.{reading_of, octets_found}
use Rattle.promises.specs.Calls.{Goes, long_1}
use Rattle.promises.specs.Coming.{FrontOf, front_at}
use Rattle.promises.specs.Reasons.{
  BitsOf,
  FrontField,
  ServiceOf,
  HasFront,
  HasBits,
  HasHeader,
  HasPayload,
  ReadAnswer,
  is_1,
  is_8,
  front_9,
  front_10,
  is_11,
  is_12,
  is_13,
  is_14,
  is_15,
  is_16,
  is_17,
  payload_9,
  payload_10,
  is_0,
}
use Rattle.promises.proofs.Exactly.{one_bits, one_field, one_header, header_moved}
use Rattle.promises.proofs.Kept as reads
use Rattle.rules_why.specs.declared.Reason.{Reason}
use Rattle.rules_why.specs.Why.{reason, why_of}
use Rattle.rules_why.specs.Plain.{GrownAt, HighestAt, Cleared, LengthWanted}
use Rattle.rules_why.proofs.Laws.{unusable_octet}
use Rattle.promises_why.specs.Calls.{Explains}
use Rattle.promises_why.specs.Table.{
  Table,
  row_0,
  row_1,
  row_8,
  row_9,
  row_10,
  row_11,
  row_12,
  row_13,
  row_14,
  row_15,
  row_16,
  row_17,
}
use Rattle.promises_why.specs.Promises.{Alike, all_zeros, signal_0, length_0}
use Rattle.rules_reading.proofs.Facts.{short_frame, spoilt, turned_by}
use Rattle.promises_why.proofs.Computed.{payload, front, headed, header}
use Rattle.promises_why.proofs.Kept.{kept}

module _ (kind : ℕ) (chips : List ℕ) (room : ℕ) (r : Reason) (x : Explains kind chips room r) where
  abbrev rec : List Taken
  rec = hard_recording chips

  abbrev Row : ℕ → ℕ → ℕ → ℕ → Type 0
  Row = Table kind chips room

  abbrev Says : Record → Type 0
  Says = ReadAnswer kind true rec room

  -- ---- the reader's answer, for every room
  answer : Record
  answer = record_of (reading_of kind true rec room)

  agrees : (r.number ≡ answer.number) × (r.place ≡ answer.place) × (answer.number ≡ 0 → r ≡ reason 0 0 0 0)
  unfolding answer
  agrees =
      kept.why_agrees kind chips room r (record_of (reading_of kind true rec room)) (octets_found kind true rec room) x
      (record { answer = refl; octets = refl })

  says : (b : Record) → Says b → (answer.number ≡ b.number) × (answer.place ≡ b.place)
  unfolding answer
  says b c =
      let e = ((reads.kept).read_answers kind true rec room (record_of (reading_of kind true rec room))
      (octets_found kind true rec room) (record { answer = refl; octets = refl })).0 b c in
      (λ i. (sym e i).number, λ i. (sym e i).place)

  -- a case of the reader's answer and a row of its number and place are the reason
  exactly : {b : Record} {e f : ℕ} → Says b → Row b.number b.place e f → r ≡ reason b.number b.place e f
  exactly {b} {e} {f} c t =
      let n : r.number ≡ b.number = agrees.0 ∙ (says b c).0 in
      let p : r.place ≡ b.place = agrees.1 ∙ (says b c).1 in
      let q = (kept.why_table kind chips room r x).1 e f (subst (λ (y : ℕ × ℕ). Row y.0 y.1 e f)
      (λ i. (sym n i, sym p i)) t) in
      λ i. reason (n i) (p i) (sym q.0 i) (sym q.1 i)

  -- where the two numbers are one
  alike_found : {s : Reason} → Alike s → s.found ≡ 0
  alike_found all_zeros = refl
  alike_found signal_0 = refl
  alike_found length_0 = refl

  alike_number : {s : Reason} → Alike s → (s.number ≡ 0 → ⊥) → (s.number ≡ 13 → ⊥) → (s.number ≡ 15 → ⊥) → ⊥
  alike_number all_zeros a b c = a refl
  alike_number signal_0 a b c = b refl
  alike_number length_0 a b c = c refl

  pub not_alike : (n : ℕ) → r.number ≡ n → (n ≡ 0 → ⊥) → (n ≡ 13 → ⊥) → (n ≡ 15 → ⊥) → r.expected ≡ r.found → ⊥
  not_alike n e a b c q =
      alike_number ((kept.why_differs kind chips room r x).0 q) (λ z. a (sym e ∙ z)) (λ z. b (sym e ∙ z))
      (λ z. c (sym e ∙ z))

  alike_same : {s : Reason} → Alike s → s.expected ≡ s.found
  alike_same all_zeros = refl
  alike_same signal_0 = refl
  alike_same length_0 = refl

  -- and they are one where they are said to be
  pub alike_13 : r.number ≡ 13 → r.found ≡ 0 → r.expected ≡ 0
  alike_13 n z = alike_same ((kept.why_differs kind chips room r x).1 n z) ∙ z

  pub alike_15 : r.number ≡ 15 → r.found ≡ 0 → r.expected ≡ 0
  alike_15 n z = alike_same ((kept.why_differs kind chips room r x).2 n z) ∙ z

  alike_place : {s : Reason} → Alike s → s.place ≡ 0
  alike_place all_zeros = refl
  alike_place signal_0 = refl
  alike_place length_0 = refl

  pub alike_nowhere : r.expected ≡ r.found → r.place ≡ 0
  alike_nowhere e = alike_place ((kept.why_differs kind chips room r x).0 e)

  -- ---- 7 cannot come, and an octet that is shown is none of 0 to 4
  comes : {n place e f : ℕ} → Row n place e f → n ≡ 7 → ⊥
  comes row_0 z = omega arith
  comes row_1 z = omega arith
  comes (row_8 f) z = omega arith
  comes (row_9 p o) z = omega arith
  comes (row_10 g) z = omega arith
  comes (row_11 b f) z = omega arith
  comes (row_12 b s v l h) z = omega arith
  comes (row_13 h) z = omega arith
  comes (row_14 h c) z = omega arith
  comes (row_15 h w) z = omega arith
  comes (row_16 p) z = omega arith
  comes (row_17 p) z = omega arith

  pub never_7 : r.number ≡ 7 → ⊥
  never_7 n = comes (kept.why_table kind chips room r x).0 n

  octet_row : {place e f : ℕ} → Row 9 place e f → 4 < f
  octet_row (row_9 p o) = o

  pub octet_shown : r.number ≡ 9 → 4 < r.found
  octet_shown n =
      octet_row
      (subst (λ (y : ℕ). Row y r.place r.expected r.found) n (kept.why_table kind chips room r x).0)

  -- ---- each number, what is shown known beforehand
  pub told_1 : 2 ≤ kind → r ≡ reason 1 0 0 kind
  told_1 h = exactly (is_1 h) row_1

  pub told_8 : {front : ℕ} → FrontOf kind front → length chips < front → r ≡ reason 8 0 front (length chips)
  told_8 f l = exactly (is_8 f refl (omega (arith, l, length_hard chips))) (row_8 f)

  pub told_9 : {front place : ℕ} → HasFront kind true rec front → place < front → UnusableFirst rec place
      → r ≡ reason 9 place 0 (get_or chips place 0)
  told_9 {place = place} h l u = exactly (front_9 h l u) (row_9 place (unusable_octet chips place u))

  pub told_11 : {at sfd heard : ℕ} → HasBits kind true rec at sfd → FrontField kind rec at 16 heard
      → (heard ≡ sfd → ⊥) → r ≡ reason 11 0 sfd heard
  told_11 h f d = exactly (is_11 h f d) (row_11 h f)

  pub told_13 : {signal service l : ℕ} → HasHeader kind true rec signal service l
      → ((front octet : ℕ) → Goes kind signal front octet → ⊥) → r ≡ reason 13 0 0 signal
  told_13 h d = exactly (is_13 h d) (row_13 h)

  pub told_16 : {rate service l n front octet : ℕ} → HasPayload kind true rec rate service l n front octet
      → length chips < front + octet * n → r ≡ reason 16 0 (front + octet * n) (length chips)
  told_16 p l = exactly (is_16 p (omega (arith, l, length_hard chips))) (row_16 p)

  module _ {rate service l n front octet : ℕ} (p : HasPayload kind true rec rate service l n front octet)
      (there : front + octet * n ≤ length chips) where
    long : front + octet * n ≤ length rec
    long = omega (arith, there, length_hard chips)

    pub told_17 : room < n → r ≡ reason 17 0 n room
    told_17 m = exactly (is_17 p long m) (row_17 p)

    pub payload_told_9 : {place : ℕ} → n ≤ room → front ≤ place → place < front + octet * n → UnusableFirst rec place
        → r ≡ reason 9 place 0 (get_or chips place 0)
    payload_told_9 {place} m a b u = exactly (payload_9 p long m a b u) (row_9 place (unusable_octet chips place u))

    pub told_0 : n ≤ room → ((q : ℕ) → q < front + octet * n → UsableAt rec q)
        → (rate ≡ 10 → (s : ℕ) → 11 * suc s < front + octet * n → odd_behind rec s ≡ 0) → r ≡ reason 0 0 0 0
    told_0 m u d = agrees.2 (says _ (is_0 0 0 p long m u d)).0

  -- ---- and each that has a rule of its own: what is shown is by the rule
  row_of : {b : Record} → Says b → Row b.number b.place r.expected r.found
  row_of {b} c =
      subst (λ (y : ℕ × ℕ). Row y.0 y.1 r.expected r.found)
      (λ i. ((agrees.0 ∙ (says b c).0) i, (agrees.1 ∙ (says b c).1) i)) (kept.why_table kind chips room r x).0

  -- the growth is 1 or 3
  abbrev Odd : ℕ → Type 0
  Odd f = (f % 2 ≡ 1) × (f < 4)

  grown_row : {place e f : ℕ} → Row 10 place e f → (e ≡ 0) × GrownAt rec place f × Odd f
  grown_row (row_10 g) = (refl, g, (g.odd, g.small))

  pub told_10 : {front at sfd ones place : ℕ} → HasFront kind true rec front
      → ((q : ℕ) → q < front → UsableAt rec q) → BitsOf kind at sfd ones → place < 11 * ones → FirstOddSymbol rec place
      → (r.expected ≡ 0) × GrownAt rec place r.found × Odd r.found
  told_10 h u b l o = grown_row (row_of (front_10 h u b l o))

  pub payload_told_10 : {rate service l n front octet place : ℕ}
      → HasPayload kind true rec rate service l n front octet → front + octet * n ≤ length chips → n ≤ room
      → ((q : ℕ) → q < front + octet * n → UsableAt rec q) → rate ≡ 10 → front ≤ place → place < front + octet * n
      → FirstOddSymbol rec place → (r.expected ≡ 0) × GrownAt rec place r.found × Odd r.found
  payload_told_10 p there m u t a b o =
      grown_row (row_of (payload_10 p (omega (arith, there, length_hard chips)) m u t a b o))

  -- the CRC: by the bits as they are read
  crc_row : {place e f at sfd signal service l : ℕ} → Row 12 place e f → HasBits kind true rec at sfd
      → FrontField kind rec (at + 16) 8 signal → FrontField kind rec (at + 24) 8 service
      → FrontField kind rec (at + 32) 16 l
      → (e ≡ highest_first (crc_bits (field_bits signal service l))) × HighestAt (kind_of kind) rec (at + 48) 16 f
  crc_row {f = f} (row_12 c t w m g) b s v l =
      let e = (one_bits c.bits_are b.bits_are).0 in (
        (λ i. highest_first (crc_bits (field_bits (one_field kind true rec room 16 e t s i)
            (one_field kind true rec room 24 e w v i) (one_field kind true rec room 32 e m l i)))),
        subst (λ (i : ℕ). HighestAt (kind_of kind) rec (i + 48) 16 f) e g,
      )

  pub told_12 : {at sfd signal service l crc : ℕ} → HasBits kind true rec at sfd → FrontField kind rec at 16 sfd
      → FrontField kind rec (at + 16) 8 signal → FrontField kind rec (at + 24) 8 service
      → FrontField kind rec (at + 32) 16 l → FrontField kind rec (at + 48) 16 crc
      → (crc ≡ number_of (crc_bits (field_bits signal service l)) → ⊥)
      → (r.expected ≡ highest_first (crc_bits (field_bits signal service l)))
      × HighestAt (kind_of kind) rec (at + 48) 16 r.found
  told_12 b q s v l c d = crc_row (row_of (is_12 b q s v l c d)) b s v l

  -- SERVICE and LENGTH: by the header, and never 0 and the LENGTH itself only where that is 0
  module _ {rate service l front octet : ℕ} (h : HasHeader kind true rec rate service l)
      (g : Goes kind rate front octet) where
    service_row : {place e f : ℕ} → Row 14 place e f → (e ≡ 0) × Cleared rate service f
    service_row {f = f} (row_14 k c) =
        (refl, header_moved kind true rec room (λ x y z. Cleared x y f) k h c)

    length_row : {place e f : ℕ} → Row 15 place e f → LengthWanted rate l (service / 128 % 2) e × (f ≡ l)
    length_row {e = e} (row_15 k w) = (
      header_moved kind true rec room (λ x y z. LengthWanted x z (y / 128 % 2) e) k h w,
      (one_header kind true rec room k h).2,
    )

    pub told_14 : (ServiceOf rate service → ⊥)
        → (r.expected ≡ 0) × Cleared rate service r.found × (r.found ≡ 0 → ⊥)
    told_14 d =
        let t = row_of (is_14 h g d) in
        let w = service_row t in (
          w.0,
          w.1,
          λ z. not_alike 14 (agrees.0 ∙ (says _ (is_14 h g d)).0) (omega arith) (omega arith) (omega arith)
              (w.0 ∙ sym z),
        )

    pub told_15 : ServiceOf rate service
        → ((n : ℕ) → 1 ≤ n → n ≤ 4095 → LengthOf rate n l → SevenOf rate n l (service / 128 % 2) → ⊥)
        → LengthWanted rate l (service / 128 % 2) r.expected × (r.found ≡ l) × (r.expected ≡ l → l ≡ 0)
    told_15 s d = let w = length_row (row_of (is_15 h g s d)) in (
      w.0,
      w.1,
      λ e. sym w.1
          ∙ alike_found ((kept.why_differs kind chips room r x).0 (e ∙ sym w.1)),
    )

-- ---- computed: kind 2, and five chips of a long frame
two : (r : Reason) → Explains 2 (0 ∷ []) 7 r → r ≡ reason 1 0 0 2
two r x = told_1 2 (0 ∷ []) 7 r x (omega arith)

five : (r : Reason) → Explains 0 (0 ∷ 1 ∷ 2 ∷ 3 ∷ 9 ∷ []) 7 r → r ≡ reason 8 0 2112 5
five r x = told_8 0 (0 ∷ 1 ∷ 2 ∷ 3 ∷ 9 ∷ []) 7 r x (front_at long_1) (omega arith)

-- and the row of each other number, of the recordings that Computed.antt has
row_of_fact : (kind : ℕ) (chips : List ℕ) (room : ℕ) {n p e f : ℕ} → why_of kind chips room ≡ reason n p e f
    → Table kind chips room n p e f
row_of_fact kind chips room fact =
    subst (λ (r : Reason). Table kind chips room r.number r.place r.expected r.found) fact
    (kept.why_table kind chips room (why_of kind chips room) (record { answer = refl })).0

abbrev nth : ℕ → List Reason → Reason
nth j rs = get_or rs j (reason 0 0 0 0)

of_payload : Table 1 short_frame 1 0 0 0 0 × Table 1 short_frame 0 17 0 1 0
    × Table 1 (take 1063 short_frame) 1 16 0 1064 1063 × Table 1 (spoilt 1063 9 short_frame) 1 9 1063 0 9
of_payload = (
  row_of_fact 1 short_frame 1 (ap (nth 0) payload),
  row_of_fact 1 short_frame 0 (ap (nth 1) payload),
  row_of_fact 1 (take 1063 short_frame) 1 (ap (nth 2) payload),
  row_of_fact 1 (spoilt 1063 9 short_frame) 1 (ap (nth 3) payload),
)

of_front : Table 1 (turned_by 22 1 short_frame) 1 10 22 0 1 × Table 1 (turned_by 660 2 short_frame) 1 11 0 0x05CF 0x1EFF
    × Table 1 (turned_by 880 2 short_frame) 1 12 0 0xC8AB 0x054B
of_front = (
  row_of_fact 1 (turned_by 22 1 short_frame) 1 (ap (nth 0) front),
  row_of_fact 1 (turned_by 660 2 short_frame) 1 (ap (nth 1) front),
  row_of_fact 1 (turned_by 880 2 short_frame) 1 (ap (nth 2) front),
)

of_header : Table 1 (headed 0 0 1) 1 13 0 0 0 × Table 1 (headed 110 0xCD 1) 1 14 0 0 0x49
    × Table 1 (headed 110 128 4) 4 15 0 3 4 × Table 1 (headed 110 128 0) 1 15 0 0 0
of_header = (
  row_of_fact 1 (headed 0 0 1) 1 (ap (nth 0) header),
  row_of_fact 1 (headed 110 0xCD 1) 1 (ap (nth 1) header),
  row_of_fact 1 (headed 110 128 4) 4 (ap (nth 2) header),
  row_of_fact 1 (headed 110 128 0) 1 (ap (nth 3) header),
)

-- there is one reason for each input
one : (kind : ℕ) (chips : List ℕ) (room : ℕ) (r : Reason) → Explains kind chips room r
    → r ≡ why_of kind chips room
one kind chips room r x = kept.one_reason kind chips room r (why_of kind chips room) x (record { answer = refl })
