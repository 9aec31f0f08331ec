-- A read's answer is the one that `ReadAnswer` allows, but for the lead and its symbol. The reading order is a row of
-- steps: an answer stops at a step, or goes on where none can stop there. So two answers to one input stop at the same
-- step, and what a step answers is one thing. Assumes nothing.
use mathlib.Core.Path.{◌≡◌, refl, sym, ap, ◌∙◌, subst}
use mathlib.Core.Bool.{Bool, true, false}
use mathlib.Core.List.{List}
use Prim.Native.Nat.{ℕ, suc, ◌+◌, ◌*◌, ◌/◌, ◌%◌, ◌≤◌, ◌<◌}
use native.Mathlib.Omega.{arith}
use borrow.Author.Tests.{ltb-true}
use lib.Dec.{T}
use lib.ListN.{length}
use Rattle.rules_rates.specs.declared.Rate.TheVariants.{One}
use Rattle.rules_rates.specs.Rates.{rate_of, octet_chips}
use Rattle.rules_rates.specs.Plain.{LengthOf, SevenOf}
use Rattle.rules_rates.proofs.Plain.{octets_once, length_some}
use Rattle.rules_chips.specs.Chips.{Taken}
use Rattle.rules_bits.specs.Bits.{number_of}
use Rattle.rules_bits.specs.Crc.{crc_bits}
use Rattle.rules_frame.specs.Frame.{kind_of, field_bits}
use Rattle.rules_calls.specs.declared.Record.{Record}
use Rattle.rules_reading.specs.Places.{UsableAt, UnusableFirst, odd_behind, FirstOddSymbol}
use Rattle.rules_reading.proofs.Once.{field_once, not_unusable, unusable_once, odd_once}
use Rattle.promises.specs.Calls.{good, refused_at, refused, Goes}
use Rattle.promises.specs.Coming.{FrontOf}
use Rattle.promises.specs.Reasons.{
  BitsOf,
  long_bits,
  short_bits,
  FrontField,
  ServiceOf,
  HasFront,
  HasBits,
  HasHeader,
  HasPayload,
  ReadAnswer,
  is_1,
  is_7,
  is_8,
  front_9,
  front_10,
  is_11,
  is_12,
  is_13,
  is_14,
  is_15,
  is_16,
  is_17,
  payload_9,
  payload_10,
  is_0,
  ReadAnswers,
}
use Rattle.promises.proofs.Steps.{Once, Never, Step, stop, on, step_once, passed}
use Rattle.promises.proofs.Back.{known}
use Rattle.promises.proofs.Coming.{front_of_lem, one_front}
use Rattle.promises.proofs.Reasons.{read_says}

-- a kind's front has one SFD, at one place, and so many symbols at 1 Mbit/s
pub one_bits : {kind at at' sfd sfd' ones ones' : ℕ} → BitsOf kind at sfd ones → BitsOf kind at' sfd' ones'
    → (at ≡ at') × (sfd ≡ sfd') × (ones ≡ ones')
one_bits long_bits long_bits = (refl, refl, refl)
one_bits short_bits short_bits = (refl, refl, refl)

-- ---- the steps of one input: what stops an answer at each, without what it passed
module _ (kind : ℕ) (agree : Bool) (rec : List Taken) (room : ℕ) where
  data Is1 : Record → Type 0 where
    by_1 : 2 ≤ kind → Is1 (refused 1 0)

  data Is7 : Record → Type 0 where
    by_7 : agree ≡ false → Is7 (refused 7 0)

  data Is8 : Record → Type 0 where
    by_8 : {front : ℕ} → FrontOf kind front → length rec < front → Is8 (refused 8 0)

  data Front9 : Record → Type 0 where
    by_front_9 : {front place : ℕ} → FrontOf kind front → place < front → UnusableFirst rec place
        → Front9 (refused_at 9 place 0)

  data Front10 : Record → Type 0 where
    by_front_10 : {at sfd ones place : ℕ} → BitsOf kind at sfd ones → place < 11 * ones → FirstOddSymbol rec place
        → Front10 (refused_at 10 place 0)

  data Is11 : Record → Type 0 where
    by_11 : {at sfd ones heard : ℕ} → BitsOf kind at sfd ones → FrontField kind rec at 16 heard → (heard ≡ sfd → ⊥)
        → Is11 (refused 11 0)

  data Is12 : Record → Type 0 where
    by_12 : {at sfd ones signal service l crc : ℕ} → BitsOf kind at sfd ones → FrontField kind rec (at + 16) 8 signal
        → FrontField kind rec (at + 24) 8 service → FrontField kind rec (at + 32) 16 l
        → FrontField kind rec (at + 48) 16 crc → (crc ≡ number_of (crc_bits (field_bits signal service l)) → ⊥)
        → Is12 (refused 12 0)

  abbrev Headed : ℕ → ℕ → ℕ → Type 0
  Headed = HasHeader kind agree rec

  data Is13 : Record → Type 0 where
    by_13 : {signal service l : ℕ} → Headed signal service l → ((front octet : ℕ) → Goes kind signal front octet → ⊥)
        → Is13 (refused 13 l)

  data Is14 : Record → Type 0 where
    by_14 : {rate service l : ℕ} → Headed rate service l → (ServiceOf rate service → ⊥) → Is14 (refused 14 l)

  data Is15 : Record → Type 0 where
    by_15 : {rate service l : ℕ} → Headed rate service l
        → ((n : ℕ) → 1 ≤ n → n ≤ 4095 → LengthOf rate n l → SevenOf rate n l (service / 128 % 2) → ⊥)
        → Is15 (refused 15 l)

  abbrev Told : ℕ → ℕ → ℕ → ℕ → ℕ → ℕ → Type 0
  Told = HasPayload kind agree rec

  data Is16 : Record → Type 0 where
    by_16 : {rate service l n front octet : ℕ} → Told rate service l n front octet → length rec < front + octet * n
        → Is16 (refused 16 l)

  data Is17 : Record → Type 0 where
    by_17 : {rate service l n front octet : ℕ} → Told rate service l n front octet → room < n → Is17 (refused 17 l)

  data Payload9 : Record → Type 0 where
    by_payload_9 : {rate service l n front octet place : ℕ} → Told rate service l n front octet
        → place < front + octet * n → UnusableFirst rec place → Payload9 (refused_at 9 place l)

  data Payload10 : Record → Type 0 where
    by_payload_10 : {rate service l n front octet place : ℕ} → Told rate service l n front octet → rate ≡ 10
        → place < front + octet * n → FirstOddSymbol rec place → Payload10 (refused_at 10 place l)

  data Is0 : Record → Type 0 where
    by_0 : {rate service l n front octet : ℕ} (lead symbol : ℕ) → Told rate service l n front octet
        → Is0 (good rate l n (front + octet * n) (service / 4 % 2) lead symbol)

  -- ---- the symbols say one header, and it tells one rate, LENGTH and n
  pub one_field : (more : ℕ) {at at' count v v' : ℕ} → at ≡ at' → FrontField kind rec (at + more) count v
      → FrontField kind rec (at' + more) count v' → v ≡ v'
  one_field more {count = count} {v = v} e f g =
      field_once (kind_of kind) One rec 0 (subst (λ (i : ℕ). FrontField kind rec (i + more) count v) e f) g

  pub one_header : {s v l s' v' l' : ℕ} → Headed s v l → Headed s' v' l' → (s ≡ s') × (v ≡ v') × (l ≡ l')
  one_header h g =
      let e = (one_bits h.has.bits_are g.has.bits_are).0 in (
        one_field 16 e h.signal_is g.signal_is,
        one_field 24 e h.service_is g.service_is,
        one_field 32 e h.length_is g.length_is,
      )

  pub header_moved : (P : ℕ → ℕ → ℕ → Type 0) {s v l s' v' l' : ℕ} → Headed s v l → Headed s' v' l' → P s v l
      → P s' v' l'
  header_moved P h g x =
      let e = one_header h g in
      subst (λ (y : ℕ × ℕ × ℕ). P y.0 y.1 y.2) (λ i. (e.0 i, e.1 i, e.2 i)) x

  pub one_payload : {r v l n f o r' v' l' n' f' o' : ℕ} → Told r v l n f o → Told r' v' l' n' f' o'
      → (n ≡ n') × (f + o * n ≡ f' + o' * n')
  one_payload {n = n} {f = f} {o = o} {n' = n'} {f' = f'} {o' = o'} p q =
      let w = known p.goes in
      let w' = known q.goes in
      let octets : n ≡ n' =
      header_moved (λ r v l. LengthOf r n l → SevenOf r n l (v / 128 % 2) → n ≡ n') q.header p.header
      (λ x y. octets_once x q.length_of y q.seven_of refl refl) p.length_of p.seven_of in
      let fronts : f ≡ f' = sym w.front_is ∙ w'.front_is in
      let sizes : o ≡ o' =
      sym w.octet_is ∙ ap (λ (r : ℕ). octet_chips (rate_of r)) (one_header p.header q.header).0
      ∙ w'.octet_is in
      (octets, λ i. fronts i + sizes i * octets i)

  -- ---- what passed a step is not stopped there
  never_1 : kind < 2 → Never Is1
  never_1 h a (by_1 d) = omega arith

  never_7 : agree ≡ true → Never Is7
  never_7 h a (by_7 d) = subst T (sym h ∙ d) tt

  never_8 : {front : ℕ} → FrontOf kind front → front ≤ length rec → Never Is8
  never_8 f h a (by_8 g d) = omega (arith, one_front f g)

  never_front_9 : {front : ℕ} → FrontOf kind front → ((q : ℕ) → q < front → UsableAt rec q) → Never Front9
  never_front_9 f h a (by_front_9 {place = place} g d u) =
      not_unusable rec place u.is_one (h place (omega (arith, one_front f g)))

  never_front_10 : {at sfd ones : ℕ} → BitsOf kind at sfd ones → ((s : ℕ) → suc s < ones → odd_behind rec s ≡ 0)
      → Never Front10
  never_front_10 b h a (by_front_10 c d o) =
      omega (arith, o.is_odd, h o.symbol (omega (arith, o.place_is, (one_bits b c).2)))

  never_11 : {at sfd ones : ℕ} → BitsOf kind at sfd ones → FrontField kind rec at 16 sfd → Never Is11
  never_11 b f a (by_11 {heard = heard} c g d) =
      let e = one_bits c b in
      let here = subst (λ (i : ℕ). FrontField kind rec i 16 heard) e.0 g in
      d (field_once (kind_of kind) One rec 0 here f ∙ sym e.1)

  never_12 : {signal service l : ℕ} → Headed signal service l → Never Is12
  never_12 h a (by_12 b s v l c d) =
      let e = (one_bits h.has.bits_are b).0 in
      d (sym (one_field 48 e h.crc_is c) ∙ h.right
      ∙ (λ i. number_of (crc_bits (field_bits (one_field 16 e h.signal_is s i) (one_field 24 e h.service_is v i)
      (one_field 32 e h.length_is l i)))))

  never_13 : {rate service l front octet : ℕ} → Headed rate service l → Goes kind rate front octet → Never Is13
  never_13 {front = front} {octet = octet} h g a (by_13 k d) =
      d front octet (header_moved (λ r v l. Goes kind r front octet) h k g)

  never_14 : {rate service l : ℕ} → Headed rate service l → ServiceOf rate service → Never Is14
  never_14 h s a (by_14 k d) = d (header_moved (λ r v l. ServiceOf r v) h k s)

  never_15 : {rate service l n front octet : ℕ} → Told rate service l n front octet → Never Is15
  never_15 {n = n} p a (by_15 k d) =
      header_moved
      (λ r v l. ((n : ℕ) → 1 ≤ n → n ≤ 4095 → LengthOf r n l → SevenOf r n l (v / 128 % 2) → ⊥) → ⊥) p.header k
      (λ none. none n p.some p.few p.length_of p.seven_of) d

  module _ {rate service l n front octet : ℕ} (p : Told rate service l n front octet) where
    never_16 : front + octet * n ≤ length rec → Never Is16
    never_16 h a (by_16 q d) = omega (arith, (one_payload p q).1)

    never_17 : n ≤ room → Never Is17
    never_17 h a (by_17 q d) = omega (arith, (one_payload p q).0)

    never_payload_9 : ((q : ℕ) → q < front + octet * n → UsableAt rec q) → Never Payload9
    never_payload_9 h a (by_payload_9 {place = place} q d u) =
        not_unusable rec place u.is_one (h place (omega (arith, (one_payload p q).1)))

    never_payload_10 : (rate ≡ 10 → (s : ℕ) → 11 * suc s < front + octet * n → odd_behind rec s ≡ 0) → Never Payload10
    never_payload_10 h a (by_payload_10 q e d o) =
        omega (
          arith,
          o.is_odd,
          h ((one_header p.header q.header).0 ∙ e) o.symbol (omega (arith, o.place_is, (one_payload p q).1)),
        )

  -- ---- what a step answers is one thing
  once_1 : Once Is1
  once_1 a b (by_1 h) (by_1 d) = refl

  once_7 : Once Is7
  once_7 a b (by_7 h) (by_7 d) = refl

  once_8 : Once Is8
  once_8 a b (by_8 f h) (by_8 g d) = refl

  once_front_9 : Once Front9
  once_front_9 a b (by_front_9 f h u) (by_front_9 g d v) = λ i. refused_at 9 (unusable_once rec v u i) 0

  once_front_10 : Once Front10
  once_front_10 a b (by_front_10 f h o) (by_front_10 g d w) = λ i. refused_at 10 (odd_once rec w o i) 0

  once_11 : Once Is11
  once_11 a b (by_11 f h d) (by_11 g k e) = refl

  once_12 : Once Is12
  once_12 a b (by_12 f s v l c d) (by_12 f' s' v' l' c' d') = refl

  once_13 : Once Is13
  once_13 a b (by_13 h d) (by_13 g e) = λ i. refused 13 ((one_header g h).2 i)

  once_14 : Once Is14
  once_14 a b (by_14 h d) (by_14 g e) = λ i. refused 14 ((one_header g h).2 i)

  once_15 : Once Is15
  once_15 a b (by_15 h d) (by_15 g e) = λ i. refused 15 ((one_header g h).2 i)

  once_16 : Once Is16
  once_16 a b (by_16 p d) (by_16 q e) = λ i. refused 16 ((one_header q.header p.header).2 i)

  once_17 : Once Is17
  once_17 a b (by_17 p d) (by_17 q e) = λ i. refused 17 ((one_header q.header p.header).2 i)

  once_payload_9 : Once Payload9
  once_payload_9 a b (by_payload_9 p d u) (by_payload_9 q e v) =
      λ i. refused_at 9 (unusable_once rec v u i) ((one_header q.header p.header).2 i)

  once_payload_10 : Once Payload10
  once_payload_10 a b (by_payload_10 p r d o) (by_payload_10 q t e w) =
      λ i. refused_at 10 (odd_once rec w o i) ((one_header q.header p.header).2 i)

  once_0 : Once Is0
  once_0 a b (by_0 lead symbol p) (by_0 lead' symbol' q) =
      let h = one_header q.header p.header in
      let e = one_payload q p in
      λ i. good (h.0 i) (h.2 i) (e.0 i) (e.1 i) (h.1 i / 4 % 2) lead' symbol'

  -- ---- the reading order, from its end
  abbrev FromPayload : Record → Type 0
  FromPayload = Step Is16 (Step Is17 (Step Payload9 (Step Payload10 Is0)))

  abbrev FromFields : Record → Type 0
  FromFields = Step Is13 (Step Is14 (Step Is15 FromPayload))

  abbrev FromBits : Record → Type 0
  FromBits = Step Is11 (Step Is12 FromFields)

  abbrev FromFront : Record → Type 0
  FromFront = Step Front9 (Step Front10 FromBits)

  abbrev FromKind : Record → Type 0
  FromKind = Step Is1 (Step Is7 (Step Is8 FromFront))

  kind_once : Once FromKind
  kind_once =
      step_once once_1 (step_once once_7 (step_once once_8 (step_once once_front_9 (step_once once_front_10
      (step_once once_11 (step_once once_12 (step_once once_13 (step_once once_14 (step_once once_15 (step_once once_16
      (step_once once_17 (step_once once_payload_9 (step_once once_payload_10 once_0)))))))))))))

  -- ---- each case of an answer is at its step
  a_kind : {front : ℕ} → FrontOf kind front → kind < 2
  a_kind f = ltb-true kind 2 (front_of_lem f).0

  behind_8 : {a : Record} {front : ℕ} → HasFront kind agree rec front → FromFront a → FromKind a
  behind_8 f x =
      on (never_1 (a_kind f.front_is)) (on (never_7 f.rows_agree) (on (never_8 f.front_is f.long) x))

  behind_10 : {a : Record} {at sfd : ℕ} → HasBits kind agree rec at sfd → FromBits a → FromKind a
  behind_10 b x =
      behind_8 b.has
      (on (never_front_9 b.has.front_is b.usable) (on (never_front_10 b.bits_are b.even) x))

  behind_12 : {a : Record} {signal service l : ℕ} → Headed signal service l → FromFields a → FromKind a
  behind_12 h x = behind_10 h.has (on (never_11 h.has.bits_are h.sfd_is) (on (never_12 h) x))

  behind_15 : {a : Record} {rate service l n front octet : ℕ} → Told rate service l n front octet → FromPayload a
      → FromKind a
  behind_15 p x =
      behind_12 p.header
      (on (never_13 p.header p.goes) (on (never_14 p.header p.service_of) (on (never_15 p) x)))

  stops : {a : Record} → ReadAnswer kind agree rec room a → FromKind a
  stops (is_1 h) = stop (by_1 h)
  stops (is_7 h d) = on (never_1 h) (stop (by_7 d))
  stops (is_8 f h d) = on (never_1 (a_kind f)) (on (never_7 h) (stop (by_8 f d)))
  stops (front_9 f d u) = behind_8 f (stop (by_front_9 f.front_is d u))
  stops (front_10 f u b d o) = behind_8 f (on (never_front_9 f.front_is u) (stop (by_front_10 b d o)))
  stops (is_11 b f d) = behind_10 b (stop (by_11 b.bits_are f d))
  stops (is_12 b f s v l c d) =
      behind_10 b (on (never_11 b.bits_are f) (stop (by_12 b.bits_are s v l c d)))
  stops (is_13 h d) = behind_12 h (stop (by_13 h d))
  stops (is_14 h g d) = behind_12 h (on (never_13 h g) (stop (by_14 h d)))
  stops (is_15 h g s d) = behind_12 h (on (never_13 h g) (on (never_14 h s) (stop (by_15 h d))))
  stops (is_16 p d) = behind_15 p (stop (by_16 p d))
  stops (is_17 p t d) = behind_15 p (on (never_16 p t) (stop (by_17 p d)))
  stops (payload_9 p t m f d u) =
      behind_15 p (on (never_16 p t) (on (never_17 p m) (stop (by_payload_9 p d u))))
  stops (payload_10 p t m u r f d o) =
      behind_15 p
      (on (never_16 p t) (on (never_17 p m) (on (never_payload_9 p u) (stop (by_payload_10 p r d o)))))
  stops (is_0 lead symbol p t m u v) =
      behind_15 p
      (on (never_16 p t) (on (never_17 p m) (on (never_payload_9 p u)
      (on (never_payload_10 p v) (by_0 lead symbol p)))))

  -- ---- an answer to a recording with a header, its SFD and CRC right, is 13 or one that comes after it: it shows the
  -- header's LENGTH, and that is of some octets where its number is not above 12
  fields_next : {a : Record} {signal service l : ℕ} → Headed signal service l → FromKind a → FromFields a
  fields_next h x =
      let b = h.has in
      let f = b.has in
      passed (never_12 h) (passed (never_11 b.bits_are h.sfd_is)
      (passed (never_front_10 b.bits_are b.even) (passed (never_front_9 f.front_is b.usable)
      (passed (never_8 f.front_is f.long) (passed (never_7 f.rows_agree)
      (passed (never_1 (a_kind f.front_is)) x))))))

  module _ {signal service l : ℕ} (h : Headed signal service l) where
    abbrev Late : ℕ → ℕ → Type 0
    Late number m = (m ≡ l) × (number ≤ 12 → 1 ≤ m)

    by_number : {s v m : ℕ} (number : ℕ) → Headed s v m → 13 ≤ number → Late number m
    by_number number g n = ((one_header g h).2, λ z. absurd (omega arith))

    by_octets : {r v m n f o : ℕ} (number : ℕ) → Told r v m n f o → Late number m
    by_octets number p = ((one_header p.header h).2, λ z. length_some p.length_of p.some)

    late : {a : Record} → FromFields a → Late a.number a.length
    late (stop (by_13 g d)) = by_number 13 g (omega arith)
    late (on m (stop (by_14 g d))) = by_number 14 g (omega arith)
    late (on m (on o (stop (by_15 g d)))) = by_number 15 g (omega arith)
    late (on m (on o (on q (stop (by_16 p d))))) = by_octets 16 p
    late (on m (on o (on q (on r (stop (by_17 p d)))))) = by_octets 17 p
    late (on m (on o (on q (on r (on s (stop (by_payload_9 p d u))))))) = by_octets 9 p
    late (on m (on o (on q (on r (on s (on t (stop (by_payload_10 p e d u)))))))) = by_octets 10 p
    late (on m (on o (on q (on r (on s (on t (on v (by_0 lead symbol p)))))))) = by_octets 0 p

    pub headed_late : {a : Record} → ReadAnswer kind agree rec room a → Late a.number a.length
    headed_late x = late (fields_next h (stops x))

pub read_answers : ReadAnswers
read_answers kind agree rec room a left f =
    let x = read_says kind agree rec room a left f in
    ((λ b y. kind_once kind agree rec room a b (stops kind agree rec room x) (stops kind agree rec room y)), x)
