-- What the symbols of a recorded frame say is one thing only (Decoded.antt): each bit has one value, sent and
-- unscrambled, and so has each number of some bits. And there is one first place of 9 and of 10 (Places.antt).
--     sent_once, plain_once, field_once
--     unusable_once, odd_once
-- Each symbol's bits stand behind those of the symbol before it. Assumes nothing.
use mathlib.Core.Path.{◌≡◌, refl, sym, ap, ap₂, ◌∙◌, subst}
use mathlib.Core.Bool.{Bool, true, false, not}
use mathlib.Core.List.{List}
use Prim.Native.Nat.{ℕ, zero, suc, ◌+◌, ◌-◌, ◌*◌, ◌%◌, ◌≤◌, ◌<◌}
use native.Mathlib.Nat.{mul-zero, mul-suc}
use native.Mathlib.Decide.{dec_lt}
use native.Mathlib.Omega.{arith}
use lib.Dec.{T}
use lib.ListN.{get_or}
use Rattle.base.proofs.Tables.{tabulate_ext}
use Rattle.rules_rates.specs.declared.Rate.{Rate}
use Rattle.rules_rates.specs.Rates.{symbol_bits}
use Rattle.rules_chips.specs.Chips.{Taken, unusable, is_unusable}
use Rattle.rules_bits.specs.Bits.{number_of}
use Rattle.rules_frame.specs.declared.Kind.{Kind}
use Rattle.rules_frame.specs.declared.Kind.TheVariants.{Long, Short}
use Rattle.rules_frame.specs.Frame.{header_rate, front_symbols, preamble_length, header_length}
use Rattle.rules_reading.specs.Places.{UsableAt, UnusableFirst, FirstOddSymbol}
use Rattle.rules_reading.specs.Decoded.{
  rate_at,
  bit_at,
  bits_behind,
  SentBit,
  of_symbol,
  PlainBit,
  of_three,
  FieldAt,
}
use Rattle.rules_reading.proofs.Parts.{header_symbols, front_symbols_lem, header_bits_lem}
use Rattle.rules_reading.proofs.Decoding.{in_preamble_lem, in_header_lem, in_payload}

module _ (k : Kind) (r : Rate) (rec : List Taken) (n : ℕ) where
  abbrev P : ℕ
  P = preamble_length k

  abbrev F : ℕ
  F = front_symbols k

  -- so many times b, and once more
  once_more : (b x y : ℕ) → y ≡ suc x → b * y ≡ b * x + b
  once_more b x y e = ap (λ (i : ℕ). b * i) e ∙ mul-suc b x ∙ omega arith

  next : (s : ℕ) → bit_at k r (suc s) ≡ bit_at k r s + symbol_bits (rate_at k r s)
  next s = by (dec_lt s P) (dec_lt (suc s) P) (dec_lt s F) (dec_lt (suc s) F)
    where
      at : (s x b : ℕ) (q : Rate) → bit_at k r s ≡ x → rate_at k r s ≡ q → symbol_bits q ≡ b
          → bit_at k r s + symbol_bits (rate_at k r s) ≡ x + b
      at s x b q e f g = ap₂ {C = ℕ} (λ i j. i + j) e (ap symbol_bits f ∙ g)

      hb : ℕ
      hb = symbol_bits (header_rate k)

      by : Dec (s < P) → Dec (suc s < P) → Dec (s < F) → Dec (suc s < F)
          → bit_at k r (suc s) ≡ bit_at k r s + symbol_bits (rate_at k r s)
      by (yes a) (yes b) c d =
          let h = in_preamble_lem k r rec n s a in
          (in_preamble_lem k r rec n (suc s) b).2 ∙ sym (at s s 1 _ h.2 h.0 refl ∙ omega arith)
      by (yes a) (no b) c (yes d) =
          let h = in_preamble_lem k r rec n s a in
          let z : suc s - P ≡ 0 = omega (arith, a) in
          (in_header_lem k r rec n (suc s) (omega (arith, b)) d).2
          ∙ ap (λ (i : ℕ). P + hb * i) z
          ∙ sym (at s s 1 _ h.2 h.0 refl ∙ omega (arith, a, b, mul-zero hb))
      by (yes a) (no b) c (no d) = absurd (omega (arith, a, d, front_symbols_lem k, few k))
        where
          few : (k : Kind) → 2 ≤ header_symbols k
          few Long = omega arith
          few Short = omega arith
      by (no a) b (yes c) (yes d) =
          let h = in_header_lem k r rec n s (omega (arith, a)) c in
          (in_header_lem k r rec n (suc s) (omega (arith, a)) d).2
          ∙ sym (at s _ hb _ h.2 h.0 refl
          ∙ omega (arith, once_more hb (s - P) (suc s - P) (omega (arith, a))))
      by (no a) b (yes c) (no d) =
          let h = in_header_lem k r rec n s (omega (arith, a)) c in
          let z : suc s - F ≡ 0 = omega (arith, c) in
          (in_payload k r rec n (suc s) (omega (arith, d))).2
          ∙ ap (λ (i : ℕ). P + header_length + symbol_bits r * i) z
          ∙ sym (at s _ hb _ h.2 h.0 refl
          ∙ omega (
            arith,
            once_more hb (s - P) (header_symbols k) (omega (arith, a, c, d, front_symbols_lem k)),
            header_bits_lem k,
            mul-zero (symbol_bits r),
          ))
      by (no a) b (no c) d =
          let h = in_payload k r rec n s (omega (arith, c)) in
          (in_payload k r rec n (suc s) (omega (arith, c))).2
          ∙ sym (at s _ (symbol_bits r) _ h.2 h.0 refl
          ∙ omega (arith, once_more (symbol_bits r) (s - F) (suc s - F) (omega (arith, c))))

  later : (s d : ℕ) → bit_at k r s + symbol_bits (rate_at k r s) ≤ bit_at k r (suc s + d)
  later s zero = let e : suc s + 0 ≡ suc s = omega arith in rw e (omega (arith, next s))
  later s (suc d) =
      let e : suc s + suc d ≡ suc (suc s + d) = omega arith in
      rw e (omega (arith, next (suc s + d), later s d))

  -- ---- one value
  behind : (s t i j : ℕ) → s < t → i < symbol_bits (rate_at k r (suc s))
      → bit_at k r (suc s) + i ≡ bit_at k r (suc t) + j → ⊥
  behind s t i j l h e =
      let d : suc (suc s) + (t - suc s) ≡ suc t = omega (arith, l) in
      let m = subst (λ (x : ℕ). bit_at k r (suc s) + symbol_bits (rate_at k r (suc s)) ≤ bit_at k r x) d
      (later (suc s) (t - suc s)) in
      omega (arith, m, h, e)

  pub sent_once : {b c x y : ℕ} → SentBit k r rec n b x → SentBit k r rec n c y → b ≡ c → x ≡ y
  sent_once (of_symbol s i l h) (of_symbol t j m g) e = by (dec_lt s t) (dec_lt t s)
    where
      same : s ≡ t → get_or (bits_behind k r rec s) i 0 ≡ get_or (bits_behind k r rec t) j 0
      same q =
          let f : i ≡ j = omega (arith, e, ap (λ (x : ℕ). bit_at k r (suc x)) q) in
          ap₂ {C = ℕ} (λ x y. get_or (bits_behind k r rec x) y 0) q f

      by : Dec (s < t) → Dec (t < s) → get_or (bits_behind k r rec s) i 0 ≡ get_or (bits_behind k r rec t) j 0
      by (yes p) q = absurd (behind s t i j p h e)
      by (no p) (yes q) = absurd (behind t s j i q g (sym e))
      by (no p) (no q) = same (omega (arith, p, q))

  pub plain_once : {b c x y : ℕ} → PlainBit k r rec n b x → PlainBit k r rec n c y → b ≡ c → x ≡ y
  plain_once (of_three b x y z p q s) (of_three c u v w f g h) e =
      let d : b ≡ c = omega (arith, e) in
      let first : x ≡ u = sent_once p f e in
      let second : y ≡ v = sent_once q g (ap (λ (i : ℕ). i + 3) d) in
      let third : z ≡ w = sent_once s h d in
      λ i. (first i + second i + third i) % 2

  pub field_once : {from count x y : ℕ} → FieldAt k r rec n from count x → FieldAt k r rec n from count y → x ≡ y
  field_once {from} {count} f g =
      f.value_is
      ∙ ap number_of (tabulate_ext f.bit g.bit count (λ j l. plain_once (f.each j l) (g.each j l) refl))
      ∙ sym g.value_is

-- ---- one first place
module _ (rec : List Taken) where
  pub not_unusable : (place : ℕ) → T (is_unusable (get_or rec place unusable)) → UsableAt rec place → ⊥
  not_unusable place t u = by (is_unusable (get_or rec place unusable)) t u
    where
      by : (b : Bool) → T b → T (not b) → ⊥
      by true t u = u
      by false t u = t

  pub unusable_once : {p q : ℕ} → UnusableFirst rec p → UnusableFirst rec q → p ≡ q
  unusable_once {p} {q} u v = by (dec_lt p q) (dec_lt q p)
    where
      by : Dec (p < q) → Dec (q < p) → p ≡ q
      by (yes l) m = absurd (not_unusable p u.is_one (v.before p l))
      by (no l) (yes m) = absurd (not_unusable q v.is_one (u.before q m))
      by (no l) (no m) = omega (arith, l, m)

  pub odd_once : {p q : ℕ} → FirstOddSymbol rec p → FirstOddSymbol rec q → p ≡ q
  odd_once {p} {q} o w = by (dec_lt o.symbol w.symbol) (dec_lt w.symbol o.symbol)
    where
      by : Dec (o.symbol < w.symbol) → Dec (w.symbol < o.symbol) → p ≡ q
      by (yes l) m = absurd (omega (arith, o.is_odd, w.before o.symbol l))
      by (no l) (yes m) = absurd (omega (arith, w.is_odd, o.before w.symbol m))
      by (no l) (no m) = omega (arith, l, m, o.place_is, w.place_is)
