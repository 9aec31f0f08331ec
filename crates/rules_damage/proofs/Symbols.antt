-- The symbols of a frame in plain numbers (`SymbolAt`) are those of the definitions: every chip of a frame is in just
-- one of them; the row of a frame's damage has two numbers for each; and what a frame stands, by that row.
--     front_table, payload_table                 the two tables, by kind and rate
--     has_symbol, chip_once                      each chip is in a symbol, and in no other
--     by_part, front_symbol, payload_symbol      a symbol is one of the front's or of the payload's
--     symbol_inside                              a symbol's chips are the frame's
--     damage_all, wrong_counted, lost_counted    the row: two numbers a symbol, its wrong and its lost chips
--     stands_by_row                              a frame whose row keeps every limit stands
-- Assumes nothing.
use mathlib.Core.Path.{◌≡◌, refl, sym, ap, ap₂, ◌∙◌, subst}
use mathlib.Core.Bool.{true}
use mathlib.Core.List.{List, ◌++◌}
use Prim.Native.Nat.{ℕ, zero, suc, ◌+◌, ◌-◌, ◌*◌, ◌/◌, ◌≤◌, ◌<◌}
use native.Mathlib.Decide.{dec_lt}
use native.Mathlib.Nat.{mul-suc, mul-le-mul_left, le_trans}
use native.Mathlib.Omega.{arith}
use borrow.Author.Tests.{ltb-true}
use lib.ListN.{length, get_or, drop, length-append, get_or-append}
use lib.Seq.{get_or-append-add}
use Rattle.base.specs.Below.{Below}
use Rattle.base.specs.SoMany.{SoMany}
use Rattle.base.proofs.SoMany.{many_once}
use Rattle.rules_rates.specs.declared.Rate.{Rate}
use Rattle.rules_rates.specs.declared.Rate.TheVariants.{One, Two, Five, Eleven}
use Rattle.rules_rates.specs.Rates.{code_of, symbol_chips, octet_symbols}
use Rattle.rules_rates.proofs.Octets.{part_chips}
use Rattle.rules_frame.specs.declared.Kind.{Kind}
use Rattle.rules_frame.specs.declared.Kind.TheVariants.{Long, Short}
use Rattle.rules_frame.specs.Frame.{is_kind, kind_of, front_chips, front_symbols, frame_chips}
use Rattle.rules_damage.specs.Damage.{wrong, lost, damage, frame_damage}
use Rattle.rules_damage.specs.Plain.{
  FrontSymbols,
  of_long,
  of_short,
  PayloadSymbols,
  at_10,
  at_20,
  at_55,
  at_110,
  SymbolAt,
  HasChip,
  SomeSymbol,
  in_front,
  in_payload,
  WrongAt,
  LostAt,
  KeepsLimit,
  FrameStands,
}
use Rattle.rules_damage.proofs.OneSymbol.{limit_of}
use Rattle.rules_damage.proofs.Row.{symbol_behind}
use Rattle.rules_damage.proofs.Counted.{
  wrong_many,
  lost_many,
  damage_length,
  wrong_at,
  lost_at,
}

-- ---- the tables
pub front_table : (kind : ℕ) → is_kind kind ≡ true → FrontSymbols kind (front_symbols (kind_of kind))
front_table zero h = of_long
front_table (suc zero) h = of_short
front_table (suc (suc kind)) h = let l = ltb-true (suc (suc kind)) 2 h in absurd (omega (arith, l))

pub payload_table : (r : Rate) → PayloadSymbols (code_of r) (octet_symbols r) (symbol_chips r) (limit_of r)
payload_table One = at_10
payload_table Two = at_20
payload_table Five = at_55
payload_table Eleven = at_110

-- ---- every chip is in a symbol
in_symbol : (kind rate n f i : ℕ) → FrontSymbols kind f → (each chips limit j : ℕ)
    → PayloadSymbols rate each chips limit → j < each * n → 11 * f + chips * j ≤ i → i < 11 * f + chips * j + chips
    → SomeSymbol kind rate n i
in_symbol kind rate n f i t each chips limit j u l from to =
    record {
      s = f + j;
      at = 11 * f + chips * j;
      chips = chips;
      limit = limit;
      has = record { symbol = in_payload f each chips limit j t u l; from = from; to = to };
    }

behind : (kind rate n f i each chips limit : ℕ) → FrontSymbols kind f → PayloadSymbols rate each chips limit
    → 11 * f ≤ i → i < 11 * f + chips * (each * n) → SomeSymbol kind rate n i
behind kind _ n f i _ _ _ t at_10 g l =
    in_symbol kind 10 n f i t 8 11 10 ((i - 11 * f) / 11) at_10 (omega arith) (omega arith) (omega arith)
behind kind _ n f i _ _ _ t at_20 g l =
    in_symbol kind 20 n f i t 4 11 10 ((i - 11 * f) / 11) at_20 (omega arith) (omega arith) (omega arith)
behind kind _ n f i _ _ _ t at_55 g l =
    in_symbol kind 55 n f i t 2 8 3 ((i - 11 * f) / 8) at_55 (omega arith) (omega arith) (omega arith)
behind kind _ n f i _ _ _ t at_110 g l =
    in_symbol kind 110 n f i t 1 8 3 ((i - 11 * f) / 8) at_110 (omega arith) (omega arith) (omega arith)

pub has_symbol : (kind rate n f i each chips limit : ℕ) → FrontSymbols kind f → PayloadSymbols rate each chips limit
    → i < 11 * f + chips * (each * n) → SomeSymbol kind rate n i
has_symbol kind rate n f i each chips limit t u h = by (dec_lt i (11 * f))
  where
    by : Dec (i < 11 * f) → SomeSymbol kind rate n i
    by (yes l) =
        record {
          s = i / 11;
          at = 11 * (i / 11);
          chips = 11;
          limit = 10;
          has = record { symbol = in_front f (i / 11) t (omega arith); from = omega arith; to = omega arith };
        }
    by (no g) = behind kind rate n f i each chips limit t u (omega arith) h

-- ---- and in no other
pub one_front : (kind f f' : ℕ) → FrontSymbols kind f → FrontSymbols kind f' → f ≡ f'
one_front _ _ _ of_long of_long = refl
one_front _ _ _ of_short of_short = refl

payload_once : (rate f i each chips limit j each' chips' limit' j' : ℕ)
    → PayloadSymbols rate each chips limit → PayloadSymbols rate each' chips' limit'
    → 11 * f + chips * j ≤ i → i < 11 * f + chips * j + chips
    → 11 * f + chips' * j' ≤ i → i < 11 * f + chips' * j' + chips'
    → (j ≡ j') × (chips ≡ chips') × (limit ≡ limit')
payload_once _ f i _ _ _ j _ _ _ j' at_10 at_10 a b c d = (omega arith, refl, refl)
payload_once _ f i _ _ _ j _ _ _ j' at_20 at_20 a b c d = (omega arith, refl, refl)
payload_once _ f i _ _ _ j _ _ _ j' at_55 at_55 a b c d = (omega arith, refl, refl)
payload_once _ f i _ _ _ j _ _ _ j' at_110 at_110 a b c d = (omega arith, refl, refl)

symbol_once : (kind rate n i s at chips limit s' at' chips' limit' : ℕ)
    → SymbolAt kind rate n s at chips limit → SymbolAt kind rate n s' at' chips' limit'
    → at ≤ i → i < at + chips → at' ≤ i → i < at' + chips'
    → (s ≡ s') × (at ≡ at') × (chips ≡ chips') × (limit ≡ limit')
symbol_once kind rate n i _ _ _ _ _ _ _ _ (in_front f s t l) (in_front f' s' t' l') a b c d =
    let e : s ≡ s' = omega arith in (e, ap (λ (j : ℕ). 11 * j) e, refl, refl)
symbol_once kind rate n i _ _ _ _ _ _ _ _ (in_front f s t l) (in_payload f' each' chips' limit' j' t' u' l') a b c d =
    absurd (omega (arith, one_front kind f f' t t'))
symbol_once kind rate n i _ _ _ _ _ _ _ _ (in_payload f each chips limit j t u l) (in_front f' s' t' l') a b c d =
    absurd (omega (arith, one_front kind f f' t t'))
symbol_once kind rate n i _ _ _ _ _ _ _ _ (in_payload f each chips limit j t u l)
    (in_payload f' each' chips' limit' j' t' u' l') a b c d =
    let e = one_front kind f f' t t' in
    let same = payload_once rate f i each chips limit j each' chips' limit' j' u u' a b
    (subst (λ (x : ℕ). 11 * x + chips' * j' ≤ i) (sym e) c)
    (subst (λ (x : ℕ). i < 11 * x + chips' * j' + chips') (sym e) d) in
    ((λ k. e k + same.0 k), (λ k. 11 * e k + same.1 k * same.0 k), same.1, same.2)

pub chip_once : (kind rate n i s at chips limit s' at' chips' limit' : ℕ) → HasChip kind rate n i s at chips limit
    → HasChip kind rate n i s' at' chips' limit' → (s ≡ s') × (at ≡ at') × (chips ≡ chips') × (limit ≡ limit')
chip_once kind rate n i s at chips limit s' at' chips' limit' h h' =
    symbol_once kind rate n i s at chips limit s' at' chips' limit' h.symbol h'.symbol h.from h.to
    h'.from h'.to

-- ---- by the definitions: a symbol is one of the front's or one of the payload's
pub front_eleven : (k : Kind) → 11 * front_symbols k ≡ front_chips k
front_eleven Long = refl
front_eleven Short = refl

pub one_payload : (rate each chips limit each' chips' limit' : ℕ) → PayloadSymbols rate each chips limit
    → PayloadSymbols rate each' chips' limit' → (each ≡ each') × (chips ≡ chips') × (limit ≡ limit')
one_payload _ _ _ _ _ _ _ at_10 at_10 = (refl, refl, refl)
one_payload _ _ _ _ _ _ _ at_20 at_20 = (refl, refl, refl)
one_payload _ _ _ _ _ _ _ at_55 at_55 = (refl, refl, refl)
one_payload _ _ _ _ _ _ _ at_110 at_110 = (refl, refl, refl)

module _ (kind : ℕ) (is-kind : is_kind kind ≡ true) (r : Rate) (n : ℕ) where
  abbrev k : Kind
  k = kind_of kind

  abbrev c : ℕ
  c = symbol_chips r

  pub by_part : (P : ℕ → ℕ → ℕ → ℕ → Type 0) → ((s : ℕ) → s < front_symbols k → P s (11 * s) 11 10)
      → ((j : ℕ) → j < octet_symbols r * n → P (front_symbols k + j) (front_chips k + c * j) c (limit_of r))
      → (s at chips limit : ℕ) → SymbolAt kind (code_of r) n s at chips limit → P s at chips limit
  by_part P front payload _ _ _ _ (in_front f s t l) =
      front s (subst (λ (x : ℕ). s < x) (one_front kind f (front_symbols k) t (front_table kind is-kind)) l)
  by_part P front payload _ _ _ _ (in_payload f each chips limit j t u l) =
      let e = one_front kind f (front_symbols k) t (front_table kind is-kind) in
      let same = one_payload (code_of r) each chips limit (octet_symbols r) c (limit_of r) u (payload_table r) in
      subst (λ (x : ℕ). P (x + j) (11 * x + chips * j) chips limit) (sym e)
      (subst (λ (x : ℕ). P (front_symbols k + j) (11 * front_symbols k + x * j) x limit) (sym same.1)
      (subst (λ (x : ℕ). P (front_symbols k + j) (11 * front_symbols k + c * j) c x) (sym same.2)
      (subst (λ (x : ℕ). P (front_symbols k + j) (x + c * j) c (limit_of r)) (sym (front_eleven k))
      (payload j (subst (λ (x : ℕ). j < x * n) same.0 l)))))

  pub front_symbol : (s : ℕ) → s < front_symbols k → SymbolAt kind (code_of r) n s (11 * s) 11 10
  front_symbol s l = in_front (front_symbols k) s (front_table kind is-kind) l

  pub payload_symbol : (j : ℕ) → j < octet_symbols r * n
      → SymbolAt kind (code_of r) n (front_symbols k + j) (front_chips k + c * j) c (limit_of r)
  payload_symbol j l =
      subst (λ (f : ℕ). SymbolAt kind (code_of r) n (front_symbols k + j) (f + c * j) c (limit_of r)) (front_eleven k)
      (in_payload (front_symbols k) (octet_symbols r) c (limit_of r) j (front_table kind is-kind) (payload_table r) l)

  -- ---- a symbol's chips are the frame's
  last_chips : (j m : ℕ) → j < m → c * j + c ≤ c * m
  last_chips j m l = omega (arith, mul-suc c j, mul-le-mul_left c l)

  pub symbol_inside : (s at chips limit : ℕ) → SymbolAt kind (code_of r) n s at chips limit
      → at + chips ≤ frame_chips k r n
  symbol_inside =
      by_part (λ s at chips limit. at + chips ≤ frame_chips k r n)
      (λ s l. omega (arith, front_eleven k))
      (λ j l. omega (arith, last_chips j (octet_symbols r * n) l, part_chips r n))

  module _ (sent rec : List ℕ) (hs : frame_chips k r n ≤ length sent) (hr : frame_chips k r n ≤ length rec) where
    abbrev front : List ℕ
    front = damage (symbol_chips One) (front_symbols k) sent rec

    abbrev payload : List ℕ
    payload = damage c (octet_symbols r * n) (drop (front_chips k) sent) (drop (front_chips k) rec)

    abbrev row : List ℕ
    row = frame_damage k r n sent rec

    front_length : length front ≡ 2 * front_symbols k
    front_length = damage_length 11 (front_symbols k) sent rec

    -- two numbers a symbol
    pub damage_all : length row ≡ 2 * (front_symbols k + octet_symbols r * n)
    unfolding frame_damage
    damage_all =
        length-append front payload
        ∙ omega (
          arith,
          front_length,
          damage_length c (octet_symbols r * n) (drop (front_chips k) sent) (drop (front_chips k) rec),
        )

    in_front_row : (i : ℕ) → i < 2 * front_symbols k → get_or row i 0 ≡ get_or front i 0
    unfolding frame_damage
    in_front_row i l = get_or-append front payload 0 i (omega (arith, front_length))

    in_payload_row : (i : ℕ) → get_or row (2 * front_symbols k + i) 0 ≡ get_or payload i 0
    unfolding frame_damage
    in_payload_row i =
        ap (λ (x : ℕ). get_or (front ++ payload) (x + i) 0) (sym front_length) ∙ get_or-append-add front payload i 0

    twice : (j : ℕ) → 2 * (front_symbols k + j) ≡ 2 * front_symbols k + 2 * j
    twice j = omega arith

    next_twice : (j : ℕ) → suc (2 * (front_symbols k + j)) ≡ 2 * front_symbols k + suc (2 * j)
    next_twice j = omega arith

    abbrev Wrong : ℕ → ℕ → ℕ → ℕ → Type 0
    Wrong s at chips limit = SoMany (WrongAt sent rec) at chips (get_or row (2 * s) 0)

    abbrev Lost : ℕ → ℕ → ℕ → ℕ → Type 0
    Lost s at chips limit = SoMany (LostAt rec) at chips (get_or row (suc (2 * s)) 0)

    pub wrong_counted : (s at chips limit : ℕ) → SymbolAt kind (code_of r) n s at chips limit → Wrong s at chips limit
    wrong_counted =
        by_part Wrong
        (λ s l. subst (SoMany (WrongAt sent rec) (11 * s) 11)
        (sym (in_front_row (2 * s) (omega arith) ∙ wrong_at 11 (front_symbols k) sent rec s l))
        (wrong_many 11 (11 * s) sent rec (omega (arith, front_eleven k)) (omega (arith, front_eleven k))))
        (λ j l. let h : front_chips k + c * j + c ≤ frame_chips k r n
        = omega (arith, last_chips j (octet_symbols r * n) l, part_chips r n) in
        subst (SoMany (WrongAt sent rec) (front_chips k + c * j) c)
        (sym (ap (λ (i : ℕ). get_or row i 0) (twice j) ∙ in_payload_row (2 * j)
        ∙ wrong_at c (octet_symbols r * n) (drop (front_chips k) sent) (drop (front_chips k) rec) j l
        ∙ ap₂ {C = ℕ} (λ x y. wrong x y) (symbol_behind c (front_chips k) j sent)
        (symbol_behind c (front_chips k) j rec)))
        (wrong_many c (front_chips k + c * j) sent rec (le_trans h hs) (le_trans h hr)))

    pub lost_counted : (s at chips limit : ℕ) → SymbolAt kind (code_of r) n s at chips limit → Lost s at chips limit
    lost_counted =
        by_part Lost
        (λ s l. subst (SoMany (LostAt rec) (11 * s) 11)
        (sym (in_front_row (suc (2 * s)) (omega arith) ∙ lost_at 11 (front_symbols k) sent rec s l))
        (lost_many 11 (11 * s) rec (omega (arith, front_eleven k))))
        (λ j l. subst (SoMany (LostAt rec) (front_chips k + c * j) c)
        (sym (ap (λ (i : ℕ). get_or row i 0) (next_twice j) ∙ in_payload_row (suc (2 * j))
        ∙ lost_at c (octet_symbols r * n) (drop (front_chips k) sent) (drop (front_chips k) rec) j l
        ∙ ap lost (symbol_behind c (front_chips k) j rec)))
        (lost_many c (front_chips k + c * j) rec
        (omega (arith, last_chips j (octet_symbols r * n) l, part_chips r n, hr))))

    -- ---- a frame whose row keeps every limit stands
    pub stands_by_row : length rec ≡ length sent → Below 5 rec
        → ((s at chips limit : ℕ) → SymbolAt kind (code_of r) n s at chips limit
        → KeepsLimit limit (get_or row (2 * s) 0) (get_or row (suc (2 * s)) 0))
        → FrameStands kind (code_of r) n sent rec
    stands_by_row e b h = record {
      same_length = e;
      usable = b;
      each = λ s at chips limit w t x mw ml.
          subst (λ (j : ℕ). KeepsLimit limit j t) (many_once (wrong_counted s at chips limit x) mw)
          (subst (KeepsLimit limit (get_or row (2 * s) 0)) (many_once (lost_counted s at chips limit x) ml)
          (h s at chips limit x));
    }
