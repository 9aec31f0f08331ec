-- The symbols of a frame and the row of its damage, by the table of kinds and rates (`Goes`): the laws of rules_damage.
-- Assumes nothing.
use mathlib.Core.Path.{◌≡◌, sym, ◌∙◌, subst}
use mathlib.Core.List.{List}
use Prim.Native.Nat.{ℕ, suc, ◌+◌, ◌*◌, ◌≤◌, ◌<◌}
use native.Mathlib.Omega.{arith}
use lib.ListN.{length, get_or}
use Rattle.base.specs.Below.{Below}
use Rattle.base.specs.SoMany.{SoMany}
use Rattle.rules_rates.specs.declared.Rate.{Rate}
use Rattle.rules_rates.specs.Rates.{code_of, rate_of, symbol_chips, octet_symbols}
use Rattle.rules_rates.proofs.Octets.{part_chips}
use Rattle.rules_frame.specs.declared.Kind.{Kind}
use Rattle.rules_frame.specs.Frame.{kind_of, front_symbols, frame_chips}
use Rattle.rules_damage.specs.Damage.{frame_damage}
use Rattle.rules_damage.specs.Plain.{
  FrontSymbols,
  PayloadSymbols,
  SymbolAt,
  HasChip,
  SomeSymbol,
  WrongAt,
  LostAt,
  KeepsLimit,
  FrameStands,
  SpoiledBy,
}
use Rattle.rules_damage.proofs.OneSymbol.{limit_of}
use Rattle.rules_damage.proofs.Symbols.{
  front_table,
  payload_table,
  one_front,
  one_payload,
  has_symbol,
  chip_once,
  front_eleven,
  symbol_inside,
  damage_all,
  wrong_counted,
  lost_counted,
  stands_by_row,
}
use Rattle.rules_damage.proofs.Any as any
use Rattle.promises.specs.Calls.{Goes}
use Rattle.promises.proofs.Back.{Known, known}
use Rattle.promises_damage.specs.Promises.{InOneSymbol, DamageRow, AnyDamage}

module _ (kind rate front octet n : ℕ) (goes : Goes kind rate front octet) where
  abbrev k : Kind
  k = kind_of kind

  abbrev r : Rate
  r = rate_of rate

  pair : Known kind rate front octet
  pair = known goes

  chips_are : frame_chips k r n ≡ front + octet * n
  chips_are = λ i. pair.front_is i + pair.octet_is i * n

  -- the rate by its code
  coded : {s at chips limit : ℕ} → SymbolAt kind rate n s at chips limit
      → SymbolAt kind (code_of r) n s at chips limit
  coded {s} {at} {chips} {limit} = subst (λ (c : ℕ). SymbolAt kind c n s at chips limit) (sym pair.code_back)

  some_symbol : (i : ℕ) → i < front + octet * n → SomeSymbol kind rate n i
  some_symbol i l =
      subst (λ (c : ℕ). SomeSymbol kind c n i) pair.code_back
      (has_symbol kind (code_of r) n (front_symbols k) i (octet_symbols r) (symbol_chips r) (limit_of r)
      (front_table kind pair.kind_is) (payload_table r)
      (omega (arith, l, chips_are, front_eleven k, part_chips r n)))

  inside : (i s at chips limit : ℕ) → HasChip kind rate n i s at chips limit → i < front + octet * n
  inside i s at chips limit h =
      omega (
        arith,
        h.to,
        symbol_inside kind pair.kind_is r n s at chips limit (coded h.symbol),
        chips_are,
      )

  module _ (sent rec : List ℕ) (hs : front + octet * n ≤ length sent) (hr : front + octet * n ≤ length rec) where
    abbrev row : List ℕ
    row = frame_damage k r n sent rec

    all_sent : frame_chips k r n ≤ length sent
    all_sent = rw chips_are hs

    all_rec : frame_chips k r n ≤ length rec
    all_rec = rw chips_are hr

    row_length : (f each chips limit : ℕ) → FrontSymbols kind f → PayloadSymbols rate each chips limit
        → length row ≡ 2 * (f + each * n)
    row_length f each chips limit t u =
        let ef = one_front kind (front_symbols k) f (front_table kind pair.kind_is) t in
        let ee = one_payload rate (octet_symbols r) (symbol_chips r) (limit_of r) each chips limit
        (subst (λ (c : ℕ). PayloadSymbols c (octet_symbols r) (symbol_chips r) (limit_of r)) pair.code_back
        (payload_table r)) u in
        damage_all kind pair.kind_is r n sent rec all_sent all_rec ∙ (λ i. 2 * (ef i + ee.0 i * n))

    row_counts : (s at chips limit : ℕ) → SymbolAt kind rate n s at chips limit
        → SoMany (WrongAt sent rec) at chips (get_or row (2 * s) 0)
        × SoMany (LostAt rec) at chips (get_or row (suc (2 * s)) 0)
    row_counts s at chips limit x = (
      wrong_counted kind pair.kind_is r n sent rec all_sent all_rec s at chips limit (coded x),
      lost_counted kind pair.kind_is r n sent rec all_sent all_rec s at chips limit (coded x),
    )

    row_stands : length rec ≡ length sent → Below 5 rec
        → ((s at chips limit : ℕ) → SymbolAt kind rate n s at chips limit
        → KeepsLimit limit (get_or row (2 * s) 0) (get_or row (suc (2 * s)) 0))
        → FrameStands kind rate n sent rec
    row_stands e b h =
        subst (λ (c : ℕ). FrameStands kind c n sent rec) pair.code_back
        (stands_by_row kind pair.kind_is r n sent rec all_sent all_rec e b
        (λ s at chips limit x. h s at chips limit
        (subst (λ (c : ℕ). SymbolAt kind c n s at chips limit) pair.code_back x)))

  damaged : (each chips limit : ℕ) → PayloadSymbols rate each chips limit → (sent : List ℕ) → Below 4 sent
      → length sent ≡ front + octet * n → (w t w' t' : ℕ) → KeepsLimit 10 w t → KeepsLimit limit w' t'
      → SpoiledBy kind rate n sent w t w' t'
  damaged each chips limit u sent phases long w t w' t' few few' =
      let e = one_payload rate each chips limit (octet_symbols r) (symbol_chips r) (limit_of r) u
      (subst (λ (c : ℕ). PayloadSymbols c (octet_symbols r) (symbol_chips r) (limit_of r)) pair.code_back
      (payload_table r)) in
      subst (λ (c : ℕ). SpoiledBy kind c n sent w t w' t') pair.code_back
      (any.any_damage kind pair.kind_is r n sent phases (long ∙ sym chips_are) w t w' t' few
      (subst (λ (x : ℕ). KeepsLimit x w' t') e.2 few'))

pub in_one_symbol : InOneSymbol
in_one_symbol kind rate front octet n i goes = (
  some_symbol kind rate front octet n goes i,
  chip_once kind rate n i,
  inside kind rate front octet n goes i,
)

pub damage_row : DamageRow
damage_row kind rate front octet n goes sent rec hs hr = (
  row_length kind rate front octet n goes sent rec hs hr,
  row_counts kind rate front octet n goes sent rec hs hr,
  row_stands kind rate front octet n goes sent rec hs hr,
)

pub any_damage : AnyDamage
any_damage kind rate front octet n each chips limit goes u sent phases long w t w' t' few few' =
    damaged kind rate front octet n goes each chips limit u sent phases long w t w' t' few few'
