-- With one number and one place the table has one row, and that one pair of numbers (Table.antt). Assumes nothing.
use mathlib.Core.Path.{◌≡◌, refl, ap, subst}
use mathlib.Core.Bool.{true}
use mathlib.Core.List.{List}
use Prim.Native.Nat.{ℕ, ◌+◌, ◌/◌, ◌%◌}
use Rattle.rules_rates.specs.declared.Rate.TheVariants.{One}
use Rattle.rules_chips.specs.Chips.{Taken, hard_recording}
use Rattle.rules_bits.specs.Bits.{highest_first}
use Rattle.rules_bits.specs.Crc.{crc_bits}
use Rattle.rules_frame.specs.Frame.{kind_of, field_bits}
use Rattle.rules_reading.proofs.Once.{field_once}
use Rattle.promises.specs.Reasons.{FrontField}
use Rattle.promises.proofs.Coming.{one_front}
use Rattle.promises.proofs.Exactly.{one_bits, one_field, one_header, header_moved, one_payload}
use Rattle.rules_why.specs.Plain.{LengthWanted}
use Rattle.rules_why.proofs.Numbers.{cleared_once, wanted_once}
use Rattle.rules_why.proofs.Laws.{grown_once, highest_once}
use Rattle.promises_why.specs.Table.{
  Table,
  row_0,
  row_1,
  row_8,
  row_9,
  row_10,
  row_11,
  row_12,
  row_13,
  row_14,
  row_15,
  row_16,
  row_17,
}

module _ (kind : ℕ) (chips : List ℕ) (room : ℕ) where
  abbrev rec : List Taken
  rec = hard_recording chips

  pub row_once : {number place e f e' f' : ℕ} → Table kind chips room number place e f
      → Table kind chips room number place e' f' → (e ≡ e') × (f ≡ f')
  row_once row_0 row_0 = (refl, refl)
  row_once row_1 row_1 = (refl, refl)
  row_once (row_8 f) (row_8 g) = (one_front f g, refl)
  row_once (row_9 p o) (row_9 q w) = (refl, refl)
  row_once (row_10 g) (row_10 h) = (refl, grown_once g h)
  row_once (row_11 {heard = heard} b f) (row_11 c g) =
      let e = one_bits b.bits_are c.bits_are in
      (e.1, field_once (kind_of kind) One rec 0 (subst (λ (i : ℕ). FrontField kind rec i 16 heard) e.0 f) g)
  row_once (row_12 b s v l h) (row_12 c t w m g) =
      let e = (one_bits b.bits_are c.bits_are).0 in (
        (λ i. highest_first (crc_bits (field_bits (one_field kind true rec room 16 e s t i)
            (one_field kind true rec room 24 e v w i) (one_field kind true rec room 32 e l m i)))),
        highest_once h g (ap (λ (i : ℕ). i + 48) e),
      )
  row_once (row_13 h) (row_13 g) = (refl, (one_header kind true rec room h g).0)
  row_once (row_14 h c) (row_14 g d) =
      let e = one_header kind true rec room h g in
      (refl, cleared_once c d e.0 e.1)
  row_once (row_15 {wanted = wanted} h w) (row_15 g v) = (
    wanted_once (header_moved kind true rec room (λ r s l. LengthWanted r l (s / 128 % 2) wanted) h g w) v,
    (one_header kind true rec room h g).2,
  )
  row_once (row_16 p) (row_16 q) = ((one_payload kind true rec room p q).1, refl)
  row_once (row_17 p) (row_17 q) = ((one_payload kind true rec room p q).0, refl)
