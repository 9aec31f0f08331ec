-- The header's octets and its bits.
--     with_crc                               two octets of CRC after four of fields
--     field_octets, header_is                four octets are their fields, and with their CRC a header
--     crc_differs                            two rows of bits compared, and so two rows of octets
--     first_four, last_two                   the bits of a header's fields and of its CRC are those of its octets
--     two_is, crc_other, crc_same, fields_cut    the six octets of a header: its CRC against the one made, its fields
--     signal_cut, service_cut, length_cut        each field by itself
-- Octets of eight bits each compute to rows of bits that are cut by computing. Assumes nothing.
use Rattle.std.specs.Prelude.{Result}
use Rattle.rules_calls.specs.declared.Told.{Told}
use Rattle.rules_calls.specs.declared.Refusal.{Refusal}
use mathlib.Core.Path.{◌≡◌, refl, sym, ap, ◌∙◌}
use mathlib.Core.Bool.{Bool, true, false}
use mathlib.Core.List.{List, [], ◌∷◌, ◌++◌, append-nil}
use Prim.Native.Nat.{ℕ, ◌/◌, ◌%◌}
use native.Mathlib.Omega.{arith}
use lib.ListN.{length, get_or, take, drop}
use Rattle.base.specs.Tables.{tabulate}
use Rattle.base.proofs.Tables.{as_table}
use Rattle.rules_bits.specs.Bits.{bits_of, number_of, octet_bits}
use Rattle.rules_bits.specs.Crc.{crc_bits}
use Rattle.base.specs.Below.{Below}
use Rattle.rules_bits.proofs.Bits.{bits_two, octet_bits_append, number_one, octets_same}
use Rattle.base.proofs.Below.{below_nil, below_cons}
use Rattle.rules_frame.specs.declared.Kind.{Kind}
use Rattle.rules_frame.specs.Frame.{field_bits, header_bits}
use Rattle.rules_calls.specs.Headers.{Accepted, same_bits, fields_of}
use Rattle.rules_calls.proofs.Accepting.{same_refl, same_eq}

pub two_is : (xs : List ℕ) → length xs ≡ 2 → xs ≡ get_or xs 0 0 ∷ get_or xs 1 0 ∷ []
unfolding tabulate
two_is xs e = as_table xs 2 0 e

pub with_crc : (a b c d : ℕ) (crc : List ℕ) → length crc ≡ 2 → octet_bits crc ≡ crc_bits (octet_bits (a ∷ b ∷ c ∷ d ∷ []))
    → octet_bits (a ∷ b ∷ c ∷ d ∷ get_or crc 0 0 ∷ get_or crc 1 0 ∷ [])
    ≡ octet_bits (a ∷ b ∷ c ∷ d ∷ []) ++ crc_bits (octet_bits (a ∷ b ∷ c ∷ d ∷ []))
with_crc a b c d crc e q =
    octet_bits_append (a ∷ b ∷ c ∷ d ∷ []) (get_or crc 0 0 ∷ get_or crc 1 0 ∷ [])
    ∙ ap (λ (l : List ℕ). octet_bits (a ∷ b ∷ c ∷ d ∷ []) ++ l) (sym (ap octet_bits (two_is crc e)) ∙ q)

pub field_octets : (s v l : ℕ) → octet_bits (s ∷ v ∷ l % 256 ∷ l / 256 ∷ []) ≡ field_bits s v l
unfolding octet_bits field_bits
field_octets s v l = rw (append-nil, bits_two l)

pub header_is : (s v l : ℕ)
    → octet_bits (s ∷ v ∷ l % 256 ∷ l / 256 ∷ []) ++ crc_bits (octet_bits (s ∷ v ∷ l % 256 ∷ l / 256 ∷ []))
    ≡ header_bits s v l
unfolding header_bits
header_is s v l = ap (λ (x : List ℕ). x ++ crc_bits x) (field_octets s v l)

-- two octets of CRC, as made and as read
pub crc_differs : (crc read : List ℕ) → length crc ≡ length read → Below 256 crc → Below 256 read → (crc ≡ read → ⊥)
    → same_bits (octet_bits crc) (octet_bits read) ≡ false
crc_differs crc read e h k other = by (same_bits (octet_bits crc) (octet_bits read)) refl
  where
    by : (b : Bool) → same_bits (octet_bits crc) (octet_bits read) ≡ b → b ≡ false
    by true q = absurd (other (octets_same crc read e h k (same_eq (octet_bits crc) (octet_bits read) q)))
    by false q = refl

-- ---- what a header of six octets tells

six_is : (xs : List ℕ) → length xs ≡ 6
    → xs ≡ get_or xs 0 0 ∷ get_or xs 1 0 ∷ get_or xs 2 0 ∷ get_or xs 3 0 ∷ get_or xs 4 0 ∷ get_or xs 5 0 ∷ []
unfolding tabulate
six_is xs e = as_table xs 6 0 e

-- its bits, cut
module _ (xs : List ℕ) (e : length xs ≡ 6) where
  pub first_four : take 32 (octet_bits xs) ≡ octet_bits (get_or xs 0 0 ∷ get_or xs 1 0 ∷ get_or xs 2 0 ∷ get_or xs 3 0 ∷ [])
  first_four = ap (λ (l : List ℕ). take 32 (octet_bits l)) (six_is xs e) ∙ unfold octet_bits bits_of in refl

  pub last_two : drop 32 (octet_bits xs) ≡ octet_bits (get_or xs 4 0 ∷ get_or xs 5 0 ∷ [])
  last_two = ap (λ (l : List ℕ). drop 32 (octet_bits l)) (six_is xs e) ∙ unfold octet_bits bits_of in refl

  first : take 8 (octet_bits xs) ≡ octet_bits (get_or xs 0 0 ∷ [])
  first = ap (λ (l : List ℕ). take 8 (octet_bits l)) (six_is xs e) ∙ unfold octet_bits bits_of in refl

  second : take 8 (drop 8 (octet_bits xs)) ≡ octet_bits (get_or xs 1 0 ∷ [])
  second = ap (λ (l : List ℕ). take 8 (drop 8 (octet_bits l))) (six_is xs e) ∙ unfold octet_bits bits_of in refl

  third : take 16 (drop 16 (octet_bits xs)) ≡ octet_bits (get_or xs 2 0 ∷ get_or xs 3 0 ∷ [])
  third = ap (λ (l : List ℕ). take 16 (drop 16 (octet_bits l))) (six_is xs e) ∙ unfold octet_bits bits_of in refl

-- the CRC of four octets, as made and as read
module _
    (header : List ℕ) (six : length header ≡ 6) (octets : Below 256 header) (crc : List ℕ) (long : length crc ≡ 2)
    (crcs : Below 256 crc)
    (e : octet_bits crc
    ≡ crc_bits (octet_bits (get_or header 0 0 ∷ get_or header 1 0 ∷ get_or header 2 0 ∷ get_or header 3 0 ∷ []))) where
  pub crc_other : (crc ≡ get_or header 4 0 ∷ get_or header 5 0 ∷ [] → ⊥)
      → false ≡ same_bits (crc_bits (take 32 (octet_bits header))) (drop 32 (octet_bits header))
  crc_other other =
      let read = get_or header 4 0 ∷ get_or header 5 0 ∷ [] in
      let below : Below 256 read =
      below_cons (octets.at 4) (below_cons (octets.at 5) (below_nil 256 (omega arith))) in
      rw (first_four header six, last_two header six, ← e) (sym (crc_differs crc read long crcs below other))

pub crc_same : (header : List ℕ) → length header ≡ 6 → (crc : List ℕ)
    → octet_bits crc ≡ crc_bits (octet_bits (get_or header 0 0 ∷ get_or header 1 0 ∷ get_or header 2 0 ∷ get_or header 3 0 ∷ []))
    → crc ≡ get_or header 4 0 ∷ get_or header 5 0 ∷ []
    → true ≡ same_bits (crc_bits (take 32 (octet_bits header))) (drop 32 (octet_bits header))
crc_same header six crc e same =
    rw (first_four header six, last_two header six, ← e, ← same) (sym (same_refl (octet_bits crc)))

-- the three fields
module _ (header : List ℕ) (six : length header ≡ 6) where
  pub signal_cut : Below 256 header → number_of (take 8 (octet_bits header)) ≡ get_or header 0 0
  signal_cut octets = rw (first header six, number_one (get_or header 0 0) (octets.at 0))

  pub service_cut : Below 256 header → number_of (take 8 (drop 8 (octet_bits header))) ≡ get_or header 1 0
  service_cut octets = rw (second header six, number_one (get_or header 1 0) (octets.at 1))

  pub length_cut : number_of (take 16 (drop 16 (octet_bits header)))
      ≡ number_of (octet_bits (get_or header 2 0 ∷ get_or header 3 0 ∷ []))
  length_cut = rw (third header six)

pub fields_cut : (accepted : Accepted) (k : Kind) (header : List ℕ) → length header ≡ 6 → Below 256 header
    → (l : ℕ) (f : Result Told Refusal)
    → l ≡ number_of (octet_bits (get_or header 2 0 ∷ get_or header 3 0 ∷ []))
    → f ≡ fields_of accepted k (get_or header 0 0) (get_or header 1 0) l
    → f
    ≡ fields_of accepted k (number_of (take 8 (octet_bits header))) (number_of (take 8 (drop 8 (octet_bits header))))
    (number_of (take 16 (drop 16 (octet_bits header))))
fields_cut accepted k header six octets l f el ef =
    rw (signal_cut header six octets, service_cut header six octets, length_cut header six, ← el) ef
