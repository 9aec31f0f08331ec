-- The payloads of two recordings, as they stand in the octet buffers.
--     beside_is, other_is     the octets of each payload where both are accepted, by the numbers of the records
--     octets_are              the list of octets: that of the payloads in the buffers, or of nothing
--     lengths_are, lengths_fit, list_is
--                             the same from records and buffers that two reads answer and leave
--     answer_is               and the whole answer
-- By the cases of both readings. Assumes nothing.
use Rattle.std.specs.Prelude.{Result, Ok, Err}
use Rattle.rules_calls.specs.declared.Refusal.{Refusal}
use mathlib.Core.Path.{◌≡◌, refl, sym, ap, ap₂, ◌∙◌}
use mathlib.Core.Bool.{Bool, true, cond, ◌&&◌}
use mathlib.Core.List.{List}
use Prim.Native.Nat.{ℕ, ◌≤◌}
use native.Mathlib.Omega.{arith}
use borrow.Author.Tests.{ne_eqb}
use lib.Dec.{eqb}
use lib.ListN.{length, take}
use Rattle.rules_chips.specs.Chips.{Taken, hard_recording}
use Rattle.rules_frame.specs.declared.Kind.{Kind}
use Rattle.rules_frame.specs.Frame.{kind_of}
use Rattle.rules_calls.specs.declared.Reading.{Reading}
use Rattle.rules_calls.specs.declared.Record.{Record}
use Rattle.rules_calls.specs.Answers.{refusal_number, record_of}
use Rattle.rules_calls.proofs.AnswerFacts.{some_number}
use Rattle.rules_reading.specs.Reading.{octets_after, octets_found}
use Rattle.rules_reading.proofs.Buffers.{Fits, reading_fits, payload_front, found_long}
use Rattle.rules_compare.specs.declared.Compared.{Compared}
use Rattle.rules_compare.specs.Differences.{Difference, differences_from, differences}
use Rattle.rules_compare.specs.Compared.{hard_reading, payload_differences, length_beside, octet_list, compared_of}

-- both readings are accepted
abbrev both : Result Reading Refusal → Result Reading Refusal → Bool
both f s = eqb (record_of f).number 0 && eqb (record_of s).number 0

refused_first : {A : Type 0} (m : ℕ) (b : Bool) (x y : A) → (m ≡ 0 → ⊥) → cond (eqb m 0 && b) x y ≡ y
refused_first m b x y ne = rw (ne_eqb m 0 ne)

pub beside_is : (f s : Result Reading Refusal) → length_beside f s ≡ cond (both f s) (record_of f).n 0
beside_is (Err e) s = sym (refused_first (refusal_number e) (eqb (record_of s).number 0) 0 0 (some_number e))
beside_is (Ok g) (Err e) = rw (ne_eqb (refusal_number e) 0 (some_number e)) refl
beside_is (Ok g) (Ok g') = refl

pub other_is : (f s : Result Reading Refusal) → length_beside s f ≡ cond (both f s) (record_of s).n 0
other_is (Err e) (Err e') = sym (refused_first (refusal_number e) (eqb (refusal_number e') 0) 0 0 (some_number e))
other_is (Err e) (Ok g) = sym (refused_first (refusal_number e) true g.told.n 0 (some_number e))
other_is (Ok g) (Err e) = rw (ne_eqb (refusal_number e) 0 (some_number e)) refl
other_is (Ok g) (Ok g') = refl

fits_beside : (room : ℕ) (f s : Result Reading Refusal) → Fits room f → length_beside f s ≤ room
fits_beside room (Err e) s h = omega arith
fits_beside room (Ok g) (Err e) h = omega arith
fits_beside room (Ok g) (Ok g') h = h

module _ (k : Kind) (a b : List Taken) (room room' : ℕ) where
  front_lists : (f s : Result Reading Refusal)
      → payload_differences k a b f s
      ≡ differences (take (length_beside f s) (octets_after k a room f))
      (take (length_beside s f) (octets_after k b room' s))
  unfolding differences_from
  front_lists (Err e) (Err e') = refl
  front_lists (Err e) (Ok g) = refl
  front_lists (Ok g) (Err e) = refl
  front_lists (Ok g) (Ok g') =
      ap₂ {C = List Difference} differences (sym (payload_front k a room g.told)) (sym (payload_front k b room' g'.told))

module _ (kind : ℕ) (a b : List ℕ) (room room' : ℕ) where
  abbrev f : Result Reading Refusal
  f = hard_reading kind a room

  abbrev s : Result Reading Refusal
  s = hard_reading kind b room'

  beside_fits : (length_beside f s ≤ room) × (length_beside s f ≤ room')
  beside_fits = (
    fits_beside room f s (reading_fits kind true (hard_recording a) room),
    fits_beside room' s f (reading_fits kind true (hard_recording b) room'),
  )

  pub octets_are : octet_list kind a b room room'
      ≡ differences (take (length_beside f s) (octets_found kind true (hard_recording a) room))
      (take (length_beside s f) (octets_found kind true (hard_recording b) room'))
  unfolding octet_list octets_found
  octets_are = front_lists (kind_of kind) (hard_recording a) (hard_recording b) room room' f s

  -- both numbers of octets, from the records that two reads answer
  pub lengths_are : (one other : Record) (n m : ℕ) → one ≡ record_of f → other ≡ record_of s
      → n ≡ cond (eqb one.number 0 && eqb other.number 0) one.n 0
      → m ≡ cond (eqb one.number 0 && eqb other.number 0) other.n 0
      → (n ≡ length_beside f s) × (m ≡ length_beside s f)
  lengths_are one other n m p q e g = (
    e ∙ ap₂ {C = ℕ} (λ (x y : Record). cond (eqb x.number 0 && eqb y.number 0) x.n 0) p q
        ∙ sym (beside_is f s),
    g ∙ ap₂ {C = ℕ} (λ (x y : Record). cond (eqb x.number 0 && eqb y.number 0) y.n 0) p q
        ∙ sym (other_is f s),
  )

  -- which the buffers that they leave hold
  pub lengths_fit : (n m : ℕ) (l k : List ℕ) → n ≡ length_beside f s → m ≡ length_beside s f
      → l ≡ octets_found kind true (hard_recording a) room → k ≡ octets_found kind true (hard_recording b) room'
      → (n ≤ length l) × (m ≤ length k)
  lengths_fit n m l k e g p q =
      let h = ap length p ∙ found_long kind true (hard_recording a) room in
      let j = ap length q ∙ found_long kind true (hard_recording b) room' in
      (omega (arith, beside_fits.0, e, h), omega (arith, beside_fits.1, g, j))

  -- the list of octets, from the buffers that they leave
  pub list_is : (n m : ℕ) (l k : List ℕ) → n ≡ length_beside f s → m ≡ length_beside s f
      → l ≡ octets_found kind true (hard_recording a) room → k ≡ octets_found kind true (hard_recording b) room'
      → differences (take n l) (take m k) ≡ octet_list kind a b room room'
  list_is n m l k e g p q = rw (e, g, p, q) (sym octets_are)

  -- the answer
  pub answer_is : (one other : Record) (n m chips octets : ℕ) → one ≡ record_of f → other ≡ record_of s
      → n ≡ length_beside f s → m ≡ length_beside s f → chips ≡ length (differences a b)
      → octets ≡ length (octet_list kind a b room room')
      → ◌≡◌ {A = Compared}
      (record { a = one; b = other; chips = chips; octets = octets; n_a = n; n_b = m })
      (compared_of kind a b room room')
  unfolding compared_of
  answer_is one other n m chips octets p q e g c o =
      λ i. record { a = p i; b = q i; chips = c i; octets = o i; n_a = e i; n_b = g i }
