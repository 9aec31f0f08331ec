-- A piece put behind the chips that are held, and their octet.
--     hold_joined                 the row afterwards
--     joined_long                 it is as long as it was
--     row_joined                  the octet's chips in its front
--     joined_whole, joined_part   the octet is whole then, or is held
-- Assumes nothing.
use mathlib.Core.Path.{◌≡◌, sym, ap, ap₂, subst, ◌∙◌}
use mathlib.Core.List.{List, ◌++◌, append_assoc}
use Prim.Native.Nat.{ℕ, ◌+◌, ◌-◌, ◌≤◌}
use native.Mathlib.Omega.{arith}
use lib.ListN.{length, take, drop, length-append, length-drop}
use lib.Seq.{length-take-le, take_at, drop-drop}
use borrow.Rule.Slice.PartMut.{put_mid}
use Rattle.rules_rates.specs.declared.Rate.{Rate}
use Rattle.rules_rates.specs.Rates.{octet_chips}
use Rattle.rules_receiving.specs.declared.Ear.{Ear}
use Rattle.receive_parts.specs.declared.Piece.{Piece}
use Rattle.receive_parts.specs.Pieces.{WholeHeard, PartHeld, Joins}

pub joined_long : (hold piece : List ℕ) (h : ℕ) → h + length piece ≤ length hold
    → length (take h hold ++ (piece ++ drop (h + length piece) hold)) ≡ length hold
joined_long hold piece h f =
    let before : length (take h hold) ≡ h = length-take-le h hold (omega arith) in
    simp (length-append, length-drop, before) (omega arith)

module _
    (hold piece y : List ℕ) (h n : ℕ) (e : n ≡ h + length piece) (f : n ≤ length hold)
    (i : y ≡ piece) where
  before : length (take h hold) ≡ h
  before = length-take-le h hold (omega arith)

  pub hold_joined : put_mid h (n - h) hold y ≡ take h hold ++ (piece ++ drop (h + length piece) hold)
  hold_joined =
      let count : h + (n - h) ≡ h + length piece = omega arith in
      ap₂ {C = List ℕ} (λ x z. take h hold ++ (x ++ z)) i
      (drop-drop (n - h) h hold ∙ ap (λ (k : ℕ). drop k hold) count)

  both_long : length (take h hold ++ piece) ≡ n
  both_long = length-append (take h hold) piece ∙ omega (arith, before)

  pub row_joined : take n (put_mid h (n - h) hold y) ≡ take h hold ++ piece
  row_joined =
      ap (take n) (hold_joined ∙ sym (append_assoc (take h hold) piece (drop (h + length piece) hold)))
      ∙ take_at (take h hold ++ piece) (drop (h + length piece) hold) n both_long

module _
    (r : Rate) (at symbol : ℕ) (e : Ear) (h : ℕ) (hold piece octet : List ℕ) (x : Piece) (row hold' octet' : List ℕ)
    (i : hold' ≡ take h hold ++ (piece ++ drop (h + length piece) hold)) (j : row ≡ take h hold ++ piece) where
  pub joined_whole : h + length piece ≡ octet_chips r → (w : ℕ) → w ≡ 1 → WholeHeard r at symbol e row w x octet'
      → Joins r at symbol e h hold piece octet x hold' octet'
  joined_whole b w s y = record {
    hold_is = i;
    whole = λ z. subst (λ (l : List ℕ). WholeHeard r at symbol e l 1 x octet') j
        (subst (λ (k : ℕ). WholeHeard r at symbol e row k x octet') s y);
    held = λ z. absurd (omega arith);
  }

  pub joined_part : (h + length piece ≡ octet_chips r → ⊥) → octet' ≡ octet → PartHeld r at e h row x
      → Joins r at symbol e h hold piece octet x hold' octet'
  joined_part b s y = record {
    hold_is = i;
    whole = λ z. absurd (b z);
    held = λ z. (subst (λ (l : List ℕ). PartHeld r at e h l x) j y, s, y.phase);
  }
