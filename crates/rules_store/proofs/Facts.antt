-- Stores laid out, read, written and changed, computed from the definitions: every refusal, and each two neighbours of
-- a read or a write where both hold. Assumes nothing.
use mathlib.Core.Path.{◌≡◌, refl}
use mathlib.Core.List.{List, [], ◌∷◌, ◌++◌, map}
use Prim.Native.Nat.{ℕ}
use lib.ListN.{replicate}
use Rattle.rules_store.specs.declared.Settings.{Settings}
use Rattle.rules_store.specs.Store.{
  entries_in,
  rising,
  laid,
  passable,
  body_of,
  no_settings,
  settings,
  store_read,
  store_changed,
  change_left,
}
use Rattle.rules_store.specs.Pieces.{
  Piece,
  table_from,
  bodies,
  laid_out,
  setting,
  store_of,
  store_written,
  write_left,
}

-- the 17 octets of long, 5.5 Mbit/s, phase 2
pub written_is : store_of 0 55 2 ≡ 1 ∷ 3 ∷ 1 ∷ 14 ∷ 0 ∷ 1 ∷ 2 ∷ 15 ∷ 0 ∷ 1 ∷ 3 ∷ 16 ∷ 0 ∷ 1 ∷ 0 ∷ 55 ∷ 2 ∷ []
unfolding table_from bodies laid_out
written_is = refl

abbrev piece : ℕ → List ℕ → Piece
piece tag body = record { tag = tag; body = body }

-- a newer writer's: tag 0, 4 and 127 with bodies, one of them empty and one that moves the offsets past 255
abbrev newer : List Piece
newer =
    piece 0 (replicate 255 9) ∷ setting 1 1 ∷ setting 2 110 ∷ setting 3 3 ∷ piece 4 [] ∷ piece 127 (1 ∷ 2 ∷ []) ∷ []

-- bodies of two octets and of none, laid out by a writer of version 9
pub laid_is : laid_out 9 (piece 4 (7 ∷ 8 ∷ []) ∷ piece 5 [] ∷ piece 6 (1 ∷ []) ∷ [])
    ≡ 9 ∷ 3 ∷ 4 ∷ 14 ∷ 0 ∷ 2 ∷ 5 ∷ 16 ∷ 0 ∷ 0 ∷ 6 ∷ 16 ∷ 0 ∷ 1 ∷ 7 ∷ 8 ∷ 1 ∷ []
unfolding table_from bodies laid_out
laid_is = refl

abbrev numbers : List (List ℕ) → List Settings
numbers = map store_read

pub read_good : numbers (store_of 0 55 2 ∷ laid_out 0 newer ∷ laid_out 255 newer ∷ []) ≡
    settings 0 55 2 ∷ settings 1 110 3 ∷ settings 1 110 3 ∷ []
unfolding table_from bodies laid_out entries_in rising laid passable body_of store_read
read_good = refl

-- 21: none, one octet, a table cut; before 22: 200 entries in 100 octets
pub twenty_one : numbers
    ([] ∷ (1 ∷ []) ∷ (1 ∷ 1 ∷ 1 ∷ 6 ∷ 0 ∷ []) ∷ (1 ∷ 200 ∷ replicate 98 0) ∷ [])
    ≡ no_settings 21 ∷ no_settings 21 ∷ no_settings 21 ∷ no_settings 21 ∷ []
unfolding entries_in rising laid passable body_of store_read
twenty_one = refl

-- 22: 17 entries, before 23
pub twenty_two : numbers ((1 ∷ 17 ∷ replicate 68 0) ∷ []) ≡ no_settings 22 ∷ []
unfolding entries_in rising laid passable body_of store_read
twenty_two = refl

-- 23: falling, and equal; before 24
pub twenty_three : numbers
    (laid_out 1 (setting 2 10 ∷ setting 1 0 ∷ setting 3 0 ∷ []) ∷ laid_out 1 (setting 1 0 ∷ setting 1 0 ∷ [])
    ∷ (laid_out 1 (setting 200 0 ∷ setting 200 0 ∷ []) ++ (0 ∷ [])) ∷ [])
    ≡ no_settings 23 ∷ no_settings 23 ∷ no_settings 23 ∷ []
unfolding table_from bodies laid_out entries_in rising laid passable body_of store_read
twenty_three = refl

-- 24: none with 3 octets, an octet too many, a gap, the high octet first, a body too short, an empty one's offset;
-- before 25
pub twenty_four : numbers
    ((1 ∷ 0 ∷ 0 ∷ []) ∷ (store_of 0 55 2 ++ (0 ∷ [])) ∷ (1 ∷ 1 ∷ 200 ∷ 7 ∷ 0 ∷ 1 ∷ 0 ∷ 0 ∷ [])
    ∷ (1 ∷ 1 ∷ 200 ∷ 0 ∷ 6 ∷ 1 ∷ 0 ∷ [])
    ∷ (1 ∷ 1 ∷ 200 ∷ 6 ∷ 0 ∷ 2 ∷ 0 ∷ []) ∷ (1 ∷ 1 ∷ 4 ∷ 7 ∷ 0 ∷ 0 ∷ []) ∷ [])
    ≡ no_settings 24 ∷ no_settings 24 ∷ no_settings 24 ∷ no_settings 24 ∷ no_settings 24 ∷ no_settings 24 ∷ []
unfolding table_from bodies laid_out entries_in rising laid passable body_of store_read
twenty_four = refl

-- 25 before 26, 26 before 27
pub twenty_five_six : numbers
    (laid_out 9 (newer ++ (piece 128 [] ∷ [])) ∷ laid_out 1 (piece 255 [] ∷ []) ∷ laid_out 1 []
    ∷ laid_out 1 (setting 1 0 ∷ setting 3 0 ∷ []) ∷ laid_out 1 (piece 2 [] ∷ piece 3 [] ∷ []) ∷ [])
    ≡ no_settings 25 ∷ no_settings 25 ∷ no_settings 26 ∷ no_settings 26 ∷ no_settings 26 ∷ []
unfolding table_from bodies laid_out entries_in rising laid passable body_of store_read
twenty_five_six = refl

-- 27 before 28; 28 by each value, and by kind and rate together
pub twenty_seven_eight : numbers
    (laid_out 1 (piece 1 (2 ∷ 2 ∷ []) ∷ setting 2 1 ∷ setting 3 4 ∷ [])
    ∷ laid_out 1 (setting 1 0 ∷ setting 2 10 ∷ piece 3 [] ∷ [])
    ∷ store_of 2 20 0 ∷ store_of 0 11 0 ∷ store_of 0 10 4 ∷ store_of 1 10 0 ∷ [])
    ≡ no_settings 27 ∷ no_settings 27 ∷ no_settings 28 ∷ no_settings 28 ∷ no_settings 28 ∷ no_settings 28 ∷ []
unfolding table_from bodies laid_out entries_in rising laid passable body_of store_read
twenty_seven_eight = refl

-- ---- writing: 28 before 29, and what is left

pub writes : store_written 1 10 0 0 ∷ store_written 0 10 0 16 ∷ store_written 0 10 0 17 ∷ store_written 256 20 0 17 ∷ []
    ≡ 28 ∷ 29 ∷ 0 ∷ 28 ∷ []
unfolding store_written
writes = refl

pub left : write_left 1 10 0 3 ∷ write_left 0 10 0 2 ∷ write_left 0 55 2 19 ∷ []
    ≡ replicate 3 0 ∷ replicate 2 0 ∷ (store_of 0 55 2 ++ (0 ∷ 0 ∷ [])) ∷ []
unfolding table_from bodies laid_out store_written write_left
left = refl

-- ---- changes: as a read, 30, 28 for the settings as they would be (with another tag they stay as they are, so that 30
-- and 28 never hold together); what is left

pub changes : store_changed (store_of 0 11 0) 4 9 ∷ store_changed (store_of 0 10 0) 0 9 ∷ store_changed (store_of 0 10 0) 4 9
    ∷ store_changed (store_of 0 10 0) 1 1 ∷ store_changed (store_of 0 20 0) 1 1 ∷ store_changed (store_of 0 20 0) 3 4
    ∷ store_changed (store_of 0 20 0) 3 259 ∷ store_changed (store_of 0 20 0) 2 20 ∷ []
    ≡ 28 ∷ 30 ∷ 30 ∷ 28 ∷ 0 ∷ 28 ∷ 28 ∷ 0 ∷ []
unfolding table_from bodies laid_out entries_in rising laid passable body_of store_read store_changed
changes = refl

pub changed_left : change_left (store_of 0 20 0) 1 1 ∷ change_left (store_of 0 20 0) 2 110 ∷ change_left (store_of 0 20 0) 3 3
    ∷ change_left (store_of 0 20 0) 3 4 ∷ change_left (1 ∷ 9 ∷ []) 3 1 ∷ []
    ≡ store_of 1 20 0 ∷ store_of 0 110 0 ∷ store_of 0 20 3 ∷ store_of 0 20 0 ∷ (1 ∷ 9 ∷ []) ∷ []
unfolding table_from bodies laid_out entries_in rising laid passable body_of store_read store_changed change_left
changed_left = refl
