-- The numbers in which chips are told, by what their type promises of sums: each is a whole number with a bound.
--     Is, chip_is                      a number and its whole number; one of a row
--     may_add, sum_is                  two may be added, and the sum is such again
--     may_take, difference_is          and so of a difference
--     score_within                     a score of a row, where the row's are small
--     held_keys                        two keys of a row of scores
--     four_read, whole_row             four sums of each of two rows; a row of numbers that are whole ones
-- Assumes nothing.
use Rattle.std.proofs.Common.{◌≡◌, ℕ, ◌+◌, ◌<◌, ◌≤◌, List, [], ◌∷◌, map, length, get_or, suc, sym, ap, ◌∙◌, subst, ℤ, pos, ◌+ℤ◌, ◌-ℤ◌, arith}
use Rattle.std.proofs.lemmas.List.{get_or-map, map-id}
use Rattle.base.specs.Whole.{Within}
use Rattle.base.proofs.Whole.{within_more, within_add, within_neg}
use Rattle.rules_choosing.specs.Scores.{RowWithin}
use Rattle.rules_choosing.specs.Keys.{bigger, lesser, key_of}
use Rattle.choose_sums.specs.Sums.{key_at}
use Rattle.choose_sums.proofs.KeyTops.{two_of_lem}
use Rattle.choose_words.specs.Held.{HeldTwo}

-- x is the whole number z, which is from -b to b
pub record Is {T : Type 0} (whole : T → ℤ) (b : ℕ) (x : T) (z : ℤ) : Type 0 where
  pub is : whole x ≡ z
  pub within : Within b z

module _ {T : Type 0} {whole : T → ℤ} where
  pub chip_is : {most : ℕ} (n : ℕ) (t : List T) (k : ℕ) (d : T) → RowWithin most (map whole t) → length t ≡ n → k < n
      → Is whole most (get_or t k d) (get_or (map whole t) k (pos 0))
  chip_is n t k d w e h = record { is = sym (get_or-map whole t k d (pos 0) (omega arith)); within = w.at k }

  module _ {b d : ℕ} {x u : T} {y v : ℤ} (p : Is whole b x y) (q : Is whole d u v) where
    pub may_add : {room : ℕ} {can : T → T → Type 0} → ((x u : T) → Within room (whole x +ℤ whole u) → can x u)
        → b + d ≤ room → can x u
    may_add {room} law h =
        law x u
        (subst (Within room) (sym (λ i. p.is i +ℤ q.is i)) (within_more (within_add p.within q.within) h))

    pub may_take : {room : ℕ} {can : T → T → Type 0} → ((x u : T) → Within room (whole x -ℤ whole u) → can x u)
        → b + d ≤ room → can x u
    may_take {room} law h =
        law x u
        (subst (Within room) (sym (λ i. p.is i -ℤ q.is i))
        (within_more (within_add p.within (within_neg q.within)) h))

    pub sum_is : {r : T} → whole r ≡ whole x +ℤ whole u → Is whole (b + d) r (y +ℤ v)
    sum_is e = record { is = e ∙ (λ i. p.is i +ℤ q.is i); within = within_add p.within q.within }

    pub difference_is : {r : T} → whole r ≡ whole x -ℤ whole u → Is whole (b + d) r (y -ℤ v)
    difference_is e =
        record { is = e ∙ (λ i. p.is i -ℤ q.is i); within = within_add p.within (within_neg q.within) }

module _ {T : Type 0} (whole : T → ℤ) where
  pub score_within : {b room : ℕ} (n : ℕ) (t : List T) (k : ℕ) (d : T) → RowWithin b (map whole t) → length t ≡ n → k < n
      → b ≤ room → Within room (whole (get_or t k d))
  score_within n t k d w e h few =
      let chip = chip_is n t k d w e h in
      subst (Within _) (sym chip.is) (within_more chip.within few)

  pub held_keys : {K : Type 0} {holds : K → ℕ → Type 0} (t : List T) (k : ℕ) (d e : T) {first second : K}
      → length t ≡ 8 → suc k < 8
      → holds first (bigger (key_of 8 k (whole (get_or t k d))) (key_of 8 (suc k) (whole (get_or t (suc k) e))))
      → holds second (lesser (key_of 8 k (whole (get_or t k d))) (key_of 8 (suc k) (whole (get_or t (suc k) e))))
      → HeldTwo holds (key_at (map whole t)) k (suc (suc k)) first second
  held_keys {holds = holds} t k d e {first} {second} long h is_first is_second =
      let at_k : key_of 8 k (whole (get_or t k d)) ≡ key_at (map whole t) k =
      ap (key_of 8 k) (sym (get_or-map whole t k d (pos 0) (omega arith))) in
      let at_next : key_of 8 (suc k) (whole (get_or t (suc k) e)) ≡ key_at (map whole t) (suc k) =
      ap (key_of 8 (suc k)) (sym (get_or-map whole t (suc k) e (pos 0) (omega arith))) in
      record {
        x = bigger (key_at (map whole t) k) (key_at (map whole t) (suc k));
        y = lesser (key_at (map whole t) k) (key_at (map whole t) (suc k));
        is_x = subst (holds first) (λ i. bigger (at_k i) (at_next i)) is_first;
        is_y = subst (holds second) (λ i. lesser (at_k i) (at_next i)) is_second;
        two = two_of_lem (key_at (map whole t)) k;
      }

-- four sums of each of two rows, in the order of the words
pub four_read : {T : Type 0} (whole : T → ℤ) (m n : List T) (a b c d e f g h : T) → length m ≡ 4 → length n ≡ 4
    → whole (get_or m 0 a) ∷ whole (get_or m 1 b) ∷ whole (get_or m 2 c) ∷ whole (get_or m 3 d)
    ∷ whole (get_or n 2 e) ∷ whole (get_or n 3 f) ∷ whole (get_or n 0 g) ∷ whole (get_or n 1 h) ∷ []
    ≡ get_or (map whole m) 0 (pos 0) ∷ get_or (map whole m) 1 (pos 0) ∷ get_or (map whole m) 2 (pos 0)
    ∷ get_or (map whole m) 3 (pos 0) ∷ get_or (map whole n) 2 (pos 0) ∷ get_or (map whole n) 3 (pos 0)
    ∷ get_or (map whole n) 0 (pos 0) ∷ get_or (map whole n) 1 (pos 0) ∷ []
four_read {T} whole m n a b c d e f g h em en = λ i.
    at m em 0 a (omega arith) i ∷ at m em 1 b (omega arith) i ∷ at m em 2 c (omega arith) i
    ∷ at m em 3 d (omega arith) i ∷ at n en 2 e (omega arith) i ∷ at n en 3 f (omega arith) i
    ∷ at n en 0 g (omega arith) i ∷ at n en 1 h (omega arith) i ∷ []
  where
    at : (t : List T) → length t ≡ 4 → (k : ℕ) (d : T) → k < 4 → whole (get_or t k d) ≡ get_or (map whole t) k (pos 0)
    at t e k d h = sym (get_or-map whole t k d (pos 0) (omega arith))

-- numbers that are the whole numbers themselves
pub whole_row : {xs ys : List ℤ} → xs ≡ ys → map (λ z. z) xs ≡ ys
whole_row {xs} e = map-id xs ∙ e
