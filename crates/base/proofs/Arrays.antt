-- What `map` of an array gives, for a closure or a function that changes nothing.
--     mapped    each element is what it gives of the one in its place
-- Assumes nothing.
use Rattle.std.proofs.Common.{◌≡◌, ℕ, ◌<◌, List, length, map, get_or, sym, ◌∙◌, subst}
use Rattle.std.proofs.lemmas.List.{length-map, get_or-map, ext_get_or}
use Rattle.std.specs.Fn.{Called}
use Rattle.std.specs.Array.{IsMapOf}
use denote.Param.Members.{Mut}

pub mapped : {F A B : Type 0} (g : Mut F (A × Unit {0}) B) (h : A → B) (d : A) (f : F) (xs : List A) (ys : List B) (n : ℕ)
    → ((p q : F) (x : A) (y : B) → Called g p (x, tt) y q → y ≡ h x) → length xs ≡ n → IsMapOf g f xs ys n → ys ≡ map h xs
mapped g h d f xs ys n each long m = ext_get_or (h d) ys (map h xs) same at
  where
    same : length ys ≡ length (map h xs)
    same = m.long ∙ sym long ∙ sym (length-map xs h)

    at : (i : ℕ) → i < length ys → get_or ys i (h d) ≡ get_or (map h xs) i (h d)
    at i l =
        let k : i < n = subst (λ (m : ℕ). i < m) m.long l in
        let j : i < length xs = subst (λ (m : ℕ). i < m) (sym long) k in
        let a = m.at i d (h d) k in
        each _ _ _ _ a.2 ∙ sym (get_or-map h xs i d (h d) j)
