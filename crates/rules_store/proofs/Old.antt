-- The old reader: a store that some writer laid out, perhaps a newer one.
--     old_refuses                a tag of 128 or more: 25
--     old_reads, old_either      with the three required: their settings, or 25
--     written_read               a store written is read back
-- Assumes nothing.
use mathlib.Core.Path.{◌≡◌, refl, ap, ◌∙◌, subst}
use mathlib.Core.Bool.{Bool, true, false, and-false}
use mathlib.Core.List.{List, [], ◌∷◌, ◌++◌, append_assoc, Memᴰ}
use mathlib.Core.Logic.{◌⊎◌, inl, inr}
use Prim.Native.Nat.{ℕ, suc, ◌+◌, ◌≤◌, ◌<◌}
use native.Mathlib.Omega.{arith}
use borrow.Author.Tests.{lt-ltb, le-ltb, eq-eqb, ne_eqb}
use lib.ListN.{length, get_or, length-append}
use lib.Seq.{get_or_at}
use lib.Dec.{ltb}
use Rattle.rules_store.specs.declared.Entry.{Entry}
use Rattle.rules_store.specs.Store.{entries, passable, body_of, table_end, no_settings, settings, store_read}
use Rattle.rules_store.specs.Pieces.{Piece, setting, bodies, laid_out, Rises, Carries, store_of}
use Rattle.rules_store.specs.Plain.{AllowedSettings}
use Rattle.rules_store.proofs.Allowed.{allowed_is}
use Rattle.rules_store.proofs.Order.{read_full, read_twenty_five}
use Rattle.rules_store.proofs.Laying.{
  entries_of,
  entries_back,
  front,
  laid_front,
  length_front,
  laid_sound,
}

passable_of : (at : ℕ) (ps : List Piece) → ((p : Piece) → Memᴰ p ps → p.tag < 128)
    → passable (entries_of at ps) ≡ true
unfolding passable entries_of
passable_of at [] h = refl
passable_of at (p ∷ ps) h =
    rw (lt-ltb p.tag 128 (h p (Memᴰ.head refl)))
    (passable_of (at + length p.body) ps (λ q m. h q (Memᴰ.tail m)))

impassable_of : (at : ℕ) (ps : List Piece) (p : Piece) → Memᴰ p ps → 128 ≤ p.tag
    → passable (entries_of at ps) ≡ false
unfolding passable entries_of
impassable_of at [] p x'' h = elim x'' [ ]
impassable_of at (q ∷ ps) p (Memᴰ.head e) h =
    let same : p.tag ≡ q.tag = ap (λ (x : Piece). x.tag) e in
    rw (le-ltb q.tag 128 (omega arith))
impassable_of at (q ∷ ps) p (Memᴰ.tail m) h =
    rw (impassable_of (at + length q.body) ps p m h) (and-false (ltb q.tag 128))

-- a tag found, of one octet, with a value
record Stands (tag value : ℕ) (es : List Entry) (octets : List ℕ) : Type 0 where
  there : (body_of tag es).there ≡ true
  one : (body_of tag es).size ≡ 1
  is : get_or octets (body_of tag es).offset 0 ≡ value

tag_least : (least : ℕ) (ps : List Piece) (p : Piece) → Rises least ps → Memᴰ p ps → least ≤ p.tag
unfolding Rises
tag_least least [] p r x'' = elim x'' [ ]
tag_least least (q ∷ ps) p r (Memᴰ.head e) =
    let same : p.tag ≡ q.tag = ap (λ (x : Piece). x.tag) e in omega (arith, r.0)
tag_least least (q ∷ ps) p r (Memᴰ.tail m) = omega (arith, r.0, tag_least (suc q.tag) ps p r.1 m)

stands_here : (tag value at : ℕ) (ps : List Piece) (before : List ℕ) → length before ≡ at
    → Stands tag value (entries_of at (setting tag value ∷ ps)) (before ++ bodies (setting tag value ∷ ps))
unfolding body_of entries_of bodies
stands_here tag value at ps before e =
    let same = eq-eqb tag tag refl in
    record { there = rw same; one = rw same; is = rw same (get_or_at before value (bodies ps) 0 at e) }

stands_later : (tag value at : ℕ) (p : Piece) (ps : List Piece) (octets : List ℕ) → (p.tag ≡ tag → ⊥)
    → Stands tag value (entries_of (at + length p.body) ps) octets
    → Stands tag value (entries_of at (p ∷ ps)) octets
unfolding body_of entries_of
stands_later tag value at p ps octets n s =
    let other = ne_eqb p.tag tag n in
    record { there = rw other s.there; one = rw other s.one; is = rw other s.is }

stands : (tag value least at : ℕ) (ps : List Piece) (before : List ℕ) → Rises least ps
    → Memᴰ (setting tag value) ps → length before ≡ at
    → Stands tag value (entries_of at ps) (before ++ bodies ps)
unfolding Rises bodies
stands tag value least at [] before r x3 h = elim x3 [ ]
stands tag value least at (p ∷ ps) before r (Memᴰ.head e) h =
    subst (λ (q : Piece). Stands tag value (entries_of at (q ∷ ps)) (before ++ bodies (q ∷ ps))) e
    (stands_here tag value at ps before h)
stands tag value least at (p ∷ ps) before r (Memᴰ.tail m) h =
    let above = tag_least (suc p.tag) ps (setting tag value) r.1 m in
    let rest : Stands tag value (entries_of (at + length p.body) ps) ((before ++ p.body) ++ bodies ps) =
    stands tag value (suc p.tag) (at + length p.body) ps (before ++ p.body) r.1 m
    (omega (arith, length-append before p.body)) in
    stands_later tag value at p ps (before ++ bodies (p ∷ ps)) (λ e. omega arith) (moved rest)
  where
    moved : Stands tag value (entries_of (at + length p.body) ps) ((before ++ p.body) ++ bodies ps)
        → Stands tag value (entries_of (at + length p.body) ps) (before ++ bodies (p ∷ ps))
    moved s = rw append_assoc at s

module _ (version : ℕ) (ps : List Piece) (few : length ps ≤ 16) (rises : Rises 0 ps) where
  stands_laid : (tag value : ℕ) → Memᴰ (setting tag value) ps
      → Stands tag value (entries (laid_out version ps)) (laid_out version ps)
  stands_laid tag value m =
      rw (entries_back version ps, laid_front version ps)
      (stands tag value 0 (table_end (length ps)) ps (front version ps) rises m (length_front version ps))

  -- whatever the version, and also where one of the three is missing
  pub old_refuses : (p : Piece) → Memᴰ p ps → 128 ≤ p.tag → store_read (laid_out version ps) ≡ no_settings 25
  old_refuses p m h =
      read_twenty_five (laid_out version ps) (laid_sound version ps few rises)
      (rw (entries_back version ps) (impassable_of (table_end (length ps)) ps p m h))

  module _ (kind rate phase : ℕ) (t : Carries kind rate phase ps) where
    shown : passable (entries (laid_out version ps)) ≡ true → store_read (laid_out version ps) ≡ settings kind rate phase
    shown passes =
        let k = stands_laid 1 kind t.kind_there in
        let r = stands_laid 2 rate t.rate_there in
        let p = stands_laid 3 phase t.phase_there in
        read_full (laid_out version ps)
        (record {
          sound = laid_sound version ps few rises;
          passes = passes;
          whole = rw (k.there, r.there, p.there);
          ones = rw (k.one, r.one, p.one);
        })
        ∙ rw (k.is, r.is, p.is, allowed_is t.good)

    -- and with none of these the three settings are shown
    pub old_reads : ((p : Piece) → Memᴰ p ps → p.tag < 128)
        → store_read (laid_out version ps) ≡ settings kind rate phase
    old_reads below = shown (rw (entries_back version ps) (passable_of (table_end (length ps)) ps below))

    -- so one of the two comes of any such store
    pub old_either : (store_read (laid_out version ps) ≡ settings kind rate phase)
        ⊎ (store_read (laid_out version ps) ≡ no_settings 25)
    old_either = by (passable (entries (laid_out version ps))) refl
      where
        by : (b : Bool) → passable (entries (laid_out version ps)) ≡ b
            → (store_read (laid_out version ps) ≡ settings kind rate phase)
            ⊎ (store_read (laid_out version ps) ≡ no_settings 25)
        by true e = inl (shown e)
        by false e = inr (read_twenty_five (laid_out version ps) (laid_sound version ps few rises) e)

-- a store written is read back
pub written_read : (kind rate phase : ℕ) → AllowedSettings kind rate phase
    → store_read (store_of kind rate phase) ≡ settings kind rate phase
unfolding Rises
written_read kind rate phase g =
    old_reads 1 _ (omega arith) (omega arith, (omega arith, (omega arith, tt))) kind rate phase
    (record {
      kind_there = Memᴰ.head refl;
      rate_there = Memᴰ.tail (Memᴰ.head refl);
      phase_there = Memᴰ.tail (Memᴰ.tail (Memᴰ.head refl));
      good = g;
    })
    below
  where
    below : (p : Piece) → Memᴰ p (setting 1 kind ∷ setting 2 rate ∷ setting 3 phase ∷ []) → p.tag < 128
    below p (Memᴰ.head e) = let t : p.tag ≡ 1 = ap (λ (x : Piece). x.tag) e in omega arith
    below p (Memᴰ.tail (Memᴰ.head e)) =
        let t : p.tag ≡ 2 = ap (λ (x : Piece). x.tag) e in omega arith
    below p (Memᴰ.tail (Memᴰ.tail (Memᴰ.tail x12))) = elim x12 [ ]
    below p (Memᴰ.tail (Memᴰ.tail (Memᴰ.head e))) =
        let t : p.tag ≡ 3 = ap (λ (x : Piece). x.tag) e in omega arith
