-- A store that was laid out parses back to its pieces.
--     version_back, entries_back     the version, and the table's entries
--     tags_back, bodies_back   every tag, and every body, cut out by its entry
--     laid_sound               such a store is laid out with tags that rise
--     laid_octets, laid_most   it is of octets, 4,146 at most
-- Assumes nothing.
use mathlib.Core.Path.{◌≡◌, refl, sym}
use mathlib.Core.Bool.{true}
use mathlib.Core.List.{List, [], ◌∷◌, ◌++◌, map, append_assoc, Memᴰ}
use Prim.Native.Nat.{ℕ, suc, ◌+◌, ◌*◌, ◌/◌, ◌%◌, ◌≤◌, ◌<◌}
use native.Mathlib.Omega.{arith}
use borrow.Author.Tests.{le-leb, eq-eqb}
use lib.ListN.{length, get_or, take, drop, length-append}
use Rattle.base.specs.Below.{Below}
use Rattle.base.proofs.Below.{below_nil, below_cons, below_append}
use Rattle.base.proofs.Lists.{part_second}
use Rattle.rules_store.specs.declared.Entry.{Entry}
use Rattle.rules_store.specs.Store.{entries_in, entries, rising, laid, table_end}
use Rattle.rules_store.specs.Pieces.{Piece, table_from, bodies, laid_out, Rises, Writable}
use Rattle.rules_store.proofs.Order.{Sound}

-- the entries of pieces, the first body at `at`
unfoldable pub entries_of : ℕ → List Piece → List Entry
entries_of at [] = []
entries_of at (p ∷ ps) =
    record { tag = p.tag; offset = at; size = length p.body } ∷ entries_of (at + length p.body) ps

both : (n : ℕ) → n % 256 + 256 * (n / 256) ≡ n
both n = omega arith

parsed : (at : ℕ) (ps : List Piece) (l : List ℕ) → entries_in (length ps) (table_from at ps ++ l) ≡ entries_of at ps
unfolding entries_in table_from entries_of
parsed at [] l = refl
parsed at (p ∷ ps) l =
    let rest = parsed (at + length p.body) ps l in
    λ i. record { tag = p.tag; offset = both at i; size = length p.body } ∷ rest i

pub version_back : (version : ℕ) (ps : List Piece) → get_or (laid_out version ps) 0 0 ≡ version
unfolding laid_out
version_back version ps = refl

pub entries_back : (version : ℕ) (ps : List Piece)
    → entries (laid_out version ps) ≡ entries_of (table_end (length ps)) ps
unfolding laid_out
entries_back version ps = parsed (table_end (length ps)) ps (bodies ps)

length_table : (at : ℕ) (ps : List Piece) → length (table_from at ps) ≡ 4 * length ps
unfolding table_from
length_table at [] = refl
length_table at (p ∷ ps) = omega (arith, length_table (at + length p.body) ps)

length_laid : (version : ℕ) (ps : List Piece)
    → length (laid_out version ps) ≡ table_end (length ps) + length (bodies ps)
unfolding laid_out
length_laid version ps =
    let n = table_end (length ps) in
    omega (arith, length-append (table_from n ps) (bodies ps), length_table n ps)

-- what stands before the bodies
unfoldable pub front : ℕ → List Piece → List ℕ
front version ps = version ∷ length ps ∷ table_from (table_end (length ps)) ps

pub laid_front : (version : ℕ) (ps : List Piece) → laid_out version ps ≡ front version ps ++ bodies ps
unfolding laid_out front
laid_front version ps = refl

pub length_front : (version : ℕ) (ps : List Piece) → length (front version ps) ≡ table_end (length ps)
unfolding front
length_front version ps = omega (arith, length_table (table_end (length ps)) ps)

-- the octets of an entry's body
abbrev cut : List ℕ → Entry → List ℕ
cut octets e = take e.size (drop e.offset octets)

cuts : (before : List ℕ) (at : ℕ) (ps : List Piece) → length before ≡ at
    → map (cut (before ++ bodies ps)) (entries_of at ps) ≡ map (λ (p : Piece). p.body) ps
unfolding entries_of bodies
cuts before at [] e = refl
cuts before at (p ∷ ps) e =
    let first = part_second before p.body (bodies ps) at (length p.body) e refl in
    let rest : map (cut ((before ++ p.body) ++ bodies ps)) (entries_of (at + length p.body) ps)
    ≡ map (λ (q : Piece). q.body) ps =
    cuts (before ++ p.body) (at + length p.body) ps (omega (arith, length-append before p.body)) in
    let moved : map (cut (before ++ (p.body ++ bodies ps))) (entries_of (at + length p.body) ps)
    ≡ map (λ (q : Piece). q.body) ps = rw append_assoc at rest in
    λ i. first i ∷ moved i

pub bodies_back : (version : ℕ) (ps : List Piece)
    → map (cut (laid_out version ps)) (entries (laid_out version ps)) ≡ map (λ (p : Piece). p.body) ps
bodies_back version ps =
    rw (entries_back version ps, laid_front version ps)
    (cuts (front version ps) (table_end (length ps)) ps (length_front version ps))

tags_of : (at : ℕ) (ps : List Piece) → map (λ (e : Entry). e.tag) (entries_of at ps) ≡ map (λ (p : Piece). p.tag) ps
unfolding entries_of
tags_of at [] = refl
tags_of at (p ∷ ps) = let rest = tags_of (at + length p.body) ps in λ i. p.tag ∷ rest i

pub tags_back : (version : ℕ) (ps : List Piece)
    → map (λ (e : Entry). e.tag) (entries (laid_out version ps)) ≡ map (λ (p : Piece). p.tag) ps
tags_back version ps = rw (entries_back version ps) (tags_of (table_end (length ps)) ps)

-- ---- the tests of a store that was laid out

rising_of : (least at : ℕ) (ps : List Piece) → Rises least ps → rising least (entries_of at ps) ≡ true
unfolding rising entries_of Rises
rising_of least at [] r = refl
rising_of least at (p ∷ ps) r =
    rw (le-leb least p.tag r.0) (rising_of (suc p.tag) (at + length p.body) ps r.1)

laid_of : (at end : ℕ) (ps : List Piece) → at + length (bodies ps) ≡ end → laid at (entries_of at ps) end ≡ true
unfolding laid entries_of bodies
laid_of at end [] e = eq-eqb at end (omega arith)
laid_of at end (p ∷ ps) e =
    rw (eq-eqb at at refl)
    (laid_of (at + length p.body) end ps (omega (arith, length-append p.body (bodies ps))))

pub laid_sound : (version : ℕ) (ps : List Piece) → length ps ≤ 16 → Rises 0 ps → Sound (laid_out version ps)
unfolding laid_out
laid_sound version ps few rises =
    let n = table_end (length ps) in
    record {
      long = omega (arith, length_laid version ps);
      most = few;
      rises = rw (parsed n ps (bodies ps)) (rising_of 0 n ps rises);
      out = rw (parsed n ps (bodies ps)) (laid_of n _ ps (sym (length_laid version ps)));
    }

-- ---- such a store is of octets

bodies_octets : (ps : List Piece) → ((p : Piece) → Memᴰ p ps → Below 256 p.body) → Below 256 (bodies ps)
unfolding bodies
bodies_octets [] h = below_nil 256 (omega arith)
bodies_octets (p ∷ ps) h =
    below_append (h p (Memᴰ.head refl)) (bodies_octets ps (λ q m. h q (Memᴰ.tail m)))

table_octets : (at : ℕ) (ps : List Piece) → at + 255 * length ps < 65536
    → ((p : Piece) → Memᴰ p ps → p.tag < 256) → ((p : Piece) → Memᴰ p ps → length p.body ≤ 255)
    → Below 256 (table_from at ps)
unfolding table_from
table_octets at [] h t s = below_nil 256 (omega arith)
table_octets at (p ∷ ps) h t s =
    let size = s p (Memᴰ.head refl) in
    below_cons (t p (Memᴰ.head refl))
    (below_cons (omega arith)
    (below_cons (omega arith)
    (below_cons (omega arith)
    (table_octets (at + length p.body) ps (omega arith) (λ q m. t q (Memᴰ.tail m))
    (λ q m. s q (Memᴰ.tail m))))))

pub laid_octets : (version : ℕ) (ps : List Piece) → version < 256 → Writable ps → Below 256 (laid_out version ps)
unfolding laid_out
laid_octets version ps v w =
    let few = w.few in
    below_cons v
    (below_cons (omega arith)
    (below_append (table_octets (table_end (length ps)) ps (omega arith) w.tags w.sizes)
    (bodies_octets ps w.octets)))

bodies_most : (ps : List Piece) → ((p : Piece) → Memᴰ p ps → length p.body ≤ 255)
    → length (bodies ps) ≤ 255 * length ps
unfolding bodies
bodies_most [] s = omega arith
bodies_most (p ∷ ps) s =
    omega (
      arith,
      s p (Memᴰ.head refl),
      length-append p.body (bodies ps),
      bodies_most ps (λ q m. s q (Memᴰ.tail m)),
    )

pub laid_most : (version : ℕ) (ps : List Piece) → Writable ps → length (laid_out version ps) ≤ 4146
laid_most version ps w = omega (arith, w.few, length_laid version ps, bodies_most ps w.sizes)
