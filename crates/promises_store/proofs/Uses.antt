-- Uses of what is kept of the store's calls, as a caller would make them, so that none of it can be said of nothing and
-- no part can be lost.
-- Assumes nothing.
use mathlib.Core.Path.{◌≡◌, refl, sym, ap, subst}
use mathlib.Core.List.{List, [], ◌∷◌, map, Memᴰ}
use mathlib.Core.Logic.{◌⊎◌, inl, inr}
use Prim.Native.Nat.{ℕ, zero, suc, ◌+◌, ◌*◌, ◌≤◌, ◌<◌}
use native.Mathlib.Omega.{arith}
use lib.ListN.{length, get_or, take, drop, replicate}
use Rattle.base.specs.Below.{Below}
use Rattle.base.proofs.Below.{below_nil, below_cons, below_replicate}
use Rattle.rules_calls.specs.declared.Written.{Written}
use Rattle.rules_store.specs.declared.Entry.{Entry}
use Rattle.rules_store.specs.declared.Settings.{Settings}
use Rattle.rules_store.specs.Store.{entries, no_settings, settings}
use Rattle.rules_store.specs.Pieces.{Piece, setting, table_from, bodies, laid_out, Rises, Writable, Carries}
use Rattle.rules_store.specs.Plain as plain
use Rattle.rules_store.specs.Plain.{
  AllowedSettings,
  StoreTells,
  Writes,
  writes_28,
  writes_29,
  writes_all,
  Changed,
  new_kind,
  new_rate,
  Changes,
  as_read,
  changes_30,
  changes_28,
  changes_one,
}
use Rattle.rules_store.proofs.Allowed.{allowed_is}
use Rattle.promises.specs.Calls.{Wrote, Goes, short_11}
use Rattle.promises_store.specs.Calls.{StoreWrites, StoreReads, StoreChanges}
use Rattle.promises_store.specs.Promises.{OfSettings, of_kind, of_rate, of_both, of_phase}
use Rattle.promises_store.proofs.Kept.{kept}

-- ---- a newer writer's store of any version: tag 0 with 255 octets, the three settings, and a last tag with none

abbrev newer : ℕ → List Piece
newer last =
    record { tag = 0; body = replicate 255 9 } ∷ setting 1 1 ∷ setting 2 110 ∷ setting 3 3
    ∷ record { tag = last; body = [] } ∷ []

each : (P : Piece → Type 0) {a b c d e : Piece} → P a → P b → P c → P d → P e
    → (p : Piece) → Memᴰ p (a ∷ b ∷ c ∷ d ∷ e ∷ []) → P p
each P v w x y z p (Memᴰ.head q) = subst P (sym q) v
each P v w x y z p (Memᴰ.tail (Memᴰ.head q)) = subst P (sym q) w
each P v w x y z p (Memᴰ.tail (Memᴰ.tail (Memᴰ.head q))) = subst P (sym q) x
each P v w x y z p (Memᴰ.tail (Memᴰ.tail (Memᴰ.tail (Memᴰ.head q)))) = subst P (sym q) y
each P {a = a} {b = b} {c = c} {d = d} {e = e} v w x y z p (Memᴰ.tail (Memᴰ.tail (Memᴰ.tail (Memᴰ.tail (Memᴰ.tail x21))))) = elim x21 [ ]
each P v w x y z p (Memᴰ.tail (Memᴰ.tail (Memᴰ.tail (Memᴰ.tail (Memᴰ.head q))))) =
    subst P (sym q) z

one_octet : (x : ℕ) → x < 256 → Below 256 (x ∷ [])
one_octet x h = below_cons h (below_nil 256 (omega arith))

module _ (last : ℕ) (after : 3 < last) (octet : last < 256) where
  writable : Writable (newer last)
  unfolding Rises
  writable = record {
    few = omega arith;
    rises = (omega arith, (omega arith, (omega arith, (omega arith, (omega arith, tt)))));
    tags = each (λ p. p.tag < 256) (omega arith) (omega arith) (omega arith) (omega arith) octet;
    sizes =
        each (λ p. length p.body ≤ 255) (omega arith) (omega arith) (omega arith) (omega arith) (omega arith);
    octets =
        each (λ p. Below 256 p.body) (below_replicate 255 (omega arith)) (one_octet 1 (omega arith))
        (one_octet 110 (omega arith)) (one_octet 3 (omega arith)) (below_nil 256 (omega arith));
  }

  carries : Carries 1 110 3 (newer last)
  carries = record {
    kind_there = Memᴰ.tail (Memᴰ.head refl);
    rate_there = Memᴰ.tail (Memᴰ.tail (Memᴰ.head refl));
    phase_there = Memᴰ.tail (Memᴰ.tail (Memᴰ.tail (Memᴰ.head refl)));
    good = plain.short_11 3 (omega arith);
  }

  module _ (version : ℕ) (s : Settings) (r : StoreReads (laid_out version (newer last)) s) where
    -- the last one below 128, as 127: the old reader shows the settings
    pub newer_shown : last < 128 → s ≡ settings 1 110 3
    newer_shown h =
        ((kept.old_readers version (newer last) writable s r).1 1 110 3 carries).0
        (each (λ p. p.tag < 128) (omega arith) (omega arith) (omega arith) (omega arith) h)

    -- 128 or more: it refuses
    pub newer_refused : 128 ≤ last → s ≡ no_settings 25
    newer_refused h =
        (kept.old_readers version (newer last) writable s r).0 (record { tag = last; body = [] })
        (Memᴰ.tail (Memᴰ.tail (Memᴰ.tail (Memᴰ.tail (Memᴰ.head refl))))) h

    -- whatever it is
    pub newer_either : (s.number ≡ 0 → ⊥) → s.number ≡ 25
    newer_either n = by ((kept.old_readers version (newer last) writable s r).1 1 110 3 carries).1
      where
        by : (s ≡ settings 1 110 3) ⊎ (s ≡ no_settings 25) → s.number ≡ 25
        by (inl e) = absurd (n (λ i. (e i).number))
        by (inr e) = λ i. (e i).number

  -- and it gives everything back
  module _ (version : ℕ) (v : version < 256) where
    abbrev store : List ℕ
    store = laid_out version (newer last)

    pub newer_version : get_or store 0 0 ≡ version
    newer_version = (kept.laid_back version (newer last) v writable).4

    pub newer_tags : map (λ (e : Entry). e.tag) (entries store) ≡ 0 ∷ 1 ∷ 2 ∷ 3 ∷ last ∷ []
    newer_tags = (kept.laid_back version (newer last) v writable).2

    pub newer_bodies : map (λ (e : Entry). take e.size (drop e.offset store)) (entries store)
        ≡ replicate 255 9 ∷ (1 ∷ []) ∷ (110 ∷ []) ∷ (3 ∷ []) ∷ [] ∷ []
    newer_bodies = (kept.laid_back version (newer last) v writable).3

pub shown_127 : (s : Settings) → StoreReads (laid_out 9 (newer 127)) s → s ≡ settings 1 110 3
shown_127 s r = newer_shown 127 (omega arith) (omega arith) 9 s r (omega arith)

-- ---- the largest layout: 16 entries of 255 octets each

abbrev full : ℕ → ℕ → List Piece
full tag zero = []
full tag (suc k) = record { tag = tag; body = replicate 255 255 } ∷ full (suc tag) k

full_rises : (least tag k : ℕ) → least ≤ tag → Rises least (full tag k)
unfolding Rises
full_rises least tag zero h = tt
full_rises least tag (suc k) h = (h, full_rises (suc tag) (suc tag) k (omega arith))

full_each : (P : Piece → Type 0) (m : ℕ)
    → ((t : ℕ) → t < m → P (record { tag = t; body = replicate 255 255 }))
    → (tag k : ℕ) → tag + k ≤ m → (p : Piece) → Memᴰ p (full tag k) → P p
full_each P m f tag zero h p x'' = elim x'' [ ]
full_each P m f tag (suc k) h p (Memᴰ.head q) = subst P (sym q) (f tag (omega arith))
full_each P m f tag (suc k) h p (Memᴰ.tail q) = full_each P m f (suc tag) k (omega arith) p q

pub full_length : length (laid_out 255 (full 240 16)) ≡ 4146
unfolding table_from bodies laid_out
full_length = refl

pub full_back : Below 256 (laid_out 255 (full 240 16)) × (length (laid_out 255 (full 240 16)) ≤ 4146)
full_back =
    let l = kept.laid_back 255 (full 240 16) (omega arith)
    (record {
      few = omega arith;
      rises = full_rises 0 240 16 (omega arith);
      tags = full_each (λ p. p.tag < 256) 256 (λ t h. h) 240 16 (omega arith);
      sizes = full_each (λ p. length p.body ≤ 255) 256 (λ t h. omega arith) 240 16 (omega arith);
      octets = full_each (λ p. Below 256 p.body) 256 (λ t h. below_replicate 255 (omega arith)) 240 16 (omega arith);
    }) in
    (l.0, l.1)

never_short : {phase : ℕ} → AllowedSettings 1 10 phase → ⊥
never_short g = let z : ◌≡◌ {A = ℕ} 0 1 = cc (allowed_is g) in omega arith

-- ---- a store written into room for 20 octets, and into less

module _ (number : ℕ) (left : List ℕ) where
  pub written_20 : StoreWrites 0 55 2 20 number left
      → (number ≡ 0)
      × (left ≡ 1 ∷ 3 ∷ 1 ∷ 14 ∷ 0 ∷ 1 ∷ 2 ∷ 15 ∷ 0 ∷ 1 ∷ 3 ∷ 16 ∷ 0 ∷ 1 ∷ 0 ∷ 55 ∷ 2 ∷ 0 ∷ 0 ∷ 0 ∷ [])
  written_20 w =
      let e = (kept.write_tells 0 55 2 20 number left w).1 _ _
      (writes_all (plain.long_5 2 (omega arith)) (omega arith)) in
      (sym e.0, sym e.1)

  pub written_16 : StoreWrites 0 55 2 16 number left → (number ≡ 29) × (left ≡ replicate 16 0)
  written_16 w =
      let e = (kept.write_tells 0 55 2 16 number left w).1 _ _
      (writes_29 (plain.long_5 2 (omega arith)) (omega arith)) in
      (sym e.0, sym e.1)

  -- 28 comes first; and there is no fourth answer
  pub written_0 : StoreWrites 1 10 0 0 number left → number ≡ 28
  written_0 w = sym ((kept.write_tells 1 10 0 0 number left w).1 _ _ (writes_28 never_short)).0

  pub written_any : (kind rate phase room : ℕ) → StoreWrites kind rate phase room number left
      → (number ≡ 28 → ⊥) → (number ≡ 29 → ⊥) → number ≡ 0
  written_any kind rate phase room w a b = by (kept.write_tells kind rate phase room number left w).0 a b
    where
      by : {n : ℕ} {l : List ℕ} → Writes kind rate phase room n l → (n ≡ 28 → ⊥) → (n ≡ 29 → ⊥) → n ≡ 0
      by (writes_28 x) a b = absurd (a refl)
      by (writes_29 x y) a b = absurd (b refl)
      by (writes_all x y) a b = refl

  pub read_exact : StoreWrites 0 55 2 17 number left → (s : Settings) → StoreReads (take 17 left) s
      → s ≡ settings 0 55 2
  read_exact w = (kept.store_read_back 0 55 2 17 number left (plain.long_5 2 (omega arith)) (omega arith) w).0

  -- 17 of them are read back; with one zero behind them they are 24, and with all
  module _ (w : StoreWrites 0 55 2 20 number left) (s : Settings) where
    pub read_17 : StoreReads (take 17 left) s → s ≡ settings 0 55 2
    read_17 = (kept.store_read_back 0 55 2 20 number left (plain.long_5 2 (omega arith)) (omega arith) w).0 s

    pub read_18 : StoreReads (take 18 left) s → s ≡ no_settings 24
    read_18 =
        (kept.store_read_back 0 55 2 20 number left (plain.long_5 2 (omega arith)) (omega arith) w).1 18 s
        (omega arith) (omega arith)

    pub read_20 : StoreReads (take 20 left) s → s ≡ no_settings 24
    read_20 =
        (kept.store_read_back 0 55 2 20 number left (plain.long_5 2 (omega arith)) (omega arith) w).1 20 s
        (omega arith) (omega arith)

-- ---- from long at 1 Mbit/s to short at 2: the kind first is refused, the rate first is not

module _ (octets : List ℕ) (phase : ℕ) (h : phase ≤ 3) (r : StoreReads octets (settings 0 10 phase)) (number : ℕ)
    (left : List ℕ) where
  told : StoreTells octets (settings 0 10 phase)
  told = (kept.read_tells octets (settings 0 10 phase) r).0

  once : (t : Settings) → StoreTells octets t → t ≡ settings 0 10 phase
  once = (kept.read_tells octets (settings 0 10 phase) r).1

  pub kind_first : StoreChanges octets 1 1 number left → number ≡ 28
  kind_first c =
      sym ((kept.change_tells octets 1 1 number left c).1 28 octets
      (changes_28 told (new_kind 0 10 phase) never_short)).0

  pub kind_first_left : StoreChanges octets 1 1 number left → left ≡ octets
  kind_first_left c =
      (kept.change_touches octets 1 1 number left c).0 (λ z. omega (arith, z, kind_first c))

  pub tag_4 : (value : ℕ) → StoreChanges octets 4 value number left → (number ≡ 30) × (left ≡ octets)
  tag_4 value c =
      let e = (kept.change_tells octets 4 value number left c).1 30 octets (changes_30 told (λ a b. omega arith)) in
      (sym e.0, sym e.1)

  rate_number : StoreChanges octets 2 20 number left → number ≡ 0
  rate_number c = by (kept.change_tells octets 2 20 number left c).0
    where
      may : {s : Settings} {kind rate phase' : ℕ} → s ≡ settings 0 10 phase
          → Changed 20 2 s (settings kind rate phase') → AllowedSettings kind rate phase'
      may e (new_rate kind rate phase') =
          subst (λ (x : ℕ × ℕ). AllowedSettings x.0 20 x.1) (λ i. ((sym e i).kind, (sym e i).phase))
          (plain.long_2 phase h)

      by : {n : ℕ} {l : List ℕ} → Changes octets 2 20 n l → n ≡ 0
      by (as_read n t d) = λ i. (once _ t i).number
      by (changes_30 t d) = absurd (d (omega arith) (omega arith))
      by (changes_28 t m d) = absurd (d (may (once _ t) m))
      by (changes_one t m g i a b o) = refl

  pub rate_first : StoreChanges octets 2 20 number left → (t : Settings) → StoreReads left t → t ≡ settings 0 20 phase
  rate_first c t u =
      by ((kept.change_touches octets 2 20 number left c).1 (rate_number c) (settings 0 10 phase) t r u)
    where
      by : {t : Settings} → Changed 20 2 (settings 0 10 phase) t → t ≡ settings 0 20 phase
      by (new_rate kind rate phase) = refl

-- ---- a frame with the settings of a store; and settings that a store does not keep

module _ (clock : ℕ) (payload : List ℕ) (room : ℕ) (w : Written) (chips : List ℕ)
    (some : 1 ≤ length payload) (few : length payload ≤ 4095) where
  pub frame_written : (octets : List ℕ) → StoreReads octets (settings 1 110 2)
      → 1056 + 8 * length payload ≤ room
      → Wrote 1 110 2 clock payload room w chips → w.number ≡ 0
  frame_written octets r h v =
      let t = (kept.store_serves clock payload room w chips some few).0 octets (settings 1 110 2) r refl v in
      let e = sizes t.goes in
      t.good (omega (arith, ap (λ (o : ℕ). o * length payload) e.1, e.0))
    where
      sizes : {front octet : ℕ} → Goes 1 110 front octet → (front ≡ 1056) × (octet ≡ 8)
      sizes short_11 = (refl, refl)

  module _ (kind rate phase held number : ℕ) (left : List ℕ) (t : StoreWrites kind rate phase held number left)
      (v : Wrote kind rate phase clock payload room w chips) where
    pub refused_alike : w.number ≡ 3 → number ≡ 28
    refused_alike e =
        ((kept.store_serves clock payload room w chips some few).1 kind rate phase held number left t
        v).1 (subst OfSettings (sym e) of_both)

    pub kept_alike : w.number ≡ 0 → number ≡ 28 → ⊥
    kept_alike z e =
        not_0 (((kept.store_serves clock payload room w chips some few).1 kind rate phase held number
        left t v).0 e) z
      where
        not_0 : {m : ℕ} → OfSettings m → m ≡ 0 → ⊥
        not_0 of_kind z = omega arith
        not_0 of_rate z = omega arith
        not_0 of_both z = omega arith
        not_0 of_phase z = omega arith

-- ---- what one program answers and leaves, every other does
pub one_answer : (octets : List ℕ) (s t : Settings) → StoreReads octets s → StoreReads octets t → s ≡ t
one_answer = kept.one_store.1

pub one_written : (kind rate phase room m n : ℕ) (k l : List ℕ) → StoreWrites kind rate phase room m k
    → StoreWrites kind rate phase room n l → k ≡ l
one_written kind rate phase room m n k l v w = (kept.one_store.0 kind rate phase room m n k l v w).1

pub one_changed : (octets : List ℕ) (tag value m n : ℕ) (k l : List ℕ) → StoreChanges octets tag value m k
    → StoreChanges octets tag value n l → k ≡ l
one_changed octets tag value m n k l v w = (kept.one_store.2 octets tag value m n k l v w).1

-- ---- 4,147 octets are no store
pub never_4147 : (octets : List ℕ) (s : Settings) → Below 256 octets → length octets ≡ 4147 → StoreReads octets s
    → s.number ≡ 0 → ⊥
never_4147 octets s b n r z = by (kept.store_largest octets s b (omega arith) r)
  where
    by : (s ≡ no_settings 22) ⊎ ((s ≡ no_settings 23) ⊎ (s ≡ no_settings 24)) → ⊥
    by (inl e) = omega (arith, z, ap (λ (t : Settings). t.number) e)
    by (inr (inl e)) = omega (arith, z, ap (λ (t : Settings). t.number) e)
    by (inr (inr e)) = omega (arith, z, ap (λ (t : Settings). t.number) e)
