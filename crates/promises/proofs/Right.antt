-- Demand 3 over a whole reading: each word of a part is decided from the counts taken at its place, and those are near
-- the exact values recorded there, so demand 3's law of one symbol holds of it. Once for every part and recorder; hard,
-- soft and byte recordings keep their chips. Assumes nothing.
use mathlib.Core.Path.{◌≡◌, refl, sym, ap, ◌∙◌, subst}
use mathlib.Core.Bool.{Bool, true, false, not, cond, ◌&&◌}
use mathlib.Core.List.{List, [], ◌∷◌, map}
use Prim.Native.Nat.{ℕ, zero, suc, ◌+◌, ◌-◌, ◌*◌, ◌/◌, ◌^◌, ◌≤◌, ◌<◌}
use native.Mathlib.Nat.{mul_comm, suc-mul, zero-mul, mul-le-mul_right, le_of_suc-le-suc, not-suc-le-zero}
use native.Mathlib.Omega.{arith}
use borrow.Author.Tests.{le-leb}
use lib.Dec.{T, eqb}
use lib.ListN.{length, get_or, take, drop, length-drop, length-map, get_or-map}
use lib.Seq.{drop-drop, length-take-le, get_or-take, get_or-drop}
use lib.IntN.{ℤ}
use lib.Ieee.{Float, nan}
use Rattle.rules_rates.specs.declared.Rate.{Rate}
use Rattle.rules_rates.specs.declared.Rate.TheVariants.{One, Two, Five, Eleven}
use Rattle.rules_rates.specs.Rates.{symbol_chips, symbol_bits, octet_chips}
use Rattle.rules_rates.proofs.Octets.{part_symbols, part_chips}
use Rattle.rules_chips.specs.declared.Counts.{Counts}
use Rattle.rules_chips.specs.declared.Chip.TheVariants.{Lost, Hard, Soft}
use Rattle.rules_chips.specs.Floats.{usable}
use Rattle.rules_chips.specs.Chips.{
  Taken,
  unusable,
  is_unusable,
  taken_counts,
  nothing,
  usable_sample,
  counts_of,
  exact_of,
  hard_chip,
  hard_taken,
  hard_recording,
  soft_taken,
  soft_recording,
  byte_recording,
}
use Rattle.rules_chips.specs.Bounds.{Apart}
use Rattle.rules_chips.proofs.Bounds.{soft_near, hard_exact, lost_exact}
use Rattle.rules_chips.proofs.Bytes.{bytes_usable, byte_exact_lem}
use Rattle.rules_chips.proofs.Recorders.{sample, taken_hard, taken_soft, unusable_hard, unusable_soft}
use Rattle.rules_symbols.specs.Choice.{decided, lead_of}
use Rattle.rules_choosing.specs.Demand3.{RightUpTo, LeadsExactly}
use Rattle.rules_choosing.proofs.Demand3.{demand_3, lead_says}
use Rattle.rules_frame.specs.declared.Kind.{Kind}
use Rattle.rules_frame.specs.declared.Kind.TheVariants.{Long, Short}
use Rattle.rules_frame.specs.Frame.{header_rate, front_chips, preamble_length, header_length, preamble_chips}
use Rattle.rules_reading.specs.Places.{UsableAt}
use Rattle.rules_reading.specs.Reading.{decided_words, preamble_words, header_words, payload_words}
use Rattle.promises.specs.Calls.{in_hard, in_soft, in_bytes}
use Rattle.promises.specs.Right.{
  exact_from,
  EachRight,
  WholeRight,
  Keeps,
  RecordedRight,
  exact_hard,
  exact_soft,
  exact_bytes,
  RowsRight,
}

-- the j-th of m words
pub word_at : (r : Rate) (m j : ℕ) (cs : List Taken) → j < m
    → get_or (decided_words r m cs) j 0 ≡ decided r (map taken_counts (take (symbol_chips r) (drop (j * symbol_chips r) cs)))
unfolding decided_words
word_at r zero j cs h = absurd (not-suc-le-zero h)
word_at r (suc m) zero cs h =
    ap (λ (x : ℕ). decided r (map taken_counts (take (symbol_chips r) (drop x cs)))) (sym (zero-mul (symbol_chips r)))
word_at r (suc m) (suc j) cs h =
    word_at r m j (drop (symbol_chips r) cs) (le_of_suc-le-suc h)
    ∙ ap (λ (l : List Taken). decided r (map taken_counts (take (symbol_chips r) l)))
    (drop-drop (j * symbol_chips r) (symbol_chips r) cs
    ∙ ap (λ (x : ℕ). drop x cs) (swapped (j * symbol_chips r) (symbol_chips r) ∙ sym (suc-mul j (symbol_chips r))))
  where
    swapped : (a b : ℕ) → b + a ≡ a + b
    swapped a b = omega arith

-- and of a part that starts at place `at`
pub word_from_lem : (r : Rate) (m at j : ℕ) (rec : List Taken) → j < m
    → get_or (decided_words r m (drop at rec)) j 0
    ≡ decided r (map taken_counts (take (symbol_chips r) (drop (at + j * symbol_chips r) rec)))
word_from_lem r m at j rec h =
    word_at r m j (drop at rec) h
    ∙ ap (λ (l : List Taken). decided r (map taken_counts (take (symbol_chips r) l)))
    (drop-drop (j * symbol_chips r) at rec)

-- ---- usable chips: each is one of the recording
there : (rec : List Taken) (place : ℕ) → UsableAt rec place → place < length rec
there [] place t = absurd t
there (c ∷ rec) zero t = omega arith
there (c ∷ rec) (suc place) t = let h = there rec place t in omega arith

some_chips : (r : Rate) → 0 < symbol_chips r
some_chips One = omega arith
some_chips Two = omega arith
some_chips Five = omega arith
some_chips Eleven = omega arith

-- one symbol, whose chips are usable
module _ (half : ℕ) (exact : List Counts) (rec : List Taken) (keeps : Keeps half exact rec) (r : Rate) (from : ℕ)
    (ok : (i : ℕ) → i < symbol_chips r → UsableAt rec (from + i)) where
  abbrev c : ℕ
  c = symbol_chips r

  abbrev counts : List Counts
  counts = map taken_counts (take c (drop from rec))

  reaches : from + c ≤ length rec
  reaches = omega (arith, some_chips r, there rec (from + (c - 1)) (ok (c - 1) (omega (arith, some_chips r))))

  counts_length : length counts ≡ c
  counts_length =
      length-map (take c (drop from rec)) taken_counts
      ∙ length-take-le c (drop from rec) (rw (length-drop from rec) (omega (arith, reaches)))

  exact_length : length (take c (drop from exact)) ≡ c
  exact_length =
      length-take-le c (drop from exact) (rw (length-drop from exact, keeps.as_long) (omega (arith, reaches)))

  counts_at_lem : (i : ℕ) → i < c → get_or counts i nothing ≡ taken_counts (get_or rec (from + i) unusable)
  counts_at_lem i l =
      get_or-map taken_counts (take c (drop from rec)) i unusable
      ∙ ap taken_counts (get_or-take c (drop from rec) i unusable l ∙ get_or-drop from rec i unusable)

  exact_at_lem : (i : ℕ) → i < c → get_or (take c (drop from exact)) i nothing ≡ get_or exact (from + i) nothing
  exact_at_lem i l = get_or-take c (drop from exact) i nothing l ∙ get_or-drop from exact i nothing

  near : (i : ℕ) → i < c → Apart half (get_or counts i nothing) (get_or (take c (drop from exact)) i nothing)
  near i l = rw (counts_at_lem i l, exact_at_lem i l) (keeps.near (from + i) (ok i l))

  symbol_right : RightUpTo (c * (2 * half)) r (take c (drop from exact)) (decided r counts)
  symbol_right = demand_3 half r counts (take c (drop from exact)) counts_length exact_length near

  pub symbol_sure : c * (2 * half) < lead_of r counts * 2 ^ 139
      → LeadsExactly r (take c (drop from exact)) (decided r counts)
  symbol_sure l = lead_says half r counts (take c (drop from exact)) counts_length exact_length near l

module _ (half : ℕ) (exact : List Counts) (rec : List Taken) (keeps : Keeps half exact rec) (r : Rate) (m at : ℕ)
    (ok : (place : ℕ) → at ≤ place → place < at + m * symbol_chips r → UsableAt rec place) where
  usable_at : (j : ℕ) → j < m → (i : ℕ) → i < symbol_chips r → UsableAt rec (at + j * symbol_chips r + i)
  usable_at j h i l =
      ok (at + j * symbol_chips r + i) (omega arith)
      (omega (arith, suc-mul j (symbol_chips r), mul-le-mul_right (symbol_chips r) h))

  pub each_right : EachRight half r m at (decided_words r m (drop at rec)) exact
  each_right j h =
      subst (RightUpTo (symbol_chips r * (2 * half)) r (exact_from r (at + j * symbol_chips r) exact))
      (sym (word_from_lem r m at j rec h))
      (symbol_right half exact rec keeps r (at + j * symbol_chips r) (usable_at j h))

-- ---- the front's two parts, and the payload
preamble_in : (k : Kind) → 0 + preamble_length k * symbol_chips One ≤ front_chips k
preamble_in Long = omega arith
preamble_in Short = omega arith

header_in : (k : Kind)
    → preamble_chips k + header_length / symbol_bits (header_rate k) * symbol_chips (header_rate k) ≤ front_chips k
header_in Long = omega arith
header_in Short = omega arith

whole_symbols_lem : (r : Rate) (n : ℕ) → 8 * n / symbol_bits r * symbol_chips r ≡ octet_chips r * n
whole_symbols_lem r n = mul_comm (8 * n / symbol_bits r) (symbol_chips r) ∙ rw (part_symbols r n) (part_chips r n)

pub recorded_right : RecordedRight
unfolding preamble_words header_words payload_words
recorded_right half exact rec keeps =
    record {
      preamble = λ k ok.
          each_right half exact rec keeps One (preamble_length k) 0
          (λ place g h. ok place (omega (arith, preamble_in k)));
      header = λ k ok.
          each_right half exact rec keeps (header_rate k) (header_length / symbol_bits (header_rate k)) (preamble_chips k)
          (λ place g h. ok place (omega (arith, header_in k)));
      payload = λ k r n ok.
          each_right half exact rec keeps r (8 * n / symbol_bits r) (front_chips k)
          (λ place g h. ok place g (omega (arith, whole_symbols_lem r n)));
    }

-- ---- where other words say that chips are good
where_good : {half : ℕ} {good better : ℕ → Type 0} {exact : List Counts} {rec : List Taken}
    → ((place : ℕ) → better place → good place) → WholeRight half good exact rec → WholeRight half better exact rec
where_good f w =
    record {
      preamble = λ k ok. w.preamble k (λ place h. f place (ok place h));
      header = λ k ok. w.header k (λ place h. f place (ok place h));
      payload = λ k r n ok. w.payload k r n (λ place g h. f place (ok place g h));
    }

-- ---- hard recordings keep their chips exactly
hard_apart : (x : ℕ) → Apart 0 (taken_counts (hard_taken x)) (exact_of (hard_chip x))
hard_apart x = subst (λ t. Apart 0 t (exact_of (hard_chip x))) (sym (taken_hard x)) (go (eqb x 4))
  where
    go : (b : Bool) → Apart 0 (counts_of (cond b Lost (Hard x))) (exact_of (cond b Lost (Hard x)))
    go true = lost_exact
    go false = hard_exact x

pub hard_keeps : (octets : List ℕ) → Keeps 0 (exact_hard octets) (hard_recording octets)
unfolding hard_recording
hard_keeps octets =
    record {
      as_long = length-map octets (λ x. exact_of (hard_chip x)) ∙ sym (length-map octets hard_taken);
      near = near octets;
    }
  where
    near : (octets : List ℕ) (place : ℕ) → UsableAt (map hard_taken octets) place
        → Apart 0 (taken_counts (get_or (map hard_taken octets) place unusable)) (get_or (exact_hard octets) place nothing)
    near [] place t = absurd t
    near (x ∷ octets) zero t = hard_apart x
    near (x ∷ octets) (suc place) t = near octets place t

pub hard_good : (octets : List ℕ) (place : ℕ) → get_or octets place 5 ≤ 4 → UsableAt (hard_recording octets) place
unfolding hard_recording
hard_good octets place h =
    let x = get_or octets place 5 in
    rw (get_or-map hard_taken octets place 5, unusable_hard x, le-leb x 4 h) tt

-- ---- soft recordings keep theirs up to half a count
pub soft_used : (x y : Float) → T (not (is_unusable (soft_taken x y))) → T (usable_sample (sample x y))
soft_used x y t = go (usable_sample (sample x y)) (is_unusable (soft_taken x y)) (unusable_soft x y) t
  where
    go : (u v : Bool) → v ≡ not u → T (not v) → T u
    go true v e t = tt
    go false v e t = subst (λ (b : Bool). T (not b)) e t

soft_apart : (x y : Float) → T (not (is_unusable (soft_taken x y)))
    → Apart (2 ^ 138) (taken_counts (soft_taken x y)) (exact_of (Soft (sample x y)))
soft_apart x y t =
    subst (λ t. Apart (2 ^ 138) t (exact_of (Soft (sample x y)))) (sym (taken_soft x y))
    (soft_near (sample x y) (soft_used x y t))

pub soft_keeps : (i q : List Float) → Keeps (2 ^ 138) (exact_soft i q) (soft_recording i q)
unfolding exact_soft soft_recording
soft_keeps i q = record { as_long = as_long i q; near = near i q }
  where
    as_long : (i q : List Float) → length (exact_soft i q) ≡ length (soft_recording i q)
    as_long [] q = refl
    as_long (x ∷ i) [] = refl
    as_long (x ∷ i) (y ∷ q) = ap suc (as_long i q)

    near : (i q : List Float) (place : ℕ) → UsableAt (soft_recording i q) place
        → Apart (2 ^ 138) (taken_counts (get_or (soft_recording i q) place unusable)) (get_or (exact_soft i q) place nothing)
    near [] q place t = absurd t
    near (x ∷ i) [] place t = absurd t
    near (x ∷ i) (y ∷ q) zero t = soft_apart x y t
    near (x ∷ i) (y ∷ q) (suc place) t = near i q place t

pub soft_good : (i q : List Float) (place : ℕ) → T (usable (get_or i place nan)) × T (usable (get_or q place nan))
    → UsableAt (soft_recording i q) place
unfolding soft_recording usable
soft_good [] q place u = absurd u.0
soft_good (x ∷ i) [] place u = absurd u.1
soft_good (x ∷ i) (y ∷ q) zero u = rw (unusable_soft x y) (twice (usable x) (usable y) u.0 u.1)
  where
    twice : (a b : Bool) → T a → T b → T (not (not (a && b)))
    twice true true s t = tt
    twice true false s t = t
    twice false b s t = s
soft_good (x ∷ i) (y ∷ q) (suc place) u = soft_good i q place u

-- ---- byte recordings keep theirs exactly
pub bytes_keep : (bytes : List ℤ) → Keeps 0 (exact_bytes bytes) (byte_recording bytes)
unfolding exact_bytes byte_recording
bytes_keep bytes = record { as_long = as_long bytes; near = near bytes }
  where
    as_long : (bytes : List ℤ) → length (exact_bytes bytes) ≡ length (byte_recording bytes)
    as_long [] = refl
    as_long (x ∷ []) = refl
    as_long (x ∷ y ∷ bytes) = ap suc (as_long bytes)

    near : (bytes : List ℤ) (place : ℕ) → UsableAt (byte_recording bytes) place
        → Apart 0 (taken_counts (get_or (byte_recording bytes) place unusable)) (get_or (exact_bytes bytes) place nothing)
    near [] place t = absurd t
    near (x ∷ []) place t = absurd t
    near (x ∷ y ∷ bytes) zero t = byte_exact_lem x y
    near (x ∷ y ∷ bytes) (suc place) t = near bytes place t

pub bytes_good : (bytes : List ℤ) (place : ℕ) → 2 * place + 1 < length bytes → UsableAt (byte_recording bytes) place
bytes_good bytes place h = rw (bytes_usable bytes place (omega arith)) tt

-- ---- so each of them is read right
pub rows_right : RowsRight
rows_right (in_hard octets) = where_good (hard_good octets) (recorded_right 0 _ _ (hard_keeps octets))
rows_right (in_soft i q) = where_good (soft_good i q) (recorded_right (2 ^ 138) _ _ (soft_keeps i q))
rows_right (in_bytes bytes) = where_good (bytes_good bytes) (recorded_right 0 _ _ (bytes_keep bytes))
