-- The leads of symbols, and the smallest of them.
--     leads_length, leads_at, leads_append    the leads of m symbols: how many, each, and those of two parts
--     least_joined, least_of_joined            the smallest of one list behind another
--     least_of_from                            that of a list starts from its first
--     least_kept, least_found                 none of a list is smaller, or the first of its smallest
--     LeastIs, least_is                       it is the smallest, and its symbol the first that has it
--     front_least, frame_least                of a front by its two parts, and of a frame by front and payload
-- Assumes nothing.
use mathlib.Core.Path.{◌≡◌, refl, sym, ap, ◌∙◌, subst}
use mathlib.Core.Bool.{Bool, true, false, cond}
use mathlib.Core.List.{List, [], ◌∷◌, ◌++◌, map}
use Prim.Native.Nat.{ℕ, zero, suc, ◌+◌, ◌*◌, ◌/◌, ◌≤◌, ◌<◌}
use native.Mathlib.Nat.{
  mul-suc,
  mul-zero,
  suc-add,
  zero-add,
  add-zero,
  add_comm,
  le_of_suc-le-suc,
  not-suc-le-zero,
}
use native.Mathlib.Decide.{dec_lt}
use native.Mathlib.Omega.{arith}
use borrow.Author.Tests.{lt-ltb, le-ltb}
use lib.Dec.{ltb}
use lib.ListN.{length, get_or, take, drop, length-append}
use lib.Seq.{drop-drop}
use Rattle.rules_rates.specs.declared.Rate.{Rate}
use Rattle.rules_rates.specs.declared.Rate.TheVariants.{One}
use Rattle.rules_rates.specs.Rates.{symbol_chips, symbol_bits}
use Rattle.rules_chips.specs.Chips.{Taken, taken_counts}
use Rattle.rules_symbols.specs.Choice.{lead_of}
use Rattle.rules_frame.specs.declared.Kind.{Kind}
use Rattle.rules_frame.specs.declared.Kind.TheVariants.{Long, Short}
use Rattle.rules_frame.specs.Frame.{header_rate, front_chips, preamble_length, header_length, preamble_chips}
use Rattle.rules_calls.specs.declared.Least.{Least}
use Rattle.rules_reading.specs.Leads.{
  decided_leads,
  front_leads,
  payload_leads,
  frame_leads,
  lead_at,
  least_from,
  least_of,
}

-- ---- the leads of m symbols

pub leads_length : (r : Rate) (m : ℕ) (cs : List Taken) → length (decided_leads r m cs) ≡ m
unfolding decided_leads
leads_length r zero cs = refl
leads_length r (suc m) cs = ap suc (leads_length r m (drop (symbol_chips r) cs))

pub leads_at : (r : Rate) (m : ℕ) (cs : List Taken) (l : ℕ) → l < m
    → get_or (decided_leads r m cs) l 0 ≡ lead_of r (map taken_counts (take (symbol_chips r) (drop (symbol_chips r * l) cs)))
unfolding decided_leads
leads_at r zero cs l h = absurd (not-suc-le-zero h)
leads_at r (suc m) cs zero h = rw mul-zero
leads_at r (suc m) cs (suc l) h =
    leads_at r m (drop (symbol_chips r) cs) l (le_of_suc-le-suc h)
    ∙ ap (λ (us : List Taken). lead_of r (map taken_counts (take (symbol_chips r) us)))
    (drop-drop (symbol_chips r * l) (symbol_chips r) cs
    ∙ ap (λ (k : ℕ). drop k cs) (add_comm (symbol_chips r) (symbol_chips r * l) ∙ sym (mul-suc (symbol_chips r) l)))

pub leads_append : (r : Rate) (m n : ℕ) (cs : List Taken)
    → decided_leads r (m + n) cs ≡ decided_leads r m cs ++ decided_leads r n (drop (symbol_chips r * m) cs)
unfolding decided_leads
leads_append r zero n cs = rw (zero-add, mul-zero)
leads_append r (suc m) n cs =
    rw (
      suc-add m n,
      leads_append r m n (drop (symbol_chips r) cs),
      drop-drop,
      mul-suc (symbol_chips r) m,
      add_comm (symbol_chips r * m) (symbol_chips r),
    )

-- ---- the smallest of two lists, one behind the other

pub least_joined : (k : ℕ) (b : Least) (xs ys : List ℕ)
    → least_from k b (xs ++ ys) ≡ least_from (k + length xs) (least_from k b xs) ys
unfolding least_from
least_joined k b [] ys = rw add-zero
least_joined k b (x ∷ xs) ys =
    let c = cond (ltb x b.lead) (lead_at x k) b in
    least_joined (suc k) c xs ys
    ∙ ap (λ (n : ℕ). least_from n (least_from (suc k) c xs) ys) (next (length xs))
  where
    next : (n : ℕ) → suc k + n ≡ k + suc n
    next n = omega arith

pub least_of_from : (xs : List ℕ) → least_of xs ≡ least_from 0 (lead_at (get_or xs 0 0) 0) xs
unfolding least_of
least_of_from xs = refl

pub least_of_joined : (xs ys : List ℕ) → 0 < length xs → least_of (xs ++ ys) ≡ least_from (length xs) (least_of xs) ys
unfolding least_of
least_of_joined [] ys h = absurd (not-suc-le-zero h)
least_of_joined (x ∷ xs) ys h =
    least_joined 0 (lead_at x 0) (x ∷ xs) ys
    ∙ ap (λ (n : ℕ). least_from n (least_from 0 (lead_at x 0) (x ∷ xs)) ys) (zero-add (suc (length xs)))

-- ---- a list behind a lead

pub least_kept : (k : ℕ) (b : Least) (xs : List ℕ) → ((j : ℕ) → j < length xs → b.lead ≤ get_or xs j 0)
    → least_from k b xs ≡ b
unfolding least_from
least_kept k b [] h = refl
least_kept k b (x ∷ xs) h =
    rw (le-ltb x b.lead (h 0 (omega arith))) (least_kept (suc k) b xs (λ j l. h (suc j) (omega arith)))

pub least_found : (k : ℕ) (b : Least) (xs : List ℕ) (l : ℕ) → l < length xs → get_or xs l 0 < b.lead
    → ((j : ℕ) → j < length xs → get_or xs l 0 ≤ get_or xs j 0) → ((j : ℕ) → j < l → get_or xs l 0 < get_or xs j 0)
    → least_from k b xs ≡ lead_at (get_or xs l 0) (k + l)
unfolding least_from
least_found k b [] l h s low first = absurd (not-suc-le-zero h)
least_found k b (x ∷ xs) zero h s low first =
    rw (lt-ltb x b.lead s)
    (least_kept (suc k) (lead_at x k) xs (λ j i. low (suc j) (omega arith)) ∙ ap (lead_at x) (sym (add-zero k)))
least_found k b (x ∷ xs) (suc l) h s low first =
    least_found (suc k) (cond (ltb x b.lead) (lead_at x k) b) xs l (le_of_suc-le-suc h)
    (by (ltb x b.lead) (first 0 (omega arith))) (λ j i. low (suc j) (omega arith))
    (λ j i. first (suc j) (omega arith))
    ∙ ap (lead_at (get_or xs l 0)) (next l)
  where
    by : (t : Bool) → get_or xs l 0 < x → get_or xs l 0 < (cond t (lead_at x k) b).lead
    by true i = i
    by false i = s

    next : (n : ℕ) → suc k + n ≡ k + suc n
    next n = omega arith

-- ---- the smallest, and the first symbol that has it

-- of the leads f of the first n symbols
record Led (f : ℕ → ℕ) (n : ℕ) (b : Least) : Type 0 where
  low : (j : ℕ) → j < n → b.lead ≤ f j
  among : b.symbol < n
  has : f b.symbol ≡ b.lead
  first : (j : ℕ) → j < b.symbol → b.lead < f j

led_more : (f : ℕ → ℕ) (n : ℕ) (b : Least) (x : ℕ) → x ≡ f n → Led f n b
    → Led f (suc n) (cond (ltb x b.lead) (lead_at x n) b)
led_more f n b x e d = by (dec_lt x b.lead)
  where
    below : (c : ℕ) → ((j : ℕ) → j < n → c ≤ f j) → c ≤ f n → (j : ℕ) → j < suc n → c ≤ f j
    below c h l j i = last (dec_lt j n)
      where
        last : Dec (j < n) → c ≤ f j
        last (yes p) = h j p
        last (no p) = let q : n ≡ j = omega arith in subst (λ (k : ℕ). c ≤ f k) q l

    by : Dec (x < b.lead) → Led f (suc n) (cond (ltb x b.lead) (lead_at x n) b)
    by (yes p) = rw (lt-ltb x b.lead p) (record {
      low = below x (λ j h. omega (arith, d.low j h)) (omega arith);
      among = omega arith;
      has = sym e;
      first = λ j h. omega (arith, d.low j h);
    })
    by (no p) = rw (le-ltb x b.lead (omega arith)) (record {
      low = below b.lead d.low (omega arith);
      among = omega (arith, d.among);
      has = d.has;
      first = d.first;
    })

led_all : (f : ℕ → ℕ) (n : ℕ) (b : Least) (xs : List ℕ) → ((j : ℕ) → j < length xs → get_or xs j 0 ≡ f (n + j))
    → Led f n b → Led f (n + length xs) (least_from n b xs)
unfolding least_from
led_all f n b [] e d = rw add-zero d
led_all f n b (x ∷ xs) e d =
    subst (λ (m : ℕ). Led f m (least_from (suc n) (cond (ltb x b.lead) (lead_at x n) b) xs)) (next (length xs))
    (led_all f (suc n) (cond (ltb x b.lead) (lead_at x n) b) xs
    (λ j h. e (suc j) (omega arith) ∙ ap f (sym (next j)))
    (led_more f n b x (e 0 (omega arith) ∙ ap f (add-zero n)) d))
  where
    next : (m : ℕ) → suc n + m ≡ n + suc m
    next m = omega arith

pub record LeastIs (xs : List ℕ) (b : Least) : Type 0 where
  pub low : (j : ℕ) → j < length xs → b.lead ≤ get_or xs j 0
  pub among : b.symbol < length xs
  pub has : get_or xs b.symbol 0 ≡ b.lead
  pub first : (j : ℕ) → j < b.symbol → b.lead < get_or xs j 0

-- promise: The smallest of a list of leads, and the first symbol that has it
-- rule: 6.16
-- code: least_after
-- with: least_of_joined
pub least_is : (xs : List ℕ) → 0 < length xs → LeastIs xs (least_of xs)
unfolding least_of least_from
least_is [] h = absurd (not-suc-le-zero h)
least_is (x ∷ xs) h = record { low = d.low; among = d.among; has = d.has; first = d.first }
  where
    f : ℕ → ℕ
    f j = get_or (x ∷ xs) j 0

    one : Led f 1 (lead_at x 0)
    one = record {
      low = λ j l. let e : 0 ≡ j = omega arith in subst (λ (k : ℕ). x ≤ f k) e (omega arith);
      among = omega arith;
      has = refl;
      first = λ j l. absurd (not-suc-le-zero l);
    }

    d : Led f (suc (length xs)) (least_of (x ∷ xs))
    d =
        rw (le-ltb x x (omega arith))
        (subst (λ (n : ℕ). Led f n (least_from 1 (lead_at x 0) xs)) (next (length xs))
        (led_all f 1 (lead_at x 0) xs (λ j l. ap f (sym (next j))) one))
      where
        next : (n : ℕ) → 1 + n ≡ suc n
        next n = omega arith

-- ---- fronts and frames

module _ (k : Kind) (rec : List Taken) where
  -- the leads of the preamble and of the header
  abbrev preamble_leads : List ℕ
  preamble_leads = decided_leads One (preamble_length k) rec

  abbrev header_leads : List ℕ
  header_leads =
      decided_leads (header_rate k) (header_length / symbol_bits (header_rate k)) (drop (preamble_chips k) rec)

  some_leads : 0 < length preamble_leads
  some_leads = rw (leads_length One (preamble_length k) rec) (some k)
    where
      some : (k : Kind) → 0 < preamble_length k
      some Long = omega arith
      some Short = omega arith

  front_length : length (front_leads k rec) ≡ front_chips k / 11
  unfolding front_leads
  front_length =
      rw (
        length-append,
        leads_length One (preamble_length k) rec,
        leads_length (header_rate k) (header_length / symbol_bits (header_rate k)) (drop (preamble_chips k) rec),
      ) (by k)
    where
      by : (k : Kind) → preamble_length k + header_length / symbol_bits (header_rate k) ≡ front_chips k / 11
      by Long = refl
      by Short = refl

  -- a place in the front is 11 times its symbol's number
  pub front_least : least_of (front_leads k rec) ≡ least_from (preamble_chips k / 11) (least_of preamble_leads) header_leads
  unfolding front_leads
  front_least =
      least_of_joined preamble_leads header_leads some_leads
      ∙ ap (λ (n : ℕ). least_from n (least_of preamble_leads) header_leads)
      (leads_length One (preamble_length k) rec ∙ by k)
    where
      by : (k : Kind) → preamble_length k ≡ preamble_chips k / 11
      by Long = refl
      by Short = refl

  pub frame_least : (r : Rate) (n : ℕ)
      → least_of (frame_leads k r n rec)
      ≡ least_from (front_chips k / 11) (least_of (front_leads k rec))
      (decided_leads r (8 * n / symbol_bits r) (drop (front_chips k) rec))
  unfolding payload_leads
  frame_least r n =
      least_of_joined (front_leads k rec) (payload_leads k r n rec) (rw front_length (some k))
      ∙ ap (λ (m : ℕ). least_from m (least_of (front_leads k rec)) (payload_leads k r n rec)) front_length
    where
      some : (k : Kind) → 0 < front_chips k / 11
      some Long = omega arith
      some Short = omega arith
