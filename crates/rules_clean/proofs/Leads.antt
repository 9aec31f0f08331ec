-- The smallest lead of a clean frame: every lead of a part is that of a clean symbol of its rate. Assumes nothing.
use mathlib.Core.Path.{◌≡◌, ap, ap₂, ◌∙◌}
use mathlib.Core.List.{List, ◌++◌}
use Prim.Native.Nat.{ℕ, ◌+◌, ◌*◌, ◌/◌, ◌≤◌, ◌<◌}
use native.Mathlib.Omega.{arith}
use native.Mathlib.Nat.{not-suc-le-zero, add-zero}
use lib.Dec.{lit≤, lit<}
use lib.ListN.{length, get_or, replicate, length-append, length-replicate, get_or-replicate}
use Rattle.rules_rates.specs.declared.Rate.{Rate}
use Rattle.rules_rates.specs.declared.Rate.TheVariants.{One, Two, Five, Eleven}
use Rattle.rules_rates.specs.Rates.{symbol_bits}
use Rattle.rules_chips.specs.Chips.{Taken}
use Rattle.rules_symbols.proofs.Agreement.{clean_lead}
use Rattle.rules_frame.specs.declared.Kind.{Kind}
use Rattle.rules_frame.specs.declared.Kind.TheVariants.{Long, Short}
use Rattle.rules_frame.specs.Frame.{header_rate, preamble_length, header_length, front_symbols}
use Rattle.rules_frame.proofs.Parity.{front_symbols_lem}
use Rattle.rules_calls.specs.declared.Least.{Least}
use Rattle.rules_reading.specs.Leads.{front_leads, payload_leads, frame_leads, lead_at, least_from, least_of}
use Rattle.rules_reading.proofs.Leads.{least_of_joined, least_kept, least_found}
use Rattle.rules_clean.specs.Clean.{clean_least}

-- so many leads alike, behind one that is no larger, and behind a larger one
kept : (k : ℕ) (b : Least) (m x : ℕ) → b.lead ≤ x → least_from k b (replicate m x) ≡ b
kept k b m x h =
    least_kept k b (replicate m x) (λ j l. rw (get_or-replicate m j x 0 (rw (length-replicate m x) at l)) h)

taken : (k : ℕ) (b : Least) (m x : ℕ) → 0 < m → x < b.lead → least_from k b (replicate m x) ≡ lead_at x k
taken k b m x s h =
    least_found k b (replicate m x) 0 (rw (length-replicate m x) s) (rw (entry 0 s) h)
    (λ j l. rw (entry 0 s, entry j (rw (length-replicate m x) at l)) (omega arith)) (λ j l. absurd (not-suc-le-zero l))
    ∙ (λ i. lead_at (entry 0 s i) (add-zero k i))
  where
    entry : (j : ℕ) → j < m → get_or (replicate m x) j 0 ≡ x
    entry j l = get_or-replicate m j x 0 l

-- a front of leads alike has the first of them, at symbol 0
alike : (a b x : ℕ) → 0 < a → least_of (replicate a x ++ replicate b x) ≡ lead_at x 0
alike a b x s =
    least_of_joined (replicate a x) (replicate b x) (rw (length-replicate a x) s)
    ∙ ap (λ (c : Least). least_from (length (replicate a x)) c (replicate b x)) first
    ∙ kept (length (replicate a x)) (lead_at x 0) b x (omega arith)
  where
    first : least_of (replicate a x) ≡ lead_at x 0
    first =
        unfold least_of in
        ap (λ (y : ℕ). least_from 0 (lead_at y 0) (replicate a x)) (get_or-replicate a 0 x 0 s)
        ∙ kept 0 (lead_at x 0) a x (omega arith)

-- behind it a payload's, of which there are some
payload : (k : Kind) (r : Rate) (m : ℕ) → 0 < m
    → least_from (front_symbols k) (lead_at 11264 0) (replicate m (1024 * clean_lead r)) ≡ clean_least k r
payload k One m h = kept (front_symbols k) (lead_at 11264 0) m 11264 (lit≤ tt)
payload k Two m h = kept (front_symbols k) (lead_at 11264 0) m 11264 (lit≤ tt)
payload k Five m h = taken (front_symbols k) (lead_at 11264 0) m 8192 h (lit< tt)
payload k Eleven m h = taken (front_symbols k) (lead_at 11264 0) m 4096 h (lit< tt)

some_symbols : (r : Rate) (n : ℕ) → 1 ≤ n → 0 < 8 * n / symbol_bits r
some_symbols One n h = omega arith
some_symbols Two n h = omega arith
some_symbols Five n h = omega arith
some_symbols Eleven n h = omega arith

pub clean_least_lem : (k : Kind) (r : Rate) (n : ℕ) (rec : List Taken) → 1 ≤ n
    → front_leads k rec
    ≡ replicate (preamble_length k) 11264 ++ replicate (header_length / symbol_bits (header_rate k)) 11264
    → payload_leads k r n rec ≡ replicate (8 * n / symbol_bits r) (1024 * clean_lead r)
    → least_of (frame_leads k r n rec) ≡ clean_least k r
clean_least_lem k r n rec some f p =
    least_of_joined (front_leads k rec) (payload_leads k r n rec) (rw many (symbols k))
    ∙ (λ i. least_from (many i) (front i) (p i))
    ∙ payload k r (8 * n / symbol_bits r) (some_symbols r n some)
  where
    symbols : (k : Kind) → 0 < front_symbols k
    symbols Long = omega arith
    symbols Short = omega arith

    begun : (k : Kind) → 0 < preamble_length k
    begun Long = omega arith
    begun Short = omega arith

    many : length (front_leads k rec) ≡ front_symbols k
    many =
        ap length f
        ∙ length-append (replicate (preamble_length k) 11264)
        (replicate (header_length / symbol_bits (header_rate k)) 11264)
        ∙ ap₂ {C = ℕ} (λ x y. x + y) (length-replicate (preamble_length k) 11264)
        (length-replicate (header_length / symbol_bits (header_rate k)) 11264)
        ∙ front_symbols_lem k

    front : least_of (front_leads k rec) ≡ lead_at 11264 0
    front = ap least_of f ∙ alike (preamble_length k) (header_length / symbol_bits (header_rate k)) 11264 (begun k)
