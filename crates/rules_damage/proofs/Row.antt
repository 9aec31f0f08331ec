-- Spoiled symbols one after the other: where each keeps its limit, each is decided as the word sent, with a lead of a
-- full chip at least, and no chip is unusable. Assumes nothing.
--     nth_symbol, symbol_first, symbol_behind, symbol_from, symbol_next    symbol j of a row
--     none_unusable                                                       no chip is unusable
--     spoiled_words, spoiled_leads                                        what is decided, and by how much
use mathlib.Core.Path.{◌≡◌, refl, sym, ap, ap₂, ◌∙◌, subst}
use mathlib.Core.Bool.{Bool, true, not, cond}
use mathlib.Core.List.{List, [], ◌∷◌, ◌++◌, map, append_assoc}
use Rattle.std.specs.Prelude.{None, Some}
use Prim.Native.Nat.{ℕ, zero, suc, ◌+◌, ◌*◌, ◌≤◌, ◌<◌}
use native.Mathlib.Nat.{mul-zero, mul-suc, suc-mul, mul-add, le_of_suc-le-suc, not-suc-le-zero}
use native.Mathlib.Omega.{arith}
use borrow.Author.Tests.{le-leb}
use lib.Dec.{T}
use lib.ListN.{length, get_or, take, drop, length-drop}
use lib.Seq.{take_at, drop_at, drop-drop, take-append-le, drop-append-le, length-take-le}
use Rattle.base.specs.Below.{Below}
use Rattle.base.proofs.Below.{below_head, below_tail, below_take, below_drop}
use Rattle.rules_rates.specs.declared.Rate.{Rate}
use Rattle.rules_rates.specs.Rates.{symbol_chips}
use Rattle.rules_chips.specs.declared.Counts.{Counts}
use Rattle.rules_chips.specs.Chips.{Taken, taken_counts, hard_taken, hard_recording}
use Rattle.rules_chips.proofs.Recorders.{unusable_hard, length_hard, take_hard, drop_hard}
use Rattle.rules_symbols.specs.Words.{word_of}
use Rattle.rules_symbols.specs.Choice.{decided, lead_of, numbers, is_allowed}
use Rattle.rules_symbols.proofs.Words.{word_length}
use Rattle.rules_bits.specs.Code.{words_chips}
use Rattle.rules_bits.proofs.Sent.{Allowed, more}
use Rattle.rules_reading.specs.Reading.{first_unusable, decided_words}
use Rattle.rules_reading.specs.Leads.{decided_leads}
use Rattle.rules_damage.specs.Damage.{wrong, lost}
use Rattle.rules_damage.specs.Plain.{KeepsLimit}
use Rattle.rules_damage.proofs.OneSymbol.{counts, limit_of, decided_spoiled, lead_spoiled}

-- ---- symbol j of a row
module _ (c : ℕ) where
  abbrev pub nth_symbol : ℕ → List ℕ → List ℕ
  nth_symbol j xs = take c (drop (c * j) xs)

  pub symbol_first : (xs : List ℕ) → nth_symbol 0 xs ≡ take c xs
  symbol_first xs = ap (λ (i : ℕ). take c (drop i xs)) (mul-zero c)

  pub symbol_behind : (a j : ℕ) (xs : List ℕ) → nth_symbol j (drop a xs) ≡ take c (drop (a + c * j) xs)
  symbol_behind a j xs = ap (take c) (drop-drop (c * j) a xs)

  pub symbol_from : (m j : ℕ) (xs : List ℕ) → nth_symbol j (drop (c * m) xs) ≡ nth_symbol (m + j) xs
  symbol_from m j xs =
      symbol_behind (c * m) j xs ∙ ap (λ (i : ℕ). take c (drop i xs)) (sym (mul-add c m j))

  pub symbol_next : (j : ℕ) (xs : List ℕ) → nth_symbol j (drop c xs) ≡ nth_symbol (suc j) xs
  symbol_next j xs = symbol_behind c j xs ∙ ap (λ (i : ℕ). take c (drop i xs)) (one_more c j)
    where
      one_more : (c j : ℕ) → c + c * j ≡ c * suc j
      one_more c j = omega (arith, mul-suc c j)

-- each of m symbols keeps within a limit
abbrev pub SymbolsKeep : ℕ → ℕ → ℕ → List ℕ → List ℕ → Type 0
SymbolsKeep l c m sent rec =
    (j : ℕ) → j < m → KeepsLimit l (wrong (nth_symbol c j sent) (nth_symbol c j rec)) (lost (nth_symbol c j rec))

-- ---- no chip is unusable
pub none_unusable : (at m : ℕ) (rec : List ℕ) (rest : List Taken) → Below 5 rec → m ≤ length rec
    → first_unusable at (take m (hard_recording rec ++ rest)) ≡ None
unfolding first_unusable hard_recording
none_unusable at zero rec rest b h = refl
none_unusable at (suc m) [] rest b h = absurd (not-suc-le-zero h)
none_unusable at (suc m) (x ∷ rec) rest b h =
    ap (λ (t : Bool). cond t (Some at) (first_unusable (suc at) (take m (map hard_taken rec ++ rest))))
    (unusable_hard x ∙ ap not (le-leb x 4 (le_of_suc-le-suc (below_head b))))
    ∙ none_unusable (suc at) m rec rest (below_tail b) (le_of_suc-le-suc h)

-- ---- the first symbol, and the rest
module _ (r : Rate) (n : ℕ) (ns after rec : List ℕ) (rest : List Taken) (b : Below 5 rec)
    (long : suc (length ns) * symbol_chips r ≤ length rec) where
  abbrev c : ℕ
  c = symbol_chips r

  abbrev sent : List ℕ
  sent = (word_of r n ++ words_chips r ns) ++ after

  one_long : c ≤ length rec
  one_long = omega (arith, suc-mul (length ns) c)

  later_long : length ns * c ≤ length (drop c rec)
  later_long = rw length-drop (omega (arith, suc-mul (length ns) c))

  first_sent : take c sent ≡ word_of r n
  first_sent =
      ap (take c) (append_assoc (word_of r n) (words_chips r ns) after)
      ∙ take_at (word_of r n) (words_chips r ns ++ after) c (word_length r n)

  later_sent : drop c sent ≡ words_chips r ns ++ after
  later_sent =
      ap (drop c) (append_assoc (word_of r n) (words_chips r ns) after)
      ∙ drop_at (word_of r n) (words_chips r ns ++ after) c (word_length r n)

  first_counts : map taken_counts (take c (hard_recording rec ++ rest)) ≡ counts (take c rec)
  first_counts =
      ap (map taken_counts)
      (take-append-le c (hard_recording rec) rest (rw length_hard one_long) ∙ take_hard c rec)
      ∙ (unfold hard_recording in refl)

  later_chips : drop c (hard_recording rec ++ rest) ≡ hard_recording (drop c rec) ++ rest
  later_chips =
      drop-append-le c (hard_recording rec) rest (rw length_hard one_long)
      ∙ ap (λ (t : List Taken). t ++ rest) (drop_hard c rec)

  module _ (h : SymbolsKeep (limit_of r) c (suc (length ns)) sent rec) where
    first_keeps : KeepsLimit (limit_of r) (wrong (word_of r n) (take c rec)) (lost (take c rec))
    first_keeps =
        subst (λ (w : List ℕ). KeepsLimit (limit_of r) (wrong w (take c rec)) (lost (take c rec)))
        (symbol_first c sent ∙ first_sent)
        (subst (λ (x : List ℕ). KeepsLimit (limit_of r) (wrong (nth_symbol c 0 sent) x) (lost x)) (symbol_first c rec)
        (h 0 (omega arith)))

    later_keep : SymbolsKeep (limit_of r) c (length ns) (words_chips r ns ++ after) (drop c rec)
    later_keep j l =
        subst (λ (s : List ℕ). KeepsLimit (limit_of r) (wrong (nth_symbol c j s) (nth_symbol c j (drop c rec)))
        (lost (nth_symbol c j (drop c rec)))) later_sent
        (subst (λ (s : List ℕ). KeepsLimit (limit_of r) (wrong s (nth_symbol c j (drop c rec)))
        (lost (nth_symbol c j (drop c rec)))) (sym (symbol_next c j sent))
        (subst (λ (x : List ℕ). KeepsLimit (limit_of r) (wrong (nth_symbol c (suc j) sent) x) (lost x))
        (sym (symbol_next c j rec)) (h (suc j) (omega arith))))

    module _ (l : n < numbers r) (a : is_allowed r n ≡ true) where
      allowed_is : T (is_allowed r n)
      allowed_is = subst (λ (b : Bool). T b) (sym a) tt

      first_word_lem : decided r (map taken_counts (take c (hard_recording rec ++ rest))) ≡ n
      first_word_lem =
          ap (decided r) first_counts
          ∙ decided_spoiled r n (take c rec) l allowed_is (length-take-le c rec one_long) (below_take c b) first_keeps

      first_lead : 1024 ≤ lead_of r (map taken_counts (take c (hard_recording rec ++ rest)))
      first_lead =
          subst (λ (cs : List Counts). 1024 ≤ lead_of r cs) (sym first_counts)
          (lead_spoiled r n (take c rec) l allowed_is (length-take-le c rec one_long) (below_take c b) first_keeps)

pub spoiled_words : (r : Rate) (ns after rec : List ℕ) (rest : List Taken) → Allowed r ns → Below 5 rec
    → length ns * symbol_chips r ≤ length rec
    → SymbolsKeep (limit_of r) (symbol_chips r) (length ns) (words_chips r ns ++ after) rec
    → decided_words r (length ns) (hard_recording rec ++ rest) ≡ ns
unfolding decided_words words_chips
spoiled_words r [] after rec rest al b long h = refl
spoiled_words r (n ∷ ns) after rec rest (more l a al) b long h =
    ap₂ {C = List ℕ} (λ x xs. x ∷ xs) (first_word_lem r n ns after rec rest b long h l a)
    (ap (decided_words r (length ns)) (later_chips r n ns after rec rest b long)
    ∙ spoiled_words r ns after (drop (symbol_chips r) rec) rest al (below_drop (symbol_chips r) b)
    (later_long r n ns after rec rest b long) (later_keep r n ns after rec rest b long h))

pub spoiled_leads : (r : Rate) (ns after rec : List ℕ) (rest : List Taken) → Allowed r ns → Below 5 rec
    → length ns * symbol_chips r ≤ length rec
    → SymbolsKeep (limit_of r) (symbol_chips r) (length ns) (words_chips r ns ++ after) rec
    → (j : ℕ) → j < length ns → 1024 ≤ get_or (decided_leads r (length ns) (hard_recording rec ++ rest)) j 0
unfolding decided_leads words_chips
spoiled_leads r [] after rec rest al b long h j l = absurd (not-suc-le-zero l)
spoiled_leads r (n ∷ ns) after rec rest (more ln a al) b long h zero l =
    first_lead r n ns after rec rest b long h ln a
spoiled_leads r (n ∷ ns) after rec rest (more ln a al) b long h (suc j) l =
    subst (λ (cs : List Taken). 1024 ≤ get_or (decided_leads r (length ns) cs) j 0)
    (sym (later_chips r n ns after rec rest b long))
    (spoiled_leads r ns after (drop (symbol_chips r) rec) rest al (below_drop (symbol_chips r) b)
    (later_long r n ns after rec rest b long) (later_keep r n ns after rec rest b long h) j (le_of_suc-le-suc l))
