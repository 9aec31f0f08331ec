-- A clean recording is decided as it was sent: word by word, each with the lead of a clean symbol, and with no unusable
-- chip. The argument goes word by word along the list; that one clean word is chosen as itself, and by how much, are
-- laws of the choice. Assumes nothing.
use mathlib.Core.Path.{◌≡◌, refl, sym, ap, ap₂, ◌∙◌, subst}
use mathlib.Core.Bool.{Bool}
use mathlib.Core.List.{List, [], ◌∷◌, ◌++◌, map, map-append, append_assoc}
use Rattle.std.specs.Prelude.{None}
use Prim.Native.Nat.{ℕ, zero, suc, ◌*◌, ◌≤◌}
use native.Mathlib.Nat.{le_of_suc-le-suc, not-suc-le-zero}
use lib.Dec.{T, lit<}
use lib.ListN.{length, take, drop, replicate, length-map}
use lib.Seq.{take_at, drop_at}
use Rattle.rules_rates.specs.declared.Rate.{Rate}
use Rattle.rules_rates.specs.Rates.{symbol_chips}
use Rattle.rules_chips.specs.declared.Counts.{Counts}
use Rattle.rules_chips.specs.Chips.{Taken, taken_counts, full_chip}
use Rattle.rules_symbols.specs.Words.{word_of}
use Rattle.rules_symbols.specs.Choice.{decided, lead_of}
use Rattle.rules_symbols.proofs.Words.{word_length}
use Rattle.rules_symbols.proofs.Agreement.{clean_lead}
use Rattle.rules_choosing.proofs.Clean.{decided_clean}
use Rattle.rules_choosing.proofs.CleanLeads.{lead_clean}
use Rattle.rules_reading.specs.Leads.{decided_leads}
use Rattle.rules_reading.specs.Reading.{first_unusable, decided_words}
use Rattle.rules_bits.specs.Code.{words_chips}
use Rattle.rules_clean.specs.Clean.{clean_taken, clean_recording}
use Rattle.rules_bits.proofs.Sent.{Allowed, more}

counts_clean : (w : List ℕ) → map taken_counts (map clean_taken w) ≡ map (full_chip 1024) w
counts_clean [] = refl
counts_clean (p ∷ w) = ap {B = List Counts} (λ l. full_chip 1024 p ∷ l) (counts_clean w)

pub clean_append : (a b : List ℕ) → clean_recording (a ++ b) ≡ clean_recording a ++ clean_recording b
unfolding clean_recording
clean_append a b = map-append clean_taken a b

pub clean_length : (a : List ℕ) → length (clean_recording a) ≡ length a
unfolding clean_recording
clean_length a = length-map a clean_taken

pub clean_drop : (j : ℕ) (a : List ℕ) → drop j (clean_recording a) ≡ clean_recording (drop j a)
unfolding clean_recording
clean_drop zero a = refl
clean_drop (suc j) [] = refl
clean_drop (suc j) (p ∷ a) = clean_drop j a

pub clean_take : (j : ℕ) (a : List ℕ) → take j (clean_recording a) ≡ clean_recording (take j a)
unfolding clean_recording
clean_take zero a = refl
clean_take (suc j) [] = refl
clean_take (suc j) (p ∷ a) = ap (λ (l : List Taken). clean_taken p ∷ l) (clean_take j a)

-- no chip of a clean recording is unusable
pub none_unusable : (at m : ℕ) (chips : List ℕ) (rest : List Taken) → m ≤ length chips
    → first_unusable at (take m (clean_recording chips ++ rest)) ≡ None
unfolding first_unusable clean_recording
none_unusable at zero chips rest h = refl
none_unusable at (suc m) [] rest h = absurd (not-suc-le-zero h)
none_unusable at (suc m) (p ∷ chips) rest h = none_unusable (suc at) m chips rest (le_of_suc-le-suc h)

-- words that begin a recording: the first of them, and the rest
module _ (r : Rate) (n : ℕ) (ns : List ℕ) (rest : List Taken) where
  abbrev later : List Taken
  later = clean_recording (words_chips r ns) ++ rest

  cut : clean_recording (word_of r n ++ words_chips r ns) ++ rest ≡ clean_recording (word_of r n) ++ later
  cut =
      ap (λ (x : List Taken). x ++ rest) (clean_append (word_of r n) (words_chips r ns))
      ∙ append_assoc (clean_recording (word_of r n)) (clean_recording (words_chips r ns)) rest

  word_chips : length (clean_recording (word_of r n)) ≡ symbol_chips r
  word_chips = clean_length (word_of r n) ∙ word_length r n

  first_counts : map taken_counts (take (symbol_chips r) (clean_recording (word_of r n ++ words_chips r ns) ++ rest))
      ≡ map (full_chip 1024) (word_of r n)
  first_counts =
      ap (λ (x : List Taken). map taken_counts (take (symbol_chips r) x)) cut
      ∙ ap (map taken_counts) (take_at (clean_recording (word_of r n)) later (symbol_chips r) word_chips)
      ∙ (unfold clean_recording in counts_clean (word_of r n))

  then : drop (symbol_chips r) (clean_recording (word_of r n ++ words_chips r ns) ++ rest) ≡ later
  then = ap (drop (symbol_chips r)) cut ∙ drop_at (clean_recording (word_of r n)) later (symbol_chips r) word_chips

pub decided_words_lem : (r : Rate) (ns : List ℕ) (rest : List Taken) → Allowed r ns
    → decided_words r (length ns) (clean_recording (words_chips r ns) ++ rest) ≡ ns
unfolding decided_words words_chips
decided_words_lem r [] rest h = refl
decided_words_lem r (n ∷ ns) rest (more l a h) =
    ap₂ {C = List ℕ} (λ x xs. x ∷ xs)
    (ap (decided r) (first_counts r n ns rest)
    ∙ decided_clean 1024 (lit< tt) r n l (subst (λ (b : Bool). T b) (sym a) tt))
    (ap (decided_words r (length ns)) (then r n ns rest) ∙ decided_words_lem r ns rest h)

pub decided_leads_lem : (r : Rate) (ns : List ℕ) (rest : List Taken) → Allowed r ns
    → decided_leads r (length ns) (clean_recording (words_chips r ns) ++ rest)
    ≡ replicate (length ns) (1024 * clean_lead r)
unfolding decided_leads words_chips
decided_leads_lem r [] rest h = refl
decided_leads_lem r (n ∷ ns) rest (more l a h) =
    ap₂ {C = List ℕ} (λ x xs. x ∷ xs)
    (ap (lead_of r) (first_counts r n ns rest)
    ∙ lead_clean 1024 (lit< tt) r n l (subst (λ (b : Bool). T b) (sym a) tt))
    (ap (decided_leads r (length ns)) (then r n ns rest) ∙ decided_leads_lem r ns rest h)
