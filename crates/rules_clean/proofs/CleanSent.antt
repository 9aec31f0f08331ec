-- A clean recording of a whole frame with any 48 header bits, and anything after it, is decided as it was sent, each
-- symbol with the lead of a clean one; and its smallest lead. Assumes nothing.
use mathlib.Core.Path.{◌≡◌, refl, sym, ap, ap₂, ◌∙◌}
use mathlib.Core.List.{List, ◌++◌, append_assoc}
use Rattle.std.specs.Prelude.{None}
use Prim.Native.Nat.{ℕ, ◌+◌, ◌-◌, ◌*◌, ◌/◌, ◌≤◌}
use native.Mathlib.Omega.{arith}
use lib.ListN.{length, take, drop, replicate, length-append, length-drop}
use lib.Seq.{drop_at, drop-drop, drop-append-le}
use Rattle.rules_rates.specs.declared.Rate.{Rate}
use Rattle.rules_rates.specs.declared.Rate.TheVariants.{One}
use Rattle.rules_rates.specs.Rates.{symbol_chips, symbol_bits}
use Rattle.rules_chips.specs.Chips.{Taken}
use Rattle.rules_symbols.proofs.Agreement.{clean_lead}
use Rattle.rules_bits.specs.Code.{words_chips}
use Rattle.rules_bits.proofs.Sent.{Allowed}
use Rattle.rules_frame.specs.declared.Kind.{Kind}
use Rattle.rules_frame.specs.declared.Kind.TheVariants.{Long, Short}
use Rattle.rules_frame.specs.Frame.{
  header_rate,
  front_chips,
  preamble_length,
  header_length,
  preamble_chips,
  framed,
  frame_chips,
}
use Rattle.rules_frame.proofs.Sizes.{framed_length}
use Rattle.rules_frame.proofs.Parity.{header_symbols}
use Rattle.rules_reading.specs.Leads.{decided_leads, front_leads, payload_leads, frame_leads, least_of}
use Rattle.rules_reading.specs.Reading.{first_unusable, decided_words, preamble_words, header_words, payload_words}
use Rattle.rules_clean.specs.Clean.{clean_recording, clean_least}
use Rattle.rules_clean.proofs.Parts.{chips_length}
use Rattle.rules_clean.proofs.Decided.{
  clean_append,
  clean_length,
  clean_drop,
  none_unusable,
  decided_words_lem,
  decided_leads_lem,
}
use Rattle.rules_clean.proofs.FrameWords.{AsSent}
use Rattle.rules_clean.proofs.FrameWords as words
use Rattle.rules_clean.proofs.Leads.{clean_least_lem}

-- words that begin a recording are decided, and what follows them starts after their chips
module _ (r : Rate) (ns : List ℕ) (rest : List Taken) (m : ℕ) (a : Allowed r ns) (e : length ns ≡ m) where
  abbrev begun : List Taken
  begun = clean_recording (words_chips r ns) ++ rest

  begins : decided_words r m begun ≡ ns
  begins = ap (λ (j : ℕ). decided_words r j begun) (sym e) ∙ decided_words_lem r ns rest a

  begins_leads : decided_leads r m begun ≡ replicate m (1024 * clean_lead r)
  begins_leads =
      ap (λ (j : ℕ). decided_leads r j begun) (sym e) ∙ decided_leads_lem r ns rest a
      ∙ ap (λ (j : ℕ). replicate j (1024 * clean_lead r)) e

  follows : drop (m * symbol_chips r) begun ≡ rest
  follows =
      drop_at (clean_recording (words_chips r ns)) rest (m * symbol_chips r)
      (clean_length (words_chips r ns) ∙ chips_length r ns ∙ ap (λ (j : ℕ). j * symbol_chips r) e)

-- the chips of a front are those of its two parts
pub front_parts : (k : Kind) → preamble_chips k + header_symbols k * symbol_chips (header_rate k) ≡ front_chips k
front_parts Long = refl
front_parts Short = refl

-- a header's symbols are Barker symbols
header_lead : (k : Kind) → 1024 * clean_lead (header_rate k) ≡ 11264
header_lead Long = refl
header_lead Short = refl

module _ (k : Kind) (r : Rate) (p : ℕ) (header xs : List ℕ) (rest : List Taken)
    (eh : length header ≡ header_length) where
  abbrev n : ℕ
  n = length xs

  abbrev rate : Rate
  rate = header_rate k

  abbrev recording : List Taken
  recording = clean_recording (framed k r p header xs) ++ rest

  abbrev words1 : List ℕ
  words1 = words.preamble_sent k r p header xs

  abbrev words2 : List ℕ
  words2 = words.header_sent k r p header xs

  abbrev words3 : List ℕ
  words3 = words.payload_sent k r p header xs

  abbrev third : List Taken
  third = clean_recording (words_chips r words3) ++ rest

  abbrev second : List Taken
  second = clean_recording (words_chips rate words2) ++ third

  split : recording ≡ clean_recording (words_chips One words1) ++ second
  split =
      rw (
        words.words_are k r p header xs eh,
        clean_append (words_chips One words1) (words_chips rate words2 ++ words_chips r words3),
        clean_append
            (words_chips rate words2) (words_chips r words3),
      )
      (simp append_assoc)

  dropped1 : drop (preamble_chips k) recording ≡ second
  dropped1 =
      ap (drop (preamble_chips k)) split
      ∙ follows One words1 second (preamble_length k) (words.preamble_allowed k r p header xs eh)
      (words.preamble_count_lem k r p header xs eh)

  dropped2 : drop (front_chips k) recording ≡ third
  dropped2 =
      ap (λ (j : ℕ). drop j recording) (sym (front_parts k))
      ∙ sym (drop-drop (header_symbols k * symbol_chips rate) (preamble_chips k) recording)
      ∙ ap (drop (header_symbols k * symbol_chips rate)) dropped1
      ∙ follows rate words2 third (header_symbols k) (words.header_allowed k r p header xs eh)
      (words.header_count k r p header xs eh)

  -- ---- what is decided
  preamble_words_lem : preamble_words k recording ≡ words1
  unfolding preamble_words
  preamble_words_lem =
      ap (decided_words One (preamble_length k)) split
      ∙ begins One words1 second (preamble_length k) (words.preamble_allowed k r p header xs eh)
      (words.preamble_count_lem k r p header xs eh)

  header_words_lem : header_words k recording ≡ words2
  unfolding header_words
  header_words_lem =
      ap (decided_words rate (header_symbols k)) dropped1
      ∙ begins rate words2 third (header_symbols k) (words.header_allowed k r p header xs eh)
      (words.header_count k r p header xs eh)

  payload_words_lem : payload_words k r n recording ≡ words3
  unfolding payload_words
  payload_words_lem =
      ap (decided_words r (8 * n / symbol_bits r)) dropped2
      ∙ begins r words3 rest (8 * n / symbol_bits r) (words.payload_allowed k r p header xs eh)
      (words.payload_count k r p header xs eh)

  -- ---- all of it is there, and none unusable
  frame_there : frame_chips k r n ≤ length recording
  frame_there =
      rw (
        length-append (clean_recording (framed k r p header xs)) rest,
        clean_length (framed k r p header xs),
        framed_length k r p header xs eh,
      )
      (omega arith)

  no_unusable : first_unusable (front_chips k) (take (frame_chips k r n - front_chips k) (drop (front_chips k) recording))
      ≡ None
  no_unusable =
      ap (λ (t : List Taken). first_unusable (front_chips k) (take (frame_chips k r n - front_chips k) t)) dropped
      ∙ none_unusable (front_chips k) (frame_chips k r n - front_chips k)
      (drop (front_chips k) (framed k r p header xs)) rest
      (rw (length-drop, framed_length k r p header xs eh) (omega arith))
    where
      dropped : drop (front_chips k) recording ≡ clean_recording (drop (front_chips k) (framed k r p header xs)) ++ rest
      dropped =
          drop-append-le (front_chips k) (clean_recording (framed k r p header xs)) rest
          (rw (clean_length, framed_length k r p header xs eh) (omega arith))
          ∙ ap (λ (t : List Taken). t ++ rest) (clean_drop (front_chips k) (framed k r p header xs))

  pub clean_sent : AsSent k r p header xs recording
  clean_sent = record {
    front = record {
      preamble_words_lem = preamble_words_lem;
      header_words_lem = header_words_lem;
      front_there = omega (arith, frame_there);
      front_usable = none_unusable 0 (front_chips k) (framed k r p header xs) rest
          (omega (arith, framed_length k r p header xs eh));
    };
    payload_words_lem = payload_words_lem;
    frame_there = frame_there;
    payload_usable = no_unusable;
  }

  -- ---- the leads
  front_leads_lem : front_leads k recording ≡ replicate (preamble_length k) 11264 ++ replicate (header_symbols k) 11264
  unfolding front_leads
  front_leads_lem =
      ap₂ {C = List ℕ} (λ x y. x ++ y)
      (ap (decided_leads One (preamble_length k)) split
      ∙ begins_leads One words1 second (preamble_length k) (words.preamble_allowed k r p header xs eh)
      (words.preamble_count_lem k r p header xs eh))
      (ap (decided_leads rate (header_symbols k)) dropped1
      ∙ begins_leads rate words2 third (header_symbols k) (words.header_allowed k r p header xs eh)
      (words.header_count k r p header xs eh)
      ∙ ap (replicate (header_symbols k)) (header_lead k))

  payload_leads_lem : payload_leads k r n recording ≡ replicate (8 * n / symbol_bits r) (1024 * clean_lead r)
  unfolding payload_leads
  payload_leads_lem =
      ap (decided_leads r (8 * n / symbol_bits r)) dropped2
      ∙ begins_leads r words3 rest (8 * n / symbol_bits r) (words.payload_allowed k r p header xs eh)
      (words.payload_count k r p header xs eh)

  pub smallest : 1 ≤ n → least_of (frame_leads k r n recording) ≡ clean_least k r
  smallest some = clean_least_lem k r n recording some front_leads_lem payload_leads_lem
