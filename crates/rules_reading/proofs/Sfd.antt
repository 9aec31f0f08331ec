-- The SFD of a front that meets none of 8 to 15, bit by bit from the words that its symbols are decided as.
--     words_at     one word, from its own chips
--     front_sfd    the sixteen bits are the kind's
--     sfd_bit      each by the bits of three symbols, and those by the words of two
-- Assumes nothing.
use Rattle.std.specs.Prelude.{Ok}
use mathlib.Core.Path.{◌≡◌, sym, ap, ◌∙◌, subst}
use mathlib.Core.List.{List, map}
use Prim.Native.Nat.{ℕ, zero, suc, ◌+◌, ◌*◌, ◌/◌, ◌≤◌, ◌<◌}
use native.Mathlib.Nat.{mul-suc}
use native.Mathlib.Omega.{arith}
use lib.ListN.{length, get_or, take, drop, length-append, length-drop, get_or-append}
use lib.Seq.{get_or-take, get_or-drop, drop-drop, length-take-le}
use Rattle.base.proofs.Below.{below_take, below_drop}
use Rattle.rules_rates.specs.declared.Rate.{Rate}
use Rattle.rules_rates.specs.declared.Rate.TheVariants.{One}
use Rattle.rules_rates.specs.Rates.{symbol_chips}
use Rattle.rules_chips.specs.Chips.{Taken, taken_counts}
use Rattle.rules_symbols.specs.Choice.{decided}
use Rattle.rules_bits.specs.Bits.{◌⊕◌, bits_of, number_of}
use Rattle.rules_bits.specs.Growths.{heard, grown_by}
use Rattle.rules_bits.proofs.Heard.{heard_at, heard_length}
use Rattle.rules_bits.specs.Scrambler.{descramble}
use Rattle.rules_bits.proofs.Bits.{bits_number}
use Rattle.rules_bits.proofs.Scrambler.{descramble_length, descramble_below, descramble_at}
use Rattle.rules_frame.specs.declared.Kind.{Kind}
use Rattle.rules_frame.specs.Frame.{sfd_of, sync_bits, header_rate, start}
use Rattle.rules_calls.specs.declared.Told.{Told}
use Rattle.rules_reading.specs.Places.{word_from}
use Rattle.rules_reading.specs.Reading.{
  decided_words,
  preamble_words,
  header_words,
  reference,
  header_phase,
  front_heard,
  front_bits,
  front_of,
}
use Rattle.rules_reading.proofs.Refusals.{FrontIf, front_refuses}
use Rattle.rules_reading.proofs.Places.{decided_words_length}

-- the word that symbol n is decided as
abbrev pub word_at : Rate → List Taken → ℕ → ℕ
word_at r rec n = word_from r (symbol_chips r * n) rec

pub words_at : (r : Rate) (m n : ℕ) (rec : List Taken) → n < m → get_or (decided_words r m rec) n 0 ≡ word_at r rec n
unfolding decided_words
words_at r zero n rec h = absurd (omega arith)
words_at r (suc m) zero rec h = let e : symbol_chips r * 0 ≡ 0 = omega arith in rw e
words_at r (suc m) (suc n) rec h =
    let c = symbol_chips r in
    let e : c + c * n ≡ c * suc n = omega (arith, mul-suc c n) in
    words_at r m n (drop c rec) (omega arith)
    ∙ ap (λ (x : List Taken). decided r (map taken_counts (take c x)))
    (drop-drop (c * n) c rec ∙ ap (λ (i : ℕ). drop i rec) e)

module _ (k : Kind) (rec : List Taken) where
  abbrev sfd : List ℕ
  sfd = take 16 (drop (sync_bits k) (front_bits k rec))

  front_sfd : (t : Told) → front_of k rec ≡ Ok t → number_of sfd ≡ sfd_of k
  front_sfd t e = (subst (FrontIf k rec) e (front_refuses k rec)).sound.sfd_is

  abbrev pub words : List ℕ
  words = preamble_words k rec

  abbrev sent : List ℕ
  sent = heard One 0 (reference k rec) words

  pub words_length : length words ≡ sync_bits k + 16
  unfolding preamble_words
  words_length = decided_words_length One (sync_bits k + 16) rec

  sent_length : length sent ≡ sync_bits k + 16
  sent_length = let e = heard_length One 0 (reference k rec) words in omega (arith, e, words_length)

  -- the front's bits, as they were sent, begin with the preamble's
  heard_here : (n : ℕ) → n < sync_bits k + 16 → get_or (front_heard k rec) n 0 ≡ get_or sent n 0
  unfolding front_heard
  heard_here n h = get_or-append sent _ 0 n (omega (arith, sent_length))

  heard_long : sync_bits k + 16 ≤ length (front_heard k rec)
  unfolding front_heard
  heard_long =
      let rest = heard (header_rate k) 0 (header_phase k rec) (header_words k rec) in
      omega (arith, sent_length, length-append sent rest)

  abbrev bit : ℕ → ℕ
  bit n = grown_by (word_at One rec n) (word_at One rec (n + 1)) / 2

  pub word_here : (n : ℕ) → n < sync_bits k + 16 → get_or words n 0 ≡ word_at One rec n
  unfolding preamble_words
  word_here n h = words_at One (sync_bits k + 16) n rec h

  -- the bit of symbol n + 1
  sent_bit : (n : ℕ) → n + 1 < sync_bits k + 16 → get_or (front_heard k rec) (n + 1) 0 ≡ bit n
  sent_bit n h =
      heard_here (n + 1) h
      ∙ heard_at 0 (reference k rec) words n (omega (arith, words_length))
      ∙ (λ i. grown_by (word_here n (omega arith) i) (word_here (n + 1) h i) / 2)

  -- and of symbol n + 8, unscrambled
  plain_bit : (n : ℕ) → n + 8 < sync_bits k + 16
      → get_or (front_bits k rec) (n + 8) 0 ≡ bit (n + 7) ⊕ bit (n + 3) ⊕ bit n
  unfolding front_bits
  plain_bit n h =
      let e : n + 8 ≡ n + 1 + 7 = omega arith in
      let f : n + 1 + 7 ≡ n + 7 + 1 = omega arith in
      let g : n + 1 + 3 ≡ n + 3 + 1 = omega arith in
      let at : ℕ → ℕ = λ i. get_or (front_heard k rec) i 0 in
      let last = ap at f ∙ sent_bit (n + 7) (omega arith) in
      let four = ap at g ∙ sent_bit (n + 3) (omega arith) in
      let seven = sent_bit n (omega arith) in
      ap (λ (i : ℕ). get_or (descramble (start k) (front_heard k rec)) i 0) e
      ∙ descramble_at (start k) (front_heard k rec) (n + 1) (omega (arith, heard_long))
      ∙ (λ i. last i ⊕ four i ⊕ seven i)

  bits_long : sync_bits k + 16 ≤ length (front_bits k rec)
  unfolding front_bits
  bits_long = omega (arith, heard_long, descramble_length (start k) (front_heard k rec))

  sfd_bits : number_of sfd ≡ sfd_of k → sfd ≡ bits_of 16 (sfd_of k)
  unfolding front_bits
  sfd_bits e =
      sym
      (bits_number 16 sfd long
      (below_take 16 (below_drop (sync_bits k) (descramble_below (start k) (front_heard k rec)))))
      ∙ ap (bits_of 16) e
    where
      long : length sfd ≡ 16
      long =
          length-take-le 16 (drop (sync_bits k) (front_bits k rec))
          (omega (arith, bits_long, length-drop (sync_bits k) (front_bits k rec)))

  -- ---- a front that tells has the kind's SFD
  -- promise: A front that tells has the kind's SFD, bit by bit from the words of its symbols; so where the two octets
  -- of a sweep are others, it is refused
  -- rule: 6.17
  -- code: marks
  -- with: sfd_low, sfd_high
  pub sfd_bit : (t : Told) → front_of k rec ≡ Ok t → (n i : ℕ) → n + 8 ≡ sync_bits k + i → i < 16
      → bit (n + 7) ⊕ bit (n + 3) ⊕ bit n ≡ get_or (bits_of 16 (sfd_of k)) i 0
  sfd_bit t e n i at h =
      sym (plain_bit n (omega arith))
      ∙ ap (λ (x : ℕ). get_or (front_bits k rec) x 0) at
      ∙ sym (get_or-drop (sync_bits k) (front_bits k rec) i 0)
      ∙ sym (get_or-take 16 (drop (sync_bits k) (front_bits k rec)) i 0 h)
      ∙ ap (λ (x : List ℕ). get_or x i 0) (sfd_bits (front_sfd t e))
