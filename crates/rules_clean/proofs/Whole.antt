-- A recording that is decided as a frame with any 48 header bits was sent (`AsSent`) is read back: SFD, header and
-- payload. The sent bits are cut into the three parts; all but the first are heard (`Listened`), and unscrambling
-- forgets the first after eight bits. Assumes nothing.
use Rattle.std.specs.Prelude.{Ok, Err}
use mathlib.Core.Path.{◌≡◌, refl, sym, ap, ap₂, ◌∙◌}
use mathlib.Core.Bool.{Bool}
use mathlib.Core.List.{List, [], ◌∷◌, ◌++◌, append_assoc}
use Prim.Native.Nat.{ℕ, zero, suc, ◌+◌, ◌-◌, ◌<◌, ◌≤◌}
use native.Mathlib.Omega.{arith}
use native.Mathlib.Nat.{not-suc-le-zero}
use borrow.Author.Tests.{le-ltb, lt-ltb}
use lib.ListN.{length, take, drop, replicate, length-append, length-replicate, take-append-drop}
use lib.Seq.{take_at, drop_at, drop-drop}
use Rattle.rules_rates.specs.declared.Rate.{Rate}
use Rattle.rules_rates.specs.declared.Rate.TheVariants.{One}
use Rattle.rules_chips.specs.Chips.{Taken}
use Rattle.rules_bits.specs.Bits.{bits_of, octet_bits, octets_of}
use Rattle.rules_bits.specs.Scrambler.{descramble}
use Rattle.base.specs.Below.{Below}
use Rattle.rules_bits.specs.Code.{past_after, words_chips}
use Rattle.base.proofs.Below.{below_append, below_replicate}
use Rattle.rules_bits.proofs.Bits.{bits_length, bits_below, octet_bits_below, octets_back}
use Rattle.rules_bits.proofs.Scrambler.{unscrambled, descramble_length, descramble_append, first_unknown}
use Rattle.rules_frame.specs.declared.Kind.{Kind}
use Rattle.rules_frame.specs.declared.Kind.TheVariants.{Long, Short}
use Rattle.rules_frame.specs.Frame.{
  sync_bits,
  sync_bit,
  sfd_of,
  header_rate,
  start,
  front_chips,
  preamble_bits,
  frame_bits,
  preamble_length,
  header_length,
  sent_bits,
  framed,
  frame_chips,
}
use Rattle.rules_frame.proofs.Sizes.{preamble_length_lem}
use Rattle.rules_calls.specs.declared.Told.{Told}
use Rattle.rules_calls.specs.declared.Refusal.TheVariants.{OctetRoom}
use Rattle.rules_calls.specs.Headers.{Accepted, header_of, told}
use Rattle.rules_reading.specs.Leads.{frame_leads, least_of}
use Rattle.rules_reading.specs.Reading.{
  front_bits,
  front_by,
  preamble_words,
  header_words,
  payload_words,
  payload_of,
  whole_of,
  payload_reading,
}
use Rattle.rules_clean.proofs.FrameWords.{FrontAsSent, AsSent}
use Rattle.rules_clean.proofs.FrameWords as words
use Rattle.rules_clean.proofs.Listened.{
  first_bit,
  later_bits,
  preamble_headed,
  front_none,
  front_heard_lem,
  payload_odd_lem,
  payload_heard,
}

-- ---- the frame's bits: how many, and each a bit
both_length : (k : Kind) (header : List ℕ) → length header ≡ header_length
    → length (preamble_bits k ++ header) ≡ preamble_length k + header_length
both_length k header e = length-append (preamble_bits k) header ∙ ap₂ {C = ℕ} (λ i j. i + j) (preamble_length_lem k) e

sync_below : (k : Kind) → sync_bit k < 2
sync_below Long = omega arith
sync_below Short = omega arith

preamble_below : (k : Kind) → Below 2 (preamble_bits k)
unfolding preamble_bits
preamble_below k = below_append (below_replicate (sync_bits k) (sync_below k)) (bits_below 16 (sfd_of k))

frame_below : (k : Kind) (header xs : List ℕ) → Below 2 header → Below 2 (frame_bits k header xs)
unfolding frame_bits
frame_below k header xs h = below_append (preamble_below k) (below_append h (octet_bits_below xs))

-- past the eighth bit the first output is forgotten
forgotten : (j : ℕ) (h : List ℕ) (x y : ℕ) (os : List ℕ) → 8 ≤ j
    → drop j (descramble h (x ∷ os)) ≡ drop j (descramble h (y ∷ os))
forgotten j h x y os l =
    let e : 8 + (j - 8) ≡ j = omega arith in
    ap (λ (i : ℕ). drop i (descramble h (x ∷ os))) (sym e)
    ∙ sym (drop-drop (j - 8) 8 (descramble h (x ∷ os)))
    ∙ ap (drop (j - 8)) (first_unknown h h x y os)
    ∙ drop-drop (j - 8) 8 (descramble h (y ∷ os))
    ∙ ap (λ (i : ℕ). drop i (descramble h (y ∷ os))) e

sync_eight : (k : Kind) → 8 ≤ sync_bits k
sync_eight Long = omega arith
sync_eight Short = omega arith

-- one of a row of equal numbers
one_of : (n x j : ℕ) (ys : List ℕ) → j < n → take 1 (drop j (replicate n x ++ ys)) ≡ x ∷ []
one_of zero x j ys h = absurd (not-suc-le-zero h)
one_of (suc n) x zero ys h = refl
one_of (suc n) x (suc j) ys h = one_of n x j ys (omega arith)

module _ (k : Kind) (r : Rate) (p : ℕ) (header xs : List ℕ) (eh : length header ≡ header_length) (rec : List Taken)
    (l : p < 4) (bh : Below 2 header) where
  abbrev n : ℕ
  n = length xs

  abbrev s : List ℕ
  s = sent_bits k header xs

  abbrev m : ℕ
  m = preamble_length k

  abbrev x : List ℕ
  x = words.preamble_out k r p header xs

  abbrev y : List ℕ
  y = words.header_out k r p header xs

  abbrev z : List ℕ
  z = words.payload_out k r p header xs

  joined : x ++ (y ++ z) ≡ s
  joined =
      ap (λ (t : List ℕ). x ++ (y ++ t)) (sym (drop-drop 48 m s))
      ∙ ap (λ (t : List ℕ). x ++ t) (take-append-drop 48 (drop m s))
      ∙ take-append-drop m s

  -- unscrambled
  whole : descramble (start k) s ≡ frame_bits k header xs
  unfolding sent_bits
  whole = unscrambled (start k) (frame_bits k header xs) (frame_below k header xs bh)

  module _ (begun : FrontAsSent k r p header xs rec) where
    abbrev b : ℕ
    b = first_bit k r p header xs eh rec l begun

    abbrev tail : List ℕ
    tail = later_bits k r p header xs eh rec l begun ++ y

    s_is : (b ∷ tail) ++ z ≡ s
    s_is =
        append_assoc (b ∷ later_bits k r p header xs eh rec l begun) y z
        ∙ ap (λ (t : List ℕ). t ++ (y ++ z)) (sym (preamble_headed k r p header xs eh rec l begun)) ∙ joined

    tail_length : length (b ∷ tail) ≡ m + 48
    tail_length =
        ap (λ (t : List ℕ). length (t ++ y)) (sym (preamble_headed k r p header xs eh rec l begun))
        ∙ length-append x y
        ∙ ap₂ {C = ℕ} (λ i j. i + j) (words.preamble_length_lem k r p header xs eh) (words.header_length_lem k r p header xs eh)

    front_sent_lem : descramble (start k) (b ∷ tail) ≡ preamble_bits k ++ header
    front_sent_lem =
        sym (take_at (descramble (start k) (b ∷ tail)) (descramble (past_after (start k) (b ∷ tail)) z) (m + 48)
        (descramble_length (start k) (b ∷ tail) ∙ tail_length))
        ∙ ap (take (m + 48))
        (sym (descramble_append (start k) (b ∷ tail) z) ∙ ap (descramble (start k)) s_is ∙ whole ∙ parts)
        ∙ take_at (preamble_bits k ++ header) (octet_bits xs) (m + 48) (both_length k header eh)
      where
        parts : frame_bits k header xs ≡ (preamble_bits k ++ header) ++ octet_bits xs
        parts = unfold frame_bits in sym (append_assoc (preamble_bits k) (header) (octet_bits xs))

    front_from : (j : ℕ) → 8 ≤ j → drop j (front_bits k rec) ≡ drop j (preamble_bits k ++ header)
    unfolding front_bits
    front_from j h =
        ap (λ (t : List ℕ). drop j (descramble (start k) t)) (front_heard_lem k r p header xs eh rec l begun)
        ∙ forgotten j (start k) 0 b tail h ∙ ap (drop j) front_sent_lem

    sfd_read : take 16 (drop (sync_bits k) (front_bits k rec)) ≡ bits_of 16 (sfd_of k)
    sfd_read =
        ap (take 16) (front_from (sync_bits k) (sync_eight k) ∙ cut)
        ∙ take_at (bits_of 16 (sfd_of k)) (header) 16 (bits_length 16 (sfd_of k))
      where
        cut : drop (sync_bits k) (preamble_bits k ++ header) ≡ bits_of 16 (sfd_of k) ++ header
        cut =
            unfold preamble_bits in
            ap (drop (sync_bits k)) (append_assoc (replicate (sync_bits k) (sync_bit k)) (bits_of 16 (sfd_of k)) (header))
            ∙ drop_at (replicate (sync_bits k) (sync_bit k)) (bits_of 16 (sfd_of k) ++ header) (sync_bits k)
            (length-replicate (sync_bits k) (sync_bit k))

    header_read : drop m (front_bits k rec) ≡ header
    header_read =
        front_from m (omega (arith, sync_eight k)) ∙ drop_at (preamble_bits k) (header) m (preamble_length_lem k)

    -- SYNC, from its ninth bit on
    pub sync_read : (j : ℕ) → 8 ≤ j → j < sync_bits k → take 1 (drop j (front_bits k rec)) ≡ sync_bit k ∷ []
    sync_read j h i = ap (take 1) (front_from j h) ∙ cut
      where
        cut : take 1 (drop j (preamble_bits k ++ header)) ≡ sync_bit k ∷ []
        cut =
            unfold preamble_bits in
            ap (λ (t : List ℕ). take 1 (drop j t))
            (append_assoc (replicate (sync_bits k) (sync_bit k)) (bits_of 16 (sfd_of k)) (header))
            ∙ one_of (sync_bits k) (sync_bit k) j (bits_of 16 (sfd_of k) ++ header) i

    -- whatever the header's bits say, they are read, whoever reads
    pub front_read : (accepted : Accepted) → front_by accepted k rec ≡ header_of accepted k (bits_of 16 (sfd_of k)) header
    unfolding front_by
    front_read accepted =
        rw (
          le-ltb (length rec) (front_chips k) begun.front_there,
          begun.front_usable,
          front_none k r p header xs eh rec l begun,
          sfd_read,
          header_read,
        )

  -- ---- and the payload behind it
  module _ (sent : AsSent k r p header xs rec) where
    -- every chip is one of the word that its symbol is read as
    pub words_sent : framed k r p header xs
        ≡ words_chips One (preamble_words k rec)
        ++ (words_chips (header_rate k) (header_words k rec) ++ words_chips r (payload_words k r n rec))
    words_sent =
        let e1 = sent.front.preamble_words_lem in
        let e2 = sent.front.header_words_lem in
        let e3 = sent.payload_words_lem in
        words.words_are k r p header xs eh
        ∙ (λ i. words_chips One (sym e1 i) ++ (words_chips (header_rate k) (sym e2 i) ++ words_chips r (sym e3 i)))

    pub payload_read : Below 256 xs → payload_of k r n rec ≡ xs
    unfolding payload_of
    payload_read h256 =
        ap₂ {C = List ℕ} (λ f t. octets_of n (drop (m + 48) (descramble (start k) (f ++ t))))
        (front_heard_lem k r p header xs eh rec l sent.front)
        (payload_heard k r p header xs eh rec l sent.front sent)
        ∙ ap (octets_of n)
        (forgotten (m + 48) (start k) 0 (b sent.front) (tail sent.front ++ z) (omega arith)
        ∙ ap (λ (t : List ℕ). drop (m + 48) (descramble (start k) t)) (s_is sent.front)
        ∙ ap (drop (m + 48)) whole ∙ cut)
        ∙ octets_back xs h256
      where
        cut : drop (m + 48) (frame_bits k header xs) ≡ octet_bits xs
        cut =
            unfold frame_bits in
            ap (drop (m + 48)) (sym (append_assoc (preamble_bits k) (header) (octet_bits xs)))
            ∙ drop_at (preamble_bits k ++ header) (octet_bits xs) (m + 48) (both_length k header eh)

    -- what comes of a header that tells this rate and so many octets
    module _ (lf : ℕ) (clock : Bool) where
      abbrev t : Told
      t = told r lf n clock

      pub whole_there : whole_of k rec (Ok t) ≡ Ok t
      whole_there = rw (le-ltb _ (frame_chips k r n) sent.frame_there)

      pub payload_good : (room : ℕ) → n ≤ room
          → payload_reading k t rec room ≡ Ok (record { told = t; used = frame_chips k r n; least = least_of (frame_leads k r n rec) })
      unfolding payload_reading
      payload_good room h =
          rw (
            le-ltb room n h,
            sent.payload_usable,
            payload_odd_lem k r p header xs eh rec l sent.front sent,
          )

      pub no_room : (room : ℕ) → room < n → payload_reading k t rec room ≡ Err (OctetRoom lf)
      unfolding payload_reading
      no_room room h = rw (lt-ltb room n h)
