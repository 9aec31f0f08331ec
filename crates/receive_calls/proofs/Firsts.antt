-- The first symbol of a front, whose chips are held until it is whole.
--     first_starts, first_waits   the line begins with the symbol; or a chip is unusable, or the symbol is not whole
-- Assumes nothing.
use mathlib.Core.Path.{◌≡◌, refl, sym, ap, ap₂, subst, ◌∙◌}
use mathlib.Core.List.{List, ◌++◌, append_assoc}
use Rattle.std.specs.Prelude.{Option, None, Some}
use Prim.Native.Nat.{ℕ, ◌+◌, ◌-◌, ◌≤◌, ◌<◌}
use native.Mathlib.Omega.{arith}
use lib.ListN.{length, take, drop, length-append, length-drop}
use lib.Seq.{take_at, length-take-le}
use borrow.Rule.Slice.PartMut.{put_mid, same_len_mid}
use Rattle.rules_chips.specs.Chips.{hard_recording}
use Rattle.rules_frame.specs.declared.Kind.{Kind}
use Rattle.rules_frame.specs.declared.Kind.TheVariants.{Long, Short}
use Rattle.rules_frame.specs.Frame.{front_chips}
use Rattle.rules_reading.specs.Reading.{first_unusable}
use Rattle.rules_receiving.specs.declared.Ear.{Ear}
use Rattle.rules_receiving.specs.declared.Progress.{Progress}
use Rattle.rules_receiving.specs.Receivers.{place_number, FrontTo}
use Rattle.rules_receiving.proofs.FrontPieces.{number_none, front_first, first_unusable_lem, first_some, first_whole}
use Rattle.receive_calls.specs.Steps.{advanced, Begun, FirstTakes}

-- a row put behind the first h of another
module _
    (h taken n : ℕ) (hold rest y : List ℕ) (most : taken ≤ length rest) (all : n ≡ h + taken) (room : n ≤ length hold)
    (y-is : y ≡ take taken rest) where
  piece_long : length (take taken rest) ≡ taken
  piece_long = length-take-le taken rest most

  part_long : length (take (n - h) (drop h hold)) ≡ taken
  part_long =
      length-take-le (n - h) (drop h hold) (omega (arith, room, all, length-drop h hold)) ∙ omega (arith, all)

  put_row : take n (put_mid h (n - h) hold y) ≡ take h hold ++ take taken rest
  put_row =
      ap (λ (w : List ℕ). take n (take h hold ++ (w ++ drop (n - h) (drop h hold)))) y-is
      ∙ ap (take n) (sym (append_assoc (take h hold) (take taken rest) _))
      ∙ take_at (take h hold ++ take taken rest) _ n
      (length-append (take h hold) (take taken rest)
      ∙ ap₂ {C = ℕ} (λ i j. i + j) (length-take-le h hold (omega (arith, room, all))) piece_long ∙ sym all)

  put_long : length (put_mid h (n - h) hold y) ≡ length hold
  put_long = same_len_mid h (n - h) hold y (ap length y-is ∙ piece_long ∙ sym part_long)

module _
    (k : Kind) (p : Progress) (taken n : ℕ) (hold rest y : List ℕ)
    (asked : (p.count < 11) × (p.bad ≡ 0) × (p.odd ≡ 0) × (length hold ≡ 88) × (p.ear.phase < 4)
    × (p.ear.last < 4))
    (least : (taken ≤ length rest) × (taken ≤ 11 - p.count) × (0 < length rest → 0 < 11 - p.count → 0 < taken))
    (all : n ≡ p.count + taken)
    (y-is : y ≡ take taken rest)
    (f : Option ℕ)
    (found : f ≡ first_unusable 0 (hard_recording (take n (put_mid p.count (n - p.count) hold y))))
  where
    abbrev piece : List ℕ
    piece = take taken rest

    abbrev hold' : List ℕ
    hold' = put_mid p.count (n - p.count) hold y

    room : n ≤ length hold
    room = omega (arith, asked, least, all)

    row_is : take n hold' ≡ take p.count hold ++ piece
    row_is = put_row p.count taken n hold rest y least.0 all room y-is

    long : length piece ≡ taken
    long = length-take-le taken rest least.0

    -- what the rows are where the front is as it is to be
    module _
        (preamble header fed : List ℕ) (x : FrontTo k fed p hold preamble header) where
      usable : first_unusable 0 (hard_recording fed) ≡ None
      usable = number_none (first_unusable 0 (hard_recording fed)) (sym x.bad_is ∙ asked.1)

      few : length fed < 11
      few = omega (arith, x.count_is, asked.0)

      inside : length fed + length piece ≤ front_chips k
      inside = by k
        where
          by : (k : Kind) → length fed + length piece ≤ front_chips k
          by Long = omega (arith, long, least.1, few, x.count_is)
          by Short = omega (arith, long, least.1, few, x.count_is)

      row_fed : take n hold' ≡ fed ++ piece
      row_fed =
          row_is
          ∙ ap (λ (l : List ℕ). l ++ piece)
          (ap (λ (i : ℕ). take i hold) x.count_is
          ∙ (front_first k fed p hold preamble header x usable few).0)

    count_more : (q : Progress) (bad odd : ℕ) (ear : Ear) → q ≡ advanced p n bad odd ear
        → q.count ≡ p.count + length piece
    count_more q bad odd ear e = ap (λ (u : Progress). u.count) e ∙ all ∙ ap (λ (i : ℕ). p.count + i) (sym long)

    takes_first : (q : Progress) (bad odd : ℕ) (ear : Ear) → q ≡ advanced p n bad odd ear → ear.phase < 4
        → ear.last < 4
        → ((preamble header fed : List ℕ) → FrontTo k fed p hold preamble header
        → FrontTo k (fed ++ piece) q hold' preamble header)
        → FirstTakes k p hold rest (record { progress = q; taken = taken }) hold'
    takes_first q bad odd ear e phase last to preamble header = record {
      some_taken = λ s. least.2 s (omega (arith, asked.0));
      most = least.0;
      within = by k;
      count_is = ap (λ (x : Progress). x.count) e ∙ all;
      status_is = ap (λ (x : Progress). x.status) e;
      kind_is = ap (λ (x : Progress). x.kind) e;
      room_is = ap (λ (x : Progress). x.room) e;
      small = rw e phase;
      last_small = rw e last;
      hold_long = put_long p.count taken n hold rest y least.0 all room y-is;
      preamble_long = refl;
      header_long = refl;
      front_to = λ fed l x. to preamble header fed x;
    }
      where
        by : (k : Kind) → p.count + taken ≤ front_chips k
        by Long = omega (arith, least.1, asked.0)
        by Short = omega (arith, least.1, asked.0)

    -- a chip is unusable
    first_bad : (q : Progress) (place : ℕ) → f ≡ Some place → q ≡ advanced p n (place + 1) p.odd p.ear
        → FirstTakes k p hold rest (record { progress = q; taken = taken }) hold'
    first_bad q place t e =
        takes_first q (place + 1) p.odd p.ear e asked.4 asked.5
        (λ preamble header fed x.
        first_unusable_lem k fed piece p q hold preamble header x (inside preamble header fed x) (count_more q _ _ _ e)
        (usable preamble header fed x) hold' (few preamble header fed x) place
        (ap (λ (l : List ℕ). first_unusable 0 (hard_recording l)) (sym (row_fed preamble header fed x)) ∙ sym found
        ∙ t)
        (ap (λ (u : Progress). u.bad) e ∙ omega arith))

    module _ (t : f ≡ None) (q : Progress) (ear : Ear) (e : q ≡ advanced p n 0 p.odd ear) where
      clear : (preamble header fed : List ℕ) → FrontTo k fed p hold preamble header
          → first_unusable 0 (hard_recording (fed ++ piece)) ≡ None
      clear preamble header fed x =
          ap (λ (l : List ℕ). first_unusable 0 (hard_recording l)) (sym (row_fed preamble header fed x)) ∙ sym found
          ∙ t

      size : (preamble header fed : List ℕ) → FrontTo k fed p hold preamble header → length (fed ++ piece) ≡ n
      size preamble header fed x =
          length-append fed piece ∙ ap₂ {C = ℕ} (λ i j. i + j) (sym x.count_is) long ∙ sym all

      held : (preamble header fed : List ℕ) → FrontTo k fed p hold preamble header
          → take (length (fed ++ piece)) hold' ≡ fed ++ piece
      held preamble header fed x =
          ap (λ (i : ℕ). take i hold') (size preamble header fed x) ∙ row_fed preamble header fed x

      -- the symbol is not whole
      first_held : n < 11 → ear ≡ p.ear → FirstTakes k p hold rest (record { progress = q; taken = taken }) hold'
      first_held h g =
          takes_first q 0 p.odd ear e (rw g asked.4) (rw g asked.5)
          (λ preamble header fed x.
          first_some k fed piece p q hold preamble header x (inside preamble header fed x) (count_more q _ _ _ e)
          (usable preamble header fed x) hold' (few preamble header fed x) (clear preamble header fed x)
          (ap (λ (u : Progress). u.bad) e) (ap (λ (u : Progress). u.odd) e ∙ asked.2) (held preamble header fed x)
          (omega (arith, h, size preamble header fed x)))

      -- it is, and the line begins
      first_done : 11 ≤ n → Begun k (take n hold') ear
          → FirstTakes k p hold rest (record { progress = q; taken = taken }) hold'
      first_done h b =
          let all_eleven : n ≡ 11 = omega (arith, h, all, least, asked.0) in
          takes_first q 0 p.odd ear e b.small (rw (b.last, ← b.phase) b.small)
          (λ preamble header fed x.
          let b : Begun k (fed ++ piece) q.ear =
          subst (λ (l : List ℕ). Begun k l q.ear) (row_fed preamble header fed x)
          (subst (λ (u : Progress). Begun k (take n hold') u.ear) (sym e) b) in
          first_whole k fed piece p q hold preamble header x (inside preamble header fed x) (count_more q _ _ _ e)
          (usable preamble header fed x) hold' (few preamble header fed x) (clear preamble header fed x)
          (ap (λ (u : Progress). u.bad) e) (ap (λ (u : Progress). u.odd) e ∙ asked.2) (held preamble header fed x)
          (size preamble header fed x ∙ all_eleven)
          b.phase b.last b.past b.lead b.symbol)

    -- whatever was found: the line begins, or goes on as it was
    pub first_starts : f ≡ None → 11 ≤ n → (q : Progress) (ear : Ear) → q ≡ advanced p n (place_number f) p.odd ear
        → Begun k (take n hold') ear → FirstTakes k p hold rest (record { progress = q; taken = taken }) hold'
    first_starts t h q ear e b =
        first_done t q ear (e ∙ ap (λ (o : Option ℕ). advanced p n (place_number o) p.odd ear) t) h b

    pub first_waits : (f ≡ None → n < 11) → (q : Progress) (ear : Ear) → q ≡ advanced p n (place_number f) p.odd ear
        → ear ≡ p.ear → FirstTakes k p hold rest (record { progress = q; taken = taken }) hold'
    first_waits less q ear e same = by f refl
      where
        by : (o : Option ℕ) → f ≡ o → FirstTakes k p hold rest (record { progress = q; taken = taken }) hold'
        by None t =
            first_held t q ear (e ∙ ap (λ (o : Option ℕ). advanced p n (place_number o) p.odd ear) t) (less t) same
        by (Some place) t =
            let next : place_number (Some place) ≡ place + 1 = omega arith in
            first_bad q place t
            (e ∙ ap (λ (o : Option ℕ). advanced p n (place_number o) p.odd ear) t
            ∙ ap₂ {C = Progress} (λ i x. advanced p n i p.odd x) next same)
