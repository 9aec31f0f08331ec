-- Whole octets heard behind a part's m-th octet: chips held and a piece, or a piece alone.
--     whole_octets_lem     what the part becomes
-- Assumes nothing.
use mathlib.Core.Path.{◌≡◌, sym, ap, ap₂, subst, ◌∙◌}
use mathlib.Core.List.{List, ◌++◌}
use Rattle.std.specs.Prelude.{Option, None}
use Prim.Native.Nat.{ℕ, ◌+◌, ◌-◌, ◌*◌, ◌/◌, ◌%◌, ◌≤◌, ◌<◌}
use native.Mathlib.Nat.{mul-add}
use native.Mathlib.Omega.{arith}
use lib.ListN.{length, take, drop, length-append}
use lib.Seq.{drop_at, drop-drop, drop-length}
use Rattle.rules_rates.specs.declared.Rate.{Rate}
use Rattle.rules_rates.specs.declared.Rate.TheVariants.{One, Two, Five, Eleven}
use Rattle.rules_rates.specs.Rates.{symbol_chips, symbol_bits, octet_symbols, octet_chips}
use Rattle.rules_rates.proofs.Octets.{part_chips}
use Rattle.rules_chips.specs.Chips.{Taken, hard_recording}
use Rattle.rules_chips.proofs.Recorders.{length_hard, append_hard}
use Rattle.rules_bits.specs.Growths.{growths_of, last_heard}
use Rattle.rules_frame.specs.declared.Kind.{Kind}
use Rattle.rules_reading.specs.Reading.{first_unusable, odd_growth, decided_words}
use Rattle.rules_receiving.specs.declared.Ear.{Ear}
use Rattle.rules_receiving.specs.Yet.{whole_symbols}
use Rattle.rules_receiving.specs.Sections.{Section, words_yet, section_unusable, section_odd, GoesOn, SectionIs}
use Rattle.rules_receiving.proofs.Advance.{next_words, unusable_next, odd_next, symbols_whole, words_yet_lem}
use Rattle.rules_receiving.proofs.Stands.{Stands, stands_goes, stands_more}
use Rattle.receive_parts.specs.declared.Piece.{Piece}
use Rattle.receive_parts.specs.Pieces.{row_words, WholeHeard}

some_chips : (r : Rate) → 0 < octet_chips r
some_chips One = omega arith
some_chips Two = omega arith
some_chips Five = omega arith
some_chips Eleven = omega arith

module _
    (k : Kind) (p : Section) (m w : ℕ) (fed row : List ℕ) (e : Ear) (hold out : List ℕ) (x : Piece) (y : List ℕ)
    (at : length fed ≡ p.from + octet_chips p.rate * m) (size : length row ≡ octet_chips p.rate * w)
    (usable : section_unusable p (hard_recording fed) ≡ None) (even : section_odd p (hard_recording fed) ≡ None)
    (s : Stands k p m (hard_recording fed) e out) (parity : p.first % 2 ≡ 0) (room : m + w ≤ length out)
    (heard : WholeHeard p.rate (p.from + octet_chips p.rate * m) (p.first + octet_symbols p.rate * m) e row w
    x y) where
  abbrev r : Rate
  r = p.rate

  abbrev rec : List Taken
  rec = hard_recording fed

  abbrev more : List Taken
  more = hard_recording row

  split : hard_recording (fed ++ row) ≡ rec ++ more
  split = append_hard fed row

  at_end : length rec ≡ p.from + octet_chips r * m
  at_end = length_hard fed ∙ at

  whole : p.from ≤ length rec
  whole = omega (arith, at_end)

  all_long : length (rec ++ more) ≡ p.from + octet_chips r * (m + w)
  all_long =
      length-append rec more
      ∙ by (octet_chips r * m) (octet_chips r * w) (octet_chips r * (m + w)) at_end (length_hard row ∙ size)
      (mul-add (octet_chips r) m w)
    where
      by : (a b c : ℕ) → length rec ≡ p.from + a → length more ≡ b → c ≡ a + b
          → length rec + length more ≡ p.from + c
      by a b c f g h = omega arith

  next_is : next_words p rec more ≡ row_words r w row
  next_is =
      let before : whole_symbols r p.from rec ≡ octet_symbols r * m =
      symbols_whole p m 0 rec (omega (arith, at_end)) ∙ none_more r in
      let after : whole_symbols r p.from (rec ++ more) ≡ octet_symbols r * (m + w) =
      symbols_whole p (m + w) 0 (rec ++ more) (omega (arith, all_long)) ∙ more_none r in
      ap₂ {C = List ℕ} (λ a b. decided_words r (a - b) (drop (symbol_chips r * b) (drop p.from (rec ++ more))))
      after before
      ∙ ap₂ {C = List ℕ} (λ j cs. decided_words r j cs) (less r)
      (drop-drop (symbol_chips r * (octet_symbols r * m)) p.from (rec ++ more)
      ∙ drop_at rec more (p.from + symbol_chips r * (octet_symbols r * m))
      (at_end ∙ ap (λ (j : ℕ). p.from + j) (sym (part_chips r m))))
    where
      none_more : (q : Rate) → octet_symbols q * m + 0 / symbol_chips q ≡ octet_symbols q * m
      none_more One = omega arith
      none_more Two = omega arith
      none_more Five = omega arith
      none_more Eleven = omega arith

      more_none : (q : Rate) → octet_symbols q * (m + w) + 0 / symbol_chips q ≡ octet_symbols q * (m + w)
      more_none One = omega arith
      more_none Two = omega arith
      more_none Five = omega arith
      more_none Eleven = omega arith

      less : (q : Rate) → octet_symbols q * (m + w) - octet_symbols q * m ≡ 8 * w / symbol_bits q
      less One = omega arith
      less Two = omega arith
      less Five = omega arith
      less Eleven = omega arith

  bad_is : x.bad ≡ section_unusable p (hard_recording (fed ++ row))
  bad_is =
      heard.bad_is
      ∙ ap (λ (j : ℕ). first_unusable j more) (sym at_end)
      ∙ sym (ap (section_unusable p) split ∙ unusable_next p rec more whole usable)

  odd_is : x.bad ≡ None → x.odd ≡ section_odd p (hard_recording (fed ++ row))
  odd_is n =
      heard.odd_is n
      ∙ sym (ap (section_odd p) split
      ∙ odd_next p rec more whole even
      ∙ ap₂ {C = Option ℕ} (λ j ws. odd_growth r j (growths_of r (last_heard r p.phase ws) (next_words p rec more)))
      place (words_yet_lem p m rec at_end)
      ∙ ap₂ {C = Option ℕ} (λ i ws. odd_growth r (p.from + octet_chips r * m) (growths_of r i ws)) (sym s.at_phase)
      next_is)
    where
      none_more : (q : Rate) → symbol_chips q * (octet_symbols q * m + 0 / symbol_chips q) ≡ octet_chips q * m
      none_more One = omega arith
      none_more Two = omega arith
      none_more Five = omega arith
      none_more Eleven = omega arith

      place : p.from + symbol_chips r * whole_symbols r p.from rec ≡ p.from + octet_chips r * m
      place =
          ap (λ (j : ℕ). p.from + symbol_chips r * j) (symbols_whole p m 0 rec (omega (arith, at_end)))
          ∙ ap (λ (j : ℕ). p.from + j) (none_more r)

  more_octets : x.bad ≡ None → Stands k p (m + w) (rec ++ more) x.ear (take m out ++ (y ++ drop (m + w) out))
  more_octets n =
      stands_more k p m rec more e out at_end s parity w x.ear y room (heard.past n) (heard.phase n)
      (heard.least n) (heard.octets n)

  goes : x.bad ≡ None → GoesOn k p (fed ++ row) x.ear hold (take m out ++ (y ++ drop (m + w) out))
  goes n =
      let long : length (fed ++ row) ≡ p.from + octet_chips r * (m + w) =
      sym (length_hard (fed ++ row)) ∙ ap length split ∙ all_long in
      stands_goes k p (m + w) 0 (fed ++ row) x.ear hold _ (omega (arith, long)) (some_chips r)
      (subst (λ (cs : List Taken). Stands k p (m + w) cs x.ear (take m out ++ (y ++ drop (m + w) out))) (sym split)
      (more_octets n))
      (sym (ap (λ (i : ℕ). drop i (fed ++ row)) (sym long) ∙ drop-length (fed ++ row)))
      (λ one. heard.last n ∙ (more_octets n).at_phase
      ∙ ap (λ (ws : List ℕ). last_heard r p.phase ws)
      (sym (ap (words_yet p) split ∙ words_yet_lem p (m + w) (rec ++ more) all_long))
      ∙ ap (λ (q : Rate). last_heard q p.phase (words_yet p (hard_recording (fed ++ row)))) one)

  pub whole_octets_lem : SectionIs k p (fed ++ row) x.bad x.odd x.ear hold
      (take m out ++ (y ++ drop (m + w) out))
  whole_octets_lem = record {
    bad_is = bad_is;
    odd_is = odd_is;
    goes = λ n f. goes n;
  }
