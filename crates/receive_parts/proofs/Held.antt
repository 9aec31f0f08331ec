-- A part of an octet held behind a part's m-th octet.
--     part_held      what the part becomes
-- Assumes nothing.
use mathlib.Core.Path.{◌≡◌, refl, sym, ap, ap₂, subst, ◌∙◌}
use mathlib.Core.List.{List, ◌++◌, append_assoc}
use Rattle.std.specs.Prelude.{Option, None}
use Prim.Native.Nat.{ℕ, ◌+◌, ◌-◌, ◌*◌, ◌/◌, ◌<◌}
use native.Mathlib.Omega.{arith}
use lib.ListN.{length, take, drop, length-append}
use lib.Seq.{drop_at, drop-drop, drop-append-add}
use Rattle.rules_rates.specs.declared.Rate.{Rate}
use Rattle.rules_rates.specs.declared.Rate.TheVariants.{One, Two, Five, Eleven}
use Rattle.rules_rates.specs.Rates.{symbol_chips, octet_symbols, octet_chips}
use Rattle.rules_chips.specs.Chips.{Taken, hard_recording}
use Rattle.rules_chips.proofs.Recorders.{length_hard, append_hard}
use Rattle.rules_bits.specs.Growths.{growths_of, last_heard}
use Rattle.rules_bits.proofs.Heard.{last_heard_append}
use Rattle.rules_frame.specs.declared.Kind.{Kind}
use Rattle.rules_reading.specs.Reading.{first_unusable, odd_growth, decided_words}
use Rattle.rules_receiving.specs.declared.Ear.{Ear}
use Rattle.rules_receiving.specs.Yet.{whole_symbols}
use Rattle.rules_receiving.specs.Sections.{Section, words_yet, section_unusable, section_odd, GoesOn, SectionIs}
use Rattle.rules_receiving.proofs.Advance.{next_words, unusable_next, words_next, odd_next, symbols_whole}
use Rattle.rules_receiving.proofs.Stands.{Stands, stands_goes, stands_ear, stands_longer}
use Rattle.receive_parts.specs.declared.Piece.{Piece}
use Rattle.receive_parts.specs.Pieces.{new_words, PartHeld}

odd_phase : (r : Rate) (a b at : ℕ) (ws vs : List ℕ) → (r ≡ One → a ≡ last_heard One b ws)
    → odd_growth r at (growths_of r a vs) ≡ odd_growth r at (growths_of r (last_heard r b ws) vs)
odd_phase One a b at ws vs e = ap (λ (i : ℕ). odd_growth One at (growths_of One i vs)) (e refl)
odd_phase Two a b at ws vs e = refl
odd_phase Five a b at ws vs e = refl
odd_phase Eleven a b at ws vs e = refl

module _
    (k : Kind) (p : Section) (m : ℕ) (first held piece : List ℕ) (e : Ear) (hold out : List ℕ) (x : Piece)
    (at : length first ≡ p.from + octet_chips p.rate * m)
    (small : length held + length piece < octet_chips p.rate)
    (usable : section_unusable p (hard_recording first) ≡ None)
    (even : section_odd p (hard_recording (first ++ held)) ≡ None)
    (s : Stands k p m (hard_recording first) e out)
    (last : p.rate ≡ One → e.last ≡ last_heard One p.phase (words_yet p (hard_recording (first ++ held))))
    (keeps : take (length held + length piece) hold ≡ held ++ piece)
    (looked : PartHeld p.rate (p.from + octet_chips p.rate * m) e (length held) (held ++ piece) x) where
  abbrev q : Rate
  q = p.rate

  abbrev row : List ℕ
  row = held ++ piece

  abbrev h : ℕ
  h = length held

  -- the chips of the octets, those of the row; those before the piece, those of the piece
  abbrev octets : List Taken
  octets = hard_recording first

  abbrev behind : List Taken
  behind = hard_recording row

  abbrev old : List Taken
  old = hard_recording (first ++ held)

  abbrev new : List Taken
  new = hard_recording piece

  by_octets : hard_recording (first ++ row) ≡ octets ++ behind
  by_octets = append_hard first row

  by_piece : hard_recording (first ++ row) ≡ old ++ new
  by_piece = ap hard_recording (sym (append_assoc first held piece)) ∙ append_hard (first ++ held) piece

  octets_end : length octets ≡ p.from + octet_chips q * m
  octets_end = length_hard first ∙ at

  row_long : length row ≡ h + length piece
  row_long = length-append held piece

  old_long : length old ≡ p.from + octet_chips q * m + h
  old_long = length_hard (first ++ held) ∙ length-append first held ∙ ap (λ (i : ℕ). i + h) at

  all_long : length (first ++ row) ≡ p.from + octet_chips q * m + (h + length piece)
  all_long = length-append first row ∙ ap₂ {C = ℕ} (λ a b. a + b) at row_long

  before_is : whole_symbols q p.from old ≡ octet_symbols q * m + h / symbol_chips q
  before_is = symbols_whole p m h old old_long

  after_is : whole_symbols q p.from (old ++ new) ≡ octet_symbols q * m + length row / symbol_chips q
  after_is =
      symbols_whole p m (length row) (old ++ new)
      (ap length (sym by_piece) ∙ length_hard (first ++ row) ∙ length-append first row
      ∙ ap (λ (i : ℕ). i + length row) at)

  -- where the new symbols start
  chips_before : (r : Rate) → symbol_chips r * (octet_symbols r * m + h / symbol_chips r)
      ≡ octet_chips r * m + symbol_chips r * (h / symbol_chips r)
  chips_before One = omega arith
  chips_before Two = omega arith
  chips_before Five = omega arith
  chips_before Eleven = omega arith

  place : p.from + symbol_chips q * whole_symbols q p.from old
      ≡ p.from + octet_chips q * m + symbol_chips q * (h / symbol_chips q)
  place =
      ap (λ (j : ℕ). p.from + symbol_chips q * j) before_is
      ∙ ap (λ (j : ℕ). p.from + j) (chips_before q)
      ∙ by (octet_chips q * m) (symbol_chips q * (h / symbol_chips q))
    where
      by : (a b : ℕ) → p.from + (a + b) ≡ p.from + a + b
      by a b = omega arith

  next_is : next_words p old new ≡ new_words q h row
  next_is =
      ap₂ {C = List ℕ} (λ j cs. decided_words q j cs)
      (ap₂ {C = ℕ} (λ a b. a - b) after_is before_is ∙ less (octet_symbols q * m) (length row / symbol_chips q) _)
      (drop-drop (symbol_chips q * whole_symbols q p.from old) p.from (old ++ new)
      ∙ ap₂ {C = List Taken} (λ j cs. drop j cs)
      (place ∙ ap (λ (j : ℕ). j + symbol_chips q * (h / symbol_chips q)) (sym octets_end))
      (sym by_piece ∙ by_octets)
      ∙ drop-append-add octets behind (symbol_chips q * (h / symbol_chips q)))
    where
      less : (a b c : ℕ) → a + b - (a + c) ≡ b - c
      less a b c = omega arith

  part_bad : x.bad ≡ section_unusable p (hard_recording (first ++ row))
  part_bad =
      looked.bad_is
      ∙ ap (λ (j : ℕ). first_unusable j behind) (sym octets_end)
      ∙ sym (ap (section_unusable p) by_octets ∙ unusable_next p octets behind (omega (arith, octets_end)) usable)

  part_odd : x.bad ≡ None → x.odd ≡ section_odd p (hard_recording (first ++ row))
  part_odd n =
      looked.odd_is n
      ∙ odd_phase q e.last p.phase _ (words_yet p old) (new_words q h row) last
      ∙ sym (ap (section_odd p) by_piece
      ∙ odd_next p old new (omega (arith, old_long)) even
      ∙ ap₂ {C = Option ℕ} (λ j ws. odd_growth q j (growths_of q (last_heard q p.phase (words_yet p old)) ws)) place
      next_is)

  part_goes : x.bad ≡ None → x.odd ≡ None → GoesOn k p (first ++ row) x.ear hold out
  part_goes n f =
      stands_goes k p m (h + length piece) (first ++ row) x.ear hold out all_long small
      (stands_ear x.ear
      (subst (λ (cs : List Taken). Stands k p m cs e out) (sym by_octets)
      (stands_longer k p m octets behind e out octets_end s))
      looked.past looked.phase looked.lead looked.symbol)
      (keeps ∙ sym (drop_at first row (p.from + octet_chips q * m) at))
      (λ one. looked.last_is n f one
      ∙ ap₂ {C = ℕ} (λ i ws. last_heard One i ws) (last one) (sym next_is)
      ∙ sym (last_heard_append One p.phase (words_yet p old) (next_words p old new))
      ∙ ap (last_heard One p.phase)
      (sym (ap (words_yet p) by_piece ∙ words_next p old new (omega (arith, old_long)))))

  pub part_held : SectionIs k p (first ++ row) x.bad x.odd x.ear hold out
  part_held = record {
    bad_is = part_bad;
    odd_is = part_odd;
    goes = part_goes;
  }
