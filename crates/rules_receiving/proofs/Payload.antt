-- The payload of a recording whose beginning is known: chips behind what is asked for change nothing; and the counts of
-- whole symbols and octets.
--     payload_words_prefix, payload_prefix, frame_leads_prefix    m octets whose chips are there
--     octets_count, symbols_count, rest_count     by the chips of a part
-- Assumes nothing.
use mathlib.Core.Path.{◌≡◌, ap, ap₂, ◌∙◌}
use mathlib.Core.List.{List, ◌++◌}
use Prim.Native.Nat.{ℕ, ◌+◌, ◌*◌, ◌/◌, ◌%◌, ◌≤◌, ◌<◌}
use native.Mathlib.Omega.{arith}
use lib.ListN.{length, drop, length-drop}
use lib.Seq.{drop-append-le}
use Rattle.rules_rates.specs.declared.Rate.{Rate}
use Rattle.rules_rates.specs.declared.Rate.TheVariants.{One, Two, Five, Eleven}
use Rattle.rules_rates.specs.Rates.{symbol_chips, octet_symbols, octet_chips}
use Rattle.rules_rates.proofs.Octets.{part_symbols, part_chips}
use Rattle.rules_chips.specs.Chips.{Taken}
use Rattle.rules_bits.specs.Bits.{octets_of}
use Rattle.rules_bits.specs.Growths.{heard}
use Rattle.rules_bits.specs.Scrambler.{descramble}
use Rattle.rules_frame.specs.declared.Kind.{Kind}
use Rattle.rules_frame.specs.Frame.{start, front_chips, preamble_length, header_length}
use Rattle.rules_reading.specs.Leads.{decided_leads, payload_leads, frame_leads}
use Rattle.rules_reading.specs.Reading.{decided_words, payload_words, payload_of}
use Rattle.rules_receiving.proofs.Prefix.{words_prefix, leads_prefix, phase_prefix, heard_prefix, front_leads_prefix}

-- ---- m octets whose chips are there

module _
    (k : Kind) (r : Rate) (m : ℕ) (rec more : List Taken) (there : front_chips k + octet_chips r * m ≤ length rec) where
  abbrev from : ℕ
  from = front_chips k

  whole : from ≤ length rec
  whole = omega (arith, there)

  pub payload_words_prefix : payload_words k r m (rec ++ more) ≡ payload_words k r m rec
  unfolding payload_words
  payload_words_prefix =
      rw (part_symbols r m)
      (ap (decided_words r (octet_symbols r * m)) (drop-append-le from rec more whole)
      ∙ words_prefix r (octet_symbols r * m) (drop from rec) more
      (omega (arith, there, part_chips r m, length-drop from rec)))

  pub payload_prefix : payload_of k r m (rec ++ more) ≡ payload_of k r m rec
  unfolding payload_of
  payload_prefix =
      ap₂ {C = List ℕ}
      (λ x y. octets_of m (drop (preamble_length k + header_length) (descramble (start k) (x ++ y))))
      (heard_prefix k rec more whole)
      (ap₂ {C = List ℕ} (λ x y. heard r 0 x y) (phase_prefix k rec more whole) payload_words_prefix)

  pub frame_leads_prefix : frame_leads k r m (rec ++ more) ≡ frame_leads k r m rec
  unfolding payload_leads
  frame_leads_prefix =
      rw (part_symbols r m)
      (ap₂ {C = List ℕ} (λ x y. x ++ y) (front_leads_prefix k rec more whole)
      (ap (decided_leads r (octet_symbols r * m)) (drop-append-le from rec more whole)
      ∙ leads_prefix r (octet_symbols r * m) (drop from rec) more
      (omega (arith, there, part_chips r m, length-drop from rec))))

-- ---- whole octets and symbols, by the chips

pub octets_count : (r : Rate) (m h : ℕ) → h < octet_chips r → (octet_chips r * m + h) / octet_chips r ≡ m
octets_count One m h l = omega arith
octets_count Two m h l = omega arith
octets_count Five m h l = omega arith
octets_count Eleven m h l = omega arith

pub rest_count : (r : Rate) (m h : ℕ) → h < octet_chips r → (octet_chips r * m + h) % octet_chips r ≡ h
rest_count One m h l = omega arith
rest_count Two m h l = omega arith
rest_count Five m h l = omega arith
rest_count Eleven m h l = omega arith

pub symbols_count : (r : Rate) (m h : ℕ)
    → (octet_chips r * m + h) / symbol_chips r ≡ octet_symbols r * m + h / symbol_chips r
symbols_count One m h = omega arith
symbols_count Two m h = omega arith
symbols_count Five m h = omega arith
symbols_count Eleven m h = omega arith
