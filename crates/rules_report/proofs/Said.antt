-- A report's text says its numbers, line by line, for every report of 64 bit numbers (RULES 6.20).
--     digits_of     the decimal digits of a number come to it, and are its only ones with no zero in front
--     text_said     the whole text: rates, refusals met, airtime, and the smallest lead with its recording
-- Assumes nothing.
use mathlib.Core.Path.{refl}
use mathlib.Core.List.{List}
use Prim.Native.Nat.{ℕ, zero, suc, ◌^◌, ◌<◌}
use native.Mathlib.Decide.{dec_lt}
use native.Mathlib.Omega.{arith}
use borrow.Author.Tests.{eq-eqb, ne_eqb}
use lib.ListN.{length, get_or}
use Rattle.rules_report.specs.declared.Report.{Report}
use Rattle.rules_report.specs.Text.{decimal, rate_line, refused_line, refused_lines, airtime_line, lead_line, text_of}
use Rattle.rules_report.specs.Said.{
  DigitsOf,
  RateSaid,
  RefusedSaid,
  RefusalsSaid,
  no_more,
  and_then,
  AirtimeSaid,
  LeadSaid,
  TextSaid,
  Fits,
}
use Rattle.rules_report.proofs.Spelling.{
  places_one,
  length_decimal,
  decimal_least,
  decimal_value,
  decimal_digit,
  decimal_front,
}

pub digits_of : (n : ℕ) → n < 10 ^ 20 → DigitsOf n (decimal n)
digits_of n h = record {
  value = decimal_value n h;
  some = decimal_least n;
  each = decimal_digit n;
  front = λ more. decimal_front n (positive more (dec_lt 0 n)) h;
}
  where
    positive : 1 < length (decimal n) → Dec (0 < n) → 0 < n
    positive more (yes p) = p
    positive more (no q) = absurd (omega (arith, length_decimal n, places_one 19 n (omega arith)))

rate_said : (rate frames octets : ℕ) → rate < 10 ^ 20 → frames < 10 ^ 20 → octets < 10 ^ 20
    → RateSaid rate frames octets (rate_line rate frames octets)
rate_said rate frames octets h k l = record {
  r = decimal rate;
  f = decimal frames;
  o = decimal octets;
  rate_is = digits_of rate h;
  frames_are = digits_of frames k;
  octets_are = digits_of octets l;
  line_is = refl;
}

refused_said : (number count : ℕ) → number < 10 ^ 20 → count < 10 ^ 20
    → RefusedSaid number count (refused_line number count)
refused_said number count h k = record {
  none = λ e. rw (eq-eqb count 0 e);
  met = λ n. record {
    n = decimal number;
    c = decimal count;
    number_is = digits_of number h;
    count_is = digits_of count k;
    line_is = rw (ne_eqb count 0 n);
  };
}

refusals_said : (m : ℕ) (refused : List ℕ) → m < 10 ^ 20 → ((j : ℕ) → get_or refused j 0 < 10 ^ 20)
    → RefusalsSaid refused m (refused_lines m refused)
unfolding refused_lines
refusals_said zero refused h k = no_more
refusals_said (suc m) refused h k =
    and_then m _ _ (refusals_said m refused (omega arith) k)
    (refused_said (suc m) (get_or refused (suc m) 0) h (k (suc m)))

airtime_said : (airtime : ℕ) → airtime < 10 ^ 20 → AirtimeSaid airtime (airtime_line airtime)
airtime_said airtime h = record { a = decimal airtime; airtime_is = digits_of airtime h; line_is = refl }

lead_said : (some lead recording : ℕ) → lead < 10 ^ 20 → recording < 10 ^ 20
    → LeadSaid some lead recording (lead_line some lead recording)
lead_said some lead recording h k = record {
  none = λ e. rw (eq-eqb some 0 e);
  there = λ n. record {
    l = decimal lead;
    r = decimal recording;
    lead_is = digits_of lead h;
    recording_is = digits_of recording k;
    line_is = rw (ne_eqb some 0 n);
  };
}

pub text_said : (p : Report) → Fits p → TextSaid p (text_of p)
unfolding text_of
text_said p f =
    let frames : ℕ → ℕ = λ j. get_or p.frames j 0 in
    let octets : ℕ → ℕ = λ j. get_or p.octets j 0 in
    let rate : (code j : ℕ) → code < 10 ^ 20
    → RateSaid code (frames j) (octets j) (rate_line code (frames j) (octets j)) =
    λ code j h. rate_said code (frames j) (octets j) h (f.frames_fit j) (f.octets_fit j) in
    record {
      r10 = rate_line 10 (get_or p.frames 0 0) (get_or p.octets 0 0);
      r20 = rate_line 20 (get_or p.frames 1 0) (get_or p.octets 1 0);
      r55 = rate_line 55 (get_or p.frames 2 0) (get_or p.octets 2 0);
      r110 = rate_line 110 (get_or p.frames 3 0) (get_or p.octets 3 0);
      refusals = refused_lines 17 p.refused;
      airtime = airtime_line p.airtime;
      lead = lead_line p.some p.lead p.recording;
      at_10 = rate 10 0 (omega arith);
      at_20 = rate 20 1 (omega arith);
      at_55 = rate 55 2 (omega arith);
      at_110 = rate 110 3 (omega arith);
      refusals_are = refusals_said 17 p.refused (omega arith) f.refused_fit;
      airtime_is = airtime_said p.airtime f.airtime_fits;
      lead_is = lead_said p.some p.lead p.recording f.lead_fits f.recording_fits;
      text_is = refl;
    }
