-- A front that is whole: it stays refused, or tells of a payload.
--     stays_unusable, stays_odd             9 and 10
--     front_ends, front_known, front_tells  what was heard of it is a front heard, and tells what the front does
--     told_stays, told_tells                both ways on
-- Assumes nothing.
use mathlib.Core.Path.{◌≡◌, refl, sym, ap, subst, ◌∙◌}
use mathlib.Core.Bool.{true}
use mathlib.Core.List.{List}
use Rattle.std.specs.Prelude.{Option, None, Some, Ok, Err}
use Prim.Native.Nat.{ℕ, suc, ◌+◌, ◌-◌, ◌≤◌, ◌<◌}
use native.Mathlib.Omega.{arith}
use lib.ListN.{length, take, drop, length-drop, length-replicate}
use lib.Seq.{take_all, take_at, drop-append-le, drop-length}
use Rattle.base.proofs.Below.{below_drop}
use Rattle.rules_rates.specs.declared.Rate.{Rate}
use Rattle.rules_rates.specs.declared.Rate.TheVariants.{One, Two, Five, Eleven}
use Rattle.rules_rates.specs.Rates.{code_of, is_code, rate_of, symbol_chips}
use Rattle.rules_chips.specs.Chips.{Taken, hard_recording}
use Rattle.rules_chips.proofs.Recorders.{length_hard}
use Rattle.rules_bits.specs.Bits.{octet_bits, octets_of}
use Rattle.rules_bits.specs.Growths.{heard}
use Rattle.rules_bits.specs.Scrambler.{descramble}
use Rattle.rules_bits.specs.Code.{past_after}
use Rattle.rules_bits.proofs.Bits.{octets_bits}
use Rattle.rules_bits.proofs.Scrambler.{descramble_append, descramble_below, descramble_length}
use Rattle.rules_frame.specs.declared.Kind.{Kind}
use Rattle.rules_frame.specs.declared.Kind.TheVariants.{Long, Short}
use Rattle.rules_frame.specs.Frame.{
  is_kind,
  kind_of,
  start,
  sync_bits,
  header_rate,
  front_chips,
  preamble_length,
  preamble_chips,
  frame_chips,
}
use Rattle.rules_calls.specs.declared.Refusal.{Refusal}
use Rattle.rules_calls.specs.declared.Refusal.TheVariants.{Unusable, OddGrowth}
use Rattle.rules_calls.specs.declared.Told.{Told}
use Rattle.rules_calls.specs.Answers.{refusal_number}
use Rattle.rules_calls.specs.Headers.{ours}
use Rattle.rules_reading.specs.Heard.{sfd_heard, header_heard}
use Rattle.rules_reading.specs.Reading.{
  first_unusable,
  header_phase,
  header_words,
  front_heard,
  front_bits,
  front_of,
}
use Rattle.rules_receiving.specs.declared.Ear.{Ear}
use Rattle.rules_receiving.specs.declared.Progress.{Progress}
use Rattle.rules_receiving.specs.Yet.{zeros, unusable_yet, odd_yet}
use Rattle.rules_receiving.specs.Sections.{preamble_heard, payload_section, section_odd}
use Rattle.rules_receiving.specs.Receivers.{
  place_number,
  preamble_count,
  front_odd_yet,
  FrontTo,
  PayloadComes,
  refused,
  payload_comes,
}
use Rattle.rules_receiving.proofs.Fronts.{odd_early}
use Rattle.rules_receiving.proofs.FrontPieces.{number_none, header_is}
use Rattle.rules_receiving.proofs.FrontEnds.{
  yet_whole,
  told_unusable,
  told_odd,
  told_usable,
  preamble_long,
  Ends,
  header_ends,
  payload_starts,
}
use Rattle.rules_receiving.proofs.Takes.{refused_front, payload_takes, refused_takes}
use Rattle.read_fronts.specs.declared.FrontHeard.{FrontHeard}
use Rattle.read_fronts.specs.declared.Opening.{Opening}
use Rattle.read_fronts.specs.Openings.{FrontKnown, after_usable, Opens}
use Rattle.read_fronts.proofs.Preambles.{preamble_sfd}
use Rattle.read_fronts.proofs.Behind.{front_length}
use Rattle.receive_calls.specs.Steps.{stayed, telling, FrontTold}

-- ---- what was heard of a front that is whole

header_within : (k : Kind) (n : ℕ) → n ≡ front_chips k → preamble_chips k ≤ n
header_within Long n e = omega (arith, e)
header_within Short n e = omega (arith, e)

-- the SFD's octets behind the preamble's others
sfd_bits : (k : Kind) (rec : List Taken) (sfd preamble : List ℕ)
    → take (preamble_count k) preamble ≡ octets_of (preamble_count k) (descramble (start k) (preamble_heard k rec))
    → sfd ≡ take 2 (drop (preamble_count k - 2) preamble)
    → octet_bits sfd ≡ drop (sync_bits k) (descramble (start k) (preamble_heard k rec))
sfd_bits Long rec sfd preamble o s = preamble_sfd Long rec sfd preamble o s
sfd_bits Short rec sfd preamble o s = preamble_sfd Short rec sfd preamble o s

-- the front's bits begin with the preamble's
sfd_is : (k : Kind) (rec : List Taken) → drop (sync_bits k) (descramble (start k) (preamble_heard k rec)) ≡ sfd_heard k rec
unfolding front_bits front_heard
sfd_is k rec =
    let a = descramble (start k) (preamble_heard k rec) in
    let more = heard (header_rate k) 0 (header_phase k rec) (header_words k rec) in
    let b = descramble (past_after (start k) (preamble_heard k rec)) more in
    let long : length a ≡ preamble_length k =
    descramble_length (start k) (preamble_heard k rec) ∙ preamble_long k rec in
    sym (ap (λ (bs : List ℕ). take 16 (drop (sync_bits k) bs)) (descramble_append (start k) (preamble_heard k rec) more)
    ∙ ap (take 16) (drop-append-le (sync_bits k) a b (omega (arith, long)))
    ∙ take_at (drop (sync_bits k) a) b 16 (length-drop (sync_bits k) a ∙ omega (arith, long)))

header_bits_lem : (k : Kind) (rec : List Taken) (header : List ℕ)
    → header ≡ octets_of 6 (drop (preamble_length k) (front_bits k rec)) → octet_bits header ≡ header_heard k rec
unfolding front_bits
header_bits_lem k rec header e =
    let bs = drop (preamble_length k) (front_bits k rec) in
    let long : length bs ≡ 48 =
    length-drop (preamble_length k) (front_bits k rec)
    ∙ omega (arith, descramble_length (start k) (front_heard k rec), front_length k rec) in
    ap octet_bits e
    ∙ octets_bits 6 bs (omega (arith, long))
    (below_drop (preamble_length k) (descramble_below (start k) (front_heard k rec)))
    ∙ take_all 48 bs (omega (arith, long))

-- as a front heard
abbrev pub heard_of : Ear → List ℕ → List ℕ → FrontHeard
heard_of e sfd header =
    record {
      part =
          record {
            heard = record { line = record { past = e.past; phase = e.phase }; odd = None };
            least = record { lead = e.lead; symbol = e.symbol };
          };
      sfd = sfd;
      header = header;
    }

module _
    (k : Kind) (fed : List ℕ) (p : Progress) (hold preamble header : List ℕ) (at : length fed ≡ front_chips k)
    (x : FrontTo k fed p hold preamble header) where
  abbrev rec : List Taken
  rec = hard_recording fed

  long : length rec ≡ front_chips k
  long = length_hard fed ∙ at

  pub stays_unusable : (place : ℕ) → p.bad ≡ suc place → front_of k rec ≡ Err (Unusable place 0)
  stays_unusable place e = by (first_unusable 0 rec) refl
    where
      by : (o : Option ℕ) → first_unusable 0 rec ≡ o → front_of k rec ≡ Err (Unusable place 0)
      by None f = absurd (omega (arith, e, x.bad_is, ap place_number f))
      by (Some i) f =
          let same : i ≡ place = omega (arith, e, x.bad_is, ap place_number f) in
          told_unusable k rec long place (f ∙ ap (λ (j : ℕ). Some j) same)

  module _ (clear : p.bad ≡ 0) where
    usable : first_unusable 0 rec ≡ None
    usable = number_none (first_unusable 0 rec) (sym x.bad_is ∙ clear)

    pub stays_odd : (place : ℕ) → p.odd ≡ suc place → front_of k rec ≡ Err (OddGrowth place 0)
    stays_odd place e = by (front_odd_yet k rec) refl
      where
        by : (o : Option ℕ) → front_odd_yet k rec ≡ o → front_of k rec ≡ Err (OddGrowth place 0)
        by None f = absurd (omega (arith, e, x.odd_is usable, ap place_number f))
        by (Some i) f =
            let same : i ≡ place = omega (arith, e, x.odd_is usable, ap place_number f) in
            told_odd k rec long usable place (f ∙ ap (λ (j : ℕ). Some j) same)

    module _ (even : p.odd ≡ 0) (size : length header ≡ 6) where
      no_odd : front_odd_yet k rec ≡ None
      no_odd = number_none (front_odd_yet k rec) (sym (x.odd_is usable) ∙ even)

      pub front_ends : Ends k rec p.ear header
      front_ends =
          header_ends k fed p.ear hold header at size
          (header_is k fed p.ear hold preamble header (header_within k (length fed) at) (x.goes usable no_odd)).1

      pub front_known : (sfd : List ℕ) → sfd ≡ take 2 (drop (preamble_count k - 2) preamble) → p.ear.phase < 4
          → FrontKnown k rec (heard_of p.ear sfd header)
      front_known sfd s small = record {
        odd = sym (sym (yet_whole k rec long) ∙ no_odd);
        sfd =
            sfd_bits k rec sfd preamble
            (header_is k fed p.ear hold preamble header (header_within k (length fed) at) (x.goes usable no_odd)).0
            s
            ∙ sfd_is k rec;
        header = header_bits_lem k rec header front_ends.octets;
        line = record { at_phase = front_ends.at_phase; small = small; past = front_ends.behind };
        least = front_ends.least;
      }

      pub front_tells : (sfd octets : List ℕ) (o : Opening) → sfd ≡ take 2 (drop (preamble_count k - 2) preamble)
          → octets ≡ header → p.ear.phase < 4
          → ((rec : List Taken) → FrontKnown k rec (heard_of p.ear sfd octets)
          → Opens k rec (after_usable ours k rec) o)
          → front_of k rec ≡ o.front
      front_tells sfd octets o s same small opens =
          told_usable k rec long usable
          ∙ sym (opens rec
          (subst (λ (l : List ℕ). FrontKnown k rec (heard_of p.ear sfd l)) (sym same) (front_known sfd s small))
          ).told

-- ---- both ways on

module _
    (k : Kind) (p u : Progress) (preamble header : List ℕ) (phase : p.ear.phase < 4) (last : p.ear.last < 4) where
  pub told_stays : (e : Refusal) → u ≡ stayed p e → is_kind p.kind ≡ true
      → (9 ≤ refusal_number e) × (refusal_number e ≤ 15)
      → ((fed hold : List ℕ) → length fed ≡ front_chips k → FrontTo k fed p hold preamble header
      → front_of k (hard_recording fed) ≡ Err e)
      → FrontTold k p preamble header u
  told_stays e f is-kind number tells =
      subst (λ (v : Progress). FrontTold k p preamble header v) (sym f)
      (record {
        takes_more_lem =
            refused_takes (stayed p e) p.room refl phase last refl (refused_front is-kind number.0 number.1);
        kind_is = refl;
        room_is = refl;
        small = phase;
        last_small = last;
        held = λ kind fed hold buf a kind-is at x clear.
            refused a refl e (omega (arith, at, ap front_chips kind-is))
            (ap (λ (j : Kind). front_of j (hard_recording fed)) kind-is ∙ tells fed hold at x)
            (record { number_is = refl; place_is = refl; length_is = refl });
      })

  code_is : (r : Rate) → (is_code (code_of r) ≡ true) × (rate_of (code_of r) ≡ r)
  code_is One = (refl, refl)
  code_is Two = (refl, refl)
  code_is Five = (refl, refl)
  code_is Eleven = (refl, refl)

  -- nothing of a payload has come
  none_unusable : (fed : List ℕ) → length fed ≡ front_chips k → unusable_yet k (hard_recording fed) ≡ None
  unfolding first_unusable
  none_unusable fed at =
      let long : length (hard_recording fed) ≡ front_chips k = length_hard fed ∙ at in
      ap (first_unusable (front_chips k))
      (ap (λ (n : ℕ). drop n (hard_recording fed)) (sym long) ∙ drop-length (hard_recording fed))

  none_odd : (r : Rate) (fed : List ℕ) → length fed ≡ front_chips k → odd_yet k r (hard_recording fed) ≡ None
  unfolding odd_yet section_odd
  none_odd r fed at = odd_early (payload_section k r (hard_recording fed)) (hard_recording fed) (by r)
    where
      by : (r : Rate) → length (hard_recording fed) < front_chips k + symbol_chips r
      by One = omega (arith, length_hard fed, at)
      by Two = omega (arith, length_hard fed, at)
      by Five = omega (arith, length_hard fed, at)
      by Eleven = omega (arith, length_hard fed, at)

  comes : (t : Told) (fed hold buf : List ℕ) → length fed ≡ front_chips k → FrontTo k fed p hold preamble header
      → buf ≡ zeros p.room → front_of k (hard_recording fed) ≡ Ok t
      → Ends k (hard_recording fed) p.ear header
      → PayloadComes k t fed (telling p t) hold buf
  comes t fed hold buf at x clear told ends = record {
    tells = record { rate_is = refl; length_is = refl; n_is = refl; clock_is = refl };
    told = told;
    from = omega (arith, at);
    to = omega (arith, at);
    count_is = x.count_is;
    bad_is = λ f. ap place_number (sym (none_unusable fed at));
    odd_is = λ f n. ap place_number (sym (none_odd t.rate fed at));
    goes = λ f n o.
        payload_starts k t.rate fed p.ear (telling p t).ear hold header buf at ends refl refl refl refl refl
        (clear ∙ ap zeros (sym (ap length clear ∙ length-replicate p.room 0)));
  }

  pub told_tells : (t : Told) → u ≡ telling p t → t.n ≤ 4095 → p.count ≡ front_chips k → is_kind p.kind ≡ true
      → kind_of p.kind ≡ k
      → ((fed hold : List ℕ) → length fed ≡ front_chips k → FrontTo k fed p hold preamble header
      → (front_of k (hard_recording fed) ≡ Ok t) × Ends k (hard_recording fed) p.ear header)
      → FrontTold k p preamble header u
  told_tells t f few count is-kind kind-is tells =
      subst (λ (v : Progress). FrontTold k p preamble header v) (sym f)
      (record {
        takes_more_lem =
            payload_takes (telling p t) p.room refl phase phase refl
            (record {
              is_kind_lem = is-kind;
              is_code_lem = (code_is t.rate).0;
              few = few;
              from = omega (arith, count, ap front_chips kind-is);
              to = omega (arith, count, ap front_chips kind-is);
            });
        kind_is = refl;
        room_is = refl;
        small = phase;
        last_small = phase;
        held = λ kind fed hold buf a b at x clear.
            let y = tells fed hold at x in
            let cut : take (frame_chips k t.rate t.n) fed ≡ fed =
            take_all (frame_chips k t.rate t.n) fed (omega (arith, at)) in
            payload_comes a refl t
            (subst (λ (j : Kind). PayloadComes j t (take (frame_chips j t.rate t.n) fed) (telling p t) hold buf)
            (sym b)
            (subst (λ (l : List ℕ). PayloadComes k t l (telling p t) hold buf) (sym cut)
            (comes t fed hold buf at x clear y.0 y.1)));
      })
