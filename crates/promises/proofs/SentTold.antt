-- A frame that was written is told of by its front, whatever follows it: any chips that are read as its front tell of
-- it (`tells`), and its own are. Its front is that of the clean frame (`front_sent_lem` of rules_clean), since a front is
-- read from its own chips (`front_same` of rules_reading). Assumes nothing.
use Rattle.std.specs.Prelude.{Ok}
use mathlib.Core.Path.{◌≡◌, sym, ap, ap₂, ◌∙◌}
use mathlib.Core.List.{List, [], ◌++◌, append-nil}
use Prim.Native.Nat.{ℕ, ◌+◌, ◌-◌, ◌*◌, ◌≤◌, ◌<◌}
use native.Mathlib.Omega.{arith}
use lib.ListN.{length, take, replicate, length-append}
use lib.Seq.{take_at, drop_at, take-append-le, length-take-le}
use Rattle.rules_rates.specs.declared.Rate.{Rate}
use Rattle.rules_rates.specs.Rates.{code_of, rate_of, octet_chips, length_field}
use Rattle.rules_rates.specs.Plain.{LengthOf}
use Rattle.rules_chips.specs.Chips.{hard_recording}
use Rattle.rules_chips.proofs.Recorders.{length_hard, take_hard}
use Rattle.rules_frame.specs.declared.Kind.{Kind}
use Rattle.rules_frame.specs.Frame.{kind_of, clock_of, clock_bit, service_field, front_chips, frame_chips}
use Rattle.rules_calls.specs.declared.Written.{Written}
use Rattle.rules_calls.specs.declared.Told.{Told}
use Rattle.rules_calls.specs.Headers.{Accepted, ours, fields_of, told}
use Rattle.rules_calls.proofs.ReadBack.{fields_back}
use Rattle.rules_reading.specs.Reading.{front_by, front_of}
use Rattle.rules_reading.proofs.Local.{front_same}
use Rattle.rules_clean.proofs.Recorded.{hard_recorded}
use Rattle.rules_clean.proofs.Back as clean
use Rattle.rules_coming.specs.declared.Coming.{Coming}
use Rattle.rules_coming.specs.Coming.{coming_of, part_of}
use Rattle.rules_coming.proofs.Laws.{coming_told, coming_ends, part_there}
use Rattle.promises.specs.Calls.{ReadFront, Handed, shown, Sent}
use Rattle.promises.specs.Coming.{refused_coming, told_coming, SentTold}
use Rattle.promises.proofs.Back as back

-- the answer in numbers
pub in_numbers : (k : Kind) (t : Told) (rate clock front octet : ℕ) → code_of t.rate ≡ rate
    → clock_bit t.clock ≡ clock → front_chips k ≡ front → octet_chips t.rate ≡ octet
    → coming_of k (Ok t) ≡ told_coming rate t.length clock t.n front (octet * t.n)
in_numbers k t rate clock front octet a b c d =
    let e : front_chips k + octet_chips t.rate * t.n - front_chips k ≡ octet_chips t.rate * t.n = omega arith in
    rw (e, a, b, c, d)

-- ---- what a front tells that is read as the frame's, whatever follows it
module _ (kind rate phase clock : ℕ) (payload : List ℕ) (w : Written) (chips : List ℕ)
    (s : Sent kind rate phase clock payload w chips) where
  abbrev k : Kind
  k = kind_of kind

  abbrev r : Rate
  r = rate_of rate

  abbrev n : ℕ
  n = length payload

  abbrev pub sent_told : Told
  sent_told = told r (length_field r n) n (clock_of clock)

  abbrev front : ℕ
  front = s.sendable.front

  abbrev count : ℕ
  count = s.sendable.octet * n

  pair : back.Known kind rate front s.sendable.octet
  pair = back.pair kind rate phase clock payload w chips s

  all_is : frame_chips k r n ≡ front + count
  all_is = back.size kind rate phase clock payload w chips s

  module _ (begin tail : List ℕ) (begin-long : length begin ≡ front)
      (told_is : front_of k (hard_recording (begin ++ tail)) ≡ Ok sent_told) (c : Coming)
      (f : ReadFront kind (begin ++ tail) c) where
    recorded_long : length (hard_recording (begin ++ tail)) ≡ front + length tail
    recorded_long = length_hard (begin ++ tail) ∙ omega (arith, length-append begin tail, begin-long)

    told_whole : count ≤ length tail
        → c ≡ told_coming rate (length_field r n) (shown clock) n front count
    told_whole h =
        f.answer
        ∙ ap (coming_of k)
        (coming_told kind (hard_recording (begin ++ tail)) pair.kind_is sent_told told_is
        (omega (arith, recorded_long, all_is)))
        ∙ in_numbers k sent_told rate (shown clock) front s.sendable.octet pair.code_back (back.shown_is clock)
        pair.front_is pair.octet_is

    handed_back : count ≤ length tail → (part : List ℕ) → Handed c (begin ++ tail) part → part ≡ take count tail
    handed_back h part g =
        g.chips_are
        ∙ ap (λ (v : Coming). part_of v.at v.count (begin ++ tail)) (told_whole h)
        ∙ part_there front count (begin ++ tail) (omega (arith, length-append begin tail, begin-long))
        ∙ ap (take count) (drop_at begin tail front begin-long)

    cut : length tail < count → c ≡ refused_coming 16 0 (length_field r n)
    cut h =
        f.answer
        ∙ ap (coming_of k)
        (coming_ends kind (hard_recording (begin ++ tail)) pair.kind_is sent_told told_is
        (omega (arith, recorded_long, all_is)))

    pub tells : (l : ℕ) → LengthOf rate n l
        → (count ≤ length tail
        → (c ≡ told_coming rate l (shown clock) n front count)
        × ((part : List ℕ) → Handed c (begin ++ tail) part → part ≡ take count tail))
        × (length tail < count → c ≡ refused_coming 16 0 l)
    tells l d =
        let e = back.length_sent kind rate phase clock payload w chips s d in
        ((λ h. (rw (← e) (told_whole h), handed_back h)), λ h. rw (← e) (cut h))

  -- ---- its own front does
  abbrev sent : List ℕ
  sent = back.sent kind rate phase clock payload w chips s

  abbrev begun : List ℕ
  begun = take front chips

  long : front + count ≡ length sent
  long = sym (back.sent_length kind rate phase clock payload w chips s ∙ all_is)

  pub begun_is : begun ≡ take front sent
  begun_is =
      ap (take front) (back.chips_are kind rate phase clock payload w chips s)
      ∙ take-append-le front sent (replicate (s.room - frame_chips k r n) 4) (omega (arith, long))

  pub begun_long : length begun ≡ front
  begun_long = ap length begun_is ∙ length-take-le front sent (omega (arith, long))

  module _ (tail : List ℕ) where
    begins : take (front_chips k) (hard_recording (begun ++ tail)) ≡ take (front_chips k) (hard_recording (sent ++ []))
    begins =
        let f = front_chips k in
        take_hard f (begun ++ tail)
        ∙ ap hard_recording
        (ap (λ (m : ℕ). take m (begun ++ tail)) pair.front_is ∙ take_at begun tail front begun_long ∙ begun_is
        ∙ ap₂ {C = List ℕ} (λ m l. take m l) (sym pair.front_is) (sym (append-nil sent)))
        ∙ sym (take_hard f (sent ++ []))

    -- whoever reads, it comes to what its three fields do
    pub begun_sent : (accepted : Accepted) → front_by accepted k (hard_recording (begun ++ tail))
        ≡ fields_of accepted k (code_of r) (service_field r (clock_of clock) n) (length_field r n)
    begun_sent accepted =
        front_same k (hard_recording (begun ++ tail)) (hard_recording (sent ++ [])) begins accepted
        ∙ ap (front_by accepted k) (hard_recorded sent [] (back.phases kind rate phase clock payload w chips s))
        ∙ clean.front_sent_lem kind r phase (clock_of clock) payload pair.kind_is s.sendable.phase_is
        pair.together s.sendable.some s.sendable.few (hard_recording []) accepted

    pub begun_told : front_of k (hard_recording (begun ++ tail)) ≡ Ok sent_told
    begun_told =
        begun_sent ours
        ∙ fields_back k r (clock_of clock) n pair.together s.sendable.some s.sendable.few

pub sent_told_lem : SentTold
sent_told_lem kind rate phase clock payload w chips s l d tail c f =
    tells kind rate phase clock payload w chips s (take s.sendable.front chips) tail
    (begun_long kind rate phase clock payload w chips s)
    (begun_told kind rate phase clock payload w chips s tail) c f l d
