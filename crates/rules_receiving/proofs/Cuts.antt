-- A payload that comes, as the calls see it: chips behind the frame are not looked at.
--     cut_next, cut_past       a piece in the frame, and one behind it
--     Matches                  a receiver's numbers and what the front told
--     payload_next, payload_past     what was received, with such a piece more
-- Assumes nothing.
use Rattle.std.specs.Prelude.{Ok}
use mathlib.Core.Path.{◌≡◌, refl, sym, ap, ap₂, subst, ◌∙◌}
use mathlib.Core.Bool.{true}
use mathlib.Core.List.{List, [], ◌∷◌, ◌++◌, append-nil}
use Prim.Native.Nat.{ℕ, ◌+◌, ◌≤◌, ◌<◌}
use native.Mathlib.Decide.{dec_le}
use native.Mathlib.Omega.{arith}
use lib.ListN.{length, take, drop, length-append, length-take, take-append-drop}
use lib.Seq.{take_all, take-append-le, length-take-le}
use Rattle.rules_rates.specs.declared.Rate.{Rate}
use Rattle.rules_rates.specs.Rates.{rate_of}
use Rattle.rules_chips.specs.Chips.{Taken, hard_recording}
use Rattle.rules_chips.proofs.Recorders.{length_hard, take_hard}
use Rattle.rules_frame.specs.declared.Kind.{Kind}
use Rattle.rules_frame.specs.Frame.{is_kind, kind_of, frame_chips}
use Rattle.rules_calls.specs.declared.Told.{Told}
use Rattle.rules_reading.specs.Reading.{front_of}
use Rattle.rules_receiving.specs.declared.Progress.{Progress}
use Rattle.rules_receiving.specs.Yet.{payload_yet, after_front_yet, buffer_yet}
use Rattle.rules_receiving.specs.Receivers.{
  PayloadComes,
  Held,
  no_kind,
  front_comes,
  refused,
  payload_comes,
  Going,
}
use Rattle.rules_receiving.proofs.Prefix.{front_prefix}
use Rattle.rules_receiving.proofs.Calls.{rate_back}
use Rattle.rules_receiving.proofs.Payloads.{Went, Counts}

-- ---- a piece in the frame, and one behind it

nil_of : (l : List ℕ) → length l ≤ 0 → l ≡ []
nil_of [] h = refl
nil_of (x ∷ l) h = absurd (omega arith)

pub cut_next : (all : ℕ) (fed piece : List ℕ) → length (take all fed) + length piece ≤ all
    → take all (fed ++ piece) ≡ take all fed ++ piece
cut_next all fed piece h = by (dec_le all (length fed))
  where
    by : Dec (all ≤ length fed) → take all (fed ++ piece) ≡ take all fed ++ piece
    by (yes l) =
        let e : piece ≡ [] = nil_of piece (omega (arith, length-take-le all fed l, h)) in
        rw (take-append-le all fed piece l, e) (sym (append-nil (take all fed)))
    by (no l) =
        let f : take all fed ≡ fed = take_all all fed (omega arith) in
        rw f (take_all all (fed ++ piece) (omega (arith, length-append fed piece, ap length f, h)))

pub cut_past : (all : ℕ) (fed piece : List ℕ) → all ≤ length (take all fed) → take all (fed ++ piece) ≡ take all fed
cut_past all fed piece h = take-append-le all fed piece (omega (arith, length-take all fed, h))

-- ---- the buffer beside a payload that comes

module _
    (kind room : ℕ) (fed : List ℕ) (t : Told) (p : Progress) (hold buf : List ℕ) (is : is_kind kind ≡ true)
    (c : PayloadComes (kind_of kind) t (take (frame_chips (kind_of kind) t.rate t.n) fed) p hold buf) where
  abbrev k : Kind
  k = kind_of kind

  abbrev all : ℕ
  all = frame_chips k t.rate t.n

  abbrev rec : List Taken
  rec = hard_recording fed

  abbrev cut : List Taken
  cut = hard_recording (take all fed)

  apart : cut ++ drop all rec ≡ rec
  apart = ap (λ (x : List Taken). x ++ drop all rec) (sym (take_hard all fed)) ∙ take-append-drop all rec

  told_all : front_of k rec ≡ Ok t
  told_all =
      subst (λ (x : List Taken). front_of k x ≡ Ok t) apart
      (front_prefix k cut (drop all rec) (omega (arith, c.from, length_hard (take all fed))) ∙ c.told)

  yet_is : buffer_yet kind rec room ≡ payload_yet k t cut room
  yet_is =
      opened
      ∙ ap (after_front_yet k rec room) told_all
      ∙ ap (λ (x : List Taken). payload_yet k t x room) (take_hard all fed)
    where
      opened : buffer_yet kind rec room ≡ after_front_yet k rec room (front_of k rec)
      opened = unfold buffer_yet in rw is

-- ---- a receiver's numbers

pub record Matches (k : Kind) (r : Rate) (kind : ℕ) (t : Told) (p : Progress) : Type 0 where
  pub kind_of_lem : k ≡ kind_of kind
  pub rate_of_lem : r ≡ t.rate
  pub n_of : p.n ≡ t.n
  pub all_of : frame_chips k r p.n ≡ frame_chips (kind_of kind) t.rate t.n

-- ---- what was received

module _
    (k : Kind) (r : Rate) (p u : Progress) (hold hold' preamble header buf out piece : List ℕ)
    (st : p.status ≡ 2) (ki : kind_of p.kind ≡ k) (ri : rate_of p.rate ≡ r) (n : ℕ) (x : Counts p u n)
    (small : u.ear.phase < 4) (last-small : u.ear.last < 4) where
  abbrev cut_of : ℕ → Told → List ℕ → List ℕ
  cut_of kind t fed = take (frame_chips (kind_of kind) t.rate t.n) fed

  matches : (kind : ℕ) (t : Told) (fed : List ℕ) → p.kind ≡ kind → PayloadComes (kind_of kind) t fed p hold buf
      → Matches k r kind t p
  matches kind t fed e c =
      let kinds = sym ki ∙ ap kind_of e in
      let rates = sym ri ∙ ap rate_of c.tells.rate_is ∙ rate_back t.rate in
      record {
        kind_of_lem = kinds;
        rate_of_lem = rates;
        n_of = c.tells.n_is;
        all_of = ap₂ {C = ℕ} (λ c s. frame_chips c s p.n) kinds rates
            ∙ ap (frame_chips (kind_of kind) t.rate) c.tells.n_is;
      }

  by_cut : (kind room : ℕ) (fed : List ℕ)
      → ((t : Told) → Matches k r kind t p → Went (kind_of kind) t (cut_of kind t fed) p hold buf
      → Went (kind_of kind) t (cut_of kind t (fed ++ piece)) u hold' out)
      → Going kind room fed p hold preamble header buf → Going kind room (fed ++ piece) u hold' preamble header out
  by_cut kind room fed f z = by z.holds
    where
      by : Held kind fed p hold preamble header buf → Going kind room (fed ++ piece) u hold' preamble header out
      by (no_kind i e h) = absurd (omega (arith, e, st))
      by (front_comes i e l h) = absurd (omega (arith, e, st))
      by (refused i e q l g h) = absurd (omega (arith, e, st))
      by (payload_comes i e t c) =
          let w = f t (matches kind t (cut_of kind t fed) z.kind_is c)
          (record {
            comes = c;
            buffer = z.buffer ∙ yet_is kind room fed t p hold buf i c
                ∙ ap (payload_yet (kind_of kind) t (hard_recording (cut_of kind t fed))) (sym z.room_is);
          }) in
          record {
            kind_is = x.kind_is ∙ z.kind_is;
            room_is = x.room_is ∙ z.room_is;
            small = small;
            last_small = last-small;
            holds = payload_comes i (x.status_is ∙ e) t w.comes;
            buffer = w.buffer
                ∙ ap (payload_yet (kind_of kind) t (hard_recording (cut_of kind t (fed ++ piece))))
                (x.room_is ∙ z.room_is)
                ∙ sym (yet_is kind room (fed ++ piece) t u hold' out i w.comes);
          }

  -- behind the frame
  pub payload_past : (kind room : ℕ) (fed : List ℕ) → frame_chips k r p.n ≤ p.count
      → ((t : Told) (fed : List ℕ) → Went (kind_of kind) t fed p hold buf → Went (kind_of kind) t fed u hold' out)
      → Going kind room fed p hold preamble header buf → Going kind room (fed ++ piece) u hold' preamble header out
  payload_past kind room fed h f = by_cut kind room fed (λ t m w.
      subst (λ (l : List ℕ). Went (kind_of kind) t l u hold' out)
      (sym (cut_past (frame_chips (kind_of kind) t.rate t.n) fed piece
      (omega (arith, h, m.all_of, w.comes.count_is))))
      (f t (cut_of kind t fed) w))

  -- and in it
  pub payload_next : (kind room : ℕ) (fed : List ℕ) → p.count + length piece ≤ frame_chips k r p.n
      → ((t : Told) (fed : List ℕ) → Matches k r kind t p → Went (kind_of kind) t fed p hold buf
      → length fed + length piece ≤ frame_chips (kind_of kind) t.rate t.n
      → Went (kind_of kind) t (fed ++ piece) u hold' out)
      → Going kind room fed p hold preamble header buf → Going kind room (fed ++ piece) u hold' preamble header out
  payload_next kind room fed h f = by_cut kind room fed (λ t m w.
      let all = frame_chips (kind_of kind) t.rate t.n in
      let to : length (take all fed) + length piece ≤ all = omega (arith, h, m.all_of, w.comes.count_is) in
      subst (λ (l : List ℕ). Went (kind_of kind) t l u hold' out) (sym (cut_next all fed piece to))
      (f t (take all fed) m w to))
