-- A good read has its frame whole, and no unusable chip in it, as its answer says (`read_says`). So each symbol's
-- chips are good ones, in the words of demand 3, of hard chips, soft samples and bytes. Assumes nothing.
use mathlib.Core.Path.{◌≡◌, sym, ap, ap₂, ◌∙◌, subst}
use mathlib.Core.Bool.{Bool, true, false, not}
use mathlib.Core.List.{List, [], ◌∷◌}
use Prim.Native.Nat.{ℕ, zero, suc, ◌+◌, ◌*◌, ◌≤◌, ◌<◌}
use native.Mathlib.Omega.{arith}
use lib.Dec.{T, leb, leb→le}
use lib.ListN.{length, get_or, get_or-map}
use lib.IntN.{ℤ}
use lib.Ieee.{Float, nan}
use Rattle.base.proofs.Tests.{both_left, both_right}
use Rattle.rules_rates.specs.declared.Rate.{Rate}
use Rattle.rules_rates.specs.declared.Rate.TheVariants.{One, Two, Five, Eleven}
use Rattle.rules_rates.specs.Rates.{rate_of, symbol_chips}
use Rattle.rules_chips.specs.Floats.{usable}
use Rattle.rules_chips.specs.Chips.{Taken, is_unusable, hard_taken, hard_recording, soft_recording, byte_recording}
use Rattle.rules_chips.proofs.Recorders.{unusable_hard}
use Rattle.rules_chips.proofs.Bytes.{length_bytes}
use Rattle.rules_frame.specs.declared.Kind.{Kind}
use Rattle.rules_frame.specs.declared.Kind.TheVariants.{Long, Short}
use Rattle.rules_frame.specs.Frame.{kind_of, frame_chips}
use Rattle.rules_reading.specs.Places.{UsableAt}
use Rattle.rules_calls.specs.declared.Record.{Record}
use Rattle.promises.specs.Calls.{Read, Goes}
use Rattle.promises.specs.Reasons.{
  ReadAnswer,
  is_1,
  is_7,
  is_8,
  front_9,
  front_10,
  is_11,
  is_12,
  is_13,
  is_14,
  is_15,
  is_16,
  is_17,
  payload_9,
  payload_10,
  is_0,
}
use Rattle.promises.specs.Leads.{SymbolOf, of_preamble, of_header, of_payload}
use Rattle.promises.proofs.Right.{soft_used}
use Rattle.promises.proofs.Back.{known}
use Rattle.promises.proofs.Reasons.{read_says}

-- ---- a good read: the recording has the frame's chips, and they are usable
abbrev Whole : ℕ → List Taken → Type 0
Whole all rec = (all ≤ length rec) × ((place : ℕ) → place < all → UsableAt rec place)

good_whole : (kind : ℕ) (agree : Bool) (rec : List Taken) (room : ℕ) (a : Record) (left : List ℕ)
    → Read kind agree rec room a left → a.number ≡ 0
    → Whole (frame_chips (kind_of kind) (rate_of a.rate) a.n) rec
good_whole kind agree rec room a left read zero_is = by (read_says kind agree rec room a left read) zero_is
  where
    size : {rate front octet : ℕ} → Goes kind rate front octet → (n : ℕ)
        → front + octet * n ≡ frame_chips (kind_of kind) (rate_of rate) n
    size g n = let w = known g in ap₂ {C = ℕ} (λ x y. x + y * n) (sym w.front_is) (sym w.octet_is)

    by : {b : Record} → ReadAnswer kind agree rec room b → b.number ≡ 0
        → Whole (frame_chips (kind_of kind) (rate_of b.rate) b.n) rec
    by (is_1 h) e = absurd (omega (arith, e))
    by (is_7 h d) e = absurd (omega (arith, e))
    by (is_8 g d h) e = absurd (omega (arith, e))
    by (front_9 g h u) e = absurd (omega (arith, e))
    by (front_10 g u c h o) e = absurd (omega (arith, e))
    by (is_11 b g d) e = absurd (omega (arith, e))
    by (is_12 b g s v h c d) e = absurd (omega (arith, e))
    by (is_13 h d) e = absurd (omega (arith, e))
    by (is_14 h g d) e = absurd (omega (arith, e))
    by (is_15 h g s d) e = absurd (omega (arith, e))
    by (is_16 h d) e = absurd (omega (arith, e))
    by (is_17 h d m) e = absurd (omega (arith, e))
    by (payload_9 h t m g d u) e = absurd (omega (arith, e))
    by (payload_10 h t m v r g d o) e = absurd (omega (arith, e))
    by (is_0 lead symbol h t m u v) e =
        subst (λ (all : ℕ). Whole all rec) (size h.goes _) (t, u)

-- ---- a symbol lies in its frame
symbol_within : (k : Kind) (r : Rate) (n : ℕ) (rec : List Taken) {s at w : ℕ} {q : Rate} → SymbolOf k r n rec s q at w
    → at + symbol_chips q ≤ frame_chips k r n
symbol_within Long r n rec (of_preamble j h) = omega arith
symbol_within Short r n rec (of_preamble j h) = omega arith
symbol_within Long r n rec (of_header j h) = omega arith
symbol_within Short r n rec (of_header j h) = omega arith
symbol_within k One n rec (of_payload j h) = omega arith
symbol_within k Two n rec (of_payload j h) = omega arith
symbol_within k Five n rec (of_payload j h) = omega arith
symbol_within k Eleven n rec (of_payload j h) = omega arith

module _ (kind : ℕ) (agree : Bool) (rec : List Taken) (room : ℕ) (a : Record) (left : List ℕ)
    (f : Read kind agree rec room a left) (z : a.number ≡ 0) {s at w : ℕ} {q : Rate}
    (x : SymbolOf (kind_of kind) (rate_of a.rate) a.n rec s q at w) where
  pub symbol_usable : (j : ℕ) → j < symbol_chips q → UsableAt rec (at + j)
  symbol_usable j h =
      (good_whole kind agree rec room a left f z).1 (at + j)
      (omega (arith, symbol_within (kind_of kind) (rate_of a.rate) a.n rec x))

  pub symbol_there : at + symbol_chips q ≤ length rec
  symbol_there =
      omega (
        arith,
        (good_whole kind agree rec room a left f z).0,
        symbol_within (kind_of kind) (rate_of a.rate) a.n rec x,
      )

-- ---- usable chips are good ones
twice_not : (b : Bool) → T (not (not b)) → T b
twice_not true t = tt
twice_not false t = t

pub usable_hard : (octets : List ℕ) (place : ℕ) → UsableAt (hard_recording octets) place → get_or octets place 5 ≤ 4
unfolding hard_recording
usable_hard octets place u =
    let x = get_or octets place 5 in
    leb→le x 4 (twice_not (leb x 4)
    (subst (λ (b : Bool). T (not b)) (ap is_unusable (get_or-map hard_taken octets place 5) ∙ unusable_hard x) u))

pub usable_soft : (i q : List Float) (place : ℕ) → UsableAt (soft_recording i q) place
    → T (usable (get_or i place nan)) × T (usable (get_or q place nan))
unfolding soft_recording
usable_soft [] q place u = absurd u
usable_soft (x ∷ i) [] place u = absurd u
usable_soft (x ∷ i) (y ∷ q) zero u =
    let t = soft_used x y u in (both_left (usable x) (usable y) t, both_right (usable x) (usable y) t)
usable_soft (x ∷ i) (y ∷ q) (suc place) u = usable_soft i q place u

pub there_bytes : (bytes : List ℤ) (m : ℕ) → m ≤ length (byte_recording bytes) → 2 * m ≤ length bytes
there_bytes bytes m h = omega (arith, length_bytes bytes)
