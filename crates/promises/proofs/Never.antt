-- Numbers that a reading never answers: 9 of bytes, where the search for an unusable chip finds none; 7 where the rows
-- agree. Both by what a reading is refused with (`reading_refuses`). Assumes nothing.
use mathlib.Core.Path.{◌≡◌, refl, sym, ap, ◌∙◌, subst}
use mathlib.Core.Bool.{Bool, true, false, cond, not}
use mathlib.Core.List.{List, [], ◌∷◌}
use Rattle.std.specs.Prelude.{Option, None, Some, Result, Ok, Err}
use Prim.Native.Nat.{ℕ, zero, suc, ◌-◌, ◌%◌, ◌<◌}
use native.Mathlib.Omega.{arith}
use borrow.Author.Tests.{lt-ltb, eq-eqb, ne_eqb}
use lib.Dec.{T, eqb}
use lib.ListN.{length, take, drop}
use lib.IntN.{ℤ}
use Rattle.base.proofs.Tests.{branch}
use Rattle.rules_chips.specs.Chips.{Taken, is_unusable, byte_recording}
use Rattle.rules_frame.specs.declared.Kind.{Kind}
use Rattle.rules_frame.specs.Frame.{is_kind, kind_of, front_chips, frame_chips}
use Rattle.rules_calls.specs.declared.Refusal.{Refusal}
use Rattle.rules_calls.specs.declared.Refusal.TheVariants.{NoKind, RowsDiffer}
use Rattle.rules_calls.specs.declared.Told.{Told}
use Rattle.rules_calls.specs.declared.Reading.{Reading}
use Rattle.rules_calls.specs.declared.Record.{Record}
use Rattle.rules_calls.specs.Answers.{refusal_number, record_of}
use Rattle.rules_reading.specs.Reading.{first_unusable, front_of, whole_of, payload_reading, after_front, reading_of}
use Rattle.promises.specs.Calls.{Read, in_hard, in_soft, in_bytes, refused}
use Rattle.promises.specs.Only.{RowsRefused, NoByteUnusable}
use Rattle.rules_reading.proofs.Refusals.{
  front_short,
  front_unusable,
  front_odd_lem,
  sfd_differs,
  crc_differs,
  no_signal,
  no_service,
  no_length,
  WholeRefusal,
  met_in_front,
  frame_ends,
  RefusesIf,
  whole_refuses,
  whole_number,
  PayloadRefusal,
  no_room,
  payload_unusable,
  payload_odd_lem,
  PayloadIf,
  payload_comes,
  payload_number,
}

-- ---- a list of chips that are all usable, and its parts
data NoneUnusable : List Taken → Type 0 where
  none_left : NoneUnusable []
  one_more : {c : Taken} {cs : List Taken} → is_unusable c ≡ false → NoneUnusable cs → NoneUnusable (c ∷ cs)

usable_take : (n : ℕ) {cs : List Taken} → NoneUnusable cs → NoneUnusable (take n cs)
usable_take zero u = none_left
usable_take (suc n) none_left = none_left
usable_take (suc n) (one_more e u) = one_more e (usable_take n u)

usable_drop : (n : ℕ) {cs : List Taken} → NoneUnusable cs → NoneUnusable (drop n cs)
usable_drop zero u = u
usable_drop (suc n) none_left = none_left
usable_drop (suc n) (one_more e u) = usable_drop n u

none_found : (at : ℕ) {cs : List Taken} → NoneUnusable cs → first_unusable at cs ≡ None
unfolding first_unusable
none_found at none_left = refl
none_found at (one_more e u) = rw e (none_found (suc at) u)

bytes_all : (bytes : List ℤ) → NoneUnusable (byte_recording bytes)
unfolding byte_recording
bytes_all [] = none_left
bytes_all (x ∷ []) = none_left
bytes_all (x ∷ y ∷ bytes) = one_more refl (bytes_all bytes)

-- ---- what a whole reading is refused with, rows agreeing or not
data ReadingRefusal (k : Kind) (agree : Bool) (rec : List Taken) : Refusal → Type 0 where
  no_kind : ReadingRefusal k agree rec NoKind
  rows_differ : agree ≡ false → ReadingRefusal k agree rec RowsDiffer
  by_front : {e : Refusal} → WholeRefusal k rec e → ReadingRefusal k agree rec e
  by_payload : {e : Refusal} (t : Told) → PayloadRefusal k t rec e → ReadingRefusal k agree rec e

abbrev RefusesReading : Kind → Bool → List Taken → Result Reading Refusal → Type 0
RefusesReading k agree rec (Err e) = ReadingRefusal k agree rec e
RefusesReading k agree rec (Ok g) = Unit {0}

reading_refuses : (kind : ℕ) (agree : Bool) (rec : List Taken) (room : ℕ)
    → RefusesReading (kind_of kind) agree rec (reading_of kind agree rec room)
unfolding reading_of
reading_refuses kind agree rec room =
    let k = kind_of kind in
    branch (RefusesReading k agree rec) (not (is_kind kind)) _ _ no_kind
    (λ a. by agree _ rows_differ (after (whole_of k rec (front_of k rec)) (whole_refuses k rec)))
  where
    told : (t : Told) (g : Result Reading Refusal) → PayloadIf (kind_of kind) t rec room g → RefusesReading (kind_of kind) agree rec g
    told t (Err e) h = by_payload t h
    told t (Ok g) h = tt

    after : (f : Result Told Refusal) → RefusesIf (kind_of kind) rec f
        → RefusesReading (kind_of kind) agree rec (after_front (kind_of kind) rec room f)
    after (Err e) h = by_front h
    after (Ok t) h =
        told t (payload_reading (kind_of kind) t rec room) (payload_comes (kind_of kind) t rec room)

    by : (b : Bool) (g : Result Reading Refusal) → (b ≡ false → ReadingRefusal (kind_of kind) agree rec RowsDiffer)
        → RefusesReading (kind_of kind) agree rec g
        → RefusesReading (kind_of kind) agree rec (cond (not b) (Err RowsDiffer) g)
    by true g d h = h
    by false g d h = d refl

-- the answer has not a number that no such refusal has
unanswered : (n : ℕ) → (0 ≡ n → ⊥) → (kind : ℕ) (agree : Bool) (rec : List Taken) (room : ℕ) (a : Record)
    (left : List ℕ)
    → Read kind agree rec room a left
    → ((e : Refusal) → ReadingRefusal (kind_of kind) agree rec e → refusal_number e ≡ n → ⊥) → a.number ≡ n → ⊥
unanswered n no-good kind agree rec room a left read never e =
    by (reading_of kind agree rec room) (reading_refuses kind agree rec room)
    (ap (λ (v : Record). v.number) (sym read.answer) ∙ e)
  where
    by : (g : Result Reading Refusal) → RefusesReading (kind_of kind) agree rec g → (record_of g).number ≡ n → ⊥
    by (Err x) h z = never x h z
    by (Ok g) h z = no-good z

-- ---- 9 of bytes
no_some : {p : ℕ} {o : Option ℕ} → o ≡ None → o ≡ Some p → ⊥
no_some {p} e f = subst T (ap is_none (sym e ∙ f)) tt
  where
    is_none : Option ℕ → Bool
    is_none None = true
    is_none (Some q) = false

not_nine : (k : Kind) (agree : Bool) (rec : List Taken) (e : Refusal) → NoneUnusable rec → ReadingRefusal k agree rec e
    → refusal_number e ≡ 9 → ⊥
not_nine k agree rec e u no_kind z = omega arith
not_nine k agree rec e u (rows_differ d) z = omega arith
not_nine k agree rec e u (by_front (met_in_front (front_short l))) z = omega arith
not_nine k agree rec e u (by_front (met_in_front (front_unusable p l f))) z =
    no_some (none_found 0 (usable_take (front_chips k) u)) f
not_nine k agree rec e u (by_front (met_in_front (front_odd_lem p l v f))) z = omega arith
not_nine k agree rec e u (by_front (met_in_front (sfd_differs c d))) z = omega arith
not_nine k agree rec e u (by_front (met_in_front (crc_differs c s d))) z = omega arith
not_nine k agree rec e u (by_front (met_in_front (no_signal s a))) z = omega arith
not_nine k agree rec e u (by_front (met_in_front (no_service s a b))) z = omega arith
not_nine k agree rec e u (by_front (met_in_front (no_length s a b d))) z = omega arith
not_nine k agree rec e u (by_front (frame_ends t h l)) z = omega arith
not_nine k agree rec e u (by_payload t no_room) z = omega arith
not_nine k agree rec e u (by_payload t (payload_unusable p f)) z =
    no_some
    (none_found (front_chips k)
    (usable_take (frame_chips k t.rate t.n - front_chips k) (usable_drop (front_chips k) u)))
    f
not_nine k agree rec e u (by_payload t (payload_odd_lem p f)) z = omega arith

pub no_byte_unusable : NoByteUnusable
no_byte_unusable kind bytes room a left read =
    unanswered 9 (λ z. omega arith) kind (eqb (length bytes % 2) 0) (byte_recording bytes) room a left read
    (λ e. not_nine _ _ _ e (bytes_all bytes))

-- ---- 7 where the rows agree
not_seven : (k : Kind) (agree : Bool) (rec : List Taken) (e : Refusal) → agree ≡ true → ReadingRefusal k agree rec e
    → refusal_number e ≡ 7 → ⊥
not_seven k agree rec e same no_kind z = omega arith
not_seven k agree rec e same (rows_differ d) z = subst T (sym same ∙ d) tt
not_seven k agree rec e same (by_front w) z = omega (arith, z, whole_number w)
not_seven k agree rec e same (by_payload t w) z = omega (arith, z, payload_number w)

agreeing : (rec : List Taken) (kind : ℕ) (agree : Bool) (room : ℕ) (a : Record) (left : List ℕ)
    → Read kind agree rec room a left → agree ≡ true → a.number ≡ 7 → ⊥
agreeing rec kind agree room a left read same =
    unanswered 7 (λ z. omega arith) kind agree rec room a left read (λ e. not_seven _ _ _ e same)

differing : (rec : List Taken) (kind : ℕ) (agree : Bool) (room : ℕ) (a : Record) (left : List ℕ)
    → Read kind agree rec room a left → kind < 2 → agree ≡ false → a ≡ refused 7 0
unfolding reading_of
differing rec kind agree room a left read h e = read.answer ∙ simp (lt-ltb kind 2 h, e)

pub rows_refused : RowsRefused
rows_refused kind (in_hard octets) room a left read =
    ((λ h n. absurd (n tt)), λ seven e. agreeing _ kind true room a left read refl seven)
rows_refused kind (in_soft i q) room a left read = (
  (λ h n. differing _ kind _ room a left read h (ne_eqb (length i) (length q) n)),
  λ seven e. agreeing _ kind _ room a left read (eq-eqb (length i) (length q) e) seven,
)
rows_refused kind (in_bytes bytes) room a left read = (
  (λ h n. differing _ kind _ room a left read h (ne_eqb (length bytes % 2) 0 n)),
  λ seven e. agreeing _ kind _ room a left read (eq-eqb (length bytes % 2) 0 e) seven,
)
