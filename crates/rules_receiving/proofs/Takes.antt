-- What it says that a receiver takes a feed or a close, by its status, and back.
--     takes_room, takes_phase, takes_last      whatever the status
--     takes_front, takes_payload, takes_stays  status 1, 2, and what is left: 3
--     takes_refused, refused_most              status 3: its number is 15 at most
--     front_takes, payload_takes, refused_takes    back
--     shut_takes                               a receiver with status 0 takes nothing, whatever the buffer
-- Assumes nothing.
use mathlib.Core.Path.{◌≡◌, refl, sym, subst}
use mathlib.Core.Bool.{Bool, true, false, cond, ◌&&◌}
use Prim.Native.Nat.{ℕ, ◌≤◌, ◌<◌}
use native.Mathlib.Omega.{arith}
use borrow.Author.Tests.{lt-ltb, le-leb, eq-eqb, ne_eqb}
use lib.Dec.{T, eqb, ltb, leb, eqb→eq, ltb→lt, leb→le}
use Rattle.base.proofs.Tests.{left_is, right_is}
use Rattle.rules_rates.specs.Rates.{is_code, rate_of}
use Rattle.rules_frame.specs.Frame.{is_kind, kind_of, front_chips, frame_chips}
use Rattle.rules_receiving.specs.declared.Progress.{Progress}
use Rattle.rules_receiving.specs.Calls.{sound_front, sound_payload, sound_refused, takes}

holds : (b : Bool) → b ≡ true → T b
holds b e = subst T (sym e) tt

-- the frame's chips, as its numbers tell them
abbrev pub all_of : Progress → ℕ
all_of p = frame_chips (kind_of p.kind) (rate_of p.rate) p.n

-- the test of the status
abbrev by_status : Progress → Bool
by_status p =
    cond (eqb p.status 1) (sound_front p)
    (cond (eqb p.status 2) (sound_payload p) (eqb p.status 3 && sound_refused p))

-- the numbers of a front that comes, of a payload that comes, and of a refusal that stays
pub record FrontSound (p : Progress) : Type 0 where
  pub is_kind_lem : is_kind p.kind ≡ true
  pub short : p.count < front_chips (kind_of p.kind)

pub record PayloadSound (p : Progress) : Type 0 where
  pub is_kind_lem : is_kind p.kind ≡ true
  pub is_code_lem : is_code p.rate ≡ true
  pub few : p.n ≤ 4095
  pub from : front_chips (kind_of p.kind) ≤ p.count
  pub to : p.count ≤ all_of p

pub data RefusedSound (p : Progress) : Type 0 where
  refused_kind : is_kind p.kind ≡ false → p.number ≡ 1 → RefusedSound p
  refused_front : is_kind p.kind ≡ true → 9 ≤ p.number → p.number ≤ 15 → RefusedSound p

payload_sound : (p : Progress) → sound_payload p ≡ true → PayloadSound p
payload_sound p h =
    let a = is_kind p.kind in
    let b = is_code p.rate in
    let c = leb p.n 4095 in
    let d = leb (front_chips (kind_of p.kind)) p.count in
    let e = leb p.count (all_of p) in
    let h4 = left_is (a && b && c && d) e h in
    let h3 = left_is (a && b && c) d h4 in
    let h2 = left_is (a && b) c h3 in
    record {
      is_kind_lem = left_is a b h2;
      is_code_lem = right_is a b h2;
      few = leb→le p.n 4095 (holds c (right_is (a && b) c h3));
      from = leb→le (front_chips (kind_of p.kind)) p.count (holds d (right_is (a && b && c) d h4));
      to = leb→le p.count (all_of p) (holds e (right_is (a && b && c && d) e h));
    }

refused_sound : (p : Progress) → sound_refused p ≡ true → RefusedSound p
refused_sound p h = by (is_kind p.kind) refl
  where
    by : (b : Bool) → is_kind p.kind ≡ b → RefusedSound p
    by true e =
        let a = leb 9 p.number in
        let c = leb p.number 15 in
        let both : (a && c) ≡ true = rw e at h in
        refused_front e (leb→le 9 p.number (holds a (left_is a c both)))
        (leb→le p.number 15 (holds c (right_is a c both)))
    by false e =
        let is : eqb p.number 1 ≡ true = rw e at h in
        refused_kind e (eqb→eq p.number 1 (holds (eqb p.number 1) is))

sound_refused_lem : (p : Progress) → RefusedSound p → sound_refused p ≡ true
sound_refused_lem p (refused_kind e n) = rw (e, n)
sound_refused_lem p (refused_front e a b) = rw (e, le-leb 9 p.number a, le-leb p.number 15 b)

pub refused_most : {p : Progress} → RefusedSound p → p.number ≤ 15
refused_most (refused_kind e n) = omega (arith, n)
refused_most (refused_front e a b) = b

module _ (p : Progress) (room : ℕ) where
  abbrev same : Bool
  same = eqb p.room room

  abbrev phased : Bool
  phased = ltb p.ear.phase 4

  abbrev lasting : Bool
  lasting = ltb p.ear.last 4

  module _ (h : takes p room ≡ true) where
    firsts : (same && phased && lasting) ≡ true
    firsts = unfold takes in left_is (same && phased && lasting) (by_status p) h

    status_sound : by_status p ≡ true
    status_sound = unfold takes in right_is (same && phased && lasting) (by_status p) h

    pub takes_room : p.room ≡ room
    takes_room =
        eqb→eq p.room room (holds same (left_is same phased (left_is (same && phased) lasting firsts)))

    pub takes_phase : p.ear.phase < 4
    takes_phase =
        ltb→lt p.ear.phase 4 (holds phased (right_is same phased (left_is (same && phased) lasting firsts)))

    pub takes_last : p.ear.last < 4
    takes_last = ltb→lt p.ear.last 4 (holds lasting (right_is (same && phased) lasting firsts))

    pub takes_front : p.status ≡ 1 → FrontSound p
    takes_front st =
        let a = is_kind p.kind in
        let b = ltb p.count (front_chips (kind_of p.kind)) in
        let both : (a && b) ≡ true = rw st at status_sound in
        record {
          is_kind_lem = left_is a b both;
          short = ltb→lt p.count (front_chips (kind_of p.kind)) (holds b (right_is a b both));
        }

    pub takes_payload : p.status ≡ 2 → PayloadSound p
    takes_payload st = let is : sound_payload p ≡ true = rw st at status_sound in payload_sound p is

    pub takes_stays : (p.status ≡ 1 → ⊥) → (p.status ≡ 2 → ⊥) → p.status ≡ 3
    takes_stays a b =
        let c = eqb p.status 3 in
        let both : (c && sound_refused p) ≡ true =
        rw (ne_eqb p.status 1 a, ne_eqb p.status 2 b) at status_sound in
        eqb→eq p.status 3 (holds c (left_is c (sound_refused p) both))

    pub takes_refused : p.status ≡ 3 → RefusedSound p
    takes_refused st = let is : sound_refused p ≡ true = rw st at status_sound in refused_sound p is

  -- ---- and back

  module _ (r : p.room ≡ room) (f : p.ear.phase < 4) (l : p.ear.last < 4) where
    pub front_takes : p.status ≡ 1 → FrontSound p → takes p room ≡ true
    unfolding takes
    front_takes st x =
        rw (
          eq-eqb p.room room r,
          lt-ltb p.ear.phase 4 f,
          lt-ltb p.ear.last 4 l,
          st,
          x.is_kind_lem,
          lt-ltb p.count (front_chips (kind_of p.kind)) x.short,
        )

    pub payload_takes : p.status ≡ 2 → PayloadSound p → takes p room ≡ true
    unfolding takes
    payload_takes st x =
        rw (
          eq-eqb p.room room r,
          lt-ltb p.ear.phase 4 f,
          lt-ltb p.ear.last 4 l,
          st,
          x.is_kind_lem,
          x.is_code_lem,
          le-leb p.n 4095 x.few,
          le-leb (front_chips (kind_of p.kind)) p.count x.from,
          le-leb p.count (all_of p) x.to,
        )

    pub refused_takes : p.status ≡ 3 → RefusedSound p → takes p room ≡ true
    unfolding takes
    refused_takes st x =
        rw (eq-eqb p.room room r, lt-ltb p.ear.phase 4 f, lt-ltb p.ear.last 4 l, st) (sound_refused_lem p x)

  pub shut_takes : p.status ≡ 0 → takes p room ≡ false
  unfolding takes
  shut_takes st = rw st (by (same && phased && lasting))
    where
      by : (b : Bool) → (b && false) ≡ false
      by true = refl
      by false = refl
