-- A part of a frame with nothing refused yet, and a piece behind its chips: what it becomes.
--     Cut, cut           a part that goes on, cut at the end of its last whole octet
--     becomes_whole      whole octets are heard: chips held and the piece, or the piece alone
--     becomes_held       a part of an octet is held
-- Assumes nothing.
use mathlib.Core.Path.{◌≡◌, sym, ap, subst, ◌∙◌}
use mathlib.Core.List.{List, ◌++◌, append_assoc}
use Rattle.std.specs.Prelude.{None}
use Prim.Native.Nat.{ℕ, ◌+◌, ◌*◌, ◌%◌, ◌≤◌, ◌<◌}
use native.Mathlib.Omega.{arith}
use lib.ListN.{length, take, drop, take-append-drop, length-append, length-drop}
use lib.Seq.{length-take-le}
use Rattle.rules_rates.specs.declared.Rate.{Rate}
use Rattle.rules_rates.specs.declared.Rate.TheVariants.{One}
use Rattle.rules_rates.specs.Rates.{octet_symbols, octet_chips}
use Rattle.rules_chips.specs.Chips.{Taken, hard_recording}
use Rattle.rules_chips.proofs.Recorders.{length_hard, append_hard}
use Rattle.rules_bits.specs.Growths.{last_heard}
use Rattle.rules_frame.specs.declared.Kind.{Kind}
use Rattle.rules_receiving.specs.declared.Ear.{Ear}
use Rattle.rules_receiving.specs.Sections.{Section, words_yet, section_unusable, section_odd, GoesOn, SectionIs}
use Rattle.rules_receiving.proofs.Advance.{unusable_first, odd_first}
use Rattle.rules_receiving.proofs.Stands.{Stands, resume, held_is}
use Rattle.receive_parts.specs.declared.Piece.{Piece}
use Rattle.receive_parts.specs.Pieces.{WholeHeard, PartHeld, Becomes}
use Rattle.receive_parts.proofs.Whole.{whole_octets_lem}
use Rattle.receive_parts.proofs.Held.{part_held}

-- ---- a part that goes on, cut at the end of its last whole octet

pub record Cut (k : Kind) (p : Section) (m h : ℕ) (fed : List ℕ) (e : Ear) (hold out : List ℕ) : Type 0 where
  pub first : List ℕ
  pub held : List ℕ
  pub both : first ++ held ≡ fed
  pub at : length first ≡ p.from + octet_chips p.rate * m
  pub held_long : length held ≡ h
  pub held_is : take h hold ≡ held
  pub usable : section_unusable p (hard_recording first) ≡ None
  pub even : section_odd p (hard_recording first) ≡ None
  pub stands : Stands k p m (hard_recording first) e out

pub cut : (k : Kind) (p : Section) (m h : ℕ) (fed : List ℕ) (e : Ear) (hold out : List ℕ)
    → length fed ≡ p.from + octet_chips p.rate * m + h → h < octet_chips p.rate
    → section_unusable p (hard_recording fed) ≡ None → section_odd p (hard_recording fed) ≡ None
    → GoesOn k p fed e hold out → Cut k p m h fed e hold out
cut k p m h fed e hold out size part u o g = record {
  first = first;
  held = held;
  both = both;
  at = at;
  held_long = long;
  held_is = ap (λ (i : ℕ). take i hold) (sym long) ∙ held_is k p m first held e hold out at small goes;
  usable = unusable_first p (hard_recording first) (hard_recording held) whole
      (subst (λ (cs : List Taken). section_unusable p cs ≡ None) split u);
  even = odd_first p (hard_recording first) (hard_recording held) whole
      (subst (λ (cs : List Taken). section_odd p cs ≡ None) split o);
  stands = resume k p m first held e hold out at small goes;
}
  where
    end : ℕ
    end = p.from + octet_chips p.rate * m

    first : List ℕ
    first = take end fed

    held : List ℕ
    held = drop end fed

    both : first ++ held ≡ fed
    both = take-append-drop end fed

    split : hard_recording fed ≡ hard_recording first ++ hard_recording held
    split = ap hard_recording (sym both) ∙ append_hard first held

    at : length first ≡ p.from + octet_chips p.rate * m
    at = length-take-le end fed (omega (arith, size))

    long : length held ≡ h
    long = length-drop end fed ∙ omega (arith, size)

    small : length held < octet_chips p.rate
    small = omega (arith, long, part)

    whole : p.from ≤ length (hard_recording first)
    whole = omega (arith, length_hard first, at)

    goes : GoesOn k p (first ++ held) e hold out
    goes = subst (λ (l : List ℕ). GoesOn k p l e hold out) (sym both) g

-- ---- whole octets

whole_behind : (k : Kind) (p : Section) (m h w : ℕ) (fed : List ℕ) (e : Ear) (hold out piece : List ℕ) (x : Piece)
    (hold' y : List ℕ) → length fed ≡ p.from + octet_chips p.rate * m + h → h < octet_chips p.rate
    → h + length piece ≡ octet_chips p.rate * w → m + w ≤ length out → p.first % 2 ≡ 0
    → section_unusable p (hard_recording fed) ≡ None → section_odd p (hard_recording fed) ≡ None → GoesOn k p fed e hold out
    → WholeHeard p.rate (p.from + octet_chips p.rate * m) (p.first + octet_symbols p.rate * m) e
    (take h hold ++ piece) w x y
    → SectionIs k p (fed ++ piece) x.bad x.odd x.ear hold'
    (take m out ++ (y ++ drop (m + w) out))
whole_behind k p m h w fed e hold out piece x hold' y size part long room even u o g heard =
    let c = cut k p m h fed e hold out size part u o g in
    let row = take h hold ++ piece in
    let row_long : length row ≡ octet_chips p.rate * w =
    length-append (take h hold) piece
    ∙ ap (λ (i : ℕ). i + length piece) (ap length c.held_is ∙ c.held_long) ∙ long in
    let all : c.first ++ row ≡ fed ++ piece =
    ap (λ (l : List ℕ). c.first ++ (l ++ piece)) c.held_is
    ∙ sym (append_assoc c.first c.held piece) ∙ ap (λ (l : List ℕ). l ++ piece) c.both in
    subst (λ (l : List ℕ). SectionIs k p l x.bad x.odd x.ear hold'
    (take m out ++ (y ++ drop (m + w) out))) all
    (whole_octets_lem k p m w c.first row e hold' out x y c.at row_long c.usable c.even c.stands even room
    heard)

pub becomes_whole : (r : Rate) (from first m h w count : ℕ) (e : Ear) (hold out piece : List ℕ) (x : Piece)
    (hold' y : List ℕ) → count ≡ from + octet_chips r * m + h → h < octet_chips r
    → h + length piece ≡ octet_chips r * w → m + w ≤ length out
    → WholeHeard r (from + octet_chips r * m) (first + octet_symbols r * m) e (take h hold ++ piece) w x y
    → Becomes r from first count e hold out piece x hold' (take m out ++ (y ++ drop (m + w) out))
becomes_whole r from first m h w count e hold out piece x hold' y size part long room heard k p fed q f s even c u o g =
    whole_behind k p m h w fed e hold out piece x hold' y (rw (q, f) (c ∙ size)) (rw q part) (rw q long) room
    (rw s even) u o g (rw (q, f, s) heard)

-- ---- a part of an octet

held_behind : (k : Kind) (p : Section) (m h : ℕ) (fed : List ℕ) (e : Ear) (hold out piece : List ℕ) (x : Piece)
    (hold' : List ℕ) → length fed ≡ p.from + octet_chips p.rate * m + h
    → h + length piece < octet_chips p.rate
    → section_unusable p (hard_recording fed) ≡ None → section_odd p (hard_recording fed) ≡ None → GoesOn k p fed e hold out
    → take (h + length piece) hold' ≡ take h hold ++ piece
    → PartHeld p.rate (p.from + octet_chips p.rate * m) e h (take h hold ++ piece) x
    → SectionIs k p (fed ++ piece) x.bad x.odd x.ear hold' out
held_behind k p m h fed e hold out piece x hold' size part u o g keeps looked =
    let c = cut k p m h fed e hold out size (omega (arith, part)) u o g in
    let all : c.first ++ (c.held ++ piece) ≡ fed ++ piece =
    sym (append_assoc c.first c.held piece) ∙ ap (λ (l : List ℕ). l ++ piece) c.both in
    let old : fed ≡ c.first ++ c.held = sym c.both in
    let row : take h hold ++ piece ≡ c.held ++ piece = ap (λ (l : List ℕ). l ++ piece) c.held_is in
    let long : h ≡ length c.held = sym c.held_long in
    subst (λ (l : List ℕ). SectionIs k p l x.bad x.odd x.ear hold' out) all
    (part_held k p m c.first c.held piece e hold' out x c.at (omega (arith, part, long)) c.usable
    (subst (λ (l : List ℕ). section_odd p (hard_recording l) ≡ None) old o) c.stands
    (λ one. g.last_is one ∙ ap (λ (l : List ℕ). last_heard One p.phase (words_yet p (hard_recording l))) old)
    (ap (λ (i : ℕ). take (i + length piece) hold') (sym long) ∙ keeps ∙ row)
    (subst (λ (i : ℕ). PartHeld p.rate (p.from + octet_chips p.rate * m) e i (c.held ++ piece) x) long
    (subst (λ (l : List ℕ). PartHeld p.rate (p.from + octet_chips p.rate * m) e h l x) row looked)))

pub becomes_held : (r : Rate) (from first m h count : ℕ) (e : Ear) (hold out piece : List ℕ) (x : Piece)
    (hold' : List ℕ) → count ≡ from + octet_chips r * m + h → h + length piece < octet_chips r
    → take (h + length piece) hold' ≡ take h hold ++ piece
    → PartHeld r (from + octet_chips r * m) e h (take h hold ++ piece) x
    → Becomes r from first count e hold out piece x hold' out
becomes_held r from first m h count e hold out piece x hold' size part keeps looked k p fed q f s even c u o g =
    held_behind k p m h fed e hold out piece x hold' (rw (q, f) (c ∙ size)) (rw q part) u o g keeps
    (rw (q, f) looked)
