-- `write_frame::put_front` meets its contract: the header's chips go over the part that starts where the preamble's
-- end.
-- Assumes nothing.
use mathlib.Core.Path.{◌≡◌, refl, sym, ap₂, ◌∙◌}
use mathlib.Core.List.{List}
use Prim.Native.Nat.{ℕ, ◌-◌, ◌*◌, ◌≤◌}
use native.Mathlib.Nat.{le_trans}
use native.Mathlib.Omega.{arith}
use lib.Dec.{lit≤}
use lib.ListN.{length, take, drop, length-take, length-drop}
use borrow.Author.Rules.{rules}
use borrow.Rule.Slice.PartMut.{put_mid}
use Rattle.base.specs.Over.{over}
use Rattle.base.proofs.Over.{over_next}
use Rattle.rules_rates.specs.declared.Rate.{Rate}
use Rattle.rules_rates.specs.declared.Rate.TheVariants.{One}
use Rattle.rules_rates.specs.Rates.{octet_chips}
use Rattle.rules_frame.specs.declared.Kind.{Kind}
use Rattle.rules_frame.specs.declared.Kind.TheVariants.{Long, Short}
use Rattle.rules_frame.specs.Frame.{preamble_chips, header_rate, front_chips}
use Rattle.write_octets.specs.Sending.{State, run, ran}
use Rattle.write_octets.proofs.Run.{length_run}
use Rattle.common_kinds.specs.Starts.{Starts}
use Rattle.common_lines.specs.declared.Line.{Line}
use Rattle.write_octets.specs.Line.{state}
use Rattle.write_frame.specs.Parts.{preamble_octets, first_state, after_preamble, front_sent, after_front}
use Rattle.write_frame.proofs.put_front.Statement.{statement}
use Rattle.write_frame.proofs.put_front.Tie as tie

shorter : (k : Kind) → preamble_chips k ≤ front_chips k
shorter Long = lit≤ tt
shorter Short = lit≤ tt

preamble_count_lem : (k : Kind) → 88 * length (preamble_octets k) ≡ preamble_chips k
unfolding preamble_octets
preamble_count_lem Long = refl
preamble_count_lem Short = refl

-- the header's chips fit behind the preamble's
header_room : (k : Kind) (r : Rate) (n a : ℕ) (o : List ℕ) → r ≡ header_rate k → n ≡ 6 → a ≡ preamble_chips k
    → front_chips k ≤ length o
    → octet_chips r * n ≤ length (take (length o - a) (drop a o))
header_room Long r n a o e f g h = rw (e, f, g, length-take, length-drop) (omega arith)
header_room Short r n a o e f g h = rw (e, f, g, length-take, length-drop) (omega arith)

front : (k : Kind) (p n : ℕ) (r : Rate) (h d o y : List ℕ) (s0 s1 s2 : State) → s0 ≡ first_state k p
    → (s1 ≡ ran One 0 s0 (preamble_octets k)) × (o ≡ over (run One 0 s0 (preamble_octets k)) d) → n ≡ preamble_chips k
    → r ≡ header_rate k → (s2 ≡ ran r 0 s1 h) × (y ≡ over (run r 0 s1 h) (take (length o - n) (drop n o)))
    → (s2 ≡ after_front k p h) × (put_mid n (length o - n) o y ≡ over (front_sent k p h) d)
unfolding after_front after_preamble front_sent
front k p n r h d o y s0 s1 s2 e0 e1 en er e2 =
    let count : length (run One 0 s0 (preamble_octets k)) ≡ n = length_run One 0 s0 (preamble_octets k)
    ∙ preamble_count_lem k ∙ sym en in
    (cc, over_next (run One 0 s0 (preamble_octets k)) (run r 0 s1 h) d o y n e1.1 count e2.1 ∙ cc)

starts : (k : Kind) (p : ℕ) (l : Line) → Starts k p l → state l ≡ first_state k p
unfolding first_state
starts k p l s = ap₂ {C = State} (λ a b. record { past = a; phase = b }) s.past s.at_phase

-- the buffer keeps its length, and the preamble is within
long : (c : tie.After-header_rate)
    → front_chips c.args.k ≤
    length c.put_preamble-l1.new.chips
long c =
    rw c.put_preamble-l1.auto.chips
    c.requires.1

inside : (c : tie.After-header_rate) → c.preamble_chips-at.result ≤ length c.put_preamble-l1.new.chips
inside c =
    rw c.preamble_chips-at.ensures
    (le_trans (shorter c.args.k) (long c))

put_preamble_requires : tie.Need-put_preamble-l1-requires
put_preamble_requires c κs =
    le_trans (shorter c.args.k) c.requires.1

put_octets_requires : tie.Need-put_octets-requires
put_octets_requires c κs =
    header_room c.args.k _ _ _ c.put_preamble-l1.new.chips
    c.header_rate.ensures c.requires.0 c.preamble_chips-at.ensures (long c.before)

returns : tie.Need-returns
returns c =
    let first = c.put_preamble-l1 in
    let rest = c.put_octets in
    front c.args.k _ _ _ _ _ first.new.chips rest.new.chips _ _ _
    (starts _ _ _ c.first_line-l0.ensures) first.ensures
    c.preamble_chips-at.ensures c.header_rate.ensures rest.ensures

pub put_front_spec : {M : Type 1} → statement M
put_front_spec =
    tie.close
    (tie.spec
    (λ c κs. search rules) put_preamble_requires (λ c κs. search rules) (λ c κs. search rules) (λ c. inside c)
    (λ c. inside c) (λ c. search rules) put_octets_requires (λ c. search rules) returns)
