-- One word more at every turn.
use Rattle.std.proofs.Common.{◌≡◌, ◌*◌, ◌<◌, ℕ, ◌+◌, ◌-◌, List, ◌++◌, length, get_or, take, drop, sym, ap, ◌∙◌, refl, arith, add-one, length-take, length-drop}
use Rattle.std.proofs.Math.Seq.{take-length, take-suc}
use borrow.Rule.Slice.PartMut.{put_mid}
use Rattle.base.specs.Over.{over}
use Rattle.base.proofs.Over.{over_next}
use Rattle.rules_symbols.specs.Words.{barker_word}
use Rattle.write_octets.specs.Line.{barker_words}
use Rattle.write_octets.proofs.Barkers.{barkers_snoc, length_barkers, barker_entry, length_entry}
use Rattle.write_octets.proofs.puts.put_barkers.Goals as goal

turn : (ps w d o y : List ℕ) (i n : ℕ) → o ≡ over (barker_words (take i ps)) d → n ≡ 11 * i → i < length ps
    → w ≡ barker_word (get_or ps i 0) → y ≡ over w (take (length o - n) (drop n o))
    → put_mid n (length o - n) o y ≡ over (barker_words (take (i + 1) ps)) d
turn ps w d o y i n e h k g f =
    over_next _ w d o y n e (length_barkers _ ∙ rw length-take (omega arith)) f
    ∙ ap (λ (v : List ℕ). over v d) (ap (λ (v : List ℕ). barker_words (take i ps) ++ v) g ∙ sym (barkers_snoc _ _))
    ∙ rw (add-one, take-suc ps i 0)

pub slice_bounds-put-end : goal.slice_bounds-put-end
slice_bounds-put-end c = sym (length_entry _ (get_or c.args.phases.now c.loop-i.i 0) c.requires.0)

pub put-requires : goal.put-requires
put-requires c =
    rw (length_entry _ (get_or c.args.phases.now c.loop-i.i 0) c.requires.0)
    (simp (length-take, length-drop) (omega arith))

pub loop-i-init : goal.loop-i-init
unfolding over barker_words
loop-i-init c = refl

pub loop-i-preserved : goal.loop-i-preserved
loop-i-preserved c =
    turn c.args.phases.now _ _ _ _ c.loop-i.i _ c.loop-i.invariant refl c.loop-i-test.true
    (barker_entry _ (get_or c.args.phases.now c.loop-i.i 0) c.requires.0) c.put.ensures.chips

pub returns : goal.returns
returns c = record {
  chips = c.loop-i.invariant
      ∙ ap (λ (v : List ℕ). over (barker_words v) c.args.chips.now)
      (take_whole c.args.phases.now c.loop-i.i (omega arith));
}
  where
    take_whole : (ps : List ℕ) (i : ℕ) → i ≡ length ps → take i ps ≡ ps
    take_whole ps i h = rw (h, take-length)
