-- `start_of`: 1, then 18, then the search.
use mathlib.Core.Path.{sym, ap, ◌∙◌}
use Rattle.base.proofs.Tests.{failed, passed}
use Rattle.rules_chips.specs.Chips.{hard_recording}
use Rattle.rules_frame.specs.declared.Kind.{Kind}
use Rattle.rules_finding.specs.Finding.{first_start}
use Rattle.rules_finding.proofs.Laws.{offsets_are, finding_no_kind, finding_no_offsets, finding_first}
use Rattle.find_start.proofs.start_of.Goals as goal

pub returns-then-not-is_kind : goal.returns-then-not-is_kind
returns-then-not-is_kind c = record {
  answer = sym (finding_no_kind _ _ _ (failed c.is_kind.ensures.answer c.if-not-is_kind.true));
}

pub returns-then-not-is_offsets : goal.returns-then-not-is_offsets
returns-then-not-is_offsets c = record {
  answer = sym (finding_no_offsets _ _ _ (passed c.is_kind.ensures.answer c.if-not-is_kind.false)
      (failed c.is_offsets.ensures.answer c.if-not-is_offsets.true));
}

pub search-requires : goal.search-requires
search-requires c = (offsets_are _ (passed c.is_offsets.ensures.answer c.if-not-is_offsets.false)).1

pub returns : goal.returns
returns c =
    let rec = hard_recording c.args.chips.now in
    record {
      answer = c.search.ensures.answer
          ∙ ap (λ (k : Kind). first_start k 0 c.args.offsets rec) c.kind_of.ensures.answer
          ∙ sym (finding_first _ _ rec (passed c.is_kind.ensures.answer c.if-not-is_kind.false)
          (passed c.is_offsets.ensures.answer c.if-not-is_offsets.false));
    }
