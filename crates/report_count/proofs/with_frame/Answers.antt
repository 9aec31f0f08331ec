-- One frame, its octets and its airtime more, and its lead if it is closer. Assumes nothing.
use Rattle.std.proofs.Common.{◌≡◌, ℕ, ◌+◌, Bool, true, false, cond, sym, ◌∙◌, arith}
use lib.ListN.{get_or, set}
use Rattle.rules_calls.specs.declared.Record.{Record}
use Rattle.rules_report.specs.Totals.{front_time}
use Rattle.rules_report.specs.Report.{entry_of, is_closer, with_frame}
use Rattle.rules_report.specs.declared.Report.{Report}
use Rattle.rules_report.proofs.Taking.{front_time_lem}
use Rattle.rules_report.proofs.Lists.{takes, more_set}
use Rattle.report_count.proofs.with_frame.Goals as goal

module _ (p : Report) (kind : ℕ) (a : Record) (at time : ℕ) (closer : Bool) where
  abbrev written : Report
  written = record {
    seen = p.seen + 1;
    frames = set p.frames at (get_or p.frames at 0 + 1);
    octets = set p.octets at (get_or p.octets at 0 + a.n);
    refused = p.refused;
    airtime = p.airtime + (time + a.length);
    some = cond closer 1 p.some;
    lead = cond closer a.lead p.lead;
    recording = cond closer p.seen p.recording;
  }

  framed : at ≡ entry_of a.rate → time ≡ front_time kind → closer ≡ is_closer p a.lead
      → written ≡ with_frame p (record { kind = kind; answer = a })
  framed e t c =
      rw (
        e,
        t,
        c,
        ← more_set (entry_of a.rate) 1 p.frames,
        ← more_set (entry_of a.rate) a.n p.octets,
      )

pub overflow_add-q : goal.overflow_add-q
overflow_add-q c = omega (arith, (takes c.args.p c.requires.0).seen_below)

pub overflow_add-q-2 : goal.overflow_add-q-2
overflow_add-q-2 c = omega (arith, (takes c.args.p c.requires.0).frames_within c.entry_of-at.result)

pub overflow_add-q-3 : goal.overflow_add-q-3
overflow_add-q-3 c = omega (arith, (takes c.args.p c.requires.0).octets_within c.entry_of-at.result, c.requires.1)

pub overflow_add-q-5 : goal.overflow_add-q-5
overflow_add-q-5 c =
    omega (
      arith,
      front_time_lem c.args.kind,
      c.front_time.ensures.answer,
      c.requires.2,
      (takes c.args.p c.requires.0).airtime_within,
    )

pub returns-then-closer : goal.returns-then-closer
returns-then-closer c =
    let a = c.args in
    record {
      answer = framed a.p a.kind a.a _ _ true c.entry_of-at.ensures.answer c.front_time.ensures.answer
          (sym c.if-closer.true ∙ c.is_closer-closer.ensures.answer);
    }

pub returns-else-closer : goal.returns-else-closer
returns-else-closer c =
    let a = c.args in
    record {
      answer = framed a.p a.kind a.a _ _ false c.entry_of-at.ensures.answer c.front_time.ensures.answer
          (sym c.if-closer.false ∙ c.is_closer-closer.ensures.answer);
    }
