-- `front::begin`: one symbol is decided, and the line starts from its phase.
use Rattle.std.proofs.Common.{◌≡◌, ℕ, List, [], ◌∷◌, length, get_or, take, refl, ap, ◌∙◌, None, arith}
use lib.Seq.{take_all}
use borrow.Author.Tests.{le-ltb}
use Rattle.rules_rates.specs.declared.Rate.TheVariants.{One}
use Rattle.rules_chips.specs.Chips.{hard_recording}
use Rattle.rules_chips.proofs.Recorders.{length_hard}
use Rattle.rules_choosing.proofs.Decided.{decided_below}
use Rattle.rules_frame.specs.declared.Kind.{Kind}
use Rattle.rules_reading.specs.Reading.{first_unusable}
use Rattle.rules_calls.specs.declared.Least.{Least}
use Rattle.rules_reading.specs.Leads.{lead_at, least_from, least_of}
use Rattle.choose_recorded.specs.Recorded.{AllUsable, DecidedAt, LeadsAt}
use Rattle.choose_recorded.proofs.Search.{none_usable}
use Rattle.common_lines.specs.declared.Line.{Line}
use Rattle.common_kinds.specs.Starts.{Starts}
use Rattle.read_fronts.proofs.Preambles.{start_seven}
use Rattle.receive_calls.specs.Steps.{Begun}
use Rattle.receive_calls.proofs.front.begin.Goals as goal

all_usable : (row : List ℕ) → length row ≡ 11 → first_unusable 0 (hard_recording row) ≡ None
    → AllUsable (hard_recording row) 0 11
all_usable row e u =
    none_usable (hard_recording row) 0 11 (omega (arith, e, length_hard row))
    (ap (first_unusable 0) (take_all 11 (hard_recording row) (omega (arith, e, length_hard row))) ∙ u)

-- the smallest of one lead
one_lead : (leads : List ℕ) → length leads ≡ 64 → least_of (take 1 leads) ≡ lead_at (get_or leads 0 0) 0
unfolding least_of least_from
one_lead [] e = absurd (omega (arith, e))
one_lead (x ∷ leads) e = rw (le-ltb x x (omega arith))

begun : (k : Kind) (row numbers leads : List ℕ) (l : Line) (least : Least)
    → DecidedAt One (hard_recording row) 0 1 numbers
    → LeadsAt One (hard_recording row) 0 1 leads → Starts k (get_or numbers 0 0) l → least ≡ least_of (take 1 leads)
    → Begun k row
    (record { lead = least.lead; symbol = least.symbol; past = l.past; phase = l.phase; last = l.phase })
begun k row numbers leads l least d s x f =
    let one = f ∙ one_lead leads s.long in
    let phase = x.at_phase ∙ d.number 0 (omega arith) in
    record {
      phase = phase;
      last = phase;
      small = rw phase (decided_below One _);
      past = ap (take 7) x.past ∙ start_seven k;
      lead = ap (λ (a : Least). a.lead) one ∙ s.lead 0 (omega arith);
      symbol = ap (λ (a : Least). a.symbol) one;
    }

pub decide-requires : goal.decide-requires
decide-requires c =
    let row = c.args.row.now in (
      omega arith,
      omega (arith, c.requires, length_hard row),
      all_usable row c.requires.0 c.requires.1,
      refl,
      refl,
    )

pub returns : goal.returns
returns c = record {
  answer = begun c.args.kind c.args.row.now _ _ _ _ c.decide.ensures.numbers c.decide.ensures.leads
      c.first_line-line.ensures.answer c.least_of-least.ensures.answer;
}
