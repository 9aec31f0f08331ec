-- Four parts, one behind the other. Assumes nothing.
use Rattle.std.proofs.Common.{◌≡◌, ◌+◌, length, arith}
use Rattle.rules_report.specs.declared.Report.{Report}
use Rattle.rules_report.specs.Text.{refused_lines, airtime_line, lead_line, text_of}
use Rattle.report_text.specs.Placed.{rate_lines}
use Rattle.report_text.proofs.Puts.{put_next, four_long}
use Rattle.report_text.proofs.Page.put_text.Goals as goal

size : (p : Report) → length (text_of p)
    ≡ length (rate_lines 4 p.frames p.octets) + length (refused_lines 17 p.refused)
    + length (airtime_line p.airtime) + length (lead_line p.some p.lead p.recording)
unfolding text_of rate_lines
size p =
    four_long (rate_lines 4 p.frames p.octets) (refused_lines 17 p.refused) (airtime_line p.airtime)
    (lead_line p.some p.lead p.recording)

pub rate_lines-requires : goal.rate_lines-requires
rate_lines-requires c = omega (arith, size c.args.report)

pub refused_lines-requires : goal.refused_lines-requires
refused_lines-requires c = omega (arith, size c.args.report, c.rate_lines.ensures.page.stop)

pub airtime_line-requires : goal.airtime_line-requires
airtime_line-requires c =
    omega (arith, size c.args.report, c.rate_lines.ensures.page.stop, c.refused_lines.ensures.page.stop)

pub lead_line-requires : goal.lead_line-requires
lead_line-requires c =
    omega (
      arith,
      size c.args.report,
      c.rate_lines.ensures.page.stop,
      c.refused_lines.ensures.page.stop,
      c.airtime_line.ensures.page.stop,
    )

pub returns : goal.returns
unfolding text_of rate_lines
returns c =
    let front = put_next c.rate_lines.ensures.page c.refused_lines.ensures.page in
    record { page = put_next (put_next front c.airtime_line.ensures.page) c.lead_line.ensures.page }
