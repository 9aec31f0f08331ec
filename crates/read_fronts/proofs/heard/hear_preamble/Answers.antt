-- `heard::hear_preamble`: the octets behind SYNC are the SFD's.
use Rattle.read_fronts.proofs.Preambles.{preamble_sfd}
use Rattle.read_fronts.proofs.heard.hear_preamble.Goals as goal

pub returns : goal.returns
returns c =
    let call = c.hear_sync-part.ensures in
    record {
      answer = record {
        line = call.answer;
        sfd = preamble_sfd c.args.kind _ _ _ call.octets c.behind_sync-sfd.ensures.answer;
        least = call.least;
      };
    }
