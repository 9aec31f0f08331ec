-- `feed_in`: what does not take is 20, and stays as it was.
use Rattle.receive_calls.proofs.Stages.{feed_refused}
use Rattle.receive_calls.proofs.feed_in.Goals as goal

pub returns : goal.returns
returns c = feed_refused c.args.s c.args.octets.now c.args.batch.now _ c.takes.ensures.answer c.if-takes.false
