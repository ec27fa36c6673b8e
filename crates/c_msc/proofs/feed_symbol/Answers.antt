-- The handler's refusal, or its answer in its places.
use Rattle.c_msc.specs.Msc.{fed_places}
use Rattle.c_msc.proofs.FeedCalls.{fed_refused, fed_waits, fed_frames}
use Rattle.c_msc.proofs.feed_symbol.Goals as goal
use Rattle.c_msc.proofs.feed_symbol.Goals.{in-Waiting, in-Frame}

pub returns-in-Refused-clause-promise : goal.returns-in-Refused-clause-promise
returns-in-Refused-clause-promise c =
    fed_refused (fed_places c.args.state.now c.args.length.now c.args.percent.now) _ c.read.ensures c.in_ok-s.was c.if-is_empty.ensures c.if-is_empty-2.ensures c.feed_symbol-fed.ensures.promise _ c.in-Refused.is

pub returns-clause-promise : goal.returns-clause-promise
returns-clause-promise c =
    let f = fed_places c.args.state.now c.args.length.now c.args.percent.now in
    let p = c.feed_symbol-fed.ensures.promise in
    elim c.match-fed.branch [
      | in-Waiting w ↦ fed_waits f _ c.read.ensures c.in_ok-s.was c.if-is_empty.ensures c.if-is_empty-2.ensures p c.write.ensures w.in-Waiting.is w.length-is w.percent-is
      | in-Frame w ↦ fed_frames f _ c.read.ensures c.in_ok-s.was c.if-is_empty.ensures c.if-is_empty-2.ensures p c.write.ensures w.in-Frame.is w.length-is w.percent-is
    ]
