use Rattle.std.proofs.lemmas.Result.{err_from_is_err_and}
use Rattle.layout.proofs.Data.{data_next, data_stops, data_over}
use Rattle.layout.proofs.reader.data_answered.Goals as goal

pub loop-channel-preserved : goal.loop-channel-preserved
loop-channel-preserved c =
    data_next c.loop-channel.invariant c.in-Some.ensures.steps c.datum_answered.ensures c.in_ok-datum_answered.was

pub returns : goal.returns
returns c = data_over c.loop-channel.invariant c.in-None.ensures.steps

pub returns-in_err-datum_answered : goal.returns-in_err-datum_answered
returns-in_err-datum_answered c = let p = err_from_is_err_and c.from_residual.result c.from_residual.ensures.1 in
    rw (p.1, p.2) (data_stops c.loop-channel.invariant c.in-Some.ensures.steps c.datum_answered.ensures c.in_err-datum_answered.was)
