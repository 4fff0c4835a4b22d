use Rattle.std.proofs.lemmas.Result.{err_from_is_err_and}
use Rattle.jet_feed.proofs.feed.Feed.go_on.Goals as goal

pub returns-in_err-take_line-clause-bad : goal.returns-in_err-take_line-clause-bad
returns-in_err-take_line-clause-bad c =
    let p = err_from_is_err_and c.from_residual.result c.from_residual.ensures.1 in rw (p.1, p.2) (λ told items check p at content h.
    c.in_err-take_line.ensures.bad told items check p at content (c.lines.invariant.0 check p at content told items h))
