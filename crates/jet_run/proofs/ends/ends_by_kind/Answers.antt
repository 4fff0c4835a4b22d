use Rattle.jet_run.proofs.Ended.{gave_all, ended}
use Rattle.jet_run.proofs.ends.ends_by_kind.Goals as goal

pub returns : goal.returns
returns c = λ runs came gave k e.
    let t = c.args.tasklet.now in
    let over = c.law_ends.ensures runs came gave k e in
    (over.0, over.1, gave_all t came over.0 over.2, ended c.frames_sum_kept.ensures t came over.0 over.2)
