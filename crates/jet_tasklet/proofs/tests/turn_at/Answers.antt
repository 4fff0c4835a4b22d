use Rattle.jet_tasklet.proofs.Chaining.{chain_put, any_lawful_next, any_turned_ends}
use Rattle.jet_tasklet.proofs.tests.turn_at.Goals as goal

pub returns : goal.returns
returns c = λ from to k.
    let was = c.index_mut.result.now in
    let now = c.turn.new.self in
    chain_put from to c.args.tasklets.now.items c.args.place was now c.requires.inside c.index_mut.ensures.value k (λ l. any_lawful_next was now l c.turn.ensures.keeps) (any_turned_ends was now c.turn.ensures.turned)
