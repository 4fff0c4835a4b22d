use Rattle.std.proofs.Common.{◌≡◌, ◌∙◌, ◌++◌, List, sym, ap, arith}
use Rattle.jet_tasklet.specs.declared.any.AnyTasklet.{AnyTasklet}
use Rattle.jet_tasklet.specs.inner.Chain.{ends_of}
use Rattle.jet_tasklet.proofs.Chaining.{chain_met}
use Rattle.jet_tasklet.proofs.tests.meet_next.Goals as goal

pub returns : goal.returns
returns c = λ from to k.
    let xs : List AnyTasklet = c.args.tasklets.now.items in
    let front : List AnyTasklet = c.split_at_mut-front.result.0.now in
    let back : List AnyTasklet = c.split_at_mut-front.result.1.now in
    let cut = c.split_at_mut-front.ensures in
    let whole = c.deref_mut.ensures in
    let inside = c.requires.inside in
    let len = c.args.tasklets.now.ok.0 in
    chain_met from to xs front back _ c.args.place c.args.tasklets.now.len c.index-front-place.result c.index-back-0.result c.meet.new.giver c.meet.new.taker
    (sym whole.value ∙ cut.value) (omega (arith, cut.front_len)) (omega (arith, cut.back_len, cut.front_len, whole.len, inside, len)) (omega (arith, len))
    c.index-front-place.is c.index-back-0.is k c.meet.ensures.giver c.meet.ensures.taker (c.meet.ensures.gives ∙ ap ends_of (sym c.index-front-place.is)) (c.meet.ensures.takes ∙ ap ends_of (sym c.index-back-0.is))
