use Rattle.std.proofs.Common.{refl, rules, sym, subst}
use Rattle.jet_tasklet.specs.Kinds.{RunsProcessor}
use Rattle.jet_tasklet.proofs.AnyMeeting.{input_lent}
use Rattle.jet_tasklet.proofs.any.AnyTasklet.input.Goals as goal

pub returns-in-Stamp : goal.returns-in-Stamp
returns-in-Stamp c = ((refl, λ w. rw c.in-Stamp.is refl), record { writes_back = tt; value = search rules; meets = input_lent c.args.self.now c.args.n c.input.result.now (subst RunsProcessor (sym c.in-Stamp.is) tt) (search rules) })

pub returns-in-Map : goal.returns-in-Map
returns-in-Map c = ((refl, λ w. rw c.in-Map.is refl), record { writes_back = tt; value = search rules; meets = input_lent c.args.self.now c.args.n c.input-in-Map.result.now (subst RunsProcessor (sym c.in-Map.is) tt) (search rules) })

pub returns-in-Filter : goal.returns-in-Filter
returns-in-Filter c = ((refl, λ w. rw c.in-Filter.is refl), record { writes_back = tt; value = search rules; meets = input_lent c.args.self.now c.args.n c.input-in-Filter.result.now (subst RunsProcessor (sym c.in-Filter.is) tt) (search rules) })

pub returns-in-Flat : goal.returns-in-Flat
returns-in-Flat c = ((refl, λ w. rw c.in-Flat.is refl), record { writes_back = tt; value = search rules; meets = input_lent c.args.self.now c.args.n c.input-in-Flat.result.now (subst RunsProcessor (sym c.in-Flat.is) tt) (search rules) })

pub returns-in-Join : goal.returns-in-Join
returns-in-Join c = ((refl, λ w. rw c.in-Join.is refl), record { writes_back = tt; value = search rules; meets = input_lent c.args.self.now c.args.n c.input-in-Join.result.now (subst RunsProcessor (sym c.in-Join.is) tt) (search rules) })

pub returns-in-Frame : goal.returns-in-Frame
returns-in-Frame c = ((refl, λ w. rw c.in-Frame.is refl), record { writes_back = tt; value = search rules; meets = input_lent c.args.self.now c.args.n c.input-in-Frame.result.now (subst RunsProcessor (sym c.in-Frame.is) tt) (search rules) })

pub returns-in-Combine : goal.returns-in-Combine
returns-in-Combine c = ((refl, λ w. rw c.in-Combine.is refl), record { writes_back = tt; value = search rules; meets = input_lent c.args.self.now c.args.n c.input-in-Combine.result.now (subst RunsProcessor (sym c.in-Combine.is) tt) (search rules) })
