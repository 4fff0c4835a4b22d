use Rattle.std.proofs.Common.{refl, ◌∙◌, arith}
use Rattle.jet_tasklet.specs.Inputs.{inputs_view, received_count}
use Rattle.jet_tasklet.proofs.Pushed.{says_ok}
use Rattle.jet_tasklet.proofs.Lasting.{turned_still, turned_trans}
use Rattle.jet_tasklet.proofs.Fairness.{fair_none, fair_trans}
use Rattle.jet_tasklet.proofs.Keeping.{goes_refl, goes_trans, lawful_goes}
use Rattle.jet_tasklet.proofs.tasklet.Tasklet.take_items.Goals as goal

pub items-init : goal.items-init
items-init g c = record { keeps = goes_refl g.P.Processor.stands g.P.Processor.amid g.P.Processor.takes c.take_next.new.self; turned = turned_still g.P.Processor.same c.take_next.new.self c.take_next.new.self (g.met.P.Processor.same_refl c.take_next.new.self.processor) refl refl refl; took = omega arith; few = omega arith; fair = fair_none c.take_next.new.self c.take_next.new.self refl; outputs = refl }

pub take_next-requires-in-items : goal.take_next-requires-in-items
take_next-requires-in-items g c = record { keeps = lawful_goes g.P.Processor.stands g.P.Processor.amid g.P.Processor.takes c.args.self.now c.items.self c.requires.keeps (goes_trans g.P.Processor.stands g.P.Processor.amid g.P.Processor.takes c.args.self.now c.take_next.new.self c.items.self c.take_next.ensures.keeps c.items.invariant.keeps) }

pub returns-in_err-take_next-2-clause-keeps : goal.returns-in_err-take_next-2-clause-keeps
returns-in_err-take_next-2-clause-keeps g c = goes_trans g.P.Processor.stands g.P.Processor.amid g.P.Processor.takes c.args.self.now c.items.self c.take_next-in-items.new.self (goes_trans g.P.Processor.stands g.P.Processor.amid g.P.Processor.takes c.args.self.now c.take_next.new.self c.items.self c.take_next.ensures.keeps c.items.invariant.keeps) c.take_next-in-items.ensures.keeps

pub returns-then-not-branch-2-clause-keeps : goal.returns-then-not-branch-2-clause-keeps
returns-then-not-branch-2-clause-keeps g c = goes_trans g.P.Processor.stands g.P.Processor.amid g.P.Processor.takes c.args.self.now c.items.self c.take_next-in-items.new.self (goes_trans g.P.Processor.stands g.P.Processor.amid g.P.Processor.takes c.args.self.now c.take_next.new.self c.items.self c.take_next.ensures.keeps c.items.invariant.keeps) c.take_next-in-items.ensures.keeps

pub items-preserved : goal.items-preserved
items-preserved g c = record {
  keeps = goes_trans g.P.Processor.stands g.P.Processor.amid g.P.Processor.takes c.take_next.new.self c.items.self c.take_next-in-items.new.self c.items.invariant.keeps c.take_next-in-items.ensures.keeps;
  turned = turned_trans g.P.Processor.same g.met.P.Processor.same_trans c.take_next.new.self c.items.self c.take_next-in-items.new.self c.items.invariant.turned c.take_next-in-items.ensures.turned;
  took =
      let so_far = c.items.invariant.took in
      let more = says_ok c.take_next-in-items.result (received_count (inputs_view c.items.self.inputs.items)) (received_count (inputs_view c.take_next-in-items.new.self.inputs.items)) _ c.in_ok-take_next-2.was c.take_next-in-items.ensures.took in
      omega (arith, so_far, more);
  few =
      let so_far = c.items.invariant.few in
      let one = c.take_next-in-items.ensures.few in
      omega (arith, so_far, one);
  fair = fair_trans c.take_next.new.self c.items.self c.take_next-in-items.new.self c.items.invariant.fair c.take_next-in-items.ensures.fair;
  outputs = c.take_next-in-items.ensures.outputs ∙ c.items.invariant.outputs;
}

pub returns-clause-keeps : goal.returns-clause-keeps
returns-clause-keeps g c = goes_trans g.P.Processor.stands g.P.Processor.amid g.P.Processor.takes c.args.self.now c.take_next.new.self c.items.self c.take_next.ensures.keeps c.items.invariant.keeps

pub returns-in_err-take_next-2-clause-turned : goal.returns-in_err-take_next-2-clause-turned
returns-in_err-take_next-2-clause-turned g c = turned_trans g.P.Processor.same g.met.P.Processor.same_trans c.args.self.now c.items.self c.take_next-in-items.new.self (turned_trans g.P.Processor.same g.met.P.Processor.same_trans c.args.self.now c.take_next.new.self c.items.self c.take_next.ensures.turned c.items.invariant.turned) c.take_next-in-items.ensures.turned

pub returns-then-not-branch-2-clause-turned : goal.returns-then-not-branch-2-clause-turned
returns-then-not-branch-2-clause-turned g c = turned_trans g.P.Processor.same g.met.P.Processor.same_trans c.args.self.now c.items.self c.take_next-in-items.new.self (turned_trans g.P.Processor.same g.met.P.Processor.same_trans c.args.self.now c.take_next.new.self c.items.self c.take_next.ensures.turned c.items.invariant.turned) c.take_next-in-items.ensures.turned

pub returns-clause-turned : goal.returns-clause-turned
returns-clause-turned g c = turned_trans g.P.Processor.same g.met.P.Processor.same_trans c.args.self.now c.take_next.new.self c.items.self c.take_next.ensures.turned c.items.invariant.turned

pub returns-in_err-take_next-2-clause-fair : goal.returns-in_err-take_next-2-clause-fair
returns-in_err-take_next-2-clause-fair g c = fair_trans c.args.self.now c.items.self c.take_next-in-items.new.self (fair_trans c.args.self.now c.take_next.new.self c.items.self c.take_next.ensures.fair c.items.invariant.fair) c.take_next-in-items.ensures.fair

pub returns-then-not-branch-2-clause-fair : goal.returns-then-not-branch-2-clause-fair
returns-then-not-branch-2-clause-fair g c = fair_trans c.args.self.now c.items.self c.take_next-in-items.new.self (fair_trans c.args.self.now c.take_next.new.self c.items.self c.take_next.ensures.fair c.items.invariant.fair) c.take_next-in-items.ensures.fair

pub returns-clause-fair : goal.returns-clause-fair
returns-clause-fair g c = fair_trans c.args.self.now c.take_next.new.self c.items.self c.take_next.ensures.fair c.items.invariant.fair
