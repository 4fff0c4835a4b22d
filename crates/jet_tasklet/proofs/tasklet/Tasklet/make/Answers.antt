use Rattle.std.proofs.Common.{◌≡◌, refl, sym, ◌∙◌, ap, subst, inl, inr}
use Rattle.std.specs.Prelude.{Result, Ok, Bool}
use Rattle.jet_items.specs.declared.no_memory.NoMemory.{NoMemory}
use Rattle.jet_tasklet.specs.declared.step.Step.{Step}
use Rattle.jet_tasklet.specs.Keeps.{Keeps}
use Rattle.jet_tasklet.proofs.Keeping.{make_keeps, step_after}
use Rattle.jet_tasklet.proofs.Turning.{worked_make}
use Rattle.jet_tasklet.proofs.Lasting.{turned_still}
use Rattle.jet_tasklet.proofs.tasklet.Tasklet.make.Goals as goal

pub returns-in_err-ended-clause-keeps : goal.returns-in_err-ended-clause-keeps
returns-in_err-ended-clause-keeps g c = record {
  stays = λ came gave k.
      let stays : step_after c.call.result c.args.pending.now ≡ c.args.self.now.step = ap (λ (r : Result Bool NoMemory). step_after r c.args.pending.now) c.in_err-ended.was ∙ sym c.requires.pending in
      subst (λ (s : Step). Keeps g.P.Processor.stands g.P.Processor.amid g.P.Processor.takes (record { processor = c.call.new.processor; inputs = c.args.self.now.inputs; next = c.args.self.now.next; outputs = c.args.self.now.outputs; coalescer = c.args.self.now.coalescer; step = s; outbox = c.call.new.out }) came gave) stays
      (make_keeps g.P.Processor.stands g.P.Processor.amid g.P.Processor.takes g.met.P.Processor.begins g.P.Processor.same g.P.Processor.frugal g.met.P.Processor.takes_stays c.args.self.now c.call.new.processor c.call.new.out c.args.pending.now c.call.result came gave c.requires.pending c.call.ensures.made k);
}

pub returns-then-ended-clause-keeps : goal.returns-then-ended-clause-keeps
returns-then-ended-clause-keeps g c = record {
  stays = λ came gave k.
      let next : step_after c.call.result c.args.pending.now ≡ c.next-self.result = ap (λ (r : Result Bool NoMemory). step_after r c.args.pending.now) (c.in_ok-ended.was ∙ ap Ok c.if-ended.true) ∙ sym c.next-self.ensures in
      subst (λ (s : Step). Keeps g.P.Processor.stands g.P.Processor.amid g.P.Processor.takes (record { processor = c.call.new.processor; inputs = c.args.self.now.inputs; next = c.args.self.now.next; outputs = c.args.self.now.outputs; coalescer = c.args.self.now.coalescer; step = s; outbox = c.call.new.out }) came gave) next
      (make_keeps g.P.Processor.stands g.P.Processor.amid g.P.Processor.takes g.met.P.Processor.begins g.P.Processor.same g.P.Processor.frugal g.met.P.Processor.takes_stays c.args.self.now c.call.new.processor c.call.new.out c.args.pending.now c.call.result came gave c.requires.pending c.call.ensures.made k);
}

pub returns-else-ended-clause-keeps : goal.returns-else-ended-clause-keeps
returns-else-ended-clause-keeps g c = record {
  stays = λ came gave k.
      let stays : step_after c.call.result c.args.pending.now ≡ c.args.self.now.step = ap (λ (r : Result Bool NoMemory). step_after r c.args.pending.now) (c.in_ok-ended.was ∙ ap Ok c.if-ended.false) ∙ sym c.requires.pending in
      subst (λ (s : Step). Keeps g.P.Processor.stands g.P.Processor.amid g.P.Processor.takes (record { processor = c.call.new.processor; inputs = c.args.self.now.inputs; next = c.args.self.now.next; outputs = c.args.self.now.outputs; coalescer = c.args.self.now.coalescer; step = s; outbox = c.call.new.out }) came gave) stays
      (make_keeps g.P.Processor.stands g.P.Processor.amid g.P.Processor.takes g.met.P.Processor.begins g.P.Processor.same g.P.Processor.frugal g.met.P.Processor.takes_stays c.args.self.now c.call.new.processor c.call.new.out c.args.pending.now c.call.result came gave c.requires.pending c.call.ensures.made k);
}

pub returns-in_err-ended-clause-worked : goal.returns-in_err-ended-clause-worked
returns-in_err-ended-clause-worked g c = worked_make c.args.self.now c.call.new.processor c.call.new.out c.args.pending.now c.call.result _ c.requires.pending c.call.ensures.made (inl c.requires.pending)

pub returns-then-ended-clause-worked : goal.returns-then-ended-clause-worked
returns-then-ended-clause-worked g c = worked_make c.args.self.now c.call.new.processor c.call.new.out c.args.pending.now c.call.result _ c.requires.pending c.call.ensures.made (inr c.next-self.ensures)

pub returns-else-ended-clause-worked : goal.returns-else-ended-clause-worked
returns-else-ended-clause-worked g c = worked_make c.args.self.now c.call.new.processor c.call.new.out c.args.pending.now c.call.result _ c.requires.pending c.call.ensures.made (inl c.requires.pending)

pub returns-in_err-ended-clause-turned : goal.returns-in_err-ended-clause-turned
returns-in_err-ended-clause-turned g c = turned_still g.P.Processor.same c.args.self.now _ c.call.ensures.made.settings c.call.ensures.made.room refl refl

pub returns-then-ended-clause-turned : goal.returns-then-ended-clause-turned
returns-then-ended-clause-turned g c = turned_still g.P.Processor.same c.args.self.now _ c.call.ensures.made.settings c.call.ensures.made.room refl refl

pub returns-else-ended-clause-turned : goal.returns-else-ended-clause-turned
returns-else-ended-clause-turned g c = turned_still g.P.Processor.same c.args.self.now _ c.call.ensures.made.settings c.call.ensures.made.room refl refl
