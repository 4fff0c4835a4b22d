use Rattle.std.proofs.Common.{◌≡◌, List, length, drop, refl, sym, ◌∙◌, subst}
use Rattle.std.specs.Vec.{with_items}
use Rattle.jet_tasklet.specs.declared.output.Output.{Output}
use Rattle.jet_tasklet.specs.Outputs.{outputs_view, SomeWaits, sent_count, Says}
use Rattle.jet_tasklet.specs.inner.Leaving.{Leaves, IsStopped}
use Rattle.std.specs.List.{AllZip}
use Rattle.jet_tasklet.specs.Turned.{OutputGoes}
use Rattle.jet_tasklet.proofs.Lasting.{turned_gave}
use Rattle.jet_tasklet.proofs.Keeping.{give_keeps, goes_gave, gave_none, items_back}
use Rattle.jet_tasklet.proofs.tasklet.Tasklet.give.Goals as goal

pub returns : goal.returns
returns g c =
    let back : (with_items c.args.self.now.outputs c.give_out.new.outputs).items ≡ c.give_out.new.outputs = items_back c.args.self.now.outputs.len c.give_out.new.outputs (drop (length c.give_out.new.outputs) c.args.self.now.outputs.items) (c.give_out.auto.outputs ∙ c.deref_mut.ensures.len) in
    let first : Leaves c.args.self.now.outbox.items (outputs_view c.args.self.now.outputs.items) c.give_out.new.outbox.items (outputs_view c.give_out.new.outputs) = subst (λ (xs : List Output). Leaves c.args.self.now.outbox.items (outputs_view xs) c.give_out.new.outbox.items (outputs_view c.give_out.new.outputs)) c.deref_mut.ensures.value c.give_out.ensures.leaves in
    let leaves : Leaves c.args.self.now.outbox.items (outputs_view c.args.self.now.outputs.items) c.give_out.new.outbox.items (outputs_view (with_items c.args.self.now.outputs c.give_out.new.outputs).items) = subst (λ (xs : List Output). Leaves c.args.self.now.outbox.items (outputs_view c.args.self.now.outputs.items) c.give_out.new.outbox.items (outputs_view xs)) (sym back) first in
    let goes : AllZip OutputGoes (outputs_view c.args.self.now.outputs.items) (outputs_view (with_items c.args.self.now.outputs c.give_out.new.outputs).items) =
    subst (λ (xs : List Output). AllZip OutputGoes (outputs_view c.args.self.now.outputs.items) (outputs_view xs)) (sym back)
    (subst (λ (xs : List Output). AllZip OutputGoes (outputs_view xs) (outputs_view c.give_out.new.outputs)) c.deref_mut.ensures.value c.give_out.ensures.goes) in
    let stops : IsStopped c.give_out.new.outbox.items (outputs_view (with_items c.args.self.now.outputs c.give_out.new.outputs).items) =
    subst (λ (xs : List Output). IsStopped c.give_out.new.outbox.items (outputs_view xs)) (sym back) c.give_out.ensures.stops in
    let pushed : SomeWaits (outputs_view c.deref_mut.result.now) = subst (λ (xs : List Output). SomeWaits (outputs_view xs)) (sym c.deref_mut.ensures.value) c.requires.keeps.keeps.owed.some in
    record {
      keeps = goes_gave g.P.Processor.stands g.P.Processor.amid g.P.Processor.takes c.args.self.now _ (λ came gave k. give_keeps g.P.Processor.stands g.P.Processor.amid g.P.Processor.takes g.met.P.Processor.begins c.args.self.now (with_items c.args.self.now.outputs c.give_out.new.outputs) c.give_out.new.outbox came gave leaves c.give_out.ensures.room goes stops k);
      turned = turned_gave g.P.Processor.same c.args.self.now _ (g.met.P.Processor.same_refl c.args.self.now.processor) c.give_out.ensures.room refl goes;
      stops = stops;
      step = refl;
      room = c.give_out.ensures.room;
      inputs = refl;
      next = refl;
      pushed = subst (λ (xs : List Output). Says c.give_out.result (sent_count (outputs_view c.args.self.now.outputs.items)) (sent_count (outputs_view xs))) (sym back)
          (subst (λ (xs : List Output). Says c.give_out.result (sent_count (outputs_view xs)) (sent_count (outputs_view c.give_out.new.outputs))) c.deref_mut.ensures.value c.give_out.ensures.pushed);
      same = λ e. gave_none g.P.Processor.stands g.P.Processor.amid g.P.Processor.takes c.args.self.now _ (λ came gave k. give_keeps g.P.Processor.stands g.P.Processor.amid g.P.Processor.takes g.met.P.Processor.begins c.args.self.now (with_items c.args.self.now.outputs c.give_out.new.outputs) c.give_out.new.outbox came gave leaves c.give_out.ensures.room goes stops k) (c.give_out.ensures.stays pushed e);
      stays = c.give_out.ensures.stays pushed;
    }
