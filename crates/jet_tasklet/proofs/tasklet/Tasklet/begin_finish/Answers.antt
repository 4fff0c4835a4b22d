use Rattle.std.proofs.Common.{◌≡◌, Bool, true, false, ◌&&◌, List, refl, sym, ◌∙◌, ap, inl, inr}
use Rattle.jet_boxes.specs.declared.port.Port.{Port}
use Rattle.jet_boxes.specs.declared.port.Port.TheVariants.{Stream, Build}
use Rattle.jet_tasklet.specs.declared.input.Input.{Input}
use Rattle.jet_tasklet.specs.Inputs.{InputView, inputs_view, all_done}
use Rattle.jet_tasklet.specs.Turning.{all_ended}
use Rattle.jet_tasklet.proofs.Lasting.{turned_still}
use Rattle.jet_tasklet.proofs.Keeping.{finish_keeps, stays_refl}
use Rattle.jet_tasklet.proofs.tasklet.Tasklet.begin_finish.Goals as goal

first_of : (a b : Bool) → (a && b) ≡ true → a ≡ true
first_of true b e = refl
first_of false b e = absurd (cc)

second_of : (a b : Bool) → (a && b) ≡ true → b ≡ true
second_of true b e = e
second_of false b e = absurd (cc)

-- where all have ended those of each port have
each_port : (vs : List InputView) → all_ended vs ≡ true → (port : Port) → all_done port vs ≡ true
each_port vs e Stream = second_of (all_done Build vs) (all_done Stream vs) e
each_port vs e Build = first_of (all_done Build vs) (all_done Stream vs) e

pub returns-then-have_ended : goal.returns-then-have_ended
returns-then-have_ended g c =
    let all : all_ended (inputs_view c.args.self.now.inputs.items) ≡ true = ap (λ (xs : List Input). all_ended (inputs_view xs)) (sym c.deref.ensures.value) ∙ (sym c.have_ended.ensures ∙ c.if-have_ended.true) in
    let polling = c.is_polling.ensures.0 c.if-not-is_polling.false in
    record {
      keeps = record { stays = λ came gave k. finish_keeps g.P.Processor.stands g.P.Processor.amid g.P.Processor.takes g.met.P.Processor.begins c.args.self.now came gave polling (each_port (inputs_view c.args.self.now.inputs.items) all) k };
      turned = turned_still g.P.Processor.same c.args.self.now _ (g.met.P.Processor.same_refl c.args.self.now.processor) refl refl refl;
      begins = inl refl;
    }

pub returns-else-have_ended : goal.returns-else-have_ended
returns-else-have_ended g c = record {
  keeps = stays_refl g.P.Processor.stands g.P.Processor.amid g.P.Processor.takes c.args.self.now;
  turned = turned_still g.P.Processor.same c.args.self.now c.args.self.now (g.met.P.Processor.same_refl c.args.self.now.processor) refl refl refl;
  begins = inr (refl, λ e. ap (λ (xs : List Input). all_ended (inputs_view xs)) (sym c.deref.ensures.value) ∙ (sym c.have_ended.ensures ∙ c.if-have_ended.false));
}

pub returns-then-not-is_polling : goal.returns-then-not-is_polling
returns-then-not-is_polling g c = record {
  keeps = stays_refl g.P.Processor.stands g.P.Processor.amid g.P.Processor.takes c.args.self.now;
  turned = turned_still g.P.Processor.same c.args.self.now c.args.self.now (g.met.P.Processor.same_refl c.args.self.now.processor) refl refl refl;
  begins = inr (refl, λ e. let is : c.is_polling.result ≡ true = c.is_polling.ensures.1 e in absurd (cc (is, c.if-not-is_polling.true)));
}
