-- What a meeting leaves as it was of a tasklet.
use Rattle.std.proofs.Common.{ℕ, List, ◌∙◌, refl, sym, subst}
use Rattle.jet_tasklet.specs.declared.any.AnyTasklet.{AnyTasklet}
use Rattle.jet_tasklet.specs.declared.any.AnyTasklet.TheVariants as any
use Rattle.jet_tasklet.specs.Inputs.{InputView}
use Rattle.jet_tasklet.specs.Outputs.{OutputView}
use Rattle.jet_tasklet.specs.Meeting.{OutputMet, InputMet, AnyGiverMet, AnyTakerMet, HaveSameProcessor}
use Rattle.jet_tasklet.specs.Views.{ins, outs}
use Rattle.jet_crew.specs.Epoch.{Placewise}
use Rattle.jet_engine.specs.Looking.{SameInput, SameOutput, Looked}
use Rattle.jet_engine.proofs.Placewise.{placewise_same, placewise_set, placewise_trans}

-- ---- inputs and outputs
same_input : (a : InputView) → SameInput a a
same_input a = record { port = refl; rings = refl; received = refl; done = refl; cursor = refl }

same_output : (a : OutputView) → SameOutput a a
same_output a = record { had = refl; router = record { route = refl; table = refl; rings_kept = refl }; sent = refl; hads_same = refl; busy = refl; turn = refl }

input_trans : (a b c : InputView) → SameInput a b → SameInput b c → SameInput a c
input_trans a b c p q = record { port = q.port ∙ p.port; rings = q.rings ∙ p.rings; received = q.received ∙ p.received; done = q.done ∙ p.done; cursor = q.cursor ∙ p.cursor }

output_trans : (a b c : OutputView) → SameOutput a b → SameOutput b c → SameOutput a c
output_trans a b c p q =
    record {
      had = q.had ∙ p.had;
      router = record { route = q.router.route ∙ p.router.route; table = q.router.table ∙ p.router.table; rings_kept = q.router.rings_kept ∙ p.router.rings_kept };
      sent = q.sent ∙ p.sent;
      hads_same = q.hads_same ∙ p.hads_same;
      busy = q.busy ∙ p.busy;
      turn = q.turn ∙ p.turn;
    }

inputs_met : (xs ys : List InputView) (i q : ℕ) → InputMet xs ys i q → Placewise SameInput xs ys
inputs_met xs ys i q m =
    subst (λ (zs : List InputView). Placewise SameInput xs zs) (sym m.others)
    (placewise_set SameInput same_input xs i m.was m.now m.at
    (record { port = m.port; rings = m.met.rings; received = m.met.received; done = m.met.done; cursor = m.met.cursor }))

outputs_met : (xs ys : List OutputView) (o d : ℕ) → OutputMet xs ys o d → Placewise SameOutput xs ys
outputs_met xs ys o d m =
    subst (λ (zs : List OutputView). Placewise SameOutput xs zs) (sym m.others)
    (placewise_set SameOutput same_output xs o m.was m.now m.at
    (record { had = m.had; router = m.met.same; sent = m.met.sent; hads_same = m.met.had; busy = m.met.busy; turn = m.met.turn }))

-- ---- processors
processor_same : (t : AnyTasklet) → HaveSameProcessor t t
processor_same (any.Send s) = record { lows = refl; hand = refl; end = refl }
processor_same (any.Receive r) = record { end = refl; at = refl; ended = refl }
processor_same (any.Stamp t) = refl
processor_same (any.Map t) = refl
processor_same (any.Filter t) = refl
processor_same (any.Flat t) = refl
processor_same (any.Join t) = refl
processor_same (any.Frame t) = refl
processor_same (any.Combine t) = refl

processor_trans : (t u v : AnyTasklet) → HaveSameProcessor t u → HaveSameProcessor u v → HaveSameProcessor t v
processor_trans (any.Send t) (any.Send u) (any.Send v) p q = record { lows = q.lows ∙ p.lows; hand = q.hand ∙ p.hand; end = q.end ∙ p.end }
processor_trans (any.Receive t) (any.Receive u) (any.Receive v) p q = record { end = q.end ∙ p.end; at = q.at ∙ p.at; ended = q.ended ∙ p.ended }
processor_trans (any.Stamp t) (any.Stamp u) (any.Stamp v) p q = q ∙ p
processor_trans (any.Map t) (any.Map u) (any.Map v) p q = q ∙ p
processor_trans (any.Filter t) (any.Filter u) (any.Filter v) p q = q ∙ p
processor_trans (any.Flat t) (any.Flat u) (any.Flat v) p q = q ∙ p
processor_trans (any.Join t) (any.Join u) (any.Join v) p q = q ∙ p
processor_trans (any.Frame t) (any.Frame u) (any.Frame v) p q = q ∙ p
processor_trans (any.Combine t) (any.Combine u) (any.Combine v) p q = q ∙ p
processor_trans (any.Send t) (any.Send u) v p q = absurd q
processor_trans (any.Receive t) (any.Receive u) v p q = absurd q
processor_trans (any.Stamp t) (any.Stamp u) v p q = absurd q
processor_trans (any.Map t) (any.Map u) v p q = absurd q
processor_trans (any.Filter t) (any.Filter u) v p q = absurd q
processor_trans (any.Flat t) (any.Flat u) v p q = absurd q
processor_trans (any.Join t) (any.Join u) v p q = absurd q
processor_trans (any.Frame t) (any.Frame u) v p q = absurd q
processor_trans (any.Combine t) (any.Combine u) v p q = absurd q
processor_trans t u v p q = absurd p

-- ---- tasklets
pub looked_same : (t : AnyTasklet) → Looked t t
looked_same t =
    record {
      keeps = λ came gave k. k;
      inputs = placewise_same SameInput same_input (ins t);
      outputs = placewise_same SameOutput same_output (outs t);
      outbox = refl;
      step = refl;
      processor = processor_same t;
    }

pub looked_trans : (t u v : AnyTasklet) → Looked t u → Looked u v → Looked t v
looked_trans t u v p q =
    record {
      keeps = λ came gave k. q.keeps came gave (p.keeps came gave k);
      inputs = placewise_trans SameInput input_trans (ins t) (ins u) (ins v) p.inputs q.inputs;
      outputs = placewise_trans SameOutput output_trans (outs t) (outs u) (outs v) p.outputs q.outputs;
      outbox = q.outbox ∙ p.outbox;
      step = q.step ∙ p.step;
      processor = processor_trans t u v p.processor q.processor;
    }

pub giver_looked : (t u : AnyTasklet) (o d : ℕ) → AnyGiverMet t u o d → Looked t u
giver_looked t u o d m =
    record {
      keeps = m.keeps;
      inputs = subst (λ (is : List InputView). Placewise SameInput (ins t) is) (sym m.inputs) (placewise_same SameInput same_input (ins t));
      outputs = outputs_met (outs t) (outs u) o d m.outputs;
      outbox = m.outbox;
      step = m.step;
      processor = m.processor;
    }

pub taker_looked : (t u : AnyTasklet) (i q : ℕ) → AnyTakerMet t u i q → Looked t u
taker_looked t u i q m =
    record {
      keeps = m.keeps;
      inputs = inputs_met (ins t) (ins u) i q m.inputs;
      outputs = subst (λ (os : List OutputView). Placewise SameOutput (outs t) os) (sym m.outputs) (placewise_same SameOutput same_output (outs t));
      outbox = m.outbox;
      step = m.step;
      processor = m.processor;
    }
