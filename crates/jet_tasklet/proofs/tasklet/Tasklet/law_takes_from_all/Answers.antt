use Rattle.std.proofs.Common.{◌≡◌, false, List, [], get_or, sym, ◌∙◌, ap}
use Rattle.jet_boxes.specs.declared.port.Port.TheVariants.{Stream}
use Rattle.jet_coalescer.specs.declared.coalescer.Coalescer.{Coalescer}
use Rattle.jet_coalescer.specs.Low.{History, low}
use Rattle.jet_tasklet.specs.declared.arrival.Arrival.{Arrival}
use Rattle.jet_tasklet.specs.Trace.{of_queue, has_ended, history, histories, watermark}
use Rattle.jet_tasklet.specs.Inputs.{InputView, inputs_view, received, queue_count}
use Rattle.jet_tasklet.specs.Keeps.{Came}
use Rattle.jet_tasklet.proofs.Over.{all_bag}
use Rattle.jet_tasklet.proofs.Heard.{histories_alike}
use Rattle.jet_tasklet.proofs.Latest.{last_is_low}
use Rattle.jet_tasklet.proofs.tasklet.Tasklet.law_takes_from_all.Goals as goal

low_is : (vs : List InputView) (co : Coalescer) (came : List Arrival) → Came vs co came → watermark (queue_count Stream vs) came ≡ low (histories (queue_count Stream vs) (λ q. get_or (received Stream vs) q []))
low_is vs co came h =
    ap (λ (hs : List History). low hs) (histories_alike (queue_count Stream vs) (λ q. of_queue Stream q came) (λ q. get_or (received Stream vs) q []) (λ q lt. ap history (sym (h.received_is Stream q lt))))

pub returns : goal.returns
returns g c =
    let vs : List InputView = inputs_view c.args.self.now.inputs.items in
    record {
      bag = λ came gave k. all_bag vs c.args.self.now.coalescer came c.args.self.now.step k.takes_in;
      mark = λ came gave k q lt is_open.
          let still : has_ended (of_queue Stream q came) ≡ false = sym (k.takes_in.done_is Stream q lt) ∙ is_open in
          last_is_low c.args.self.now.step (queue_count Stream vs) came q lt still ∙ low_is vs c.args.self.now.coalescer came k.takes_in;
    }
