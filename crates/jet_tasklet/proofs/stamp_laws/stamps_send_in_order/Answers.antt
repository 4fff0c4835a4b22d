use Rattle.std.proofs.Common.{length}
use Rattle.jet_stages.specs.Stamp.{IsNoResult}
use Rattle.jet_tasklet.specs.Inputs.{inputs_view}
use Rattle.jet_tasklet.proofs.Stamping.{from_files, told_each}
use Rattle.jet_tasklet.proofs.stamp_laws.stamps_send_in_order.Goals as goal

pub returns-clause-sound : goal.returns-clause-sound
returns-clause-sound c = λ behind came gave k files.
    let t = c.args.stamp.now in
    c.law_sends_in_order.ensures.sound behind came gave k (from_files (length t.processor.markers.items) t.processor.lag t.processor.grain behind (inputs_view t.inputs.items) t.coalescer t.step came k.takes_in files)

pub returns-clause-closed : goal.returns-clause-closed
returns-clause-closed c = λ came gave k none.
    let t = c.args.stamp.now in
    c.law_sends_in_order.ensures.closed came gave k (told_each IsNoResult (λ m. tt) (inputs_view t.inputs.items) t.coalescer t.step came k.takes_in none)
