-- What a contract sees of a tasklet of any kind, as plain data.
use Rattle.std.specs.Prelude.{List, []}
use Rattle.jet_items.specs.declared.item.Item.{Item}
use Rattle.jet_tasklet.specs.declared.step.Step.{Step}
use Rattle.jet_tasklet.specs.declared.step.Step.TheVariants as step
use Rattle.jet_tasklet.specs.declared.any.AnyTasklet.{AnyTasklet}
use Rattle.jet_tasklet.specs.Inputs.{InputView, inputs_view}
use Rattle.jet_tasklet.specs.Outputs.{OutputView, outputs_view}
use Rattle.jet_tasklet.specs.Kinds.{seen, inputs_of, outputs_of}

-- its inputs, each with its port and, queue by queue, the ring, what was received, what is known and whether it is done
abbrev pub ins : AnyTasklet → List InputView
ins t = inputs_view (inputs_of t)

-- its outputs, each with the ring, what was sent and how many slots are known to be free, destination by destination
abbrev pub outs : AnyTasklet → List OutputView
outs t = outputs_view (outputs_of t)

-- the items that entered its outbox and wait there; an end of a link has no outbox
abbrev pub waiting : AnyTasklet → List Item
waiting t = seen (λ P u. u.outbox.items) (λ s. []) (λ r. []) t

-- what it does next; an end of a link has nothing pending between two turns
abbrev pub step_of : AnyTasklet → Step
step_of t = seen (λ P u. u.step) (λ s. step.Poll) (λ r. step.Poll) t
