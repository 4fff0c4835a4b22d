use Rattle.std.proofs.Common.{◌≡◌, List, [], ◌∷◌, set, sym, ap, ◌∙◌, subst}
use Rattle.std.specs.Prelude.{slice_get}
use Rattle.std.proofs.lemmas.List.{set-set}
use Rattle.std.proofs.lemmas.Option.{get_or_from_slice_get}
use Rattle.jet_tasklet.specs.declared.any.AnyTasklet.{AnyTasklet}
use Rattle.jet_tasklet.specs.Meeting.{AnyGiverMet}
use Rattle.jet_crew.specs.Gather.{gather}
use Rattle.jet_engine.specs.Looking.{Met}
use Rattle.jet_engine.proofs.Ends.{now_there, giver_step}
use Rattle.jet_engine.proofs.drains.meet_drain.Goals as goal

pub returns-clause-met : goal.returns-clause-met
returns-clause-met c =
    let p = c.args.giver in
    let ts = gather c.args.workers.now.items c.args.order.now.items in
    let was = c.requires.joined.giver in
    let now = c.meet_sink.new.giver in
    let list : gather c.trade-2.new.workers.items c.args.order.now.items ≡ set ts p.task now =
    c.trade-2.ensures.tasks ∙ (ap (λ (us : List AnyTasklet). set us p.task now) c.trade.ensures.tasks ∙ set-set ts p.task c.args.spare.now now) in
    let met = c.meet_sink.ensures.met in
    record {
      tx = met.0;
      rx = met.1;
      giver = record { tasklet = now; at = ap (λ (us : List AnyTasklet). slice_get us p.task) list ∙ now_there ts p.task was.tasklet now was.at; end = met.2 };
      taker = met.3;
      met = met.4;
    }

pub returns-clause-others : goal.returns-clause-others
returns-clause-others c =
    let p = c.args.giver in
    let ts = gather c.args.workers.now.items c.args.order.now.items in
    let was = c.requires.joined.giver in
    let now = c.meet_sink.new.giver in
    let list : gather c.trade-2.new.workers.items c.args.order.now.items ≡ set ts p.task now =
    c.trade-2.ensures.tasks ∙ (ap (λ (us : List AnyTasklet). set us p.task now) c.trade.ensures.tasks ∙ set-set ts p.task c.args.spare.now now) in
    let lent : c.trade.new.task ≡ was.tasklet = sym c.trade.ensures.taken ∙ get_or_from_slice_get ts p.task was.tasklet c.trade.new.task was.at in
    subst (λ (us : List AnyTasklet). Met ts us (p ∷ []) []) (sym list)
    (giver_step ts p was.tasklet now was.at (subst (λ (t : AnyTasklet). AnyGiverMet t now p.output p.dest) lent c.meet_sink.ensures.giver))
