use Rattle.std.proofs.Common.{◌≡◌, List, [], ◌∷◌, set, sym, ap, ◌∙◌, subst}
use Rattle.std.specs.Prelude.{slice_get, Some}
use Rattle.std.proofs.lemmas.Option.{get_or_from_slice_get}
use Rattle.jet_tasklet.specs.declared.any.AnyTasklet.{AnyTasklet}
use Rattle.jet_tasklet.specs.Meeting.{AnyGiverMet, AnyTakerMet}
use Rattle.jet_crew.specs.Gather.{gather}
use Rattle.jet_engine.specs.Looking.{Met}
use Rattle.jet_engine.proofs.Placewise.{set_elsewhere}
use Rattle.jet_engine.proofs.Ends.{now_there, giver_step, taker_step, met_trans}
use Rattle.jet_engine.proofs.junctions.meet_junction.Goals as goal

pub returns-clause-met : goal.returns-clause-met
returns-clause-met c =
    let p = c.args.junction.giver in
    let q = c.args.junction.taker in
    let ts = gather c.args.workers.now.items c.args.order.now.items in
    let was = c.requires.joined in
    let from = c.meet.new.giver in
    let to = c.meet.new.taker in
    let us = set ts p.task from in
    let list : gather c.trade_both-2.new.workers.items c.args.order.now.items ≡ set us q.task to = c.trade_both-2.ensures.tasks ∙ c.trade_both.ensures.back from to in
    let there : slice_get us q.task ≡ Some was.taker.tasklet = set_elsewhere ts p.task q.task from was.taker.tasklet (λ e. was.apart (sym e)) was.taker.at in
    let met = c.meet.ensures.met in
    record {
      tx = met.0;
      rx = met.1;
      giver = record {
        tasklet = from;
        at = ap (λ (vs : List AnyTasklet). slice_get vs p.task) list ∙ set_elsewhere us q.task p.task to from was.apart (now_there ts p.task was.giver.tasklet from was.giver.at);
        end = met.2;
      };
      taker = record { tasklet = to; at = ap (λ (vs : List AnyTasklet). slice_get vs q.task) list ∙ now_there us q.task was.taker.tasklet to there; end = met.3 };
      met = met.4;
    }

pub returns-clause-others : goal.returns-clause-others
returns-clause-others c =
    let p = c.args.junction.giver in
    let q = c.args.junction.taker in
    let ts = gather c.args.workers.now.items c.args.order.now.items in
    let was = c.requires.joined in
    let from = c.meet.new.giver in
    let to = c.meet.new.taker in
    let us = set ts p.task from in
    let list : gather c.trade_both-2.new.workers.items c.args.order.now.items ≡ set us q.task to = c.trade_both-2.ensures.tasks ∙ c.trade_both.ensures.back from to in
    let there : slice_get us q.task ≡ Some was.taker.tasklet = set_elsewhere ts p.task q.task from was.taker.tasklet (λ e. was.apart (sym e)) was.taker.at in
    let giver : c.trade_both.new.a ≡ was.giver.tasklet = sym c.trade_both.ensures.taken ∙ get_or_from_slice_get ts p.task was.giver.tasklet c.trade_both.new.a was.giver.at in
    let taker : c.trade_both.new.b ≡ was.taker.tasklet = sym c.trade_both.ensures.taken_too ∙ get_or_from_slice_get ts q.task was.taker.tasklet c.trade_both.new.b was.taker.at in
    subst (λ (vs : List AnyTasklet). Met ts vs (p ∷ []) (q ∷ [])) (sym list)
    (met_trans ts us (set us q.task to) (p ∷ []) [] [] (q ∷ [])
    (giver_step ts p was.giver.tasklet from was.giver.at (subst (λ (t : AnyTasklet). AnyGiverMet t from p.output p.dest) giver c.meet.ensures.giver))
    (taker_step us q was.taker.tasklet to there (subst (λ (t : AnyTasklet). AnyTakerMet t to q.input q.queue) taker c.meet.ensures.taker)))
