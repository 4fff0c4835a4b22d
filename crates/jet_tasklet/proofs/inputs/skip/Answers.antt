use Rattle.std.proofs.Common.{◌≡◌, ℕ, List, get_or, refl, ap, arith}
use Rattle.jet_tasklet.specs.declared.input.Input.{Input}
use Rattle.jet_tasklet.specs.Inputs.{input_view, inputs_view}
use Rattle.jet_tasklet.specs.Taking.{Stands}
use Rattle.jet_tasklet.proofs.Ports.{length_views, view_at, views_set}
use Rattle.jet_tasklet.proofs.Spots.{stands_in}
use Rattle.jet_tasklet.proofs.inputs.skip.Goals as goal

pub returns : goal.returns
returns c = λ x h.
    let xs : List Input = c.args.inputs.now in
    let i : ℕ = c.args.spot.now.place in
    let old : Input = get_or xs i c.index-inputs-spot.result in
    let new : Input = record { port = old.port; conveyor = c.skip.new.self } in
    let at : input_view old ≡ get_or (inputs_view xs) i (input_view old) = view_at xs i old (omega (arith, h.inside, length_views xs)) (ap (λ (d : Input). get_or xs i d) c.index-inputs-spot.is) in
    let there : Stands (inputs_view xs) c.args.spot.now x = stands_in (inputs_view xs) c.args.spot.now x h (input_view old) at in
    record {
      took = record {
        place = i;
        within = c.args.spot.now.within;
        was = input_view old;
        now = (input_view new).queues;
        inside = h.inside;
        at = at;
        to_port = there.to_port;
        port_is = refl;
        queue_is = h.queue_is;
        is_queue = there.is_queue;
        took = c.skip.ensures.taken x there.first;
        seen = c.skip.ensures.seen;
        after_is = views_set xs i new;
      };
      place_is = refl;
      within_is = refl;
    }
