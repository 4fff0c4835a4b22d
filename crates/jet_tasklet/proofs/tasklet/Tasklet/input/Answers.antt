use Rattle.std.proofs.Common.{◌≡◌, ◌<◌, List, ◌∙◌, ap, refl, length, get_or}
use Rattle.std.specs.Vec.{with_item}
use Rattle.std.specs.Option.{option_map}
use Rattle.std.proofs.lemmas.List.{get_or_default}
use Rattle.std.proofs.lemmas.Option.{slice_get_read, slice_get-map}
use Rattle.jet_boxes.specs.declared.port.Port.TheVariants.{Stream}
use Rattle.jet_tasklet.specs.declared.input.Input.{Input}
use Rattle.jet_tasklet.specs.declared.tasklet.Tasklet.{Tasklet}
use Rattle.jet_tasklet.proofs.tasklet.Tasklet.input.Goals as goal

pub returns : goal.returns
returns g c =
    let xs : List Input = c.args.self.now.inputs.items in
    let was : Input = c.index_mut-lent.result.now in
    let at : was ≡ get_or xs c.args.n was = c.index_mut-lent.ensures.value in
    let lt : c.args.n < length xs = c.requires in
    let other : Input = record { port = Stream; conveyor = was.conveyor } in
    let same : was ≡ get_or xs c.args.n other = at ∙ get_or_default xs c.args.n was other lt in (
      (
        refl,
        λ w.
            ap (λ (d : Input).
            let t : Tasklet g.row.P.Denot = record { processor = c.args.self.now.processor; inputs = with_item c.args.self.now.inputs c.args.n (record { port = d.port; conveyor = w }); next = c.args.self.now.next; outputs = c.args.self.now.outputs; coalescer = c.args.self.now.coalescer; step = c.args.self.now.step; outbox = c.args.self.now.outbox } in t) same,
      ),
      record {
        writes_back = tt;
        value = slice_get-map (λ (d : Input). d.conveyor) xs c.args.n ∙ ap (option_map (λ (d : Input). d.conveyor)) (slice_get_read xs (length xs) c.args.n was refl lt at);
      },
    )
