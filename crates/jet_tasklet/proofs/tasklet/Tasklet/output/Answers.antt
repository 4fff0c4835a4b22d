use Rattle.std.proofs.Common.{◌≡◌, ◌<◌, List, ◌∙◌, ap, refl, length, get_or, false}
use Rattle.std.specs.Vec.{with_item}
use Rattle.std.specs.Option.{option_map}
use Rattle.std.proofs.lemmas.List.{get_or_default}
use Rattle.std.proofs.lemmas.Option.{slice_get_read, slice_get-map}
use Rattle.jet_tasklet.specs.declared.output.Output.{Output}
use Rattle.jet_tasklet.specs.declared.tasklet.Tasklet.{Tasklet}
use Rattle.jet_tasklet.proofs.tasklet.Tasklet.output.Goals as goal

pub returns : goal.returns
returns g c =
    let xs : List Output = c.args.self.now.outputs.items in
    let was : Output = c.index_mut-lent.result.now in
    let at : was ≡ get_or xs c.args.n was = c.index_mut-lent.ensures.value in
    let lt : c.args.n < length xs = c.requires in
    let other : Output = record { router = was.router; had = false } in
    let same : was ≡ get_or xs c.args.n other = at ∙ get_or_default xs c.args.n was other lt in (
      (
        refl,
        λ w.
            ap (λ (d : Output).
            let t : Tasklet g.row.P.Denot = record { processor = c.args.self.now.processor; inputs = c.args.self.now.inputs; next = c.args.self.now.next; outputs = with_item c.args.self.now.outputs c.args.n (record { router = w; had = d.had }); coalescer = c.args.self.now.coalescer; step = c.args.self.now.step; outbox = c.args.self.now.outbox } in t) same,
      ),
      record {
        writes_back = tt;
        value = slice_get-map (λ (d : Output). d.router) xs c.args.n ∙ ap (option_map (λ (d : Output). d.router)) (slice_get_read xs (length xs) c.args.n was refl lt at);
      },
    )
