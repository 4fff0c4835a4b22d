use Rattle.std.proofs.Common.{◌≡◌, ◌<◌, ◌≤◌, ℕ, false, List, length, get_or, refl, ◌∙◌, ap, arith}
use Rattle.std.proofs.lemmas.List.{length-map}
use Rattle.jet_tasklet.specs.declared.output.Output.{Output}
use Rattle.jet_tasklet.specs.Outputs.{OutputView, output_view, outputs_view, ready}
use Rattle.jet_tasklet.proofs.Stepping.{seen_next, stepped_all}
use Rattle.jet_tasklet.proofs.outputs.clear.Goals as goal

pub loop-place-preserved : goal.loop-place-preserved
loop-place-preserved c =
    let vs : List OutputView = outputs_view c.args.outputs.now in
    let xs : List Output = c.loop-place.outputs in
    let i : ℕ = c.loop-place.place in
    let r : Output = c.index-outputs-place.result in
    let len : length vs ≡ length c.args.outputs.now = length-map c.args.outputs.now output_view in
    let lt : i < length vs = omega (arith, len) in
    let within : i < length xs = omega arith in
    seen_next output_view (λ (o : OutputView). ready o.router) vs xs i (get_or xs i r) (record { router = (get_or xs i r).router; had = false }) c.loop-place.invariant lt (ap (λ (d : Output). get_or xs i d) c.index-outputs-place.is) refl within

pub returns : goal.returns
returns c =
    let vs : List OutputView = outputs_view c.args.outputs.now in
    let len : length vs ≡ length c.args.outputs.now = length-map c.args.outputs.now output_view in
    let le : length vs ≤ c.loop-place.place = omega (arith, len) in
    c.loop-place.invariant ∙ stepped_all (λ (o : OutputView). ready o.router) vs c.loop-place.place le
