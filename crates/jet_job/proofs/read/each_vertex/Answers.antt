use Rattle.std.proofs.Common.{sym, ap, ◌∙◌, ◌≡◌, ℕ, Ok}
use Rattle.serde_json.specs.View.{view, items_view}
use Rattle.jet_job.specs.Members.{each_at}
use Rattle.jet_job.specs.Vertices.{vertex_at}
use Rattle.jet_job.proofs.Loops.{goes_on}
use Rattle.jet_job.proofs.read.each_vertex.Goals as goal

pub loop-i-preserved : goal.loop-i-preserved
loop-i-preserved c =
    let v = c.index-items-i.result in
    let same = c.in-Ok.ensures.1 in
    let here : vertex_at c.loop-i.i (view v) ≡ Ok c.in_ok-vertex.field-0 = ap (λ (n : ℕ). vertex_at n (view v)) (sym same) ∙ c.in_ok-vertex.ensures in
    rw c.in_ok-push.ensures
    (goes_on vertex_at c.loop-i.vertices c.loop-i.i c.args.items.now v c.in_ok-vertex.field-0 (each_at vertex_at 0 (items_view c.args.items.now)) c.loop-i-test.true (sym c.index-items-i.is) here c.loop-i.invariant)
