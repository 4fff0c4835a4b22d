use Rattle.std.proofs.Common.{arith, map, length, ap}
use Rattle.std.specs.List.{range_with_len}
use Rattle.std.proofs.lemmas.List.{length-append}
use Rattle.std.proofs.lemmas.List.FromFn.{length-map-range_with_len}
use Rattle.jet_layout.specs.declared.task.Task.TheVariants.{Run}
use Rattle.jet_layout.proofs.Ranges.{grown, map_more}
use Rattle.jet_layout.proofs.instances.add_member.Goals as goal

pub loop-number-preserved : goal.loop-number-preserved
loop-number-preserved c = grown _ _ _ c.loop-number.invariant c.in_ok-push.ensures (map_more _ c.loop-number.number)

pub returns-clause-few : goal.returns-clause-few
returns-clause-few c =
    let e = ap length c.loop-number.invariant in
    let l = length-append c.args.tasks.now (map (λ i. Run (record { vertex = c.args.vertex; member = c.args.member; number = i })) (range_with_len 0 c.loop-number.number)) in
    let k = length-map-range_with_len (λ i. Run (record { vertex = c.args.vertex; member = c.args.member; number = i })) 0 c.loop-number.number in
    omega (arith, e, l, k, c.requires, c.loop-number.auto.number-end)
