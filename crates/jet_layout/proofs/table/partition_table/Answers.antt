use Rattle.std.proofs.Common.{arith, ◌≡◌, ◌∙◌, ◌<◌, List, ℕ, map, ap, subst, sym}
use Rattle.std.specs.List.{All, range_with_len}
use Rattle.jet_layout.specs.Destinations.{destination_count}
use Rattle.jet_layout.specs.Tables.{destination, table}
use Rattle.jet_layout.proofs.Destinations.{table_below}
use Rattle.jet_layout.proofs.table.partition_table.Goals as goal

pub returns : goal.returns
returns c =
    let all : c.loop-partition.partition ≡ 271 = omega (arith, c.loop-partition-test.false, c.loop-partition.auto.partition-end) in
    let is : c.loop-partition.destinations.items ≡ table c.args.members c.args.joint.now c.args.across c.args.member =
    c.loop-partition.invariant ∙ ap (λ n. map (destination c.args.members c.args.joint.now c.args.across c.args.member) (range_with_len 0 n)) all in
    record {
      table = is;
      below = λ has. subst (λ (l : List ℕ). All (λ d. d < destination_count c.args.members c.args.joint.now c.args.across c.args.member) l) (sym is)
          (table_below c.args.members c.args.joint.now c.args.across c.args.member c.requires.member c.requires.instances has);
    }
