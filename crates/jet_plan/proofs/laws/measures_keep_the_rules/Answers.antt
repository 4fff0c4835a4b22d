use Rattle.std.proofs.Common.{◌≡◌, length, not, ap}
use Rattle.jet_plan.specs.AlongLaws.{along_keeps}
use Rattle.jet_plan.specs.Growth.{stream_edges, by_kind, longest_rule, growth_rule}
use Rattle.jet_plan.proofs.CycleLaws.{no_walk}
use Rattle.jet_plan.proofs.Depths.{alike_same}
use Rattle.jet_plan.proofs.laws.measures_keep_the_rules.Goals as goal

pub returns-clause-keys : goal.returns-clause-keys
returns-clause-keys c =
    let dag = c.args.dag.now in
    λ name here. along_keeps (λ x y. x ≡ y) (stream_edges dag) (by_kind dag.vertices longest_rule 0) 0 (λ n xs ys h. ap (by_kind dag.vertices longest_rule 0 n) (alike_same xs ys h))
    (length dag.vertices) name (no_walk (λ e. not e.build) dag.vertices dag.edges c.requires.acyclic name here)

pub returns-clause-events : goal.returns-clause-events
returns-clause-events c =
    let dag = c.args.dag.now in
    λ name here. along_keeps (λ x y. x ≡ y) (stream_edges dag) (by_kind dag.vertices growth_rule 0) 0 (λ n xs ys h. ap (by_kind dag.vertices growth_rule 0 n) (alike_same xs ys h))
    (length dag.vertices) name (no_walk (λ e. not e.build) dag.vertices dag.edges c.requires.acyclic name here)
