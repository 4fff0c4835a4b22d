use Rattle.std.proofs.Common.{◌≡◌, map, filter, take}
use Rattle.std.specs.Prelude.{bytes_eq}
use Rattle.jet_deploy.specs.Making.{port_of}
use Rattle.jet_deploy.proofs.instances.vertex_ports.Given as goal

abbrev pub invariant-loop-edge : goal.invariant-loop-edge
invariant-loop-edge l = l.ports.items ≡ map port_of (filter (λ e. bytes_eq e.to l.vertex.name) (take l.edge-index l.dag.edges))
