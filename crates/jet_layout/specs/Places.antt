-- Where the tasklets of a job stand.
use Rattle.std.specs.Prelude.{◌≡◌, ◌≢◌, ℕ, ◌<◌, false, List, slice_get, Some}
use Rattle.jet_plan.specs.declared.dag.Dag.{Dag}
use Rattle.jet_plan.specs.declared.vertex.Vertex.{Vertex}
use Rattle.jet_plan.specs.Kinds.{is_sink}
use Rattle.jet_plan.specs.Rings.{instances}
use Rattle.jet_layout.specs.declared.joint.Joint.{Joint}
use Rattle.jet_layout.specs.declared.task.Instance.{Instance}
use Rattle.jet_layout.specs.declared.task.Link.{Link}
use Rattle.jet_layout.specs.Joints.{count}

-- one of the instances of a vertex, which is not the sink, on one of the members
pub record IsInstance (dag : Dag) (width : ℕ) (i : Instance) : Type 0 where
  pub vertex : Vertex
  pub at : slice_get dag.vertices i.vertex ≡ Some vertex
  pub plain : is_sink vertex.kind ≡ false
  pub inside : i.member < width
  pub there : i.number < instances vertex i.member

-- a link of an edge from a member with producers to another one with consumers
pub record IsLink (width : ℕ) (joints : List Joint) (x : Link) : Type 0 where
  pub joint : Joint
  pub at : slice_get joints x.edge ≡ Some joint
  pub edge : joint.edge ≡ x.edge
  pub from : x.from < width
  pub to : x.to < width
  pub apart : x.from ≢ x.to
  pub givers : 0 < count joint.from x.from
  pub takers : 0 < count joint.to x.to
