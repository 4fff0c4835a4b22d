-- What links and edges add to a layout.
use Rattle.std.specs.Prelude.{◌≡◌, ℕ, List, ◌++◌, length}
use Rattle.std.specs.List.{flat_map}
use Rattle.jet_layout.specs.declared.draft.Draft.{Draft}
use Rattle.jet_layout.specs.declared.joint.Joint.{Joint}
use Rattle.jet_layout.specs.declared.task.Link.{Link}
use Rattle.jet_layout.specs.Links.{links_of}
use Rattle.jet_layout.specs.Tasks.{link_tasks}
use Rattle.jet_layout.specs.Wires.{links_wires, edge_wires, wires_from}

-- these links of an edge are added
pub record HasLinks (j : Joint) (a b : Draft) (ls : List Link) : Type 0 where
  pub tasks : b.tasks ≡ a.tasks ++ flat_map link_tasks ls
  pub links : b.links ≡ a.links ++ ls
  pub wires : b.wires ≡ a.wires ++ links_wires j (length a.tasks) ls

-- an edge is added
pub record HasEdge (members : ℕ) (j : Joint) (a b : Draft) : Type 0 where
  pub tasks : b.tasks ≡ a.tasks ++ flat_map link_tasks (links_of members j)
  pub links : b.links ≡ a.links ++ links_of members j
  pub wires : b.wires ≡ a.wires ++ edge_wires members (length a.tasks) j

-- edges are added
pub record HasEdges (members : ℕ) (js : List Joint) (a b : Draft) : Type 0 where
  pub tasks : b.tasks ≡ a.tasks ++ flat_map link_tasks (flat_map (links_of members) js)
  pub links : b.links ≡ a.links ++ flat_map (links_of members) js
  pub wires : b.wires ≡ a.wires ++ wires_from members (length a.tasks) js
