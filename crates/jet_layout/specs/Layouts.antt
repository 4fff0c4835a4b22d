-- A job laid out.
use Rattle.std.specs.Prelude.{◌≡◌, ◌++◌, length}
use Rattle.std.specs.List.{flat_map}
use Rattle.jet_plan.specs.declared.dag.Dag.{Dag}
use Rattle.jet_plan.specs.declared.settings.Settings.{Settings}
use Rattle.jet_plan.specs.Rings.{members}
use Rattle.jet_layout.specs.declared.layout.Layout.{Layout}
use Rattle.jet_layout.specs.Files.{files}
use Rattle.jet_layout.specs.Joints.{vertex_ends, joints}
use Rattle.jet_layout.specs.Links.{links_of}
use Rattle.jet_layout.specs.Tasks.{instance_tasks, link_tasks}
use Rattle.jet_layout.specs.Wires.{wires_from}

-- the layout is that of the job
pub record IsLayout (dag : Dag) (s : Settings) (l : Layout) : Type 0 where
  pub ends : l.ends ≡ vertex_ends (members s) 0 dag.vertices
  pub joints : l.joints ≡ joints (members s) dag
  pub links : l.links ≡ flat_map (links_of (members s)) l.joints
  pub tasks : l.tasks ≡ instance_tasks (members s) 0 dag.vertices ++ flat_map link_tasks l.links
  pub wires : l.wires ≡ wires_from (members s) (length (instance_tasks (members s) 0 dag.vertices)) l.joints
  pub files : l.files ≡ files (members s) dag
