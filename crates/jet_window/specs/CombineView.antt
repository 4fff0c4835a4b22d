-- A combine vertex as its definitions see it.
use Rattle.std.specs.Prelude.{◌≡◌, List, map}
use Rattle.jet_items.specs.Values.{FrameValue}
use Rattle.jet_window.specs.CombineStands.{Combine, Start}
use Rattle.jet_window.specs.FrameTables.{frame_of}
use Rattle.jet_window.specs.declared.combine.CombineP.{CombineP}

abbrev pub combine_of : CombineP → Combine
combine_of p = record { vertex = p.vertex; size = p.policy.size; slide = p.policy.slide; passed = p.passed; end = p.end; held = p.held; ready = p.ready.items }

-- what it began with
abbrev pub start_of : CombineP → Start
start_of p = record { begun = p.begun; frames = p.start.items }

-- the frames that it holds
abbrev pub held_frames : CombineP → List FrameValue
held_frames p = map (frame_of p.vertex) p.held

-- the same settings, and the same last mark
pub record SameRest (p q : CombineP) : Type 0 where
  pub vertex : q.vertex ≡ p.vertex
  pub policy : q.policy ≡ p.policy
  pub begun : q.begun ≡ p.begun
  pub start : q.start ≡ p.start
  pub last : q.last ≡ p.last
