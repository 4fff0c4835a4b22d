use Rattle.std.proofs.Common.{◌≡◌, ◌++◌, map}
use Rattle.std.specs.Map.Iter.{deref_pair}
use Rattle.jet_window.specs.FrameTables.{frame_of}
use Rattle.jet_window.proofs.open_frames.OpenFrames.list.Given as goal

abbrev pub invariant-loop-place : goal.invariant-loop-place
invariant-loop-place l = record {
  made : l.frames.items ≡ map (frame_of l.vertex) (map deref_pair l.yielded);
  rest : map deref_pair l.yielded ++ l.place-iterator ≡ l.self;
}
