use Rattle.std.proofs.Common.{FitsSigned, to_z-of_z, w64}
use Rattle.jet_window.specs.Tables.{Place}
use Rattle.jet_window.proofs.Opening.{kept_joined}
use Rattle.jet_window.proofs.open_frames.OpenFrames.put.Goals as goal

pub invariant_of-self-2 : goal.invariant_of-self-2
invariant_of-self-2 c =
    let fits : FitsSigned w64 c.args.end = c.ranges.end in
    let k : Place = (c.args.end, c.args.key.now) in
    let ok = simp to_z-of_z at c.in_ok-add.ensures.ok in
    kept_joined k c.args.acc.now c.self.inside.accs.entries _ c.self.invariant c.requires ok
