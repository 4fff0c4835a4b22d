use Rattle.std.proofs.Common.{rules, arith, ◌≡◌, ap, Some, ◌<ℤ◌, FitsSigned, to_z-of_z, w64}
use Rattle.std.specs.Prelude.{slice_get}
use Rattle.std.specs.Option.{option_map}
use Rattle.std.proofs.lemmas.Int.{ints}
use Rattle.jet_items.specs.Ranges.{IsWithin, most_frame_end}
use Rattle.jet_items.specs.Values.{AccValue}
use Rattle.jet_window.specs.Tables.{Place}
use Rattle.jet_window.specs.FrameTables.{frame_of}
use Rattle.jet_window.proofs.Ending.{above_first, first_each}
use Rattle.jet_window.proofs.open_frames.OpenFrames.first_until.Goals as goal

pub returns-then-t-place-clause-none : goal.returns-then-t-place-clause-none
returns-then-t-place-clause-none c =
    let fits_at : FitsSigned w64 c.in_ok-place.place.now.0 = search rules in
    let fits_t : FitsSigned w64 c.args.t = c.ranges.t in
    let lt : c.args.t <ℤ c.in_ok-place.place.now.0 = omega (arith, ints) in
    rw (← c.self.view_is) (above_first c.args.t c.self.inside.accs.entries (c.in_ok-place.place.now, c.in_ok-place.acc.now) c.in_ok-place.ensures.first c.self.invariant.ordered lt)

pub invariant_of-frame : goal.invariant_of-frame
invariant_of-frame c =
    let fits : FitsSigned w64 c.in_ok-place.place.now.0 = search rules in
    let range = first_each (λ (g : Place × AccValue). IsWithin most_frame_end g.0.0) c.self.inside.accs.entries (c.in_ok-place.place.now, c.in_ok-place.acc.now) c.in_ok-place.ensures.first c.self.invariant.ranges in
    simp to_z-of_z range

pub returns-clause-first : goal.returns-clause-first
returns-clause-first c =
    let fits : FitsSigned w64 c.in_ok-place.place.now.0 = search rules in
    let is : slice_get c.args.self.now 0 ≡ Some (c.in_ok-place.place.now, c.in_ok-place.acc.now) = rw (← c.self.view_is) c.in_ok-place.ensures.first in
    simp to_z-of_z (ap (option_map (frame_of c.args.vertex)) is)
