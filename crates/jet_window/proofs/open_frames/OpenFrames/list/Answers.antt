use Rattle.std.proofs.Common.{rules, map, ◌∙◌, sym, subst, FitsSigned, to_z-of_z, w64}
use Rattle.std.specs.Map.Iter.{deref_pair}
use Rattle.jet_items.specs.Order.{Each}
use Rattle.jet_items.specs.Ranges.{IsWithin, most_frame_end}
use Rattle.jet_items.specs.Values.{AccValue}
use Rattle.jet_items.proofs.Orders.{Each-back}
use Rattle.jet_window.specs.Tables.{Place}
use Rattle.jet_window.proofs.open_frames.OpenFrames.list.Goals as goal

pub invariant_of-frame : goal.invariant_of-frame
invariant_of-frame c =
    let fits : FitsSigned w64 c.in-Some.place.now.0 = search rules in
    let here : Each (λ (f : Place × AccValue). IsWithin most_frame_end f.0.0) c.loop-place.place-iterator =
    Each-back (λ (f : Place × AccValue). IsWithin most_frame_end f.0.0) (map deref_pair c.loop-place.yielded) c.loop-place.place-iterator
    (subst (Each (λ (f : Place × AccValue). IsWithin most_frame_end f.0.0)) (c.self.view_is ∙ sym c.loop-place.invariant.rest) c.self.invariant.ranges) in
    let first : IsWithin most_frame_end c.in-Some.place.now.0 = (subst (Each (λ (f : Place × AccValue). IsWithin most_frame_end f.0.0)) c.in-Some.ensures.steps here).0 in
    simp to_z-of_z first
