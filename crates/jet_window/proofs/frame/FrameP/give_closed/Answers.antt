use Rattle.std.proofs.Common.{arith, ◌≡◌, ◌∷◌, ◌++◌, [], ℕ, ◌≤ℤ◌, ◌∙◌, ap, sym, subst, FitsSigned, to_z, of_z, to_z-of_z, w64}
use Rattle.std.proofs.lemmas.Int.{ints}
use Rattle.jet_boxes.specs.Held.{BoxView}
use Rattle.jet_items.specs.Values.{AccValue, FrameValue}
use Rattle.jet_items.specs.declared.item.Item.TheVariants as item
use Rattle.jet_window.specs.Tables.{Place}
use Rattle.jet_window.specs.FrameTables.{frame_of}
use Rattle.jet_window.proofs.Moving.{Moved-more}
use Rattle.jet_window.proofs.Opening.{taken_first, first_frame}
use Rattle.jet_window.proofs.frame.FrameP.give_closed.Goals as goal

pub loop-frame-preserved : goal.loop-frame-preserved
loop-frame-preserved c =
    let fits_t : FitsSigned w64 c.args.t = c.ranges.t in
    let x : FrameValue = c.in-Some.frame in
    let g = first_frame c.loop-frame.self.vertex c.loop-frame.self.held x c.in-Some.ensures.first in
    let f : Place × AccValue = g.0 in
    let same : frame_of c.loop-frame.self.vertex f ≡ x = g.2 in
    let due : x.end ≤ℤ c.args.t = simp to_z-of_z at c.in-Some.ensures.due in
    let end : f.0.0 ≡ x.end = ap (λ (y : FrameValue). y.end) same in
    let le : f.0.0 ≤ℤ to_z w64 (of_z w64 c.args.t) = omega (arith, ints) in
    let is : c.loop-frame.self.held ≡ f ∷ c.take_first.new.self = taken_first c.loop-frame.self.held c.take_first.new.self c.take_first.result f g.1 c.take_first.ensures.some c.take_first.ensures.none in
    let put : c.offer.new.self.items ≡ c.loop-frame.out.items ++ item.Frame x ∷ [] = ap (λ (b : BoxView). b.items) c.in_default-offer.ensures.put in
    let put_frame : c.offer.new.self.items ≡ c.loop-frame.out.items ++ item.Frame (frame_of c.loop-frame.self.vertex f) ∷ [] = subst (λ (y : FrameValue). c.offer.new.self.items ≡ c.loop-frame.out.items ++ item.Frame y ∷ []) (sym same) put in
    let put_old : c.offer.new.self.items ≡ c.loop-frame.out.items ++ item.Frame (frame_of c.args.self.now.vertex f) ∷ [] = subst (λ (v : ℕ). c.offer.new.self.items ≡ c.loop-frame.out.items ++ item.Frame (frame_of v f) ∷ []) c.loop-frame.invariant.vertex put_frame in
    record {
      vertex = c.loop-frame.invariant.vertex;
      times = c.loop-frame.invariant.times;
      room = ap (λ (b : BoxView). b.room) c.in_default-offer.ensures.put ∙ c.loop-frame.invariant.room;
      moved = Moved-more c.args.self.now.vertex _ c.args.self.now.held c.args.out.now.items c.loop-frame.self.held c.loop-frame.out.items f c.take_first.new.self c.offer.new.self.items le c.loop-frame.invariant.moved is put_old;
    }
