use Rattle.std.proofs.Common.{rules, ◌≡◌, ◌+◌, ◌∷◌, ◌++◌, [], List, take, refl, sym, ◌∙◌, ap, subst, FitsSigned, to_z-of_z, w64}
use Rattle.std.proofs.lemmas.List.{take_more}
use Rattle.jet_items.specs.Values.{FrameValue}
use Rattle.jet_window.specs.Combining.{TableOf}
use Rattle.jet_window.specs.FrameTables.{Table}
use Rattle.jet_window.proofs.Standing.{table_more, table_none}
use Rattle.jet_window.proofs.combine.table_of.Goals as goal

pub loop-frame-init : goal.loop-frame-init
loop-frame-init c = table_none [] c.new-held.result refl c.new-held.ensures

pub loop-frame-preserved : goal.loop-frame-preserved
loop-frame-preserved c =
    let fits : FitsSigned w64 c.frame.inside.end = search rules in
    let f : FrameValue = record { vertex = c.frame.inside.vertex; end = c.frame.inside.end; key = c.frame.inside.key; acc = c.frame.inside.acc } in
    let front : List FrameValue = take c.loop-frame.frame-index c.args.frames.now in
    let held = simp to_z-of_z at c.in_ok-keep.ensures.ok in
    let all : take (c.loop-frame.frame-index + 1) c.args.frames.now ≡ front ++ f ∷ [] =
    take_more c.args.frames.now c.loop-frame.frame-index c.frame-item.result c.loop-frame-test.true ∙ ap (λ (g : FrameValue). front ++ g ∷ []) (sym c.frame-item.is ∙ sym c.frame.view_is) in
    subst (λ (fs : List FrameValue). TableOf fs c.keep.new.self) (sym all)
    (subst (λ (t : Table). TableOf (front ++ f ∷ []) t) (sym held) (table_more front c.loop-frame.held f c.frame.invariant c.loop-frame.invariant))
