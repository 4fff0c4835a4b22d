use Rattle.std.proofs.Common.{◌≡◌, ◌-◌, ◌==◌, ℕ, List, length, drop, take, false, refl, arith, subst, length-drop}
use Rattle.std.proofs.lemmas.List.{take_all}
use Rattle.jet_lines.specs.Cutting.{HasLongLine}
use Rattle.jet_lines.proofs.CutLemmas.{line_behind, some_length}
use Rattle.jet_lines.proofs.lines.Lines.next.Goals as goal

tail_is : (items : List ℕ) (at : ℕ) → take (length items - at) (drop at items) ≡ drop at items
tail_is items at = take_all (length items - at) (drop at items) (omega (arith, length-drop at items))

pub returns-then-self-2 : goal.returns-then-self-2
returns-then-self-2 c =
    let items = take c.self.inside.len c.self.inside.held.items in
    let at = c.self.inside.at in
    let here = rw (c.deref.ensures.value) at c.if-is_empty.ensures in
    let some = subst (λ (rest : List ℕ). false ≡ (length rest == 0)) (tail_is items at) here in
    rw (← c.self.view_is) (refl, omega arith, line_behind c.self.inside.ended (drop at items) (some_length (length (drop at items)) some), refl)

pub returns-in-Long : goal.returns-in-Long
returns-in-Long c =
    let items = take c.self.inside.len c.self.inside.held.items in
    let at = c.self.inside.at in
    let here = rw (c.deref.ensures.value) at c.in-Long.ensures in
    let long = subst (λ (rest : List ℕ). HasLongLine c.self.inside.ended rest) (tail_is items at) here in
    rw (← c.self.view_is) (refl, omega arith, long, refl)
