use Rattle.std.proofs.Common.{◌≡◌, Bool, true, false, not, List, [], ◌∷◌, refl, Bor}
use Rattle.std.specs.Prelude.{Option, Some, None, is_some, slice_get}
use Rattle.std.specs.Option.{option_copied}
use Rattle.jet_items.specs.declared.item.Item.{Item}
use Rattle.jet_tasklet.proofs.tasklet.Tasklet.has_ended.Goals as goal

empty : (r : Option (Bor Item)) (b : Bool) (items : List Item) → is_some r ≡ not b → b ≡ true → option_copied r ≡ slice_get items 0 → items ≡ []
empty None b [] s e h = refl
empty None b (x ∷ xs) s e h = absurd (cc)
empty (Some x) true items s e h = absurd (cc)
empty (Some x) false items s e h = absurd (cc)

some : (r : Option (Bor Item)) (b : Bool) (items : List Item) → is_some r ≡ not b → items ≡ [] → option_copied r ≡ slice_get items 0 → b ≡ true
some None true items s e h = refl
some None false items s e h = absurd (cc)
some (Some x) b [] s e h = absurd (cc)
some (Some x) b (y ∷ ys) s e h = absurd (cc)

pub returns : goal.returns
returns g c = (
  λ e. (c.in-Ended.is, empty c.front.result c.is_none.result c.args.self.now.outbox.items c.is_none.ensures e c.front.ensures),
  λ h. some c.front.result c.is_none.result c.args.self.now.outbox.items c.is_none.ensures h.1 c.front.ensures,
)
