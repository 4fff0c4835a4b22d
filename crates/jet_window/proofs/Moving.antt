-- One more frame is put.
use Rattle.std.proofs.Common.{◌≡◌, ℕ, ℤ, ◌≤ℤ◌, List, [], ◌∷◌, ◌++◌, map, sym, ◌∙◌, ap, append_assoc}
use Rattle.jet_items.specs.Values.{AccValue}
use Rattle.jet_items.specs.declared.item.Item.{Item}
use Rattle.jet_items.proofs.Orders.{Each-append}
use Rattle.jet_items.specs.declared.item.Item.TheVariants as item
use Rattle.jet_window.specs.Tables.{Place}
use Rattle.jet_window.specs.FrameTables.{Table, frame_of}
use Rattle.jet_window.specs.inner.FrameMoves.{Moved}
use Rattle.jet_window.proofs.Windowing.{map_push}

pub Moved-more : (vertex : ℕ) (t : ℤ) (old : Table) (before : List Item) (held : Table) (middle : List Item) (f : Place × AccValue) (new : Table) (after : List Item) → f.0.0 ≤ℤ t → Moved vertex t old before held middle → held ≡ f ∷ new → after ≡ middle ++ item.Frame (frame_of vertex f) ∷ [] → Moved vertex t old before new after
Moved-more vertex t old before held middle f new after le m h k = record {
  first = m.first ++ f ∷ [];
  closed = Each-append (λ (g : Place × AccValue). g.0.0 ≤ℤ t) m.first (f ∷ []) m.closed (le, tt);
  held = m.held ∙ (ap (λ (t : Table). m.first ++ t) h ∙ sym (append_assoc m.first (f ∷ []) new));
  puts = k ∙ (ap (λ (xs : List Item). xs ++ item.Frame (frame_of vertex f) ∷ []) m.puts
      ∙ (append_assoc before (map (λ g. item.Frame (frame_of vertex g)) m.first) (item.Frame (frame_of vertex f) ∷ [])
      ∙ ap (λ (xs : List Item). before ++ xs) (sym (map_push (λ (g : Place × AccValue). item.Frame (frame_of vertex g)) m.first f))));
}
