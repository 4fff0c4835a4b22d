-- The events of an event, put one by one.
use Rattle.std.proofs.Common.{◌≡◌, ℕ, ◌+◌, ◌<◌, List, [], ◌∷◌, ◌++◌, map, length, take, get_or, sym, ◌∙◌, ap, arith, append_assoc}
use Rattle.std.proofs.Math.ListN.{get_or-map}
use Rattle.std.proofs.lemmas.List.{take_more, length-map}
use Rattle.jet_items.specs.Values.{EventValue, SideValue}
use Rattle.jet_items.specs.Joins.{Joining, joined_with}
use Rattle.jet_items.specs.declared.item.Item.{Item}
use Rattle.jet_items.specs.declared.item.Item.TheVariants as item
use Rattle.jet_join.specs.Stands.{items_over}

-- some items were put, from a place on up to the next one
pub record Progress (all : List Item) (from : ℕ) (before : List Item) (next : ℕ) (after : List Item) : Type 0 where
  pub put : List Item
  pub puts : after ≡ before ++ put
  pub rest : take from all ++ put ≡ take next all

length_over : (j : Joining) (e : EventValue) (rows : List SideValue) → 0 < length rows → length (items_over j rows e) ≡ length rows
length_over j e [] h = absurd (omega (arith, h))
length_over j e (s ∷ rows) h = length-map (map (joined_with j e) (s ∷ rows)) (λ d. item.Event d) ∙ length-map (s ∷ rows) (joined_with j e)

get_over : (j : Joining) (e : EventValue) (rows : List SideValue) (i : ℕ) (d : SideValue) → i < length rows → get_or (items_over j rows e) i (item.Event (joined_with j e d)) ≡ item.Event (joined_with j e (get_or rows i d))
get_over j e [] i d h = absurd (omega (arith, h))
get_over j e (s ∷ rows) i d h = get_or-map (λ d. item.Event d) (map (joined_with j e) (s ∷ rows)) i (joined_with j e d) ∙ ap (λ d. item.Event d) (get_or-map (joined_with j e) (s ∷ rows) i d)

-- the event of one row more
pub one_put : (j : Joining) (e : EventValue) (rows : List SideValue) (from next : ℕ) (before after after' : List Item) (row : SideValue) → next < length rows → row ≡ get_or rows next row
    → after' ≡ after ++ item.Event (joined_with j e row) ∷ [] → Progress (items_over j rows e) from before next after → Progress (items_over j rows e) from before (next + 1) after'
one_put j e rows from next before after after' row lt is more p =
    let all : List Item = items_over j rows e in
    let within : next < length all = rw (length_over j e rows (omega (arith, lt))) lt in
    let here : get_or all next (item.Event (joined_with j e row)) ≡ item.Event (joined_with j e row) = get_over j e rows next row lt ∙ ap (λ r. item.Event (joined_with j e r)) (sym is) in
    record {
      put = p.put ++ item.Event (joined_with j e row) ∷ [];
      puts = more ∙ (ap (λ xs. xs ++ item.Event (joined_with j e row) ∷ []) p.puts ∙ append_assoc before p.put (item.Event (joined_with j e row) ∷ []));
      rest = sym (append_assoc (take from all) p.put (item.Event (joined_with j e row) ∷ []))
          ∙ (ap (λ xs. xs ++ item.Event (joined_with j e row) ∷ []) p.rest
          ∙ sym (take_more all next (item.Event (joined_with j e row)) within ∙ ap (λ x. take next all ++ x ∷ []) here));
    }
