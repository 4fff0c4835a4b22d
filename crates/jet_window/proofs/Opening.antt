-- Tables of open frames after an accumulator was joined into one that is there.
use Rattle.std.proofs.Common.{◌≡◌, ℕ, cond, [], ◌∷◌, refl, sym, ◌∙◌, ap, Option, Some, None}
use Rattle.std.specs.Prelude.{slice_get, IfSome, IfNone}
use Rattle.std.specs.Option.{option_map}
use Rattle.std.specs.Map.{lookup, set_value}
use Rattle.std.specs.BTreeMap.{insert_entry, is_at}
use Rattle.std.specs.declared.cmp.Ordering.{Ordering}
use Rattle.std.specs.declared.cmp.Ordering.TheVariants.{Less, Equal, Greater}
use Rattle.std.specs.Ordering.{is_eq, match_ordering}
use Rattle.jet_items.specs.Ranges.{IsWithin, most_frame_end}
use Rattle.jet_items.specs.Values.{AccValue, FrameValue}
use Rattle.jet_items.proofs.Orders.{Each-more}
use Rattle.jet_window.specs.Tables.{Place, place_cmp}
use Rattle.jet_window.specs.FrameTables.{Table, frame_of, Ordered, IsKept, with_acc, joined_in}
use Rattle.jet_window.proofs.Tabling.{place_total, place_equal, none_found, ordered_insert, each_insert}

-- an accumulator that is there is replaced where it stands
in_place_if : (k : Place) (v w : AccValue) (e : Place × AccValue) (es : Table) (o : Ordering) → place_cmp k e.0 ≡ o → Ordered (e ∷ es) → cond (is_eq o) (Some e.1) (lookup (is_at (place_cmp k)) es) ≡ Some v
    → (lookup (is_at (place_cmp k)) es ≡ Some v → set_value (is_at (place_cmp k)) es w ≡ insert_entry place_cmp es k w)
    → cond (is_eq o) ((e.0, w) ∷ es) (e ∷ set_value (is_at (place_cmp k)) es w) ≡ match_ordering o ((k, w) ∷ e ∷ es) ((e.0, w) ∷ es) (e ∷ insert_entry place_cmp es k w)
in_place_if k v w e es Less is order there more =
    let none : lookup (is_at (place_cmp k)) es ≡ None = none_found place_cmp place_total place_equal k es
    (Each-more (λ (f : Place × AccValue). place_cmp e.0 f.0 ≡ Less) (λ (f : Place × AccValue). place_cmp k f.0 ≡ Less) (λ f m. place_total.trans k e.0 f.0 is m) es order.0) in
    absurd (none_there (sym none ∙ there))
  where
    none_there : (let none : Option AccValue = None in none ≡ Some v) → ⊥
    none_there h = absurd (cc)
in_place_if k v w e es Equal is order there more = refl
in_place_if k v w e es Greater is order there more = ap (λ (t : Table). e ∷ t) (more there)

put_in_place : (k : Place) (v w : AccValue) (es : Table) → Ordered es → lookup (is_at (place_cmp k)) es ≡ Some v → set_value (is_at (place_cmp k)) es w ≡ insert_entry place_cmp es k w
put_in_place k v w [] order there = absurd (cc)
put_in_place k v w (e ∷ es) order there = in_place_if k v w e es (place_cmp k e.0) refl order there (put_in_place k v w es order.1)

pub joined_there : (k : Place) (v a w : AccValue) (es new : Table) → IsKept es → Some v ≡ lookup (is_at (place_cmp k)) es → w ≡ with_acc (Some v) a → new ≡ set_value (is_at (place_cmp k)) es w → new ≡ joined_in es k a
joined_there k v a w es new kept there is new_is =
    new_is ∙ (put_in_place k v w es kept.ordered (sym there) ∙ ap (λ (x : AccValue). insert_entry place_cmp es k x) (is ∙ ap (λ (o : Option AccValue). with_acc o a) there))

pub joined_new : (k : Place) (a : AccValue) (es new : Table) → lookup (is_at (place_cmp k)) es ≡ None → new ≡ insert_entry place_cmp es k a → new ≡ joined_in es k a
joined_new k a es new none new_is = new_is ∙ ap (λ (o : Option AccValue). insert_entry place_cmp es k (with_acc o a)) (sym none)

-- what is known of a place was put there with one more joined in
pub joined_put : (k : Place) (a w : AccValue) (es new with : Table) → with ≡ insert_entry place_cmp es k w → new ≡ with → w ≡ with_acc (lookup (is_at (place_cmp k)) es) a → new ≡ joined_in es k a
joined_put k a w es new with with_is is joins = is ∙ (with_is ∙ ap (λ (x : AccValue). insert_entry place_cmp es k x) joins)

pub kept_joined : (k : Place) (a : AccValue) (es new : Table) → IsKept es → IsWithin most_frame_end k.0 → new ≡ joined_in es k a → IsKept new
kept_joined k a es new kept range is = rw is (record {
  ordered = ordered_insert k (with_acc (lookup (is_at (place_cmp k)) es) a) es kept.ordered;
  ranges = each_insert place_cmp place_total place_equal (λ (z : Place). IsWithin most_frame_end z.0) k (with_acc (lookup (is_at (place_cmp k)) es) a) es kept.ranges range;
})

-- the first entry was taken out
pub taken_first : (held new : Table) (r : Option (Place × AccValue)) (f : Place × AccValue) → slice_get held 0 ≡ Some f → IfSome r (λ p. held ≡ p ∷ new) → IfNone r (held ≡ []) → held ≡ f ∷ new
taken_first held new None f first some none = absurd (none_first held f none first)
  where
    none_first : (held : Table) (f : Place × AccValue) → held ≡ [] → slice_get held 0 ≡ Some f → ⊥
    none_first [] f h k = absurd (cc)
    none_first (g ∷ gs) f h k = absurd (cc)
taken_first held new (Some p) f first some none =
    let is : p ≡ f = same p f (sym (ap (λ (t : Table). slice_get t 0) some) ∙ first) in
    some ∙ ap (λ (g : Place × AccValue). g ∷ new) is
  where
    same : (x y : Place × AccValue) → Some x ≡ Some y → x ≡ y
    same x y h = cc

-- the frame of the first entry
pub first_frame : (vertex : ℕ) (held : Table) (x : FrameValue) → option_map (frame_of vertex) (slice_get held 0) ≡ Some x → (f : Place × AccValue) × (slice_get held 0 ≡ Some f) × (frame_of vertex f ≡ x)
first_frame vertex [] x h = absurd (cc)
first_frame vertex (f ∷ fs) x h = (f, refl, inside (frame_of vertex f) x h)
  where
    inside : (y z : FrameValue) → Some y ≡ Some z → y ≡ z
    inside y z h = cc
