-- An output that was given an item.
use Rattle.std.proofs.Common.{◌≡◌, Bool, true, false, cond, List, [], ◌∷◌, ◌++◌, map, refl, sym, ◌∙◌, ap, subst, append-nil, append_assoc, inl, inr}
use Rattle.std.specs.Prelude.{All, Some, slice_get}
use Rattle.std.proofs.lemmas.List.Elements.{All-head, All-tail, All-cons, All-nil}
use Rattle.std.proofs.lemmas.List.{map-append}
use Rattle.jet_items.specs.declared.item.Item.{Item}
use Rattle.jet_router.specs.declared.Given.{Given}
use Rattle.jet_router.specs.declared.Given.TheVariants as given
use Rattle.jet_router.specs.Router as router
use Rattle.jet_router.specs.Router.{IsInHand, view}
use Rattle.jet_router.specs.Deals.{Deal, Dealt, DealtAfter, items_dealt, IsFull}
use Rattle.jet_items.specs.Order.{Each}
use Rattle.jet_items.proofs.Orders.{Each-more}
use Rattle.jet_tasklet.specs.declared.output.Output.{Output}
use Rattle.jet_tasklet.specs.Outputs.{OutputView, output_view, outputs_view, ready, InGift, Gave, Giving, SomeBlocked}
use Rattle.jet_tasklet.specs.inner.Leaving.{Leaves}

abbrev pub is_all : Given → Bool
is_all given.All = true
is_all given.Again = false

pub not_all : (r : Given) → (r ≡ given.All → ⊥) → is_all r ≡ false
not_all given.All h = absurd (h refl)
not_all given.Again h = refl

gave_as : (r : Given) (gave : List Item) (x : Item) (b : router.View) (deals : List Deal) → items_dealt deals ≡ gave → DealtAfter r b deals x → (r ≡ given.All → b.busy ≡ false) → (b.busy ≡ true → IsInHand b x) → InGift gave x (record { router = b; had = is_all r })
gave_as given.All gave x b deals items dealt free hand =
    let d : Deal = record { item = x; to = dealt.0 } in record {
      deals = deals ++ d ∷ [];
      dealt = dealt.1;
      items = map-append (λ (e : Deal). e.item) deals (d ∷ []) ∙ ap (λ (xs : List Item). xs ++ x ∷ []) items;
      hand = hand;
      whole = λ e. free refl;
    }
gave_as given.Again gave x b deals items dealt free hand = record { deals = deals; dealt = dealt; items = items; hand = hand; whole = λ e. absurd (cc) }

-- a router was given an item that its output had not had
pub given_next : (r : Given) (had : Bool) (gave : List Item) (x : Item) (a b : router.View) → had ≡ is_all r → ((deals : List Deal) → Dealt a deals → DealtAfter r b deals x) → (r ≡ given.All → b.busy ≡ false) → (b.busy ≡ true → IsInHand b x) → (was : Bool) → was ≡ false → InGift gave x (record { router = a; had = was }) → InGift gave x (record { router = b; had = had })
given_next r had gave x a b is dealt free hand was none g =
    let items : items_dealt g.deals ≡ gave = g.items ∙ ap (λ (h : Bool). cond h (gave ++ x ∷ []) gave) none in
    subst (λ (h : Bool). InGift gave x (record { router = b; had = h })) (sym is) (gave_as r gave x b g.deals items (dealt g.deals g.dealt) free hand)

-- an item comes to the front
pub to_front : (gave : List Item) (x : Item) (o : OutputView) → Gave gave o → InGift gave x o
to_front gave x o g = record {
  deals = g.deals;
  dealt = g.dealt;
  items = g.items ∙ sym (ap (λ (h : Bool). cond h (gave ++ x ∷ []) gave) g.ready);
  hand = λ e. absurd (cc (g.free, e));
  whole = λ e. g.free;
}

-- an output that has had the item is ready for the next
pub cleared : (gave : List Item) (x : Item) (o : OutputView) → o.had ≡ true → InGift gave x o → Gave (gave ++ x ∷ []) (record { router = o.router; had = false })
cleared gave x o had g = record {
  deals = g.deals;
  dealt = g.dealt;
  items = g.items ∙ ap (λ (h : Bool). cond h (gave ++ x ∷ []) gave) had;
  free = g.whole had;
  ready = refl;
}

-- ---- all outputs
ready_if : (x : Item) (o : Output) (os : List Output) (b : Bool) → o.had ≡ b → (b ≡ false → IsFull (view o.router) x) → (All (λ p. p.had ≡ true) (o ∷ os) → ⊥) → ((All (λ p. p.had ≡ true) os → ⊥) → SomeBlocked x (outputs_view os)) → SomeBlocked x (outputs_view (o ∷ os))
ready_if x o os true is full some rest = inr (rest (λ all. some (All-cons (λ (p : Output). p.had ≡ true) o os is all)))
ready_if x o os false is full some rest = inl (is, full refl)

-- where one has not had the item, that one is blocked
pub blocked_unless : (x : Item) (os : List Output) → Each (λ o. o.had ≡ false → IsFull o.router x) (outputs_view os) → (All (λ o. o.had ≡ true) os → ⊥) → SomeBlocked x (outputs_view os)
blocked_unless x [] full some = absurd (some (All-nil (λ (o : Output). o.had ≡ true)))
blocked_unless x (o ∷ os) full some = ready_if x o os o.had refl full.0 some (blocked_unless x os full.1)

-- where all have had it, all are ready for the next
pub all_gave : (gave : List Item) (x : Item) (os : List Output) → All (λ o. o.had ≡ true) os → Each (InGift gave x) (outputs_view os) → Each (Gave (gave ++ x ∷ [])) (map (λ o. ready o.router) (outputs_view os))
all_gave gave x [] had g = tt
all_gave gave x (o ∷ os) had g =
    (cleared gave x (output_view o) (All-head (λ (p : Output). p.had ≡ true) o os had) g.0, all_gave gave x os (All-tail (λ (p : Output). p.had ≡ true) o os had) g.1)

-- whatever comes to the front next
pub giving_of : (gave xs : List Item) (os : List OutputView) → Each (Gave gave) os → Giving gave xs os
giving_of gave [] os g = g
giving_of gave (x ∷ xs) os g = Each-more (Gave gave) (InGift gave x) (λ o h. to_front gave x o h) os g

-- more items at the back of the outbox
pub giving_more : (gave xs more : List Item) (os : List OutputView) → Giving gave xs os → Giving gave (xs ++ more) os
giving_more gave [] more os g = giving_of gave more os g
giving_more gave (x ∷ xs) more os g = g

pub leaves_none : (items : List Item) (os : List OutputView) → Leaves items os items os
leaves_none items os gave g = ([], refl, subst (λ (h : List Item). Giving h items os) (sym (append-nil gave)) g)

-- the front is in hand still
pub leaves_part : (x : Item) (xs : List Item) (os ps : List OutputView) → ((gave : List Item) → Each (InGift gave x) os → Each (InGift gave x) ps) → Leaves (x ∷ xs) os (x ∷ xs) ps
leaves_part x xs os ps step gave g = ([], refl, subst (λ (h : List Item). Each (InGift h x) ps) (sym (append-nil gave)) (step gave g))

-- the front has left
pub leaves_front : (x : Item) (xs : List Item) (os : List OutputView) (ps : List Output) (qs : List OutputView) → ((gave : List Item) → Each (InGift gave x) os → Each (InGift gave x) (outputs_view ps)) → All (λ o. o.had ≡ true) ps → qs ≡ map (λ o. ready o.router) (outputs_view ps) → Leaves (x ∷ xs) os xs qs
leaves_front x xs os ps qs step had is gave g =
    (x ∷ [], refl, giving_of (gave ++ x ∷ []) xs qs (subst (λ (vs : List OutputView). Each (Gave (gave ++ x ∷ [])) vs) (sym is) (all_gave gave x ps had (step gave g))))

pub leaves_trans : (xs ys zs : List Item) (os ps qs : List OutputView) → Leaves xs os ys ps → Leaves ys ps zs qs → Leaves xs os zs qs
leaves_trans xs ys zs os ps qs f h gave g =
    let one = f gave g in
    let two = h (gave ++ one.0) one.2 in (
      one.0 ++ two.0,
      one.1 ∙ (ap (λ (l : List Item). one.0 ++ l) two.1 ∙ sym (append_assoc one.0 two.0 zs)),
      subst (λ (l : List Item). Giving l zs qs) (append_assoc gave one.0 two.0) two.2,
    )

pub giving_exists : (xs ys : List Item) (os ps : List OutputView) → Leaves xs os ys ps → ((gave : List Item) × Giving gave xs os) → (gave : List Item) × Giving gave ys ps
giving_exists xs ys os ps f g = let one = f g.0 g.1 in (g.0 ++ one.0, one.2)

-- ---- the front of the outbox
pub front_is : (items : List Item) (x : Item) → Some x ≡ slice_get items 0 → (xs : List Item) × (items ≡ x ∷ xs)
front_is [] x h = absurd (cc)
front_is (y ∷ ys) x h = let e : x ≡ y = cc in (ys, ap (λ (z : Item). z ∷ ys) (sym e))
