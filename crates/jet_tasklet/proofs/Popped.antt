-- How many items were received of all queues.
use Rattle.std.proofs.Common.{◌≡◌, ℕ, zero, suc, ◌+◌, ◌<◌, List, [], ◌∷◌, ◌++◌, length, get_or, set, sym, ap, subst, arith, length-append}
use Rattle.std.specs.Prelude.{sum_by}
use Rattle.jet_items.specs.declared.item.Item.{Item}
use Rattle.jet_items.specs.Order.{Each}
use Rattle.jet_boxes.specs.declared.port.Port.{Port}
use Rattle.jet_router.proofs.Counting.{sum_first}
use Rattle.jet_tasklet.specs.declared.arrival.Arrival.{Arrival}
use Rattle.jet_tasklet.specs.Inputs.{InputView, received_count}
use Rattle.jet_tasklet.specs.Keeps.{IsEven}
use Rattle.jet_tasklet.specs.Taking.{Took}

-- one element in the place of another
pub sum_put : {X : Type 0} (f : X → ℕ) (ys : List X) (i : ℕ) (b d : X) → i < length ys → sum_by f (set ys i b) + f (get_or ys i d) ≡ sum_by f ys + f b
sum_put f [] i b d lt = absurd (omega (arith, lt))
sum_put f (a ∷ ys) zero b d lt =
    let new = sum_first f b ys in
    let old = sum_first f a ys in
    omega (arith, new, old)
sum_put f (a ∷ ys) (suc i) b d lt =
    let new = sum_first f a (set ys i b) in
    let old = sum_first f a ys in
    let rest = sum_put f ys i b d (omega (arith, lt)) in
    omega (arith, new, old, rest)

at_place : {X : Type 0} (Q : X → Type 0) (xs : List X) (i : ℕ) (d : X) → i < length xs → Each Q xs → Q (get_or xs i d)
at_place Q [] i d lt h = absurd (omega (arith, lt))
at_place Q (x ∷ xs) zero d lt h = h.0
at_place Q (x ∷ xs) (suc i) d lt h = at_place Q xs i d (omega (arith, lt)) h.1

-- one item was received
pub took_one : (before after : List InputView) (port : Port) (a : Arrival) → Each IsEven before → Took before after port a → received_count after ≡ received_count before + 1
took_one before after port a even t =
    let was : IsEven t.was = subst IsEven (sym t.at) (at_place IsEven before t.place t.was t.inside even) in
    let rs : List (List Item) = t.was.queues.received in
    let of : InputView → ℕ = λ i. sum_by (λ (xs : List Item). length xs) i.queues.received in
    let next : InputView = record { port = t.was.port; queues = t.now } in
    let old : List Item = get_or rs t.within [] in
    let count = was.received in
    let queue = t.is_queue in
    let lt : t.within < length rs = omega (arith, count, queue) in
    let inner = sum_put (λ (xs : List Item). length xs) rs t.within (old ++ a.item ∷ []) [] lt in
    let one = length-append old (a.item ∷ []) in
    let now : of next ≡ sum_by (λ (xs : List Item). length xs) (set rs t.within (old ++ a.item ∷ [])) = ap (λ (ls : List (List Item)). sum_by (λ (xs : List Item). length xs) ls) t.took.received in
    let outer = sum_put of before t.place next t.was t.inside in
    let there : of (get_or before t.place t.was) ≡ of t.was = ap of (sym t.at) in
    let whole : received_count after ≡ received_count (set before t.place next) = ap received_count t.after_is in
    omega (arith, inner, one, now, outer, there, whole)
