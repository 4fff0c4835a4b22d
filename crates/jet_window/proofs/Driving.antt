-- A processor that is driven: what may be told after what.
use Rattle.std.proofs.Common.{◌≡◌, ℕ, Bool, true, false, List, [], ◌∷◌, ◌++◌, Result, Ok, subst}
use Rattle.jet_items.specs.Order.{Each}
use Rattle.jet_items.specs.declared.item.Item.{Item}
use Rattle.jet_items.specs.declared.item.Item.TheVariants as item
use Rattle.jet_items.specs.declared.no_memory.NoMemory.{NoMemory}
use Rattle.jet_items.proofs.Orders.{Each-append, Each-more}
use Rattle.jet_boxes.specs.declared.port.Port.{Port}
use Rattle.jet_boxes.specs.declared.port.Port.TheVariants.{Stream}
use Rattle.jet_boxes.specs.Calls.{Call, MayCall}
use Rattle.jet_boxes.specs.Entry.{CallEntry, Given, MarkTold, QueueClosed, Finish, NotFinish, NotClosed, MayCome}
use Rattle.jet_boxes.specs.Held.{BoxView}
use Rattle.jet_window.specs.Driven.{entry_of, IsPlain, IsReady, IsCalled}

plain_open : (e : CallEntry) → IsPlain e → NotFinish e
plain_open (Given port q x) h = tt
plain_open (MarkTold t) h = tt
plain_open (QueueClosed port q) h = absurd h
plain_open Finish h = absurd h

plain_closed : (e : CallEntry) → IsPlain e → NotClosed Stream 0 e
plain_closed (Given port q x) h = tt
plain_closed (MarkTold t) h = tt
plain_closed (QueueClosed port q) h = absurd h
plain_closed Finish h = absurd h

comes : (takes : Port → ℕ → Type 0) (taken : List CallEntry) (x : Item) → Each IsPlain taken → takes Stream 0 → MayCome takes taken (entry_of x)
comes takes taken (item.Event e) h t = (Each-more IsPlain NotFinish plain_open taken h, t, tt, Each-more IsPlain (NotClosed Stream 0) plain_closed taken h)
comes takes taken (item.Side e) h t = (Each-more IsPlain NotFinish plain_open taken h, t, tt, Each-more IsPlain (NotClosed Stream 0) plain_closed taken h)
comes takes taken (item.Frame e) h t = (Each-more IsPlain NotFinish plain_open taken h, t, tt, Each-more IsPlain (NotClosed Stream 0) plain_closed taken h)
comes takes taken (item.Row e) h t = (Each-more IsPlain NotFinish plain_open taken h, t, tt, Each-more IsPlain (NotClosed Stream 0) plain_closed taken h)
comes takes taken (item.Late e) h t = (Each-more IsPlain NotFinish plain_open taken h, t, tt, Each-more IsPlain (NotClosed Stream 0) plain_closed taken h)
comes takes taken item.Idle h t = (Each-more IsPlain NotFinish plain_open taken h, t, tt, Each-more IsPlain (NotClosed Stream 0) plain_closed taken h)
comes takes taken (item.Mark t') h t = Each-more IsPlain NotFinish plain_open taken h
comes takes taken item.Done h t = Each-more IsPlain NotFinish plain_open taken h

module _ {S : Type 0} (stands : S → List CallEntry → List Item → Type 0) (amid : S → List CallEntry → CallEntry → List Item → Type 0) (takes : S → Port → ℕ → Type 0) (same : S → S → Type 0) (frugal : Bool) where
  pub may_call : (p : S) (x : Item) → IsCalled amid takes p (entry_of x) → MayCall amid (takes p) p (entry_of x)
  may_call p x h = (h.0, h.1, h.2, comes (takes p) h.0 x h.3 h.4)

  pub called : (begins : (p : S) (taken : List CallEntry) (entry : CallEntry) (given : List Item) → stands p taken given → amid p taken entry given) (p : S) (entry : CallEntry) → IsReady stands takes p → IsCalled amid takes p entry
  called begins p entry h = (h.0, h.1, begins p h.0 entry h.1 h.2, h.3, h.4)

  module _ (stays : (p q : S) (port : Port) (queue : ℕ) → same p q → takes p port queue → takes q port queue) where
    pub called_again : (p q : S) (entry : CallEntry) (before after : BoxView) (r : Result Bool NoMemory) → r ≡ Ok false → Call stands amid same frugal p entry before r q after → IsCalled amid takes p entry → IsCalled amid takes q entry
    called_again p q entry before after r is c h =
        let d : Call stands amid same frugal p entry before (Ok false) q after = subst (λ (r : Result Bool NoMemory). Call stands amid same frugal p entry before r q after) is c in
        (h.0, h.1 ++ d.put, d.keeps h.0 h.1 h.2, h.3, stays p q Stream 0 d.settings h.4)

    pub ready_again : (p q : S) (entry : CallEntry) (before after : BoxView) (r : Result Bool NoMemory) → r ≡ Ok true → Call stands amid same frugal p entry before r q after → IsCalled amid takes p entry → IsPlain entry → IsReady stands takes q
    ready_again p q entry before after r is c h plain =
        let d : Call stands amid same frugal p entry before (Ok true) q after = subst (λ (r : Result Bool NoMemory). Call stands amid same frugal p entry before r q after) is c in
        (h.0 ++ entry ∷ [], h.1 ++ d.put, d.keeps h.0 h.1 h.2, Each-append IsPlain h.0 (entry ∷ []) h.3 (plain, tt), stays p q Stream 0 d.settings h.4)
