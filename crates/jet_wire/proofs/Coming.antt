-- A sender to which one item more came.
use Rattle.std.proofs.Common.{◌≡◌, ℕ, ◌<◌, ◌==◌, Bool, true, false, List, [], ◌∷◌, ◌++◌, length, get_or, set, sym, ◌∙◌, ap, subst, inl, inr, arith, Option, None, append-nil}
use Rattle.std.proofs.lemmas.List.{get_or-set_same, get_or-set_other, length-set, length-map}
use Rattle.std.proofs.lemmas.Bool.Decides.{eqb_tells}
use Rattle.jet_items.specs.declared.item.Item.{Item}
use Rattle.jet_items.specs.Done.{is_done}
use Rattle.jet_items.specs.Order.{Each}
use Rattle.jet_items.proofs.Orders.{Each-append, Each-more, EachPair-append}
use Rattle.jet_coalescer.specs.declared.coalescer.Coalescer.{Coalescer}
use Rattle.jet_coalescer.specs.declared.queue.Queue.{Queue}
use Rattle.jet_coalescer.specs.Low.{HasHeard, known}
use Rattle.jet_coalescer.specs.Queues.{is_done_at}
use Rattle.jet_conveyor.specs.Conveyor as conveyor
use Rattle.jet_wire.specs.Noting.{items_in, Passes}
use Rattle.jet_wire.specs.Passing.{Taken, MayFollow, InOrder, of_queue, has_ended, heard, passed, passes}
use Rattle.jet_wire.specs.Sender.{SenderView, queue_count, HasTaken, HasSent, SenderKeeps}
use Rattle.jet_wire.proofs.Heard.{own_queue, other_queue, passed-push}
use Rattle.jet_wire.proofs.Histories.{length_histories, ended_push, or_at, none_split, done_of, done_known}

-- no Done came of a queue that is not done
none_ended : (q : ℕ) (came : List Taken) → has_ended (of_queue q came) ≡ false → Each (λ b. is_done b.item ≡ true → (b.queue == q) ≡ false) came
none_ended q [] h = tt
none_ended q (b ∷ came) h = let r = none_split (b.queue == q) b.item (of_queue q came) h in (r.0, none_ended q came r.1)

-- so one item more may come of it
order_more : (n : ℕ) (came : List Taken) (a : Taken) → a.queue < n → has_ended (of_queue a.queue came) ≡ false → InOrder n came → InOrder n (came ++ a ∷ [])
order_more n came a lt still o = record {
  inside = Each-append (λ (b : Taken). b.queue < n) came (a ∷ []) o.inside (lt, tt);
  follows =
      EachPair-append MayFollow came (a ∷ []) o.follows (tt, tt)
      (Each-more (λ (b : Taken). MayFollow b a) (λ (b : Taken). Each (MayFollow b) (a ∷ [])) (λ b f. (f, tt)) came (none_ended a.queue came still));
}

module _ (v : SenderView) (came : List Taken) (h : HasTaken v.queues v.lows came) where
  heard_count : length v.lows.queues ≡ queue_count v
  heard_count = ap (λ (qs : List Queue). length qs) h.heard_is.queues_are ∙ (length-map (heard (queue_count v) came) known ∙ length_histories (queue_count v) (λ q. of_queue q came))

  -- a queue that is not done may be told of
  pub may_note : (q : ℕ) → q < queue_count v → conveyor.is_done_at v.queues q ≡ false → (q < length v.lows.queues) × (is_done_at v.lows q ≡ false)
  may_note q lt still = (
    subst (λ (n : ℕ). q < n) (sym heard_count) lt,
    ap (λ (qs : List Queue). done_of qs q) h.heard_is.queues_are ∙ (done_known (queue_count v) (λ k. of_queue k came) q lt ∙ (sym (h.done_is q lt) ∙ still)),
  )

  module _ (after : conveyor.View) (new : Coalescer) (q : ℕ) (x : Item) (out : Option Item) (lt : q < queue_count v) (took : conveyor.TookFrom v.queues after q x)
      (note : Passes v.lows new (record { queue = q; item = x }) out) where
    abbrev a : Taken
    a = record { queue = q; item = x }

    abbrev more : List Taken
    more = came ++ a ∷ []

    abbrev n : ℕ
    n = queue_count v

    same_count : length after.rings ≡ n
    same_count = ap (λ rs. length rs) took.rings

    received_here : (k : ℕ) → k < n → conveyor.received_at after k ≡ of_queue k more
    received_here k kt =
        let y : List Item = conveyor.received_at v.queues q ++ x ∷ [] in
        let long : q < length v.queues.received = omega (arith, lt, h.received_each) in
        ap (λ (xs : List (List Item)). get_or xs k []) took.received ∙ (elim (eqb_tells k q) [
          | inl e ↦
              subst (λ (j : ℕ). get_or (set v.queues.received q y) j [] ≡ of_queue j more) (sym e.1)
              (get_or-set_same v.queues.received q y [] long ∙ (ap (λ (xs : List Item). xs ++ x ∷ []) (h.received_is q lt) ∙ sym (own_queue came a)))
          | inr e ↦ get_or-set_other v.queues.received q k y [] e.1 ∙ (h.received_is k kt ∙ sym (other_queue came a k e.1))
        ])

    order_here : InOrder n more
    order_here = order_more n came a lt (sym (h.done_is q lt) ∙ took.was_open) h.in_order

    done_here : (k : ℕ) → k < n → conveyor.is_done_at after k ≡ has_ended (of_queue k more)
    done_here k kt =
        let long : q < length v.queues.done = omega (arith, lt, h.done_each) in
        let was : has_ended (of_queue q came) ≡ false = sym (h.done_is q lt) ∙ took.was_open in
        let now : has_ended (of_queue q more) ≡ is_done x = ap has_ended (own_queue came a) ∙ (ended_push (of_queue q came) x ∙ or_at (has_ended (of_queue q came)) (is_done x) was) in
        ap (λ (ds : List Bool). get_or ds k true) took.done ∙ (elim (eqb_tells k q) [
          | inl e ↦ subst (λ (j : ℕ). get_or (set v.queues.done q (is_done x)) j true ≡ has_ended (of_queue j more)) (sym e.1) (get_or-set_same v.queues.done q (is_done x) true long ∙ sym now)
          | inr e ↦ get_or-set_other v.queues.done q k (is_done x) true e.1 ∙ (h.done_is k kt ∙ ap has_ended (sym (other_queue came a k e.1)))
        ])

    heard_before : HasHeard v.lows (heard (length v.lows.queues) came)
    heard_before = subst (λ (m : ℕ). HasHeard v.lows (heard m came)) (sym heard_count) h.heard_is

    abbrev next : SenderView
    next = record { queues = after; lows = new; hand = out; end = v.end }

    taken_more : HasTaken after new more
    taken_more = record {
      received_each = ap (λ xs. length xs) took.received ∙ (length-set v.queues.received q _ ∙ (h.received_each ∙ sym same_count));
      done_each = ap (λ xs. length xs) took.done ∙ (length-set v.queues.done q _ ∙ (h.done_each ∙ sym same_count));
      received_is = λ k kt. received_here k (subst (λ (m : ℕ). k < m) same_count kt);
      done_is = λ k kt. done_here k (subst (λ (m : ℕ). k < m) same_count kt);
      in_order = subst (λ (m : ℕ). InOrder m more) (sym same_count) order_here;
      heard_is = subst (λ (m : ℕ). HasHeard new (heard m more)) (heard_count ∙ sym same_count) (note.hears came heard_before);
    }

    passed_more : passed (length after.rings) more ≡ passed n came ++ items_in out
    passed_more =
        ap (λ (m : ℕ). passed m more) same_count ∙ (passed-push n came a
        ∙ ap (λ (xs : List Item). passed n came ++ xs) (sym (note.gives came heard_before ∙ ap (λ (m : ℕ). passes m came a) heard_count)))

    pub came_more : (sent : List Item) → HasSent v came sent → v.hand ≡ None → SenderKeeps next more sent
    came_more sent s none = record {
      takes_in = taken_more;
      sends = record {
        packets = s.packets;
        written = s.written;
        work = s.work;
        fits = s.fits;
        follows =
            let was : sent ++ s.written ≡ passed n came = sym (append-nil (sent ++ s.written)) ∙ (ap (λ (o : Option Item). (sent ++ s.written) ++ items_in o) (sym none) ∙ s.follows) in
            ap (λ (xs : List Item). xs ++ items_in out) was ∙ sym passed_more;
      };
    }
