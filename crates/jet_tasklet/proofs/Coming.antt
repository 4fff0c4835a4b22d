-- One item more that came.
use Rattle.std.proofs.Common.{◌≡◌, ℕ, zero, suc, ◌<◌, ◌==◌, ◌&&◌, ◌||◌, ◌^◌, Bool, true, false, cond, List, [], ◌∷◌, ◌++◌, length, get_or, set, map, refl, sym, ◌∙◌, ap, subst, append-nil, inl, inr, arith}
use Rattle.std.specs.Prelude.{◌⊎◌}
use Rattle.std.specs.List.{list_all}
use Rattle.std.proofs.lemmas.List.{get_or-set_same, get_or-set_other, length-set, length-map}
use Rattle.std.proofs.lemmas.Bool.Decides.{eqb_tells}
use Rattle.jet_ring.specs.Ring.{Ring}
use Rattle.jet_items.specs.declared.item.Item.{Item}
use Rattle.jet_items.specs.Done.{is_done}
use Rattle.jet_items.specs.Order.{Each}
use Rattle.jet_items.proofs.Orders.{Each-append, Each-more, EachPair-append}
use Rattle.jet_boxes.specs.declared.port.Port.{Port}
use Rattle.jet_boxes.specs.declared.port.Port.TheVariants.{Stream, Build}
use Rattle.jet_coalescer.specs.declared.coalescer.Coalescer.{Coalescer}
use Rattle.jet_coalescer.specs.declared.queue.Queue.{Queue}
use Rattle.jet_coalescer.specs.Low.{HasHeard, known}
use Rattle.jet_coalescer.specs.Queues.{is_done_at, unknown}
use Rattle.jet_conveyor.specs.Conveyor.{View, received_at}
use Rattle.jet_tasklet.specs.declared.arrival.Arrival.{Arrival}
use Rattle.jet_tasklet.specs.declared.step.Step.{Step}
use Rattle.jet_tasklet.specs.Trace.{same_port, is_from, of_queue, has_ended, histories, heard}
use Rattle.jet_tasklet.specs.InOrder.{InOrder, MayFollow}
use Rattle.jet_tasklet.specs.Inputs.{InputView, of_port, rings, received, dones, queue_count, all_done}
use Rattle.jet_tasklet.specs.Taking.{OpenQueue, Took}
use Rattle.jet_tasklet.specs.Keeps.{Came, IsEven, IsBuild}
use Rattle.jet_tasklet.specs.inner.Noting.{Notes}
use Rattle.jet_tasklet.proofs.Ports.{count_next, count_take}
use Rattle.jet_tasklet.proofs.Pushing.{of_queue-push}
use Rattle.jet_tasklet.proofs.Tracing.{own_queue}
use Rattle.jet_tasklet.proofs.Heard.{ended_push, other_queue, length_histories}
use Rattle.jet_tasklet.proofs.Flat.{each_put, each_get, of_port_same, of_port_set, of_port_get, of_port_length}

port_is : (p q : Port) → same_port p q ≡ true → p ≡ q
port_is Stream Stream h = refl
port_is Stream Build h = absurd (cc)
port_is Build Stream h = absurd (cc)
port_is Build Build h = refl

bool_cases : (b : Bool) → (b ≡ true) ⊎ (b ≡ false)
bool_cases true = inl refl
bool_cases false = inr refl

unless_true : (b : Bool) → (b ≡ true → ⊥) → b ≡ false
unless_true true h = absurd (h refl)
unless_true false h = refl

or_at : (b c : Bool) → b ≡ false → (b || c) ≡ c
or_at true c h = absurd (cc)
or_at false c h = refl

-- what came from another port
other_port : (port : Port) (q : ℕ) (came : List Arrival) (a : Arrival) → same_port a.port port ≡ false → of_queue port q (came ++ a ∷ []) ≡ of_queue port q came
other_port port q came a away =
    let none : is_from port q a ≡ false = ap (λ (b : Bool). b && (a.queue == q)) away in
    of_queue-push port q came a ∙ (ap (λ (b : Bool). of_queue port q came ++ cond b (a.item ∷ []) []) none ∙ append-nil (of_queue port q came))

-- no Done came of an open queue
none_clash : (a b : Bool) → a ≡ true → (a || b) ≡ false → ⊥
none_clash true b d i = cc
none_clash false b d i = cc

none_later : (a b : Bool) → (a || b) ≡ false → b ≡ false
none_later true b i = absurd (cc)
none_later false b i = i

none_split : (f : Bool) (x : Item) (xs : List Item) → has_ended (cond f (x ∷ []) [] ++ xs) ≡ false → (is_done x ≡ true → f ≡ false) × (has_ended xs ≡ false)
none_split true x xs e = (λ d. absurd (none_clash (is_done x) (has_ended xs) d e), none_later (is_done x) (has_ended xs) e)
none_split false x xs e = (λ d. refl, e)

none_ended : (port : Port) (q : ℕ) (came : List Arrival) → has_ended (of_queue port q came) ≡ false → Each (λ b. is_done b.item ≡ true → is_from port q b ≡ false) came
none_ended port q [] h = tt
none_ended port q (b ∷ came) h =
    let r = none_split (is_from port q b) b.item (of_queue port q came) h in (r.0, none_ended port q came r.1)

both_each : {X : Type 0} (A B C : X → Type 0) → ((x : X) → A x → B x → C x) → (xs : List X) → Each A xs → Each B xs → Each C xs
both_each A B C f [] h k = tt
both_each A B C f (x ∷ xs) h k = (f x h.0 k.0, both_each A B C f xs h.1 k.1)

one_each : {X : Type 0} (A : X → Type 0) (xs : List X) → ((x : X) → A x) → Each A xs
one_each A [] f = tt
one_each A (x ∷ xs) f = (f x, one_each A xs f)

port_cases : (p : Port) → (p ≡ Stream) ⊎ (p ≡ Build)
port_cases Stream = inl refl
port_cases Build = inr refl

-- the queue of this number is done
abbrev done_of : List Queue → ℕ → Bool
done_of queues q = let queue = get_or queues q unknown in queue.done

done_known : (n : ℕ) (f : ℕ → List Item) (q : ℕ) → q < n → done_of (map known (histories n f)) q ≡ has_ended (f q)
done_known zero f q lt = absurd (omega (arith, lt))
done_known (suc n) f zero lt = refl
done_known (suc n) f (suc q) lt = done_known n (λ k. f (suc k)) q (omega (arith, lt))

-- the coalescer has as many queues as the stream
pub heard_all : (vs : List InputView) (co : Coalescer) (came : List Arrival) → Came vs co came → length co.queues ≡ queue_count Stream vs
heard_all vs co came h = ap (λ (qs : List Queue). length qs) h.heard_is.queues_are ∙ (length-map (heard (queue_count Stream vs) came) known ∙ length_histories (queue_count Stream vs) (λ q. of_queue Stream q came))

-- a queue that is not done
module _ (vs : List InputView) (port : Port) (q : ℕ) (o : OpenQueue vs port q) where
  pub open_count : q < queue_count port vs
  open_count =
      let next = count_next port vs o.place o.was o.inside o.at in
      let all : length (cond (same_port o.was.port port) o.was.queues.rings []) ≡ length o.was.queues.rings = ap (λ (b : Bool). length (cond b o.was.queues.rings [])) o.to_port in
      let most = count_take port vs (suc o.place) in
      let is = o.queue_is in
      let lt = o.is_queue in
      omega (arith, next, all, most, is, lt)

  -- no Done came of it
  pub open_yet : (co : Coalescer) (came : List Arrival) → Came vs co came → has_ended (of_queue port q came) ≡ false
  open_yet co came h =
      let even : Each (λ u. length u.queues.done ≡ length u.queues.rings) vs = Each-more IsEven (λ (u : InputView). length u.queues.done ≡ length u.queues.rings) (λ u e. e.done) vs h.even in
      sym (h.done_is port q open_count) ∙ (of_port_get (λ v. v.done) port vs o.place o.was o.within q true even o.inside o.at o.to_port o.is_queue o.queue_is ∙ o.is_open)

module _ (before after : List InputView) (a : Arrival) (t : Took before after a.port a) where
  abbrev P : Port
  P = a.port

  abbrev to : same_port t.was.port P ≡ true
  to = t.to_port

  after_eq : after ≡ set before t.place (record { port = t.was.port; queues = t.now })
  after_eq = t.after_is

  -- nothing changes of the rings
  rings_stay : (port : Port) → rings port after ≡ rings port before
  rings_stay port = ap (λ (vs : List InputView). rings port vs) after_eq ∙ of_port_same (λ v. v.rings) port before t.place t.was t.now t.inside t.at (λ e. t.took.rings)

  pub count_stays : (port : Port) → queue_count port after ≡ queue_count port before
  count_stays port = ap (λ (rs : List Ring). length rs) (rings_stay port)

  other_lists : {X : Type 0} (f : View → List X) (port : Port) → same_port P port ≡ false → of_port f port after ≡ of_port f port before
  other_lists f port away =
      ap (λ (vs : List InputView). of_port f port vs) after_eq
      ∙ of_port_same f port before t.place t.was t.now t.inside t.at (λ e. absurd (let p : t.was.port ≡ P = port_is t.was.port P to in let q : same_port P port ≡ true = subst (λ (w : Port). same_port w port ≡ true) p e in cc (q, away)))

  open_queue : OpenQueue before P a.queue
  open_queue = record {
    place = t.place;
    within = t.within;
    was = t.was;
    inside = t.inside;
    at = t.at;
    to_port = to;
    queue_is = t.queue_is;
    is_queue = t.is_queue;
    is_open = t.took.was_open;
  }

  pub within_count : a.queue < queue_count P before
  within_count = open_count before P a.queue open_queue

  evens : Each IsEven before → Each IsEven after
  evens h =
      let was : IsEven t.was = each_get IsEven before t.place t.was t.inside t.at h in
      let r : length t.now.received ≡ length t.was.queues.received = ap (λ (xs : List (List Item)). length xs) t.took.received ∙ length-set t.was.queues.received t.within _ in
      let d : length t.now.done ≡ length t.was.queues.done = ap (λ (xs : List Bool). length xs) t.took.done ∙ length-set t.was.queues.done t.within _ in
      let g : length t.now.rings ≡ length t.was.queues.rings = ap (λ (rs : List Ring). length rs) t.took.rings in
      let now : IsEven (record { port = t.was.port; queues = t.now }) = record { received = r ∙ (was.received ∙ sym g); done = d ∙ (was.done ∙ sym g) } in
      subst (Each IsEven) (sym after_eq) (each_put IsEven before t.place (record { port = t.was.port; queues = t.now }) h now)

  -- the lists of this port
  next_lists : {X : Type 0} (f : View → List X) (y : X) → Each (λ u. length (f u.queues) ≡ length u.queues.rings) before → f t.now ≡ set (f t.was.queues) t.within y → of_port f P after ≡ set (of_port f P before) a.queue y
  next_lists f y even is = ap (λ (vs : List InputView). of_port f P vs) after_eq ∙ of_port_set f P before t.place t.was t.now t.within a.queue y even t.inside t.at to t.is_queue is t.queue_is

  at_queue : {X : Type 0} (f : View → List X) (d : X) → Each (λ u. length (f u.queues) ≡ length u.queues.rings) before → get_or (of_port f P before) a.queue d ≡ get_or (f t.was.queues) t.within d
  at_queue f d even = of_port_get f P before t.place t.was t.within a.queue d even t.inside t.at to t.is_queue t.queue_is

  module _ (co : Coalescer) (came : List Arrival) (h : Came before co came) where
    even_received : Each (λ u. length u.queues.received ≡ length u.queues.rings) before
    even_received = Each-more IsEven (λ (u : InputView). length u.queues.received ≡ length u.queues.rings) (λ u e. e.received) before h.even

    even_done : Each (λ u. length u.queues.done ≡ length u.queues.rings) before
    even_done = Each-more IsEven (λ (u : InputView). length u.queues.done ≡ length u.queues.rings) (λ u e. e.done) before h.even

    pub was_open : has_ended (of_queue P a.queue came) ≡ false
    was_open = open_yet before P a.queue open_queue co came h

    received_here : (q : ℕ) → q < queue_count P before → get_or (received P after) q [] ≡ of_queue P q (came ++ a ∷ [])
    received_here q lt =
        let y : List Item = received_at t.was.queues t.within ++ a.item ∷ [] in
        let next : received P after ≡ set (received P before) a.queue y = next_lists (λ v. v.received) y even_received t.took.received in
        let long : a.queue < length (received P before) = omega (arith, within_count, of_port_length (λ v. v.received) P before even_received) in
        let was : received_at t.was.queues t.within ≡ of_queue P a.queue came = sym (at_queue (λ v. v.received) [] even_received) ∙ h.received_is P a.queue within_count in
        ap (λ (xs : List (List Item)). get_or xs q []) next ∙ (elim (eqb_tells q a.queue) [
          | inl e ↦
              subst (λ (k : ℕ). get_or (set (received P before) a.queue y) k [] ≡ of_queue P k (came ++ a ∷ [])) (sym e.1)
              (get_or-set_same (received P before) a.queue y [] long ∙ (ap (λ (xs : List Item). xs ++ a.item ∷ []) was ∙ sym (own_queue came a)))
          | inr e ↦ get_or-set_other (received P before) a.queue q y [] e.1 ∙ (h.received_is P q lt ∙ sym (other_queue P came a q e.1))
        ])

    done_here : (q : ℕ) → q < queue_count P before → get_or (dones P after) q true ≡ has_ended (of_queue P q (came ++ a ∷ []))
    done_here q lt =
        let next : dones P after ≡ set (dones P before) a.queue (is_done a.item) = next_lists (λ v. v.done) (is_done a.item) even_done t.took.done in
        let long : a.queue < length (dones P before) = omega (arith, within_count, of_port_length (λ v. v.done) P before even_done) in
        let now : has_ended (of_queue P a.queue (came ++ a ∷ [])) ≡ is_done a.item = ap has_ended (own_queue came a) ∙ (ended_push (of_queue P a.queue came) a.item ∙ or_at (has_ended (of_queue P a.queue came)) (is_done a.item) was_open) in
        ap (λ (ds : List Bool). get_or ds q true) next ∙ (elim (eqb_tells q a.queue) [
          | inl e ↦
              subst (λ (k : ℕ). get_or (set (dones P before) a.queue (is_done a.item)) k true ≡ has_ended (of_queue P k (came ++ a ∷ []))) (sym e.1)
              (get_or-set_same (dones P before) a.queue (is_done a.item) true long ∙ sym now)
          | inr e ↦ get_or-set_other (dones P before) a.queue q (is_done a.item) true e.1 ∙ (h.done_is P q lt ∙ ap has_ended (sym (other_queue P came a q e.1)))
        ])

    received_next : (port : Port) (q : ℕ) → q < queue_count port before → get_or (received port after) q [] ≡ of_queue port q (came ++ a ∷ [])
    received_next port q lt =
        elim (bool_cases (same_port P port)) [
          | inl e ↦
              let is : P ≡ port = port_is P port e in
              subst (λ (w : Port). get_or (received w after) q [] ≡ of_queue w q (came ++ a ∷ [])) is (received_here q (subst (λ (w : Port). q < queue_count w before) (sym is) lt))
          | inr e ↦ ap (λ (xs : List (List Item)). get_or xs q []) (other_lists (λ v. v.received) port e) ∙ (h.received_is port q lt ∙ sym (other_port port q came a e))
        ]

    done_next : (port : Port) (q : ℕ) → q < queue_count port before → get_or (dones port after) q true ≡ has_ended (of_queue port q (came ++ a ∷ []))
    done_next port q lt =
        elim (bool_cases (same_port P port)) [
          | inl e ↦
              let is : P ≡ port = port_is P port e in
              subst (λ (w : Port). get_or (dones w after) q true ≡ has_ended (of_queue w q (came ++ a ∷ []))) is (done_here q (subst (λ (w : Port). q < queue_count w before) (sym is) lt))
          | inr e ↦ ap (λ (ds : List Bool). get_or ds q true) (other_lists (λ v. v.done) port e) ∙ (h.done_is port q lt ∙ ap has_ended (sym (other_port port q came a e)))
        ]

    pub heard_count : length co.queues ≡ queue_count Stream before
    heard_count = heard_all before co came h

    -- the queue may be told of
    pub may_note : a.port ≡ Stream → (a.queue < length co.queues) × (is_done_at co a.queue ≡ false)
    may_note is =
        let lt : a.queue < queue_count Stream before = subst (λ (p : Port). a.queue < queue_count p before) is within_count in
        let still : has_ended (of_queue Stream a.queue came) ≡ false = subst (λ (p : Port). has_ended (of_queue p a.queue came) ≡ false) is was_open in (
          subst (λ (n : ℕ). a.queue < n) (sym heard_count) lt,
          ap (λ (qs : List Queue). done_of qs a.queue) h.heard_is.queues_are ∙ (done_known (queue_count Stream before) (λ q. of_queue Stream q came) a.queue lt ∙ still),
        )

    module _ (builds : a.port ≡ Stream → all_done Build before ≡ true) (opens : a.port ≡ Build → all_done Build before ≡ false) where
      follows_all : Each (λ b. Each (MayFollow b) (a ∷ [])) came
      follows_all =
          let ends : Each (λ b. is_done b.item ≡ true → is_from P a.queue b ≡ false) came = none_ended P a.queue came was_open in
          let early : Each (λ b. b.port ≡ Stream → a.port ≡ Build → ⊥) came = elim (port_cases a.port) [
            | inl s ↦ one_each (λ (b : Arrival). b.port ≡ Stream → a.port ≡ Build → ⊥) came (λ b e f. let no_port : Stream ≡ Build = sym s ∙ f in cc)
            | inr s ↦ Each-more IsBuild (λ (b : Arrival). b.port ≡ Stream → a.port ≡ Build → ⊥) (λ b is e f. let no_port : Stream ≡ Build = sym e ∙ is in cc) came (h.builds (opens s))
          ] in
          both_each (λ (b : Arrival). is_done b.item ≡ true → is_from P a.queue b ≡ false) (λ (b : Arrival). b.port ≡ Stream → a.port ≡ Build → ⊥) (λ (b : Arrival). Each (MayFollow b) (a ∷ [])) (λ b x y. ((x, y), tt)) came ends early

      order_next : InOrder (λ port. queue_count port after) (came ++ a ∷ [])
      order_next =
          let last : a.queue < queue_count a.port after = subst (λ (n : ℕ). a.queue < n) (sym (count_stays a.port)) within_count in record {
            inside = Each-append (λ (b : Arrival). b.queue < queue_count b.port after) came (a ∷ []) (Each-more (λ (b : Arrival). b.queue < queue_count b.port before) (λ (b : Arrival). b.queue < queue_count b.port after) (λ b lt. subst (λ (n : ℕ). b.queue < n) (sym (count_stays b.port)) lt) came h.in_order.inside) (last, tt);
            follows = EachPair-append MayFollow came (a ∷ []) h.in_order.follows (tt, tt) follows_all;
          }

      builds_next : all_done Build after ≡ false → Each IsBuild (came ++ a ∷ [])
      builds_next e =
          elim (port_cases a.port) [
            | inl s ↦
                let away : same_port P Build ≡ false = ap (λ (p : Port). same_port p Build) s in
                let same : all_done Build after ≡ all_done Build before = ap (λ (ds : List Bool). list_all (λ d. d) ds) (other_lists (λ v. v.done) Build away) in
                let was : all_done Build before ≡ true = builds s in
                absurd (cc)
            | inr s ↦ Each-append IsBuild came (a ∷ []) (h.builds (opens s)) (s, tt)
          ]

      pub came_push : (new : Coalescer) (next : Step) → Notes co new a next → Came after new (came ++ a ∷ [])
      came_push new next note =
          let n : ℕ = queue_count Stream before in
          let before_n : HasHeard co (heard (length co.queues) came) = subst (λ (m : ℕ). HasHeard co (heard m came)) (sym heard_count) h.heard_is in
          let after_n : HasHeard new (heard n (came ++ a ∷ [])) = subst (λ (m : ℕ). HasHeard new (heard m (came ++ a ∷ []))) heard_count (note.hears came before_n) in
          record {
            even = evens h.even;
            few = λ port. subst (λ (m : ℕ). m < 2 ^ 32) (sym (count_stays port)) (h.few port);
            received_is = λ port q lt. received_next port q (subst (λ (m : ℕ). q < m) (count_stays port) lt);
            done_is = λ port q lt. done_next port q (subst (λ (m : ℕ). q < m) (count_stays port) lt);
            in_order = order_next;
            builds = builds_next;
            heard_is = subst (λ (m : ℕ). HasHeard new (heard m (came ++ a ∷ []))) (sym (count_stays Stream)) after_n;
          }
