-- What each kind of tasklet has given once it has ended.
use Rattle.std.proofs.Common.{◌≡◌, ℕ, ◌||◌, Bool, true, false, cond, ℤ, List, [], ◌∷◌, ◌++◌, map, refl, sym, ◌∙◌, ap, subst, append-nil, arith}
use Rattle.std.specs.Prelude.{Option, Some, None, filter}
use Rattle.std.specs.List.{flat_map}
use Rattle.std.proofs.lemmas.List.Sums.{sum_by-cons}
use Rattle.jet_items.specs.declared.item.Item.{Item}
use Rattle.jet_items.specs.declared.item.Item.TheVariants as item
use Rattle.jet_items.specs.Bag.{SameBag}
use Rattle.jet_items.specs.Order.{Each, Closed as ClosedItems}
use Rattle.jet_items.specs.Joins.{Joining, joined, joined_with, rows_with, or_itself}
use Rattle.jet_items.specs.Kinds.{as_event, as_side, as_frame, as_row, as_late, as_other, events_of, sides_of, frames_of, rows_of, lates_of, late_events, others_of}
use Rattle.jet_items.specs.Values.{EventValue, SideValue, FrameValue, RowValue, LateValue}
use Rattle.jet_items.proofs.Bags.{SameBag-refl, SameBag-sym, SameBag-trans, SameBag-flat_map, SameBag-map, SameBag-filter}
use Rattle.jet_boxes.specs.declared.port.Port.TheVariants.{Stream, Build}
use Rattle.jet_boxes.specs.Entry.{CallEntry, Given, MarkTold, QueueClosed, Finish, items_of}
use Rattle.jet_boxes.specs.Ports.{stream_items, build_items, stream_events, build_rows, build_events}
use Rattle.jet_join.specs.Bag.{JoinBag}
use Rattle.jet_join.specs.Calls.{setting_of}
use Rattle.jet_expr.specs.Flows.{mapped, passes}
use Rattle.jet_stages.specs.Flat.{legs_give}
use Rattle.jet_stages.specs.Stage.{StageBag}
use Rattle.jet_stages.specs.Stamp.{unless_idle, but_idle, StampBag}
use Rattle.jet_stages.specs.StampLaws.{bag_events, bag_others}
use Rattle.jet_window.specs.FrameStands.{FrameBag}
use Rattle.jet_window.specs.FrameTables.{frame_of}
use Rattle.jet_window.specs.CombineStands.{CombineBag}
use Rattle.jet_window.specs.CombineView.{held_frames}
use Rattle.jet_window.specs.Later.{newly}
use Rattle.jet_window.specs.FrameView.{held_by}
use Rattle.jet_window.specs.LateEvents.{comes_late, brought, late_by, kept_events}
use Rattle.jet_window.specs.StageLaws.{FramesSumKept}
use Rattle.jet_window.specs.Taken.{due_after, is_due, is_finished, last_mark, StageInput}
use Rattle.jet_window.specs.WindowRows.{RowsAre}
use Rattle.jet_tasklet.specs.declared.any.AnyTasklet.{AnyTasklet}
use Rattle.jet_tasklet.specs.declared.any.AnyTasklet.TheVariants as any
use Rattle.jet_tasklet.specs.declared.arrival.Arrival.{Arrival}
use Rattle.jet_tasklet.specs.AnyOver.{AnyOver}
use Rattle.jet_tasklet.specs.Inputs.{InputView, inputs_view}
use Rattle.jet_tasklet.specs.Kinds.{outputs_of}
use Rattle.jet_tasklet.specs.Merging.{data_received}
use Rattle.jet_tasklet.specs.Outputs.{OutputView, Gave, outputs_view}
use Rattle.jet_tasklet.specs.Over.{streamed, built, told_of, Over}
use Rattle.jet_tasklet.specs.Sending.{EachReceived}
use Rattle.jet_run.specs.Ended.{all_data, StageEnded, StampEnded, JoinEnded, FrameEnded, CombineEnded, EndedByKind}
use Rattle.jet_run.proofs.Bags.{empty_bag, kind_bag, flat_flat, flat_bags, none_else}

-- ---- stages
stage_ended : (f : List EventValue → List EventValue) → ((xs ys : List EventValue) → SameBag xs ys → SameBag (f xs) (f ys)) → (inputs : List InputView) (outputs : List OutputView) (taken : List CallEntry) (given : List Item)
    → Over (StageBag f) inputs outputs taken given → StageEnded f inputs given
stage_ended f bags inputs outputs taken given o = record {
  events = SameBag-trans o.follows.events (bags (events_of (items_of taken)) (events_of (all_data inputs)) (kind_bag as_event (λ m. refl) refl (items_of taken) (all_data inputs) o.told.merged));
  others = subst (λ (xs : List Item). SameBag xs (others_of (all_data inputs))) (sym o.follows.others) (kind_bag as_other (λ m. refl) refl (items_of taken) (all_data inputs) o.told.merged);
}

-- a stamp leaves out idle notes
stamp_ended : (inputs : List InputView) (outputs : List OutputView) (taken : List CallEntry) (given : List Item)
    → Over StampBag inputs outputs taken given → StampEnded inputs given
stamp_ended inputs outputs taken given o = record {
  events = subst (λ (es : List EventValue). SameBag es (events_of (all_data inputs))) (sym (bag_events taken given o.follows)) (kind_bag as_event (λ m. refl) refl (items_of taken) (all_data inputs) o.told.merged);
  others = subst (λ (xs : List Item). SameBag xs (others_of (but_idle (all_data inputs)))) (sym (bag_others taken given o.follows ∙ flat_flat as_other unless_idle (items_of taken)))
      (subst (SameBag (flat_map (λ x. others_of (unless_idle x)) (items_of taken))) (sym (flat_flat as_other unless_idle (all_data inputs))) (kind_bag (λ x. others_of (unless_idle x)) (λ m. refl) refl (items_of taken) (all_data inputs) o.told.merged));
}

-- ---- joins
or_bags : (left : Bool) (e : EventValue) (xs ys : List EventValue) → SameBag xs ys → SameBag (or_itself left e xs) (or_itself left e ys)
or_bags left e [] [] h = SameBag-refl (or_itself left e [])
or_bags left e [] (y ∷ ys) h = absurd (omega (arith, h.weighs (λ z. 1), sum_by-cons (λ z. 1) y ys))
or_bags left e (x ∷ xs) [] h = absurd (omega (arith, h.weighs (λ z. 1), sum_by-cons (λ z. 1) x xs))
or_bags left e (x ∷ xs) (y ∷ ys) h = h

-- the order of the rows does not matter
pub joined_bags : (j : Joining) (rs ss : List SideValue) → SameBag rs ss → (e : EventValue) → SameBag (joined j rs e) (joined j ss e)
joined_bags j rs ss h e = or_bags j.left e (map (joined_with j e) (rows_with e.key rs)) (map (joined_with j e) (rows_with e.key ss)) (SameBag-map (joined_with j e) (SameBag-filter _ h))

join_ended : (j : Joining) (inputs : List InputView) (outputs : List OutputView) (taken : List CallEntry) (given : List Item)
    → Over (JoinBag j) inputs outputs taken given → events_of (data_received Build inputs) ≡ [] → JoinEnded j inputs given
join_ended j inputs outputs taken given o none =
    let stream : SameBag (stream_events taken) (events_of (data_received Stream inputs)) =
    subst (λ (es : List EventValue). SameBag es (events_of (data_received Stream inputs))) (flat_flat as_event stream_items taken) (kind_bag as_event (λ m. refl) refl (streamed taken) (data_received Stream inputs) o.told.streams) in
    let rows : SameBag (build_rows taken) (sides_of (data_received Build inputs)) =
    subst (λ (ss : List SideValue). SameBag ss (sides_of (data_received Build inputs))) (flat_flat as_side build_items taken) (kind_bag as_side (λ m. refl) refl (built taken) (data_received Build inputs) o.told.builds) in
    let no_event : build_events taken ≡ [] =
    sym (flat_flat as_event build_items taken) ∙ empty_bag (events_of (built taken)) (subst (λ (es : List EventValue). SameBag (events_of (built taken)) es) none (kind_bag as_event (λ m. refl) refl (built taken) (data_received Build inputs) o.told.builds)) in
    record {
      events = SameBag-trans (subst (λ (es : List EventValue). SameBag (events_of given) es) (ap (λ (es : List EventValue). flat_map (joined j (build_rows taken)) (stream_events taken) ++ es) no_event ∙ append-nil (flat_map (joined j (build_rows taken)) (stream_events taken))) (o.follows.events o.told.build_first))
          (SameBag-trans (SameBag-flat_map (joined j (build_rows taken)) stream) (flat_bags (joined j (build_rows taken)) (joined j (sides_of (data_received Build inputs))) (joined_bags j (build_rows taken) (sides_of (data_received Build inputs)) rows) (events_of (data_received Stream inputs))));
      lates = subst (λ (ls : List LateValue). SameBag ls (lates_of (all_data inputs))) (sym o.follows.lates) (kind_bag as_late (λ m. refl) refl (items_of taken) (all_data inputs) o.told.merged);
      rows = subst (λ (rs : List RowValue). SameBag rs (rows_of (all_data inputs))) (sym o.follows.rows) (kind_bag as_row (λ m. refl) refl (items_of taken) (all_data inputs) o.told.merged);
      frames = subst (λ (fs : List FrameValue). SameBag fs (frames_of (all_data inputs))) (sym o.follows.frames) (kind_bag as_frame (λ m. refl) refl (items_of taken) (all_data inputs) o.told.merged);
    }

-- ---- the first stage of a window
vertex_if : (vertex : ℕ) (e : EventValue) (b : Bool) (ls : List LateValue) → Each (λ l. l.vertex ≡ vertex) ls → Each (λ l. l.vertex ≡ vertex) (cond b (record { vertex = vertex; event = e } ∷ []) [] ++ ls)
vertex_if vertex e true ls h = (refl, h)
vertex_if vertex e false ls h = h

own_lates : (vertex : ℕ) (slide : ℤ) (begun last : Option ℤ) (xs : List Item) → lates_of xs ≡ [] → Each (λ l. l.vertex ≡ vertex) (brought (late_by vertex slide begun) last xs)
own_lates vertex slide begun last [] h = tt
own_lates vertex slide begun last (item.Event e ∷ xs) h = vertex_if vertex e (comes_late slide begun last e.ts) (brought (late_by vertex slide begun) last xs) (own_lates vertex slide begun last xs h)
own_lates vertex slide begun last (item.Side s ∷ xs) h = own_lates vertex slide begun last xs h
own_lates vertex slide begun last (item.Frame f ∷ xs) h = own_lates vertex slide begun last xs h
own_lates vertex slide begun last (item.Row r ∷ xs) h = own_lates vertex slide begun last xs h
own_lates vertex slide begun last (item.Late l ∷ xs) h = absurd (cc)
own_lates vertex slide begun last (item.Idle ∷ xs) h = own_lates vertex slide begun last xs h
own_lates vertex slide begun last (item.Mark m ∷ xs) h = own_lates vertex slide begun (Some m) xs h
own_lates vertex slide begun last (item.Done ∷ xs) h = own_lates vertex slide begun last xs h

frame_ended : FramesSumKept → (vertex : ℕ) (slide : ℤ) (begun : Option ℤ) (held : List FrameValue) (inputs : List InputView) (outputs : List OutputView) (taken : List CallEntry) (given : List Item)
    → Over (λ taken given. FrameBag vertex slide begun held taken taken given) inputs outputs taken given
    → others_of (all_data inputs) ≡ [] → FrameEnded vertex slide inputs given
frame_ended law vertex slide begun held inputs outputs taken given o none =
    let others : others_of (items_of taken) ≡ [] = empty_bag (others_of (items_of taken)) (subst (λ (xs : List Item). SameBag (others_of (items_of taken)) xs) none (kind_bag as_other (λ m. refl) refl (items_of taken) (all_data inputs) o.told.merged)) in
    let alone = none_else (items_of taken) others in
    let no_late : late_events (items_of taken) ≡ [] = ap (λ (ls : List LateValue). map (λ l. l.event) ls) alone.lates in
    let all : SameBag (events_of (items_of taken)) (late_events given ++ kept_events slide begun (items_of taken)) =
    subst (λ (es : List EventValue). SameBag es (late_events given ++ kept_events slide begun (items_of taken))) (ap (λ (es : List EventValue). events_of (items_of taken) ++ es) no_late ∙ append-nil (events_of (items_of taken))) o.follows.parts in
    record {
      kept = kept_events slide begun (items_of taken);
      parts = SameBag-trans (SameBag-sym (kind_bag as_event (λ m. refl) refl (items_of taken) (all_data inputs) o.told.merged)) all;
      sums = law vertex slide begun held o.front taken taken given o.follows o.parts alone.frames;
      vertices = subst (Each (λ (l : LateValue). l.vertex ≡ vertex)) (sym o.follows.lates) (own_lates vertex slide begun None (items_of taken) alone.lates);
      rows = o.follows.rows ∙ alone.rows;
      events = o.follows.events;
    }

-- ---- the second stage
finish_last : (front : List CallEntry) → is_finished (front ++ Finish ∷ []) ≡ true
finish_last [] = refl
finish_last (Given port q x ∷ front) = finish_last front
finish_last (MarkTold t ∷ front) = finish_last front
finish_last (QueueClosed port q ∷ front) = finish_last front
finish_last (Finish ∷ front) = refl

combine_ended : (vertex : ℕ) (size slide : ℤ) (begun last : Option ℤ) (start held : List FrameValue) (inputs : List InputView) (outputs : List OutputView) (taken : List CallEntry) (given : List Item)
    → Over (λ taken given. CombineBag vertex size slide begun last start held (due_after taken) (StageInput taken) taken given) inputs outputs taken given
    → EachReceived ClosedItems inputs → rows_of (all_data inputs) ≡ [] → CombineEnded vertex size slide begun start inputs given
combine_ended vertex size slide begun last start held inputs outputs taken given o all none =
    let no_rows : rows_of (items_of taken) ≡ [] = empty_bag (rows_of (items_of taken)) (subst (λ (rs : List RowValue). SameBag (rows_of (items_of taken)) rs) none (kind_bag as_row (λ m. refl) refl (items_of taken) (all_data inputs) o.told.merged)) in
    let own : rows_of given ≡ o.follows.own = o.follows.alone no_rows in
    record {
      frames = frames_of (items_of taken);
      took = kind_bag as_frame (λ m. refl) refl (items_of taken) (all_data inputs) o.told.merged;
      dues = newly begun (due_after taken);
      all_due = λ e. ap (λ (b : Bool). cond (is_due begun e) false (b || is_due (last_mark taken) e)) (ap is_finished o.parts ∙ finish_last o.front);
      rows = subst (RowsAre vertex size slide (newly begun (due_after taken)) (start ++ frames_of (items_of taken))) (sym own) (o.follows.rows (record { closed = o.told.closed all; comes = o.told.comes }));
      lates = subst (λ (ls : List LateValue). SameBag ls (lates_of (all_data inputs))) (sym o.follows.lates) (kind_bag as_late (λ m. refl) refl (items_of taken) (all_data inputs) o.told.merged);
    }

-- ---- any kind
pub gave_all : (t : AnyTasklet) (came : List Arrival) (given : List Item) → AnyOver t came given → Each (Gave (given ++ item.Done ∷ [])) (outputs_view (outputs_of t))
gave_all (any.Stamp t) came given o = o.0.gave
gave_all (any.Map t) came given o = o.0.gave
gave_all (any.Filter t) came given o = o.0.gave
gave_all (any.Flat t) came given o = o.0.gave
gave_all (any.Join t) came given o = o.0.gave
gave_all (any.Frame t) came given o = o.0.gave
gave_all (any.Combine t) came given o = o.0.gave
gave_all t came given o = absurd o

pub ended : FramesSumKept → (t : AnyTasklet) (came : List Arrival) (given : List Item) → AnyOver t came given → EndedByKind t given
ended law (any.Stamp t) came given o = stamp_ended (inputs_view t.inputs.items) (outputs_view t.outputs.items) (told_of t came) given o.0
ended law (any.Map t) came given o = stage_ended (map (mapped t.processor.set)) (λ xs ys h. SameBag-map (mapped t.processor.set) h) (inputs_view t.inputs.items) (outputs_view t.outputs.items) (told_of t came) given o.0
ended law (any.Filter t) came given o = stage_ended (filter (passes t.processor.test)) (λ xs ys h. SameBag-filter (passes t.processor.test) h) (inputs_view t.inputs.items) (outputs_view t.outputs.items) (told_of t came) given o.0
ended law (any.Flat t) came given o = stage_ended (flat_map (legs_give t.processor.legs.items)) (λ xs ys h. SameBag-flat_map (legs_give t.processor.legs.items) h) (inputs_view t.inputs.items) (outputs_view t.outputs.items) (told_of t came) given o.0
ended law (any.Join t) came given o = λ none. join_ended (setting_of t.processor) (inputs_view t.inputs.items) (outputs_view t.outputs.items) (told_of t came) given o.0 none
ended law (any.Frame t) came given o = λ none. frame_ended law t.processor.vertex t.processor.times.policy.slide t.processor.times.begun (map (frame_of t.processor.vertex) (held_by t.processor)) (inputs_view t.inputs.items) (outputs_view t.outputs.items) (told_of t came) given o.0 none
ended law (any.Combine t) came given o = λ closed none. combine_ended t.processor.vertex t.processor.policy.size t.processor.policy.slide t.processor.begun t.processor.last t.processor.start.items (held_frames t.processor) (inputs_view t.inputs.items) (outputs_view t.outputs.items) (told_of t came) given o.0 closed none
ended law t came given o = absurd o
