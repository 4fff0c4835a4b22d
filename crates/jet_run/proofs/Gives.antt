-- What a tasklet of any kind has given so far: what entered its outbox, and what each destination was sent.
use Rattle.std.proofs.Common.{◌≡◌, ℕ, ◌+◌, ◌≤◌, Bool, true, false, cond, ℤ, List, [], ◌∷◌, ◌++◌, map, sum_by, refl, sym, ◌∙◌, ap, subst, append-nil, append_assoc, inl, inr, arith}
use Rattle.std.specs.Prelude.{filter, None, Option}
use Rattle.std.specs.List.{flat_map}
use Rattle.std.proofs.lemmas.List.Sums.{sum_by-append, sum_by-cons}
use Rattle.std.proofs.lemmas.List.Concat.{flat_map-append}
use Rattle.jet_items.specs.declared.item.Item.{Item}
use Rattle.jet_items.specs.declared.item.Item.TheVariants as item
use Rattle.jet_items.specs.Bag.{SameBag}
use Rattle.jet_items.specs.Joins.{Joining, joined}
use Rattle.jet_items.specs.Kinds.{as_event, as_frame, as_row, as_late, as_other, events_of, frames_of, rows_of, lates_of, others_of}
use Rattle.jet_items.specs.Order.{Closed as ClosedItems}
use Rattle.jet_items.specs.Values.{EventValue, SideValue, FrameValue, RowValue}
use Rattle.jet_items.proofs.Bags.{sum_by-flat_map}
use Rattle.jet_items.proofs.Orders.{Closed-front}
use Rattle.jet_boxes.specs.declared.port.Port.TheVariants.{Stream}
use Rattle.jet_boxes.specs.Entry.{CallEntry, entry_items, items_of}
use Rattle.jet_expr.specs.Flows.{mapped, passes}
use Rattle.jet_join.specs.Calls.{setting_of}
use Rattle.jet_router.specs.Deals.{Deal, reaches_dest, sent_by, items_dealt}
use Rattle.jet_stages.specs.Flat.{legs_give, FlatBagAmid}
use Rattle.jet_stages.specs.Stage.{StageBag}
use Rattle.jet_stages.specs.Stamp.{unless_idle, but_idle, StampBag, StampBagAmid}
use Rattle.jet_stages.specs.StampLaws.{bag_events, bag_others}
use Rattle.jet_window.specs.FrameTables.{frame_of}
use Rattle.jet_window.specs.CombineStands.{CombineBag, CombineBagAmid}
use Rattle.jet_window.specs.CombineView.{held_frames}
use Rattle.jet_window.specs.Later.{newly}
use Rattle.jet_window.specs.FrameView.{held_by}
use Rattle.jet_window.specs.Taken.{due_after, is_due, StageInput}
use Rattle.jet_tasklet.specs.declared.any.AnyTasklet.{AnyTasklet}
use Rattle.jet_tasklet.specs.declared.any.AnyTasklet.TheVariants as any
use Rattle.jet_tasklet.specs.declared.arrival.Arrival.{Arrival}
use Rattle.jet_tasklet.specs.Any.{AnyKeeps}
use Rattle.jet_tasklet.specs.AnyOver.{AnySoFar}
use Rattle.jet_tasklet.specs.Inputs.{InputView, inputs_view}
use Rattle.jet_tasklet.specs.Kinds.{outputs_of, RunsProcessor}
use Rattle.jet_tasklet.specs.Merging.{data_received}
use Rattle.jet_tasklet.specs.Outputs.{Giving, outputs_view}
use Rattle.jet_tasklet.specs.Over.{told_of, IsTold, SoFar}
use Rattle.jet_tasklet.specs.Views.{waiting}
use Rattle.jet_tasklet.specs.Sending.{EachReceived, EachSent}
use Rattle.jet_tasklet.proofs.GenericLaws.{Passing, sends}
use Rattle.jet_run.specs.Ended.{all_data}
use Rattle.jet_run.specs.SoFar.{SubBag, StageGives, StampGives, JoinGives, CombineGives, load, GivesByKind}
use Rattle.jet_run.proofs.Bags.{flat_flat}
use Rattle.jet_run.proofs.VertexFlows.{spread_flat, spread_map, spread_filter}
use Rattle.jet_run.proofs.JoinSoFar.{join_gives}
use Rattle.jet_run.proofs.SoFar.{by_state, one_more, sub_done, sub_of, sub_kind, stage_gives, frame_gives, load_two}

-- ---- a second stage
sub_rows : (inputs : List InputView) (told taken more : List CallEntry) (given held : List Item) (own : List RowValue) → IsTold inputs told → told ≡ taken ++ more → SameBag (rows_of (given ++ held)) (rows_of (items_of taken) ++ own) → SubBag (rows_of given) (rows_of (all_data inputs) ++ own)
sub_rows inputs told taken more given held own is parts passed =
    let came : SubBag (rows_of (items_of taken)) (rows_of (all_data inputs)) = sub_kind as_row (λ m. refl) refl inputs told taken more (items_of taken) [] is parts (ap rows_of (append-nil (items_of taken))) in
    record {
      weighs = λ w. omega (
        arith,
        passed.weighs w,
        ap (sum_by w) (flat_map-append as_row given held),
        sum_by-append w (rows_of given) (rows_of held),
        sum_by-append w (rows_of (items_of taken)) own,
        sum_by-append w (rows_of (all_data inputs)) own,
        came.weighs w,
      );
    }

-- a front of what was told came as it is to come
front_input : (inputs : List InputView) (told taken more : List CallEntry) → IsTold inputs told → told ≡ taken ++ more → EachReceived ClosedItems inputs → StageInput taken
front_input inputs told taken more is parts all = record {
  closed = Closed-front (items_of taken) (items_of more) (subst ClosedItems (ap items_of parts ∙ flat_map-append entry_items taken more) (is.closed all));
  comes = λ front entry rest at. is.comes front entry (rest ++ more) (parts ∙ (ap (λ (es : List CallEntry). es ++ more) at ∙ append_assoc front (entry ∷ rest) more));
}

combine_part : (vertex : ℕ) (size slide : ℤ) (begun last : Option ℤ) (start held_yet : List FrameValue) (due : ℤ → Bool) (input : Type 0) (inputs : List InputView) (told taken more : List CallEntry) (given held : List Item) → IsTold inputs told → told ≡ taken ++ more
    → (EachReceived ClosedItems inputs → input) → CombineBag vertex size slide begun last start held_yet due input taken (given ++ held) → CombineGives vertex size slide start inputs given
combine_part vertex size slide begun last start held_yet due input inputs told taken more given held is parts in_order h = record {
  own = h.own;
  frames = frames_of (items_of taken);
  due = newly begun due;
  results = sub_rows inputs told taken more given held h.own is parts h.passed;
  rows = λ all. h.rows (in_order all);
  took = sub_kind as_frame (λ m. refl) refl inputs told taken more (items_of taken) [] is parts (ap frames_of (append-nil (items_of taken)));
  lates = sub_kind as_late (λ m. refl) refl inputs told taken more given held is parts h.lates;
}

combine_gives : (vertex : ℕ) (size slide : ℤ) (begun last : Option ℤ) (start held_yet : List FrameValue) (inputs : List InputView) (told : List CallEntry) (given : List Item)
    → SoFar (λ taken given. CombineBag vertex size slide begun last start held_yet (due_after taken) (StageInput taken) taken given) (λ taken entry given. CombineBagAmid vertex size slide begun last start held_yet taken entry given) inputs told given
    → CombineGives vertex size slide start inputs given
combine_gives vertex size slide begun last start held_yet inputs told given so_far =
    by_state (λ taken given. CombineBag vertex size slide begun last start held_yet (due_after taken) (StageInput taken) taken given) (λ taken entry given. CombineBagAmid vertex size slide begun last start held_yet taken entry given) (CombineGives vertex size slide start inputs) inputs told given
    (λ taken more given parts h. combine_part vertex size slide begun last start held_yet (due_after taken) (StageInput taken) inputs told taken more given [] so_far.told parts (front_input inputs told taken more so_far.told parts)
    (subst (CombineBag vertex size slide begun last start held_yet (due_after taken) (StageInput taken) taken) (sym (append-nil given)) h))
    (λ taken entry more given parts h. combine_part vertex size slide begun last start held_yet (is_due h.until) (StageInput (taken ++ entry ∷ [])) inputs told taken (entry ∷ more) given (map item.Row h.ready) so_far.told parts
    (front_input inputs told (taken ++ entry ∷ []) more so_far.told (one_more told taken entry more parts)) h.bag)
    (λ given h. record {
      own = h.own;
      frames = h.frames;
      due = h.due;
      results = sub_done as_row refl (rows_of (all_data inputs) ++ h.own) given h.results;
      rows = h.rows;
      took = h.took;
      lates = sub_done as_late refl (lates_of (all_data inputs)) given h.lates;
    }) so_far

-- ---- a stamp passes on all but idle notes
stamp_part : (inputs : List InputView) (told taken more : List CallEntry) (given held : List Item) → IsTold inputs told → told ≡ taken ++ more → StampBag taken (given ++ held) → StampGives inputs given
stamp_part inputs told taken more given held is parts h = record {
  events = sub_kind as_event (λ m. refl) refl inputs told taken more given held is parts (bag_events taken (given ++ held) h);
  others = subst (SubBag (others_of given)) (sym (flat_flat as_other unless_idle (all_data inputs)))
      (sub_of as_other (λ x. others_of (unless_idle x)) (λ m. refl) refl inputs told taken more given held is parts (bag_others taken (given ++ held) h ∙ flat_flat as_other unless_idle (items_of taken)));
}

stamp_gives : (inputs : List InputView) (told : List CallEntry) (given : List Item) → SoFar StampBag StampBagAmid inputs told given → StampGives inputs given
stamp_gives inputs told given so_far =
    by_state StampBag StampBagAmid (StampGives inputs) inputs told given
    (λ taken more given parts h. stamp_part inputs told taken more given [] so_far.told parts (subst (StampBag taken) (sym (append-nil given)) h))
    (λ taken entry more given parts h. stamp_part inputs told (taken ++ entry ∷ []) more given h.held so_far.told (one_more told taken entry more parts) h.bag)
    (λ given h. record { events = sub_done as_event refl (events_of (all_data inputs)) given h.events; others = sub_done as_other refl (others_of (but_idle (all_data inputs))) given h.others }) so_far

pub gives : (t : AnyTasklet) (came : List Arrival) (gave : List Item) → RunsProcessor t → AnySoFar t came gave → GivesByKind t (gave ++ waiting t)
gives (any.Stamp t) came gave runs s = stamp_gives (inputs_view t.inputs.items) (told_of t came) (gave ++ t.outbox.items) s
gives (any.Map t) came gave runs s =
    stage_gives (map (mapped t.processor.set)) (StageBag (map (mapped t.processor.set))) (λ taken entry given. StageBag (map (mapped t.processor.set)) taken given) (spread_map (mapped t.processor.set)) (λ taken given h. h) (λ taken entry given h. inr h)
    (inputs_view t.inputs.items) (told_of t came) (gave ++ t.outbox.items) s
gives (any.Filter t) came gave runs s =
    stage_gives (filter (passes t.processor.test)) (StageBag (filter (passes t.processor.test))) (λ taken entry given. StageBag (filter (passes t.processor.test)) taken given) (spread_filter (passes t.processor.test)) (λ taken given h. h) (λ taken entry given h. inr h)
    (inputs_view t.inputs.items) (told_of t came) (gave ++ t.outbox.items) s
gives (any.Flat t) came gave runs s =
    stage_gives (flat_map (legs_give t.processor.legs.items)) (StageBag (flat_map (legs_give t.processor.legs.items))) (FlatBagAmid (flat_map (legs_give t.processor.legs.items))) (spread_flat (legs_give t.processor.legs.items)) (λ taken given h. h) (λ taken entry given h. inl (h.held, h.bag))
    (inputs_view t.inputs.items) (told_of t came) (gave ++ t.outbox.items) s
gives (any.Join t) came gave runs s = λ rows none whole. join_gives (setting_of t.processor) rows (inputs_view t.inputs.items) (told_of t came) (gave ++ t.outbox.items) s none whole
gives (any.Frame t) came gave runs s = frame_gives t.processor.vertex t.processor.times.policy.slide t.processor.times.begun (map (frame_of t.processor.vertex) (held_by t.processor)) (inputs_view t.inputs.items) (told_of t came) (gave ++ t.outbox.items) s
gives (any.Combine t) came gave runs s = combine_gives t.processor.vertex t.processor.policy.size t.processor.policy.slide t.processor.begun t.processor.last t.processor.start.items (held_frames t.processor) (inputs_view t.inputs.items) (told_of t came) (gave ++ t.outbox.items) s
gives t came gave runs s = absurd runs

-- ---- what was sent to a destination is a part of what was given
weigh_if : (w : Item → ℕ) (b : Bool) (x : Item) (xs : List Item) → sum_by w (cond b (x ∷ []) [] ++ xs) ≤ w x + sum_by w xs
weigh_if w true x xs = omega (arith, sum_by-cons w x xs)
weigh_if w false x xs = omega arith

weigh_part : (w : Item → ℕ) (k : ℕ) (deals : List Deal) → sum_by w (sent_by k deals) ≤ sum_by w (items_dealt deals)
weigh_part w k [] = omega arith
weigh_part w k (d ∷ deals) = omega (arith, weigh_if w (reaches_dest k d.to) d.item (sent_by k deals), weigh_part w k deals, sum_by-cons w d.item (items_dealt deals))

sub_passing : {X : Type 0} (f : Item → List X) (all : List X) → Passing (λ xs. SubBag (flat_map f xs) all)
sub_passing f all = record {
  part = λ k deals h. record { weighs = λ w. omega (arith, weigh_part (λ x. sum_by w (f x)) k deals, sum_by-flat_map w f (sent_by k deals), sum_by-flat_map w f (items_dealt deals), h.weighs w) };
  front = λ xs ys h. record { weighs = λ w. omega (arith, ap (sum_by w) (flat_map-append f xs ys), sum_by-append w (flat_map f xs) (flat_map f ys), h.weighs w) };
}

stage_passing : (f : List EventValue → List EventValue) (inputs : List InputView) → Passing (StageGives f inputs)
stage_passing f inputs =
    let events = sub_passing as_event (f (events_of (all_data inputs))) in
    let others = sub_passing as_other (others_of (all_data inputs)) in
    record {
      part = λ k deals h. record { events = events.part k deals h.events; others = others.part k deals h.others };
      front = λ xs ys h. record { events = events.front xs ys h.events; others = others.front xs ys h.others };
    }

stamp_passing : (inputs : List InputView) → Passing (StampGives inputs)
stamp_passing inputs =
    let events = sub_passing as_event (events_of (all_data inputs)) in
    let others = sub_passing as_other (others_of (but_idle (all_data inputs))) in
    record {
      part = λ k deals h. record { events = events.part k deals h.events; others = others.part k deals h.others };
      front = λ xs ys h. record { events = events.front xs ys h.events; others = others.front xs ys h.others };
    }

join_part : (j : Joining) (rows : List SideValue) (inputs : List InputView) → Passing (JoinGives j rows inputs)
join_part j rows inputs =
    let events = sub_passing as_event (flat_map (joined j rows) (events_of (data_received Stream inputs))) in
    let frames = sub_passing as_frame (frames_of (all_data inputs)) in
    let results = sub_passing as_row (rows_of (all_data inputs)) in
    let lates = sub_passing as_late (lates_of (all_data inputs)) in
    record {
      part = λ k deals h. record { events = events.part k deals h.events; frames = frames.part k deals h.frames; results = results.part k deals h.results; lates = lates.part k deals h.lates };
      front = λ xs ys h. record { events = events.front xs ys h.events; frames = frames.front xs ys h.frames; results = results.front xs ys h.results; lates = lates.front xs ys h.lates };
    }

combine_passing : (vertex : ℕ) (size slide : ℤ) (start : List FrameValue) (inputs : List InputView) → Passing (CombineGives vertex size slide start inputs)
combine_passing vertex size slide start inputs = record {
  part = λ k deals h.
      let rows = sub_passing as_row (rows_of (all_data inputs) ++ h.own) in
      let lates = sub_passing as_late (lates_of (all_data inputs)) in
      record { own = h.own; frames = h.frames; due = h.due; results = rows.part k deals h.results; rows = h.rows; took = h.took; lates = lates.part k deals h.lates };
  front = λ xs ys h.
      let rows = sub_passing as_row (rows_of (all_data inputs) ++ h.own) in
      let lates = sub_passing as_late (lates_of (all_data inputs)) in
      record { own = h.own; frames = h.frames; due = h.due; results = rows.front xs ys h.results; rows = h.rows; took = h.took; lates = lates.front xs ys h.lates };
}

load_weighs : (xs : List Item) → sum_by (λ x. load (x ∷ [])) xs ≡ load xs
load_weighs [] = refl
load_weighs (x ∷ xs) = omega (arith, sum_by-cons (λ y. load (y ∷ [])) x xs, load_weighs xs, load_two (x ∷ []) xs)

load_passing : (most : ℕ) → Passing (λ xs. load xs ≤ most)
load_passing most = record {
  part = λ k deals h. omega (arith, weigh_part (λ x. load (x ∷ [])) k deals, load_weighs (sent_by k deals), load_weighs (items_dealt deals), h);
  front = λ xs ys h. omega (arith, load_two xs ys, h);
}

given_passing : (t : AnyTasklet) → RunsProcessor t → Passing (GivesByKind t)
given_passing (any.Stamp t) runs = stamp_passing (inputs_view t.inputs.items)
given_passing (any.Map t) runs = stage_passing (map (mapped t.processor.set)) (inputs_view t.inputs.items)
given_passing (any.Filter t) runs = stage_passing (filter (passes t.processor.test)) (inputs_view t.inputs.items)
given_passing (any.Flat t) runs = stage_passing (flat_map (legs_give t.processor.legs.items)) (inputs_view t.inputs.items)
given_passing (any.Join t) runs = record {
  part = λ k deals h rows none whole. let p = join_part (setting_of t.processor) rows (inputs_view t.inputs.items) in p.part k deals (h rows none whole);
  front = λ xs ys h rows none whole. let p = join_part (setting_of t.processor) rows (inputs_view t.inputs.items) in p.front xs ys (h rows none whole);
}
given_passing (any.Frame t) runs = load_passing (load (all_data (inputs_view t.inputs.items)))
given_passing (any.Combine t) runs = combine_passing t.processor.vertex t.processor.policy.size t.processor.policy.slide t.processor.start.items (inputs_view t.inputs.items)
given_passing t runs = absurd runs

gives_out : (t : AnyTasklet) (came : List Arrival) (gave : List Item) → RunsProcessor t → AnyKeeps t came gave → Giving gave (waiting t) (outputs_view (outputs_of t))
gives_out (any.Stamp t) came gave runs k = k.gives_out
gives_out (any.Map t) came gave runs k = k.gives_out
gives_out (any.Filter t) came gave runs k = k.gives_out
gives_out (any.Flat t) came gave runs k = k.gives_out
gives_out (any.Join t) came gave runs k = k.gives_out
gives_out (any.Frame t) came gave runs k = k.gives_out
gives_out (any.Combine t) came gave runs k = k.gives_out
gives_out t came gave runs k = absurd runs

pub sent : (t : AnyTasklet) (came : List Arrival) (gave : List Item) → RunsProcessor t → AnyKeeps t came gave → AnySoFar t came gave → EachSent (GivesByKind t) (outputs_view (outputs_of t))
sent t came gave runs k s = sends (GivesByKind t) (given_passing t runs) gave (waiting t) (outputs_view (outputs_of t)) (gives_out t came gave runs k) (gives t came gave runs s)
