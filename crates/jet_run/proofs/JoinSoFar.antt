-- What a join has given so far: over all rows, since no event is taken before all of them came.
use Rattle.std.proofs.Common.{◌≡◌, ℕ, ◌+◌, ◌≤◌, Bool, true, false, List, [], ◌∷◌, ◌++◌, sum_by, refl, sym, ◌∙◌, ap, subst, append-nil, inl, inr, arith}
use Rattle.std.specs.Prelude.{◌⊎◌}
use Rattle.std.specs.List.{flat_map}
use Rattle.std.proofs.lemmas.List.Sums.{sum_by-append}
use Rattle.std.proofs.lemmas.List.Concat.{flat_map-append}
use Rattle.jet_items.specs.declared.item.Item.{Item}
use Rattle.jet_items.specs.declared.item.Item.TheVariants as item
use Rattle.jet_items.specs.Bag.{SameBag}
use Rattle.jet_items.specs.Joins.{Joining, joined}
use Rattle.jet_items.specs.Kinds.{as_event, as_side, as_frame, as_row, as_late, events_of, sides_of, frames_of, rows_of, lates_of}
use Rattle.jet_items.specs.Values.{EventValue, SideValue}
use Rattle.jet_items.proofs.Bags.{SameBag-trans, SameBag-flat_map, sum_by-flat_map}
use Rattle.jet_boxes.specs.declared.port.Port.TheVariants.{Stream, Build}
use Rattle.jet_boxes.specs.Entry.{CallEntry}
use Rattle.jet_boxes.specs.Ports.{stream_items, build_items, stream_events, build_rows, build_events, BuildFirst}
use Rattle.jet_join.specs.Bag.{JoinBag}
use Rattle.jet_tasklet.specs.Inputs.{InputView, all_done}
use Rattle.jet_tasklet.specs.Merging.{data_received}
use Rattle.jet_tasklet.specs.Over.{streamed, built, IsTold, SoFar}
use Rattle.jet_run.specs.Ended.{all_data}
use Rattle.jet_run.specs.SoFar.{SubBag, JoinGives}
use Rattle.jet_run.proofs.Bags.{empty_bag, data_same, kind_bag, flat_flat, flat_bags}
use Rattle.jet_run.proofs.Ended.{joined_bags}
use Rattle.jet_run.proofs.SoFar.{by_state, one_more, sub_done, sub_kind}

-- ---- fronts of what was told
record Behind (taken more front back : List CallEntry) : Type 0 where
  mid : List CallEntry
  taken_is : taken ≡ front ++ mid
  back_is : back ≡ mid ++ more

record Before (taken more front back : List CallEntry) : Type 0 where
  mid : List CallEntry
  front_is : front ≡ taken ++ mid

split : (taken more front back : List CallEntry) → (taken ++ more) ≡ (front ++ back) → Behind taken more front back ⊎ Before taken more front back
split taken more [] back h = inl (record { mid = taken; taken_is = refl; back_is = sym h })
split [] more (y ∷ front) back h = inr (record { mid = y ∷ front; front_is = refl })
split (x ∷ taken) more (y ∷ front) back h =
    let e : x ≡ y = cc in
    let t : (taken ++ more) ≡ (front ++ back) = cc in
    elim (split taken more front back t) [
      | inl r ↦ inl (record { mid = r.mid; taken_is = ap (λ (z : CallEntry). z ∷ taken) e ∙ ap (λ (zs : List CallEntry). y ∷ zs) r.taken_is; back_is = r.back_is })
      | inr r ↦ inr (record { mid = r.mid; front_is = ap (λ (z : CallEntry). z ∷ front) (sym e) ∙ ap (λ (zs : List CallEntry). x ∷ zs) r.front_is })
    ]

left_none : {X : Type 0} (xs ys : List X) → (xs ++ ys) ≡ [] → xs ≡ []
left_none [] ys h = refl
left_none (x ∷ xs) ys h = absurd (cc)

right_none : {X : Type 0} (xs ys : List X) → (xs ++ ys) ≡ [] → ys ≡ []
right_none [] ys h = h
right_none (x ∷ xs) ys h = absurd (cc)

is_empty : {X : Type 0} (xs : List X) → (xs ≡ []) ⊎ ((xs ≡ []) → ⊥)
is_empty [] = inl refl
is_empty (x ∷ xs) = inr (λ h. absurd (cc))

-- up to a front of what was told: builds came first there too, and where an event was taken all rows were
record SeenRows (all taken : List CallEntry) : Type 0 where
  first : BuildFirst taken
  rows : (stream_events taken ≡ [] → ⊥) → build_rows all ≡ build_rows taken

seen_rows : (all taken more : List CallEntry) → BuildFirst all → all ≡ taken ++ more → SeenRows all taken
seen_rows all taken more b is =
    elim (split taken more b.front b.back (sym is ∙ b.parts)) [
      | inl r ↦
          let none : (build_rows r.mid ++ build_rows more) ≡ [] = sym (flat_map-append (λ e. sides_of (build_items e)) r.mid more) ∙ (ap build_rows (sym r.back_is) ∙ b.no_row) in
          record {
            first = record { front = b.front; back = r.mid; parts = r.taken_is; no_event = b.no_event; no_row = left_none (build_rows r.mid) (build_rows more) none };
            rows = λ some. ap build_rows is ∙ (flat_map-append (λ e. sides_of (build_items e)) taken more ∙ (ap (λ (ss : List SideValue). build_rows taken ++ ss) (right_none (build_rows r.mid) (build_rows more) none) ∙ append-nil (build_rows taken)));
          }
      | inr r ↦
          let none : stream_events taken ≡ [] = left_none (stream_events taken) (stream_events r.mid) (sym (flat_map-append (λ e. events_of (stream_items e)) taken r.mid) ∙ (ap stream_events (sym r.front_is) ∙ b.no_event)) in
          record {
            first = record { front = taken; back = []; parts = sym (append-nil taken); no_event = none; no_row = refl };
            rows = λ some. absurd (some none);
          }
    ]

module _ (inputs : List InputView) (told : List CallEntry) (is : IsTold inputs told) (none : events_of (data_received Build inputs) ≡ []) where
  stream_bag : SameBag (stream_events told) (events_of (data_received Stream inputs))
  stream_bag =
      subst (λ (ds : List EventValue). SameBag ds (events_of (data_received Stream inputs))) (flat_flat as_event stream_items told)
      (kind_bag as_event (λ m. refl) refl (streamed told) (data_received Stream inputs) is.streams)

  rows_bag : SameBag (build_rows told) (sides_of (data_received Build inputs))
  rows_bag =
      subst (λ (ss : List SideValue). SameBag ss (sides_of (data_received Build inputs))) (flat_flat as_side build_items told)
      (kind_bag as_side (λ m. refl) refl (built told) (data_received Build inputs) is.builds)

  no_builds : build_events told ≡ []
  no_builds =
      sym (flat_flat as_event build_items told)
      ∙ empty_bag (events_of (built told)) (subst (λ (ds : List EventValue). SameBag (events_of (built told)) ds) none (kind_bag as_event (λ m. refl) refl (built told) (data_received Build inputs) is.builds))

  -- where an event of the stream came, every build queue is done
  builds_done : (stream_events told ≡ [] → ⊥) → all_done Build inputs ≡ true
  builds_done some = by_done (all_done Build inputs) refl
    where
      by_done : (b : Bool) → all_done Build inputs ≡ b → all_done Build inputs ≡ true
      by_done true d = d
      by_done false d = absurd (some (sym (flat_flat as_event stream_items told) ∙ (sym (data_same as_event (λ m. refl) refl (streamed told)) ∙ ap events_of (is.waits d))))

  front_events : (taken more : List CallEntry) (w : EventValue → ℕ) → told ≡ taken ++ more → sum_by w (stream_events taken) ≤ sum_by w (stream_events told)
  front_events taken more w parts = omega (arith, ap (λ (xs : List CallEntry). sum_by w (stream_events xs)) parts, ap (sum_by w) (flat_map-append (λ e. events_of (stream_items e)) taken more), sum_by-append w (stream_events taken) (stream_events more))

  events_part : (j : Joining) (rows : List SideValue) → (all_done Build inputs ≡ true → SameBag (sides_of (data_received Build inputs)) rows)
      → (taken more : List CallEntry) (given : List Item) → told ≡ taken ++ more → JoinBag j taken given → SubBag (events_of given) (flat_map (joined j rows) (events_of (data_received Stream inputs)))
  events_part j rows whole_rows taken more given parts h =
      let seen = seen_rows told taken more is.build_first parts in
      let no_events : build_events taken ≡ [] = left_none (build_events taken) (build_events more) (sym (flat_map-append (λ e. events_of (build_items e)) taken more) ∙ (ap build_events (sym parts) ∙ no_builds)) in
      let gives : SameBag (events_of given) (flat_map (joined j (build_rows taken)) (stream_events taken)) =
      subst (λ (ds : List EventValue). SameBag (events_of given) ds) (ap (λ (ds : List EventValue). flat_map (joined j (build_rows taken)) (stream_events taken) ++ ds) no_events ∙ append-nil (flat_map (joined j (build_rows taken)) (stream_events taken))) (h.events seen.first) in
      elim (is_empty (stream_events taken)) [
        | inl empty ↦ record { weighs = λ w. omega (arith, gives.weighs w, ap (λ (ds : List EventValue). sum_by w (flat_map (joined j (build_rows taken)) ds)) empty) }
        | inr some ↦
            let some_told : (stream_events told ≡ []) → ⊥ = λ empty. some (left_none (stream_events taken) (stream_events more) (sym (flat_map-append (λ e. events_of (stream_items e)) taken more) ∙ (ap stream_events (sym parts) ∙ empty))) in
            let same_rows : SameBag (build_rows taken) rows = subst (λ (ss : List SideValue). SameBag ss rows) (seen.rows some) (SameBag-trans rows_bag (whole_rows (builds_done some_told))) in
            let over_rows : SameBag (events_of given) (flat_map (joined j rows) (stream_events taken)) = SameBag-trans gives (flat_bags (joined j (build_rows taken)) (joined j rows) (joined_bags j (build_rows taken) rows same_rows) (stream_events taken)) in
            let of_all : SameBag (flat_map (joined j rows) (stream_events told)) (flat_map (joined j rows) (events_of (data_received Stream inputs))) = SameBag-flat_map (joined j rows) stream_bag in
            record {
              weighs = λ w. omega (
                arith,
                over_rows.weighs w,
                sum_by-flat_map w (joined j rows) (stream_events taken),
                front_events taken more (λ e. sum_by w (joined j rows e)) parts,
                sum_by-flat_map w (joined j rows) (stream_events told),
                of_all.weighs w,
              );
            }
      ]

  -- with what is held of the next entry
  part : (j : Joining) (rows : List SideValue) → (all_done Build inputs ≡ true → SameBag (sides_of (data_received Build inputs)) rows)
      → (taken more : List CallEntry) (given held : List Item) → told ≡ taken ++ more → JoinBag j taken (given ++ held) → JoinGives j rows inputs given
  part j rows whole_rows taken more given held parts h =
      let events = events_part j rows whole_rows taken more (given ++ held) parts h in record {
        events = record { weighs = λ w. omega (arith, events.weighs w, ap (sum_by w) (flat_map-append as_event given held), sum_by-append w (events_of given) (events_of held)) };
        frames = sub_kind as_frame (λ m. refl) refl inputs told taken more given held is parts h.frames;
        results = sub_kind as_row (λ m. refl) refl inputs told taken more given held is parts h.rows;
        lates = sub_kind as_late (λ m. refl) refl inputs told taken more given held is parts h.lates;
      }

  done : (j : Joining) (rows : List SideValue) (given : List Item) → JoinGives j rows inputs given → JoinGives j rows inputs (given ++ item.Done ∷ [])
  done j rows given h = record {
    events = sub_done as_event refl (flat_map (joined j rows) (events_of (data_received Stream inputs))) given h.events;
    frames = sub_done as_frame refl (frames_of (all_data inputs)) given h.frames;
    results = sub_done as_row refl (rows_of (all_data inputs)) given h.results;
    lates = sub_done as_late refl (lates_of (all_data inputs)) given h.lates;
  }

pub join_gives : (j : Joining) (rows : List SideValue) (inputs : List InputView) (told : List CallEntry) (given : List Item)
    → SoFar (JoinBag j) (λ taken entry given. (held : List Item) × JoinBag j (taken ++ entry ∷ []) (given ++ held)) inputs told given
    → events_of (data_received Build inputs) ≡ [] → (all_done Build inputs ≡ true → SameBag (sides_of (data_received Build inputs)) rows) → JoinGives j rows inputs given
join_gives j rows inputs told given so_far none whole_rows =
    by_state (JoinBag j) (λ taken entry given. (held : List Item) × JoinBag j (taken ++ entry ∷ []) (given ++ held)) (JoinGives j rows inputs) inputs told given
    (λ taken more given parts h. part inputs told so_far.told none j rows whole_rows taken more given [] parts (subst (JoinBag j taken) (sym (append-nil given)) h))
    (λ taken entry more given parts h. part inputs told so_far.told none j rows whole_rows (taken ++ entry ∷ []) more given h.0 (one_more told taken entry more parts) h.1)
    (λ given h. done inputs told so_far.told none j rows given h) so_far
