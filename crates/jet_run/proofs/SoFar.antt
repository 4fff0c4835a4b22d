-- What each kind of tasklet has given so far.
use Rattle.std.proofs.Common.{◌≡◌, ℕ, ◌+◌, ◌≤◌, ℤ, List, [], ◌∷◌, ◌++◌, length, sum_by, refl, sym, ◌∙◌, ap, subst, append-nil, append_assoc, inl, inr, arith}
use Rattle.std.specs.Prelude.{◌⊎◌, Option}
use Rattle.std.specs.List.{flat_map}
use Rattle.std.proofs.lemmas.List.{length-append, length-map}
use Rattle.std.proofs.lemmas.List.Sums.{sum_by-append, sum_by-cons}
use Rattle.std.proofs.lemmas.List.Concat.{flat_map-append}
use Rattle.jet_items.specs.declared.item.Item.{Item}
use Rattle.jet_items.specs.declared.item.Item.TheVariants as item
use Rattle.jet_items.specs.Bag.{SameBag}
use Rattle.jet_items.specs.Kinds.{as_event, as_side, as_frame, as_row, as_late, as_other, events_of, frames_of, lates_of, late_events, others_of}
use Rattle.jet_items.specs.Values.{EventValue, FrameValue}
use Rattle.jet_boxes.specs.Entry.{CallEntry, entry_items, items_of}
use Rattle.jet_stages.specs.Stage.{StageBag}
use Rattle.jet_window.specs.FrameStands.{FrameBag}
use Rattle.jet_window.specs.LateEvents.{kept_events}
use Rattle.jet_tasklet.specs.Inputs.{InputView}
use Rattle.jet_tasklet.specs.Over.{IsTold, SoFar}
use Rattle.jet_run.specs.Ended.{all_data}
use Rattle.jet_run.specs.SoFar.{SubBag, StageGives, load}
use Rattle.jet_run.specs.inner.Spread.{IsSpread}
use Rattle.jet_run.proofs.Bags.{kind_bag}

items_append : (es fs : List CallEntry) → items_of (es ++ fs) ≡ items_of es ++ items_of fs
items_append es fs = flat_map-append entry_items es fs

-- what follows of the entries taken, in whatever state
pub by_state : (bag : List CallEntry → List Item → Type 0) (amid : List CallEntry → CallEntry → List Item → Type 0) (Q : List Item → Type 0) (inputs : List InputView) (told : List CallEntry) (given : List Item)
    → ((taken more : List CallEntry) (given : List Item) → told ≡ taken ++ more → bag taken given → Q given)
    → ((taken : List CallEntry) (entry : CallEntry) (more : List CallEntry) (given : List Item) → told ≡ taken ++ entry ∷ more → amid taken entry given → Q given)
    → ((given : List Item) → Q given → Q (given ++ item.Done ∷ []))
    → SoFar bag amid inputs told given → Q given
by_state bag amid Q inputs told given law law_amid ends s =
    elim s.follows [
      | inl h ↦ law told [] given (sym (append-nil told)) h
      | inr h ↦ elim h [
        | inl a ↦ law_amid a.taken a.entry a.more given a.parts a.follows
        | inr e ↦ subst Q (sym e.parts) (ends e.front (law told [] e.front (sym (append-nil told)) e.follows))
      ]
    ]

-- one entry more was taken
pub one_more : (told taken : List CallEntry) (entry : CallEntry) (more : List CallEntry) → told ≡ taken ++ entry ∷ more → told ≡ (taken ++ entry ∷ []) ++ more
one_more told taken entry more is = is ∙ sym (append_assoc taken (entry ∷ []) more)

-- ---- one kind of items
pub sub_done : {X : Type 0} (f : Item → List X) → f item.Done ≡ [] → (all : List X) (given : List Item) → SubBag (flat_map f given) all → SubBag (flat_map f (given ++ item.Done ∷ [])) all
sub_done {X} f none all given h = subst (λ (xs : List X). SubBag xs all) (sym (flat_map-append f given (item.Done ∷ []) ∙ (ap (λ (xs : List X). flat_map f given ++ (xs ++ [])) none ∙ append-nil (flat_map f given)))) h

-- what was given of the entries taken, and a part of the next, is among what all that came brings
pub sub_of : {X : Type 0} (f g : Item → List X) → ((m : ℤ) → g (item.Mark m) ≡ []) → g item.Done ≡ [] → (inputs : List InputView) (told taken more : List CallEntry) (given held : List Item)
    → IsTold inputs told → told ≡ taken ++ more → flat_map f (given ++ held) ≡ flat_map g (items_of taken) → SubBag (flat_map f given) (flat_map g (all_data inputs))
sub_of {X} f g mark done inputs told taken more given held is parts passed = record {
  weighs = λ w. omega (
    arith,
    ap (sum_by w) passed,
    ap (sum_by w) (flat_map-append f given held),
    sum_by-append w (flat_map f given) (flat_map f held),
    (kind_bag g mark done (items_of told) (all_data inputs) is.merged).weighs w,
    ap (λ (es : List CallEntry). sum_by w (flat_map g (items_of es))) parts,
    ap (λ (xs : List Item). sum_by w (flat_map g xs)) (items_append taken more),
    ap (sum_by w) (flat_map-append g (items_of taken) (items_of more)),
    sum_by-append w (flat_map g (items_of taken)) (flat_map g (items_of more)),
  );
}

-- what was passed on
pub sub_kind : {X : Type 0} (f : Item → List X) → ((m : ℤ) → f (item.Mark m) ≡ []) → f item.Done ≡ [] → (inputs : List InputView) (told taken more : List CallEntry) (given held : List Item)
    → IsTold inputs told → told ≡ taken ++ more → flat_map f (given ++ held) ≡ flat_map f (items_of taken) → SubBag (flat_map f given) (flat_map f (all_data inputs))
sub_kind f mark done = sub_of f f mark done

-- ---- stages
stage_part : (f : List EventValue → List EventValue) → IsSpread f → (inputs : List InputView) (told taken more : List CallEntry) (given held : List Item) → IsTold inputs told → told ≡ taken ++ more → StageBag f taken (given ++ held) → StageGives f inputs given
stage_part f s inputs told taken more given held is parts h = record {
  events = record {
    weighs = λ w. omega (
      arith,
      h.events.weighs w,
      ap (sum_by w) (flat_map-append as_event given held),
      sum_by-append w (events_of given) (events_of held),
      (s.bags (events_of (items_of told)) (events_of (all_data inputs)) (kind_bag as_event (λ m. refl) refl (items_of told) (all_data inputs) is.merged)).weighs w,
      ap (λ (es : List CallEntry). sum_by w (f (events_of (items_of es)))) parts,
      ap (λ (xs : List Item). sum_by w (f (events_of xs))) (items_append taken more),
      ap (λ (es : List EventValue). sum_by w (f es)) (flat_map-append as_event (items_of taken) (items_of more)),
      ap (sum_by w) (s.both (events_of (items_of taken)) (events_of (items_of more))),
      sum_by-append w (f (events_of (items_of taken))) (f (events_of (items_of more))),
    );
  };
  others = sub_kind as_other (λ m. refl) refl inputs told taken more given held is parts h.others;
}

stage_done : (f : List EventValue → List EventValue) (inputs : List InputView) (given : List Item) → StageGives f inputs given → StageGives f inputs (given ++ item.Done ∷ [])
stage_done f inputs given h = record {
  events = sub_done as_event refl (f (events_of (all_data inputs))) given h.events;
  others = sub_done as_other refl (others_of (all_data inputs)) given h.others;
}

nothing : (f : List EventValue → List EventValue) (taken : List CallEntry) (given : List Item) → StageBag f taken given → StageBag f taken (given ++ [])
nothing f taken given h = subst (StageBag f taken) (sym (append-nil given)) h

-- a processor whose laws are those of a stage: in the middle of an entry it has given a part of what the entry gives, or nothing yet
pub stage_gives : (f : List EventValue → List EventValue) (bag : List CallEntry → List Item → Type 0) (amid : List CallEntry → CallEntry → List Item → Type 0) → IsSpread f
    → ((taken : List CallEntry) (given : List Item) → bag taken given → StageBag f taken given)
    → ((taken : List CallEntry) (entry : CallEntry) (given : List Item) → amid taken entry given → ((held : List Item) × StageBag f (taken ++ entry ∷ []) (given ++ held)) ⊎ StageBag f taken given)
    → (inputs : List InputView) (told : List CallEntry) (given : List Item) → SoFar bag amid inputs told given → StageGives f inputs given
stage_gives f bag amid s law law_amid inputs told given so_far =
    by_state bag amid (StageGives f inputs) inputs told given
    (λ taken more given parts h. stage_part f s inputs told taken more given [] so_far.told parts (nothing f taken given (law taken given h)))
    (λ taken entry more given parts h. elim (law_amid taken entry given h) [
      | inl part ↦ stage_part f s inputs told (taken ++ entry ∷ []) more given part.0 so_far.told (one_more told taken entry more parts) part.1
      | inr none ↦ stage_part f s inputs told taken (entry ∷ more) given [] so_far.told parts (nothing f taken given none)
    ])
    (λ given h. stage_done f inputs given h) so_far

-- ---- the first stage of a window
sum_ones : {X : Type 0} (xs : List X) → sum_by (λ x. 1) xs ≡ length xs
sum_ones [] = refl
sum_ones (x ∷ xs) = omega (arith, sum_by-cons (λ y. 1) x xs, sum_ones xs)

pub same_length : {X : Type 0} (xs ys : List X) → SameBag xs ys → length xs ≡ length ys
same_length xs ys h = sym (sum_ones xs) ∙ (h.weighs (λ x. 1) ∙ sum_ones ys)

count_two : {X : Type 0} (f : Item → List X) (xs ys : List Item) → length (flat_map f (xs ++ ys)) ≡ length (flat_map f xs) + length (flat_map f ys)
count_two f xs ys = ap length (flat_map-append f xs ys) ∙ length-append (flat_map f xs) (flat_map f ys)

pub load_two : (xs ys : List Item) → load (xs ++ ys) ≡ load xs + load ys
load_two xs ys = omega (arith, count_two as_event xs ys, count_two as_side xs ys, count_two as_frame xs ys, count_two as_row xs ys, count_two as_late xs ys)

count_merged : {X : Type 0} (f : Item → List X) → ((m : ℤ) → f (item.Mark m) ≡ []) → f item.Done ≡ [] → (inputs : List InputView) (told : List CallEntry) → IsTold inputs told → length (flat_map f (items_of told)) ≡ length (flat_map f (all_data inputs))
count_merged f mark done inputs told is = same_length (flat_map f (items_of told)) (flat_map f (all_data inputs)) (kind_bag f mark done (items_of told) (all_data inputs) is.merged)

load_taken : (inputs : List InputView) (told taken more : List CallEntry) → IsTold inputs told → told ≡ taken ++ more → load (items_of taken) ≤ load (all_data inputs)
load_taken inputs told taken more is parts =
    omega (
      arith,
      ap (λ (es : List CallEntry). load (items_of es)) parts,
      ap load (items_append taken more),
      load_two (items_of taken) (items_of more),
      count_merged as_event (λ m. refl) refl inputs told is,
      count_merged as_side (λ m. refl) refl inputs told is,
      count_merged as_frame (λ m. refl) refl inputs told is,
      count_merged as_row (λ m. refl) refl inputs told is,
      count_merged as_late (λ m. refl) refl inputs told is,
    )

frame_part : (vertex : ℕ) (slide : ℤ) (begun : Option ℤ) (held : List FrameValue) (upto : List CallEntry) (inputs : List InputView) (told taken more : List CallEntry) (given : List Item) → IsTold inputs told → told ≡ taken ++ more → FrameBag vertex slide begun held upto taken given → load given ≤ load (all_data inputs)
frame_part vertex slide begun held upto inputs told taken more given is parts h =
    omega (
      arith,
      ap length h.events,
      ap length h.rows,
      ap length h.sides,
      same_length (frames_of given) (frames_of (items_of taken) ++ h.own) h.passed,
      length-append (frames_of (items_of taken)) h.own,
      h.few,
      same_length (events_of (items_of taken) ++ late_events (items_of taken)) (late_events given ++ kept_events slide begun (items_of taken)) h.parts,
      length-append (events_of (items_of taken)) (late_events (items_of taken)),
      length-append (late_events given) (kept_events slide begun (items_of taken)),
      length-map (lates_of given) (λ l. l.event),
      length-map (lates_of (items_of taken)) (λ l. l.event),
      load_taken inputs told taken more is parts,
    )

pub frame_gives : (vertex : ℕ) (slide : ℤ) (begun : Option ℤ) (held : List FrameValue) (inputs : List InputView) (told : List CallEntry) (given : List Item)
    → SoFar (λ taken given. FrameBag vertex slide begun held taken taken given) (λ taken entry given. FrameBag vertex slide begun held (taken ++ entry ∷ []) taken given) inputs told given → load given ≤ load (all_data inputs)
frame_gives vertex slide begun held inputs told given so_far =
    by_state (λ taken given. FrameBag vertex slide begun held taken taken given) (λ taken entry given. FrameBag vertex slide begun held (taken ++ entry ∷ []) taken given) (λ xs. load xs ≤ load (all_data inputs)) inputs told given
    (λ taken more given parts h. frame_part vertex slide begun held taken inputs told taken more given so_far.told parts h)
    (λ taken entry more given parts h. frame_part vertex slide begun held (taken ++ entry ∷ []) inputs told taken (entry ∷ more) given so_far.told parts h)
    (λ given h. let none : load (item.Done ∷ []) ≡ 0 = refl in omega (arith, load_two given (item.Done ∷ []), none, h)) so_far
