-- What a tasklet has told its processor and what that has given: so far, in whatever state it is, and once it has ended.
use Rattle.std.specs.Prelude.{◌≡◌, ℕ, ◌⊎◌, Bool, true, false, List, [], ◌∷◌, ◌++◌}
use Rattle.std.specs.List.{flat_map}
use Rattle.jet_items.specs.declared.item.Item.{Item}
use Rattle.jet_items.specs.declared.item.Item.TheVariants as item
use Rattle.jet_items.specs.Bag.{SameBag}
use Rattle.jet_items.specs.Kinds.{data_of}
use Rattle.jet_items.specs.Order.{Each, Sound, Closed as ClosedItems}
use Rattle.jet_boxes.specs.declared.port.Port.{Port}
use Rattle.jet_boxes.specs.declared.port.Port.TheVariants.{Stream, Build}
use Rattle.jet_boxes.specs.Entry.{CallEntry, Finish, NotDone, MayAll, AnyQueue, items_of}
use Rattle.jet_boxes.specs.Ports.{stream_items, build_items, BuildFirst}
use Rattle.jet_tasklet.specs.declared.arrival.Arrival.{Arrival}
use Rattle.jet_tasklet.specs.declared.tasklet.Tasklet.{Tasklet}
use Rattle.jet_tasklet.specs.Inputs.{InputView, inputs_view, queue_count, all_done}
use Rattle.jet_tasklet.specs.Keeps.{told}
use Rattle.jet_tasklet.specs.Merging.{data_received}
use Rattle.jet_tasklet.specs.Outputs.{OutputView, Gave}
use Rattle.jet_tasklet.specs.Sending.{EachReceived}

-- all that the processor of a tasklet is told of the items that came, that which is pending too
abbrev pub told_of : {P : Type 0} → Tasklet P → List Arrival → List CallEntry
told_of t came = told t.step (queue_count Stream (inputs_view t.inputs.items)) came

-- the items that were taken from the stream queues, and those from the build queues
abbrev pub streamed : List CallEntry → List Item
streamed taken = flat_map stream_items taken

abbrev pub built : List CallEntry → List Item
built taken = flat_map build_items taken

-- a processor was told these entries of what its queues received
pub record IsTold (inputs : List InputView) (entries : List CallEntry) : Type 0 where
  -- the data of each port is that of its queues
  pub streams : SameBag (data_of (streamed entries)) (data_received Stream inputs)
  pub builds : SameBag (data_of (built entries)) (data_received Build inputs)
  pub merged : SameBag (data_of (items_of entries)) (data_received Stream inputs ++ data_received Build inputs)
  -- each entry came when it may, and no data of the stream before every build queue was done
  pub comes : MayAll AnyQueue entries
  pub build_first : BuildFirst entries
  pub waits : all_done Build inputs ≡ false → data_of (streamed entries) ≡ []
  -- where what each queue received is in order, so are the items of the entries
  pub sound : (behind : ℕ → ℕ → Bool) → EachReceived (Sound behind) inputs → Sound behind (items_of entries)
  pub closed : EachReceived ClosedItems inputs → ClosedItems (items_of entries)

-- the processor is in the middle of one of the entries that it is told
pub record IsAmid (amid : List CallEntry → CallEntry → List Item → Type 0) (entries : List CallEntry) (given : List Item) : Type 0 where
  pub taken : List CallEntry
  pub entry : CallEntry
  pub more : List CallEntry
  pub parts : entries ≡ taken ++ entry ∷ more
  pub follows : amid taken entry given

-- the processor has taken all that it is told, and Done was put behind what it gave
pub record IsEnded (bag : List CallEntry → List Item → Type 0) (entries : List CallEntry) (given : List Item) : Type 0 where
  pub front : List Item
  pub parts : given ≡ front ++ item.Done ∷ []
  pub follows : bag entries front

-- in whatever state: the processor was told these entries and has given these items, of all the entries, of a front of them
-- and a part of the next, or of all of them and Done
pub record SoFar (bag : List CallEntry → List Item → Type 0) (amid : List CallEntry → CallEntry → List Item → Type 0) (inputs : List InputView) (entries : List CallEntry) (given : List Item) : Type 0 where
  pub told : IsTold inputs entries
  pub follows : bag entries given ⊎ (IsAmid amid entries given ⊎ IsEnded bag entries given)

-- at the end: every queue is done, the processor has taken all that it was told, the finish last, and each output was given
-- what it gave, in which no Done is, with Done behind
pub record Over (bag : List CallEntry → List Item → Type 0) (inputs : List InputView) (outputs : List OutputView) (taken : List CallEntry) (given : List Item) : Type 0 where
  pub done : (port : Port) → all_done port inputs ≡ true
  pub told : IsTold inputs taken
  pub front : List CallEntry
  pub parts : taken ≡ front ++ Finish ∷ []
  pub follows : bag taken given
  pub open_ended : Each NotDone given
  pub gave : Each (Gave (given ++ item.Done ∷ [])) outputs
