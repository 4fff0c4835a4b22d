-- Items that stand at a spot of the inputs, and how one is handed over.
use Rattle.std.proofs.Common.{◌≡◌, ℕ, ◌<◌, Bool, true, false, List, [], ◌∷◌, ◌++◌, length, get_or, set, refl, sym, ◌∙◌, ap, subst, arith, append-nil}
use Rattle.std.specs.Prelude.{Option, Some, None, IfSome, IfNone, Result, Ok, Err, OnErr, sum_by}
use Rattle.std.specs.List.{AllZip}
use Rattle.std.specs.declared.vec.Vec.{Vec}
use Rattle.std.specs.declared.alloc.Global.{Global}
use mathlib.Core.List.{IsPrefix}
use Rattle.jet_items.specs.declared.item.Item.{Item}
use Rattle.jet_items.specs.declared.no_memory.NoMemory.{NoMemory}
use Rattle.jet_boxes.specs.declared.port.Port.{Port}
use Rattle.jet_boxes.specs.declared.port.Port.TheVariants.{Stream, Build}
use Rattle.jet_boxes.specs.Entry.{CallEntry, Given, IsData}
use Rattle.jet_boxes.specs.Calls.{Call, MayCall}
use Rattle.jet_boxes.specs.Held.{BoxView}
use Rattle.jet_conveyor.specs.Conveyor as conveyor
use Rattle.jet_tasklet.specs.declared.arrival.Arrival.{Arrival}
use Rattle.jet_tasklet.specs.declared.input.Input.{Input}
use Rattle.jet_tasklet.specs.declared.inputs.Spot.{Spot}
use Rattle.jet_tasklet.specs.declared.step.Step.{Step}
use Rattle.jet_tasklet.specs.declared.step.Step.TheVariants as step
use Rattle.jet_tasklet.specs.declared.step.Pending.TheVariants as call
use Rattle.jet_tasklet.specs.declared.tasklet.Tasklet.{Tasklet}
use Rattle.jet_tasklet.specs.Inputs.{InputView, inputs_view, queue_count, all_done, received_count}
use Rattle.jet_tasklet.specs.Keeps.{Keeps, IsLawful, Stays, Goes, told}
use Rattle.jet_tasklet.specs.Steps.{Working, owed}
use Rattle.jet_tasklet.specs.Taking.{OpenQueue, Stands, IsNext, Looked, Took, TookAt, NoneToTake, arrival_of}
use Rattle.jet_tasklet.specs.Turned.{InputGoes, OutputGoes, Turned}
use Rattle.jet_tasklet.specs.Outputs.{outputs_view}
use Rattle.jet_tasklet.specs.declared.output.Output.{Output}
use Rattle.jet_tasklet.specs.declared.step.Pending.{Pending}
use Rattle.jet_tasklet.specs.Trace.{same_port, entries, heard, asks}
use Rattle.jet_coalescer.specs.Low.{HasHeard}
use Rattle.jet_tasklet.proofs.Coming.{open_count, open_yet, heard_all}
use Rattle.jet_tasklet.proofs.Heard.{note_data}
use Rattle.jet_tasklet.proofs.Keeping.{working_next, take_keeps, make_keeps, step_after, goes_came, goes_stays, goes_trans}
use Rattle.jet_tasklet.proofs.Lasting.{input_stays, output_stays, zip_refl, zip_set, prefix_refl}
use Rattle.jet_tasklet.proofs.Meeting.{IsAlike, refreshed_alike, done_alike}
use Rattle.jet_tasklet.proofs.Popped.{sum_put}
use Rattle.jet_tasklet.proofs.Ports.{get_same}

some_first : (xs : List Item) → 0 < length xs → (x : Item) × IsPrefix (x ∷ []) xs
some_first [] lt = absurd (omega (arith, lt))
some_first (x ∷ xs) lt = (x, (xs, refl))

-- a queue that was found has a first item
pub found_first : (a b : conveyor.View) (q : ℕ) → conveyor.Found a b q → (x : Item) × IsPrefix (x ∷ []) (conveyor.known_at b q)
found_first a b q f = some_first (conveyor.known_at b q) f.item.some

first_some : (x : Item) (xs : List Item) → IsPrefix (x ∷ []) xs → 0 < length xs
first_some x [] p = absurd (cc (p.1))
first_some x (y ∷ xs) p = omega arith

one_first : (x y : Item) (xs : List Item) → IsPrefix (x ∷ []) xs → IsPrefix (y ∷ []) xs → x ≡ y
one_first x y xs f g = cc (f.1, g.1)

-- the queue of a spot may be looked at
pub spot_item : (vs : List InputView) (s : Spot) (x : Item) (h : Stands vs s x) → conveyor.HasItem h.was.queues s.within
spot_item vs s x h = record { is_open = h.is_open; some = first_some x (conveyor.known_at h.was.queues s.within) h.first }

-- one item stands at a spot
pub one_stands : (vs : List InputView) (s : Spot) (x y : Item) → Stands vs s x → Stands vs s y → x ≡ y
one_stands vs s x y h k =
    let same : h.was ≡ k.was = h.at ∙ (get_same vs s.place h.was k.was h.inside ∙ sym k.at) in
    let there : IsPrefix (x ∷ []) (conveyor.known_at k.was.queues s.within) = subst (λ (v : InputView). IsPrefix (x ∷ []) (conveyor.known_at v.queues s.within)) same h.first in
    one_first x y (conveyor.known_at k.was.queues s.within) there k.first

-- it stands there in whichever view of the input
abbrev pub stands_in : (vs : List InputView) (s : Spot) (x : Item) → Stands vs s x → (v : InputView) → v ≡ get_or vs s.place v → Stands vs s x
stands_in vs s x h v is =
    let same : h.was ≡ v = h.at ∙ (get_same vs s.place h.was v h.inside ∙ sym is) in record {
      was = v;
      inside = h.inside;
      at = is;
      to_port = subst (λ (u : InputView). same_port u.port s.port ≡ true) same h.to_port;
      queue_is = h.queue_is;
      is_queue = subst (λ (u : InputView). s.within < length u.queues.rings) same h.is_queue;
      is_open = subst (λ (u : InputView). conveyor.is_done_at u.queues s.within ≡ false) same h.is_open;
      first = subst (λ (u : InputView). IsPrefix (x ∷ []) (conveyor.known_at u.queues s.within)) same h.first;
    }

stands_open : (vs : List InputView) (s : Spot) (x : Item) → Stands vs s x → OpenQueue vs s.port s.queue
stands_open vs s x h = record {
  place = s.place;
  within = s.within;
  was = h.was;
  inside = h.inside;
  at = h.at;
  to_port = h.to_port;
  queue_is = h.queue_is;
  is_queue = h.is_queue;
  is_open = h.is_open;
}

-- ---- a look
module _ (vs ws : List InputView) (l : Looked vs ws) where
  abbrev next : InputView
  next = record { port = l.was.port; queues = l.now }

  pub looked_alike : IsAlike vs ws
  looked_alike =
      let here : conveyor.Refreshed (let v = get_or vs l.place l.was in v.queues) l.now l.within = subst (λ (v : InputView). conveyor.Refreshed v.queues l.now l.within) l.at l.same in
      subst (IsAlike vs) (sym l.after_is) (refreshed_alike vs l.place l.was next l.within (ap (λ (v : InputView). v.port) l.at) here)

  pub looked_goes : AllZip InputGoes vs ws
  looked_goes =
      let one : InputGoes l.was next = record {
        port = refl;
        rings = l.same.rings;
        received = λ q. subst (λ (w : List Item). IsPrefix (conveyor.received_at l.was.queues q) w) (ap (λ (rs : List (List Item)). get_or rs q []) (sym l.same.received)) (prefix_refl (conveyor.received_at l.was.queues q));
        still_known = l.seen;
      } in
      subst (λ (us : List InputView). AllZip InputGoes vs us) (sym l.after_is) (zip_set InputGoes input_stays vs l.place l.was next l.inside (subst (λ (v : InputView). InputGoes v next) l.at one))

  pub looked_count : received_count ws ≡ received_count vs
  looked_count =
      let of : InputView → ℕ = λ i. sum_by (λ (xs : List Item). length xs) i.queues.received in
      let put = sum_put of vs l.place next l.was l.inside in
      let there : of (get_or vs l.place l.was) ≡ of l.was = ap of (sym l.at) in
      let same : of next ≡ of l.was = ap (λ (rs : List (List Item)). sum_by (λ (xs : List Item). length xs) rs) l.same.received in
      let whole : received_count ws ≡ received_count (set vs l.place next) = ap received_count l.after_is in
      omega (arith, put, there, same, whole)

-- a look through all inputs, whatever it found
pub found_alike : (r : Option Spot) (vs ws : List InputView) → IfSome r (λ s. Looked vs ws) → IfNone r (ws ≡ vs) → IsAlike vs ws
found_alike (Some s) vs ws l n = looked_alike vs ws l
found_alike None vs ws l n = let P : List InputView → Type 0 = λ us. IsAlike vs us in subst P (sym n) (record { rings_same = λ port. refl; received_same = λ port. refl; dones_same = λ port. refl; even = λ h. h })

pub found_goes : (r : Option Spot) (vs ws : List InputView) → IfSome r (λ s. Looked vs ws) → IfNone r (ws ≡ vs) → AllZip InputGoes vs ws
found_goes (Some s) vs ws l n = looked_goes vs ws l
found_goes None vs ws l n = subst (λ (us : List InputView). AllZip InputGoes vs us) (sym n) (zip_refl InputGoes input_stays vs)

pub found_count : (r : Option Spot) (vs ws : List InputView) → IfSome r (λ s. Looked vs ws) → IfNone r (ws ≡ vs) → received_count ws ≡ received_count vs
found_count (Some s) vs ws l n = looked_count vs ws l
found_count None vs ws l n = ap received_count n

-- what it found may come next
pub found_next : (r : Option Spot) (vs ws : List InputView) → IsAlike vs ws → IfSome r (λ s. (x : Item) × Stands ws s x) → IfSome r (λ s. s.port ≡ Stream → all_done Build vs ≡ true) → IfSome r (λ s. s.port ≡ Build → all_done Build vs ≡ false) → IfSome r (λ s. IsNext ws s)
found_next (Some s) vs ws a st b o = record { stands = st; builds = λ e. done_alike vs ws a Build ∙ b e; opens = λ e. done_alike vs ws a Build ∙ o e }
found_next None vs ws a st b o = tt

pub found_none : (r : Option Spot) (vs ws : List InputView) → IfNone r (ws ≡ vs) → IfNone r (NoneToTake vs) → IfNone r ((ws ≡ vs) × NoneToTake ws)
found_none (Some s) vs ws n h = tt
found_none None vs ws n h = (n, subst NoneToTake (sym n) h)

-- inputs that were lent
pub took_lent : (xs ys zs ws : List Input) (s : Spot) (x : Item) → ys ≡ xs → ws ≡ zs → TookAt (inputs_view ys) (inputs_view zs) s x → TookAt (inputs_view xs) (inputs_view ws) s x
took_lent xs ys zs ws s x e f t =
    subst (λ (us : List Input). TookAt (inputs_view us) (inputs_view ws) s x) e (subst (λ (us : List Input). TookAt (inputs_view ys) (inputs_view us) s x) (sym f) t)

-- a call that has not ended is kept
pub step_kept : (r : Result Bool NoMemory) (c : Pending) → (r ≡ Ok true → ⊥) → step_after r c ≡ step.Make c
step_kept (Ok true) c h = absurd (h refl)
step_kept (Ok false) c h = refl
step_kept (Err e) c h = refl

-- what is said of want of memory, where it holds anyway or there was none
pub said_anyway : (r : Result Bool NoMemory) (W : Type 0) → W → OnErr r W
said_anyway (Ok b) W w = tt
said_anyway (Err e) W w = w

pub said_of_none : (r : Result Bool NoMemory) (W : Type 0) → r ≡ Ok true → OnErr r W
said_of_none (Ok b) W e = tt
said_of_none (Err n) W e = absurd (cc)

pub turned_so : {P : Type 0} (same : P → P → Type 0) (a b : Tasklet P) → same a.processor b.processor → b.outbox.room ≡ a.outbox.room → AllZip InputGoes (inputs_view a.inputs.items) (inputs_view b.inputs.items) → b.outputs ≡ a.outputs → Turned same a b
turned_so same a b settings room ins outs = record {
  settings = settings;
  room = room;
  inputs = ins;
  outputs = subst (λ (v : Vec Output Global). AllZip OutputGoes (outputs_view a.outputs.items) (outputs_view v.items)) (sym outs) (zip_refl OutputGoes output_stays (outputs_view a.outputs.items));
}

-- ---- data at a spot
module _ {P : Type 0} (stands : P → List CallEntry → List Item → Type 0) (amid : P → List CallEntry → CallEntry → List Item → Type 0) (takes : P → Port → ℕ → Type 0) (begins : (p : P) (taken : List CallEntry) (entry : CallEntry) (given : List Item) → stands p taken given → amid p taken entry given) where
  -- it may be handed to the processor
  pub may_hand : (t : Tasklet P) (s : Spot) (x : Item) → t.step ≡ step.Poll → IsLawful stands amid takes t → Stands (inputs_view t.inputs.items) s x → IsData x → MayCall amid (takes t.processor) t.processor (Given s.port s.queue x)
  may_hand t s x free lawful here is_data =
      let vs : List InputView = inputs_view t.inputs.items in
      let n : ℕ = queue_count Stream vs in
      let came : List Arrival = lawful.came in
      let k = lawful.keeps in
      let given : List Item = lawful.gave ++ t.outbox.items in
      let a : Arrival = arrival_of s x in
      let opened = stands_open vs s x here in
      let w : stands t.processor (told step.Poll n came) given = subst (λ (f : Step). Working stands amid takes t.processor f (told f n came) given) free k.works in
      let stood : stands t.processor (entries n came) given = subst (λ (es : List CallEntry). stands t.processor es given) (append-nil (entries n came)) w in
      let note = note_data t.coalescer a is_data in
      let count : length t.coalescer.queues ≡ n = heard_all vs t.coalescer came k.takes_in in
      let asked : owed (step.Make (call.Accept a)) ≡ asks n came a = subst (λ (m : ℕ). owed (step.Make (call.Accept a)) ≡ asks m came a) count (note.asked came (subst (λ (m : ℕ). HasHeard t.coalescer (heard m came)) (sym count) k.takes_in.heard_is)) in
      let may : takes t.processor s.port s.queue = k.takes_all s.port s.queue (open_count vs s.port s.queue opened) in
      let next = working_next stands amid takes begins t.processor n came a (step.Make (call.Accept a)) given asked note.goes_on stood may (open_yet vs s.port s.queue opened t.coalescer came k.takes_in) in
      (next.0, given, next.2, next.3)

  -- and then it was taken, and the call has ended or is kept
  pub hand_goes : (same : P → P → Type 0) (frugal : Bool) → ((p q : P) (port : Port) (queue : ℕ) → same p q → takes p port queue → takes q port queue) → (t : Tasklet P) (ins : Vec Input Global) (a : Arrival) (p : P) (out : BoxView) (r : Result Bool NoMemory) (s : Step) → t.step ≡ step.Poll → Took (inputs_view t.inputs.items) (inputs_view ins.items) a.port a → (a.port ≡ Stream → all_done Build (inputs_view t.inputs.items) ≡ true) → (a.port ≡ Build → all_done Build (inputs_view t.inputs.items) ≡ false) → IsData a.item → Call stands amid same frugal t.processor (Given a.port a.queue a.item) t.outbox r p out → s ≡ step_after r (call.Accept a) → Goes stands amid takes t (record { processor = p; inputs = ins; next = t.next; outputs = t.outputs; coalescer = t.coalescer; step = s; outbox = out })
  hand_goes same frugal stay t ins a p out r s free took builds opens is_data did next =
      let mid : Tasklet P = record { processor = t.processor; inputs = ins; next = t.next; outputs = t.outputs; coalescer = t.coalescer; step = step.Make (call.Accept a); outbox = t.outbox } in
      let end : Tasklet P = record { processor = p; inputs = ins; next = t.next; outputs = t.outputs; coalescer = t.coalescer; step = s; outbox = out } in
      let first : Goes stands amid takes t mid = goes_came stands amid takes t mid (a ∷ []) refl (λ came gave k. take_keeps stands amid takes begins t ins a t.coalescer (step.Make (call.Accept a)) came gave free took builds opens (note_data t.coalescer a is_data) k) in
      let second : Stays stands amid takes mid end = record {
        stays = λ came gave k. subst (λ (f : Step). Keeps stands amid takes (record { processor = p; inputs = ins; next = t.next; outputs = t.outputs; coalescer = t.coalescer; step = f; outbox = out }) came gave) (sym next) (make_keeps stands amid takes begins same frugal stay mid p out (call.Accept a) r came gave refl did k);
      } in
      goes_trans stands amid takes t mid end first (goes_stays stands amid takes mid end second (did.put, sym did.puts))
