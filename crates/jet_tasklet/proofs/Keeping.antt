-- What a tasklet keeps, step by step.
use Rattle.std.proofs.Common.{◌≡◌, ℕ, ◌<◌, ◌≤◌, Bool, true, false, List, [], ◌∷◌, ◌++◌, length, refl, sym, ◌∙◌, ap, subst, append-nil, append_assoc, arith, length-append, take}
use Rattle.std.specs.Prelude.{Some, None, Result, Ok, Err}
use Rattle.jet_items.specs.declared.item.Item.{Item}
use Rattle.jet_items.specs.declared.item.Item.TheVariants as item
use Rattle.jet_items.specs.declared.no_memory.NoMemory.{NoMemory}
use Rattle.jet_items.proofs.Orders.{Each-append}
use Rattle.jet_boxes.specs.declared.port.Port.{Port}
use Rattle.jet_boxes.specs.declared.port.Port.TheVariants.{Stream, Build}
use Rattle.jet_boxes.specs.Entry.{CallEntry, Given, MarkTold, QueueClosed, Finish, NotFinish, MayCome}
use Rattle.jet_boxes.specs.Calls.{Call, Outcome}
use Rattle.jet_boxes.specs.Held.{BoxView}
use Rattle.jet_tasklet.specs.declared.arrival.Arrival.{Arrival}
use Rattle.jet_tasklet.specs.declared.step.Step.{Step}
use Rattle.jet_tasklet.specs.declared.step.Step.TheVariants as step
use Rattle.jet_tasklet.specs.declared.step.Pending.{Pending}
use Rattle.jet_tasklet.specs.declared.step.Pending.TheVariants as call
use Rattle.jet_tasklet.specs.declared.tasklet.Tasklet.{Tasklet}
use Rattle.jet_tasklet.specs.Trace.{entries}
use Rattle.jet_tasklet.specs.Inputs.{InputView, inputs_view, queue_count, all_done}
use Rattle.jet_tasklet.specs.Outputs.{outputs_view, Giving}
use Rattle.jet_tasklet.specs.Steps.{entry_of, then_of, owed, next_of, finale, Working}
use Rattle.jet_tasklet.specs.Keeps.{Keeps, IsOver, told}
use Rattle.std.specs.declared.vec.Vec.{Vec}
use Rattle.std.specs.declared.alloc.Global.{Global}
use Rattle.jet_coalescer.specs.declared.coalescer.Coalescer.{Coalescer}
use Rattle.jet_tasklet.specs.declared.input.Input.{Input}
use Rattle.jet_tasklet.specs.declared.output.Output.{Output}
use Rattle.jet_coalescer.specs.Low.{HasHeard}
use Rattle.jet_tasklet.specs.Trace.{of_queue, has_ended, asks, heard}
use Rattle.jet_tasklet.specs.Taking.{Took}
use Rattle.jet_tasklet.specs.inner.Noting.{Notes}
use Rattle.std.specs.List.{AllZip}
use Rattle.jet_tasklet.specs.Turned.{OutputGoes}
use Rattle.jet_tasklet.specs.inner.Leaving.{Leaves, IsStopped}
use Rattle.jet_tasklet.specs.Turning.{rank, rank_of, Worked}
use Rattle.jet_tasklet.specs.Keeps.{Came, IsLawful, Stays, Goes, entered}
use mathlib.Core.List.{IsPrefix}
use Rattle.jet_ring.proofs.Lists.{prefix_trans}
use Rattle.jet_tasklet.proofs.Lasting.{prefix_refl}
use Rattle.jet_tasklet.proofs.Pushing.{entries-push}
use Rattle.jet_tasklet.proofs.Coming.{came_push, was_open, within_count, count_stays, heard_count}
use Rattle.jet_tasklet.proofs.Giving.{giving_more}
use Rattle.jet_tasklet.proofs.Owing.{owed_after}
use Rattle.jet_tasklet.proofs.Telling.{unfinished, head_may}

-- what had entered the outbox before more did
entered_more : (gave xs ys : List Item) → IsPrefix xs ys → IsPrefix (gave ++ xs) ((gave ++ []) ++ ys)
entered_more gave xs ys more = (
  more.0,
  append_assoc gave xs more.0 ∙ (ap (λ (w : List Item). gave ++ w) more.1 ∙ ap (λ (w : List Item). w ++ ys) (sym (append-nil gave))),
)

front_none : (xs ys : List Item) → xs ++ ys ≡ ys → xs ≡ []
front_none [] ys e = refl
front_none (x ∷ xs) ys e =
    let count : length (x ∷ (xs ++ ys)) ≡ length ys = ap (λ (w : List Item). length w) e in
    let sum = length-append xs ys in
    absurd (omega (arith, count, sum))

abbrev pub step_after : Result Bool NoMemory → Pending → Step
step_after (Ok true) c = next_of c
step_after (Ok false) c = step.Make c
step_after (Err e) c = step.Make c

pub finale_next : (c : Pending) → finale (next_of c) ≡ finale (step.Make c)
finale_next (call.Accept a) = refl
finale_next (call.Close port q None) = refl
finale_next (call.Close port q (Some t)) = refl
finale_next (call.Tell t) = refl
finale_next call.Finish = refl

pub finale_after : (r : Result Bool NoMemory) (c : Pending) → finale (step_after r c) ≡ finale (step.Make c)
finale_after (Ok true) c = finale_next c
finale_after (Ok false) c = refl
finale_after (Err e) c = refl

over_next : (c : Pending) (vs : List InputView) → IsOver (step.Make c) vs → IsOver (next_of c) vs
over_next (call.Accept a) vs h = tt
over_next (call.Close port q None) vs h = tt
over_next (call.Close port q (Some t)) vs h = tt
over_next (call.Tell t) vs h = tt
over_next call.Finish vs h = h

over_after : (r : Result Bool NoMemory) (c : Pending) (vs : List InputView) → IsOver (step.Make c) vs → IsOver (step_after r c) vs
over_after (Ok true) c vs h = over_next c vs h
over_after (Ok false) c vs h = h
over_after (Err e) c vs h = h

may_stay : (ta tb : Port → ℕ → Type 0) → ((port : Port) (q : ℕ) → ta port q → tb port q) → (taken : List CallEntry) (e : CallEntry) → MayCome ta taken e → MayCome tb taken e
may_stay ta tb f taken (Given port q x) h = (h.0, f port q h.1, h.2, h.3)
may_stay ta tb f taken (MarkTold t) h = h
may_stay ta tb f taken (QueueClosed port q) h = (h.0, f port q h.1, h.2)
may_stay ta tb f taken Finish h = h

module _ {P : Type 0} (stands : P → List CallEntry → List Item → Type 0) (amid : P → List CallEntry → CallEntry → List Item → Type 0) (takes : P → Port → ℕ → Type 0) (begins : (p : P) (taken : List CallEntry) (entry : CallEntry) (given : List Item) → stands p taken given → amid p taken entry given) where
  -- a call that has answered true
  ended : (p : P) (c : Pending) (taken es : List CallEntry) (given : List Item) → es ≡ taken ++ entry_of c ∷ then_of c → MayCome (takes p) taken (entry_of c) → stands p (taken ++ entry_of c ∷ []) given → Working stands amid takes p (next_of c) es given
  ended p (call.Accept a) taken es given is may h = subst (λ (xs : List CallEntry). stands p xs given) (sym is) h
  ended p (call.Close port q None) taken es given is may h = subst (λ (xs : List CallEntry). stands p xs given) (sym is) h
  ended p (call.Close port q (Some t)) taken es given is may h = (
    taken ++ QueueClosed port q ∷ [],
    is ∙ sym (append_assoc taken (QueueClosed port q ∷ []) (MarkTold t ∷ [])),
    begins p (taken ++ QueueClosed port q ∷ []) (MarkTold t) given h,
    Each-append NotFinish taken (QueueClosed port q ∷ []) may.0 (tt, tt),
  )
  ended p (call.Tell t) taken es given is may h = subst (λ (xs : List CallEntry). stands p xs given) (sym is) h
  ended p call.Finish taken es given is may h = subst (λ (xs : List CallEntry). stands p xs given) (sym is) h

  answered : (p : P) (c : Pending) (taken es : List CallEntry) (given : List Item) → es ≡ taken ++ entry_of c ∷ then_of c → MayCome (takes p) taken (entry_of c) → (r : Result Bool NoMemory) → Outcome stands amid p taken (entry_of c) given r → Working stands amid takes p (step_after r c) es given
  answered p c taken es given is may (Ok true) h = ended p c taken es given is may h
  answered p c taken es given is may (Ok false) h = (taken, is, h, may)
  answered p c taken es given is may (Err e) h = (taken, is, h, may)

  -- after a call for what is pending
  pub make_keeps : (same : P → P → Type 0) (frugal : Bool) → ((p q : P) (port : Port) (queue : ℕ) → same p q → takes p port queue → takes q port queue) → (t : Tasklet P) (p : P) (out : BoxView) (c : Pending) (r : Result Bool NoMemory) (came : List Arrival) (gave : List Item) → t.step ≡ step.Make c → Call stands amid same frugal t.processor (entry_of c) t.outbox r p out → Keeps stands amid takes t came gave → Keeps stands amid takes (record { processor = p; inputs = t.inputs; next = t.next; outputs = t.outputs; coalescer = t.coalescer; step = step_after r c; outbox = out }) came gave
  make_keeps same frugal stay t p out c r came gave is did k =
      let n : ℕ = queue_count Stream (inputs_view t.inputs.items) in
      let es : List CallEntry = told (step.Make c) n came in
      let given : List Item = gave ++ t.outbox.items in
      let w : Working stands amid takes t.processor (step.Make c) es given = subst (λ (s : Step). Working stands amid takes t.processor s (told s n came) given) is k.works in
      let puts : given ++ did.put ≡ gave ++ out.items = append_assoc gave t.outbox.items did.put ∙ ap (λ (xs : List Item). gave ++ xs) (sym did.puts) in
      let may : MayCome (takes p) w.0 (entry_of c) = may_stay (takes t.processor) (takes p) (λ port q h. stay t.processor p port q did.settings h) w.0 (entry_of c) w.3 in
      let after : Working stands amid takes p (step_after r c) es (given ++ did.put) = answered p c w.0 es (given ++ did.put) w.1 may r (did.keeps w.0 given w.2) in
      let same_es : es ≡ told (step_after r c) n came = ap (λ (fs : List CallEntry). entries n came ++ fs) (sym (finale_after r c)) in
      record {
        takes_in = k.takes_in;
        gives_out = subst (λ (xs : List Item). Giving gave xs (outputs_view t.outputs.items)) (sym did.puts) (giving_more gave t.outbox.items did.put (outputs_view t.outputs.items) k.gives_out);
        works = subst (λ (xs : List CallEntry). Working stands amid takes p (step_after r c) xs (gave ++ out.items)) same_es (subst (λ (xs : List Item). Working stands amid takes p (step_after r c) es xs) puts after);
        takes_all = λ port q lt. stay t.processor p port q did.settings (k.takes_all port q lt);
        over = over_after r c (inputs_view t.inputs.items) (subst (λ (s : Step). IsOver s (inputs_view t.inputs.items)) is k.over);
        room = subst (λ (m : ℕ). 1 ≤ m) (sym did.room) k.room;
        owed = k.owed;
      }

  -- Done was put
  pub done_keeps : (t : Tasklet P) (out : BoxView) (came : List Arrival) (gave : List Item) → t.step ≡ step.End → out ≡ record { room = t.outbox.room; items = t.outbox.items ++ item.Done ∷ [] } → Keeps stands amid takes t came gave → Keeps stands amid takes (record { processor = t.processor; inputs = t.inputs; next = t.next; outputs = t.outputs; coalescer = t.coalescer; step = step.Ended; outbox = out }) came gave
  done_keeps t out came gave is put k =
      let n : ℕ = queue_count Stream (inputs_view t.inputs.items) in
      let items : out.items ≡ t.outbox.items ++ item.Done ∷ [] = ap (λ (h : BoxView). h.items) put in
      let w : stands t.processor (told step.End n came) (gave ++ t.outbox.items) = subst (λ (s : Step). Working stands amid takes t.processor s (told s n came) (gave ++ t.outbox.items)) is k.works in
      record {
        takes_in = k.takes_in;
        gives_out = subst (λ (xs : List Item). Giving gave xs (outputs_view t.outputs.items)) (sym items) (giving_more gave t.outbox.items (item.Done ∷ []) (outputs_view t.outputs.items) k.gives_out);
        works = (gave ++ t.outbox.items, ap (λ (xs : List Item). gave ++ xs) items ∙ sym (append_assoc gave t.outbox.items (item.Done ∷ [])), w);
        takes_all = k.takes_all;
        over = subst (λ (s : Step). IsOver s (inputs_view t.inputs.items)) is k.over;
        room = subst (λ (m : ℕ). 1 ≤ m) (sym (ap (λ (h : BoxView). h.room) put)) k.room;
        owed = k.owed;
      }

  -- nothing is left to take
  pub finish_keeps : (t : Tasklet P) (came : List Arrival) (gave : List Item) → t.step ≡ step.Poll → ((port : Port) → all_done port (inputs_view t.inputs.items) ≡ true) → Keeps stands amid takes t came gave → Keeps stands amid takes (record { processor = t.processor; inputs = t.inputs; next = t.next; outputs = t.outputs; coalescer = t.coalescer; step = step.Make call.Finish; outbox = t.outbox }) came gave
  finish_keeps t came gave is done k =
      let n : ℕ = queue_count Stream (inputs_view t.inputs.items) in
      let given : List Item = gave ++ t.outbox.items in
      let w : stands t.processor (told step.Poll n came) given = subst (λ (s : Step). Working stands amid takes t.processor s (told s n came) given) is k.works in
      let stood : stands t.processor (entries n came) given = subst (λ (es : List CallEntry). stands t.processor es given) (append-nil (entries n came)) w in
      record {
        takes_in = k.takes_in;
        gives_out = k.gives_out;
        works = (entries n came, refl, begins t.processor (entries n came) Finish given stood, unfinished n came);
        takes_all = k.takes_all;
        over = done;
        room = k.room;
        owed = k.owed;
      }

  -- items left the outbox
  pub give_keeps : (t : Tasklet P) (outs : Vec Output Global) (out : BoxView) (came : List Arrival) (gave : List Item) → Leaves t.outbox.items (outputs_view t.outputs.items) out.items (outputs_view outs.items) → out.room ≡ t.outbox.room → AllZip OutputGoes (outputs_view t.outputs.items) (outputs_view outs.items) → IsStopped out.items (outputs_view outs.items) → Keeps stands amid takes t came gave → (more : List Item) × (t.outbox.items ≡ more ++ out.items) × Keeps stands amid takes (record { processor = t.processor; inputs = t.inputs; next = t.next; outputs = outs; coalescer = t.coalescer; step = t.step; outbox = out }) came (gave ++ more)
  give_keeps t outs out came gave leaves room goes stops k =
      let l = leaves gave k.gives_out in
      let es : List CallEntry = told t.step (queue_count Stream (inputs_view t.inputs.items)) came in
      let same : gave ++ t.outbox.items ≡ (gave ++ l.0) ++ out.items = ap (λ (xs : List Item). gave ++ xs) l.1 ∙ sym (append_assoc gave l.0 out.items) in (
        l.0,
        l.1,
        record {
          takes_in = k.takes_in;
          gives_out = l.2;
          works = subst (λ (xs : List Item). Working stands amid takes t.processor t.step es xs) same k.works;
          takes_all = k.takes_all;
          over = k.over;
          room = subst (λ (m : ℕ). 1 ≤ m) (sym room) k.room;
          owed = owed_after (outputs_view t.outputs.items) (outputs_view outs.items) (gave ++ l.0) out.items k.owed goes stops l.2;
        },
      )

  -- the inputs look as before
  pub same_keeps : (t : Tasklet P) (ins : Vec Input Global) (came : List Arrival) (gave : List Item) → inputs_view ins.items ≡ inputs_view t.inputs.items → Keeps stands amid takes t came gave → Keeps stands amid takes (record { processor = t.processor; inputs = ins; next = t.next; outputs = t.outputs; coalescer = t.coalescer; step = t.step; outbox = t.outbox }) came gave
  same_keeps t ins came gave same k = record {
    takes_in = subst (λ (vs : List InputView). Came vs t.coalescer came) (sym same) k.takes_in;
    gives_out = k.gives_out;
    works = subst (λ (vs : List InputView). Working stands amid takes t.processor t.step (told t.step (queue_count Stream vs) came) (gave ++ t.outbox.items)) (sym same) k.works;
    takes_all = subst (λ (vs : List InputView). (port : Port) (q : ℕ) → q < queue_count port vs → takes t.processor port q) (sym same) k.takes_all;
    over = subst (λ (vs : List InputView). IsOver t.step vs) (sym same) k.over;
    room = k.room;
    owed = k.owed;
  }

  -- what an item asks is owed next
  pub working_next : (p : P) (n : ℕ) (came : List Arrival) (a : Arrival) (next : Step) (given : List Item) → owed next ≡ asks n came a → finale next ≡ [] → stands p (entries n came) given → takes p a.port a.queue → has_ended (of_queue a.port a.queue came) ≡ false → Working stands amid takes p next (told next n (came ++ a ∷ [])) given
  working_next p n came a step.Poll given asked goes h may still =
      let es : entries n (came ++ a ∷ []) ++ [] ≡ entries n came = append-nil (entries n (came ++ a ∷ [])) ∙ (entries-push n came a ∙ (ap (λ (xs : List CallEntry). entries n came ++ xs) (sym asked) ∙ append-nil (entries n came))) in
      subst (λ (xs : List CallEntry). stands p xs given) (sym es) h
  working_next p n came a (step.Make c) given asked goes h may still =
      let es : entries n (came ++ a ∷ []) ++ finale (step.Make c) ≡ entries n came ++ entry_of c ∷ then_of c =
      ap (λ (xs : List CallEntry). entries n (came ++ a ∷ []) ++ xs) goes ∙ (append-nil (entries n (came ++ a ∷ [])) ∙ (entries-push n came a ∙ ap (λ (xs : List CallEntry). entries n came ++ xs) (sym asked))) in
      (entries n came, es, begins p (entries n came) (entry_of c) given h, head_may (takes p) n came a (entry_of c) (then_of c) may still asked)
  working_next p n came a step.End given asked goes h may still = absurd (cc)
  working_next p n came a step.Ended given asked goes h may still = absurd (cc)

  over_going : (next : Step) (vs : List InputView) → finale next ≡ [] → IsOver next vs
  over_going step.Poll vs h = tt
  over_going (step.Make (call.Accept a)) vs h = tt
  over_going (step.Make (call.Close port q then)) vs h = tt
  over_going (step.Make (call.Tell t)) vs h = tt
  over_going (step.Make call.Finish) vs h = absurd (cc)
  over_going step.End vs h = absurd (cc)
  over_going step.Ended vs h = absurd (cc)

  -- an item was taken
  pub take_keeps : (t : Tasklet P) (ins : Vec Input Global) (a : Arrival) (co : Coalescer) (next : Step) (came : List Arrival) (gave : List Item) → t.step ≡ step.Poll → Took (inputs_view t.inputs.items) (inputs_view ins.items) a.port a → (a.port ≡ Stream → all_done Build (inputs_view t.inputs.items) ≡ true) → (a.port ≡ Build → all_done Build (inputs_view t.inputs.items) ≡ false) → Notes t.coalescer co a next → Keeps stands amid takes t came gave → Keeps stands amid takes (record { processor = t.processor; inputs = ins; next = t.next; outputs = t.outputs; coalescer = co; step = next; outbox = t.outbox }) (came ++ a ∷ []) gave
  take_keeps t ins a co next came gave is took builds opens note k =
      let vs : List InputView = inputs_view t.inputs.items in
      let ws : List InputView = inputs_view ins.items in
      let n : ℕ = queue_count Stream vs in
      let given : List Item = gave ++ t.outbox.items in
      let w : stands t.processor (told step.Poll n came) given = subst (λ (s : Step). Working stands amid takes t.processor s (told s n came) given) is k.works in
      let stood : stands t.processor (entries n came) given = subst (λ (es : List CallEntry). stands t.processor es given) (append-nil (entries n came)) w in
      let still : has_ended (of_queue a.port a.queue came) ≡ false = was_open vs ws a took t.coalescer came k.takes_in in
      let counts : queue_count Stream ws ≡ n = count_stays vs ws a took Stream in
      let count : length t.coalescer.queues ≡ n = heard_count vs ws a took t.coalescer came k.takes_in in
      let asked : owed next ≡ asks n came a = subst (λ (m : ℕ). owed next ≡ asks m came a) count (note.asked came (subst (λ (m : ℕ). HasHeard t.coalescer (heard m came)) (sym count) k.takes_in.heard_is)) in
      let may : takes t.processor a.port a.queue = k.takes_all a.port a.queue (within_count vs ws a took) in
      record {
        takes_in = came_push vs ws a took t.coalescer came k.takes_in builds opens co next note;
        gives_out = k.gives_out;
        works = subst (λ (m : ℕ). Working stands amid takes t.processor next (told next m (came ++ a ∷ [])) given) (sym counts) (working_next t.processor n came a next given asked note.goes_on stood may still);
        takes_all = λ port q lt. k.takes_all port q (subst (λ (m : ℕ). q < m) (count_stays vs ws a took port) lt);
        over = over_going next ws note.goes_on;
        room = k.room;
        owed = k.owed;
      }

module _ {P : Type 0} (stands : P → List CallEntry → List Item → Type 0) (amid : P → List CallEntry → CallEntry → List Item → Type 0) (takes : P → Port → ℕ → Type 0) where
  pub stays_refl : (a : Tasklet P) → Stays stands amid takes a a
  stays_refl a = record { stays = λ came gave k. k }

  pub stays_trans : (a b d : Tasklet P) → Stays stands amid takes a b → Stays stands amid takes b d → Stays stands amid takes a d
  stays_trans a b d f h = record { stays = λ came gave k. h.stays came gave (f.stays came gave k) }

  -- items entered the outbox
  pub goes_stays : (a b : Tasklet P) → Stays stands amid takes a b → IsPrefix a.outbox.items b.outbox.items → Goes stands amid takes a b
  goes_stays a b f more = record { goes = λ came gave k. ([], [], rw (append-nil, append-nil) (f.stays came gave k), entered_more gave a.outbox.items b.outbox.items more) }

  pub worked_goes : (a b : Tasklet P) → Stays stands amid takes a b → Worked a b → Goes stands amid takes a b
  worked_goes a b f w = goes_stays a b f (w.puts.0, sym w.puts.1)

  pub goes_refl : (a : Tasklet P) → Goes stands amid takes a a
  goes_refl a = goes_stays a a (stays_refl a) (prefix_refl a.outbox.items)

  -- the outbox is as it was
  pub goes_same : (a b : Tasklet P) → Stays stands amid takes a b → b.outbox ≡ a.outbox → Goes stands amid takes a b
  goes_same a b f same = goes_stays a b f (subst (λ (h : BoxView). IsPrefix a.outbox.items h.items) (sym same) (prefix_refl a.outbox.items))

  pub goes_came : (a b : Tasklet P) (more : List Arrival) → b.outbox ≡ a.outbox → ((came : List Arrival) (gave : List Item) → Keeps stands amid takes a came gave → Keeps stands amid takes b (came ++ more) gave) → Goes stands amid takes a b
  goes_came a b more same f = record {
    goes = λ came gave k. (
      more,
      [],
      subst (λ (xs : List Item). Keeps stands amid takes b (came ++ more) xs) (sym (append-nil gave)) (f came gave k),
      entered_more gave a.outbox.items b.outbox.items (subst (λ (h : BoxView). IsPrefix a.outbox.items h.items) (sym same) (prefix_refl a.outbox.items)),
    );
  }

  pub goes_gave : (a b : Tasklet P) → ((came : List Arrival) (gave : List Item) → Keeps stands amid takes a came gave → (given : List Item) × (a.outbox.items ≡ given ++ b.outbox.items) × Keeps stands amid takes b came (gave ++ given)) → Goes stands amid takes a b
  goes_gave a b f = record {
    goes = λ came gave k.
        let r = f came gave k in (
          [],
          r.0,
          subst (λ (xs : List Arrival). Keeps stands amid takes b xs (gave ++ r.0)) (sym (append-nil came)) r.2,
          ([], append-nil (gave ++ a.outbox.items) ∙ (ap (λ (xs : List Item). gave ++ xs) r.1 ∙ sym (append_assoc gave r.0 b.outbox.items))),
        );
  }

  -- where the outbox is as it was, nothing was given
  pub gave_none : (a b : Tasklet P) → ((came : List Arrival) (gave : List Item) → Keeps stands amid takes a came gave → (given : List Item) × (a.outbox.items ≡ given ++ b.outbox.items) × Keeps stands amid takes b came (gave ++ given)) → b.outbox.items ≡ a.outbox.items → Stays stands amid takes a b
  gave_none a b f same = record {
    stays = λ came gave k.
        let r = f came gave k in
        let none : r.0 ≡ [] = front_none r.0 b.outbox.items (sym r.1 ∙ sym same) in
        subst (λ (xs : List Item). Keeps stands amid takes b came xs) (ap (λ (xs : List Item). gave ++ xs) none ∙ append-nil gave) r.2;
  }

  pub goes_trans : (a b d : Tasklet P) → Goes stands amid takes a b → Goes stands amid takes b d → Goes stands amid takes a d
  goes_trans a b d f h = record {
    goes = λ came gave k.
        let one = f.goes came gave k in
        let two = h.goes (came ++ one.0) (gave ++ one.1) one.2 in
        let given : (gave ++ one.1) ++ two.1 ≡ gave ++ (one.1 ++ two.1) = append_assoc gave one.1 two.1 in (
          one.0 ++ two.0,
          one.1 ++ two.1,
          subst (λ (xs : List Arrival). Keeps stands amid takes d xs (gave ++ (one.1 ++ two.1))) (append_assoc came one.0 two.0) (subst (λ (xs : List Item). Keeps stands amid takes d ((came ++ one.0) ++ two.0) xs) given two.2),
          subst (λ (xs : List Item). IsPrefix (entered gave a) (entered xs d)) given (prefix_trans (entered gave a) (entered (gave ++ one.1) b) (entered ((gave ++ one.1) ++ two.1) d) one.3 two.3),
        );
  }

  pub lawful_goes : (a b : Tasklet P) → IsLawful stands amid takes a → Goes stands amid takes a b → IsLawful stands amid takes b
  lawful_goes a b l f =
      let r = f.goes l.came l.gave l.keeps in
      record { came = l.came ++ r.0; gave = l.gave ++ r.1; keeps = r.2 }

  pub lawful_stays : (a b : Tasklet P) → IsLawful stands amid takes a → Stays stands amid takes a b → IsLawful stands amid takes b
  lawful_stays a b l f = record { came = l.came; gave = l.gave; keeps = f.stays l.came l.gave l.keeps }

take_front : {X : Type 0} (xs ys : List X) → take (length xs) (xs ++ ys) ≡ xs
take_front [] ys = refl
take_front {X} (x ∷ xs) ys = ap (λ (zs : List X). x ∷ zs) (take_front xs ys)

-- the items of a vector that was lent as a slice
pub items_back : {X : Type 0} (n : ℕ) (xs ys : List X) → length xs ≡ n → take n (xs ++ ys) ≡ xs
items_back {X} n xs ys is = subst (λ (m : ℕ). take m (xs ++ ys) ≡ xs) is (take_front xs ys)

next_rank : (c : Pending) → rank (next_of c) < rank_of c
next_rank (call.Accept a) = omega arith
next_rank (call.Close port q None) = omega arith
next_rank (call.Close port q (Some t)) = omega arith
next_rank (call.Tell t) = omega arith
next_rank call.Finish = omega arith

pub next_smaller : (c : Pending) (before after : Step) → before ≡ step.Make c → after ≡ next_of c → rank after < rank before
next_smaller c before after is next = subst (λ (s : Step). rank after < rank s) (sym is) (subst (λ (s : Step). rank s < rank_of c) (sym next) (next_rank c))
