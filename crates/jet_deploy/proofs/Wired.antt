-- That tasklets made over the fresh rings of a layout are wired.
use Rattle.std.proofs.Common.{arith, ◌≡◌, ◌≢◌, ◌∙◌, ◌+◌, ◌<◌, ◌^◌, ◌++◌, ◌⊎◌, inl, inr, ℕ, zero, suc, Bool, true, false, ℤ, List, [], ◌∷◌, Option, None, Some, map, length, ap, refl, sym, subst}
use Rattle.std.specs.Prelude.{option_map, slice_get, get_or, bytes_eq, count_by, take}
use Rattle.std.specs.Option.{option_map_or}
use Rattle.std.specs.List.{Contains, All, AllPairs}
use Rattle.std.proofs.lemmas.Option.{slice_get-map, slice_get_within, get_or_from_slice_get, slice_get-get_or, same_Some}
use Rattle.std.proofs.lemmas.List.Sums.{length-filter, count_by-le-length}
use Rattle.std.proofs.Math.Seq.{take-length}
use Rattle.std.proofs.lemmas.List.{length-map}
use Rattle.jet_boxes.specs.declared.port.Port.{Port as BoxPort}
use Rattle.jet_conveyor.specs.Conveyor as conveyor
use Rattle.jet_engine.specs.declared.places.DestAt.{DestAt}
use Rattle.jet_engine.specs.declared.places.QueueAt.{QueueAt}
use Rattle.jet_engine.specs.declared.places.Junction.{Junction}
use Rattle.jet_engine.specs.declared.places.LinkAt.{LinkAt}
use Rattle.jet_engine.specs.declared.wiring.Wiring.{Wiring}
use Rattle.jet_engine.specs.Ends.{HasDestAt, HasQueueAt, IsJoined, IsFed, IsDrained}
use Rattle.jet_engine.specs.Links.{AreLinked, AreLinksApart}
use Rattle.jet_engine.specs.Looking.{AreApart}
use Rattle.jet_engine.specs.Wiring.{AreFed, AreDrained, IsWired}
use Rattle.jet_harness.specs.declared.channel.Channel.{Channel}
use Rattle.jet_harness.specs.declared.channel.Giver.{Giver}
use Rattle.jet_harness.specs.declared.channel.Giver.TheVariants.{Output, File}
use Rattle.jet_harness.specs.declared.harness.Harness.{Harness}
use Rattle.jet_harness.specs.Channels.{channels, wire_channel, file_channel, same_taker}
use Rattle.jet_harness.specs.Harness.{txs_of, rxs_of, fresh_tx, fresh_rx}
use Rattle.jet_harness.specs.Places.{IsPlaced, IsOneAtGiver, IsOneAtTaker, place_at_giver, place_at_taker}
use Rattle.jet_items.specs.declared.item.Item.{Item}
use Rattle.jet_layout.specs.declared.joint.Joint.{Joint}
use Rattle.jet_layout.specs.declared.layout.Layout.{Layout}
use Rattle.jet_layout.specs.declared.task.Instance.{Instance}
use Rattle.jet_layout.specs.declared.task.Link.{Link}
use Rattle.jet_layout.specs.declared.task.Task.{Task}
use Rattle.jet_layout.specs.declared.task.Task.TheVariants.{Run, Send, Receive}
use Rattle.jet_layout.specs.declared.wire.Port.{Port}
use Rattle.jet_layout.specs.declared.wire.Taker.{Taker}
use Rattle.jet_layout.specs.declared.wire.Taker.TheVariants.{Input, Sink}
use Rattle.jet_layout.specs.declared.wire.Wire.{Wire}
use Rattle.jet_layout.specs.Layouts.{IsLayout}
use Rattle.jet_layout.specs.Ports.{edges_to, vertex_inputs, outputs_of, inputs_of, HasOutput, HasInput, HasPorts, joints_out}
use Rattle.jet_plan.specs.declared.dag.Dag.{Dag}
use Rattle.jet_plan.specs.declared.settings.Settings.{Settings}
use Rattle.jet_plan.specs.declared.vertex.Vertex.{Vertex}
use Rattle.jet_plan.specs.Ends.{edges_from}
use Rattle.jet_plan.specs.Graph.{edges_into}
use Rattle.jet_plan.specs.Kinds.{reads_files}
use Rattle.jet_ring.specs.Ring.{Ring, TxView, RxView, rx_view, rx_ring, received, known_items}
use Rattle.jet_ring.specs.declared.ends.Rx.{Rx}
use Rattle.jet_tasklet.specs.declared.any.AnyTasklet.{AnyTasklet}
use Rattle.jet_tasklet.specs.Meeting.{HasEnd, IsQueue, HasQueue}
use Rattle.jet_tasklet.specs.Views.{ins, outs}
use Rattle.jet_deploy.specs.Ends.{input_at, output_at}
use Rattle.jet_deploy.specs.Making.{Ground, IsInstance, IsSending, IsReceiving, IsMade, AreMade, vertex_ports, port_of}
use Rattle.jet_deploy.specs.Sites.{EachOf, GivesAt, TakesAt, IsJunction, IsFeed, IsDrain, AreSites, place_between, EachLink, IsLinkAt, sends}
use Rattle.jet_deploy.specs.inner.Standing.{ground_over, WiresAll}
use Rattle.jet_deploy.proofs.Placing.{end_among, queue_among, end_alone, queue_alone, queue_over}

-- what the laws of layouts and of harnesses say of a layout over its fresh rings
pub record Facts (dag : Dag) (l : Layout) (h : Harness) : Type 0 where
  pub outputs : (v : Vertex) → length (joints_out dag l.joints v.name) ≡ edges_from dag.edges v.name
  pub ports : (w : Wire) → Contains l.wires w → HasPorts dag l.tasks w
  pub files : (p : Port) → Contains l.files p → HasInput dag l.tasks p
  pub rings : (n : ℕ) (c : Channel) → slice_get (channels l) n ≡ Some c → (r : Ring) × IsPlaced (channels l) h n c r
  pub one_giver : (g : Giver) (d : ℕ) → d < length (txs_of h g) → (n : ℕ) × IsOneAtGiver (channels l) g d n
  pub one_taker : (t : Taker) (q : ℕ) → q < length (rxs_of h t) → (n : ℕ) × IsOneAtTaker (channels l) t q n
  pub sends : (g : Giver) → length (txs_of h g) ≡ place_at_giver (channels l) (length (channels l)) g
  pub behind : (k : ℕ) (x : Link) → slice_get l.tasks k ≡ Some (Send x) → slice_get l.tasks (k + 1) ≡ Some (Receive x)

-- ---- a tasklet has the ends that were there for it

below_none : (f : Vertex → ℕ) (o : Option Vertex) (v : Vertex) (n : ℕ) → o ≡ Some v → n < option_map_or f o 0 → n < f v
below_none f o v n e lt = subst (λ (x : Option Vertex). n < option_map_or f x 0) e lt

length_ports : (dag : Dag) (v : Vertex) (b : Bool) → reads_files v.kind ≡ b → length (vertex_ports dag v) ≡ vertex_inputs dag v
length_ports dag v true e = rw e refl
length_ports dag v false e = rw e (length-map (edges_into v.name dag.edges) port_of ∙ length-filter (λ x. bytes_eq x.to v.name) dag.edges)

module _ (dag : Dag) (l : Layout) (h : Harness) (members : ℕ) (grain : ℤ) (facts : Facts dag l h) where
  end_of : (k n d : ℕ) (task : Task) (t : AnyTasklet) (tx : TxView Item) → IsMade (ground_over dag l members grain) h k task t → n < outputs_of dag task
      → slice_get (txs_of h (output_at k n)) d ≡ Some tx → HasEnd (outs t) n d tx
  end_of k n d (Run i) t tx made lt at =
      let long = facts.outputs made.vertex in
      let below = below_none (λ v. edges_from dag.edges v.name) (slice_get dag.vertices i.vertex) made.vertex n made.there lt in
      end_among h k members i.member n d (joints_out dag l.joints made.vertex.name) (outs t) tx made.outputs (omega (arith, long, below)) at
  end_of k n d (Send x) t tx made lt at = absurd (omega (arith, lt))
  end_of k zero d (Receive x) t tx made lt at = end_alone members x.to d made.joint (txs_of h (output_at k 0)) (outs t) tx made.outputs at
  end_of k (suc n) d (Receive x) t tx made lt at = absurd (omega (arith, lt))

  queue_of : (k n q : ℕ) (task : Task) (t : AnyTasklet) (rx : RxView Item) → IsMade (ground_over dag l members grain) h k task t → n < inputs_of dag task
      → slice_get (rxs_of h (input_at k n)) q ≡ Some rx → HasQueue (ins t) n q rx
  queue_of k n q (Run i) t rx made lt at =
      let long = length_ports dag made.vertex (reads_files made.vertex.kind) refl in
      let below = below_none (vertex_inputs dag) (slice_get dag.vertices i.vertex) made.vertex n made.there lt in
      queue_among h k n q (vertex_ports dag made.vertex) (ins t) rx made.inputs (omega (arith, long, below)) at
  queue_of k zero q (Send x) t rx made lt at = queue_alone q _ (rxs_of h (input_at k 0)) (ins t) rx made.inputs at
  queue_of k (suc n) q (Send x) t rx made lt at = absurd (omega (arith, lt))
  queue_of k n q (Receive x) t rx made lt at = absurd (omega (arith, lt))

-- ---- lists

there_is : {X : Type 0} (xs : List X) (n : ℕ) → n < length xs → (x : X) × (slice_get xs n ≡ Some x)
there_is [] n lt = absurd (omega (arith, lt))
there_is (x ∷ xs) zero lt = (x, refl)
there_is (x ∷ xs) (suc n) lt = there_is xs n (omega (arith, lt))

-- what is told of each element by its place holds of all
all_at : {X : Type 0} (P : X → Type 0) (xs : List X) → ((k : ℕ) (x : X) → slice_get xs k ≡ Some x → P x) → All P xs
all_at P xs each = λ k d lt. each k (get_or xs k d) (slice_get-get_or xs k d lt)

pairs_at : {X : Type 0} (R : X → X → Type 0) (xs : List X) → ((i j : ℕ) (x y : X) → i < j → slice_get xs i ≡ Some x → slice_get xs j ≡ Some y → R x y) → AllPairs R xs
pairs_at R xs each = λ i j d lt long. each i j (get_or xs i d) (get_or xs j d) lt (slice_get-get_or xs i d (omega (arith, lt, long))) (slice_get-get_or xs j d long)

contains_at : {X : Type 0} (xs : List X) (x : X) → Contains xs x → (k : ℕ) × (slice_get xs k ≡ Some x)
contains_at xs x c = (c.0, slice_get-get_or xs c.0 x c.1 ∙ ap Some c.2)

contains_more : {X : Type 0} (y : X) (xs : List X) (x : X) → Contains xs x → Contains (y ∷ xs) x
contains_more y xs x c = (suc c.0, omega (arith, c.1), c.2)

contains_first : {X : Type 0} (x : X) (xs : List X) → Contains (x ∷ xs) x
contains_first x xs = (0, omega arith, refl)

-- ---- rings of wires and of files

-- the ring is that of a wire, or of a file
abbrev IsOf : List Wire → List Port → Channel → Type 0
IsOf ws ps c = ((w : Wire) × Contains ws w × (wire_channel w ≡ c)) ⊎ ((p : Port) × Contains ps p × (file_channel p ≡ c))

of_file : (ps : List Port) (n : ℕ) (c : Channel) → slice_get (map file_channel ps) n ≡ Some c → (p : Port) × Contains ps p × (file_channel p ≡ c)
of_file [] n c at = cc
of_file (p ∷ ps) zero c at = (p, contains_first p ps, same_Some (file_channel p) c at)
of_file (p ∷ ps) (suc n) c at = let r = of_file ps n c at in (r.0, contains_more p ps r.0 r.1, r.2)

more_wires : (w : Wire) (ws : List Wire) (ps : List Port) (c : Channel) → IsOf ws ps c → IsOf (w ∷ ws) ps c
more_wires w ws ps c (inl r) = inl (r.0, contains_more w ws r.0 r.1, r.2)
more_wires w ws ps c (inr r) = inr r

is_of : (ws : List Wire) (ps : List Port) (n : ℕ) (c : Channel) → slice_get (map wire_channel ws ++ map file_channel ps) n ≡ Some c → IsOf ws ps c
is_of [] ps n c at = inr (of_file ps n c at)
is_of (w ∷ ws) ps zero c at = inl (w, contains_first w ws, same_Some (wire_channel w) c at)
is_of (w ∷ ws) ps (suc n) c at = more_wires w ws ps c (is_of ws ps n c at)

giver_of : (p q : Port) → Output p ≡ Output q → p ≡ q
giver_of p q e = cc

taker_of : (p q : Port) → Input p ≡ Input q → p ≡ q
taker_of p q e = cc

no_giver : (p : Port) → Output p ≢ File
no_giver p e = cc

no_taker : (p : Port) → Input p ≢ Sink
no_taker p e = cc

sends_not_receive : (x y : Link) → Send x ≢ Receive y
sends_not_receive x y e = cc

module _ (dag : Dag) (l : Layout) (h : Harness) (facts : Facts dag l h) where
  output_there : (c : Channel) (p : Port) → IsOf l.wires l.files c → c.giver ≡ Output p → HasOutput dag l.tasks p
  output_there c p (inl r) e =
      let g : Output r.0.giver ≡ Output p = ap (λ (x : Channel). x.giver) r.2 ∙ e in
      subst (HasOutput dag l.tasks) (giver_of r.0.giver p g) (facts.ports r.0 r.1).giver
  output_there c p (inr r) e = absurd (no_giver p (sym (ap (λ (x : Channel). x.giver) r.2 ∙ e)))

  input_there : (c : Channel) (p : Port) → IsOf l.wires l.files c → c.taker ≡ Input p → HasInput dag l.tasks p
  input_there c p (inl r) e = (facts.ports r.0 r.1).taker p (ap (λ (x : Channel). x.taker) r.2 ∙ e)
  input_there c p (inr r) e =
      let t : Input r.0 ≡ Input p = ap (λ (x : Channel). x.taker) r.2 ∙ e in
      subst (HasInput dag l.tasks) (taker_of r.0 p t) (facts.files r.0 r.1)

  tasks_apart : (c : Channel) (p q : Port) → IsOf l.wires l.files c → c.giver ≡ Output p → c.taker ≡ Input q → p.task ≢ q.task
  tasks_apart c p q (inl r) e f =
      let g : Output r.0.giver ≡ Output p = ap (λ (x : Channel). x.giver) r.2 ∙ e in
      subst (λ (x : Port). x.task ≢ q.task) (giver_of r.0.giver p g) ((facts.ports r.0 r.1).apart q (ap (λ (x : Channel). x.taker) r.2 ∙ f))
  tasks_apart c p q (inr r) e f = absurd (no_giver p (sym (ap (λ (x : Channel). x.giver) r.2 ∙ e)))

  -- ---- no end stands twice

  gives_same : (n m : ℕ) (c d : Channel) (p : DestAt) → GivesAt (channels l) n c p → GivesAt (channels l) m d p → n ≡ m
  gives_same n m c d p a b =
      let r = facts.rings n c a.at in
      let one = facts.one_giver c.giver (place_at_giver (channels l) n c.giver) (slice_get_within (txs_of h c.giver) (place_at_giver (channels l) n c.giver) (fresh_tx r.0) r.1.giver) in
      let e : d.giver ≡ c.giver = b.giver ∙ sym a.giver in
      let k : place_at_giver (channels l) m c.giver ≡ place_at_giver (channels l) n c.giver = ap (place_at_giver (channels l) m) (sym e) ∙ b.place ∙ sym a.place in
      one.1.only n c a.at refl refl ∙ sym (one.1.only m d b.at e k)

  takes_same : (n m : ℕ) (c d : Channel) (p : QueueAt) → TakesAt (channels l) n c p → TakesAt (channels l) m d p → n ≡ m
  takes_same n m c d p a b =
      let r = facts.rings n c a.at in
      let one = facts.one_taker c.taker (place_at_taker (channels l) n c.taker) (slice_get_within (rxs_of h c.taker) (place_at_taker (channels l) n c.taker) (fresh_rx r.0) r.1.taker) in
      let e : d.taker ≡ c.taker = b.taker ∙ sym a.taker in
      let k : place_at_taker (channels l) m c.taker ≡ place_at_taker (channels l) n c.taker = ap (place_at_taker (channels l) m) (sym e) ∙ b.place ∙ sym a.place in
      one.1.only n c a.at refl refl ∙ sym (one.1.only m d b.at e k)

  gives_apart : (n m : ℕ) (c d : Channel) (p q : DestAt) → GivesAt (channels l) n c p → GivesAt (channels l) m d q → n ≢ m → p ≢ q
  gives_apart n m c d p q a b ne e = ne (gives_same n m c d p a (subst (λ (x : DestAt). GivesAt (channels l) m d x) (sym e) b))

  takes_apart : (n m : ℕ) (c d : Channel) (p q : QueueAt) → TakesAt (channels l) n c p → TakesAt (channels l) m d q → n ≢ m → p ≢ q
  takes_apart n m c d p q a b ne e = ne (takes_same n m c d p a (subst (λ (x : QueueAt). TakesAt (channels l) m d x) (sym e) b))

  -- two rings with different places have different numbers
  numbers_apart : (f : ℕ → ℕ) (n m i j : ℕ) → f n ≡ i → f m ≡ j → i < j → n ≢ m
  numbers_apart f n m i j a b lt e = let same = ap f e in omega (arith, same, a, b, lt)

  one_channel : (n m : ℕ) (c d : Channel) → slice_get (channels l) n ≡ Some c → slice_get (channels l) m ≡ Some d → n ≡ m → c ≡ d
  one_channel n m c d a b e = same_Some c d (sym a ∙ ap (slice_get (channels l)) e ∙ b)

  junction_apart : (i j n m : ℕ) (c d : Channel) (x y : Junction) → i < j → IsJunction (channels l) i n c x → IsJunction (channels l) j m d y → AreApart x y
  junction_apart i j n m c d x y lt a b =
      let ne = numbers_apart (place_between (channels l)) n m i j a.place b.place lt in
      record { givers = gives_apart n m c d x.giver y.giver a.gives b.gives ne; takers = takes_apart n m c d x.taker y.taker a.takes b.takes ne }

  not_fed_by : (k i n m : ℕ) (c d : Channel) (j : Junction) → IsJunction (channels l) k n c j → IsFeed (channels l) i m d j.taker → ⊥
  not_fed_by k i n m c d j a b =
      let e = one_channel n m c d a.takes.at b.takes.at (takes_same n m c d j.taker a.takes b.takes) in
      no_giver (record { task = j.giver.task; number = j.giver.output }) (sym a.gives.giver ∙ ap (λ (x : Channel). x.giver) e ∙ b.file)

  not_drained_by : (k i n m : ℕ) (c d : Channel) (j : Junction) → IsJunction (channels l) k n c j → IsDrain (channels l) i m d j.giver → ⊥
  not_drained_by k i n m c d j a b =
      let e = one_channel n m c d a.gives.at b.gives.at (gives_same n m c d j.giver a.gives b.gives) in
      no_taker (record { task = j.taker.task; number = j.taker.input }) (sym a.takes.taker ∙ ap (λ (x : Channel). x.taker) e ∙ b.sink)

  receiver_at : (i : ℕ) (z : LinkAt) (is : IsLinkAt l.tasks i z) → slice_get l.tasks z.receiver ≡ Some (Receive is.link)
  receiver_at i z is = ap (slice_get l.tasks) is.behind ∙ facts.behind z.sender is.link is.at

  link_apart : (i j : ℕ) (x y : LinkAt) → i < j → IsLinkAt l.tasks i x → IsLinkAt l.tasks j y → AreLinksApart x y
  link_apart i j x y lt a b =
      let ne = numbers_apart (λ n. count_by sends (take n l.tasks)) x.sender y.sender i j a.place b.place lt in
      let next_a = a.behind in
      let next_b = b.behind in
      record {
        senders = ne;
        receivers = λ e. ne (omega (arith, e, next_a, next_b));
        from = λ e. sends_not_receive a.link b.link (same_Some (Send a.link) (Receive b.link) (sym a.at ∙ ap (slice_get l.tasks) e ∙ receiver_at j y b));
        to = λ e. sends_not_receive b.link a.link (same_Some (Send b.link) (Receive a.link) (sym b.at ∙ ap (slice_get l.tasks) (sym e) ∙ receiver_at i x a));
      }

  -- ---- the tasklets that are made over these ends
  module _ (members : ℕ) (grain : ℤ) (ts : List AnyTasklet) (count : length ts ≡ length l.tasks) (made : AreMade (ground_over dag l members grain) h l.tasks ts) where
    tasklet_at : (k : ℕ) (task : Task) → slice_get l.tasks k ≡ Some task → (t : AnyTasklet) × (slice_get ts k ≡ Some t)
    tasklet_at k task at = let w = slice_get_within l.tasks k task at in there_is ts k (omega (arith, w, count))

    dest_at : (n : ℕ) (c : Channel) (p : DestAt) (r : Ring) → GivesAt (channels l) n c p → IsPlaced (channels l) h n c r → HasDestAt ts p (fresh_tx r)
    dest_at n c p r gives placed =
        let out = output_there c (record { task = p.task; number = p.output }) (is_of l.wires l.files n c gives.at) gives.giver in
        let t = tasklet_at p.task out.task out.at in
        let here : slice_get (txs_of h (output_at p.task p.output)) p.dest ≡ Some (fresh_tx r) =
        ap (λ (g : Giver). slice_get (txs_of h g) p.dest) (sym gives.giver) ∙ ap (slice_get (txs_of h c.giver)) (sym gives.place) ∙ placed.giver in
        record {
          tasklet = t.0;
          at = t.1;
          end = end_of dag l h members grain facts p.task p.output p.dest out.task t.0 (fresh_tx r) (made.made p.task out.task t.0 out.at t.1) out.below here;
        }

    queue_at : (n : ℕ) (c : Channel) (p : QueueAt) (r : Ring) → TakesAt (channels l) n c p → IsPlaced (channels l) h n c r → HasQueueAt ts p (fresh_rx r)
    queue_at n c p r takes placed =
        let into = input_there c (record { task = p.task; number = p.input }) (is_of l.wires l.files n c takes.at) takes.taker in
        let t = tasklet_at p.task into.task into.at in
        let here : slice_get (rxs_of h (input_at p.task p.input)) p.queue ≡ Some (fresh_rx r) =
        ap (λ (x : Taker). slice_get (rxs_of h x) p.queue) (sym takes.taker) ∙ ap (slice_get (rxs_of h c.taker)) (sym takes.place) ∙ placed.taker in
        record {
          tasklet = t.0;
          at = t.1;
          end = queue_of dag l h members grain facts p.task p.input p.queue into.task t.0 (fresh_rx r) (made.made p.task into.task t.0 into.at t.1) into.below here;
        }

    joined : (k n : ℕ) (c : Channel) (j : Junction) → IsJunction (channels l) k n c j → IsJoined ts j
    joined k n c j is =
        let r = facts.rings n c is.gives.at in
        record {
          tx = fresh_tx r.0;
          rx = fresh_rx r.0;
          giver = dest_at n c j.giver r.0 is.gives r.1;
          taker = queue_at n c j.taker r.0 is.takes r.1;
          ring = refl;
          apart = tasks_apart c (record { task = j.giver.task; number = j.giver.output }) (record { task = j.taker.task; number = j.taker.input }) (is_of l.wires l.files n c is.gives.at) is.gives.giver is.takes.taker;
        }

    linked : (k : ℕ) (x : LinkAt) → IsLinkAt l.tasks k x → AreLinked ts x
    linked k x is =
        let after = receiver_at k x is in
        let s = tasklet_at x.sender (Send is.link) is.at in
        let r = tasklet_at x.receiver (Receive is.link) after in
        let next = is.behind in
        record {
          sender = s.0;
          receiver = r.0;
          at_sender = s.1;
          at_receiver = r.1;
          apart = λ same. omega (arith, same, next);
          joined = made.linked x.sender is.link s.0 r.0 is.at s.1 (ap (slice_get ts) (sym next) ∙ r.1);
        }

-- ---- the ends outside

ring_views : (qs : List (Rx Item)) → map rx_ring qs ≡ map (λ (r : RxView Item). r.ring) (map rx_view qs)
ring_views [] = refl
ring_views (q ∷ qs) = ap (λ l. rx_ring q ∷ l) (ring_views qs)

received_views : (qs : List (Rx Item)) → map received qs ≡ map (λ (r : RxView Item). r.received) (map rx_view qs)
received_views [] = refl
received_views (q ∷ qs) = ap (λ l. received q ∷ l) (received_views qs)

known_views : (qs : List (Rx Item)) → map known_items qs ≡ map (λ (r : RxView Item). r.known) (map rx_view qs)
known_views [] = refl
known_views (q ∷ qs) = ap (λ l. known_items q ∷ l) (known_views qs)

sink_queue : (v : conveyor.View) (queues : List (Rx Item)) (rxs : List (RxView Item)) (k : ℕ) (rx : RxView Item) → conveyor.IsNew v queues → map rx_view queues ≡ rxs → slice_get rxs k ≡ Some rx → IsQueue v k rx
sink_queue v queues rxs k rx new same at =
    let q = queue_over rxs k rx at in
    record {
      ring = ap (λ l. slice_get l k) (new.rings ∙ ring_views queues ∙ ap (map (λ (r : RxView Item). r.ring)) same) ∙ q.ring;
      received = ap (λ (l : List (List Item)). get_or l k []) (new.received ∙ received_views queues ∙ ap (map (λ (r : RxView Item). r.received)) same) ∙ q.received;
      known = ap (λ (l : List (List Item)). get_or l k []) (new.known ∙ known_views queues ∙ ap (map (λ (r : RxView Item). r.known)) same) ∙ q.known;
    }

module _ (dag : Dag) (l : Layout) (h : Harness) (facts : Facts dag l h) where
  file_here : (k n : ℕ) (c : Channel) (p : QueueAt) (r : Ring) → IsFeed (channels l) k n c p → IsPlaced (channels l) h n c r → slice_get (txs_of h File) k ≡ Some (fresh_tx r)
  file_here k n c p r is placed = ap (slice_get (txs_of h File)) (sym is.place) ∙ ap (λ (g : Giver). slice_get (txs_of h g) (place_at_giver (channels l) n g)) (sym is.file) ∙ placed.giver

  sink_here : (k n : ℕ) (c : Channel) (p : DestAt) (r : Ring) → IsDrain (channels l) k n c p → IsPlaced (channels l) h n c r → slice_get (rxs_of h Sink) k ≡ Some (fresh_rx r)
  sink_here k n c p r is placed = ap (slice_get (rxs_of h Sink)) (sym is.place) ∙ ap (λ (t : Taker). slice_get (rxs_of h t) (place_at_taker (channels l) n t)) (sym is.sink) ∙ placed.taker

  module _ (members : ℕ) (grain : ℤ) (ts : List AnyTasklet) (count : length ts ≡ length l.tasks) (made : AreMade (ground_over dag l members grain) h l.tasks ts) where
    fed_at : (k n : ℕ) (c : Channel) (p : QueueAt) (txs : List (TxView Item)) (d : TxView Item) → IsFeed (channels l) k n c p → txs ≡ txs_of h File → IsFed ts (get_or txs k d) p
    fed_at k n c p txs d is e =
        let r = facts.rings n c is.takes.at in
        let here = ap (λ (xs : List (TxView Item)). slice_get xs k) e ∙ file_here k n c p r.0 is r.1 in
        subst (λ (tx : TxView Item). IsFed ts tx p) (sym (get_or_from_slice_get txs k (fresh_tx r.0) d here)) record {
          rx = fresh_rx r.0;
          taker = queue_at dag l h facts members grain ts count made n c p r.0 is.takes r.1;
          ring = refl;
        }

    drained_at : (k n : ℕ) (c : Channel) (p : DestAt) (v : conveyor.View) (queues : List (Rx Item)) → IsDrain (channels l) k n c p → conveyor.IsNew v queues → map rx_view queues ≡ rxs_of h Sink → IsDrained ts p v k
    drained_at k n c p v queues is new same =
        let r = facts.rings n c is.gives.at in
        record {
          tx = fresh_tx r.0;
          rx = fresh_rx r.0;
          giver = dest_at dag l h facts members grain ts count made n c p r.0 is.gives r.1;
          taker = sink_queue v queues (rxs_of h Sink) k (fresh_rx r.0) new same (sink_here k n c p r.0 is r.1);
          ring = refl;
        }

few_of : (cs : List Channel) (p : Channel → Bool) (n : ℕ) → n ≡ count_by p (take (length cs) cs) → length cs < 2 ^ 32 → n < 2 ^ 32
few_of cs p n e few =
    let le = count_by-le-length p cs in
    let all = ap (count_by p) (take-length cs) in
    omega (arith, e, le, all, few)

pub wires_all : (dag : Dag) (l : Layout) (h : Harness) → Facts dag l h → WiresAll dag l h
wires_all dag l h facts = λ members grain ts w txs v queues count made sites links e new same few. record {
  links = all_at (AreLinked ts) w.links.items (λ k x at. linked dag l h facts members grain ts count made k x (links.each k x at));
  junctions = all_at (IsJoined ts) w.junctions.items (λ k j at. let s = sites.junctions k j at in joined dag l h facts members grain ts count made k s.0 s.1 j s.2);
  feeds = record {
    count = ap length e ∙ facts.sends File ∙ sym sites.all_feeds;
    each = λ k d x lt. let s = sites.feeds k (get_or w.feeds.items k x) (slice_get-get_or w.feeds.items k x lt) in fed_at dag l h facts members grain ts count made k s.0 s.1 (get_or w.feeds.items k x) txs d s.2 e;
  };
  drains = record {
    each = λ k x lt. let s = sites.drains k (get_or w.drains.items k x) (slice_get-get_or w.drains.items k x lt) in drained_at dag l h facts members grain ts count made k s.0 s.1 (get_or w.drains.items k x) v queues s.2 new same;
  };
  links_apart = pairs_at AreLinksApart w.links.items (λ i j x y lt a b. link_apart dag l h facts i j x y lt (links.each i x a) (links.each j y b));
  junctions_apart = pairs_at AreApart w.junctions.items (λ i j x y lt a b. let s = sites.junctions i x a in let u = sites.junctions j y b in junction_apart dag l h facts i j s.0 u.0 s.1 u.1 x y lt s.2 u.2);
  feeds_apart = pairs_at (λ p q. p ≢ q) w.feeds.items (λ i j x y lt a b. let s = sites.feeds i x a in let u = sites.feeds j y b in
      takes_apart dag l h facts s.0 u.0 s.1 u.1 x y s.2.takes u.2.takes (numbers_apart dag l h facts (λ n. place_at_giver (channels l) n File) s.0 u.0 i j s.2.place u.2.place lt));
  drains_apart = pairs_at (λ p q. p ≢ q) w.drains.items (λ i j x y lt a b. let s = sites.drains i x a in let u = sites.drains j y b in
      gives_apart dag l h facts s.0 u.0 s.1 u.1 x y s.2.gives u.2.gives (numbers_apart dag l h facts (λ n. place_at_taker (channels l) n Sink) s.0 u.0 i j s.2.place u.2.place lt));
  not_fed = all_at (λ j. Contains w.feeds.items j.taker → ⊥) w.junctions.items (λ k j at has. let f = contains_at w.feeds.items j.taker has in let s = sites.junctions k j at in let u = sites.feeds f.0 j.taker f.1 in
      not_fed_by dag l h facts k f.0 s.0 u.0 s.1 u.1 j s.2 u.2);
  not_drained = all_at (λ j. Contains w.drains.items j.giver → ⊥) w.junctions.items (λ k j at has. let f = contains_at w.drains.items j.giver has in let s = sites.junctions k j at in let u = sites.drains f.0 j.giver f.1 in
      not_drained_by dag l h facts k f.0 s.0 u.0 s.1 u.1 j s.2 u.2);
  few = few_of (channels l) (λ c. same_taker Sink c.taker) (length w.drains.items) sites.all_drains few;
}
