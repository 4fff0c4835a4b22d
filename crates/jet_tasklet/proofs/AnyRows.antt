-- Turns in a row, of a tasklet of any kind: kind by kind.
use Rattle.std.proofs.Common.{◌≡◌, ℕ, ◌<◌, List, [], ◌∷◌, ◌++◌, refl, sym, ◌∙◌, ap, append-nil, arith}
use mathlib.Core.List.{IsPrefix}
use Rattle.jet_conveyor.specs.Conveyor as conveyor
use Rattle.jet_items.specs.declared.item.Item.{Item}
use Rattle.jet_stages.specs.declared.stamp.Stamp.{Stamp}
use Rattle.jet_stages.specs.declared.map.MapP.{MapP}
use Rattle.jet_stages.specs.declared.filter.FilterP.{FilterP}
use Rattle.jet_stages.specs.declared.flat.FlatP.{FlatP}
use Rattle.jet_join.specs.declared.join.JoinP.{JoinP}
use Rattle.jet_window.specs.declared.frame.FrameP.{FrameP}
use Rattle.jet_window.specs.declared.combine.CombineP.{CombineP}
use Rattle.jet_stages.specs.contracts.stamp.StampProcessor.TheImpl.Laws as stamp_laws
use Rattle.jet_stages.specs.contracts.map.MapPProcessor.TheImpl.Laws as map_laws
use Rattle.jet_stages.specs.contracts.filter.FilterPProcessor.TheImpl.Laws as filter_laws
use Rattle.jet_stages.specs.contracts.flat.FlatPProcessor.TheImpl.Laws as flat_laws
use Rattle.jet_join.specs.contracts.join.JoinPProcessor.TheImpl.Laws as join_laws
use Rattle.jet_window.specs.contracts.frame.FramePProcessor.TheImpl.Laws as frame_laws
use Rattle.jet_window.specs.contracts.combine.CombinePProcessor.TheImpl.Laws as combine_laws
use Rattle.jet_tasklet.specs.declared.arrival.Arrival.{Arrival}
use Rattle.jet_wire.specs.declared.progress.Progress.{Progress}
use Rattle.jet_wire.specs.declared.progress.Progress.TheVariants as progress
use Rattle.jet_tasklet.specs.declared.tasklet.Tasklet.{Tasklet}
use Rattle.jet_tasklet.specs.declared.any.AnyTasklet.{AnyTasklet}
use Rattle.jet_tasklet.specs.declared.any.AnyTasklet.TheVariants as any
use Rattle.jet_tasklet.specs.Kinds.{Kind, OfKinds, stamps, maps, filters, flats, joins, frames, combines}
use Rattle.jet_tasklet.specs.Keeps.{Keeps, Stays, Goes}
use Rattle.jet_tasklet.specs.Links.{SendKeeps, ReceiveKeeps, Law, LinkGoes, LinkStays}
use Rattle.jet_tasklet.specs.Fairness.{TookFairly}
use Rattle.jet_tasklet.specs.Turned.{Turned}
use Rattle.jet_tasklet.specs.Turning.{Moves, IsStill}
use Rattle.jet_tasklet.specs.Any.{AnyIsLawful, AnyKeeps, AnyGoes, AnyStays, AnyTurned, AnyMoves, AnyIsStill}
use Rattle.jet_tasklet.specs.Views.{ins, outs, waiting}
use Rattle.jet_tasklet.specs.Turns.{joined, SameEnds, Counts, Counted, AnyWent, AnyRests, AnySaid, AnyCounted}
use Rattle.jet_wire.specs.Receiver.{receiver_view}
use Rattle.jet_wire.specs.ReceiverTurn.{ReceiverTurned, moved_count as receiver_moves, ReceiverIsStill}
use Rattle.jet_wire.specs.Sender.{sender_view}
use Rattle.jet_wire.specs.SenderTurn.{SenderTurned, move_count as sender_moves, SenderIsStill}
use Rattle.jet_wire.specs.declared.receiver.Receiver.{Receiver}
use Rattle.jet_wire.specs.declared.sender.Sender.{Sender}
use Rattle.jet_tasklet.proofs.Fairness.{fair_trans}
use Rattle.jet_tasklet.proofs.Keeping.{goes_trans, stays_trans}
use Rattle.jet_tasklet.proofs.Lasting.{turned_trans}
use Rattle.jet_tasklet.proofs.Linking.{link_goes_on, link_stays_on, input_with, output_goes, sender_turned_on, sender_still_on, sender_still_count, receiver_turned_on, receiver_still_on, receiver_still_count}
use Rattle.jet_tasklet.proofs.Rows.{moved_moved, moved_still, still_moved, still_still, exact, outs_same, same_count, moved_counts, rests_counts}
use Rattle.jet_tasklet.proofs.Chaining.{any_lawful_next}

-- words of two tasklets of one kind
record Words : Type 1 where
  tasklets : (P : Type 0) → Kind P → Tasklet P → Tasklet P → Type 0
  senders : Sender → Sender → Type 0
  receivers : Receiver → Receiver → Type 0

abbrev Both : Words → AnyTasklet → AnyTasklet → Type 0
Both w t u = OfKinds w.tasklets w.senders w.receivers t u

abbrev And : Words → Words → Words
And A B = record {
  tasklets = λ P k t u. A.tasklets P k t u × B.tasklets P k t u;
  senders = λ t u. A.senders t u × B.senders t u;
  receivers = λ t u. A.receivers t u × B.receivers t u;
}

-- two words of two tasklets are one
and : (A B : Words) (t u : AnyTasklet) → Both A t u → Both B t u → Both (And A B) t u
and A B (any.Stamp t) (any.Stamp u) a b = (a, b)
and A B (any.Map t) (any.Map u) a b = (a, b)
and A B (any.Filter t) (any.Filter u) a b = (a, b)
and A B (any.Flat t) (any.Flat u) a b = (a, b)
and A B (any.Join t) (any.Join u) a b = (a, b)
and A B (any.Frame t) (any.Frame u) a b = (a, b)
and A B (any.Combine t) (any.Combine u) a b = (a, b)
and A B (any.Send t) (any.Send u) a b = (a, b)
and A B (any.Receive t) (any.Receive u) a b = (a, b)
and A B t u a b = absurd a

-- that two have the same settings is passed on
abbrev PassesOn : (P : Type 0) → Kind P → Type 0
PassesOn P k = (p q r : P) → k.same p q → k.same q r → k.same p r

-- what follows, whatever the kind, from words of one tasklet and a second, and of the second and a third
record Links (A B C : Words) : Type 1 where
  tasklets : (P : Type 0) (k : Kind P) → PassesOn P k → (t u v : Tasklet P) → A.tasklets P k t u → B.tasklets P k u v → C.tasklets P k t v
  senders : (t u v : Sender) → A.senders t u → B.senders u v → C.senders t v
  receivers : (t u v : Receiver) → A.receivers t u → B.receivers u v → C.receivers t v

link : (A B C : Words) → Links A B C → (t u v : AnyTasklet) → Both A t u → Both B u v → Both C t v
link A B C f (any.Stamp t) (any.Stamp u) (any.Stamp v) a b = f.tasklets Stamp stamps stamp_laws.same_trans-law t u v a b
link A B C f (any.Map t) (any.Map u) (any.Map v) a b = f.tasklets MapP maps map_laws.same_trans-law t u v a b
link A B C f (any.Filter t) (any.Filter u) (any.Filter v) a b = f.tasklets FilterP filters filter_laws.same_trans-law t u v a b
link A B C f (any.Flat t) (any.Flat u) (any.Flat v) a b = f.tasklets FlatP flats flat_laws.same_trans-law t u v a b
link A B C f (any.Join t) (any.Join u) (any.Join v) a b = f.tasklets JoinP joins join_laws.same_trans-law t u v a b
link A B C f (any.Frame t) (any.Frame u) (any.Frame v) a b = f.tasklets FrameP frames frame_laws.same_trans-law t u v a b
link A B C f (any.Combine t) (any.Combine u) (any.Combine v) a b = f.tasklets CombineP combines combine_laws.same_trans-law t u v a b
link A B C f (any.Send t) (any.Send u) (any.Send v) a b = f.senders t u v a b
link A B C f (any.Receive t) (any.Receive u) (any.Receive v) a b = f.receivers t u v a b
link A B C f (any.Stamp t) (any.Stamp u) v a b = absurd b
link A B C f (any.Map t) (any.Map u) v a b = absurd b
link A B C f (any.Filter t) (any.Filter u) v a b = absurd b
link A B C f (any.Flat t) (any.Flat u) v a b = absurd b
link A B C f (any.Join t) (any.Join u) v a b = absurd b
link A B C f (any.Frame t) (any.Frame u) v a b = absurd b
link A B C f (any.Combine t) (any.Combine u) v a b = absurd b
link A B C f (any.Send t) (any.Send u) v a b = absurd b
link A B C f (any.Receive t) (any.Receive u) v a b = absurd b
link A B C f t u v a b = absurd a

abbrev Went : Words
Went = record { tasklets = λ P k a b. Goes k.stands k.amid k.takes a b; senders = λ a b. LinkGoes SendKeeps (sender_view a) (sender_view b); receivers = λ a b. LinkGoes ReceiveKeeps (receiver_view a) (receiver_view b) }

abbrev Kept : Words
Kept = record { tasklets = λ P k a b. Stays k.stands k.amid k.takes a b; senders = λ a b. LinkStays SendKeeps (sender_view a) (sender_view b); receivers = λ a b. LinkStays ReceiveKeeps (receiver_view a) (receiver_view b) }

abbrev Passed : Words
Passed = record { tasklets = λ P k a b. Turned k.same a b; senders = λ a b. SenderTurned (sender_view a) (sender_view b); receivers = λ a b. ReceiverTurned (receiver_view a) (receiver_view b) }

abbrev TookInTurn : Words
TookInTurn = record { tasklets = λ P k a b. TookFairly a b; senders = λ a b. Unit {0}; receivers = λ a b. Unit {0} }

abbrev Moved : Words
Moved = record { tasklets = λ P k a b. Moves a b; senders = λ a b. sender_moves (sender_view a) < sender_moves (sender_view b); receivers = λ a b. receiver_moves (receiver_view a) < receiver_moves (receiver_view b) }

abbrev Still : Words
Still = record { tasklets = λ P k a b. IsStill a b; senders = λ a b. SenderIsStill (sender_view a) (sender_view b); receivers = λ a b. ReceiverIsStill (receiver_view a) (receiver_view b) }

went_links : Links Went Went Went
went_links = record {
  tasklets = λ P k l a b c f g. goes_trans k.stands k.amid k.takes a b c f g;
  senders = λ a b c. link_goes_on SendKeeps (sender_view a) (sender_view b) (sender_view c);
  receivers = λ a b c. link_goes_on ReceiveKeeps (receiver_view a) (receiver_view b) (receiver_view c);
}

passed_links : Links Passed Passed Passed
passed_links = record {
  tasklets = λ P k l a b c f g. turned_trans k.same l a b c f g;
  senders = λ a b c. sender_turned_on (sender_view a) (sender_view b) (sender_view c);
  receivers = λ a b c. receiver_turned_on (receiver_view a) (receiver_view b) (receiver_view c);
}

in_turn_links : Links TookInTurn TookInTurn TookInTurn
in_turn_links = record {
  tasklets = λ P k l a b c f g. fair_trans a b c f g;
  senders = λ a b c f g. tt;
  receivers = λ a b c f g. tt;
}

kept_links : Links Kept Kept Kept
kept_links = record {
  tasklets = λ P k l a b c f g. stays_trans k.stands k.amid k.takes a b c f g;
  senders = λ a b c. link_stays_on SendKeeps (sender_view a) (sender_view b) (sender_view c);
  receivers = λ a b c. link_stays_on ReceiveKeeps (receiver_view a) (receiver_view b) (receiver_view c);
}

still_links : Links Still Still Still
still_links = record {
  tasklets = λ P k l a b c f g. still_still k.same a b c f g;
  senders = λ a b c. sender_still_on (sender_view a) (sender_view b) (sender_view c);
  receivers = λ a b c. receiver_still_on (receiver_view a) (receiver_view b) (receiver_view c);
}

moved_still_links : Links Moved Still Moved
moved_still_links = record {
  tasklets = λ P k l a b c f g. moved_still k.same a b c f g;
  senders = λ a b c f g. let same = sender_still_count (sender_view b) (sender_view c) g in omega (arith, f, same);
  receivers = λ a b c f g. let same = receiver_still_count (receiver_view b) (receiver_view c) g in omega (arith, f, same);
}

still_moved_links : Links Still Moved Moved
still_moved_links = record {
  tasklets = λ P k l a b c f g. still_moved k.same a b c f g;
  senders = λ a b c f g. let same = sender_still_count (sender_view a) (sender_view b) f in omega (arith, g, same);
  receivers = λ a b c f g. let same = receiver_still_count (receiver_view a) (receiver_view b) f in omega (arith, g, same);
}

moved_links : Links (And Passed Moved) (And Passed Moved) Moved
moved_links = record {
  tasklets = λ P k l a b c f g. moved_moved k.same a b c f.0 g.0 f.1 g.1;
  senders = λ a b c f g. let one = f.1 in let two = g.1 in omega (arith, one, two);
  receivers = λ a b c f g. let one = f.1 in let two = g.1 in omega (arith, one, two);
}

pub any_went_trans : (t u v : AnyTasklet) → AnyWent t u → AnyWent u v → AnyWent t v
any_went_trans t u v h k = record {
  goes = link Went Went Went went_links t u v h.goes k.goes;
  turned = link Passed Passed Passed passed_links t u v h.turned k.turned;
  fair = link TookInTurn TookInTurn TookInTurn in_turn_links t u v h.fair k.fair;
}

pub any_lawful_on : (t u : AnyTasklet) → AnyIsLawful t → AnyWent t u → AnyIsLawful u
any_lawful_on t u l w = any_lawful_next t u l w.goes

any_moved_moved : (t u v : AnyTasklet) → AnyWent t u → AnyWent u v → AnyMoves t u → AnyMoves u v → AnyMoves t v
any_moved_moved t u v g h a b = link (And Passed Moved) (And Passed Moved) Moved moved_links t u v (and Passed Moved t u g.turned a) (and Passed Moved u v h.turned b)

any_moved_still : (t u v : AnyTasklet) → AnyMoves t u → AnyIsStill u v → AnyMoves t v
any_moved_still t u v a b = link Moved Still Moved moved_still_links t u v a b

any_still_moved : (t u v : AnyTasklet) → AnyIsStill t u → AnyMoves u v → AnyMoves t v
any_still_moved t u v a b = link Still Moved Moved still_moved_links t u v a b

any_rests_on : (t u v : AnyTasklet) → AnyRests t u → AnyRests u v → AnyRests t v
any_rests_on t u v a b = record {
  still = link Still Still Still still_links t u v a.still b.still;
  stays = link Kept Kept Kept kept_links t u v a.stays b.stays;
}

-- the answers of two turns, one after the other
pub any_said_joined : (p q : Progress) (t u v : AnyTasklet) → AnyWent t u → AnyWent u v → AnySaid p t u → AnySaid q u v → AnySaid (joined p q) t v
any_said_joined progress.Moved progress.Moved t u v g h a b = any_moved_moved t u v g h a b
any_said_joined progress.Moved progress.Idle t u v g h a b = any_moved_still t u v a b.0.still
any_said_joined progress.Moved progress.Done t u v g h a b = any_moved_still t u v a b.0.still
any_said_joined progress.Idle progress.Moved t u v g h a b = any_still_moved t u v a.0.still b
any_said_joined progress.Idle progress.Idle t u v g h a b = (any_rests_on t u v a.0 b.0, b.1)
any_said_joined progress.Idle progress.Done t u v g h a b = (any_rests_on t u v a.0 b.0, b.1)
any_said_joined progress.Done progress.Moved t u v g h a b = any_still_moved t u v a.0.still b
any_said_joined progress.Done progress.Idle t u v g h a b = (any_rests_on t u v a.0 b.0, b.1)
any_said_joined progress.Done progress.Done t u v g h a b = (any_rests_on t u v a.0 b.0, b.1)

any_exact_of : (t u : AnyTasklet) → AnyTurned t u → AnyIsStill t u → SameEnds (ins t) (outs t) (waiting t) (ins u) (outs u) (waiting u)
any_exact_of (any.Stamp t) (any.Stamp u) w s = exact stamps.same t u w s
any_exact_of (any.Map t) (any.Map u) w s = exact maps.same t u w s
any_exact_of (any.Filter t) (any.Filter u) w s = exact filters.same t u w s
any_exact_of (any.Flat t) (any.Flat u) w s = exact flats.same t u w s
any_exact_of (any.Join t) (any.Join u) w s = exact joins.same t u w s
any_exact_of (any.Frame t) (any.Frame u) w s = exact frames.same t u w s
any_exact_of (any.Combine t) (any.Combine u) w s = exact combines.same t u w s
any_exact_of (any.Send t) (any.Send u) w s = record { inputs_same = ap (λ (q : conveyor.View). input_with q ∷ []) s.queues; txs_same = refl; outbox_same = refl }
any_exact_of (any.Receive t) (any.Receive u) w s = record {
  inputs_same = refl;
  txs_same = outs_same (outs (any.Receive t)) (outs (any.Receive u)) (output_goes (receiver_view t) (receiver_view u) w, tt) (let same = s.sent in omega (arith, same));
  outbox_same = refl;
}
any_exact_of t u w s = absurd w

pub any_exact : (t u : AnyTasklet) → AnyWent t u → AnyRests t u → SameEnds (ins t) (outs t) (waiting t) (ins u) (outs u) (waiting u)
any_exact t u w r = any_exact_of t u w.turned r.still

-- ---- the count of moves
-- the same of an end of a link: its items, packets and acknowledgements count
record LinkCounted {V : Type 0} (law : Law V) (moves : V → ℕ) (says : Progress) (a b : V) (came : List Arrival) (gave : List Item) : Type 0 where
  more : List Arrival
  given : List Item
  keeps : law b (came ++ more) (gave ++ given)
  counts : Counts says (moves a) (moves b)

abbrev WereCounted : Progress → List Arrival → List Item → Words
WereCounted says came gave = record {
  tasklets = λ P k a b. Keeps k.stands k.amid k.takes a came gave → Counted k.stands k.amid k.takes says a b came gave;
  senders = λ a b. SendKeeps (sender_view a) came gave → LinkCounted SendKeeps sender_moves says (sender_view a) (sender_view b) came gave;
  receivers = λ a b. ReceiveKeeps (receiver_view a) came gave → LinkCounted ReceiveKeeps receiver_moves says (receiver_view a) (receiver_view b) came gave;
}

front_of_more : (gave given : List Item) → IsPrefix (gave ++ []) ((gave ++ given) ++ [])
front_of_more gave given = (given, ap (λ (xs : List Item). xs ++ given) (append-nil gave) ∙ sym (append-nil (gave ++ given)))

counted : (says : Progress) (t u : AnyTasklet) (came : List Arrival) (gave : List Item) → Both (WereCounted says came gave) t u → AnyKeeps t came gave → AnyCounted says t u came gave
counted says (any.Stamp t) (any.Stamp u) came gave c k = let r = c k in record { more = r.more; given = r.given; keeps = r.keeps; entered = r.entered; counts = r.counts }
counted says (any.Map t) (any.Map u) came gave c k = let r = c k in record { more = r.more; given = r.given; keeps = r.keeps; entered = r.entered; counts = r.counts }
counted says (any.Filter t) (any.Filter u) came gave c k = let r = c k in record { more = r.more; given = r.given; keeps = r.keeps; entered = r.entered; counts = r.counts }
counted says (any.Flat t) (any.Flat u) came gave c k = let r = c k in record { more = r.more; given = r.given; keeps = r.keeps; entered = r.entered; counts = r.counts }
counted says (any.Join t) (any.Join u) came gave c k = let r = c k in record { more = r.more; given = r.given; keeps = r.keeps; entered = r.entered; counts = r.counts }
counted says (any.Frame t) (any.Frame u) came gave c k = let r = c k in record { more = r.more; given = r.given; keeps = r.keeps; entered = r.entered; counts = r.counts }
counted says (any.Combine t) (any.Combine u) came gave c k = let r = c k in record { more = r.more; given = r.given; keeps = r.keeps; entered = r.entered; counts = r.counts }
counted says (any.Send t) (any.Send u) came gave c k = let r = c k in record { more = r.more; given = r.given; keeps = r.keeps; entered = front_of_more gave r.given; counts = r.counts }
counted says (any.Receive t) (any.Receive u) came gave c k = let r = c k in record { more = r.more; given = r.given; keeps = r.keeps; entered = front_of_more gave r.given; counts = r.counts }
counted says t u came gave c k = absurd c

-- what follows, whatever the kind, of one tasklet and a second
record Follows (A B : Words) : Type 1 where
  tasklets : (P : Type 0) (k : Kind P) (t u : Tasklet P) → A.tasklets P k t u → B.tasklets P k t u
  senders : (t u : Sender) → A.senders t u → B.senders t u
  receivers : (t u : Receiver) → A.receivers t u → B.receivers t u

follow : (A B : Words) → Follows A B → (t u : AnyTasklet) → Both A t u → Both B t u
follow A B f (any.Stamp t) (any.Stamp u) a = f.tasklets Stamp stamps t u a
follow A B f (any.Map t) (any.Map u) a = f.tasklets MapP maps t u a
follow A B f (any.Filter t) (any.Filter u) a = f.tasklets FilterP filters t u a
follow A B f (any.Flat t) (any.Flat u) a = f.tasklets FlatP flats t u a
follow A B f (any.Join t) (any.Join u) a = f.tasklets JoinP joins t u a
follow A B f (any.Frame t) (any.Frame u) a = f.tasklets FrameP frames t u a
follow A B f (any.Combine t) (any.Combine u) a = f.tasklets CombineP combines t u a
follow A B f (any.Send t) (any.Send u) a = f.senders t u a
follow A B f (any.Receive t) (any.Receive u) a = f.receivers t u a
follow A B f t u a = absurd a

moved_counted : {V : Type 0} (law : Law V) (moves : V → ℕ) (a b : V) → LinkGoes law a b → moves a < moves b → (came : List Arrival) (gave : List Item) → law a came gave → LinkCounted law moves progress.Moved a b came gave
moved_counted law moves a b g m came gave k = let r = g.goes came gave k in record { more = r.0; given = r.1; keeps = r.2; counts = m }

rests_counted : {V : Type 0} (law : Law V) (moves : V → ℕ) (says : Progress) → (says ≡ progress.Moved → ⊥) → (a b : V) → LinkStays law a b → moves b ≡ moves a → (came : List Arrival) (gave : List Item) → law a came gave → LinkCounted law moves says a b came gave
rests_counted law moves says unmoved a b h same came gave k = record { more = []; given = []; keeps = rw (append-nil, append-nil) (h.stays came gave k); counts = same_count says unmoved (moves a) (moves b) same }

any_moved_counts : (t u : AnyTasklet) (came : List Arrival) (gave : List Item) → AnyGoes t u → AnyTurned t u → AnyMoves t u → AnyKeeps t came gave → AnyCounted progress.Moved t u came gave
any_moved_counts t u came gave g w m =
    counted progress.Moved t u came gave
    (follow (And Went (And Passed Moved)) (WereCounted progress.Moved came gave)
    (record {
      tasklets = λ P k a b h. moved_counts k.stands k.amid k.takes k.same a b came gave h.0 h.1.0 h.1.1;
      senders = λ a b h. moved_counted SendKeeps sender_moves (sender_view a) (sender_view b) h.0 h.1.1 came gave;
      receivers = λ a b h. moved_counted ReceiveKeeps receiver_moves (receiver_view a) (receiver_view b) h.0 h.1.1 came gave;
    })
    t u (and Went (And Passed Moved) t u g (and Passed Moved t u w m)))

any_rests_counts : (says : Progress) → (says ≡ progress.Moved → ⊥) → (t u : AnyTasklet) (came : List Arrival) (gave : List Item) → AnyIsStill t u → AnyStays t u → AnyKeeps t came gave → AnyCounted says t u came gave
any_rests_counts says unmoved t u came gave s h =
    counted says t u came gave
    (follow (And Still Kept) (WereCounted says came gave)
    (record {
      tasklets = λ P k a b f. rests_counts k.stands k.amid k.takes says unmoved a b came gave f.0 f.1;
      senders = λ a b f. rests_counted SendKeeps sender_moves says unmoved (sender_view a) (sender_view b) f.1 (sender_still_count (sender_view a) (sender_view b) f.0) came gave;
      receivers = λ a b f. rests_counted ReceiveKeeps receiver_moves says unmoved (receiver_view a) (receiver_view b) f.1 (receiver_still_count (receiver_view a) (receiver_view b) f.0) came gave;
    })
    t u (and Still Kept t u s h))

pub any_counts : (says : Progress) (t u : AnyTasklet) (came : List Arrival) (gave : List Item) → AnyWent t u → AnySaid says t u → AnyKeeps t came gave → AnyCounted says t u came gave
any_counts progress.Moved t u came gave w s k = any_moved_counts t u came gave w.goes w.turned s k
any_counts progress.Idle t u came gave w s k = any_rests_counts progress.Idle (λ e. absurd (cc)) t u came gave s.0.still s.0.stays k
any_counts progress.Done t u came gave w s k = any_rests_counts progress.Done (λ e. absurd (cc)) t u came gave s.0.still s.0.stays k
