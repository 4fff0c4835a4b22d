-- What a receiver gave over its link, in the words of tasklets.
use Rattle.std.proofs.Common.{◌≡◌, ◌⊎◌, ℕ, ◌<◌, Bool, true, false, All, List, [], ◌∷◌, ◌++◌, map, length, get_or, refl, sym, ◌∙◌, ap, subst, append-nil, append_assoc, inl, inr}
use Rattle.std.specs.List.{list_all}
use Rattle.std.proofs.lemmas.List.Sums.{list_all-from_AllPass}
use mathlib.Core.List.{IsPrefix}
use Rattle.jet_ring.proofs.Lists.{prefix_trans}
use Rattle.jet_items.specs.declared.item.Item.{Item}
use Rattle.jet_items.specs.declared.item.Item.TheVariants as item
use Rattle.jet_items.specs.Bag.{SameBag, all_of}
use Rattle.jet_items.specs.Done.{is_done}
use Rattle.jet_items.specs.Kinds.{data_of}
use Rattle.jet_items.specs.Order.{Sound, Closed as ClosedItems}
use Rattle.jet_boxes.specs.declared.port.Port.TheVariants.{Stream}
use Rattle.jet_conveyor.specs.Conveyor as conveyor
use Rattle.jet_conveyor.specs.Conveyor.{EndsIn}
use Rattle.jet_wire.specs.InOrder as wire
use Rattle.jet_wire.specs.Meeting.{GivesWhatWasSent, GivesNext, GivesDoneLast, IsOverAtEnd, EndsAfter}
use Rattle.jet_wire.specs.Noting.{items_in}
use Rattle.jet_wire.specs.Passing.{Taken, passed}
use Rattle.jet_wire.specs.Receiver.{ReceiverView, receiver_view, ReceiverKeeps}
use Rattle.jet_wire.specs.Sender.{SenderView, sender_view, SenderKeeps, queue_count as queues_of}
use Rattle.jet_wire.specs.declared.receiver.Receiver.{Receiver}
use Rattle.jet_wire.specs.declared.sender.Sender.{Sender}
use Rattle.jet_tasklet.specs.declared.arrival.Arrival.{Arrival}
use Rattle.jet_tasklet.specs.declared.any.AnyTasklet.{AnyTasklet}
use Rattle.jet_tasklet.specs.declared.any.AnyTasklet.TheVariants as any
use Rattle.jet_tasklet.specs.Any.{AnyHasEnded}
use Rattle.jet_tasklet.specs.AnyOver.{OverLink, any_passed_on, IsFedSound, IsFedClosed}
use Rattle.jet_tasklet.specs.Inputs.{InputView, queue_count, received, all_done}
use Rattle.jet_tasklet.specs.Links.{taken_at, passed_on}
use Rattle.jet_tasklet.specs.Merging.{data_received}
use Rattle.jet_tasklet.specs.Outputs.{OutputView, ready, Giving}
use Rattle.jet_tasklet.specs.Sending.{EachSent, EachReceived}
use Rattle.jet_tasklet.specs.Trace.{has_ended}
use Rattle.jet_tasklet.specs.Views.{ins, outs}
use Rattle.jet_tasklet.proofs.GenericLaws.{Passing, bool_cases, sends}
use Rattle.jet_tasklet.proofs.Linking.{input_with, next_gift, passed_is}
use Rattle.jet_tasklet.proofs.Sending.{sound_passing, closed_passing}

-- ---- the one input of a sender has its queues alone
count_is : (v : conveyor.View) → queue_count Stream (input_with v ∷ []) ≡ length v.rings
count_is v = ap (λ xs. length xs) (append-nil v.rings)

received_is : (v : conveyor.View) → received Stream (input_with v ∷ []) ≡ v.received
received_is v = append-nil v.received

all_done_is : (v : conveyor.View) → All (λ d. d ≡ true) v.done → all_done Stream (input_with v ∷ []) ≡ true
all_done_is v h = ap (λ (ds : List Bool). list_all (λ d. d) ds) (append-nil v.done) ∙ list_all-from_AllPass (λ d. d) v.done h

fed_each : (P : List Item → Type 0) (v : conveyor.View) → EachReceived P (input_with v ∷ []) → wire.EachReceived P v
fed_each P v fed q lt = subst (λ (xss : List (List Item)). P (get_or xss q [])) (received_is v) (fed Stream q (subst (λ (n : ℕ). q < n) (sym (count_is v)) lt))

data_is : (v : conveyor.View) → wire.data_received v ≡ data_received Stream (input_with v ∷ [])
data_is v = sym (
    ap (λ (n : ℕ). all_of n (λ q. data_of (get_or (received Stream (input_with v ∷ [])) q []))) (count_is v)
    ∙ ap (λ (xss : List (List Item)). all_of (length v.rings) (λ q. data_of (get_or xss q []))) (received_is v)
    )

-- ---- Done at the end
done_is : (x : Item) → is_done x ≡ true → x ≡ item.Done
done_is (item.Event e) h = absurd (cc)
done_is (item.Side s) h = absurd (cc)
done_is (item.Frame f) h = absurd (cc)
done_is (item.Row r) h = absurd (cc)
done_is (item.Late l) h = absurd (cc)
done_is item.Idle h = absurd (cc)
done_is (item.Mark m) h = absurd (cc)
done_is item.Done h = refl

ends_in_done : (xs : List Item) → has_ended xs ≡ true → EndsIn (has_ended xs) xs → (front : List Item) × (xs ≡ front ++ item.Done ∷ [])
ends_in_done xs h e =
    let f : EndsIn true xs = subst (λ (b : Bool). EndsIn b xs) h e in
    (f.0, f.2 ∙ ap (λ (x : Item). f.0 ++ x ∷ []) (done_is f.1 f.3))

-- ---- what each destination was sent, of what the receiver gave and gives next
front_has : (Q : List Item → Type 0) → Passing Q → (xs ys : List Item) → IsPrefix xs ys → Q ys → Q xs
front_has Q p xs ys f q = p.front xs f.0 (subst Q (sym f.1) q)

given_sent : (Q : List Item → Type 0) → Passing Q → (s : Sender) (r : Receiver) → GivesWhatWasSent (sender_view s) (receiver_view r) → GivesNext (sender_view s) (receiver_view r)
    → OverLink (any.Send s) (any.Receive r) (λ came sent given. Q sent → EachSent Q (outs (any.Receive r)))
given_sent Q p s r front next came over sent given m k g q =
    let v : ReceiverView = receiver_view r in
    let keeps = g.keeps in
    elim (bool_cases v.router.busy) [
      | inl b ↦
          let gift = next_gift v given keeps in
          sends Q p given (gift.0 ∷ []) (ready v.router ∷ []) (gift.1, tt)
          (front_has Q p (given ++ gift.0 ∷ []) sent (next k.taken sent given k.keeps keeps m gift.0 (gift.2 b)) q)
      | inr f ↦
          sends Q p given [] (ready v.router ∷ []) (record { deals = keeps.deals; dealt = keeps.dealt; items = keeps.items; free = f; ready = refl }, tt)
          (subst Q (sym (append-nil given)) (front_has Q p given sent (front k.taken sent given k.keeps keeps m) q))
    ]

-- ---- the clauses, of any two tasklets
abbrev pub CarriesFront : AnyTasklet → AnyTasklet → Type 0
CarriesFront t u = OverLink t u (λ came sent given. IsPrefix given sent)

abbrev pub CarriesPassed : AnyTasklet → AnyTasklet → Type 0
CarriesPassed t u = OverLink t u (λ came sent given. IsPrefix given (any_passed_on t came))

abbrev pub CarriesLast : AnyTasklet → AnyTasklet → Type 0
CarriesLast t u = OverLink t u (λ came sent given. EndsIn (has_ended given) given)

abbrev pub CarriesDone : AnyTasklet → AnyTasklet → Type 0
CarriesDone t u = OverLink t u (λ came sent given. has_ended given ≡ true → all_done Stream (ins t) ≡ true)

abbrev pub CarriesAll : AnyTasklet → AnyTasklet → Type 0
CarriesAll t u = OverLink t u (λ came sent given. AnyHasEnded u → (given ≡ sent) × (given ≡ any_passed_on t came))

abbrev pub CarriesEnd : AnyTasklet → AnyTasklet → Type 0
CarriesEnd t u = OverLink t u (λ came sent given. AnyHasEnded u → (front : List Item) × (given ≡ front ++ item.Done ∷ []))

abbrev pub EndsLater : AnyTasklet → AnyTasklet → Type 0
EndsLater t u = OverLink t u (λ came sent given. AnyHasEnded t → AnyHasEnded u)

abbrev pub KeepsSound : AnyTasklet → AnyTasklet → Type 0
KeepsSound t u = (behind : ℕ → ℕ → Bool) → IsFedSound behind t → OverLink t u (λ came sent given. EachSent (Sound behind) (outs u))

abbrev pub KeepsClosed : AnyTasklet → AnyTasklet → Type 0
KeepsClosed t u = IsFedClosed t → OverLink t u (λ came sent given. EachSent ClosedItems (outs u))

abbrev pub KeepsData : AnyTasklet → AnyTasklet → Type 0
KeepsData t u = OverLink t u (λ came sent given. AnyHasEnded u → SameBag (data_of given) (data_received Stream (ins t)))

-- two that are a sender and a receiver
pub of_ends : (P : AnyTasklet → AnyTasklet → Type 0) {t u : AnyTasklet} {s : Sender} {r : Receiver} → t ≡ any.Send s → u ≡ any.Receive r → P (any.Send s) (any.Receive r) → P t u
of_ends P {t} {u} {s} {r} e f h = subst (λ (x : AnyTasklet). P x u) (sym e) (subst (λ (y : AnyTasklet). P (any.Send s) y) (sym f) h)

-- ---- a sender and a receiver
pub front_carried : (s : Sender) (r : Receiver) → GivesWhatWasSent (sender_view s) (receiver_view r) → CarriesFront (any.Send s) (any.Receive r)
front_carried s r law came over sent given m k g = law k.taken sent given k.keeps g.keeps m

passed_to : (s : Sender) (came : List Arrival) (taken : List Taken) (sent : List Item) → came ≡ map taken_at taken → SenderKeeps (sender_view s) taken sent → passed (queues_of (sender_view s)) taken ≡ any_passed_on (any.Send s) came
passed_to s came taken sent e k = passed_is (queues_of (sender_view s)) came taken e ∙ ap (λ (n : ℕ). passed_on n came) (sym (count_is (sender_view s).queues))

pub passed_carried : (s : Sender) (r : Receiver) → GivesWhatWasSent (sender_view s) (receiver_view r) → CarriesPassed (any.Send s) (any.Receive r)
passed_carried s r law came over sent given m k g =
    let held = k.keeps.sends.written ++ items_in (sender_view s).hand in
    prefix_trans given sent (any_passed_on (any.Send s) came) (law k.taken sent given k.keeps g.keeps m)
    (held, sym (append_assoc sent k.keeps.sends.written (items_in (sender_view s).hand)) ∙ (k.keeps.sends.follows ∙ passed_to s came k.taken sent k.came_is k.keeps))

pub last_carried : (s : Sender) (r : Receiver) → GivesDoneLast (sender_view s) (receiver_view r) → CarriesLast (any.Send s) (any.Receive r)
last_carried s r law came over sent given m k g = (law k.taken sent given k.keeps g.keeps m).0

pub done_carried : (s : Sender) (r : Receiver) → GivesDoneLast (sender_view s) (receiver_view r) → CarriesDone (any.Send s) (any.Receive r)
done_carried s r law came over sent given m k g e = all_done_is (sender_view s).queues ((law k.taken sent given k.keeps g.keeps m).1 e)

pub all_carried : (s : Sender) (r : Receiver) → IsOverAtEnd (sender_view s) (receiver_view r) → CarriesAll (any.Send s) (any.Receive r)
all_carried s r law came over sent given m k g e =
    let is = law k.taken sent given k.keeps g.keeps m e in
    (is.sent_all, is.passed_all ∙ passed_to s came k.taken sent k.came_is k.keeps)

pub end_carried : (s : Sender) (r : Receiver) → GivesDoneLast (sender_view s) (receiver_view r) → CarriesEnd (any.Send s) (any.Receive r)
end_carried s r law came over sent given m k g e = ends_in_done given (sym g.keeps.done ∙ e.done) (law k.taken sent given k.keeps g.keeps m).0

pub ends_later : (s : Sender) (r : Receiver) → EndsAfter (sender_view s) (receiver_view r) → EndsLater (any.Send s) (any.Receive r)
ends_later s r law came over sent given m k g e = law k.taken sent given k.keeps g.keeps m e

-- what a sender sends is in order where its queues are
abbrev SendsIf : (List Item → Type 0) → Sender → Type 0
SendsIf Q s = (came : List Taken) (sent : List Item) → SenderKeeps (sender_view s) came sent → wire.EachReceived Q (sender_view s).queues → Q sent

pub sound_kept : (s : Sender) (r : Receiver) → GivesWhatWasSent (sender_view s) (receiver_view r) → GivesNext (sender_view s) (receiver_view r) → ((behind : ℕ → ℕ → Bool) → SendsIf (Sound behind) s) → KeepsSound (any.Send s) (any.Receive r)
sound_kept s r front next law behind fed came over sent given m k g =
    given_sent (Sound behind) (sound_passing behind) s r front next came over sent given m k g (law behind k.taken sent k.keeps (fed_each (Sound behind) (sender_view s).queues fed))

pub closed_kept : (s : Sender) (r : Receiver) → GivesWhatWasSent (sender_view s) (receiver_view r) → GivesNext (sender_view s) (receiver_view r) → SendsIf ClosedItems s → KeepsClosed (any.Send s) (any.Receive r)
closed_kept s r front next law fed came over sent given m k g =
    given_sent ClosedItems closed_passing s r front next came over sent given m k g (law k.taken sent k.keeps (fed_each ClosedItems (sender_view s).queues fed))

pub data_kept : (s : Sender) (r : Receiver) → IsOverAtEnd (sender_view s) (receiver_view r)
    → ((came : List Taken) (sent : List Item) (k : SenderKeeps (sender_view s) came sent) → SameBag (data_of (wire.passed_on (sender_view s) came sent k)) (wire.data_received (sender_view s).queues))
    → KeepsData (any.Send s) (any.Receive r)
data_kept s r law bag came over sent given m k g e =
    let is = law k.taken sent given k.keeps g.keeps m e in
    let all : wire.passed_on (sender_view s) k.taken sent k.keeps ≡ given = k.keeps.sends.follows ∙ sym is.passed_all in
    subst (λ (xs : List Item). SameBag (data_of given) xs) (data_is (sender_view s).queues)
    (subst (λ (xs : List Item). SameBag (data_of xs) (wire.data_received (sender_view s).queues)) all (bag k.taken sent k.keeps))
