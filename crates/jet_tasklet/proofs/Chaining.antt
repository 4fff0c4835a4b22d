-- Chains of tasklets through turns and meetings.
use Rattle.std.proofs.Common.{◌≡◌, ℕ, zero, suc, ◌+◌, ◌-◌, ◌<◌, List, [], ◌∷◌, ◌++◌, map, length, get_or, set, take, Bool, false, refl, sym, ◌∙◌, ap, subst, arith, length-append}
use Rattle.std.proofs.lemmas.List.{set-append_left, set-append_right, take_at}
use Rattle.std.specs.Prelude.{Option, Some, None, slice_get}
use Rattle.std.specs.List.{AllZip}
use Rattle.jet_items.specs.declared.item.Item.{Item}
use Rattle.jet_items.specs.Order.{Each}
use Rattle.jet_ring.specs.Ring.{Ring, TxView, RxView}
use Rattle.jet_conveyor.specs.Conveyor as conveyor
use Rattle.jet_router.specs.declared.router.Router.{Router}
use Rattle.jet_router.specs.Router as router
use Rattle.jet_tasklet.specs.declared.tasklet.Tasklet.{Tasklet}
use Rattle.jet_tasklet.specs.declared.output.Output.{Output}
use Rattle.jet_tasklet.specs.declared.any.AnyTasklet.{AnyTasklet}
use Rattle.jet_tasklet.specs.declared.any.AnyTasklet.TheVariants as any
use Rattle.jet_tasklet.specs.Inputs.{InputView, inputs_view}
use Rattle.jet_tasklet.specs.Outputs.{OutputView, outputs_view}
use Rattle.jet_tasklet.specs.Turned.{InputGoes, OutputGoes, Turned}
use Rattle.jet_tasklet.specs.Kinds.{stamps, maps, filters, flats, joins, frames, combines, outputs_of}
use Rattle.jet_tasklet.specs.Links.{SendKeeps, ReceiveKeeps}
use Rattle.jet_wire.specs.Receiver.{receiver_view}
use Rattle.jet_wire.specs.Sender.{sender_view}
use Rattle.jet_tasklet.specs.Any.{AnyIsLawful, AnyKeeps, AnyGoes, AnyTurned, any_with_output}
use Rattle.jet_tasklet.specs.declared.arrival.Arrival.{Arrival}
use Rattle.jet_tasklet.specs.Views.{ins, outs}
use Rattle.jet_tasklet.specs.Meeting.{HasEnd, HasQueue, OutputMet, InputMet, AnyGiverMet, AnyTakerMet, AnyLinkMet}
use Rattle.jet_tasklet.proofs.AnyMeeting.{any_kept, any_keeps}
use Rattle.jet_tasklet.specs.inner.Chain.{ring_in, ring_out, Ends, ends_of, all_ends, AreLinked, AreJoined, IsChain}
use Rattle.jet_tasklet.proofs.Keeping.{lawful_goes}
use Rattle.jet_tasklet.proofs.Linking.{link_next}

-- ---- a turn
ring_in_stays : (vs ws : List InputView) → AllZip InputGoes vs ws → ring_in ws ≡ ring_in vs
ring_in_stays [] [] h = refl
ring_in_stays [] (w ∷ ws) h = absurd h
ring_in_stays (v ∷ vs) [] h = absurd h
ring_in_stays (v ∷ vs) (w ∷ ws) h = ap (λ (rs : List Ring). slice_get rs 0) h.0.rings

ring_out_stays : (os ps : List OutputView) → AllZip OutputGoes os ps → ring_out ps ≡ ring_out os
ring_out_stays [] [] h = refl
ring_out_stays [] (p ∷ ps) h = absurd h
ring_out_stays (o ∷ os) [] h = absurd h
ring_out_stays (o ∷ os) (p ∷ ps) h = ap (λ (rs : List Ring). slice_get rs 0) h.0.same.rings_kept

abbrev ends_by : Option Ring → Option Ring → Ends
ends_by a b = record { takes = a; gives = b }

turned_ends : {P : Type 0} (same : P → P → Type 0) (a b : Tasklet P) → Turned same a b → ends_by (ring_in (inputs_view b.inputs.items)) (ring_out (outputs_view b.outputs.items)) ≡ ends_by (ring_in (inputs_view a.inputs.items)) (ring_out (outputs_view a.outputs.items))
turned_ends same a b h =
    ap (λ (r : Option Ring). ends_by r (ring_out (outputs_view b.outputs.items))) (ring_in_stays (inputs_view a.inputs.items) (inputs_view b.inputs.items) h.inputs)
    ∙ ap (λ (r : Option Ring). ends_by (ring_in (inputs_view a.inputs.items)) r) (ring_out_stays (outputs_view a.outputs.items) (outputs_view b.outputs.items) h.outputs)

pub any_turned_ends : (t u : AnyTasklet) → AnyTurned t u → ends_of u ≡ ends_of t
any_turned_ends (any.Stamp t) (any.Stamp u) h = turned_ends stamps.same t u h
any_turned_ends (any.Map t) (any.Map u) h = turned_ends maps.same t u h
any_turned_ends (any.Filter t) (any.Filter u) h = turned_ends filters.same t u h
any_turned_ends (any.Flat t) (any.Flat u) h = turned_ends flats.same t u h
any_turned_ends (any.Join t) (any.Join u) h = turned_ends joins.same t u h
any_turned_ends (any.Frame t) (any.Frame u) h = turned_ends frames.same t u h
any_turned_ends (any.Combine t) (any.Combine u) h = turned_ends combines.same t u h
any_turned_ends (any.Send t) (any.Send u) h = ap (λ (rs : List Ring). ends_by (slice_get rs 0) None) h.queues.rings
any_turned_ends (any.Receive t) (any.Receive u) h = ap (λ (rs : List Ring). ends_by None (slice_get rs 0)) h.router.same.rings_kept
any_turned_ends t u h = absurd h

pub any_lawful_next : (t u : AnyTasklet) → AnyIsLawful t → AnyGoes t u → AnyIsLawful u
any_lawful_next (any.Stamp t) (any.Stamp u) l f = lawful_goes stamps.stands stamps.amid stamps.takes t u l f
any_lawful_next (any.Map t) (any.Map u) l f = lawful_goes maps.stands maps.amid maps.takes t u l f
any_lawful_next (any.Filter t) (any.Filter u) l f = lawful_goes filters.stands filters.amid filters.takes t u l f
any_lawful_next (any.Flat t) (any.Flat u) l f = lawful_goes flats.stands flats.amid flats.takes t u l f
any_lawful_next (any.Join t) (any.Join u) l f = lawful_goes joins.stands joins.amid joins.takes t u l f
any_lawful_next (any.Frame t) (any.Frame u) l f = lawful_goes frames.stands frames.amid frames.takes t u l f
any_lawful_next (any.Combine t) (any.Combine u) l f = lawful_goes combines.stands combines.amid combines.takes t u l f
any_lawful_next (any.Send t) (any.Send u) l f = link_next SendKeeps (sender_view t) (sender_view u) l f
any_lawful_next (any.Receive t) (any.Receive u) l f = link_next ReceiveKeeps (receiver_view t) (receiver_view u) l f
any_lawful_next t u l f = absurd f

-- ---- a meeting
some_is : {X : Type 0} (x y : X) → Some x ≡ Some y → x ≡ y
some_is x y e = cc

-- the first output, and its first ring
pub out_first : (os : List Output) (r : Router) (q : Ring) → slice_get (map (λ (o : Output). o.router) os) 0 ≡ Some r → ring_out (outputs_view os) ≡ Some q → slice_get (router.rings (router.view r)) 0 ≡ Some q
out_first [] r q at ring = absurd (cc)
out_first (o ∷ os) r q at ring = subst (λ (w : Router). slice_get (router.rings (router.view w)) 0 ≡ Some q) (some_is o.router r at) ring

pub out_some : (os : List Output) (q : Ring) → ring_out (outputs_view os) ≡ Some q → 0 < length os
out_some [] q ring = absurd (cc)
out_some (o ∷ os) q ring = omega arith

out_set : (os : List Output) (d w : Router) (h : Bool) → router.rings (router.view w) ≡ router.rings (router.view d) → slice_get (map (λ (o : Output). o.router) os) 0 ≡ Some d → ring_out (outputs_view (set os 0 (record { router = w; had = h }))) ≡ ring_out (outputs_view os)
out_set [] d w h same at = refl
out_set (o ∷ os) d w h same at = ap (λ (rs : List Ring). slice_get rs 0) same ∙ ap (λ (r : Router). slice_get (router.rings (router.view r)) 0) (sym (some_is o.router d at))

pub any_output_ends : (t : AnyTasklet) (d : ℕ) (was w : Router) → slice_get (map (λ (o : Output). o.router) (outputs_of t)) 0 ≡ Some was → router.Refreshed (router.view was) (router.view w) d → ends_of (any_with_output t 0 was w) ≡ ends_of t
any_output_ends (any.Stamp t) d was w at met = ap (λ (r : Option Ring). ends_by (ring_in (inputs_view t.inputs.items)) r) (out_set t.outputs.items was w (get_or t.outputs.items 0 (record { router = was; had = false })).had met.same.rings_kept at)
any_output_ends (any.Map t) d was w at met = ap (λ (r : Option Ring). ends_by (ring_in (inputs_view t.inputs.items)) r) (out_set t.outputs.items was w (get_or t.outputs.items 0 (record { router = was; had = false })).had met.same.rings_kept at)
any_output_ends (any.Filter t) d was w at met = ap (λ (r : Option Ring). ends_by (ring_in (inputs_view t.inputs.items)) r) (out_set t.outputs.items was w (get_or t.outputs.items 0 (record { router = was; had = false })).had met.same.rings_kept at)
any_output_ends (any.Flat t) d was w at met = ap (λ (r : Option Ring). ends_by (ring_in (inputs_view t.inputs.items)) r) (out_set t.outputs.items was w (get_or t.outputs.items 0 (record { router = was; had = false })).had met.same.rings_kept at)
any_output_ends (any.Join t) d was w at met = ap (λ (r : Option Ring). ends_by (ring_in (inputs_view t.inputs.items)) r) (out_set t.outputs.items was w (get_or t.outputs.items 0 (record { router = was; had = false })).had met.same.rings_kept at)
any_output_ends (any.Frame t) d was w at met = ap (λ (r : Option Ring). ends_by (ring_in (inputs_view t.inputs.items)) r) (out_set t.outputs.items was w (get_or t.outputs.items 0 (record { router = was; had = false })).had met.same.rings_kept at)
any_output_ends (any.Combine t) d was w at met = ap (λ (r : Option Ring). ends_by (ring_in (inputs_view t.inputs.items)) r) (out_set t.outputs.items was w (get_or t.outputs.items 0 (record { router = was; had = false })).had met.same.rings_kept at)
any_output_ends (any.Send s) d was w at met = absurd (cc)
any_output_ends (any.Receive r) d was w at met = ap (λ (o : Option Ring). ends_by None o) (out_set (outputs_of (any.Receive r)) was w false met.same.rings_kept at)

-- ---- the list
pub each_get : (xs : List AnyTasklet) (i : ℕ) (x : AnyTasklet) → i < length xs → x ≡ get_or xs i x → Each AnyIsLawful xs → AnyIsLawful x
each_get [] i x lt at h = absurd (omega (arith, lt))
each_get (y ∷ xs) zero x lt at h = subst AnyIsLawful (sym at) h.0
each_get (y ∷ xs) (suc i) x lt at h = each_get xs i x (omega (arith, lt)) at h.1

pub each_put : (xs : List AnyTasklet) (i : ℕ) (y : AnyTasklet) → Each AnyIsLawful xs → AnyIsLawful y → Each AnyIsLawful (set xs i y)
each_put [] i y h k = tt
each_put (x ∷ xs) zero y h k = (k, h.1)
each_put (x ∷ xs) (suc i) y h k = (h.0, each_put xs i y h.1 k)

pub ends_put : (xs : List AnyTasklet) (i : ℕ) (x y : AnyTasklet) → x ≡ get_or xs i x → ends_of y ≡ ends_of x → all_ends (set xs i y) ≡ all_ends xs
ends_put [] i x y at same = refl
ends_put (z ∷ xs) zero x y at same = ap (λ (e : Ends). e ∷ all_ends xs) (same ∙ ap ends_of at)
ends_put (z ∷ xs) (suc i) x y at same = ap (λ (es : List Ends). ends_of z ∷ es) (ends_put xs i x y at same)

ends_at : (xs : List AnyTasklet) (i : ℕ) (x : AnyTasklet) → x ≡ get_or xs i x → get_or (all_ends xs) i (ends_of x) ≡ ends_of x
ends_at [] i x at = refl
ends_at (z ∷ xs) zero x at = ap ends_of (sym at)
ends_at (z ∷ xs) (suc i) x at = ends_at xs i x at

-- one and the next of a chain
pub joined_at : (from to : Ring) (es : List Ends) (i : ℕ) (d e : Ends) → suc i < length es → AreLinked from es to → AreJoined (get_or es i d) (get_or es (suc i) e)
joined_at from to [] i d e lt h = absurd (omega (arith, lt))
joined_at from to (a ∷ []) i d e lt h = absurd (omega (arith, lt))
joined_at from to (a ∷ (b ∷ es)) zero d e lt h = (h.0, h.2, h.3.1)
joined_at from to (a ∷ (b ∷ es)) (suc i) d e lt h = joined_at h.0 to (b ∷ es) i d e (omega (arith, lt)) h.3

length_put : (xs : List AnyTasklet) (i : ℕ) (y : AnyTasklet) → length (set xs i y) ≡ length xs
length_put [] i y = refl
length_put (x ∷ xs) zero y = refl
length_put (x ∷ xs) (suc i) y = ap suc (length_put xs i y)

-- one tasklet of a chain changed to another with the same ends
pub chain_put : (from to : Ring) (xs : List AnyTasklet) (i : ℕ) (x y : AnyTasklet) → i < length xs → x ≡ get_or xs i x → IsChain from xs to → (AnyIsLawful x → AnyIsLawful y) → ends_of y ≡ ends_of x → IsChain from (set xs i y) to
chain_put from to xs i x y lt at k f same = record {
  three = length_put xs i y ∙ k.three;
  lawful = each_put xs i y k.lawful (f (each_get xs i x lt at k.lawful));
  linked = subst (λ (es : List Ends). AreLinked from es to) (sym (ends_put xs i x y at same)) k.linked;
}

get_left : (xs ys : List AnyTasklet) (i : ℕ) (d : AnyTasklet) → i < length xs → get_or (xs ++ ys) i d ≡ get_or xs i d
get_left [] ys i d lt = absurd (omega (arith, lt))
get_left (x ∷ xs) ys zero d lt = refl
get_left (x ∷ xs) ys (suc i) d lt = get_left xs ys i d (omega (arith, lt))

get_behind : (xs ys : List AnyTasklet) (n : ℕ) (d : AnyTasklet) → length xs ≡ n → get_or (xs ++ ys) n d ≡ get_or ys 0 d
get_behind [] ys zero d len = refl
get_behind [] ys (suc n) d len = absurd (omega (arith, len))
get_behind (x ∷ xs) ys zero d len = absurd (omega (arith, len))
get_behind (x ∷ xs) ys (suc n) d len = get_behind xs ys n d (omega (arith, len))

-- two neighbours of a chain that is cut between them changed to others with the same ends
pub chain_met : (from to : Ring) (xs front back rest : List AnyTasklet) (i n : ℕ) (x y g t : AnyTasklet) → xs ≡ front ++ back → length front ≡ i + 1 → 0 < length back → length xs ≡ n
    → x ≡ get_or front i x → y ≡ get_or back 0 y → IsChain from xs to → AnyIsLawful g → AnyIsLawful t → ends_of g ≡ ends_of x → ends_of t ≡ ends_of y
    → IsChain from (take n ((set front i g ++ set back 0 t) ++ rest)) to
chain_met from to xs front back rest i n x y g t parts cut some len at_x at_y k lawful_g lawful_t same_g same_t =
    let a : List AnyTasklet = set front i g in
    let b : List AnyTasklet = set back 0 t in
    let first : IsChain from (set (front ++ back) i g) to =
    chain_put from to (front ++ back) i x g (omega (arith, cut, length-append front back)) (at_x ∙ sym (get_left front back i x (omega (arith, cut)))) (subst (λ (zs : List AnyTasklet). IsChain from zs to) parts k) (λ l. lawful_g) same_g in
    let cut_a : length a ≡ i + 1 = length_put front i g ∙ cut in
    let second : IsChain from (set (a ++ back) (i + 1) t) to =
    chain_put from to (a ++ back) (i + 1) y t (omega (arith, cut_a, some, length-append a back)) (at_y ∙ sym (get_behind a back (i + 1) y cut_a)) (subst (λ (zs : List AnyTasklet). IsChain from zs to) (set-append_left front back i g (omega (arith, cut))) first) (λ l. lawful_t) same_t in
    let none : (i + 1) - (i + 1) ≡ 0 = omega arith in
    let both : IsChain from (a ++ b) to =
    subst (λ (zs : List AnyTasklet). IsChain from zs to) (set-append_right a back (i + 1) (i + 1) t cut_a (omega arith) ∙ ap (λ (j : ℕ). a ++ set back j t) none) second in
    let whole : length (a ++ b) ≡ n = omega (arith, length-append a b, cut_a, length_put back 0 t, ap length parts, length-append front back, cut, len) in
    subst (λ (zs : List AnyTasklet). IsChain from zs to) (sym (take_at (a ++ b) rest n whole)) both

-- what the first takes from, and what the last gives into
pub first_takes : (from to : Ring) (xs : List AnyTasklet) (x : AnyTasklet) → x ≡ get_or xs 0 x → IsChain from xs to → (ends_of x).takes ≡ Some from
first_takes from to [] x at k = absurd (omega (arith, k.three))
first_takes from to (a ∷ xs) x at k = ap (λ (t : AnyTasklet). (ends_of t).takes) at ∙ k.linked.1

pub last_gives : (from to : Ring) (xs : List AnyTasklet) (x : AnyTasklet) → x ≡ get_or xs 2 x → IsChain from xs to → (ends_of x).gives ≡ Some to
last_gives from to [] x at k = absurd (omega (arith, k.three))
last_gives from to (a ∷ []) x at k = absurd (omega (arith, k.three))
last_gives from to (a ∷ (b ∷ [])) x at k = absurd (omega (arith, k.three))
last_gives from to (a ∷ (b ∷ (c ∷ []))) x at k = ap (λ (t : AnyTasklet). (ends_of t).gives) at ∙ (k.linked.3.3.2 ∙ ap Some k.linked.3.3.3)
last_gives from to (a ∷ (b ∷ (c ∷ (d ∷ xs)))) x at k = absurd (omega (arith, k.three))

-- ---- the ends of the first output and the first input, as a meeting wants them and leaves them
some_in : {X Y : Type 0} (f : X → Y) (xs : List X) (y : Y) → slice_get (map f xs) 0 ≡ Some y → (x : X) × (slice_get xs 0 ≡ Some x) × (f x ≡ y)
some_in f [] y at = absurd (cc)
some_in f (x ∷ xs) y at = (x, refl, some_is (f x) y at)

pub first_end : (os : List OutputView) (r : Ring) → ring_out os ≡ Some r → (tx : TxView Item) × HasEnd os 0 0 tx × (tx.ring ≡ r)
first_end [] r at = absurd (cc)
first_end (o ∷ os) r at =
    let end = some_in (λ (t : TxView Item). t.ring) (router.txs o.router) r at in
    (end.0, record { output = o; at = refl; is = end.1 }, end.2)

pub first_queue : (vs : List InputView) (r : Ring) → ring_in vs ≡ Some r → (rx : RxView Item) × HasQueue vs 0 0 rx × (rx.ring ≡ r)
first_queue [] r at = absurd (cc)
first_queue (v ∷ vs) r at = (
  record { ring = r; received = conveyor.received_at v.queues 0; known = conveyor.known_at v.queues 0 },
  record { input = v; at = refl; is = record { ring = at; received = refl; known = refl } },
  refl,
)

ring_out_met : (os ps : List OutputView) (d : ℕ) → OutputMet os ps 0 d → ring_out ps ≡ ring_out os
ring_out_met [] ps d m = let none = m.at in absurd (cc)
ring_out_met (o ∷ os) ps d m =
    ap ring_out m.others ∙ (ap (λ (rs : List Ring). slice_get rs 0) m.met.same.rings_kept ∙ ap (λ (v : OutputView). slice_get (router.rings v.router) 0) (sym (some_is o m.was m.at)))

ring_in_met : (vs ws : List InputView) (q : ℕ) → InputMet vs ws 0 q → ring_in ws ≡ ring_in vs
ring_in_met [] ws q m = let none = m.at in absurd (cc)
ring_in_met (v ∷ vs) ws q m =
    ap ring_in m.others ∙ (ap (λ (rs : List Ring). slice_get rs 0) m.met.rings ∙ ap (λ (u : InputView). slice_get u.queues.rings 0) (sym (some_is v m.was m.at)))

pub giver_ends : (t u : AnyTasklet) (d : ℕ) → AnyGiverMet t u 0 d → ends_of u ≡ ends_of t
giver_ends t u d m = ap (λ (vs : List InputView). ends_by (ring_in vs) (ring_out (outs u))) m.inputs ∙ ap (ends_by (ring_in (ins t))) (ring_out_met (outs t) (outs u) d m.outputs)

pub taker_ends : (t u : AnyTasklet) (q : ℕ) → AnyTakerMet t u 0 q → ends_of u ≡ ends_of t
taker_ends t u q m = ap (λ (os : List OutputView). ends_by (ring_in (ins u)) (ring_out os)) m.outputs ∙ ap (λ (r : Option Ring). ends_by r (ring_out (outs t))) (ring_in_met (ins t) (ins u) q m.inputs)

pub link_ends : (t u : AnyTasklet) → AnyLinkMet t u → ends_of u ≡ ends_of t
link_ends t u m = ap (λ (vs : List InputView). ends_by (ring_in vs) (ring_out (outs u))) m.inputs ∙ ap (λ (os : List OutputView). ends_by (ring_in (ins t)) (ring_out os)) m.outputs

pub lawful_met : (t u : AnyTasklet) → ((came : List Arrival) (gave : List Item) → AnyKeeps t came gave → AnyKeeps u came gave) → AnyIsLawful t → AnyIsLawful u
lawful_met t u keeps l =
    let k = any_keeps t l in
    any_kept u k.0 k.1 (keeps k.0 k.1 k.2)
