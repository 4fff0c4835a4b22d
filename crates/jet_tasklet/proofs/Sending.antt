-- What each destination was sent, of what the processor gave.
use Rattle.std.proofs.Common.{◌≡◌, ℕ, ◌<◌, ◌≤◌, ◌==◌, ◌&&◌, Bool, true, false, cond, List, [], ◌∷◌, ◌++◌, refl, sym, ◌∙◌, ap, subst, append-nil, inl, inr, arith}
use Rattle.std.specs.Prelude.{Option, Some, None, ℤ}
use Rattle.std.proofs.lemmas.Bool.Decides.{eqb_tells}
use Rattle.jet_items.specs.declared.item.Item.{Item}
use Rattle.jet_items.specs.declared.item.Item.TheVariants as item
use Rattle.jet_items.specs.Order.{Each, Sound, SoundAfter, LateIsBehind, Closed, ClosedAfter}
use Rattle.jet_items.proofs.Orders.{Each-append, Each-front, Each-more, EachPair-append, Sound-front, Closed-front}
use Rattle.jet_boxes.specs.declared.port.Port.{Port}
use Rattle.jet_boxes.specs.declared.port.Port.TheVariants.{Stream, Build}
use Rattle.jet_boxes.specs.Entry.{items_of, NotDone}
use Rattle.jet_tasklet.specs.declared.arrival.Arrival.{Arrival}
use Rattle.jet_tasklet.specs.declared.step.Step.{Step}
use Rattle.jet_tasklet.specs.declared.step.Step.TheVariants as step
use Rattle.jet_tasklet.specs.declared.step.Pending.TheVariants as call
use Rattle.jet_tasklet.specs.Trace.{same_port, is_from, of_queue, called, tells, asks, entries_after, entries}
use Rattle.jet_tasklet.specs.Steps.{finale}
use Rattle.jet_tasklet.specs.Keeps.{told}
use Rattle.jet_tasklet.specs.Sending.{EachFront}
use Rattle.jet_tasklet.proofs.Pushing.{items_of-append}
use Rattle.jet_tasklet.proofs.GenericLaws.{Passing, bool_cases, each_part, pair_part}

-- ---- order
pub sound_passing : (behind : ℕ → ℕ → Bool) → Passing (Sound behind)
sound_passing behind = record {
  part = λ k deals s. record { after = pair_part (SoundAfter behind) k deals s.after; lates = each_part (LateIsBehind behind) k deals s.lates };
  front = λ xs ys s. Sound-front behind xs ys s;
}

pub closed_passing : Passing Closed
closed_passing = record {
  part = λ k deals s. record { after = pair_part ClosedAfter k deals s.after };
  front = λ xs ys s. Closed-front xs ys s;
}

-- ---- the end
sound_end : (behind : ℕ → ℕ → Bool) (x : Item) → SoundAfter behind x item.Done
sound_end behind (item.Event e) = tt
sound_end behind (item.Side s) = tt
sound_end behind (item.Frame f) = tt
sound_end behind (item.Row r) = tt
sound_end behind (item.Late l) = tt
sound_end behind item.Idle = tt
sound_end behind (item.Mark m) = tt
sound_end behind item.Done = tt

all_each : {X : Type 0} (P : X → Type 0) → ((x : X) → P x) → (xs : List X) → Each P xs
all_each P f [] = tt
all_each P f (x ∷ xs) = (f x, all_each P f xs)

pub sound_done : (behind : ℕ → ℕ → Bool) (given : List Item) → Sound behind given → Sound behind (given ++ item.Done ∷ [])
sound_done behind given s = record {
  after = EachPair-append (SoundAfter behind) given (item.Done ∷ []) s.after (tt, tt) (all_each (λ (x : Item). Each (SoundAfter behind x) (item.Done ∷ [])) (λ x. (sound_end behind x, tt)) given);
  lates = Each-append (LateIsBehind behind) given (item.Done ∷ []) s.lates (tt, tt);
}

closed_end : (x : Item) → NotDone x → Each (ClosedAfter x) (item.Done ∷ [])
closed_end (item.Event e) h = (tt, tt)
closed_end (item.Side s) h = (tt, tt)
closed_end (item.Frame f) h = (tt, tt)
closed_end (item.Row r) h = (tt, tt)
closed_end (item.Late l) h = (tt, tt)
closed_end item.Idle h = (tt, tt)
closed_end (item.Mark m) h = (tt, tt)
closed_end item.Done h = absurd h

pub closed_done : (given : List Item) → Each NotDone given → Closed given → Closed (given ++ item.Done ∷ [])
closed_done given h s = record { after = EachPair-append ClosedAfter given (item.Done ∷ []) s.after (tt, tt) (Each-more NotDone (λ (x : Item). Each (ClosedAfter x) (item.Done ∷ [])) closed_end given h) }

-- ---- what the processor was told
finale_none : (s : Step) → items_of (finale s) ≡ []
finale_none step.Poll = refl
finale_none (step.Make (call.Accept a)) = refl
finale_none (step.Make (call.Close port q then)) = refl
finale_none (step.Make (call.Tell t)) = refl
finale_none (step.Make call.Finish) = refl
finale_none step.End = refl
finale_none step.Ended = refl

pub told_items : (s : Step) (n : ℕ) (came : List Arrival) → items_of (told s n came) ≡ items_of (entries n came)
told_items s n came = items_of-append (entries n came) (finale s) ∙ (ap (λ (xs : List Item). items_of (entries n came) ++ xs) (finale_none s) ∙ append-nil (items_of (entries n came)))

pub told_fronts : (Q : List Item → Type 0) → ((xs ys : List Item) → Q (xs ++ ys) → Q xs) → (s : Step) (n : ℕ) (came : List Arrival) → Q (items_of (entries n came)) → EachFront (λ taken. Q (items_of taken)) (told s n came)
told_fronts Q front s n came q taken more is =
    let split : items_of taken ++ items_of more ≡ items_of (entries n came) = sym (items_of-append taken more) ∙ (ap items_of (sym is) ∙ told_items s n came) in
    front (items_of taken) (items_of more) (subst Q (sym split) q)

-- a processor is told no Done
called_open : (port : Port) (q : ℕ) (x : Item) (o : Option ℤ) → Each NotDone (items_of (called port q x ++ tells o))
called_open port q (item.Event e) None = (tt, tt)
called_open port q (item.Event e) (Some t) = (tt, (tt, tt))
called_open port q (item.Side s) None = (tt, tt)
called_open port q (item.Side s) (Some t) = (tt, (tt, tt))
called_open port q (item.Frame f) None = (tt, tt)
called_open port q (item.Frame f) (Some t) = (tt, (tt, tt))
called_open port q (item.Row r) None = (tt, tt)
called_open port q (item.Row r) (Some t) = (tt, (tt, tt))
called_open port q (item.Late l) None = (tt, tt)
called_open port q item.Idle None = (tt, tt)
called_open port q (item.Late l) (Some t) = (tt, (tt, tt))
called_open port q item.Idle (Some t) = (tt, (tt, tt))
called_open port q (item.Mark m) None = tt
called_open port q (item.Mark m) (Some t) = (tt, tt)
called_open port q item.Done None = tt
called_open port q item.Done (Some t) = (tt, tt)

after_open : (n : ℕ) (before came : List Arrival) → Each NotDone (items_of (entries_after n before came))
after_open n before [] = tt
after_open n before (a ∷ came) =
    subst (Each NotDone) (sym (items_of-append (asks n before a) (entries_after n (before ++ a ∷ []) came)))
    (Each-append NotDone (items_of (asks n before a)) (items_of (entries_after n (before ++ a ∷ []) came)) (called_open a.port a.queue a.item _) (after_open n (before ++ a ∷ []) came))

pub told_open : (s : Step) (n : ℕ) (came : List Arrival) → EachFront (λ taken. Each NotDone (items_of taken)) (told s n came)
told_open s n came = told_fronts (Each NotDone) (Each-front NotDone) s n came (after_open n [] came)

-- nothing came of a queue that is not there
port_eq : (p q : Port) → same_port p q ≡ true → p ≡ q
port_eq Stream Stream h = refl
port_eq Stream Build h = absurd (cc)
port_eq Build Stream h = absurd (cc)
port_eq Build Build h = refl

and_left : (a b : Bool) → (a && b) ≡ true → (a ≡ true) × (b ≡ true)
and_left true b h = (refl, h)
and_left false b h = absurd (cc)

same_number : (a b : ℕ) → (a == b) ≡ true → a ≡ b
same_number a b h = elim (eqb_tells a b) [ inl e ↦ e.1 | inr e ↦ absurd (let f : (a == b) ≡ false = e.0 in cc) ]

pub none_outside : (queues : Port → ℕ) (port : Port) (q : ℕ) (came : List Arrival) → Each (λ a. a.queue < queues a.port) came → queues port ≤ q → of_queue port q came ≡ []
none_outside queues port q [] h le = refl
none_outside queues port q (a ∷ came) h le =
    elim (bool_cases (is_from port q a)) [
      | inl e ↦
          let both = and_left (same_port a.port port) (a.queue == q) e in
          let is : a.port ≡ port = port_eq a.port port both.0 in
          let number : a.queue ≡ q = same_number a.queue q both.1 in
          let lt : a.queue < queues port = subst (λ (p : Port). a.queue < queues p) is h.0 in
          absurd (omega (arith, number, lt, le))
      | inr e ↦ ap (λ (b : Bool). cond b (a.item ∷ []) [] ++ of_queue port q came) e ∙ none_outside queues port q came h.1 le
    ]
