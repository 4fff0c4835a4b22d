-- The order of what a sender passes on, and its marks, from what came from each queue.
use Rattle.std.proofs.Common.{◌≡◌, ℕ, zero, suc, ◌<◌, ◌==◌, ◌||◌, Bool, true, false, not, cond, ℤ, ◌≤ℤ◌, ◌<ℤ◌, List, [], ◌∷◌, ◌++◌, map, refl, sym, ◌∙◌, ap, subst, append-nil, append_assoc, arith, inl, inr}
use Rattle.std.specs.Prelude.{Option, Some, None, ◌⊎◌, fold, int_lt, slice_get}
use Rattle.std.specs.List.{reduce, last_or, Contains}
use Rattle.std.specs.Prelude.{All}
use Rattle.std.specs.Option.{IsSomeAnd}
use Rattle.std.specs.Int.{int_max}
use Rattle.std.proofs.lemmas.Int.{ints, fold-int_max_bounds, fold-int_max_reached}
use Rattle.std.proofs.lemmas.List.Concat.{flat_map-append}
use Rattle.std.proofs.lemmas.List.Elements.{All-nil, All-cons, All-head, All-tail, All-contains}
use Rattle.std.proofs.lemmas.List.Sums.{fold-append}
use Rattle.jet_items.specs.declared.item.Item.{Item}
use Rattle.jet_items.specs.declared.item.Item.TheVariants as item
use Rattle.jet_items.specs.Done.{is_done}
use Rattle.jet_items.specs.Kinds.{as_mark, marks_of}
use Rattle.jet_items.specs.Order.{Each, EachPair}
use Rattle.jet_items.proofs.Orders.{Each-append, Each-front, Each-back, Each-more, EachPair-append, EachPair-front, EachPair-across}
use Rattle.jet_coalescer.specs.declared.queue.Queue.{Queue}
use Rattle.jet_coalescer.specs.Laws.{LowIsLeast, LowHoldsNoneBack}
use Rattle.jet_coalescer.specs.Low.{History, known, low, all_done, risen, has_risen, raised, change_of}
use Rattle.jet_coalescer.specs.Queues.{counts, HaveReached}
use Rattle.jet_wire.specs.Passing.{Taken, MayFollow, InOrder, of_queue, has_ended, history, histories, heard, mark_items, change_items, passed_of, passes, passed}
use Rattle.jet_wire.proofs.DoneLast.{not_all, still_open}
use Rattle.jet_wire.proofs.Heard.{of_queue-push, own_queue, passed-push, quiet_heard}
use Rattle.jet_wire.proofs.Histories.{open_front, risen_is}

-- ---- the greatest mark of a queue
-- items with a mark, of which the greatest is not below t
abbrev pub Reaches : ℤ → List Item → Type 0
Reaches t xs = IsSomeAnd (reduce int_max (marks_of xs)) (λ m. t ≤ℤ m)

more_reach : (t : ℤ) (ms more : List ℤ) → IsSomeAnd (reduce int_max ms) (λ m. t ≤ℤ m) → IsSomeAnd (reduce int_max (ms ++ more)) (λ m. t ≤ℤ m)
more_reach t [] more h = absurd h
more_reach t (x ∷ xs) more h =
    let at : t ≤ℤ fold int_max x xs = h in
    let up : fold int_max x xs ≤ℤ fold int_max (fold int_max x xs) more = (fold-int_max_bounds (fold int_max x xs) more (fold int_max (fold int_max x xs) more) refl).0 in
    subst (λ (m : ℤ). t ≤ℤ m) (sym (fold-append int_max x xs more)) (omega (arith, ints, at, up))

reaches_more : (t : ℤ) (xs ys : List Item) → Reaches t xs → Reaches t (xs ++ ys)
reaches_more t xs ys h = subst (λ (ms : List ℤ). IsSomeAnd (reduce int_max ms) (λ m. t ≤ℤ m)) (sym (flat_map-append as_mark xs ys)) (more_reach t (marks_of xs) (marks_of ys) h)

each_all : (P : ℤ → Type 0) (ms : List ℤ) → Each P ms → All P ms
each_all P [] h = All-nil P
each_all P (m ∷ ms) h = All-cons P m ms h.0 (each_all P ms h.1)

pub all_each : (P : ℤ → Type 0) (ms : List ℤ) → All P ms → Each P ms
all_each P [] h = tt
all_each P (m ∷ ms) h = (All-head P m ms h, all_each P ms (All-tail P m ms h))

-- what holds of each mark holds of the greatest
first_or : (P : ℤ → Type 0) (x : ℤ) (xs : List ℤ) (m : ℤ) → Each P (x ∷ xs) → (m ≡ x) ⊎ Contains xs m → P m
first_or P x xs m all (inl e) = subst P (sym e) all.0
first_or P x xs m all (inr c) = All-contains P xs m (each_all P xs all.1) c

greatest_has : (P : ℤ → Type 0) (ms : List ℤ) (m : ℤ) → Each P ms → reduce int_max ms ≡ Some m → P m
greatest_has P [] m all is = absurd (cc)
greatest_has P (x ∷ xs) m all is =
    let r : m ≡ fold int_max x xs = cc in
    first_or P x xs m all (fold-int_max_reached x xs m r)

-- ---- the greatest marks of all queues
-- each of n queues without Done has reached t
abbrev pub AllReach : ℕ → ℤ → (ℕ → List Item) → Type 0
AllReach n t lists = (q : ℕ) → q < n → has_ended (lists q) ≡ false → Reaches t (lists q)

abbrev pub lists_of : List Taken → ℕ → List Item
lists_of came q = of_queue q came

all_reach_more : (n : ℕ) (t : ℤ) (came : List Taken) (a : Taken) → AllReach n t (lists_of came) → AllReach n t (lists_of (came ++ a ∷ []))
all_reach_more n t came a h q lt still =
    let more : List Item = cond (a.queue == q) (a.item ∷ []) [] in
    let grown : of_queue q (came ++ a ∷ []) ≡ of_queue q came ++ more = of_queue-push q came a in
    let was : has_ended (of_queue q came) ≡ false = open_front (of_queue q came) more (ap has_ended (sym grown) ∙ still) in
    subst (Reaches t) (sym grown) (reaches_more t (of_queue q came) more (h q lt was))

get_known : (n : ℕ) (f : ℕ → List Item) (q : ℕ) → q < n → slice_get (map known (histories n f)) q ≡ Some (known (history (f q)))
get_known zero f q lt = absurd (omega (arith, lt))
get_known (suc n) f zero lt = refl
get_known (suc n) f (suc q) lt = get_known n (λ k. f (suc k)) q (omega (arith, lt))

known_at : (n : ℕ) (f : ℕ → List Item) (q : ℕ) (queue : Queue) → slice_get (map known (histories n f)) q ≡ Some queue → (q < n) × (known (history (f q)) ≡ queue)
known_at zero f q queue is = absurd (cc)
known_at (suc n) f zero queue is = (omega arith, (let same : Some (known (history (f 0))) ≡ Some queue = is in cc))
known_at (suc n) f (suc q) queue is = let r = known_at n (λ k. f (suc k)) q queue is in (omega (arith, r.0), r.1)

counts_open : (b : Bool) → b ≡ false → not (b || false) ≡ true
counts_open true h = absurd (cc)
counts_open false h = refl

open_counts : (b : Bool) → not (b || false) ≡ true → b ≡ false
open_counts true h = absurd (cc)
open_counts false h = refl

have_reached : (n : ℕ) (t : ℤ) (f : ℕ → List Item) → AllReach n t f → HaveReached (map known (histories n f)) t
have_reached n t f h q queue is counted =
    let at = known_at n f q queue is in
    subst (λ (p : Queue). IsSomeAnd p.mark (λ m. t ≤ℤ m)) at.1 (h q at.0 (open_counts (has_ended (f q)) (ap counts at.1 ∙ counted)))

pub all_reach : (n : ℕ) (t : ℤ) (f : ℕ → List Item) → HaveReached (map known (histories n f)) t → AllReach n t f
all_reach n t f h q lt still = h q (known (history (f q))) (get_known n f q lt) (counts_open (has_ended (f q)) still)

pub low_reaches : LowHoldsNoneBack → (n : ℕ) (s : ℤ) (f : ℕ → List Item) → all_done (histories n f) ≡ false → AllReach n s f → IsSomeAnd (low (histories n f)) (λ t. s ≤ℤ t)
low_reaches holds n s f left h = holds (histories n f) s left (have_reached n s f h)

low_reached : LowIsLeast → (n : ℕ) (t : ℤ) (f : ℕ → List Item) → low (histories n f) ≡ Some t → AllReach n t f
low_reached least n t f is = all_reach n t f (least (histories n f) t is).reached

-- ---- a watermark that rose
-- it is above each time that the watermark before had reached
above : (before : Option ℤ) (t u : ℤ) → IsSomeAnd before (λ m. t ≤ℤ m) → has_risen before u ≡ true → t <ℤ u
above None t u h rose = absurd h
above (Some s) t u h rose = let at : t ≤ℤ s = h in omega (arith, ints, at, rose)

-- ---- kinds of items
-- neither a mark nor Done
abbrev pub IsPlain : Item → Type 0
IsPlain x = (as_mark x ≡ []) × (is_done x ≡ false)

abbrev Kinds : Item → Type 0
Kinds x = IsPlain x ⊎ (((t : ℤ) × (x ≡ item.Mark t)) ⊎ (x ≡ item.Done))

kind_of : (x : Item) → Kinds x
kind_of (item.Event e) = inl (refl, refl)
kind_of (item.Side s) = inl (refl, refl)
kind_of (item.Frame f) = inl (refl, refl)
kind_of (item.Row r) = inl (refl, refl)
kind_of (item.Late l) = inl (refl, refl)
kind_of item.Idle = inl (refl, refl)
kind_of (item.Mark t) = inr (inl (t, refl))
kind_of item.Done = inr (inr refl)

-- what is passed on of one item: of data that, and else one mark or Done at most
pub data Gift (x : Item) (before now : List History) (ys : List Item) : Type 0 where
  Plain : IsPlain x → ys ≡ x ∷ [] → Gift x before now ys
  Risen : (u : ℤ) → risen (low before) (low now) ≡ Some u → ys ≡ item.Mark u ∷ [] → Gift x before now ys
  Ended : all_done now ≡ true → ys ≡ item.Done ∷ [] → Gift x before now ys
  Nothing : risen (low before) (low now) ≡ None → ys ≡ [] → Gift x before now ys

of_mark : (x : Item) (before now : List History) (o : Option ℤ) → risen (low before) (low now) ≡ o → Gift x before now (mark_items o)
of_mark x before now None is = Nothing is refl
of_mark x before now (Some u) is = Risen u is refl

of_raised : (x : Item) (before now : List History) (o : Option ℤ) → risen (low before) (low now) ≡ o → Gift x before now (change_items (raised o))
of_raised x before now None is = Nothing is refl
of_raised x before now (Some u) is = Risen u is refl

of_done : (x : Item) (before now : List History) (b : Bool) → all_done now ≡ b → Gift x before now (change_items (change_of b (low before) (low now)))
of_done x before now true is = Ended is refl
of_done x before now false is = of_raised x before now (risen (low before) (low now)) refl

gift_of : (x : Item) (before now : List History) → Gift x before now (passed_of x before now)
gift_of (item.Event e) before now = Plain (refl, refl) refl
gift_of (item.Side s) before now = Plain (refl, refl) refl
gift_of (item.Frame f) before now = Plain (refl, refl) refl
gift_of (item.Row r) before now = Plain (refl, refl) refl
gift_of (item.Late l) before now = Plain (refl, refl) refl
gift_of item.Idle before now = Plain (refl, refl) refl
gift_of (item.Mark t) before now = of_mark (item.Mark t) before now (risen (low before) (low now)) refl
gift_of item.Done before now = of_done item.Done before now (all_done now) refl

each_gift : (Q : Item → Type 0) (x : Item) (before now : List History) (ys : List Item) → (IsPlain x → Q x) → ((u : ℤ) → risen (low before) (low now) ≡ Some u → Q (item.Mark u)) → (all_done now ≡ true → Q item.Done) → Gift x before now ys → Each Q ys
each_gift Q x before now ys plain mark done (Plain p is) = subst (Each Q) (sym is) (plain p, tt)
each_gift Q x before now ys plain mark done (Risen u rose is) = subst (Each Q) (sym is) (mark u rose, tt)
each_gift Q x before now ys plain mark done (Ended all is) = subst (Each Q) (sym is) (done all, tt)
each_gift Q x before now ys plain mark done (Nothing none is) = subst (Each Q) (sym is) tt

one_gift : (R : Item → Item → Type 0) (x : Item) (before now : List History) (ys : List Item) → Gift x before now ys → EachPair R ys
one_gift R x before now ys (Plain p is) = subst (EachPair R) (sym is) (tt, tt)
one_gift R x before now ys (Risen u rose is) = subst (EachPair R) (sym is) (tt, tt)
one_gift R x before now ys (Ended all is) = subst (EachPair R) (sym is) (tt, tt)
one_gift R x before now ys (Nothing none is) = subst (EachPair R) (sym is) tt

-- ---- by one item more
-- what holds before anything came and after each item that may come holds of all that came
module _ (n : ℕ) (P : List Taken → Type 0) (first : P []) (step : (came : List Taken) (a : Taken) → a.queue < n → has_ended (of_queue a.queue came) ≡ false → P came → P (came ++ a ∷ [])) where
  from_front : (before came : List Taken) → InOrder n (before ++ came) → P before → P (before ++ came)
  from_front before [] o h = subst P (sym (append-nil before)) h
  from_front before (a ∷ came) o h =
      let lt = (Each-back (λ (b : Taken). b.queue < n) before (a ∷ came) o.inside).0 in
      let follows : Each (λ (b : Taken). MayFollow b a) before =
      Each-more (λ (b : Taken). Each (MayFollow b) (a ∷ came)) (λ (b : Taken). MayFollow b a) (λ b k. k.0) before (EachPair-across MayFollow before (a ∷ came) o.follows) in
      let same : (before ++ a ∷ []) ++ came ≡ before ++ a ∷ came = append_assoc before (a ∷ []) came in
      subst P same (from_front (before ++ a ∷ []) came (subst (InOrder n) (sym same) o) (step before a lt (still_open a.queue before follows) h))

  pub by_taking : (came : List Taken) → InOrder n came → P came
  by_taking came o = from_front [] came o first

-- ---- the order of items
-- of an order of items: data asks nothing of what follows, a mark asks less than a greater one, marks that rise are in order, and Done may stand behind each
pub record Ordering (R : Item → Item → Type 0) : Type 0 where
  pub free : (x y : Item) → IsPlain x → R x y
  pub less : (t m : ℤ) (y : Item) → t ≤ℤ m → R (item.Mark m) y → R (item.Mark t) y
  pub rise : (t u : ℤ) → t <ℤ u → R (item.Mark t) (item.Mark u)
  pub last : (t : ℤ) → R (item.Mark t) item.Done

-- a mark that is in order with a later item
marks_before : (R : Item → Item → Type 0) (y : Item) (xs : List Item) → Each (λ x. R x y) xs → Each (λ m. R (item.Mark m) y) (marks_of xs)
marks_before R y [] h = tt
marks_before R y (x ∷ xs) h = Each-append (λ m. R (item.Mark m) y) (as_mark x) (marks_of xs) (own x h.0) (marks_before R y xs h.1)
  where
    own : (x : Item) → R x y → Each (λ m. R (item.Mark m) y) (as_mark x)
    own (item.Mark m) k = (k, tt)
    own (item.Event e) k = tt
    own (item.Side s) k = tt
    own (item.Frame f) k = tt
    own (item.Row r) k = tt
    own (item.Late l) k = tt
    own item.Idle k = tt
    own item.Done k = tt

below_greatest : (R : Item → Item → Type 0) → Ordering R → (t : ℤ) (y : Item) (ms : List ℤ) (o : Option ℤ) → reduce int_max ms ≡ o → Each (λ m. R (item.Mark m) y) ms → IsSomeAnd o (λ m. t ≤ℤ m) → R (item.Mark t) y
below_greatest R o t y ms None is all h = absurd h
below_greatest R o t y ms (Some m) is all h = o.less t m y h (greatest_has (λ (k : ℤ). R (item.Mark k) y) ms m all is)

-- of an item that was passed on while a queue is not done: a mark is reached by each such queue, and it is not Done
abbrev Stands : ℕ → List Taken → Item → Type 0
Stands n came x = Each (λ t. AllReach n t (lists_of came)) (as_mark x) × (is_done x ≡ false)

stands_more : (n : ℕ) (came : List Taken) (a : Taken) (x : Item) → Stands n came x → Stands n (came ++ a ∷ []) x
stands_more n came a x h = (Each-more (λ (t : ℤ). AllReach n t (lists_of came)) (λ (t : ℤ). AllReach n t (lists_of (came ++ a ∷ []))) (λ t k. all_reach_more n t came a k) (as_mark x) h.0, h.1)

plain_stands : (n : ℕ) (came : List Taken) (x : Item) → IsPlain x → Stands n came x
plain_stands n came x p = (subst (Each (λ t. AllReach n t (lists_of came))) (sym p.0) tt, p.1)

-- by the kind of an item before, it is in order with each that is passed on of one more
stands_before : (R : Item → Item → Type 0) → Ordering R → (n : ℕ) (came : List Taken) (x : Item) (ys : List Item) → Stands n came x → ((t : ℤ) → AllReach n t (lists_of came) → Each (R (item.Mark t)) ys) → Kinds x → Each (R x) ys
stands_before R o n came x ys h marks (inl p) = every ys
  where
    every : (ys : List Item) → Each (R x) ys
    every [] = tt
    every (y ∷ ys) = (o.free x y p, every ys)
stands_before R o n came x ys h marks (inr (inl m)) = subst (λ (z : Item). Each (R z) ys) (sym m.1) (marks m.0 (subst (λ (z : Item). Each (λ t. AllReach n t (lists_of came)) (as_mark z)) m.1 h.0).0)
stands_before R o n came x ys h marks (inr (inr d)) = absurd (let no : is_done x ≡ true = ap is_done d in let not_done : is_done x ≡ false = h.1 in cc)

module _ (least : LowIsLeast) (holds : LowHoldsNoneBack) (n : ℕ) where
  -- what was passed on before all queues were done
  abbrev StandsAll : List Taken → Type 0
  StandsAll came = all_done (heard n came) ≡ false → Each (Stands n came) (passed n came)

  stands_next : (came : List Taken) (a : Taken) → a.queue < n → has_ended (of_queue a.queue came) ≡ false → StandsAll came → StandsAll (came ++ a ∷ [])
  stands_next came a lt still ih left =
      let now : List Taken = came ++ a ∷ [] in
      let was : all_done (heard n came) ≡ false = not_all n (lists_of came) a.queue lt still in
      subst (Each (Stands n now)) (sym (passed-push n came a))
      (Each-append (Stands n now) (passed n came) (passes n came a)
      (Each-more (Stands n came) (Stands n now) (λ x h. stands_more n came a x h) (passed n came) (ih was))
      (each_gift (Stands n now) a.item (heard n came) (heard n now) (passes n came a)
      (λ p. plain_stands n now a.item p)
      (λ u rose. ((low_reached least n u (lists_of now) (risen_is (low (heard n came)) (low (heard n now)) u rose).0, tt), refl))
      (λ all. absurd (cc (all, left)))
      (gift_of a.item (heard n came) (heard n now))))

  stands_first : (m : ℕ) → all_done (heard m []) ≡ false → Each (Stands m []) (passed m [])
  stands_first zero left = absurd (cc)
  stands_first (suc m) left = tt

  stands_all : (came : List Taken) → InOrder n came → StandsAll came
  stands_all came o = by_taking n StandsAll (stands_first n) stands_next came o

  module _ (R : Item → Item → Type 0) (o : Ordering R) where
    -- a mark that each open queue has reached is in order with what is passed on of one item more
    mark_then : (came : List Taken) (a : Taken) (t : ℤ) → a.queue < n → has_ended (of_queue a.queue came) ≡ false → EachPair R (of_queue a.queue (came ++ a ∷ [])) → AllReach n t (lists_of came) → Each (R (item.Mark t)) (passes n came a)
    mark_then came a t lt still pairs h =
        let own : List Item = of_queue a.queue came in
        let before : Each (λ x. Each (R x) (a.item ∷ [])) own = EachPair-across R own (a.item ∷ []) (subst (EachPair R) (own_queue came a) pairs) in
        let each : Each (λ x. R x a.item) own = Each-more (λ (x : Item). Each (R x) (a.item ∷ [])) (λ (x : Item). R x a.item) (λ x k. k.0) own before in
        let left : all_done (heard n came) ≡ false = not_all n (lists_of came) a.queue lt still in
        each_gift (R (item.Mark t)) a.item (heard n came) (heard n (came ++ a ∷ [])) (passes n came a)
        (λ p. below_greatest R o t a.item (marks_of own) (reduce int_max (marks_of own)) refl (marks_before R a.item own each) (h a.queue lt still))
        (λ u rose. o.rise t u (above (low (heard n came)) t u (low_reaches holds n t (lists_of came) left h) (risen_is (low (heard n came)) (low (heard n (came ++ a ∷ []))) u rose).1))
        (λ all. o.last t)
        (gift_of a.item (heard n came) (heard n (came ++ a ∷ [])))

    abbrev PairsAll : List Taken → Type 0
    PairsAll came = StandsAll came × (((q : ℕ) → q < n → EachPair R (of_queue q came)) → EachPair R (passed n came))

    pairs_next : (came : List Taken) (a : Taken) → a.queue < n → has_ended (of_queue a.queue came) ≡ false → PairsAll came → PairsAll (came ++ a ∷ [])
    pairs_next came a lt still (stood, ih) = (
      stands_next came a lt still stood,
      λ pairs.
          let was : (q : ℕ) → q < n → EachPair R (of_queue q came) = λ q qt. EachPair-front R (of_queue q came) (cond (a.queue == q) (a.item ∷ []) []) (subst (EachPair R) (of_queue-push q came a) (pairs q qt)) in
          let left : all_done (heard n came) ≡ false = not_all n (lists_of came) a.queue lt still in
          let ys : List Item = passes n came a in
          subst (EachPair R) (sym (passed-push n came a))
          (EachPair-append R (passed n came) ys (ih was) (one_gift R a.item (heard n came) (heard n (came ++ a ∷ [])) ys (gift_of a.item (heard n came) (heard n (came ++ a ∷ []))))
          (Each-more (Stands n came) (λ (x : Item). Each (R x) ys) (λ x h. stands_before R o n came x ys h (λ t k. mark_then came a t lt still (pairs a.queue lt) k) (kind_of x)) (passed n came) (stood left))),
    )

    pairs_first : (m : ℕ) → EachPair R (passed m [])
    pairs_first zero = (tt, tt)
    pairs_first (suc m) = tt

    -- where what came from each queue is in order, so is what is passed on
    pub passed_in_order : (came : List Taken) → InOrder n came → ((q : ℕ) → q < n → EachPair R (of_queue q came)) → EachPair R (passed n came)
    passed_in_order came ord = (by_taking n PairsAll (stands_first n, λ pairs. pairs_first n) pairs_next came ord).1

  -- what holds of each item that came, of each mark that a queue gave and of Done holds of each that is passed on
  module _ (Q : Item → Type 0) (done : Q item.Done) (marks : (t : ℤ) → Q (item.Mark t)) where
    abbrev HeldAll : List Taken → Type 0
    HeldAll came = ((q : ℕ) → q < n → Each Q (of_queue q came)) → Each Q (passed n came)

    held_next : (came : List Taken) (a : Taken) → a.queue < n → has_ended (of_queue a.queue came) ≡ false → HeldAll came → HeldAll (came ++ a ∷ [])
    held_next came a lt still ih all =
        let was : (q : ℕ) → q < n → Each Q (of_queue q came) = λ q qt. Each-front Q (of_queue q came) (cond (a.queue == q) (a.item ∷ []) []) (subst (Each Q) (of_queue-push q came a) (all q qt)) in
        let own = Each-back Q (of_queue a.queue came) (a.item ∷ []) (subst (Each Q) (own_queue came a) (all a.queue lt)) in
        subst (Each Q) (sym (passed-push n came a))
        (Each-append Q (passed n came) (passes n came a) (ih was)
        (each_gift Q a.item (heard n came) (heard n (came ++ a ∷ [])) (passes n came a) (λ p. own.0) (λ u rose. marks u) (λ all. done) (gift_of a.item (heard n came) (heard n (came ++ a ∷ [])))))

    held_first : (m : ℕ) → Each Q (passed m [])
    held_first zero = (done, tt)
    held_first (suc m) = tt

    pub passed_each : (came : List Taken) → InOrder n came → ((q : ℕ) → q < n → Each Q (of_queue q came)) → Each Q (passed n came)
    passed_each came ord = by_taking n HeldAll (λ all. held_first n) held_next came ord

  -- ---- the marks that are passed on
  queue_has : (P : ℤ → Type 0) (f : ℕ → List Item) (u : ℤ) → ((q : ℕ) → q < n → Each P (marks_of (f q))) → low (histories n f) ≡ Some u → P u
  queue_has P f u all is =
      let l = least (histories n f) u is in
      let at = known_at n f l.q l.queue l.is in
      let greatest : reduce int_max (marks_of (f l.q)) ≡ Some u = ap (λ (p : Queue). p.mark) at.1 ∙ l.has in
      greatest_has P (marks_of (f l.q)) u (all l.q at.0) greatest

  plain_marks : (x : Item) (ys : List Item) → IsPlain x → ys ≡ x ∷ [] → marks_of ys ≡ []
  plain_marks x ys p is = ap marks_of is ∙ (append-nil (as_mark x) ∙ p.0)

  gift_marks : (P : ℤ → Type 0) (x : Item) (before now : List History) (ys : List Item) → ((u : ℤ) → low now ≡ Some u → P u) → Gift x before now ys → Each P (marks_of ys)
  gift_marks P x before now ys h (Plain p is) = subst (Each P) (sym (plain_marks x ys p is)) tt
  gift_marks P x before now ys h (Risen u rose is) = subst (λ (zs : List Item). Each P (marks_of zs)) (sym is) (h u (risen_is (low before) (low now) u rose).0, tt)
  gift_marks P x before now ys h (Ended all is) = subst (λ (zs : List Item). Each P (marks_of zs)) (sym is) tt
  gift_marks P x before now ys h (Nothing none is) = subst (λ (zs : List Item). Each P (marks_of zs)) (sym is) tt

  module _ (P : ℤ → Type 0) where
    abbrev MarksAll : List Taken → Type 0
    MarksAll came = ((q : ℕ) → q < n → Each P (marks_of (of_queue q came))) → Each P (marks_of (passed n came))

    marks_next : (came : List Taken) (a : Taken) → a.queue < n → has_ended (of_queue a.queue came) ≡ false → MarksAll came → MarksAll (came ++ a ∷ [])
    marks_next came a lt still ih all =
        let was : (q : ℕ) → q < n → Each P (marks_of (of_queue q came)) = λ q qt.
        let more : List Item = cond (a.queue == q) (a.item ∷ []) [] in
        Each-front P (marks_of (of_queue q came)) (marks_of more) (subst (Each P) (ap marks_of (of_queue-push q came a) ∙ flat_map-append as_mark (of_queue q came) more) (all q qt)) in
        subst (Each P) (sym (ap marks_of (passed-push n came a) ∙ flat_map-append as_mark (passed n came) (passes n came a)))
        (Each-append P (marks_of (passed n came)) (marks_of (passes n came a)) (ih was)
        (gift_marks P a.item (heard n came) (heard n (came ++ a ∷ [])) (passes n came a) (λ u is. queue_has P (lists_of (came ++ a ∷ [])) u all is) (gift_of a.item (heard n came) (heard n (came ++ a ∷ [])))))

    marks_first : (m : ℕ) → Each P (marks_of (passed m []))
    marks_first zero = tt
    marks_first (suc m) = tt

    pub passed_marks : (came : List Taken) → InOrder n came → ((q : ℕ) → q < n → Each P (marks_of (of_queue q came))) → Each P (marks_of (passed n came))
    passed_marks came ord = by_taking n MarksAll (λ all. marks_first n) marks_next came ord

  -- ---- the last mark that is passed on
  antisym : (s t : ℤ) → s ≤ℤ t → t ≤ℤ s → Some s ≡ Some t
  antisym s t h k = ap Some (omega (arith, ints, h, k))

  not_risen : (b : Bool) (s t : ℤ) → int_lt s t ≡ b → cond {A = Option ℤ} b (Some t) None ≡ None → t ≤ℤ s
  not_risen true s t is none = absurd (cc)
  not_risen false s t is none = omega (arith, ints, is)

  -- a watermark that has not fallen and has not risen is the same
  stays_low : (before now : Option ℤ) → ((s : ℤ) → before ≡ Some s → IsSomeAnd now (λ t. s ≤ℤ t)) → risen before now ≡ None → before ≡ now
  stays_low None None up none = refl
  stays_low None (Some t) up none = absurd (cc)
  stays_low (Some s) None up none = absurd (up s refl)
  stays_low (Some s) (Some t) up none = antisym s t (up s refl) (not_risen (int_lt s t) s t refl none)

  gift_last : (x : Item) (before now : List History) (ys : List Item) → (IsPlain x → low before ≡ low now) → ((s : ℤ) → low before ≡ Some s → IsSomeAnd (low now) (λ t. s ≤ℤ t)) → all_done now ≡ false → Gift x before now ys → last_or (low before) (marks_of ys) ≡ low now
  gift_last x before now ys same up left (Plain p is) = ap (λ (ms : List ℤ). last_or (low before) ms) (plain_marks x ys p is) ∙ same p
  gift_last x before now ys same up left (Risen u rose is) = ap (λ (zs : List Item). last_or (low before) (marks_of zs)) is ∙ sym (risen_is (low before) (low now) u rose).0
  gift_last x before now ys same up left (Ended all is) = absurd (cc (all, left))
  gift_last x before now ys same up left (Nothing none is) = ap (λ (zs : List Item). last_or (low before) (marks_of zs)) is ∙ stays_low (low before) (low now) up none

  last_append : (o : Option ℤ) (xs ys : List ℤ) → last_or o (xs ++ ys) ≡ last_or (last_or o xs) ys
  last_append o [] ys = refl
  last_append o (x ∷ xs) ys = last_append (Some x) xs ys

  abbrev LastIsLow : List Taken → Type 0
  LastIsLow came = all_done (heard n came) ≡ false → last_or None (marks_of (passed n came)) ≡ low (heard n came)

  last_next : (came : List Taken) (a : Taken) → a.queue < n → has_ended (of_queue a.queue came) ≡ false → LastIsLow came → LastIsLow (came ++ a ∷ [])
  last_next came a lt still ih left =
      let now : List Taken = came ++ a ∷ [] in
      let ys : List Item = passes n came a in
      let was : last_or None (marks_of (passed n came)) ≡ low (heard n came) = ih (not_all n (lists_of came) a.queue lt still) in
      let parts : marks_of (passed n now) ≡ marks_of (passed n came) ++ marks_of ys = ap marks_of (passed-push n came a) ∙ flat_map-append as_mark (passed n came) ys in
      ap (λ (ms : List ℤ). last_or None ms) parts
      ∙ (last_append None (marks_of (passed n came)) (marks_of ys)
      ∙ (ap (λ (o : Option ℤ). last_or o (marks_of ys)) was
      ∙ gift_last a.item (heard n came) (heard n now) ys
      (λ p. ap low (sym (quiet_heard n came a p.0 p.1)))
      (λ s is. low_reaches holds n s (lists_of now) left (all_reach_more n s came a (low_reached least n s (lists_of came) is)))
      left (gift_of a.item (heard n came) (heard n now))))

  none_first : (m : ℕ) (o : Option ℤ) → low (heard (suc m) []) ≡ o → None ≡ o
  none_first m None is = refl
  none_first m (Some t) is = absurd (low_first m t is)
    where
      low_first : (m : ℕ) (t : ℤ) → low (heard (suc m) []) ≡ Some t → ⊥
      low_first m t is = low_reached least (suc m) t (lists_of []) is 0 (omega arith) refl

  last_first : (m : ℕ) → all_done (heard m []) ≡ false → last_or None (marks_of (passed m [])) ≡ low (heard m [])
  last_first zero left = absurd (cc)
  last_first (suc m) left = none_first m (low (heard (suc m) [])) refl

  -- while a queue is not done the last mark that was passed on is the watermark
  pub last_is_low : (came : List Taken) → InOrder n came → all_done (heard n came) ≡ false → last_or None (marks_of (passed n came)) ≡ low (heard n came)
  last_is_low came ord = by_taking n LastIsLow (last_first n) last_next came ord
