-- The present value is the least mark of the queues that count, and the watermark is not below it.
use Rattle.std.proofs.Common.{◌≡◌, ℕ, zero, suc, Bool, true, false, cond, ℤ, ◌≤ℤ◌, List, [], ◌∷◌, Option, Some, None, refl, sym, subst, ap, ◌∙◌, inl, inr, arith}
use Rattle.std.proofs.lemmas.Int.{ints, int_min_is, int_max_is}
use Rattle.std.specs.Prelude.{slice_get, ◌⊎◌, int_lt}
use Rattle.std.specs.Option.{IsSomeAnd}
use Rattle.std.specs.Int.{int_min}
use Rattle.std.specs.Int.Signed.{≤ℤ_refl}
use Rattle.jet_coalescer.specs.declared.queue.Queue.{Queue}
use Rattle.jet_coalescer.specs.View.{View}
use Rattle.jet_coalescer.specs.Low.{has_risen}
use Rattle.jet_coalescer.specs.Queues.{counts, least_with, greater, present, HaveReached, IsLeast, RisesToLeast, HoldsNoneBack}
use Rattle.jet_coalescer.proofs.Least.{low_from, low_from-all}

-- a mark, if there is one, is not below t
abbrev AtLeast : ℤ → Option ℤ → Type 0
AtLeast t None = Unit {0}
AtLeast t (Some s) = t ≤ℤ s

abbrev pub HasNotLess : ℤ → Queue → Type 0
HasNotLess t q = counts q ≡ true → IsSomeAnd q.mark (λ mark. t ≤ℤ mark)

pub bounds_cons : (t : ℤ) (p : Queue) (qs : List Queue) → HasNotLess t p → HaveReached qs t → HaveReached (p ∷ qs) t
bounds_cons t p qs here rest zero q is = let same : p ≡ q = cc in subst (λ (r : Queue). HasNotLess t r) same here
bounds_cons t p qs here rest (suc k) q is = rest k q is

-- the lesser of two bounds both
min_bound : (t s m : ℤ) → t ≤ℤ int_min s m → (t ≤ℤ s) × (t ≤ℤ m)
min_bound t s m low = (omega (arith, ints, int_min_is s m), omega (arith, ints, int_min_is s m))

with_bound : (t : ℤ) (so_far : Option ℤ) (m : ℤ) → AtLeast t (least_with so_far m) → AtLeast t so_far × (t ≤ℤ m)
with_bound t None m low = (tt, low)
with_bound t (Some s) m low = min_bound t s m low

abbrev Bounded : ℤ → List Queue → Type 0
Bounded t qs = (so_far : Option ℤ) → low_from so_far qs ≡ Some t → AtLeast t so_far × HaveReached qs t

bounds_next : (t : ℤ) (done idle : Bool) (mark : Option ℤ) (qs : List Queue) → Bounded t qs → Bounded t (record { mark = mark; done = done; idle = idle } ∷ qs)
bounds_next t true idle mark qs rest so_far is =
    let below = rest so_far is in
    (below.0, bounds_cons t (record { mark = mark; done = true; idle = idle }) qs (λ counted. cc) below.1)
bounds_next t false true mark qs rest so_far is =
    let below = rest so_far is in
    (below.0, bounds_cons t (record { mark = mark; done = false; idle = true }) qs (λ counted. cc) below.1)
bounds_next t false false None qs rest so_far is = cc
bounds_next t false false (Some m) qs rest so_far is =
    let below = rest (least_with so_far m) is in
    let both = with_bound t so_far m below.0 in
    (both.0, bounds_cons t (record { mark = Some m; done = false; idle = false }) qs (λ counted. both.1) below.1)

bounds : (t : ℤ) (qs : List Queue) → Bounded t qs
bounds t [] None is = cc
bounds t [] (Some s) is = let same : s ≡ t = cc in (subst (λ (r : ℤ). t ≤ℤ r) (sym same) (≤ℤ_refl t), λ k q none. cc)
bounds t (q ∷ qs) so_far is = bounds_next t q.done q.idle q.mark qs (bounds t qs) so_far is

-- each queue that counts has reached the present value
pub present_reached : (qs : List Queue) (t : ℤ) → present qs ≡ Some t → HaveReached qs t
present_reached qs t is = let all : AtLeast t None × HaveReached qs t = bounds t qs None (low_from-all qs ∙ is) in all.1

-- ---- one of them has it
record Has (qs : List Queue) (t : ℤ) : Type 0 where
  q : ℕ
  queue : Queue
  is : slice_get qs q ≡ Some queue
  counted : counts queue ≡ true
  has : queue.mark ≡ Some t

has_later : (p : Queue) (qs : List Queue) (t : ℤ) → Has qs t → Has (p ∷ qs) t
has_later p qs t h = record { q = suc h.q; queue = h.queue; is = h.is; counted = h.counted; has = h.has }

abbrev Finds : ℤ → List Queue → Type 0
Finds t qs = (so_far : Option ℤ) → low_from so_far qs ≡ Some t → (so_far ≡ Some t) ⊎ Has qs t

min_either : (b : Bool) (s m t : ℤ) → Some (cond b m s) ≡ Some t → (Some s ≡ Some t) ⊎ (m ≡ t)
min_either true s m t is = inr cc
min_either false s m t is = inl is

with_either : (so_far : Option ℤ) (m t : ℤ) → least_with so_far m ≡ Some t → (so_far ≡ Some t) ⊎ (m ≡ t)
with_either None m t is = inr cc
with_either (Some s) m t is = min_either (int_lt m s) s m t is

has_next : (t : ℤ) (done idle : Bool) (mark : Option ℤ) (qs : List Queue) → Finds t qs → Finds t (record { mark = mark; done = done; idle = idle } ∷ qs)
has_next t true idle mark qs rest so_far is = elim (rest so_far is) [ inl e ↦ inl e | inr h ↦ inr (has_later (record { mark = mark; done = true; idle = idle }) qs t h) ]
has_next t false true mark qs rest so_far is = elim (rest so_far is) [ inl e ↦ inl e | inr h ↦ inr (has_later (record { mark = mark; done = false; idle = true }) qs t h) ]
has_next t false false None qs rest so_far is = cc
has_next t false false (Some m) qs rest so_far is = elim (rest (least_with so_far m) is) [ inl e ↦ first (with_either so_far m t e) | inr h ↦ inr (has_later (record { mark = Some m; done = false; idle = false }) qs t h) ]
  where
    first : (so_far ≡ Some t) ⊎ (m ≡ t) → (so_far ≡ Some t) ⊎ Has (record { mark = Some m; done = false; idle = false } ∷ qs) t
    first (inl e) = inl e
    first (inr e) = inr (record { q = 0; queue = record { mark = Some m; done = false; idle = false }; is = refl; counted = refl; has = ap Some e })

has : (t : ℤ) (qs : List Queue) → Finds t qs
has t [] so_far is = inl is
has t (q ∷ qs) so_far is = has_next t q.done q.idle q.mark qs (has t qs) so_far is

some_has : (qs : List Queue) (t : ℤ) → (None ≡ Some t) ⊎ Has qs t → Has qs t
some_has qs t (inl e) = cc
some_has qs t (inr h) = h

pub present_is_least : (qs : List Queue) (t : ℤ) → present qs ≡ Some t → IsLeast qs t
present_is_least qs t is =
    let h = some_has qs t (has t qs None (low_from-all qs ∙ is)) in
    record { reached = present_reached qs t is; q = h.q; queue = h.queue; is = h.is; counted = h.counted; has = h.has }

-- ---- it is the greatest time that all have reached
both_min : (s a b : ℤ) → s ≤ℤ a → s ≤ℤ b → s ≤ℤ int_min a b
both_min s a b h k = omega (arith, ints, h, k, int_min_is a b)

with_least : (s : ℤ) (so_far : Option ℤ) (m : ℤ) → AtLeast s so_far → s ≤ℤ m → IsSomeAnd (least_with so_far m) (λ t. s ≤ℤ t)
with_least s None m h k = k
with_least s (Some a) m h k = both_min s a m h k

weaker : (s : ℤ) (mark : Option ℤ) → IsSomeAnd mark (λ t. s ≤ℤ t) → AtLeast s mark
weaker s None h = tt
weaker s (Some m) h = h

pub reached_rest : (s : ℤ) (p : Queue) (qs : List Queue) → HaveReached (p ∷ qs) s → HaveReached qs s
reached_rest s p qs h k q is = h (suc k) q is

-- what was found so far is none or not below s, and so is what is found of the rest
abbrev Keeps : ℤ → List Queue → Type 0
Keeps s qs = (so_far : Option ℤ) → HaveReached qs s → IsSomeAnd so_far (λ t. s ≤ℤ t) → IsSomeAnd (low_from so_far qs) (λ t. s ≤ℤ t)

keeps_next : (s : ℤ) (done idle : Bool) (mark : Option ℤ) (qs : List Queue) → Keeps s qs → Keeps s (record { mark = mark; done = done; idle = idle } ∷ qs)
keeps_next s true idle mark qs rest so_far all h = rest so_far (reached_rest s (record { mark = mark; done = true; idle = idle }) qs all) h
keeps_next s false true mark qs rest so_far all h = rest so_far (reached_rest s (record { mark = mark; done = false; idle = true }) qs all) h
keeps_next s false false None qs rest so_far all h = absurd (all 0 (record { mark = None; done = false; idle = false }) refl refl)
keeps_next s false false (Some m) qs rest so_far all h =
    let here : s ≤ℤ m = all 0 (record { mark = Some m; done = false; idle = false }) refl refl in
    rest (least_with so_far m) (reached_rest s (record { mark = Some m; done = false; idle = false }) qs all) (with_least s so_far m (weaker s so_far h) here)

keeps : (s : ℤ) (qs : List Queue) → Keeps s qs
keeps s [] so_far all h = h
keeps s (q ∷ qs) so_far all h = keeps_next s q.done q.idle q.mark qs (keeps s qs) so_far all h

abbrev Gets : ℤ → List Queue → Type 0
Gets s qs = (so_far : Option ℤ) (k : ℕ) (p : Queue) → AtLeast s so_far → HaveReached qs s → slice_get qs k ≡ Some p → counts p ≡ true → IsSomeAnd (low_from so_far qs) (λ t. s ≤ℤ t)

other_counts : (p q : Queue) → p ≡ q → counts p ≡ false → counts q ≡ true → ⊥
other_counts p q same a b = cc

gets_skip : (s : ℤ) (q : Queue) (qs : List Queue) (so_far : Option ℤ) (k : ℕ) (p : Queue) → Gets s qs → counts q ≡ false → AtLeast s so_far → HaveReached (q ∷ qs) s → slice_get (q ∷ qs) k ≡ Some p → counts p ≡ true → IsSomeAnd (low_from so_far qs) (λ t. s ≤ℤ t)
gets_skip s q qs so_far zero p rest skip h all is counted = let same : q ≡ p = cc in absurd (other_counts q p same skip counted)
gets_skip s q qs so_far (suc k) p rest skip h all is counted = rest so_far k p h (reached_rest s q qs all) is counted

gets_next : (s : ℤ) (done idle : Bool) (mark : Option ℤ) (qs : List Queue) → Gets s qs → Gets s (record { mark = mark; done = done; idle = idle } ∷ qs)
gets_next s true idle mark qs rest so_far k p h all is counted = gets_skip s (record { mark = mark; done = true; idle = idle }) qs so_far k p rest refl h all is counted
gets_next s false true mark qs rest so_far k p h all is counted = gets_skip s (record { mark = mark; done = false; idle = true }) qs so_far k p rest refl h all is counted
gets_next s false false None qs rest so_far k p h all is counted = absurd (all 0 (record { mark = None; done = false; idle = false }) refl refl)
gets_next s false false (Some m) qs rest so_far k p h all is counted =
    let here : s ≤ℤ m = all 0 (record { mark = Some m; done = false; idle = false }) refl refl in
    keeps s qs (least_with so_far m) (reached_rest s (record { mark = Some m; done = false; idle = false }) qs all) (with_least s so_far m h here)

gets : (s : ℤ) (qs : List Queue) → Gets s qs
gets s [] so_far k p h all is counted = cc
gets s (q ∷ qs) so_far k p h all is counted = gets_next s q.done q.idle q.mark qs (gets s qs) so_far k p h all is counted

pub present_reaches : (qs : List Queue) (s : ℤ) (q : ℕ) (queue : Queue) → HaveReached qs s → slice_get qs q ≡ Some queue → counts queue ≡ true → IsSomeAnd (present qs) (λ t. s ≤ℤ t)
present_reaches qs s q queue all is counted =
    subst (λ (t : Option ℤ). IsSomeAnd t (λ u. s ≤ℤ u)) (low_from-all qs) (gets s qs None q queue tt all is counted)

-- ---- the watermark
greater_least : (s : ℤ) (low now : Option ℤ) → IsSomeAnd now (λ t. s ≤ℤ t) → IsSomeAnd (greater low now) (λ t. s ≤ℤ t)
greater_least s low None h = absurd h
greater_least s None (Some t) h = h
greater_least s (Some before) (Some t) h = let at : s ≤ℤ t = h in omega (arith, ints, at, int_max_is before t)

-- the watermark is the greater of some other and the present value
pub holds_none_back : (c : View) (low : Option ℤ) → c.low ≡ greater low (present c.queues) → HoldsNoneBack c
holds_none_back c low is s q queue all at counted =
    subst (λ (t : Option ℤ). IsSomeAnd t (λ u. s ≤ℤ u)) (sym is) (greater_least s low (present c.queues) (present_reaches c.queues s q queue all at counted))

-- a greater one that is above the first is the second
above_is : (b : Bool) (s m : ℤ) (t : ℤ) → Some (cond b s m) ≡ Some t → int_lt s t ≡ true → m ≡ t
above_is false s m t is above = cc
above_is true s m t is above = let same : s ≡ t = cc in absurd (irreflexive t (subst (λ (u : ℤ). int_lt u t ≡ true) same above))
  where
    irreflexive : (u : ℤ) → int_lt u u ≡ true → ⊥
    irreflexive u h = omega (arith, ints, h)

risen_is : (low now : Option ℤ) (t : ℤ) → greater low now ≡ Some t → has_risen low t ≡ true → now ≡ Some t
risen_is None None t is rose = is
risen_is None (Some m) t is rose = is
risen_is (Some s) None t is rose = let same : s ≡ t = cc in absurd (omega (arith, ints, rose, same))
risen_is (Some s) (Some m) t is rose = ap Some (above_is (int_lt m s) s m t is rose)

pub rises_to_least : (c : View) (low : Option ℤ) → c.low ≡ greater low (present c.queues) → RisesToLeast low c
rises_to_least c low is t at rose = present_is_least c.queues t (risen_is low (present c.queues) t (sym is ∙ at) rose)
