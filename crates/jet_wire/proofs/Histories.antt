-- The histories of queues: of one to which an item more came, and of all; and a watermark that rose. These lemmas are
-- for the proofs of tasklets too.
use Rattle.std.proofs.Common.{◌≡◌, ◌≢◌, ℕ, zero, suc, ◌<◌, ◌==◌, ◌||◌, Bool, true, false, cond, ℤ, List, [], ◌∷◌, ◌++◌, get_or, map, length, refl, sym, ◌∙◌, ap, subst, append-nil, inl, inr, arith}
use Rattle.std.specs.Prelude.{Option, Some, None, slice_set, slice_index_or}
use Rattle.std.proofs.lemmas.List.Concat.{flat_map-append}
use Rattle.std.proofs.lemmas.List.Folds.{list_any-append}
use Rattle.std.proofs.lemmas.Bool.Decides.{eqb_tells}
use Rattle.jet_items.specs.declared.item.Item.{Item}
use Rattle.jet_items.specs.declared.item.Item.TheVariants as item
use Rattle.jet_items.specs.Done.{is_done}
use Rattle.jet_items.specs.Kinds.{as_mark, marks_of}
use Rattle.jet_coalescer.specs.declared.queue.Queue.{Queue}
use Rattle.jet_coalescer.specs.Low.{History, known, unheard, risen, has_risen}
use Rattle.jet_coalescer.specs.Queues.{unknown}
use Rattle.jet_wire.specs.Passing.{has_ended, history, histories}

-- ---- numbers of queues
pub same_number : (q : ℕ) → (q == q) ≡ true
same_number q = elim (eqb_tells q q) [ inl e ↦ e.0 | inr e ↦ absurd (e.1 refl) ]

pub differs : (q r : ℕ) → (q ≢ r) → (q == r) ≡ false
differs q r h = elim (eqb_tells q r) [ inl e ↦ absurd (h e.1) | inr e ↦ e.0 ]

-- ---- histories
cons_same : (g h : History) (gs hs : List History) → g ≡ h → gs ≡ hs → g ∷ gs ≡ h ∷ hs
cons_same g h gs hs e r = cc

pub histories_alike : (n : ℕ) (f g : ℕ → List Item) → ((q : ℕ) → q < n → history (f q) ≡ history (g q)) → histories n f ≡ histories n g
histories_alike zero f g h = refl
histories_alike (suc n) f g h =
    cons_same (history (f 0)) (history (g 0)) (histories n (λ q. f (suc q))) (histories n (λ q. g (suc q))) (h 0 (omega arith)) (histories_alike n (λ q. f (suc q)) (λ q. g (suc q)) (λ q lt. h (suc q) (omega (arith, lt))))

pub length_histories : (n : ℕ) (f : ℕ → List Item) → length (histories n f) ≡ n
length_histories zero f = refl
length_histories (suc n) f = ap suc (length_histories n (λ q. f (suc q)))

marks_push : (xs : List Item) (x : Item) → marks_of (xs ++ x ∷ []) ≡ marks_of xs ++ as_mark x
marks_push xs x = flat_map-append as_mark xs (x ∷ []) ∙ ap (λ (ms : List ℤ). marks_of xs ++ ms) (append-nil (as_mark x))

or_last : (b c : Bool) → (b || (c || false)) ≡ (b || c)
or_last true c = refl
or_last false true = refl
or_last false false = refl

or_false : (b : Bool) → (b || false) ≡ b
or_false true = refl
or_false false = refl

or_true : (b : Bool) → (b || true) ≡ true
or_true true = refl
or_true false = refl

pub ended_push : (xs : List Item) (x : Item) → has_ended (xs ++ x ∷ []) ≡ (has_ended xs || is_done x)
ended_push xs x = list_any-append is_done xs (x ∷ []) ∙ or_last (has_ended xs) (is_done x)

history_of : (ys : List Item) (marks : List ℤ) (ended : Bool) → marks_of ys ≡ marks → has_ended ys ≡ ended → history ys ≡ record { marks = marks; done = ended }
history_of ys marks ended m e = cc

pub mark_history : (xs : List Item) (t : ℤ) → history (xs ++ item.Mark t ∷ []) ≡ record { marks = marks_of xs ++ t ∷ []; done = has_ended xs }
mark_history xs t = history_of (xs ++ item.Mark t ∷ []) (marks_of xs ++ t ∷ []) (has_ended xs) (marks_push xs (item.Mark t)) (ended_push xs (item.Mark t) ∙ or_false (has_ended xs))

pub done_history : (xs : List Item) → history (xs ++ item.Done ∷ []) ≡ record { marks = marks_of xs; done = true }
done_history xs = history_of (xs ++ item.Done ∷ []) (marks_of xs) true (marks_push xs item.Done ∙ append-nil (marks_of xs)) (ended_push xs item.Done ∙ or_true (has_ended xs))

pub quiet : (xs : List Item) (x : Item) → as_mark x ≡ [] → is_done x ≡ false → history (xs ++ x ∷ []) ≡ history xs
quiet xs x m e =
    history_of (xs ++ x ∷ []) (marks_of xs) (has_ended xs)
    (marks_push xs x ∙ (ap (λ (ms : List ℤ). marks_of xs ++ ms) m ∙ append-nil (marks_of xs)))
    (ended_push xs x ∙ (ap (λ (b : Bool). has_ended xs || b) e ∙ or_false (has_ended xs)))

-- one queue gave one item more
pub with_one : (change : History → History) (n q : ℕ) (f g : ℕ → List Item) → q < n → change (history (f q)) ≡ history (g q) → ((k : ℕ) → k ≢ q → g k ≡ f k) → slice_set (histories n f) q (change (slice_index_or (histories n f) q unheard)) ≡ histories n g
with_one change zero q f g lt here others = absurd (omega (arith, lt))
with_one change (suc n) zero f g lt here others =
    cons_same (change (history (f 0))) (history (g 0)) (histories n (λ k. f (suc k))) (histories n (λ k. g (suc k))) here
    (histories_alike n (λ k. f (suc k)) (λ k. g (suc k)) (λ k lt'. ap history (sym (others (suc k) (λ e. omega (arith, e))))))
with_one change (suc n) (suc q) f g lt here others =
    cons_same (history (f 0)) (history (g 0)) (slice_set (histories n (λ k. f (suc k))) q (change (slice_index_or (histories n (λ k. f (suc k))) q unheard))) (histories n (λ k. g (suc k))) (ap history (sym (others 0 (λ e. omega (arith, e)))))
    (with_one change n q (λ k. f (suc k)) (λ k. g (suc k)) (omega (arith, lt)) here (λ k ne. others (suc k) (λ e. ne (omega (arith, e)))))

-- ---- Done of a queue
pub or_at : (b c : Bool) → b ≡ false → (b || c) ≡ c
or_at true c h = absurd (cc)
or_at false c h = refl

or_before : (b c : Bool) → (b || c) ≡ false → b ≡ false
or_before true c h = cc
or_before false c h = refl

-- a queue that has no Done had none before
pub open_front : (xs ys : List Item) → has_ended (xs ++ ys) ≡ false → has_ended xs ≡ false
open_front xs ys h = or_before (has_ended xs) (has_ended ys) (sym (list_any-append is_done xs ys) ∙ h)

none_clash : (a b : Bool) → a ≡ true → (a || b) ≡ false → ⊥
none_clash true b d i = cc
none_clash false b d i = cc

none_later : (a b : Bool) → (a || b) ≡ false → b ≡ false
none_later true b i = absurd (cc)
none_later false b i = i

-- neither an item that came of it is Done, nor is one behind that
pub none_split : (f : Bool) (x : Item) (xs : List Item) → has_ended (cond f (x ∷ []) [] ++ xs) ≡ false → (is_done x ≡ true → f ≡ false) × (has_ended xs ≡ false)
none_split true x xs e = (λ d. absurd (none_clash (is_done x) (has_ended xs) d e), none_later (is_done x) (has_ended xs) e)
none_split false x xs e = (λ d. refl, e)

-- the queue of this number is done
abbrev pub done_of : List Queue → ℕ → Bool
done_of queues q = let queue = get_or queues q unknown in queue.done

pub done_known : (n : ℕ) (f : ℕ → List Item) (q : ℕ) → q < n → done_of (map known (histories n f)) q ≡ has_ended (f q)
done_known zero f q lt = absurd (omega (arith, lt))
done_known (suc n) f zero lt = refl
done_known (suc n) f (suc q) lt = done_known n (λ k. f (suc k)) q (omega (arith, lt))

-- ---- a watermark that rose
risen_if : (b : Bool) (t u : ℤ) → cond {A = Option ℤ} b (Some t) None ≡ Some u → (b ≡ true) × (t ≡ u)
risen_if true t u h = (refl, cc)
risen_if false t u h = absurd (cc)

pub risen_is : (before after : Option ℤ) (u : ℤ) → risen before after ≡ Some u → (after ≡ Some u) × (has_risen before u ≡ true)
risen_is before None u h = absurd (cc)
risen_is before (Some t) u h =
    let r = risen_if (has_risen before t) t u h in
    (ap Some r.1, subst (λ (s : ℤ). has_risen before s ≡ true) r.1 r.0)
