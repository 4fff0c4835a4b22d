-- Laws of lists of events: which events of a file are behind, where its lines come one after another.
use Rattle.std.proofs.Common.{◌≡◌, ℕ, ◌<◌, ◌≤◌, Bool, true, false, ℤ, List, [], ◌∷◌, ◌++◌, map, nat_lt, All, refl, ap, ◌∙◌, arith, append-nil}
use Rattle.std.specs.Prelude.{cond, filter, int_lt}
use Rattle.std.specs.Option.{option_map_or}
use Rattle.std.proofs.lemmas.Bool.Decides.{nat_tests}
use Rattle.std.proofs.lemmas.List.Elements.{filter-append, All-head, All-tail}
use Rattle.jet_items.specs.Marks.{is_behind, mark_of, times_before}
use Rattle.jet_items.specs.Values.{EventValue}
use Rattle.jet_worker.specs.inner.Tallying.{is_below}

-- the events stand on lines before this one
abbrev pub AreBefore : ℕ → List EventValue → Type 0
AreBefore line events = All (λ e. e.line < line) events

-- a filter that keeps all
filter_all : {X : Type 0} (p : X → Bool) (xs : List X) → All (λ x. p x ≡ true) xs → filter p xs ≡ xs
filter_all p [] h = refl
filter_all {X} p (x ∷ xs) h =
    ap (λ (b : Bool). cond b (x ∷ filter p xs) (filter p xs)) (All-head (λ (y : X). p y ≡ true) x xs h)
    ∙ ap (λ (ys : List X). x ∷ ys) (filter_all p xs (All-tail (λ (y : X). p y ≡ true) x xs h))

lt_true : (a b : ℕ) → a < b → nat_lt a b ≡ true
lt_true a b h = grind (arith, nat_tests)

lt_false : (a b : ℕ) → b ≤ a → nat_lt a b ≡ false
lt_false a b h = grind (arith, nat_tests)

-- the times before an event that stands after all of them
times_before_all : (line : ℕ) (events : List EventValue) → AreBefore line events → times_before line events ≡ map (λ e. e.ts) events
times_before_all line events h =
    ap (λ (es : List EventValue). map (λ (e : EventValue). e.ts) es)
    (filter_all (λ (e : EventValue). nat_lt e.line line) events (λ k d lt. lt_true _ line (h k d lt)))

-- a later event is not before
times_before_more : (line : ℕ) (events : List EventValue) (e : EventValue) → line ≤ e.line → times_before line (events ++ e ∷ []) ≡ times_before line events
times_before_more line events e h =
    ap (λ (es : List EventValue). map (λ (x : EventValue). x.ts) es)
    (filter-append (λ (x : EventValue). nat_lt x.line line) events (e ∷ [])
    ∙ ap (λ (b : Bool). filter (λ (x : EventValue). nat_lt x.line line) events ++ cond b (e ∷ []) []) (lt_false e.line line h)
    ∙ append-nil (filter (λ (x : EventValue). nat_lt x.line line) events))

pub behind_more : (lag grain : ℤ) (events : List EventValue) (e x : EventValue) → x.line ≤ e.line → is_behind lag grain (events ++ e ∷ []) x ≡ is_behind lag grain events x
behind_more lag grain events e x h =
    ap (λ (times : List ℤ). option_map_or (λ (mark : ℤ). int_lt x.ts mark) (mark_of lag grain times) false) (times_before_more x.line events e h)

-- an event after all of these is behind where its time is below their watermark
pub behind_at : (lag grain : ℤ) (events : List EventValue) (e : EventValue) → AreBefore e.line events
    → is_behind lag grain events e ≡ is_below (mark_of lag grain (map (λ x. x.ts) events)) e.ts
behind_at lag grain events e h =
    ap (λ (times : List ℤ). option_map_or (λ (mark : ℤ). int_lt e.ts mark) (mark_of lag grain times) false) (times_before_all e.line events h)

pub le : (a b : ℕ) → a < b → a ≤ b
le a b h = omega arith
