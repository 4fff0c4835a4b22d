-- What one more event changes among the late and the kept events.
use Rattle.std.proofs.Common.{◌≡◌, ◌<◌, Bool, true, false, not, cond, pos, List, [], ◌∷◌, ◌++◌, filter, refl, ap, ◌∙◌, arith, All}
use Rattle.std.specs.Prelude.{if◌then◌else◌}
use Rattle.std.proofs.lemmas.List.Elements.{filter-append, All-head, All-tail, All-weaker}
use Rattle.jet_items.specs.Marks.{is_behind}
use Rattle.jet_items.specs.Values.{EventValue}
use Rattle.jet_cli.specs.Counting.{late_among, kept_among}
use Rattle.jet_cli.specs.Words.{WindowCommand}
use Rattle.jet_worker.proofs.BehindLaws.{AreBefore, behind_more, le}

filter_by_all : {X : Type 0} (p q : X → Bool) (xs : List X) → All (λ x. p x ≡ q x) xs → filter p xs ≡ filter q xs
filter_by_all p q [] h = refl
filter_by_all {X} p q (x ∷ xs) h =
    ap (λ (b : Bool). cond b (x ∷ filter p xs) (filter p xs)) (All-head (λ (y : X). p y ≡ q y) x xs h)
    ∙ ap (λ (ys : List X). cond (q x) (x ∷ ys) ys) (filter_by_all p q xs (All-tail (λ (y : X). p y ≡ q y) x xs h))

not_one : {X : Type 0} (b : Bool) (x : X) → cond (not b) (x ∷ []) [] ≡ (if b then [] else x ∷ [])
not_one true x = refl
not_one false x = refl

pub kept_more : (c : WindowCommand) (events : List EventValue) (e : EventValue) → AreBefore e.line events
    → kept_among c (events ++ e ∷ []) ≡ kept_among c events ++ (if is_behind (pos c.lag) (pos c.slide) events e then [] else e ∷ [])
kept_more c events e h =
    let all = events ++ e ∷ [] in
    let p : EventValue → Bool = λ x. not (is_behind (pos c.lag) (pos c.slide) all x) in
    let q : EventValue → Bool = λ x. not (is_behind (pos c.lag) (pos c.slide) events x) in
    let same : All (λ (x : EventValue). p x ≡ q x) events =
    All-weaker (λ (x : EventValue). x.line < e.line) (λ (x : EventValue). p x ≡ q x) (λ x lt. ap not (behind_more (pos c.lag) (pos c.slide) events e x (le x.line e.line lt))) events h in
    let last : p e ≡ q e = ap not (behind_more (pos c.lag) (pos c.slide) events e e (omega arith)) in
    filter-append p events (e ∷ [])
    ∙ ap (λ (xs : List EventValue). xs ++ filter p (e ∷ [])) (filter_by_all p q events same)
    ∙ ap (λ (b : Bool). filter q events ++ cond b (e ∷ []) []) last
    ∙ ap (λ (xs : List EventValue). filter q events ++ xs) (not_one (is_behind (pos c.lag) (pos c.slide) events e) e)

pub late_more : (c : WindowCommand) (events : List EventValue) (e : EventValue) → AreBefore e.line events
    → late_among c (events ++ e ∷ []) ≡ late_among c events ++ (if is_behind (pos c.lag) (pos c.slide) events e then e ∷ [] else [])
late_more c events e h =
    let all = events ++ e ∷ [] in
    let p : EventValue → Bool = λ x. is_behind (pos c.lag) (pos c.slide) all x in
    let q : EventValue → Bool = λ x. is_behind (pos c.lag) (pos c.slide) events x in
    let same : All (λ (x : EventValue). p x ≡ q x) events =
    All-weaker (λ (x : EventValue). x.line < e.line) (λ (x : EventValue). p x ≡ q x) (λ x lt. behind_more (pos c.lag) (pos c.slide) events e x (le x.line e.line lt)) events h in
    let last : p e ≡ q e = behind_more (pos c.lag) (pos c.slide) events e e (omega arith) in
    filter-append p events (e ∷ [])
    ∙ ap (λ (xs : List EventValue). xs ++ filter p (e ∷ [])) (filter_by_all p q events same)
    ∙ ap (λ (b : Bool). filter q events ++ cond b (e ∷ []) []) last
