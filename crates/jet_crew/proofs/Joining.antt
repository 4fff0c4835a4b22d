-- What answers come to together.
use Rattle.std.proofs.Common.{◌≡◌, ◌⊎◌, ℕ, zero, suc, ◌+◌, ◌<◌, List, [], ◌∷◌, ◌++◌, length, map, take, get_or, refl, sym, ◌∙◌, ap, subst, inl, inr, arith}
use Rattle.std.specs.List.{All, Contains}
use Rattle.std.proofs.lemmas.List.{take_more, map-append}
use Rattle.std.proofs.lemmas.List.Elements.{All-push, All-weaker, All-contains, All-head, All-tail, Contains-append_left, Contains-push, Contains-push_cases}
use Rattle.jet_crew.specs.declared.end.EpochEnd.{EpochEnd}
use Rattle.jet_crew.specs.declared.end.EpochEnd.TheVariants as answer
use Rattle.jet_crew.specs.Turns.{Together, joined, after_moving}
use Rattle.jet_crew.specs.inner.Worse.{worse}

abbrev AtRest : EpochEnd → Type 0
AtRest e = (e ≡ answer.Idle) ⊎ (e ≡ answer.Done)

abbrev Wants : EpochEnd → Type 0
Wants e = e ≡ answer.NoMemory

-- ---- one more answer
module _ (es : List EpochEnd) where
  none_more : (q : EpochEnd) → (Contains es answer.NoMemory → ⊥) → (Wants q → ⊥) → Contains (es ++ q ∷ []) answer.NoMemory → ⊥
  none_more q none other h =
      elim (Contains-push_cases es q answer.NoMemory h) [
        | inl before ↦ none before
        | inr is ↦ other is
      ]

  none_at_rest : All AtRest es → Contains es answer.NoMemory → ⊥
  none_at_rest all h =
      elim (All-contains AtRest es answer.NoMemory all h) [
        | inl e ↦ absurd (cc e)
        | inr e ↦ absurd (cc e)
      ]

  done_rest : All (λ e. e ≡ answer.Done) es → All AtRest es
  done_rest all = All-weaker (λ e. e ≡ answer.Done) AtRest (λ e d. inr d) es all

  moved_last : (Contains es answer.NoMemory → ⊥) → Together (es ++ answer.Moved ∷ []) answer.Moved
  moved_last none = (Contains-push es answer.Moved, none_more answer.Moved none (λ e. absurd (cc e)))

  moved_before : (q : EpochEnd) → (Wants q → ⊥) → Together es answer.Moved → Together (es ++ q ∷ []) answer.Moved
  moved_before q other h = (Contains-append_left es (q ∷ []) answer.Moved h.0, none_more q h.1 other)

  pub together_more : (p q : EpochEnd) → Together es p → Together (es ++ q ∷ []) (worse p q)
  together_more answer.Moved answer.Moved h = moved_before answer.Moved (λ e. absurd (cc e)) h
  together_more answer.Moved answer.Idle h = moved_before answer.Idle (λ e. absurd (cc e)) h
  together_more answer.Moved answer.Done h = moved_before answer.Done (λ e. absurd (cc e)) h
  together_more answer.Moved answer.NoMemory h = Contains-push es answer.NoMemory
  together_more answer.Idle answer.Moved h = moved_last (none_at_rest h.1)
  together_more answer.Idle answer.Idle h = (Contains-append_left es (answer.Idle ∷ []) answer.Idle h.0, All-push AtRest es answer.Idle h.1 (inl refl))
  together_more answer.Idle answer.Done h = (Contains-append_left es (answer.Done ∷ []) answer.Idle h.0, All-push AtRest es answer.Done h.1 (inr refl))
  together_more answer.Idle answer.NoMemory h = Contains-push es answer.NoMemory
  together_more answer.Done answer.Moved h = moved_last (none_at_rest (done_rest h))
  together_more answer.Done answer.Idle h = (Contains-push es answer.Idle, All-push AtRest es answer.Idle (done_rest h) (inl refl))
  together_more answer.Done answer.Done h = All-push (λ e. e ≡ answer.Done) es answer.Done h refl
  together_more answer.Done answer.NoMemory h = Contains-push es answer.NoMemory
  together_more answer.NoMemory q h = Contains-append_left es (q ∷ []) answer.NoMemory h

pub together_none : Together [] answer.Done
together_none = λ k d l. absurd (omega (arith, l))

-- the same over what a function gives of the elements of a list
pub together_next : {X : Type 0} (f : X → EpochEnd) (xs : List X) (i : ℕ) (x : X) (p : EpochEnd) → i < length xs → x ≡ get_or xs i x → Together (map f (take i xs)) p → Together (map f (take (i + 1) xs)) (worse p (f x))
together_next {X} f xs i x p l is h =
    let more : map f (take (i + 1) xs) ≡ map f (take i xs) ++ f x ∷ [] =
    ap (map f) (take_more xs i x l) ∙ (map-append f (take i xs) (get_or xs i x ∷ []) ∙ ap (λ (y : X). map f (take i xs) ++ f y ∷ []) (sym is)) in
    subst (λ (es : List EpochEnd). Together es (worse p (f x))) (sym more) (together_more (map f (take i xs)) p (f x) h)

-- ---- the answers of turns in a row, joined
abbrev pub all_joined : EpochEnd → List EpochEnd → EpochEnd
all_joined e [] = e
all_joined e (f ∷ fs) = joined e (all_joined f fs)

contains_cons : (e x : EpochEnd) (es : List EpochEnd) → Contains (e ∷ es) x → (e ≡ x) ⊎ Contains es x
contains_cons e x es (zero, l, is) = inl is
contains_cons e x es (suc k, l, is) = inr (k, omega (arith, l), is)

contains_more : (e x : EpochEnd) (es : List EpochEnd) → Contains es x → Contains (e ∷ es) x
contains_more e x es h = (suc h.0, (let l = h.1 in omega (arith, l)), h.2)

contains_first : (e x : EpochEnd) (es : List EpochEnd) → e ≡ x → Contains (e ∷ es) x
contains_first e x es is = (0, omega arith, is)

joined_none : (e : EpochEnd) → joined e answer.NoMemory ≡ answer.NoMemory
joined_none answer.Moved = refl
joined_none answer.Idle = refl
joined_none answer.Done = refl
joined_none answer.NoMemory = refl

joined_moved : (e : EpochEnd) → (Wants e → ⊥) → joined e answer.Moved ≡ answer.Moved
joined_moved answer.Moved h = refl
joined_moved answer.Idle h = refl
joined_moved answer.Done h = refl
joined_moved answer.NoMemory h = absurd (h refl)

after_moved : (e : EpochEnd) → (Wants e → ⊥) → after_moving e ≡ answer.Moved
after_moved answer.Moved h = refl
after_moved answer.Idle h = refl
after_moved answer.Done h = refl
after_moved answer.NoMemory h = absurd (h refl)

after_wants : (e : EpochEnd) → Wants (after_moving e) → Wants e
after_wants answer.Moved h = absurd (cc h)
after_wants answer.Idle h = absurd (cc h)
after_wants answer.Done h = absurd (cc h)
after_wants answer.NoMemory h = refl

joined_wants : (p q : EpochEnd) → Wants (joined p q) → Wants p ⊎ Wants q
joined_wants answer.Moved q h = inr (after_wants q h)
joined_wants answer.Idle q h = inr h
joined_wants answer.Done q h = inr h
joined_wants answer.NoMemory q h = inl refl

wanting : (e : EpochEnd) (es : List EpochEnd) → Contains (e ∷ es) answer.NoMemory → Wants (all_joined e es)
wanting e [] h =
    elim (contains_cons e answer.NoMemory [] h) [
      | inl is ↦ is
      | inr none_left ↦ let l = none_left.1 in absurd (omega (arith, l))
    ]
wanting e (f ∷ fs) h =
    elim (contains_cons e answer.NoMemory (f ∷ fs) h) [
      | inl is ↦ ap (λ (x : EpochEnd). joined x (all_joined f fs)) is
      | inr more ↦ ap (λ (x : EpochEnd). joined e x) (wanting f fs more) ∙ joined_none e
    ]

not_wanting : (e : EpochEnd) (es : List EpochEnd) → (Contains (e ∷ es) answer.NoMemory → ⊥) → Wants (all_joined e es) → ⊥
not_wanting e [] none is = none (contains_first e answer.NoMemory [] is)
not_wanting e (f ∷ fs) none is =
    elim (joined_wants e (all_joined f fs) is) [
      | inl first ↦ none (contains_first e answer.NoMemory (f ∷ fs) first)
      | inr rest ↦ not_wanting f fs (λ h. none (contains_more e answer.NoMemory (f ∷ fs) h)) rest
    ]

moving : (e : EpochEnd) (es : List EpochEnd) → Contains (e ∷ es) answer.Moved → (Contains (e ∷ es) answer.NoMemory → ⊥) → all_joined e es ≡ answer.Moved
moving e [] h none =
    elim (contains_cons e answer.Moved [] h) [
      | inl is ↦ is
      | inr none_left ↦ let l = none_left.1 in absurd (omega (arith, l))
    ]
moving e (f ∷ fs) h none =
    let later : Contains (f ∷ fs) answer.NoMemory → ⊥ = λ k. none (contains_more e answer.NoMemory (f ∷ fs) k) in
    elim (contains_cons e answer.Moved (f ∷ fs) h) [
      | inl is ↦ ap (λ (x : EpochEnd). joined x (all_joined f fs)) is ∙ after_moved (all_joined f fs) (not_wanting f fs later)
      | inr more ↦ ap (λ (x : EpochEnd). joined e x) (moving f fs more later) ∙ joined_moved e (λ is. none (contains_first e answer.NoMemory (f ∷ fs) is))
    ]

resting : (e : EpochEnd) (es : List EpochEnd) → All AtRest (e ∷ es) → AtRest (all_joined e es)
resting e [] all = All-head AtRest e [] all
resting e (f ∷ fs) all =
    let rest = resting f fs (All-tail AtRest e (f ∷ fs) all) in
    elim (All-head AtRest e (f ∷ fs) all) [
      | inl is ↦ subst (λ (x : EpochEnd). AtRest (joined x (all_joined f fs))) (sym is) rest
      | inr is ↦ subst (λ (x : EpochEnd). AtRest (joined x (all_joined f fs))) (sym is) rest
    ]

ending : (e : EpochEnd) (es : List EpochEnd) → All (λ x. x ≡ answer.Done) (e ∷ es) → all_joined e es ≡ answer.Done
ending e [] all = All-head (λ x. x ≡ answer.Done) e [] all
ending e (f ∷ fs) all =
    subst (λ (x : EpochEnd). joined x (all_joined f fs) ≡ answer.Done) (sym (All-head (λ x. x ≡ answer.Done) e (f ∷ fs) all))
    (ending f fs (All-tail (λ x. x ≡ answer.Done) e (f ∷ fs) all))

-- ---- what is said of one task where its turns came to this together
module _ {T : Type 0} (said : EpochEnd → T → T → Type 0) (a b : T) where
  abbrev pub SaidOf : EpochEnd → Type 0
  SaidOf answer.Moved = said answer.Moved a b
  SaidOf answer.Idle = said answer.Idle a b ⊎ said answer.Done a b
  SaidOf answer.Done = said answer.Done a b
  SaidOf answer.NoMemory = said answer.NoMemory a b

  pub says : (e : EpochEnd) (es : List EpochEnd) (end : EpochEnd) → Together (e ∷ es) end → said (all_joined e es) a b → SaidOf end
  says e es answer.Moved h s = subst (λ (x : EpochEnd). said x a b) (moving e es h.0 h.1) s
  says e es answer.Idle h s =
      elim (resting e es h.1) [
        | inl is ↦ inl (subst (λ (x : EpochEnd). said x a b) is s)
        | inr is ↦ inr (subst (λ (x : EpochEnd). said x a b) is s)
      ]
  says e es answer.Done h s = subst (λ (x : EpochEnd). said x a b) (ending e es h) s
  says e es answer.NoMemory h s = subst (λ (x : EpochEnd). said x a b) (wanting e es h) s
