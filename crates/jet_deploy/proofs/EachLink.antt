-- The places of links, found tasklet by tasklet.
use Rattle.std.proofs.Common.{arith, ◌≡◌, ◌⊎◌, inl, inr, ◌∙◌, ◌+◌, ◌++◌, ◌∷◌, [], ℕ, Bool, true, false, List, length, take, ap, refl, sym, subst}
use Rattle.std.specs.Prelude.{Some, count_by, slice_get}
use Rattle.std.proofs.lemmas.List.{length_push}
use Rattle.std.proofs.lemmas.List.Sums.{count_by_more_yes, count_by_more_no}
use Rattle.std.proofs.lemmas.Option.{slice_get_within, get_or_from_slice_get}
use Rattle.jet_engine.specs.declared.places.LinkAt.{LinkAt}
use Rattle.jet_layout.specs.declared.task.Link.{Link}
use Rattle.jet_layout.specs.declared.task.Task.{Task}
use Rattle.jet_layout.specs.declared.task.Task.TheVariants.{Run, Send, Receive}
use Rattle.jet_deploy.specs.Sites.{sends, IsLinkAt}
use Rattle.jet_deploy.proofs.EachRing.{at_push}

-- what stands in no list of tasklets
abbrev pub no_task : Task
no_task = Run (record { vertex = 0; member = 0; number = 0 })

pub not_sending : (t : Task) → ((l : Link) → t ≡ Send l → ⊥) → sends t ≡ false
not_sending (Run i) none = refl
not_sending (Send l) none = absurd (none l refl)
not_sending (Receive l) none = refl

abbrev AreLinks : List Task → List LinkAt → Type 0
AreLinks tasks ls = (k : ℕ) (a : LinkAt) → slice_get ls k ≡ Some a → IsLinkAt tasks k a

abbrev link_at : ℕ → LinkAt
link_at n = record { sender = n; receiver = n + 1 }

grown : (tasks : List Task) (ls : List LinkAt) (y : LinkAt) → AreLinks tasks ls → IsLinkAt tasks (length ls) y → (k : ℕ) (a : LinkAt) → (slice_get ls k ≡ Some a) ⊎ ((k ≡ length ls) × (y ≡ a)) → IsLinkAt tasks k a
grown tasks ls y each is k a (inl e) = each k a e
grown tasks ls y each is k a (inr e) = subst (λ (z : LinkAt). IsLinkAt tasks k z) e.1 (subst (λ (i : ℕ). IsLinkAt tasks i y) (sym e.0) is)

-- tasklet n sends over a link
pub links_more : (tasks : List Task) (n : ℕ) (l : Link) (ls ms : List LinkAt) → slice_get tasks n ≡ Some (Send l) → ms ≡ ls ++ link_at n ∷ [] → AreLinks tasks ls → length ls ≡ count_by sends (take n tasks)
    → AreLinks tasks ms × (length ms ≡ count_by sends (take (n + 1) tasks))
links_more tasks n l ls ms at e each count =
    let more = count_by_more_yes sends tasks n (Send l) (slice_get_within tasks n (Send l) at) (ap sends (get_or_from_slice_get tasks n (Send l) (Send l) at)) in
    let long = length_push ls (link_at n) in
    let is : IsLinkAt tasks (length ls) (link_at n) = record { link = l; at = at; place = sym count; behind = refl } in
    let all : AreLinks tasks (ls ++ link_at n ∷ []) = λ k a here. grown tasks ls (link_at n) each is k a (at_push ls (link_at n) k a here) in
    (subst (λ (xs : List LinkAt). AreLinks tasks xs) (sym e) all, ap length e ∙ omega (arith, more, long, count))

-- it does not
pub links_same : (tasks : List Task) (n : ℕ) (t : Task) (ls ms : List LinkAt) → slice_get tasks n ≡ Some t → sends t ≡ false → ms ≡ ls → AreLinks tasks ls → length ls ≡ count_by sends (take n tasks)
    → AreLinks tasks ms × (length ms ≡ count_by sends (take (n + 1) tasks))
links_same tasks n t ls ms at fails e each count =
    let same = count_by_more_no sends tasks n t (slice_get_within tasks n t at) (ap sends (get_or_from_slice_get tasks n t t at) ∙ fails) in
    (subst (λ (xs : List LinkAt). AreLinks tasks xs) (sym e) each, ap length e ∙ count ∙ sym same)
