-- What was sent is never taken back, where an item goes to one destination.
use Rattle.std.proofs.Common.{◌≡◌, ℕ, zero, suc, List, [], ◌∷◌, ◌++◌, get_or, set, refl, sym, subst, append-nil}
use mathlib.Core.List.{IsPrefix}
use Rattle.jet_items.specs.declared.item.Item.{Item}
use Rattle.jet_router.specs.declared.Given.{Given}
use Rattle.jet_router.specs.declared.Given.TheVariants.{All, Again}
use Rattle.jet_router.specs.declared.aim.Aim.TheVariants.{Any, Only}
use Rattle.jet_router.specs.Router.{View, sents, SentTo}
use Rattle.jet_router.specs.Gives.{Gives}

set_more : (xs : List (List Item)) (d k : ℕ) (x : Item) → IsPrefix (get_or xs k []) (get_or (set xs d (get_or xs d [] ++ x ∷ [])) k [])
set_more [] d k x = ([], refl)
set_more (y ∷ ys) zero zero x = (x ∷ [], refl)
set_more (y ∷ ys) zero (suc k) x = ([], append-nil (get_or ys k []))
set_more (y ∷ ys) (suc d) zero x = ([], append-nil y)
set_more (y ∷ ys) (suc d) (suc k) x = set_more ys d k x

more_to : (a b : View) (d : ℕ) (x : Item) → SentTo a b d x → (k : ℕ) → IsPrefix (get_or (sents a) k []) (get_or (sents b) k [])
more_to a b d x s k = subst (λ (w : List (List Item)). IsPrefix (get_or (sents a) k []) (get_or w k [])) (sym s.sent) (set_more (sents a) d k x)

more_same : (a b : View) → b ≡ a → (k : ℕ) → IsPrefix (get_or (sents a) k []) (get_or (sents b) k [])
more_same a b e k = subst (λ (v : View). IsPrefix (get_or (sents a) k []) (get_or (sents v) k [])) (sym e) ([], append-nil (get_or (sents a) k []))

pub more_any : (r : Given) (a b : View) (x : Item) → Gives Any r a b x → (k : ℕ) → IsPrefix (get_or (sents a) k []) (get_or (sents b) k [])
more_any All a b x g k = more_to a b g.0 x g.1 k
more_any Again a b x g k = more_same a b g.0 k

pub more_only : (d : ℕ) (r : Given) (a b : View) (x : Item) → Gives (Only d) r a b x → (k : ℕ) → IsPrefix (get_or (sents a) k []) (get_or (sents b) k [])
more_only d All a b x g k = more_to a b d x g k
more_only d Again a b x g k = more_same a b g.0 k
