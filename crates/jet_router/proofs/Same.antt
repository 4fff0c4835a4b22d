-- When two routers are the same.
use Rattle.std.proofs.Common.{◌≡◌, ℕ, ◌<◌, ◌≤◌, ◌^◌, Bool, subst, ap, ◌∙◌, vec_len}
use Rattle.std.specs.Prelude.{slice_index}
use denote.Struct.Props.{props}
use Rattle.std.specs.declared.vec.Vec.{Vec}
use Rattle.std.specs.declared.alloc.Global.{Global}
use Rattle.jet_router.specs.declared.aim.Route.{Route}
use Rattle.jet_router.specs.declared.aim.Route.TheVariants.{Partitioned}
use Rattle.jet_router.specs.declared.dest.Dest.{Dest}
use Rattle.jet_router.specs.declared.router.Router.{Router}

module _ (route : Route) (table : Vec ℕ Global) (busy : Bool) (turn : ℕ) where
  abbrev Few : Vec Dest Global → Type 0
  Few a = vec_len a < 2 ^ 32

  abbrev Inside : Vec Dest Global → Type 0
  Inside a = turn ≤ vec_len a

  abbrev Aimed : Vec Dest Global → Type 0
  Aimed a = (k : ℕ) → k < vec_len table → slice_index table.items k < vec_len a

  abbrev Full : Type 0
  Full = route ≡ Partitioned → vec_len table ≡ 271

  abbrev made : (a : Vec Dest Global) → Few a → Inside a → Aimed a → Full → Router
  made a f g h u = record { route = route; table = table; dests = a; busy = busy; turn = turn; few = f; inside = g; aimed = h; full = u }

  -- the facts of a router are propositions, so the fields decide
  pub same_router : {a b : Vec Dest Global} → a ≡ b
      → (f : Few a) (f' : Few b) (g : Inside a) (g' : Inside b) (h : Aimed a) (h' : Aimed b) (u u' : Full)
      → ◌≡◌ {A = Router} (made a f g h u) (made b f' g' h' u')
  same_router {a} {b} e f f' g g' h h' u u' =
      let P : Vec Dest Global → Type 0 = λ b. (f' : Few b) (g' : Inside b) (h' : Aimed b) → ◌≡◌ {A = Router} (made a f g h u) (made b f' g' h' u') in
      let few : IsProp (Few a) = hlevel props in
      let inside : IsProp (Inside a) = hlevel props in
      let aimed : IsProp (Aimed a) = hlevel props in
      let full : IsProp Full = hlevel props in
      subst P e (λ f' g' h'.
      ap (λ (p : Few a). made a p g h u) (few f f')
      ∙ ap (λ (q : Inside a). made a f' q h u) (inside g g')
      ∙ ap (λ (r : Aimed a). made a f' g' r u) (aimed h h')
      ∙ ap (λ (s : Full). made a f' g' h' s) (full u u')) f' g' h'
