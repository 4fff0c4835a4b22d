-- What holds of each task of the one list, and of each task of each worker.
use Rattle.std.proofs.Common.{◌≡◌, ℕ, ◌<◌, List, [], ◌∷◌, Option, None, Some, length, get_or, refl, sym, ap, ◌∙◌, subst, arith}
use Rattle.std.specs.List.{All, slice_get}
use Rattle.std.proofs.lemmas.List.Elements.{All-cons}
use Rattle.std.proofs.lemmas.Option.{slice_get-get_or, get_or_from_slice_get, slice_get_within}
use Rattle.jet_crew.specs.declared.worker.Worker.{Worker}
use Rattle.jet_crew.specs.declared.spot.Spot.{Spot}
use Rattle.jet_crew.specs.Epoch.{AllKeep}
use Rattle.jet_crew.specs.Gather.{HasSpot, Placed, task_in, lookup, put_if, gather}
use Rattle.jet_crew.proofs.Spots.{stands}

module _ {T : Type 0} (Q : T → Type 0) where
  -- one of a list
  one_holds : (xs : List T) (k : ℕ) (x : T) → All Q xs → slice_get xs k ≡ Some x → Q x
  one_holds xs k x all at = subst Q (get_or_from_slice_get xs k x x at) (all k x (slice_get_within xs k x at))

  -- a task at its spot in the list
  task_holds : (ws : List (Worker T)) (ss : List Spot) (i j : ℕ) (t : T) → Placed ws ss → All Q (gather ws ss) → lookup ws i j ≡ Some t → Q t
  task_holds ws ss i j t p all e =
      let h = p.covered i j t e in
      let there : lookup ws h.spot.worker h.spot.slot ≡ Some t = ap (λ (a : ℕ). lookup ws a h.spot.slot) h.is.0 ∙ (ap (λ (b : ℕ). lookup ws i b) h.is.1 ∙ e) in
      one_holds (gather ws ss) h.place t all (stands ws ss h.place h.spot p.filled h.stands ∙ there)

  pub of_workers : (ws : List (Worker T)) (ss : List Spot) → Placed ws ss → All Q (gather ws ss) → All (AllKeep Q) ws
  of_workers ws ss p all = λ i d l j t m.
      let tasks = (get_or ws i d).tasks.items in
      let at : lookup ws i j ≡ Some (get_or tasks j t) = ap (λ (o : Option (Worker T)). task_in o j) (slice_get-get_or ws i d l) ∙ slice_get-get_or tasks j t m in
      task_holds ws ss i j (get_or tasks j t) p all at

  -- what stands at a place of a worker, if something does
  put_holds : (o : Option T) (ts : List T) → ((t : T) → o ≡ Some t → Q t) → All Q ts → All Q (put_if o ts)
  put_holds None ts h all = all
  put_holds (Some t) ts h all = All-cons Q t ts (h t refl) all

  of_worker : (o : Option (Worker T)) (j : ℕ) (t : T) → ((w : Worker T) → o ≡ Some w → AllKeep Q w) → task_in o j ≡ Some t → Q t
  of_worker None j t h e = absurd (cc e)
  of_worker (Some w) j t h e = one_holds w.tasks.items j t (h w refl) e

  pub of_list : (ws : List (Worker T)) (ss : List Spot) → All (AllKeep Q) ws → All Q (gather ws ss)
  of_list ws [] all = λ k d l. absurd (omega (arith, l))
  of_list ws (s ∷ ss) all =
      let here : (t : T) → lookup ws s.worker s.slot ≡ Some t → Q t = λ t e.
      of_worker (slice_get ws s.worker) s.slot t (λ w at. subst (λ (v : Worker T). AllKeep Q v) (get_or_from_slice_get ws s.worker w w at) (all s.worker w (slice_get_within ws s.worker w at))) e in
      put_holds (lookup ws s.worker s.slot) (gather ws ss) here (of_list ws ss all)
