-- An epoch of all workers, said of the one list of tasks.
use Rattle.std.proofs.Common.{◌≡◌, ◌⊎◌, ℕ, suc, ◌<◌, List, [], ◌∷◌, Option, Some, length, map, get_or, refl, sym, ap, ◌∙◌, subst, inl, inr, arith}
use Rattle.std.specs.List.{slice_get, AllZip, Contains}
use Rattle.std.proofs.lemmas.List.{get_or-map}
use Rattle.std.proofs.lemmas.Option.{slice_get-get_or, get_or_from_slice_get, slice_get_within}
use Rattle.jet_crew.specs.declared.end.EpochEnd.{EpochEnd}
use Rattle.jet_crew.specs.declared.end.EpochEnd.TheVariants as answer
use Rattle.jet_crew.specs.declared.worker.Worker.{Worker}
use Rattle.jet_crew.specs.declared.spot.Spot.{Spot}
use Rattle.jet_crew.specs.Turns.{Together}
use Rattle.jet_crew.specs.Epoch.{Placewise, SomePlace, SaidAll, EpochOver, Worked}
use Rattle.jet_crew.specs.Gather.{HasSpot, Placed, task_in, lookup, put_if, gather}
use Rattle.jet_crew.proofs.Places.{placewise_zip}
use Rattle.jet_crew.proofs.Spots.{filled_first, worker_there, slot_there, stands}

module _ {T : Type 0} where
  -- the workers before and after, each with its tasks in the same places
  abbrev SameSizes : List (Worker T) → List (Worker T) → Type 0
  SameSizes ws vs = (length vs ≡ length ws) × ((i : ℕ) (d : Worker T) → i < length ws → length (get_or vs i d).tasks.items ≡ length (get_or ws i d).tasks.items)

  -- what stands at a spot of a worker
  lookup_is : (ws : List (Worker T)) (i j : ℕ) (d : Worker T) (e : T) → i < length ws → j < length (get_or ws i d).tasks.items → lookup ws i j ≡ Some (get_or (get_or ws i d).tasks.items j e)
  lookup_is ws i j d e l m = ap (λ (o : Option (Worker T)). task_in o j) (slice_get-get_or ws i d l) ∙ slice_get-get_or (get_or ws i d).tasks.items j e m

  some_worker : (ws : List (Worker T)) (i : ℕ) → i < length ws → Worker T
  some_worker [] i l = absurd (omega (arith, l))
  some_worker (w ∷ ws) i l = w

  -- where it stands
  record Stands (ws : List (Worker T)) (i j : ℕ) (t : T) : Type 0 where
    worker : i < length ws
    some : Worker T
    slot : j < length (get_or ws i some).tasks.items
    is : get_or (get_or ws i some).tasks.items j t ≡ t

  there : (ws : List (Worker T)) (i j : ℕ) (t : T) → lookup ws i j ≡ Some t → Stands ws i j t
  there ws i j t e =
      let l = worker_there ws i j t e in
      let d = some_worker ws i l in
      let at = slot_there ws i j t (get_or ws i d) e (slice_get-get_or ws i d l) in
      record { worker = l; some = d; slot = slice_get_within (get_or ws i d).tasks.items j t at; is = get_or_from_slice_get (get_or ws i d).tasks.items j t t at }

  -- ---- what holds of each two tasks of a worker holds of each two of the list
  module _ (R : T → T → Type 0) (ws vs : List (Worker T)) (sizes : SameSizes ws vs) (each : (i j : ℕ) (d : Worker T) (e : T) → i < length ws → j < length (get_or ws i d).tasks.items → R (get_or (get_or ws i d).tasks.items j e) (get_or (get_or vs i d).tasks.items j e)) where
    related : (i j : ℕ) (t : T) → lookup ws i j ≡ Some t → (u : T) × (lookup vs i j ≡ Some u) × R t u
    related i j t e =
        let s = there ws i j t e in
        let n = sizes.0 in
        let m = sizes.1 i s.some s.worker in
        let l = s.worker in
        let k = s.slot in
        let u = get_or (get_or vs i s.some).tasks.items j t in
        (u, lookup_is vs i j s.some t (omega (arith, n, l)) (omega (arith, m, k)), subst (λ (x : T). R x u) s.is (each i j s.some t s.worker s.slot))

    zipped : (ss : List Spot) → length (gather ws ss) ≡ length ss → AllZip R (gather ws ss) (gather vs ss)
    zipped [] f = tt
    zipped (s ∷ ss) f =
        let h = filled_first ws s ss f in
        let k = related s.worker s.slot h.0 h.1 in
        let P : Option T → Option T → Type 0 = λ x y. AllZip R (put_if x (gather ws ss)) (put_if y (gather vs ss)) in
        subst (λ (x : Option T). P x (lookup vs s.worker s.slot)) (sym h.1) (subst (λ (y : Option T). P (Some h.0) y) (sym k.1) (k.2, zipped ss h.2))

    pub all_related : (ss : List Spot) → length (gather ws ss) ≡ length ss → Placewise R (gather ws ss) (gather vs ss)
    all_related ss f = placewise_zip R (gather ws ss) (gather vs ss) (zipped ss f)

  -- the order still holds a spot for each task
  still_placed : (ws vs : List (Worker T)) (ss : List Spot) → SameSizes ws vs → length (gather vs ss) ≡ length ss → Placed ws ss → Placed vs ss
  still_placed ws vs ss sizes filled p =
      record {
        filled = filled;
        apart = p.apart;
        covered = λ i j u e.
            let s = there vs i j u e in
            let n = sizes.0 in
            let l = s.worker in
            let k = s.slot in
            let w : i < length ws = omega (arith, n, l) in
            let m = sizes.1 i s.some w in
            p.covered i j (get_or (get_or ws i s.some).tasks.items j u) (lookup_is ws i j s.some u w (omega (arith, m, k)));
      }

  -- ---- two tasks of a worker stand in some place of the list
  some_related : (R : T → T → Type 0) (ws vs : List (Worker T)) (ss : List Spot) → Placed ws ss → Placed vs ss → SameSizes ws vs → (i : ℕ) (w : Worker T) → i < length ws → SomePlace R (get_or ws i w).tasks.items (get_or vs i w).tasks.items → SomePlace R (gather ws ss) (gather vs ss)
  some_related R ws vs ss p q sizes i w l some =
      record {
        place = spot.place;
        exists = slice_get_within (gather ws ss) spot.place a before;
        has = λ d.
            subst (λ (x : T). R x (get_or (gather vs ss) spot.place d)) (sym (get_or_from_slice_get (gather ws ss) spot.place a d before))
            (subst (λ (y : T). R a y) (sym (get_or_from_slice_get (gather vs ss) spot.place b d after)) (some.has e));
      }
    where
      j : ℕ
      j = some.place

      here : j < length (get_or ws i w).tasks.items
      here = some.exists

      first : (xs : List T) → j < length xs → T
      first [] h = absurd (omega (arith, h))
      first (x ∷ xs) h = x

      e : T
      e = first (get_or ws i w).tasks.items here

      a : T
      a = get_or (get_or ws i w).tasks.items j e

      b : T
      b = get_or (get_or vs i w).tasks.items j e

      at : lookup ws i j ≡ Some a
      at = lookup_is ws i j w e l here

      now : lookup vs i j ≡ Some b
      now = let n = sizes.0 in let m = sizes.1 i w l in let h = here in lookup_is vs i j w e (omega (arith, n, l)) (omega (arith, m, h))

      spot : HasSpot ss i j
      spot = p.covered i j a at

      looked : (us : List (Worker T)) → lookup us spot.spot.worker spot.spot.slot ≡ lookup us i j
      looked us = ap (λ (x : ℕ). lookup us x spot.spot.slot) spot.is.0 ∙ ap (λ (x : ℕ). lookup us i x) spot.is.1

      before : slice_get (gather ws ss) spot.place ≡ Some a
      before = stands ws ss spot.place spot.spot p.filled spot.stands ∙ (looked ws ∙ at)

      after : slice_get (gather vs ss) spot.place ≡ Some b
      after = stands vs ss spot.place spot.spot q.filled spot.stands ∙ (looked vs ∙ now)

module _ {T : Type 0} (went : T → T → Type 0) (said : EpochEnd → T → T → Type 0) (turns : ℕ) (ws vs : List (Worker T)) (worked : Placewise (Worked went said turns) ws vs) where
  sizes : (length vs ≡ length ws) × ((i : ℕ) (d : Worker T) → i < length ws → length (get_or vs i d).tasks.items ≡ length (get_or ws i d).tasks.items)
  sizes = (worked.count, λ i d l. (worked.each i d l).took.count)

  gone : (i j : ℕ) (d : Worker T) (e : T) → i < length ws → j < length (get_or ws i d).tasks.items → went (get_or (get_or ws i d).tasks.items j e) (get_or (get_or vs i d).tasks.items j e)
  gone i j d e l m = (worked.each i d l).over.went_all.each j e m

  went_list : (ss : List Spot) → Placed ws ss → Placewise went (gather ws ss) (gather vs ss)
  went_list ss p = all_related went ws vs sizes gone ss p.filled

  pub placed_after : (ss : List Spot) → Placed ws ss → Placed vs ss
  placed_after ss p = still_placed ws vs ss sizes ((went_list ss p).count ∙ p.filled) p

  -- ---- by what each worker's epoch came to
  abbrev EndIs : EpochEnd → ℕ → Type 0
  EndIs e i = (d : Worker T) → (get_or vs i d).end ≡ e

  said_there : (e : EpochEnd) (i : ℕ) (d : Worker T) → i < length ws → (get_or vs i d).end ≡ e → SaidAll said e (get_or ws i d).tasks.items (get_or vs i d).tasks.items
  said_there e i d l is = subst (λ (f : EpochEnd). SaidAll said f (get_or ws i d).tasks.items (get_or vs i d).tasks.items) is (worked.each i d l).over.said_all

  abbrev ends : List EpochEnd
  ends = map (λ w. w.end) vs

  end_at : (i : ℕ) (d : Worker T) (e : EpochEnd) → i < length ws → get_or ends i e ≡ (get_or vs i d).end
  end_at i d e l = let n = worked.count in get_or-map (λ (w : Worker T). w.end) vs i d e (omega (arith, n, l))

  length_ends : length ends ≡ length ws
  length_ends = length_map vs ∙ worked.count
    where
      length_map : (us : List (Worker T)) → length (map (λ (w : Worker T). w.end) us) ≡ length us
      length_map [] = refl
      length_map (u ∷ us) = ap suc (length_map us)

  inside : (i : ℕ) → i < length ws → i < length ends
  inside i l = let n = length_ends in omega (arith, n, l)

  -- some worker's epoch came to this
  some_said : (e : EpochEnd) → ((i : ℕ) (w : Worker T) → i < length ws → (get_or vs i w).end ≡ e → SomePlace (said e) (get_or ws i w).tasks.items (get_or vs i w).tasks.items) → Contains ends e → (ss : List Spot) → Placed ws ss → SomePlace (said e) (gather ws ss) (gather vs ss)
  some_said e found (i, l, is) ss p =
      let n = length_ends in
      let m : i < length ws = omega (arith, n, l) in
      let w = some_worker ws i m in
      some_related (said e) ws vs ss p (placed_after ss p) sizes i w m (found i w m (sym (end_at i w e m) ∙ is))

  said_list : (end : EpochEnd) → Together ends end → (ss : List Spot) → Placed ws ss → SaidAll said end (gather ws ss) (gather vs ss)
  said_list answer.Moved h ss p = some_said answer.Moved (said_there answer.Moved) h.0 ss p
  said_list answer.NoMemory h ss p = some_said answer.NoMemory (said_there answer.NoMemory) h ss p
  said_list answer.Done h ss p =
      all_related (said answer.Done) ws vs sizes
      (λ i j d e l m. (said_there answer.Done i d l (sym (end_at i d answer.Done l) ∙ h i answer.Done (inside i l))).each j e m)
      ss p.filled
  said_list answer.Idle h ss p =
      all_related (λ a b. said answer.Idle a b ⊎ said answer.Done a b) ws vs sizes
      (λ i j d e l m.
      elim (h.1 i answer.Idle (inside i l)) [
        | inl is ↦ (said_there answer.Idle i d l (sym (end_at i d answer.Idle l) ∙ is)).each j e m
        | inr is ↦ inr ((said_there answer.Done i d l (sym (end_at i d answer.Idle l) ∙ is)).each j e m)
      ])
      ss p.filled

  pub over_list : (end : EpochEnd) → Together ends end → (ss : List Spot) → Placed ws ss → EpochOver went said end (gather ws ss) (gather vs ss)
  over_list end h ss p = record { went_all = went_list ss p; said_all = said_list end h ss p }
