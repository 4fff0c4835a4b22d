-- The one list of tasks, and what becomes of it where one of them changes or one more comes.
use Rattle.std.proofs.Common.{◌≡◌, ◌≢◌, ℕ, zero, suc, ◌<◌, ◌≤◌, List, [], ◌∷◌, Option, None, Some, length, get_or, set, refl, sym, ap, ◌∙◌, subst, inl, inr, arith}
use Rattle.std.specs.List.{slice_get}
use Rattle.std.proofs.lemmas.Bool.{cases_eq}
use Rattle.std.proofs.lemmas.Option.{get_or_from_slice_get, slice_get_within}
use Rattle.jet_crew.specs.declared.worker.Worker.{Worker}
use Rattle.jet_crew.specs.declared.spot.Spot.{Spot}
use Rattle.jet_crew.specs.Gather.{IsOther, AwayFrom, Apart, HasSpot, Placed, epochs_of, task_in, lookup, put_if, gather}

module _ {T : Type 0} where
  slice_get-set_same : (xs : List T) (j : ℕ) (x : T) → j < length xs → slice_get (set xs j x) j ≡ Some x
  slice_get-set_same [] j x l = absurd (omega (arith, l))
  slice_get-set_same (y ∷ ys) zero x l = refl
  slice_get-set_same (y ∷ ys) (suc j) x l = slice_get-set_same ys j x (omega (arith, l))

  slice_get-set_other : (xs : List T) (j k : ℕ) (x : T) → k ≢ j → slice_get (set xs j x) k ≡ slice_get xs k
  slice_get-set_other [] j k x n = refl
  slice_get-set_other (y ∷ ys) zero zero x n = absurd (n refl)
  slice_get-set_other (y ∷ ys) zero (suc k) x n = refl
  slice_get-set_other (y ∷ ys) (suc j) zero x n = refl
  slice_get-set_other (y ∷ ys) (suc j) (suc k) x n = slice_get-set_other ys j k x (λ e. n (ap suc e))

away_get : (s : Spot) (ss : List Spot) (k : ℕ) (e : Spot) → AwayFrom s ss → k < length ss → IsOther s (get_or ss k e)
away_get s [] k e a l = absurd (omega (arith, l))
away_get s (u ∷ us) zero e a l = a.0
away_get s (u ∷ us) (suc k) e a l = away_get s us k e a.1 (omega (arith, l))

moved_spot : (ss : List Spot) (i j a b : ℕ) → a ≡ i → b ≡ j → HasSpot ss i j → HasSpot ss a b
moved_spot ss i j a b e f h = record { place = h.place; spot = h.spot; stands = h.stands; is = (h.is.0 ∙ sym e, h.is.1 ∙ sym f) }

module _ {T : Type 0} where
  -- ---- what stands at a spot
  pub worker_there : (ws : List (Worker T)) (i j : ℕ) (t : T) → lookup ws i j ≡ Some t → i < length ws
  worker_there [] i j t e = absurd (cc e)
  worker_there (w ∷ ws) zero j t e = omega arith
  worker_there (w ∷ ws) (suc i) j t e = let h = worker_there ws i j t e in omega (arith, h)

  pub slot_there : (ws : List (Worker T)) (i j : ℕ) (t : T) (w : Worker T) → lookup ws i j ≡ Some t → slice_get ws i ≡ Some w → slice_get w.tasks.items j ≡ Some t
  slot_there ws i j t w e f = ap (λ (o : Option (Worker T)). task_in o j) (sym f) ∙ e

  gather_short : (ws : List (Worker T)) (ss : List Spot) → length (gather ws ss) ≤ length ss
  gather_short ws [] = omega arith
  gather_short ws (s ∷ ss) =
      let h = gather_short ws ss in
      elim (lookup ws s.worker s.slot) as (λ (o : Option T). length (put_if o (gather ws ss)) ≤ length (s ∷ ss)) [ None ↦ omega (arith, h) | Some t ↦ omega (arith, h) ]

  -- the first spot holds a task, and the rest are filled
  pub filled_first : (ws : List (Worker T)) (s : Spot) (ss : List Spot) → length (gather ws (s ∷ ss)) ≡ length (s ∷ ss) → (t : T) × (lookup ws s.worker s.slot ≡ Some t) × (length (gather ws ss) ≡ length ss)
  filled_first ws s ss f =
      let h = gather_short ws ss in
      let P : Option T → Type 0 = λ o. length (put_if o (gather ws ss)) ≡ length (s ∷ ss) → (t : T) × (o ≡ Some t) × (length (gather ws ss) ≡ length ss) in
      elim (lookup ws s.worker s.slot) as P [ None ↦ (λ e. absurd (omega (arith, h, e))) | Some t ↦ (λ e. (t, refl, omega (arith, e))) ] f

  -- at a spot that was read from the order stands the k-th task
  pub reads : (ws : List (Worker T)) (ss : List Spot) (k : ℕ) (s : Spot) → length (gather ws ss) ≡ length ss → k < length ss → s ≡ get_or ss k s → (t : T) × (lookup ws s.worker s.slot ≡ Some t) × (slice_get (gather ws ss) k ≡ Some t)
  reads ws [] k s f l e = absurd (omega (arith, l))
  reads ws (u ∷ us) zero s f l e =
      let h = filled_first ws u us f in
      (h.0, subst (λ (v : Spot). lookup ws v.worker v.slot ≡ Some h.0) (sym e) h.1, rw h.1 refl)
  reads ws (u ∷ us) (suc k) s f l e =
      let h = filled_first ws u us f in
      let r = reads ws us k s h.2 (omega (arith, l)) e in
      (r.0, r.1, ap (λ (o : Option T). slice_get (put_if o (gather ws us)) (suc k)) h.1 ∙ r.2)

  pub stands : (ws : List (Worker T)) (ss : List Spot) (k : ℕ) (s : Spot) → length (gather ws ss) ≡ length ss → slice_get ss k ≡ Some s → slice_get (gather ws ss) k ≡ lookup ws s.worker s.slot
  stands ws ss k s f e =
      let r = reads ws ss k s f (slice_get_within ss k s e) (sym (get_or_from_slice_get ss k s s e)) in
      r.2 ∙ sym r.1

  -- ---- one task changes: worker i gets x at its slot j
  pub lookup-set_other :
      (ws : List (Worker T)) (i j a b : ℕ) (w v : Worker T) (x : T) → slice_get ws i ≡ Some w → v.tasks.items ≡ set w.tasks.items j x →
      (a ≡ i → b ≢ j) → lookup (set ws i v) a b ≡ lookup ws a b
  lookup-set_other [] i j a b w v x g e n = refl
  lookup-set_other (u ∷ us) zero j zero b w v x g e n =
      let f : u ≡ w = cc (g) in
      ap (λ (l : List T). slice_get l b) e ∙ (slice_get-set_other w.tasks.items j b x (n refl) ∙ ap (λ (q : Worker T). slice_get q.tasks.items b) (sym f))
  lookup-set_other (u ∷ us) zero j (suc a) b w v x g e n = refl
  lookup-set_other (u ∷ us) (suc i) j zero b w v x g e n = refl
  lookup-set_other (u ∷ us) (suc i) j (suc a) b w v x g e n = lookup-set_other us i j a b w v x g e (λ q. n (ap suc q))

  pub lookup-set_same :
      (ws : List (Worker T)) (i j : ℕ) (w v : Worker T) (x : T) → slice_get ws i ≡ Some w → v.tasks.items ≡ set w.tasks.items j x →
      j < length w.tasks.items → lookup (set ws i v) i j ≡ Some x
  lookup-set_same [] i j w v x g e l = absurd (cc g)
  lookup-set_same (u ∷ us) zero j w v x g e l = ap (λ (q : List T). slice_get q j) e ∙ slice_get-set_same w.tasks.items j x l
  lookup-set_same (u ∷ us) (suc i) j w v x g e l = lookup-set_same us i j w v x g e l

  module _ (ws vs : List (Worker T)) (target : Spot) (others : (u : Spot) → IsOther target u → lookup vs u.worker u.slot ≡ lookup ws u.worker u.slot) where
    gather_away : (ss : List Spot) → AwayFrom target ss → gather vs ss ≡ gather ws ss
    gather_away [] a = refl
    gather_away (u ∷ us) a = rw (others u a.0, gather_away us a.1) refl

    pub gather-set :
        (ss : List Spot) (k : ℕ) (x : T) → length (gather ws ss) ≡ length ss → Apart ss → k < length ss → get_or ss k target ≡ target →
        lookup vs target.worker target.slot ≡ Some x → gather vs ss ≡ set (gather ws ss) k x
    gather-set [] k x f a l e at = absurd (omega (arith, l))
    gather-set (s ∷ ss) zero x f a l e at =
        let h = filled_first ws s ss f in
        let g = gather_away ss (subst (λ (u : Spot). AwayFrom u ss) e a.0) in
        let at2 : lookup vs s.worker s.slot ≡ Some x = subst (λ (u : Spot). lookup vs u.worker u.slot ≡ Some x) (sym e) at in
        rw (at2, h.1, g) refl
    gather-set (s ∷ ss) (suc k) x f a l e at =
        let h = filled_first ws s ss f in
        let o : IsOther target s = λ p q. away_get s ss k target a.0 (omega (arith, l)) (ap (λ (u : Spot). u.worker) e ∙ sym p) (ap (λ (u : Spot). u.slot) e ∙ sym q) in
        rw (others s o, h.1, gather-set ss k x h.2 a.1 (omega (arith, l)) e at) refl

  pub covered-set :
      (ws : List (Worker T)) (ss : List Spot) (i j : ℕ) (w v : Worker T) (x t : T) → Placed ws ss → slice_get ws i ≡ Some w → v.tasks.items ≡ set w.tasks.items j x → lookup ws i j ≡ Some t →
      (a b : ℕ) (u : T) → lookup (set ws i v) a b ≡ Some u → HasSpot ss a b
  covered-set ws ss i j w v x t p g e at a b u h =
      elim (cases_eq a i) [
        | inr other ↦ p.covered a b u (sym (lookup-set_other ws i j a b w v x g e (λ q. absurd (other q))) ∙ h)
        | inl is ↦
            elim (cases_eq b j) [
              | inl same ↦ moved_spot ss i j a b is same (p.covered i j t at)
              | inr other ↦ p.covered a b u (sym (lookup-set_other ws i j a b w v x g e (λ q. other)) ∙ h)
            ]
      ]

  pub epochs-set : (ws : List (Worker T)) (i : ℕ) (w v : Worker T) → slice_get ws i ≡ Some w → v.epochs ≡ w.epochs → epochs_of (set ws i v) ≡ epochs_of ws
  epochs-set [] i w v g e = refl
  epochs-set (u ∷ us) zero w v g e =
      let f : u ≡ w = cc (g) in
      ap (λ (x : ℕ). x ∷ epochs_of us) (e ∙ ap (λ (q : Worker T). q.epochs) (sym f))
  epochs-set (u ∷ us) (suc i) w v g e = ap (λ (l : List ℕ). u.epochs ∷ l) (epochs-set us i w v g e)
