-- One more task: a worker gets it behind its own, and the list behind all.
use Rattle.std.proofs.Common.{◌≡◌, ◌≢◌, ◌⊎◌, ℕ, zero, suc, ◌<◌, List, [], ◌∷◌, ◌++◌, Option, None, Some, length, set, refl, sym, ap, ◌∙◌, inl, inr, arith}
use Rattle.std.specs.List.{slice_get}
use Rattle.std.proofs.lemmas.Bool.{cases_eq}
use Rattle.std.proofs.lemmas.List.{length-append}
use Rattle.std.proofs.lemmas.Option.{slice_get_within}
use Rattle.jet_crew.specs.declared.worker.Worker.{Worker}
use Rattle.jet_crew.specs.declared.spot.Spot.{Spot}
use Rattle.jet_crew.specs.Gather.{IsOther, AwayFrom, Apart, HasSpot, Placed, task_in, lookup, put_if, gather}
use Rattle.jet_crew.proofs.Spots.{filled_first, slot_there}

pub same_some : {X : Type 0} (x y : X) → Some x ≡ Some y → x ≡ y
same_some x y e = cc (e)

-- ---- elements of a list with one more behind
slice_get-before : {X : Type 0} (xs : List X) (y : X) (k : ℕ) → k < length xs → slice_get (xs ++ y ∷ []) k ≡ slice_get xs k
slice_get-before [] y k l = absurd (omega (arith, l))
slice_get-before (x ∷ xs) y zero l = refl
slice_get-before (x ∷ xs) y (suc k) l = slice_get-before xs y k (omega (arith, l))

slice_get-last : {X : Type 0} (xs : List X) (y : X) → slice_get (xs ++ y ∷ []) (length xs) ≡ Some y
slice_get-last [] y = refl
slice_get-last (x ∷ xs) y = slice_get-last xs y

-- what stands behind the others is the last one
slice_get-new : {X : Type 0} (xs : List X) (y : X) (k : ℕ) (x : X) → slice_get (xs ++ y ∷ []) k ≡ Some x → (slice_get xs k ≡ Some x) ⊎ (k ≡ length xs)
slice_get-new [] y zero x e = inr refl
slice_get-new [] y (suc k) x e = absurd (cc e)
slice_get-new (z ∷ zs) y zero x e = inl e
slice_get-new (z ∷ zs) y (suc k) x e =
    elim (slice_get-new zs y k x e) [
      | inl before ↦ inl before
      | inr last ↦ inr (ap suc last)
    ]

away-push : (s t : Spot) (ss : List Spot) → AwayFrom s ss → IsOther s t → AwayFrom s (ss ++ t ∷ [])
away-push s t [] a o = (o, tt)
away-push s t (u ∷ us) a o = (a.0, away-push s t us a.1 o)

module _ {T : Type 0} where
  -- each of these spots holds a task, and none is this one
  apart-push : (ws : List (Worker T)) (ss : List Spot) (t : Spot) → length (gather ws ss) ≡ length ss → ((u : Spot) (x : T) → lookup ws u.worker u.slot ≡ Some x → IsOther u t) → Apart ss → Apart (ss ++ t ∷ [])
  apart-push ws [] t f other a = (tt, tt)
  apart-push ws (s ∷ ss) t f other a =
      let h = filled_first ws s ss f in
      (away-push s t ss a.0 (other s h.0 h.1), apart-push ws ss t h.2 other a.1)

  put_if-append : (o : Option T) (xs ys : List T) → put_if o (xs ++ ys) ≡ put_if o xs ++ ys
  put_if-append None xs ys = refl
  put_if-append (Some t) xs ys = refl

  gather-append : (ws : List (Worker T)) (ss us : List Spot) → gather ws (ss ++ us) ≡ gather ws ss ++ gather ws us
  gather-append ws [] us = refl
  gather-append ws (s ∷ ss) us = ap (put_if (lookup ws s.worker s.slot)) (gather-append ws ss us) ∙ put_if-append (lookup ws s.worker s.slot) (gather ws ss) (gather ws us)

  -- worker i becomes v: what stands in its places, and all else stays
  lookup-at : (ws : List (Worker T)) (i j : ℕ) (w v : Worker T) → slice_get ws i ≡ Some w → lookup (set ws i v) i j ≡ slice_get v.tasks.items j
  lookup-at [] i j w v g = absurd (cc g)
  lookup-at (u ∷ us) zero j w v g = refl
  lookup-at (u ∷ us) (suc i) j w v g = lookup-at us i j w v g

  lookup-off : (ws : List (Worker T)) (i a b : ℕ) (v : Worker T) → a ≢ i → lookup (set ws i v) a b ≡ lookup ws a b
  lookup-off [] i a b v n = refl
  lookup-off (u ∷ us) zero zero b v n = absurd (n refl)
  lookup-off (u ∷ us) zero (suc a) b v n = refl
  lookup-off (u ∷ us) (suc i) zero b v n = refl
  lookup-off (u ∷ us) (suc i) (suc a) b v n = lookup-off us i a b v (λ e. n (ap suc e))

  module _ (ws vs : List (Worker T)) (stays : (a b : ℕ) (t : T) → lookup ws a b ≡ Some t → lookup vs a b ≡ Some t) where
    gather_stays : (ss : List Spot) → length (gather ws ss) ≡ length ss → gather vs ss ≡ gather ws ss
    gather_stays [] f = refl
    gather_stays (s ∷ ss) f =
        let h = filled_first ws s ss f in
        rw (h.1, stays s.worker s.slot h.0 h.1, gather_stays ss h.2) refl

  module _ (ws : List (Worker T)) (ss : List Spot) (i : ℕ) (w v : Worker T) (p : Placed ws ss) (g : slice_get ws i ≡ Some w) where
    -- the tasks of worker i as they were
    in_w : (j : ℕ) (t : T) → lookup ws i j ≡ Some t → slice_get w.tasks.items j ≡ Some t
    in_w j t e = slot_there ws i j t w e g

    -- ---- the worker got this task behind its own
    module _ (t : T) (is : v.tasks.items ≡ w.tasks.items ++ t ∷ []) (s : Spot) (worker : s.worker ≡ i) (slot : s.slot ≡ length w.tasks.items) where
      abbrev vs : List (Worker T)
      vs = set ws i v

      stays : (a b : ℕ) (x : T) → lookup ws a b ≡ Some x → lookup vs a b ≡ Some x
      stays a b x e =
          elim (cases_eq a i) [
            | inr other ↦ lookup-off ws i a b v other ∙ e
            | inl same ↦
                let at = in_w b x (ap (λ (k : ℕ). lookup ws k b) (sym same) ∙ e) in
                let there : lookup vs i b ≡ Some x = lookup-at ws i b w v g ∙ (ap (λ (l : List T). slice_get l b) is ∙ (slice_get-before w.tasks.items t b (slice_get_within w.tasks.items b x at) ∙ at)) in
                ap (λ (k : ℕ). lookup vs k b) same ∙ there
          ]

      at_last : lookup vs s.worker s.slot ≡ Some t
      at_last =
          ap (λ (k : ℕ). lookup vs k s.slot) worker
          ∙ (ap (λ (k : ℕ). lookup vs i k) slot ∙ (lookup-at ws i (length w.tasks.items) w v g ∙ (ap (λ (l : List T). slice_get l (length w.tasks.items)) is ∙ slice_get-last w.tasks.items t)))

      pub list_more : gather vs (ss ++ s ∷ []) ≡ gather ws ss ++ t ∷ []
      list_more = gather-append vs ss (s ∷ []) ∙ (ap (λ (l : List T). l ++ gather vs (s ∷ [])) (gather_stays ws vs stays ss p.filled) ∙ ap (λ (o : Option T). gather ws ss ++ put_if o []) at_last)

      other : (u : Spot) (x : T) → lookup ws u.worker u.slot ≡ Some x → IsOther u s
      other u x e = λ same equal.
          let at = in_w u.slot x (ap (λ (k : ℕ). lookup ws k u.slot) (sym worker ∙ same) ∙ e) in
          let l = slice_get_within w.tasks.items u.slot x at in
          omega (arith, l, equal, slot)

      covered : (a b : ℕ) (x : T) → lookup vs a b ≡ Some x → HasSpot (ss ++ s ∷ []) a b
      covered a b x e =
          elim (cases_eq a i) [
            | inr off ↦ old (p.covered a b x (sym (lookup-off ws i a b v off) ∙ e))
            | inl same ↦
                let at : slice_get (w.tasks.items ++ t ∷ []) b ≡ Some x = ap (λ (l : List T). slice_get l b) (sym is) ∙ (sym (lookup-at ws i b w v g) ∙ (ap (λ (k : ℕ). lookup vs k b) (sym same) ∙ e)) in
                elim (slice_get-new w.tasks.items t b x at) [
                  | inl before ↦ old (p.covered a b x (ap (λ (k : ℕ). lookup ws k b) same ∙ (ap (λ (o : Option (Worker T)). task_in o b) g ∙ before)))
                  | inr last ↦ record { place = length ss; spot = s; stands = slice_get-last ss s; is = (worker ∙ sym same, slot ∙ sym last) }
                ]
          ]
        where
          old : HasSpot ss a b → HasSpot (ss ++ s ∷ []) a b
          old h = record { place = h.place; spot = h.spot; stands = slice_get-before ss s h.place (slice_get_within ss h.place h.spot h.stands) ∙ h.stands; is = h.is }

      pub placed_more : Placed vs (ss ++ s ∷ [])
      placed_more =
          record {
            filled = let e = ap length list_more in let l = length-append (gather ws ss) (t ∷ []) in let m = length-append ss (s ∷ []) in let f = p.filled in omega (arith, e, l, m, f);
            apart = apart-push ws ss s p.filled other p.apart;
            covered = covered;
          }

    -- ---- the worker has the tasks that it had
    module _ (is : v.tasks.items ≡ w.tasks.items) where
      same_there : (a b : ℕ) → lookup (set ws i v) a b ≡ lookup ws a b
      same_there a b =
          elim (cases_eq a i) [
            | inr other ↦ lookup-off ws i a b v other
            | inl same ↦
                ap (λ (k : ℕ). lookup (set ws i v) k b) same
                ∙ (lookup-at ws i b w v g ∙ (ap (λ (l : List T). slice_get l b) is ∙ (sym (ap (λ (o : Option (Worker T)). task_in o b) g) ∙ ap (λ (k : ℕ). lookup ws k b) (sym same))))
          ]

      pub list_same : gather (set ws i v) ss ≡ gather ws ss
      list_same = gather_stays ws (set ws i v) (λ a b t e. same_there a b ∙ e) ss p.filled

      pub placed_same : Placed (set ws i v) ss
      placed_same =
          record {
            filled = ap length list_same ∙ p.filled;
            apart = p.apart;
            covered = λ a b t e. p.covered a b t (sym (same_there a b) ∙ e);
          }
