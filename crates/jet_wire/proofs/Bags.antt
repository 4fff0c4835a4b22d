-- The data that came from queues, in whatever order they were taken, is that of the queues together.
use Rattle.std.proofs.Common.{◌≡◌, ℕ, zero, suc, ◌+◌, ◌<◌, ◌≤◌, ◌==◌, Bool, true, false, cond, List, [], ◌∷◌, ◌++◌, map, sum_by, refl, sym, ◌∙◌, ap, inl, inr, arith}
use Rattle.std.proofs.lemmas.Bool.Decides.{eqb_tells}
use Rattle.std.proofs.lemmas.List.Sums.{sum_by-append}
use Rattle.std.proofs.lemmas.List.Concat.{flat_map-cons}
use Rattle.jet_items.specs.declared.item.Item.{Item}
use Rattle.jet_items.specs.Bag.{SameBag, all_of}
use Rattle.jet_items.specs.Kinds.{as_data, data_of}
use Rattle.jet_items.specs.Order.{Each}
use Rattle.jet_wire.specs.Passing.{Taken, of_queue}

pub all_of_same : (n : ℕ) (f g : ℕ → List Item) → ((q : ℕ) → q < n → f q ≡ g q) → all_of n f ≡ all_of n g
all_of_same zero f g h = refl
all_of_same (suc n) f g h =
    let front : all_of n f ≡ all_of n g = all_of_same n f g (λ q lt. h q (omega (arith, lt))) in
    let last : f n ≡ g n = h n (omega arith) in
    cc

module _ (w : Item → ℕ) where
  none : (n : ℕ) → sum_by w (all_of n (λ q. [])) ≡ 0
  none zero = refl
  none (suc n) = omega (arith, sum_by-append w (all_of n (λ q. [])) [], none n)

  both : (n : ℕ) (f g : ℕ → List Item) → sum_by w (all_of n (λ q. f q ++ g q)) ≡ sum_by w (all_of n f) + sum_by w (all_of n g)
  both zero f g = refl
  both (suc n) f g =
      omega (arith, both n f g, sum_by-append w (all_of n (λ q. f q ++ g q)) (f n ++ g n), sum_by-append w (f n) (g n), sum_by-append w (all_of n f) (f n), sum_by-append w (all_of n g) (g n))

  -- a list that stands at one number alone
  abbrev at : ℕ → List Item → ℕ → List Item
  at k ys q = cond (k == q) ys []

  not_below : (k n : ℕ) (ys : List Item) → n ≤ k → sum_by w (all_of n (at k ys)) ≡ 0
  not_below k zero ys h = refl
  not_below k (suc n) ys h =
      let here : sum_by w (at k ys n) ≡ 0 = elim (eqb_tells k n) [ inl e ↦ absurd (omega (arith, e.1, h)) | inr e ↦ ap (λ (b : Bool). sum_by w (cond b ys [])) e.0 ] in
      omega (arith, sum_by-append w (all_of n (at k ys)) (at k ys n), here, not_below k n ys (omega (arith, h)))

  below : (k n : ℕ) (ys : List Item) → k < n → sum_by w (all_of n (at k ys)) ≡ sum_by w ys
  below k zero ys h = absurd (omega (arith, h))
  below k (suc n) ys h =
      elim (eqb_tells k n) [
        | inl e ↦
            let here : sum_by w (at k ys n) ≡ sum_by w ys = ap (λ (b : Bool). sum_by w (cond b ys [])) e.0 in
            omega (arith, sum_by-append w (all_of n (at k ys)) (at k ys n), here, not_below k n ys (omega (arith, e.1)))
        | inr e ↦
            let here : sum_by w (at k ys n) ≡ 0 = ap (λ (b : Bool). sum_by w (cond b ys [])) e.0 in
            let less : k < n = omega (arith, h, e.1) in
            omega (arith, sum_by-append w (all_of n (at k ys)) (at k ys n), here, below k n ys less)
      ]

  data_next : (b : Bool) (x : Item) (rest : List Item) → data_of (cond b (x ∷ []) [] ++ rest) ≡ cond b (as_data x) [] ++ data_of rest
  data_next true x rest = flat_map-cons as_data x rest
  data_next false x rest = refl

  merged : (n : ℕ) (came : List Taken) → Each (λ a. a.queue < n) came → sum_by w (data_of (map (λ a. a.item) came)) ≡ sum_by w (all_of n (λ q. data_of (of_queue q came)))
  merged n [] h = sym (none n)
  merged n (a ∷ came) h =
      let own : ℕ → List Item = at a.queue (as_data a.item) in
      let rest : ℕ → List Item = λ q. data_of (of_queue q came) in
      let parts : all_of n (λ q. data_of (of_queue q (a ∷ came))) ≡ all_of n (λ q. own q ++ rest q) = all_of_same n (λ q. data_of (of_queue q (a ∷ came))) (λ q. own q ++ rest q) (λ q lt. data_next (a.queue == q) a.item (of_queue q came)) in
      let front : sum_by w (data_of (map (λ a. a.item) (a ∷ came))) ≡ sum_by w (as_data a.item) + sum_by w (data_of (map (λ a. a.item) came)) = ap (sum_by w) (flat_map-cons as_data a.item (map (λ (a : Taken). a.item) came)) ∙ sum_by-append w (as_data a.item) (data_of (map (λ (a : Taken). a.item) came)) in
      omega (arith, front, merged n came h.1, ap (sum_by w) parts, both n own rest, below a.queue n (as_data a.item) h.0)

pub merged_bag : (n : ℕ) (came : List Taken) → Each (λ a. a.queue < n) came → SameBag (data_of (map (λ a. a.item) came)) (all_of n (λ q. data_of (of_queue q came)))
merged_bag n came h = record { weighs = λ w. merged w n came h }
