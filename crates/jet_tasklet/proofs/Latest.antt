-- The last mark that was told is the watermark, while a queue is open.
use Rattle.std.proofs.Common.{◌≡◌, ℕ, zero, suc, ◌<◌, Bool, true, false, cond, ℤ, ◌≤ℤ◌, ◌<ℤ◌, List, [], ◌∷◌, ◌++◌, refl, ◌∙◌, ap, inl, inr, arith}
use Rattle.std.specs.Prelude.{Option, Some, None, ◌⊎◌, fold, int_lt}
use Rattle.std.proofs.lemmas.Int.{ints}
use Rattle.jet_items.specs.declared.item.Item.{Item}
use Rattle.jet_items.specs.declared.item.Item.TheVariants as item
use Rattle.jet_boxes.specs.declared.port.Port.{Port}
use Rattle.jet_boxes.specs.declared.port.Port.TheVariants.{Stream}
use Rattle.jet_boxes.specs.Entry.{CallEntry}
use Rattle.jet_coalescer.specs.Low.{risen}
use Rattle.jet_tasklet.specs.declared.arrival.Arrival.{Arrival}
use Rattle.jet_tasklet.specs.declared.step.Step.{Step}
use Rattle.jet_tasklet.specs.declared.step.Step.TheVariants as step
use Rattle.jet_tasklet.specs.declared.step.Pending.TheVariants as call
use Rattle.jet_tasklet.specs.Steps.{finale}
use Rattle.jet_tasklet.specs.Keeps.{told}
use Rattle.jet_tasklet.specs.Trace.{of_queue, has_ended, watermark, called, tells, asks, entries}
use Rattle.jet_tasklet.specs.Merging.{told_or, last_told}
use Rattle.jet_tasklet.proofs.Pushing.{by_pushing, entries-push}
use Rattle.jet_tasklet.proofs.Lowest.{AllEnded, low_bounds, low_above, low_none}
use Rattle.jet_tasklet.proofs.Tracing.{lists_of, bounds_push, ended_push}

fold_append : (o : Option ℤ) (es fs : List CallEntry) → fold told_or o (es ++ fs) ≡ fold told_or (fold told_or o es) fs
fold_append o [] fs = refl
fold_append o (e ∷ es) fs = fold_append (told_or o e) es fs

called_last : (o : Option ℤ) (port : Port) (q : ℕ) (x : Item) → fold told_or o (called port q x) ≡ o
called_last o port q (item.Event e) = refl
called_last o port q (item.Side s) = refl
called_last o port q (item.Frame f) = refl
called_last o port q (item.Row r) = refl
called_last o port q (item.Late l) = refl
called_last o port q item.Idle = refl
called_last o port q (item.Mark m) = refl
called_last o port q item.Done = refl

last_push : (n : ℕ) (came : List Arrival) (a : Arrival) → last_told (entries n (came ++ a ∷ [])) ≡ fold told_or (last_told (entries n came)) (tells (risen (watermark n came) (watermark n (came ++ a ∷ []))))
last_push n came a =
    let ts : List CallEntry = tells (risen (watermark n came) (watermark n (came ++ a ∷ []))) in
    ap last_told (entries-push n came a) ∙ (fold_append None (entries n came) (asks n came a) ∙ (fold_append (last_told (entries n came)) (called a.port a.queue a.item) ts
    ∙ ap (λ (o : Option ℤ). fold told_or o ts) (called_last (last_told (entries n came)) a.port a.queue a.item)))

int_cases : (s t : ℤ) → ((int_lt s t ≡ true) × (s <ℤ t)) ⊎ ((int_lt s t ≡ false) × (t ≤ℤ s))
int_cases s t = by_test (int_lt s t) refl
  where
    by_test : (b : Bool) → int_lt s t ≡ b → ((int_lt s t ≡ true) × (s <ℤ t)) ⊎ ((int_lt s t ≡ false) × (t ≤ℤ s))
    by_test true e = inl (e, grind (arith, ints))
    by_test false e = inr (e, grind (arith, ints))

antisym : (s t : ℤ) → s ≤ℤ t → t ≤ℤ s → s ≡ t
antisym s t h k = omega (arith, ints, h, k)

abbrev Latest : ℕ → List Arrival → Type 0
Latest n came = AllEnded n (lists_of came) ⊎ (last_told (entries n came) ≡ watermark n came)

next_some : (n : ℕ) (came : List Arrival) (a : Arrival) (t : ℤ) (before : Option ℤ) → watermark n came ≡ before → watermark n (came ++ a ∷ []) ≡ Some t → fold told_or before (tells (risen before (Some t))) ≡ Some t
next_some n came a t None is after = refl
next_some n came a t (Some s) is after =
    elim (int_cases s t) [
      | inl h ↦ ap (λ (b : Bool). fold told_or (Some s) (tells (cond {A = Option ℤ} b (Some t) None))) h.0
      | inr h ↦
          let up : s ≤ℤ t = low_above n s t (lists_of (came ++ a ∷ [])) (bounds_push n s came a (low_bounds n s (lists_of came) is)) after in
          ap (λ (b : Bool). fold told_or (Some s) (tells (cond {A = Option ℤ} b (Some t) None))) h.0 ∙ ap Some (antisym s t up h.1)
    ]

next_none : (n : ℕ) (came : List Arrival) (a : Arrival) (before : Option ℤ) → watermark n came ≡ before → watermark n (came ++ a ∷ []) ≡ None → AllEnded n (lists_of (came ++ a ∷ [])) ⊎ (fold told_or before (tells (risen before None)) ≡ None)
next_none n came a None is after = inr refl
next_none n came a (Some s) is after = inl (low_none n s (lists_of (came ++ a ∷ [])) (bounds_push n s came a (low_bounds n s (lists_of came) is)) after)

next_latest : (n : ℕ) (came : List Arrival) (a : Arrival) (after : Option ℤ) → watermark n (came ++ a ∷ []) ≡ after → AllEnded n (lists_of (came ++ a ∷ [])) ⊎ (fold told_or (watermark n came) (tells (risen (watermark n came) after)) ≡ after)
next_latest n came a None is = next_none n came a (watermark n came) refl is
next_latest n came a (Some t) is = inr (next_some n came a t (watermark n came) refl is)

none_yet : (m : ℕ) (t : ℤ) → watermark m [] ≡ Some t → ⊥
none_yet zero t is = cc
none_yet (suc m) t is = low_bounds (suc m) t (lists_of []) is 0 (omega arith) refl

begin_none : (m : ℕ) (o : Option ℤ) → watermark m [] ≡ o → last_told [] ≡ o
begin_none m None is = refl
begin_none m (Some t) is = absurd (none_yet m t is)

pub latest : (n : ℕ) (came : List Arrival) → Latest n came
latest n came =
    by_pushing (Latest n) (inr (begin_none n (watermark n []) refl)) (λ xs a ih.
    elim ih [
      | inl e ↦ inl (ended_push n xs a e)
      | inr e ↦ elim (next_latest n xs a (watermark n (xs ++ a ∷ [])) refl) [
        | inl f ↦ inl f
        | inr f ↦ inr (last_push n xs a ∙ (ap (λ (o : Option ℤ). fold told_or o (tells (risen (watermark n xs) (watermark n (xs ++ a ∷ []))))) e ∙ f))
      ]
    ]) came

finale_last : (o : Option ℤ) (s : Step) → fold told_or o (finale s) ≡ o
finale_last o step.Poll = refl
finale_last o (step.Make (call.Accept a)) = refl
finale_last o (step.Make (call.Close port q then)) = refl
finale_last o (step.Make (call.Tell t)) = refl
finale_last o (step.Make call.Finish) = refl
finale_last o step.End = refl
finale_last o step.Ended = refl

-- while a stream queue is open
pub last_is_low : (s : Step) (n : ℕ) (came : List Arrival) (q : ℕ) → q < n → has_ended (of_queue Stream q came) ≡ false → last_told (told s n came) ≡ watermark n came
last_is_low s n came q lt is_open =
    fold_append None (entries n came) (finale s) ∙ (finale_last (last_told (entries n came)) s ∙ (elim (latest n came) [
      | inl e ↦ absurd (let ended : has_ended (of_queue Stream q came) ≡ true = e q lt in cc)
      | inr e ↦ e
    ]))
