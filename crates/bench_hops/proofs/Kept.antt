-- What a call leaves as it was.
use Rattle.std.proofs.Common.{◌≡◌, ℕ, ◌<◌, ◌++◌, false, ℤ, List, get_or, set, length, refl, sym, ap, ◌∙◌, inl, inr, subst}
use Rattle.std.proofs.lemmas.Bool.{cases_eq}
use Rattle.std.proofs.lemmas.List.{get_or-set_same, get_or-set_other}
use Rattle.jet_boxes.specs.Entry.{CallEntry}
use Rattle.jet_boxes.specs.declared.port.Port.{Port}
use Rattle.jet_coalescer.specs.declared.queue.Queue.{Queue}
use Rattle.jet_coalescer.specs.Queues.{unknown, with_queue_mark, marked}
use Rattle.jet_items.specs.declared.item.Item.{Item}
use Rattle.jet_tasklet.specs.Keeps.{IsLawful, Goes}
use Rattle.jet_tasklet.specs.declared.tasklet.Tasklet.{Tasklet}

-- a turn keeps the laws
pub lawful_goes : {P : Type 0} (stands : P → List CallEntry → List Item → Type 0) (amid : P → List CallEntry → CallEntry → List Item → Type 0) (takes : P → Port → ℕ → Type 0) (a b : Tasklet P) → Goes stands amid takes a b → IsLawful stands amid takes a → IsLawful stands amid takes b
lawful_goes stands amid takes a b goes k =
    let after = goes.goes k.came k.gave k.keeps in
    record { came = k.came ++ after.0; gave = k.gave ++ after.1; keeps = after.2 }

-- a mark ends no queue
pub open_marked : (qs : List Queue) (q : ℕ) (t : ℤ) → q < length qs → ((k : ℕ) → (get_or qs k unknown).done ≡ false) → (k : ℕ) → (get_or (marked qs q t) k unknown).done ≡ false
open_marked qs q t inside going k = elim (cases_eq k q) as (λ _. (get_or (marked qs q t) k unknown).done ≡ false) [
  | inl e ↦ subst (λ (i : ℕ). (get_or (marked qs q t) i unknown).done ≡ false) (sym e) (ap (λ (p : Queue). p.done) (get_or-set_same qs q (with_queue_mark t (get_or qs q unknown)) unknown inside) ∙ going q)
  | inr ne ↦ ap (λ (p : Queue). p.done) (get_or-set_other qs q k (with_queue_mark t (get_or qs q unknown)) unknown ne) ∙ going k
]
