-- The least mark, found queue by queue.
use Rattle.std.proofs.Common.{◌≡◌, Bool, true, false, cond, ℤ, List, [], ◌∷◌, Option, Some, None, refl}
use Rattle.std.specs.Prelude.{is_some}
use Rattle.std.specs.List.{reduce, fold, list_all, filter_map}
use Rattle.std.specs.Option.{option_and_then}
use Rattle.std.specs.Int.{int_min}
use Rattle.jet_coalescer.specs.declared.queue.Queue.{Queue}
use Rattle.jet_coalescer.specs.Queues.{counts, least_with, open_marks, present}

-- the least of a mark, if there is one, and those of the queues that are left
abbrev pub low_from : Option ℤ → List Queue → Option ℤ
low_from so_far [] = so_far
low_from so_far (q ∷ qs) = cond (counts q) (option_and_then (λ t. low_from (least_with so_far t) qs) q.mark) (low_from so_far qs)

-- the same of marks
abbrev reduce_from : Option ℤ → List ℤ → Option ℤ
reduce_from None ts = reduce int_min ts
reduce_from (Some t) ts = Some (fold int_min t ts)

abbrev least_from : Option ℤ → List (Option ℤ) → Option ℤ
least_from so_far marks = cond (list_all is_some marks) (reduce_from so_far (filter_map (λ mark. mark) marks)) None

reduce_from-next : (so_far : Option ℤ) (t : ℤ) (ts : List ℤ) → reduce_from (least_with so_far t) ts ≡ reduce_from so_far (t ∷ ts)
reduce_from-next None t ts = refl
reduce_from-next (Some s) t ts = refl

abbrev Finds : List Queue → Type 0
Finds qs = (so_far : Option ℤ) → low_from so_far qs ≡ least_from so_far (open_marks qs)

found_next : (so_far : Option ℤ) (done idle : Bool) (mark : Option ℤ) (qs : List Queue) → Finds qs → low_from so_far (record { mark = mark; done = done; idle = idle } ∷ qs) ≡ least_from so_far (open_marks (record { mark = mark; done = done; idle = idle } ∷ qs))
found_next so_far true idle mark qs rest = rest so_far
found_next so_far false true mark qs rest = rest so_far
found_next so_far false false None qs rest = refl
found_next so_far false false (Some t) qs rest = rw (rest (least_with so_far t), reduce_from-next so_far t (filter_map (λ mark. mark) (open_marks qs)))

found : (qs : List Queue) → Finds qs
found [] = λ so_far. nothing so_far
  where
    nothing : (so_far : Option ℤ) → low_from so_far [] ≡ least_from so_far (open_marks [])
    nothing None = refl
    nothing (Some t) = refl
found (q ∷ qs) = λ so_far. found_next so_far q.done q.idle q.mark qs (found qs)

pub low_from-all : (qs : List Queue) → low_from None qs ≡ present qs
low_from-all qs = found qs None
