-- The lesser of two standings, and that the least of all is the present value.
use Rattle.std.proofs.Common.{◌≡◌, ℕ, zero, suc, Bool, true, false, ℤ, List, [], ◌∷◌, Option, Some, None, replicate, refl, ap, sym, ◌∙◌, arith}
use Rattle.std.proofs.lemmas.Int.{ints, int_min_is}
use Rattle.std.specs.Int.{int_min}
use Rattle.jet_coalescer.specs.declared.queue.Queue.{Queue}
use Rattle.jet_coalescer.specs.declared.standing.Standing.{Standing}
use Rattle.jet_coalescer.specs.declared.standing.Standing.TheVariants as standing
use Rattle.jet_coalescer.specs.Queues.{unknown, least_with, present}
use Rattle.jet_coalescer.specs.inner.Standings.{lesser, least_of, mark_of, standings}
use Rattle.jet_coalescer.proofs.Least.{low_from, low_from-all}

-- ---- of standings
min_assoc : (a b c : ℤ) → int_min (int_min a b) c ≡ int_min a (int_min b c)
min_assoc a b c = omega (arith, ints, int_min_is a b, int_min_is (int_min a b) c, int_min_is b c, int_min_is a (int_min b c))

min_comm : (a b : ℤ) → int_min a b ≡ int_min b a
min_comm a b = omega (arith, ints, int_min_is a b, int_min_is b a)

pub lesser-assoc : (a b c : Standing) → lesser (lesser a b) c ≡ lesser a (lesser b c)
lesser-assoc standing.Waits b c = refl
lesser-assoc standing.Passes b c = refl
lesser-assoc (standing.At t) standing.Waits c = refl
lesser-assoc (standing.At t) standing.Passes c = refl
lesser-assoc (standing.At t) (standing.At u) standing.Waits = refl
lesser-assoc (standing.At t) (standing.At u) standing.Passes = refl
lesser-assoc (standing.At t) (standing.At u) (standing.At v) = ap standing.At (min_assoc t u v)

pub lesser-comm : (a b : Standing) → lesser a b ≡ lesser b a
lesser-comm standing.Waits standing.Waits = refl
lesser-comm standing.Waits (standing.At u) = refl
lesser-comm standing.Waits standing.Passes = refl
lesser-comm (standing.At t) standing.Waits = refl
lesser-comm (standing.At t) (standing.At u) = ap standing.At (min_comm t u)
lesser-comm (standing.At t) standing.Passes = refl
lesser-comm standing.Passes standing.Waits = refl
lesser-comm standing.Passes (standing.At u) = refl
lesser-comm standing.Passes standing.Passes = refl

pub lesser-passes : (a : Standing) → lesser a standing.Passes ≡ a
lesser-passes standing.Waits = refl
lesser-passes (standing.At t) = refl
lesser-passes standing.Passes = refl

-- ---- of queues
-- the least mark so far
abbrev so : Option ℤ → Standing
so None = standing.Passes
so (Some t) = standing.At t

so-next : (so_far : Option ℤ) (t : ℤ) → lesser (so so_far) (standing.At t) ≡ so (least_with so_far t)
so-next None t = refl
so-next (Some s) t = refl

abbrev Stands : List Queue → Type 0
Stands qs = (so_far : Option ℤ) → mark_of (lesser (so so_far) (least_of (standings qs))) ≡ low_from so_far qs

stands_next : (so_far : Option ℤ) (done idle : Bool) (mark : Option ℤ) (qs : List Queue) → Stands qs → mark_of (lesser (so so_far) (least_of (standings (record { mark = mark; done = done; idle = idle } ∷ qs)))) ≡ low_from so_far (record { mark = mark; done = done; idle = idle } ∷ qs)
stands_next so_far true idle mark qs rest = rest so_far
stands_next so_far false true mark qs rest = rest so_far
stands_next None false false None qs rest = refl
stands_next (Some s) false false None qs rest = refl
stands_next so_far false false (Some t) qs rest =
    ap mark_of (sym (lesser-assoc (so so_far) (standing.At t) (least_of (standings qs))) ∙ ap (λ (s : Standing). lesser s (least_of (standings qs))) (so-next so_far t))
    ∙ rest (least_with so_far t)

stands : (qs : List Queue) → Stands qs
stands [] = λ so_far. nothing so_far
  where
    nothing : (so_far : Option ℤ) → mark_of (lesser (so so_far) (least_of (standings []))) ≡ low_from so_far []
    nothing None = refl
    nothing (Some t) = refl
stands (q ∷ qs) = λ so_far. stands_next so_far q.done q.idle q.mark qs (stands qs)

pub least_is_present : (qs : List Queue) → mark_of (least_of (standings qs)) ≡ present qs
least_is_present qs = stands qs None ∙ low_from-all qs

pub standings-unknown : (n : ℕ) → standings (replicate n unknown) ≡ replicate n standing.Waits
standings-unknown zero = refl
standings-unknown (suc n) = ap (λ (rest : List Standing). standing.Waits ∷ rest) (standings-unknown n)
