-- How many queues are left after a Done.
use Rattle.std.proofs.Common.{◌≡◌, ℕ, ◌<◌, ◌+◌, ◌-◌, ◌==◌, Bool, true, false, not, ◌&&◌, cond, List, [], ◌∷◌, length, refl, ap, ◌∙◌, arith, slice_set, slice_index_or}
use Rattle.std.proofs.lemmas.List.Folds.{sum_by-zero}
use Rattle.std.proofs.lemmas.List.Sums.{sum_by-set}
use Rattle.std.specs.List.{list_all}
use Rattle.jet_coalescer.specs.declared.queue.Queue.{Queue}
use Rattle.jet_coalescer.specs.View.{View}
use Rattle.jet_coalescer.specs.Queues.{unknown, with_queue_done, ended, none_left, is_done_at}
use Rattle.jet_coalescer.specs.inner.Counts.{left_count}

-- how much a queue adds to the count
abbrev bit : Bool → ℕ
bit b = cond b 1 0

-- ---- the end of a queue
left_set : (qs : List Queue) (at : ℕ) (queue : Queue) → at < length qs → left_count (slice_set qs at queue) + bit (not (slice_index_or qs at unknown).done) ≡ left_count qs + bit (not queue.done)
left_set qs at queue lt = sum_by-set (λ (p : Queue). bit (not p.done)) qs at queue unknown lt

pub one_less : (a : View) (qs : List Queue) (left q : ℕ) → q < length a.queues → is_done_at a q ≡ false → left ≡ left_count a.queues → qs ≡ ended a.queues q → left - 1 ≡ left_count qs
one_less a qs left q lt going before is =
    let set = left_set a.queues q (with_queue_done (slice_index_or a.queues q unknown)) lt in
    let was : bit (not (slice_index_or a.queues q unknown).done) ≡ 1 = ap (λ b. bit (not b)) going in
    let after : left_count qs ≡ left_count (ended a.queues q) = ap left_count is in
    omega (arith, set, was, before, after)

none_left_counted : (qs : List Queue) → (left_count qs == 0) ≡ none_left qs
none_left_counted qs = sum_by-zero (λ (p : Queue). bit (not p.done)) qs ∙ each qs
  where
    done_bit : (b : Bool) → (bit (not b) == 0) ≡ b
    done_bit true = refl
    done_bit false = refl

    each : (ps : List Queue) → list_all (λ (p : Queue). bit (not p.done) == 0) ps ≡ none_left ps
    each [] = refl
    each (p ∷ ps) = ap (λ b. b && list_all (λ (r : Queue). bit (not r.done) == 0) ps) (done_bit p.done) ∙ ap (λ rest. p.done && rest) (each ps)

pub none_left_then : (a : View) (qs : List Queue) (left q : ℕ) → q < length a.queues → is_done_at a q ≡ false → left ≡ left_count a.queues → qs ≡ ended a.queues q → ((left - 1) == 0) ≡ none_left qs
none_left_then a qs left q lt going before is = ap (λ n. n == 0) (one_less a qs left q lt going before is) ∙ none_left_counted qs
