-- All that a coalescer was told, as one list in order, and the watermark that follows from it.
use Rattle.std.specs.Prelude.{◌≡◌, ℕ, zero, suc, ◌==◌, Bool, true, false, if◌then◌else◌, ℤ, List, [], ◌∷◌, map, fold, length, Option}
use Rattle.std.specs.List.{reduce, flat_map, filter_map, list_any}
use Rattle.std.specs.Int.{int_max}
use Rattle.jet_coalescer.specs.Queues.{present}
use Rattle.jet_coalescer.specs.View.{View}
use Rattle.jet_coalescer.specs.declared.queue.Queue.{Queue}

-- of one queue: a mark, its Done, that it is idle, or that it is idle no more
pub data Note : Type 0 where
  Marked : ℕ → ℤ → Note
  Ended : ℕ → Note
  Idled : ℕ → Note
  Woken : ℕ → Note

abbrev pub mark_in : ℕ → Note → List ℤ
mark_in q (Marked p t) = if p == q then t ∷ [] else []
mark_in q (Ended p) = []
mark_in q (Idled p) = []
mark_in q (Woken p) = []

abbrev pub ends : ℕ → Note → Bool
ends q (Marked p t) = false
ends q (Ended p) = p == q
ends q (Idled p) = false
ends q (Woken p) = false

-- what a note says of a queue: that it is idle, or that it is not; a mark wakes its queue
abbrev pub idle_in : ℕ → Note → List Bool
idle_in q (Marked p t) = if p == q then false ∷ [] else []
idle_in q (Ended p) = []
idle_in q (Idled p) = if p == q then true ∷ [] else []
idle_in q (Woken p) = if p == q then false ∷ [] else []

-- the last of these, and before any that it is not idle
abbrev pub last_said : List Bool → Bool
last_said said = fold (λ before now. now) false said

-- a queue, when this was told: the greatest of its marks, whether its Done came, and whether it is idle
abbrev pub queue_after : List Note → ℕ → Queue
queue_after told q =
    record {
      mark = reduce int_max (flat_map (mark_in q) told);
      done = list_any (ends q) told;
      idle = last_said (flat_map (idle_in q) told);
    }

-- f of each number below n
abbrev pub below : {X : Type 0} → ℕ → (ℕ → X) → List X
below zero f = []
below (suc n) f = f 0 ∷ below n (λ q. f (suc q))

abbrev pub queues_after : ℕ → List Note → List Queue
queues_after n told = below n (queue_after told)

-- the fronts of a list, the empty one and the whole list among them
abbrev pub fronts : {X : Type 0} → List X → List (List X)
fronts [] = [] ∷ []
fronts (x ∷ xs) = [] ∷ map (λ front. x ∷ front) (fronts xs)

-- The watermark of n queues: the greatest of the present values that they have had, one after each front of what was
-- told. None where all of these are none.
abbrev pub low_after : ℕ → List Note → Option ℤ
low_after n told = reduce int_max (filter_map (λ front. present (queues_after n front)) (fronts told))

-- a coalescer was told this
pub record HasNotes (c : View) (told : List Note) : Type 0 where
  pub queues_are : c.queues ≡ queues_after (length c.queues) told
  pub low_is : c.low ≡ low_after (length c.queues) told
