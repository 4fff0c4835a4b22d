-- The watermark of several queues of which none is ever idle, of all that came from each: in what order the queues came does not count.
use Rattle.std.specs.Prelude.{◌≡◌, ℕ, Bool, true, false, not, if◌then◌else◌, ℤ, int_lt, List, [], ◌∷◌, ◌++◌, map, filter, Option, Some, None, is_some, slice_set, slice_index_or}
use Rattle.std.specs.List.{reduce, list_all, filter_map}
use Rattle.std.specs.Int.{int_min, int_max}
use Rattle.jet_coalescer.specs.declared.change.Change.{Change}
use Rattle.jet_coalescer.specs.declared.change.Change.TheVariants as change
use Rattle.jet_coalescer.specs.declared.queue.Queue.{Queue}
use Rattle.jet_coalescer.specs.View.{View}

-- what came from one queue: its marks, in order, and whether its Done
pub record History : Type 0 where
  pub marks : List ℤ
  pub done : Bool

-- nothing came
abbrev pub unheard : History
unheard = record { marks = []; done = false }

-- one more mark came from a queue
abbrev pub with_mark : List History → ℕ → ℤ → List History
with_mark told q t = let h = slice_index_or told q unheard in slice_set told q (record h { marks = h.marks ++ t ∷ [] })

-- the Done of a queue came
abbrev pub with_done : List History → ℕ → List History
with_done told q = let h = slice_index_or told q unheard in slice_set told q (record h { done = true })

-- the least of these marks: none where one of them is none, or where there are none
abbrev pub least : List (Option ℤ) → Option ℤ
least marks = if list_all is_some marks then reduce int_min (filter_map (λ mark. mark) marks) else None

-- the watermark: the least of the greatest marks of the queues without Done
abbrev pub low : List History → Option ℤ
low told = least (map (λ h. reduce int_max h.marks) (filter (λ h. not h.done) told))

-- each queue gave its Done
abbrev pub all_done : List History → Bool
all_done told = list_all (λ h. h.done) told

-- a watermark that was none or less before
abbrev pub has_risen : Option ℤ → ℤ → Bool
has_risen None t = true
has_risen (Some before) t = int_lt before t

-- the new watermark where there was none or it rose, and else none
abbrev pub risen : Option ℤ → Option ℤ → Option ℤ
risen before None = None
risen before (Some t) = if has_risen before t then Some t else None

-- a watermark that rose, or no change
abbrev pub raised : Option ℤ → Change
raised None = change.Unchanged
raised (Some t) = change.Raised t

-- after a Done: AllDone where no queue is left, else Raised where the watermark rose, else Unchanged
abbrev pub change_of : Bool → Option ℤ → Option ℤ → Change
change_of none_left before after = if none_left then change.AllDone else raised (risen before after)

-- what is known of a queue from which this came: the greatest of its marks, and whether its Done
abbrev pub known : History → Queue
known h = record { mark = reduce int_max h.marks; done = h.done; idle = false }

-- This came from the queues of a coalescer, and no idle note of any. While a queue is left, the watermark is that of
-- what came from each.
pub record HasHeard (c : View) (told : List History) : Type 0 where
  pub queues_are : c.queues ≡ map known told
  pub low_is : all_done told ≡ false → c.low ≡ low told
