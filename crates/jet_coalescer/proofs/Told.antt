-- What is known of the queues is what was told of them.
use Rattle.std.proofs.Common.{◌≡◌, ◌≢◌, ℕ, zero, suc, ◌<◌, ◌==◌, Bool, true, false, not, ◌&&◌, ◌||◌, cond, ℤ, List, [], ◌∷◌, ◌++◌, map, filter, replicate, Option, Some, refl, ap, sym, ◌∙◌, inl, inr, arith, slice_set, slice_index_or, append-nil}
use Rattle.std.specs.List.{reduce, flat_map, list_any}
use Rattle.std.specs.Int.{int_max}
use Rattle.std.proofs.lemmas.Bool.Decides.{eqb_tells}
use Rattle.std.proofs.lemmas.List.{map-set}
use Rattle.std.proofs.lemmas.List.Concat.{flat_map-append}
use Rattle.std.proofs.lemmas.List.Folds.{list_any-append}
use Rattle.std.proofs.lemmas.List.Sums.{fold_push}
use Rattle.std.proofs.Math.ListN.{get_or-map}
use Rattle.jet_coalescer.specs.declared.queue.Queue.{Queue}
use Rattle.jet_coalescer.specs.Low.{History, unheard, known, with_mark, with_done, least, low, all_done}
use Rattle.jet_coalescer.specs.Notes.{Note, Marked, Ended, Idled, Woken, mark_in, ends, idle_in, last_said, queue_after, below, queues_after}
use Rattle.jet_coalescer.specs.Queues.{unknown, greatest_with, with_queue, with_queue_mark, with_queue_done, with_queue_idle, marked, ended, idled, woken, open_marks, present, none_left}

greatest_push : (marks : List ℤ) (t : ℤ) → reduce int_max (marks ++ t ∷ []) ≡ greatest_with (reduce int_max marks) t
greatest_push [] t = refl
greatest_push (x ∷ xs) t = ap Some (fold_push int_max x xs t)

-- ---- of queues that are never idle
pub known-unheard : (n : ℕ) → map known (replicate n unheard) ≡ replicate n unknown
known-unheard zero = refl
known-unheard (suc n) = ap (λ rest. unknown ∷ rest) (known-unheard n)

marks_known : (done : Bool) (marks : List ℤ) (told : List History) → map (λ g. reduce int_max g.marks) (filter (λ g. not g.done) told) ≡ open_marks (map known told) → map (λ g. reduce int_max g.marks) (filter (λ g. not g.done) (record { marks = marks; done = done } ∷ told)) ≡ open_marks (map known (record { marks = marks; done = done } ∷ told))
marks_known true marks told rest = rest
marks_known false marks told rest = ap (λ all. reduce int_max marks ∷ all) rest

marks-known : (told : List History) → map (λ h. reduce int_max h.marks) (filter (λ h. not h.done) told) ≡ open_marks (map known told)
marks-known [] = refl
marks-known (h ∷ told) = marks_known h.done h.marks told (marks-known told)

-- the watermark of what was told is the present value of what is known
pub low-known : (told : List History) → low told ≡ present (map known told)
low-known told = ap least (marks-known told)

pub all_done-known : (told : List History) → all_done told ≡ none_left (map known told)
all_done-known [] = refl
all_done-known (h ∷ told) = ap (λ rest. h.done && rest) (all_done-known told)

pub marked-known : (told : List History) (q : ℕ) (t : ℤ) → marked (map known told) q t ≡ map known (with_mark told q t)
marked-known told q t =
    let h : History = slice_index_or told q unheard in
    ap (λ (queue : Queue). slice_set (map known told) q (with_queue_mark t queue)) (get_or-map known told q unheard)
    ∙ ap (λ (mark : Option ℤ). slice_set (map known told) q (record { mark = mark; done = h.done; idle = false })) (sym (greatest_push h.marks t))
    ∙ sym (map-set known told q (record { marks = h.marks ++ t ∷ []; done = h.done }))

pub ended-known : (told : List History) (q : ℕ) → ended (map known told) q ≡ map known (with_done told q)
ended-known told q =
    let h : History = slice_index_or told q unheard in
    ap (λ (queue : Queue). slice_set (map known told) q (with_queue_done queue)) (get_or-map known told q unheard)
    ∙ sym (map-set known told q (record { marks = h.marks; done = true }))

-- ---- of one list of notes
abbrev queue_of : Option ℤ → Bool → Bool → Queue
queue_of mark done idle = record { mark = mark; done = done; idle = idle }

fields_are : (m n : Option ℤ) (d e i j : Bool) → m ≡ n → d ≡ e → i ≡ j → queue_of m d i ≡ queue_of n e j
fields_are m n d e i j ms ds is = rw (ms, ds, is) refl

queue_is : (a b : Queue) → a.mark ≡ b.mark → a.done ≡ b.done → a.idle ≡ b.idle → a ≡ b
queue_is a b m d i = fields_are a.mark b.mark a.done b.done a.idle b.idle m d i

told_push : {X : Type 0} (f : Note → List X) (told : List Note) (note : Note) → flat_map f (told ++ note ∷ []) ≡ flat_map f told ++ f note
told_push f told note = flat_map-append f told (note ∷ []) ∙ ap (λ xs. flat_map f told ++ xs) (append-nil (f note))

or_nothing : (b : Bool) → (b || false) ≡ b
or_nothing true = refl
or_nothing false = refl

or_true : (b : Bool) → (b || true) ≡ true
or_true true = refl
or_true false = refl

ends_push : (q : ℕ) (told : List Note) (note : Note) → list_any (ends q) (told ++ note ∷ []) ≡ (list_any (ends q) told || ends q note)
ends_push q told note = list_any-append (ends q) told (note ∷ []) ∙ ap (λ b. list_any (ends q) told || b) (or_nothing (ends q note))

last_push : (said : List Bool) (b : Bool) → last_said (said ++ b ∷ []) ≡ b
last_push said b = fold_push (λ before now. now) false said b

same_number : (q : ℕ) → (q == q) ≡ true
same_number q = elim (eqb_tells q q) [ inl e ↦ e.0 | inr e ↦ absurd (e.1 refl) ]

other_number : (p q : ℕ) → p ≢ q → (p == q) ≡ false
other_number p q ne = elim (eqb_tells p q) [ inl e ↦ absurd (ne e.1) | inr e ↦ e.0 ]

-- a queue of which a note says this, and one of which it says nothing
after_note : (told : List Note) (note : Note) (q : ℕ) (marks : List ℤ) (done : Bool) (said : List Bool) → mark_in q note ≡ marks → ends q note ≡ done → idle_in q note ≡ said
    → queue_after (told ++ note ∷ []) q ≡ record { mark = reduce int_max (flat_map (mark_in q) told ++ marks); done = list_any (ends q) told || done; idle = last_said (flat_map (idle_in q) told ++ said) }
after_note told note q marks done said m d i =
    queue_is (queue_after (told ++ note ∷ []) q) (record { mark = reduce int_max (flat_map (mark_in q) told ++ marks); done = list_any (ends q) told || done; idle = last_said (flat_map (idle_in q) told ++ said) })
    (ap (reduce int_max) (told_push (mark_in q) told note ∙ ap (λ ts. flat_map (mark_in q) told ++ ts) m))
    (ends_push q told note ∙ ap (λ b. list_any (ends q) told || b) d)
    (ap last_said (told_push (idle_in q) told note ∙ ap (λ bs. flat_map (idle_in q) told ++ bs) i))

untold : (told : List Note) (note : Note) (q : ℕ) → mark_in q note ≡ [] → ends q note ≡ false → idle_in q note ≡ [] → queue_after (told ++ note ∷ []) q ≡ queue_after told q
untold told note q m d i =
    after_note told note q [] false [] m d i
    ∙ queue_is (record { mark = reduce int_max (flat_map (mark_in q) told ++ []); done = list_any (ends q) told || false; idle = last_said (flat_map (idle_in q) told ++ []) }) (queue_after told q)
    (ap (reduce int_max) (append-nil (flat_map (mark_in q) told)))
    (or_nothing (list_any (ends q) told))
    (ap last_said (append-nil (flat_map (idle_in q) told)))

if_same : {X : Type 0} (q : ℕ) (a b : X) → cond (q == q) a b ≡ a
if_same q a b = ap (λ t. cond t a b) (same_number q)

if_other : {X : Type 0} (p q : ℕ) (a b : X) → p ≢ q → cond (p == q) a b ≡ b
if_other p q a b ne = ap (λ t. cond t a b) (other_number p q ne)

after_mark : (told : List Note) (q : ℕ) (t : ℤ) → with_queue_mark t (queue_after told q) ≡ queue_after (told ++ Marked q t ∷ []) q
after_mark told q t =
    sym (
    after_note told (Marked q t) q (t ∷ []) false (false ∷ []) (if_same q (t ∷ []) []) refl (if_same q (false ∷ []) [])
    ∙ queue_is (record { mark = reduce int_max (flat_map (mark_in q) told ++ t ∷ []); done = list_any (ends q) told || false; idle = last_said (flat_map (idle_in q) told ++ false ∷ []) }) (with_queue_mark t (queue_after told q))
    (greatest_push (flat_map (mark_in q) told) t)
    (or_nothing (list_any (ends q) told))
    (last_push (flat_map (idle_in q) told) false))

after_done : (told : List Note) (q : ℕ) → with_queue_done (queue_after told q) ≡ queue_after (told ++ Ended q ∷ []) q
after_done told q =
    sym (
    after_note told (Ended q) q [] true [] refl (same_number q) refl
    ∙ queue_is (record { mark = reduce int_max (flat_map (mark_in q) told ++ []); done = list_any (ends q) told || true; idle = last_said (flat_map (idle_in q) told ++ []) }) (with_queue_done (queue_after told q))
    (ap (reduce int_max) (append-nil (flat_map (mark_in q) told)))
    (or_true (list_any (ends q) told))
    (ap last_said (append-nil (flat_map (idle_in q) told))))

-- a note that says of a queue alone whether it is idle
after_word : (told : List Note) (note : Note) (q : ℕ) (b : Bool) → mark_in q note ≡ [] → ends q note ≡ false → idle_in q note ≡ b ∷ [] → with_queue_idle b (queue_after told q) ≡ queue_after (told ++ note ∷ []) q
after_word told note q b m d i =
    sym (
    after_note told note q [] false (b ∷ []) m d i
    ∙ queue_is (record { mark = reduce int_max (flat_map (mark_in q) told ++ []); done = list_any (ends q) told || false; idle = last_said (flat_map (idle_in q) told ++ b ∷ []) }) (with_queue_idle b (queue_after told q))
    (ap (reduce int_max) (append-nil (flat_map (mark_in q) told)))
    (or_nothing (list_any (ends q) told))
    (last_push (flat_map (idle_in q) told) b))

-- ---- one queue changes, and no other
alike : (n : ℕ) (f g : ℕ → Queue) → ((k : ℕ) → g k ≡ f k) → below n f ≡ below n g
alike zero f g same = refl
alike (suc n) f g same = rw (same 0) (ap (λ rest. f 0 ∷ rest) (alike n (λ k. f (suc k)) (λ k. g (suc k)) (λ k. same (suc k))))

cons_is : (a b : Queue) (xs ys : List Queue) → a ≡ b → xs ≡ ys → a ∷ xs ≡ b ∷ ys
cons_is a b xs ys h k = cc

with_one : (change : Queue → Queue) (n q : ℕ) (f g : ℕ → Queue) → q < n → change (f q) ≡ g q → ((k : ℕ) → k ≢ q → g k ≡ f k) → with_queue change (below n f) q ≡ below n g
with_one change zero q f g lt here others = absurd (omega (arith, lt))
with_one change (suc n) zero f g lt here others =
    cons_is (change (f 0)) (g 0) (below n (λ k. f (suc k))) (below n (λ k. g (suc k))) here
    (alike n (λ k. f (suc k)) (λ k. g (suc k)) (λ k. others (suc k) (λ e. omega (arith, e))))
with_one change (suc n) (suc q) f g lt here others =
    cons_is (f 0) (g 0) (with_queue change (below n (λ k. f (suc k))) q) (below n (λ k. g (suc k))) (sym (others 0 (λ e. omega (arith, e))))
    (with_one change n q (λ k. f (suc k)) (λ k. g (suc k)) (omega (arith, lt)) here (λ k ne. others (suc k) (λ e. ne (omega (arith, e)))))

pub marked-told : (n : ℕ) (told : List Note) (q : ℕ) (t : ℤ) → q < n → marked (queues_after n told) q t ≡ queues_after n (told ++ Marked q t ∷ [])
marked-told n told q t lt =
    with_one (with_queue_mark t) n q (queue_after told) (queue_after (told ++ Marked q t ∷ [])) lt (after_mark told q t)
    (λ k ne. untold told (Marked q t) k (if_other q k (t ∷ []) [] (λ e. ne (sym e))) refl (if_other q k (false ∷ []) [] (λ e. ne (sym e))))

pub ended-told : (n : ℕ) (told : List Note) (q : ℕ) → q < n → ended (queues_after n told) q ≡ queues_after n (told ++ Ended q ∷ [])
ended-told n told q lt =
    with_one with_queue_done n q (queue_after told) (queue_after (told ++ Ended q ∷ [])) lt (after_done told q)
    (λ k ne. untold told (Ended q) k refl (other_number q k (λ e. ne (sym e))) refl)

pub idled-told : (n : ℕ) (told : List Note) (q : ℕ) → q < n → idled (queues_after n told) q ≡ queues_after n (told ++ Idled q ∷ [])
idled-told n told q lt =
    with_one (with_queue_idle true) n q (queue_after told) (queue_after (told ++ Idled q ∷ [])) lt (after_word told (Idled q) q true refl refl (if_same q (true ∷ []) []))
    (λ k ne. untold told (Idled q) k refl refl (if_other q k (true ∷ []) [] (λ e. ne (sym e))))

pub woken-told : (n : ℕ) (told : List Note) (q : ℕ) → q < n → woken (queues_after n told) q ≡ queues_after n (told ++ Woken q ∷ [])
woken-told n told q lt =
    with_one (with_queue_idle false) n q (queue_after told) (queue_after (told ++ Woken q ∷ [])) lt (after_word told (Woken q) q false refl refl (if_same q (false ∷ []) []))
    (λ k ne. untold told (Woken q) k refl refl (if_other q k (false ∷ []) [] (λ e. ne (sym e))))
