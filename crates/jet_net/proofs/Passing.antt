-- Marks at rest: what the files above allow has come out of each open ring, and no more.
use Rattle.std.proofs.Common.{◌≡◌, ℕ, zero, suc, ◌<◌, ◌≤◌, ◌⊎◌, Bool, true, false, sym, subst, inl, inr, arith, ℤ}
use Rattle.std.proofs.lemmas.Bool.{both_ways, cases_Bool, cases_eq}
use Rattle.jet_net.specs.Net.{Net, IsClear, HasReached}
use Rattle.jet_net.specs.Shape.{Shape}
use Rattle.jet_net.specs.Meeting.{HasMet}
use Rattle.jet_net.specs.Rest.{IsAligned}
use Rattle.jet_net.specs.Marks.{IsOpen, IsAwake, Counts, HasCounting, IsSettled, MarksCome, IdleMarksCome, NoneAbove, IsUpward, Comes, here, behind, MarksPass, IdleMarksPass, AnotherHas, MarksStay}

module _ (n : Net) (shape : Shape n) (calm : IsAligned n) where
  ring_clear : (r : ℕ) → r < n.rings → IsClear n r
  ring_clear r l = record { known = calm.known r l; held = λ link. calm.held (n.taker r) (shape.links_inside r l link) }

  -- a tasklet that has not ended is settled
  settled : (r : ℕ) → r < n.rings → n.is_file (n.giver r) ≡ false → n.ended (n.giver r) ≡ false → IsSettled n r
  settled r l other going =
      elim (calm.tasklets (n.giver r) (shape.giver r l) other) [
        | inl starved ↦ record { exists = l; inner = other; clear = ring_clear r l; rests = starved; builds = λ q m at b. calm.builds q m b }
        | inr done ↦ absurd (both_ways (n.ended (n.giver r)) going done.ended)
      ]

  -- and it waits for a stream queue
  some_open : (r : ℕ) → IsSettled n r → (q : ℕ) × IsOpen n (n.giver r) q
  some_open r s =
      let w = s.rests.waits in
      elim (cases_Bool (n.build w.0)) [
        | inl b ↦ absurd (both_ways (n.done w.0) w.3 (s.builds w.0 w.1 w.2 b))
        | inr stream ↦ (w.0, record { exists = w.1; taker = w.2; stream = stream; going = w.3 })
      ]

  -- the giver of an open ring has not ended
  pub going_on : HasMet n → (r : ℕ) → r < n.rings → n.done r ≡ false → n.ended (n.giver r) ≡ false
  going_on met r l open_yet =
      elim (cases_Bool (n.ended (n.giver r))) [
        | inl ended ↦ absurd (both_ways (n.done r) open_yet (met.ends r l ended (ring_clear r l)))
        | inr going ↦ going
      ]

  module _ (above : ℕ → Bool) (up : IsUpward n above) (P : ℕ → Type 0) (step : (r : ℕ) → r < n.rings → above (n.giver r) ≡ true → n.done r ≡ false → ((q : ℕ) → IsOpen n (n.giver r) q → P q) → P r) where
    -- what each open ring has where the open queues of its giver have it, all have
    abbrev Down : ℕ → Type 0
    Down k = (r : ℕ) → r < n.rings → above (n.giver r) ≡ true → n.done r ≡ false → n.depth (n.giver r) ≤ k → P r

    higher : (k : ℕ) → Down k → (r : ℕ) → r < n.rings → above (n.giver r) ≡ true → n.depth (n.giver r) ≤ suc k → (q : ℕ) → IsOpen n (n.giver r) q → P q
    higher k below r l a near q o =
        below q o.exists
        (up q o.exists (subst (λ (v : ℕ). v < n.vertices) (sym o.taker) (shape.giver r l)) o.stream (subst (λ (v : ℕ). above v ≡ true) (sym o.taker) a))
        o.going
        (let up : n.depth (n.giver q) < n.depth (n.giver r) = subst (λ (v : ℕ). n.depth (n.giver q) < n.depth v) o.taker (shape.deeper q o.exists) in omega (arith, near, up))

    down : (k : ℕ) → Down k
    down zero r l a o near =
        step r l a o
        (λ q p. let up : n.depth (n.giver q) < n.depth (n.giver r) = subst (λ (v : ℕ). n.depth (n.giver q) < n.depth v) p.taker (shape.deeper q p.exists) in absurd (omega (arith, near, up)))
    down (suc k) r l a o near = step r l a o (higher k (down k) r l a near)

    all_down : (r : ℕ) → r < n.rings → above (n.giver r) ≡ true → n.done r ≡ false → P r
    all_down r l a o = down (n.depth (n.giver r)) r l a o (omega arith)

  -- whether some queue of a vertex counts
  may_count : (v q : ℕ) → q < n.rings → Counts n v q ⊎ (Counts n v q → ⊥)
  may_count v q l =
      elim (cases_eq (n.taker q) v) [
        | inr other ↦ inr (λ c. other c.is_open.taker)
        | inl at ↦
            elim (cases_Bool (n.build q)) [
              | inl b ↦ inr (λ c. both_ways (n.build q) c.is_open.stream b)
              | inr stream ↦
                  elim (cases_Bool (n.done q)) [
                    | inl done ↦ inr (λ c. both_ways (n.done q) c.is_open.going done)
                    | inr going ↦ by_idle (record { exists = l; taker = at; stream = stream; going = going })
                  ]
            ]
      ]
    where
      by_idle : IsOpen n v q → Counts n v q ⊎ (Counts n v q → ⊥)
      by_idle o =
          elim (cases_Bool (n.is_file (n.giver q))) [
            | inr other ↦ inl (record { is_open = o; awake = λ file. absurd (both_ways (n.is_file (n.giver q)) other file) })
            | inl file ↦
                elim (cases_Bool (n.idle (n.giver q))) [
                  | inl idle ↦ inr (λ c. both_ways (n.idle (n.giver q)) (c.awake file) idle)
                  | inr awake ↦ inl (record { is_open = o; awake = λ is. awake })
                ]
          ]

  find : (v k : ℕ) → k ≤ n.rings → HasCounting n v ⊎ ((q : ℕ) → q < k → Counts n v q → ⊥)
  find v zero h = inr (λ q l c. omega (arith, l))
  find v (suc k) h =
      elim (may_count v k (omega (arith, h))) [
        | inl c ↦ inl (k, c)
        | inr none ↦
            elim (find v k (omega (arith, h))) [
              | inl some ↦ inl some
              | inr below ↦
                  inr (λ q l. elim (cases_eq q k) [
                    | inl e ↦ subst (λ (i : ℕ). Counts n v i → ⊥) (sym e) none
                    | inr o ↦ below q (omega (arith, l, o))
                  ])
            ]
      ]

  some_counting : (v : ℕ) → HasCounting n v ⊎ ((q : ℕ) → Counts n v q → ⊥)
  some_counting v =
      elim (find v n.rings (omega arith)) [
        | inl some ↦ inl some
        | inr none ↦ inr (λ q c. none q c.is_open.exists c)
      ]

pub marks_pass : (n : Net) → Shape n → HasMet n → MarksCome n → IsAligned n → MarksPass n
marks_pass n shape met marks calm t above up heard files =
    all_down n shape calm above up (λ r. IsAwake n r → HasReached t (n.last r))
    (λ r l a o higher awake.
    let going = going_on n shape calm met r l o in
    elim (cases_Bool (n.is_file (n.giver r))) [
      | inl file ↦ marks.files t r l file (ring_clear n shape calm r l) (files (n.giver r) (shape.giver r l) file a going (awake file))
      | inr other ↦
          let s = settled n shape calm r l other going in
          let waits = some_open n shape calm r s in
          marks.passed t r s (heard (n.giver r) waits.0 (shape.giver r l) a waits.1) (λ q c. higher q c.is_open c.awake)
    ])

pub idle_marks_pass : (n : Net) → Shape n → HasMet n → MarksCome n → IdleMarksCome n → IsAligned n → IdleMarksPass n
idle_marks_pass n shape met marks idle calm t above up files =
    all_down n shape calm above up (λ r. HasReached t (n.last r))
    (λ r l a o higher.
    let going = going_on n shape calm met r l o in
    elim (cases_Bool (n.is_file (n.giver r))) [
      | inl file ↦ marks.files t r l file (ring_clear n shape calm r l) (files (n.giver r) (shape.giver r l) file a going)
      | inr other ↦
          let s = settled n shape calm r l other going in
          elim (some_counting n shape calm (n.giver r)) [
            | inl some ↦ marks.passed t r s some (λ q c. higher q c.is_open)
            | inr none ↦ idle t r s none higher
          ]
    ])

module _ (n : Net) (shape : Shape n) (limits : NoneAbove n) (calm : IsAligned n) (t : ℤ) (file : ℕ) (is : n.is_file file ≡ true) (going : n.ended file ≡ false) where
  -- what comes from a file that has not ended has a giver that has not
  goes : (r : ℕ) → Comes n file r → n.ended (n.giver r) ≡ false
  goes _ (here r l from) = subst (λ (v : ℕ). n.ended v ≡ false) (sym from) going
  goes _ (behind r q l m s at more) = subst (λ (v : ℕ). n.ended v ≡ false) at (calm.goes_on q m (goes q more))

  -- where a file gives into it, it is this one
  from_file : (q : ℕ) → Comes n file q → n.is_file (n.giver q) ≡ true → n.giver q ≡ file
  from_file _ (here q l from) h = from
  from_file _ (behind q p l m s at more) h =
      let inner : n.taker p < n.vertices = subst (λ (v : ℕ). v < n.vertices) (sym at) (shape.giver q l) in
      absurd (both_ways (n.is_file (n.giver q)) (subst (λ (v : ℕ). n.is_file v ≡ false) at (shape.files_first p m inner)) h)

  abbrev Bounded : Type 0
  Bounded = HasReached t (n.mark file) ⊎ ((n.was_idle file ≡ true) × AnotherHas n t file)

  -- a file that was idle, and one that gives to the same tasklet
  by_other : (q p : ℕ) → q < n.rings → p < n.rings → n.taker p ≡ n.taker q → n.giver q ≡ file → n.was_idle file ≡ true → HasReached t (n.last p) → Bounded
  by_other q p l m same from was h =
      let giver : n.is_file (n.giver p) ≡ true = shape.files_apart q p l m same (subst (λ (v : ℕ). n.is_file v ≡ true) (sym from) is) in
      let has = limits.files t p m giver (ring_clear n shape calm p m) h in
      elim (cases_eq (n.giver p) file) [
        | inl e ↦ inl (subst (λ (v : ℕ). HasReached t (n.mark v)) e has)
        | inr o ↦ inr (was, record { other = n.giver p; is_file = giver; differs = o; reached = has })
      ]

  bounded : (r : ℕ) → Comes n file r → HasReached t (n.last r) → Bounded
  bounded _ (here r l from) h =
      inl (subst (λ (v : ℕ). HasReached t (n.mark v)) from (limits.files t r l (subst (λ (v : ℕ). n.is_file v ≡ true) (sym from) is) (ring_clear n shape calm r l) h))
  bounded _ (behind r q l m s at more) h =
      let inner : n.taker q < n.vertices = subst (λ (v : ℕ). v < n.vertices) (sym at) (shape.giver r l) in
      let other : n.is_file (n.giver r) ≡ false = subst (λ (v : ℕ). n.is_file v ≡ false) at (shape.files_first q m inner) in
      let rests = settled n shape calm r l other (goes r (behind r q l m s at more)) in
      elim (limits.passed t r q rests (record { exists = m; taker = at; stream = s; going = calm.open_rings q m (goes q more) }) h) [
        | inl low ↦ bounded q more low
        | inr (is_file, was, p, beside, low) ↦
            let from = from_file q more is_file in
            by_other q p m beside.exists beside.same from (subst (λ (v : ℕ). n.was_idle v ≡ true) from was) low
      ]

pub marks_stay : (n : Net) → Shape n → NoneAbove n → IsAligned n → MarksStay n
marks_stay n shape limits calm t file r is going more h = bounded n shape limits calm t file is going r more h
