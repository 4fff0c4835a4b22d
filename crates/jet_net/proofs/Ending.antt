-- A job that stands still has finished: it comes to rest, and of the files that the read-ahead rule holds back the one with
-- the least mark would have to be read.
use Rattle.std.proofs.Common.{◌≡◌, ℕ, zero, suc, ◌+◌, ◌<◌, ◌≤◌, ◌⊎◌, true, false, refl, sym, subst, inl, inr, arith, ℤ, ◌≤ℤ◌, Option, Some, None}
use Rattle.std.proofs.lemmas.Bool.{both_ways, cases_Bool, cases_eq}
use Rattle.std.proofs.lemmas.Int.{ints, by_lt_z}
use Rattle.jet_net.specs.Net.{Net, HasReached}
use Rattle.jet_net.specs.Shape.{Shape}
use Rattle.jet_net.specs.Meeting.{HasMet, WaitsForBuilds}
use Rattle.jet_net.specs.Causes.{IsPaused, IsHeldBack, HasEnded}
use Rattle.jet_net.specs.Rest.{StandsStill, IsAligned, IsWhole, IsFinished}
use Rattle.jet_net.specs.Marks.{HasCounting, MarksCome}
use Rattle.jet_net.proofs.Resting.{aligned}
use Rattle.jet_net.proofs.Passing.{going_on, marks_pass}

reached : (t m : ℤ) (mark : Option ℤ) → mark ≡ Some m → t ≤ℤ m → HasReached t mark
reached t m mark is h = subst (λ (o : Option ℤ). HasReached t o) (sym is) h

-- a mark that is there
the_mark : (t : ℤ) (mark : Option ℤ) → HasReached t mark → (m : ℤ) × (mark ≡ Some m) × (t ≤ℤ m)
the_mark t None h = absurd h
the_mark t (Some m) h = (m, refl, h)

lower : (s t : ℤ) (mark : Option ℤ) → s ≤ℤ t → HasReached t mark → HasReached s mark
lower s t None h k = k
lower s t (Some m) h k = omega (arith, ints, h, k)

module _ (n : Net) (shape : Shape n) (met : HasMet n) (waits : WaitsForBuilds n) (marks : MarksCome n) (whole : IsWhole n) (still : StandsStill n) where
  calm : IsAligned n
  calm = aligned n shape met waits still

  -- what is not read on is held back, since nothing is cut
  held_back : (v : ℕ) → v < n.vertices → IsPaused n v → IsHeldBack n v
  held_back v l paused =
      elim paused.reason [
        | inl back ↦ back
        | inr cut ↦ absurd (both_ways (n.cut v) (whole v l) cut)
      ]

  abbrev AllEnded : ℕ → Type 0
  AllEnded k = (v : ℕ) → v < k → n.is_file v ≡ true → HasEnded n v

  abbrev NoneLower : ℤ → ℕ → Type 0
  NoneLower t k = (v : ℕ) → v < k → n.is_file v ≡ true → HasEnded n v ⊎ HasReached t (n.mark v)

  -- of the files below k this one is held back, and no other that has not ended has a lower mark
  record Least (k : ℕ) : Type 0 where
    file : ℕ
    within : file < n.vertices
    paused : IsPaused n file
    back : IsHeldBack n file
    least : NoneLower back.mark k

  one_more : {C : ℕ → Type 0} (k : ℕ) → ((v : ℕ) → v < k → C v) → C k → (v : ℕ) → v < suc k → C v
  one_more {C} k below here v l =
      elim (cases_eq v k) [
        | inl e ↦ subst C (sym e) here
        | inr o ↦ below v (omega (arith, l, o))
      ]

  none_lower_more : (t : ℤ) (k : ℕ) → NoneLower t k → (n.is_file k ≡ true → HasEnded n k ⊎ HasReached t (n.mark k)) → NoneLower t (suc k)
  none_lower_more t k below here = one_more {C = λ v. n.is_file v ≡ true → HasEnded n v ⊎ HasReached t (n.mark v)} k below here

  -- a file that has ended changes nothing
  pass_over : (k : ℕ) → (n.is_file k ≡ true → HasEnded n k) → AllEnded k ⊎ Least k → AllEnded (suc k) ⊎ Least (suc k)
  pass_over k ended (inl all) = inl (one_more {C = λ v. n.is_file v ≡ true → HasEnded n v} k all ended)
  pass_over k ended (inr p) =
      inr (record { file = p.file; within = p.within; paused = p.paused; back = p.back; least = none_lower_more p.back.mark k p.least (λ f. inl (ended f)) })

  own_mark : (k : ℕ) (back : IsHeldBack n k) (t : ℤ) → t ≤ℤ back.mark → n.is_file k ≡ true → HasEnded n k ⊎ HasReached t (n.mark k)
  own_mark k back t h f = inr (reached t back.mark (n.mark k) back.is h)

  -- one that is held back may have a lower mark
  compare : (k : ℕ) → k < n.vertices → IsPaused n k → IsHeldBack n k → AllEnded k ⊎ Least k → Least (suc k)
  compare k l paused back (inl all) =
      record {
        file = k;
        within = l;
        paused = paused;
        back = back;
        least = none_lower_more back.mark k (λ v m f. inl (all v m f)) (own_mark k back back.mark (omega (arith, ints)));
      }
  compare k l paused back (inr p) =
      by_lt_z back.mark p.back.mark
      (λ lt. record {
        file = k;
        within = l;
        paused = paused;
        back = back;
        least =
            none_lower_more back.mark k
            (λ v m f. elim (p.least v m f) [
              | inl ended ↦ inl ended
              | inr has ↦ inr (lower back.mark p.back.mark (n.mark v) (omega (arith, ints, lt)) has)
            ])
            (own_mark k back back.mark (omega (arith, ints)));
      })
      (λ ge. record { file = p.file; within = p.within; paused = p.paused; back = p.back; least = none_lower_more p.back.mark k p.least (own_mark k back p.back.mark ge) })

  least : (k : ℕ) → k ≤ n.vertices → AllEnded k ⊎ Least k
  least zero h = inl (λ v l f. absurd (omega (arith, l)))
  least (suc k) h =
      let before = least k (omega (arith, h)) in
      elim (cases_Bool (n.is_file k)) [
        | inr other ↦ pass_over k (λ f. absurd (both_ways (n.is_file k) other f)) before
        | inl file ↦
            elim (calm.files k (omega (arith, h)) file) [
              | inl paused ↦ inr (compare k (omega (arith, h)) paused (held_back k (omega (arith, h)) paused) before)
              | inr ended ↦ pass_over k (λ f. ended) before
            ]
      ]

  -- a file that has not ended is held back, and so not idle
  awake : (v : ℕ) → v < n.vertices → n.ended v ≡ false → n.is_file v ≡ true → n.idle v ≡ false
  awake v l going file =
      elim (calm.files v l file) [
        | inl paused ↦ (held_back v l paused).awake
        | inr ended ↦ absurd (both_ways (n.ended v) going ended.ended)
      ]

  -- ---- from a vertex that has not ended there is a way to an open queue of the sink
  way_step : (v : ℕ) → v < n.vertices → n.ended v ≡ false → ((u : ℕ) → u < n.vertices → n.ended u ≡ false → n.depth v < n.depth u → HasCounting n n.vertices) → HasCounting n n.vertices
  way_step v l going further =
      let out = shape.gives v l in
      let r = out.0 in
      let on : n.ended (n.giver r) ≡ false = subst (λ (u : ℕ). n.ended u ≡ false) (sym out.2) going in
      elim (cases_eq (n.taker r) n.vertices) [
        | inl sink ↦ (r, record { is_open = record { exists = out.1; taker = sink; stream = at_sink r out.1 sink; going = calm.open_rings r out.1 on }; awake = awake (n.giver r) (shape.giver r out.1) on })
        | inr other ↦
            let most = shape.taker r out.1 in
            further (n.taker r) (omega (arith, other, most)) (calm.goes_on r out.1 on) (subst (λ (u : ℕ). n.depth u < n.depth (n.taker r)) out.2 (shape.deeper r out.1))
      ]
    where
      at_sink : (r : ℕ) → r < n.rings → n.taker r ≡ n.vertices → n.build r ≡ false
      at_sink r m sink =
          elim (cases_Bool (n.build r)) [
            | inl b ↦ let inner = shape.build_taker r m b in absurd (omega (arith, inner, sink))
            | inr stream ↦ stream
          ]

  way : (k v : ℕ) → v < n.vertices → n.ended v ≡ false → n.depth n.vertices ≤ n.depth v + k → HasCounting n n.vertices
  way zero v l going near = way_step v l going (λ u m g down. let most = shape.deepest u (omega (arith, m)) in absurd (omega (arith, near, down, most)))
  way (suc k) v l going near = way_step v l going (λ u m g down. way k u m g (omega (arith, near, down)))

  -- ---- so none is held back
  by_least : (t : ℤ) (v : ℕ) → HasEnded n v ⊎ HasReached t (n.mark v) → n.ended v ≡ false → HasReached t (n.mark v)
  by_least t v (inl ended) going = absurd (both_ways (n.ended v) going ended.ended)
  by_least t v (inr has) going = has

  none_held_back : Least n.vertices → ⊥
  none_held_back p =
      let t = p.back.mark in
      let low =
      marks.sink t (way (n.depth n.vertices) p.file p.within p.paused.going (omega arith))
      (λ q c. marks_pass n shape met marks calm t (λ v. true) (λ q m k b a. refl)
      (λ v q l a o. (q, record { is_open = o; awake = awake (n.giver q) (shape.giver q o.exists) (going_on n shape calm met q o.exists o.going) }))
      (λ v l f a going idle. by_least t v (p.least v l f) going)
      q c.is_open.exists refl c.is_open.going c.awake) in
      let s = the_mark t n.low low in
      let far = p.back.far s.0 s.1 in
      let near = s.2 in
      omega (arith, ints, far, near)

  files_ended : AllEnded n.vertices
  files_ended =
      elim (least n.vertices (omega arith)) [
        | inl all ↦ all
        | inr p ↦ absurd (none_held_back p)
      ]

  -- ---- and every vertex has ended, from the files downwards
  ended_step : (v : ℕ) → v < n.vertices → ((u : ℕ) → u < n.vertices → n.depth u < n.depth v → n.ended u ≡ true) → n.ended v ≡ true
  ended_step v l above =
      elim (cases_Bool (n.ended v)) [
        | inl ended ↦ ended
        | inr going ↦
            elim (cases_Bool (n.is_file v)) [
              | inl file ↦ (files_ended v l file).ended
              | inr other ↦
                  elim (calm.tasklets v l other) [
                    | inr ended ↦ ended.ended
                    | inl starved ↦
                        let w = starved.waits in
                        let up : n.depth (n.giver w.0) < n.depth v = subst (λ (u : ℕ). n.depth (n.giver w.0) < n.depth u) w.2 (shape.deeper w.0 w.1) in
                        absurd (both_ways (n.ended (n.giver w.0)) (going_on n shape calm met w.0 w.1 w.3) (above (n.giver w.0) (shape.giver w.0 w.1) up))
                  ]
            ]
      ]

  ended_down : (k v : ℕ) → v < n.vertices → n.depth v ≤ k → n.ended v ≡ true
  ended_down zero v l near = ended_step v l (λ u m up. absurd (omega (arith, near, up)))
  ended_down (suc k) v l near = ended_step v l (λ u m up. ended_down k u m (omega (arith, near, up)))

  all_ended : (v : ℕ) → v < n.vertices → n.ended v ≡ true
  all_ended v l = ended_down (n.depth v) v l (omega arith)

  -- a ring whose giver has ended was given Done
  all_done : (r : ℕ) → r < n.rings → n.done r ≡ true
  all_done r l =
      elim (cases_Bool (n.done r)) [
        | inl done ↦ done
        | inr going ↦ absurd (both_ways (n.ended (n.giver r)) (going_on n shape calm met r l going) (all_ended (n.giver r) (shape.giver r l)))
      ]

  is_finished : IsFinished n
  is_finished = record { ended = all_ended; held = calm.held; known = calm.known; done = all_done }

pub finished : (n : Net) → Shape n → HasMet n → WaitsForBuilds n → MarksCome n → IsWhole n → StandsStill n → IsFinished n
finished n shape met waits marks whole still = is_finished n shape met waits marks whole still
