-- A job in which nothing moves comes to rest, whatever keeps its source files from being read on: builds first, then the
-- rings from the sink upwards.
use Rattle.std.proofs.Common.{◌≡◌, ℕ, zero, suc, ◌+◌, ◌<◌, ◌≤◌, ◌⊎◌, true, false, refl, sym, subst, inl, inr, arith}
use Rattle.std.proofs.lemmas.Bool.{both_ways, cases_Bool, cases_eq}
use Rattle.jet_net.specs.Net.{Net, IsClear, BuildsDone}
use Rattle.jet_net.specs.Shape.{Shape}
use Rattle.jet_net.specs.Meeting.{HasMet, WaitsForBuilds}
use Rattle.jet_net.specs.Causes.{IsFull, IsStarved, HasEnded, IsPaused}
use Rattle.jet_net.specs.Rest.{StandsStill, IsAligned}

module _ (n : Net) (shape : Shape n) (met : HasMet n) (waits : WaitsForBuilds n) (still : StandsStill n) where
  -- what is clear is not full
  not_full : {X : Type 0} (v : ℕ) → ((r : ℕ) → r < n.rings → n.giver r ≡ v → IsClear n r) → IsFull n v → X
  not_full v clear full =
      let some = met.free full.ring full.exists (clear full.ring full.exists full.out) in
      let none = full.full in
      absurd (omega (arith, some, none))

  -- ---- builds first
  build_clear : (r : ℕ) → r < n.rings → n.build r ≡ true → IsClear n r
  build_clear r l b =
      record {
        known =
            elim (cases_Bool (n.done r)) [
              | inl done ↦ met.last r l done
              | inr going ↦
                  elim (still.tasklets (n.taker r) (shape.build_taker r l b) (shape.files_first r l (shape.build_taker r l b))) [
                    | inl full ↦
                        let some = full.holds (shape.links_apart r full.ring l full.exists b full.out) in
                        let none = waits r l b going in
                        absurd (omega (arith, some, none))
                    | inr (inl starved) ↦ starved.builds r l refl b going
                    | inr (inr ended) ↦ absurd (both_ways (n.done r) going (ended.done r l refl))
                  ]
            ];
        held = λ link. absurd (both_ways (n.is_link r) (shape.build_ring r l b) link);
      }

  -- a vertex of the side part takes no builds
  no_builds : (v : ℕ) → v < n.vertices → n.is_side v ≡ true → BuildsDone n v
  no_builds v l s r m at b =
      absurd (both_ways (n.build r) (shape.side_ring r m (subst (λ (u : ℕ). u < n.vertices) (sym at) l) (subst (λ (u : ℕ). n.is_side u ≡ true) (sym at) s)) b)

  side_step : (r : ℕ) → r < n.rings → n.is_side (n.giver r) ≡ true → ((q : ℕ) → q < n.rings → n.is_side (n.giver q) ≡ true → n.depth (n.taker r) < n.depth (n.taker q) → IsClear n q) → IsClear n r
  side_step r l s below =
      elim (cases_Bool (n.build r)) [
        | inl b ↦ build_clear r l b
        | inr other ↦
            let to = shape.side_stays r l s other in
            elim (still.tasklets (n.taker r) to.0 (shape.files_first r l to.0)) [
              | inl full ↦
                  not_full (n.taker r)
                  (λ q m out. below q m (subst (λ (v : ℕ). n.is_side v ≡ true) (sym out) to.1) (subst (λ (v : ℕ). n.depth v < n.depth (n.taker q)) out (shape.deeper q m)))
                  full
              | inr (inl starved) ↦
                  record {
                    known =
                        elim (cases_Bool (n.done r)) [
                          | inl done ↦ met.last r l done
                          | inr going ↦ starved.streams (no_builds (n.taker r) to.0 to.1) r l refl other going
                        ];
                    held = λ link. starved.empty;
                  }
              | inr (inr ended) ↦ record { known = met.last r l (ended.done r l refl); held = λ link. ended.empty }
            ]
      ]

  side_back : (k r : ℕ) → r < n.rings → n.is_side (n.giver r) ≡ true → n.depth n.vertices ≤ n.depth (n.taker r) + k → IsClear n r
  side_back zero r l s near = side_step r l s (λ q m t down. let most = shape.deepest (n.taker q) (shape.taker q m) in absurd (omega (arith, near, down, most)))
  side_back (suc k) r l s near = side_step r l s (λ q m t down. side_back k q m t (omega (arith, near, down)))

  side_clear : (r : ℕ) → r < n.rings → n.is_side (n.giver r) ≡ true → IsClear n r
  side_clear r l s = side_back (n.depth n.vertices) r l s (omega arith)

  side_not_full : {X : Type 0} (v : ℕ) → n.is_side v ≡ true → IsFull n v → X
  side_not_full v s full = not_full v (λ q m out. side_clear q m (subst (λ (u : ℕ). n.is_side u ≡ true) (sym out) s)) full

  side_ended_step : (v : ℕ) → v < n.vertices → n.is_side v ≡ true → ((u : ℕ) → u < n.vertices → n.is_side u ≡ true → n.depth u < n.depth v → n.ended u ≡ true) → n.ended v ≡ true
  side_ended_step v l s above =
      elim (cases_Bool (n.is_file v)) [
        | inl file ↦
            elim (still.files v l file) [
              | inl full ↦ side_not_full v s full
              | inr (inl paused) ↦ absurd (both_ways (n.is_side v) paused.source s)
              | inr (inr done) ↦ done.ended
            ]
        | inr other ↦
            elim (still.tasklets v l other) [
              | inl full ↦ side_not_full v s full
              | inr (inl starved) ↦
                  let w = starved.waits in
                  let q = w.0 in
                  let from = shape.side_giver q w.1 (subst (λ (u : ℕ). u < n.vertices) (sym w.2) l) (subst (λ (u : ℕ). n.is_side u ≡ true) (sym w.2) s) in
                  let up : n.depth (n.giver q) < n.depth v = subst (λ (u : ℕ). n.depth (n.giver q) < n.depth u) w.2 (shape.deeper q w.1) in
                  let ended = above (n.giver q) (shape.giver q w.1) from up in
                  absurd (both_ways (n.done q) w.3 (met.ends q w.1 ended (side_clear q w.1 from)))
              | inr (inr done) ↦ done.ended
            ]
      ]

  side_down : (k v : ℕ) → v < n.vertices → n.is_side v ≡ true → n.depth v ≤ k → n.ended v ≡ true
  side_down zero v l s near = side_ended_step v l s (λ u m t up. absurd (omega (arith, near, up)))
  side_down (suc k) v l s near = side_ended_step v l s (λ u m t up. side_down k u m t (omega (arith, near, up)))

  side_ended : (v : ℕ) → v < n.vertices → n.is_side v ≡ true → n.ended v ≡ true
  side_ended v l s = side_down (n.depth v) v l s (omega arith)

  builds_done : (r : ℕ) → r < n.rings → n.build r ≡ true → n.done r ≡ true
  builds_done r l b = met.ends r l (side_ended (n.giver r) (shape.giver r l) (shape.build_giver r l b)) (build_clear r l b)

  -- ---- from the sink upwards
  clear_step : (r : ℕ) → r < n.rings → ((q : ℕ) → q < n.rings → n.depth (n.taker r) < n.depth (n.taker q) → IsClear n q) → IsClear n r
  clear_step r l below =
      elim (cases_eq (n.taker r) n.vertices) [
        | inl sink ↦ record { known = still.sink r l sink; held = λ link. let inner = shape.links_inside r l link in absurd (omega (arith, sink, inner)) }
        | inr other ↦
            let most = shape.taker r l in
            let inner : n.taker r < n.vertices = omega (arith, other, most) in
            elim (still.tasklets (n.taker r) inner (shape.files_first r l inner)) [
              | inl full ↦ not_full (n.taker r) (λ q m out. below q m (subst (λ (v : ℕ). n.depth v < n.depth (n.taker q)) out (shape.deeper q m))) full
              | inr (inl starved) ↦
                  record {
                    known =
                        elim (cases_Bool (n.done r)) [
                          | inl done ↦ met.last r l done
                          | inr going ↦
                              elim (cases_Bool (n.build r)) [
                                | inl b ↦ met.last r l (builds_done r l b)
                                | inr stream ↦ starved.streams (λ q m at b. builds_done q m b) r l refl stream going
                              ]
                        ];
                    held = λ link. starved.empty;
                  }
              | inr (inr ended) ↦ record { known = met.last r l (ended.done r l refl); held = λ link. ended.empty }
            ]
      ]

  clear_back : (k r : ℕ) → r < n.rings → n.depth n.vertices ≤ n.depth (n.taker r) + k → IsClear n r
  clear_back zero r l near = clear_step r l (λ q m down. let most = shape.deepest (n.taker q) (shape.taker q m) in absurd (omega (arith, near, down, most)))
  clear_back (suc k) r l near = clear_step r l (λ q m down. clear_back k q m (omega (arith, near, down)))

  all_clear : (r : ℕ) → r < n.rings → IsClear n r
  all_clear r l = clear_back (n.depth n.vertices) r l (omega arith)

  -- ---- so no vertex is full
  tasklet_rests : (v : ℕ) → v < n.vertices → n.is_file v ≡ false → IsStarved n v ⊎ HasEnded n v
  tasklet_rests v l other =
      elim (still.tasklets v l other) [
        | inl full ↦ not_full v (λ q m out. all_clear q m) full
        | inr rest ↦ rest
      ]

  file_rests : (v : ℕ) → v < n.vertices → n.is_file v ≡ true → IsPaused n v ⊎ HasEnded n v
  file_rests v l file =
      elim (still.files v l file) [
        | inl full ↦ not_full v (λ q m out. all_clear q m) full
        | inr rest ↦ rest
      ]

  all_empty : (v : ℕ) → v < n.vertices → n.held v ≡ 0
  all_empty v l =
      elim (cases_Bool (n.is_file v)) [
        | inl file ↦
            elim (file_rests v l file) [
              | inl paused ↦ paused.empty
              | inr ended ↦ ended.empty
            ]
        | inr other ↦
            elim (tasklet_rests v l other) [
              | inl starved ↦ starved.empty
              | inr ended ↦ ended.empty
            ]
      ]

  -- a vertex that has not ended keeps open what it gives into, and who takes from there
  stays_open : (r : ℕ) → r < n.rings → n.ended (n.giver r) ≡ false → n.done r ≡ false
  stays_open r l going =
      elim (cases_Bool (n.done r)) [
        | inl done ↦ absurd (both_ways (n.ended (n.giver r)) going (met.ended r l done (all_empty (n.giver r) (shape.giver r l))))
        | inr open_yet ↦ open_yet
      ]

  goes_on : (r : ℕ) → r < n.rings → n.ended (n.giver r) ≡ false → n.ended (n.taker r) ≡ false
  goes_on r l going =
      elim (cases_Bool (n.ended (n.taker r))) [
        | inl ended ↦ absurd (both_ways (n.done r) (stays_open r l going) (met.over r l ended))
        | inr on ↦ on
      ]

  all_rests : IsAligned n
  all_rests =
      record {
        known = λ r l. (all_clear r l).known;
        held = all_empty;
        builds = builds_done;
        sides = side_ended;
        tasklets = tasklet_rests;
        files = file_rests;
        open_rings = stays_open;
        goes_on = goes_on;
      }

pub aligned : (n : Net) → Shape n → HasMet n → WaitsForBuilds n → StandsStill n → IsAligned n
aligned n shape met waits still = all_rests n shape met waits still
