-- How many wires the receiver of each link has.
use Rattle.std.proofs.Common.{arith, ◌≡◌, ◌∙◌, ◌+◌, ◌*◌, ◌<◌, ◌≤◌, ◌==◌, ◌⊎◌, inl, inr, ◌∷◌, [], if◌then◌else◌, Bool, true, false, ℕ, zero, suc, List, length, map, Some, ap, refl, sym, subst}
use Rattle.std.specs.Prelude.{slice_get, count_by, ◌&&◌}
use Rattle.std.specs.List.{All, Contains, flat_map, range_with_len}
use Rattle.std.proofs.lemmas.Bool.Decides.{nat_tests}
use Rattle.std.proofs.lemmas.List.Elements.{All-head, All-tail, All-same, All-map, All-weaker, Contains-append_left, Contains-append_right}
use Rattle.std.proofs.lemmas.List.FromFn.{length-range_with_len}
use Rattle.std.proofs.lemmas.List.Sums.{sum_by-append}
use Rattle.std.proofs.lemmas.Option.{same_Some, slice_get_within}
use Rattle.jet_plan.specs.declared.dag.Dag.{Dag}
use Rattle.jet_plan.specs.declared.edge.Edge.{Edge}
use Rattle.jet_plan.specs.declared.settings.Settings.{Settings}
use Rattle.jet_plan.specs.Rings.{members}
use Rattle.jet_layout.specs.declared.joint.Joint.{Joint}
use Rattle.jet_layout.specs.declared.layout.Layout.{Layout}
use Rattle.jet_layout.specs.declared.task.Link.{Link}
use Rattle.jet_layout.specs.declared.task.Task.{Task}
use Rattle.jet_layout.specs.declared.task.Task.TheVariants.{Send, Receive}
use Rattle.jet_layout.specs.declared.wire.Taker.TheVariants.{Input}
use Rattle.jet_layout.specs.declared.wire.Wire.{Wire}
use Rattle.jet_layout.specs.Joints.{count, port, taker, vertex_ends, output_number, joints_from, joints}
use Rattle.jet_layout.specs.Layouts.{IsLayout}
use Rattle.jet_layout.specs.Links.{links_of}
use Rattle.jet_layout.specs.Ports.{gives_at, wire_count, IsHeard, IsFed}
use Rattle.jet_layout.specs.Tasks.{instance_tasks, link_tasks}
use Rattle.jet_layout.specs.Wires.{consumers, producer_wires, local_wires, link_wires, links_wires, edge_wires, wires_from}
use Rattle.jet_layout.specs.inner.Facts.{Facts}
use Rattle.jet_layout.proofs.Counting.{into, out}
use Rattle.jet_layout.proofs.Facts.{AreKnown, known}
use Rattle.jet_layout.proofs.Giving.{element, consumers_some}
use Rattle.jet_layout.proofs.Joining.{IsJoint, IsSomeEdge, IsRest, rest_head, rest_tail, rest_all, make, next_joint, joints_are_edges}
use Rattle.jet_layout.proofs.Places.{run, placed, front_or_behind, end_from}
use Rattle.jet_layout.proofs.Summing.{nothing_each, without, sum_same, count_map, equal, other_above, one_if}
use Rattle.jet_layout.proofs.Wired.{all_flat, all_below, IsLink, links_are, instance_at, start_plain}

other_below : (a b : ℕ) → b < a → (a == b) ≡ false
other_below a b h = grind (arith, nat_tests)

none_of : {X : Type 0} (p : X → Bool) (xs : List X) → All (λ x. p x ≡ false) xs → count_by p xs ≡ 0
none_of p xs h = sum_same (λ x. one_if (p x)) 0 xs (All-weaker (λ x. p x ≡ false) (λ x. one_if (p x) ≡ 0) (λ x f. ap one_if f) xs h) ∙ nothing_each (length xs)

first_number : {X : Type 0} (f : ℕ → X) (n : ℕ) → 0 < n → Contains (map f (range_with_len 0 n)) (f 0)
first_number f zero some = absurd (omega (arith, some))
first_number f (suc n) some = (0, omega arith, refl)

module _ (dag : Dag) (s : Settings) (l : Layout) (is : IsLayout dag s l) (facts : Facts dag s) where
  abbrev width : ℕ
  width = members s

  abbrev base : ℕ
  base = length (instance_tasks width 0 dag.vertices)

  abbrev sure : AreKnown dag
  sure = known dag s facts

  -- the joint at a place is the edge with that number
  numbered_from : (n : ℕ) (es : List Edge) → IsRest dag.edges n es → (q : ℕ) (j : Joint) → slice_get (joints_from dag.vertices dag.edges (vertex_ends width 0 dag.vertices) n es) q ≡ Some j → j.edge ≡ n + q
  numbered_from n [] rest q j at = absurd (cc at)
  numbered_from n (e ∷ es) rest zero j at =
      let there = rest_head dag.edges n e es rest in
      let made = make width dag sure n e there in
      let same : made.0 ≡ j = same_Some made.0 j (ap (λ js. slice_get js zero) (sym (next_joint width dag sure n e es there)) ∙ at) in
      let edge = made.2 in
      let number = edge.number in
      let here = ap (λ (d : Joint). d.edge) same in
      omega (arith, number, here)
  numbered_from n (e ∷ es) rest (suc q) j at =
      let there = rest_head dag.edges n e es rest in
      let more = numbered_from (n + 1) es (rest_tail dag.edges n e es rest) q j (ap (λ js. slice_get js (suc q)) (sym (next_joint width dag sure n e es there)) ∙ at) in
      omega (arith, more)

  pub edge_number : (p : ℕ) (j : Joint) → slice_get l.joints p ≡ Some j → j.edge ≡ p
  edge_number p j at =
      let number = numbered_from 0 dag.edges (rest_all dag.edges) p j (ap (λ js. slice_get js p) (sym is.joints) ∙ at) in
      omega (arith, number)

  -- ---- the wires that tasklet k gives, which is none of an instance

  module _ (k : ℕ) (past : base ≤ k) where
    low : (n : ℕ) (e : Edge) (j : Joint) (edge : IsJoint width dag n e j) (m i : ℕ) → m < width → i < count j.from m → (k == (port j.from m i).task) ≡ false
    low n e j edge m i inside there =
        let at = instance_at dag s l is facts j.from edge.giver edge.start (output_number dag.edges n e) m i edge.from edge.at_start (start_plain dag s l is facts n e j edge) inside there in
        let below = slice_get_within (instance_tasks width 0 dag.vertices) (port j.from m i).task (run edge.giver m i) at in
        other_below k (port j.from m i).task (omega (arith, below, past))

    abbrev Not : Wire → Type 0
    Not w = gives_at k 0 w ≡ false

    none_local : (n : ℕ) (e : Edge) (j : Joint) (edge : IsJoint width dag n e j) → count_by (gives_at k 0) (flat_map (local_wires j) (range_with_len 0 width)) ≡ 0
    none_local n e j edge = none_of (gives_at k 0) (flat_map (local_wires j) (range_with_len 0 width))
        (all_flat Not (local_wires j) width (λ m inside. all_flat Not (producer_wires j m) (count j.from m) (λ i there.
        All-map Not (λ c. record { giver = port j.from m i; taker = taker j.to m c }) (consumers j.route (count j.to m) i)
        (λ c d lt. without (k == (port j.from m i).task) (0 == (j.from).number) (low n e j edge m i inside there)))))

    -- those of a link: the rings into its sender are none of them
    one_link : (n : ℕ) (e : Edge) (j : Joint) (edge : IsJoint width dag n e j) (number : ℕ) (q : Link) → IsLink width j q → count_by (gives_at k 0) (link_wires j number q) ≡ (if k == number + 1 then count j.to q.to else 0)
    one_link n e j edge number q link =
        let first = map (into j number q) (range_with_len 0 (count j.from q.from)) in
        let second = map (out j number q) (range_with_len 0 (count j.to q.to)) in
        let one : Wire → ℕ = λ w. one_if (gives_at k 0 w) in
        let two = sum_by-append one first second in
        let none : count_by (gives_at k 0) first ≡ 0 = none_of (gives_at k 0) first
        (All-map Not (into j number q) (range_with_len 0 (count j.from q.from)) (all_below (λ i. Not (into j number q i)) (count j.from q.from) (λ i there.
        without (k == (port j.from q.from i).task) (0 == (j.from).number) (low n e j edge q.from i link.from there)))) in
        let all : count_by (gives_at k 0) second ≡ (if k == number + 1 && 0 == 0 then length (range_with_len 0 (count j.to q.to)) else 0) = count_map (gives_at k 0) (out j number q) (k == number + 1 && 0 == 0) (range_with_len 0 (count j.to q.to)) (λ c. refl) in
        let told = by_test (k == number + 1) (count j.to q.to) in
        omega (arith, two, none, all, told)
      where
        by_test : (b : Bool) (c : ℕ) → (if b && 0 == 0 then length (range_with_len 0 c) else 0) ≡ (if b then c else 0)
        by_test true c = length-range_with_len 0 c
        by_test false c = refl

    module _ (n : ℕ) (e : Edge) (j : Joint) (edge : IsJoint width dag n e j) where
      links_before : (number : ℕ) (qs : List Link) → All (IsLink width j) qs → k ≤ number → count_by (gives_at k 0) (links_wires j number qs) ≡ 0
      links_before number [] links le = refl
      links_before number (q ∷ qs) links le =
          let one : Wire → ℕ = λ w. one_if (gives_at k 0 w) in
          let parts = sum_by-append one (link_wires j number q) (links_wires j (number + 2) qs) in
          let here = one_link n e j edge number q (All-head (IsLink width j) q qs links) ∙ ap (λ b. if b then count j.to q.to else 0) (other_above k (number + 1) (omega (arith, le))) in
          let rest = links_before (number + 2) qs (All-tail (IsLink width j) q qs links) (omega (arith, le)) in
          omega (arith, parts, here, rest)

      links_past : (number : ℕ) (qs : List Link) → All (IsLink width j) qs → number + 2 * length qs ≤ k → count_by (gives_at k 0) (links_wires j number qs) ≡ 0
      links_past number [] links le = refl
      links_past number (q ∷ qs) links le =
          let one : Wire → ℕ = λ w. one_if (gives_at k 0 w) in
          let parts = sum_by-append one (link_wires j number q) (links_wires j (number + 2) qs) in
          let here = one_link n e j edge number q (All-head (IsLink width j) q qs links) ∙ ap (λ b. if b then count j.to q.to else 0) (other_below k (number + 1) (omega (arith, le))) in
          let rest = links_past (number + 2) qs (All-tail (IsLink width j) q qs links) (omega (arith, le)) in
          omega (arith, parts, here, rest)

      links_at : (number : ℕ) (qs : List Link) → All (IsLink width j) qs → (r : ℕ) (x : Link) → slice_get qs r ≡ Some x → k ≡ number + 2 * r + 1 → count_by (gives_at k 0) (links_wires j number qs) ≡ count j.to x.to
      links_at number [] links r x at same = absurd (cc at)
      links_at number (q ∷ qs) links zero x at same =
          let one : Wire → ℕ = λ w. one_if (gives_at k 0 w) in
          let parts = sum_by-append one (link_wires j number q) (links_wires j (number + 2) qs) in
          let here = one_link n e j edge number q (All-head (IsLink width j) q qs links) ∙ ap (λ b. if b then count j.to q.to else 0) (equal k (number + 1) (omega (arith, same))) in
          let rest = links_before (number + 2) qs (All-tail (IsLink width j) q qs links) (omega (arith, same)) in
          let its = ap (λ (y : Link). count j.to y.to) (same_Some q x at) in
          omega (arith, parts, here, rest, its)
      links_at number (q ∷ qs) links (suc r) x at same =
          let one : Wire → ℕ = λ w. one_if (gives_at k 0 w) in
          let parts = sum_by-append one (link_wires j number q) (links_wires j (number + 2) qs) in
          let here = one_link n e j edge number q (All-head (IsLink width j) q qs links) ∙ ap (λ b. if b then count j.to q.to else 0) (other_below k (number + 1) (omega (arith, same))) in
          let rest = links_at (number + 2) qs (All-tail (IsLink width j) q qs links) r x at (omega (arith, same)) in
          omega (arith, parts, here, rest)

    joints_before : (number : ℕ) (js : List Joint) → All (IsSomeEdge width dag sure) js → k ≤ number → count_by (gives_at k 0) (wires_from width number js) ≡ 0
    joints_before number [] edges le = refl
    joints_before number (j ∷ js) edges le =
        let edge = All-head (IsSomeEdge width dag sure) j js edges in
        let one : Wire → ℕ = λ w. one_if (gives_at k 0 w) in
        let parts = sum_by-append one (edge_wires width number j) (wires_from width (number + 2 * length (links_of width j)) js) in
        let two = sum_by-append one (flat_map (local_wires j) (range_with_len 0 width)) (links_wires j number (links_of width j)) in
        let local = none_local edge.0 edge.1 j edge.2 in
        let linked = links_before edge.0 edge.1 j edge.2 number (links_of width j) (links_are width j) le in
        let rest = joints_before (number + 2 * length (links_of width j)) js (All-tail (IsSomeEdge width dag sure) j js edges) (omega (arith, le)) in
        omega (arith, parts, two, local, linked, rest)

    -- the link is one of the joint with the number p, and c are its consumers there
    record IsOf (x : Link) (c : ℕ) : Type 0 where
      pub joint : Joint
      pub place : ℕ
      pub at : slice_get l.joints place ≡ Some joint
      pub some_edge : IsSomeEdge width dag sure joint
      pub link : IsLink width joint x
      pub counted : c ≡ count joint.to x.to

    joints_at : (number p : ℕ) (js : List Joint) → All (IsSomeEdge width dag sure) js → IsRest l.joints p js → (r : ℕ) (x : Link) → slice_get (flat_map (links_of width) js) r ≡ Some x → k ≡ number + 2 * r + 1
        → IsOf x (count_by (gives_at k 0) (wires_from width number js))
    joints_at number p [] edges rest r x at same = absurd (cc at)
    joints_at number p (j ∷ js) edges rest r x at same =
        let edge = All-head (IsSomeEdge width dag sure) j js edges in
        let others = All-tail (IsSomeEdge width dag sure) j js edges in
        let links = links_are width j in
        let one : Wire → ℕ = λ w. one_if (gives_at k 0 w) in
        let next : ℕ = number + 2 * length (links_of width j) in
        let parts = sum_by-append one (edge_wires width number j) (wires_from width next js) in
        let two = sum_by-append one (flat_map (local_wires j) (range_with_len 0 width)) (links_wires j number (links_of width j)) in
        let local = none_local edge.0 edge.1 j edge.2 in
        elim (front_or_behind (links_of width j) (flat_map (links_of width) js) r x at) [
          | inl front ↦
              let inside = slice_get_within (links_of width j) r x front in
              let linked = links_at edge.0 edge.1 j edge.2 number (links_of width j) links r x front same in
              let none = joints_before next js others (omega (arith, same, inside)) in
              record { joint = j; place = p; at = rest_head l.joints p j js rest; some_edge = edge; link = element (IsLink width j) (links_of width j) r x links front; counted = omega (arith, parts, two, local, linked, none) }
          | inr back ↦
              let e = back.1 in
              let linked = links_past edge.0 edge.1 j edge.2 number (links_of width j) links (omega (arith, same, e)) in
              let more = joints_at next (p + 1) js others (rest_tail l.joints p j js rest) back.0 x back.2 (omega (arith, same, e)) in
              let counted = more.counted in
              record { joint = more.joint; place = more.place; at = more.at; some_edge = more.some_edge; link = more.link; counted = omega (arith, parts, two, local, linked, counted) }
        ]

  all_edges : All (IsSomeEdge width dag sure) l.joints
  all_edges = All-same (IsSomeEdge width dag sure) l.joints (joints width dag) is.joints (joints_are_edges width dag sure)

  heard : (k r : ℕ) (x : Link) → k ≡ base + 2 * r + 1 → slice_get l.links r ≡ Some x → IsHeard width l.joints l.wires k x
  heard k r x same at =
      let of = joints_at k (omega (arith, same)) base 0 l.joints all_edges (rest_all l.joints) r x (ap (λ ks. slice_get ks r) (sym is.links) ∙ at) same in
      let number = edge_number of.place of.joint of.at in
      let link = of.link in
      let place : of.place ≡ x.edge = sym (link.edge ∙ number) in
      let edge = of.some_edge in
      let all : wire_count l.wires k 0 ≡ count (of.joint).to x.to = ap (count_by (gives_at k 0)) is.wires ∙ of.counted in
      let takers = link.takers in
      record {
        joint = of.joint;
        at = ap (slice_get l.joints) (sym place) ∙ of.at;
        edge = sym link.edge;
        some = omega (arith, all, takers);
        each = omega (arith, all);
        here = takers;
        consumers = consumers_some dag s l is facts edge.0 edge.1 of.joint edge.2;
      }

  no_run : (i m a : ℕ) (t : Task) (x : Link) → (t ≡ Send x) ⊎ (t ≡ Receive x) → t ≡ run i m a → ⊥
  no_run i m a t x (inl e) h = cc (e, h)
  no_run i m a t x (inr e) h = cc (e, h)

  -- what is at an end of a link stands behind all instances
  pub link_end : (k : ℕ) (t : Task) (x : Link) → (t ≡ Send x) ⊎ (t ≡ Receive x) → slice_get l.tasks k ≡ Some t → (q : ℕ) × (base + q ≡ k) × (slice_get (flat_map link_tasks l.links) q ≡ Some t)
  link_end k t x kind at = elim (front_or_behind (instance_tasks width 0 dag.vertices) (flat_map link_tasks l.links) k t (ap (λ ts. slice_get ts k) (sym is.tasks) ∙ at)) [
    | inl front ↦ let own = placed width dag.vertices k t front in absurd (no_run own.number own.member own.instance t x kind own.is)
    | inr back ↦ back
  ]

  received_by : (k q : ℕ) (x y : Link) (r : ℕ) → base + q ≡ k → slice_get l.links r ≡ Some y → ((2 * r ≡ q) × (Receive x ≡ Send y)) ⊎ ((2 * r + 1 ≡ q) × (Receive x ≡ Receive y)) → IsHeard width l.joints l.wires k x
  received_by k q x y r e at (inl h) = absurd (cc h.1)
  received_by k q x y r e at (inr h) =
      let place = h.0 in
      let same : x ≡ y = cc h.1 in
      heard k r x (omega (arith, e, place)) (at ∙ ap (λ z. Some z) (sym same))

  pub receivers_have_wires : (k : ℕ) (x : Link) → slice_get l.tasks k ≡ Some (Receive x) → IsHeard width l.joints l.wires k x
  receivers_have_wires k x at =
      let end = link_end k (Receive x) x (inr refl) at in
      let which = end_from l.links end.0 (Receive x) end.2 in
      received_by k end.0 x which.link which.number end.1 which.at which.is

  -- ---- the wires into the sender of a link

  links_fed : (j : Joint) (number : ℕ) (qs : List Link) → All (IsLink width j) qs → (r k : ℕ) (x : Link) → slice_get qs r ≡ Some x → k ≡ number + 2 * r → IsFed (links_wires j number qs) k 0
  links_fed j number [] links r k x at same = absurd (cc at)
  links_fed j number (q ∷ qs) links zero k x at same =
      let link = All-head (IsLink width j) q qs links in
      let n : number ≡ k = omega (arith, same) in (
        into j number q 0,
        Contains-append_left (link_wires j number q) (links_wires j (number + 2) qs) (into j number q 0)
            (Contains-append_left (map (into j number q) (range_with_len 0 (count j.from q.from))) (map (out j number q) (range_with_len 0 (count j.to q.to))) (into j number q 0) (first_number (into j number q) (count j.from q.from) link.givers)),
        ap (λ t. Input (record { task = t; number = 0 })) n,
      )
  links_fed j number (q ∷ qs) links (suc r) k x at same =
      let more = links_fed j (number + 2) qs (All-tail (IsLink width j) q qs links) r k x at (omega (arith, same)) in
      (more.0, Contains-append_right (link_wires j number q) (links_wires j (number + 2) qs) more.0 more.1, more.2)

  joints_fed : (number : ℕ) (js : List Joint) (r k : ℕ) (x : Link) → slice_get (flat_map (links_of width) js) r ≡ Some x → k ≡ number + 2 * r → IsFed (wires_from width number js) k 0
  joints_fed number [] r k x at same = absurd (cc at)
  joints_fed number (j ∷ js) r k x at same =
      let next : ℕ = number + 2 * length (links_of width j) in
      elim (front_or_behind (links_of width j) (flat_map (links_of width) js) r x at) [
        | inl front ↦
            let fed = links_fed j number (links_of width j) (links_are width j) r k x front same in (
              fed.0,
              Contains-append_left (edge_wires width number j) (wires_from width next js) fed.0
                  (Contains-append_right (flat_map (local_wires j) (range_with_len 0 width)) (links_wires j number (links_of width j)) fed.0 fed.1),
              fed.2,
            )
        | inr back ↦
            let e = back.1 in
            let fed = joints_fed next js back.0 k x back.2 (omega (arith, same, e)) in
            (fed.0, Contains-append_right (edge_wires width number j) (wires_from width next js) fed.0 fed.1, fed.2)
      ]

  sent_by : (k q : ℕ) (x y : Link) (r : ℕ) → base + q ≡ k → slice_get l.links r ≡ Some y → ((2 * r ≡ q) × (Send x ≡ Send y)) ⊎ ((2 * r + 1 ≡ q) × (Send x ≡ Receive y)) → IsFed l.wires k 0
  sent_by k q x y r e at (inr h) = absurd (cc h.1)
  sent_by k q x y r e at (inl h) =
      let place = h.0 in
      let fed = joints_fed base l.joints r k y (ap (λ ks. slice_get ks r) (sym is.links) ∙ at) (omega (arith, e, place)) in
      (fed.0, subst (λ ws. Contains ws fed.0) (sym is.wires) fed.1, fed.2)

  pub senders_have_wires : (k : ℕ) (x : Link) → slice_get l.tasks k ≡ Some (Send x) → IsFed l.wires k 0
  senders_have_wires k x at =
      let end = link_end k (Send x) x (inl refl) at in
      let which = end_from l.links end.0 (Send x) end.2 in
      sent_by k end.0 x which.link which.number end.1 which.at which.is
