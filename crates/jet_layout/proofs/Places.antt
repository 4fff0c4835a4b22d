-- Which tasklet stands where.
use Rattle.std.proofs.Common.{arith, ◌≡◌, ◌∙◌, ◌+◌, ◌*◌, ◌<◌, ◌==◌, ◌||◌, ◌⊎◌, inl, inr, ◌∷◌, ◌++◌, [], if◌then◌else◌, Bool, true, false, ℕ, zero, suc, List, length, map, Some, ap, refl, sym, add-one}
use Rattle.std.specs.Prelude.{slice_get}
use Rattle.std.specs.List.{flat_map, range_with_len}
use Rattle.std.proofs.lemmas.Bool.{cases_lt}
use Rattle.std.proofs.lemmas.Bool.Decides.{nat_tests}
use Rattle.std.proofs.lemmas.List.FromFn.{length-map-range_with_len}
use Rattle.std.proofs.lemmas.Option.{same_Some}
use Rattle.jet_plan.specs.declared.vertex.Vertex.{Vertex}
use Rattle.jet_plan.specs.Kinds.{is_side, is_sink}
use Rattle.jet_plan.specs.Rings.{sum_below, instances}
use Rattle.jet_layout.specs.declared.task.Instance.{Instance}
use Rattle.jet_layout.specs.declared.task.Link.{Link}
use Rattle.jet_layout.specs.declared.task.Task.{Task}
use Rattle.jet_layout.specs.declared.task.Task.TheVariants.{Run, Send, Receive}
use Rattle.jet_layout.specs.Tasks.{member_tasks, vertex_tasks, task_count, instance_tasks, link_tasks}
use Rattle.jet_layout.proofs.Counting.{length_flat, same_sums, equal_parts}
use Rattle.jet_layout.proofs.Numbering.{vertex_length, before}
use Rattle.jet_layout.proofs.Ranges.{flat_map_more}

-- ---- places in lists

pub in_front : {X : Type 0} (xs ys : List X) (k : ℕ) (x : X) → slice_get xs k ≡ Some x → slice_get (xs ++ ys) k ≡ Some x
in_front [] ys k x h = absurd (cc h)
in_front (y ∷ xs) ys zero x h = h
in_front (y ∷ xs) ys (suc k) x h = in_front xs ys k x h

pub behind : {X : Type 0} (xs ys : List X) (k n : ℕ) → length xs + k ≡ n → slice_get (xs ++ ys) n ≡ slice_get ys k
behind [] ys k n e = let same : n ≡ k = omega (arith, e) in ap (slice_get ys) same
behind (y ∷ xs) ys k zero e = absurd (omega (arith, e))
behind (y ∷ xs) ys k (suc n) e = behind xs ys k n (omega (arith, e))

pub front_or_behind : {X : Type 0} (xs ys : List X) (p : ℕ) (x : X) → slice_get (xs ++ ys) p ≡ Some x → (slice_get xs p ≡ Some x) ⊎ ((k : ℕ) × (length xs + k ≡ p) × (slice_get ys k ≡ Some x))
front_or_behind [] ys p x h = inr (p, omega arith, h)
front_or_behind (y ∷ xs) ys zero x h = inl h
front_or_behind (y ∷ xs) ys (suc p) x h = elim (front_or_behind xs ys p x h) [
  | inl a ↦ inl a
  | inr b ↦ inr (b.0, (let e = b.1 in omega (arith, e)), b.2)
]

pub numbered_at : {X : Type 0} (f : ℕ → X) (a n i j : ℕ) → i < n → a + i ≡ j → slice_get (map f (range_with_len a n)) i ≡ Some (f j)
numbered_at f a zero i j h e = absurd (omega (arith, h))
numbered_at f a (suc n) zero j h e = let same : a ≡ j = omega (arith, e) in ap (λ k. Some (f k)) same
numbered_at f a (suc n) (suc i) j h e = numbered_at f (a + 1) n i j (omega (arith, h)) (omega (arith, e))

pub numbered_from : {X : Type 0} (f : ℕ → X) (a n p : ℕ) (x : X) → slice_get (map f (range_with_len a n)) p ≡ Some x → (p < n) × (x ≡ f (a + p))
numbered_from f a zero p x h = absurd (cc h)
numbered_from f a (suc n) zero x h = let same : a ≡ a + 0 = omega arith in (omega arith, sym (same_Some (f a) x h) ∙ ap f same)
numbered_from f a (suc n) (suc p) x h =
    let rest = numbered_from f (a + 1) n p x h in
    let same : a + 1 + p ≡ a + suc p = omega arith in
    ((let lt = rest.0 in omega (arith, lt)), rest.1 ∙ ap f same)

-- ---- places in the lists of all members

pub flat_more : {X : Type 0} (f : ℕ → List X) (n : ℕ) → flat_map f (range_with_len 0 (suc n)) ≡ flat_map f (range_with_len 0 n) ++ f n
flat_more f n = ap (λ k. flat_map f (range_with_len 0 k)) (sym (add-one n)) ∙ flat_map_more f n

pub flat_at : {X : Type 0} (f : ℕ → List X) (n m k p : ℕ) (x : X) → m < n → slice_get (f m) k ≡ Some x → sum_below m (λ q. length (f q)) + k ≡ p → slice_get (flat_map f (range_with_len 0 n)) p ≡ Some x
flat_at f zero m k p x lt at e = absurd (omega (arith, lt))
flat_at f (suc n) m k p x lt at e = ap (λ l. slice_get l p) (flat_more f n) ∙ elim (cases_lt m n) [
  | inl less ↦ in_front (flat_map f (range_with_len 0 n)) (f n) p x (flat_at f n m k p x less at e)
  | inr past ↦
      let same : n ≡ m = omega (arith, lt, past) in
      let sums = ap (λ q. sum_below q (λ r. length (f r))) same in
      let size = length_flat f n in
      behind (flat_map f (range_with_len 0 n)) (f n) k p (omega (arith, size, sums, e)) ∙ ap (λ q. slice_get (f q) k) same ∙ at
]

pub flat_from : {X : Type 0} (f : ℕ → List X) (n p : ℕ) (x : X) → slice_get (flat_map f (range_with_len 0 n)) p ≡ Some x → (m : ℕ) × (k : ℕ) × (m < n) × (slice_get (f m) k ≡ Some x) × (sum_below m (λ q. length (f q)) + k ≡ p)
flat_from f zero p x h = absurd (cc h)
flat_from f (suc n) p x h = elim (front_or_behind (flat_map f (range_with_len 0 n)) (f n) p x (ap (λ l. slice_get l p) (sym (flat_more f n)) ∙ h)) [
  | inl a ↦ let r = flat_from f n p x a in (r.0, r.1, (let lt = r.2 in omega (arith, lt)), r.3, r.4)
  | inr b ↦ (n, b.0, omega arith, b.2, (let size = length_flat f n in let e = b.1 in omega (arith, size, e)))
]

-- ---- the instances of a vertex

spread : (b : Bool) (parallelism m i : ℕ) → i < (if b then (if m == 0 then 1 else 0) else parallelism) → sum_below m (λ q. if b then (if q == 0 then 1 else 0) else parallelism) ≡ m * parallelism
spread true parallelism zero i h = omega arith
spread true parallelism (suc m) i h = absurd (grind (arith, nat_tests))
spread false parallelism m i h = equal_parts parallelism m

-- those on the members before one that has some
before_member : (x : Vertex) (m i : ℕ) → i < instances x m → sum_below m (instances x) ≡ m * x.parallelism
before_member x m i h = spread (is_side x.kind || is_sink x.kind) x.parallelism m i h

abbrev pub run : ℕ → ℕ → ℕ → Task
run v m i = Run (record { vertex = v; member = m; number = i })

pub same_instance : (a b : Instance) → Some (Run a) ≡ Some (Run b) → a ≡ b
same_instance a b h = cc h

pub same_run : (u v m k a b : ℕ) → Some (run u m a) ≡ Some (run v k b) → (u ≡ v) × (m ≡ k) × (a ≡ b)
same_run u v m k a b h =
    let same = same_instance (record { vertex = u; member = m; number = a }) (record { vertex = v; member = k; number = b }) h in
    (ap (λ (i : Instance). i.vertex) same, ap (λ (i : Instance). i.member) same, ap (λ (i : Instance). i.number) same)

member_sums : (v : ℕ) (x : Vertex) (m : ℕ) → sum_below m (λ q. length (member_tasks v x q)) ≡ sum_below m (instances x)
member_sums v x m = same_sums (λ q. length (member_tasks v x q)) (instances x) m (λ q. length-map-range_with_len (run v q) 0 (instances x q))

run_at : (members v : ℕ) (x : Vertex) (m i : ℕ) → is_sink x.kind ≡ false → m < members → i < instances x m → slice_get (vertex_tasks members v x) (m * x.parallelism + i) ≡ Some (run v m i)
run_at members v x m i plain inside there =
    let sums = member_sums v x m in
    let front = before_member x m i there in
    ap (λ b. slice_get (if b then [] else flat_map (member_tasks v x) (range_with_len 0 members)) (m * x.parallelism + i)) plain
    ∙ flat_at (member_tasks v x) members m i (m * x.parallelism + i) (run v m i) inside (numbered_at (run v m) 0 (instances x m) i i there (omega arith)) (omega (arith, sums, front))

-- a tasklet of a vertex is an instance at its place
pub record IsInstance (members v : ℕ) (x : Vertex) (p : ℕ) (t : Task) : Type 0 where
  pub member : ℕ
  pub number : ℕ
  pub plain : is_sink x.kind ≡ false
  pub inside : member < members
  pub there : number < instances x member
  pub place : member * x.parallelism + number ≡ p
  pub is : t ≡ run v member number

instance_by : (members v : ℕ) (x : Vertex) (p : ℕ) (t : Task) (b : Bool) → is_sink x.kind ≡ b → slice_get (if b then [] else flat_map (member_tasks v x) (range_with_len 0 members)) p ≡ Some t → IsInstance members v x p t
instance_by members v x p t true s h = absurd (cc h)
instance_by members v x p t false s h =
    let at = flat_from (member_tasks v x) members p t h in
    let own = numbered_from (run v at.0) 0 (instances x at.0) at.1 t at.3 in
    let sums = member_sums v x at.0 in
    let front = before_member x at.0 at.1 own.0 in
    let whole = at.4 in
    let same : 0 + at.1 ≡ at.1 = omega arith in
    record {
      member = at.0;
      number = at.1;
      plain = s;
      inside = at.2;
      there = own.0;
      place = omega (arith, sums, front, whole);
      is = own.1 ∙ ap (run v at.0) same;
    }

instance_from : (members v : ℕ) (x : Vertex) (p : ℕ) (t : Task) → slice_get (vertex_tasks members v x) p ≡ Some t → IsInstance members v x p t
instance_from members v x p t h = instance_by members v x p t (is_sink x.kind) refl h

-- ---- the instances of all vertices

task_at : (members v : ℕ) (xs : List Vertex) (u w : ℕ) (x : Vertex) (k : ℕ) (t : Task) → slice_get xs u ≡ Some x → v + u ≡ w → slice_get (vertex_tasks members w x) k ≡ Some t → slice_get (instance_tasks members v xs) (before members xs u + k) ≡ Some t
task_at members v [] u w x k t at e h = absurd (cc at)
task_at members v (y ∷ ys) zero w x k t at e h =
    let same : v ≡ w = omega (arith, e) in
    let start : 0 + k ≡ k = omega arith in
    in_front (vertex_tasks members v y) (instance_tasks members (v + 1) ys) (0 + k) t
    (ap (slice_get (vertex_tasks members v y)) start ∙ ap (λ n. slice_get (vertex_tasks members n y) k) same ∙ ap (λ z. slice_get (vertex_tasks members w z) k) (same_Some y x at) ∙ h)
task_at members v (y ∷ ys) (suc u) w x k t at e h =
    let size = vertex_length members v y in
    behind (vertex_tasks members v y) (instance_tasks members (v + 1) ys) (before members ys u + k) (task_count members y + before members ys u + k) (omega (arith, size))
    ∙ task_at members (v + 1) ys u w x k t at (omega (arith, e)) h

-- a tasklet of vertices is one of this vertex
record IsOf (members v : ℕ) (xs : List Vertex) (p : ℕ) (t : Task) : Type 0 where
  pub number : ℕ
  pub vertex : Vertex
  pub place : ℕ
  pub at : slice_get xs number ≡ Some vertex
  pub task : slice_get (vertex_tasks members (v + number) vertex) place ≡ Some t
  pub is : before members xs number + place ≡ p

task_from : (members v : ℕ) (xs : List Vertex) (p : ℕ) (t : Task) → slice_get (instance_tasks members v xs) p ≡ Some t → IsOf members v xs p t
task_from members v [] p t h = absurd (cc h)
task_from members v (y ∷ ys) p t h = elim (front_or_behind (vertex_tasks members v y) (instance_tasks members (v + 1) ys) p t h) [
  | inl a ↦
      let same : v + 0 ≡ v = omega arith in
      record { number = 0; vertex = y; place = p; at = refl; task = ap (λ n. slice_get (vertex_tasks members n y) p) same ∙ a; is = omega arith }
  | inr b ↦
      let r = task_from members (v + 1) ys b.0 t b.2 in
      let same : v + suc r.number ≡ v + 1 + r.number = omega arith in
      let size = vertex_length members v y in
      let e = b.1 in
      let g = r.is in
      record { number = suc r.number; vertex = r.vertex; place = r.place; at = r.at; task = ap (λ n. slice_get (vertex_tasks members n r.vertex) r.place) same ∙ r.task; is = omega (arith, size, e, g) }
]

-- an instance stands at its place among all
pub stands : (members : ℕ) (xs : List Vertex) (u : ℕ) (x : Vertex) (m i p : ℕ) → slice_get xs u ≡ Some x → is_sink x.kind ≡ false → m < members → i < instances x m → before members xs u + m * x.parallelism + i ≡ p
    → slice_get (instance_tasks members 0 xs) p ≡ Some (run u m i)
stands members xs u x m i p at plain inside there e =
    let same : p ≡ before members xs u + (m * x.parallelism + i) = omega (arith, e) in
    ap (slice_get (instance_tasks members 0 xs)) same ∙ task_at members 0 xs u u x (m * x.parallelism + i) (run u m i) at (omega arith) (run_at members u x m i plain inside there)

-- and what stands at a place among them is an instance of some vertex
pub record IsPlaced (members : ℕ) (xs : List Vertex) (p : ℕ) (t : Task) : Type 0 where
  pub number : ℕ
  pub vertex : Vertex
  pub member : ℕ
  pub instance : ℕ
  pub at : slice_get xs number ≡ Some vertex
  pub plain : is_sink vertex.kind ≡ false
  pub inside : member < members
  pub there : instance < instances vertex member
  pub place : before members xs number + member * vertex.parallelism + instance ≡ p
  pub is : t ≡ run number member instance

pub placed : (members : ℕ) (xs : List Vertex) (p : ℕ) (t : Task) → slice_get (instance_tasks members 0 xs) p ≡ Some t → IsPlaced members xs p t
placed members xs p t h =
    let r = task_from members 0 xs p t h in
    let q = instance_from members (0 + r.number) r.vertex r.place t r.task in
    let same : 0 + r.number ≡ r.number = omega arith in
    let a = r.is in
    let b = q.place in
    record {
      number = r.number;
      vertex = r.vertex;
      member = q.member;
      instance = q.number;
      at = r.at;
      plain = q.plain;
      inside = q.inside;
      there = q.there;
      place = omega (arith, a, b);
      is = q.is ∙ ap (λ n. run n q.member q.number) same;
    }

-- ---- the two tasklets of each link

pub ends_at : (ls : List Link) (q : ℕ) (l : Link) → slice_get ls q ≡ Some l → (slice_get (flat_map link_tasks ls) (2 * q) ≡ Some (Send l)) × (slice_get (flat_map link_tasks ls) (2 * q + 1) ≡ Some (Receive l))
ends_at [] q l h = absurd (cc h)
ends_at (k ∷ ks) zero l h = (ap (λ z. Some (Send z)) (same_Some k l h), ap (λ z. Some (Receive z)) (same_Some k l h))
ends_at (k ∷ ks) (suc q) l h =
    let rest = ends_at ks q l h in
    let sender : 2 * suc q ≡ suc (suc (2 * q)) = omega arith in
    let receiver : 2 * suc q + 1 ≡ suc (suc (2 * q + 1)) = omega arith in
    (ap (slice_get (flat_map link_tasks (k ∷ ks))) sender ∙ rest.0, ap (slice_get (flat_map link_tasks (k ∷ ks))) receiver ∙ rest.1)

pub record IsEnd (ls : List Link) (p : ℕ) (t : Task) : Type 0 where
  pub number : ℕ
  pub link : Link
  pub at : slice_get ls number ≡ Some link
  pub is : ((2 * number ≡ p) × (t ≡ Send link)) ⊎ ((2 * number + 1 ≡ p) × (t ≡ Receive link))

pub end_from : (ls : List Link) (p : ℕ) (t : Task) → slice_get (flat_map link_tasks ls) p ≡ Some t → IsEnd ls p t
end_from [] p t h = absurd (cc h)
end_from (k ∷ ks) zero t h = record { number = 0; link = k; at = refl; is = inl (omega arith, sym (same_Some (Send k) t h)) }
end_from (k ∷ ks) (suc zero) t h = record { number = 0; link = k; at = refl; is = inr (omega arith, sym (same_Some (Receive k) t h)) }
end_from (k ∷ ks) (suc (suc p)) t h =
    let r = end_from ks p t h in
    record {
      number = suc r.number;
      link = r.link;
      at = r.at;
      is = elim r.is [
        | inl a ↦ inl ((let e = a.0 in omega (arith, e)), a.1)
        | inr a ↦ inr ((let e = a.0 in omega (arith, e)), a.1)
      ];
    }
