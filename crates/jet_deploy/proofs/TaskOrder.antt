-- The order of the tasks of a layout: what receives from a link stands behind what sends over it.
use Rattle.std.proofs.Common.{arith, ◌≡◌, ◌≢◌, ◌∙◌, ◌+◌, ◌<◌, ◌++◌, ◌⊎◌, inl, inr, ℕ, zero, suc, Bool, true, false, List, [], ◌∷◌, Some, map, length, ap, refl, sym, subst, if◌then◌else◌}
use Rattle.std.specs.Prelude.{slice_get}
use Rattle.std.specs.List.{flat_map, range_with_len}
use Rattle.std.proofs.lemmas.Option.{same_Some}
use Rattle.jet_layout.specs.declared.task.Instance.{Instance}
use Rattle.jet_layout.specs.declared.task.Link.{Link}
use Rattle.jet_layout.specs.declared.task.Task.{Task}
use Rattle.jet_layout.specs.declared.task.Task.TheVariants.{Run, Send, Receive}
use Rattle.jet_layout.specs.Tasks.{member_tasks, vertex_tasks, instance_tasks, link_tasks}
use Rattle.jet_plan.specs.declared.vertex.Vertex.{Vertex}
use Rattle.jet_plan.specs.Kinds.{is_sink}
use Rattle.jet_plan.specs.Rings.{instances}

-- each element of a list runs an instance
abbrev pub AllRun : List Task → Type 0
AllRun [] = Unit {0}
AllRun (t ∷ ts) = ((i : Instance) × (t ≡ Run i)) × AllRun ts

all_run_more : (xs ys : List Task) → AllRun xs → AllRun ys → AllRun (xs ++ ys)
all_run_more [] ys a b = b
all_run_more (x ∷ xs) ys a b = (a.0, all_run_more xs ys a.1 b)

run_each : (f : ℕ → Instance) (ns : List ℕ) → AllRun (map (λ n. Run (f n)) ns)
run_each f [] = tt
run_each f (n ∷ ns) = ((f n, refl), run_each f ns)

run_on_members : (v : ℕ) (vertex : Vertex) (ms : List ℕ) → AllRun (flat_map (member_tasks v vertex) ms)
run_on_members v vertex [] = tt
run_on_members v vertex (m ∷ ms) =
    all_run_more (member_tasks v vertex m) (flat_map (member_tasks v vertex) ms) (run_each (λ i. record { vertex = v; member = m; number = i }) (range_with_len 0 (instances vertex m))) (run_on_members v vertex ms)

run_unless : (b : Bool) (ts : List Task) → AllRun ts → AllRun (if b then [] else ts)
run_unless true ts a = tt
run_unless false ts a = a

pub all_run : (members v : ℕ) (vs : List Vertex) → AllRun (instance_tasks members v vs)
all_run members v [] = tt
all_run members v (x ∷ xs) =
    all_run_more (vertex_tasks members v x) (instance_tasks members (v + 1) xs)
    (run_unless (is_sink x.kind) (flat_map (member_tasks v x) (range_with_len 0 members)) (run_on_members v x (range_with_len 0 members))) (all_run members (v + 1) xs)

runs_not_send : (i : Instance) (l : Link) → Run i ≢ Send l
runs_not_send i l e = cc

runs_not_receive : (i : Instance) (l : Link) → Run i ≢ Receive l
runs_not_receive i l e = cc

behind_links : (links : List Link) (k : ℕ) (l : Link) → slice_get (flat_map link_tasks links) k ≡ Some (Send l) → slice_get (flat_map link_tasks links) (suc k) ≡ Some (Receive l)
behind_links [] k l at = cc
behind_links (x ∷ xs) zero l at = let e : Send x ≡ Send l = same_Some (Send x) (Send l) at in cc
behind_links (x ∷ xs) (suc zero) l at = let e : Receive x ≡ Send l = same_Some (Receive x) (Send l) at in cc
behind_links (x ∷ xs) (suc (suc k)) l at = behind_links xs k l at

behind_runs : (ts : List Task) (links : List Link) → AllRun ts → (k : ℕ) (l : Link) → slice_get (ts ++ flat_map link_tasks links) k ≡ Some (Send l) → slice_get (ts ++ flat_map link_tasks links) (suc k) ≡ Some (Receive l)
behind_runs [] links a k l at = behind_links links k l at
behind_runs (t ∷ ts) links a zero l at = absurd (runs_not_send a.0.0 l (sym a.0.1 ∙ same_Some t (Send l) at))
behind_runs (t ∷ ts) links a (suc k) l at = behind_runs ts links a.1 k l at

before_links : (links : List Link) (k : ℕ) (l : Link) → slice_get (flat_map link_tasks links) (suc k) ≡ Some (Receive l) → slice_get (flat_map link_tasks links) k ≡ Some (Send l)
before_links [] k l at = cc
before_links (x ∷ xs) zero l at = let e : Receive x ≡ Receive l = same_Some (Receive x) (Receive l) at in cc
before_links (x ∷ []) (suc zero) l at = cc
before_links (x ∷ (y ∷ ys)) (suc zero) l at = let e : Send y ≡ Receive l = same_Some (Send y) (Receive l) at in cc
before_links (x ∷ xs) (suc (suc k)) l at = before_links xs k l at

-- behind tasks of which none sends or receives stand the links
first_link : (links : List Link) (l : Link) → slice_get (flat_map link_tasks links) 0 ≢ Some (Receive l)
first_link [] l at = cc
first_link (x ∷ xs) l at = let e : Send x ≡ Receive l = same_Some (Send x) (Receive l) at in cc

before_runs : (ts : List Task) (links : List Link) → AllRun ts → (k : ℕ) (l : Link) → slice_get (ts ++ flat_map link_tasks links) (suc k) ≡ Some (Receive l) → slice_get (ts ++ flat_map link_tasks links) k ≡ Some (Send l)
before_runs [] links a k l at = before_links links k l at
before_runs (t ∷ []) links a zero l at = absurd (first_link links l at)
before_runs (t ∷ (u ∷ ts)) links a zero l at = absurd (runs_not_receive a.1.0.0 l (sym a.1.0.1 ∙ same_Some u (Receive l) at))
before_runs (t ∷ ts) links a (suc k) l at = before_runs ts links a.1 k l at

first_runs : (ts : List Task) (links : List Link) → AllRun ts → (l : Link) → slice_get (ts ++ flat_map link_tasks links) 0 ≢ Some (Receive l)
first_runs [] links a l at = first_link links l at
first_runs (t ∷ ts) links a l at = runs_not_receive a.0.0 l (sym a.0.1 ∙ same_Some t (Receive l) at)

module _ (members : ℕ) (vs : List Vertex) (links : List Link) (tasks : List Task) (e : tasks ≡ instance_tasks members 0 vs ++ flat_map link_tasks links) where
  at_in : (k : ℕ) → slice_get tasks k ≡ slice_get (instance_tasks members 0 vs ++ flat_map link_tasks links) k
  at_in k = ap (λ (ts : List Task). slice_get ts k) e

  -- behind what sends over a link stands what receives from it, and nowhere else
  pub receives_behind : (k : ℕ) (l : Link) → slice_get tasks k ≡ Some (Send l) → slice_get tasks (k + 1) ≡ Some (Receive l)
  receives_behind k l at =
      let s : k + 1 ≡ suc k = omega arith in
      ap (slice_get tasks) s ∙ at_in (suc k) ∙ behind_runs (instance_tasks members 0 vs) links (all_run members 0 vs) k l (sym (at_in k) ∙ at)

  pub sends_before : (k : ℕ) (l : Link) → slice_get tasks (k + 1) ≡ Some (Receive l) → slice_get tasks k ≡ Some (Send l)
  sends_before k l at =
      let s : suc k ≡ k + 1 = omega arith in
      at_in k ∙ before_runs (instance_tasks members 0 vs) links (all_run members 0 vs) k l (sym (at_in (suc k)) ∙ ap (slice_get tasks) s ∙ at)

  pub receives_first : (l : Link) → slice_get tasks 0 ≢ Some (Receive l)
  receives_first l at = first_runs (instance_tasks members 0 vs) links (all_run members 0 vs) l (sym (at_in 0) ∙ at)
