-- Where the vertices of a plan stand, and the ends of their edges.
use Rattle.std.proofs.Common.{arith, ◌≡◌, ◌∙◌, ◌+◌, ◌≤◌, inl, inr, if◌then◌else◌, Bool, true, false, ℕ, zero, suc, List, length, Some, ap, refl, sym, ◌∷◌, [], nat_lt, position}
use Rattle.std.specs.Prelude.{slice_get, slice_index_or}
use Rattle.std.specs.List.{flat_map, range_with_len, position_or_len}
use Rattle.std.proofs.lemmas.Bool.Decides.{nat_tests}
use Rattle.std.proofs.lemmas.List.Quantifiers.{position-Some}
use Rattle.std.proofs.lemmas.Option.{slice_get_cases, cond_some, same_Some}
use Rattle.jet_plan.specs.declared.vertex.Vertex.{Vertex}
use Rattle.jet_plan.specs.Kinds.{is_sink}
use Rattle.jet_plan.specs.Rings.{all_instances}
use Rattle.jet_layout.specs.declared.end.EdgeEnd.{EdgeEnd}
use Rattle.jet_layout.specs.Joints.{end_of, vertex_ends}
use Rattle.jet_layout.specs.Tasks.{member_tasks, vertex_tasks, task_count}
use Rattle.jet_layout.proofs.Counts.{length_members, counted}

length_vertex : (members v : ℕ) (x : Vertex) (b : Bool) → is_sink x.kind ≡ b → length (vertex_tasks members v x) ≡ task_count members x
length_vertex members v x true s = ap (λ b. length (if b then [] else flat_map (member_tasks v x) (range_with_len 0 members))) s ∙ sym (ap (λ b. if b then 0 else all_instances members x) s)
length_vertex members v x false s = ap (λ b. length (if b then [] else flat_map (member_tasks v x) (range_with_len 0 members))) s ∙ length_members v x members ∙ sym (counted members x s)

pub vertex_length : (members v : ℕ) (x : Vertex) → length (vertex_tasks members v x) ≡ task_count members x
vertex_length members v x = length_vertex members v x (is_sink x.kind) refl

-- how many tasklets there are of the vertices before the one with the number u
abbrev pub before : ℕ → List Vertex → ℕ → ℕ
before members [] u = 0
before members (x ∷ xs) zero = 0
before members (x ∷ xs) (suc u) = task_count members x + before members xs u

pub end_at : (members first : ℕ) (xs : List Vertex) (u : ℕ) (d : EdgeEnd) (v : Vertex) → slice_get xs u ≡ Some v → slice_index_or (vertex_ends members first xs) u d ≡ end_of (first + before members xs u) v 0
end_at members first [] u d v at = absurd (cc at)
end_at members first (x ∷ xs) zero d v at =
    let start : first ≡ first + 0 = omega arith in
    ap (λ n. end_of n x 0) start ∙ ap (λ y. end_of (first + 0) y 0) (same_Some x v at)
end_at members first (x ∷ xs) (suc u) d v at =
    let start : first + task_count members x + before members xs u ≡ first + (task_count members x + before members xs u) = omega arith in
    end_at members (first + task_count members x) xs u d v at ∙ ap (λ n. end_of n v 0) start

not_past : (a n u : ℕ) → nat_lt a n ≡ true → a ≡ u → n ≤ u → ⊥
not_past a n u lt is past = grind (arith, nat_tests)

-- the vertex at the number where its name was found
pub found : (p : Vertex → Bool) (xs : List Vertex) (u : ℕ) → position p xs ≡ Some u → (x : Vertex) × (slice_get xs u ≡ Some x) × (p x ≡ true)
found p xs u h =
    let parts = cond_some (nat_lt (position_or_len p xs) (length xs)) (position_or_len p xs) u h in
    elim (slice_get_cases xs u).1 [
      | inl at ↦ (at.0, at.2, ap p (sym at.3) ∙ (position-Some p xs u at.0 h).1)
      | inr past ↦ absurd (not_past (position_or_len p xs) (length xs) u parts.0 parts.1 past.0)
    ]
