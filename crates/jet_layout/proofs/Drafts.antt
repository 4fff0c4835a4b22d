-- What is added in two steps.
use Rattle.std.proofs.Common.{arith, ◌≡◌, ◌∙◌, ◌+◌, ◌*◌, ◌++◌, ◌∷◌, [], ℕ, List, length, ap, refl, sym}
use Rattle.std.specs.List.{flat_map}
use Rattle.std.proofs.lemmas.Grind.{flat_map-append}
use Rattle.std.proofs.lemmas.List.{length-append, append_assoc, append-nil}
use Rattle.jet_layout.specs.declared.draft.Draft.{Draft}
use Rattle.jet_layout.specs.declared.joint.Joint.{Joint}
use Rattle.jet_layout.specs.declared.task.Link.{Link}
use Rattle.jet_layout.specs.Links.{links_of}
use Rattle.jet_layout.specs.Tasks.{link_tasks}
use Rattle.jet_layout.specs.Wires.{link_wires, links_wires, edge_wires, wires_from}
use Rattle.jet_layout.specs.inner.Drafts.{HasLinks, HasEdge, HasEdges}
use Rattle.jet_layout.proofs.Ranges.{grown}

-- two tasklets a link
pub length_link_tasks : (ls : List Link) → length (flat_map link_tasks ls) ≡ 2 * length ls
length_link_tasks [] = refl
length_link_tasks (l ∷ ls) = omega (arith, length_link_tasks ls)

pub links_wires-append : (j : Joint) (n k : ℕ) (xs ys : List Link) → n + 2 * length xs ≡ k → links_wires j n (xs ++ ys) ≡ links_wires j n xs ++ links_wires j k ys
links_wires-append j n k [] ys e = let same : n ≡ k = omega (arith, e) in ap (λ m. links_wires j m ys) same
links_wires-append j n k (x ∷ xs) ys e = ap (λ l. link_wires j n x ++ l) (links_wires-append j (n + 2) k xs ys (omega (arith, e))) ∙ sym (append_assoc (link_wires j n x) (links_wires j (n + 2) xs) (links_wires j k ys))

pub has_none : (j : Joint) (a : Draft) → HasLinks j a a []
has_none j a = record { tasks = sym (append-nil a.tasks); links = sym (append-nil a.links); wires = sym (append-nil a.wires) }

pub has_more : (j : Joint) (a b c : Draft) (xs ys zs : List Link) → HasLinks j a b xs → HasLinks j b c ys → zs ≡ xs ++ ys → HasLinks j a c zs
has_more j a b c xs ys zs p q e = record {
  tasks = grown a.tasks (flat_map link_tasks xs) (flat_map link_tasks ys) p.tasks q.tasks (ap (flat_map link_tasks) e ∙ flat_map-append link_tasks xs ys);
  links = grown a.links xs ys p.links q.links e;
  wires = grown a.wires (links_wires j (length a.tasks) xs) (links_wires j (length b.tasks) ys) p.wires q.wires
      (ap (links_wires j (length a.tasks)) e ∙ links_wires-append j (length a.tasks) (length b.tasks) xs ys
      (let l = ap length p.tasks in let k = length-append a.tasks (flat_map link_tasks xs) in omega (arith, l, k, length_link_tasks xs)));
}

-- what edges that are to come make whole
pub record AfterEdges (members : ℕ) (a b : Draft) (rest all : List Joint) : Type 0 where
  pub tasks : b.tasks ++ flat_map link_tasks (flat_map (links_of members) rest) ≡ a.tasks ++ flat_map link_tasks (flat_map (links_of members) all)
  pub links : b.links ++ flat_map (links_of members) rest ≡ a.links ++ flat_map (links_of members) all
  pub wires : b.wires ++ wires_from members (length b.tasks) rest ≡ a.wires ++ wires_from members (length a.tasks) all

pub after_one : (members : ℕ) (a b c : Draft) (j : Joint) (js all : List Joint) → AfterEdges members a b (j ∷ js) all → HasEdge members j b c → AfterEdges members a c js all
after_one members a b c j js all p q = record {
  tasks = ap (λ l. l ++ flat_map link_tasks (flat_map (links_of members) js)) q.tasks ∙ append_assoc b.tasks (flat_map link_tasks (links_of members j)) _
      ∙ ap (λ l. b.tasks ++ l) (sym (flat_map-append link_tasks (links_of members j) (flat_map (links_of members) js))) ∙ p.tasks;
  links = ap (λ l. l ++ flat_map (links_of members) js) q.links ∙ append_assoc b.links (links_of members j) _ ∙ p.links;
  wires = ap (λ l. l ++ wires_from members (length c.tasks) js) q.wires ∙ append_assoc b.wires (edge_wires members (length b.tasks) j) _
      ∙ ap (λ n. b.wires ++ (edge_wires members (length b.tasks) j ++ wires_from members n js))
      (let l = ap length q.tasks in let k = length-append b.tasks (flat_map link_tasks (links_of members j)) in omega (arith, l, k, length_link_tasks (links_of members j)))
      ∙ p.wires;
}

pub all_done : (members : ℕ) (a b : Draft) (all : List Joint) → AfterEdges members a b [] all → HasEdges members all a b
all_done members a b all p = record {
  tasks = sym (append-nil b.tasks) ∙ p.tasks;
  links = sym (append-nil b.links) ∙ p.links;
  wires = sym (append-nil b.wires) ∙ p.wires;
}
