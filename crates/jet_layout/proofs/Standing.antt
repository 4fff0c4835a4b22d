-- Each tasklet stands on one of the members.
use Rattle.std.proofs.Common.{arith, ◌≡◌, ◌∙◌, ◌+◌, ◌*◌, ◌<◌, ◌⊎◌, inl, inr, ◌∷◌, [], ℕ, List, Some, ap, sym, subst}
use Rattle.std.specs.Prelude.{slice_get}
use Rattle.std.specs.List.{flat_map}
use Rattle.jet_plan.specs.declared.dag.Dag.{Dag}
use Rattle.jet_plan.specs.declared.settings.Settings.{Settings}
use Rattle.jet_plan.specs.Rings.{members, instances}
use Rattle.jet_layout.specs.declared.joint.Joint.{Joint}
use Rattle.jet_layout.specs.declared.layout.Layout.{Layout}
use Rattle.jet_layout.specs.declared.task.Instance.{Instance}
use Rattle.jet_layout.specs.declared.task.Link.{Link}
use Rattle.jet_layout.specs.declared.task.Task.{Task}
use Rattle.jet_layout.specs.declared.task.Task.TheVariants.{Run, Send, Receive}
use Rattle.jet_layout.specs.Layouts.{IsLayout}
use Rattle.jet_layout.specs.Links.{links_of}
use Rattle.jet_layout.specs.Places.{IsInstance, IsLink}
use Rattle.jet_layout.specs.inner.Facts.{Facts}
use Rattle.jet_layout.proofs.Giving.{element, among_instances, same_parts}
use Rattle.jet_layout.proofs.Hearing.{edge_number, link_end}
use Rattle.jet_layout.proofs.Joining.{IsRest, rest_head, rest_tail, rest_all}
use Rattle.jet_layout.proofs.Places.{placed, front_or_behind, end_from}
use Rattle.jet_layout.proofs.Wired.{IsLink as IsOf, links_are}

same_sender : (x y : Link) → Send x ≡ Send y → x ≡ y
same_sender x y h = cc h

same_receiver : (x y : Link) → Receive x ≡ Receive y → x ≡ y
same_receiver x y h = cc h

module _ (dag : Dag) (s : Settings) (l : Layout) (is : IsLayout dag s l) (facts : Facts dag s) where
  abbrev width : ℕ
  width = members s

  pub instance_stands : (k : ℕ) (i : Instance) → slice_get l.tasks k ≡ Some (Run i) → IsInstance dag width i
  instance_stands k i at =
      let own = placed width dag.vertices k (Run i) (among_instances dag s l is facts k i at) in
      let parts = same_parts dag s l is facts i own.number own.member own.instance own.is in
      let inside = own.inside in
      let there = own.there in
      let member = parts.1 in
      record {
        vertex = own.vertex;
        at = ap (slice_get dag.vertices) parts.0 ∙ own.at;
        plain = own.plain;
        inside = omega (arith, inside, member);
        there = subst (λ n. n < instances own.vertex i.member) (sym parts.2) (subst (λ m. own.instance < instances own.vertex m) (sym parts.1) there);
      }

  -- each link is one of a joint
  joint_of_link : (p : ℕ) (js : List Joint) → IsRest l.joints p js → (r : ℕ) (x : Link) → slice_get (flat_map (links_of width) js) r ≡ Some x → (j : Joint) × (q : ℕ) × (slice_get l.joints q ≡ Some j) × IsOf width j x
  joint_of_link p [] rest r x at = absurd (cc at)
  joint_of_link p (j ∷ js) rest r x at = elim (front_or_behind (links_of width j) (flat_map (links_of width) js) r x at) [
    | inl front ↦ (j, p, rest_head l.joints p j js rest, element (IsOf width j) (links_of width j) r x (links_are width j) front)
    | inr back ↦ joint_of_link (p + 1) js (rest_tail l.joints p j js rest) back.0 x back.2
  ]

  link_is : (r : ℕ) (x : Link) → slice_get l.links r ≡ Some x → IsLink width l.joints x
  link_is r x at =
      let of = joint_of_link 0 l.joints (rest_all l.joints) r x (ap (λ ks. slice_get ks r) (sym is.links) ∙ at) in
      let link = of.3 in
      let place : of.1 ≡ x.edge = sym (link.edge ∙ edge_number dag s l is facts of.1 of.0 of.2) in
      record {
        joint = of.0;
        at = ap (slice_get l.joints) (sym place) ∙ of.2;
        edge = sym link.edge;
        from = link.from;
        to = link.to;
        apart = link.apart;
        givers = link.givers;
        takers = link.takers;
      }

  ends_of : (t : Task) (x y : Link) (a b : Type 0) → (t ≡ Send x) ⊎ (t ≡ Receive x) → (a × (t ≡ Send y)) ⊎ (b × (t ≡ Receive y)) → x ≡ y
  ends_of t x y a b (inl e) (inl h) = same_sender x y (sym e ∙ h.1)
  ends_of t x y a b (inl e) (inr h) = absurd (cc (e, h.1))
  ends_of t x y a b (inr e) (inl h) = absurd (cc (e, h.1))
  ends_of t x y a b (inr e) (inr h) = same_receiver x y (sym e ∙ h.1)

  pub link_stands : (k : ℕ) (t : Task) (x : Link) → (t ≡ Send x) ⊎ (t ≡ Receive x) → slice_get l.tasks k ≡ Some t → IsLink width l.joints x
  link_stands k t x kind at =
      let end = link_end dag s l is facts k t x kind at in
      let which = end_from l.links end.0 t end.2 in
      let same = ends_of t x which.link (2 * which.number ≡ end.0) (2 * which.number + 1 ≡ end.0) kind which.is in
      link_is which.number x (which.at ∙ ap (λ z. Some z) (sym same))
