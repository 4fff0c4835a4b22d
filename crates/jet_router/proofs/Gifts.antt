-- What a gift to each destination does.
use Rattle.std.proofs.Common.{◌≡◌, ◌+◌, ◌≤◌, arith, ℕ, Bool, List, [], ◌∷◌, ◌++◌, map, length, get_or, true, false, refl, sym, ◌∙◌, ap, ap₂, subst, All as AllOf}
use Rattle.std.proofs.lemmas.Bool.{false≢true}
use mathlib.Core.List.{IsPrefix}
use Rattle.jet_items.specs.declared.item.Item.{Item}
use Rattle.jet_ring.specs.Ring.{TxView}
use Rattle.jet_router.specs.declared.Given.{Given}
use Rattle.jet_router.specs.declared.Given.TheVariants.{All, Again}
use Rattle.jet_router.specs.declared.aim.Aim.TheVariants.{Each}
use Rattle.jet_items.specs.Partition.{item_key}
use Rattle.jet_router.specs.Aim.{aim_of}
use Rattle.jet_router.specs.Dest.{DestView, served, settled_by, HasInHand, starts}
use Rattle.jet_router.specs.Router.{View, aim, reaches, sents, frees, settled_if, IsInHand, SameRouter}
use Rattle.jet_router.specs.Gives.{Gives}
use Rattle.jet_router.proofs.Each.{ends, ends-starts, in_hand-starts, all_sent, settled_kept, rings_kept, reaches_kept, in_hand_kept, owed_full, each_hand, hand_of_each, some_owed, settled-starts, had_kept, fewer_free, more_sent}

-- b is a, after x was offered to each destination that has not had it
pub record ServedEach (a b : View) (x : Item) : Type 0 where
  pub dests : b.dests ≡ map (served x) (starts a.busy a.dests)
  pub route : b.route ≡ a.route
  pub table : b.table ≡ a.table
  pub turn : b.turn ≡ a.turn

module _ (a b : View) (x : Item) (s : ServedEach a b x) where
  pub same_served : SameRouter a b
  same_served =
      record {
        route = s.route;
        table = s.table;
        rings_kept =
            ap (λ (w : List DestView). map (λ (t : TxView Item). t.ring) (ends w)) s.dests
            ∙ rings_kept x (starts a.busy a.dests)
            ∙ ap (map (λ (t : TxView Item). t.ring)) (ends-starts a.busy a.dests);
      }

  pub reach_served : reaches b ≡ reaches a
  reach_served =
      ap (λ (w : List DestView). map (λ (t : TxView Item). length t.sent + t.free) (ends w)) s.dests
      ∙ reaches_kept x (starts a.busy a.dests)
      ∙ ap (map (λ (t : TxView Item). length t.sent + t.free)) (ends-starts a.busy a.dests)

  pub fewer_served : (k : ℕ) → get_or (frees b) k 0 ≤ get_or (frees a) k 0
  fewer_served k =
      let after = ap (λ (w : List DestView). get_or (map (λ (t : TxView Item). t.free) (ends w)) k 0) s.dests in
      let served = fewer_free x (starts a.busy a.dests) k in
      let before = ap (λ (w : List (TxView Item)). get_or (map (λ (t : TxView Item). t.free) w) k 0) (ends-starts a.busy a.dests) in
      omega (arith, after, served, before)

  pub more_served : (k : ℕ) → IsPrefix (get_or (sents a) k []) (get_or (sents b) k [])
  more_served k =
      let at : List (TxView Item) → List Item = λ w. get_or (map (λ (t : TxView Item). t.sent) w) k [] in
      let ds : List DestView = starts a.busy a.dests in
      let first : IsPrefix (at (ends a.dests)) (at (ends (map (served x) ds))) = subst (λ (w : List (TxView Item)). IsPrefix (at w) (at (ends (map (served x) ds)))) (ends-starts a.busy a.dests) (more_sent x ds k) in
      subst (λ (w : List DestView). IsPrefix (at (ends a.dests)) (at (ends w))) (sym s.dests) first

  -- whatever the answer
  pub gives_each :
      (r : Given) → aim a x ≡ Each → (a.busy ≡ true → IsInHand a x)
      → (r ≡ All → AllOf (λ d. d.had ≡ true) b.dests × (b.busy ≡ false))
      → (r ≡ Again → (b.busy ≡ true) × (AllOf (λ d. d.had ≡ true) b.dests → ⊥))
      → Gives Each r a b x
  gives_each All aimed hand all again =
      let ds : List DestView = starts a.busy a.dests in
      let held : AllOf (HasInHand x) ds = in_hand-starts x a.busy a.dests (λ e. each_hand x a.dests (hand e).1) in
      let P : List DestView → Type 0 = λ w. AllOf (λ (d : DestView). d.had ≡ true) w in
      record {
        sent =
            ap (λ (w : List DestView). map (λ (t : TxView Item). t.sent) (ends w)) s.dests
            ∙ all_sent x ds held (subst P s.dests (all refl).0)
            ∙ ap (map (λ w. w ++ x ∷ [])) (sym (settled-starts a.busy a.dests));
        busy = (all refl).1;
        turn = s.turn;
      }
  gives_each Again aimed hand all again =
      let ds : List DestView = starts a.busy a.dests in
      let held : AllOf (HasInHand x) ds = in_hand-starts x a.busy a.dests (λ e. each_hand x a.dests (hand e).1) in
      let settle : List DestView → List (List Item) = map (λ (d : DestView). settled_by d.had d.tx.sent) in
      let P : List DestView → Type 0 = λ w. AllOf (HasInHand x) w in
      record {
        settled_kept =
            ap (λ u. settled_if u b.dests) (again refl).0 ∙ ap settle s.dests ∙ settled_kept x ds ∙ sym (settled-starts a.busy a.dests);
        in_hand = (
          ap₂ (λ r t. aim_of r t (item_key x)) s.route s.table ∙ aimed,
          hand_of_each x b.dests (subst P (sym s.dests) (in_hand_kept x ds held)),
        );
        kept =
            λ k busy had.
            let Q : Bool → Type 0 = λ u. get_or (map (λ (d : DestView). d.had) (starts u a.dests)) k false ≡ true in
            ap (λ w. get_or (map (λ (d : DestView). d.had) w) k false) s.dests ∙ had_kept x ds k (subst Q (sym busy) had);
        busy = (again refl).0;
        some = some_owed b.dests (again refl).1;
        full =
            λ k lt owed.
            ap (λ w. get_or (map (λ (t : TxView Item). t.free) w) k 0) (sym (ends-starts a.busy a.dests))
            ∙ owed_full x ds k (ap (λ w. get_or (map (λ (d : DestView). d.had) w) k true) (sym s.dests) ∙ owed);
        turn = s.turn;
      }

-- what is in hand afterwards is x
pub in_hand_given : (r : Given) (a b : View) (x : Item) → Gives Each r a b x → b.busy ≡ true → IsInHand b x
in_hand_given All a b x g e = absurd (false≢true (sym g.busy ∙ e))
in_hand_given Again a b x g e = g.in_hand
