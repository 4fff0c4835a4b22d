-- A gift, beside all gifts before it.
use Rattle.std.proofs.Common.{◌≡◌, ◌≢◌, ℕ, ◌<◌, ◌≤◌, Bool, true, false, cond, List, [], ◌∷◌, ◌++◌, map, length, get_or, set, refl, sym, ◌∙◌, ap, subst, append-nil, arith, inl, inr}
use Rattle.std.specs.Prelude.{Some, None}
use Rattle.std.specs.List.{AllByRecursion}
use Rattle.std.proofs.lemmas.List.{get_or-set_same, get_or-set_other, get_or-map, length-map}
use Rattle.std.proofs.lemmas.List.Concat.{flat_map-append}
use Rattle.std.proofs.lemmas.Bool.Decides.{eqb_tells}
use Rattle.jet_ring.specs.Ring.{Ring}
use Rattle.jet_items.specs.declared.item.Item.{Item}
use Rattle.jet_router.specs.declared.Given.{Given}
use Rattle.jet_router.specs.declared.Given.TheVariants.{All, Again}
use Rattle.jet_router.specs.declared.aim.Aim.{Aim}
use Rattle.jet_router.specs.declared.aim.Aim.TheVariants.{Each, Any, Only}
use Rattle.jet_items.specs.Partition.{item_key}
use Rattle.jet_router.specs.Aim.{aim_of}
use Rattle.jet_router.specs.Dest.{DestView}
use Rattle.jet_router.specs.Router.{View, aim, rings, sents, frees, settled, settled_if, IsInHand, SentTo, SameRouter}
use Rattle.jet_router.specs.Gives.{Gives}
use Rattle.jet_router.specs.Deals.{Deal, reaches_dest, sent_by, FitsAim, Dealt, DealtAfter, IsStuck}

length_settled : (b : Bool) (ds : List DestView) → length (settled_if b ds) ≡ length ds
length_settled true ds = length-map ds _
length_settled false ds = length-map (map (λ (d : DestView). d.tx) ds) _ ∙ length-map ds _

length_rings : (v : View) → length (rings v) ≡ length v.dests
length_rings v = length-map (map (λ (d : DestView). d.tx) v.dests) _ ∙ length-map v.dests _

length_sents : (v : View) → length (sents v) ≡ length v.dests
length_sents v = length-map (map (λ (d : DestView). d.tx) v.dests) _ ∙ length-map v.dests _

same_length : (a b : View) → SameRouter a b → length b.dests ≡ length a.dests
same_length a b s = sym (length_rings b) ∙ (ap (λ (rs : List Ring). length rs) s.rings_kept ∙ length_rings a)

same_aim : (a b : View) → SameRouter a b → (x : Item) → aim b x ≡ aim a x
same_aim a b s x = ap (λ r. aim_of r b.table (item_key x)) s.route ∙ ap (λ (t : List ℕ). aim_of a.route t (item_key x)) s.table

settled_free : (v : View) → v.busy ≡ false → settled v ≡ sents v
settled_free v e = ap (λ u. settled_if u v.dests) e

all_push : {X : Type 0} (P : X → Type 0) (xs : List X) (x : X) → AllByRecursion P xs → P x → AllByRecursion P (xs ++ x ∷ [])
all_push P [] x h k = (k, tt)
all_push P (y ∷ ys) x h k = (h.0, all_push P ys x h.1 k)

all_more : {X : Type 0} (P Q : X → Type 0) → ((x : X) → P x → Q x) → (xs : List X) → AllByRecursion P xs → AllByRecursion Q xs
all_more P Q f [] h = tt
all_more P Q f (x ∷ xs) h = (f x h.0, all_more P Q f xs h.1)

abbrev Fits : View → Deal → Type 0
Fits v d = FitsAim (length v.dests) (aim v d.item) d.to

fits_still : (a b : View) → SameRouter a b → (d : Deal) → Fits a d → Fits b d
fits_still a b s d h = subst (λ (n : ℕ). FitsAim n (aim b d.item) d.to) (sym (same_length a b s)) (subst (λ (w : Aim). FitsAim (length a.dests) w d.to) (sym (same_aim a b s d.item)) h)

sent_push : (k : ℕ) (deals : List Deal) (d : Deal) → sent_by k (deals ++ d ∷ []) ≡ sent_by k deals ++ cond (reaches_dest k d.to) (d.item ∷ []) []
sent_push k deals d =
    let f : Deal → List Item = λ (e : Deal). cond (reaches_dest k e.to) (e.item ∷ []) [] in
    flat_map-append f deals (d ∷ []) ∙ ap (λ (xs : List Item). sent_by k deals ++ xs) (append-nil (f d))

-- one more item to each
each_all : (a b : View) (x : Item) → Gives Each All a b x → SameRouter a b → aim a x ≡ Each → (deals : List Deal) → Dealt a deals → DealtAfter All b deals x
each_all a b x g s aimed deals h =
    let d : Deal = record { item = x; to = None } in
    let fits : Fits a d = subst (λ (w : Aim). FitsAim (length a.dests) w None) (sym aimed) refl in (
      None,
      record {
        by_route = all_push (Fits b) deals d (all_more (Fits a) (Fits b) (λ e k. fits_still a b s e k) deals h.by_route) (fits_still a b s d fits);
        sent_is = λ k lt.
            let lt_a : k < length a.dests = subst (λ (n : ℕ). k < n) (same_length a b s) lt in
            let within : k < length (settled a) = subst (λ (n : ℕ). k < n) (sym (length_settled a.busy a.dests)) lt_a in
            ap (λ (xs : List (List Item)). get_or xs k []) (settled_free b g.busy ∙ g.sent)
            ∙ (get_or-map (λ (s : List Item). s ++ x ∷ []) (settled a) k [] [] within
            ∙ (ap (λ (xs : List Item). xs ++ x ∷ []) (h.sent_is k lt_a) ∙ sym (sent_push k deals d)));
      },
    )

each_again : (a b : View) (x : Item) → Gives Each Again a b x → SameRouter a b → (deals : List Deal) → Dealt a deals → Dealt b deals
each_again a b x g s deals h = record {
  by_route = all_more (Fits a) (Fits b) (λ e k. fits_still a b s e k) deals h.by_route;
  sent_is = λ k lt. ap (λ (xs : List (List Item)). get_or xs k []) g.settled_kept ∙ h.sent_is k (subst (λ (n : ℕ). k < n) (same_length a b s) lt);
}

-- one more item to one destination
one_sent : (a b : View) (x : Item) (d : ℕ) → SentTo a b d x → SameRouter a b → a.busy ≡ false → Fits a (record { item = x; to = Some d }) → (deals : List Deal) → Dealt a deals → DealtAfter All b deals x
one_sent a b x d g s free fits deals h =
    let deal : Deal = record { item = x; to = Some d } in (
      Some d,
      record {
        by_route = all_push (Fits b) deals deal (all_more (Fits a) (Fits b) (λ e k. fits_still a b s e k) deals h.by_route) (fits_still a b s deal fits);
        sent_is = λ k lt.
            let lt_a : k < length a.dests = subst (λ (n : ℕ). k < n) (same_length a b s) lt in
            let was : get_or (sents a) k [] ≡ sent_by k deals = ap (λ (xs : List (List Item)). get_or xs k []) (sym (settled_free a free)) ∙ h.sent_is k lt_a in
            ap (λ (xs : List (List Item)). get_or xs k []) (settled_free b (g.busy ∙ free) ∙ g.sent) ∙ (elim (eqb_tells d k) [
              | inl e ↦
                  let is : d ≡ k = e.1 in
                  let within : d < length (sents a) = subst (λ (n : ℕ). d < n) (sym (length_sents a)) g.inside in
                  subst (λ (j : ℕ). get_or (set (sents a) d (get_or (sents a) d [] ++ x ∷ [])) j [] ≡ get_or (sents a) j [] ++ x ∷ []) is (get_or-set_same (sents a) d (get_or (sents a) d [] ++ x ∷ []) [] within)
                  ∙ (ap (λ (xs : List Item). xs ++ x ∷ []) was ∙ sym (sent_push k deals deal ∙ ap (λ (u : Bool). sent_by k deals ++ cond u (x ∷ []) []) e.0))
              | inr e ↦
                  let other : k ≢ d = λ i. e.1 (sym i) in
                  get_or-set_other (sents a) d k (get_or (sents a) d [] ++ x ∷ []) [] other
                  ∙ (was ∙ sym (sent_push k deals deal ∙ (ap (λ (u : Bool). sent_by k deals ++ cond u (x ∷ []) []) e.0 ∙ append-nil (sent_by k deals))))
            ]);
      },
    )

not_busy : (b : Bool) → (b ≡ true → ⊥) → b ≡ false
not_busy true h = absurd (h refl)
not_busy false h = refl

any_free : (a : View) (x : Item) → aim a x ≡ Any → (a.busy ≡ true → IsInHand a x) → a.busy ≡ false
any_free a x aimed hand = not_busy a.busy (λ e. let is : aim a x ≡ Each = (hand e).0 in let no : Any ≡ Each = sym aimed ∙ is in cc)

only_free : (a : View) (x : Item) (d : ℕ) → aim a x ≡ Only d → (a.busy ≡ true → IsInHand a x) → a.busy ≡ false
only_free a x d aimed hand = not_busy a.busy (λ e. let is : aim a x ≡ Each = (hand e).0 in let differ : Only d ≡ Each = sym aimed ∙ is in cc)

-- whatever the answer, and wherever the item goes
pub gift_dealt : (w : Aim) (r : Given) (a b : View) (x : Item) → aim a x ≡ w → Gives w r a b x → SameRouter a b → (a.busy ≡ true → IsInHand a x) → (deals : List Deal) → Dealt a deals → DealtAfter r b deals x
gift_dealt Each All a b x aimed g s hand deals h = each_all a b x g s aimed deals h
gift_dealt Each Again a b x aimed g s hand deals h = each_again a b x g s deals h
gift_dealt Any All a b x aimed g s hand deals h =
    let fits : Fits a (record { item = x; to = Some g.0 }) = subst (λ (w : Aim). FitsAim (length a.dests) w (Some g.0)) (sym aimed) (g.0, g.1.inside, refl) in
    one_sent a b x g.0 g.1 s (any_free a x aimed hand) fits deals h
gift_dealt Any Again a b x aimed g s hand deals h = subst (λ (v : View). Dealt v deals) (sym g.0) h
gift_dealt (Only d) All a b x aimed g s hand deals h =
    let fits : Fits a (record { item = x; to = Some d }) = subst (λ (w : Aim). FitsAim (length a.dests) w (Some d)) (sym aimed) refl in
    one_sent a b x d g s (only_free a x d aimed hand) fits deals h
gift_dealt (Only d) Again a b x aimed g s hand deals h = subst (λ (v : View). Dealt v deals) (sym g.0) h

abbrev Fewer : Aim → View → View → Type 0
Fewer Each a b = (k : ℕ) → get_or (frees b) k 0 ≤ get_or (frees a) k 0
Fewer Any a b = Unit {0}
Fewer (Only d) a b = Unit {0}

stuck_at : (w : Aim) (a b : View) (x : Item) → Gives w Again a b x → Fewer w a b → IsStuck w b
stuck_at Each a b x g fewer =
    let k : ℕ = g.some.0 in
    let none : get_or (frees a) k 0 ≡ 0 = g.full k g.some.1 g.some.2 in
    let less : get_or (frees b) k 0 ≤ get_or (frees a) k 0 = fewer k in
    (k, g.some.1, g.some.2, omega (arith, none, less))
stuck_at Any a b x g fewer = subst (λ (v : View). IsStuck Any v) (sym g.0) g.1
stuck_at (Only d) a b x g fewer = subst (λ (v : View). IsStuck (Only d) v) (sym g.0) (g.1, g.2)

-- where it is to be given again, it is owed to a destination without a free slot
pub gift_stuck : (w : Aim) (r : Given) (a b : View) (x : Item) → aim a x ≡ w → Gives w r a b x → SameRouter a b → Fewer w a b → r ≡ Again → IsStuck (aim b x) b
gift_stuck w All a b x aimed g s fewer is = absurd (cc)
gift_stuck w Again a b x aimed g s fewer is = subst (λ (u : Aim). IsStuck u b) (sym (same_aim a b s x ∙ aimed)) (stuck_at w a b x g fewer)
