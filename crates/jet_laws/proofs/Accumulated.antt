-- Values have one accumulator, which is their total, so it goes by bags.
use Rattle.std.proofs.Common.{◌≡◌, List, [], ◌∷◌, map, refl, sym, ◌∙◌, ap, subst, ℤ, pos, Option, Some, None}
use Rattle.jet_items.specs.Bag.{SameBag}
use Rattle.jet_items.specs.Frames.{event_in}
use Rattle.jet_items.specs.Rows.{IsAccOf, first_value, members}
use Rattle.jet_items.specs.Totals.{one, both, total}
use Rattle.jet_items.specs.Values.{AccValue, EventValue}
use Rattle.jet_items.proofs.Bags.{SameBag-from_permutation}
use Rattle.jet_items.proofs.Covering.{IsTotalOf, members_total}
use Rattle.jet_items.proofs.Totaling.{same_acc, total-SameBag}
use Rattle.jet_laws.specs.Accs.{AccStaysByOrder, AccIsOne}

some_is : {A : Type 0} {a b : A} → Some a ≡ Some b → a ≡ b
some_is h = cc

-- one or more values have an accumulator, their total
pub record Totaled (v : ℤ) (vs : List ℤ) : Type 0 where
  pub acc : AccValue
  pub is : total (λ z. Some (one z)) (v ∷ vs) ≡ Some acc
  pub law : IsAccOf (v ∷ vs) acc

-- values are those of events with one value each, which are all in one window
event_of : ℤ → EventValue
event_of v = record { part = 0; line = 0; ts = pos 0; key = []; v = v ∷ [] }

all_members : (values : List ℤ) → map first_value (members (pos 1) (pos 1) [] (map event_of values)) ≡ values
unfolding event_of
all_members [] = refl
all_members (v ∷ vs) = ap (λ (xs : List ℤ). v ∷ xs) (all_members vs)

same_total : (values : List ℤ) → total (event_in (pos 1) (pos 1) []) (map event_of values) ≡ total (λ z. Some (one z)) values
unfolding event_of
same_total [] = refl
same_total (v ∷ vs) = ap (both (Some (one v))) (same_total vs)

values_total : (values : List ℤ) → IsTotalOf values (total (λ z. Some (one z)) values)
values_total values =
    subst (λ (xs : List ℤ). IsTotalOf xs (total (λ z. Some (one z)) values)) (all_members values)
    (subst (IsTotalOf (map first_value (members (pos 1) (pos 1) [] (map event_of values)))) (same_total values) (members_total (pos 1) (pos 1) [] (map event_of values)))

pub totaled : (v : ℤ) (vs : List ℤ) → Totaled v vs
totaled v vs = made (total (λ z. Some (one z)) (v ∷ vs)) refl (values_total (v ∷ vs))
  where
    made : (o : Option AccValue) → total (λ z. Some (one z)) (v ∷ vs) ≡ o → IsTotalOf (v ∷ vs) o → Totaled v vs
    made None e none = absurd (cc none)
    made (Some acc) e law = record { acc = acc; is = e; law = law }

pub acc_is_one : AccIsOne
acc_is_one values acc other h k =
    same_acc _ _ _ _ _ _ _ _ (h.count ∙ sym k.count) (h.sum ∙ sym k.sum) (some_is (sym h.least ∙ k.least)) (some_is (sym h.greatest ∙ k.greatest))

-- an accumulator is of one or more values
pub some_value : {P : Type 0} (acc : AccValue) → IsAccOf [] acc → P
some_value acc h = let none : None ≡ Some acc.min = h.least in absurd (cc)

-- the accumulator is the total
total_of : (values : List ℤ) (acc : AccValue) → IsAccOf values acc → total (λ z. Some (one z)) values ≡ Some acc
total_of [] acc h = some_value acc h
total_of (v ∷ vs) acc h = let t = totaled v vs in t.is ∙ ap Some (acc_is_one (v ∷ vs) t.acc acc t.law h)

acc_of_total : (values : List ℤ) (acc : AccValue) → total (λ z. Some (one z)) values ≡ Some acc → IsAccOf values acc
acc_of_total [] acc h = absurd (cc)
acc_of_total (v ∷ vs) acc h = let t = totaled v vs in subst (IsAccOf (v ∷ vs)) (some_is (sym t.is ∙ h)) t.law

-- values of the same bag have the same accumulator
pub acc-SameBag : (values other : List ℤ) (acc : AccValue) → SameBag values other → IsAccOf values acc → IsAccOf other acc
acc-SameBag values other acc same h = acc_of_total other acc (sym (total-SameBag (λ z. Some (one z)) same) ∙ total_of values acc h)

pub acc_stays_by_order : AccStaysByOrder
acc_stays_by_order values other acc order h = acc-SameBag values other acc (SameBag-from_permutation order) h
