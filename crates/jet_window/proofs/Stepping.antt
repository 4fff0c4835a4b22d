-- What a table of rows knows after an event's value was joined in, at one end and at all of its due ends.
use Rattle.std.proofs.Common.{◌≡◌, ℕ, Bool, true, false, ◌&&◌, List, [], ◌∷◌, ◌++◌, refl, sym, ◌∙◌, ap, subst, arith, ℤ, pos, ◌+ℤ◌, ◌-ℤ◌, ◌≤ℤ◌, ◌<ℤ◌, Option, Some, None}
use Rattle.std.specs.Prelude.{IfSome, int_le, bytes_eq}
use Rattle.std.specs.Bool.{Decides}
use Rattle.std.specs.BTreeMap.{BTreeMap, get, Updates}
use Rattle.std.specs.Cmp.{IsTotalOrder, Equal-is}
use Rattle.std.specs.Cmp.Lexicographic.{slice_cmp, nat_list_cmp_total}
use Rattle.std.specs.Int.{int_rem_euclid}
use Rattle.std.specs.Ordering.{is_eq, int_cmp, nat_cmp}
use Rattle.std.proofs.lemmas.Bool.Decides.{Decides-and, Decides-int_eq, Decides-like, same_from_decides}
use Rattle.std.proofs.lemmas.Cmp.{then_total, on_total, int_cmp_total, tied_itself}
use Rattle.std.proofs.lemmas.Int.{ints, by_lt_z}
use Rattle.std.proofs.lemmas.Map.Lookups.{exact_pairs, exact_signed, exact_bytes}
use Rattle.std.proofs.lemmas.Slice.Eq.{bytes_eq-Decides}
use Rattle.jet_items.specs.Grid.{IsMultiple, floor_to, in_window}
use Rattle.jet_items.specs.Rows.{first_value}
use Rattle.jet_items.specs.Totals.{one, both, total}
use Rattle.jet_items.specs.Values.{EventValue, AccValue, RowValue}
use Rattle.jet_items.proofs.GridLemmas.{floor_is, rem_bounds, multiple_apart}
use Rattle.jet_items.proofs.Totaling.{both_none, total-append}
use Rattle.jet_window.specs.Plain.{is_between}
use Rattle.jet_window.specs.Tables.{Place, place_cmp, with_row, row_of, IsTable, is_multiple, stepped, brings, IsFirstEnd, IsLastDue}
use Rattle.jet_items.specs.Frames.{only}
use Rattle.jet_items.proofs.Covering.{Decides-int_le, Decides-in_window, false_from}
use Rattle.jet_window.proofs.Between.{Decides-is_between}

pub place_total : IsTotalOrder place_cmp
place_total = then_total (on_total (λ (p : Place). p.0) int_cmp_total) (on_total (λ (p : Place). p.1) nat_list_cmp_total)

pub place_same : (p q : Place) → is_eq (place_cmp p q) ≡ true → p ≡ q
place_same p q h = exact_pairs int_cmp (slice_cmp nat_cmp) exact_signed exact_bytes p q ((Equal-is (place_cmp p q)).0 h)

place_itself : (p q : Place) → p ≡ q → is_eq (place_cmp p q) ≡ true
place_itself p q h = subst (λ (z : Place). is_eq (place_cmp p z) ≡ true) h (ap is_eq (tied_itself place_total p))

pub contra : {P : Type 0} → true ≡ false → P
contra h = absurd (cc)

pub Decides-multiple : (slide e : ℤ) → pos 1 ≤ℤ slide → Decides (is_multiple slide e) (IsMultiple slide e)
Decides-multiple slide e low = (
  λ h.
      let none : int_rem_euclid e slide ≡ pos 0 = (Decides-int_eq (int_rem_euclid e slide) (pos 0)).0 h in
      let same : floor_to slide e ≡ e = omega (arith, ints, none) in
      subst (IsMultiple slide) same (floor_is slide e low).multiple,
  λ is.
      let le : e ≤ℤ floor_to slide e = (floor_is slide e low).greatest e is (omega (arith, ints)) in
      (Decides-int_eq (int_rem_euclid e slide) (pos 0)).1 (omega (arith, ints, rem_bounds e slide low)),
)

-- an event's value goes to an end and a key
abbrev Steps : ℤ → ℤ → ℤ → EventValue → ℤ → List ℕ → Type 0
Steps slide first last x e key = (x.key ≡ key) × (IsMultiple slide e × ((first ≤ℤ e) × (e ≤ℤ last)))

abbrev steps : ℤ → ℤ → ℤ → EventValue → ℤ → List ℕ → Bool
steps slide first last x e key = bytes_eq x.key key && (is_multiple slide e && (int_le first e && int_le e last))

Decides-steps : (slide first last : ℤ) (x : EventValue) (e : ℤ) (key : List ℕ) → pos 1 ≤ℤ slide → Decides (steps slide first last x e key) (Steps slide first last x e key)
Decides-steps slide first last x e key low =
    Decides-and (bytes_eq x.key key) (is_multiple slide e && (int_le first e && int_le e last)) (bytes_eq-Decides x.key key)
    (Decides-and (is_multiple slide e) (int_le first e && int_le e last) (Decides-multiple slide e low)
    (Decides-and (int_le first e) (int_le e last) (Decides-int_le first e) (Decides-int_le e last)))

-- a row joined in where none or one is
joined_row : (vertex : ℕ) (e : ℤ) (key : List ℕ) (acc : AccValue) (old : Option AccValue) → Some (with_row (row_of vertex e key old) (record { vertex = vertex; end = e; key = key; acc = acc })) ≡ row_of vertex e key (both old (Some acc))
joined_row vertex e key acc None = refl
joined_row vertex e key acc (Some a) = refl

module _ (vertex : ℕ) (slide first end : ℤ) (x : EventValue) (known : ℤ → List ℕ → Option AccValue) (m n : BTreeMap Place RowValue) (low : pos 1 ≤ℤ slide) (is : IsMultiple slide end) (le : first ≤ℤ end) where
  abbrev before : ℤ → List ℕ → Option AccValue
  before e key = both (known e key) (stepped slide first (end -ℤ slide) x e key)

  abbrev after : ℤ → List ℕ → Option AccValue
  after e key = both (known e key) (stepped slide first end x e key)

  here : IsTable vertex before m → get place_cmp n (end, x.key) ≡ Some (with_row (get place_cmp m (end, x.key)) (record { vertex = vertex; end = end; key = x.key; acc = one (first_value x) }))
      → get place_cmp n (end, x.key) ≡ row_of vertex end x.key (after end x.key)
  here table new =
      let none : steps slide first (end -ℤ slide) x end x.key ≡ false = false_from (steps slide first (end -ℤ slide) x end x.key) (Decides-steps slide first (end -ℤ slide) x end x.key low) (λ h. let high = h.1.1.1 in omega (arith, ints)) in
      let some : steps slide first end x end x.key ≡ true = (Decides-steps slide first end x end x.key low).1 (refl, (is, (le, omega (arith, ints)))) in
      let was : get place_cmp m (end, x.key) ≡ row_of vertex end x.key (known end x.key) = table.at end x.key ∙ ap (λ (o : Option AccValue). row_of vertex end x.key o) (ap (λ (b : Bool). both (known end x.key) (only b (one (first_value x)))) none ∙ both_none (known end x.key)) in
      let now : after end x.key ≡ both (known end x.key) (Some (one (first_value x))) = ap (λ (b : Bool). both (known end x.key) (only b (one (first_value x)))) some in
      new ∙ (ap (λ (o : Option RowValue). Some (with_row o (record { vertex = vertex; end = end; key = x.key; acc = one (first_value x) }))) was
      ∙ (joined_row vertex end x.key (one (first_value x)) (known end x.key) ∙ ap (λ (o : Option AccValue). row_of vertex end x.key o) (sym now)))

  apart : (e : ℤ) (key : List ℕ) → is_eq (place_cmp (end, x.key) (e, key)) ≡ false → stepped slide first (end -ℤ slide) x e key ≡ stepped slide first end x e key
  apart e key other =
      ap (λ (b : Bool). only b (one (first_value x)))
      (same_from_decides (steps slide first (end -ℤ slide) x e key) (steps slide first end x e key) (Decides-steps slide first (end -ℤ slide) x e key low)
      (Decides-like (steps slide first end x e key)
      (λ (h : Steps slide first end x e key). let high = h.1.1.1 in (
        h.0,
        (
          h.1.0,
          (
            h.1.1.0,
            by_lt_z e end
                (λ lt. let gap = multiple_apart slide e end low h.1.0 is lt in omega (arith, ints))
                (λ ge. let same : end ≡ e = omega (arith, ints) in contra (sym (place_itself (end, x.key) (e, key) (ap (λ (z : ℤ). (z, x.key)) same ∙ ap (λ (k : List ℕ). (e, k)) h.0)) ∙ other)),
          ),
        ),
      ))
      (λ (h : Steps slide first (end -ℤ slide) x e key). let high = h.1.1.1 in (h.0, (h.1.0, (h.1.1.0, omega (arith, ints)))))
      (Decides-steps slide first end x e key low)))

  at_place : (e : ℤ) (key : List ℕ) (b : Bool) → is_eq (place_cmp (end, x.key) (e, key)) ≡ b → IsTable vertex before m
      → Updates place_cmp m n (end, x.key) (Some (with_row (get place_cmp m (end, x.key)) (record { vertex = vertex; end = end; key = x.key; acc = one (first_value x) })))
      → get place_cmp n (e, key) ≡ row_of vertex e key (after e key)
  at_place e key true same table updates =
      subst (λ (q : Place). get place_cmp n q ≡ row_of vertex q.0 q.1 (after q.0 q.1)) (place_same (end, x.key) (e, key) same) (here table updates.1)
  at_place e key false other table updates =
      updates.2 (e, key) other ∙ (table.at e key ∙ ap (λ (o : Option AccValue). row_of vertex e key (both (known e key) o)) (apart e key other))

  -- one step: the value was joined in at one more end
  pub table_step : IsTable vertex before m
      → Updates place_cmp m n (end, x.key) (Some (with_row (get place_cmp m (end, x.key)) (record { vertex = vertex; end = end; key = x.key; acc = one (first_value x) })))
      → IsTable vertex after n
  table_step table updates = record { at = λ e key. at_place e key (is_eq (place_cmp (end, x.key) (e, key))) refl table updates }

-- two ways to say what is known
pub table_same : (vertex : ℕ) (f g : ℤ → List ℕ → Option AccValue) (m : BTreeMap Place RowValue) → ((e : ℤ) (key : List ℕ) → f e key ≡ g e key) → IsTable vertex f m → IsTable vertex g m
table_same vertex f g m h t = record { at = λ e key. t.at e key ∙ ap (λ (o : Option AccValue). row_of vertex e key o) (h e key) }

-- before the first step nothing is joined in
pub step_first : (slide first : ℤ) (x : EventValue) (known : ℤ → List ℕ → Option AccValue) → pos 1 ≤ℤ slide → (e : ℤ) (key : List ℕ) → known e key ≡ both (known e key) (stepped slide first (first -ℤ slide) x e key)
step_first slide first x known low e key =
    let none : steps slide first (first -ℤ slide) x e key ≡ false = false_from (steps slide first (first -ℤ slide) x e key) (Decides-steps slide first (first -ℤ slide) x e key low) (λ h. let a = h.1.1.0 in let b = h.1.1.1 in omega (arith, ints)) in
    sym (ap (λ (b : Bool). both (known e key) (only b (one (first_value x)))) none ∙ both_none (known e key))

-- after the last step it is joined in at all
pub step_last : (slide first last end : ℤ) (x : EventValue) → pos 1 ≤ℤ slide → IsMultiple slide end → last <ℤ end → (first <ℤ end → end ≤ℤ (last +ℤ slide)) → (e : ℤ) (key : List ℕ) → stepped slide first (end -ℤ slide) x e key ≡ stepped slide first last x e key
step_last slide first last end x low is over near e key =
    ap (λ (b : Bool). only b (one (first_value x)))
    (same_from_decides (steps slide first (end -ℤ slide) x e key) (steps slide first last x e key) (Decides-steps slide first (end -ℤ slide) x e key low)
    (Decides-like (steps slide first last x e key)
    (λ (h : Steps slide first last x e key). let high = h.1.1.1 in let lt : e <ℤ end = omega (arith, ints) in let gap = multiple_apart slide e end low h.1.0 is lt in (h.0, (h.1.0, (h.1.1.0, omega (arith, ints)))))
    (λ (h : Steps slide first (end -ℤ slide) x e key). let a = h.1.1.0 in let b = h.1.1.1 in let lt : first <ℤ end = omega (arith, ints) in let le = near lt in (h.0, (h.1.0, (h.1.1.0, omega (arith, ints)))))
    (Decides-steps slide first last x e key low)))

-- ---- all due ends of an event
abbrev Brings : ℤ → ℤ → Option ℤ → Option ℤ → ℤ → List ℕ → EventValue → Type 0
Brings size slide after upto e key x = (x.key ≡ key) × ((((e -ℤ size) ≤ℤ x.ts) × (x.ts <ℤ e)) × (IsMultiple slide e × ((IfSome after (λ m. m <ℤ e)) × (IfSome upto (λ m. e ≤ℤ m)))))

later_still : (after : Option ℤ) (a b : ℤ) → IfSome after (λ m. m <ℤ a) → a ≤ℤ b → IfSome after (λ m. m <ℤ b)
later_still None a b h le = tt
later_still (Some m) a b h le = omega (arith, ints)

due_still : (upto : Option ℤ) (a b : ℤ) → IfSome upto (λ m. b ≤ℤ m) → a ≤ℤ b → IfSome upto (λ m. a ≤ℤ m)
due_still None a b h le = tt
due_still (Some m) a b h le = omega (arith, ints)

pub stepped_is : (size slide : ℤ) (after upto : Option ℤ) (first last : ℤ) (x : EventValue) → pos 1 ≤ℤ slide → IsFirstEnd slide after x.ts first → IsLastDue size upto x.ts last → (e : ℤ) (key : List ℕ) → stepped slide first last x e key ≡ brings size slide after upto e key x
stepped_is size slide after upto first last x low begin stop e key =
    let test : Bool = bytes_eq x.key key && (in_window size e x.ts && (is_multiple slide e && is_between after upto e)) in
    let decides : Decides test (Brings size slide after upto e key x) =
    Decides-and (bytes_eq x.key key) (in_window size e x.ts && (is_multiple slide e && is_between after upto e)) (bytes_eq-Decides x.key key)
    (Decides-and (in_window size e x.ts) (is_multiple slide e && is_between after upto e) (Decides-in_window size e x.ts)
    (Decides-and (is_multiple slide e) (is_between after upto e) (Decides-multiple slide e low) (Decides-is_between after upto e))) in
    ap (λ (b : Bool). only b (one (first_value x)))
    (same_from_decides (steps slide first last x e key) test (Decides-steps slide first last x e key low)
    (Decides-like test
    (λ (h : Brings size slide after upto e key x). let a = h.1.0.0 in (h.0, (h.1.1.0, (begin.least e h.1.1.0 h.1.0.1 h.1.1.1.0, stop.greatest e (omega (arith, ints)) h.1.1.1.1))))
    (λ (h : Steps slide first last x e key).
    let a : first ≤ℤ e = h.1.1.0 in
    let b : e ≤ℤ last = h.1.1.1 in
    let above : x.ts <ℤ first = begin.above in
    let within : last ≤ℤ (x.ts +ℤ size) = stop.within in
    (h.0, ((omega (arith, ints), omega (arith, ints)), (h.1.0, (later_still after first e begin.later a, due_still upto e last stop.due b)))))
    decides))

-- one more event was joined in
pub total_push : {X : Type 0} (f : X → Option AccValue) (xs : List X) (x : X) → both (total f xs) (f x) ≡ total f (xs ++ x ∷ [])
total_push f xs x = sym (total-append f xs (x ∷ []) ∙ ap (both (total f xs)) (both_none (f x)))
