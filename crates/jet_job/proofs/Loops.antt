use Rattle.std.proofs.Common.{◌≡◌, ℕ, suc, ◌+◌, ◌<◌, List, [], ◌∷◌, ◌++◌, drop, length, get_or, refl, sym, ap, ◌∙◌, arith, add-one, append_assoc, drop-cons}
use Rattle.std.specs.Prelude.{Result, Ok, Err, Option, Some, None}
use Rattle.serde_json.specs.Data.{Data, Items, no_items, item}
use Rattle.serde_json.specs.View.{view, items_view}
use Rattle.serde_json.specs.declared.value.Value.{Value}
use Rattle.jet_job.specs.declared.fault.JobFault.{JobFault}
use Rattle.serde_json.specs.Events.{items_len}
use Rattle.std.specs.Prelude.{option_map, option_and_then, nat_eq, false}
use Rattle.jet_job.specs.Joints.{fields_in}
use Rattle.jet_job.specs.Words.{joint_fields}
use Rattle.jet_job.specs.Forms.{each_form, word_form, where_fits}
use Rattle.jet_job.specs.Members.{◌>>=◌, each_at}

-- what was read so far, before what is read of the rest
abbrev pub with_front : {X : Type 0} → List X → Result (List X) JobFault → Result (List X) JobFault
with_front front rest = rest >>= λ xs. Ok (front ++ xs)

pub begins : {X : Type 0} (r : Result (List X) JobFault) → with_front [] r ≡ r
begins (Ok xs) = refl
begins (Err e) = refl

pub len_of : (vs : List Value) → items_len (items_view vs) ≡ length vs
len_of [] = refl
len_of (v ∷ vs) = grind (arith, len_of vs)

one_longer : (ds : Items) (x : ℕ) (o : Option (List ℕ)) (xs : List ℕ) → ((ys : List ℕ) → o ≡ Some ys → length ys ≡ items_len ds) → option_map (λ ys. x ∷ ys) o ≡ Some xs → length xs ≡ suc (items_len ds)
one_longer ds x None xs ih h = absurd (cc h)
one_longer ds x (Some ys) xs ih h = let e : (x ∷ ys) ≡ xs = cc in rw (← e) (ap (λ n. suc n) (ih ys refl))

first_then : (ds : Items) (f : Option ℕ) (o : Option (List ℕ)) (xs : List ℕ) → ((ys : List ℕ) → o ≡ Some ys → length ys ≡ items_len ds) → option_and_then (λ x. option_map (λ ys. x ∷ ys) o) f ≡ Some xs → length xs ≡ suc (items_len ds)
first_then ds None o xs ih h = absurd (cc h)
first_then ds (Some x) o xs ih h = one_longer ds x o xs ih h

as_long : (form : Data → Option ℕ) (ds : Items) (xs : List ℕ) → each_form form ds ≡ Some xs → length xs ≡ items_len ds
as_long form no_items xs h = let e : [] ≡ xs = cc in rw (← e) refl
as_long form (item d ds) xs h = first_then ds (form d) (each_form form ds) xs (λ ys. as_long form ds ys) h

not_four_of : (o : Option (List ℕ)) (n : ℕ) → ((xs : List ℕ) → o ≡ Some xs → length xs ≡ n) → nat_eq n 4 ≡ false → None ≡ option_and_then (where_fits (λ fs. nat_eq (length fs) 4)) o
not_four_of None n len no4 = refl
not_four_of (Some xs) n len no4 = rw (len xs refl, no4) refl

-- other than four items are no four fields
pub not_four : (vs : List Value) → nat_eq (length vs) 4 ≡ false → None ≡ fields_in (items_view vs)
not_four vs h = not_four_of (each_form (word_form joint_fields) (items_view vs)) (length vs) (λ xs e. as_long (word_form joint_fields) (items_view vs) xs e ∙ len_of vs) h

with_more : {X : Type 0} (front : List X) (x : X) (r : Result (List X) JobFault) → with_front (front ++ x ∷ []) r ≡ with_front front (r >>= λ xs. Ok (x ∷ xs))
with_more front x (Ok xs) = ap Ok (append_assoc front (x ∷ []) xs)
with_more front x (Err e) = refl

-- one value more
pub goes_on : {X : Type 0} (reader : ℕ → Data → Result X JobFault) (front : List X) (i : ℕ) (vs : List Value) (v : Value) (x : X) (all : Result (List X) JobFault)
    → i < length vs → get_or vs i v ≡ v → reader i (view v) ≡ Ok x
    → with_front front (each_at reader i (items_view (drop i vs))) ≡ all → with_front (front ++ x ∷ []) (each_at reader (i + 1) (items_view (drop (i + 1) vs))) ≡ all
goes_on reader front i vs v x all lt at here so_far =
    rw add-one
    (let split : drop i vs ≡ v ∷ drop (suc i) vs = drop-cons vs i v lt ∙ ap (λ w. w ∷ drop (suc i) vs) at in
    let this : each_at reader i (items_view (drop i vs)) ≡ (each_at reader (suc i) (items_view (drop (suc i) vs)) >>= λ xs. Ok (x ∷ xs)) = rw (split, here) refl in
    with_more front x (each_at reader (suc i) (items_view (drop (suc i) vs))) ∙ (ap (with_front front) (sym this) ∙ so_far))
