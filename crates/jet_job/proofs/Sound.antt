-- Each way of reading gives what is in form, or a fault that has a place.
use Rattle.std.proofs.Common.{◌≡◌, ℕ, suc, Bool, true, false, List, refl}
use Rattle.std.specs.Prelude.{Option, Some, None, Result, Ok, Err, All, is_some}
use Rattle.std.specs.Option.{ok_or}
use Rattle.std.proofs.lemmas.List.Elements.{All-nil, All-cons}
use Rattle.serde_json.specs.Data.{Data, Items, no_items, item}
use Rattle.serde_json.specs.Find.{get, as_str}
use Rattle.jet_expr.specs.Term.{Term}
use Rattle.jet_expr.specs.Machine.{expr_at}
use Rattle.jet_expr.specs.declared.fault.ExprFault.{ExprFault}
use Rattle.jet_job.specs.declared.place.Place.{Place}
use Rattle.jet_job.specs.declared.field.Field.{Field}
use Rattle.jet_job.specs.declared.fault.JobFault.{JobFault}
use Rattle.jet_job.specs.declared.fault.JobFault.TheVariants.{Missing, WrongKind}
use Rattle.jet_job.specs.FieldNames.{field_name}
use Rattle.jet_job.specs.Forms.{of_form, term_of, expression_in, expression}
use Rattle.jet_job.specs.Members.{◌>>=◌, required, needed, optional_in, optional, where_object, object_at, where_known, only, each_at}
use Rattle.jet_job.specs.FaultNumbers.{fault_place}

-- a fault of one of the objects
abbrev pub HasPlace : JobFault → Type 0
HasPlace fault = is_some (fault_place fault) ≡ true

-- what is read is in form, or the fault has a place
abbrev pub Sound : {X : Type 0} → (X → Type 0) → Result X JobFault → Type 0
Sound P (Ok x) = P x
Sound P (Err f) = HasPlace f

-- what is no more than read
abbrev pub Plain : {X : Type 0} → X → Type 0
Plain x = Unit {0}

pub then_sound : {A B : Type 0} (P : A → Type 0) (Q : B → Type 0) (r : Result A JobFault) (k : A → Result B JobFault)
    → Sound P r → ((a : A) → P a → Sound Q (k a)) → Sound Q (r >>= k)
then_sound P Q (Ok a) k h next = next a h
then_sound P Q (Err e) k h next = h

wrong_sound : {X : Type 0} (P : X → Type 0) (o : Option X) (place : Place) (f : Field) → ((x : X) → o ≡ Some x → P x) → Sound P (ok_or o (WrongKind place f))
wrong_sound P (Some x) place f h = h x refl
wrong_sound P None place f h = refl

-- a value of a form
pub form_sound : {X : Type 0} (P : X → Type 0) (form : Data → Option X) (place : Place) (f : Field) (d : Data)
    → ((x : X) → form d ≡ Some x → P x) → Sound P (of_form form place f d)
form_sound P form place f d h = wrong_sound P (form d) place f h

missing_sound : (o : Option Data) (place : Place) (f : Field) → Sound Plain (ok_or o (Missing place f))
missing_sound (Some x) place f = tt
missing_sound None place f = refl

pub needed_sound : {X : Type 0} (P : X → Type 0) (reader : Place → Field → Data → Result X JobFault) (place : Place) (f : Field) (d : Data)
    → ((e : Data) → Sound P (reader place f e)) → Sound P (needed reader place f d)
needed_sound P reader place f d h = then_sound Plain P (required place f d) (reader place f) (missing_sound (get (field_name f) d) place f) (λ e _. h e)

optional_in_sound : {X : Type 0} (P : X → Type 0) (x : X) (reader : Place → Field → Data → Result X JobFault) (place : Place) (f : Field) (o : Option Data)
    → P x → ((e : Data) → Sound P (reader place f e)) → Sound P (optional_in x reader place f o)
optional_in_sound P x reader place f None px h = px
optional_in_sound P x reader place f (Some d) px h = h d

pub optional_sound : {X : Type 0} (P : X → Type 0) (x : X) (reader : Place → Field → Data → Result X JobFault) (place : Place) (f : Field) (d : Data)
    → P x → ((e : Data) → Sound P (reader place f e)) → Sound P (optional x reader place f d)
optional_sound P x reader place f d px h = optional_in_sound P x reader place f (get (field_name f) d) px h

where_object_sound : (place : Place) (b : Bool) → Sound Plain (where_object place b)
where_object_sound place true = tt
where_object_sound place false = refl

pub object_sound : (place : Place) (d : Data) → Sound Plain (object_at place d)
object_sound place d = where_object_sound place _

pub known_sound : (place : Place) (b : Bool) → Sound Plain (where_known place b)
known_sound place true = tt
known_sound place false = refl

pub only_sound : (fields : List Field) (place : Place) (d : Data) → Sound Plain (only fields place d)
only_sound fields place d = known_sound place _

term_sound : (place : Place) (f : Field) (r : Result Term ExprFault) → Sound Plain (term_of place f r)
term_sound place f (Ok t) = tt
term_sound place f (Err e) = refl

text_sound : (place : Place) (f : Field) (o : Option (List ℕ)) → Sound Plain (expression_in place f o)
text_sound place f None = refl
text_sound place f (Some s) = term_sound place f (expr_at s)

pub expression_sound : (place : Place) (f : Field) (d : Data) → Sound Plain (expression place f d)
expression_sound place f d = text_sound place f (as_str d)

pub each_sound : {X : Type 0} (P : X → Type 0) (reader : ℕ → Data → Result X JobFault) → ((n : ℕ) (d : Data) → Sound P (reader n d)) → (n : ℕ) (ds : Items) → Sound (All P) (each_at reader n ds)
each_sound P reader h n no_items = All-nil P
each_sound P reader h n (item d ds) = then_sound P (All P) (reader n d) _ (h n d) (λ x px. then_sound (All P) (All P) (each_at reader (suc n) ds) _ (each_sound P reader h (suc n) ds) (λ xs pxs. All-cons P x xs px pxs))

pub next : {A B : Type 0} (Q : B → Type 0) (r : Result A JobFault) (k : A → Result B JobFault) → Sound Plain r → ((a : A) → Sound Q (k a)) → Sound Q (r >>= k)
next Q r k h more = then_sound Plain Q r k h (λ a _. more a)

pub weaken : {X : Type 0} (P Q : X → Type 0) (r : Result X JobFault) → ((x : X) → P x → Q x) → Sound P r → Sound Q r
weaken P Q (Ok x) more h = more x h
weaken P Q (Err e) more h = h

pub last : {A B : Type 0} (r : Result A JobFault) (f : A → B) → Sound Plain r → Sound Plain (r >>= λ a. Ok (f a))
last (Ok a) f h = tt
last (Err e) f h = h

pub last_sound : {A B : Type 0} (P : A → Type 0) (Q : B → Type 0) (r : Result A JobFault) (f : A → B) → Sound P r → ((a : A) → P a → Q (f a)) → Sound Q (r >>= λ a. Ok (f a))
last_sound P Q (Ok a) f h make = make a h
last_sound P Q (Err e) f h make = h
