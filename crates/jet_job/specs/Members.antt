-- How the members of an object are read, and with which faults.
use Rattle.std.specs.Prelude.{ℕ, suc, Bool, List, [], ◌∷◌, bytes_eq, Option, Some, None, Result, Ok, Err, if◌then◌else◌, ⊤, is_some}
use Rattle.std.specs.Option.{option_map_or, ok_or}
use Rattle.std.specs.List.{list_any, list_all}
use Rattle.serde_json.specs.Data.{Data, Items, no_items, item, Members, no_members, member}
use Rattle.serde_json.specs.Find.{get, as_object}
use Rattle.jet_job.specs.declared.place.Place.{Place}
use Rattle.jet_job.specs.declared.field.Field.{Field}
use Rattle.jet_job.specs.declared.field.Field.TheVariants as field
use Rattle.jet_job.specs.declared.fault.JobFault.{JobFault}
use Rattle.jet_job.specs.declared.fault.JobFault.TheVariants.{Missing, WrongKind, UnknownField}
use Rattle.jet_job.specs.FieldNames.{field_name}

-- the first fault ends the reading
infixl 10 ◌>>=◌
abbrev pub ◌>>=◌ : {A B : Type 0} → Result A JobFault → (A → Result B JobFault) → Result B JobFault
(Ok x) >>= f = f x
(Err e) >>= f = Err e

-- the value of a member, or that it is missing
abbrev pub required : Place → Field → Data → Result Data JobFault
required place which d = ok_or (get (field_name which) d) (Missing place which)

-- a member that is required, read in this way
abbrev pub needed : {X : Type 0} → (Place → Field → Data → Result X JobFault) → Place → Field → Data → Result X JobFault
needed read place which d = required place which d >>= read place which

abbrev pub optional_in : {X : Type 0} → X → (Place → Field → Data → Result X JobFault) → Place → Field → Option Data → Result X JobFault
optional_in x read place which None = Ok x
optional_in x read place which (Some d) = read place which d

-- a member with a default, read in this way where it is there
abbrev pub optional : {X : Type 0} → X → (Place → Field → Data → Result X JobFault) → Place → Field → Data → Result X JobFault
optional x read place which d = optional_in x read place which (get (field_name which) d)

abbrev pub where_object : Place → Bool → Result ⊤ JobFault
where_object place object = if object then Ok tt else Err (WrongKind place field.Itself)

-- the value is an object
abbrev pub object_at : Place → Data → Result ⊤ JobFault
object_at place d = where_object place (is_some (as_object d))

abbrev pub names_of : Members → List (List ℕ)
names_of no_members = []
names_of (member k d ms) = k ∷ names_of ms

-- the names of the members of an object
abbrev pub names_in : Data → List (List ℕ)
names_in d = option_map_or names_of (as_object d) []

abbrev pub is_one_of : List Field → List ℕ → Bool
is_one_of fields name = list_any (λ f. bytes_eq (field_name f) name) fields

abbrev pub where_known : Place → Bool → Result ⊤ JobFault
where_known place known = if known then Ok tt else Err (UnknownField place)

-- the object has no member but these
abbrev pub only : List Field → Place → Data → Result ⊤ JobFault
only fields place d = where_known place (list_all (is_one_of fields) (names_in d))

-- several values, one after another, each by its number
abbrev pub each_at : {X : Type 0} → (ℕ → Data → Result X JobFault) → ℕ → Items → Result (List X) JobFault
each_at read n no_items = Ok []
each_at read n (item d ds) = do
  x ← read n d
  xs ← each_at read (suc n) ds
  Ok (x ∷ xs)
