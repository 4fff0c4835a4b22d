-- What is read of a job file is in form, or its fault has a place.
use Rattle.std.proofs.Common.{◌≡◌, ℕ, ◌<◌, ◌≤◌, Bool, true, false, [], ◌∷◌, ◌&&◌, length, nat_le, refl, sym, subst, arith, pos, ℤ}
use Rattle.std.specs.Prelude.{codes, Option, Some, None, option_map, Result, Ok, Err, if◌then◌else◌, All}
use Rattle.jet_expr.specs.Term.{number}
use Rattle.jet_plan.specs.Defaults.{defaults, default_peak}
use Rattle.serde_json.specs.Data.{Data, Items}
use Rattle.serde_json.specs.Events.{items_len}
use Rattle.serde_json.specs.Find.{get, as_bool, as_array, as_object}
use Rattle.jet_job.specs.declared.place.Place.{Place}
use Rattle.jet_job.specs.declared.place.Place.TheVariants as place
use Rattle.jet_job.specs.declared.field.Field.{Field}
use Rattle.jet_job.specs.declared.field.Field.TheVariants as field
use Rattle.jet_job.specs.declared.fault.JobFault.{JobFault}
use Rattle.jet_job.specs.declared.fault.JobFault.TheVariants.{WrongKind}
use Rattle.jet_job.specs.declared.sort.Sort.{Sort}
use Rattle.jet_job.specs.declared.sort.Sort.TheVariants.{Source, Side, Map, Filter, Flat, Join, Accumulate, Combine, Sink}
use Rattle.jet_job.specs.FieldNames.{field_name}
use Rattle.jet_job.specs.Forms.{of_form, whole, whole_from, key_form, text_form, word_form, expression}
use Rattle.jet_job.specs.Members.{needed, optional, each_at}
use Rattle.jet_job.specs.Words.{sorts, modes, routes}
use Rattle.jet_job.specs.Files.{files_form}
use Rattle.jet_job.specs.Joints.{fields_form}
use Rattle.jet_job.specs.Legs.{leg_at, legs_at}
use Rattle.jet_job.specs.Sets.{entry_at, entries_at, set_at}
use Rattle.jet_job.specs.Kinds.{own_fields, kind_at}
use Rattle.jet_job.specs.SettingsText.{settings_fields, settings_at, grants_at, or_empty}
use Rattle.jet_job.specs.Vertices.{size_of, has_parallelism, parallelism_at, vertex_at}
use Rattle.jet_job.specs.Edges.{edge_at}
use Rattle.jet_job.specs.Jobs.{job_in}
use Rattle.jet_job.specs.InForm.{IsFew, IsLag, FitsKind, Fits, IsInForm}
use Rattle.jet_job.proofs.Formed.{few_files, in_range, size_in, small_fields, own_small, each_length, few_items}
use Rattle.jet_job.proofs.Sound.{Sound, Plain, next, last, last_sound, then_sound, weaken, form_sound, needed_sound, optional_sound, object_sound, known_sound, only_sound, expression_sound, each_sound}

-- a member with a form, needed or not
needed_form : {X : Type 0} (form : Data → Option X) (place : Place) (f : Field) (d : Data) → Sound Plain (needed (of_form form) place f d)
needed_form form place f d = needed_sound Plain (of_form form) place f d (λ e. form_sound Plain form place f e (λ _ _. tt))

optional_form : {X : Type 0} (x : X) (form : Data → Option X) (place : Place) (f : Field) (d : Data) → Sound Plain (optional x (of_form form) place f d)
optional_form x form place f d = optional_sound Plain x (of_form form) place f d tt (λ e. form_sound Plain form place f e (λ _ _. tt))

needed_as : {X : Type 0} (P : X → Type 0) (form : Data → Option X) → ((d : Data) (x : X) → form d ≡ Some x → P x) → (place : Place) (f : Field) (d : Data) → Sound P (needed (of_form form) place f d)
needed_as P form holds place f d = needed_sound P (of_form form) place f d (λ e. form_sound P form place f e (holds e))

optional_as : {X : Type 0} (P : X → Type 0) (x : X) → P x → (form : Data → Option X) → ((d : Data) (y : X) → form d ≡ Some y → P y) → (place : Place) (f : Field) (d : Data)
    → Sound P (optional x (of_form form) place f d)
optional_as P x px form holds place f d = optional_sound P x (of_form form) place f d px (λ e. form_sound P form place f e (holds e))

needed_expression : (place : Place) (f : Field) (d : Data) → Sound Plain (needed expression place f d)
needed_expression place f d = needed_sound Plain expression place f d (λ e. expression_sound place f e)

pub edge_sound : (n : ℕ) (d : Data) → Sound Plain (edge_at n d)
edge_sound n d =
    next Plain _ _ (object_sound (place.Edge n) d) (λ _.
    next Plain _ _ (only_sound (field.From ∷ field.To ∷ field.Route ∷ field.Distributed ∷ field.Build ∷ []) (place.Edge n) d) (λ _.
    next Plain _ _ (needed_form (key_form 24) (place.Edge n) field.From d) (λ from.
    next Plain _ _ (needed_form (key_form 24) (place.Edge n) field.To d) (λ to.
    next Plain _ _ (needed_form (word_form routes) (place.Edge n) field.Route d) (λ route.
    next Plain _ _ (optional_form false as_bool (place.Edge n) field.Distributed d) (λ distributed.
    last _ _ (optional_form false as_bool (place.Edge n) field.Build d)))))))

setting_sound : (default : ℤ) (f : Field) (d : Data) → Sound Plain (optional default (of_form whole) place.Settings f d)
setting_sound default f d = optional_form default whole place.Settings f d

grants_sound : (window : ℤ) (d : Data) → Sound Plain (grants_at window d)
grants_sound window d =
    next Plain _ _ (setting_sound (default_peak window) field.Peak d) (λ peak.
    next Plain _ _ (setting_sound defaults.multiplier field.Multiplier d) (λ multiplier.
    last _ _ (setting_sound defaults.period field.Period d)))

pub settings_sound : (d : Data) → Sound Plain (settings_at d)
settings_sound d =
    next Plain _ _ (object_sound place.Settings d) (λ _.
    next Plain _ _ (only_sound settings_fields place.Settings d) (λ _.
    next Plain _ _ (setting_sound defaults.workers field.Workers d) (λ workers.
    next Plain _ _ (setting_sound defaults.members field.Members d) (λ members.
    next Plain _ _ (setting_sound defaults.ring field.Ring d) (λ ring.
    next Plain _ _ (setting_sound defaults.packet field.Packet d) (λ packet.
    next Plain _ _ (setting_sound defaults.window field.Window d) (λ window.
    next Plain _ _ (setting_sound defaults.turns field.Turns d) (λ turns.
    next Plain _ _ (setting_sound defaults.ahead field.Ahead d) (λ ahead.
    next Plain _ _ (setting_sound defaults.lines field.Lines d) (λ lines.
    last _ _ (grants_sound window d)))))))))))

leg_sound : (n i : ℕ) (d : Data) → Sound Plain (leg_at n i d)
leg_sound n i d =
    next Plain _ _ (object_sound (place.Leg n i) d) (λ _.
    next Plain _ _ (only_sound (field.Test ∷ field.Value ∷ field.Tag ∷ []) (place.Leg n i) d) (λ _.
    next Plain _ _ (optional_sound Plain (number (pos 1)) expression (place.Leg n i) field.Test d tt (λ e. expression_sound (place.Leg n i) field.Test e)) (λ test.
    next Plain _ _ (needed_expression (place.Leg n i) field.Value d) (λ value.
    last _ _ (optional_form None (λ t. option_map Some (key_form 16 t)) (place.Leg n i) field.Tag d)))))

-- a list of legs, if it is short enough
if_few : {X : Type 0} (P : X → Type 0) (b : Bool) (r : Result X JobFault) (place : Place) (f : Field) → (b ≡ true → Sound P r) → Sound P (if b then r else Err (WrongKind place f))
if_few P true r place f h = h refl
if_few P false r place f h = refl

legs_sound : (n : ℕ) (place : Place) (f : Field) (d : Data) → Sound (IsFew 8) (legs_at n place f d)
legs_sound n place f d =
    next (IsFew 8) _ _ (form_sound Plain as_array place f d (λ _ _. tt)) (λ ds.
    if_few (IsFew 8) (nat_le 1 (items_len ds) && nat_le (items_len ds) 8) (each_at (leg_at n) 0 ds) place f (λ test.
    weaken (λ legs. length legs ≡ items_len ds) (IsFew 8) (each_at (leg_at n) 0 ds)
    (λ legs same. subst (λ (m : ℕ). (1 ≤ m) × (m ≤ 8)) (sym same) (few_items (items_len ds) test)) (each_length (leg_at n) (leg_sound n) 0 ds)))

entry_sound : (n : ℕ) (o : Option Data) → Sound Plain (entry_at n o)
entry_sound n None = tt
entry_sound n (Some d) = last _ _ (expression_sound (place.Vertex n) field.Set d)

entries_sound : (n : ℕ) (d : Data) → Sound Plain (entries_at n d)
entries_sound n d =
    next Plain _ _ (entry_sound n (get (codes "v0") d)) (λ v0.
    next Plain _ _ (entry_sound n (get (codes "v1") d)) (λ v1.
    next Plain _ _ (entry_sound n (get (codes "v2") d)) (λ v2.
    last _ _ (entry_sound n (get (codes "v3") d)))))

set_sound : (n : ℕ) (place : Place) (f : Field) (d : Data) → Sound Plain (set_at n place f d)
set_sound n place f d =
    next Plain _ _ (form_sound Plain as_object place f d (λ _ _. tt)) (λ ms.
    next Plain _ _ (known_sound place _) (λ _. entries_sound n d))

kind_sound : (sort : Sort) (n : ℕ) (d : Data) → Sound FitsKind (kind_at sort n d)
kind_sound Source n d =
    then_sound (IsFew 256) FitsKind _ _ (needed_as (IsFew 256) files_form few_files (place.Vertex n) field.Files d) (λ files few.
    last_sound IsLag FitsKind _ _ (needed_as IsLag (whole_from (pos 0) (pos 1000000000000000)) (in_range (pos 0) (pos 1000000000000000)) (place.Vertex n) field.Lag d) (λ lag range. (few, range)))
kind_sound Side n d = last_sound Plain FitsKind _ _ (needed_form text_form (place.Vertex n) field.File d) (λ _ _. tt)
kind_sound Map n d = last_sound Plain FitsKind _ _ (needed_sound Plain (set_at n) (place.Vertex n) field.Set d (λ e. set_sound n (place.Vertex n) field.Set e)) (λ _ _. tt)
kind_sound Filter n d = last_sound Plain FitsKind _ _ (needed_expression (place.Vertex n) field.Test d) (λ _ _. tt)
kind_sound Flat n d = last_sound (IsFew 8) FitsKind _ _ (needed_sound (IsFew 8) (legs_at n) (place.Vertex n) field.Legs d (λ e. legs_sound n (place.Vertex n) field.Legs e)) (λ legs few. few)
kind_sound Join n d =
    next FitsKind _ _ (needed_form (word_form modes) (place.Vertex n) field.Mode d) (λ how.
    next FitsKind _ _ (optional_form false as_bool (place.Vertex n) field.Rekey d) (λ rekey.
    last_sound (All (λ i. i < 8)) FitsKind _ _ (optional_as (All (λ i. i < 8)) (0 ∷ 1 ∷ 2 ∷ 3 ∷ []) own_small fields_form small_fields (place.Vertex n) field.Fields d) (λ fields small. small)))
kind_sound Accumulate n d =
    next FitsKind _ _ (needed_form whole (place.Vertex n) field.Size d) (λ size.
    last_sound Plain FitsKind _ _ (needed_form whole (place.Vertex n) field.Slide d) (λ _ _. tt))
kind_sound Combine n d = tt
kind_sound Sink n d = tt

abbrev IsOneTo8 : ℤ → Type 0
IsOneTo8 z = (1 ≤ size_of z) × (size_of z ≤ 8)

one_is_one : IsOneTo8 (pos 1)
one_is_one = (omega arith, omega arith)

if_said : (b : Bool) (r : Result ℤ JobFault) → Sound IsOneTo8 r → Sound IsOneTo8 (if b then r else Ok (pos 1))
if_said true r h = h
if_said false r h = one_is_one

parallelism_sound : (sort : Sort) (n : ℕ) (d : Data) → Sound IsOneTo8 (parallelism_at sort n d)
parallelism_sound sort n d =
    if_said (has_parallelism sort) _ (optional_as IsOneTo8 (pos 1) one_is_one (whole_from (pos 1) (pos 8)) (λ e z is. size_in z (in_range (pos 1) (pos 8) e z is)) (place.Vertex n) field.Parallelism d)

pub vertex_sound : (n : ℕ) (d : Data) → Sound Fits (vertex_at n d)
vertex_sound n d =
    next Fits _ _ (object_sound (place.Vertex n) d) (λ _.
    next Fits _ _ (needed_form (key_form 24) (place.Vertex n) field.Name d) (λ name.
    next Fits _ _ (needed_form (word_form sorts) (place.Vertex n) field.Kind d) (λ sort.
    next Fits _ _ (only_sound (field.Name ∷ field.Kind ∷ own_fields sort) (place.Vertex n) d) (λ _.
    then_sound IsOneTo8 Fits _ _ (parallelism_sound sort n d) (λ parallelism few.
    last_sound FitsKind Fits _ _ (kind_sound sort n d) (λ kind fit. record { instances = few; kind = fit }))))))

each_plain : {X : Type 0} (reader : ℕ → Data → Result X JobFault) → ((n : ℕ) (d : Data) → Sound Plain (reader n d)) → (ds : Items) → Sound Plain (each_at reader 0 ds)
each_plain reader h ds = weaken (All Plain) Plain (each_at reader 0 ds) (λ _ _. tt) (each_sound Plain reader h 0 ds)

pub job_sound : (d : Data) → Sound IsInForm (job_in d)
job_sound d =
    next IsInForm _ _ (object_sound place.Top d) (λ _.
    next IsInForm _ _ (only_sound (field.Vertices ∷ field.Edges ∷ field.Settings ∷ []) place.Top d) (λ _.
    next IsInForm _ _ (needed_form as_array place.Top field.Vertices d) (λ vs.
    next IsInForm _ _ (needed_form as_array place.Top field.Edges d) (λ es.
    then_sound (All Fits) IsInForm _ _ (each_sound Fits vertex_at vertex_sound 0 vs) (λ vertices fit.
    next IsInForm _ _ (each_plain edge_at edge_sound es) (λ edges.
    last_sound Plain IsInForm _ _ (settings_sound (or_empty (get (field_name field.Settings) d))) (λ settings _. fit)))))))
