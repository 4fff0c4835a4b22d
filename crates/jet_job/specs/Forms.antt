-- The forms that the value of a member may have.
use Rattle.std.specs.Prelude.{ℕ, ◌&&◌, ℤ, int_le, Bool, List, [], ◌∷◌, bytes_eq, Option, Some, None, option_and_then, option_map, Result, Ok, Err, if◌then◌else◌}
use Rattle.std.specs.List.{find}
use Rattle.std.specs.Option.{ok_or}
use Rattle.std.specs.Result.{result_ok}
use Rattle.jet_items.specs.KeyFaults.{key_at}
use Rattle.jet_expr.specs.Term.{Term}
use Rattle.jet_expr.specs.Machine.{expr_at}
use Rattle.jet_expr.specs.declared.fault.ExprFault.{ExprFault}
use Rattle.jet_plan.specs.Texts.{text_at}
use Rattle.serde_json.specs.Data.{Data, Items, no_items, item}
use Rattle.serde_json.specs.Find.{as_number, as_i64, as_str}
use Rattle.jet_job.specs.declared.place.Place.{Place}
use Rattle.jet_job.specs.declared.field.Field.{Field}
use Rattle.jet_job.specs.declared.fault.JobFault.{JobFault}
use Rattle.jet_job.specs.declared.fault.JobFault.TheVariants.{WrongKind, Expr}

-- the value has this form, or is of a wrong kind
abbrev pub of_form : {X : Type 0} → (Data → Option X) → Place → Field → Data → Result X JobFault
of_form form place which d = ok_or (form d) (WrongKind place which)

abbrev pub where_fits : {X : Type 0} → (X → Bool) → X → Option X
where_fits fits x = if fits x then Some x else None

-- a number without fraction and exponent, from -2 ^ 63 to 2 ^ 63 - 1
abbrev pub whole : Data → Option ℤ
whole d = option_and_then as_i64 (as_number d)

-- a whole number from `least` to `most`
abbrev pub whole_from : ℤ → ℤ → Data → Option ℤ
whole_from least most d = option_and_then (where_fits (λ z. int_le least z && int_le z most)) (whole d)

-- a key of at most so many bytes
abbrev pub key_form : ℕ → Data → Option (List ℕ)
key_form most d = option_and_then (λ s. result_ok (key_at most s)) (as_str d)

-- a text of 1 to 255 bytes
abbrev pub text_form : Data → Option (List ℕ)
text_form d = option_and_then text_at (as_str d)

-- one of several words, for what it stands for
abbrev pub word_form : {X : Type 0} → List (List ℕ × X) → Data → Option X
word_form words d = option_and_then (λ s. option_map (λ w. w.1) (find (λ w. bytes_eq s w.0) words)) (as_str d)

-- a list, each item of a form
abbrev pub each_form : {X : Type 0} → (Data → Option X) → Items → Option (List X)
each_form form no_items = Some []
each_form form (item d ds) = option_and_then (λ x. option_map (λ xs. x ∷ xs) (each_form form ds)) (form d)

abbrev pub term_of : Place → Field → Result Term ExprFault → Result Term JobFault
term_of place which (Ok t) = Ok t
term_of place which (Err why) = Err (Expr place which why)

abbrev pub expression_in : Place → Field → Option (List ℕ) → Result Term JobFault
expression_in place which None = Err (WrongKind place which)
expression_in place which (Some s) = term_of place which (expr_at s)

-- an expression: a text of the grammar of expressions
abbrev pub expression : Place → Field → Data → Result Term JobFault
expression place which d = expression_in place which (as_str d)
