-- The fields of a line, read from the left.
use Rattle.std.specs.Prelude.{ℕ, Bool, true, false, ◌==◌, List, [], ◌∷◌, ◌++◌, Option, Some, None, option_map, if◌then◌else◌}
use Rattle.std.specs.Option.{option_map_or}
use Rattle.jet_lines.specs.declared.form.Stand.{Stand}
use Rattle.jet_lines.specs.declared.form.Stand.TheVariants as stand

-- the fields from where a reader stands, with the bytes of the field at hand
unfoldable pub fields_from : Stand → List ℕ → List ℕ → Option (List (List ℕ))
fields_from stand.Start field [] = Some (field ∷ [])
fields_from stand.Start field (b ∷ rest) =
    if b == 44 then option_map (λ fields. field ∷ fields) (fields_from stand.Start [] rest)
    else if b == 34 then fields_from stand.Quoted field rest else fields_from stand.Plain (field ++ b ∷ []) rest
fields_from stand.Plain field [] = Some (field ∷ [])
fields_from stand.Plain field (b ∷ rest) =
    if b == 44 then option_map (λ fields. field ∷ fields) (fields_from stand.Start [] rest)
    else if b == 34 then None else fields_from stand.Plain (field ++ b ∷ []) rest
fields_from stand.Quoted field [] = None
fields_from stand.Quoted field (b ∷ rest) =
    if b == 34 then fields_from stand.Closed field rest else fields_from stand.Quoted (field ++ b ∷ []) rest
fields_from stand.Closed field [] = Some (field ∷ [])
fields_from stand.Closed field (b ∷ rest) =
    if b == 44 then option_map (λ fields. field ∷ fields) (fields_from stand.Start [] rest)
    else if b == 34 then fields_from stand.Quoted (field ++ b ∷ []) rest else None

-- the fields of a line, where it is plain and quoted fields between commas
abbrev pub fields_of : List ℕ → Option (List (List ℕ))
fields_of line = fields_from stand.Start [] line

-- where a reader stands after a byte, if it may come
abbrev pub stand_after : Stand → ℕ → Option Stand
stand_after stand.Start b = if b == 44 then Some stand.Start else if b == 34 then Some stand.Quoted else Some stand.Plain
stand_after stand.Plain b = if b == 44 then Some stand.Start else if b == 34 then None else Some stand.Plain
stand_after stand.Quoted b = if b == 34 then Some stand.Closed else Some stand.Quoted
stand_after stand.Closed b = if b == 44 then Some stand.Start else if b == 34 then Some stand.Quoted else None

-- whether a line may end here
abbrev pub may_end : Stand → Bool
may_end stand.Start = true
may_end stand.Plain = true
may_end stand.Quoted = false
may_end stand.Closed = true

-- whether the bytes go on in the form of fields
unfoldable pub has_form : Stand → List ℕ → Bool
has_form s [] = may_end s
has_form s (b ∷ rest) = option_map_or (λ t. has_form t rest) (stand_after s b) false
