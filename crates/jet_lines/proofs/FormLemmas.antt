-- What a line that has the form has.
use Rattle.std.proofs.Common.{◌≡◌, ℕ, ◌==◌, List, [], ◌∷◌, ◌++◌, Bool, true, false, cond, Option, Some, None, option_map, refl, ap, ◌∙◌}
use Rattle.std.specs.Option.{option_map_or}
use Rattle.std.specs.Prelude.{is_some}
use Rattle.jet_lines.specs.Scan.{fields_from, has_form, stand_after}
use Rattle.jet_lines.specs.declared.form.Stand.{Stand}
use Rattle.jet_lines.specs.declared.form.Stand.TheVariants as stand

some_map : {A B : Type 0} (f : A → B) (o : Option A) → is_some (option_map f o) ≡ is_some o
some_map f None = refl
some_map f (Some a) = refl

-- a comma or a quotation mark, or neither
at_comma : {X : Type 0} (comma mark : Bool) (f : X → X) (a b d : Option X) (P : Stand → Bool) (x y z : Option Stand)
    → is_some a ≡ option_map_or P x false → is_some b ≡ option_map_or P y false → is_some d ≡ option_map_or P z false
    → is_some (cond comma (option_map f a) (cond mark b d)) ≡ option_map_or P (cond comma x (cond mark y z)) false
at_comma true mark f a b d P x y z ha hb hd = some_map f a ∙ ha
at_comma false true f a b d P x y z ha hb hd = hb
at_comma false false f a b d P x y z ha hb hd = hd

at_mark : {X : Type 0} (mark : Bool) (b d : Option X) (P : Stand → Bool) (y z : Option Stand)
    → is_some b ≡ option_map_or P y false → is_some d ≡ option_map_or P z false
    → is_some (cond mark b d) ≡ option_map_or P (cond mark y z) false
at_mark true b d P y z hb hd = hb
at_mark false b d P y z hb hd = hd

pub has_form_some : (s : Stand) (field bytes : List ℕ) → is_some (fields_from s field bytes) ≡ has_form s bytes
unfolding fields_from has_form
has_form_some stand.Start field [] = refl
has_form_some stand.Start field (b ∷ rest) =
    at_comma (b == 44) (b == 34) (λ fields. field ∷ fields) _ _ _ (λ t. has_form t rest) (Some stand.Start) (Some stand.Quoted) (Some stand.Plain)
    (has_form_some stand.Start [] rest) (has_form_some stand.Quoted field rest) (has_form_some stand.Plain (field ++ b ∷ []) rest)
has_form_some stand.Plain field [] = refl
has_form_some stand.Plain field (b ∷ rest) =
    at_comma (b == 44) (b == 34) (λ fields. field ∷ fields) _ None _ (λ t. has_form t rest) (Some stand.Start) None (Some stand.Plain)
    (has_form_some stand.Start [] rest) refl (has_form_some stand.Plain (field ++ b ∷ []) rest)
has_form_some stand.Quoted field [] = refl
has_form_some stand.Quoted field (b ∷ rest) =
    at_mark (b == 34) _ _ (λ t. has_form t rest) (Some stand.Closed) (Some stand.Quoted)
    (has_form_some stand.Closed field rest) (has_form_some stand.Quoted (field ++ b ∷ []) rest)
has_form_some stand.Closed field [] = refl
has_form_some stand.Closed field (b ∷ rest) =
    at_comma (b == 44) (b == 34) (λ fields. field ∷ fields) _ _ None (λ t. has_form t rest) (Some stand.Start) (Some stand.Quoted) None
    (has_form_some stand.Start [] rest) (has_form_some stand.Quoted (field ++ b ∷ []) rest) refl

-- one more byte
pub form_step : (s : Stand) (b : ℕ) (rest : List ℕ) (o : Option Stand) → stand_after s b ≡ o
    → has_form s (b ∷ rest) ≡ option_map_or (λ t. has_form t rest) o false
unfolding has_form
form_step s b rest o e = ap (λ p. option_map_or (λ t. has_form t rest) p false) e
