use Rattle.std.proofs.Common.{◌≡◌, ◌++◌, [], ◌∷◌, ℕ, List, ap, ◌∙◌, FitsSigned, w64, to_z-of_z, decimal}
use Rattle.std.specs.Fmt.{signed_decimal}
use Rattle.std.specs.List.{flat_map}
use Rattle.std.specs.Prelude.{codes}
use Rattle.std.proofs.lemmas.Result.{IfOk-weaker}
use Rattle.jet_file.proofs.TextLemmas.{late-parts}
use Rattle.jet_file.proofs.text.late_text.Goals as goal

pub returns : goal.returns
returns c =
    let fits : FitsSigned w64 c.args.ts = c.ranges.ts in
    let place : c.as_bytes.result.now ≡ 44 ∷ (decimal c.args.part ++ 44 ∷ (decimal c.args.line ++ 44 ∷ (signed_decimal c.args.ts ++ 44 ∷ []))) =
    c.as_bytes.ensures.value ∙ simp to_z-of_z at c.in_ok-place.ensures in
    let word : c.in_ok-word.word.items ≡ codes "late," = c.in_ok-word.ensures.items_if_clones_equal (λ x y e. e) in
    let tail : c.deref.result.now ≡ flat_map (λ v. 44 ∷ signed_decimal v) c.args.values.now ++ 10 ∷ [] = c.deref.ensures.value ∙ c.in_ok-tail.ensures in
    IfOk-weaker c.joined.result _ _ (λ text is.
    let parts : text.items ≡ c.in_ok-word.word.items ++ (c.args.name.now ++ (c.as_bytes.result.now ++ (c.args.key.now ++ c.deref.result.now))) = is in
    parts ∙ ap (λ (w : List ℕ). w ++ (c.args.name.now ++ (c.as_bytes.result.now ++ (c.args.key.now ++ c.deref.result.now)))) word
    ∙ ap (λ (s : List ℕ). codes "late," ++ (c.args.name.now ++ (s ++ (c.args.key.now ++ c.deref.result.now)))) place
    ∙ ap (λ (t : List ℕ). codes "late," ++ (c.args.name.now ++ ((44 ∷ (decimal c.args.part ++ 44 ∷ (decimal c.args.line ++ 44 ∷ (signed_decimal c.args.ts ++ 44 ∷ [])))) ++ (c.args.key.now ++ t)))) tail
    ∙ late-parts c.args.name.now (decimal c.args.part) (decimal c.args.line) (signed_decimal c.args.ts) c.args.key.now c.args.values.now) c.joined.ensures
