use Rattle.std.proofs.Common.{◌≡◌, ◌∙◌, ap, sym, subst, length, ◌≤◌, ℕ, List, false}
use Rattle.std.specs.Prelude.{◌==◌}
use Rattle.jet_cli.proofs.WordLemmas.{text_is}
use Rattle.jet_cli.proofs.words.is_file_name.Goals as goal

pub returns-then-name-le255-clause-text : goal.returns-then-name-le255-clause-text
returns-then-name-le255-clause-text c = λ is.
    let full : (length c.args.name.now == 0) ≡ false = ap (λ (bs : List ℕ). length bs == 0) (sym c.as_bytes-name.ensures.value) ∙ sym c.is_empty.ensures ∙ c.if-name-le255.true.0 in
    let few : length c.args.name.now ≤ 255 = subst (λ (bs : List ℕ). length bs ≤ 255) c.as_bytes-name.ensures.value c.if-name-le255.true.1 in
    text_is c.args.name.now c.utf8.name full few
