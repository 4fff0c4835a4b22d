use Rattle.std.proofs.Common.{ap, option_map}
use Rattle.jet_lines.proofs.QuickLemmas.{four_values, kept}
use Rattle.jet_lines.proofs.quick.values.Goals as goal

pub returns-in-None-clause-values : goal.returns-in-None-clause-values
returns-in-None-clause-values g c =
    let v0 = c.in_ok-v0 in
    let v1 = c.in_ok-v1 in
    let v2 = c.in_ok-v2 in
    let v3 = c.in_ok-v3 in
    rw (kept v0.v0 v0.ensures.range, kept v1.v1 v1.ensures.range, kept v2.v2 v2.ensures.range, kept v3.v3 v3.ensures.range)
    (four_values v0.v0 v1.v1 v2.v2 v3.v3 _ _ _ _ _ v0.ensures.value v1.ensures.value v2.ensures.value v3.ensures.value (ap (option_map (λ s. s.now)) c.in-None.is))
