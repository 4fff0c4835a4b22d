use Rattle.std.proofs.Common.{◌≡◌, drop}
use Rattle.jet_lines.specs.Scan.{has_form}
use Rattle.jet_lines.specs.declared.form.Stand.TheVariants as stand
use Rattle.jet_lines.proofs.form.has_form.Given as goal

abbrev pub invariant-loop-b : goal.invariant-loop-b
invariant-loop-b l = has_form l.stand (drop l.b-index l.line) ≡ has_form stand.Start l.line
