use Rattle.std.proofs.Common.{◌≡◌, length}
use Rattle.jet_cli.specs.inner.PartsView.{parts_left, job_with}
use Rattle.jet_cli.proofs.job_words.read_parts.Given as goal

abbrev pub invariant-loop-part : goal.invariant-loop-part
invariant-loop-part l = job_with l.found (parts_left l.parts) ≡ job_with l.initial.found (parts_left l.initial.parts)

abbrev pub decreases-loop-part : goal.decreases-loop-part
decreases-loop-part l = length (parts_left l.parts)
