use Rattle.jet_worker.proofs.PlanLemmas.{lines_within}
use Rattle.jet_worker.proofs.laws.a_valid_job_allows_lines.Goals as goal

pub returns : goal.returns
returns c = λ dag settings valid. (lines_within dag settings valid).0
