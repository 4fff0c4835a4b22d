use Rattle.jet_tasklet.proofs.AnyRows.{any_lawful_on, any_went_trans}
use Rattle.jet_tasklet.proofs.TaskTurns.{task_said}
use Rattle.jet_tasklet.proofs.crew.AnyTaskletTurns.law_turns_in_a_row.Goals as goal

pub returns : goal.returns
returns c = record { keeps = any_lawful_on; went = any_went_trans; said = task_said }
