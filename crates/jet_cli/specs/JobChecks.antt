-- The job of a command's job file, and what a check of its data files is of.
use Rattle.std.specs.Prelude.{◌≡◌, ℕ, List, Some, Ok}
use Rattle.jet_file.specs.Outside.{Told}
use Rattle.jet_job.specs.Jobs.{job_at}
use Rattle.jet_job.specs.declared.job_text.JobText.{JobText}
use Rattle.jet_plan.specs.Plans.{IsValid}
use Rattle.jet_worker.specs.CheckText.{Checks}
use Rattle.jet_worker.specs.Checked.{IsCheckOf}
use Rattle.jet_cli.specs.JobWords.{JobCommand}
use Rattle.jet_cli.specs.Refusals.{with_options}

-- the job file of a command has a valid job, with the options put over, and this is what a check of its files is of
pub record HasChecks (c : JobCommand) (old : Told) : Type 0 where
  pub content : List ℕ
  pub job : JobText
  pub content_is : old.content c.job ≡ Some content
  pub job_is : job_at content ≡ Ok job
  pub valid : IsValid job.dag (with_options c.options job.settings)
  pub checks : Checks
  pub is : IsCheckOf job.dag (with_options c.options job.settings) checks
