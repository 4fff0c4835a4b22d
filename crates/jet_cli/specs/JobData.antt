-- The data files of the job in a job file.
use Rattle.std.specs.Prelude.{ℕ, List, [], Option, Some, None, Result, Ok, Err}
use Rattle.jet_flow.specs.DataFiles.{DataFile, data_files}
use Rattle.jet_job.specs.Jobs.{job_at}
use Rattle.jet_job.specs.declared.fault.JobFault.{JobFault}
use Rattle.jet_job.specs.declared.job_text.JobText.{JobText}

-- the data files of a job, none where there is no job
abbrev pub files_in : Result JobText JobFault → List DataFile
files_in (Ok job) = data_files job.dag
files_in (Err why) = []

-- the data files of the job in a job file of this content
abbrev pub files_of : Option (List ℕ) → List DataFile
files_of None = []
files_of (Some text) = files_in (job_at text)
