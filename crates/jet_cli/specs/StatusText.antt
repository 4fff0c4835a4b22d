-- The line that tells how a run ended, and the exit status of the program.
use Rattle.std.specs.Prelude.{ℕ, List, [], ◌∷◌, ◌++◌, Option, Some, None, codes, decimal}
use Rattle.jet_lines.specs.Faults.{fault_number}
use Rattle.jet_lines.specs.declared.fault.LineFault.{LineFault}
use Rattle.jet_job.specs.FaultNumbers as job
use Rattle.jet_job.specs.declared.fault.JobFault.{JobFault}
use Rattle.jet_job.specs.declared.place.Place.{Place}
use Rattle.jet_job.specs.declared.place.Place.TheVariants as place
use Rattle.jet_plan.specs.FaultNumbers as plan
use Rattle.jet_plan.specs.declared.fault.PlanFault.{PlanFault}
use Rattle.jet_worker.specs.declared.stop.Call.{Call}
use Rattle.jet_worker.specs.declared.stop.Call.TheVariants.{Open, Read, Write}
use Rattle.jet_worker.specs.declared.stop.Spot.{Spot}
use Rattle.jet_worker.specs.declared.stop.Spot.TheVariants.{Job, Part, Rows, Notes}
use Rattle.jet_cli.specs.declared.status.Refusal.{Refusal}
use Rattle.jet_cli.specs.declared.status.Refusal.TheVariants as refusal
use Rattle.jet_cli.specs.declared.status.Status.{Status}
use Rattle.jet_cli.specs.declared.status.Status.TheVariants as status

-- the five commands
abbrev pub usage_line : List ℕ
usage_line = codes "jet: usage: jet run JOB, jet window SIZE SLIDE LAG FILE, jet plan JOB, jet check JOB, jet trial SEED" ++ 10 ∷ []

-- the words for the object of a job file that has a fault
abbrev pub place_text : Option Place → List ℕ
place_text None = []
place_text (Some place.Top) = codes " top"
place_text (Some (place.Vertex vertex)) = codes " vertex " ++ decimal vertex
place_text (Some (place.Leg vertex leg)) = codes " leg " ++ (decimal vertex ++ (codes " " ++ decimal leg))
place_text (Some (place.Edge edge)) = codes " edge " ++ decimal edge
place_text (Some place.Settings) = codes " settings"

-- the number of a job file's fault, and its object
abbrev pub job_line : JobFault → List ℕ
job_line why = codes "jet: job refused: job fault " ++ (decimal (job.fault_number why) ++ (place_text (job.fault_place why) ++ 10 ∷ []))

-- the words for the vertex or edge that has a fault
abbrev pub at_text : Option ℕ → List ℕ
at_text None = []
at_text (Some at) = codes " at " ++ decimal at

-- the number of a plan's fault, and its vertex or edge
abbrev pub plan_line : PlanFault → List ℕ
plan_line why = codes "jet: job refused: plan fault " ++ (decimal (plan.fault_number why) ++ (at_text (plan.fault_place why) ++ 10 ∷ []))

-- the fault of the job file, or of the job
abbrev pub refused_line : Refusal → List ℕ
refused_line (refusal.Job why) = job_line why
refused_line (refusal.Plan why) = plan_line why

-- the numbers of the file, of the line and of its fault
abbrev pub bad_line : ℕ → ℕ → LineFault → List ℕ
bad_line part line why = codes "jet: bad line: part " ++ (decimal part ++ (codes " line " ++ (decimal line ++ (codes ": fault " ++ (decimal (fault_number why) ++ 10 ∷ [])))))

-- the word of a call
abbrev pub call_name : Call → List ℕ
call_name Open = codes "open"
call_name Read = codes "read"
call_name Write = codes "write"

-- the words of what it was for
abbrev pub spot_name : Spot → List ℕ
spot_name Job = codes "job"
spot_name (Part part) = codes "part " ++ decimal part
spot_name Rows = codes "rows"
spot_name Notes = codes "notes"

-- the call that failed, and what it was for
abbrev pub fault_line : Call → Spot → List ℕ
fault_line call spot = codes "jet: fault: " ++ (call_name call ++ (codes " " ++ (spot_name spot ++ 10 ∷ [])))

-- the line of each status, none of Done
abbrev pub status_line : Status → List ℕ
status_line status.Done = []
status_line status.Usage = usage_line
status_line (status.JobRefused refusal) = refused_line refusal
status_line (status.BadLine part line why) = bad_line part line why
status_line (status.OutsideFault call file) = fault_line call file
status_line status.NoMemory = codes "jet: no memory" ++ 10 ∷ []

-- the exit status of each
abbrev pub exit_number : Status → ℕ
exit_number status.Done = 0
exit_number status.Usage = 2
exit_number (status.JobRefused refusal) = 3
exit_number (status.BadLine part line why) = 4
exit_number (status.OutsideFault call file) = 5
exit_number status.NoMemory = 6
