-- What refuses a job, or wants memory, ends a command.
use Rattle.jet_items.specs.declared.no_memory.Refused.{Refused}
use Rattle.jet_items.specs.declared.no_memory.Refused.TheVariants as refused
use Rattle.jet_job.specs.declared.fault.JobFault.{JobFault}
use Rattle.jet_plan.specs.declared.fault.PlanFault.{PlanFault}
use Rattle.jet_worker.specs.declared.stop.Stop.TheVariants.{NoMemory}
use Rattle.jet_cli.specs.declared.halt.Halt.{Halt}
use Rattle.jet_cli.specs.declared.halt.Halt.TheVariants as halt
use Rattle.jet_cli.specs.declared.status.Refusal.TheVariants.{Job, Plan}

-- a fault of the job file refuses the job
abbrev pub job_halt : Refused JobFault → Halt
job_halt (refused.Fault why) = halt.Refused (Job why)
job_halt refused.NoMemory = halt.Stopped NoMemory

-- and so does a fault of the job
abbrev pub plan_halt : Refused PlanFault → Halt
plan_halt (refused.Fault why) = halt.Refused (Plan why)
plan_halt refused.NoMemory = halt.Stopped NoMemory
