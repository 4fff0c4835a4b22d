use Rattle.jet_job.specs.Jobs.{job_at}
use Rattle.jet_job.specs.declared.fault.JobFault.TheVariants.{Long, NotJson}
use Rattle.jet_job.proofs.JobLaws.{answered, given, in_form, long_only, not_json_only}
use Rattle.jet_job.specs.InForm.{IsInForm}
use Rattle.jet_job.proofs.read.read_job.Goals as goal

pub returns-clause-long_only : goal.returns-clause-long_only
returns-clause-long_only c = λ is. long_only c.args.text.now (answered c.job_of.result (job_at c.args.text.now) Long c.job_of.ensures.settled is)

pub returns-clause-not_json_only : goal.returns-clause-not_json_only
returns-clause-not_json_only c = λ is. not_json_only c.args.text.now (answered c.job_of.result (job_at c.args.text.now) NotJson c.job_of.ensures.settled is)

pub returns-clause-form : goal.returns-clause-form
returns-clause-form c = given IsInForm c.job_of.result (job_at c.args.text.now) c.job_of.ensures.settled (in_form c.args.text.now)
