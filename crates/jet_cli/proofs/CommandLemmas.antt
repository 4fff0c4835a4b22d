-- What the commands with a job file come to.
use Rattle.std.proofs.Common.{◌≡◌, ℕ, List, [], ◌∷◌, ◌++◌, length, map, take, Bool, Option, Some, Ok, Err, refl, ap, sym, ◌∙◌, inl, inr, append_assoc}
use Rattle.std.proofs.lemmas.List.Elements.{All-nil}
use Rattle.std.specs.Prelude.{option_map}
use Rattle.jet_file.specs.Outside.{Told, Place, CallMade, WhereTold, Opened, Read, Tried, Wrote}
use Rattle.jet_file.specs.Writing.{HasWritten}
use Rattle.jet_file.specs.declared.outside.Out.TheVariants.{Rows, Notes}
use Rattle.jet_items.specs.Gives.{Fails}
use Rattle.jet_items.specs.declared.no_memory.Refused.{Refused as Refusing}
use Rattle.jet_items.specs.declared.no_memory.Refused.TheVariants as refused
use Rattle.jet_job.specs.Jobs.{job_at}
use Rattle.jet_job.specs.declared.fault.JobFault.{JobFault}
use Rattle.jet_job.specs.declared.job_text.JobText.{JobText}
use Rattle.jet_plan.specs.Faults.{fault}
use Rattle.jet_plan.specs.Plans.{IsFirst, IsValid}
use Rattle.jet_plan.specs.PlanText.{plan_text}
use Rattle.jet_plan.specs.declared.dag.Dag.{Dag}
use Rattle.jet_plan.specs.declared.fault.PlanFault.{PlanFault}
use Rattle.jet_plan.specs.declared.plan.Plan.{Plan}
use Rattle.jet_plan.specs.declared.settings.Settings.{Settings}
use Rattle.jet_worker.specs.Calls.{Calling, ReadsOrWrites, Turn, turn_calls}
use Rattle.jet_worker.specs.Feeding.{StopsWriting}
use Rattle.jet_worker.specs.Stopping.{IsCallIn, IsWriting, LastIs}
use Rattle.jet_worker.specs.declared.stop.Call.{Call}
use Rattle.jet_worker.specs.declared.stop.Spot.{Spot}
use Rattle.jet_worker.specs.declared.stop.Spot.TheVariants.{Job}
use Rattle.jet_worker.specs.declared.stop.Stop.{Stop}
use Rattle.jet_worker.specs.declared.stop.Stop.TheVariants.{BadLine, Outside, NoMemory}
use Rattle.jet_worker.proofs.CallLaws.{ends_last, last_weaker, none_in, none_last, write_in, write_last}
use Rattle.jet_cli.specs.CallOrder.{StopNamed, job_place, most_text}
use Rattle.jet_cli.specs.Halts.{job_halt, plan_halt}
use Rattle.jet_cli.specs.JobFiles.{ReadHalts, ReadsJobFile, ReadsPlan, StopsJob, WhyUnread}
use Rattle.jet_cli.specs.JobWords.{JobCommand}
use Rattle.jet_cli.specs.Planned.{BeginsPlan, IsJobRead, IsPlanned, PlanHalts, WhyHalted}
use Rattle.jet_cli.specs.Refusals.{job_refusal, text_refusal, with_options}
use Rattle.jet_cli.specs.declared.halt.Halt.{Halt}
use Rattle.jet_cli.specs.declared.halt.Halt.TheVariants.{Refused, Stopped}
use Rattle.jet_cli.specs.declared.job_words.Options.{Options}
use Rattle.jet_cli.specs.declared.status.Refusal.TheVariants as refusal
use Rattle.jet_file.proofs.GoesLaws.{goes_then, goes_weaker}
use Rattle.jet_cli.proofs.JobLemmas.{same_job, whole}
use Rattle.jet_cli.proofs.OrderLemmas.{named_after, reads_job, reads_only}

-- ---- the plan of a job file
reads_plan : (c : JobCommand) (text : List ℕ) (job : JobText) (plan : Plan) (before now : ℕ → Bool) (a b : Told) → job_at text ≡ Ok job → plan.dag ≡ job.dag → plan.settings ≡ with_options c.options job.settings
    → ReadsJobFile c.job text before now a b → ReadsPlan c plan before now a b
reads_plan c text job plan before now a b job_is dag settings r =
    let front_is : job_at (take most_text r.content) ≡ Ok job = ap job_at (sym r.front) ∙ job_is in
    let all : text ≡ r.content = r.front ∙ whole r.content job front_is in
    record {
      file = r.file;
      opened = r.opened;
      content = r.content;
      content_is = r.content_is;
      job = job;
      job_is = ap job_at (sym all) ∙ job_is;
      dag = dag;
      settings = settings;
      place = r.place ∙ ap (λ (t : List ℕ). let p : Place = record { name = c.job; taken = length t } in p) all;
      others = r.others;
      kept = r.kept;
      written = r.written;
      counts = r.counts;
      pieces = r.pieces;
      live = r.live;
      few = r.few;
      trace = r.trace;
    }

pub goes_plan : (c : JobCommand) (text : List ℕ) (job : JobText) (plan : Plan) (before now : ℕ → Bool) (old new : Option Told) → job_at text ≡ Ok job → plan.dag ≡ job.dag
    → plan.settings ≡ with_options c.options job.settings → WhereTold (ReadsJobFile c.job text before now) old new → WhereTold (ReadsPlan c plan before now) old new
goes_plan c text job plan before now old new job_is dag settings =
    goes_weaker (ReadsJobFile c.job text before now) (ReadsPlan c plan before now) (λ a b r. reads_plan c text job plan before now a b job_is dag settings r) old new

-- the fault of the text that was read is that of the whole job file
fault_of_text : (o : Options) (name text : List ℕ) (why : JobFault) (before now : ℕ → Bool) (a b : Told) → job_at text ≡ Err why → ReadsJobFile name text before now a b
    → text_refusal o (a.content name) ≡ Some (refusal.Job why)
fault_of_text o name text why before now a b is r =
    let whole_is : job_at r.content ≡ Err why = sym (same_job r.content) ∙ ap job_at (sym r.front) ∙ is in
    ap (text_refusal o) r.content_is ∙ ap (job_refusal o) whole_is

-- the job file was read, and gave no plan
read_halts : (c : JobCommand) (text : List ℕ) (halt : Halt) (before now : ℕ → Bool) (a b : Told) → (r : ReadsJobFile c.job text before now a b) → WhyUnread c halt (Opened c.job r.file ∷ map (Read r.file) r.counts) a
    → Calling (ReadHalts c halt) a b
read_halts c text halt before now a b r why = record {
  calls = Opened c.job r.file ∷ map (Read r.file) r.counts;
  trace = r.trace;
  did = record { order = reads_only c.job r.file r.counts r.pieces r.few r.live; why = why; written = r.written };
}

halts_job : (c : JobCommand) (text : List ℕ) (e : Refusing JobFault) (before now : ℕ → Bool) (a b : Told) → Fails e (job_at text) → ReadsJobFile c.job text before now a b → Calling (ReadHalts c (job_halt e)) a b
halts_job c text (refused.Fault why) before now a b is r = read_halts c text (Refused (refusal.Job why)) before now a b r (fault_of_text c.options c.job text why before now a b is r)
halts_job c text refused.NoMemory before now a b is r = read_halts c text (Stopped NoMemory) before now a b r tt

pub goes_halts_job : (c : JobCommand) (text : List ℕ) (e : Refusing JobFault) (before now : ℕ → Bool) (old new : Option Told) → Fails e (job_at text) → WhereTold (ReadsJobFile c.job text before now) old new
    → WhereTold (Calling (ReadHalts c (job_halt e))) old new
goes_halts_job c text e before now old new is = goes_weaker (ReadsJobFile c.job text before now) (Calling (ReadHalts c (job_halt e))) (λ a b r. halts_job c text e before now a b is r) old new

fault_of_job : (o : Options) (name text : List ℕ) (job : JobText) (why : PlanFault) (before now : ℕ → Bool) (a b : Told) → job_at text ≡ Ok job → fault job.dag (with_options o job.settings) ≡ Some why
    → ReadsJobFile name text before now a b → text_refusal o (a.content name) ≡ Some (refusal.Plan why)
fault_of_job o name text job why before now a b is why_is r =
    let whole_is : job_at r.content ≡ Ok job = sym (same_job r.content) ∙ ap job_at (sym r.front) ∙ is in
    ap (text_refusal o) r.content_is ∙ ap (job_refusal o) whole_is ∙ ap (option_map refusal.Plan) why_is

halts_plan : (c : JobCommand) (text : List ℕ) (job : JobText) (e : Refusing PlanFault) (before now : ℕ → Bool) (a b : Told) → job_at text ≡ Ok job → IsFirst job.dag (with_options c.options job.settings) e
    → ReadsJobFile c.job text before now a b → Calling (ReadHalts c (plan_halt e)) a b
halts_plan c text job (refused.Fault why) before now a b is first r = read_halts c text (Refused (refusal.Plan why)) before now a b r (fault_of_job c.options c.job text job why before now a b is first r)
halts_plan c text job refused.NoMemory before now a b is first r = read_halts c text (Stopped NoMemory) before now a b r tt

pub goes_halts_plan : (c : JobCommand) (text : List ℕ) (job : JobText) (e : Refusing PlanFault) (before now : ℕ → Bool) (old new : Option Told) → job_at text ≡ Ok job
    → IsFirst job.dag (with_options c.options job.settings) e → WhereTold (ReadsJobFile c.job text before now) old new → WhereTold (Calling (ReadHalts c (plan_halt e))) old new
goes_halts_plan c text job e before now old new is first =
    goes_weaker (ReadsJobFile c.job text before now) (Calling (ReadHalts c (plan_halt e))) (λ a b r. halts_plan c text job e before now a b is first r) old new

-- the reading of the job file stopped
pub goes_halts_text : (c : JobCommand) (stop : Stop) (old new : Option Told) → WhereTold (Calling (StopsJob c.job stop)) old new → WhereTold (Calling (ReadHalts c (Stopped stop))) old new
goes_halts_text c stop = goes_weaker (Calling (StopsJob c.job stop)) (Calling (ReadHalts c (Stopped stop))) (λ a b h. record {
  calls = h.calls;
  trace = h.trace;
  did = record { order = h.did.order; why = h.did.fails; written = h.did.written };
})

-- the reading of the job file ended `plan` early
why_of_read : (c : JobCommand) (halt : Halt) (calls : List CallMade) (a b : Told) → ReadHalts c halt calls a b → WhyHalted c halt calls a b
why_of_read c (Refused why) calls a b h = (h.why, h.written)
why_of_read c (Stopped (BadLine part line why)) calls a b h = tt
why_of_read c (Stopped (Outside call spot)) calls a b h = (h.why, inl h.written)
why_of_read c (Stopped NoMemory) calls a b h = inl h.written

pub goes_read_halts : (c : JobCommand) (halt : Halt) (old new : Option Told) → WhereTold (Calling (ReadHalts c halt)) old new → WhereTold (Calling (PlanHalts c halt)) old new
goes_read_halts c halt = goes_weaker (Calling (ReadHalts c halt)) (Calling (PlanHalts c halt)) (λ a b h. record {
  calls = h.calls;
  trace = h.trace;
  did = record { order = h.did.order; why = why_of_read c halt h.calls a b h.did };
})

-- ---- `plan`
notes_not_rows : Notes ≡ Rows → ⊥
notes_not_rows h = cc

pub job_read_of : (c : JobCommand) (plan : Plan) (before now : ℕ → Bool) (a b d : Told) → IsValid plan.dag plan.settings → (r : ReadsPlan c plan before now a b) → d.place r.file ≡ b.place r.file
    → IsJobRead c before now a d
job_read_of c plan before now a b d valid r stays = record {
  content = r.content;
  job = r.job;
  content_is = r.content_is;
  read = record { file = r.file; fresh = r.opened.fresh; opened = r.opened.added; place = stays ∙ r.place };
  job_is = r.job_is;
  valid = ap (λ (s : Settings). fault r.job.dag s) (sym r.settings) ∙ ap (λ (g : Dag). fault g plan.settings) (sym r.dag) ∙ valid;
}

-- the calls of a turn, from the reads and the writes
turn_trace : (a b d : List CallMade) (name : List ℕ) (file : ℕ) (counts lengths : List ℕ) (last : List CallMade) → b ≡ a ++ (Opened name file ∷ map (Read file) counts) → d ≡ b ++ map (Wrote Rows) lengths ++ last
    → d ≡ a ++ (Opened name file ∷ (turn_calls (record { file = file; counts = counts; lengths = lengths }) ++ last))
turn_trace a b d name file counts lengths last one two =
    let first : List CallMade = Opened name file ∷ map (Read file) counts in
    let writes : List CallMade = map (Wrote Rows) lengths in
    two ∙ ap (λ (l : List CallMade). l ++ writes ++ last) one ∙ append_assoc (a ++ first) writes last ∙ append_assoc a first (writes ++ last)
    ∙ ap (λ (l : List CallMade). a ++ (Opened name file ∷ l)) (sym (append_assoc (map (Read file) counts) writes last))

planned : (c : JobCommand) (plan : Plan) (text : List ℕ) (before now : ℕ → Bool) (a b d : Told) → IsValid plan.dag plan.settings → text ≡ plan_text plan.dag plan.settings
    → ReadsPlan c plan before now a b → HasWritten Rows text [] b d → Calling (IsPlanned c before now) a d
unfolding job_read_of
planned c plan text before now a b d valid is r w = record {
  calls = Opened c.job r.file ∷ (turn_calls (record { file = r.file; counts = r.counts; lengths = w.lengths }) ++ []);
  trace = turn_trace a.trace b.trace d.trace c.job r.file r.counts w.lengths [] r.trace w.trace;
  did = record {
    order = reads_job c.job r.file r.counts w.lengths [] r.pieces r.few r.live (All-nil ReadsOrWrites) (inl refl);
    job = job_read_of c plan before now a b d valid r (ap (λ (p : ℕ → Place). p r.file) w.place);
    alone = r.opened.others;
    rows_written = w.written ∙ ap (λ wrote. wrote Rows ++ text) r.written
        ∙ ap (λ (t : List ℕ). a.written Rows ++ t) (is ∙ ap (λ (g : Dag). plan_text g plan.settings) r.dag ∙ ap (λ (s : Settings). plan_text r.job.dag s) r.settings);
    notes_written = w.others Notes notes_not_rows ∙ ap (λ wrote. wrote Notes) r.written;
    kept = w.content ∙ r.kept;
  };
}

pub goes_planned : (c : JobCommand) (plan : Plan) (text : List ℕ) (before now : ℕ → Bool) (old mid new : Option Told) → IsValid plan.dag plan.settings → text ≡ plan_text plan.dag plan.settings
    → WhereTold (ReadsPlan c plan before now) old mid → WhereTold (HasWritten Rows text []) mid new → WhereTold (Calling (IsPlanned c before now)) old new
goes_planned c plan text before now old mid new valid is =
    goes_then (ReadsPlan c plan before now) (HasWritten Rows text []) (Calling (IsPlanned c before now)) (λ a b d r w. planned c plan text before now a b d valid is r w) old mid new

-- the writing of the plan's text stopped
begins_plan : (c : JobCommand) (plan : Plan) (text : List ℕ) (stop : Stop) (before now : ℕ → Bool) (a b d : Told) → IsValid plan.dag plan.settings → text ≡ plan_text plan.dag plan.settings
    → ReadsPlan c plan before now a b → StopsWriting Rows text stop b d → BeginsPlan c a d
begins_plan c plan text stop before now a b d valid is r w = record {
  content = r.content;
  job = r.job;
  content_is = r.content_is;
  job_is = r.job_is;
  valid = ap (λ (s : Settings). fault r.job.dag s) (sym r.settings) ∙ ap (λ (g : Dag). fault g plan.settings) (sym r.dag) ∙ valid;
  front = w.front;
  rest = w.rest;
  parts = sym (is ∙ ap (λ (g : Dag). plan_text g plan.settings) r.dag ∙ ap (λ (s : Settings). plan_text r.job.dag s) r.settings) ∙ w.parts;
  rows_written = w.written ∙ ap (λ wrote. wrote Rows ++ w.front) r.written;
  notes_written = w.others Notes notes_not_rows ∙ ap (λ wrote. wrote Notes) r.written;
}

why_written : (c : JobCommand) (stop : Stop) (calls : List CallMade) (a d : Told) → StopNamed job_place stop calls → BeginsPlan c a d → WhyHalted c (Stopped stop) calls a d
why_written c (BadLine part line why) calls a d h k = tt
why_written c (Outside call spot) calls a d h k = (h, inr k)
why_written c NoMemory calls a d h k = inr k

plan_stops : (c : JobCommand) (plan : Plan) (text : List ℕ) (stop : Stop) (before now : ℕ → Bool) (a b d : Told) → IsValid plan.dag plan.settings → text ≡ plan_text plan.dag plan.settings
    → ReadsPlan c plan before now a b → StopsWriting Rows text stop b d → Calling (PlanHalts c (Stopped stop)) a d
plan_stops c plan text stop before now a b d valid is r w =
    let turn : Turn = record { file = r.file; counts = r.counts; lengths = w.lengths } in
    let such : Call → Spot → Tried → Type 0 = IsCallIn Job r.file in
    let fails : LastIs such stop w.last = last_weaker IsWriting such stop w.last (write_in Job r.file) (write_last Rows stop w.last w.fails) in
    let calls : List CallMade = Opened c.job r.file ∷ (turn_calls turn ++ w.last) in
    record {
      calls = calls;
      trace = turn_trace a.trace b.trace d.trace c.job r.file r.counts w.lengths w.last r.trace w.trace;
      did = record {
        order = reads_job c.job r.file r.counts w.lengths w.last r.pieces r.few r.live (none_last such stop w.last (none_in Job r.file) fails) (ends_last such stop w.last fails);
        why = why_written c stop calls a d (named_after job_place Job c.job r.file (turn_calls turn) stop w.last refl fails) (begins_plan c plan text stop before now a b d valid is r w);
      };
    }

pub goes_plan_stops : (c : JobCommand) (plan : Plan) (text : List ℕ) (stop : Stop) (before now : ℕ → Bool) (old mid new : Option Told) → IsValid plan.dag plan.settings → text ≡ plan_text plan.dag plan.settings
    → WhereTold (ReadsPlan c plan before now) old mid → WhereTold (StopsWriting Rows text stop) mid new → WhereTold (Calling (PlanHalts c (Stopped stop))) old new
goes_plan_stops c plan text stop before now old mid new valid is =
    goes_then (ReadsPlan c plan before now) (StopsWriting Rows text stop) (Calling (PlanHalts c (Stopped stop))) (λ a b d r w. plan_stops c plan text stop before now a b d valid is r w) old mid new

-- no memory was found for the plan's text
pub goes_plan_lost : (c : JobCommand) (plan : Plan) (before now : ℕ → Bool) (old new : Option Told) → WhereTold (ReadsPlan c plan before now) old new → WhereTold (Calling (PlanHalts c (Stopped NoMemory))) old new
goes_plan_lost c plan before now = goes_weaker (ReadsPlan c plan before now) (Calling (PlanHalts c (Stopped NoMemory))) (λ a b r. record {
  calls = Opened c.job r.file ∷ map (Read r.file) r.counts;
  trace = r.trace;
  did = record { order = reads_only c.job r.file r.counts r.pieces r.few r.live; why = inl r.written };
})
