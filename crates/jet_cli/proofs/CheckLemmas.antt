-- What the command `check` comes to.
use Rattle.std.proofs.Common.{◌≡◌, ℕ, List, [], ◌∷◌, ◌++◌, length, map, take, Bool, true, false, Option, Some, None, Result, Ok, refl, ap, sym, ◌∙◌, subst, arith, append-nil, append_assoc, All, inl, inr}
use Rattle.std.specs.Prelude.{◌≢◌, ◌⊎◌, Any, IsSome, IsSomeAnd, option_map, flat_map, ◌==◌}
use Rattle.std.specs.List.{AllZip}
use Rattle.std.specs.Option.{unwrap_or}
use Rattle.std.proofs.lemmas.List.Elements.{All-weaker}
use Rattle.jet_lines.specs.declared.fault.LineFault.{LineFault}
use Rattle.jet_file.specs.Outside.{Told, Place, CallMade, Opened, Read, WhereTold, AddsNumber, LacksFile}
use Rattle.jet_file.specs.declared.outside.Out.{Out}
use Rattle.jet_file.specs.declared.outside.Out.TheVariants as out
use Rattle.jet_file.specs.Headline.{IsReadWhole}
use Rattle.jet_job.specs.Jobs.{job_at}
use Rattle.jet_job.specs.declared.fault.JobFault.{JobFault}
use Rattle.jet_job.specs.declared.job_text.JobText.{JobText}
use Rattle.jet_flow.specs.DataFiles.{DataFile, data_files, file_name}
use Rattle.jet_plan.specs.Plans.{IsValid}
use Rattle.jet_plan.specs.declared.plan.Plan.{Plan}
use Rattle.jet_worker.specs.CheckText.{Checks, check_line, first_bad}
use Rattle.jet_worker.specs.Checked.{BeginsTurn, CheckStops, HaveTurns, IsBadLine, IsBegun, IsCheckOf, IsChecked, IsGood, IsRead, IsTurnOf, LacksSome, check_lines, content_of, names_of, numbered}
use Rattle.jet_worker.specs.Calls.{Calling, OpensInOrder, ReadsInOrder, Turn}
use Rattle.jet_worker.specs.declared.stop.Stop.{Stop}
use Rattle.jet_worker.specs.declared.stop.Stop.TheVariants.{BadLine, Outside, NoMemory}
use Rattle.jet_plan.specs.Faults.{fault}
use Rattle.jet_plan.specs.declared.dag.Dag.{Dag}
use Rattle.jet_plan.specs.declared.settings.Settings.{Settings}
use Rattle.jet_worker.proofs.CallLaws.{no_calls}
use Rattle.jet_cli.specs.CallOrder.{ChecksFiles, ChecksJob, JobFirst, ReadsJob, data_names}
use Rattle.jet_cli.specs.CheckedJob.{CheckHalts, EarlyEnd, IsCheckedJob, JobHalts, LacksFiles, WhyHalted, check_end}
use Rattle.jet_cli.specs.JobChecks.{HasChecks}
use Rattle.jet_cli.specs.JobData.{files_in, files_of}
use Rattle.jet_cli.specs.inner.Halting.{IsKnown, IsNoBadHalt}
use Rattle.jet_cli.specs.JobFiles.{ReadHalts, ReadsPlan}
use Rattle.jet_cli.specs.declared.halt.Halt.{Halt}
use Rattle.jet_cli.specs.declared.halt.Halt.TheVariants.{Refused, Stopped}
use Rattle.jet_cli.specs.inner.RangeLaws.{AllowsLines}
use Rattle.jet_cli.proofs.GrainLemmas.{check_of}
use Rattle.jet_cli.specs.JobWords.{JobCommand}
use Rattle.jet_cli.specs.Refusals.{job_refusal, text_refusal, with_options}
use Rattle.jet_cli.specs.declared.status.Refusal.TheVariants as refusal
use Rattle.jet_cli.proofs.EarlyLemmas.{none_known}
use Rattle.jet_file.proofs.GoesLaws.{goes_weaker}
use Rattle.jet_cli.proofs.OrderLemmas.{fails_first, fails_later, reads_only}

-- the files of a check are those of the job in the job file
pub files_are : (c : JobCommand) (old : Told) (h : HasChecks c old) → files_of (old.content c.job) ≡ h.checks.files
files_are c old h = ap files_of h.content_is ∙ ap files_in h.job_is ∙ sym h.is.files

-- the calls for a job file, and then those for the files of its check, which have their turns
pub job_checked : (c : JobCommand) (told : Told) (calls first later : List CallMade) → calls ≡ first ++ later → ReadsJob c.job first → (h : HasChecks c told) (order : ReadsInOrder (names_of h.checks) later)
    → HaveTurns h.checks told (numbered h.checks) order.turns → ChecksJob c told calls
job_checked c told calls first later calls_are job h order turns =
    let files : map file_name (files_of (told.content c.job)) ≡ names_of h.checks = ap (map file_name) (files_are c told h) in
    record {
      first = first;
      later = later;
      calls_are = calls_are;
      job = job;
      files = record {
        order = record {
          opens = subst (λ (names : List (List ℕ)). OpensInOrder names later) (sym files) order.opens;
          opened = order.opened;
          turns = order.turns;
          waiting = order.waiting;
          last = order.last;
          calls_are = order.calls_are;
          order = order.order;
          end = order.end;
        };
        turns = inr (h, turns);
      };
    }

-- turns that are all whole
pub turns_all : (c : Checks) (told : Told) (files : List (ℕ × DataFile)) (turns : List Turn) → AllZip (λ p t. IsTurnOf c p (content_of told p.1) t) files turns → HaveTurns c told files turns
turns_all c told files [] h = tt
turns_all c told [] (u ∷ turns) h = absurd h
turns_all c told (q ∷ files) (u ∷ []) h = record { wanted = h.0.wanted; order = inr h.0.reads }
turns_all c told (q ∷ files) (u ∷ v ∷ turns) h = (h.0, turns_all c told files (v ∷ turns) h.1)

-- ---- from the reading of the job file on
module _ (k : Checks) (old mid : Told) (kept : mid.content ≡ old.content) (written : mid.written ≡ old.written) where
  pub good_same : (ps : List (ℕ × DataFile)) → All (IsGood k mid) ps → All (IsGood k old) ps
  good_same ps = subst (λ (ct : List ℕ → Option (List ℕ)). All (λ (p : ℕ × DataFile). IsSomeAnd (ct (file_name p.1)) (λ content. first_bad k p content ≡ None)) ps) kept

  lines_same : (ps : List (ℕ × DataFile)) → check_lines k mid ps ≡ check_lines k old ps
  lines_same ps = ap (λ (ct : List ℕ → Option (List ℕ)). flat_map (λ (p : ℕ × DataFile). check_line k p (unwrap_or (ct (file_name p.1)) [])) ps) kept

  wrote_same : (to : Out) (text : List ℕ) (ps : List (ℕ × DataFile)) → text ≡ mid.written to ++ check_lines k mid ps → text ≡ old.written to ++ check_lines k old ps
  wrote_same to text ps is = is ∙ ap (λ w. w to ++ check_lines k mid ps) written ∙ ap (λ (l : List ℕ). old.written to ++ l) (lines_same ps)

  bad_same : (part line : ℕ) (why : LineFault) (new : Told) → IsBadLine k part line why mid new → IsBadLine k part line why old new
  bad_same part line why new b = record {
    file = b.file;
    is = b.is;
    bad = subst (λ (ct : List ℕ → Option (List ℕ)). IsSomeAnd (ct (file_name b.file)) (λ content. first_bad k (part, b.file) content ≡ Some (line, why))) kept b.bad;
    good = good_same (take part (numbered k)) b.good;
    rows = wrote_same out.Rows (new.written out.Rows) (take part (numbered k)) b.rows;
    notes = b.notes ∙ ap (λ w. w out.Notes) written;
    kept = b.kept ∙ kept;
    there = subst (λ (ct : List ℕ → Option (List ℕ)). All (λ (f : DataFile). IsSome (ct (file_name f))) k.files) kept b.there;
  }

  turns_same : (ps : List (ℕ × DataFile)) (turns : List Turn) → HaveTurns k mid ps turns → HaveTurns k old ps turns
  turns_same ps [] h = tt
  turns_same [] (t ∷ turns) h = absurd h
  turns_same (p ∷ ps) (t ∷ []) h = subst (λ (ct : List ℕ → Option (List ℕ)). BeginsTurn k p (unwrap_or (ct (file_name p.1)) []) t) kept h
  turns_same (p ∷ ps) (t ∷ u ∷ turns) h = (subst (λ (ct : List ℕ → Option (List ℕ)). IsTurnOf k p (unwrap_or (ct (file_name p.1)) []) t) kept h.0, turns_same ps (u ∷ turns) h.1)

  -- a number that is new behind the job file's is new
  pub fresh_before : (file : ℕ) (before now : ℕ → Bool) → AddsNumber file before now → (n : ℕ) → now n ≡ false → before n ≡ false
  fresh_before file before now adds n h = fresh_if (n == file) refl
    where
      same_is : (n file : ℕ) → (n == file) ≡ true → n ≡ file
      same_is n file is = grind (arith, is)

      not_same : (n file : ℕ) → (n == file) ≡ false → n ≢ file
      not_same n file is = λ e. grind (arith, is, e)

      both : (b : Bool) → b ≡ true → b ≡ false → ⊥
      both b t f = cc (sym t ∙ f)

      fresh_if : (b : Bool) → (n == file) ≡ b → before n ≡ false
      fresh_if true is = absurd (both (now file) adds.added (ap now (sym (same_is n file is)) ∙ h))
      fresh_if false is = sym (adds.others n (not_same n file is)) ∙ h

  begun_same : (new : Told) → IsBegun k mid new → IsBegun k old new
  begun_same new b = record {
    n = b.n;
    front = b.front;
    rest = b.rest;
    there = subst (λ (ct : List ℕ → Option (List ℕ)). (b.front ≡ []) ⊎ All (λ (f : DataFile). IsSome (ct (file_name f))) k.files) kept b.there;
    good = good_same (take b.n (numbered k)) b.good;
    parts = sym (lines_same (take b.n (numbered k))) ∙ b.parts;
    rows = b.rows ∙ ap (λ w. w out.Rows ++ b.front) written;
    notes = b.notes ∙ ap (λ w. w out.Notes) written;
    kept = b.kept ∙ kept;
  }

  read_more : (file : ℕ) (before opened now : ℕ → Bool) (calls : List CallMade) (new : Told) → AddsNumber file before opened → (p : ℕ × DataFile) → IsRead opened now calls mid new p → IsRead before now calls old new p
  read_more file before opened now calls new adds p h = record {
    at = h.at;
    opening = h.opening;
    fresh = fresh_before file before opened adds h.at h.fresh;
    opened = h.opened;
    place = subst (λ (ct : List ℕ → Option (List ℕ)). IsSomeAnd (ct (file_name p.1)) (λ content. new.place h.at ≡ record { name = file_name p.1; taken = length content })) kept h.place;
  }

  -- a number that was open is another one than the job file's
  pub not_new : (file : ℕ) (before opened : ℕ → Bool) → AddsNumber file before opened → (n : ℕ) → before n ≡ true → n ≢ file
  not_new file before opened adds n was same = no (sym was ∙ ap before same ∙ adds.fresh)
    where
      no : true ≡ false → ⊥
      no h = cc h

  checked_same : (file : ℕ) (before opened now : ℕ → Bool) (calls : List CallMade) (new : Told) → AddsNumber file before opened → ((other : ℕ) → other ≢ file → mid.place other ≡ old.place other) → IsChecked k opened now calls mid new
      → IsChecked k before now calls old new
  checked_same file before opened now calls new adds others d = record {
    order = d.order;
    turns = subst (λ (ct : List ℕ → Option (List ℕ)). AllZip (λ (p : ℕ × DataFile) (t : Turn). IsTurnOf k p (unwrap_or (ct (file_name p.1)) []) t) (numbered k) d.order.turns) kept d.turns;
    good = good_same (numbered k) d.good;
    read = All-weaker (IsRead opened now calls mid new) (IsRead before now calls old new) (λ p h. read_more file before opened now calls new adds p h) (numbered k) d.read;
    rows = wrote_same out.Rows (new.written out.Rows) (numbered k) d.rows;
    notes = d.notes ∙ ap (λ w. w out.Notes) written;
    kept = d.kept ∙ kept;
    opened = λ n was. d.opened n (adds.others n (not_new file before opened adds n was) ∙ was);
    places = λ n was. d.places n (adds.others n (not_new file before opened adds n was) ∙ was) ∙ others n (not_new file before opened adds n was);
  }

-- ---- the run of `check`
abbrev pub plan_valid : Plan → Type 0
plan_valid plan = IsValid plan.dag plan.settings

checks_of : (allows : AllowsLines) (c : JobCommand) (plan : Plan) (before opened : ℕ → Bool) (a b : Told) → plan_valid plan → ReadsPlan c plan before opened a b → (h : HasChecks c a) × IsCheckOf plan.dag plan.settings h.checks
checks_of allows c plan before opened a b valid r =
    let valid_job : fault r.job.dag (with_options c.options r.job.settings) ≡ None =
    ap (λ (s : Settings). fault r.job.dag s) (sym r.settings) ∙ ap (λ (g : Dag). fault g plan.settings) (sym r.dag) ∙ valid in
    let k = check_of allows r.job.dag (with_options c.options r.job.settings) valid_job in
    let of_plan : IsCheckOf plan.dag plan.settings k.0 =
    subst (λ (g : Dag). IsCheckOf g plan.settings k.0) (sym r.dag) (subst (λ (s : Settings). IsCheckOf r.job.dag s k.0) (sym r.settings) k.1) in
    (record { content = r.content; job = r.job; content_is = r.content_is; job_is = r.job_is; valid = valid_job; checks = k.0; is = k.1 }, of_plan)

-- what is said of every check of a job, where there is one
pub goes_of_all : (allows : AllowsLines) (c : JobCommand) (plan : Plan) (P : Checks → Told → Told → Type 0) (T : Told → Told → Type 0) (before opened : ℕ → Bool) → plan_valid plan
    → ((a b d : Told) (r : ReadsPlan c plan before opened a b) (h : HasChecks c a) → P h.checks b d → T a d)
    → (old mid new : Option Told) → WhereTold (ReadsPlan c plan before opened) old mid → ((k : Checks) → IsCheckOf plan.dag plan.settings k → WhereTold (P k) mid new) → WhereTold T old new
goes_of_all allows c plan P T before opened valid f None mid new r all = tt
goes_of_all allows c plan P T before opened valid f (Some a) None new r all = absurd r
goes_of_all allows c plan P T before opened valid f (Some a) (Some b) None r all =
    let found = checks_of allows c plan before opened a b valid r in
    absurd (all found.0.checks found.1)
goes_of_all allows c plan P T before opened valid f (Some a) (Some b) (Some d) r all =
    let found = checks_of allows c plan before opened a b valid r in
    f a b d r found.0 (all found.0.checks found.1)

-- the calls for the job file
abbrev pub job_calls : List ℕ → ℕ → List ℕ → List CallMade
job_calls name file counts = Opened name file ∷ map (Read file) counts

-- calls behind those for the job file
pub then_calls : (a b d first later : List CallMade) → b ≡ a ++ first → d ≡ b ++ later → d ≡ a ++ (first ++ later)
then_calls a b d first later one two = two ∙ ap (λ (l : List CallMade). l ++ later) one ∙ append_assoc a first later

-- the content that was read is that of the job
same_content : (c : JobCommand) (plan : Plan) (before opened : ℕ → Bool) (a b : Told) (r : ReadsPlan c plan before opened a b) (h : HasChecks c a) → r.content ≡ h.content
same_content c plan before opened a b r h = same_some r.content h.content (sym r.content_is ∙ h.content_is)
  where
    same_some : (x y : List ℕ) → Some x ≡ Some y → x ≡ y
    same_some x y h = cc h

-- and the plan is of that job
pub dag_is : (c : JobCommand) (plan : Plan) (before opened : ℕ → Bool) (a b : Told) → ReadsPlan c plan before opened a b → (h : HasChecks c a) → plan.dag ≡ h.job.dag
dag_is c plan before opened a b r h =
    r.dag ∙ ap (λ (j : JobText). j.dag) (same_job r.job h.job (sym r.job_is ∙ ap job_at (same_content c plan before opened a b r h) ∙ h.job_is))
  where
    same_job : (x y : JobText) → (let one : Result JobText JobFault = Ok x in one ≡ Ok y) → x ≡ y
    same_job x y h = cc h

-- the job file stays read whole where its number stays open at its place
pub read_whole : (c : JobCommand) (plan : Plan) (before opened now : ℕ → Bool) (a b d : Told) (r : ReadsPlan c plan before opened a b) (h : HasChecks c a) → now r.file ≡ true → d.place r.file ≡ b.place r.file
    → IsReadWhole c.job h.content before now d
read_whole c plan before opened now a b d r h added place = record {
  file = r.file;
  fresh = r.opened.fresh;
  opened = added;
  place = place ∙ r.place ∙ ap (λ (t : List ℕ). let p : Place = record { name = c.job; taken = length t } in p) (same_content c plan before opened a b r h);
}

pub goes_checked : (allows : AllowsLines) (c : JobCommand) (plan : Plan) (before opened now : ℕ → Bool) → plan_valid plan → (old mid new : Option Told) → WhereTold (ReadsPlan c plan before opened) old mid
    → ((k : Checks) → IsCheckOf plan.dag plan.settings k → WhereTold (Calling (IsChecked k opened now)) mid new) → WhereTold (Calling (IsCheckedJob c before now)) old new
goes_checked allows c plan before opened now valid =
    goes_of_all allows c plan (λ k. Calling (IsChecked k opened now)) (Calling (IsCheckedJob c before now)) before opened valid
    (λ a b d r h k. record {
      calls = job_calls c.job r.file r.counts ++ k.calls;
      trace = then_calls a.trace b.trace d.trace (job_calls c.job r.file r.counts) k.calls r.trace k.trace;
      did = record {
        job = h;
        read = read_whole c plan before opened now a b d r h (k.did.opened r.file r.opened.added) (k.did.places r.file r.opened.added);
        order = record {
          first = job_calls c.job r.file r.counts;
          later = k.calls;
          calls_are = refl;
          job = reads_only c.job r.file r.counts r.pieces r.few r.live;
          files = checked_same h.checks a b r.kept r.written r.file before opened now k.calls d r.opened r.others k.did;
        };
      };
    })

-- why the check of the files stopped, behind the calls for the job file
why_stopped : (c : JobCommand) (stop : Stop) (file : ℕ) (counts : List ℕ) (a b d : Told) → b.content ≡ a.content → b.written ≡ a.written → (h : HasChecks c a) (later : List CallMade) → CheckStops h.checks stop later b d
    → WhyHalted c (check_end c) (Stopped stop) (job_calls c.job file counts ++ later) a d
why_stopped c (BadLine part line why) file counts a b d kept written h later k = record {
  job = h;
  first = job_calls c.job file counts;
  later = later;
  calls_are = refl;
  order = k.order;
  turn = k.why.0;
  bad = bad_same h.checks a b kept written part line why d k.why.1;
}
why_stopped c (Outside call spot) file counts a b d kept written h later k = (fails_later c.job file counts call spot later k.why.0, inr (h, begun_same h.checks a b kept written d k.why.1))
why_stopped c NoMemory file counts a b d kept written h later k = inr (h, begun_same h.checks a b kept written d k.why)

halts_check : (c : JobCommand) (plan : Plan) (stop : Stop) (before opened : ℕ → Bool) (a b d : Told) (r : ReadsPlan c plan before opened a b) (h : HasChecks c a) → Calling (CheckStops h.checks stop) b d → Calling (CheckHalts c (Stopped stop)) a d
halts_check c plan stop before opened a b d r h k = record {
  calls = job_calls c.job r.file r.counts ++ k.calls;
  trace = then_calls a.trace b.trace d.trace (job_calls c.job r.file r.counts) k.calls r.trace k.trace;
  did = record {
    order = job_checked c a (job_calls c.job r.file r.counts ++ k.calls) (job_calls c.job r.file r.counts) k.calls refl (reads_only c.job r.file r.counts r.pieces r.few r.live) h k.did.order
        (turns_same h.checks a b r.kept r.written (numbered h.checks) k.did.order.turns k.did.turns);
    why = why_stopped c stop r.file r.counts a b d r.kept r.written h k.calls k.did;
  };
}

pub goes_check_stops : (allows : AllowsLines) (c : JobCommand) (plan : Plan) (stop : Stop) (before opened : ℕ → Bool) → plan_valid plan → (old mid new : Option Told) → WhereTold (ReadsPlan c plan before opened) old mid
    → ((k : Checks) → IsCheckOf plan.dag plan.settings k → WhereTold (Calling (CheckStops k stop)) mid new) → WhereTold (Calling (CheckHalts c (Stopped stop))) old new
goes_check_stops allows c plan stop before opened valid =
    goes_of_all allows c plan (λ k. Calling (CheckStops k stop)) (Calling (CheckHalts c (Stopped stop))) before opened valid (λ a b d r h s. halts_check c plan stop before opened a b d r h s)

-- the job of files that were checked is not refused
pub goes_check_known : (allows : AllowsLines) (c : JobCommand) (plan : Plan) (stops : Checks → Told → Told → Type 0) (stop : Stop) (before opened : ℕ → Bool) → plan_valid plan → (old mid new : Option Told) → WhereTold (ReadsPlan c plan before opened) old mid
    → ((k : Checks) → IsCheckOf plan.dag plan.settings k → WhereTold (stops k) mid new) → WhereTold (λ a b. IsKnown (text_refusal c.options (a.content c.job)) (Stopped stop)) old new
goes_check_known allows c plan stops stop before opened valid =
    goes_of_all allows c plan stops (λ a b. IsKnown (text_refusal c.options (a.content c.job)) (Stopped stop)) before opened valid
    (λ a b d r h s. none_known (text_refusal c.options (a.content c.job)) (Stopped stop) (ap (text_refusal c.options) h.content_is ∙ ap (job_refusal c.options) h.job_is ∙ ap (option_map refusal.Plan) h.valid))

-- the reading of the job file ended early
module _ (c : JobCommand) (e : EarlyEnd) (in_order : (told : Told) (calls : List CallMade) → ReadsJob c.job calls → e.in_order told calls) (begun : (a b : Told) → b.written ≡ a.written → e.begun a b) where
  why_read : (halt : Halt) (calls : List CallMade) (a b : Told) → IsNoBadHalt halt → ReadHalts c halt calls a b → WhyHalted c e halt calls a b
  why_read (Refused why) calls a b never h = (h.why, h.written)
  why_read (Stopped (BadLine part line why)) calls a b never h = absurd never
  why_read (Stopped (Outside call spot)) calls a b never h = (fails_first call spot calls h.why, begun a b h.written)
  why_read (Stopped NoMemory) calls a b never h = begun a b h.written

  pub goes_unread_job : (halt : Halt) (old new : Option Told) → IsNoBadHalt halt → WhereTold (Calling (ReadHalts c halt)) old new → WhereTold (Calling (JobHalts c e halt)) old new
  goes_unread_job halt old new never = goes_weaker (Calling (ReadHalts c halt)) (Calling (JobHalts c e halt)) (λ a b h. record {
    calls = h.calls;
    trace = h.trace;
    did = record { order = in_order a h.calls h.did.order; why = why_read halt h.calls a b never h.did };
  }) old new

-- so the calls for the job file are all
pub job_alone : (c : JobCommand) (such : List CallMade → Type 0) (calls : List CallMade) → such [] → ReadsJob c.job calls → JobFirst c such calls
job_alone c such calls none job = record { first = calls; later = []; calls_are = sym (append-nil calls); job = job; files = none }

pub goes_halts_read : (c : JobCommand) (halt : Halt) (old new : Option Told) → IsNoBadHalt halt → WhereTold (Calling (ReadHalts c halt)) old new → WhereTold (Calling (CheckHalts c halt)) old new
unfolding no_calls
goes_halts_read c = goes_unread_job c (check_end c) (λ told calls job. job_alone c (ChecksFiles c told) calls (record { order = no_calls (data_names c told); turns = inl refl }) job) (λ a b same. inl same)

-- which file is not there
pub lacks_job : (c : JobCommand) (told : Option Told) → LacksFile c.job told → LacksFiles c told
lacks_job c None h = tt
lacks_job c (Some t) h = inl h

pub lacks_data : (c : JobCommand) (plan : Plan) (before opened : ℕ → Bool) (old mid : Option Told) → WhereTold (ReadsPlan c plan before opened) old mid → LacksSome (data_files plan.dag) mid → LacksFiles c old
lacks_data c plan before opened None mid r h = tt
lacks_data c plan before opened (Some a) None r h = absurd r
lacks_data c plan before opened (Some a) (Some b) r h =
    let files : files_of (a.content c.job) ≡ data_files plan.dag = ap files_of r.content_is ∙ ap files_in r.job_is ∙ ap data_files (sym r.dag) in
    inr (subst (λ (fs : List DataFile). Any (λ (f : DataFile). a.content (file_name f) ≡ None) fs) (sym files)
    (subst (λ (ct : List ℕ → Option (List ℕ)). Any (λ (f : DataFile). ct (file_name f) ≡ None) (data_files plan.dag)) r.kept h))
