-- When a text is too long, and when it is no JSON.
use Rattle.std.proofs.Common.{◌≡◌, ℕ, ◌<◌, ◌≤◌, Bool, true, false, List, length, nat_lt, refl, arith, subst, ap}
use Rattle.std.proofs.lemmas.Bool.Decides.{nat_tests}
use Rattle.std.specs.Prelude.{Option, Some, None, Result, Ok, Err, IfOk, if◌then◌else◌}
use Rattle.std.specs.Option.{ok_or}
use Rattle.std.specs.Str.{is_utf8}
use Rattle.serde_json.specs.Data.{Data}
use Rattle.serde_json.specs.Read.{read}
use Rattle.jet_job.specs.declared.fault.JobFault.{JobFault}
use Rattle.jet_job.specs.declared.fault.JobFault.TheVariants.{Long, NotJson}
use Rattle.jet_job.specs.declared.job_text.JobText.{JobText}
use Rattle.jet_items.specs.declared.no_memory.Refused.{Refused}
use Rattle.jet_items.specs.declared.no_memory.Refused.TheVariants.{Fault, NoMemory}
use Rattle.jet_items.specs.Gives.{Gives}
use Rattle.jet_job.specs.InForm.{IsInForm}
use Rattle.jet_job.specs.Members.{◌>>=◌}
use Rattle.jet_job.specs.Jobs.{job_in, json_at, job_at}
use Rattle.jet_job.proofs.Sound.{Sound, HasPlace}
use Rattle.jet_job.proofs.SoundJobs.{job_sound}

-- a fault with a place is no other
no_other : {X : Type 0} (P : X → Type 0) (r : Result X JobFault) (f : JobFault) → Sound P r → (HasPlace f → ⊥) → r ≡ Err f → ⊥
no_other P (Ok x) f h other is = absurd (cc is)
no_other P (Err e) f h other is = let same : e ≡ f = cc in other (subst HasPlace same h)

long_has_none : HasPlace Long → ⊥
long_has_none h = absurd (cc h)

not_json_has_none : HasPlace NotJson → ⊥
not_json_has_none h = absurd (cc h)

is_not_long : (b : Bool) (o : Option Data) → (if b then ok_or o NotJson else Err NotJson) ≡ Err Long → ⊥
is_not_long true (Some d) is = absurd (cc is)
is_not_long true None is = absurd (cc is)
is_not_long false o is = absurd (cc is)

same_fault : (e f : JobFault) (r : Result JobText JobFault) → r ≡ Err e → r ≡ Err f → e ≡ f
same_fault e f r this that = cc

long_where : (b : Bool) (r : Result Data JobFault) → (r ≡ Err Long → ⊥) → (if b then Err Long else (r >>= job_in)) ≡ Err Long → b ≡ true
long_where true r not_long is = refl
long_where false (Ok d) not_long is = absurd (no_other IsInForm (job_in d) Long (job_sound d) long_has_none is)
long_where false (Err e) not_long is = absurd (not_long (ap Err (same_fault e Long (Err e) refl is)))

-- only a text of more bytes is too long
pub long_only : (text : List ℕ) → job_at text ≡ Err Long → 1048576 < length text
long_only text is = let more = long_where (nat_lt 1048576 (length text)) (json_at text) (is_not_long (is_utf8 text) (read text)) is in grind (arith, nat_tests)

not_json_where : (b : Bool) (r : Result Data JobFault) → (if b then Err Long else (r >>= job_in)) ≡ Err NotJson → (b ≡ false) × (r ≡ Err NotJson)
not_json_where true r is = absurd (cc is)
not_json_where false (Ok d) is = absurd (no_other IsInForm (job_in d) NotJson (job_sound d) not_json_has_none is)
not_json_where false (Err e) is = (refl, ap Err (same_fault e NotJson (Err e) refl is))

-- only a text that is short enough and not read is no JSON
pub not_json_only : (text : List ℕ) → job_at text ≡ Err NotJson → (length text ≤ 1048576) × (json_at text ≡ Err NotJson)
not_json_only text is =
    let both = not_json_where (nat_lt 1048576 (length text)) (json_at text) is in
    (let few = both.0 in grind (arith, nat_tests), both.1)

-- a fault that is answered is that of the text
pub answered : {X : Type 0} (r : Result X (Refused JobFault)) (wanted : Result X JobFault) (f : JobFault) → Gives r wanted → r ≡ Err (Fault f) → wanted ≡ Err f
answered (Ok x) wanted f gives is = absurd (cc is)
answered (Err (Fault e)) wanted f gives is = let same : e ≡ f = cc in subst (λ g. wanted ≡ Err g) same gives
answered (Err NoMemory) wanted f gives is = absurd (cc is)

formed : (r : Result JobText JobFault) (job : JobText) → Sound IsInForm r → r ≡ Ok job → IsInForm job
formed (Ok x) job h is = let same : x ≡ job = cc in subst IsInForm same h
formed (Err e) job h is = absurd (cc is)

formed_where : (b : Bool) (r : Result Data JobFault) (job : JobText) → (if b then Err Long else (r >>= job_in)) ≡ Ok job → IsInForm job
formed_where true r job is = absurd (cc is)
formed_where false (Ok d) job is = formed (job_in d) job (job_sound d) is
formed_where false (Err e) job is = absurd (cc is)

-- a job that was read is in form
pub in_form : (text : List ℕ) (job : JobText) → job_at text ≡ Ok job → IsInForm job
in_form text job is = formed_where (nat_lt 1048576 (length text)) (json_at text) job is

-- what a job of the text holds, an answered one holds
pub given : {X : Type 0} (P : X → Type 0) (r : Result X (Refused JobFault)) (wanted : Result X JobFault) → Gives r wanted → ((x : X) → wanted ≡ Ok x → P x) → IfOk r P
given P (Ok x) wanted gives holds = holds x gives
given P (Err e) wanted gives holds = tt
