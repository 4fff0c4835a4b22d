-- A run from its beginning to its end.
use Rattle.std.proofs.Common.{◌≡◌, ◌≤◌, ◌∙◌, ℕ, Bool, List, Option, Result, Ok, Err, sym, subst}
use Rattle.std.specs.Prelude.{IfErr, IfOk, MatchResult, OnOk}
use Rattle.jet_conveyor.specs.Conveyor.{view as lanes}
use Rattle.jet_engine.specs.Jobs.{IsReady}
use Rattle.jet_file.proofs.GoesLaws.{goes_then}
use Rattle.jet_file.specs.Outside.{Told, WhereTold}
use Rattle.jet_flow.specs.DataFiles.{DataFile}
use Rattle.jet_items.specs.Rows.{Window}
use Rattle.jet_sink.specs.Alike.{AreAlike}
use Rattle.jet_sink.specs.View.{view}
use Rattle.jet_worker.specs.Calls.{Calling}
use Rattle.jet_worker.specs.CheckText.{Checks}
use Rattle.jet_worker.specs.Checked.{LacksSome}
use Rattle.jet_worker.specs.Opening.{AreNew, Opened}
use Rattle.jet_worker.specs.Stopping.{CauseOfStop, IsForOutside, OpenOutcome, Outcome}
use Rattle.jet_worker.specs.declared.stop.Stop.{Stop}
use Rattle.jet_coordinator.specs.Begun.{HasBegun}
use Rattle.jet_coordinator.specs.Carried.{HasCarried}
use Rattle.jet_coordinator.specs.Going.{CanGo}
use Rattle.jet_coordinator.specs.Progress.{AreOpen, ComesOn, HasComeTo, IsAtEnd, StopsFrom}
use Rattle.jet_coordinator.specs.Runs.{HasRun, RunStops}
use Rattle.jet_coordinator.specs.declared.run.Running.{Running}

-- what the law of ended runs says of the outputs, and of the rings
abbrev pub RunsWhole : Type 0
RunsWhole = (c : Checks) → (windows : List Window) → (opened : List Opened) → (start now : Told) → (r : Running) → (before is_open : ℕ → Bool) → AreOpen c opened start
    → HasComeTo c windows opened start now r → IsAtEnd r → AreNew before is_open opened → AreAlike (view r.sink).marks.queues (lanes r.job.sink)
    → Calling (HasRun c windows before is_open) start now

abbrev pub CarriesAll : Type 0
CarriesAll = (c : Checks) → (windows : List Window) → (opened : List Opened) → (start now : Told) → (r : Running) → AreOpen c opened start
    → HasComeTo c windows opened start now r → IsAtEnd r → IsReady r.job → AreAlike (view r.sink).marks.queues (lanes r.job.sink)
    → HasCarried c windows r.job start now

pub runs_whole : RunsWhole → (c : Checks) (windows : List Window) (before is_open next : ℕ → Bool) (a b : Running) (told now new : Option Told) → next ≡ is_open → CanGo next b → IsAtEnd b
    → WhereTold (HasBegun c windows before is_open a) told now → WhereTold (ComesOn a b) now new → WhereTold (Calling (HasRun c windows before next)) told new
runs_whole law c windows before is_open next a b told now new same fit end =
    goes_then (HasBegun c windows before is_open a) (ComesOn a b) (Calling (HasRun c windows before next)) (λ x y z h on.
    law c windows h.opened x z b before next h.are (on c windows h.opened x h.come) end (subst (λ (o : ℕ → Bool). AreNew before o h.opened) (sym same) h.new) fit.alike) told now new

pub carries_all : CarriesAll → (c : Checks) (windows : List Window) (before is_open next : ℕ → Bool) (a b : Running) (told now new : Option Told) → CanGo next b → IsAtEnd b
    → WhereTold (HasBegun c windows before is_open a) told now → WhereTold (ComesOn a b) now new → WhereTold (HasCarried c windows b.job) told new
carries_all law c windows before is_open next a b told now new fit end =
    goes_then (HasBegun c windows before is_open a) (ComesOn a b) (HasCarried c windows b.job) (λ x y z h on.
    law c windows h.opened x z b h.are (on c windows h.opened x h.come) end fit.ready fit.alike) told now new

pub stops_begun : (c : Checks) (windows : List Window) (before is_open : ℕ → Bool) (a : Running) (stop : Stop) (told now new : Option Told)
    → WhereTold (HasBegun c windows before is_open a) told now → WhereTold (StopsFrom a stop) now new → WhereTold (Calling (RunStops c windows stop)) told new
stops_begun c windows before is_open a stop told now new =
    goes_then (HasBegun c windows before is_open a) (StopsFrom a stop) (Calling (RunStops c windows stop)) (λ x y z h stops. stops c windows h.opened x h.are h.come) told now new

-- ---- answers

-- the outcome of what was opened, and of all behind it
pub outcome_behind : {S T : Type 0} (opened : S → ℕ → Bool) (steady : S → Bool) (faults : S → ℕ) (start now next : S) (r : Result T Stop) → steady now ≡ steady start → faults now ≡ faults start
    → Outcome opened steady faults now next r → OpenOutcome steady faults start next r
outcome_behind {T} opened steady faults start now next r steady_same faults_same o = record {
  steady_same = o.steady_same ∙ steady_same;
  later = subst (λ (n : ℕ). n ≤ faults next) faults_same o.later;
  cause = subst (λ (n : ℕ). MatchResult r (λ (x : T). faults next ≡ n) (CauseOfStop n (faults next))) faults_same o.cause;
}

-- no call that is steady fails
pub never_outside : {T : Type 0} (r : Result T Stop) (files : List DataFile) (told : Option Told) → IfErr r (λ stop. IsForOutside stop → ⊥) → IfErr r (λ stop. IsForOutside stop → LacksSome files told)
never_outside (Ok x) files told h = h
never_outside (Err e) files told h = λ outside. absurd (h outside)

-- two things that are said of an answer
pub both_ok : {T E : Type 0} (P Q : T → Type 0) (r : Result T E) → IfOk r P → IfOk r Q → IfOk r (λ x. P x × Q x)
both_ok P Q (Ok x) p q = (p, q)
both_ok P Q (Err e) p q = p

pub ok_is : {T E : Type 0} {P : T → Type 0} {Q : Type 0} (r : Result T E) → IfOk r P → ((x : T) → P x → Q) → OnOk r Q
ok_is (Ok x) h weaker = weaker x h
ok_is (Err e) h weaker = h
