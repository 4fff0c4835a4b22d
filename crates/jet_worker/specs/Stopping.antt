-- What a stop says of the outside.
use Rattle.std.specs.Prelude.{◌≡◌, ℕ, ◌≤◌, Bool, true, ⊤, List, [], ◌∷◌, Result, MatchResult, IfErr}
use Rattle.jet_file.specs.Causes.{Rose}
use Rattle.jet_file.specs.Outside.{CallMade, Missed, Tried, Reading, Writing}
use Rattle.jet_file.specs.declared.outside.Out.TheVariants as out
use Rattle.jet_worker.specs.declared.stop.Call.{Call}
use Rattle.jet_worker.specs.declared.stop.Call.TheVariants.{Read, Write}
use Rattle.jet_worker.specs.declared.stop.Spot.{Spot}
use Rattle.jet_worker.specs.declared.stop.Spot.TheVariants.{Rows, Notes}
use Rattle.jet_worker.specs.declared.stop.Stop.{Stop}
use Rattle.jet_worker.specs.declared.stop.Stop.TheVariants.{BadLine, Outside, NoMemory}

-- the call that is named is a write to the output that is named
abbrev pub IsWriting : Call → Spot → Tried → Type 0
IsWriting Write Rows (Writing out.Rows) = ⊤
IsWriting Write Notes (Writing out.Notes) = ⊤
IsWriting call spot tried = ⊥

-- the call that is named is a read of the opened file for this spot, or a write
abbrev pub IsCallIn : Spot → ℕ → Call → Spot → Tried → Type 0
IsCallIn spot file Read at (Reading other) = (at ≡ spot) × (other ≡ file)
IsCallIn spot file call at tried = IsWriting call at tried

-- the stop names such a call, whose entry comes last; where it is for another cause no call failed
abbrev pub LastIs : (Call → Spot → Tried → Type 0) → Stop → List CallMade → Type 0
LastIs such (BadLine part line why) last = last ≡ []
LastIs such (Outside call spot) last = (tried : Tried) × (last ≡ Missed tried ∷ []) × such call spot tried
LastIs such NoMemory last = last ≡ []

-- the stop names this call at this place, whose entry comes last; or memory was wanted, and nothing comes
abbrev pub LastOf : Call → Spot → Tried → Stop → List CallMade → Type 0
LastOf call spot tried (BadLine part line why) last = ⊥
LastOf call spot tried (Outside failed at) last = (failed ≡ call) × (at ≡ spot) × (last ≡ Missed tried ∷ [])
LastOf call spot tried NoMemory last = last ≡ []

-- the stop is for a call that failed
abbrev pub IsForOutside : Stop → Type 0
IsForOutside (BadLine part line why) = ⊥
IsForOutside (Outside call spot) = ⊤
IsForOutside NoMemory = ⊥

-- the stop is for another cause than a bad line
abbrev pub IsNoBadLine : Stop → Type 0
IsNoBadLine (BadLine part line why) = ⊥
IsNoBadLine (Outside call spot) = ⊤
IsNoBadLine NoMemory = ⊤

-- the stop is for this call at this place, or for want of memory
abbrev pub IsOfCall : Call → Spot → Stop → Type 0
IsOfCall call spot (BadLine part line why) = ⊥
IsOfCall call spot (Outside failed at) = (failed ≡ call) × (at ≡ spot)
IsOfCall call spot NoMemory = ⊤

-- the count of faults rose where the stop is for the outside, and stays where it is not
abbrev pub CauseOfStop : ℕ → ℕ → Stop → Type 0
CauseOfStop before now (BadLine part line why) = now ≡ before
CauseOfStop before now (Outside call spot) = Rose before now
CauseOfStop before now NoMemory = now ≡ before

-- what every step of a run says of opened numbers and faults
pub record Outcome {S T : Type 0} (opened : S → ℕ → Bool) (steady : S → Bool) (faults : S → ℕ) (old now : S) (result : Result T Stop) : Type 0 where
  pub opened_same : opened now ≡ opened old
  pub steady_same : steady now ≡ steady old
  pub later : faults old ≤ faults now
  pub cause : MatchResult result (λ _. faults now ≡ faults old) (CauseOfStop (faults old) (faults now))
  pub works : steady old ≡ true → IfErr result (λ stop. IsForOutside stop → ⊥)

-- what a step that may open a file says of faults
pub record OpenOutcome {S T : Type 0} (steady : S → Bool) (faults : S → ℕ) (old now : S) (result : Result T Stop) : Type 0 where
  pub steady_same : steady now ≡ steady old
  pub later : faults old ≤ faults now
  pub cause : MatchResult result (λ _. faults now ≡ faults old) (CauseOfStop (faults old) (faults now))
