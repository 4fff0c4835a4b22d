-- What a run of writes to one output did.
use Rattle.std.specs.Prelude.{◌≡◌, ◌≢◌, ℕ, ◌<◌, List, [], ◌∷◌, ◌++◌, length, take, map, sum, All, Result, Ok, Err}
use Rattle.jet_file.specs.Outside.{Told, CallMade, Wrote, Missed, Tried, Writing}
use Rattle.jet_file.specs.declared.outside.Out.{Out}
use Rattle.jet_file.specs.declared.outside.OutFault.{OutFault}
use Rattle.jet_file.specs.declared.outside.OutFault.TheVariants.{Failed, NoMemory}

-- what a call that answers a fault adds to the trace: itself where it failed, and nothing where it found no memory
abbrev pub missed : Tried → OutFault → List CallMade
missed tried Failed = Missed tried ∷ []
missed tried NoMemory = []

-- these bytes were appended to the output in writes of these lengths, then came the last entries; all else stays
pub record HasWritten (to : Out) (bytes : List ℕ) (last : List CallMade) (old now : Told) : Type 0 where
  pub lengths : List ℕ
  pub each : All (λ n. 0 < n) lengths
  pub sum : sum lengths ≡ length bytes
  pub content : now.content ≡ old.content
  pub place : now.place ≡ old.place
  pub written : now.written to ≡ old.written to ++ bytes
  pub others : (other : Out) → other ≢ to → now.written other ≡ old.written other
  pub trace : now.trace ≡ old.trace ++ map (Wrote to) lengths ++ last

-- the first n bytes were written, and not all, and then a call answered this fault
pub record WritesFront (to : Out) (bytes : List ℕ) (fault : OutFault) (old new : Told) : Type 0 where
  pub n : ℕ
  pub short : n < length bytes
  pub wrote : HasWritten to (take n bytes) (missed (Writing to) fault) old new

-- all bytes were written, or a front of them and then a call answered the fault
abbrev pub WritesAll : {T : Type 0} → Out → List ℕ → Result T OutFault → Told → Told → Type 0
WritesAll to bytes (Ok done) = HasWritten to bytes []
WritesAll to bytes (Err fault) = WritesFront to bytes fault
