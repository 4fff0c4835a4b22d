-- What an outside in memory tells.
use Rattle.std.specs.Prelude.{◌≡◌, ⊤, Bool, true, false, not, ◌||◌, nat_lt, ◌==◌, ◌+◌, ◌-◌, ◌^◌, min, ℕ, List, length, is_some, Result, Ok, Err}
use Rattle.std.specs.List.{list_any}
use Rattle.jet_file.specs.Outside.{Told}
use Rattle.jet_file.specs.declared.outside.Out.{Out}
use Rattle.jet_file.specs.declared.outside.Out.TheVariants.{Rows, Notes}
use Rattle.jet_file.specs.declared.outside.OutFault.{OutFault}
use Rattle.jet_file.specs.declared.outside.OutFault.TheVariants.{Failed, NoMemory}
use Rattle.jet_file.specs.Contents.{content_in}
use Rattle.jet_file.specs.Places.{place_in}
use Rattle.jet_file.specs.declared.memory.MemoryOutside.{MemoryOutside}

-- what was written to each output
abbrev pub written_in : List ℕ → List ℕ → Out → List ℕ
written_in rows notes Rows = rows
written_in rows notes Notes = notes

-- it tells all
abbrev pub memory_told : MemoryOutside → Told
memory_told m = record {
  content = content_in m.files.items;
  place = place_in m.opened.items;
  written = written_in m.rows.items m.notes.items;
  trace = m.trace;
}

-- the opened numbers are those below the number of openings
abbrev pub memory_opened : MemoryOutside → ℕ → Bool
memory_opened m = λ file. nat_lt file (length m.opened.items)

-- no call is to fail
abbrev pub memory_steady : MemoryOutside → Bool
memory_steady m = length m.fail.items == 0

-- how many calls failed
abbrev pub memory_faults : MemoryOutside → ℕ
memory_faults m = min m.faults (2 ^ 64 - 1)

-- how many calls were made; the count stops at its last value
abbrev pub memory_calls : MemoryOutside → ℕ
memory_calls m = m.called

-- the numbers of the calls that are to fail
abbrev pub memory_fail : MemoryOutside → List ℕ
memory_fail m = m.fail.items

-- the most bytes that a call moves
abbrev pub memory_most : MemoryOutside → ℕ
memory_most m = m.most

-- the number of the next call, from 1 on
abbrev pub next_call : MemoryOutside → ℕ
next_call m = min (memory_calls m + 1) (2 ^ 64 - 1)

-- the number of the next call is one of those that are to fail
abbrev pub is_to_fail : MemoryOutside → Bool
is_to_fail m = list_any (λ n. n == next_call m) (memory_fail m)

-- an opening misses where it is to fail, and where no file has the name
abbrev pub is_to_miss : MemoryOutside → List ℕ → Bool
is_to_miss m name = is_to_fail m || not (is_some ((memory_told m).content name))

-- a call that is to fail does not do its work, and no other answers Failed
abbrev pub FailsWhere : {T : Type 0} → Bool → Result T OutFault → Type 0
FailsWhere to_fail (Ok x) = to_fail ≡ false
FailsWhere to_fail (Err Failed) = to_fail ≡ true
FailsWhere to_fail (Err NoMemory) = ⊤

-- one more call was made; which calls are to fail and how much one moves stay
pub record CountsCall (old new : MemoryOutside) : Type 0 where
  pub called : memory_calls new ≡ next_call old
  pub fail : memory_fail new ≡ memory_fail old
  pub most : memory_most new ≡ memory_most old

-- the opened numbers, what will fail and what has failed stay
pub record KeepsCalls (old new : MemoryOutside) : Type 0 where
  pub opened : memory_opened new ≡ memory_opened old
  pub fail : new.fail.items ≡ old.fail.items
  pub called : new.called ≡ old.called
  pub most : new.most ≡ old.most
  pub faults : new.faults ≡ old.faults
