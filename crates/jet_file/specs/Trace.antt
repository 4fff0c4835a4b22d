-- The calls that an outside in memory has had, whole and in short.
use Rattle.jet_file.specs.Outside.{CallMade, Opened, Read, Wrote, Missed, Opening, Reading, Writing}
use Rattle.jet_file.specs.declared.trace.Note.{Note}
use Rattle.jet_file.specs.declared.trace.Note.TheVariants as whole
use Rattle.jet_file.specs.declared.trace.CallNote.{CallNote}
use Rattle.jet_file.specs.declared.trace.CallNote.TheVariants as short

-- what a kept call tells
abbrev pub entry_of : Note → CallMade
entry_of (whole.Opened name file) = Opened name.items file
entry_of (whole.Read file n) = Read file n
entry_of (whole.Wrote to n) = Wrote to n
entry_of (whole.MissedOpen name) = Missed (Opening name.items)
entry_of (whole.MissedRead file) = Missed (Reading file)
entry_of (whole.MissedWrite to) = Missed (Writing to)

-- an entry in short: an opening without its name, and a failed call without its place
abbrev pub note_of : CallMade → CallNote
note_of (Opened name file) = short.Opened file
note_of (Read file n) = short.Read file n
note_of (Wrote to n) = short.Wrote to n
note_of (Missed tried) = short.Failed
