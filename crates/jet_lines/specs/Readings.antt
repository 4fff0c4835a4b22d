-- What a line holds, or its first fault.
use Rattle.std.specs.Prelude.{◌≡◌, ⊤, ℕ, Bool, bytes_eq, codes, nat_lt, nat_le, ◌&&◌, not, ℤ, pos, List, [], ◌∷◌, length, position, slice_get, Option, Some, None, Result, Ok, Err, if◌then◌else◌}
use Rattle.jet_items.specs.KeyFaults.{key_at}
use Rattle.jet_items.specs.Values.{EventValue, SideValue}
use Rattle.jet_items.specs.declared.key.KeyFault.{KeyFault}
use Rattle.jet_items.specs.declared.no_memory.Refused.{Refused}
use Rattle.jet_items.specs.declared.no_memory.Refused.TheVariants as refused
use Rattle.jet_lines.specs.Grammar.{is_line_byte}
use Rattle.jet_lines.specs.Numbers.{number_at}
use Rattle.jet_lines.specs.Scan.{fields_of}
use Rattle.jet_lines.specs.declared.entry.Entry.{Entry}
use Rattle.jet_lines.specs.declared.entry.Entry.TheVariants as entry
use Rattle.jet_lines.specs.declared.fault.LineFault.{LineFault}
use Rattle.jet_lines.specs.declared.fault.LineFault.TheVariants.{TooLong, BadByte, Quote, Fields, Number, Key}

-- go on with what was read, unless there is a fault
infixl 10 ◌>>=◌
abbrev pub ◌>>=◌ : {A B : Type 0} → Result A LineFault → (A → Result B LineFault) → Result B LineFault
(Ok x) >>= f = f x
(Err e) >>= f = Err e

-- the fields, or that the line is no list of fields
abbrev pub fields_or_fault : Option (List (List ℕ)) → Result (List (List ℕ)) LineFault
fields_or_fault None = Err Quote
fields_or_fault (Some fields) = Ok fields

-- the fields, unless a byte is bad
abbrev pub fields_behind : List ℕ → Option ℕ → Result (List (List ℕ)) LineFault
fields_behind line None = fields_or_fault (fields_of line)
fields_behind line (Some at) = Err (BadByte at)

-- the fields of a line, where it isn't too long, has no bad byte, and is plain and quoted fields between commas; `fields_of`
-- reads them from the left, and the law `fields_are_of_the_grammar` says that they are those of the grammar
abbrev pub fields_at : List ℕ → Result (List (List ℕ)) LineFault
fields_at line = if nat_lt 512 (length line) then Err TooLong else fields_behind line (position (λ b. not (is_line_byte b)) line)

-- a number, or that number i of the line is none
abbrev pub number_or_fault : ℕ → Option ℤ → Result ℤ LineFault
number_or_fault i None = Err (Number i)
number_or_fault i (Some z) = Ok z

-- number i of the line; a missing one is 0
abbrev pub value_at : ℕ → Option (List ℕ) → Result ℤ LineFault
value_at i None = Ok (pos 0)
value_at i (Some text) = number_or_fault i (number_at text)

-- a key, or its fault
abbrev pub key_or_fault : Result (List ℕ) KeyFault → Result (List ℕ) LineFault
key_or_fault (Ok key) = Ok key
key_or_fault (Err fault) = Err (Key fault)

-- the key that a field holds
abbrev pub key_of : Option (List ℕ) → Result (List ℕ) LineFault
key_of None = Err Fields
key_of (Some text) = key_or_fault (key_at 24 text)

-- v0 to v3, from the third field on
abbrev pub values_at : List (List ℕ) → Result (List ℤ) LineFault
values_at fields = do
  v0 ← value_at 1 (slice_get fields 2)
  v1 ← value_at 2 (slice_get fields 3)
  v2 ← value_at 3 (slice_get fields 4)
  v3 ← value_at 4 (slice_get fields 5)
  Ok (v0 ∷ v1 ∷ v2 ∷ v3 ∷ [])

-- the event of three to six fields: a time, a key and values
abbrev pub event_at : ℕ → ℕ → List (List ℕ) → Result EventValue LineFault
event_at part number fields = if nat_le 3 (length fields) && nat_le (length fields) 6 then (do
  ts ← value_at 0 (slice_get fields 0)
  key ← key_of (slice_get fields 1)
  v ← values_at fields
  Ok (record { part = part; line = number; ts = ts; key = key; v = v })) else Err Fields

-- the row of two to six fields: a key, a label and values
abbrev pub side_at : ℕ → List (List ℕ) → Result SideValue LineFault
side_at number fields = if nat_le 2 (length fields) && nat_le (length fields) 6 then (do
  key ← key_of (slice_get fields 0)
  label ← key_of (slice_get fields 1)
  v ← values_at fields
  Ok (record { line = number; key = key; label = label; v = v })) else Err Fields

-- what a line holds: nothing, or what its fields do
abbrev pub line_at : {A : Type 0} → (List (List ℕ) → Result A LineFault) → List ℕ → Result (Option A) LineFault
line_at item [] = Ok None
line_at item (b ∷ bytes) = do
  fields ← fields_at (b ∷ bytes)
  x ← item fields
  Ok (Some x)

-- an idle note: the partition takes no part in the least watermark until its next event
abbrev pub is_idle : List ℕ → Bool
is_idle line = bytes_eq line (codes "#idle")

-- the entry of a line that is no idle note
abbrev pub entry_of : Option EventValue → Entry
entry_of None = entry.Nothing
entry_of (Some e) = entry.Event e

-- what a line of a source file holds: an idle note, and else nothing or an event
abbrev pub entry_at : ℕ → ℕ → List ℕ → Result Entry LineFault
entry_at part number line = if is_idle line then Ok entry.Idle else (do
  found ← line_at (event_at part number) line
  Ok (entry_of found))

-- the event of an entry; an idle note is none
abbrev pub event_in : Entry → Option EventValue
event_in entry.Nothing = None
event_in (entry.Event e) = Some e
event_in entry.Idle = None

-- the number of the line, where it is an idle note
abbrev pub idle_in : ℕ → Entry → Option ℕ
idle_in number entry.Nothing = None
idle_in number (entry.Event e) = None
idle_in number entry.Idle = Some number

-- the event of line n of a source file
abbrev pub event_line : ℕ → ℕ → List ℕ → Result (Option EventValue) LineFault
event_line part number line = do
  entry ← entry_at part number line
  Ok (event_in entry)

-- line n of a source file as an idle note, whatever the number of the file
abbrev pub idle_line : ℕ → List ℕ → Result (Option ℕ) LineFault
idle_line number line = do
  entry ← entry_at 0 number line
  Ok (idle_in number entry)

-- the row of line n of a side file
abbrev pub side_line : ℕ → List ℕ → Result (Option SideValue) LineFault
side_line number line = line_at (side_at number) line

-- a call refused a line, for its fault or for want of memory
abbrev pub Fails : {A : Type 0} → Refused LineFault → Result A LineFault → Type 0
Fails refused.NoMemory read = ⊤
Fails (refused.Fault fault) read = read ≡ Err fault

-- what a call answered, seen by view, is what reading gives, unless memory ran out
abbrev pub Gives : {X A : Type 0} → (X → A) → Result X (Refused LineFault) → Result A LineFault → Type 0
Gives view (Ok x) read = read ≡ Ok (view x)
Gives view (Err e) read = Fails e read
