-- Worked lines and files, computed from the definitions.
use Rattle.std.proofs.Common.{◌≡◌, ◌∷◌, [], pos, neg_ℤ, Some, None, codes, refl, replicate}
use Rattle.std.specs.Prelude.{Ok, Err}
use Rattle.csv.specs.Machine.{next_record}
use Rattle.csv.specs.Reading.{default_config}
use Rattle.csv.specs.declared.parser.State.TheVariants as st
use Rattle.jet_items.specs.declared.key.KeyFault.TheVariants as key
use Rattle.jet_lines.specs.declared.entry.Entry.TheVariants as entry
use Rattle.jet_lines.specs.declared.fault.LineFault.TheVariants.{TooLong, BadByte, Quote, Fields, Number, Key, TooMany}
use Rattle.jet_lines.specs.Scan.{fields_from, fields_of}
use Rattle.jet_lines.specs.Readings.{entry_at, event_line, idle_line, side_line}
use Rattle.jet_lines.specs.Files.{first_bad_line, idles_of}

quoted : fields_of (codes "5,\"a\"\"b,c\",,1") ≡ Some (codes "5" ∷ codes "a\"b,c" ∷ [] ∷ codes "1" ∷ [])
unfolding fields_from
quoted = refl

no_fields : (fields_of (codes "5,\"a,1") ≡ None) × (fields_of (codes "5,a\"b,1") ≡ None) × (fields_of (codes "5,\"a\"b,1") ≡ None)
unfolding fields_from
no_fields = (refl, refl, refl)

faults : (event_line 0 1 (codes "5,a") ≡ Err Fields) × (event_line 0 1 (codes "5,a,1,2,3,4,5") ≡ Err Fields)
    × (event_line 0 1 (codes "5,,1") ≡ Err (Key key.Empty)) × (event_line 0 1 (codes "5,a b,1") ≡ Err (Key (key.BadByte 1)))
    × (event_line 0 1 (codes "5,\"a,1") ≡ Err Quote) × (event_line 0 1 (codes "1000000000000001,a,1") ≡ Err (Number 0))
    × (event_line 0 1 (replicate 513 97) ≡ Err TooLong) × (event_line 0 1 (codes "5,a,x,\t") ≡ Err (BadByte 6))
    × (event_line 0 1 (codes "x,,y") ≡ Err (Number 0)) × (event_line 0 1 (codes "5,a,1,,y") ≡ Err (Number 2))
unfolding fields_from
faults = (refl, refl, refl, refl, refl, refl, refl, refl, refl, refl)

event : event_line 3 7 (codes "-0005,\"a:x\",1,-2") ≡ Ok (Some (record { part = 3; line = 7; ts = neg_ℤ (pos 5); key = codes "a:x"; v = pos 1 ∷ neg_ℤ (pos 2) ∷ pos 0 ∷ pos 0 ∷ [] }))
unfolding fields_from
event = refl

side : side_line 7 (codes "a,x") ≡ Ok (Some (record { line = 7; key = codes "a"; label = codes "x"; v = pos 0 ∷ pos 0 ∷ pos 0 ∷ pos 0 ∷ [] }))
unfolding fields_from
side = refl

-- an idle note has these five bytes and no others, and is none in a side file
notes : (entry_at 3 7 (codes "#idle") ≡ Ok entry.Idle) × (entry_at 3 7 [] ≡ Ok entry.Nothing) × (event_line 3 7 (codes "#idle") ≡ Ok None)
    × (idle_line 7 (codes "#idle") ≡ Ok (Some 7)) × (idle_line 7 (codes "5,a,1") ≡ Ok None) × (event_line 0 1 (codes "#idle ") ≡ Err Fields)
    × (event_line 0 1 (codes "#IDLE") ≡ Err Fields) × (event_line 0 1 (codes "\"#idle\"") ≡ Err Fields) × (side_line 1 (codes "#idle") ≡ Err Fields)
unfolding fields_from
notes = (refl, refl, refl, refl, refl, refl, refl, refl, refl)

-- notes before the first bad line count, and none behind it
noted : (idles_of 9 (codes "#idle\n5,a,1\n\n#idle\r\nx\n#idle\n") ≡ 1 ∷ 4 ∷ []) × (first_bad_line (event_line 0) 9 (codes "#idle\n5,a,1\nx\n") ≡ Some (3, Fields))
unfolding fields_from
noted = (refl, refl)

-- with two lines a third is too many, also where it is empty
many : (first_bad_line (event_line 0) 2 (codes "5,a,1\n\n\n") ≡ Some (3, TooMany)) × (first_bad_line (event_line 0) 2 (codes "5,a,1\r\n\n") ≡ None)
unfolding fields_from
many = (refl, refl)

-- csv reads text that is no list of plain and quoted fields, so the form is tested before
csv_takes_all : (next_record default_config st.StartRecord [] [] (codes "a\"b") ≡ Some (codes "a\"b" ∷ [], st.StartRecord, []))
    × (next_record default_config st.StartRecord [] [] (codes "\"a\"b") ≡ Some (codes "ab" ∷ [], st.StartRecord, []))
    × (next_record default_config st.StartRecord [] [] (codes "\"a") ≡ Some (codes "a" ∷ [], st.StartRecord, []))
unfolding next_record
csv_takes_all = (refl, refl, refl)
