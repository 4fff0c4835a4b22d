-- Worked lines and traces, computed from the definitions.
use Rattle.std.proofs.Common.{◌≡◌, ℤ, pos, List, [], ◌∷◌, ◌++◌, refl}
use Rattle.std.specs.Fmt.{digits}
use Rattle.std.specs.Prelude.{codes}
use Rattle.jet_items.specs.Rows.{Window}
use Rattle.jet_items.specs.Values.{EventValue, RowValue}
use Rattle.jet_file.specs.Outside.{CallMade, Opened, Read, Wrote, Missed, Reading}
use Rattle.jet_file.specs.Pace.{taken_by, wrote_by, rows_until}
use Rattle.jet_file.specs.Text.{row_line, late_line, rows_text, late_text}
use Rattle.jet_file.specs.declared.outside.Out.TheVariants.{Rows, Notes}

row_at : ℤ → RowValue
row_at end = record { vertex = 2; end = end; key = codes "a"; acc = record { count = 3; sum = pos 8; min = pos 1; max = pos 5 } }

window : Window
window = record { vertex = 2; name = codes "w"; size = pos 10; slide = pos 5 }

event : EventValue
event = record { part = 0; line = 3; ts = pos 14; key = codes "a"; v = pos 1 ∷ pos 0 ∷ pos 0 ∷ pos 0 ∷ [] }

row : row_line (codes "w") (pos 10) (row_at (pos 5)) ≡ codes "w,-5,5,a,3,8,1,5" ++ 10 ∷ []
unfolding digits row_at
row = refl

late : late_line (codes "w") event ≡ codes "late,w,0,3,14,a,1,0,0,0" ++ 10 ∷ []
unfolding digits event
late = refl

-- rows and late events of a window that the job has not got make no line
nowhere : (rows_text [] (row_at (pos 5) ∷ []) ≡ []) × (late_text [] (record { vertex = 2; event = event } ∷ []) ≡ [])
nowhere = (refl, refl)

until : rows_until (pos 7) (row_at (pos 5) ∷ row_at (pos 10) ∷ []) ≡ row_at (pos 5) ∷ []
unfolding row_at
until = refl

calls : List CallMade
calls = Opened (codes "p") 0 ∷ Read 0 7 ∷ Read 1 5 ∷ Wrote Rows 3 ∷ Wrote Notes 2 ∷ Missed (Reading 0) ∷ Read 0 1 ∷ []

counts : (taken_by 0 calls ≡ 8) × (taken_by 1 calls ≡ 5) × (wrote_by Rows calls ≡ 3) × (wrote_by Notes calls ≡ 2)
unfolding calls
counts = (refl, refl, refl, refl)
