-- What is told of a drain that writes nothing.
use Rattle.std.proofs.Common.{ℕ, Bool, List, [], Option, Some, None, Err, refl, sym, append-nil, inr}
use Rattle.jet_file.specs.Outside.{Told, WhereTold}
use Rattle.jet_file.specs.declared.outside.Out.TheVariants as out
use Rattle.jet_worker.specs.Feeding.{Flushes}
use Rattle.jet_worker.specs.declared.stop.Stop.TheVariants.{NoMemory}

pub told_stop : (rows notes : List ℕ) (t : Option Told) → WhereTold (Flushes {T = Bool} rows notes (Err NoMemory)) t t
told_stop rows notes None = tt
told_stop rows notes (Some told) = record {
  rows_front = [];
  rows_rest = rows;
  notes_front = [];
  notes_rest = notes;
  rows_parts = refl;
  notes_parts = refl;
  order = inr refl;
  content = refl;
  place = refl;
  rows_written = sym (append-nil (told.written out.Rows));
  notes_written = sym (append-nil (told.written out.Notes));
  note_lengths = [];
  row_lengths = [];
  last = [];
  fails = refl;
  trace = simp append-nil;
}
