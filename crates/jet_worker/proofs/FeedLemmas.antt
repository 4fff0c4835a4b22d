-- What the steps of a run do to the outside.
use Rattle.std.proofs.Common.{◌≡◌, ℕ, ◌+◌, ◌<◌, ◌≤◌, List, [], ◌∷◌, ◌++◌, length, take, drop, true, false, Option, arith, ap, sym, ◌∙◌, subst, length-take-le, Err, append-nil, map, refl, take-append-drop, inl, inr}
use Rattle.jet_file.specs.Outside.{Told, CallMade, Place, Missed, Tried, Writing, Read, Wrote, WhereTold, ReadsFile, Stays, rest_of}
use Rattle.jet_file.specs.declared.outside.Out.{Out}
use Rattle.jet_file.specs.declared.outside.Out.TheVariants as out
use Rattle.jet_file.specs.declared.outside.OutFault.{OutFault}
use Rattle.jet_file.specs.declared.outside.OutFault.TheVariants as fault
use Rattle.jet_file.specs.Writing.{HasWritten, WritesFront, missed}
use Rattle.jet_lines.specs.LinesValue.{LinesValue}
use Rattle.jet_worker.specs.Feeding.{Appends, FailsAt, Flushes, PutsPiece, TakesPiece, WritesText}
use Rattle.jet_worker.specs.Calls.{most_piece}
use Rattle.jet_worker.specs.Stopping.{LastOf}
use Rattle.jet_worker.specs.inner.Stopped.{stop_of, spot_of}
use Rattle.jet_worker.specs.declared.stop.Call.{Call}
use Rattle.jet_worker.specs.declared.stop.Call.TheVariants as call
use Rattle.jet_worker.specs.declared.stop.Spot.{Spot}
use Rattle.jet_worker.specs.declared.stop.Stop.{Stop}
use Rattle.jet_worker.specs.declared.stop.Stop.TheVariants.{NoMemory}
use Rattle.jet_file.proofs.GoesLaws.{goes_same, goes_then, goes_weaker}
use Rattle.jet_worker.proofs.CallLaws.{write_last}

-- ---- openings and reads

-- a call that did not do its work came alone
call_fails : (call : Call) (spot : Spot) (tried : Tried) (f : OutFault) (a b : Told) → Stays tried f a b → FailsAt call spot tried (stop_of f call spot) a b
call_fails call spot tried fault.Failed a b h = record { last = Missed tried ∷ []; is = (refl, refl, refl); same = h }
call_fails call spot tried fault.NoMemory a b h = record {
  last = [];
  is = refl;
  same = h ∙ ap (λ (t : List CallMade). let q : Told = record a { trace = t } in q) (sym (append-nil a.trace));
}

pub goes_call_fails : (call : Call) (spot : Spot) (tried : Tried) (f : OutFault) (stop : Stop) (old now : Option Told) → stop ≡ stop_of f call spot → WhereTold (Stays tried f) old now → WhereTold (FailsAt call spot tried stop) old now
goes_call_fails call spot tried f stop old now is =
    goes_weaker (Stays tried f) (FailsAt call spot tried stop) (λ a b h. subst (λ (s : Stop). FailsAt call spot tried s a b) (sym is) (call_fails call spot tried f a b h)) old now

-- no memory was found before the call
pub goes_uncalled : (call : Call) (spot : Spot) (tried : Tried) (old : Option Told) → WhereTold (FailsAt call spot tried NoMemory) old old
goes_uncalled call spot tried = goes_same (FailsAt call spot tried NoMemory) (λ a. call_fails call spot tried fault.NoMemory a a refl)

-- what a law of files says a read leaves
abbrev pub LeavesRest : Type 0
LeavesRest = (file : ℕ) (buffer : List ℕ) (n : ℕ) (now next : Told) → ReadsFile file buffer n now next → rest_of next file ≡ drop n (rest_of now file)

takes_piece : (leaves : LeavesRest) (file : ℕ) (buffer : List ℕ) (n : ℕ) (before after : LinesValue) (a b : Told) → 0 < n → n ≤ length buffer → length buffer ≤ most_piece → before.ended ≡ false
    → after ≡ record before { rest = before.rest ++ take n buffer; held = after.held } → ReadsFile file buffer n a b → TakesPiece file before after a b
takes_piece leaves file buffer n before after a b more fits most live is r =
    let len : length (take n buffer) ≡ n = length-take-le n buffer fits in
    let live_still : after.ended ≡ false = ap (λ (v : LinesValue). v.ended) is ∙ live in
    record {
      piece = take n buffer;
      small = omega (arith, len, fits, most);
      lines = ap (λ (v : LinesValue). v.rest) is;
      some = λ h. omega (arith, len, more);
      end = λ h. absurd (true_not_false (sym h ∙ live_still));
      rest = sym (take-append-drop n (rest_of a file)) ∙ ap (λ (s : List ℕ). s ++ drop n (rest_of a file)) (sym r.bytes)
          ∙ ap (λ (s : List ℕ). take n buffer ++ s) (sym (leaves file buffer n a b r));
      content = r.content;
      written = r.written;
      name = ap (λ (p : Place). p.name) r.place;
      taken = ap (λ (p : Place). p.taken) r.place ∙ ap (λ (k : ℕ). (a.place file).taken + k) (sym (length-take-le n buffer fits));
      others = r.others;
      trace = r.trace ∙ ap (λ (k : ℕ). a.trace ++ Read file k ∷ []) (sym (length-take-le n buffer fits));
    }
  where
    true_not_false : true ≡ false → ⊥
    true_not_false h = cc

-- room was made, and a piece put in it
pub appended : (before mid after : LinesValue) (piece : List ℕ) → mid ≡ record before { held = mid.held } → after ≡ record mid { rest = mid.rest ++ piece }
    → after ≡ record before { rest = before.rest ++ piece; held = after.held }
appended before mid after piece made put =
    put ∙ ap (λ (v : LinesValue). let w : LinesValue = record v { rest = v.rest ++ piece } in w) made
    ∙ ap (λ (n : ℕ). let w : LinesValue = record before { rest = before.rest ++ piece; held = n } in w) (sym (ap (λ (v : LinesValue). v.held) put))

pub puts_piece : (buffer : List ℕ) (n : ℕ) (before mid after : LinesValue) → 0 < n → n ≤ length buffer → length buffer ≤ most_piece → mid ≡ record before { held = mid.held }
    → after ≡ record mid { rest = mid.rest ++ take n buffer } → PutsPiece before after
puts_piece buffer n before mid after more fits most made put =
    let len : length (take n buffer) ≡ n = length-take-le n buffer fits in
    inl (take n buffer, omega (arith, len, more), omega (arith, len, fits, most), appended before mid after (take n buffer) made put)

-- room was made, and the file has ended
pub puts_end : (before mid after : LinesValue) → mid ≡ record before { held = mid.held } → after ≡ record mid { ended = true } → PutsPiece before after
puts_end before mid after made ends =
    inr (ends ∙ ap (λ (v : LinesValue). let w : LinesValue = record v { ended = true } in w) made
    ∙ ap (λ (n : ℕ). let w : LinesValue = record before { ended = true; held = n } in w) (sym (ap (λ (v : LinesValue). v.held) ends)))

pub goes_piece : (leaves : LeavesRest) (file : ℕ) (buffer : List ℕ) (n : ℕ) (before after : LinesValue) (old now : Option Told) → 0 < n → n ≤ length buffer → length buffer ≤ most_piece → before.ended ≡ false
    → after ≡ record before { rest = before.rest ++ take n buffer; held = after.held } → WhereTold (ReadsFile file buffer n) old now → WhereTold (TakesPiece file before after) old now
goes_piece leaves file buffer n before after old now more fits most live is =
    goes_weaker (ReadsFile file buffer n) (TakesPiece file before after) (λ a b r. takes_piece leaves file buffer n before after a b more fits most live is r) old now

-- ---- writes

-- a write that did not do its work stops the run
write_stops : (to : Out) (text : List ℕ) (f : OutFault) (a b : Told) → WritesFront to text f a b → WritesText {T = Unit {0}} to text (Err (stop_of f call.Write (spot_of to))) a b
write_stops to text f a b h = record {
  front = take h.n text;
  rest = drop h.n text;
  parts = sym (take-append-drop h.n text);
  content = h.wrote.content;
  place = h.wrote.place;
  written = h.wrote.written;
  others = h.wrote.others;
  lengths = h.wrote.lengths;
  last = missed (Writing to) f;
  fails = fails f;
  trace = h.wrote.trace;
}
  where
    fails : (f : OutFault) → LastOf call.Write (spot_of to) (Writing to) (stop_of f call.Write (spot_of to)) (missed (Writing to) f)
    fails fault.Failed = (refl, refl, refl)
    fails fault.NoMemory = refl

pub goes_write_stops : (to : Out) (text : List ℕ) (f : OutFault) (stop : Stop) (spot : Spot) (old now : Option Told) → spot ≡ spot_of to → stop ≡ stop_of f call.Write spot
    → WhereTold (WritesFront to text f) old now → WhereTold (WritesText {T = Unit {0}} to text (Err stop)) old now
goes_write_stops to text f stop spot old now at is h =
    subst (λ (s : Stop). WhereTold (WritesText {T = Unit {0}} to text (Err s)) old now) (ap (stop_of f call.Write) (sym at) ∙ sym is)
    (goes_weaker (WritesFront to text f) (WritesText {T = Unit {0}} to text (Err (stop_of f call.Write (spot_of to)))) (write_stops to text f) old now h)

rows_not_notes : out.Rows ≡ out.Notes → ⊥
rows_not_notes h = cc

notes_not_rows : out.Notes ≡ out.Rows → ⊥
notes_not_rows h = cc

appends : (rows notes : List ℕ) (a b c : Told) → HasWritten out.Notes notes [] a b → HasWritten out.Rows rows [] b c → Appends rows notes a c
appends rows notes a b c h k = record {
  note_lengths = h.lengths;
  row_lengths = k.lengths;
  row_sum = k.sum;
  note_sum = h.sum;
  content = k.content ∙ h.content;
  place = k.place ∙ h.place;
  rows_written = k.written ∙ ap (λ (s : List ℕ). s ++ rows) (h.others out.Rows rows_not_notes);
  notes_written = k.others out.Notes notes_not_rows ∙ h.written;
  trace = k.trace ∙ append-nil (b.trace ++ map (Wrote out.Rows) k.lengths)
      ∙ ap (λ (t : List CallMade). t ++ map (Wrote out.Rows) k.lengths) (h.trace ∙ append-nil (a.trace ++ map (Wrote out.Notes) h.lengths));
}

pub goes_appends : (rows notes : List ℕ) (old now next : Option Told) → WhereTold (HasWritten out.Notes notes []) old now → WhereTold (HasWritten out.Rows rows []) now next → WhereTold (Appends rows notes) old next
goes_appends rows notes old now next = goes_then (HasWritten out.Notes notes []) (HasWritten out.Rows rows []) (Appends rows notes) (appends rows notes) old now next

-- the late lines were not all written
pub goes_notes_stop : (rows notes : List ℕ) (stop : Stop) (old now : Option Told) → WhereTold (WritesText {T = Unit {0}} out.Notes notes (Err stop)) old now → WhereTold (Flushes {T = Unit {0}} rows notes (Err stop)) old now
goes_notes_stop rows notes stop old now =
    goes_weaker (WritesText {T = Unit {0}} out.Notes notes (Err stop)) (Flushes {T = Unit {0}} rows notes (Err stop)) (λ a b h. record {
      rows_front = [];
      rows_rest = rows;
      notes_front = h.front;
      notes_rest = h.rest;
      rows_parts = refl;
      notes_parts = h.parts;
      order = inr refl;
      content = h.content;
      place = h.place;
      rows_written = h.others out.Rows rows_not_notes ∙ sym (append-nil (a.written out.Rows));
      notes_written = h.written;
      note_lengths = h.lengths;
      row_lengths = [];
      last = h.last;
      fails = write_last out.Notes stop h.last h.fails;
      trace = h.trace ∙ ap (λ (l : List CallMade). l ++ h.last) (sym (append-nil (a.trace ++ map (Wrote out.Notes) h.lengths)));
    }) old now

-- the late lines were written, and the rows were not all
pub goes_rows_stop : (rows notes : List ℕ) (stop : Stop) (old now next : Option Told) → WhereTold (HasWritten out.Notes notes []) old now
    → WhereTold (WritesText {T = Unit {0}} out.Rows rows (Err stop)) now next → WhereTold (Flushes {T = Unit {0}} rows notes (Err stop)) old next
goes_rows_stop rows notes stop old now next =
    goes_then (HasWritten out.Notes notes []) (WritesText {T = Unit {0}} out.Rows rows (Err stop)) (Flushes {T = Unit {0}} rows notes (Err stop)) (λ a b c h k. record {
      rows_front = k.front;
      rows_rest = k.rest;
      notes_front = notes;
      notes_rest = [];
      rows_parts = k.parts;
      notes_parts = sym (append-nil notes);
      order = inl refl;
      content = k.content ∙ h.content;
      place = k.place ∙ h.place;
      rows_written = k.written ∙ ap (λ (s : List ℕ). s ++ k.front) (h.others out.Rows rows_not_notes);
      notes_written = k.others out.Notes notes_not_rows ∙ h.written;
      note_lengths = h.lengths;
      row_lengths = k.lengths;
      last = k.last;
      fails = write_last out.Rows stop k.last k.fails;
      trace = k.trace ∙ ap (λ (t : List CallMade). t ++ map (Wrote out.Rows) k.lengths ++ k.last) (h.trace ∙ append-nil (a.trace ++ map (Wrote out.Notes) h.lengths));
    }) old now next
