-- The check of one file: from the reading to the text that is written.
use Rattle.std.proofs.Common.{◌≡◌, ℕ, List, [], ◌++◌, map, length, Option, Result, Ok, Err, refl, sym, ap, ◌∙◌, subst, inl, inr, append-nil, append_assoc}
use Rattle.std.specs.Prelude.{IfErr}
use Rattle.jet_lines.specs.Lines.{lines_of}
use Rattle.jet_file.specs.Outside.{Told, CallMade, WhereTold, Read, Writing, Wrote, rest_of}
use Rattle.jet_file.specs.Writing.{HasWritten}
use Rattle.jet_file.specs.declared.outside.Out.TheVariants as out
use Rattle.jet_flow.specs.DataFiles.{DataFile}
use Rattle.jet_worker.specs.CheckText.{Checks, check_line, first_bad}
use Rattle.jet_worker.specs.Checked.{AreWanted}
use Rattle.jet_worker.specs.Feeding.{StopsWriting, WritesText}
use Rattle.jet_worker.specs.inner.FileChecks.{ChecksFile, HasChecked, HasTallied, IsBadIn, StopsChecking, StopsReading}
use Rattle.jet_worker.specs.Stopping.{IsCallIn, IsNoBadLine, LastIs, LastOf}
use Rattle.jet_worker.specs.declared.stop.Call.{Call}
use Rattle.jet_worker.specs.declared.stop.Call.TheVariants.{Write}
use Rattle.jet_worker.specs.declared.stop.Spot.{Spot}
use Rattle.jet_worker.specs.declared.stop.Spot.TheVariants.{Part, Rows}
use Rattle.jet_worker.specs.inner.LineLaws.{LineLaws}
use Rattle.jet_worker.specs.inner.Tallying.{Tallied}
use Rattle.jet_worker.specs.declared.stop.Stop.{Stop}
use Rattle.jet_worker.specs.declared.stop.Stop.TheVariants.{BadLine, Outside, NoMemory}
use Rattle.jet_worker.specs.declared.tally.Tally.{Tally}
use Rattle.jet_file.proofs.GoesLaws.{goes_then, goes_weaker}
use Rattle.jet_worker.proofs.TallyLemmas.{none_is}

-- the reading stopped, and nothing was written
pub goes_unread : (c : Checks) (p : ℕ × DataFile) (at : ℕ) (stop : Stop) (start now : Option Told) → WhereTold (StopsReading c p at stop) start now → WhereTold (StopsChecking c p at stop) start now
goes_unread c p at stop start now = goes_weaker (StopsReading c p at stop) (StopsChecking c p at stop) (λ a b h. record {
  front = [];
  bad = h.bad;
  whole = inl refl;
  content = h.reads.content;
  rows = ap (λ w. w out.Rows) h.reads.written ∙ sym (append-nil (a.written out.Rows));
  notes = ap (λ w. w out.Notes) h.reads.written;
  counts = h.reads.counts;
  pieces = h.reads.pieces;
  wanted = h.wanted;
  lengths = [];
  order = inl refl;
  last = h.reads.last;
  fails = h.reads.fails;
  trace = h.reads.trace ∙ ap (λ (l : List CallMade). a.trace ++ l ++ h.reads.last) (sym (append-nil (map (Read at) h.reads.counts)));
}) start now

-- no memory was found for the text
pub goes_untold : (c : Checks) (p : ℕ × DataFile) (at count : ℕ) (tally : Tally) (start now : Option Told) → WhereTold (HasTallied c p at count tally) start now → WhereTold (StopsChecking c p at NoMemory) start now
goes_untold c p at count tally start now = goes_weaker (HasTallied c p at count tally) (StopsChecking c p at NoMemory) (λ a b h. record {
  front = [];
  bad = tt;
  whole = inl refl;
  content = h.run.content;
  rows = ap (λ w. w out.Rows) h.run.written ∙ sym (append-nil (a.written out.Rows));
  notes = ap (λ w. w out.Notes) h.run.written;
  counts = h.run.counts;
  pieces = h.run.pieces;
  wanted = h.run.wanted;
  lengths = [];
  order = inl refl;
  last = [];
  fails = refl;
  trace = h.run.trace ∙ ap (λ (l : List CallMade). a.trace ++ l) (sym (append-nil (map (Read at) h.run.counts))) ∙ sym (append-nil (a.trace ++ (map (Read at) h.run.counts ++ [])));
}) start now

notes_not_rows : out.Notes ≡ out.Rows → ⊥
notes_not_rows h = cc

none_bad : (c : Checks) (p : ℕ × DataFile) (stop : Stop) → IsNoBadLine stop → (bytes : List ℕ) → IsBadIn c p bytes stop
none_bad c p (BadLine part line why) k bytes = absurd k
none_bad c p (Outside call spot) k bytes = tt
none_bad c p NoMemory k bytes = tt

-- the text was written
checked : (laws : LineLaws) (c : Checks) (p : ℕ × DataFile) (at count : ℕ) (tally : Tally) (text : List ℕ) (a b d : Told) → ((bytes : List ℕ) → Tallied c p (lines_of bytes) tally → count ≡ length (lines_of bytes) → text ≡ check_line c p bytes)
    → HasTallied c p at count tally a b → HasWritten out.Rows text [] b d → HasChecked c p at a d
checked laws c p at count tally text a b d is h w = record {
  bytes = h.bytes;
  left = h.left;
  good = none_is laws c p h.bytes tally h.tallied;
  name = ap (λ place. (place at).name) w.place ∙ h.run.name;
  taken = ap (λ place. (place at).taken) w.place ∙ h.run.taken;
  others = λ other differs. ap (λ place. place other) w.place ∙ h.run.others other differs;
  content = w.content ∙ h.run.content;
  rows = w.written ∙ ap (λ (l : List ℕ). l ++ text) (ap (λ f. f out.Rows) h.run.written) ∙ ap (λ (l : List ℕ). a.written out.Rows ++ l) (is h.bytes h.tallied h.count_is);
  notes = w.others out.Notes notes_not_rows ∙ ap (λ f. f out.Notes) h.run.written;
  counts = h.run.counts;
  pieces = h.run.pieces;
  wanted = subst (λ (l : List ℕ). AreWanted c p l h.run.counts) h.left h.run.wanted;
  reads = h.run.sum;
  lengths = w.lengths;
  writes = w.sum ∙ ap length (is h.bytes h.tallied h.count_is);
  trace = w.trace ∙ append-nil (b.trace ++ map (Wrote out.Rows) w.lengths) ∙ ap (λ (l : List CallMade). l ++ map (Wrote out.Rows) w.lengths) h.run.trace
      ∙ append_assoc a.trace (map (Read at) h.run.counts) (map (Wrote out.Rows) w.lengths);
}

-- the call that failed is a write to Rows
rows_last : (spot : Spot) (file : ℕ) (stop : Stop) (last : List CallMade) → LastOf Write Rows (Writing out.Rows) stop last → LastIs (IsCallIn spot file) stop last
rows_last spot file (BadLine part line why) last h = absurd h
rows_last spot file (Outside failed at) last h =
    (Writing out.Rows, h.2, subst (λ (k : Call). IsCallIn spot file k at (Writing out.Rows)) (sym h.0) (subst (λ (s : Spot). IsCallIn spot file Write s (Writing out.Rows)) (sym h.1) tt))
rows_last spot file NoMemory last h = h

-- the text was not all written
unwritten : (laws : LineLaws) (c : Checks) (p : ℕ × DataFile) (at count : ℕ) (tally : Tally) (text : List ℕ) (stop : Stop) (a b d : Told) → ((bytes : List ℕ) → Tallied c p (lines_of bytes) tally → count ≡ length (lines_of bytes) → text ≡ check_line c p bytes)
    → IsNoBadLine stop → HasTallied c p at count tally a b → StopsWriting out.Rows text stop b d → StopsChecking c p at stop a d
unwritten laws c p at count tally text stop a b d is never h w = record {
  front = w.front;
  bad = none_bad c p stop never (rest_of a at);
  whole = inr (
    never,
    record {
      good = ap (first_bad c p) h.left ∙ none_is laws c p h.bytes tally h.tallied;
      rest = w.rest;
      parts = ap (check_line c p) h.left ∙ sym (is h.bytes h.tallied h.count_is) ∙ w.parts;
    },
  );
  content = w.content ∙ h.run.content;
  rows = w.written ∙ ap (λ (l : List ℕ). l ++ w.front) (ap (λ f. f out.Rows) h.run.written);
  notes = w.others out.Notes notes_not_rows ∙ ap (λ f. f out.Notes) h.run.written;
  counts = h.run.counts;
  pieces = h.run.pieces;
  wanted = h.run.wanted;
  lengths = w.lengths;
  order = inr (h.run.sum ∙ ap length (sym h.left));
  last = w.last;
  fails = rows_last (Part p.0) at stop w.last w.fails;
  trace = w.trace ∙ ap (λ (l : List CallMade). l ++ map (Wrote out.Rows) w.lengths ++ w.last) h.run.trace
      ∙ ap (λ (l : List CallMade). l ++ w.last) (append_assoc a.trace (map (Read at) h.run.counts) (map (Wrote out.Rows) w.lengths));
}

pub goes_text : (laws : LineLaws) (c : Checks) (p : ℕ × DataFile) (at count : ℕ) (tally : Tally) (text : List ℕ) (r : Result (Unit {0}) Stop) (start now next : Option Told)
    → ((bytes : List ℕ) → Tallied c p (lines_of bytes) tally → count ≡ length (lines_of bytes) → text ≡ check_line c p bytes) → IfErr r IsNoBadLine
    → WhereTold (HasTallied c p at count tally) start now → WhereTold (WritesText out.Rows text r) now next → WhereTold (ChecksFile c p at r) start next
goes_text laws c p at count tally text (Ok done) start now next is never h w =
    goes_then (HasTallied c p at count tally) (HasWritten out.Rows text []) (HasChecked c p at) (λ a b d h w. checked laws c p at count tally text a b d is h w) start now next h w
goes_text laws c p at count tally text (Err stop) start now next is never h w =
    goes_then (HasTallied c p at count tally) (StopsWriting out.Rows text stop) (StopsChecking c p at stop) (λ a b d h w. unwritten laws c p at count tally text stop a b d is never h w) start now next h w
