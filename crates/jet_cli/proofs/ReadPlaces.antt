-- Where reads stand among the calls of a run, and for which of them all was ready.
use Rattle.std.proofs.Common.{◌≡◌, ◌≢◌, ℕ, ◌+◌, ◌<◌, List, [], ◌∷◌, ◌++◌, get_or, map, All, refl, ap, sym, ◌∙◌, subst, arith}
use Rattle.std.specs.Prelude.{sum}
use Rattle.std.proofs.lemmas.List.Elements.{All-cons, All-head, All-map, All-tail}
use Rattle.std.proofs.lemmas.List.Sums.{sum_by-cons}
use Rattle.jet_file.specs.Outside.{Told, CallMade, Opened, OpensFile, Read, Tried, Wrote, Missed, rest_of}
use Rattle.jet_file.specs.Pace.{taken_by, wrote_by}
use Rattle.jet_file.specs.declared.outside.Out.{Out}
use Rattle.jet_file.specs.declared.outside.Out.TheVariants.{Rows, Notes}
use Rattle.jet_cli.specs.inner.FileLaws.{FileLaws}
use Rattle.jet_worker.specs.Calls.{ReadsOrWrites, opened_by}
use Rattle.jet_worker.specs.Stopping.{LastIs, LastOf}
use Rattle.jet_worker.specs.declared.stop.Call.{Call}
use Rattle.jet_worker.specs.declared.stop.Call.TheVariants.{Open}
use Rattle.jet_worker.specs.declared.stop.Spot.{Spot}
use Rattle.jet_worker.specs.declared.stop.Stop.{Stop}
use Rattle.jet_worker.specs.declared.stop.Stop.TheVariants.{BadLine, Outside, NoMemory}
use Rattle.jet_worker.proofs.CallLaws.{same_head, same_tail}
use Rattle.jet_cli.specs.LineStops.{IsWrote}
use Rattle.jet_cli.specs.Pacing.{IsReady, ReadsOn, ReadsReady}
use Rattle.jet_cli.specs.Words.{WindowCommand}

-- ---- where a read stands among the calls
abbrev pub NoRead : List CallMade → Type 0
NoRead [] = Unit {0}
NoRead (Read file n ∷ calls) = ⊥
NoRead (Opened name file ∷ calls) = NoRead calls
NoRead (Wrote to n ∷ calls) = NoRead calls
NoRead (Missed tried ∷ calls) = NoRead calls

pub reads_none : (to : Out) (lengths : List ℕ) → NoRead (map (Wrote to) lengths)
reads_none to [] = tt
reads_none to (n ∷ lengths) = reads_none to lengths

pub reads_none_both : (xs ys : List CallMade) → NoRead xs → NoRead ys → NoRead (xs ++ ys)
reads_none_both [] ys h k = k
reads_none_both (Read file n ∷ xs) ys h k = absurd h
reads_none_both (Opened name file ∷ xs) ys h k = reads_none_both xs ys h k
reads_none_both (Wrote to n ∷ xs) ys h k = reads_none_both xs ys h k
reads_none_both (Missed tried ∷ xs) ys h k = reads_none_both xs ys h k

tail_none : (x : CallMade) (xs : List CallMade) → NoRead (x ∷ xs) → NoRead xs
tail_none (Read file n) xs h = absurd h
tail_none (Opened name file) xs h = h
tail_none (Wrote to n) xs h = h
tail_none (Missed tried) xs h = h

pub none_splits : (ws before after : List CallMade) (file n : ℕ) → NoRead ws → ws ≡ before ++ Read file n ∷ after → ⊥
none_splits [] [] after file n h e = cc e
none_splits [] (b ∷ before) after file n h e = cc e
none_splits (w ∷ ws) [] after file n h e = subst NoRead e h
none_splits (w ∷ ws) (b ∷ before) after file n h e = none_splits ws before after file n (tail_none w ws h) (same_tail w b ws (before ++ Read file n ∷ after) e)

-- a read among calls with none behind them stands in front
pub split_front : (xs ws before after : List CallMade) (file n : ℕ) → NoRead ws → xs ++ ws ≡ before ++ Read file n ∷ after → (later : List CallMade) × (xs ≡ before ++ Read file n ∷ later)
split_front [] ws before after file n h e = absurd (none_splits ws before after file n h e)
split_front (x ∷ xs) ws [] after file n h e = (xs, ap (λ (y : CallMade). y ∷ xs) (same_head x (Read file n) (xs ++ ws) after e))
split_front (x ∷ xs) ws (b ∷ before) after file n h e =
    let more = split_front xs ws before after file n h (same_tail x b (xs ++ ws) (before ++ Read file n ∷ after) e) in
    let first : x ≡ b = same_head x b (xs ++ ws) (before ++ Read file n ∷ after) e in
    (more.0, ap (λ (y : CallMade). y ∷ xs) first ∙ ap (λ (l : List CallMade). b ∷ l) more.1)

-- ---- how many bytes calls moved
pub wrote_own : (to : Out) (lengths : List ℕ) → wrote_by to (map (Wrote to) lengths) ≡ sum lengths
wrote_own Rows [] = refl
wrote_own Rows (n ∷ lengths) = ap (λ (k : ℕ). n + k) (wrote_own Rows lengths) ∙ sym (sum_by-cons (λ (k : ℕ). k) n lengths)
wrote_own Notes [] = refl
wrote_own Notes (n ∷ lengths) = ap (λ (k : ℕ). n + k) (wrote_own Notes lengths) ∙ sym (sum_by-cons (λ (k : ℕ). k) n lengths)

pub notes_in_rows : (lengths : List ℕ) → wrote_by Rows (map (Wrote Notes) lengths) ≡ 0
notes_in_rows [] = refl
notes_in_rows (n ∷ lengths) = omega (arith, notes_in_rows lengths)

pub rows_in_notes : (lengths : List ℕ) → wrote_by Notes (map (Wrote Rows) lengths) ≡ 0
rows_in_notes [] = refl
rows_in_notes (n ∷ lengths) = omega (arith, rows_in_notes lengths)

pub took_none : (file : ℕ) (calls : List CallMade) → NoRead calls → taken_by file calls ≡ 0
took_none file [] h = refl
took_none file (Read other n ∷ calls) h = absurd h
took_none file (Opened name other ∷ calls) h = took_none file calls h
took_none file (Wrote to n ∷ calls) h = took_none file calls h
took_none file (Missed tried ∷ calls) h = took_none file calls h

pub took_one : (file n : ℕ) → taken_by file (Read file n ∷ []) ≡ n
took_one file n = grind arith

-- ---- calls with no read

pub wrote_none : (calls : List CallMade) → All IsWrote calls → NoRead calls
wrote_none [] h = tt
wrote_none (Opened name file ∷ calls) h = absurd (All-head IsWrote (Opened name file) calls h)
wrote_none (Read file n ∷ calls) h = absurd (All-head IsWrote (Read file n) calls h)
wrote_none (Wrote to n ∷ calls) h = wrote_none calls (All-tail IsWrote (Wrote to n) calls h)
wrote_none (Missed tried ∷ calls) h = absurd (All-head IsWrote (Missed tried) calls h)

pub wrote_quiet : (call : CallMade) → IsWrote call → ReadsOrWrites call
wrote_quiet (Opened name file) h = absurd h
wrote_quiet (Read file n) h = absurd h
wrote_quiet (Wrote to n) h = tt
wrote_quiet (Missed tried) h = absurd h

pub all_wrote : (to : Out) (lengths : List ℕ) → All IsWrote (map (Wrote to) lengths)
all_wrote to lengths = All-map IsWrote (Wrote to) lengths (λ k d short. tt)

pub last_none : (such : Call → Spot → Tried → Type 0) (stop : Stop) (last : List CallMade) → LastIs such stop last → NoRead last
last_none such (BadLine part line why) last h = subst NoRead (sym h) tt
last_none such (Outside call spot) last h = subst NoRead (sym h.1) tt
last_none such NoMemory last h = subst NoRead (sym h) tt

-- ---- no read that found the end

pub some_read : (file n : ℕ) → 0 < n → Read file n ≢ Read file 0
some_read file n some same = let none : n ≡ 0 = cc same in absurd (omega (arith, some, none))

write_no_read : (to : Out) (n file : ℕ) → Wrote to n ≢ Read file 0
write_no_read to n file same = cc

pub writes_live : (to : Out) (lengths : List ℕ) (file : ℕ) → All (λ call. call ≢ Read file 0) (map (Wrote to) lengths)
writes_live to lengths file = All-map (λ call. call ≢ Read file 0) (Wrote to) lengths (λ k d short. write_no_read to (get_or lengths k d) file)

-- ---- reads for which all was ready

pub ready_start : (c : WindowCommand) (content : List ℕ) (file : ℕ) → ReadsReady c content file []
ready_start c content file = λ before after n is. absurd (none_splits [] before after file n tt is)

-- and others that read nothing
pub ready_more : (c : WindowCommand) (content : List ℕ) (file : ℕ) (calls more : List CallMade) → ReadsReady c content file calls → NoRead more → ReadsReady c content file (calls ++ more)
ready_more c content file calls more h none = λ before after n is. let front = split_front calls more before after file n none is in h before front.0 n front.1

opened_no_read : (name : List ℕ) (number file : ℕ) → Opened name number ≢ Read file 0
opened_no_read name number file same = cc

-- behind the opening
pub ready_opened : (laws : FileLaws) (c : WindowCommand) (file : ℕ) (old start : Told) (calls : List CallMade) → OpensFile c.file file old start → ReadsReady c (rest_of start file) file calls → ReadsOn c old (Opened c.file file ∷ calls)
ready_opened laws c file old start calls opens h = λ content other is opened.
    subst (λ (f : ℕ). ReadsReady c content f (Opened c.file file ∷ calls)) (same_head file other (opened_by calls) [] opened)
    (λ before after n e. behind content (laws.opened c.file content file old start is opens) before after n e)
  where
    behind : (content : List ℕ) → rest_of start file ≡ content → (before after : List CallMade) (n : ℕ) → Opened c.file file ∷ calls ≡ before ++ Read file n ∷ after → IsReady c content file before
    behind content whole [] after n e = absurd (cc e)
    behind content whole (x ∷ front) after n e =
        let r : IsReady c content file front =
        subst (λ (s : List ℕ). IsReady c s file front) whole (h front after n (same_tail (Opened c.file file) x calls (front ++ Read file n ∷ after) e)) in
        subst (λ (y : CallMade). IsReady c content file (y ∷ front)) (same_head (Opened c.file file) x calls (front ++ Read file n ∷ after) e)
        (record { live = All-cons (λ call. call ≢ Read file 0) (Opened c.file file) front (opened_no_read c.file file file) r.live; good = r.good; late = r.late })

-- no file was opened
pub ready_unopened : (c : WindowCommand) (told : Told) (spot : Spot) (tried : Tried) (stop : Stop) (last : List CallMade) → LastOf Open spot tried stop last → ReadsOn c told last
ready_unopened c told spot tried (BadLine part line why) last h = absurd h
ready_unopened c told spot tried (Outside call at) last h = subst (ReadsOn c told) (sym h.2) (λ content file is opened. absurd (cc opened))
ready_unopened c told spot tried NoMemory last h = subst (ReadsOn c told) (sym h) (λ content file is opened. absurd (cc opened))
