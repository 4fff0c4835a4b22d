-- What the reading of a job file comes to.
use Rattle.std.proofs.Common.{◌≡◌, ℕ, ◌+◌, ◌<◌, ◌≤◌, List, [], ◌∷◌, ◌++◌, length, take, map, sum, Bool, true, false, Option, Ok, Err, refl, ap, sym, ◌∙◌, subst, arith, append-nil, append_assoc, inl, inr}
use Rattle.std.specs.Prelude.{◌⊎◌, nat_lt}
use Rattle.std.proofs.Math.Seq.{take-append_seam}
use Rattle.std.proofs.lemmas.Bool.Decides.{nat_tests}
use Rattle.std.proofs.lemmas.List.{take_all, length-take-le}
use Rattle.jet_file.specs.Outside.{Told, Place, CallMade, Read, Opened, Opening, WhereTold, OpensFile, AddsNumber, Tried, rest_of}
use Rattle.jet_job.specs.Jobs.{job_at}
use Rattle.jet_job.specs.declared.fault.JobFault.TheVariants.{Long}
use Rattle.jet_job.specs.declared.job_text.JobText.{JobText}
use Rattle.jet_worker.specs.Calls.{Calling, turn_calls}
use Rattle.jet_worker.specs.Feeding.{FailsAt}
use Rattle.jet_worker.specs.Stopping.{IsCallIn}
use Rattle.jet_worker.specs.declared.stop.Call.{Call}
use Rattle.jet_worker.specs.declared.stop.Call.TheVariants.{Open}
use Rattle.jet_worker.specs.declared.stop.Spot.{Spot}
use Rattle.jet_worker.specs.declared.stop.Spot.TheVariants.{Job}
use Rattle.jet_worker.specs.declared.stop.Stop.{Stop}
use Rattle.jet_worker.proofs.CallLaws.{ends_last, none_in, none_last}
use Rattle.jet_cli.specs.CallOrder.{job_place, most_text}
use Rattle.jet_cli.specs.JobFiles.{ReadsJobFile, StopsJob}
use Rattle.jet_cli.specs.inner.TextReading.{ReadsFront, StopsReading}
use Rattle.jet_cli.proofs.DoneLemmas.{some_of}
use Rattle.jet_file.proofs.GoesLaws.{goes_then, goes_weaker}
use Rattle.jet_cli.proofs.OrderLemmas.{named_after, opening_named, reads_job, unopened}
use Rattle.jet_cli.specs.inner.FileLaws.{FileLaws}

-- ---- the text of a job file
-- what was read is the front of all
front_is : (most : ℕ) (text rest content : List ℕ) → content ≡ text ++ rest → length text ≤ most → (length text < most → rest ≡ []) → text ≡ take most content
front_is most text rest content is short all = front_if (short_or_full (length text) most short)
  where
    short_or_full : (n m : ℕ) → n ≤ m → (n < m) ⊎ (n ≡ m)
    short_or_full n m h = grind (arith, h)

    front_if : (length text < most) ⊎ (length text ≡ most) → text ≡ take most content
    front_if (inl lt) =
        let same : content ≡ text = is ∙ ap (λ (r : List ℕ). text ++ r) (all lt) ∙ append-nil text in
        sym (ap (take most) same ∙ take_all most text short)
    front_if (inr full) = sym (ap (take most) is ∙ ap (λ (k : ℕ). take k (text ++ rest)) (sym full) ∙ take-append_seam text rest)

reads_job_file : (laws : FileLaws) (name text : List ℕ) (file most : ℕ) (before now : ℕ → Bool) (a b c : Told) → most ≡ most_text → AddsNumber file before now → OpensFile name file a b → ReadsFront file most text b c
    → ReadsJobFile name text before now a c
reads_job_file laws name text file most before now a b c is adds o r =
    let found = some_of (a.content name) o.there in
    let content : List ℕ = found.0 in
    let parts : content ≡ text ++ rest_of c file = sym (laws.opened name content file a b found.1 o) ∙ r.read.rest in
    let taken : (c.place file).taken ≡ length text = r.read.taken ∙ ap (λ (p : Place). p.taken + length text) o.place ∙ omega arith in
    let named : (c.place file).name ≡ name = r.read.name ∙ ap (λ (p : Place). p.name) o.place in
    record {
      file = file;
      opened = adds;
      content = content;
      content_is = found.1;
      front = front_is most text (rest_of c file) content parts r.short r.all ∙ ap (λ (k : ℕ). take k content) is;
      place = ap (λ (n : List ℕ). let p : Place = record { name = n; taken = (c.place file).taken } in p) named ∙ ap (λ (t : ℕ). let p : Place = record { name = name; taken = t } in p) taken;
      others = λ other ne. r.read.others other ne ∙ o.others other ne;
      kept = r.read.content ∙ o.content;
      written = r.read.written ∙ o.written;
      counts = r.read.counts;
      pieces = r.pieces;
      live = r.live;
      few = few r.read.counts text most r.read.sum r.short is;
      trace = r.read.trace ∙ ap (λ (t : List CallMade). t ++ map (Read file) r.read.counts) o.trace ∙ append_assoc a.trace (Opened name file ∷ []) (map (Read file) r.read.counts);
    }
  where
    few : (counts text : List ℕ) (most : ℕ) → sum counts ≡ length text → length text ≤ most → most ≡ most_text → sum counts ≤ most_text
    few counts text most all short is = omega (arith, all, short, is)

pub goes_job_file : (laws : FileLaws) (name text : List ℕ) (file most : ℕ) (before now : ℕ → Bool) (old mid new : Option Told) → most ≡ most_text → AddsNumber file before now → WhereTold (OpensFile name file) old mid
    → WhereTold (ReadsFront file most text) mid new → WhereTold (ReadsJobFile name text before now) old new
goes_job_file laws name text file most before now old mid new is adds =
    goes_then (OpensFile name file) (ReadsFront file most text) (ReadsJobFile name text before now) (λ a b c o r. reads_job_file laws name text file most before now a b c is adds o r) old mid new

-- the reading of a file that was opened stopped
stops_after : (name : List ℕ) (file most : ℕ) (stop : Stop) (a b c : Told) → most ≡ most_text → OpensFile name file a b → StopsReading Job file most stop b c → Calling (StopsJob name stop) a c
stops_after name file most stop a b c is o s =
    let counts : List ℕ = s.reads.counts in
    let last : List CallMade = s.reads.last in
    let such : Call → Spot → Tried → Type 0 = IsCallIn Job file in
    record {
      calls = Opened name file ∷ (turn_calls (record { file = file; counts = counts; lengths = [] }) ++ last);
      trace = s.reads.trace ∙ ap (λ (l : List CallMade). l ++ map (Read file) counts ++ last) o.trace ∙ append_assoc (a.trace ++ Opened name file ∷ []) (map (Read file) counts) last
          ∙ append_assoc a.trace (Opened name file ∷ []) (map (Read file) counts ++ last) ∙ ap (λ (l : List CallMade). a.trace ++ (Opened name file ∷ (l ++ last))) (sym (append-nil (map (Read file) counts)));
      did = record {
        order = reads_job name file counts [] last s.reads.pieces (subst (λ (n : ℕ). sum counts ≤ n) is s.few) s.live (none_last such stop last (none_in Job file) s.reads.fails) (ends_last such stop last s.reads.fails);
        fails = named_after job_place Job name file (turn_calls (record { file = file; counts = counts; lengths = [] })) stop last refl s.reads.fails;
        written = s.reads.written ∙ o.written;
      };
    }

pub goes_stops_after : (name : List ℕ) (file most : ℕ) (stop : Stop) (old mid new : Option Told) → most ≡ most_text → WhereTold (OpensFile name file) old mid → WhereTold (StopsReading Job file most stop) mid new
    → WhereTold (Calling (StopsJob name stop)) old new
goes_stops_after name file most stop old mid new is =
    goes_then (OpensFile name file) (StopsReading Job file most stop) (Calling (StopsJob name stop)) (λ a b c o s. stops_after name file most stop a b c is o s) old mid new

-- the file could not be opened
pub goes_unopened : (name : List ℕ) (stop : Stop) (old new : Option Told) → WhereTold (FailsAt Open Job (Opening name) stop) old new → WhereTold (Calling (StopsJob name stop)) old new
goes_unopened name stop = goes_weaker (FailsAt Open Job (Opening name) stop) (Calling (StopsJob name stop)) (λ a b s. record {
  calls = s.last;
  trace = ap (λ (t : Told). t.trace) s.same;
  did = record { order = unopened name stop s.last s.is; fails = opening_named job_place Job name stop s.last refl s.is; written = ap (λ (t : Told). t.written) s.same };
})

-- ---- the job of a text
abbrev is_long : List ℕ → Bool
is_long text = nat_lt 1048576 (length text)

short_if : (text : List ℕ) (b : Bool) → is_long text ≡ b → (job : JobText) → job_at text ≡ Ok job → length text ≤ 1048576
short_if text true is job h = absurd (cc (rw is at h))
short_if text false is job h = short_of (length text) is
  where
    short_of : (n : ℕ) → nat_lt 1048576 n ≡ false → n ≤ 1048576
    short_of n h = grind (arith, nat_tests, h)

long_at : (text : List ℕ) → 1048576 < length text → job_at text ≡ Err Long
long_at text h = rw (long_is (length text) h) refl
  where
    long_is : (n : ℕ) → 1048576 < n → nat_lt 1048576 n ≡ true
    long_is n h = grind (arith, nat_tests, h)

few_or_many : (n : ℕ) → (n ≤ most_text) ⊎ (most_text < n)
few_or_many n = grind arith

-- a text that was read to a job was read whole
pub whole : (content : List ℕ) (job : JobText) → job_at (take most_text content) ≡ Ok job → take most_text content ≡ content
whole content job h = whole_if (few_or_many (length content))
  where
    whole_if : (length content ≤ most_text) ⊎ (most_text < length content) → take most_text content ≡ content
    whole_if (inl few) = take_all most_text content few
    whole_if (inr many) =
        let full : length (take most_text content) ≡ most_text = length-take-le most_text content (omega (arith, many)) in
        let short : length (take most_text content) ≤ 1048576 = short_if (take most_text content) _ refl job h in
        absurd (omega (arith, full, short))

-- a byte beyond the most does not change the job, or the fault
pub same_job : (content : List ℕ) → job_at (take most_text content) ≡ job_at content
same_job content = same_if (few_or_many (length content))
  where
    same_if : (length content ≤ most_text) ⊎ (most_text < length content) → job_at (take most_text content) ≡ job_at content
    same_if (inl few) = ap job_at (take_all most_text content few)
    same_if (inr many) =
        let full : length (take most_text content) ≡ most_text = length-take-le most_text content (omega (arith, many)) in
        long_at (take most_text content) (omega (arith, full)) ∙ sym (long_at content (omega (arith, many)))
