-- A run of writes, one write at a time.
use Rattle.std.proofs.Common.{rules, ◌≡◌, ℕ, ◌+◌, ◌<◌, ◌≤◌, List, [], ◌∷◌, ◌++◌, length, take, drop, map, sum, Bool, Option, Some, None, refl, ap, sym, ◌∙◌, append_assoc, append-nil, arith, length-take-le, All}
use Rattle.std.proofs.Math.Seq.{take-add}
use Rattle.std.proofs.lemmas.List.{map-append}
use Rattle.std.proofs.lemmas.List.Sums.{fold-append}
use Rattle.std.proofs.lemmas.Grind.{common_steps}
use Rattle.jet_file.specs.Outside.{Told, CallMade, Wrote, Missed, Writing, WhereTold, WritesBytes, Stays}
use Rattle.jet_file.specs.declared.outside.Out.{Out}
use Rattle.jet_file.specs.declared.outside.OutFault.{OutFault}
use Rattle.jet_file.specs.declared.outside.OutFault.TheVariants.{Failed, NoMemory}
use Rattle.jet_file.specs.Writing.{HasWritten, WritesFront}

-- what a loop of writes keeps: the first `done` bytes were written
pub record SoFar {S : Type 0} (told : S → Option Told) (opened : S → ℕ → Bool) (steady : S → Bool) (faults : S → ℕ) (to : Out) (bytes : List ℕ) (done : ℕ) (old now : S) : Type 0 where
  pub within : done ≤ length bytes
  pub wrote : WhereTold (HasWritten to (take done bytes) []) (told old) (told now)
  pub opened_same : opened now ≡ opened old
  pub steady_same : steady now ≡ steady old
  pub faults_same : faults now ≡ faults old
  pub untouched : length bytes ≡ 0 → now ≡ old

all_end : (P : ℕ → Type 0) (xs : List ℕ) (x : ℕ) → All P xs → P x → All P (xs ++ x ∷ [])
all_end P xs x all here = search (rules, common_steps)

sum_end : (xs : List ℕ) (x : ℕ) → sum (xs ++ x ∷ []) ≡ sum xs + x
sum_end xs x = fold-append ◌+◌ 0 xs (x ∷ [])

-- one write more
pub write_more : (to : Out) (bytes : List ℕ) (done n : ℕ) (old now next : Told) → 0 < n → n ≤ length (drop done bytes) → done + n ≤ length bytes
    → HasWritten to (take done bytes) [] old now → WritesBytes to (drop done bytes) n now next → HasWritten to (take (done + n) bytes) [] old next
write_more to bytes done n old now next some fits within h w = record {
  lengths = h.lengths ++ n ∷ [];
  each = all_end (λ n. 0 < n) h.lengths n h.each some;
  sum = sum_end h.lengths n ∙ ap (λ (s : ℕ). s + n) h.sum ∙ omega (arith, length-take-le (done + n) bytes within, length-take-le done bytes (omega arith));
  content = w.content ∙ h.content;
  place = w.place ∙ h.place;
  written = w.written ∙ ap (λ (s : List ℕ). s ++ take n (drop done bytes)) h.written ∙ append_assoc (old.written to) (take done bytes) (take n (drop done bytes))
      ∙ ap (λ (s : List ℕ). old.written to ++ s) (sym (take-add done n bytes));
  others = λ other differs. w.others other differs ∙ h.others other differs;
  trace = w.trace ∙ ap (λ (t : List CallMade). t ++ Wrote to n ∷ []) (h.trace ∙ append-nil (old.trace ++ map (Wrote to) h.lengths))
      ∙ append_assoc old.trace (map (Wrote to) h.lengths) (Wrote to n ∷ [])
      ∙ ap (λ (t : List CallMade). old.trace ++ t) (sym (map-append (Wrote to) h.lengths (n ∷ [])))
      ∙ sym (append-nil (old.trace ++ map (Wrote to) (h.lengths ++ n ∷ [])));
}

pub goes_more : (to : Out) (bytes : List ℕ) (done n : ℕ) (old now next : Option Told) → 0 < n → n ≤ length (drop done bytes) → done + n ≤ length bytes
    → WhereTold (HasWritten to (take done bytes) []) old now → WhereTold (WritesBytes to (drop done bytes) n) now next → WhereTold (HasWritten to (take (done + n) bytes) []) old next
goes_more to bytes done n None now next some fits within h w = tt
goes_more to bytes done n (Some old) None next some fits within h w = absurd h
goes_more to bytes done n (Some old) (Some now) None some fits within h w = absurd w
goes_more to bytes done n (Some old) (Some now) (Some next) some fits within h w = write_more to bytes done n old now next some fits within h w

-- nothing is written at first
pub goes_start : (to : Out) (bytes : List ℕ) (old : Option Told) → WhereTold (HasWritten to (take 0 bytes) []) old old
goes_start to bytes None = tt
goes_start to bytes (Some old) = record { lengths = []; each = λ k d below. absurd (omega arith); sum = refl; content = refl; place = refl; written = sym (append-nil (old.written to)); others = λ other differs. refl; trace = sym (append-nil (old.trace ++ []) ∙ append-nil old.trace) }

-- a call that answers a fault ends the run
pub write_stop : (to : Out) (bytes : List ℕ) (done : ℕ) (fault : OutFault) (old now next : Told) → done < length bytes
    → HasWritten to (take done bytes) [] old now → Stays (Writing to) fault now next → WritesFront to bytes fault old next
write_stop to bytes done Failed old now next short h s = record {
  n = done;
  short = short;
  wrote = record {
    lengths = h.lengths;
    each = h.each;
    sum = h.sum;
    content = ap (λ (t : Told). t.content) s ∙ h.content;
    place = ap (λ (t : Told). t.place) s ∙ h.place;
    written = ap (λ (t : Told). t.written to) s ∙ h.written;
    others = λ other differs. ap (λ (t : Told). t.written other) s ∙ h.others other differs;
    trace = ap (λ (t : Told). t.trace) s ∙ ap (λ (t : List CallMade). t ++ Missed (Writing to) ∷ []) (h.trace ∙ append-nil (old.trace ++ map (Wrote to) h.lengths));
  };
}
write_stop to bytes done NoMemory old now next short h s = record {
  n = done;
  short = short;
  wrote = record {
    lengths = h.lengths;
    each = h.each;
    sum = h.sum;
    content = ap (λ (t : Told). t.content) s ∙ h.content;
    place = ap (λ (t : Told). t.place) s ∙ h.place;
    written = ap (λ (t : Told). t.written to) s ∙ h.written;
    others = λ other differs. ap (λ (t : Told). t.written other) s ∙ h.others other differs;
    trace = ap (λ (t : Told). t.trace) s ∙ h.trace;
  };
}

pub goes_stop : (to : Out) (bytes : List ℕ) (done : ℕ) (fault : OutFault) (old now next : Option Told) → done < length bytes
    → WhereTold (HasWritten to (take done bytes) []) old now → WhereTold (Stays (Writing to) fault) now next → WhereTold (WritesFront to bytes fault) old next
goes_stop to bytes done fault None now next short h s = tt
goes_stop to bytes done fault (Some old) None next short h s = absurd h
goes_stop to bytes done fault (Some old) (Some now) None short h s = absurd s
goes_stop to bytes done fault (Some old) (Some now) (Some next) short h s = write_stop to bytes done fault old now next short h s
