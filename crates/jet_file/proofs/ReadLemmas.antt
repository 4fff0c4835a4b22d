-- A run of reads, one read at a time.
use Rattle.std.proofs.Common.{◌≡◌, ℕ, ◌+◌, ◌≤◌, List, [], ◌∷◌, ◌++◌, length, take, drop, map, Option, Some, None, refl, ap, sym, ◌∙◌, subst, append_assoc, take-append-drop, length-take-le, length-append, arith, append-nil}
use Rattle.std.proofs.Math.Seq.{drop-nil}
use Rattle.std.proofs.lemmas.List.{drop-drop, map-append}
use Rattle.std.proofs.lemmas.List.Sums.{fold-append}
use Rattle.jet_file.specs.Outside.{Told, Place, CallMade, Read, WhereTold, OpensFile, ReadsFile, rest_of, rest_from}
use Rattle.jet_file.specs.Reading.{HasRead, HasReadAll}
use Rattle.jet_file.proofs.GoesLaws.{goes_then, goes_same}

rest_later : (o : Option (List ℕ)) (taken n : ℕ) → rest_from o (taken + n) ≡ drop n (rest_from o taken)
rest_later None taken n = sym (drop-nil n)
rest_later (Some bytes) taken n = sym (drop-drop n taken bytes)

-- what a read leaves
pub rest_next : (file : ℕ) (buffer : List ℕ) (n : ℕ) (now next : Told) → ReadsFile file buffer n now next → rest_of next file ≡ drop n (rest_of now file)
rest_next file buffer n now next r =
    ap (λ (p : Place). rest_from (next.content p.name) p.taken) r.place
    ∙ ap (λ (content : List ℕ → Option (List ℕ)). rest_from (content (now.place file).name) ((now.place file).taken + n)) r.content
    ∙ rest_later (now.content (now.place file).name) (now.place file).taken n

-- one read more
pub read_more : (file : ℕ) (bytes buffer : List ℕ) (n : ℕ) (old now next : Told) → n ≤ length buffer → HasRead file bytes old now → ReadsFile file buffer n now next
    → HasRead file (bytes ++ take n buffer) old next
read_more file bytes buffer n old now next fits h r = record {
  counts = h.counts ++ n ∷ [];
  sum = fold-append ◌+◌ 0 h.counts (n ∷ []) ∙ ap (λ (s : ℕ). s + n) h.sum ∙ omega (arith, length-append bytes (take n buffer), length-take-le n buffer fits);
  rest = h.rest ∙ ap (λ (s : List ℕ). bytes ++ s) (sym (take-append-drop n (rest_of now file)))
      ∙ ap (λ (s : List ℕ). bytes ++ (s ++ drop n (rest_of now file))) (sym r.bytes)
      ∙ ap (λ (s : List ℕ). bytes ++ (take n buffer ++ s)) (sym (rest_next file buffer n now next r))
      ∙ sym (append_assoc bytes (take n buffer) (rest_of next file));
  content = r.content ∙ h.content;
  written = r.written ∙ h.written;
  name = ap (λ (p : Place). p.name) r.place ∙ h.name;
  taken = ap (λ (p : Place). p.taken) r.place ∙ ap (λ (t : ℕ). t + n) h.taken ∙ omega (arith, length-append bytes (take n buffer), length-take-le n buffer fits);
  others = λ other ne. r.others other ne ∙ h.others other ne;
  trace = r.trace ∙ ap (λ (t : List CallMade). t ++ Read file n ∷ []) h.trace ∙ append_assoc old.trace (map (Read file) h.counts) (Read file n ∷ [])
      ∙ ap (λ (t : List CallMade). old.trace ++ t) (sym (map-append (Read file) h.counts (n ∷ [])));
}

-- the last read found nothing
pub read_end : (file : ℕ) (bytes buffer : List ℕ) (n : ℕ) (old now next : Told) → n ≡ 0 → HasRead file bytes old now → ReadsFile file buffer n now next → HasReadAll file bytes old next
read_end file bytes buffer n old now next none h r =
    let nothing : bytes ++ take n buffer ≡ bytes = ap (λ (k : ℕ). bytes ++ take k buffer) none ∙ append-nil bytes in
    record {
      read = subst (λ (bs : List ℕ). HasRead file bs old next) nothing (read_more file bytes buffer n old now next (omega (arith, none)) h r);
      end = rest_next file buffer n now next r ∙ ap (λ (k : ℕ). drop k (rest_of now file)) none ∙ r.end none;
    }

-- nothing is read at first
pub read_start : (file : ℕ) (old : Told) → HasRead file [] old old
read_start file old = record { counts = []; sum = refl; rest = refl; content = refl; written = refl; name = refl; taken = omega arith; others = λ other ne. refl; trace = sym (append-nil old.trace) }

pub goes_more : (file : ℕ) (bytes buffer : List ℕ) (n : ℕ) (old now next : Option Told) → n ≤ length buffer → WhereTold (HasRead file bytes) old now → WhereTold (ReadsFile file buffer n) now next
    → WhereTold (HasRead file (bytes ++ take n buffer)) old next
goes_more file bytes buffer n old now next fits = goes_then (HasRead file bytes) (ReadsFile file buffer n) (HasRead file (bytes ++ take n buffer))
    (λ a b c h r. read_more file bytes buffer n a b c fits h r) old now next

pub goes_end : (file : ℕ) (bytes buffer : List ℕ) (n : ℕ) (old now next : Option Told) → n ≡ 0 → WhereTold (HasRead file bytes) old now → WhereTold (ReadsFile file buffer n) now next → WhereTold (HasReadAll file bytes) old next
goes_end file bytes buffer n old now next none = goes_then (HasRead file bytes) (ReadsFile file buffer n) (HasReadAll file bytes)
    (λ a b c h r. read_end file bytes buffer n a b c none h r) old now next

pub goes_start : (file : ℕ) (old : Option Told) → WhereTold (HasRead file []) old old
goes_start file old = goes_same (HasRead file []) (read_start file) old

-- all of a newly opened file is left
pub opened_rest : (name content : List ℕ) (file : ℕ) (old now : Told) → old.content name ≡ Some content → OpensFile name file old now → rest_of now file ≡ content
opened_rest name content file old now is o =
    ap (λ (p : Place). rest_from (now.content p.name) p.taken) o.place ∙ ap (λ (told : List ℕ → Option (List ℕ)). rest_from (told name) 0) o.content
    ∙ ap (λ (found : Option (List ℕ)). rest_from found 0) is

-- what was read of a newly opened file until nothing was left is its content
pub read_whole : (name content bytes : List ℕ) (file : ℕ) (old opened now : Told) → old.content name ≡ Some content → OpensFile name file old opened → HasReadAll file bytes opened now
    → (bytes ≡ content) × (now.place file ≡ record { name = name; taken = length content })
read_whole name content bytes file old opened now is o h =
    let same : bytes ≡ content = sym (append-nil bytes) ∙ ap (λ (s : List ℕ). bytes ++ s) (sym h.end) ∙ sym h.read.rest ∙ opened_rest name content file old opened is o in
    let taken : (now.place file).taken ≡ length content = h.read.taken ∙ ap (λ (p : Place). p.taken + length bytes) o.place ∙ omega (arith, ap length same) in
    let named : (now.place file).name ≡ name = h.read.name ∙ ap (λ (p : Place). p.name) o.place in
    (same, ap (λ (n : List ℕ). let p : Place = record { name = n; taken = (now.place file).taken } in p) named ∙ ap (λ (t : ℕ). let p : Place = record { name = name; taken = t } in p) taken)
