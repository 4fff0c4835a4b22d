-- The reading of a text, read by read.
use Rattle.std.proofs.Common.{◌≡◌, ◌≢◌, ℕ, zero, suc, ◌+◌, ◌-◌, ◌<◌, ◌≤◌, All, inl, inr, min, List, [], ◌∷◌, ◌++◌, length, take, map, Bool, Option, append-nil, append_assoc, refl, ap, sym, ◌∙◌, subst, arith, length-append, length-take-le}
use Rattle.std.proofs.lemmas.List.{take-append-le, length-take, map-append}
use Rattle.std.proofs.lemmas.List.Elements.{All-append, All-cons, All-nil}
use Rattle.std.specs.Prelude.{◌⊎◌}
use Rattle.std.proofs.lemmas.List.Sums.{fold-append}
use Rattle.jet_file.specs.Outside.{CallMade, Told, WhereTold, Read, Reading, ReadsFile}
use Rattle.jet_file.specs.Reading.{HasRead}
use Rattle.jet_worker.specs.Calls.{ArePieces, most_piece}
use Rattle.jet_worker.specs.Feeding.{FailsAt}
use Rattle.jet_worker.specs.Stopping.{IsCallIn, LastIs}
use Rattle.jet_worker.specs.declared.stop.Call.TheVariants as call
use Rattle.jet_worker.specs.declared.stop.Spot.{Spot}
use Rattle.jet_worker.specs.declared.stop.Stop.{Stop}
use Rattle.jet_worker.specs.declared.stop.Stop.TheVariants.{NoMemory}
use Rattle.jet_worker.proofs.CallLaws.{split_last, one_piece, pieces_more, read_last}
use Rattle.jet_cli.specs.inner.TextReading.{ReadsFront, StopsReading, TakesText}
use Rattle.jet_file.proofs.GoesLaws.{goes_same, goes_then, goes_weaker}
use Rattle.jet_cli.specs.CallOrder.{AreBeforeEnd}
use Rattle.jet_cli.specs.inner.FileLaws.{FileLaws}
use Rattle.jet_cli.proofs.AnswerLemmas.{all_front}

-- so much of the text was read, and no call has failed
pub record TextSoFar {S : Type 0} (told : S → Option Told) (opened : S → ℕ → Bool) (steady : S → Bool) (faults : S → ℕ) (file most : ℕ) (text : List ℕ) (start now : S) : Type 0 where
  pub short : length text ≤ most
  pub took : WhereTold (TakesText file text) (told start) (told now)
  pub opened_same : opened now ≡ opened start
  pub steady_same : steady now ≡ steady start
  pub faults_same : faults now ≡ faults start

-- ---- reads of which none found the end

-- before each of them none had
live_all : (counts : List ℕ) → All (λ n. 0 < n) counts → AreBeforeEnd counts
live_all counts live = λ front back n is. all_front (λ m. 0 < m) front (n ∷ back) (subst (All (λ m. 0 < m)) is live)

-- and one more may find it
live_end : (counts : List ℕ) (last : ℕ) → All (λ n. 0 < n) counts → AreBeforeEnd (counts ++ last ∷ [])
live_end counts last live = λ front back n is. of front back n (split_last counts front back last n is)
  where
    of : (front back : List ℕ) (n : ℕ) → (front ≡ counts) ⊎ ((later : List ℕ) × (counts ≡ front ++ n ∷ later)) → All (λ m. 0 < m) front
    of front back n (inl all) = subst (All (λ m. 0 < m)) (sym all) live
    of front back n (inr (later, is)) = live_all counts live front later n is

pub some_count : (n : ℕ) → n ≢ 0 → 0 < n
some_count zero ne = absurd (ne refl)
some_count (suc n) ne = omega arith

-- ---- the reading

-- a read that failed after these stopped the reading
stops_reading : (spot : Spot) (file most : ℕ) (text : List ℕ) (stop : Stop) (a b d : Told) → length text ≤ most → TakesText file text a b → FailsAt call.Read spot (Reading file) stop b d → StopsReading spot file most stop a d
stops_reading spot file most text stop a b d short t s = let r = t.read in record {
  reads = record {
    content = ap (λ (t : Told). t.content) s.same ∙ r.content;
    written = ap (λ (t : Told). t.written) s.same ∙ r.written;
    counts = r.counts;
    pieces = t.pieces;
    last = s.last;
    fails = read_last spot file stop s.last s.is;
    trace = ap (λ (t : Told). t.trace) s.same ∙ ap (λ (l : List CallMade). l ++ s.last) r.trace;
  };
  live = live_all r.counts t.live;
  few = subst (λ (n : ℕ). n ≤ most) (sym r.sum) short;
}

pub goes_stops_reading : (spot : Spot) (file most : ℕ) (text : List ℕ) (stop : Stop) (old now next : Option Told) → length text ≤ most → WhereTold (TakesText file text) old now
    → WhereTold (FailsAt call.Read spot (Reading file) stop) now next → WhereTold (StopsReading spot file most stop) old next
goes_stops_reading spot file most text stop old now next short =
    goes_then (TakesText file text) (FailsAt call.Read spot (Reading file) stop) (StopsReading spot file most stop) (λ a b d r s. stops_reading spot file most text stop a b d short r s) old now next

-- no memory was found for what was read
pub goes_lost : (spot : Spot) (file most : ℕ) (text : List ℕ) (stop : Stop) (old now : Option Told) → stop ≡ NoMemory → length text ≤ most → WhereTold (TakesText file text) old now → WhereTold (StopsReading spot file most stop) old now
goes_lost spot file most text stop old now is short =
    goes_weaker (TakesText file text) (StopsReading spot file most stop) (λ a b t. let r = t.read in record {
      reads = record {
        content = r.content;
        written = r.written;
        counts = r.counts;
        pieces = t.pieces;
        last = [];
        fails = subst (λ (s : Stop). LastIs (IsCallIn spot file) s []) (sym is) refl;
        trace = r.trace ∙ sym (append-nil (a.trace ++ map (Read file) r.counts));
      };
      live = live_all r.counts t.live;
      few = subst (λ (n : ℕ). n ≤ most) (sym r.sum) short;
    }) old now

-- nothing is read at first
pub goes_untaken : (file : ℕ) (old : Option Told) → WhereTold (TakesText file []) old old
goes_untaken file old = goes_same (TakesText file []) (λ a. record {
  read = record { counts = []; sum = refl; rest = refl; content = refl; written = refl; name = refl; taken = omega arith; others = λ other ne. refl; trace = sym (append-nil a.trace) };
  pieces = All-nil (λ (k : ℕ). k ≤ most_piece);
  live = All-nil (λ (n : ℕ). 0 < n);
}) old

-- one read more, and what its counts are
more_read : (laws : FileLaws) (file : ℕ) (text buffer : List ℕ) (n : ℕ) (a b d : Told) → n ≤ length buffer → (r : HasRead file text a b) → ReadsFile file buffer n b d
    → (h : HasRead file (text ++ take n buffer) a d) × (h.counts ≡ r.counts ++ n ∷ [])
more_read laws file text buffer n a b d fits h r =
    let more : HasRead file (text ++ take n buffer) a d = laws.more file text buffer n a b d fits h r in (
      record {
        counts = h.counts ++ n ∷ [];
        sum = fold-append ◌+◌ 0 h.counts (n ∷ []) ∙ ap (λ (s : ℕ). s + n) h.sum ∙ omega (arith, length-append text (take n buffer), length-take-le n buffer fits);
        rest = more.rest;
        content = more.content;
        written = more.written;
        name = more.name;
        taken = more.taken;
        others = more.others;
        trace = r.trace ∙ ap (λ (l : List CallMade). l ++ Read file n ∷ []) h.trace ∙ append_assoc a.trace (map (Read file) h.counts) (Read file n ∷ [])
            ∙ ap (λ (l : List CallMade). a.trace ++ l) (sym (map-append (Read file) h.counts (n ∷ [])));
      },
      refl,
    )

piece_more : (counts all : List ℕ) (n size : ℕ) → all ≡ counts ++ n ∷ [] → ArePieces counts → n ≤ size → size ≤ most_piece → ArePieces all
piece_more counts all n size is pieces fits small = subst ArePieces (sym is) (pieces_more counts (n ∷ []) pieces (one_piece n (omega (arith, fits, small))))

takes_more : (laws : FileLaws) (file : ℕ) (text buffer : List ℕ) (n : ℕ) (a b d : Told) → 0 < n → n ≤ length buffer → length buffer ≤ most_piece → TakesText file text a b → ReadsFile file buffer n b d
    → TakesText file (text ++ take n buffer) a d
takes_more laws file text buffer n a b d some fits small t r =
    let more = more_read laws file text buffer n a b d fits t.read r in
    record {
      read = more.0;
      pieces = piece_more t.read.counts more.0.counts n (length buffer) more.1 t.pieces fits small;
      live = subst (All (λ (m : ℕ). 0 < m)) (sym more.1) (All-append (λ (m : ℕ). 0 < m) t.read.counts (n ∷ []) t.live (All-cons (λ (m : ℕ). 0 < m) n [] some (All-nil (λ (m : ℕ). 0 < m))));
    }

-- the last read found nothing
ends_text : (laws : FileLaws) (file most : ℕ) (text buffer : List ℕ) (n : ℕ) (a b d : Told) → n ≡ 0 → length buffer ≤ most_piece → length text ≤ most → TakesText file text a b → ReadsFile file buffer n b d
    → ReadsFront file most text a d
ends_text laws file most text buffer n a b d none small short t r =
    let fits : n ≤ length buffer = omega (arith, none) in
    let more = more_read laws file text buffer n a b d fits t.read r in
    let front : ReadsFront file most (text ++ take n buffer) a d = record {
      read = more.0;
      pieces = piece_more t.read.counts more.0.counts n (length buffer) more.1 t.pieces fits small;
      live = subst AreBeforeEnd (sym more.1) (live_end t.read.counts n t.live);
      short = subst (λ (l : List ℕ). length l ≤ most) (sym same) short;
      all = λ lt. (laws.end file text buffer n a b d none t.read r).end;
    } in
    subst (λ (l : List ℕ). ReadsFront file most l a d) same front
  where
    same : text ++ take n buffer ≡ text
    same = ap (λ (k : ℕ). text ++ take k buffer) none ∙ append-nil text

pub goes_front : (laws : FileLaws) (file most : ℕ) (text buffer : List ℕ) (n : ℕ) (old now next : Option Told) → n ≡ 0 → length buffer ≤ most_piece → length text ≤ most → WhereTold (TakesText file text) old now
    → WhereTold (ReadsFile file buffer n) now next → WhereTold (ReadsFront file most text) old next
goes_front laws file most text buffer n old now next none small short =
    goes_then (TakesText file text) (ReadsFile file buffer n) (ReadsFront file most text) (λ a b d t r. ends_text laws file most text buffer n a b d none small short t r) old now next

-- so much of the text was read, and is more than may be
pub goes_full : (file most : ℕ) (text : List ℕ) (old now : Option Told) → length text ≤ most → most ≤ length text → WhereTold (TakesText file text) old now → WhereTold (ReadsFront file most text) old now
goes_full file most text old now short full =
    goes_weaker (TakesText file text) (ReadsFront file most text) (λ a b h. record { read = h.read; pieces = h.pieces; live = live_all h.read.counts h.live; short = short; all = λ lt. absurd (omega (arith, lt, full)) }) old now

-- one read more
pub goes_piece : (laws : FileLaws) (file : ℕ) (text text' buffer rest : List ℕ) (n : ℕ) (old now next : Option Told) → 0 < n → n ≤ length buffer → length buffer ≤ most_piece → text' ≡ text ++ take n (buffer ++ rest)
    → WhereTold (TakesText file text) old now → WhereTold (ReadsFile file buffer n) now next → WhereTold (TakesText file text') old next
goes_piece laws file text text' buffer rest n old now next some fits small is =
    let same : text ++ take n buffer ≡ text' = ap (λ (s : List ℕ). text ++ s) (sym (take-append-le n buffer rest fits)) ∙ sym is in
    goes_then (TakesText file text) (ReadsFile file buffer n) (TakesText file text') (λ a b d t r. subst (λ (l : List ℕ). TakesText file l a d) same (takes_more laws file text buffer n a b d some fits small t r)) old now next

-- and so much more is not too much
pub piece_fits : (text text' buffer rest : List ℕ) (n most : ℕ) → n ≤ length buffer → text' ≡ text ++ take n (buffer ++ rest) → length text + length buffer ≤ most → length text' ≤ most
piece_fits text text' buffer rest n most fits is room =
    let same : text' ≡ text ++ take n buffer = is ∙ ap (λ (s : List ℕ). text ++ s) (take-append-le n buffer rest fits) in
    let size : length text' ≡ length text + n = ap length same ∙ length-append text (take n buffer) ∙ ap (λ (k : ℕ). length text + k) (length-take-le n buffer fits) in
    omega (arith, size, room, fits)

-- there is room for what a read may give
pub room_fits : (text buf new : List ℕ) (len room most : ℕ) → length new ≡ length (take room buf) → room ≡ min 4096 (most - len) → len ≡ length text → length text ≤ most → length text + length new ≤ most
room_fits text buf new len room most same room_is len_is short =
    fits (length text) (length new) (length buf) len room most (same ∙ length-take room buf) room_is len_is short
  where
    fits : (t n b len room most : ℕ) → n ≡ min room b → room ≡ min 4096 (most - len) → len ≡ t → t ≤ most → t + n ≤ most
    fits t n b len room most h k l s = omega (arith, h, k, l, s)

-- and it is a piece
pub piece_small : (buf new : List ℕ) (len room most : ℕ) → length new ≡ length (take room buf) → room ≡ min 4096 (most - len) → length new ≤ most_piece
piece_small buf new len room most same room_is = fits (length new) (length buf) len room most (same ∙ length-take room buf) room_is
  where
    fits : (n b len room most : ℕ) → n ≡ min room b → room ≡ min 4096 (most - len) → n ≤ most_piece
    fits n b len room most h k = omega (arith, h, k)
