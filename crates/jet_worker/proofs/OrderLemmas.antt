-- That the calls of a check come in their order.
use Rattle.std.proofs.Common.{◌≡◌, ℕ, zero, suc, ◌+◌, ◌<◌, ◌≤◌, List, [], ◌∷◌, ◌++◌, map, length, take, drop, get_or, All, Option, Some, None, refl, sym, ap, ◌∙◌, subst, arith, append-nil, append_assoc, length-take-le}
use Rattle.std.specs.Prelude.{IsSomeAnd, flat_map, slice_get}
use Rattle.std.specs.List.{enumerate_from}
use Rattle.std.proofs.lemmas.List.{length-map}
use Rattle.std.proofs.lemmas.List.Elements.{All-append}
use Rattle.std.proofs.lemmas.List.FromFn.{length-enumerate_from}
use Rattle.jet_file.specs.Outside.{CallMade, Missed, Tried, Opening}
use Rattle.jet_flow.specs.DataFiles.{DataFile, file_name}
use Rattle.jet_worker.specs.Calls.{IsCallOf, IsEnd, ReadsOrWrites, OpensInOrder, ReadsInOrder, Turn, opened_by, opening_call, part_place, turn_calls}
use Rattle.jet_worker.specs.CheckText.{Checks}
use Rattle.jet_worker.specs.Checked.{names_of, numbered}
use Rattle.jet_worker.specs.Opening.{IsNextOpening, Opened, opening_of, pair_of}
use Rattle.jet_worker.specs.Stopping.{LastIs}
use Rattle.jet_worker.specs.declared.stop.Call.{Call}
use Rattle.jet_worker.specs.declared.stop.Call.TheVariants.{Open}
use Rattle.jet_worker.specs.declared.stop.Spot.{Spot}
use Rattle.jet_worker.specs.declared.stop.Spot.TheVariants.{Part}
use Rattle.jet_worker.specs.declared.stop.Stop.{Stop}
use Rattle.jet_worker.specs.declared.stop.Stop.TheVariants.{BadLine, Outside, NoMemory}
use Rattle.jet_worker.proofs.CallLaws.{HasPieces, ends_last, none_turns, opened_by_openings, opens_none, opens_then}

-- ---- names

-- the names of the first n files are those of their openings
pub names_front : (m n : ℕ) (files : List DataFile) (all : List Opened) → map pair_of all ≡ take n (enumerate_from m files)
    → map file_name files ≡ map (λ o. o.0) (map opening_of all) ++ map file_name (drop n files)
names_front m zero files [] h = refl
names_front m zero files (o ∷ all) h = absurd (cc h)
names_front m (suc n) [] [] h = refl
names_front m (suc n) [] (o ∷ all) h = absurd (cc h)
names_front m (suc n) (f ∷ files) [] h = absurd (cc h)
names_front m (suc n) (f ∷ files) (o ∷ all) h =
    ap (λ (l : List (List ℕ)). file_name f ∷ l) (names_front (m + 1) n files all (tail (pair_of o) (m, f) (map pair_of all) (take n (enumerate_from (m + 1) files)) h))
    ∙ ap (λ (p : ℕ × DataFile). file_name p.1 ∷ (map (λ o. o.0) (map opening_of all) ++ map file_name (drop n files))) (sym (head (pair_of o) (m, f) (map pair_of all) (take n (enumerate_from (m + 1) files)) h))
  where
    head : (x y : ℕ × DataFile) (xs ys : List (ℕ × DataFile)) → x ∷ xs ≡ y ∷ ys → x ≡ y
    head x y xs ys h = cc h

    tail : (x y : ℕ × DataFile) (xs ys : List (ℕ × DataFile)) → x ∷ xs ≡ y ∷ ys → xs ≡ ys
    tail x y xs ys h = cc h

pub names_all : (m : ℕ) (files : List DataFile) (all : List Opened) → map pair_of all ≡ enumerate_from m files → map file_name files ≡ map (λ o. o.0) (map opening_of all)
names_all m [] [] h = refl
names_all m [] (o ∷ all) h = absurd (cc h)
names_all m (f ∷ files) [] h = absurd (cc h)
names_all m (f ∷ files) (o ∷ all) h =
    ap (λ (l : List (List ℕ)). file_name f ∷ l) (names_all (m + 1) files all (tail (pair_of o) (m, f) (map pair_of all) (enumerate_from (m + 1) files) h))
    ∙ ap (λ (p : ℕ × DataFile). file_name p.1 ∷ map (λ o. o.0) (map opening_of all)) (sym (head (pair_of o) (m, f) (map pair_of all) (enumerate_from (m + 1) files) h))
  where
    head : (x y : ℕ × DataFile) (xs ys : List (ℕ × DataFile)) → x ∷ xs ≡ y ∷ ys → x ≡ y
    head x y xs ys h = cc h

    tail : (x y : ℕ × DataFile) (xs ys : List (ℕ × DataFile)) → x ∷ xs ≡ y ∷ ys → xs ≡ ys
    tail x y xs ys h = cc h

-- ---- numbers

pub length_front : (n : ℕ) (files : List DataFile) (all : List Opened) → map pair_of all ≡ take n (enumerate_from 0 files) → n ≤ length files → length all ≡ n
length_front n files all h within =
    let count = length-enumerate_from 0 files in
    sym (length-map all pair_of) ∙ ap length h ∙ length-take-le n (enumerate_from 0 files) (omega (arith, count, within))

-- the number under which the file of a place is open
pub at_place : (all : List Opened) (k : ℕ) (d : Opened) → k < length all → slice_get (map (λ o. o.1) (map opening_of all)) k ≡ Some (get_or all k d).at
at_place [] k d short = absurd (omega (arith, short))
at_place (o ∷ all) zero d short = refl
at_place (o ∷ all) (suc k) d short = at_place all k d (omega (arith, short))

pub at_seam : (k : ℕ) (done later : List Opened) (o : Opened) → k ≡ length done → slice_get (map (λ o. o.1) (map opening_of (done ++ o ∷ later))) k ≡ Some o.at
at_seam zero [] later o is = refl
at_seam (suc k) [] later o is = absurd (omega (arith, is))
at_seam zero (x ∷ done) later o is = absurd (omega (arith, is))
at_seam (suc k) (x ∷ done) later o is = at_seam k done later o (omega (arith, is))

-- ---- while files are opened

opens_next : (files : List DataFile) (n : ℕ) (tried : Tried) → IsSomeAnd (slice_get files n) (λ file. tried ≡ Opening (file_name file)) → OpensInOrder (map file_name (drop n files)) (Missed tried ∷ [])
opens_next [] zero tried h = absurd h
opens_next [] (suc n) tried h = absurd h
opens_next (f ∷ files) zero tried h = subst (λ (t : Tried). OpensInOrder (file_name f ∷ map file_name files) (Missed t ∷ [])) (sym h) (refl, refl)
opens_next (f ∷ files) (suc n) tried h = opens_next files n tried h

pub opens_last : (c : Checks) (n : ℕ) (stop : Stop) (last : List CallMade) → LastIs (IsNextOpening c n) stop last → OpensInOrder (map file_name (drop n c.files)) last
opens_last c n (BadLine part line why) last h = subst (OpensInOrder (map file_name (drop n c.files))) (sym h) (opens_none (map file_name (drop n c.files)))
opens_last c n (Outside call spot) last h = subst (OpensInOrder (map file_name (drop n c.files))) (sym h.1) (opens_next c.files n h.0 h.2.2)
opens_last c n NoMemory last h = subst (OpensInOrder (map file_name (drop n c.files))) (sym h) (opens_none (map file_name (drop n c.files)))

-- the first files were opened, and then that stopped
unfoldable pub opening_order : (c : Checks) (all : List Opened) (stop : Stop) (last : List CallMade) → map pair_of all ≡ take (length all) (numbered c) → LastIs (IsNextOpening c (length all)) stop last
    → ReadsInOrder (names_of c) (map opening_call (map opening_of all) ++ last)
opening_order c all stop last pairs h =
    let opened : List (List ℕ × ℕ) = map opening_of all in
    let rest : List (List ℕ) = map file_name (drop (length all) c.files) in
    record {
      opens = subst (λ (names : List (List ℕ)). OpensInOrder names (map opening_call opened ++ last)) (sym (names_front 0 (length all) c.files all pairs)) (opens_then opened rest last (opens_last c (length all) stop last h));
      opened = opened;
      turns = [];
      waiting = map (λ o. o.1) opened;
      last = last;
      calls_are = ap (λ (l : List CallMade). l ++ last) (sym (append-nil (map opening_call opened)));
      order = refl;
      end = ends_last (IsNextOpening c (length all)) stop last h;
    }

-- the call that failed is the next opening
pub opening_named : (c : Checks) (all : List Opened) (call : Call) (spot : Spot) (tried : Tried) → IsNextOpening c (length all) call spot tried
    → IsCallOf part_place (map opening_call (map opening_of all)) call spot tried
opening_named c all call spot tried h =
    let before : List CallMade = map opening_call (map opening_of all) in
    let count : length all ≡ length (opened_by before) =
    sym (ap length (opened_by_openings (map opening_of all)) ∙ length-map (map opening_of all) (λ o. o.1) ∙ length-map all opening_of) in
    subst (λ (k : Call). IsCallOf part_place before k spot tried) (sym h.0)
    (subst (λ (s : Spot). IsCallOf part_place before Open s tried) (sym h.1) (named (slice_get c.files (length all)) (ap Some count) h.2))
  where
    named : (o : Option DataFile) → Some (length all) ≡ Some (length (opened_by (map opening_call (map opening_of all)))) → IsSomeAnd o (λ file. tried ≡ Opening (file_name file))
        → IsCallOf part_place (map opening_call (map opening_of all)) Open (Part (length all)) tried
    named None count is = absurd is
    named (Some file) count is = subst (λ (t : Tried). IsCallOf part_place (map opening_call (map opening_of all)) Open (Part (length all)) t) (sym is) count

-- ---- when all are open

-- all files were opened, and the first had their turns
unfoldable pub turns_order : (c : Checks) (all : List Opened) (turns : List Turn) (waiting : List ℕ) (last : List CallMade) → map pair_of all ≡ numbered c
    → map (λ o. o.1) (map opening_of all) ≡ map (λ (t : Turn). t.file) turns ++ waiting → All HasPieces turns → All ReadsOrWrites last → IsEnd last
    → ReadsInOrder (names_of c) (map opening_call (map opening_of all) ++ flat_map turn_calls turns ++ last)
turns_order c all turns waiting last pairs order pieces none end =
    let opened : List (List ℕ × ℕ) = map opening_of all in
    let later : List CallMade = flat_map turn_calls turns ++ last in
    let quiet : All ReadsOrWrites later = All-append ReadsOrWrites (flat_map turn_calls turns) last (none_turns turns pieces) none in
    let names : map (λ o. o.0) opened ++ [] ≡ names_of c = append-nil (map (λ o. o.0) opened) ∙ sym (names_all 0 c.files all pairs) in
    record {
      opens = subst (λ (ns : List (List ℕ)). OpensInOrder ns (map opening_call opened ++ flat_map turn_calls turns ++ last)) names
          (subst (OpensInOrder (map (λ o. o.0) opened ++ [])) (sym (append_assoc (map opening_call opened) (flat_map turn_calls turns) last)) (opens_then opened [] later quiet));
      opened = opened;
      turns = turns;
      waiting = waiting;
      last = last;
      calls_are = refl;
      order = order;
      end = end;
    }
