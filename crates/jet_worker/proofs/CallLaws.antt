-- Laws of lists of calls, which follow of the definitions alone: openings and turns among the calls of a run, and which call
-- failed. They are generic in what a failed call is.
use Rattle.std.proofs.Common.{◌≡◌, ◌≤◌, ℕ, List, [], ◌∷◌, ◌++◌, map, All, Option, Some, refl, sym, ap, ◌∙◌, subst, inl, inr, append-nil}
use Rattle.std.specs.Prelude.{◌⊎◌, IsSomeAnd, flat_map, slice_get}
use Rattle.std.proofs.lemmas.Grind.{flat_map-append}
use Rattle.std.proofs.lemmas.List.Elements.{All-append, All-cons, All-head, All-map, All-nil, All-tail}
use Rattle.jet_file.specs.Outside.{CallMade, Opened, Read, Wrote, Missed, Tried, Opening, Reading, Writing}
use Rattle.jet_file.specs.declared.outside.Out.{Out}
use Rattle.jet_file.specs.declared.outside.Out.TheVariants as out
use Rattle.jet_worker.specs.Calls.{ArePieces, IsCallOf, IsEnd, OpensInOrder, ReadsInOrder, ReadsOrWrites, Turn, most_piece, opened_by, opening_call, turn_calls}
use Rattle.jet_worker.specs.Stopping.{IsCallIn, IsWriting, LastIs, LastOf}
use Rattle.jet_worker.specs.inner.Stopped.{spot_of}
use Rattle.jet_worker.specs.declared.stop.Call.{Call}
use Rattle.jet_worker.specs.declared.stop.Call.TheVariants as call
use Rattle.jet_worker.specs.declared.stop.Spot.{Spot}
use Rattle.jet_worker.specs.declared.stop.Spot.TheVariants.{Job, Part, Rows, Notes}
use Rattle.jet_worker.specs.declared.stop.Stop.{Stop}
use Rattle.jet_worker.specs.declared.stop.Stop.TheVariants.{BadLine, Outside, NoMemory}

-- ---- places in a list

pub same_head : {X : Type 0} (x y : X) (xs ys : List X) → x ∷ xs ≡ y ∷ ys → x ≡ y
same_head x y xs ys h = cc h

pub same_tail : {X : Type 0} (x y : X) (xs ys : List X) → x ∷ xs ≡ y ∷ ys → xs ≡ ys
same_tail x y xs ys h = cc h

pub cancel : {X : Type 0} (xs ys zs : List X) → xs ++ ys ≡ xs ++ zs → ys ≡ zs
cancel [] ys zs h = h
cancel (x ∷ xs) ys zs h = cancel xs ys zs (same_tail x x (xs ++ ys) (xs ++ zs) h)

-- the last of a list, or one in front of it
pub split_last : {X : Type 0} (xs before after : List X) (x y : X) → xs ++ x ∷ [] ≡ before ++ y ∷ after → (before ≡ xs) ⊎ ((later : List X) × (xs ≡ before ++ y ∷ later))
split_last [] [] after x y e = inl refl
split_last [] (b ∷ []) after x y e = absurd (cc (same_tail x b [] (y ∷ after) e))
split_last [] (b ∷ d ∷ before) after x y e = absurd (cc (same_tail x b [] (d ∷ (before ++ y ∷ after)) e))
split_last (z ∷ xs) [] after x y e = inr (xs, ap (λ w. w ∷ xs) (same_head z y (xs ++ x ∷ []) after e))
split_last {X} (z ∷ xs) (b ∷ before) after x y e =
    step (split_last xs before after x y (same_tail z b (xs ++ x ∷ []) (before ++ y ∷ after) e)) (same_head z b (xs ++ x ∷ []) (before ++ y ∷ after) e)
  where
    step : (before ≡ xs) ⊎ ((later : List X) × (xs ≡ before ++ y ∷ later)) → z ≡ b → (b ∷ before ≡ z ∷ xs) ⊎ ((later : List X) × (z ∷ xs ≡ b ∷ before ++ y ∷ later))
    step (inl same) first = inl (ap (λ w. w ∷ before) (sym first) ∙ ap (λ (l : List X). z ∷ l) same)
    step (inr (later, is)) first = inr (later, ap (λ w. w ∷ xs) first ∙ ap (λ (l : List X). b ∷ l) is)

-- ---- the numbers of the openings

pub opened_by-append : (xs ys : List CallMade) → opened_by (xs ++ ys) ≡ opened_by xs ++ opened_by ys
opened_by-append [] ys = refl
opened_by-append (Opened name file ∷ xs) ys = ap (λ (l : List ℕ). file ∷ l) (opened_by-append xs ys)
opened_by-append (Read file n ∷ xs) ys = opened_by-append xs ys
opened_by-append (Wrote to n ∷ xs) ys = opened_by-append xs ys
opened_by-append (Missed tried ∷ xs) ys = opened_by-append xs ys

opened_by_reads : (file : ℕ) (counts : List ℕ) → opened_by (map (Read file) counts) ≡ []
opened_by_reads file [] = refl
opened_by_reads file (n ∷ counts) = opened_by_reads file counts

opened_by_writes : (to : Out) (lengths : List ℕ) → opened_by (map (Wrote to) lengths) ≡ []
opened_by_writes to [] = refl
opened_by_writes to (n ∷ lengths) = opened_by_writes to lengths

pub opened_by_turn : (t : Turn) → opened_by (turn_calls t) ≡ []
opened_by_turn t = opened_by-append (map (Read t.file) t.counts) (map (Wrote out.Rows) t.lengths)
    ∙ ap (λ (l : List ℕ). l ++ opened_by (map (Wrote out.Rows) t.lengths)) (opened_by_reads t.file t.counts) ∙ opened_by_writes out.Rows t.lengths

pub opened_by_turns : (turns : List Turn) → opened_by (flat_map turn_calls turns) ≡ []
opened_by_turns [] = refl
opened_by_turns (t ∷ turns) =
    opened_by-append (turn_calls t) (flat_map turn_calls turns) ∙ ap (λ (l : List ℕ). l ++ opened_by (flat_map turn_calls turns)) (opened_by_turn t) ∙ opened_by_turns turns

pub opened_by_openings : (opened : List (List ℕ × ℕ)) → opened_by (map opening_call opened) ≡ map (λ o. o.1) opened
opened_by_openings [] = refl
opened_by_openings (o ∷ opened) = ap (λ (l : List ℕ). o.1 ∷ l) (opened_by_openings opened)

-- the numbers of openings that turns follow
pub opened_by_both : (opened : List (List ℕ × ℕ)) (turns : List Turn) → opened_by (map opening_call opened ++ flat_map turn_calls turns) ≡ map (λ o. o.1) opened
opened_by_both opened turns =
    opened_by-append (map opening_call opened) (flat_map turn_calls turns) ∙ ap (λ (l : List ℕ). opened_by (map opening_call opened) ++ l) (opened_by_turns turns)
    ∙ append-nil (opened_by (map opening_call opened)) ∙ opened_by_openings opened

-- ---- calls that open nothing

pub none_reads : (file : ℕ) (counts : List ℕ) → ArePieces counts → All ReadsOrWrites (map (Read file) counts)
none_reads file counts pieces = All-map ReadsOrWrites (Read file) counts pieces

pub one_piece : (n : ℕ) → n ≤ most_piece → ArePieces (n ∷ [])
one_piece n small = All-cons (λ (k : ℕ). k ≤ most_piece) n [] small (All-nil (λ (k : ℕ). k ≤ most_piece))

pub pieces_more : (counts more : List ℕ) → ArePieces counts → ArePieces more → ArePieces (counts ++ more)
pieces_more counts more h k = All-append (λ (n : ℕ). n ≤ most_piece) counts more h k

pub none_writes : (to : Out) (lengths : List ℕ) → All ReadsOrWrites (map (Wrote to) lengths)
none_writes to lengths = All-map ReadsOrWrites (Wrote to) lengths (λ k d short. tt)

pub none_turn : (t : Turn) → ArePieces t.counts → All ReadsOrWrites (turn_calls t)
none_turn t pieces = All-append ReadsOrWrites (map (Read t.file) t.counts) (map (Wrote out.Rows) t.lengths) (none_reads t.file t.counts pieces) (none_writes out.Rows t.lengths)

-- the turn reads pieces
abbrev pub HasPieces : Turn → Type 0
HasPieces t = ArePieces t.counts

pub none_turns : (turns : List Turn) → All HasPieces turns → All ReadsOrWrites (flat_map turn_calls turns)
none_turns [] pieces = All-nil ReadsOrWrites
none_turns (t ∷ turns) pieces =
    All-append ReadsOrWrites (turn_calls t) (flat_map turn_calls turns) (none_turn t (All-head HasPieces t turns pieces)) (none_turns turns (All-tail HasPieces t turns pieces))

-- the call that failed opens nothing
pub none_last : (such : Call → Spot → Tried → Type 0) (stop : Stop) (last : List CallMade) → ((call : Call) (spot : Spot) (tried : Tried) → such call spot tried → ReadsOrWrites (Missed tried)) → LastIs such stop last
    → All ReadsOrWrites last
none_last such (BadLine part line why) last f h = subst (All ReadsOrWrites) (sym h) (All-nil ReadsOrWrites)
none_last such (Outside call spot) last f h = subst (All ReadsOrWrites) (sym h.1) (All-cons ReadsOrWrites (Missed h.0) [] (f call spot h.0 h.2) (All-nil ReadsOrWrites))
none_last such NoMemory last f h = subst (All ReadsOrWrites) (sym h) (All-nil ReadsOrWrites)

pub last_weaker : (such more : Call → Spot → Tried → Type 0) (stop : Stop) (last : List CallMade) → ((call : Call) (spot : Spot) (tried : Tried) → such call spot tried → more call spot tried) → LastIs such stop last
    → LastIs more stop last
last_weaker such more (BadLine part line why) last f h = h
last_weaker such more (Outside call spot) last f h = (h.0, h.1, f call spot h.0 h.2)
last_weaker such more NoMemory last f h = h

-- a write is one of any file's calls
pub write_in : (mine : Spot) (file : ℕ) (call : Call) (spot : Spot) (tried : Tried) → IsWriting call spot tried → IsCallIn mine file call spot tried
write_in mine file call.Open spot tried h = absurd h
write_in mine file call.Read spot tried h = absurd h
write_in mine file call.Write spot tried h = h

pub ends_last : (such : Call → Spot → Tried → Type 0) (stop : Stop) (last : List CallMade) → LastIs such stop last → IsEnd last
ends_last such (BadLine part line why) last h = inl h
ends_last such (Outside call spot) last h = inr (h.0, h.1)
ends_last such NoMemory last h = inl h

-- ---- openings in order

-- what follows the openings of the first names
pub opens_then : (opened : List (List ℕ × ℕ)) (names : List (List ℕ)) (later : List CallMade) → OpensInOrder names later → OpensInOrder (map (λ o. o.0) opened ++ names) (map opening_call opened ++ later)
opens_then [] names later h = h
opens_then (o ∷ opened) names later h = (refl, opens_then opened names later h)

-- turns with one more
pub turns_more : (turns : List Turn) (t : Turn) → flat_map turn_calls (turns ++ t ∷ []) ≡ flat_map turn_calls turns ++ turn_calls t
turns_more turns t = flat_map-append turn_calls turns (t ∷ []) ∙ ap (λ (l : List CallMade). flat_map turn_calls turns ++ l) (append-nil (turn_calls t))

-- no name is opened by no call
pub opens_none : (names : List (List ℕ)) → OpensInOrder names []
opens_none [] = All-nil ReadsOrWrites
opens_none (name ∷ names) = tt

-- no call was made
unfoldable pub no_calls : (names : List (List ℕ)) → ReadsInOrder names []
no_calls names = record { opens = opens_none names; opened = []; turns = []; waiting = []; last = []; calls_are = refl; order = refl; end = inl refl }

-- ---- which call failed

-- the call that failed is a read of the file
pub read_last : (spot : Spot) (file : ℕ) (stop : Stop) (last : List CallMade) → LastOf call.Read spot (Reading file) stop last → LastIs (IsCallIn spot file) stop last
read_last spot file (BadLine part line why) last h = absurd h
read_last spot file (Outside failed at) last h = (Reading file, h.2, subst (λ (k : Call). IsCallIn spot file k at (Reading file)) (sym h.0) (h.1, refl))
read_last spot file NoMemory last h = h

-- the call that failed is a write
pub write_last : (to : Out) (stop : Stop) (last : List CallMade) → LastOf call.Write (spot_of to) (Writing to) stop last → LastIs IsWriting stop last
write_last to (BadLine part line why) last h = absurd h
write_last to (Outside failed at) last h =
    (Writing to, h.2, subst (λ (k : Call). IsWriting k at (Writing to)) (sym h.0) (subst (λ (s : Spot). IsWriting call.Write s (Writing to)) (sym h.1) (is to)))
  where
    is : (to : Out) → IsWriting call.Write (spot_of to) (Writing to)
    is out.Rows = tt
    is out.Notes = tt
write_last to NoMemory last h = h

-- the call that failed is one of an opened file's turn, whose opening has this place
pub call_named : (place_of : Spot → Option ℕ) (before : List CallMade) (mine : Spot) (k at : ℕ) (call : Call) (spot : Spot) (tried : Tried) → place_of mine ≡ Some k → slice_get (opened_by before) k ≡ Some at
    → IsCallIn mine at call spot tried → IsCallOf place_of before call spot tried
call_named place_of before mine k at call.Open spot tried place is h = absurd h
call_named place_of before mine k at call.Read spot (Opening name) place is h = absurd h
call_named place_of before mine k at call.Read spot (Reading file) place is h =
    subst (λ (s : Spot). IsSomeAnd (place_of s) (λ j. slice_get (opened_by before) j ≡ Some file)) (sym h.0)
    (subst (λ (o : Option ℕ). IsSomeAnd o (λ j. slice_get (opened_by before) j ≡ Some file)) (sym place) (is ∙ ap Some (sym h.1)))
call_named place_of before mine k at call.Read spot (Writing to) place is h = absurd h
call_named place_of before mine k at call.Write Job tried place is h = absurd h
call_named place_of before mine k at call.Write (Part p) tried place is h = absurd h
call_named place_of before mine k at call.Write Rows (Opening name) place is h = absurd h
call_named place_of before mine k at call.Write Rows (Reading file) place is h = absurd h
call_named place_of before mine k at call.Write Rows (Writing out.Rows) place is h = tt
call_named place_of before mine k at call.Write Rows (Writing out.Notes) place is h = absurd h
call_named place_of before mine k at call.Write Notes (Opening name) place is h = absurd h
call_named place_of before mine k at call.Write Notes (Reading file) place is h = absurd h
call_named place_of before mine k at call.Write Notes (Writing out.Rows) place is h = absurd h
call_named place_of before mine k at call.Write Notes (Writing out.Notes) place is h = tt

-- such a call opens nothing
pub none_in : (mine : Spot) (at : ℕ) (call : Call) (spot : Spot) (tried : Tried) → IsCallIn mine at call spot tried → ReadsOrWrites (Missed tried)
none_in mine at call.Open spot (Opening name) h = absurd h
none_in mine at call.Read spot (Opening name) h = absurd h
none_in mine at call.Write Job (Opening name) h = absurd h
none_in mine at call.Write (Part p) (Opening name) h = absurd h
none_in mine at call.Write Rows (Opening name) h = absurd h
none_in mine at call.Write Notes (Opening name) h = absurd h
none_in mine at call spot (Reading file) h = tt
none_in mine at call spot (Writing to) h = tt
