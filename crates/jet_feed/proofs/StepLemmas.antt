-- The steps of a feed, one after another.
use Rattle.std.proofs.Common.{◌≡◌, ℕ, ◌≤◌, ◌<◌, Bool, true, false, List, [], ◌∷◌, ◌++◌, map, length, Option, Ok, Err, refl, sym, ap, ◌∙◌, subst, arith, append-nil, append_assoc, length-append, inl, inr}
use mathlib.Core.List.{IsPrefix}
use Rattle.jet_items.specs.declared.item.Item.{Item}
use Rattle.jet_lines.specs.LinesValue.{LinesValue}
use Rattle.jet_file.specs.Outside.{CallMade, Read, Told, Reading, WhereTold}
use Rattle.jet_flow.specs.DataFiles.{DataFile}
use Rattle.jet_worker.specs.CheckText.{Checks}
use Rattle.jet_worker.specs.Feeding.{FailsAt, TakesPiece}
use Rattle.jet_worker.specs.Stopping.{CauseOfStop, IsCallIn, IsForOutside, IsNoBadLine, LastIs, Outcome}
use Rattle.jet_worker.specs.Calls.{most_piece}
use Rattle.jet_worker.specs.declared.stop.Spot.TheVariants.{Part}
use Rattle.jet_worker.specs.declared.stop.Call.TheVariants as call
use Rattle.jet_worker.specs.declared.stop.Stop.{Stop}
use Rattle.jet_worker.specs.declared.stop.Stop.TheVariants.{BadLine, Outside, NoMemory}
use Rattle.jet_feed.specs.Fed.{Feeds, Gives, HasMoved, HasRead, IsBadIn, IsBadOf, IsFed, IsOfFile, Keeps, ReadsOn, Tells}
use Rattle.jet_feed.specs.declared.feed.Feed.{Feed}
use Rattle.jet_ring.specs.Ring.{reach, sent, tx_ring}
use Rattle.jet_ring.specs.declared.ends.Tx.{Tx}
use Rattle.std.proofs.lemmas.List.{map-append}
use Rattle.std.proofs.lemmas.List.Elements.{All-nil}
use Rattle.jet_worker.proofs.CallLaws.{one_piece, pieces_more, read_last}
use Rattle.jet_file.proofs.GoesLaws.{goes_same, goes_then, goes_weaker}

none : (IsEnd : List CallMade → Type 0) (at : ℕ) (a : Told) → IsEnd [] → HasRead IsEnd at a a
none IsEnd at a end = record {
  content = refl;
  written = refl;
  name = refl;
  others = λ other differs. refl;
  counts = [];
  pieces = All-nil (λ (n : ℕ). n ≤ most_piece);
  last = [];
  end = end;
  trace = sym (append-nil (a.trace ++ []) ∙ append-nil a.trace);
}

-- ---- stops

pub none_bad : (c : Checks) (p : ℕ × DataFile) (content : Option (List ℕ)) (stop : Stop) → IsNoBadLine stop → IsBadOf c p content stop
none_bad c p content (BadLine part line why) k = absurd k
none_bad c p content (Outside call spot) k = tt
none_bad c p content NoMemory k = tt

-- a stop of a later step is one of the steps together
pub bad_later : (old now : Feed) (told next : Option Told) (before sent : List Item) (stop : Stop) → Feeds told next before sent old now → IsBadIn now next sent stop → IsBadIn old told before stop
bad_later old now told next before sent stop feeds bad = λ c p at content h. bad c p at content (feeds c p at content h)

pub never_bad : (old : Feed) (told : Option Told) (sent : List Item) (stop : Stop) → IsNoBadLine stop → IsBadIn old told sent stop
never_bad old told sent stop k = λ c p at content h. none_bad c p content stop k

-- a stop for no call on the outside leaves its faults
pub inside : {S T : Type 0} (opened : S → ℕ → Bool) (steady : S → Bool) (faults : S → ℕ) (out : S) (stop : Stop) → (IsForOutside stop → ⊥) → Outcome {T = T} opened steady faults out out (Err stop)
inside opened steady faults out stop k = record {
  opened_same = refl;
  steady_same = refl;
  later = omega arith;
  cause = cause stop k;
  works = λ s for_outside. k for_outside;
}
  where
    cause : (s : Stop) → (IsForOutside s → ⊥) → CauseOfStop (faults out) (faults out) s
    cause (BadLine part line why) k = refl
    cause (Outside call spot) k = absurd (k tt)
    cause NoMemory k = refl

-- ---- what is told

-- no call
pub reads_none : {T : Type 0} (feed : Feed) (done : T) (old : Option Told) → Tells feed (Ok done) old old
reads_none feed done = goes_same (HasRead (λ last. last ≡ []) feed.file) (λ a. none (λ last. last ≡ []) feed.file a refl)

-- a stop for no call on the outside
pub reads_inside : (T : Type 0) (feed : Feed) (stop : Stop) (old : Option Told) → (IsForOutside stop → ⊥) → Tells {T = T} feed (Err stop) old old
reads_inside T feed stop old k = goes_same (HasRead (LastIs (IsCallIn (Part feed.part) feed.file) stop) feed.file) (λ a. none (LastIs (IsCallIn (Part feed.part) feed.file) stop) feed.file a (last stop k)) old
  where
    last : (s : Stop) → (IsForOutside s → ⊥) → LastIs (IsCallIn (Part feed.part) feed.file) s []
    last (BadLine part line why) k = refl
    last (Outside call spot) k = absurd (k tt)
    last NoMemory k = refl

joined : (at : ℕ) (a b d last none : List CallMade) (m n : List ℕ) → none ≡ [] → b ≡ a ++ map (Read at) m ++ none → d ≡ b ++ map (Read at) n ++ last → d ≡ a ++ map (Read at) (m ++ n) ++ last
joined at a b d last none m n empty one two =
    let first : b ≡ a ++ map (Read at) m = one ∙ ap (λ (l : List CallMade). a ++ map (Read at) m ++ l) empty ∙ append-nil (a ++ map (Read at) m) in
    two ∙ ap (λ (l : List CallMade). l ++ map (Read at) n ++ last) first
    ∙ ap (λ (l : List CallMade). l ++ last) (append_assoc a (map (Read at) m) (map (Read at) n) ∙ ap (λ (l : List CallMade). a ++ l) (sym (map-append (Read at) m n)))

-- reads, and then others of the same file
pub reads_then : (IsEnd : List CallMade → Type 0) (at : ℕ) (old now next : Option Told) → WhereTold (HasRead (λ last. last ≡ []) at) old now → WhereTold (HasRead IsEnd at) now next → WhereTold (HasRead IsEnd at) old next
reads_then IsEnd at =
    goes_then (HasRead (λ last. last ≡ []) at) (HasRead IsEnd at) (HasRead IsEnd at) (λ a b d r s. record {
      content = s.content ∙ r.content;
      written = s.written ∙ r.written;
      name = s.name ∙ r.name;
      others = λ other differs. s.others other differs ∙ r.others other differs;
      counts = r.counts ++ s.counts;
      pieces = pieces_more r.counts s.counts r.pieces s.pieces;
      last = s.last;
      end = s.end;
      trace = joined at a.trace b.trace d.trace s.last r.last r.counts s.counts r.end r.trace s.trace;
    })

pub piece_told : {T : Type 0} (feed : Feed) (done : T) (before after : LinesValue) (old now : Option Told) → WhereTold (TakesPiece feed.file before after) old now → Tells feed (Ok done) old now
piece_told feed done before after =
    goes_weaker (TakesPiece feed.file before after) (HasRead (λ last. last ≡ []) feed.file) (λ a b t. record {
      content = t.content;
      written = t.written;
      name = t.name;
      others = t.others;
      counts = length t.piece ∷ [];
      pieces = one_piece (length t.piece) t.small;
      last = [];
      end = refl;
      trace = t.trace ∙ sym (append-nil (a.trace ++ Read feed.file (length t.piece) ∷ []));
    })

pub piece_moves : (at : ℕ) (before after : LinesValue) (old now : Option Told) → WhereTold (TakesPiece at before after) old now → WhereTold (λ a b. length a.trace < length b.trace) old now
piece_moves at before after =
    goes_weaker (TakesPiece at before after) (λ a b. length a.trace < length b.trace) (λ a b t.
    omega (arith, ap length t.trace, length-append a.trace (Read at (length t.piece) ∷ [])))

pub fail_told : (T : Type 0) (feed : Feed) (stop : Stop) (old now : Option Told) → WhereTold (FailsAt call.Read (Part feed.part) (Reading feed.file) stop) old now → Tells {T = T} feed (Err stop) old now
fail_told T feed stop =
    goes_weaker (FailsAt call.Read (Part feed.part) (Reading feed.file) stop) (HasRead (LastIs (IsCallIn (Part feed.part) feed.file) stop) feed.file) (λ a b t. record {
      content = ap (λ (x : Told). x.content) t.same;
      written = ap (λ (x : Told). x.written) t.same;
      name = ap (λ (x : Told). (x.place feed.file).name) t.same;
      others = λ other differs. ap (λ (x : Told). x.place other) t.same;
      counts = [];
      pieces = All-nil (λ (n : ℕ). n ≤ most_piece);
      last = t.last;
      end = read_last (Part feed.part) feed.file stop t.last t.is;
      trace = ap (λ (x : Told). x.trace) t.same ∙ ap (λ (l : List CallMade). l ++ t.last) (sym (append-nil a.trace));
    })

-- ---- what the feed keeps

pub feeds_none : (told : Option Told) (sent : List Item) (old : Feed) → Feeds told told sent sent old old
feeds_none told sent old = λ c p at content h. h

pub feeds_then : (told now next : Option Told) (before mid after : List Item) (a b d : Feed) → Feeds told now before mid a b → Feeds now next mid after b d → Feeds told next before after a d
feeds_then told now next before mid after a b d f g = λ c p at content h. g c p at content (f c p at content h)

pub feeds_kept : (told : Option Told) (sent : List Item) (old now : Feed) → Keeps old now → Feeds told told sent sent old now
feeds_kept told sent old now keeps = λ c p at content h. keeps c p at content told sent h

pub feeds_given : (told : Option Told) (before after : List Item) (old mid now : Feed) → Keeps old mid → Gives mid now before after → Feeds told told before after old now
feeds_given told before after old mid now keeps gives = λ c p at content h. gives c p at content told (keeps c p at content told before h)

pub feeds_read : (told next : Option Told) (sent : List Item) (old mid now : Feed) → Keeps old mid → ReadsOn told next mid now → Feeds told next sent sent old now
feeds_read told next sent old mid now keeps reads = λ c p at content h.
    let k : IsFed c p at content told sent mid = keeps c p at content told sent h in
    subst (λ (n : ℕ). IsFed c p n content next sent now) k.file (reads c p content sent (subst (λ (n : ℕ). IsFed c p n content told sent mid) (sym k.file) k))

pub keeps_then : (a b d : Feed) → Keeps a b → Keeps b d → Keeps a d
keeps_then a b d f g = λ c p at content told sent h. g c p at content told sent (f c p at content told sent h)

-- ---- what was sent

pub same_front : (xs : List Item) → IsPrefix xs xs
same_front xs = ([], append-nil xs)

pub one_front : (xs ys : List Item) (x : Item) → ys ≡ xs ++ x ∷ [] → IsPrefix xs ys
one_front xs ys x is = (x ∷ [], sym is)

-- ---- what moved

shorter : (xs ys : List Item) → IsPrefix xs ys → length xs ≤ length ys
shorter xs ys front = omega (arith, ap length front.1, length-append xs front.0)

longer : (IsEnd : List CallMade → Type 0) (at : ℕ) (a b : Told) → HasRead IsEnd at a b → length a.trace ≤ length b.trace
longer IsEnd at a b r = omega (arith, ap length r.trace, length-append (a.trace ++ map (Read at) r.counts) r.last, length-append a.trace (map (Read at) r.counts))

-- what moved in a later step moved in the steps together
pub moved_later : (first mid now : List Item) (at : ℕ) (a b d : Option Told) → IsPrefix first mid → WhereTold (HasRead (λ last. last ≡ []) at) a b → HasMoved mid now b d → HasMoved first now a d
moved_later first mid now at a b d front reads (inl more) = inl (omega (arith, more, shorter first mid front))
moved_later first mid now at a b d front reads (inr more) =
    inr (goes_then (HasRead (λ last. last ≡ []) at) (λ x y. length x.trace < length y.trace) (λ x y. length x.trace < length y.trace)
    (λ x y z r m. omega (arith, m, longer (λ last. last ≡ []) at x y r)) a b d reads more)

-- the feed of the same file stopped
pub tells_as : (old feed : Feed) (stop : Stop) (a b : Option Told) → IsOfFile old feed → Tells {T = Bool} feed (Err stop) a b → WhereTold (HasRead (LastIs (IsCallIn (Part old.part) old.file) stop) old.file) a b
tells_as old feed stop a b is h =
    subst (λ (q : ℕ). WhereTold (HasRead (LastIs (IsCallIn (Part q) old.file) stop) old.file) a b) is.0
    (subst (λ (n : ℕ). WhereTold (HasRead (LastIs (IsCallIn (Part feed.part) n) stop) n) a b) is.1 h)

-- ---- what the loop over the steps keeps

pub record SoFar {S : Type 0} (tells : S → Option Told) (opened : S → ℕ → Bool) (steady : S → Bool) (faults : S → ℕ) (start now : S) (first tx : Tx Item) (old feed : Feed) (moved : Bool) (count : ℕ) : Type 0 where
  pub same_ring : tx_ring tx ≡ tx_ring first
  pub same_reach : reach tx ≡ reach first
  pub front : IsPrefix (sent first) (sent tx)
  pub opened_same : opened now ≡ opened start
  pub steady_same : steady now ≡ steady start
  pub faults_same : faults now ≡ faults start
  pub told : WhereTold (HasRead (λ last. last ≡ []) old.file) (tells start) (tells now)
  pub kept : Feeds (tells start) (tells now) (sent first) (sent tx) old feed
  pub file : IsOfFile old feed
  pub has_moved : moved ≡ true → HasMoved (sent first) (sent tx) (tells start) (tells now)
  pub none : moved ≡ false → (tx ≡ first) × (now ≡ start) × (feed ≡ old)
  pub began : moved ≡ false → count ≡ 0
