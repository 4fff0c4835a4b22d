-- What a feed keeps when it cuts, reads and gives.
use Rattle.std.proofs.Common.{◌≡◌, ℕ, ◌+◌, ◌≤◌, Bool, true, false, List, [], ◌∷◌, ◌++◌, map, length, Option, Some, None, refl, sym, ap, ◌∙◌, subst, arith, inl, inr, append-nil, append_assoc, length-append}
use Rattle.std.specs.Prelude.{option_to_list}
use Rattle.std.proofs.lemmas.List.{map-append}
use Rattle.std.proofs.lemmas.Grind.{flat_map-append}
use Rattle.jet_items.specs.Kinds.{as_event, events_of}
use Rattle.jet_items.specs.Values.{EventValue}
use Rattle.jet_items.specs.declared.item.Item.{Item}
use Rattle.jet_items.specs.declared.item.Item.TheVariants as item
use Rattle.jet_policy.specs.MarkerValue.{HasSeen}
use Rattle.jet_lines.specs.Cutting.{MayCome, NextIs}
use Rattle.jet_lines.specs.Lines.{lines_of}
use Rattle.jet_lines.specs.LinesValue.{LinesValue}
use Rattle.jet_lines.specs.declared.cut.Cut.TheVariants as cut
use Rattle.jet_file.specs.Outside.{Told, Reading, WhereTold, rest_of}
use Rattle.jet_flow.specs.DataFiles.{DataFile, SourceFile, SideFile}
use Rattle.jet_worker.specs.CheckText.{Checks}
use Rattle.jet_worker.specs.Feeding.{FailsAt, PutsPiece, TakesPiece}
use Rattle.jet_worker.specs.declared.stop.Call.TheVariants as call
use Rattle.jet_worker.specs.declared.stop.Spot.{Spot}
use Rattle.jet_worker.specs.declared.stop.Stop.{Stop}
use Rattle.jet_feed.specs.Bodies.{KeepsBody, Notes, ReadsItem}
use Rattle.jet_feed.specs.Fed.{AreGood, Gives, IsFed, IsLeft, IsOpen, IsSoFar, Keeps, Named, ReadsOn, done_where, ends_idle, is_idle, line_items, unread, unread_in}
use Rattle.jet_feed.specs.declared.body.Body.{Body}
use Rattle.jet_feed.specs.declared.body.Body.TheVariants.{Source, Side}
use Rattle.jet_feed.specs.declared.feed.Feed.{Feed}
use Rattle.jet_feed.specs.declared.rows.Rows.{Rows}
use Rattle.jet_worker.proofs.CallLaws.{cancel}
use Rattle.jet_feed.proofs.BadLemmas.{none_unread, one_unread}
use Rattle.jet_feed.proofs.ItemLemmas.{OneMore, one_more, same_body}

false_true : {P : Type 0} (b : Bool) → b ≡ false → b ≡ true → P
false_true b f t = absurd (cc)

-- the feed with other lines, and with this line unread
abbrev pub with_line : Feed → LinesValue → ℕ → Feed
with_line old lines n = record old { lines = lines; unread = Some n }

-- ---- cuts

pub cut_line : (old : Feed) (n : ℕ) (lines : LinesValue) → old.ended ≡ false → old.unread ≡ None → NextIs old.lines (cut.Line n) lines → Keeps old (with_line old lines n)
cut_line old n lines going none next = λ c p at content told sent h.
    let is : lines.number ≡ n = ap (λ (v : LinesValue). v.number) next.4 in
    let ended : lines.ended ≡ old.lines.ended = ap (λ (v : LinesValue). v.ended) next.4 in
    let most : lines.most ≡ old.lines.most = ap (λ (v : LinesValue). v.most) next.4 in
    let read : unread old ≡ [] = none_unread old none in
    record {
      part = h.part;
      file = h.file;
      most = most ∙ h.most;
      bytes = h.bytes;
      given = h.given;
      number = omega (arith, is, next.0, h.number, ap length read);
      named = sym is;
      few = omega (arith, is, next.1, h.most);
      cut = λ more may.
          let may2 : MayCome old.lines.ended more = λ e. may (ended ∙ e) in
          h.cut more may2 ∙ ap (λ (l : List (List ℕ)). h.given ++ (l ++ lines_of (old.lines.rest ++ more))) read
          ∙ ap (λ (l : List (List ℕ)). h.given ++ l) (next.3 more may2);
      good = h.good;
      left = subst (λ (b : Bool). IsLeft at content h.bytes b told) (sym ended) h.left;
      items = h.items;
      body = h.body;
      idle = h.idle;
      end = λ e. false_true old.ended going e;
    }

-- the end of the file was found
pub cut_end : (old : Feed) (lines : LinesValue) → old.ended ≡ false → old.unread ≡ None → old.waiting ≡ None → NextIs old.lines cut.End lines
    → Keeps old (record old { lines = lines; ended = true; waiting = Some item.Done })
cut_end old lines going none empty next = λ c p at content told sent h.
    let is : lines ≡ old.lines = next.2 in
    let moved : IsFed c p at content told sent (record old { lines = lines }) = subst (λ (v : LinesValue). IsFed c p at content told sent (record old { lines = v })) (sym is) h in
    let items : sent ≡ line_items c p h.given =
    sym (append-nil sent) ∙ ap (λ (o : Option Item). sent ++ option_to_list o) (sym empty) ∙ h.items ∙ ap (λ (b : Bool). line_items c p h.given ++ done_where b) going ∙ append-nil (line_items c p h.given) in
    record {
      part = moved.part;
      file = moved.file;
      most = moved.most;
      bytes = h.bytes;
      given = h.given;
      number = ap (λ (v : LinesValue). v.number) is ∙ h.number ∙ ap (λ (v : LinesValue). length h.given + length (unread_in old.unread v.line)) (sym is);
      named = subst (λ (v : LinesValue). Named old.unread v.number) (sym is) h.named;
      few = subst (λ (v : LinesValue). v.number ≤ c.most) (sym is) h.few;
      cut = subst (λ (v : LinesValue). (more : List ℕ) → MayCome v.ended more → lines_of (h.bytes ++ more) ≡ h.given ++ (unread_in old.unread v.line ++ lines_of (v.rest ++ more))) (sym is) h.cut;
      good = h.good;
      left = subst (λ (v : LinesValue). IsLeft at content h.bytes v.ended told) (sym is) h.left;
      items = ap (λ (l : List Item). l ++ item.Done ∷ []) items;
      body = h.body;
      idle = h.idle;
      end = λ e. (ap (λ (v : LinesValue). v.ended) is ∙ next.0, ap (λ (v : LinesValue). v.rest) is ∙ next.1, none);
    }

-- the same lines
pub same_lines : (old : Feed) (lines : LinesValue) → lines ≡ old.lines → Keeps old (record old { lines = lines })
same_lines old lines is = λ c p at content told sent h. subst (λ (v : LinesValue). IsFed c p at content told sent (record old { lines = v })) (sym is) h

-- ---- readings

pub read_item : (old : Feed) (n : ℕ) (found : Option Item) (body : Body) → old.unread ≡ Some n → old.waiting ≡ None → old.ended ≡ false → ReadsItem old.part n old.lines.line found old.body body
    → Keeps old (record old { body = body; waiting = found; unread = None })
read_item old n found body is empty going reads = λ c p at content told sent h.
    let read : unread old ≡ old.lines.line ∷ [] = one_unread old n is in
    let named : n ≡ old.lines.number = subst (λ (o : Option ℕ). Named o old.lines.number) is h.named in
    let number : n ≡ length h.given + 1 = omega (arith, named, h.number, ap length read) in
    let small : n ≤ c.most = omega (arith, named, h.few) in
    let line : List ℕ = old.lines.line in
    let longer : length (h.given ++ line ∷ []) ≡ length h.given + 1 = length-append h.given (line ∷ []) in
    let more : OneMore c p h.given line found sent body =
    one_more c p h.given line found sent old.body body n h.good h.body (subst (λ (k : ℕ). ReadsItem k n line found old.body body) h.part reads) number small in
    let items : sent ≡ line_items c p h.given =
    sym (append-nil sent) ∙ ap (λ (o : Option Item). sent ++ option_to_list o) (sym empty) ∙ h.items ∙ ap (λ (b : Bool). line_items c p h.given ++ done_where b) going ∙ append-nil (line_items c p h.given) in
    record {
      part = h.part;
      file = h.file;
      most = h.most;
      bytes = h.bytes;
      given = h.given ++ line ∷ [];
      number = omega (arith, named, number, longer);
      named = tt;
      few = h.few;
      cut = λ rest may.
          h.cut rest may ∙ ap (λ (l : List (List ℕ)). h.given ++ (l ++ lines_of (old.lines.rest ++ rest))) read
          ∙ sym (append_assoc h.given (line ∷ []) (lines_of (old.lines.rest ++ rest)));
      good = more.good;
      left = h.left;
      items = ap (λ (l : List Item). l ++ option_to_list found) items ∙ sym more.items ∙ sym (append-nil (line_items c p (h.given ++ line ∷ []))) ∙ ap (λ (b : Bool). line_items c p (h.given ++ line ∷ []) ++ done_where b) (sym going);
      body = more.body;
      idle = h.idle;
      end = λ e. false_true old.ended going e;
    }

-- another body that says the same
pub other_body : (old : Feed) (body : Body) → KeepsBody old.body body → Keeps old (record old { body = body })
other_body old body same = λ c p at content told sent h. record {
  part = h.part;
  file = h.file;
  most = h.most;
  bytes = h.bytes;
  given = h.given;
  number = h.number;
  named = h.named;
  few = h.few;
  cut = h.cut;
  good = h.good;
  left = h.left;
  items = h.items;
  body = same_body c p h.given sent old.body body h.body same;
  idle = h.idle;
  end = h.end;
}

-- ---- items that are given

events_more : (sent : List Item) (i : Item) → map (λ (e : EventValue). e.ts) (events_of (sent ++ i ∷ [])) ≡ map (λ (e : EventValue). e.ts) (events_of sent) ++ map (λ (e : EventValue). e.ts) (as_event i)
events_more sent i =
    ap (map (λ (e : EventValue). e.ts)) (flat_map-append as_event sent (i ∷ []) ∙ ap (λ (l : List EventValue). events_of sent ++ l) (append-nil (as_event i)))
    ∙ map-append (λ (e : EventValue). e.ts) (events_of sent) (as_event i)

noted : (c : Checks) (p : ℕ × DataFile) (given : List (List ℕ)) (sent : List Item) (i : Item) (old new : Body) → IsSoFar c p given sent old → Notes i old new → IsSoFar c p given (sent ++ i ∷ []) new
noted c (p, SourceFile name lag) given sent i (Source m) (Source m') h n = (
  n.lag ∙ h.0,
  n.grain ∙ h.1,
  subst (HasSeen m') (sym (events_more sent i)) (n.seen (map (λ (e : EventValue). e.ts) (events_of sent)) h.2),
)
noted c (p, SourceFile name lag) given sent i (Source m) (Side rows) h n = absurd n
noted c (p, SourceFile name lag) given sent i (Side rows) new h n = absurd h
noted c (p, SideFile name) given sent i (Source m) new h n = absurd h
noted c (p, SideFile name) given sent i (Side old) (Source m) h n = absurd n
noted c (p, SideFile name) given sent i (Side old) (Side new) h n = subst (λ (v : Rows). IsSoFar c (p, SideFile name) given sent (Side v)) (sym n) h

ends_with : (before : List Item) (i : Item) → ends_idle (before ++ i ∷ []) ≡ is_idle i
ends_with [] i = refl
ends_with (x ∷ []) i = refl
ends_with (x ∷ y ∷ before) i = ends_with (y ∷ before) i

pub given_item : (old : Feed) (i : Item) (body : Body) (before now : List Item) → old.waiting ≡ Some i → Notes i old.body body → now ≡ before ++ i ∷ []
    → Gives old (record old { body = body; waiting = None; is_idle = is_idle i }) before now
given_item old i body before now is notes more = λ c p at content told h. record {
  part = h.part;
  file = h.file;
  most = h.most;
  bytes = h.bytes;
  given = h.given;
  number = h.number;
  named = h.named;
  few = h.few;
  cut = h.cut;
  good = h.good;
  left = h.left;
  items = append-nil now ∙ more ∙ ap (λ (o : Option Item). before ++ option_to_list o) (sym is) ∙ h.items;
  body = subst (λ (l : List Item). IsSoFar c p h.given l body) (sym more) (noted c p h.given before i old.body body h.body notes);
  idle = sym (ap ends_idle more ∙ ends_with before i);
  end = h.end;
}

-- ---- pieces

-- lines with a piece more, or at their end
put : (old : Feed) (lines : LinesValue) (piece : List ℕ) (before now : Option Told) → old.ended ≡ false → old.unread ≡ None → old.lines.ended ≡ false → lines.most ≡ old.lines.most → lines.number ≡ old.lines.number
    → lines.rest ≡ old.lines.rest ++ piece → WhereTold (TakesPiece old.file old.lines lines) before now → ReadsOn before now old (record old { lines = lines })
put old lines piece before now going none live most number rest told = λ c p content sent h.
    let read : unread old ≡ [] = none_unread old none in
    let nothing : unread_in old.unread lines.line ≡ [] = ap (λ (o : Option ℕ). unread_in o lines.line) none in
    record {
      part = h.part;
      file = h.file;
      most = most ∙ h.most;
      bytes = h.bytes ++ piece;
      given = h.given;
      number = number ∙ h.number ∙ ap (λ (l : List (List ℕ)). length h.given + length l) (read ∙ sym nothing);
      named = subst (λ (o : Option ℕ). Named o lines.number) (sym none) tt;
      few = subst (λ (k : ℕ). k ≤ c.most) (sym number) h.few;
      cut = λ more may.
          ap lines_of (append_assoc h.bytes piece more) ∙ h.cut (piece ++ more) (λ e. false_true old.lines.ended live e)
          ∙ ap (λ (l : List ℕ). h.given ++ (unread old ++ lines_of l)) (sym (append_assoc old.lines.rest piece more) ∙ ap (λ (l : List ℕ). l ++ more) (sym rest))
          ∙ ap (λ (l : List (List ℕ)). h.given ++ (l ++ lines_of (lines.rest ++ more))) (read ∙ sym nothing);
      good = h.good;
      left = left_more h.bytes content before now told h.left;
      items = h.items;
      body = h.body;
      idle = h.idle;
      end = λ e. false_true old.ended going e;
    }
  where
    left_more : (bytes : List ℕ) (content : Option (List ℕ)) (a b : Option Told) → WhereTold (TakesPiece old.file old.lines lines) a b → IsLeft old.file content bytes old.lines.ended a → IsLeft old.file content (bytes ++ piece) lines.ended b
    left_more bytes None a b t h = tt
    left_more bytes (Some content) None b t h = absurd h
    left_more bytes (Some content) (Some a) None t h = absurd t
    left_more bytes (Some content) (Some a) (Some b) t h =
        let same : t.piece ≡ piece = cancel old.lines.rest t.piece piece (sym t.lines ∙ rest) in (
          h.0 ∙ ap (λ (l : List ℕ). bytes ++ l) (t.rest ∙ ap (λ (l : List ℕ). l ++ rest_of b old.file) same) ∙ sym (append_assoc bytes piece (rest_of b old.file)),
          t.end,
        )

pub put_piece : (old : Feed) (lines : LinesValue) (before now : Option Told) → IsOpen old → PutsPiece old.lines lines → WhereTold (TakesPiece old.file old.lines lines) before now → ReadsOn before now old (record old { lines = lines })
put_piece old lines before now going (inl (piece, some, small, is)) told =
    put old lines piece before now going.ended going.unread going.more (ap (λ (v : LinesValue). v.most) is) (ap (λ (v : LinesValue). v.number) is) (ap (λ (v : LinesValue). v.rest) is) told
put_piece old lines before now going (inr is) told =
    put old lines [] before now going.ended going.unread going.more (ap (λ (v : LinesValue). v.most) is) (ap (λ (v : LinesValue). v.number) is) (ap (λ (v : LinesValue). v.rest) is ∙ sym (append-nil old.lines.rest)) told

-- the reading failed, and nothing was taken
pub read_failed : (old : Feed) (lines : LinesValue) (spot : Spot) (stop : Stop) (before now : Option Told) → lines ≡ record old.lines { held = lines.held } → WhereTold (FailsAt call.Read spot (Reading old.file) stop) before now
    → ReadsOn before now old (record old { lines = lines })
read_failed old lines spot stop before now is told = λ c p content sent h. record {
  part = h.part;
  file = h.file;
  most = ap (λ (v : LinesValue). v.most) is ∙ h.most;
  bytes = h.bytes;
  given = h.given;
  number = ap (λ (v : LinesValue). v.number) is ∙ h.number ∙ ap (λ (v : LinesValue). length h.given + length (unread_in old.unread v.line)) (sym is);
  named = subst (λ (k : ℕ). Named old.unread k) (sym (ap (λ (v : LinesValue). v.number) is)) h.named;
  few = subst (λ (k : ℕ). k ≤ c.most) (sym (ap (λ (v : LinesValue). v.number) is)) h.few;
  cut = subst (λ (v : LinesValue). (more : List ℕ) → MayCome v.ended more → lines_of (h.bytes ++ more) ≡ h.given ++ (unread_in old.unread v.line ++ lines_of (v.rest ++ more))) (sym is) h.cut;
  good = h.good;
  left = subst (λ (b : Bool). IsLeft old.file content h.bytes b now) (sym (ap (λ (v : LinesValue). v.ended) is)) (left_same h.bytes content before now told h.left);
  items = h.items;
  body = h.body;
  idle = h.idle;
  end = λ e.
      let k = h.end e in
      (ap (λ (v : LinesValue). v.ended) is ∙ k.0, ap (λ (v : LinesValue). v.rest) is ∙ k.1, k.2);
}
  where
    left_same : (bytes : List ℕ) (content : Option (List ℕ)) (a b : Option Told) → WhereTold (FailsAt call.Read spot (Reading old.file) stop) a b → IsLeft old.file content bytes old.lines.ended a → IsLeft old.file content bytes old.lines.ended b
    left_same bytes None a b t h = tt
    left_same bytes (Some content) None b t h = absurd h
    left_same bytes (Some content) (Some a) None t h = absurd t
    left_same bytes (Some content) (Some a) (Some b) t h =
        let same : rest_of b old.file ≡ rest_of a old.file = ap (λ (t : Told). rest_of t old.file) t.same in
        (h.0 ∙ ap (λ (l : List ℕ). bytes ++ l) (sym same), λ e. same ∙ h.1 e)

-- ---- new feeds

none_good : (c : Checks) (p : ℕ × DataFile) → AreGood c p []
none_good c (p, SourceFile name lag) = (refl, refl)
none_good c (p, SideFile name) = refl

no_items : (c : Checks) (p : ℕ × DataFile) → line_items c p [] ≡ []
no_items c (p, SourceFile name lag) = refl
no_items c (p, SideFile name) = refl

-- nothing was taken of the file
pub starts : (c : Checks) (p : ℕ × DataFile) (at : ℕ) (content : Option (List ℕ)) (told : Option Told) (lines : LinesValue) (body : Body)
    → lines ≡ record { most = c.most; number = 0; ended = false; line = []; rest = []; held = 0 } → IsSoFar c p [] [] body → IsLeft at content [] false told
    → IsFed c p at content told [] (record { part = p.0; file = at; lines = lines; body = body; unread = None; waiting = None; is_idle = false; ended = false })
starts c p at content told lines body is so_far left = record {
  part = refl;
  file = refl;
  most = ap (λ (v : LinesValue). v.most) is;
  bytes = [];
  given = [];
  number = ap (λ (v : LinesValue). v.number) is;
  named = tt;
  few = subst (λ (k : ℕ). k ≤ c.most) (sym (ap (λ (v : LinesValue). v.number) is)) (omega arith);
  cut = λ more may. ap (λ (v : LinesValue). lines_of (v.rest ++ more)) (sym is);
  good = none_good c p;
  left = subst (λ (b : Bool). IsLeft at content [] b told) (sym (ap (λ (v : LinesValue). v.ended) is)) left;
  items = sym (ap (λ (l : List Item). l ++ []) (no_items c p));
  body = so_far;
  idle = refl;
  end = λ e. absurd (false_true false refl e);
}

-- what is done to other files and to the outputs leaves a feed
pub told_same : (c : Checks) (p : ℕ × DataFile) (at : ℕ) (content : Option (List ℕ)) (told next : Told) (sent : List Item) (feed : Feed) → rest_of next at ≡ rest_of told at
    → IsFed c p at content (Some told) sent feed → IsFed c p at content (Some next) sent feed
told_same c p at content told next sent feed same h = record {
  part = h.part;
  file = h.file;
  most = h.most;
  bytes = h.bytes;
  given = h.given;
  number = h.number;
  named = h.named;
  few = h.few;
  cut = h.cut;
  good = h.good;
  left = left content h.left;
  items = h.items;
  body = h.body;
  idle = h.idle;
  end = h.end;
}
  where
    left : (o : Option (List ℕ)) → IsLeft at o h.bytes feed.lines.ended (Some told) → IsLeft at o h.bytes feed.lines.ended (Some next)
    left None k = tt
    left (Some bytes) k = (k.0 ∙ ap (λ (l : List ℕ). h.bytes ++ l) (sym same), λ e. same ∙ k.1 e)
