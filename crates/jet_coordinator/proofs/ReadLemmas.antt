-- The reads of several files, one step after another.
use Rattle.std.proofs.Common.{◌≡◌, ◌≢◌, ℕ, ◌<◌, ◌≤◌, Bool, true, false, ◌||◌, List, [], ◌++◌, ◌∙◌, map, length, Option, Some, None, Result, Ok, Err, refl, sym, ap, subst, get_or, set, arith, length-set, ◌⊎◌, append-nil, append_assoc, inl, inr}
use Rattle.std.specs.Prelude.{All, AllPairs, Contains, IfErr, IsTrue, IsSome, MatchResult, OnOk, option_map}
use Rattle.std.specs.List.{slice_get}
use Rattle.std.proofs.lemmas.Bool.{cases_eq, cases_lt}
use Rattle.std.proofs.lemmas.List.{length-map}
use Rattle.std.proofs.lemmas.List.Elements.{All-append, All-map, All-nil, Contains-get_or}
use Rattle.std.proofs.lemmas.Option.{get_or_from_slice_get, slice_get-map, slice_get_cases, slice_get_within}
use Rattle.jet_crew.specs.Epoch.{Placewise}
use Rattle.jet_file.specs.Outside.{CallMade, Opened, Read, Wrote, Missed, Place, Told, Tried, WhereTold, rest_from, rest_of}
use Rattle.jet_flow.specs.DataFiles.{DataFile, file_name}
use Rattle.jet_items.specs.declared.item.Item.{Item}
use Rattle.jet_ring.specs.Ring.{TxView, sent, tx_ring, tx_view}
use Rattle.jet_ring.specs.declared.ends.Tx.{Tx}
use Rattle.jet_worker.specs.CheckText.{Checks}
use Rattle.jet_worker.specs.Opening.{Opened as OpenedFile, pair_of}
use Rattle.jet_worker.specs.Stopping.{CauseOfStop, IsCallIn, Outcome}
use Rattle.jet_worker.specs.declared.stop.Call.{Call}
use Rattle.jet_worker.specs.declared.stop.Spot.{Spot}
use Rattle.jet_worker.specs.declared.stop.Spot.TheVariants.{Part}
use Rattle.jet_worker.specs.declared.stop.Stop.{Stop}
use Rattle.jet_worker.proofs.CallLaws.{last_weaker}
use Rattle.jet_file.proofs.GoesLaws.{goes_same, goes_then, goes_weaker}
use Rattle.jet_feed.specs.Fed.{Feeds, HasRead, IsBadIn, IsFed, IsLast, IsLeft, IsOfFile, Tells}
use Rattle.jet_feed.specs.declared.feed.Feed.{Feed}
use Rattle.jet_coordinator.specs.Feeds.{AreFed, HaveRead, IsBadAmong, IsLastRead, IsReadAmong, IsReadOf, IsThere, content_in}
use Rattle.jet_coordinator.proofs.RingLemmas.{map_set, placewise_same, placewise_set, placewise_trans, set_elsewhere, set_there, some_is}

-- ---- a file of which nothing is read

left_unread : (told : Told) (o : OpenedFile) → IsThere told o → IsLeft o.at (content_in (Some told) o) [] false (Some told)
left_unread told o h = left (told.content (file_name o.file)) refl h.there
  where
    left : (content : Option (List ℕ)) → told.content (file_name o.file) ≡ content → IsSome content → IsLeft o.at content [] false (Some told)
    left None same there = tt
    left (Some bytes) same there =
        (sym (ap (λ (p : Place). rest_from (told.content p.name) p.taken) h.unread ∙ ap (λ (q : Option (List ℕ)). rest_from q 0) same), λ e. absurd (cc e))

pub starts_there : (c : Checks) (p : DataFile) (o : OpenedFile) (told : Told) (feed : Feed) → p ≡ o.file → ((content : Option (List ℕ)) (t : Option Told) → IsLeft o.at content [] false t → IsFed c (o.part, p) o.at content t [] feed)
    → IsThere told o → IsFed c (pair_of o) o.at (content_in (Some told) o) (Some told) [] feed
starts_there c p o told feed is fed h =
    subst (λ (q : DataFile). IsFed c (o.part, q) o.at (content_in (Some told) o) (Some told) [] feed) is (fed (content_in (Some told) o) (Some told) (left_unread told o h))

pub starts_untold : (c : Checks) (p : DataFile) (o : OpenedFile) (feed : Feed) → p ≡ o.file → ((content : Option (List ℕ)) (t : Option Told) → IsLeft o.at content [] false t → IsFed c (o.part, p) o.at content t [] feed)
    → IsFed c (pair_of o) o.at None None [] feed
starts_untold c p o feed is fed = subst (λ (q : DataFile). IsFed c (o.part, q) o.at None None [] feed) is (fed None None tt)

-- ---- other files stay

left_stays : (at : ℕ) (content : Option (List ℕ)) (bytes : List ℕ) (ended : Bool) (told next : Option Told) → WhereTold (λ a b. rest_of b at ≡ rest_of a at) told next → IsLeft at content bytes ended told
    → IsLeft at content bytes ended next
left_stays at None bytes ended told next same h = tt
left_stays at (Some content) bytes ended None next same h = absurd h
left_stays at (Some content) bytes ended (Some told) None same h = absurd same
left_stays at (Some content) bytes ended (Some told) (Some next) same h = (h.0 ∙ ap (λ (l : List ℕ). bytes ++ l) (sym same), λ e. same ∙ h.1 e)

pub stays : (c : Checks) (p : ℕ × DataFile) (at : ℕ) (content : Option (List ℕ)) (told next : Option Told) (items : List Item) (feed : Feed) → WhereTold (λ a b. rest_of b at ≡ rest_of a at) told next
    → IsFed c p at content told items feed → IsFed c p at content next items feed
stays c p at content told next items feed same h = record {
  part = h.part;
  file = h.file;
  most = h.most;
  bytes = h.bytes;
  given = h.given;
  number = h.number;
  named = h.named;
  few = h.few;
  cut = h.cut;
  good = h.good;
  left = left_stays at content h.bytes feed.lines.ended told next same h.left;
  items = h.items;
  body = h.body;
  idle = h.idle;
  end = h.end;
}

-- a read of one file leaves the rest of another
rest_stays : (IsEnd : List CallMade → Type 0) (at other : ℕ) → other ≢ at → (told next : Option Told) → WhereTold (HasRead IsEnd at) told next → WhereTold (λ a b. rest_of b other ≡ rest_of a other) told next
rest_stays IsEnd at other differs =
    goes_weaker (HasRead IsEnd at) (λ a b. rest_of b other ≡ rest_of a other) (λ a b r.
    ap (λ (p : Place). rest_from (b.content p.name) p.taken) (r.others other differs)
    ∙ ap (λ (f : List ℕ → Option (List ℕ)). rest_from (f (a.place other).name) (a.place other).taken) r.content)

-- the files of two places are two
apart_at : (feeds : List Feed) (k n : ℕ) (f g : Feed) → AllPairs (λ f g. f.file ≢ g.file) feeds → slice_get feeds k ≡ Some f → slice_get feeds n ≡ Some g → k ≢ n → f.file ≢ g.file
apart_at feeds k n f g apart at_k at_n differs e =
    let is_k = ap (λ (x : Feed). x.file) (get_or_from_slice_get feeds k f f at_k) in
    let is_n = ap (λ (x : Feed). x.file) (get_or_from_slice_get feeds n g f at_n) in
    elim (cases_lt k n) as (λ _. ⊥) [
      | inl less ↦ apart k n f less (slice_get_within feeds n g at_n) (is_k ∙ e ∙ sym is_n)
      | inr more ↦
          elim (cases_lt n k) as (λ _. ⊥) [
            | inl less ↦ apart n k f less (slice_get_within feeds k f at_k) (is_n ∙ sym e ∙ sym is_k)
            | inr fewer ↦ differs (omega (arith, more, fewer))
          ]
    ]

-- ---- one file is read on

pub fed_on : (IsEnd : List CallMade → Type 0) (told next : Option Told) (feeds : List Feed) (txs : List (Tx Item)) (n : ℕ) (feed after : Feed) (tx ring : Tx Item)
    → slice_get feeds n ≡ Some feed → slice_get txs n ≡ Some tx → AllPairs (λ f g. f.file ≢ g.file) feeds
    → WhereTold (HasRead IsEnd feed.file) told next → Feeds told next (sent tx) (sent ring) feed after
    → (c : Checks) (opened : List OpenedFile) (began : Option Told) → AreFed c opened began told (map tx_view txs) feeds → AreFed c opened began next (map tx_view (set txs n ring)) (set feeds n after)
fed_on IsEnd told next feeds txs n feed after tx ring at_n tx_n apart reads on c opened began h = record {
  count = length-set feeds n after ∙ h.count;
  rings = ap length (map_set tx_view txs n ring) ∙ length-set (map tx_view txs) n (tx_view ring) ∙ h.rings;
  each = λ k o t f at_o at_t at_f. each k o t f at_o (sym (ap (λ (l : List (TxView Item)). slice_get l k) (map_set tx_view txs n ring)) ∙ at_t) at_f (cases_eq k n);
}
  where
    tx_view_n : slice_get (map tx_view txs) n ≡ Some (tx_view tx)
    tx_view_n = slice_get-map tx_view txs n ∙ ap (λ (o : Option (Tx Item)). option_map tx_view o) tx_n

    each : (k : ℕ) (o : OpenedFile) (t : TxView Item) (f : Feed) → slice_get opened k ≡ Some o → slice_get (set (map tx_view txs) n (tx_view ring)) k ≡ Some t → slice_get (set feeds n after) k ≡ Some f
        → (k ≡ n) ⊎ (k ≢ n) → IsFed c (pair_of o) o.at (content_in began o) next t.sent f
    each k o t f at_o at_t at_f (inl is) =
        let f_is : after ≡ f = some_is after f (sym (set_there feeds n after (slice_get_within feeds n feed at_n)) ∙ ap (λ (i : ℕ). slice_get (set feeds n after) i) (sym is) ∙ at_f) in
        let t_is : tx_view ring ≡ t = some_is (tx_view ring) t (sym (set_there (map tx_view txs) n (tx_view ring) (slice_get_within (map tx_view txs) n (tx_view tx) tx_view_n)) ∙ ap (λ (i : ℕ). slice_get (set (map tx_view txs) n (tx_view ring)) i) (sym is) ∙ at_t) in
        let was = h.each n o (tx_view tx) feed (ap (λ (i : ℕ). slice_get opened i) (sym is) ∙ at_o) tx_view_n at_n in
        subst (λ (x : Feed). IsFed c (pair_of o) o.at (content_in began o) next t.sent x) f_is
        (subst (λ (v : TxView Item). IsFed c (pair_of o) o.at (content_in began o) next v.sent after) t_is (on c (pair_of o) o.at (content_in began o) was))
    each k o t f at_o at_t at_f (inr differs) =
        let f_k : slice_get feeds k ≡ Some f = sym (set_elsewhere feeds n k after differs) ∙ at_f in
        let was = h.each k o t f at_o (sym (set_elsewhere (map tx_view txs) n k (tx_view ring) differs) ∙ at_t) f_k in
        let other : o.at ≢ feed.file = λ e. apart_at feeds k n f feed apart f_k at_n differs (was.file ∙ e) in
        stays c (pair_of o) o.at (content_in began o) told next t.sent f (rest_stays IsEnd feed.file o.at other told next reads) was

-- a stop for a bad line is for one of the files
pub bad_among : (told : Option Told) (feeds : List Feed) (txs : List (Tx Item)) (n : ℕ) (feed : Feed) (tx : Tx Item) (stop : Stop) → slice_get feeds n ≡ Some feed → slice_get txs n ≡ Some tx → IsBadIn feed told (sent tx) stop
    → (c : Checks) (opened : List OpenedFile) (began : Option Told) → AreFed c opened began told (map tx_view txs) feeds → IsBadAmong c opened began stop
bad_among told feeds txs n feed tx stop at_n tx_n bad c opened began h = among (slice_get_cases opened n).1
  where
    tx_view_n : slice_get (map tx_view txs) n ≡ Some (tx_view tx)
    tx_view_n = slice_get-map tx_view txs n ∙ ap (λ (o : Option (Tx Item)). option_map tx_view o) tx_n

    among : ((o : OpenedFile) × (n < length opened) × (slice_get opened n ≡ Some o) × (get_or opened n o ≡ o)) ⊎ ((length opened ≤ n) × (slice_get opened n ≡ None)) → IsBadAmong c opened began stop
    among (inl (o, inside, at_o, is)) = (o, (n, inside, is), bad c (pair_of o) o.at (content_in began o) (h.each n o (tx_view tx) feed at_o tx_view_n at_n))
    among (inr (past, none)) = absurd (let l = slice_get_within feeds n feed at_n in let m = h.count in omega (arith, l, m, past))

-- the rings stay
pub rings_on : (txs : List (Tx Item)) (n : ℕ) (tx ring : Tx Item) → slice_get txs n ≡ Some tx → tx_ring ring ≡ tx_ring tx → Placewise (λ a b. b.ring ≡ a.ring) (map tx_view txs) (map tx_view (set txs n ring))
rings_on txs n tx ring tx_n same =
    subst (λ (l : List (TxView Item)). Placewise (λ a b. b.ring ≡ a.ring) (map tx_view txs) l) (sym (map_set tx_view txs n ring))
    (placewise_set (λ a b. b.ring ≡ a.ring) (λ a. refl) (map tx_view txs) n (tx_view tx) (tx_view ring) (slice_get-map tx_view txs n ∙ ap (λ (o : Option (Tx Item)). option_map tx_view o) tx_n) same)

contains_at : (feeds : List Feed) (n : ℕ) (feed : Feed) → slice_get feeds n ≡ Some feed → Contains feeds feed
contains_at feeds n feed at_n = (n, slice_get_within feeds n feed at_n, get_or_from_slice_get feeds n feed feed at_n)

last_among : (feeds : List Feed) (feed : Feed) (result : Result Bool Stop) (last : List CallMade) → Contains feeds feed → IsLast (Part feed.part) feed.file result last → IsLastRead feeds result last
last_among feeds feed (Ok done) last among h = h
last_among feeds feed (Err stop) last among h = last_weaker (IsCallIn (Part feed.part) feed.file) (IsReadAmong feeds) stop last (λ call spot tried s. (feed, among, s)) h

-- reads of one file are reads of these files
pub read_among : (feeds : List Feed) (n : ℕ) (feed : Feed) (result : Result Bool Stop) (told next : Option Told) → slice_get feeds n ≡ Some feed → Tells feed result told next → WhereTold (HaveRead feeds result) told next
read_among feeds n feed result told next at_n =
    goes_weaker (HasRead (IsLast (Part feed.part) feed.file result) feed.file) (HaveRead feeds result) (λ a b r. record {
      content = r.content;
      written = r.written;
      others = λ other all. r.others other (λ e. all n feed (slice_get_within feeds n feed at_n) (ap (λ (f : Feed). f.file) (get_or_from_slice_get feeds n feed feed at_n) ∙ sym e));
      names = λ at. elim (cases_eq at feed.file) as (λ _. (b.place at).name ≡ (a.place at).name) [
        | inl is ↦ subst (λ (k : ℕ). (b.place k).name ≡ (a.place k).name) (sym is) r.name
        | inr differs ↦ ap (λ (p : Place). p.name) (r.others at differs)
      ];
      calls = map (Read feed.file) r.counts;
      reads = All-map (IsReadOf feeds) (Read feed.file) r.counts (λ k d l. (r.pieces k d l, (feed, contains_at feeds n feed at_n, refl)));
      last = r.last;
      end = last_among feeds feed result r.last (contains_at feeds n feed at_n) r.end;
      trace = r.trace;
    }) told next

-- ---- one step after another

pub file_trans : (x y z : Feed) → IsOfFile x y → IsOfFile y z → IsOfFile x z
file_trans x y z p q = (q.0 ∙ p.0, q.1 ∙ p.1)

-- a feed as it was before
was_among : (feeds after : List Feed) → Placewise IsOfFile feeds after → (f : Feed) → Contains after f → (g : Feed) × Contains feeds g × (f.part ≡ g.part) × (f.file ≡ g.file)
was_among feeds after same f (k, inside, is) =
    let l : k < length feeds = let n = same.count in omega (arith, n, inside) in
    let kept = same.each k f l in
    (get_or feeds k f, Contains-get_or feeds k f l, ap (λ (x : Feed). x.part) (sym is) ∙ kept.0, ap (λ (x : Feed). x.file) (sym is) ∙ kept.1)

read_before : (feeds after : List Feed) → Placewise IsOfFile feeds after → (call : CallMade) → IsReadOf after call → IsReadOf feeds call
read_before feeds after same (Read at n) (small, (f, among, is)) = let g = was_among feeds after same f among in (small, (g.0, g.1, sym g.3 ∙ is))
read_before feeds after same (Opened name at) h = absurd h
read_before feeds after same (Wrote to n) h = absurd h
read_before feeds after same (Missed tried) h = absurd h

call_before : (feeds after : List Feed) → Placewise IsOfFile feeds after → (call : Call) (spot : Spot) (tried : Tried) → IsReadAmong after call spot tried → IsReadAmong feeds call spot tried
call_before feeds after same call spot tried (f, among, is) =
    let g = was_among feeds after same f among in
    (g.0, g.1, subst (λ (p : ℕ). IsCallIn (Part p) g.0.file call spot tried) g.2 (subst (λ (k : ℕ). IsCallIn (Part f.part) k call spot tried) g.3 is))

last_before : (feeds after : List Feed) → Placewise IsOfFile feeds after → (result : Result Bool Stop) (last : List CallMade) → IsLastRead after result last → IsLastRead feeds result last
last_before feeds after same (Ok done) last h = h
last_before feeds after same (Err stop) last h = last_weaker (IsReadAmong after) (IsReadAmong feeds) stop last (call_before feeds after same) h

joined : (a b d one two none last : List CallMade) → none ≡ [] → b ≡ a ++ one ++ none → d ≡ b ++ two ++ last → d ≡ a ++ (one ++ two) ++ last
joined a b d one two none last empty first second =
    let front : b ≡ a ++ one = first ∙ ap (λ (l : List CallMade). a ++ one ++ l) empty ∙ append-nil (a ++ one) in
    second ∙ ap (λ (l : List CallMade). l ++ two ++ last) front
    ∙ ap (λ (l : List CallMade). l ++ last) (append_assoc a one two)

pub reads_then : (feeds after : List Feed) → Placewise IsOfFile feeds after → (moved : Bool) (result : Result Bool Stop) (old now next : Option Told) → WhereTold (HaveRead feeds (Ok moved)) old now → WhereTold (HaveRead after result) now next
    → WhereTold (HaveRead feeds result) old next
reads_then feeds after same moved result =
    goes_then (HaveRead feeds (Ok moved)) (HaveRead after result) (HaveRead feeds result) (λ a b d r s. record {
      content = s.content ∙ r.content;
      written = s.written ∙ r.written;
      others = λ other all. s.others other (λ k x l e. let n = same.count in let inside : k < length feeds = omega (arith, n, l) in all k x inside (sym (same.each k x inside).1 ∙ e)) ∙ r.others other all;
      names = λ at. s.names at ∙ r.names at;
      calls = r.calls ++ s.calls;
      reads = All-append (IsReadOf feeds) r.calls s.calls r.reads (λ k x l. read_before feeds after same (get_or s.calls k x) (s.reads k x l));
      last = s.last;
      end = last_before feeds after same result s.last s.end;
      trace = joined a.trace b.trace d.trace r.calls s.calls r.last s.last r.end r.trace s.trace;
    })

-- no call
pub reads_none : (feeds : List Feed) (moved : Bool) (old : Option Told) → WhereTold (HaveRead feeds (Ok moved)) old old
reads_none feeds moved = goes_same (HaveRead feeds (Ok moved)) (λ a. record {
  content = refl;
  written = refl;
  others = λ other all. refl;
  names = λ at. refl;
  calls = [];
  reads = All-nil (IsReadOf feeds);
  last = [];
  end = refl;
  trace = sym (append-nil (a.trace ++ []) ∙ append-nil a.trace);
})

-- an answer that changes nothing of what was read
pub reads_as : (feeds : List Feed) (one other : Bool) (old now : Option Told) → WhereTold (HaveRead feeds (Ok one)) old now → WhereTold (HaveRead feeds (Ok other)) old now
reads_as feeds one other = goes_weaker (HaveRead feeds (Ok one)) (HaveRead feeds (Ok other)) (λ a b r. record {
  content = r.content;
  written = r.written;
  others = r.others;
  names = r.names;
  calls = r.calls;
  reads = r.reads;
  last = r.last;
  end = r.end;
  trace = r.trace;
})

pub outcome_then : {S : Type 0} (opened : S → ℕ → Bool) (steady : S → Bool) (faults : S → ℕ) (old now next : S) (moved : Bool) (result : Result Bool Stop) → Outcome opened steady faults old now (Ok moved)
    → Outcome opened steady faults now next result → Outcome opened steady faults old next result
outcome_then opened steady faults old now next moved result p q = record {
  opened_same = q.opened_same ∙ p.opened_same;
  steady_same = q.steady_same ∙ p.steady_same;
  later = let a = p.later in let b = q.later in omega (arith, a, b);
  cause = subst (λ (n : ℕ). MatchResult result (λ _. faults next ≡ n) (CauseOfStop n (faults next))) p.cause q.cause;
  works = λ s. q.works (p.steady_same ∙ s);
}

-- ---- all files so far

-- what the files that were read on say together
pub record FedOn {S : Type 0} (tell : S → Option Told) (opens : S → ℕ → Bool) (steady : S → Bool) (faults : S → ℕ) (old now : S) (txs rings : List (Tx Item)) (feeds after : List Feed) (moved : Bool) : Type 0 where
  pub fed : (c : Checks) (opened : List OpenedFile) (began : Option Told) → AreFed c opened began (tell old) (map tx_view txs) feeds → AreFed c opened began (tell now) (map tx_view rings) after
  pub ring : Placewise (λ a b. b.ring ≡ a.ring) (map tx_view txs) (map tx_view rings)
  pub files : Placewise IsOfFile feeds after
  pub told : WhereTold (HaveRead feeds (Ok moved)) (tell old) (tell now)
  pub outcome : Outcome opens steady faults old now (Ok moved)
  pub still : moved ≡ false → (rings ≡ txs) × (now ≡ old)

module _ {S : Type 0} (tell : S → Option Told) (opens : S → ℕ → Bool) (steady : S → Bool) (faults : S → ℕ) (old now : S) (txs rings : List (Tx Item)) (feeds after : List Feed) (moved : Bool) where
  pub on_same : FedOn tell opens steady faults old old txs txs feeds feeds false
  on_same = record {
    fed = λ c opened began h. h;
    ring = placewise_same (λ a b. b.ring ≡ a.ring) (λ a. refl) (map tx_view txs);
    files = placewise_same IsOfFile (λ f. (refl, refl)) feeds;
    told = reads_none feeds false (tell old);
    outcome = record { opened_same = refl; steady_same = refl; later = omega arith; cause = refl; works = λ s. tt };
    still = λ e. (refl, refl);
  }

  -- one more file is read on
  pub on_then : FedOn tell opens steady faults old now txs rings feeds after moved → (next : S) (last_rings : List (Tx Item)) (last : List Feed) (more both : Bool) → FedOn tell opens steady faults now next rings last_rings after last more
      → (both ≡ false → (moved ≡ false) × (more ≡ false)) → FedOn tell opens steady faults old next txs last_rings feeds last both
  on_then k next last_rings last more both s either = record {
    fed = λ c opened began h. s.fed c opened began (k.fed c opened began h);
    ring = placewise_trans (λ a b. b.ring ≡ a.ring) (λ x y z p q. q ∙ p) (map tx_view txs) (map tx_view rings) (map tx_view last_rings) k.ring s.ring;
    files = placewise_trans IsOfFile file_trans feeds after last k.files s.files;
    told = reads_as feeds more both (tell old) (tell next) (reads_then feeds after k.files moved (Ok more) (tell old) (tell now) (tell next) k.told s.told);
    outcome = record {
      opened_same = s.outcome.opened_same ∙ k.outcome.opened_same;
      steady_same = s.outcome.steady_same ∙ k.outcome.steady_same;
      later = let a = k.outcome.later in let b = s.outcome.later in omega (arith, a, b);
      cause = s.outcome.cause ∙ k.outcome.cause;
      works = λ steady. tt;
    };
    still = λ e. let none = either e in ((s.still none.1).0 ∙ (k.still none.0).0, (s.still none.1).1 ∙ (k.still none.0).1);
  }

  -- what the next file requires
  pub rings_kept : FedOn tell opens steady faults old now txs rings feeds after moved → length txs ≡ length feeds → length rings ≡ length after
  rings_kept k same =
      let a = length-map txs tx_view in
      let b = length-map rings tx_view in
      let n = k.ring.count in
      let m = k.files.count in
      omega (arith, a, b, n, m, same)

  pub opened_kept : FedOn tell opens steady faults old now txs rings feeds after moved → All (λ f. IsTrue (opens old f.file)) feeds → All (λ f. IsTrue (opens now f.file)) after
  opened_kept k all = λ i d l.
      let n = k.files.count in
      let inside : i < length feeds = omega (arith, n, l) in
      subst (λ (o : ℕ → Bool). IsTrue (o (get_or after i d).file)) (sym k.outcome.opened_same) (subst (λ (at : ℕ). IsTrue (opens old at)) (sym (k.files.each i d inside).1) (all i d inside))

  pub apart_kept : FedOn tell opens steady faults old now txs rings feeds after moved → AllPairs (λ f g. f.file ≢ g.file) feeds → AllPairs (λ f g. f.file ≢ g.file) after
  apart_kept k apart = λ i j d less l e.
      let n = k.files.count in
      let second : j < length feeds = omega (arith, n, l) in
      let first : i < length feeds = omega (arith, less, second) in
      apart i j d less second (sym (k.files.each i d first).1 ∙ e ∙ (k.files.each j d second).1)

-- ---- answers

pub on_ok : {T E P : Type 0} → P → (r : Result T E) → OnOk r P
on_ok p (Ok done) = p
on_ok p (Err e) = tt

pub if_err : {T E : Type 0} (P Q : E → Type 0) → ((e : E) → P e → Q e) → (r : Result T E) → IfErr r P → IfErr r Q
if_err P Q f (Ok done) h = tt
if_err P Q f (Err e) h = f e h

none_of_two : (one other : Bool) → (one || other) ≡ false → (one ≡ false) × (other ≡ false)
none_of_two true other e = cc
none_of_two false other e = (refl, e)

-- one more file, by what is said of its step
pub on_next : {S : Type 0} (tell : S → Option Told) (opens : S → ℕ → Bool) (steady : S → Bool) (faults : S → ℕ) (old now next : S) (txs rings last_rings : List (Tx Item)) (feeds after last : List Feed) (moved more : Bool)
    → FedOn tell opens steady faults old now txs rings feeds after moved → FedOn tell opens steady faults now next rings last_rings after last more → FedOn tell opens steady faults old next txs last_rings feeds last (moved || more)
on_next tell opens steady faults old now next txs rings last_rings feeds after last moved more k s =
    on_then tell opens steady faults old now txs rings feeds after moved k next last_rings last more (moved || more) s (none_of_two moved more)
