-- A receiver that gives the items of its packet.
use Rattle.std.proofs.Common.{◌≡◌, ℕ, zero, suc, ◌+◌, ◌-◌, ◌<◌, ◌≤◌, Bool, true, false, ◌||◌, List, [], ◌∷◌, ◌++◌, take, drop, length, get_or, refl, sym, ◌∙◌, ap, subst, arith, append_assoc, append-nil, Option, Some, None, length-append, length-drop}
use Rattle.std.specs.Prelude.{IfNone}
use Rattle.std.specs.List.{AllByRecursion, list_any}
use Rattle.std.proofs.lemmas.List.{map-append, length-map, take_all}
use Rattle.std.proofs.lemmas.List.Concat.{flat_map-append, flat_map-cons}
use Rattle.std.proofs.lemmas.List.Folds.{list_any-append}
use Rattle.std.proofs.Math.Logic.{∥∥₁_map, ∥∥₁_elim}
use base.Growing.{prefix_refl, prefix_trans}
use Rattle.jet_items.specs.Done.{is_done}
use Rattle.jet_items.specs.Fits.{ItemFits}
use Rattle.jet_items.specs.declared.item.Item.{Item}
use Rattle.jet_spell.specs.Begins.{BeginsWith, BeginsNone}
use Rattle.jet_spell.specs.Laws.{OneSpelling, SpellingsAreShort}
use Rattle.jet_spell.specs.Packets.{AreSpelled, IsSpelled}
use Rattle.jet_spell.specs.Spelling.{spelling, spellings}
use Rattle.jet_router.specs.declared.Given.{Given}
use Rattle.jet_router.specs.declared.Given.TheVariants as given
use Rattle.jet_router.specs.Deals.{Deal, Dealt, DealtAfter}
use Rattle.jet_router.specs.Gives.{Gives}
use Rattle.jet_router.specs.Router as router
use Rattle.jet_router.proofs.Counting.{sent_and_free, free_falls}
use Rattle.jet_link.specs.Meeting.{IsNewRecv}
use Rattle.jet_link.specs.Packets.{packed}
use Rattle.jet_link.specs.Receiving.{held_bytes}
use Rattle.jet_wire.specs.Receiver.{ReceiverView, bytes_left, IsUnsent, ReceiverKeeps}
use Rattle.jet_wire.specs.ReceiverTurn.{RouterGoes}
use Rattle.jet_wire.specs.ReceiverSteps.{Deals}
use Rattle.jet_wire.proofs.Counting.{all_rises, again_owes}

-- ---- spelled bytes
no_items : (bs : List ℕ) (b : ℕ) → BeginsNone (b ∷ bs) → (items : List Item) × AreSpelled items (b ∷ bs) → ⊥
no_items bs b none ([], so) = cc so.spelled
no_items bs b none (x ∷ xs, so) = none x (spellings xs) so.fits.0 (so.spelled ∙ flat_map-cons spelling x xs)

-- the bytes behind a place, as the code cuts them
pub rest_of : (xs ys : List ℕ) (n : ℕ) → xs ≡ ys → take (length xs - n) (drop n xs) ≡ drop n ys
rest_of xs ys n e = take_all (length xs - n) (drop n xs) (omega (arith, length-drop n xs)) ∙ ap (λ (b : List ℕ). drop n b) e

pub if_none : {X : Type 0} (r : Option X) {P Q : Type 0} → IfNone r P → (P → Q) → IfNone r Q
if_none None p f = f p
if_none (Some x) p f = tt

pub nothing_left : (bytes : List ℕ) → IsSpelled bytes → BeginsNone bytes → bytes ≡ []
nothing_left [] s none = refl
nothing_left (b ∷ bs) s none = absurd (∥∥₁_elim s (λ x y. absurd x) (no_items bs b none))

rest_items : OneSpelling → (x : Item) (n : ℕ) (b : List ℕ) → BeginsWith x n b → 1 ≤ length (spelling x) → (items : List Item) × AreSpelled items b → (items : List Item) × AreSpelled items (drop n b)
rest_items one x n b w some ([], so) = absurd (omega (arith, some, ap length so.spelled, ap length w.begins, length-append (spelling x) (drop n b)))
rest_items one x n b w some (y ∷ ys, so) =
    let both = one x y (drop n b) (spellings ys) w.fits so.fits.0 (sym w.begins ∙ (so.spelled ∙ flat_map-cons spelling y ys)) in
    (ys, record { fits = so.fits.1; spelled = both.1 })

pub same_next : OneSpelling → (x y : Item) (n m : ℕ) (b : List ℕ) → BeginsWith x n b → BeginsWith y m b → y ≡ x
same_next one x y n m b w u = (one y x (drop m b) (drop n b) u.fits w.fits (sym u.begins ∙ w.begins)).0

-- nothing is next where no bytes are left
pub none_next : SpellingsAreShort → (x : Item) (n : ℕ) → BeginsWith x n [] → ⊥
none_next short x n w =
    let some = (short x w.fits).0 in
    absurd (omega (arith, some, ap length w.begins, length-append (spelling x) (drop n [])))

drop_nil : (n : ℕ) → drop {A = ℕ} n [] ≡ []
drop_nil zero = refl
drop_nil (suc n) = refl

pub drop_more : (a n : ℕ) (xs : List ℕ) → drop (a + n) xs ≡ drop n (drop a xs)
drop_more zero n xs = let e : 0 + n ≡ n = omega arith in ap (λ (k : ℕ). drop k xs) e
drop_more (suc a) n [] = let e : suc a + n ≡ suc (a + n) = omega arith in ap (λ (k : ℕ). drop {A = ℕ} k []) e ∙ sym (drop_nil n)
drop_more (suc a) n (x ∷ xs) = let e : suc a + n ≡ suc (a + n) = omega arith in ap (λ (k : ℕ). drop k (x ∷ xs)) e ∙ drop_more a n xs

pub fit_all : (xs : List Item) (x : Item) → AllByRecursion ItemFits xs → ItemFits x → AllByRecursion ItemFits (xs ++ x ∷ [])
fit_all [] x h f = (f, tt)
fit_all (y ∷ ys) x h f = (h.0, fit_all ys x h.1 f)

or_last : (a b : Bool) → (a || (b || false)) ≡ (a || b)
or_last true b = refl
or_last false true = refl
or_last false false = refl

-- ---- the router
same_dests : (a b : router.View) → router.SameRouter a b → length b.dests ≡ length a.dests
same_dests a b s =
    omega (arith, ap (λ rs. length rs) s.rings_kept, length-map (router.txs b) (λ t. t.ring), length-map (router.txs a) (λ t. t.ring), length-map b.dests (λ d. d.tx), length-map a.dests (λ d. d.tx))

-- what a gift says of the router
pub record IsGift (r : Given) (a b : router.View) (x : Item) : Type 0 where
  pub goes : RouterGoes a b
  pub fewer : (k : ℕ) → get_or (router.frees b) k 0 ≤ get_or (router.frees a) k 0
  pub gives : Gives (router.aim a x) r a b x
  pub dealt : (deals : List Deal) → Dealt a deals → DealtAfter r b deals x
  pub hand : b.busy ≡ true → router.IsInHand b x
  pub all : r ≡ given.All → b.busy ≡ false

count_rises : (a b : router.View) → RouterGoes a b → ((k : ℕ) → get_or (router.frees b) k 0 ≤ get_or (router.frees a) k 0) → router.sent_count a ≤ router.sent_count b
count_rises a b g fewer = omega (arith, sent_and_free a b g.still_free, free_falls a b fewer)

-- ---- an item that is owed
module _ (v : ReceiverView) (b : router.View) (x : Item) (n : ℕ) (w : BeginsWith x n (bytes_left v)) (g : IsGift given.Again v.router b x) where
  abbrev owed : ReceiverView
  owed = record v { router = b }

  keeps_owed : (items : List Item) → ReceiverKeeps v items → ReceiverKeeps owed items
  keeps_owed items k = record {
    deals = k.deals;
    dealt = g.dealt k.deals k.dealt;
    items = k.items;
    fits = k.fits;
    bytes = k.bytes;
    inside = k.inside;
    spelled = k.spelled;
    hand = λ busy. (x, (n, w), g.hand busy);
    owed = again_owes (router.aim v.router x) v.router b x k.owed g.gives;
    dests = omega (arith, k.dests, same_dests v.router b g.goes.same);
    whole = k.whole;
    done = k.done;
  }

  pub deals_owed : Deals v owed
  deals_owed = record {
    end = refl;
    router = g.goes;
    more = count_rises v.router b g.goes g.fewer;
    gives = λ items k. ([], subst (λ (xs : List Item). ReceiverKeeps owed xs) (sym (append-nil items)) (keeps_owed items k));
    stays = λ same. record { stays = keeps_owed };
    place = λ same. (refl, refl);
  }

-- ---- an item that was given whole
module _ (one : OneSpelling) (short : SpellingsAreShort) (v : ReceiverView) (b : router.View) (x : Item) (n : ℕ) (w : BeginsWith x n (bytes_left v)) (g : IsGift given.All v.router b x) where
  abbrev after : ReceiverView
  after = record v { router = b; at = v.at + n; ended = v.ended || is_done x }

  some : 1 ≤ length (spelling x)
  some = (short x w.fits).0

  left_is : bytes_left after ≡ drop n (bytes_left v)
  left_is = drop_more v.at n (held_bytes v.end.held)

  left_size : length (bytes_left v) ≡ n + length (bytes_left after)
  left_size = omega (arith, ap length w.begins, length-append (spelling x) (drop n (bytes_left v)), w.len, ap length left_is)

  pub shorter : length (bytes_left after) < length (bytes_left v)
  shorter = omega (arith, left_size, w.len, some)

  pub still_inside : v.at ≤ length (held_bytes v.end.held) → v.at + n ≤ length (held_bytes v.end.held)
  still_inside le = omega (arith, le, left_size, length-drop v.at (held_bytes v.end.held))

  keeps_given : (items : List Item) → ReceiverKeeps v items → ReceiverKeeps after (items ++ x ∷ [])
  keeps_given items k =
      let d = g.dealt k.deals k.dealt in
      let deal : Deal = record { item = x; to = d.0 } in
      let free : b.busy ≡ false = g.all refl in
      let last : spellings (x ∷ []) ≡ spelling x = flat_map-cons spelling x [] ∙ append-nil (spelling x) in
      let front : spellings (items ++ x ∷ []) ≡ spellings items ++ spelling x = flat_map-append spelling items (x ∷ []) ∙ ap (λ (bs : List ℕ). spellings items ++ bs) last in
      record {
        deals = k.deals ++ deal ∷ [];
        dealt = d.1;
        items = map-append (λ (e : Deal). e.item) k.deals (deal ∷ []) ∙ ap (λ (xs : List Item). xs ++ x ∷ []) k.items;
        fits = fit_all items x k.fits w.fits;
        bytes = k.bytes ∙ (ap (λ (bs : List ℕ). spellings items ++ bs) w.begins ∙ (sym (append_assoc (spellings items) (spelling x) (drop n (bytes_left v)))
            ∙ (ap (λ (bs : List ℕ). bs ++ drop n (bytes_left v)) (sym front) ∙ ap (λ (bs : List ℕ). spellings (items ++ x ∷ []) ++ bs) (sym left_is))));
        inside = still_inside k.inside;
        spelled = subst (λ (bs : List ℕ). IsSpelled bs) (sym left_is) (∥∥₁_map k.spelled (rest_items one x n (bytes_left v) w some));
        hand = λ busy. absurd (cc (free, busy));
        owed = λ busy. absurd (cc (free, busy));
        dests = omega (arith, k.dests, same_dests v.router b g.goes.same);
        whole = λ whole. absurd (omega (arith, ap length (k.whole whole).1, left_size, w.len, some));
        done = ap (λ (e : Bool). e || is_done x) k.done ∙ sym (list_any-append is_done items (x ∷ []) ∙ or_last (list_any is_done items) (is_done x));
      }

  pub deals_given : (items : List Item) → ReceiverKeeps v items → Deals v after
  deals_given was known =
      let rises = all_rises (router.aim v.router x) v.router b x known.owed known.dests g.gives in
      record {
        end = refl;
        router = g.goes;
        more = count_rises v.router b g.goes g.fewer;
        gives = λ items k. (x ∷ [], keeps_given items k);
        stays = λ same. absurd (omega (arith, same, rises));
        place = λ same. absurd (omega (arith, same, rises));
      }

-- ---- one after the other
pub router_refl : (v : router.View) → RouterGoes v v
router_refl v = record {
  same = record { route = refl; table = refl; rings_kept = refl };
  sent = λ k. prefix_refl (get_or (router.sents v) k []);
  still_free = refl;
}

pub router_trans : (a b d : router.View) → RouterGoes a b → RouterGoes b d → RouterGoes a d
router_trans a b d p q = record {
  same = record { route = q.same.route ∙ p.same.route; table = q.same.table ∙ p.same.table; rings_kept = q.same.rings_kept ∙ p.same.rings_kept };
  sent = λ k. prefix_trans (get_or (router.sents a) k []) (get_or (router.sents b) k []) (get_or (router.sents d) k []) (p.sent k) (q.sent k);
  still_free = q.still_free ∙ p.still_free;
}

pub deals_refl : (v : ReceiverView) → Deals v v
deals_refl v = record {
  end = refl;
  router = router_refl v.router;
  more = omega arith;
  gives = λ items k. ([], subst (λ (xs : List Item). ReceiverKeeps v xs) (sym (append-nil items)) k);
  stays = λ same. record { stays = λ items k. k };
  place = λ same. (refl, refl);
}

pub deals_trans : (a b d : ReceiverView) → Deals a b → Deals b d → Deals a d
deals_trans a b d p q = record {
  end = q.end ∙ p.end;
  router = router_trans a.router b.router d.router p.router q.router;
  more = omega (arith, p.more, q.more);
  gives = λ items k.
      let first = p.gives items k in
      let next = q.gives (items ++ first.0) first.1 in
      (first.0 ++ next.0, subst (λ (xs : List Item). ReceiverKeeps d xs) (append_assoc items first.0 next.0) next.1);
  stays = λ same. record {
    stays = λ items k.
        let low = p.more in
        let high = q.more in
        (q.stays (omega (arith, same, low, high))).stays items ((p.stays (omega (arith, same, low, high))).stays items k);
  };
  place = λ same.
      let low = p.more in
      let high = q.more in
      let one = p.place (omega (arith, same, low, high)) in
      let two = q.place (omega (arith, same, low, high)) in
      (two.0 ∙ one.0, two.1 ∙ one.1);
}

pub deals_keep : (a b : ReceiverView) → Deals a b → ((items : List Item) × ReceiverKeeps a items) → (items : List Item) × ReceiverKeeps b items
deals_keep a b d (items, k) = let next = d.gives items k in (items ++ next.0, next.1)

-- ---- a new receiver
fresh_sent : (v : router.View) → v.busy ≡ false → ((k : ℕ) → k < length v.dests → get_or (router.sents v) k [] ≡ []) → Dealt v []
fresh_sent v free none = record {
  by_route = tt;
  sent_is = λ k lt. ap (λ (b : Bool). get_or (router.settled_if b v.dests) k []) free ∙ none k lt;
}

pub fresh_keeps : (v : ReceiverView) → IsNewRecv v.end.shape v.end → IsUnsent v.router → v.at ≡ 0 → v.ended ≡ false → ReceiverKeeps v []
fresh_keeps v e u at_zero early =
    let none : held_bytes v.end.held ≡ [] = ap held_bytes e.held in
    let left : bytes_left v ≡ [] = ap (λ (bs : List ℕ). drop v.at bs) none ∙ drop_nil v.at in
    record {
      deals = [];
      dealt = fresh_sent v.router u.free u.sents;
      items = refl;
      fits = tt;
      bytes = ap packed e.received ∙ sym left;
      inside = omega (arith, at_zero);
      spelled = subst (λ (bs : List ℕ). IsSpelled bs) (sym left) ∣ ([], record { fits = tt; spelled = refl }) ∣₁;
      hand = λ busy. absurd (let free = u.free in cc);
      owed = λ busy. absurd (let free = u.free in cc);
      dests = u.dests;
      whole = λ w. absurd (let none = e.whole in cc);
      done = early;
    }
