-- The feeds of opened files of which nothing is read, one after another.
use Rattle.std.proofs.Common.{arith, ◌≡◌, ◌∙◌, ◌+◌, ◌++◌, ◌⊎◌, inl, inr, ℕ, zero, suc, pos, List, [], ◌∷◌, Option, None, Some, map, length, ap, refl, sym, subst}
use Rattle.std.specs.Prelude.{slice_get, All}
use Rattle.std.proofs.lemmas.List.{length-map, length_push}
use Rattle.std.proofs.lemmas.Option.{slice_get_within, get_or_from_slice_get, same_Some}
use Rattle.jet_feed.specs.Fed.{IsFed}
use Rattle.jet_feed.specs.declared.feed.Feed.{Feed}
use Rattle.jet_file.specs.Outside.{Told}
use Rattle.jet_items.specs.declared.item.Item.{Item}
use Rattle.jet_ring.specs.Ring.{TxView}
use Rattle.jet_worker.specs.CheckText.{Checks}
use Rattle.jet_worker.specs.Opening.{Opened, opened_in, pair_of}
use Rattle.jet_worker.specs.declared.check.Limits.{Limits}
use Rattle.jet_worker.specs.declared.open.OpenFile.{OpenFile}
use Rattle.jet_coordinator.specs.Feeds.{AreFed, IsThere, StartsFed, WhereThere, content_in}

-- the feed starts with this file
pub record StartsAt (limits : Limits) (o : OpenFile) (f : Feed) : Type 0 where
  pub file : f.file ≡ o.at
  pub fed : (c : Checks) (told : Told) → c.most ≡ limits.most → limits.unit ≡ pos c.unit → IsThere told (opened_in o) → StartsFed c (Some told) (opened_in o) f
  pub untold : (c : Checks) → c.most ≡ limits.most → limits.unit ≡ pos c.unit → StartsFed c None (opened_in o) f

-- the first n files have their feeds
pub record HaveStarted (limits : Limits) (opened : List OpenFile) (n : ℕ) (feeds : List Feed) : Type 0 where
  pub count : length feeds ≡ n
  pub each : (k : ℕ) (o : OpenFile) (f : Feed) → slice_get opened k ≡ Some o → slice_get feeds k ≡ Some f → StartsAt limits o f

pub none_started : (limits : Limits) (opened : List OpenFile) (feeds : List Feed) → feeds ≡ [] → HaveStarted limits opened 0 feeds
none_started limits opened feeds e = subst (HaveStarted limits opened 0) (sym e) (record { count = refl; each = λ k o f at_o at_f. cc })

later : (z : Feed) (zs : List Feed) (y : Feed) (k : ℕ) (x : Feed) → (slice_get zs k ≡ Some x) ⊎ ((k ≡ length zs) × (y ≡ x)) → (slice_get (z ∷ zs) (suc k) ≡ Some x) ⊎ ((suc k ≡ length (z ∷ zs)) × (y ≡ x))
later z zs y k x (inl e) = inl e
later z zs y k x (inr e) = inr (ap suc e.0, e.1)

at_push : (xs : List Feed) (y : Feed) (k : ℕ) (x : Feed) → slice_get (xs ++ y ∷ []) k ≡ Some x → (slice_get xs k ≡ Some x) ⊎ ((k ≡ length xs) × (y ≡ x))
at_push [] y zero x h = inr (refl, same_Some y x h)
at_push [] y (suc k) x h = cc
at_push (z ∷ zs) y zero x h = inl h
at_push (z ∷ zs) y (suc k) x h = later z zs y k x (at_push zs y k x h)

one_of : (limits : Limits) (opened : List OpenFile) (n : ℕ) (feeds : List Feed) (one : OpenFile) (feed : Feed) → HaveStarted limits opened n feeds → slice_get opened n ≡ Some one → StartsAt limits one feed
    → (k : ℕ) (o : OpenFile) (f : Feed) → slice_get opened k ≡ Some o → (slice_get feeds k ≡ Some f) ⊎ ((k ≡ length feeds) × (feed ≡ f)) → StartsAt limits o f
one_of limits opened n feeds one feed h at starts k o f at_o (inl e) = h.each k o f at_o e
one_of limits opened n feeds one feed h at starts k o f at_o (inr e) =
    let place : k ≡ n = e.0 ∙ h.count in
    let same : one ≡ o = same_Some one o (sym at ∙ ap (slice_get opened) (sym place) ∙ at_o) in
    subst (λ (x : OpenFile). StartsAt limits x f) same (subst (StartsAt limits one) e.1 starts)

pub one_started : (limits : Limits) (opened : List OpenFile) (n : ℕ) (feeds next : List Feed) (one : OpenFile) (feed : Feed) → HaveStarted limits opened n feeds → slice_get opened n ≡ Some one → StartsAt limits one feed
    → next ≡ feeds ++ feed ∷ [] → HaveStarted limits opened (n + 1) next
one_started limits opened n feeds next one feed h at starts e = subst (HaveStarted limits opened (n + 1)) (sym e) (record {
  count = let long = length_push feeds feed in let was = h.count in omega (arith, long, was);
  each = λ k o f at_o at_f. one_of limits opened n feeds one feed h at starts k o f at_o (at_push feeds feed k f at_f);
})

opened_at : (opened : List OpenFile) (k : ℕ) (x : Opened) → slice_get (map opened_in opened) k ≡ Some x → (o : OpenFile) × (slice_get opened k ≡ Some o) × (opened_in o ≡ x)
opened_at [] k x at = cc
opened_at (o ∷ os) zero x at = (o, refl, same_Some (opened_in o) x at)
opened_at (o ∷ os) (suc k) x at = opened_at os k x at

starts_told : (c : Checks) (limits : Limits) (o : OpenFile) (f : Feed) (k : ℕ) (opened : List Opened) → StartsAt limits o f → c.most ≡ limits.most → limits.unit ≡ pos c.unit → slice_get opened k ≡ Some (opened_in o)
    → (told : Option Told) → WhereThere told opened → StartsFed c told (opened_in o) f
starts_told c limits o f k opened starts most unit at None there = starts.untold c most unit
starts_told c limits o f k opened starts most unit at (Some told) there =
    starts.fed c told most unit (subst (IsThere told) (get_or_from_slice_get opened k (opened_in o) (opened_in o) at) (there k (opened_in o) (slice_get_within opened k (opened_in o) at)))

pub all_started : (limits : Limits) (opened : List OpenFile) (n : ℕ) (feeds : List Feed) → HaveStarted limits opened n feeds → n ≡ length opened
    → (c : Checks) (told : Option Told) (txs : List (TxView Item)) → c.most ≡ limits.most → limits.unit ≡ pos c.unit → WhereThere told (map opened_in opened) → length txs ≡ length opened → All (λ (tx : TxView Item). tx.sent ≡ []) txs
    → AreFed c (map opened_in opened) told told txs feeds
all_started limits opened n feeds h all c told txs most unit there rings unsent = record {
  count = h.count ∙ all ∙ sym (length-map opened opened_in);
  rings = rings ∙ sym (length-map opened opened_in);
  each = λ k x tx feed at_o at_tx at_f.
      let o = opened_at opened k x at_o in
      let starts = starts_told c limits o.0 feed k (map opened_in opened) (h.each k o.0 feed o.1 at_f) most unit (at_o ∙ ap Some (sym o.2)) told there in
      let none : tx.sent ≡ [] = subst (λ (t : TxView Item). t.sent ≡ []) (get_or_from_slice_get txs k tx tx at_tx) (unsent k tx (slice_get_within txs k tx at_tx)) in
      subst (λ (y : Opened). IsFed c (pair_of y) y.at (content_in told y) told tx.sent feed) o.2
      (subst (λ (sent : List Item). IsFed c (pair_of (opened_in o.0)) (opened_in o.0).at (content_in told (opened_in o.0)) told sent feed) (sym none) starts);
}

pub all_files : (limits : Limits) (opened : List OpenFile) (n : ℕ) (feeds : List Feed) → HaveStarted limits opened n feeds → n ≡ length opened → map (λ (f : Feed). f.file) feeds ≡ map (λ (o : OpenFile). o.at) opened
all_files limits opened n feeds h all = same opened feeds (h.count ∙ all) (λ k o f at_o at_f. (h.each k o f at_o at_f).file)
  where
    same : (os : List OpenFile) (fs : List Feed) → length fs ≡ length os → ((k : ℕ) (o : OpenFile) (f : Feed) → slice_get os k ≡ Some o → slice_get fs k ≡ Some f → f.file ≡ o.at) → map (λ (f : Feed). f.file) fs ≡ map (λ (o : OpenFile). o.at) os
    same [] [] e each = refl
    same [] (f ∷ fs) e each = cc
    same (o ∷ os) [] e each = cc
    same (o ∷ os) (f ∷ fs) e each =
        ap (λ (n : ℕ). n ∷ map (λ (f : Feed). f.file) fs) (each 0 o f refl refl) ∙ ap (λ (l : List ℕ). o.at ∷ l) (same os fs (omega (arith, e)) (λ k. each (suc k)))
