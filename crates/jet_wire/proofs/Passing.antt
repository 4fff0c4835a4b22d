-- What a sender passes on.
use Rattle.std.proofs.Common.{◌≡◌, ℕ, zero, suc, ℤ, List, [], ◌∷◌, ◌++◌, map, length, refl, sym, ◌∙◌, ap, append-nil, Option, Some, None, arith, length-append}
use Rattle.std.specs.List.{AllByRecursion}
use Rattle.std.proofs.lemmas.List.Concat.{flat_map-append, flat_map-cons}
use Rattle.jet_items.specs.Fits.{ItemFits}
use Rattle.jet_items.specs.declared.item.Item.{Item}
use Rattle.jet_items.specs.declared.item.Item.TheVariants as item
use Rattle.jet_items.specs.Kinds.{as_data, data_of}
use Rattle.jet_coalescer.specs.declared.change.Change.{Change}
use Rattle.jet_coalescer.specs.declared.change.Change.TheVariants as change
use Rattle.jet_coalescer.specs.Low.{History, low, all_done, risen, change_of}
use Rattle.jet_spell.specs.Laws.{SpellingsAreShort}
use Rattle.jet_spell.specs.Spelling.{spelling, spellings}
use Rattle.jet_wire.specs.Noting.{items_in}
use Rattle.jet_wire.specs.Passing.{Taken, mark_items, change_items, passed_of, passes, passed_after, begun, passed}
use Rattle.jet_wire.specs.Sender.{SenderView, work_bytes, queue_count, SenderKeeps}

-- ---- data
no_data_of_marks : (o : Option ℤ) → data_of (mark_items o) ≡ []
no_data_of_marks None = refl
no_data_of_marks (Some t) = refl

no_data_of_changes : (c : Change) → data_of (change_items c) ≡ []
no_data_of_changes change.Unchanged = refl
no_data_of_changes (change.Raised t) = refl
no_data_of_changes change.AllDone = refl

data_of_one : (x : Item) (before now : List History) → data_of (passed_of x before now) ≡ as_data x
data_of_one (item.Event e) before now = refl
data_of_one (item.Side s) before now = refl
data_of_one (item.Frame f) before now = refl
data_of_one (item.Row r) before now = refl
data_of_one (item.Late l) before now = refl
data_of_one item.Idle before now = refl
data_of_one (item.Mark t) before now = no_data_of_marks (risen (low before) (low now))
data_of_one item.Done before now = no_data_of_changes (change_of (all_done now) (low before) (low now))

data_after : (n : ℕ) (before came : List Taken) → data_of (passed_after n before came) ≡ data_of (map (λ a. a.item) came)
data_after n before [] = refl
data_after n before (a ∷ came) =
    flat_map-append as_data (passes n before a) (passed_after n (before ++ a ∷ []) came)
    ∙ (ap (λ (xs : List Item). xs ++ data_of (passed_after n (before ++ a ∷ []) came)) (data_of_one a.item _ _)
    ∙ (ap (λ (xs : List Item). as_data a.item ++ xs) (data_after n (before ++ a ∷ []) came)
    ∙ sym (flat_map-cons as_data a.item (map (λ (a : Taken). a.item) came))))

no_data_begun : (n : ℕ) → data_of (begun n) ≡ []
no_data_begun zero = refl
no_data_begun (suc n) = refl

data_passed : (n : ℕ) (came : List Taken) → data_of (passed n came) ≡ data_of (map (λ a. a.item) came)
data_passed n came =
    flat_map-append as_data (begun n) (passed_after n [] came)
    ∙ (ap (λ (xs : List Item). xs ++ data_of (passed_after n [] came)) (no_data_begun n) ∙ data_after n [] came)

pub passes_data : (v : SenderView) (came : List Taken) (sent : List Item) (k : SenderKeeps v came sent) → data_of (sent ++ k.sends.written ++ items_in v.hand) ≡ data_of (map (λ a. a.item) came)
passes_data v came sent k = ap data_of k.sends.follows ∙ data_passed (queue_count v) came

-- ---- all of it
rest_fits : (xs ys : List Item) → AllByRecursion ItemFits (xs ++ ys) → AllByRecursion ItemFits ys
rest_fits [] ys f = f
rest_fits (x ∷ xs) ys f = rest_fits xs ys f.1

none_spelled : SpellingsAreShort → (xs : List Item) → AllByRecursion ItemFits xs → spellings xs ≡ [] → xs ≡ []
none_spelled short [] f e = refl
none_spelled short (x ∷ xs) f e =
    let some = (short x f.0).0 in
    absurd (omega (arith, some, ap length (sym (flat_map-cons spelling x xs) ∙ e), length-append (spelling x) (spellings xs)))

pub sends_all : SpellingsAreShort → (v : SenderView) (came : List Taken) (sent : List Item) → SenderKeeps v came sent → v.hand ≡ None → v.end.work ≡ None → sent ≡ passed (queue_count v) came
sends_all short v came sent k hand work =
    let none : k.sends.written ≡ [] = none_spelled short k.sends.written (rest_fits sent k.sends.written k.sends.fits) (sym k.sends.work ∙ ap work_bytes work) in
    sym (append-nil sent)
    ∙ (sym (append-nil (sent ++ []))
    ∙ (ap (λ (xs : List Item). (sent ++ []) ++ xs) (sym (ap items_in hand))
    ∙ (ap (λ (xs : List Item). (sent ++ xs) ++ items_in v.hand) (sym none) ∙ k.sends.follows)))
