-- What a coalescer has heard once one item more came, and what is passed on of it.
use Rattle.std.proofs.Common.{◌≡◌, ◌≢◌, ℕ, ◌<◌, ◌==◌, Bool, true, false, cond, ℤ, List, [], ◌∷◌, ◌++◌, length, refl, sym, ◌∙◌, ap, subst, append-nil, append_assoc}
use Rattle.std.specs.Prelude.{Option, Some}
use Rattle.std.proofs.lemmas.List.Concat.{flat_map-append}
use Rattle.jet_items.specs.declared.item.Item.{Item}
use Rattle.jet_items.specs.declared.item.Item.TheVariants as item
use Rattle.jet_items.specs.Done.{is_done}
use Rattle.jet_items.specs.Kinds.{as_mark}
use Rattle.jet_coalescer.specs.declared.change.Change.{Change}
use Rattle.jet_coalescer.specs.declared.coalescer.Coalescer.{Coalescer}
use Rattle.jet_coalescer.specs.Low.{History, HasHeard, with_mark, with_done, all_done, low, risen, change_of}
use Rattle.jet_wire.specs.Passing.{Taken, of_queue, history, heard, mark_items, change_items, passed_of, passes, passed_after, passed, begun}
use Rattle.jet_wire.specs.Noting.{items_in, Passes}
use Rattle.jet_wire.proofs.Histories.{same_number, differs, histories_alike, mark_history, done_history, quiet, with_one}

-- ---- one item more of what came
pub of_queue-push : (q : ℕ) (came : List Taken) (a : Taken) → of_queue q (came ++ a ∷ []) ≡ of_queue q came ++ cond (a.queue == q) (a.item ∷ []) []
of_queue-push q came a =
    let f : Taken → List Item = λ (b : Taken). cond (b.queue == q) (b.item ∷ []) [] in
    flat_map-append f came (a ∷ []) ∙ ap (λ (xs : List Item). of_queue q came ++ xs) (append-nil (f a))

pub own_queue : (came : List Taken) (a : Taken) → of_queue a.queue (came ++ a ∷ []) ≡ of_queue a.queue came ++ a.item ∷ []
own_queue came a = of_queue-push a.queue came a ∙ ap (λ (b : Bool). of_queue a.queue came ++ cond b (a.item ∷ []) []) (same_number a.queue)

pub other_queue : (came : List Taken) (a : Taken) (k : ℕ) → k ≢ a.queue → of_queue k (came ++ a ∷ []) ≡ of_queue k came
other_queue came a k ne = of_queue-push k came a ∙ (ap (λ (b : Bool). of_queue k came ++ cond b (a.item ∷ []) []) (differs a.queue k (λ i. ne (sym i))) ∙ append-nil (of_queue k came))

passed_after-push : (n : ℕ) (before came : List Taken) (a : Taken) → passed_after n before (came ++ a ∷ []) ≡ passed_after n before came ++ passes n (before ++ came) a
passed_after-push n before [] a = append-nil (passes n before a) ∙ ap (λ (b : List Taken). passes n b a) (sym (append-nil before))
passed_after-push n before (c ∷ came) a =
    let rest : List Item = passed_after n (before ++ c ∷ []) came in
    ap (λ (xs : List Item). passes n before c ++ xs) (passed_after-push n (before ++ c ∷ []) came a ∙ ap (λ (b : List Taken). rest ++ passes n b a) (append_assoc before (c ∷ []) came))
    ∙ sym (append_assoc (passes n before c) rest (passes n (before ++ c ∷ came) a))

pub passed-push : (n : ℕ) (came : List Taken) (a : Taken) → passed n (came ++ a ∷ []) ≡ passed n came ++ passes n came a
passed-push n came a = ap (λ (xs : List Item). begun n ++ xs) (passed_after-push n [] came a) ∙ sym (append_assoc (begun n) (passed_after n [] came) (passes n came a))

abbrev lists_of : List Taken → ℕ → List Item
lists_of came q = of_queue q came

mark_heard : (n : ℕ) (came : List Taken) (q : ℕ) (t : ℤ) → q < n → with_mark (heard n came) q t ≡ heard n (came ++ record { queue = q; item = item.Mark t } ∷ [])
mark_heard n came q t lt =
    let a : Taken = record { queue = q; item = item.Mark t } in
    with_one (λ (h : History). let r : History = record { marks = h.marks ++ t ∷ []; done = h.done } in r) n q (lists_of came) (lists_of (came ++ a ∷ [])) lt
    (sym (ap history (own_queue came a) ∙ mark_history (of_queue q came) t)) (λ k ne. other_queue came a k ne)

done_heard : (n : ℕ) (came : List Taken) (q : ℕ) → q < n → with_done (heard n came) q ≡ heard n (came ++ record { queue = q; item = item.Done } ∷ [])
done_heard n came q lt =
    let a : Taken = record { queue = q; item = item.Done } in
    with_one (λ (h : History). let r : History = record { marks = h.marks; done = true } in r) n q (lists_of came) (lists_of (came ++ a ∷ [])) lt
    (sym (ap history (own_queue came a) ∙ done_history (of_queue q came))) (λ k ne. other_queue came a k ne)

quiet_if : (b : Bool) (xs : List Item) (x : Item) → as_mark x ≡ [] → is_done x ≡ false → history (xs ++ cond b (x ∷ []) []) ≡ history xs
quiet_if true xs x m e = quiet xs x m e
quiet_if false xs x m e = ap history (append-nil xs)

-- an item that is neither a mark nor Done leaves what was heard
pub quiet_heard : (n : ℕ) (came : List Taken) (a : Taken) → as_mark a.item ≡ [] → is_done a.item ≡ false → heard n (came ++ a ∷ []) ≡ heard n came
quiet_heard n came a m e =
    histories_alike n (lists_of (came ++ a ∷ [])) (lists_of came) (λ q lt.
    ap history (of_queue-push q came a) ∙ quiet_if (a.queue == q) (of_queue q came) a.item m e)

-- ---- what is passed on
pub pass_mark : (co new : Coalescer) (q : ℕ) (t : ℤ) (o : Option ℤ) (out : Option Item) → q < length co.queues → ((told : List History) → HasHeard co told → HasHeard new (with_mark told q t))
    → ((told : List History) → HasHeard co told → o ≡ risen (low told) (low (with_mark told q t))) → items_in out ≡ mark_items o → Passes co new (record { queue = q; item = item.Mark t }) out
pass_mark co new q t o out lt hears rises is =
    let n : ℕ = length co.queues in record {
      hears = λ came h. subst (HasHeard new) (mark_heard n came q t lt) (hears (heard n came) h);
      gives = λ came h. is ∙ ap mark_items (rises (heard n came) h ∙ ap (λ (told : List History). risen (low (heard n came)) (low told)) (mark_heard n came q t lt));
    }

pub pass_done : (co new : Coalescer) (q : ℕ) (c : Change) (out : Option Item) → q < length co.queues → ((told : List History) → HasHeard co told → HasHeard new (with_done told q))
    → ((told : List History) → HasHeard co told → c ≡ change_of (all_done (with_done told q)) (low told) (low (with_done told q))) → items_in out ≡ change_items c → Passes co new (record { queue = q; item = item.Done }) out
pass_done co new q c out lt hears changes is =
    let n : ℕ = length co.queues in record {
      hears = λ came h. subst (HasHeard new) (done_heard n came q lt) (hears (heard n came) h);
      gives = λ came h. is ∙ ap change_items (changes (heard n came) h ∙ ap (λ (told : List History). change_of (all_done told) (low (heard n came)) (low told)) (done_heard n came q lt));
    }

pass_quiet : (co : Coalescer) (a : Taken) → as_mark a.item ≡ [] → is_done a.item ≡ false → ((before now : List History) → passed_of a.item before now ≡ a.item ∷ []) → Passes co co a (Some a.item)
pass_quiet co a m e is = record {
  hears = λ came h. subst (HasHeard co) (sym (quiet_heard (length co.queues) came a m e)) h;
  gives = λ came h. sym (is (heard (length co.queues) came) (heard (length co.queues) (came ++ a ∷ [])));
}

-- data is passed on as it is
pub pass_data : (co : Coalescer) (q : ℕ) (x : Item) → ((m : ℤ) → x ≡ item.Mark m → ⊥) → (x ≡ item.Done → ⊥) → Passes co co (record { queue = q; item = x }) (Some x)
pass_data co q (item.Event e) h k = pass_quiet co (record { queue = q; item = item.Event e }) refl refl (λ b n. refl)
pass_data co q (item.Side e) h k = pass_quiet co (record { queue = q; item = item.Side e }) refl refl (λ b n. refl)
pass_data co q (item.Frame e) h k = pass_quiet co (record { queue = q; item = item.Frame e }) refl refl (λ b n. refl)
pass_data co q (item.Row e) h k = pass_quiet co (record { queue = q; item = item.Row e }) refl refl (λ b n. refl)
pass_data co q (item.Late e) h k = pass_quiet co (record { queue = q; item = item.Late e }) refl refl (λ b n. refl)
pass_data co q item.Idle h k = pass_quiet co (record { queue = q; item = item.Idle }) refl refl (λ b n. refl)
pass_data co q (item.Mark m) h k = absurd (h m refl)
pass_data co q item.Done h k = absurd (k refl)
