-- What one offer does to a destination.
use Rattle.std.proofs.Common.{◌≡◌, ℕ, zero, suc, ◌+◌, ◌-◌, ◌≤◌, List, [], ◌∷◌, ◌++◌, map, take, length, Bool, true, false, refl, sym, ◌∙◌, ap, arith, subst, All, length-append, append-nil}
use mathlib.Core.List.{IsPrefix}
use Rattle.std.proofs.lemmas.List.{take-append-le, take_all}
use Rattle.std.proofs.lemmas.Bool.{false≢true}
use Rattle.std.proofs.lemmas.List.Elements.{All-head, All-tail, All-cons, All-nil}
use Rattle.jet_items.specs.declared.item.Item.{Item}
use Rattle.jet_ring.specs.Ring.{TxView}
use Rattle.jet_router.specs.Dest.{DestView, served, served_unless, offered_if, takes_if, settled_by, HasInHand}

pub drop_last : {X : Type 0} (xs : List X) (x : X) → take (length (xs ++ x ∷ []) - 1) (xs ++ x ∷ []) ≡ xs
drop_last xs x =
    let h = length-append xs (x ∷ []) in
    let n : length (xs ++ x ∷ []) - 1 ≡ length xs = omega (arith, h) in
    ap (λ k. take k (xs ++ x ∷ [])) n ∙ take-append-le (length xs) xs (x ∷ []) (omega arith) ∙ take_all (length xs) xs (omega arith)

module _ (x : Item) where
  -- an end that was offered x without having it
  sent_if : (t : TxView Item) (n : ℕ) → takes_if n ≡ true → (offered_if x t n).sent ≡ t.sent ++ x ∷ []
  sent_if t zero e = absurd (false≢true e)
  sent_if t (suc n) e = refl

  settled_if : (t : TxView Item) (n : ℕ) → settled_by (takes_if n) (offered_if x t n).sent ≡ t.sent
  settled_if t zero = refl
  settled_if t (suc n) = drop_last t.sent x

  ring_if : (t : TxView Item) (n : ℕ) → (offered_if x t n).ring ≡ t.ring
  ring_if t zero = refl
  ring_if t (suc n) = refl

  full_if : (n : ℕ) → takes_if n ≡ false → n ≡ 0
  full_if zero e = refl
  full_if (suc n) e = absurd (false≢true (sym e))

  sent_unless : (t : TxView Item) (had : Bool) → (had ≡ true → t.sent ≡ settled_by true t.sent ++ x ∷ []) → (served_unless x t had).had ≡ true → (served_unless x t had).tx.sent ≡ settled_by had t.sent ++ x ∷ []
  sent_unless t true h e = h refl
  sent_unless t false h e = sent_if t t.free e

  settled_unless : (t : TxView Item) (had : Bool) → settled_by (served_unless x t had).had (served_unless x t had).tx.sent ≡ settled_by had t.sent
  settled_unless t true = refl
  settled_unless t false = settled_if t t.free

  ring_unless : (t : TxView Item) (had : Bool) → (served_unless x t had).tx.ring ≡ t.ring
  ring_unless t true = refl
  ring_unless t false = ring_if t t.free

  full_unless : (t : TxView Item) (had : Bool) → (served_unless x t had).had ≡ false → t.free ≡ 0
  full_unless t true e = absurd (false≢true (sym e))
  full_unless t false e = full_if t.free e

  reach_if : (t : TxView Item) (n : ℕ) → t.free ≡ n → length (offered_if x t n).sent + (offered_if x t n).free ≡ length t.sent + t.free
  reach_if t zero e = refl
  reach_if t (suc n) e = let h = length-append t.sent (x ∷ []) in omega (arith, h, e)

  reach_unless : (t : TxView Item) (had : Bool) → length (served_unless x t had).tx.sent + (served_unless x t had).tx.free ≡ length t.sent + t.free
  reach_unless t true = refl
  reach_unless t false = reach_if t t.free refl

  free_if : (t : TxView Item) (n : ℕ) → t.free ≡ n → (offered_if x t n).free ≤ t.free
  free_if t zero e = omega arith
  free_if t (suc n) e = omega (arith, e)

  free_unless : (t : TxView Item) (had : Bool) → (served_unless x t had).tx.free ≤ t.free
  free_unless t true = omega arith
  free_unless t false = free_if t t.free refl

  pub free_of_served : (d : DestView) → (served x d).tx.free ≤ d.tx.free
  free_of_served d = free_unless d.tx d.had

  more_if : (t : TxView Item) (n : ℕ) → IsPrefix t.sent (offered_if x t n).sent
  more_if t zero = ([], append-nil t.sent)
  more_if t (suc n) = (x ∷ [], refl)

  more_unless : (t : TxView Item) (had : Bool) → IsPrefix t.sent (served_unless x t had).tx.sent
  more_unless t true = ([], append-nil t.sent)
  more_unless t false = more_if t t.free

  -- nothing that was sent is taken back
  pub more_of_served : (d : DestView) → IsPrefix d.tx.sent (served x d).tx.sent
  more_of_served d = more_unless d.tx d.had

  -- a destination that has had x has it still
  had_unless : (t : TxView Item) (had : Bool) → had ≡ true → (served_unless x t had).had ≡ true
  had_unless t true e = refl
  had_unless t false e = absurd (false≢true e)

  pub had_of_served : (d : DestView) → d.had ≡ true → (served x d).had ≡ true
  had_of_served d e = had_unless d.tx d.had e

  -- a destination that has had x, once it is served, was sent x after what was settled
  pub sent_of_served : (d : DestView) → HasInHand x d → (served x d).had ≡ true → (served x d).tx.sent ≡ settled_by d.had d.tx.sent ++ x ∷ []
  sent_of_served d h e = sent_unless d.tx d.had h e

  pub settled_of_served : (d : DestView) → settled_by (served x d).had (served x d).tx.sent ≡ settled_by d.had d.tx.sent
  settled_of_served d = settled_unless d.tx d.had

  pub ring_of_served : (d : DestView) → (served x d).tx.ring ≡ d.tx.ring
  ring_of_served d = ring_unless d.tx d.had

  pub reach_of_served : (d : DestView) → length (served x d).tx.sent + (served x d).tx.free ≡ length d.tx.sent + d.tx.free
  reach_of_served d = reach_unless d.tx d.had

  pub full_if_owed : (d : DestView) → (served x d).had ≡ false → d.tx.free ≡ 0
  full_if_owed d e = full_unless d.tx d.had e

  pub hand_of_served : (d : DestView) → HasInHand x d → HasInHand x (served x d)
  hand_of_served d h e =
      let s : List Item = (served x d).tx.sent in
      let P : Bool → Type 0 = λ b. settled_by b s ≡ settled_by d.had d.tx.sent in
      sent_of_served d h e ∙ ap (λ w. w ++ x ∷ []) (sym (subst P e (settled_of_served d)))

pub all_unmap : {X Y : Type 0} (P : Y → Type 0) (f : X → Y) (xs : List X) → All P (map f xs) → All (λ x. P (f x)) xs
all_unmap P f [] h = All-nil (λ x. P (f x))
all_unmap P f (x ∷ xs) h = All-cons (λ x. P (f x)) x xs (All-head P (f x) (map f xs) h) (all_unmap P f xs (All-tail P (f x) (map f xs) h))
