-- The steps of a call, of the struct itself.
use Rattle.std.proofs.Common.{◌≡◌, ℕ, ◌<◌, Bool, true, false, ◌||◌, ℤ, ◌<ℤ◌, ◌≤ℤ◌, List, [], ◌∷◌, ◌++◌, ◌∙◌, Result, Ok, Err, Option, Some, None, refl, sym, ap, subst, arith}
use Rattle.std.specs.Prelude.{int_le, int_lt, OnErr}
use Rattle.std.proofs.lemmas.Int.{ints, by_lt_z}
use Rattle.jet_items.specs.Values.{AccValue, FrameValue}
use Rattle.jet_items.specs.Totals.{total}
use Rattle.jet_items.proofs.Orders.{Each-more}
use Rattle.jet_items.proofs.Covering.{Decides-int_le, Decides-int_lt, false_from, not_so}
use Rattle.jet_items.specs.declared.no_memory.NoMemory.{NoMemory}
use Rattle.jet_items.specs.declared.item.Item.{Item}
use Rattle.jet_window.specs.declared.combine.CombineP.{CombineP}
use Rattle.jet_window.specs.FrameTables.{Table, held_in}
use Rattle.jet_window.specs.Tables.{Place}
use Rattle.jet_window.specs.Taken.{is_due, InOpenWindow}
use Rattle.jet_window.specs.Combining.{Forgets, Clear, Passes, OpenAbove}
use Rattle.jet_window.specs.inner.NextEnds.{IsNextEnd, HeldUntil, gap}
use Rattle.jet_window.specs.inner.WindowOf.{WindowOf}
use Rattle.jet_window.specs.CombineStands.{Combine, Start, Gave, PutsReady}
use Rattle.jet_window.proofs.Standing.{Gave-trans, Gave-put, Gave-forget, Gave-up}
use Rattle.jet_window.specs.CombineView.{combine_of, start_of, SameRest}
use Rattle.jet_window.proofs.Fitting.{not_due_above, not_begun}
use Rattle.jet_window.specs.Later.{later_of, later_due}
use Rattle.jet_window.proofs.Windowing.{takes_up}

pub same_combine : (v1 v2 : ℕ) (s1 s2 d1 d2 : ℤ) (o1 o2 : Option ℤ) (e1 e2 : ℤ) (h1 h2 : Table) (r1 r2 : List (List ℕ × AccValue)) → v1 ≡ v2 → s1 ≡ s2 → d1 ≡ d2 → o1 ≡ o2 → e1 ≡ e2 → h1 ≡ h2 → r1 ≡ r2
    → let p : Combine = record { vertex = v1; size = s1; slide = d1; passed = o1; end = e1; held = h1; ready = r1 } in p ≡ record { vertex = v2; size = s2; slide = d2; passed = o2; end = e2; held = h2; ready = r2 }
same_combine v1 v2 s1 s2 d1 d2 o1 o2 e1 e2 h1 h2 r1 r2 a b c d e f g = cc

pub put_step : (p q : CombineP) (before after : List Item) → SameRest p q → q.passed ≡ p.passed → q.end ≡ p.end → q.held ≡ p.held → PutsReady p.vertex p.end p.ready.items before q.ready.items after → Gave (combine_of p) before (combine_of q) after
put_step p q before after s t e h puts =
    subst (λ (z : Combine). Gave (combine_of p) before z after)
    (same_combine _ _ _ _ _ _ _ _ _ _ _ _ _ _ (sym s.vertex) (sym (ap (λ x. x.size) s.policy)) (sym (ap (λ x. x.slide) s.policy)) (sym t) (sym e) (sym h) refl)
    (Gave-put (combine_of p) before q.ready.items after puts)

pub forget_step : (p q : CombineP) (xs : List Item) → SameRest p q → q.passed ≡ p.passed → q.end ≡ p.end → q.ready ≡ p.ready → Forgets p.policy.size p.policy.slide p.passed p.held q.held → Gave (combine_of p) xs (combine_of q) xs
forget_step p q xs s t e r f =
    subst (λ (z : Combine). Gave (combine_of p) xs z xs)
    (same_combine _ _ _ _ _ _ _ _ _ _ _ _ _ _ (sym s.vertex) (sym (ap (λ x. x.size) s.policy)) (sym (ap (λ x. x.slide) s.policy)) (sym t) (sym e) refl (sym (ap (λ x. x.items) r)))
    (Gave-forget (combine_of p) xs q.held f)

pub up_step : (p q : CombineP) (xs : List Item) (e : ℤ) → SameRest p q → q.held ≡ p.held → q.passed ≡ Some e → q.end ≡ e → p.ready.items ≡ [] → IsNextEnd p.policy.size p.policy.slide p.passed p.held e → WindowOf p.policy.size e p.held q.ready.items → Gave (combine_of p) xs (combine_of q) xs
up_step p q xs e s h t n none next rows =
    subst (λ (z : Combine). Gave (combine_of p) xs z xs)
    (same_combine _ _ _ _ _ _ _ _ _ _ _ _ _ _ (sym s.vertex) (sym (ap (λ x. x.size) s.policy)) (sym (ap (λ x. x.slide) s.policy)) (sym t) (sym n) (sym h) refl)
    (Gave-up (combine_of p) xs e q.ready.items none next.range (λ kept. takes_up p.policy.size p.policy.slide p.passed p.held e q.ready.items next rows kept))

-- no window up to t is left
pub skips_clear : (size slide : ℤ) (passed : Option ℤ) (held : Table) (e t : ℤ) → IsNextEnd size slide passed held e → t <ℤ e → Clear size slide passed held t
skips_clear size slide passed held e t next lt = record { none = λ d key m n le. next.skips d key m n (omega (arith, ints)) }

pub open_next : (size slide e t : ℤ) (held : Table) → HeldUntil size slide e held → t <ℤ e → OpenAbove size slide t held
open_next size slide e t held h lt =
    Each-more (λ (f : Place × AccValue). InOpenWindow size slide (λ d. int_lt d e) f.0.0) (λ (f : Place × AccValue). InOpenWindow size slide (λ d. int_le d t) f.0.0) (λ f w. (w.0, w.1, w.2, above w.0 w.3)) held h
  where
    above : (d : ℤ) → int_lt d e ≡ false → int_le d t ≡ false
    above d before = false_from (int_le d t) (Decides-int_le d t) (λ le. not_so (int_lt d e) (Decides-int_lt d e) before (omega (arith, ints)))

-- ---- which calls want memory
-- while no window up to t has a frame, none is taken up
pub Clear-forget : (size slide : ℤ) (passed : Option ℤ) (held rest : Table) (t : ℤ) → Forgets size slide passed held rest → Clear size slide passed held t → Clear size slide passed rest t
Clear-forget size slide passed held rest t f c = record { none = λ d key m n le. f.leaves d key m n ∙ c.none d key m n le }

pub clear_next : (l q r : CombineP) (t : ℤ) → q.policy ≡ l.policy → q.passed ≡ l.passed → q.held ≡ l.held → r.policy ≡ q.policy → r.passed ≡ q.passed → Forgets q.policy.size q.policy.slide q.passed q.held r.held
    → Clear l.policy.size l.policy.slide l.passed l.held t → Clear r.policy.size r.policy.slide r.passed r.held t
clear_next l q r t o p h o' p' f c =
    let here : Clear q.policy.size q.policy.slide q.passed q.held t = rw (o, p, h) c in
    rw (o', p') (Clear-forget q.policy.size q.policy.slide q.passed q.held r.held t f here)

pub clear_up : (r u : CombineP) (e t : ℤ) → u.policy ≡ r.policy → u.held ≡ r.held → u.passed ≡ Some e → is_due r.passed e ≡ false → Clear r.policy.size r.policy.slide r.passed r.held t → Clear u.policy.size u.policy.slide u.passed u.held t
clear_up r u e t o h p later c = rw (o, h, p) (record { none = λ d key m n le. c.none d key m (not_due_above r.passed e d later (after d n)) le })
  where
    after : (d : ℤ) → int_le d e ≡ false → e ≤ℤ d
    after d n = by_lt_z d e (λ lt. absurd (not_so (int_le d e) (Decides-int_le d e) n (omega (arith, ints)))) (λ le. le)

-- up to the mark of the beginning nothing is left that has not passed
pub clear_until : (size slide : ℤ) (begun passed : Option ℤ) (held : Table) (t u : ℤ) → Passes begun passed → Some u ≡ later_of begun (Some t) → Clear size slide passed held t → Clear size slide passed held u
clear_until size slide begun passed held t u begins up c = record {
  none = λ d key m n le. c.none d key m n (by (is_due begun d) (int_le d t) (not_begun begun passed d begins n) refl (sym (later_due begun (Some t) d) ∙ subst (λ (o : Option ℤ). is_due o d ≡ true) up ((Decides-int_le d u).1 le)));
}
  where
    by : (a b : Bool) → a ≡ false → {d : ℤ} → int_le d t ≡ b → (a || b) ≡ true → d ≤ℤ t
    by true b h is k = absurd (cc)
    by false b h {d} is k = (Decides-int_le d t).0 (is ∙ k)

pub not_clear : (size slide : ℤ) (passed : Option ℤ) (held : Table) (e t : ℤ) → IsNextEnd size slide passed held e → e ≤ℤ t → Clear size slide passed held t → ⊥
not_clear size slide passed held e t next le c = next.has.1 (c.none e next.has.0 next.multiple next.later le)

pub not_empty : (size slide : ℤ) (passed : Option ℤ) (held : Table) (e : ℤ) → IsNextEnd size slide passed held e → held ≡ [] → ⊥
not_empty size slide passed held e next none = next.has.1 (ap (total (held_in size e next.has.0)) none)

pub rest_empty : (first rest : Table) → first ++ rest ≡ [] → rest ≡ []
rest_empty [] rest h = h
rest_empty (f ∷ fs) rest h = absurd (cc)

pub when_err : {P : Type 0} (r : Result Bool NoMemory) → P → OnErr r P
when_err (Ok b) h = tt
when_err (Err e) h = h

pub clear_none : (size slide : ℤ) (passed : Option ℤ) (held : Table) (t : ℤ) → held ≡ [] → Clear size slide passed held t
clear_none size slide passed held t h = record { none = λ d key m n le. ap (total (held_in size d key)) h }

pub passes_up : (e t : ℤ) → e ≤ℤ t → Passes (Some e) (Some t)
passes_up e t h = record { stays = λ d k. let le : d ≤ℤ e = (Decides-int_le d e).0 k in (Decides-int_le d t).1 (omega (arith, ints)) }

-- what passed comes nearer to the last end
pub nearer : (size slide : ℤ) (passed : Option ℤ) (held : Table) (e : ℤ) → IsNextEnd size slide passed held e → gap (Some e) < gap passed
nearer size slide None held e next = let a = next.range.0 in let b = next.range.1 in let l = next.low in omega (arith, ints)
nearer size slide (Some p) held e next =
    let a = next.range.0 in
    let b = next.range.1 in
    let lt : p <ℤ e = by_lt_z p e (λ k. k) (λ k. absurd (not_so (int_le e p) (Decides-int_le e p) next.later k)) in
    omega (arith, ints)

-- ---- from the beginning of a call on
-- rows that were ready are put
pub gave_put : (p l q : CombineP) (before middle after : List Item) → Gave (combine_of p) before (combine_of l) middle
    → SameRest l q → q.passed ≡ l.passed → q.end ≡ l.end → q.held ≡ l.held → PutsReady l.vertex l.end l.ready.items middle q.ready.items after → Gave (combine_of p) before (combine_of q) after
gave_put p l q before middle after g s t e h puts = Gave-trans (combine_of p) before (combine_of l) middle (combine_of q) after g (put_step l q middle after s t e h puts)

-- and frames of closed windows are forgotten
pub gave_next : (p q r : CombineP) (before after : List Item) → Gave (combine_of p) before (combine_of q) after
    → SameRest q r → r.passed ≡ q.passed → r.end ≡ q.end → r.ready ≡ q.ready → Forgets q.policy.size q.policy.slide q.passed q.held r.held → Gave (combine_of p) before (combine_of r) after
gave_next p q r before after g s t e y f = Gave-trans (combine_of p) before (combine_of q) after (combine_of r) after g (forget_step q r after s t e y f)

-- ---- what stays the same
pub rest_refl : (p : CombineP) → SameRest p p
rest_refl p = record { vertex = refl; policy = refl; begun = refl; start = refl; last = refl }

pub rest_held : (p : CombineP) (held : Table) → SameRest p (record p { held = held })
rest_held p held = record { vertex = refl; policy = refl; begun = refl; start = refl; last = refl }

pub rest_trans : (p q r : CombineP) → SameRest p q → SameRest q r → SameRest p r
rest_trans p q r h k = record { vertex = k.vertex ∙ h.vertex; policy = k.policy ∙ h.policy; begun = k.begun ∙ h.begun; start = k.start ∙ h.start; last = k.last ∙ h.last }

pub same_start : (p q : CombineP) → q.begun ≡ p.begun → q.start ≡ p.start → start_of p ≡ start_of q
same_start p q b f = record_start p.begun q.begun p.start.items q.start.items (sym b) (sym (ap (λ x. x.items) f))
  where
    record_start : (b c : Option ℤ) (f g : List FrameValue) → b ≡ c → f ≡ g → let s : Start = record { begun = b; frames = f } in s ≡ record { begun = c; frames = g }
    record_start b c f g h k = cc

-- what is said of what a vertex began with and of the last mark
pub at_rest : (p q : CombineP) → SameRest p q → (P : Start → Option ℤ → Type 0) → P (start_of p) p.last → P (start_of q) q.last
at_rest p q r P h = subst (λ (s : Start). P s q.last) (same_start p q r.begun r.start) (subst (P (start_of p)) (sym r.last) h)
