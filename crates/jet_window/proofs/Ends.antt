-- The first and the last due end of an event, and whether a window of it is open.
use Rattle.std.proofs.Common.{◌≡◌, true, List, [], ◌∷◌, ◌++◌, filter, refl, sym, ◌∙◌, ap, arith, ℤ, ◌+ℤ◌, ◌≤ℤ◌, ◌<ℤ◌, Option, Some, None}
use Rattle.std.specs.Prelude.{IfSome}
use Rattle.std.specs.Int.{int_min}
use Rattle.std.proofs.lemmas.Int.{ints, clamps}
use Rattle.std.proofs.lemmas.List.Elements.{filter-append}
use Rattle.jet_items.specs.Grid.{IsFrameEnd, floor_to}
use Rattle.jet_items.specs.Values.{EventValue}
use Rattle.jet_items.proofs.GridLemmas.{rem_bounds}
use Rattle.jet_policy.specs.Policy.{IsPolicy}
use Rattle.jet_policy.proofs.LastEnd.{slide_le_size}
use Rattle.jet_window.specs.Plain.{is_open}
use Rattle.jet_window.specs.Tables.{IsFirstEnd, IsLastDue}
use Rattle.jet_items.proofs.Covering.{Decides-int_lt}
use Rattle.jet_window.proofs.Members.{filter_both}

pub first_alone : (slide ts r : ℤ) → IsFrameEnd slide ts r → IsFirstEnd slide None ts r
first_alone slide ts r h = record { multiple = h.multiple; above = h.above; later = tt; least = λ e is above later. h.least e is above }

pub first_below : (slide mark ts r : ℤ) → mark ≤ℤ ts → IsFrameEnd slide ts r → IsFirstEnd slide (Some mark) ts r
first_below slide mark ts r le h = let above : ts <ℤ r = h.above in record { multiple = h.multiple; above = above; later = omega (arith, ints); least = λ e is above later. h.least e is above }

pub first_above : (slide mark ts r : ℤ) → ts ≤ℤ mark → IsFrameEnd slide mark r → IsFirstEnd slide (Some mark) ts r
first_above slide mark ts r le h = let above : mark <ℤ r = h.above in record { multiple = h.multiple; above = omega (arith, ints); later = above; least = λ e is above later. h.least e is later }

pub last_alone : (size ts : ℤ) → IsLastDue size None ts (ts +ℤ size)
last_alone size ts = record { within = omega (arith, ints); due = tt; greatest = λ e le due. le }

pub last_least : (size mark ts : ℤ) → IsLastDue size (Some mark) ts (int_min (ts +ℤ size) mark)
last_least size mark ts = record { within = omega (arith, ints, clamps); due = omega (arith, ints, clamps); greatest = λ e le due. omega (arith, ints, clamps) }

-- an event at or above the mark has an open window
pub open_now : (size slide : ℤ) (closed : Option ℤ) (ts : ℤ) → IsPolicy size slide → IfSome closed (λ mark. mark ≤ℤ ts) → is_open size slide closed ts ≡ true
open_now size slide None ts policy h = refl
open_now size slide (Some mark) ts policy h =
    let bounds = rem_bounds (ts +ℤ size) slide policy.slide_low in
    let le : slide ≤ℤ size = slide_le_size size slide policy in
    (Decides-int_lt mark (floor_to slide (ts +ℤ size))).1 (omega (arith, ints, bounds))

-- what is open above a mark is open above an earlier one
open_before : (size slide : ℤ) (closed : Option ℤ) (mark ts : ℤ) → IfSome closed (λ last. last ≤ℤ mark) → is_open size slide (Some mark) ts ≡ true → is_open size slide closed ts ≡ true
open_before size slide None mark ts le h = refl
open_before size slide (Some last) mark ts le h =
    let lt : mark <ℤ floor_to slide (ts +ℤ size) = (Decides-int_lt mark (floor_to slide (ts +ℤ size))).0 h in
    (Decides-int_lt last (floor_to slide (ts +ℤ size))).1 (omega (arith, ints))

pub taken_more : (size slide : ℤ) (closed : Option ℤ) (held new all : List EventValue) (x : EventValue) → is_open size slide closed x.ts ≡ true → new ≡ held ++ x ∷ [] → held ≡ filter (λ y. is_open size slide closed y.ts) all → new ≡ filter (λ y. is_open size slide closed y.ts) (all ++ x ∷ [])
taken_more size slide closed held new all x is n h =
    let one : filter (λ (y : EventValue). is_open size slide closed y.ts) (x ∷ []) ≡ x ∷ [] = rw is refl in
    n ∙ (ap (λ (xs : List EventValue). xs ++ x ∷ []) h ∙ (ap (λ (ys : List EventValue). filter (λ (y : EventValue). is_open size slide closed y.ts) all ++ ys) (sym one) ∙ sym (filter-append (λ (y : EventValue). is_open size slide closed y.ts) all (x ∷ []))))

pub taken_still : (size slide : ℤ) (closed : Option ℤ) (mark : ℤ) (held new all : List EventValue) → IfSome closed (λ last. last ≤ℤ mark) → new ≡ filter (λ y. is_open size slide (Some mark) y.ts) held → held ≡ filter (λ y. is_open size slide closed y.ts) all → new ≡ filter (λ y. is_open size slide (Some mark) y.ts) all
taken_still size slide closed mark held new all le n h =
    n ∙ (ap (λ (xs : List EventValue). filter (λ (y : EventValue). is_open size slide (Some mark) y.ts) xs) h
    ∙ filter_both (λ (y : EventValue). is_open size slide closed y.ts) (λ (y : EventValue). is_open size slide (Some mark) y.ts) (λ x. open_before size slide closed mark x.ts le) all)
