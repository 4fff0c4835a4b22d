-- From groups of faults to all of them.
use Rattle.std.proofs.Common.{◌≡◌, subst, ℕ, ◌≤◌, ◌^◌, List, [], ◌∷◌, ◌++◌, Bool, true, false, refl, sym, ap, ◌∙◌, Option, Some, None, arith, nat_lt, length, position, not, nat_le}
use Rattle.std.specs.Prelude.{⊤, Result, Ok, Err, option_map, ℤ, pos, negsuc, unsigned_abs, int_le, ◌&&◌}
use Rattle.std.specs.Result.{IsErr, IsErrAnd}
use Rattle.std.specs.Option.{option_or}
use Rattle.std.specs.List.{list_any}
use Rattle.std.proofs.lemmas.Bool.Decides.{nat_tests}
use Rattle.jet_items.specs.declared.no_memory.Refused.{Refused}
use Rattle.jet_items.specs.declared.no_memory.Refused.TheVariants as refused
use Rattle.jet_items.specs.Gives.{Gives, Fails}
use Rattle.jet_plan.specs.declared.dag.Dag.{Dag}
use Rattle.jet_plan.specs.declared.settings.Settings.{Settings}
use Rattle.jet_plan.specs.declared.many.Many.TheVariants.{Vertices, Edges, Files}
use Rattle.jet_plan.specs.declared.setting_name.SettingName.TheVariants.{Members, Ring, Packet, Window, Peak}
use Rattle.jet_plan.specs.declared.fault.PlanFault.{PlanFault}
use Rattle.jet_plan.specs.declared.fault.PlanFault.TheVariants.{TooMany, UnknownEnd, Cycle, Setting, TooLarge}
use Rattle.jet_plan.specs.declared.large.Large.TheVariants.{Growth, Slots}
use Rattle.jet_plan.specs.First.{first_of, where_true, accepted}
use Rattle.jet_plan.specs.Faults.{shape_faults, end_faults, edge_faults, range_faults, large_faults, fault}
use Rattle.jet_plan.specs.Sizes.{sizes, too_many, files}
use Rattle.jet_plan.specs.Names.{has_unknown_end}
use Rattle.jet_plan.specs.Growth.{is_cyclic, growth}
use Rattle.jet_plan.specs.SettingRanges.{is_between, wrong_setting, wrong_size, wrong_limit, wrong_grant, size_settings, limit_settings, grant_settings}
use Rattle.jet_plan.specs.Rings.{slots}
use Rattle.jet_plan.specs.Limits.{IsShaped, IsLimited}
use Rattle.jet_plan.proofs.Unknowns.{none_unknown, none_passes}

-- ---- the first of two groups

pub first_later : {X : Type 0} (xs ys : List (Option X)) → first_of xs ≡ None → first_of (xs ++ ys) ≡ first_of ys
first_later [] ys h = refl
first_later (None ∷ xs) ys h = first_later xs ys h
first_later (Some x ∷ xs) ys h = absurd (cc h)

pub first_stays : {X : Type 0} (xs ys : List (Option X)) (x : X) → first_of xs ≡ Some x → first_of (xs ++ ys) ≡ Some x
first_stays [] ys x h = absurd (cc h)
first_stays (None ∷ xs) ys x h = first_stays xs ys x h
first_stays (Some y ∷ xs) ys x h = h

none_of : {F : Type 0} (o : Option F) (x : ⊤) → accepted o ≡ Ok x → o ≡ None
none_of None x h = refl
none_of (Some f) x h = absurd (cc h)

some_of : {F : Type 0} (o : Option F) (f : F) → accepted o ≡ Err f → o ≡ Some f
some_of None f h = absurd (cc h)
some_of (Some g) f h = cc h

-- ---- answers of two groups

-- what the first group leaves to the second
pub later : (xs ys : List (Option PlanFault)) (q : Result ⊤ (Refused PlanFault)) → first_of xs ≡ None → Gives q (accepted (first_of ys)) → Gives q (accepted (first_of (xs ++ ys)))
later xs ys q none h = rw (first_later xs ys none) h

fault_stays : (xs ys : List (Option PlanFault)) (e : Refused PlanFault) → Fails e (accepted (first_of xs)) → Fails e (accepted (first_of (xs ++ ys)))
fault_stays xs ys (refused.Fault f) h = ap accepted (first_stays xs ys f (some_of (first_of xs) f h))
fault_stays xs ys refused.NoMemory h = tt

-- what the first group refuses
pub stays : (xs ys : List (Option PlanFault)) (r q : Result ⊤ (Refused PlanFault)) (e : Refused PlanFault) → Gives r (accepted (first_of xs)) → r ≡ Err e
    → IsErr q → IsErrAnd q (λ x. x ≡ e) → Gives q (accepted (first_of (xs ++ ys)))
stays xs ys r (Ok x) e given is err and = absurd (cc err)
stays xs ys r (Err x) e given is err and = rw and (fault_stays xs ys e (subst (λ (p : Result ⊤ (Refused PlanFault)). Gives p (accepted (first_of xs))) is given))

pub fault_given : (xs : List (Option PlanFault)) (r : Result ⊤ PlanFault) (f : PlanFault) → r ≡ accepted (first_of xs) → r ≡ Err f → Gives (Err (refused.Fault f)) (accepted (first_of xs))
fault_given xs r f given is = sym given ∙ is

-- a group without a fault
pub none_given : (xs : List (Option PlanFault)) (r : Result ⊤ (Refused PlanFault)) (x : ⊤) → Gives r (accepted (first_of xs)) → r ≡ Ok x → first_of xs ≡ None
none_given xs r x given is = none_of (first_of xs) x (subst (λ (p : Result ⊤ (Refused PlanFault)). Gives p (accepted (first_of xs))) is given)

pub none_told : (xs : List (Option PlanFault)) (r : Result ⊤ PlanFault) (x : ⊤) → r ≡ accepted (first_of xs) → r ≡ Ok x → first_of xs ≡ None
none_told xs r x given is = none_of (first_of xs) x (sym given ∙ is)

-- ---- what each group leaves

abbrev pub AreNone : {X : Type 0} → List (Option X) → Type 0
AreNone [] = Unit {0}
AreNone (o ∷ os) = (o ≡ None) × AreNone os

pub none_each : {X : Type 0} (os : List (Option X)) → first_of os ≡ None → AreNone os
none_each [] h = tt
none_each (None ∷ os) h = (refl, none_each os h)
none_each (Some x ∷ os) h = absurd (cc h)

pub not_true : {X : Type 0} (b : Bool) (x : X) → where_true b x ≡ None → b ≡ false
not_true true x h = absurd (cc h)
not_true false x h = refl

pub not_mapped : {X Y : Type 0} (f : X → Y) (o : Option X) → option_map f o ≡ None → o ≡ None
not_mapped f None h = refl
not_mapped f (Some x) h = absurd (cc h)

at_most : (m n : ℕ) → nat_lt m n ≡ false → n ≤ m
at_most m n h = grind (arith, nat_tests)

pub shaped_of : (dag : Dag) → first_of (shape_faults dag) ≡ None → IsShaped dag
unfolding shape_faults
shaped_of dag h =
    let none = none_each (shape_faults dag) h in
    let many = none_each (sizes dag) (not_mapped TooMany (too_many dag) none.1.0) in
    record {
      vertices = at_most 32 (length dag.vertices) (not_true (nat_lt 32 (length dag.vertices)) Vertices many.0);
      edges = at_most 64 (length dag.edges) (not_true (nat_lt 64 (length dag.edges)) Edges many.1.0);
      files = at_most 256 (files dag.vertices) (not_true (nat_lt 256 (files dag.vertices)) Files many.1.1.0);
      known = none_unknown dag.vertices dag.edges (sym (not_mapped UnknownEnd (position (has_unknown_end dag.vertices) dag.edges) none.1.1.1.0));
    }

-- ---- limits

pub option_none : {X : Type 0} (a b : Option X) → option_or a b ≡ None → a ≡ None
option_none None b h = refl
option_none (Some x) b h = absurd (cc h)

pub option_second : {X : Type 0} (a b : Option X) → option_or a b ≡ None → b ≡ None
option_second None b h = h
option_second (Some x) b h = absurd (cc h)

pub not_not : (b : Bool) → not b ≡ false → b ≡ true
not_not true h = refl
not_not false h = absurd (cc h)

pub second : (a b : Bool) → (a && b) ≡ true → b ≡ true
second true b h = h
second false b h = absurd (cc h)

pub to_le : (m n : ℕ) → nat_le m n ≡ true → m ≤ n
to_le m n h = grind (arith, nat_tests)

within : (least most : ℕ) (z : ℤ) → is_between least most z ≡ true → unsigned_abs z ≤ most
within least most (pos n) h = to_le n most (second (nat_le least n) (nat_le n most) h)
within least most (negsuc n) h = absurd (cc h)

pub first_true : (a b : Bool) → (a && b) ≡ true → a ≡ true
first_true true b h = refl
first_true false b h = absurd (cc h)

pub inside : (least most : ℕ) (z : ℤ) → is_between least most z ≡ true → (least ≤ unsigned_abs z) × (unsigned_abs z ≤ most)
inside least most (pos n) h = (to_le least n (first_true (nat_le least n) (nat_le n most) h), to_le n most (second (nat_le least n) (nat_le n most) h))
inside least most (negsuc n) h = absurd (cc h)

-- the greatest grant is within its range
abbrev peak_fits : Settings → Bool
peak_fits s = int_le s.window s.peak && int_le s.peak (pos 16777216)

granted : (window peak : ℤ) → (int_le (pos 1) window ≡ true) → (int_le window peak && int_le peak (pos 16777216)) ≡ true → unsigned_abs peak ≤ 16777216
granted window (pos n) one h = to_le n 16777216 (second (int_le window (pos n)) (nat_le n 16777216) h)
granted (pos m) (negsuc n) one h = absurd (cc h)
granted (negsuc m) (negsuc n) one h = absurd (cc one)

pub limited_of : (dag : Dag) (s : Settings) → IsShaped dag → first_of (range_faults dag s) ≡ None → IsLimited dag s
unfolding range_faults
limited_of dag s shaped h =
    let none = none_each (range_faults dag s) h in
    let settings = not_mapped Setting (wrong_setting s) none.1.1.0 in
    let sizes = none_each (size_settings s) (option_none (wrong_size s) (option_or (wrong_limit s) (wrong_grant s)) settings) in
    let limits = none_each (limit_settings s) (option_none (wrong_limit s) (wrong_grant s) (option_second (wrong_size s) (option_or (wrong_limit s) (wrong_grant s)) settings)) in
    let grants = none_each (grant_settings s) (option_second (wrong_limit s) (wrong_grant s) (option_second (wrong_size s) (option_or (wrong_limit s) (wrong_grant s)) settings)) in
    record {
      vertices = shaped.vertices;
      edges = shaped.edges;
      files = shaped.files;
      members = within 1 4 s.members (not_not (is_between 1 4 s.members) (not_true (not (is_between 1 4 s.members)) Members sizes.1.0));
      ring = within 2 65536 s.ring (not_not (is_between 2 65536 s.ring) (not_true (not (is_between 2 65536 s.ring)) Ring sizes.1.1.0));
      packet = inside 256 65536 s.packet (not_not (is_between 256 65536 s.packet) (not_true (not (is_between 256 65536 s.packet)) Packet sizes.1.1.1.0));
      peak = granted s.window s.peak (first_true (int_le (pos 1) s.window) (int_le s.window (pos 16777216)) (not_not (is_between 1 16777216 s.window) (not_true (not (is_between 1 16777216 s.window)) Window limits.0))) (not_not (peak_fits s) (not_true (not (peak_fits s)) Peak grants.0));
    }

-- ---- what a valid job keeps

pub group_none : {X : Type 0} (xs ys : List (Option X)) → first_of (xs ++ ys) ≡ None → (first_of xs ≡ None) × (first_of ys ≡ None)
group_none [] ys h = (refl, h)
group_none (None ∷ xs) ys h = group_none xs ys h
group_none (Some x ∷ xs) ys h = absurd (cc h)

pub after_shape : (dag : Dag) (s : Settings) → fault dag s ≡ None → first_of (end_faults dag ++ (edge_faults dag s ++ (range_faults dag s ++ large_faults dag s))) ≡ None
after_shape dag s h = (group_none (shape_faults dag) (end_faults dag ++ (edge_faults dag s ++ (range_faults dag s ++ large_faults dag s))) h).1

pub after_edges : (dag : Dag) (s : Settings) → fault dag s ≡ None → first_of (range_faults dag s ++ large_faults dag s) ≡ None
after_edges dag s h =
    (group_none (edge_faults dag s) (range_faults dag s ++ large_faults dag s)
    (group_none (end_faults dag) (edge_faults dag s ++ (range_faults dag s ++ large_faults dag s)) (after_shape dag s h)).1).1

pub valid_shaped : (dag : Dag) (s : Settings) → fault dag s ≡ None → IsShaped dag
valid_shaped dag s h = shaped_of dag (group_none (shape_faults dag) (end_faults dag ++ (edge_faults dag s ++ (range_faults dag s ++ large_faults dag s))) h).0

pub valid_limited : (dag : Dag) (s : Settings) → fault dag s ≡ None → IsLimited dag s
valid_limited dag s h = limited_of dag s (valid_shaped dag s h) (group_none (range_faults dag s) (large_faults dag s) (after_edges dag s h)).0

valid_large : (dag : Dag) (s : Settings) → fault dag s ≡ None → first_of (large_faults dag s) ≡ None
valid_large dag s h = (group_none (range_faults dag s) (large_faults dag s) (after_edges dag s h)).1

pub valid_slots : (dag : Dag) (s : Settings) → fault dag s ≡ None → slots dag s ≤ 4000000
unfolding large_faults
valid_slots dag s h =
    let none = none_each (large_faults dag s) (valid_large dag s h) in
    at_most 4000000 (slots dag s) (not_true (nat_lt 4000000 (slots dag s)) (TooLarge (Slots (slots dag s))) none.1.0)

pub valid_growth : (dag : Dag) (s : Settings) → fault dag s ≡ None → list_any (λ v. nat_lt (2 ^ 20) (growth dag v.name)) dag.vertices ≡ false
unfolding large_faults
valid_growth dag s h =
    let none = none_each (large_faults dag s) (valid_large dag s h) in
    none_passes (λ v. nat_lt (2 ^ 20) (growth dag v.name)) dag.vertices (sym (not_mapped (λ i. TooLarge (Growth i)) (position (λ v. nat_lt (2 ^ 20) (growth dag v.name)) dag.vertices) none.0))

pub valid_acyclic : (dag : Dag) (s : Settings) → fault dag s ≡ None → is_cyclic dag ≡ false
unfolding shape_faults
valid_acyclic dag s h =
    let none = none_each (shape_faults dag) (group_none (shape_faults dag) (end_faults dag ++ (edge_faults dag s ++ (range_faults dag s ++ large_faults dag s))) h).0 in
    not_true (is_cyclic dag) Cycle none.1.1.1.1.0
