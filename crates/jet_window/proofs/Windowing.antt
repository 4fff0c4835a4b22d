-- The rows of one window, by key.
use Rattle.std.proofs.Common.{◌≡◌, ℕ, Bool, true, false, ◌&&◌, ℤ, ◌<ℤ◌, ◌≤ℤ◌, ◌-ℤ◌, List, [], ◌∷◌, ◌++◌, map, refl, sym, ◌∙◌, ap, subst, arith, Option, None}
use Rattle.std.specs.Prelude.{bytes_eq}
use Rattle.std.specs.Ordering.{nat_cmp, is_eq}
use Rattle.std.specs.Cmp.Lexicographic.{slice_cmp}
use Rattle.std.specs.declared.cmp.Ordering.TheVariants.{Less, Equal}
use Rattle.std.proofs.lemmas.Int.{ints}
use Rattle.std.proofs.lemmas.Cmp.{nat_list_cmp_total, tied_itself}
use Rattle.std.proofs.lemmas.Slice.Eq.{bytes_eq-Decides}
use Rattle.std.proofs.lemmas.Map.Text.{is_eq-slice_cmp}
use Rattle.jet_items.specs.Values.{AccValue}
use Rattle.jet_items.specs.Totals.{both, total}
use Rattle.jet_items.specs.Frames.{only, covers}
use Rattle.jet_items.specs.Order.{Each}
use Rattle.jet_items.proofs.Covering.{false_from, Decides-covers}
use Rattle.jet_window.specs.FrameTables.{Table, IsKept}
use Rattle.jet_window.specs.WindowRows.{as_list}
use Rattle.jet_window.specs.Combining.{accs_at, TakesUp}
use Rattle.jet_window.specs.inner.WindowOf.{KeysRise, WindowOf}
use Rattle.jet_window.specs.inner.NextEnds.{IsNextEnd}

pub key_equal : (x y : List ℕ) → slice_cmp nat_cmp x y ≡ Equal → x ≡ y
key_equal x y h = (bytes_eq-Decides x y).0 (sym (is_eq-slice_cmp x y) ∙ ap is_eq h)

pub not_less : (x y : List ℕ) → slice_cmp nat_cmp x y ≡ Less → x ≡ y → ⊥
not_less x y h e = absurd_less (sym (tied_itself nat_list_cmp_total y) ∙ subst (λ (z : List ℕ). slice_cmp nat_cmp z y ≡ Less) e h)
  where
    absurd_less : Equal ≡ Less → ⊥
    absurd_less e = absurd (cc)

none_after : (k key : List ℕ) (rows : List (List ℕ × AccValue)) → k ≡ key → Each (λ (b : List ℕ × AccValue). slice_cmp nat_cmp k b.0 ≡ Less) rows → total (λ (p : List ℕ × AccValue). only (bytes_eq p.0 key) p.1) rows ≡ None
none_after k key [] is h = refl
none_after k key (p ∷ ps) is h = rw (false_from (bytes_eq p.0 key) (bytes_eq-Decides p.0 key) (λ e. not_less k p.0 h.0 (is ∙ sym e))) (none_after k key ps is h.1)

one_if : (b : Bool) (a : AccValue) (rest : List AccValue) (t : Option AccValue) → rest ≡ as_list t → (b ≡ true → t ≡ None) → as_list (only b a) ++ rest ≡ as_list (both (only b a) t)
one_if true a rest t h k = rw (h ∙ ap as_list (k refl)) (rw (k refl) refl)
one_if false a rest t h k = h

-- where keys rise, a key stands once at most
pub accs_once : (key : List ℕ) (rows : List (List ℕ × AccValue)) → KeysRise rows → accs_at key rows ≡ as_list (total (λ (p : List ℕ × AccValue). only (bytes_eq p.0 key) p.1) rows)
accs_once key [] h = refl
accs_once key (p ∷ ps) h = one_if (bytes_eq p.0 key) p.1 (accs_at key ps) (total (λ (q : List ℕ × AccValue). only (bytes_eq q.0 key) q.1) ps) (accs_once key ps h.1) (λ t. none_after p.0 key ps ((bytes_eq-Decides p.0 key).0 t) h.0)

pub takes_up : (size slide : ℤ) (passed : Option ℤ) (held : Table) (e : ℤ) (ready : List (List ℕ × AccValue)) → IsNextEnd size slide passed held e → WindowOf size e held ready → IsKept held → TakesUp size slide passed held e ready held
takes_up size slide passed held e ready next rows kept = record {
  multiple = next.multiple;
  later = next.later;
  skips = next.skips;
  ready_is = λ key. accs_once key ready rows.rising ∙ ap as_list (rows.each key);
  rising = rows.rising;
  leaves = λ d key m lt. refl;
  leaves_at = λ d key w. refl;
  kept = kept;
}

-- ---- what a window covers, and what it does not
pub both_true : (b c : Bool) (a : AccValue) → c ≡ true → only b a ≡ only (b && c) a
both_true true true a h = refl
both_true true false a h = absurd (cc)
both_true false c a h = refl

pub map_push : {X Y : Type 0} (f : X → Y) (xs : List X) (x : X) → map f (xs ++ x ∷ []) ≡ map f xs ++ f x ∷ []
map_push f [] x = refl
map_push f (y ∷ xs) x = ap (λ zs. f y ∷ zs) (map_push f xs x)

pub covers_true : (size e z : ℤ) → (e -ℤ size) <ℤ z → z ≤ℤ e → covers size e z ≡ true
covers_true size e z h k = (Decides-covers size e z).1 (h, k)

pub covers_high : (size e z : ℤ) → e <ℤ z → covers size e z ≡ false
covers_high size e z h = false_from (covers size e z) (Decides-covers size e z) (λ c. let q = c.1 in absurd (omega (arith, ints)))
