-- A row more among those of its key.
use Rattle.std.proofs.Common.{◌≡◌, ℕ, Bool, true, false, cond, List, [], ◌∷◌, ◌++◌, Option, Some, None, Result, Ok, Err, OnErr, refl, sym, ◌∙◌, ap, append-nil}
use Rattle.std.specs.Option.{option_map_or, unwrap_or}
use Rattle.std.specs.Map.{lookup}
use Rattle.std.specs.BTreeMap.{is_at}
use Rattle.std.specs.Ordering.{nat_cmp}
use Rattle.std.specs.Cmp.Lexicographic.{slice_cmp}
use Rattle.std.specs.Prelude.{bytes_eq}
use Rattle.std.proofs.lemmas.Map.Text.{is_eq-slice_cmp}
use Rattle.std.proofs.lemmas.Slice.Eq.{bytes_eq-Decides}
use Rattle.jet_items.specs.Values.{SideValue}
use Rattle.jet_items.specs.Joins.{rows_with}

pub on_err : {A E P : Type 0} (r : Result A E) → P → OnErr r P
on_err (Ok a) p = tt
on_err (Err e) p = p

-- the value found under a key
abbrev found : {V : Type 0} → List ℕ → List (List ℕ × V) → Option V
found k es = lookup (is_at (slice_cmp nat_cmp k)) es

items_found : {V : Type 0} (items : V → List SideValue) (o : Option V) (fresh : V) → items fresh ≡ [] → option_map_or items o [] ≡ items (unwrap_or o fresh)
items_found items None fresh h = sym h
items_found items (Some v) fresh h = refl

written : {V : Type 0} (items : V → List SideValue) (b : Bool) (w : V) (at own : Option V) (more : List SideValue) → (b ≡ true → own ≡ at)
    → items w ≡ option_map_or items own [] ++ more → option_map_or items (cond b (Some w) at) [] ≡ option_map_or items at [] ++ cond b more []
written items true w at own more same is = is ∙ ap (λ o. option_map_or items o [] ++ more) (same refl)
written items false w at own more same is = sym (append-nil (option_map_or items at []))

-- the value under k became w, which has more rows than it had; a new one had none
pub kept_more : {V : Type 0} (items : V → List SideValue) (k q : List ℕ) (more : List SideValue) (fresh was w : V) (old new with : List (List ℕ × V)) → new ≡ with
    → found q with ≡ cond (is_at (slice_cmp nat_cmp k) q) (Some w) (found q old)
    → was ≡ unwrap_or (found k old) fresh → items fresh ≡ [] → items w ≡ items was ++ more
    → option_map_or items (found q new) [] ≡ option_map_or items (found q old) [] ++ cond (bytes_eq k q) more []
kept_more {V} items k q more fresh was w old new with after at value none more_is =
    ap (λ es. option_map_or items (found q es) []) after
    ∙ (ap (λ o. option_map_or items o []) (at ∙ ap (λ b. cond b (Some w) (found q old)) (is_eq-slice_cmp k q))
    ∙ written items (bytes_eq k q) w (found q old) (found k old) more (λ t. ap (λ key. found key old) ((bytes_eq-Decides k q).0 t))
    (more_is ∙ ap (λ xs. xs ++ more) (ap items value ∙ sym (items_found items (found k old) fresh none))))

none_more : (b : Bool) (xs : List SideValue) → xs ++ cond b [] [] ≡ xs
none_more true xs = append-nil xs
none_more false xs = append-nil xs

-- the value under k became w, which has the rows that it had
pub kept_same : {V : Type 0} (items : V → List SideValue) (k q : List ℕ) (fresh was w : V) (old new with : List (List ℕ × V)) → new ≡ with
    → found q with ≡ cond (is_at (slice_cmp nat_cmp k) q) (Some w) (found q old)
    → was ≡ unwrap_or (found k old) fresh → items fresh ≡ [] → items w ≡ items was
    → option_map_or items (found q new) [] ≡ option_map_or items (found q old) []
kept_same items k q fresh was w old new with after at value none is =
    kept_more items k q [] fresh was w old new with after at value none (is ∙ sym (append-nil (items was)))
    ∙ none_more (bytes_eq k q) (option_map_or items (found q old) [])

-- the value under the key of a row became w, which has the row besides
pub kept_row : {V : Type 0} (items : V → List SideValue) (row : SideValue) (k q : List ℕ) (fresh was w : V) (old new with : List (List ℕ × V)) → k ≡ row.key → new ≡ with
    → found q with ≡ cond (is_at (slice_cmp nat_cmp k) q) (Some w) (found q old)
    → was ≡ unwrap_or (found k old) fresh → items fresh ≡ [] → items w ≡ items was ++ row ∷ []
    → option_map_or items (found q new) [] ≡ option_map_or items (found q old) [] ++ rows_with q (row ∷ [])
kept_row items row k q fresh was w old new with key after at value none is =
    kept_more items k q (row ∷ []) fresh was w old new with after at value none is
    ∙ ap (λ key. option_map_or items (found q old) [] ++ cond (bytes_eq key q) (row ∷ []) []) key
