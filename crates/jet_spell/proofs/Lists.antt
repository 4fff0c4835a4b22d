-- Lists of items are told by their bytes.
use Rattle.std.proofs.Common.{◌≡◌, ℕ, ◌<◌, List, [], ◌∷◌, ◌++◌, length, drop, Option, Some, None, MatchOption, Bool, true, false, refl, sym, ap, subst, ◌∙◌, append_assoc, arith}
use Rattle.std.specs.List.{AllByRecursion}
use Rattle.std.specs.Option.{IsSomeAnd, IsSomeAnd-prop}
use Rattle.std.proofs.Math.Logic.{∥∥₁_elim, ∥∥₁_map, ∥∥₁_prop}
use Rattle.std.proofs.lemmas.Grind.{flat_map-append}
use Rattle.std.proofs.lemmas.List.{append-nil}
use mathlib.Core.List.{IsPrefix}
use Rattle.std.specs.Bool.{OnTrue, OnFalse}
use Rattle.jet_pool.specs.Pool.{BufValue}
use Rattle.jet_items.specs.Fits.{ItemFits}
use Rattle.jet_items.specs.declared.item.Item.{Item}
use Rattle.jet_spell.specs.Spelling.{spelling, spellings}
use Rattle.jet_spell.specs.Reading.{item_at, byte_at}
use Rattle.jet_spell.specs.Packets.{AreSpelled, IsSpelled}
use Rattle.jet_spell.specs.Begins.{BeginsWith, BeginsNone}
use Rattle.jet_spell.proofs.Items.{reads_back, one_spelling, none_is}

nothing_read : item_at [] ≡ None
unfolding item_at byte_at
nothing_read = refl

-- bytes that begin with those of some items and more begin with the first item
first_of : (x : Item) (xs : List Item) (rest : List ℕ) → ItemFits x → item_at (spellings (x ∷ xs) ++ rest) ≡ Some (x, spellings xs ++ rest)
first_of x xs rest f = ap item_at (append_assoc (spelling x) (spellings xs) rest) ∙ reads_back x (spellings xs ++ rest) f

-- what is behind xs in ys is spelled by the rest
pub record IsBehind (xs ys zs : List Item) (rest : List ℕ) : Type 0 where
  pub together : xs ++ zs ≡ ys
  pub spelled : AreSpelled zs rest

pub behind : (xs ys : List Item) (rest : List ℕ) → AllByRecursion ItemFits xs → AllByRecursion ItemFits ys → spellings xs ++ rest ≡ spellings ys
    → (zs : List Item) × IsBehind xs ys zs rest
behind [] ys rest fx fy e = (ys, record { together = refl; spelled = record { fits = fy; spelled = e } })
behind (x ∷ xs) [] rest fx fy e =
    absurd (none_is (x, spellings xs ++ rest) (sym nothing_read ∙ ap item_at (sym e) ∙ first_of x xs rest fx.0))
behind (x ∷ xs) (y ∷ ys) rest fx fy e =
    let one = one_spelling x y (spellings xs ++ rest) (spellings ys) fx.0 fy.0 (sym (append_assoc (spelling x) (spellings xs) rest) ∙ e) in
    let more = behind xs ys rest fx.1 fy.1 one.1 in (
      more.0,
      record {
        together = ap (λ (z : Item). z ∷ (xs ++ more.0)) one.0 ∙ ap (λ (zs : List Item). y ∷ zs) more.1.together;
        spelled = more.1.spelled;
      },
    )

pub front_of : (xs ys : List Item) (rest : List ℕ) → AllByRecursion ItemFits xs → AllByRecursion ItemFits ys → spellings xs ++ rest ≡ spellings ys → IsPrefix xs ys
front_of xs ys rest fx fy e = let more = behind xs ys rest fx fy e in (more.0, more.1.together)

no_items : (xs : List Item) → AreSpelled xs [] → xs ≡ []
no_items [] so = refl
no_items (x ∷ xs) so =
    absurd (none_is (x, spellings xs ++ []) (sym nothing_read ∙ ap item_at (so.spelled ∙ sym (append-nil (spellings (x ∷ xs)))) ∙ first_of x xs [] so.fits.0))

pub one_list : (xs ys : List Item) (bytes : List ℕ) → AreSpelled xs bytes → AreSpelled ys bytes → xs ≡ ys
one_list xs ys bytes sx sy =
    let more = behind xs ys [] sx.fits sy.fits (append-nil (spellings xs) ∙ sym sx.spelled ∙ sy.spelled) in
    sym (append-nil xs) ∙ ap (λ (zs : List Item). xs ++ zs) (sym (no_items more.0 more.1.spelled)) ∙ more.1.together

pub all_more : (xs ys : List Item) → AllByRecursion ItemFits xs → AllByRecursion ItemFits ys → AllByRecursion ItemFits (xs ++ ys)
all_more [] ys fx fy = fy
all_more (x ∷ xs) ys fx fy = (fx.0, all_more xs ys fx.1 fy)

pub one_more : (xs : List Item) (bytes : List ℕ) (x : Item) → AreSpelled xs bytes → ItemFits x → AreSpelled (xs ++ x ∷ []) (bytes ++ spelling x)
one_more xs bytes x so fits = record {
  fits = all_more xs (x ∷ []) so.fits (fits, tt);
  spelled = ap (λ (b : List ℕ). b ++ spelling x) so.spelled ∙ sym (flat_map-append spelling xs (x ∷ []) ∙ ap (λ (b : List ℕ). spellings xs ++ b) (append-nil (spelling x)));
}

pub first_is_read : (x : Item) (xs : List Item) (bytes : List ℕ) → AreSpelled (x ∷ xs) bytes → (item_at bytes ≡ Some (x, spellings xs)) × AreSpelled xs (spellings xs)
first_is_read x xs bytes so = (ap item_at so.spelled ∙ reads_back x (spellings xs) so.fits.0, record { fits = so.fits.1; spelled = refl })

-- ---- reading goes on to the end

on : (items : List Item) (bytes : List ℕ) → AreSpelled items bytes → 0 < length bytes → (answer : Option (Item × ℕ))
    → MatchOption answer (BeginsNone bytes) (λ r. BeginsWith r.0 r.1 bytes) → IsSomeAnd answer (λ r. IsSpelled (drop r.1 bytes))
on [] bytes so some answer h = absurd (omega (arith, ap length so.spelled))
on (x ∷ xs) bytes so some None h = absurd (h x (spellings xs) so.fits.0 so.spelled)
on (x ∷ xs) bytes so some (Some r) h =
    let one = one_spelling x r.0 (spellings xs) (drop r.1 bytes) so.fits.0 h.fits (sym so.spelled ∙ h.begins) in
    ∣ (xs, record { fits = so.fits.1; spelled = sym one.1 }) ∣₁

pub goes_on : (bytes : List ℕ) (answer : Option (Item × ℕ)) → MatchOption answer (BeginsNone bytes) (λ r. BeginsWith r.0 r.1 bytes)
    → IsSpelled bytes → 0 < length bytes → IsSomeAnd answer (λ r. IsSpelled (drop r.1 bytes))
goes_on bytes answer h so some = ∥∥₁_elim so (IsSomeAnd-prop answer (λ r. IsSpelled (drop r.1 bytes)) (λ r. ∥∥₁_prop)) (λ s. on s.0 bytes s.1 some answer h)

pub spelled_more : (bytes : List ℕ) (x : Item) → ItemFits x → IsSpelled bytes → IsSpelled (bytes ++ spelling x)
spelled_more bytes x fits so = ∥∥₁_map so (λ s. (s.0 ++ x ∷ [], one_more s.0 bytes x s.1 fits))

-- a buffer keeps that its bytes are spelled, whether the item was appended or not
pub kept : (done : Bool) (old new : BufValue) (x : Item) (b : List ℕ) → b ≡ spelling x → ItemFits x
    → OnTrue done (new ≡ record old { bytes = old.bytes ++ b }) → OnFalse done (new ≡ old) → IsSpelled old.bytes → IsSpelled new.bytes
kept true old new x b is fits pushed full so =
    subst (λ (v : BufValue). IsSpelled v.bytes) (sym pushed) (subst (λ (l : List ℕ). IsSpelled (old.bytes ++ l)) (sym is) (spelled_more old.bytes x fits so))
kept false old new x b is fits pushed full so = subst (λ (v : BufValue). IsSpelled v.bytes) (sym full) so
