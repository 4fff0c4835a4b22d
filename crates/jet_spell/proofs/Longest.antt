-- The longest prefix of bytes that is a list of whole spellings.
use Rattle.std.proofs.Common.{◌≡◌, ℕ, ◌+◌, ◌-◌, ◌<◌, ◌≤◌, ◌⊎◌, inl, inr, List, [], ◌∷◌, ◌++◌, length, take, drop, sym, ap, subst, ◌∙◌, append_assoc, arith}
use Rattle.std.proofs.Math.Logic.{∥∥₁_elim}
use Rattle.std.proofs.Math.Seq.{take-add}
use Rattle.std.proofs.lemmas.List.{length-drop, length-take-le, take_at, take_all, take-append-drop}
use Rattle.jet_items.specs.declared.item.Item.{Item}
use Rattle.jet_spell.specs.Spelling.{spelling, spellings}
use Rattle.jet_spell.specs.Packets.{AreSpelled, IsSpelled, IsMalformed}
use Rattle.jet_spell.specs.Begins.{BeginsWith, BeginsNone, IsLongest}
use Rattle.jet_spell.proofs.Lengths.{bounds}
use Rattle.jet_spell.proofs.Lists.{behind, one_more}

-- one item more
pub record IsOneMore (items : List Item) (at n : ℕ) (bytes : List ℕ) : Type 0 where
  pub some : 0 < n
  pub within : at + n ≤ length bytes
  pub spelled : AreSpelled items (take (at + n) bytes)

pub one_read : (items : List Item) (bytes : List ℕ) (at n : ℕ) (x : Item) → at ≤ length bytes → AreSpelled items (take at bytes) → BeginsWith x n (drop at bytes)
    → IsOneMore (items ++ x ∷ []) at n bytes
one_read items bytes at n x within so b =
    let rest : List ℕ = drop n (drop at bytes) in
    let front : take n (drop at bytes) ≡ spelling x = ap (λ (l : List ℕ). take n l) b.begins ∙ take_at (spelling x) rest n (sym b.len) in
    let both : take (at + n) bytes ≡ take at bytes ++ spelling x = take-add at n bytes ∙ ap (λ (l : List ℕ). take at bytes ++ l) front in
    let long = bounds x n (drop at bytes) b in
    record {
      some = long.0;
      within = omega (arith, long.1, length-drop at bytes);
      spelled = subst (AreSpelled (items ++ x ∷ [])) (sym both) (one_more items (take at bytes) x so b.fits);
    }

-- ---- no longer prefix is a list of spellings

none_behind : (zs : List Item) (r more : List ℕ) → AreSpelled zs r → BeginsNone (r ++ more) → length r ≡ 0
none_behind [] r more so none = ap length so.spelled
none_behind (z ∷ zs) r more so none =
    absurd (none z (spellings zs ++ more) so.fits.0 (ap (λ (l : List ℕ). l ++ more) so.spelled ∙ append_assoc (spelling z) (spellings zs) more))

no_longer : (items ys : List Item) (at more : ℕ) (bytes : List ℕ) → at + more ≤ length bytes → IsLongest items at bytes → AreSpelled ys (take (at + more) bytes) → more ≡ 0
no_longer items ys at more bytes within so sy =
    let r : List ℕ = take more (drop at bytes) in
    let front : spellings items ++ r ≡ spellings ys = ap (λ (l : List ℕ). l ++ r) (sym so.spelled.spelled) ∙ sym (take-add at more bytes) ∙ sy.spelled in
    let rest = behind items ys r so.spelled.fits sy.fits front in
    let none = none_behind rest.0 r (drop more (drop at bytes)) rest.1.spelled (subst BeginsNone (sym (take-append-drop more (drop at bytes))) so.none) in
    omega (arith, none, length-take-le more (drop at bytes) (omega (arith, length-drop at bytes, within)))

-- A prefix of whole spellings that is longer would spell a further item.
pub longest : (items : List Item) (at n : ℕ) (bytes : List ℕ) → IsLongest items at bytes → n ≤ length bytes → IsSpelled (take n bytes) → n ≤ at
longest items at n bytes so within spelled =
    let none : at < n → ⊥ = λ longer. ∥∥₁_elim spelled (λ a b. absurd a) (λ s.
    let more : n ≡ at + (n - at) = omega arith in
    let zero = no_longer items s.0 at (n - at) bytes (omega arith) so (subst (λ (k : ℕ). AreSpelled s.0 (take k bytes)) more s.1) in
    omega arith) in
    omega (arith, none)

pub malformed : (items : List Item) (at : ℕ) (bytes : List ℕ) → IsLongest items at bytes → (at ≡ 0) ⊎ (at < length bytes) → IsMalformed at bytes
malformed items at bytes so early = record {
  no_packet = λ p.
      let all = longest items at (length bytes) bytes so (omega arith) (subst IsSpelled (sym (take_all (length bytes) bytes (omega arith))) p.1) in
      elim early [ inl h ↦ omega (arith, h, all, p.0) | inr h ↦ omega (arith, h, all) ];
  within = so.within;
  whole = ∣ (items, so.spelled) ∣₁;
  longest = λ n within spelled. longest items at n bytes so within spelled;
}

pub whole : (items : List Item) (at : ℕ) (bytes : List ℕ) → IsLongest items at bytes → length bytes ≤ at → AreSpelled items bytes
whole items at bytes so all = subst (AreSpelled items) (take_all at bytes all) so.spelled
