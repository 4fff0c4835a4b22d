-- The tasks of one worker, one after another, and lists related place by place.
use Rattle.std.proofs.Common.{◌≡◌, ◌≢◌, ℕ, zero, suc, ◌+◌, ◌<◌, ◌≤◌, List, [], ◌∷◌, ◌++◌, ◌∙◌, refl, sym, ap, subst, inl, inr, get_or, set, length, arith, below_more, length-set}
use Rattle.std.specs.List.{All, AllZip}
use Rattle.std.proofs.lemmas.List.{get_or-set_same, get_or-set_other, get_or_default, length-append, get_or_append_left}
use Rattle.std.proofs.lemmas.List.Elements.{AllZip-get_or}
use Rattle.std.proofs.Math.Seq.{get_or-append_seam}
use Rattle.jet_crew.specs.declared.end.EpochEnd.{EpochEnd}
use Rattle.jet_crew.specs.declared.end.EpochEnd.TheVariants as answer
use Rattle.jet_crew.specs.Turns.{Together, joined, Took}
use Rattle.jet_crew.specs.Epoch.{Placewise, SaidAll, TookAll, EpochOver}
use Rattle.jet_crew.specs.inner.Worse.{worse}
use Rattle.jet_crew.proofs.Joining.{together_more, together_none, SaidOf}
use Rattle.jet_crew.proofs.Rows.{task_says}

module _ {T : Type 0} (went : T → T → Type 0) (said : EpochEnd → T → T → Type 0) (turns : ℕ) where
  -- those below n took their turns, which came to this, and the others are as they were
  pub record SoFar (end : EpochEnd) (xs ys : List T) (n : ℕ) : Type 0 where
    pub count : length ys ≡ length xs
    pub others : (j : ℕ) (d : T) → n ≤ j → get_or ys j d ≡ get_or xs j d
    pub ends : List EpochEnd
    pub each : length ends ≡ n
    pub took : (k : ℕ) (d : T) → k < n → Took went said turns (get_or ends k answer.Done) (get_or xs k d) (get_or ys k d)
    pub together : Together ends end

  pub none_so_far : (xs : List T) → SoFar answer.Done xs xs 0
  none_so_far xs = record { count = refl; others = λ j d l. refl; ends = []; each = refl; took = λ k d l. absurd (omega (arith, l)); together = together_none }

  pub one_more : (p q : EpochEnd) (xs ys : List T) (i : ℕ) (x y : T) → i < length ys → x ≡ get_or ys i x → SoFar p xs ys i → Took went said turns q x y → SoFar (worse p q) xs (set ys i y) (i + 1)
  one_more p q xs ys i x y l is far t =
      record {
        count = length-set ys i y ∙ far.count;
        others = λ j d h. get_or-set_other ys i j y d (λ e. omega (arith, e, h)) ∙ far.others j d (omega (arith, h));
        ends = far.ends ++ q ∷ [];
        each = let e = far.each in let k = length-append far.ends (q ∷ []) in omega (arith, e, k);
        took = took;
        together = together_more far.ends p q far.together;
      }
    where
      -- the one at i
      here : (d : T) → Took went said turns (get_or (far.ends ++ q ∷ []) i answer.Done) (get_or xs i d) (get_or (set ys i y) i d)
      here d =
          let last : get_or (far.ends ++ q ∷ []) i answer.Done ≡ q = ap (λ (k : ℕ). get_or (far.ends ++ q ∷ []) k answer.Done) (sym far.each) ∙ get_or-append_seam far.ends q [] answer.Done in
          let first : x ≡ get_or xs i d = is ∙ (get_or_default ys i x d l ∙ far.others i d (omega arith)) in
          subst (λ (e : EpochEnd). Took went said turns e (get_or xs i d) (get_or (set ys i y) i d)) (sym last)
          (subst (λ (a : T). Took went said turns q a (get_or (set ys i y) i d)) first
          (subst (λ (b : T). Took went said turns q x b) (sym (get_or-set_same ys i y d l)) t))

      -- one below
      before : (d : T) (k : ℕ) → k < i → Took went said turns (get_or (far.ends ++ q ∷ []) k answer.Done) (get_or xs k d) (get_or (set ys i y) k d)
      before d k h =
          subst (λ (e : EpochEnd). Took went said turns e (get_or xs k d) (get_or (set ys i y) k d)) (sym (get_or_append_left far.ends (q ∷ []) answer.Done k (let e = far.each in omega (arith, e, h))))
          (subst (λ (b : T). Took went said turns (get_or far.ends k answer.Done) (get_or xs k d) b) (sym (get_or-set_other ys i k y d (λ e. omega (arith, e, h)))) (far.took k d h))

      took : (k : ℕ) (d : T) → k < i + 1 → Took went said turns (get_or (far.ends ++ q ∷ []) k answer.Done) (get_or xs k d) (get_or (set ys i y) k d)
      took k d h = below_more (λ j. Took went said turns (get_or (far.ends ++ q ∷ []) j answer.Done) (get_or xs j d) (get_or (set ys i y) j d)) i (before d) (here d) k h

  pub all_of_them : (end : EpochEnd) (xs ys : List T) (n : ℕ) → n ≡ length xs → SoFar end xs ys n → TookAll went said turns end xs ys
  all_of_them end xs ys n e far =
      record { count = far.count; ends = far.ends; each = far.each ∙ e; took = λ k d l. far.took k d (omega (arith, e, l)); together = far.together }

  module _ (some : 0 < turns) (went_on : (a b c : T) → went a b → went b c → went a c) (said_joined : (p q : EpochEnd) (a b c : T) → went a b → went b c → said p a b → said q b c → said (joined p q) a c) (end : EpochEnd) (xs ys : List T) (all : TookAll went said turns end xs ys) where
    -- what each task says
    each_says : (k : ℕ) (d : T) → k < length xs → went (get_or xs k d) (get_or ys k d) × SaidOf said (get_or xs k d) (get_or ys k d) (get_or all.ends k answer.Done)
    each_says k d l = task_says went said went_on said_joined turns (get_or all.ends k answer.Done) (get_or xs k d) (get_or ys k d) some (all.took k d l)

    says_as : (e : EpochEnd) (k : ℕ) (d : T) → k < length xs → get_or all.ends k answer.Done ≡ e → SaidOf said (get_or xs k d) (get_or ys k d) e
    says_as e k d l is = subst (λ (f : EpochEnd). SaidOf said (get_or xs k d) (get_or ys k d) f) is (each_says k d l).1

    -- the place of an answer
    place_of : (e : EpochEnd) (k : ℕ) → k < length all.ends → get_or all.ends k e ≡ e → (k < length xs) × (get_or all.ends k answer.Done ≡ e)
    place_of e k l is = ((let c = all.each in omega (arith, c, l)), get_or_default all.ends k answer.Done e l ∙ is)

    inside : (k : ℕ) → k < length xs → k < length all.ends
    inside k l = let c = all.each in omega (arith, c, l)

    said_all : (e : EpochEnd) → Together all.ends e → SaidAll said e xs ys
    said_all answer.Moved h = let p = place_of answer.Moved h.0.0 h.0.1 h.0.2 in record { place = h.0.0; exists = p.0; has = λ d. says_as answer.Moved h.0.0 d p.0 p.1 }
    said_all answer.NoMemory h = let p = place_of answer.NoMemory h.0 h.1 h.2 in record { place = h.0; exists = p.0; has = λ d. says_as answer.NoMemory h.0 d p.0 p.1 }
    said_all answer.Done h = record { count = all.count; each = λ k d l. says_as answer.Done k d l (h k answer.Done (inside k l)) }
    said_all answer.Idle h =
        record {
          count = all.count;
          each = λ k d l. elim (h.1 k answer.Done (inside k l)) [
            | inl is ↦ says_as answer.Idle k d l is
            | inr is ↦ inr (says_as answer.Done k d l is)
          ];
        }

    pub epoch_over : EpochOver went said end xs ys
    epoch_over = record { went_all = record { count = all.count; each = λ k d l. (each_says k d l).0 }; said_all = said_all end all.together }

-- ---- lists related place by place
module _ {T : Type 0} (R : T → T → Type 0) where
  zip_count : (xs ys : List T) → AllZip R xs ys → length ys ≡ length xs
  zip_count [] [] h = refl
  zip_count [] (y ∷ ys) h = absurd h
  zip_count (x ∷ xs) [] h = absurd h
  zip_count (x ∷ xs) (y ∷ ys) h = ap suc (zip_count xs ys h.1)

  pub placewise_zip : (xs ys : List T) → AllZip R xs ys → Placewise R xs ys
  placewise_zip xs ys h = record { count = zip_count xs ys h; each = λ k d l. AllZip-get_or R xs ys k d d h l }

-- what holds of each of a list, and what turns keep, holds of each after them
pub all_kept : {T : Type 0} (keeps : T → Type 0) (went : T → T → Type 0) → ((a b : T) → keeps a → went a b → keeps b) → (xs ys : List T) → Placewise went xs ys → All keeps xs → All keeps ys
all_kept keeps went on xs ys all kept = λ k d l.
    let inside : k < length xs = let n = all.count in omega (arith, n, l) in
    on (get_or xs k d) (get_or ys k d) (kept k d inside) (all.each k d inside)

module _ {T : Type 0} where
  pub set_twice : (xs : List T) (k : ℕ) (x y : T) → set (set xs k x) k y ≡ set xs k y
  set_twice [] k x y = refl
  set_twice (z ∷ zs) zero x y = refl
  set_twice (z ∷ zs) (suc k) x y = ap (λ (l : List T). z ∷ l) (set_twice zs k x y)

  -- two places that were lent out, and came back
  pub both_back : (xs : List T) (i j : ℕ) (a b x y : T) → i ≢ j → set (set (set (set xs i a) j b) i x) j y ≡ set (set xs i x) j y
  both_back [] i j a b x y n = refl
  both_back (z ∷ zs) zero zero a b x y n = absurd (n refl)
  both_back (z ∷ zs) zero (suc j) a b x y n = ap (λ (l : List T). x ∷ l) (set_twice zs j b y)
  both_back (z ∷ zs) (suc i) zero a b x y n = ap (λ (l : List T). y ∷ l) (set_twice zs i a x)
  both_back (z ∷ zs) (suc i) (suc j) a b x y n = ap (λ (l : List T). z ∷ l) (both_back zs i j a b x y (λ e. n (ap suc e)))
