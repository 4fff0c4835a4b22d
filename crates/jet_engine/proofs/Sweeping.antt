-- Junctions that meet one after another.
use Rattle.std.proofs.Common.{◌≡◌, ℕ, ◌+◌, ◌<◌, List, [], ◌∷◌, ◌++◌, map, take, length, get_or, ap, sym, ◌∙◌, subst, arith, below_more}
use Rattle.std.specs.List.{All, AllPairs}
use Rattle.std.proofs.lemmas.List.{get_or_default, take_more, map-append}
use Rattle.jet_tasklet.specs.declared.any.AnyTasklet.{AnyTasklet}
use Rattle.jet_engine.specs.declared.places.DestAt.{DestAt}
use Rattle.jet_engine.specs.declared.places.QueueAt.{QueueAt}
use Rattle.jet_engine.specs.declared.places.Junction.{Junction}
use Rattle.jet_engine.specs.Ends.{IsJoined, HasMet}
use Rattle.jet_engine.specs.Looking.{Met, AreApart}
use Rattle.jet_engine.proofs.Ends.{met_none, met_trans, still_joined, still_met, alone}

abbrev pub givers_of : List Junction → List DestAt
givers_of js = map (λ j. j.giver) js

abbrev pub takers_of : List Junction → List QueueAt
takers_of js = map (λ j. j.taker) js

-- the first n have met, and no other end has
pub record Swept (js : List Junction) (ts us : List AnyTasklet) (n : ℕ) : Type 0 where
  pub met : (k : ℕ) (d : Junction) → k < n → HasMet us (get_or js k d)
  pub others : Met ts us (givers_of (take n js)) (takers_of (take n js))

pub none_swept : (js : List Junction) (ts : List AnyTasklet) → Swept js ts ts 0
none_swept js ts = record { met = λ k d l. absurd (omega (arith, l)); others = met_none ts }

mapped_more : {X Y : Type 0} (f : X → Y) (xs : List X) (n : ℕ) (d : X) → n < length xs → map f (take (n + 1) xs) ≡ map f (take n xs) ++ f (get_or xs n d) ∷ []
mapped_more f xs n d l = ap (map f) (take_more xs n d l) ∙ map-append f (take n xs) (get_or xs n d ∷ [])

pub one_swept : (js : List Junction) (ts us vs : List AnyTasklet) (n : ℕ) (d : Junction) → AllPairs AreApart js → n < length js → Swept js ts us n
    → HasMet vs (get_or js n d) → Met us vs ((get_or js n d).giver ∷ []) ((get_or js n d).taker ∷ []) → Swept js ts vs (n + 1)
one_swept js ts us vs n d apart l s met others =
    let j = get_or js n d in
    let before : (k : ℕ) (e : Junction) → k < n → HasMet vs (get_or js k e) = λ k e h.
    let two = apart k n d h l in
    subst (λ (i : Junction). HasMet vs i) (get_or_default js k d e (omega (arith, h, l)))
    (still_met us vs (j.giver ∷ []) (j.taker ∷ []) (get_or js k d) others (alone j.giver (get_or js k d).giver two.givers) (alone j.taker (get_or js k d).taker two.takers) (s.met k d h)) in
    let here : (e : Junction) → HasMet vs (get_or js n e) = λ e. subst (λ (i : Junction). HasMet vs i) (get_or_default js n d e l) met in
    record {
      met = λ k e h. below_more (λ i. HasMet vs (get_or js i e)) n (λ i b. before i e b) (here e) k h;
      others =
          subst (λ (ds : List DestAt). Met ts vs ds (takers_of (take (n + 1) js))) (sym (mapped_more (λ (i : Junction). i.giver) js n d l))
          (subst (λ (qs : List QueueAt). Met ts vs (givers_of (take n js) ++ j.giver ∷ []) qs) (sym (mapped_more (λ (i : Junction). i.taker) js n d l))
          (met_trans ts us vs (givers_of (take n js)) (j.giver ∷ []) (takers_of (take n js)) (j.taker ∷ []) s.others others));
    }

-- a junction that is still to meet is joined
pub joined_at : (js : List Junction) (ts us : List AnyTasklet) (n : ℕ) (d : Junction) → All (IsJoined ts) js → n < length js → Swept js ts us n → IsJoined us (get_or js n d)
joined_at js ts us n d all l s = still_joined ts us (get_or js n d) s.others.looked (all n d l)
