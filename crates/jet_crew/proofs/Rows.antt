-- Turns in a row of one task.
use Rattle.std.proofs.Common.{ℕ, ◌+◌, ◌<◌, List, [], ◌∷◌, ◌++◌, length, refl, sym, subst, arith}
use Rattle.std.proofs.lemmas.List.{length-append}
use Rattle.jet_crew.specs.declared.end.EpochEnd.{EpochEnd}
use Rattle.jet_crew.specs.declared.end.EpochEnd.TheVariants as answer
use Rattle.jet_crew.specs.Turns.{Together, joined, InRow, Took}
use Rattle.jet_crew.specs.inner.Worse.{worse}
use Rattle.jet_crew.proofs.Joining.{all_joined, together_more, together_none, SaidOf, says}

module _ {T : Type 0} (went : T → T → Type 0) (said : EpochEnd → T → T → Type 0) where
  in_row_more : (answers : List EpochEnd) (a m b : T) (e : EpochEnd) → InRow went said answers a m → went m b → said e m b → InRow went said (answers ++ e ∷ []) a b
  in_row_more [] a m b e is w s = (b, subst (λ (x : T). went x b) is w, subst (λ (x : T). said e x b) is s, refl)
  in_row_more (f ∷ fs) a m b e (n, w', s', rest) w s = (n, w', s', in_row_more fs n m b e rest w s)

  pub took_none : (a : T) → Took went said 0 answer.Done a a
  took_none a = record { answers = []; count = refl; in_row = refl; together = together_none }

  pub took_more : (n : ℕ) (p q : EpochEnd) (a m b : T) → Took went said n p a m → went m b → said q m b → Took went said (n + 1) (worse p q) a b
  took_more n p q a m b t w s =
      record {
        answers = t.answers ++ q ∷ [];
        count = let c = t.count in let l = length-append t.answers (q ∷ []) in omega (arith, c, l);
        in_row = in_row_more t.answers a m b q t.in_row w s;
        together = together_more t.answers p q t.together;
      }

  module _ (went_on : (a b c : T) → went a b → went b c → went a c) (said_joined : (p q : EpochEnd) (a b c : T) → went a b → went b c → said p a b → said q b c → said (joined p q) a c) where
    row_says : (e : EpochEnd) (es : List EpochEnd) (a b : T) → InRow went said (e ∷ es) a b → went a b × said (all_joined e es) a b
    row_says e [] a b (m, w, s, is) = (subst (λ (x : T). went a x) (sym is) w, subst (λ (x : T). said e a x) (sym is) s)
    row_says e (f ∷ fs) a b (m, w, s, rest) =
        let r = row_says f fs m b rest in
        (went_on a m b w r.0, said_joined e (all_joined f fs) a m b w r.0 s r.1)

    by_answers : (answers : List EpochEnd) (end : EpochEnd) (a b : T) → 0 < length answers → InRow went said answers a b → Together answers end → went a b × SaidOf said a b end
    by_answers [] end a b l row together = absurd (omega (arith, l))
    by_answers (e ∷ es) end a b l row together =
        let r = row_says e es a b row in
        (r.0, says said a b e es end together r.1)

    pub task_says : (turns : ℕ) (end : EpochEnd) (a b : T) → 0 < turns → Took went said turns end a b → went a b × SaidOf said a b end
    task_says turns end a b l t = by_answers t.answers end a b (let c = t.count in omega (arith, c, l)) t.in_row t.together
