-- The end of the text leads to no state but the last.
use Rattle.std.proofs.Common.{List, [], ◌∷◌, Option, Some, None}
use Rattle.std.proofs.lemmas.Bool.{cond_both}
use Rattle.std.specs.Prelude.{nat_le}
use Rattle.jet_expr.specs.Machine.{Maker, Frame, State, want, named, have, done, open_in, reduce, on_end, step, if_shallow, advance}
use Rattle.jet_expr.specs.declared.token.Token.TheVariants as token

abbrev pub AreDone : {A : Type 0} → Option (State A) → Type 0
AreDone None = Unit {0}
AreDone (Some (want K)) = ⊥
AreDone (Some (named b K)) = ⊥
AreDone (Some (have K e)) = ⊥
AreDone (Some (done e)) = Unit {0}

done_end : {A : Type 0} (K : List (Frame A)) (e : A) → AreDone (on_end K e)
done_end [] e = tt
done_end (f ∷ K) e = tt

done_step : {A : Type 0} (M : Maker A) (s : State A) → AreDone (step M s token.End)
done_step M (want K) = tt
done_step M (named b K) = tt
done_step M (have K e) = let r = reduce M 0 K e in done_end r.0 r.1
done_step M (done e) = tt

done_shallow : {A : Type 0} (o : Option (State A)) → AreDone o → AreDone (if_shallow o)
done_shallow None h = tt
done_shallow (Some s) h = cond_both (nat_le (open_in s) 32) (Some s) None AreDone (λ e. h) (λ e. tt)

pub done_advance : {A : Type 0} (M : Maker A) (s : State A) → AreDone (advance M s token.End)
done_advance M s = done_shallow (step M s token.End) (done_step M s)
