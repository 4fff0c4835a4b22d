-- Turns of inputs: spans of them without an item, and items that were taken in turn one after the other.
use Rattle.std.proofs.Common.{◌≡◌, ℕ, zero, suc, ◌+◌, ◌<◌, ◌≤◌, inl, inr, true, List, length, get_or, refl, ◌∙◌, ap, subst, arith, below_more}
use Rattle.std.specs.Prelude.{Option, Some, None, IfSome, slice_get}
use Rattle.std.proofs.lemmas.Option.{get_or_from_slice_get}
use Rattle.jet_boxes.specs.declared.port.Port.{Port}
use Rattle.jet_conveyor.specs.Conveyor as conveyor
use Rattle.jet_items.specs.declared.item.Item.{Item}
use Rattle.jet_tasklet.specs.declared.inputs.Spot.{Spot}
use Rattle.jet_tasklet.specs.declared.tasklet.Tasklet.{Tasklet}
use Rattle.jet_tasklet.specs.Fairness.{NoneBetween, IsFirst, Turns, turns_of, FoundInTurn, TookInTurns, TookFairly}
use Rattle.std.specs.declared.vec.Vec.{Vec}
use Rattle.std.specs.declared.alloc.Global.{Global}
use Rattle.jet_tasklet.specs.declared.input.Input.{Input}
use Rattle.jet_tasklet.specs.Inputs.{InputView, inputs_view}
use Rattle.jet_tasklet.specs.Turning.{Worked, BeginsFinish}
use Rattle.jet_tasklet.specs.Taking.{Looked, IsNext, TookAt}
use Rattle.jet_tasklet.specs.Trace.{same_port}

-- ---- spans
-- one more input, of which the port's queues have no item
pub between_more : (port : Port) (vs : List InputView) (from i : ℕ) (v : InputView) → v ≡ get_or vs i v → (same_port v.port port ≡ true → conveyor.NoneKnown v.queues 0 (length v.queues.rings)) → NoneBetween port vs from i → NoneBetween port vs from (i + 1)
between_more port vs from i v at here before =
    let P : ℕ → Type 0 = λ k. from ≤ k → (w : InputView) → slice_get vs k ≡ Some w → same_port w.port port ≡ true → conveyor.NoneKnown w.queues 0 (length w.queues.rings) in
    let last : P i = λ lo w is to.
    let same : v ≡ w = at ∙ get_or_from_slice_get vs i w v is in
    let Q : InputView → Type 0 = λ u. same_port u.port port ≡ true → conveyor.NoneKnown u.queues 0 (length u.queues.rings) in
    subst Q same here to in
    let all : (k : ℕ) → k < i + 1 → P k = below_more P i (λ k hi lo w is to. before k lo hi w is to) last in
    λ k lo hi w is to. all k hi lo w is to

-- ---- items taken in turn
pub found_in_turn : (r : Option Spot) (vs ws : List InputView) (next then : ℕ) → IfSome r (λ s. IsFirst vs next s) → IfSome r (λ s. Looked vs ws) → IfSome r (λ s. then ≡ s.place + 1) → IfSome r (λ s. FoundInTurn (record { inputs = vs; next = next }) (record { inputs = ws; next = then }) s)
found_in_turn (Some s) vs ws next then first looked moved = record { first = first; sees = looked; next = moved }
found_in_turn None vs ws next then first looked moved = tt

in_turns_on : (m n : ℕ) (a b c : Turns) → TookInTurns m a b → TookInTurns n b c → TookInTurns (m + n) a c
in_turns_on zero n a b c f g = let same : n ≡ 0 + n = omega arith in subst (λ (k : ℕ). TookInTurns k a c) same (subst (λ (t : Turns). TookInTurns n t c) f g)
in_turns_on (suc m) n a b c f g =
    let same : suc (m + n) ≡ suc m + n = omega arith in
    subst (λ (k : ℕ). TookInTurns k a c) same (f.0, f.1, in_turns_on m n f.0 b c f.2 g)

module _ {P : Type 0} where
  pub fair_none : (a b : Tasklet P) → turns_of b ≡ turns_of a → TookFairly a b
  fair_none a b same = record { count = 0; took = same }

  pub fair_trans : (a b c : Tasklet P) → TookFairly a b → TookFairly b c → TookFairly a c
  fair_trans a b c f g = record { count = f.count + g.count; took = in_turns_on f.count g.count (turns_of a) (turns_of b) (turns_of c) f.took g.took }

  -- nothing was taken
  pub same_turns : (a b : Tasklet P) → (turns_of b).inputs ≡ (turns_of a).inputs → b.next ≡ a.next → turns_of b ≡ turns_of a
  same_turns a b ins next = ap (λ (vs : List InputView). let t : Turns = record { inputs = vs; next = b.next } in t) ins ∙ ap (λ (n : ℕ). let t : Turns = record { inputs = (turns_of a).inputs; next = n } in t) next

  -- an item was found, and taken
  pub fair_one : (a b c : Tasklet P) (s : Spot) → FoundInTurn (turns_of a) (turns_of b) s → IsNext (turns_of b).inputs s → (x : Item) × TookAt (turns_of b).inputs (turns_of c).inputs s x → c.next ≡ b.next → TookFairly a c
  fair_one a b c s found may took next = record {
    count = 1;
    took = (turns_of c, record { spot = s; item = took.0; seen = turns_of b; found = found; may = may; took = took.1; next = next }, refl);
  }

  pub fair_worked : (a b : Tasklet P) → Worked a b → TookFairly a b
  fair_worked a b w = fair_none a b (same_turns a b w.inputs w.next)

  -- a turn: items were given out, others were taken, the finish may have been begun, and calls were made
  pub fair_given : (o a b : Tasklet P) → a.inputs ≡ o.inputs → a.next ≡ o.next → TookFairly a b → TookFairly o b
  fair_given o a b ins next took = fair_trans o a b (fair_none o a (same_turns o a (ap (λ (v : Vec Input Global). inputs_view v.items) ins) next)) took

  pub fair_turn : (o a b c d : Tasklet P) → a.inputs ≡ o.inputs → a.next ≡ o.next → TookFairly a b → BeginsFinish b c → Worked c d → TookFairly o d
  fair_turn o a b c d ins next took begun worked =
      let same : turns_of c ≡ turns_of b = elim begun [ inl is ↦ ap turns_of is | inr stays ↦ ap turns_of stays.0 ] in
      fair_trans o b d (fair_given o a b ins next took) (fair_trans b c d (fair_none b c same) (fair_worked c d worked))
