use Rattle.std.proofs.Common.{map, sym, ◌∙◌, subst, ℤ}
use Rattle.std.specs.Prelude.{Option, ◌≤ℤ◌}
use Rattle.std.specs.Option.{IsSomeAnd}
use Rattle.jet_coalescer.specs.Low.{known}
use Rattle.jet_coalescer.proofs.Bound.{present_is_least, present_reaches}
use Rattle.jet_coalescer.proofs.Rising.{some_left}
use Rattle.jet_coalescer.proofs.Told.{low-known}
use Rattle.jet_coalescer.proofs.laws.low_is_least.Goals as goal

pub returns-clause-least : goal.returns-clause-least
returns-clause-least c = λ told t is. present_is_least (map known told) t (sym (low-known told) ∙ is)

pub returns-clause-reaches : goal.returns-clause-reaches
returns-clause-reaches c = λ told s left all.
    let there = some_left told left in
    subst (λ (o : Option ℤ). IsSomeAnd o (λ t. s ≤ℤ t)) (sym (low-known told)) (present_reaches (map known told) s there.q there.queue all there.is there.counted)
