use Rattle.std.proofs.Common.{rules, ap, ◌∙◌}
use Rattle.jet_coalescer.specs.View.{View}
use Rattle.jet_coalescer.specs.inner.Counts.{left_count}
use Rattle.jet_coalescer.proofs.Bound.{holds_none_back, rises_to_least}
use Rattle.jet_coalescer.proofs.Counting.{none_left_then}
use Rattle.jet_coalescer.proofs.Rising.{told_done, heard_done, change_heard}
use Rattle.jet_coalescer.proofs.coalescer.Coalescer.done.Goals as goal

pub returns-clause-value : goal.returns-clause-value
returns-clause-value c = first_of (search rules, cc)

pub returns-clause-low : goal.returns-clause-low
returns-clause-low c = first_of (search rules, cc)

pub returns-clause-told : goal.returns-clause-told
returns-clause-told c = λ told h. told_done c.args.self.now _ told c.args.queue c.requires.exists (returns-clause-value c) (returns-clause-low c) h

pub returns-clause-answer : goal.returns-clause-answer
returns-clause-answer c =
    let none = none_left_then c.args.self.now _ c.self.inside.left c.args.queue c.requires.exists c.requires.open (c.self.invariant.1 ∙ ap (λ (v : View). left_count v.queues) c.self.view_is) (returns-clause-value c) in
    search (rules, none)

pub returns-clause-heard : goal.returns-clause-heard
returns-clause-heard c = λ told h. heard_done c.args.self.now _ told c.args.queue c.requires.exists c.requires.open (returns-clause-value c) (returns-clause-low c) h

pub returns-clause-change : goal.returns-clause-change
returns-clause-change c = λ told h. returns-clause-answer c ∙ change_heard c.args.self.now _ told c.args.queue c.requires.exists c.requires.open (returns-clause-value c) (returns-clause-low c) h

pub returns-clause-least : goal.returns-clause-least
returns-clause-least c = rises_to_least _ c.args.self.now.low (returns-clause-low c)

pub returns-clause-reaches : goal.returns-clause-reaches
returns-clause-reaches c = holds_none_back _ c.args.self.now.low (returns-clause-low c)
