use Rattle.std.proofs.Common.{rules, ◌∙◌}
use Rattle.jet_coalescer.proofs.Bound.{holds_none_back, rises_to_least}
use Rattle.jet_coalescer.proofs.Rising.{told_mark, heard_mark, risen_heard}
use Rattle.jet_coalescer.proofs.coalescer.Coalescer.observe.Goals as goal

pub returns-clause-value : goal.returns-clause-value
returns-clause-value c = first_of (search rules, cc)

pub returns-clause-low : goal.returns-clause-low
returns-clause-low c = first_of (search rules, cc)

pub returns-clause-told : goal.returns-clause-told
returns-clause-told c = λ told h. told_mark c.args.self.now _ told c.args.queue c.args.mark c.requires.exists (returns-clause-value c) (returns-clause-low c) h

pub returns-clause-answer : goal.returns-clause-answer
returns-clause-answer c = search rules

pub returns-clause-heard : goal.returns-clause-heard
returns-clause-heard c = λ told h. heard_mark c.args.self.now _ told c.args.queue c.args.mark c.requires.exists c.requires.open (returns-clause-value c) (returns-clause-low c) h

pub returns-clause-risen : goal.returns-clause-risen
returns-clause-risen c = λ told h. returns-clause-answer c ∙ risen_heard c.args.self.now _ told c.args.queue c.args.mark c.requires.exists c.requires.open (returns-clause-value c) (returns-clause-low c) h

pub returns-clause-least : goal.returns-clause-least
returns-clause-least c = rises_to_least _ c.args.self.now.low (returns-clause-low c)

pub returns-clause-reaches : goal.returns-clause-reaches
returns-clause-reaches c = holds_none_back _ c.args.self.now.low (returns-clause-low c)
