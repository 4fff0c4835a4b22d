use Rattle.std.specs.Prelude.{string_bytes}
use Rattle.std.proofs.lemmas.List.{nil_from_length}
use Rattle.std.proofs.lemmas.Option.{MatchOption-at_none}
use Rattle.jet_cli.specs.inner.PartsView.{part_in}
use Rattle.jet_cli.proofs.PartLemmas.{last_alone, takes_next, takes_none}
use Rattle.jet_cli.proofs.parts.first_part.Goals as goal

pub returns-in_default : goal.returns-in_default
returns-in_default c =
    let none = nil_from_length c.args.rest.now (MatchOption-at_none _ _ c.in_default.is c.split_first.ensures.cases) in
    last_alone string_bytes c.args.word.now c.args.rest.now (part_in c.alone.result) none c.alone.ensures

pub returns-then-takes : goal.returns-then-takes
returns-then-takes c =
    takes_next string_bytes c.args.word.now c.deref.result.now c.deref-then-takes.result.now c.args.rest.now c.in-Some.behind.now c.in-Some.next.now c.in-Some.ensures.cases
    c.deref.ensures c.deref-then-takes.ensures c.if-takes.ensures

pub returns-else-takes : goal.returns-else-takes
returns-else-takes c =
    takes_none string_bytes c.args.word.now c.deref.result.now c.args.rest.now c.in-Some.behind.now c.in-Some.next.now (part_in c.alone-else-takes.result) c.in-Some.ensures.cases
    c.deref.ensures c.if-takes.ensures c.alone-else-takes.ensures
