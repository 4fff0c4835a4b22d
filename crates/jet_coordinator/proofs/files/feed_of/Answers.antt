use Rattle.std.proofs.Common.{rules, ◌∙◌, ap, sym}
use Rattle.jet_flow.specs.DataFiles.{SourceFile, SideFile}
use Rattle.jet_worker.specs.Opening.{file_in, opened_in}
use Rattle.jet_coordinator.proofs.ReadLemmas.{starts_there, starts_untold}
use Rattle.jet_coordinator.proofs.files.feed_of.Goals as goal

pub returns-in-Source-clause-fed : goal.returns-in-Source-clause-fed
returns-in-Source-clause-fed c = λ check told most unit there.
    starts_there check _ (opened_in c.args.file.now) told c.source.result (ap (SourceFile c.in-Source.name.now) (search rules) ∙ ap file_in (sym c.in-Source.is))
    (λ content t left. c.source.ensures.fed check c.in-Source.name.now content t most (search rules) left) there

pub returns-in-Source-clause-untold : goal.returns-in-Source-clause-untold
returns-in-Source-clause-untold c = λ check most unit.
    starts_untold check _ (opened_in c.args.file.now) c.source.result (ap (SourceFile c.in-Source.name.now) (search rules) ∙ ap file_in (sym c.in-Source.is))
    (λ content t left. c.source.ensures.fed check c.in-Source.name.now content t most (search rules) left)

pub returns-in-Side-clause-fed : goal.returns-in-Side-clause-fed
returns-in-Side-clause-fed c = λ check told most unit there.
    starts_there check (SideFile c.in-Side.name.now) (opened_in c.args.file.now) told c.side.result (ap file_in (sym c.in-Side.is))
    (λ content t left. c.side.ensures.fed check c.in-Side.name.now content t most left) there

pub returns-in-Side-clause-untold : goal.returns-in-Side-clause-untold
returns-in-Side-clause-untold c = λ check most unit.
    starts_untold check (SideFile c.in-Side.name.now) (opened_in c.args.file.now) c.side.result (ap file_in (sym c.in-Side.is))
    (λ content t left. c.side.ensures.fed check c.in-Side.name.now content t most left)
