use Rattle.std.proofs.Common.{◌≡◌}
use Rattle.std.proofs.lemmas.List.Elements.{All-weaker}
use Rattle.jet_flow.specs.Contents.{contents_of, was_behind, behind_at}
use Rattle.jet_flow.specs.Flow.{flow}
use Rattle.jet_flow.specs.Places.{IsInItsFile}
use Rattle.jet_flow.proofs.Numbers.{stand_in_job}
use Rattle.jet_flow.proofs.Places.{in_files, behind_by_place}
use Rattle.jet_flow.proofs.laws.events_stand_in_their_files.Goals as goal

pub returns-clause-places : goal.returns-clause-places
returns-clause-places c = λ most bytes name. in_files most bytes c.args.dag.now (λ part content. c.lines_of_a_file_rise.ensures.part part most content) (stand_in_job c.args.dag.now) name

pub returns-clause-behind : goal.returns-clause-behind
returns-clause-behind c = λ grain most bytes name.
    All-weaker (IsInItsFile most bytes c.args.dag.now) (λ e. behind_at grain most bytes c.args.dag.now e.part e.line ≡ was_behind grain most bytes c.args.dag.now e)
    (behind_by_place grain most bytes c.args.dag.now (λ part content. c.lines_of_a_file_rise.ensures.events_rise part most content))
    (flow (contents_of most bytes c.args.dag.now) c.args.dag.now name)
    (in_files most bytes c.args.dag.now (λ part content. c.lines_of_a_file_rise.ensures.part part most content) (stand_in_job c.args.dag.now) name)
