use Rattle.jet_lines.proofs.EntryLemmas.{event_place}
use Rattle.jet_lines.proofs.laws.an_event_has_its_place.Goals as goal

pub returns-clause-part : goal.returns-clause-part
returns-clause-part c part number line e h = (event_place part number line e h).0

pub returns-clause-line : goal.returns-clause-line
returns-clause-line c part number line e h = (event_place part number line e h).1
