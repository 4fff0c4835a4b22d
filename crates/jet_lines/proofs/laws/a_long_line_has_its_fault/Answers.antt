use Rattle.jet_lines.proofs.EntryLemmas.{long_event, long_line}
use Rattle.jet_lines.specs.Readings.{side_at}
use Rattle.jet_lines.proofs.laws.a_long_line_has_its_fault.Goals as goal

pub returns-clause-events : goal.returns-clause-events
returns-clause-events c part number line long = long_event part number line long

pub returns-clause-sides : goal.returns-clause-sides
returns-clause-sides c number line long = long_line (side_at number) line long
