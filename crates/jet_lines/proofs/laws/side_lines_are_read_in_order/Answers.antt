use Rattle.jet_lines.proofs.FileLemmas.{all_items, faults_behind, length_readings, no_faults, readings_append}
use Rattle.jet_lines.specs.Readings.{side_line}
use Rattle.jet_lines.proofs.laws.side_lines_are_read_in_order.Goals as goal

pub returns-clause-apart : goal.returns-clause-apart
returns-clause-apart c most given line others = readings_append side_line most given line others

pub returns-clause-count : goal.returns-clause-count
returns-clause-count c most lines = length_readings side_line most lines

pub returns-clause-good : goal.returns-clause-good
returns-clause-good c good h = all_items good h

pub returns-clause-no_fault : goal.returns-clause-no_fault
returns-clause-no_fault c n good h = no_faults n good h

pub returns-clause-first_fault : goal.returns-clause-first_fault
returns-clause-first_fault c n good later fault h = faults_behind n good later fault h
