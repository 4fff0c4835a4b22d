use Rattle.std.proofs.Common.{◌≡◌}
use Rattle.jet_lines.specs.Lines.{lines_of}
use Rattle.jet_lines.specs.Readings.{event_line, idle_line}
use Rattle.jet_lines.proofs.EntryLemmas.{event_place}
use Rattle.jet_lines.proofs.PlaceLemmas.{all_found, from_line, rise, apart, same_bad, event_at_line, note_at_line}
use Rattle.jet_lines.proofs.laws.lines_of_a_file_rise.Goals as goal

pub returns-clause-part : goal.returns-clause-part
returns-clause-part c part most bytes = all_found (λ e. e.part ≡ part) (event_line part) most (λ n line e h. (event_place part n line e h).0) 1 (lines_of bytes)

pub returns-clause-events_from_one : goal.returns-clause-events_from_one
returns-clause-events_from_one c part most bytes = from_line (event_line part) most (λ e. e.line) (event_at_line part) 1 (lines_of bytes)

pub returns-clause-events_rise : goal.returns-clause-events_rise
returns-clause-events_rise c part most bytes = rise (event_line part) most (λ e. e.line) (event_at_line part) 1 (lines_of bytes)

pub returns-clause-idles_from_one : goal.returns-clause-idles_from_one
returns-clause-idles_from_one c most bytes = from_line idle_line most (λ m. m) note_at_line 1 (lines_of bytes)

pub returns-clause-idles_rise : goal.returns-clause-idles_rise
returns-clause-idles_rise c most bytes = rise idle_line most (λ m. m) note_at_line 1 (lines_of bytes)

pub returns-clause-apart : goal.returns-clause-apart
returns-clause-apart c part most bytes = apart part most 1 (lines_of bytes)

pub returns-clause-same_end : goal.returns-clause-same_end
returns-clause-same_end c part most bytes = same_bad part most bytes
