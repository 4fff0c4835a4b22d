use Rattle.jet_lines.proofs.WholeLemmas.{whole_some, whole_none}
use Rattle.jet_lines.proofs.laws.whole_lines_end_with_a_line_feed.Goals as goal

pub returns-clause-some : goal.returns-clause-some
returns-clause-some c front rest none = whole_some front rest none

pub returns-clause-none : goal.returns-clause-none
returns-clause-none c rest none = whole_none rest none
