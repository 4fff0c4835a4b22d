use Rattle.jet_file.proofs.ReadLemmas.{goes_end, goes_more, goes_start, read_end, read_more, read_start}
use Rattle.jet_file.proofs.laws.reads_go_on.Goals as goal

pub returns-clause-start : goal.returns-clause-start
returns-clause-start c file old = read_start file old

pub returns-clause-more : goal.returns-clause-more
returns-clause-more c file bytes buffer n old now next fits h r = read_more file bytes buffer n old now next fits h r

pub returns-clause-end : goal.returns-clause-end
returns-clause-end c file bytes buffer n old now next none h r = read_end file bytes buffer n old now next none h r

pub returns-clause-goes_start : goal.returns-clause-goes_start
returns-clause-goes_start c file old = goes_start file old

pub returns-clause-goes_more : goal.returns-clause-goes_more
returns-clause-goes_more c file bytes buffer n old now next fits h r = goes_more file bytes buffer n old now next fits h r

pub returns-clause-goes_end : goal.returns-clause-goes_end
returns-clause-goes_end c file bytes buffer n old now next none h r = goes_end file bytes buffer n old now next none h r
