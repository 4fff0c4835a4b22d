use Rattle.jet_file.proofs.ReadLemmas.{read_whole}
use Rattle.jet_file.proofs.laws.a_file_is_read_whole.Goals as goal

pub returns-clause-content : goal.returns-clause-content
returns-clause-content c name content bytes file old opened now is o h = (read_whole name content bytes file old opened now is o h).0

pub returns-clause-place : goal.returns-clause-place
returns-clause-place c name content bytes file old opened now is o h = (read_whole name content bytes file old opened now is o h).1
