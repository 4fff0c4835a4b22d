use Rattle.jet_file.proofs.ReadLemmas.{opened_rest, rest_next}
use Rattle.jet_file.proofs.laws.what_is_left_of_a_file.Goals as goal

pub returns-clause-opened : goal.returns-clause-opened
returns-clause-opened c name content file old now is o = opened_rest name content file old now is o

pub returns-clause-read : goal.returns-clause-read
returns-clause-read c file buffer n now next r = rest_next file buffer n now next r
