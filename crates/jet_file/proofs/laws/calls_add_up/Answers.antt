use Rattle.jet_file.proofs.PaceLaws.{taken_by-append, wrote_by-append}
use Rattle.jet_file.proofs.laws.calls_add_up.Goals as goal

pub returns-clause-taken : goal.returns-clause-taken
returns-clause-taken c file calls more = taken_by-append file calls more

pub returns-clause-wrote : goal.returns-clause-wrote
returns-clause-wrote c out calls more = wrote_by-append out calls more
