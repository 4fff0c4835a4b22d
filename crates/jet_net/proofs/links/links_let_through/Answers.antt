use Rattle.jet_net.proofs.LetThrough.{may_acknowledge, may_begin, may_push}
use Rattle.jet_net.proofs.links.links_let_through.Goals as goal

pub returns-clause-acknowledges : goal.returns-clause-acknowledges
returns-clause-acknowledges c = may_acknowledge

pub returns-clause-begins : goal.returns-clause-begins
returns-clause-begins c = may_begin

pub returns-clause-pushes : goal.returns-clause-pushes
returns-clause-pushes c = may_push
