use Rattle.jet_lines.proofs.WholeLemmas.{given_among, given_all}
use Rattle.jet_lines.proofs.laws.given_lines_are_whole.Goals as goal

pub returns-clause-among : goal.returns-clause-among
returns-clause-among c content rest given goes = given_among content rest given goes

pub returns-clause-all : goal.returns-clause-all
returns-clause-all c content rest given goes none = given_all content rest given goes none
