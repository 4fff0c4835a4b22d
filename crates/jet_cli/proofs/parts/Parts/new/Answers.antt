use Rattle.std.specs.Prelude.{string_bytes}
use Rattle.jet_cli.proofs.PartLemmas.{cut_at, cut_nowhere}
use Rattle.jet_cli.proofs.parts.Parts.new.Goals as goal

pub returns-in-Some : goal.returns-in-Some
returns-in-Some c = cut_at string_bytes c.args.words.now c.in-Some.at c.in-Some.ensures.place

pub returns-in-None : goal.returns-in-None
returns-in-None c = cut_nowhere string_bytes c.args.words.now c.in-None.ensures.place
