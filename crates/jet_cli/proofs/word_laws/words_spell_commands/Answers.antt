use Rattle.jet_cli.proofs.ReadSpellings.{read_is_spelled}
use Rattle.jet_cli.proofs.SpellingLemmas.{spelled_is_read}
use Rattle.jet_cli.proofs.word_laws.words_spell_commands.Goals as goal

pub returns : goal.returns
returns c = λ words command. (read_is_spelled words command, spelled_is_read words command)
