use Rattle.jet_lines.proofs.CsvLemmas.{csv_reads_line}
use Rattle.jet_lines.proofs.laws.csv_reads_the_fields.Goals as goal

pub returns : goal.returns
returns c line fields some good form = csv_reads_line line fields some good form
