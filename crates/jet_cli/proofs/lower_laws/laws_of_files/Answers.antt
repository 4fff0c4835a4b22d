use Rattle.jet_cli.proofs.lower_laws.laws_of_files.Goals as goal

pub returns : goal.returns
returns c = record {
  opened = c.what_is_left_of_a_file.ensures.opened;
  more = c.reads_go_on.ensures.more;
  end = c.reads_go_on.ensures.end;
}
