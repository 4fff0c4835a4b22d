use Rattle.jet_cli.proofs.lower_laws.laws_of_lines.Goals as goal

pub returns : goal.returns
returns c = record {
  line = c.an_event_has_its_place.ensures.line;
  long = c.a_long_line_has_its_fault.ensures.events;
  more = c.a_good_line_more.ensures.events;
  bad = c.the_first_bad_line.ensures.events;
  many = c.one_line_too_many.ensures.events;
  all = c.all_lines_are_good.ensures.events;
  whole = c.given_lines_are_whole.ensures.all;
}
