use Rattle.jet_worker.proofs.laws.laws_of_lines.Goals as goal

pub returns : goal.returns
returns c = record {
  events = record {
    line = c.an_event_has_its_place.ensures.line;
    long = c.a_long_line_has_its_fault.ensures.events;
    fits = c.a_line_is_read_by_its_number.ensures.events;
    over = c.a_line_is_read_by_its_number.ensures.events_over;
    more = c.a_good_line_more.ensures.events;
    bad = c.the_first_bad_line.ensures.events;
    many = c.one_line_too_many.ensures.events;
    all = c.all_lines_are_good.ensures.events;
  };
  sides = record {
    long = c.a_long_line_has_its_fault.ensures.sides;
    fits = c.a_line_is_read_by_its_number.ensures.sides;
    over = c.a_line_is_read_by_its_number.ensures.sides_over;
    apart = c.side_lines_are_read_in_order.ensures.apart;
    count = c.side_lines_are_read_in_order.ensures.count;
    good = c.side_lines_are_read_in_order.ensures.good;
    no_fault = c.side_lines_are_read_in_order.ensures.no_fault;
    first_fault = c.side_lines_are_read_in_order.ensures.first_fault;
  };
  whole = c.given_lines_are_whole.ensures.all;
}
