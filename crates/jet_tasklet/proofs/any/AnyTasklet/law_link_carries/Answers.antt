use Rattle.jet_tasklet.proofs.Carrying.{CarriesFront, CarriesPassed, CarriesLast, CarriesDone, CarriesAll, CarriesEnd, EndsLater, of_ends, front_carried, passed_carried, last_carried, done_carried, all_carried, end_carried, ends_later}
use Rattle.jet_tasklet.proofs.any.AnyTasklet.law_link_carries.Goals as goal

pub returns-clause-front : goal.returns-clause-front
returns-clause-front c = of_ends CarriesFront c.in-Send.is c.in-Receive.is (front_carried c.in-Send.from c.in-Receive.to c.receivers_give_what_was_sent.ensures.front)

pub returns-clause-passed : goal.returns-clause-passed
returns-clause-passed c = of_ends CarriesPassed c.in-Send.is c.in-Receive.is (passed_carried c.in-Send.from c.in-Receive.to c.receivers_give_what_was_sent.ensures.front)

pub returns-clause-last : goal.returns-clause-last
returns-clause-last c = of_ends CarriesLast c.in-Send.is c.in-Receive.is (last_carried c.in-Send.from c.in-Receive.to c.links_end.ensures.last)

pub returns-clause-done : goal.returns-clause-done
returns-clause-done c = of_ends CarriesDone c.in-Send.is c.in-Receive.is (done_carried c.in-Send.from c.in-Receive.to c.links_end.ensures.last)

pub returns-clause-all : goal.returns-clause-all
returns-clause-all c = of_ends CarriesAll c.in-Send.is c.in-Receive.is (all_carried c.in-Send.from c.in-Receive.to c.links_end.ensures.over)

pub returns-clause-ended : goal.returns-clause-ended
returns-clause-ended c = of_ends CarriesEnd c.in-Send.is c.in-Receive.is (end_carried c.in-Send.from c.in-Receive.to c.links_end.ensures.last)

pub returns-clause-after : goal.returns-clause-after
returns-clause-after c = of_ends EndsLater c.in-Send.is c.in-Receive.is (ends_later c.in-Send.from c.in-Receive.to c.links_end.ensures.receiver)
