use Rattle.jet_coordinator.proofs.BeginLemmas.{if_ok_then}
use Rattle.jet_coordinator.proofs.beginning.feeds_for.Goals as goal

pub returns-clause-fed : goal.returns-clause-fed
returns-clause-fed c =
    if_ok_then c.feeds_of.result c.feeds_of.ensures.fed (λ feeds h check told txs is there long none.
    let limits = c.limits_of.ensures.checks check is in h check told txs limits.0 limits.1 there long none)
