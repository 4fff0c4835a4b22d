use Rattle.jet_boxes.specs.Entry.{Given}
use Rattle.jet_join.specs.inner.Histories.{IsAmid}
use Rattle.jet_join.proofs.tests.take.Given as goal

abbrev pub invariant-loop : goal.invariant-loop
invariant-loop l = IsAmid l.join (Given l.port 0 l.item)
