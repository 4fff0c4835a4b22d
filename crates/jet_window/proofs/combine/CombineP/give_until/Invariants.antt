use Rattle.std.proofs.Common.{◌≡◌, Some}
use Rattle.jet_items.specs.Ranges.{IsWithin, most_row_end}
use Rattle.jet_window.specs.FrameTables.{IsKept}
use Rattle.jet_window.specs.Combining.{Clear, Passes}
use Rattle.jet_window.specs.inner.NextEnds.{gap}
use Rattle.jet_window.specs.CombineStands.{Gave}
use Rattle.jet_window.specs.CombineView.{combine_of, SameRest}
use Rattle.jet_window.proofs.combine.CombineP.give_until.Given as goal

abbrev pub invariant-loop-self : goal.invariant-loop-self
invariant-loop-self l = record {
  rest : SameRest l.initial.self l.self;
  gave : Gave (combine_of l.initial.self) l.initial.out.items (combine_of l.self) l.out.items;
  room : l.out.room ≡ l.initial.out.room;
  range : IsWithin most_row_end l.self.end;
  kept : IsKept l.self.held;
  bound : Passes l.initial.self.passed (Some l.t) → Passes l.self.passed (Some l.t);
  clear : Clear l.initial.self.policy.size l.initial.self.policy.slide l.initial.self.passed l.initial.self.held l.t → Clear l.self.policy.size l.self.policy.slide l.self.passed l.self.held l.t;
}

abbrev pub decreases-loop-self : goal.decreases-loop-self
decreases-loop-self l = gap l.self.passed
