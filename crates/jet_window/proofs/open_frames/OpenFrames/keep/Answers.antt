use Rattle.std.proofs.Common.{rules, ◌≡◌, sym, FitsSigned, to_z-of_z, w64}
use Rattle.jet_window.specs.Tables.{Place}
use Rattle.jet_window.proofs.Opening.{joined_there, joined_new, kept_joined}
use Rattle.jet_window.proofs.open_frames.OpenFrames.keep.Goals as goal

pub invariant_of-self : goal.invariant_of-self
invariant_of-self c =
    let fits : FitsSigned w64 c.args.end = c.ranges.end in
    let k : Place = (c.args.end, c.args.key.now) in
    let there = simp to_z-of_z at c.in-Some.ensures.value in
    let set = simp to_z-of_z at (c.get_mut.follows.holds c.join.result).0 in
    kept_joined k c.args.acc.now c.self.inside.accs.entries _ c.self.invariant c.requires (joined_there k c.in-Some.held.now c.args.acc.now c.join.result c.self.inside.accs.entries _ c.self.invariant there c.join.ensures set)

pub returns-in-Some-clause-ok : goal.returns-in-Some-clause-ok
returns-in-Some-clause-ok c =
    let fits : FitsSigned w64 c.args.end = c.ranges.end in
    let k : Place = (c.args.end, c.args.key.now) in
    let there = simp to_z-of_z at c.in-Some.ensures.value in
    let set = simp to_z-of_z at (c.get_mut.follows.holds c.join.result).0 in
    rw (← c.self.view_is) (joined_there k c.in-Some.held.now c.args.acc.now c.join.result c.self.inside.accs.entries _ c.self.invariant there c.join.ensures set)

pub invariant_of-self-in-None : goal.invariant_of-self-in-None
invariant_of-self-in-None c =
    let fits : FitsSigned w64 c.args.end = c.ranges.end in
    let k : Place = (c.args.end, c.args.key.now) in
    let same : c.get_mut.follows.lender-at-none.entries ≡ c.self.inside.accs.entries = search rules in
    let none = simp to_z-of_z at c.in-None.ensures.value in
    let entries = simp to_z-of_z at c.in_ok-insert-in-None.ensures.entries in
    kept_joined k c.args.acc.now c.self.inside.accs.entries _ c.self.invariant c.requires (joined_new k c.args.acc.now c.self.inside.accs.entries _ (sym none) (rw same at entries))

pub returns-in_ok-insert-in-None-clause-ok : goal.returns-in_ok-insert-in-None-clause-ok
returns-in_ok-insert-in-None-clause-ok c =
    let fits : FitsSigned w64 c.args.end = c.ranges.end in
    let k : Place = (c.args.end, c.args.key.now) in
    let same : c.get_mut.follows.lender-at-none.entries ≡ c.self.inside.accs.entries = search rules in
    let none = simp to_z-of_z at c.in-None.ensures.value in
    let entries = simp to_z-of_z at c.in_ok-insert-in-None.ensures.entries in
    rw (← c.self.view_is) (joined_new k c.args.acc.now c.self.inside.accs.entries _ (sym none) (rw same at entries))
