use Rattle.std.proofs.Common.{take, arith, refl}
use Rattle.jet_lines.proofs.HeldLemmas.{held_moves, line_stays, put_in, rest_grows}
use Rattle.jet_lines.proofs.lines.Lines.append.Goals as goal

pub invariant_of-self : goal.invariant_of-self
invariant_of-self c =
    let s = c.self.inside in
    let call = c.put_behind-gone in
    let lent = c.deref_mut in
    let put = put_in s.held.items lent.result.now call.new.held c.args.piece.now s.held.len s.len call.result lent.ensures.value (omega (arith, lent.ensures.len)) call.ensures.length call.ensures.bytes in
    rw (put.same, put.bytes)
    (omega (arith, call.ensures.fits, call.ensures.length), held_moves (take s.len s.held.items) c.args.piece.now call.result s.from s.to s.at s.clear s.number s.most call.ensures.went c.self.invariant.1)

pub returns : goal.returns
returns c =
    let s = c.self.inside in
    let call = c.put_behind-gone in
    let lent = c.deref_mut in
    let put = put_in s.held.items lent.result.now call.new.held c.args.piece.now s.held.len s.len call.result lent.ensures.value (omega (arith, lent.ensures.len)) call.ensures.length call.ensures.bytes in
    let held = c.self.invariant.1 in
    let line = line_stays (take s.len s.held.items) c.args.piece.now call.result s.from s.to call.ensures.went held.from_to (omega (arith, held.to_at, held.within)) in
    let rest = rest_grows (take s.len s.held.items) c.args.piece.now call.result s.at (omega (arith, call.ensures.went, held.from_to, held.to_at)) (omega (arith, held.within)) in
    rw (← c.self.view_is) (rw (put.same, put.bytes, line, rest, put.count) refl)
