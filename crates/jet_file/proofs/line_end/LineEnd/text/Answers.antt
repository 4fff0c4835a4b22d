use Rattle.std.proofs.Common.{◌-◌, arith, ap, length}
use borrow.Rule.Slice.PartMut.{mid_len}
use Rattle.jet_file.proofs.LineEndLemmas.{room}
use Rattle.jet_file.proofs.line_end.LineEnd.text.Goals as goal

pub overflow_sub-self : goal.overflow_sub-self
overflow_sub-self c =
    let free = room c.self.inside.at c.self.inside.bytes c.byte.new.self c.self.view_is c.self.invariant.1 c.self.invariant.0 in
    omega (arith, ap length c.byte.ensures, free)

pub copy_from_slice-requires : goal.copy_from_slice-requires
copy_from_slice-requires c =
    let free = room c.self.inside.at c.self.inside.bytes c.byte.new.self c.self.view_is c.self.invariant.1 c.self.invariant.0 in
    let len = mid_len (c.self.inside.at - length c.args.text.now) c.self.inside.at c.self.inside.bytes (omega arith) in
    omega (arith, len, ap length c.byte.ensures, free)
