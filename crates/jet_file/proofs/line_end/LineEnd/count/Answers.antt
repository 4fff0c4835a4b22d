use Rattle.std.proofs.Common.{ℕ, arith, ap, length, length-append, length-drop}
use Rattle.jet_file.proofs.LineEndLemmas.{few_digits, room}
use Rattle.jet_file.proofs.line_end.LineEnd.count.Goals as goal

pub write_digits-self-inside-requires : goal.write_digits-self-inside-requires
write_digits-self-inside-requires c =
    let free = room c.self.inside.at c.self.inside.bytes c.byte.new.self c.self.view_is c.self.invariant.1 c.self.invariant.0 in
    let digits = few_digits c.args.n (omega arith) in
    (omega (arith, ap length c.byte.ensures, free, digits), omega arith)

pub returns-clause-length : goal.returns-clause-length
returns-clause-length c =
    let free = room c.self.inside.at c.self.inside.bytes c.byte.new.self c.self.view_is c.self.invariant.1 c.self.invariant.0 in
    let digits = few_digits c.args.n (omega arith) in
    omega (arith, ap length c.byte.ensures, free, digits, ap length c.write_digits-self-inside.ensures.written, length-append {A = ℕ}, length-drop c.self.inside.at c.self.inside.bytes)
