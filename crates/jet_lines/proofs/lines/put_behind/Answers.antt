use Rattle.std.proofs.Common.{◌+◌, ◌-◌, ◌∙◌, ap, length, arith}
use Rattle.std.proofs.lemmas.Slice.{take-put_mid}
use Rattle.jet_lines.proofs.HeldLemmas.{moved_and_put}
use Rattle.jet_lines.proofs.lines.put_behind.Goals as goal

pub returns-clause-bytes : goal.returns-clause-bytes
returns-clause-bytes c =
    let keep = c.args.len - c.args.done in
    let put = c.copy_from_slice-2 in
    let count = ap length put.ensures.after in
    take-put_mid keep _ c.copy_within.new.self put.new.self (keep + length c.args.piece.now) (omega (arith, count)) (omega (arith, c.copy_within.ensures.len))
    ∙ moved_and_put c.args.held.now c.copy_within.new.self c.args.piece.now put.new.self c.args.done c.args.len
    (omega arith) (omega arith) c.copy_within.ensures.after put.ensures.after
