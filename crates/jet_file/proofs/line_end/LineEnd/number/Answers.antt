use Rattle.std.proofs.Common.{ℕ, arith, ap, length, length-append}
use Rattle.jet_file.proofs.LineEndLemmas.{fewer_digits}
use Rattle.jet_file.proofs.line_end.LineEnd.number.Goals as goal

pub byte-requires : goal.byte-requires
byte-requires c =
    let digits = fewer_digits c.unsigned_abs.result c.unsigned_abs.ensures.bound in
    omega (arith, digits, ap length c.count.ensures.line, length-append {A = ℕ})

pub returns-then-n-lt0-clause-length : goal.returns-then-n-lt0-clause-length
returns-then-n-lt0-clause-length c =
    let digits = fewer_digits c.unsigned_abs.result c.unsigned_abs.ensures.bound in
    omega (arith, digits, ap length c.byte.ensures, ap length c.count.ensures.line, length-append {A = ℕ})
