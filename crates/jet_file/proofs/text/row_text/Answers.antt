use Rattle.std.proofs.Common.{FitsSigned, w64, to_z-of_z, decimal}
use Rattle.std.specs.Fmt.{signed_decimal}
use Rattle.jet_file.proofs.TextLemmas.{row_parts}
use Rattle.jet_file.proofs.text.row_text.Goals as goal

pub returns : goal.returns
returns c =
    let fits_start : FitsSigned w64 c.args.start = c.ranges.start in
    let fits_end : FitsSigned w64 c.args.end = c.ranges.end in
    let acc = c.args.acc.now in
    let end_is = simp to_z-of_z at c.number.ensures.line in
    let start_is = simp to_z-of_z at c.number-2.ensures.line in
    row_parts c.args.name.now (signed_decimal c.args.start) (signed_decimal c.args.end) c.args.key.now (decimal acc.count) (signed_decimal acc.sum) (signed_decimal acc.min) (signed_decimal acc.max)
    _ _ _ _ _ c.acc_text-line.ensures.line c.text.ensures.line end_is start_is c.text-2.ensures.line
