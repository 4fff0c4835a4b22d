use Rattle.std.proofs.Common.{Some}
use Rattle.jet_lines.specs.Quick.{IsAtFront}
use Rattle.jet_lines.proofs.QuickLemmas.{side_holds}
use Rattle.jet_lines.proofs.quick.quick_side.Goals as goal

pub returns : goal.returns
returns g c =
    let line = c.args.line.now in
    let rest = c.in_ok-after.field-0.now in
    let text = c.in_ok-key_text.key_text.now in
    let name = c.in_ok-label_text.label_text.now in
    let key : IsAtFront text line (Some rest) = rw (c.in_ok-after.was) at c.in_ok-key_text.ensures in
    side_holds c.args.number line text rest name _ c.in_ok-key.key c.in_ok-label.label c.in_ok-v.v
    c.if-line-gt-MOST_BYTES.false c.in_ok-key.ensures key c.in_ok-label.ensures c.in_ok-label_text.ensures c.in_ok-v.ensures.values
