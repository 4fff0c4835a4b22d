use Rattle.std.proofs.Common.{Some}
use Rattle.jet_lines.specs.Quick.{HasNumber, IsAtFront}
use Rattle.jet_lines.proofs.QuickLemmas.{event_holds, kept}
use Rattle.jet_lines.proofs.quick.quick_event.Goals as goal

pub returns : goal.returns
returns g c =
    let line = c.args.line.now in
    let rest = c.in_ok-after.field-0.now in
    let more = c.in_ok-after-2.field-0.now in
    let text = c.in_ok-key_text.key_text.now in
    let time : HasNumber c.in_ok-ts.ts line (Some rest) = rw (c.in_ok-after.was) at c.in_ok-ts.ensures.front in
    let key : IsAtFront text rest (Some more) = rw (c.in_ok-after-2.was) at c.in_ok-key_text.ensures in
    rw (kept c.in_ok-ts.ts c.in_ok-ts.ensures.range)
    (event_holds c.args.part c.args.number line rest text more c.in_ok-ts.ts c.in_ok-key.key c.in_ok-v.v c.if-line-gt-MOST_BYTES.false time c.in_ok-key.ensures key c.in_ok-v.ensures.values)
