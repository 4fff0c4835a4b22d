use Rattle.std.proofs.Common.{◌+◌, List, sym, subst, take, arith}
use Rattle.std.proofs.lemmas.List.{take_rest}
use Rattle.jet_items.specs.declared.item.Item.{Item}
use Rattle.jet_spell.specs.Begins.{BeginsWith}
use Rattle.jet_spell.specs.Packets.{AreSpelled}
use Rattle.jet_spell.proofs.Longest.{one_read}
use Rattle.jet_spell.proofs.packet.whole_items.Goals as goal

pub loop-item-smaller : goal.loop-item-smaller
loop-item-smaller c =
    let begins = subst (BeginsWith c.in-Some.item c.in-Some.len) (take_rest c.args.bytes.now c.loop-item.at) c.in-Some.ensures.spelled in
    let more = one_read c.loop-item.items.items c.args.bytes.now c.loop-item.at c.in-Some.len c.in-Some.item c.loop-item.invariant.0 c.loop-item.invariant.1 begins in
    omega (arith, more.some, more.within)

pub loop-item-preserved : goal.loop-item-preserved
loop-item-preserved c =
    let begins = subst (BeginsWith c.in-Some.item c.in-Some.len) (take_rest c.args.bytes.now c.loop-item.at) c.in-Some.ensures.spelled in
    let more = one_read c.loop-item.items.items c.args.bytes.now c.loop-item.at c.in-Some.len c.in-Some.item c.loop-item.invariant.0 c.loop-item.invariant.1 begins in
    (more.within, subst (λ (items : List Item). AreSpelled items (take (c.loop-item.at + c.in-Some.len) c.args.bytes.now)) (sym c.in_ok-push.ensures.items) more.spelled)
