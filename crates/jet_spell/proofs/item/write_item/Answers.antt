use Rattle.std.proofs.Common.{◌∙◌}
use Rattle.jet_spell.proofs.Lists.{kept}
use Rattle.jet_spell.proofs.item.write_item.Goals as goal

pub returns-clause-list : goal.returns-clause-list
returns-clause-list c =
    kept c.push.result c.args.buf.now c.push.new.self c.args.item.now c.bytes.result.now (c.bytes.ensures ∙ c.spelling.ensures) c.fits.ensures c.push.ensures.pushed c.push.ensures.full
