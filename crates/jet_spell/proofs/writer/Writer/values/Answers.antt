use Rattle.std.proofs.Common.{◌≡◌, ◌++◌, ◌∙◌, get_or, pos, arith, rules}
use Rattle.std.specs.Int.{w64}
use Rattle.jet_spell.specs.Spelling.{signed_bytes}
use Rattle.jet_spell.proofs.Lengths.{values_more}
use Rattle.jet_spell.proofs.writer.Writer.values.Goals as goal

pub loop-value-preserved : goal.loop-value-preserved
loop-value-preserved c =
    let written : c.i64.new.self ≡ c.loop-value.self ++ signed_bytes w64 (get_or c.args.values.now c.loop-value.value-index (pos 0)) = search rules in
    written ∙ values_more c.args.self.now c.loop-value.self c.args.values.now c.loop-value.value-index (pos 0) (omega arith) c.loop-value.invariant
