use Rattle.std.proofs.Common.{List, ℕ, ℤ, ◌++◌, ap, ◌∙◌, to_z-of_z}
use Rattle.std.specs.Int.{w128}
use Rattle.jet_spell.specs.Spelling.{signed_bytes}
use Rattle.jet_spell.proofs.writer.Writer.i128.Goals as goal

pub returns : goal.returns
returns c =
    c.put.ensures
    ∙ ap (λ (b : List ℕ). c.args.self.now ++ b) (c.to_be_bytes.ensures ∙ ap (λ (z : ℤ). signed_bytes w128 z) (to_z-of_z c.ranges.value))
