use Rattle.std.proofs.Common.{◌≡◌, ◌++◌, take}
use Rattle.jet_spell.specs.Spelling.{values_bytes}
use Rattle.jet_spell.proofs.writer.Writer.values.Given as goal

abbrev pub invariant-loop-value : goal.invariant-loop-value
invariant-loop-value l = l.self ≡ l.initial.self ++ values_bytes (take l.value-index l.values)
