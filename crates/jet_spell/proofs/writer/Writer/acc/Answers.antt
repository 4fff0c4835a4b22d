use Rattle.std.proofs.Common.{◌≡◌, ◌++◌, rules}
use Rattle.std.specs.Int.{w64, w128, to_be_bytes}
use Rattle.jet_spell.specs.Spelling.{signed_bytes}
use Rattle.jet_spell.proofs.Appends.{four}
use Rattle.jet_spell.proofs.writer.Writer.acc.Goals as goal

pub returns : goal.returns
returns c =
    let count : c.put.new.self ≡ c.args.self.now ++ to_be_bytes w64 c.args.acc.now.count = search rules in
    let sum : c.i128.new.self ≡ c.put.new.self ++ signed_bytes w128 c.args.acc.now.sum = search rules in
    let min : c.i64.new.self ≡ c.i128.new.self ++ signed_bytes w64 c.args.acc.now.min = search rules in
    let max : c.i64-2.new.self ≡ c.i64.new.self ++ signed_bytes w64 c.args.acc.now.max = search rules in
    four c.args.self.now _ _ _ _ count sum min max
