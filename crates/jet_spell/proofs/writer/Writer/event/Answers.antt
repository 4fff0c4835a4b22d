use Rattle.std.proofs.Common.{◌≡◌, ◌++◌, rules}
use Rattle.std.specs.Int.{w16, w32, w64, to_be_bytes}
use Rattle.jet_spell.specs.Spelling.{signed_bytes, key_bytes, values_bytes}
use Rattle.jet_spell.proofs.Appends.{five}
use Rattle.jet_spell.proofs.writer.Writer.event.Goals as goal

pub returns : goal.returns
returns c =
    let part : c.put.new.self ≡ c.args.self.now ++ to_be_bytes w16 c.args.event.now.part = search rules in
    let line : c.put-2.new.self ≡ c.put.new.self ++ to_be_bytes w32 c.args.event.now.line = search rules in
    let ts : c.i64.new.self ≡ c.put-2.new.self ++ signed_bytes w64 c.args.event.now.ts = search rules in
    let key : c.key.new.self ≡ c.i64.new.self ++ key_bytes c.args.event.now.key = search rules in
    let v : c.values.new.self ≡ c.key.new.self ++ values_bytes c.args.event.now.v = search rules in
    five c.args.self.now _ _ _ _ _ part line ts key v
