use Rattle.std.proofs.Common.{rules}
use Rattle.std.specs.Prelude.{string_bytes}
use Rattle.std.proofs.lemmas.List.{nil_from_length}
use Rattle.std.proofs.lemmas.Option.{MatchOption-at_none}
use Rattle.jet_cli.proofs.PartLemmas.{none_left, operand_first}
use Rattle.jet_cli.proofs.parts.Parts.next.Goals as goal

pub returns-in_err-word : goal.returns-in_err-word
returns-in_err-word c =
    let none = nil_from_length c.args.self.now.marked.now (MatchOption-at_none _ _ c.in_default.is c.split_first.ensures.cases) in
    let no_more = nil_from_length c.args.self.now.operands.now (search rules) in
    rw c.from_residual.ensures (none_left string_bytes c.args.self.now.marked.now c.args.self.now.operands.now none no_more)

pub returns : goal.returns
returns c =
    let none = nil_from_length c.args.self.now.marked.now (MatchOption-at_none _ _ c.in_default.is c.split_first.ensures.cases) in
    operand_first string_bytes c.args.self.now.marked.now c.args.self.now.operands.now c.in_ok-word.rest.now c.in_ok-word.word.now c.deref-2.result.now none c.in_ok-word.ensures.cases c.deref-2.ensures
