use Rattle.std.proofs.Common.{string_bytes}
use Rattle.std.proofs.lemmas.Result.{IfOk-weaker}
use Rattle.jet_worker.proofs.TallyLemmas.{side_line_is}
use Rattle.jet_worker.proofs.tally.Tally.text.Goals as goal

pub returns-in-Side : goal.returns-in-Side
returns-in-Side c = IfOk-weaker c.text-in-Side.result _ _ (λ text is check file bytes h count.
    side_line_is c.laws_of_lines.ensures check c.args.part c.args.lines file bytes (string_bytes text) c.in-Side.tally c.args.self.now c.in-Side.is is h count) c.text-in-Side.ensures
