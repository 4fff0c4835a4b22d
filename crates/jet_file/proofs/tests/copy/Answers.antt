use Rattle.std.proofs.Common.{ℕ, Bool, ap, ◌∙◌}
use Rattle.jet_file.proofs.tests.copy.Goals as goal

pub read-requires-2-clause-opened : goal.read-requires-2-clause-opened
read-requires-2-clause-opened c =
    ap (λ (o : ℕ → Bool). o c.in_ok-file.file) (c.in_ok-write_all.ensures.opened ∙ c.in_ok-count.ensures.opened) ∙ c.in_ok-file.ensures.opened.added
