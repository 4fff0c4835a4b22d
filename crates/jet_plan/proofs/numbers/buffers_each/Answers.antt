-- The bytes of all buffers.
use Rattle.std.proofs.Common.{◌≡◌, ℕ, ◌*◌, ◌/◌, ◌≤◌, subst, sym}
use Rattle.jet_plan.proofs.Fitting.{taken_fit, four_fit, least_of_three}
use Rattle.jet_plan.proofs.numbers.buffers_each.Goals as goal

pub returns-clause-memory : goal.returns-clause-memory
returns-clause-memory c =
    let a = c.args in
    let n = a.links * a.packet in
    let fits = least_of_three _ (1073741824 / n) _ _ c.min-2.ensures c.min.ensures in
    subst (λ (b : ℕ). n * b ≤ 1073741824) (sym c.max.ensures)
    (taken_fit n c.min-2.result 1073741824 fits (four_fit a.links a.packet c.requires.links.1 c.requires.packet.1))
