use Rattle.std.proofs.Common.{take, ◌∙◌}
use Rattle.jet_items.specs.KeyBytes.{padded_back}
use Rattle.jet_items.proofs.WordOrder.{padded_order}
use Rattle.jet_items.proofs.key.KeyOrd.cmp.Goals as goal

pub returns : goal.returns
returns c =
    let a = c.self.inside in
    let b = c.other.inside in
    let h = c.self.invariant in
    let i = c.other.invariant in
    rw (← c.self.view_is, ← c.other.view_is)
    (c.cmp_by_words.ensures ∙ padded_order a.padded b.padded (take a.len a.padded) (take b.len b.padded) h.3 i.3 (padded_back a.len a.padded h.0 h.1 h.2) (padded_back b.len b.padded i.0 i.1 i.2))
