use Rattle.std.proofs.Common.{◌≡◌, ◌-◌, ◌≤◌, ℕ, List, Some, None, refl, sym, ap, ◌∙◌, length, drop}
use Rattle.std.proofs.Math.Facts.{Fits-lt-pow}
use Rattle.jet_spell.specs.Begins.{BeginsWith, BeginsNone}
use Rattle.jet_spell.specs.Reading.{item_at}
use Rattle.jet_spell.proofs.Items.{spelled_so, begins_with, begins_none}
use Rattle.jet_spell.proofs.Lengths.{bounds}
use Rattle.jet_spell.proofs.Lists.{goes_on}
use Rattle.jet_spell.proofs.item.read_item.Goals as goal

none : (c : goal.After-from_residual) → BeginsNone c.args.bytes.now
none c = begins_none c.args.bytes.now (ap item_at (sym c.new-reader.ensures) ∙ c.in_err-item.ensures)

pub returns-in_err-item-clause-none : goal.returns-in_err-item-clause-none
returns-in_err-item-clause-none c = rw c.from_residual.ensures (none c)

pub returns-in_err-item-clause-goes_on : goal.returns-in_err-item-clause-goes_on
returns-in_err-item-clause-goes_on c = rw c.from_residual.ensures (goes_on c.args.bytes.now None (none c))

read : (c : goal.After-left) → item_at c.args.bytes.now ≡ Some (c.in_ok-item.item, c.item.new.self)
read c = ap item_at (sym c.new-reader.ensures) ∙ c.in_ok-item.ensures

begins : (c : goal.After-left) → (c.left.result ≤ length c.args.bytes.now)
    × (drop (length c.args.bytes.now - c.left.result) c.args.bytes.now ≡ c.item.new.self)
    × BeginsWith c.in_ok-item.item (length c.args.bytes.now - c.left.result) c.args.bytes.now
begins c =
    let so = spelled_so c.args.bytes.now c.in_ok-item.item c.item.new.self (λ i. Fits-lt-pow (c.type_inv.bytes i)) (read c) in
    rw c.left.ensures (begins_with c.args.bytes.now c.item.new.self c.in_ok-item.item (length c.args.bytes.now - length c.item.new.self) so refl)

pub overflow_sub-result : goal.overflow_sub-result
overflow_sub-result c = (begins c).0

pub returns-clause-item : goal.returns-clause-item
returns-clause-item c = read c ∙ ap (λ (l : List ℕ). Some (c.in_ok-item.item, l)) (sym (begins c).1)

pub returns-clause-spelled : goal.returns-clause-spelled
returns-clause-spelled c = (begins c).2

pub returns-clause-bounds : goal.returns-clause-bounds
returns-clause-bounds c = bounds c.in_ok-item.item (length c.args.bytes.now - c.left.result) c.args.bytes.now (begins c).2

pub returns-clause-goes_on : goal.returns-clause-goes_on
returns-clause-goes_on c = goes_on c.args.bytes.now (Some (c.in_ok-item.item, length c.args.bytes.now - c.left.result)) (begins c).2
