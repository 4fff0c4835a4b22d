use Rattle.std.proofs.Common.{rules, ◌≡◌, Option, Some, None, sym, ◌∙◌, ap}
use Rattle.std.specs.Map.{lookup}
use Rattle.std.specs.BTreeMap.{is_at}
use Rattle.std.specs.BTreeMap.Entry.{entry_value}
use Rattle.jet_items.specs.Values.{AccValue}
use Rattle.jet_window.specs.FrameTables.{with_acc}
use Rattle.jet_window.specs.Tables.{Place, place_cmp}
use Rattle.jet_window.proofs.Opening.{joined_put}
use Rattle.jet_window.proofs.open_frames.add.Goals as goal

pub returns-in-Occupied-clause-ok : goal.returns-in-Occupied-clause-ok
returns-in-Occupied-clause-ok c =
    let k : Place = c.args.place in
    let v : AccValue = c.into_mut-held.result.now in
    let w : AccValue = c.join.result in
    let value = c.in_ok-entry.ensures.value in
    let there : lookup (is_at (place_cmp k)) c.args.accs.now.entries ≡ Some v = sym value ∙ (ap (λ e. entry_value e) c.in-Occupied.is ∙ c.into_mut-held.ensures.value) in
    joined_put k c.args.acc.now w c.args.accs.now.entries _ _ (c.in_ok-entry.ensures.update.1 w) (search rules) (c.join.ensures ∙ ap (λ (o : Option AccValue). with_acc o c.args.acc.now) (sym there))

pub returns-in-Vacant-clause-ok : goal.returns-in-Vacant-clause-ok
returns-in-Vacant-clause-ok c =
    let k : Place = c.args.place in
    let found = c.in_ok-entry.ensures.found in
    let none : lookup (is_at (place_cmp k)) c.args.accs.now.entries ≡ None = rw c.in-Vacant.is at found in
    joined_put k c.args.acc.now c.args.acc.now c.args.accs.now.entries _ _ (c.in_ok-entry.ensures.update.1 c.args.acc.now) (search rules) (ap (λ (o : Option AccValue). with_acc o c.args.acc.now) (sym none))
