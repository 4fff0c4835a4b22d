use Rattle.std.proofs.Common.{rules, ◌≡◌, ◌∙◌, Some, sym, ap, refl}
use Rattle.std.specs.BTreeMap.Entry.{entry_key}
use Rattle.std.specs.declared.collections.btree_map.Entry.{Entry}
use Rattle.jet_window.specs.Places.{RowPlace}
use Rattle.jet_window.specs.declared.ordered.Alike.{Alike}
use Rattle.jet_window.proofs.Placing.{first_range, later_taken, only_taken, held_after, held_without}
use Rattle.jet_window.proofs.ordered.take_first.Goals as goal

pub row_at-requires : goal.row_at-requires
row_at-requires c =
    let key = c.in_ok-first.ensures.key ∙ ap Some (sym c.key-place.ensures) in
    let value = sym c.get_mut.ensures.value ∙ c.in_ok-first.ensures.value.0 in
    first_range c.key-place.result.now c.get_mut.result.now c.args.rows.now.entries key value c.requires

pub returns-in-Some-clause-taken : goal.returns-in-Some-clause-taken
returns-in-Some-clause-taken c =
    let k : RowPlace = entry_key (Entry.Occupied c.in_ok-first.first) in
    let v : Alike = c.get_mut.result.now in
    let w : Alike = record v { more = c.pop.new.self } in
    let value = sym c.get_mut.ensures.value ∙ c.in_ok-first.ensures.value.0 in
    rw (c.row_at.ensures, c.key-place.ensures)
    (later_taken k v w c.in-Some.acc c.args.rows.now.entries _ _ c.in_ok-first.ensures.key value (c.in_ok-first.ensures.update.1 w) (search rules) refl c.in-Some.ensures.items)

pub returns-in-Some-clause-order : goal.returns-in-Some-clause-order
returns-in-Some-clause-order c =
    let k : RowPlace = entry_key (Entry.Occupied c.in_ok-first.first) in
    let v : Alike = c.get_mut.result.now in
    let w : Alike = record v { more = c.pop.new.self } in
    let value = sym c.get_mut.ensures.value ∙ c.in_ok-first.ensures.value.0 in
    held_after k v w c.args.rows.now.entries _ _ c.in_ok-first.ensures.key value c.requires (c.in_ok-first.ensures.update.1 w) (search rules)

pub row_at-requires-in-None : goal.row_at-requires-in-None
row_at-requires-in-None c =
    let key = c.in_ok-first.ensures.key ∙ ap Some (sym c.key-place.ensures) in
    let value = sym c.get_mut.ensures.value ∙ c.in_ok-first.ensures.value.0 in
    first_range c.key-place.result.now c.get_mut.result.now c.args.rows.now.entries key value c.requires

pub returns-in-None-clause-taken : goal.returns-in-None-clause-taken
returns-in-None-clause-taken c =
    let k : RowPlace = entry_key (Entry.Occupied c.in_ok-first.first) in
    let v : Alike = c.get_mut.result.now in
    let value = sym c.get_mut.ensures.value ∙ c.in_ok-first.ensures.value.0 in
    let first : c.remove.result.first ≡ v.first = search rules in
    rw (c.row_at-in-None.ensures, c.key-place.ensures)
    (only_taken k v c.remove.result c.args.rows.now.entries _ _ c.in_ok-first.ensures.key value c.in_ok-first.ensures.removal.1 (search rules) first (search rules))

pub returns-in-None-clause-order : goal.returns-in-None-clause-order
returns-in-None-clause-order c =
    let k : RowPlace = entry_key (Entry.Occupied c.in_ok-first.first) in
    let v : Alike = c.get_mut.result.now in
    let value = sym c.get_mut.ensures.value ∙ c.in_ok-first.ensures.value.0 in
    held_without k v c.args.rows.now.entries _ _ c.in_ok-first.ensures.key value c.requires c.in_ok-first.ensures.removal.1 (search rules)
