use Rattle.std.proofs.Common.{arith, refl, subst, sym, ◌||◌, pos, [], None}
use Rattle.jet_items.specs.Order.{Each}
use Rattle.jet_items.specs.Values.{FrameValue}
use Rattle.jet_window.specs.declared.combine.CombineP.{CombineP}
use Rattle.jet_window.specs.CombineView.{combine_of, start_of}
use Rattle.jet_window.specs.Taken.{is_due, due_after, InOpenWindow}
use Rattle.jet_window.proofs.Standing.{stands_new, table_none}
use Rattle.jet_window.proofs.combine.CombineP.new.Goals as goal

pub returns-clause-stands : goal.returns-clause-stands
returns-clause-stands c =
    let p : CombineP = record { vertex = c.args.vertex; policy = c.args.policy; alloc = c.args.alloc; begun = None; start = c.new.result; last = None; passed = None; end = pos 0; held = c.new-2.result; ready = c.new-3.result } in
    stands_new (start_of p) (combine_of p) refl (table_none c.new.result.items c.new-2.result c.new.ensures.items c.new-2.ensures)
    (λ grid. subst (Each (λ (f : FrameValue). InOpenWindow c.args.policy.size c.args.policy.slide (λ e. is_due None e || due_after [] e) f.end)) (sym c.new.ensures.items) tt) c.new-3.ensures.items (omega arith, omega arith)
