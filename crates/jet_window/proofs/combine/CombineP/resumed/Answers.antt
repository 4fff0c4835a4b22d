use Rattle.std.proofs.Common.{arith, refl, subst, List, pos, None}
use Rattle.jet_items.specs.Values.{FrameValue}
use Rattle.jet_window.specs.declared.combine.CombineP.{CombineP}
use Rattle.jet_window.specs.CombineView.{combine_of, start_of}
use Rattle.jet_window.specs.Combining.{TableOf}
use Rattle.jet_window.proofs.Standing.{stands_new, begins_open}
use Rattle.jet_window.proofs.combine.CombineP.resumed.Goals as goal

pub returns-clause-stands : goal.returns-clause-stands
returns-clause-stands c =
    let p : CombineP = record { vertex = c.args.vertex; policy = c.args.policy; alloc = c.args.alloc; begun = c.args.mark; start = c.args.frames; last = None; passed = c.args.mark; end = pos 0; held = c.in_ok-held.held; ready = c.new.result } in
    stands_new (start_of p) (combine_of p) refl (subst (λ (fs : List FrameValue). TableOf fs c.in_ok-held.held) c.deref.ensures.value c.in_ok-held.ensures)
    (λ grid. begins_open c.args.policy.size c.args.policy.slide c.args.mark grid c.args.frames.items c.requires.multiples c.requires.open_yet) c.new.ensures.items (omega arith, omega arith)
