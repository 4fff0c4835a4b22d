use Rattle.std.proofs.Common.{rules, refl}
use Rattle.jet_boxes.specs.Entry.{Given}
use Rattle.jet_boxes.specs.declared.port.Port.TheVariants.{Stream, Build}
use Rattle.jet_join.proofs.Calling.{keep_call, want_call, event_call, pass_call, stream_passes, build_passes, no_row}
use Rattle.jet_join.proofs.join.JoinPProcessor.accept.Goals as goal
use Rattle.jet_join.proofs.join.JoinPProcessor.accept.Goals.{in_default-via-in-Build+in_default, in_default-via-in-Stream+in_default}

pub returns-in_ok-keep-in-Build-Side-clause-call : goal.returns-in_ok-keep-in-Build-Side-clause-call
returns-in_ok-keep-in-Build-Side-clause-call c =
    rw (c.in-Build-Side.is-0, c.in-Build-Side.is-1)
    (keep_call c.args.self.now (record c.args.self.now { rows = c.keep.new.self }) c.args.queue c.in-Build-Side.row c.args.out.now refl refl c.in_ok-keep-in-Build-Side.ensures.kept)

pub returns-in_err-keep-in-Build-Side-clause-call : goal.returns-in_err-keep-in-Build-Side-clause-call
returns-in_err-keep-in-Build-Side-clause-call c =
    rw (c.in-Build-Side.is-0, c.in-Build-Side.is-1)
    (want_call c.args.self.now (record c.args.self.now { rows = c.keep.new.self }) c.args.queue c.in-Build-Side.row c.args.out.now c.from_residual.result c.from_residual.ensures.0 refl refl c.in_err-keep-in-Build-Side.ensures.unchanged)

pub returns-in-Stream-Event-clause-call : goal.returns-in-Stream-Event-clause-call
returns-in-Stream-Event-clause-call c =
    rw (c.in-Stream-Event.is-0, c.in-Stream-Event.is-1)
    (event_call c.args.self.now (record c.args.self.now { next = c.put_joined.new.next }) c.args.queue c.in-Stream-Event.event c.args.out.now c.put_joined.new.out c.put_joined.result refl refl
    c.put_joined.ensures.room (search rules) c.put_joined.ensures.full)

pub returns-in_default-clause-call : goal.returns-in_default-clause-call
returns-in_default-clause-call c =
    elim c.in_default.branch [
      | in_default-via-in-Build+in_default w ↦
          rw w.in_default.is-0 (pass_call c.args.self.now (Given Build c.args.queue c.args.item.now) c.args.item.now c.args.out.now c.put.new.out c.put.result c.put.ensures.put c.put.ensures.kept c.put.ensures.full
          (build_passes c.args.self.now.setting c.args.queue c.args.item.now w.in_default.not-Side-1) (no_row c.args.queue c.args.item.now w.in_default.not-Side-1))
      | in_default-via-in-Stream+in_default w ↦
          rw w.in_default.is-0 (pass_call c.args.self.now (Given Stream c.args.queue c.args.item.now) c.args.item.now c.args.out.now c.put.new.out c.put.result c.put.ensures.put c.put.ensures.kept c.put.ensures.full
          (stream_passes c.args.self.now.setting c.args.queue c.args.item.now w.in_default.not-Event-1) refl)
    ]
