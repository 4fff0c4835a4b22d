use Rattle.std.proofs.Common.{rules, ◌≡◌, ℤ, subst, sym, ◌∙◌, to_z, of_z, w64}
use Rattle.jet_stages.proofs.Knowing.{Saw, notes_stayed, notes_rose}
use Rattle.jet_stages.proofs.Queues.{step}
use Rattle.jet_stages.proofs.stamp.Stamp.see.Goals as goal

pub returns-in-None-clause-notes : goal.returns-in-None-clause-notes
returns-in-None-clause-notes c = λ taken e at knows.
    let s = c.args.self.now in
    let t : ℤ = to_z w64 (of_z w64 c.args.ts) in
    let same : t ≡ c.args.ts = search rules in
    let saw : Saw c.index_mut.result.now c.see.new.self t c.see.result = record { seen = c.see.ensures.seen; same_lag = c.see.ensures.lag; same_grain = c.see.ensures.grain; tells = c.see.ensures.raised } in
    let went = c.wake.ensures in
    notes_stayed s.lag s.grain s.markers.items s.queues c.wake.new.self taken c.args.queue e t c.index_mut.result.now c.see.new.self c.wake.result (at ∙ sym same) c.requires.marker c.index_mut.ensures.value
    (subst (Saw c.index_mut.result.now c.see.new.self t) c.in-None.is saw)
    (record { value = went.value; least = went.least; reaches = went.reaches; went = step _ _ _ _ went.low went.answer }) knows

pub returns-in-Some-clause-notes : goal.returns-in-Some-clause-notes
returns-in-Some-clause-notes c = λ taken e at knows.
    let s = c.args.self.now in
    let t : ℤ = to_z w64 (of_z w64 c.args.ts) in
    let same : t ≡ c.args.ts = search rules in
    let saw : Saw c.index_mut.result.now c.see.new.self t c.see.result = record { seen = c.see.ensures.seen; same_lag = c.see.ensures.lag; same_grain = c.see.ensures.grain; tells = c.see.ensures.raised } in
    let went = c.observe.ensures in
    notes_rose s.lag s.grain s.markers.items s.queues c.observe.new.self taken c.args.queue e t c.index_mut.result.now c.see.new.self c.in-Some.mark c.observe.result (at ∙ sym same) c.requires.marker c.index_mut.ensures.value
    (subst (Saw c.index_mut.result.now c.see.new.self t) c.in-Some.is saw)
    (record { value = went.value; least = went.least; reaches = went.reaches; went = step _ _ _ _ went.low went.answer }) knows
