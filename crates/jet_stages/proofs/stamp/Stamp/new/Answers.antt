use Rattle.std.proofs.Common.{rules, arith, ◌≡◌, ℤ, replicate, None, to_z, of_z, w64, ap, ◌∙◌}
use Rattle.std.proofs.lemmas.Int.{ints}
use Rattle.jet_coalescer.specs.Queues.{unknown}
use Rattle.jet_stages.proofs.Knowing.{marker_is, stands_new}
use Rattle.jet_stages.proofs.stamp.Stamp.new.Goals as goal

pub returns-clause-stands : goal.returns-clause-stands
returns-clause-stands c =
    let l : ℤ = to_z w64 (of_z w64 c.args.lag) in
    let g : ℤ = to_z w64 (of_z w64 c.args.grain) in
    let all : c.resize.new.self.items ≡ replicate c.args.partitions c.new.result = search rules in
    let queues : c.in_ok-new.field-0 ≡ record { queues = replicate c.args.partitions unknown; low = None } = search rules in
    let lag : c.new.result.lag ≡ l = search rules in
    let grain : c.new.result.grain ≡ g = search rules in
    stands_new c.args.partitions l g c.resize.new.self.items c.in_ok-new.field-0 (omega (arith, ints, c.requires.grain.0))
    (all ∙ ap (replicate c.args.partitions) (marker_is c.new.result l g None lag grain c.new.ensures.seen)) queues
