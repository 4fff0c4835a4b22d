use Rattle.std.proofs.Common.{rules, ◌≡◌, ℕ, ◌+◌, ◌*◌, ◌-◌, ◌/◌, ◌≤◌, ℤ, List, ◌++◌, take, replicate, length, ap, ◌∙◌, arith}
use Rattle.std.proofs.lemmas.List.{take_all, length-replicate}
use Rattle.jet_coalescer.specs.inner.Tournaments.{places}
use Rattle.jet_coalescer.proofs.Ranks.{fresh, fresh_places, new_tournament, new_queues, new_behind}
use Rattle.jet_coalescer.proofs.tournament.Tournament.new.Goals as goal

-- the place of the first queue, and how many places stand behind the last one
abbrev first_of : ℕ → ℕ
first_of count = (count + 5) / 7

abbrev spare_of : ℕ → ℕ
spare_of count = 8 * first_of count + 1 - (first_of count + count)

room : (count : ℕ) → first_of count + count ≤ 8 * first_of count + 1
room count = omega arith

places_are : (c : goal.In_ok-resize-2) → places c.resize-2.new.self.items ≡ fresh (first_of c.args.count + c.args.count) (spare_of c.args.count)
places_are c =
    let queues : ℕ = first_of c.args.count + c.args.count in
    let one : c.resize.new.self.items ≡ replicate queues c.rank.result = search rules in
    let long : length c.resize.new.self.items ≡ queues = ap length one ∙ length-replicate queues c.rank.result in
    let two : c.resize-2.new.self.items ≡ take (8 * first_of c.args.count + 1) c.resize.new.self.items ++ replicate (spare_of c.args.count) c.rank-2.result = search rules in
    let all : c.resize-2.new.self.items ≡ replicate queues c.rank.result ++ replicate (spare_of c.args.count) c.rank-2.result =
    two ∙ ap (λ (rs : List ℤ). rs ++ replicate (spare_of c.args.count) c.rank-2.result) (take_all (8 * first_of c.args.count + 1) c.resize.new.self.items (omega (arith, long, room c.args.count)) ∙ one)
    in
    fresh_places c.resize-2.new.self.items queues (spare_of c.args.count) c.rank.result c.rank-2.result all c.rank.ensures c.rank-2.ensures

pub invariant_of-result : goal.invariant_of-result
invariant_of-result c =
    new_tournament (places c.resize-2.new.self.items) (first_of c.args.count) (first_of c.args.count + c.args.count) (spare_of c.args.count) (places_are c)
    (omega (arith, room c.args.count)) (omega arith) (omega arith)

pub returns-clause-queues : goal.returns-clause-queues
returns-clause-queues c = new_queues (places c.resize-2.new.self.items) (first_of c.args.count) c.args.count (spare_of c.args.count) (places_are c)

pub returns-clause-behind : goal.returns-clause-behind
returns-clause-behind c = new_behind (places c.resize-2.new.self.items) (first_of c.args.count) c.args.count (spare_of c.args.count) (places_are c)
