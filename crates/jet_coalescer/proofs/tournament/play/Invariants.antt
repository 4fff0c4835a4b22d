use Rattle.std.proofs.Common.{◌≡◌, ◌+◌, ◌<◌, ◌*◌, length, drop}
use Rattle.jet_coalescer.specs.inner.Tournaments.{places, IsTournamentBut}
use Rattle.jet_coalescer.proofs.tournament.play.Given as goal

abbrev pub invariant-loop-at : goal.invariant-loop-at
invariant-loop-at l =
    record {
      inside : l.at < 8 * l.first + 1;
      sized : length l.ranks ≡ 8 * l.first + 1;
      played : IsTournamentBut l.first (places l.ranks) l.at;
      queues : drop l.first (places l.ranks) ≡ drop l.first (places l.initial.ranks);
    }

abbrev pub decreases-loop-at : goal.decreases-loop-at
decreases-loop-at l = l.at
