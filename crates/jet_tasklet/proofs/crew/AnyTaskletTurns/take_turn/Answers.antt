use Rattle.std.proofs.Common.{◌≡◌, refl, inl}
use Rattle.std.specs.Prelude.{Ok}
use Rattle.jet_wire.specs.declared.progress.Progress.TheVariants as progress
use Rattle.jet_tasklet.proofs.crew.AnyTaskletTurns.take_turn.Goals as goal

pub returns-in-Err-clause-said : goal.returns-in-Err-clause-said
returns-in-Err-clause-said c = (
  λ ended. let answer : c.turn.result ≡ Ok progress.Done = c.turn.ensures.after ended in absurd cc,
  record {
    may = c.in-Err.ensures.wants;
    at = c.turn.new.self;
    went = record { goes = c.turn.ensures.keeps; turned = c.turn.ensures.turned; fair = c.turn.ensures.fair };
    pending = c.in-Err.ensures.pending;
    since = inl refl;
  },
)
