-- Items that are taken and noted, one after another.
use Rattle.std.proofs.Common.{◌≡◌, ◌<◌, Bool, false, List, [], ◌++◌, length, sym, subst, arith}
use Rattle.std.proofs.lemmas.List.{length-append}
use Rattle.jet_conveyor.specs.Conveyor as conveyor
use Rattle.jet_sink.specs.Taken.{TakenItem, HasTaken, TakesSome}
use Rattle.jet_sink.specs.View.{View}
use Rattle.jet_sink.specs.inner.Noted.{TakesKnown}
use Rattle.jet_sink.proofs.Noting.{none_noted, notes_trans}
use Rattle.jet_sink.proofs.Taking.{none_taken, taken_trans}

pub takes_none : (s : View) (a b : conveyor.View) → b ≡ a → TakesKnown false s s a b
takes_none s a b same = record {
  taken = [];
  some = λ e. absurd (cc e);
  took = subst (λ (v : conveyor.View). HasTaken [] a v) (sym same) (none_taken a);
  notes = none_noted s;
}

longer : (t u : List TakenItem) → 0 < length t → 0 < length (t ++ u)
longer t u h = omega (arith, length-append t u)

pub takes_then : (m n : Bool) (a b c : View) (u v w : conveyor.View) → TakesKnown m a b u v → TakesKnown n b c v w → TakesKnown m a c u w
takes_then m n a b c u v w h k = record {
  taken = h.taken ++ k.taken;
  some = λ e. longer h.taken k.taken (h.some e);
  took = taken_trans h.taken k.taken u v w h.took k.took;
  notes = notes_trans h.taken k.taken a b c h.notes k.notes;
}

pub some_then : (u v w : conveyor.View) → TakesSome u v → TakesSome v w → TakesSome u w
some_then u v w (t, h) (r, k) = (t ++ r, taken_trans t r u v w h k)

pub some_known : (m : Bool) (a b : View) (u v : conveyor.View) → TakesKnown m a b u v → TakesSome u v
some_known m a b u v h = (h.taken, h.took)
