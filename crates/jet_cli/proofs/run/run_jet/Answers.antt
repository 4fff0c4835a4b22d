use Rattle.std.proofs.Common.{◌≡◌, Option, Some, subst}
use Rattle.std.specs.Prelude.{IfSome, IsSomeAnd}
use Rattle.jet_file.specs.Outside.{WhereTold}
use Rattle.jet_worker.specs.Calls.{Calling, EndsFailed}
use Rattle.jet_cli.specs.CallOrder.{IsInOrder, place_in}
use Rattle.jet_cli.specs.Commands.{Finishes, StaysQuiet, StaysQuietInTime, HasBadLine, HasBegun}
use Rattle.jet_cli.specs.Refusals.{MayBeRefused}
use Rattle.jet_cli.specs.Words.{JetCommand}
use Rattle.jet_cli.specs.WordsView.{command_in}
use Rattle.jet_cli.proofs.run.run_jet.Goals as goal

-- what is said of the command that was read is said of that of the words
some_is : (o : Option JetCommand) (c : JetCommand) (P : JetCommand → Type 0) → Some c ≡ o → P c → IsSomeAnd o P
some_is o c P is h = subst (λ (x : Option JetCommand). IsSomeAnd x P) is h

same : (a b : JetCommand) → Some a ≡ Some b → a ≡ b
same a b h = cc h

pub returns-in-Some-clause-done : goal.returns-in-Some-clause-done
returns-in-Some-clause-done g c = λ is. some_is _ (command_in c.in-Some.command)
    (λ k. WhereTold (Finishes k (g.O.Outside.opened c.args.out.now) (g.O.Outside.opened c.run_command.new.out)) (g.O.Outside.told c.args.out.now) (g.O.Outside.told c.run_command.new.out))
    c.in-Some.ensures.command (c.run_command.ensures.done is)

pub returns-in-Some-clause-quiet : goal.returns-in-Some-clause-quiet
returns-in-Some-clause-quiet g c = λ is. some_is _ (command_in c.in-Some.command)
    (λ k. WhereTold (StaysQuiet k) (g.O.Outside.told c.args.out.now) (g.O.Outside.told c.run_command.new.out)) c.in-Some.ensures.command (c.run_command.ensures.quiet is)

pub returns-in-Some-clause-in_time : goal.returns-in-Some-clause-in_time
returns-in-Some-clause-in_time g c = λ is. some_is _ (command_in c.in-Some.command)
    (λ k. WhereTold (StaysQuietInTime k) (g.O.Outside.told c.args.out.now) (g.O.Outside.told c.run_command.new.out)) c.in-Some.ensures.command (c.run_command.ensures.in_time is)

pub returns-in-Some-clause-refused : goal.returns-in-Some-clause-refused
returns-in-Some-clause-refused g c = λ why is. some_is _ (command_in c.in-Some.command)
    (λ k. MayBeRefused why k (g.O.Outside.told c.args.out.now)) c.in-Some.ensures.command (c.run_command.ensures.refused why is)

pub returns-in-Some-clause-bad_line : goal.returns-in-Some-clause-bad_line
returns-in-Some-clause-bad_line g c = λ part line why is. some_is _ (command_in c.in-Some.command)
    (λ k. HasBadLine k part line why (g.O.Outside.told c.args.out.now) (g.O.Outside.told c.run_command.new.out)) c.in-Some.ensures.command (c.run_command.ensures.bad_line part line why is)

pub returns-in-Some-clause-fault_call : goal.returns-in-Some-clause-fault_call
returns-in-Some-clause-fault_call g c = λ call spot is. some_is _ (command_in c.in-Some.command)
    (λ k. WhereTold (Calling (λ calls a b. EndsFailed (place_in k) call spot calls)) (g.O.Outside.told c.args.out.now) (g.O.Outside.told c.run_command.new.out)) c.in-Some.ensures.command (c.run_command.ensures.fault_call call spot is)

pub returns-in-Some-clause-calls : goal.returns-in-Some-clause-calls
returns-in-Some-clause-calls g c = subst (λ (o : Option JetCommand). IfSome o (λ k. WhereTold (Calling (IsInOrder k)) (g.O.Outside.told c.args.out.now) (g.O.Outside.told c.run_command.new.out)))
    c.in-Some.ensures.command c.run_command.ensures.calls

pub returns-in-Some-clause-begun : goal.returns-in-Some-clause-begun
returns-in-Some-clause-begun g c = λ is. some_is _ (command_in c.in-Some.command)
    (λ k. WhereTold (HasBegun k) (g.O.Outside.told c.args.out.now) (g.O.Outside.told c.run_command.new.out)) c.in-Some.ensures.command (c.run_command.ensures.begun is)
