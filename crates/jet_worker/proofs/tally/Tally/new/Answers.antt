use Rattle.std.proofs.Common.{rules, [], ℕ, ℤ, sym, subst, w64, to_z-of_z, FitsSigned}
use Rattle.jet_worker.specs.Opening.{file_in}
use Rattle.jet_worker.specs.inner.Tallying.{Tallied, SourceTallied}
use Rattle.jet_worker.specs.declared.files.DataFile.{DataFile}
use Rattle.jet_worker.specs.declared.tally.Tally.TheVariants.{Source, Side}
use Rattle.jet_worker.proofs.tally.Tally.new.Goals as goal

pub returns-in-Source-clause-tallied : goal.returns-in-Source-clause-tallied
returns-in-Source-clause-tallied c =
    let fits_lag : FitsSigned w64 c.in-Source.lag = search rules in
    let fits_unit : FitsSigned w64 c.args.unit = c.ranges.unit in
    let tallied : (most : ℕ) → SourceTallied most c.args.part c.in-Source.lag c.args.unit [] c.new.result = simp to_z-of_z at c.new.ensures.tallied in
    λ check unit.
    subst (λ (f : DataFile). Tallied check (c.args.part, file_in f) [] (Source c.new.result)) (sym c.in-Source.is)
    (subst (λ (u : ℤ). SourceTallied check.most c.args.part c.in-Source.lag u [] c.new.result) unit (tallied check.most))

pub returns-in-Side-clause-tallied : goal.returns-in-Side-clause-tallied
returns-in-Side-clause-tallied c = λ check unit.
    subst (λ (f : DataFile). Tallied check (c.args.part, file_in f) [] (Side c.new-in-Side.result)) (sym c.in-Side.is) (c.new-in-Side.ensures.tallied check.most)
