-- What follows of the meaning of Done, and of the definition of the job of `window`, alone.
use Rattle.std.specs.Prelude.{◌≡◌, ◌≤◌, ℕ, Bool, pos, option_map}
use Rattle.std.specs.List.Sorted.{IsPermutation}
use Rattle.jet_items.specs.Ranges.{most_time}
use Rattle.jet_policy.specs.PolicyCause.{policy_fault}
use Rattle.jet_plan.specs.declared.fault.PlanFault.TheVariants.{Policy}
use Rattle.jet_file.specs.Outside.{Told}
use Rattle.jet_cli.specs.BaseJob.{base_fault}
use Rattle.jet_cli.specs.Done.{IsDone}
use Rattle.jet_cli.specs.Words.{WindowCommand}

-- what `window` writes is a function of words and file, but for the order of late lines
abbrev pub OutputIsOne : Type 0
OutputIsOne = (c : WindowCommand) (before now before' now' : ℕ → Bool) (old new old' new' : Told)
    → (done : IsDone c before now old new) (done' : IsDone c before' now' old' new') → old.content c.file ≡ old'.content c.file
    → (done.rows ≡ done'.rows) × IsPermutation done.headline.late done'.headline.late

-- the job of `window` has the fault of its sizes, by the number of its accumulate vertex, and no other
abbrev pub WindowFaultsAreOfSizes : Type 0
WindowFaultsAreOfSizes = (c : WindowCommand) → c.lag ≤ most_time → base_fault c ≡ option_map (Policy 1) (policy_fault (pos c.size) (pos c.slide))
