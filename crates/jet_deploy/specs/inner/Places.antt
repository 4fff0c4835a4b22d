-- How many tasklets are made.
use Rattle.std.specs.Prelude.{ℕ, ◌+◌, Option, Some}
use Rattle.jet_layout.specs.declared.task.Task.{Task}
use Rattle.jet_layout.specs.declared.task.Task.TheVariants.{Receive}

-- before task n comes: what receives from a link is made with what sends over it, which stands before it
abbrev pub made_before : Option Task → ℕ → ℕ
made_before (Some (Receive l)) n = n + 1
made_before task n = n
