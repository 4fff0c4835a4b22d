-- What the code makes of two answers.
use Rattle.jet_crew.specs.declared.end.EpochEnd.{EpochEnd}
use Rattle.jet_crew.specs.declared.end.EpochEnd.TheVariants.{Moved, Idle, Done, NoMemory}

-- the worse of Moved and another
abbrev pub moved_or : EpochEnd → EpochEnd
moved_or Moved = Moved
moved_or Idle = Moved
moved_or Done = Moved
moved_or NoMemory = NoMemory

abbrev pub idle_or : EpochEnd → EpochEnd
idle_or Moved = Moved
idle_or Idle = Idle
idle_or Done = Idle
idle_or NoMemory = NoMemory

abbrev pub worse : EpochEnd → EpochEnd → EpochEnd
worse Moved next = moved_or next
worse Idle next = idle_or next
worse Done next = next
worse NoMemory next = NoMemory
