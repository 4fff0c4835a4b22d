-- The settings of a job that sets none.
use Rattle.std.specs.Prelude.{ℤ, pos}
use Rattle.std.specs.Int.{int_max}
use Rattle.jet_plan.specs.declared.settings.Settings.{Settings}

abbrev pub defaults : Settings
defaults = record {
  workers = pos 2;
  members = pos 1;
  ring = pos 1024;
  packet = pos 16384;
  window = pos 49152;
  turns = pos 64;
  ahead = pos 10000;
  lines = pos 4294967294;
  peak = pos 131072;
  multiplier = pos 3;
  period = pos 64;
}

-- a job that sets a least grant alone may be granted 131072 bytes, or that where it is more
abbrev pub default_peak : ℤ → ℤ
default_peak window = int_max window defaults.peak
