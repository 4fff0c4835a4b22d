-- The ranges of a link's numbers.
use Rattle.std.specs.Prelude.{◌≤◌}
use Rattle.jet_link.specs.declared.shape.LinkShape.{LinkShape}

pub record IsShape (l : LinkShape) : Type 0 where
  pub packet : (256 ≤ l.packet) × (l.packet ≤ 65536)
  pub some : 1 ≤ l.window
  pub ordered : l.window ≤ l.peak
  pub peak : l.peak ≤ 16777216
  pub multiplier : (1 ≤ l.multiplier) × (l.multiplier ≤ 16)
  pub period : (1 ≤ l.period) × (l.period ≤ 1024)
  pub buffers : (4 ≤ l.buffers) × (l.buffers ≤ 65536)
