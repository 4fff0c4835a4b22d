-- How the vertices and rings of a job stand together, which no turn and no meeting changes.
use Rattle.std.specs.Prelude.{◌≡◌, ℕ, ◌<◌, ◌≤◌, true, false}
use Rattle.jet_net.specs.Net.{Net}

pub record Shape (n : Net) : Type 0 where
  -- a ring leads from a vertex to a deeper one or to the sink, which none is deeper than
  pub giver : (r : ℕ) → r < n.rings → n.giver r < n.vertices
  pub taker : (r : ℕ) → r < n.rings → n.taker r ≤ n.vertices
  pub deeper : (r : ℕ) → r < n.rings → n.depth (n.giver r) < n.depth (n.taker r)
  pub deepest : (v : ℕ) → v ≤ n.vertices → n.depth v ≤ n.depth n.vertices
  -- each vertex gives into some ring
  pub gives : (v : ℕ) → v < n.vertices → (r : ℕ) × (r < n.rings) × (n.giver r ≡ v)
  -- no ring leads to a file, and who takes from a file takes from files alone
  pub files_first : (r : ℕ) → r < n.rings → n.taker r < n.vertices → n.is_file (n.taker r) ≡ false
  pub files_apart : (r q : ℕ) → r < n.rings → q < n.rings → n.taker q ≡ n.taker r → n.is_file (n.giver r) ≡ true → n.is_file (n.giver q) ≡ true
  -- no link leads to the sink, and none comes from where builds are taken
  pub links_inside : (r : ℕ) → r < n.rings → n.is_link r ≡ true → n.taker r < n.vertices
  pub links_apart : (r q : ℕ) → r < n.rings → q < n.rings → n.build r ≡ true → n.giver q ≡ n.taker r → n.is_link q ≡ false
  -- a ring to a build queue comes from the side part, which is the side files, their tasklets, and the links behind these; it leads to a tasklet, and is no link
  pub build_giver : (r : ℕ) → r < n.rings → n.build r ≡ true → n.is_side (n.giver r) ≡ true
  pub build_taker : (r : ℕ) → r < n.rings → n.build r ≡ true → n.taker r < n.vertices
  pub build_ring : (r : ℕ) → r < n.rings → n.build r ≡ true → n.is_link r ≡ false
  -- every other ring out of the side part stays in it, and a ring into it comes from it and leads to no build queue
  pub side_stays : (r : ℕ) → r < n.rings → n.is_side (n.giver r) ≡ true → n.build r ≡ false → (n.taker r < n.vertices) × (n.is_side (n.taker r) ≡ true)
  pub side_giver : (r : ℕ) → r < n.rings → n.taker r < n.vertices → n.is_side (n.taker r) ≡ true → n.is_side (n.giver r) ≡ true
  pub side_ring : (r : ℕ) → r < n.rings → n.taker r < n.vertices → n.is_side (n.taker r) ≡ true → n.build r ≡ false
