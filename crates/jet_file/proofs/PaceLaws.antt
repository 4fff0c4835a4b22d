-- Laws of lists of calls: how many bytes a list of calls took and wrote, and one behind it.
use Rattle.std.proofs.Common.{◌≡◌, ℕ, ◌+◌, List, [], ◌∷◌, ◌++◌, arith}
use Rattle.jet_file.specs.Outside.{CallMade, Opened, Read, Wrote, Missed}
use Rattle.jet_file.specs.Pace.{taken_by, wrote_by}
use Rattle.jet_file.specs.declared.outside.Out.{Out}

pub taken_by-append : (file : ℕ) (calls more : List CallMade) → taken_by file (calls ++ more) ≡ taken_by file calls + taken_by file more
taken_by-append file [] more = omega arith
taken_by-append file (Read other n ∷ calls) more = omega (arith, taken_by-append file calls more)
taken_by-append file (Opened name other ∷ calls) more = taken_by-append file calls more
taken_by-append file (Wrote to n ∷ calls) more = taken_by-append file calls more
taken_by-append file (Missed tried ∷ calls) more = taken_by-append file calls more

pub wrote_by-append : (out : Out) (calls more : List CallMade) → wrote_by out (calls ++ more) ≡ wrote_by out calls + wrote_by out more
wrote_by-append out [] more = omega arith
wrote_by-append out (Wrote to n ∷ calls) more = omega (arith, wrote_by-append out calls more)
wrote_by-append out (Opened name file ∷ calls) more = wrote_by-append out calls more
wrote_by-append out (Read file n ∷ calls) more = wrote_by-append out calls more
wrote_by-append out (Missed tried ∷ calls) more = wrote_by-append out calls more
