-- What accumulators depend on.
use Rattle.std.specs.Prelude.{◌≡◌, ℤ, List, IsPermutation}
use Rattle.jet_items.specs.Rows.{IsAccOf}
use Rattle.jet_items.specs.Values.{AccValue}

-- the accumulator of values is that of the same values in another order
abbrev pub AccStaysByOrder : Type 0
AccStaysByOrder = (values other : List ℤ) (acc : AccValue) → IsPermutation values other → IsAccOf values acc → IsAccOf other acc

-- values have no two accumulators
abbrev pub AccIsOne : Type 0
AccIsOne = (values : List ℤ) (acc other : AccValue) → IsAccOf values acc → IsAccOf values other → acc ≡ other
