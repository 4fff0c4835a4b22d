-- Routes and kinds: tests and words.
use Rattle.std.specs.Prelude.{ℕ, Bool, true, false, List, length, nat_lt, codes}
use Rattle.jet_plan.specs.declared.route.Route.{Route}
use Rattle.jet_plan.specs.declared.route.Route.TheVariants.{Unicast, Isolated, Partitioned, Broadcast}
use Rattle.jet_plan.specs.declared.kind.Kind.{Kind}
use Rattle.jet_plan.specs.declared.kind.Kind.TheVariants.{Source, Side, Map, Filter, Flat, Join, Accumulate, Combine, Sink}

abbrev pub is_isolated : Route → Bool
is_isolated Isolated = true
is_isolated _ = false

abbrev pub is_partitioned : Route → Bool
is_partitioned Partitioned = true
is_partitioned _ = false

abbrev pub is_broadcast : Route → Bool
is_broadcast Broadcast = true
is_broadcast _ = false

-- a source with a file
abbrev pub is_fed : Kind → Bool
is_fed (Source files lag) = nat_lt 0 (length files)
is_fed _ = false

-- a vertex that reads files
abbrev pub reads_files : Kind → Bool
reads_files (Source files lag) = true
reads_files (Side file) = true
reads_files _ = false

abbrev pub is_side : Kind → Bool
is_side (Side file) = true
is_side _ = false

abbrev pub is_join : Kind → Bool
is_join (Join mode rekey fields) = true
is_join _ = false

abbrev pub is_accumulate : Kind → Bool
is_accumulate (Accumulate size slide) = true
is_accumulate _ = false

abbrev pub is_combine : Kind → Bool
is_combine Combine = true
is_combine _ = false

abbrev pub is_sink : Kind → Bool
is_sink Sink = true
is_sink _ = false

-- how many files a vertex reads
abbrev pub file_count : Kind → ℕ
file_count (Source files lag) = length files
file_count (Side file) = 1
file_count _ = 0

-- the words of a job file
abbrev pub kind_word : Kind → List ℕ
kind_word (Source files lag) = codes "source"
kind_word (Side file) = codes "side"
kind_word (Map set) = codes "map"
kind_word (Filter test) = codes "filter"
kind_word (Flat legs) = codes "flat"
kind_word (Join mode rekey fields) = codes "join"
kind_word (Accumulate size slide) = codes "accumulate"
kind_word Combine = codes "combine"
kind_word Sink = codes "sink"

abbrev pub route_word : Route → List ℕ
route_word Unicast = codes "unicast"
route_word Isolated = codes "isolated"
route_word Partitioned = codes "partitioned"
route_word Broadcast = codes "broadcast"
