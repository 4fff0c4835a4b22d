-- The parts of words as they are read, one after another.
use Rattle.std.specs.Prelude.{List, ◌++◌, map, if◌then◌else◌, Option, None, MatchOption, ◌≡◌, ◌∷◌, option_map, string_bytes}
use Rattle.std.specs.List.{list_all, filter_map}
use Rattle.std.specs.Option.{option_to_list}
use Rattle.jet_cli.specs.JobWords.{Part, Operand, Given, Lone, marked_parts, JobCommand, job_from, is_known, operand_in, workers_in, members_in, ring_in}
use Rattle.jet_cli.specs.declared.job_words.Found.{Found}
use Rattle.jet_cli.specs.declared.parts.Parts.{Parts}
use Rattle.jet_cli.specs.declared.parts.Part.{Part as PartRead}
use Rattle.jet_cli.specs.declared.parts.Part.TheVariants as read

-- the part that was read
abbrev pub part_in : PartRead → Part
part_in (read.Operand word) = Operand word.now
part_in (read.Given name value) = Given name.now value.now
part_in (read.Lone name) = Lone name.now

-- the parts of the words that are left
abbrev pub parts_left : Parts → List Part
parts_left p = marked_parts (map string_bytes p.marked.now) ++ map Operand (map string_bytes p.operands.now)

-- the command that what was found and these parts make together
abbrev pub job_with : Found → List Part → Option JobCommand
job_with found parts =
    if list_all is_known parts
    then job_from (option_to_list (option_map (λ job. job.now) found.job) ++ filter_map operand_in parts)
    (option_to_list found.options.workers ++ filter_map workers_in parts)
    (option_to_list found.options.members ++ filter_map members_in parts)
    (option_to_list found.options.ring ++ filter_map ring_in parts)
    else None

-- neither a job nor an option
abbrev pub nothing_found : Found
nothing_found = record { job = None; options = record { workers = None; members = None; ring = None } }

-- what was found, a part, and any parts behind it make the command that the new finding makes with those behind, or none
abbrev pub ReadsPart : Found → Part → Option Found → Type 0
ReadsPart old part new = MatchOption new ((rest : List Part) → job_with old (part ∷ rest) ≡ None)
    (λ found. (rest : List Part) → job_with old (part ∷ rest) ≡ job_with found rest)
