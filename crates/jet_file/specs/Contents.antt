-- The files of an outside in memory.
use Rattle.std.specs.Prelude.{ℕ, List, find, Option, option_map, bytes_eq}
use Rattle.jet_file.specs.declared.stored.StoredFile.{StoredFile}

-- the bytes of the first file of a name
abbrev pub content_in : List StoredFile → List ℕ → Option (List ℕ)
content_in files name = option_map (λ f. f.content.items) (find (λ f. bytes_eq f.name.items name) files)
