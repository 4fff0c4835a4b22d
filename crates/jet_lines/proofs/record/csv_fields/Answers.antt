use Rattle.std.proofs.Common.{refl, inr}
use Rattle.jet_lines.proofs.CsvLemmas.{took_fields}
use Rattle.jet_lines.proofs.record.csv_fields.Goals as goal

pub returns-in-Ok : goal.returns-in-Ok
returns-in-Ok c =
    let from = c.from_reader-reader.ensures in
    let one = c.has_headers.ensures in
    let two = c.flexible.ensures in
    let config = rw (two, one, c.new.ensures.config) at from.config in
    let no_trim = rw (two, one, c.new.ensures.trim) at from.trim in
    let no_names = rw (two, one) at from.has_headers in
    let read = c.in-Ok.ensures.reads no_trim (inr (inr (no_names, from.headers))) in
    let next = rw (config, from.state, from.source) at read.0 in
    took_fields _ c.in-Ok.field-0 _ _ c.args.line.now _ c.requires.some c.requires.good refl c.requires.form next
