-- Laws of numbers: what is left to do of a file's lines, which becomes less with each piece.
use Rattle.std.proofs.Common.{◌≡◌, ℕ, ◌+◌, ◌-◌, ◌*◌, ◌<◌, ◌≤◌, Bool, true, false, cond, List, length, sym, ap, ◌∙◌, subst, arith, inl, inr, length-append, length-take-le, take, get_or, nat_eq}
use Rattle.std.specs.Str.Lines.{strip_carriage_return}
use Rattle.jet_lines.specs.Cutting.{NextIs}
use Rattle.jet_lines.specs.LinesValue.{LinesValue}
use Rattle.jet_lines.specs.declared.cut.Cut.TheVariants as cut
use Rattle.jet_worker.specs.Feeding.{PutsPiece}

-- a carriage return at the end is one byte
strip_len : (line : List ℕ) → length line ≤ length (strip_carriage_return line) + 1
strip_len line = strip_if (nat_eq (get_or line (length line - 1) 0) 13)
  where
    strip_if : (b : Bool) → length line ≤ length (cond b (take (length line - 1) line) line) + 1
    strip_if true = let short = length-take-le (length line - 1) line (omega arith) in omega (arith, short)
    strip_if false = omega arith

abbrev flag : Bool → ℕ
flag b = cond b 0 1

abbrev pub left : LinesValue → ℕ
left v = (v.most - v.number) * 5002 + (5000 - length v.rest) + cond v.ended 0 1

step_piece : (lines lines' : LinesValue) → lines.ended ≡ false → length lines.rest ≤ 513 → PutsPiece lines lines' → left lines' < left lines
step_piece lines lines' live short (inl (piece, some, small, is)) =
    let rest : length lines'.rest ≡ length lines.rest + length piece = ap (λ (v : LinesValue). length v.rest) is ∙ length-append lines.rest piece in
    let ended : flag lines'.ended ≡ 1 = ap flag (ap (λ (v : LinesValue). v.ended) is ∙ live) in
    let old : flag lines.ended ≡ 1 = ap flag live in
    let whole : (lines'.most - lines'.number) * 5002 ≡ (lines.most - lines.number) * 5002 = ap (λ (v : LinesValue). (v.most - v.number) * 5002) is in
    omega (arith, rest, whole, ended, old, short, some, small)
step_piece lines lines' live short (inr is) =
    let rest : length lines'.rest ≡ length lines.rest = ap (λ (v : LinesValue). length v.rest) is in
    let ended : flag lines'.ended ≡ 0 = ap flag (ap (λ (v : LinesValue). v.ended) is) in
    let old : flag lines.ended ≡ 1 = ap flag live in
    let whole : (lines'.most - lines'.number) * 5002 ≡ (lines.most - lines.number) * 5002 = ap (λ (v : LinesValue). (v.most - v.number) * 5002) is in
    omega (arith, rest, whole, ended, old)

pub less_left : (lines lines1 lines' : LinesValue) → NextIs lines cut.More lines1 → PutsPiece lines1 lines' → left lines' < left lines
less_left lines lines1 lines' more puts =
    let same : lines1 ≡ lines = more.3 in
    let short : length lines.rest ≤ 513 = omega (arith, strip_len lines.rest, more.1.1) in
    subst (λ (v : LinesValue). left lines' < left v) same
    (step_piece lines1 lines' (ap (λ (v : LinesValue). v.ended) same ∙ more.0) (subst (λ (v : LinesValue). length v.rest ≤ 513) (sym same) short) puts)
