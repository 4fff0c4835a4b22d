-- Rows that are printed one by one.
use Rattle.std.proofs.Common.{◌≡◌, ◌||◌, ℕ, Bool, true, false, ℤ, List, [], ◌∷◌, ◌++◌, Option, refl, sym, ◌∙◌, ap, append-nil, append_assoc}
use Rattle.std.specs.Prelude.{int_le}
use Rattle.std.specs.Option.{option_map_or}
use Rattle.std.proofs.lemmas.List.{flat_map_more}
use Rattle.std.proofs.lemmas.List.Elements.{All-nil, All-push}
use Rattle.jet_file.specs.Text.{window_line}
use Rattle.jet_items.specs.Rows.{Window}
use Rattle.jet_items.specs.Values.{RowValue}
use Rattle.jet_window.specs.Held.{WaitingRows, is_let_out}
use Rattle.jet_sink.specs.inner.LetOut.{Prints}

pub prints_none : (ws : List Window) (old : WaitingRows) (before : List ℕ) → Prints ws old old before before
prints_none ws old before = record {
  given = [];
  rows = refl;
  out = All-nil (λ row. is_let_out old row ≡ true);
  passed = refl;
  closed = refl;
  lines = sym (append-nil before);
}

-- whether a row is let out rests on the marks that passed and on the end alone
pub same_out : (a b : WaitingRows) (row : RowValue) (out : Bool) → b.passed ≡ a.passed → b.closed ≡ a.closed → is_let_out b row ≡ out → is_let_out a row ≡ out
same_out a b row out p c h =
    ap (λ (passed : Option ℤ). a.closed || option_map_or (λ t. int_le row.end t) passed false) (sym p)
    ∙ (ap (λ (closed : Bool). closed || option_map_or (λ t. int_le row.end t) b.passed false) (sym c) ∙ h)

pub prints_more : (ws : List Window) (old mid new : WaitingRows) (row : RowValue) (before now after : List ℕ) → Prints ws old mid before now → mid ≡ record new { rows = row ∷ new.rows }
    → is_let_out mid row ≡ true → after ≡ now ++ window_line ws row → Prints ws old new before after
prints_more ws old mid new row before now after h is out line = record {
  given = h.given ++ row ∷ [];
  rows = h.rows ∙ (ap (λ (m : WaitingRows). h.given ++ m.rows) is ∙ sym (append_assoc h.given (row ∷ []) new.rows));
  out = All-push (λ r. is_let_out old r ≡ true) h.given row h.out (same_out old mid row true h.passed h.closed out);
  passed = sym (ap (λ (m : WaitingRows). m.passed) is) ∙ h.passed;
  closed = sym (ap (λ (m : WaitingRows). m.closed) is) ∙ h.closed;
  lines = line ∙ (ap (λ (text : List ℕ). text ++ window_line ws row) h.lines ∙ flat_map_more (window_line ws) before h.given row);
}
