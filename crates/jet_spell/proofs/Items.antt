-- Items: what is spelled is read, and what is read is spelled so.
use Rattle.std.proofs.Common.{◌≡◌, ℕ, zero, suc, ◌+◌, ◌-◌, ◌<◌, ◌≤◌, List, [], ◌∷◌, ◌++◌, length, drop, Some, None, refl, sym, ap, subst, ◌∙◌, arith}
use Rattle.std.specs.Int.{w16, w32, w64, w128}
use Rattle.std.proofs.lemmas.Bool.{ne_eqb}
use Rattle.std.proofs.lemmas.List.{length-append, drop_at}
use Rattle.jet_items.specs.Fits.{EventFits, SideFits, AccFits, FrameFits, RowFits, LateFits, ItemFits}
use Rattle.jet_items.specs.Ranges.{IsWithin, most_time, most_frame_end, most_row_end, most_mark}
use Rattle.jet_items.specs.declared.item.Item.{Item}
use Rattle.jet_items.specs.declared.item.Item.TheVariants as item
use Rattle.jet_spell.specs.Spelling.{signed_bytes, event_bytes, side_bytes, acc_bytes, span_bytes, spelling}
use Rattle.jet_spell.specs.Reading.{Reads, made, event_at, side_at, acc_at, frame_at, row_at, late_at, within_at, byte_at, kind_at, item_at}
use Rattle.jet_spell.specs.Begins.{BeginsWith, BeginsNone}
use Rattle.jet_spell.specs.Laws.{AreBytes}
use Rattle.jet_spell.proofs.Fields.{IsField, both_field, made_field, byte_field, number_field, signed_field, within_field, key_field, values_field, taken_apart, same_in}

time_field : IsField (IsWithin most_time) (signed_bytes w64) (within_at most_time)
time_field = within_field most_time (omega arith)

event_field : IsField EventFits event_bytes event_at
unfolding event_at
event_field = made_field _ (λ e. (e.part, (e.line, (e.ts, (e.key, e.v))))) (record {
  fits_back = λ e f. (f.part, (f.line, (f.ts, (f.key, (f.four, f.v)))));
  is = λ e f. refl;
  spelled_back = λ e f. refl;
  fits_made = λ p f. record { part = f.0; line = f.1.0; ts = f.1.1.0; key = f.1.1.1.0; four = f.1.1.1.1.0; v = f.1.1.1.1.1 };
  spelled_made = λ p f. refl;
}) (both_field (number_field w16) (both_field (number_field w32) (both_field time_field (both_field key_field (values_field 4)))))

side_field : IsField SideFits side_bytes side_at
unfolding side_at
side_field = made_field _ (λ s. (s.line, (s.key, (s.label, s.v)))) (record {
  fits_back = λ s f. (f.line, (f.key, (f.label, (f.four, f.v))));
  is = λ s f. refl;
  spelled_back = λ s f. refl;
  fits_made = λ p f. record { line = f.0; key = f.1.0; label = f.1.1.0; four = f.1.1.1.0; v = f.1.1.1.1 };
  spelled_made = λ p f. refl;
}) (both_field (number_field w32) (both_field key_field (both_field key_field (values_field 4))))

acc_field : IsField AccFits acc_bytes acc_at
unfolding acc_at
acc_field = made_field _ (λ a. (a.count, (a.sum, (a.min, a.max)))) (record {
  fits_back = λ a f. (f.count, (f.sum, (f.min, f.max)));
  is = λ a f. refl;
  spelled_back = λ a f. refl;
  fits_made = λ p f. record { count = f.0; sum = f.1.0; min = f.1.1.0; max = f.1.1.1 };
  spelled_made = λ p f. refl;
}) (both_field (number_field w64) (both_field (signed_field w128) (both_field time_field time_field)))

frame_field : IsField FrameFits (λ f. span_bytes f.vertex f.end f.key f.acc) frame_at
unfolding frame_at
frame_field = made_field _ (λ f. (f.vertex, (f.end, (f.key, f.acc)))) (record {
  fits_back = λ x f. (f.vertex, (f.end, (f.key, f.acc)));
  is = λ x f. refl;
  spelled_back = λ x f. refl;
  fits_made = λ p f. record { vertex = f.0; end = f.1.0; key = f.1.1.0; acc = f.1.1.1 };
  spelled_made = λ p f. refl;
}) (both_field byte_field (both_field (within_field most_frame_end (omega arith)) (both_field key_field acc_field)))

row_field : IsField RowFits (λ r. span_bytes r.vertex r.end r.key r.acc) row_at
unfolding row_at
row_field = made_field _ (λ r. (r.vertex, (r.end, (r.key, r.acc)))) (record {
  fits_back = λ x f. (f.vertex, (f.end, (f.key, f.acc)));
  is = λ x f. refl;
  spelled_back = λ x f. refl;
  fits_made = λ p f. record { vertex = f.0; end = f.1.0; key = f.1.1.0; acc = f.1.1.1 };
  spelled_made = λ p f. refl;
}) (both_field byte_field (both_field (within_field most_row_end (omega arith)) (both_field key_field acc_field)))

late_field : IsField LateFits (λ l. l.vertex ∷ event_bytes l.event) late_at
unfolding late_at
late_field = made_field _ (λ l. (l.vertex, l.event)) (record {
  fits_back = λ l f. (f.vertex, f.event);
  is = λ l f. refl;
  spelled_back = λ l f. refl;
  fits_made = λ p f. record { vertex = f.0; event = f.1 };
  spelled_made = λ p f. refl;
}) (both_field byte_field event_field)

mark_field : IsField (IsWithin most_mark) (signed_bytes w64) (within_at most_mark)
mark_field = within_field most_mark (omega arith)

-- ---- what is spelled is read

pub reads_back : (x : Item) (rest : List ℕ) → ItemFits x → item_at (spelling x ++ rest) ≡ Some (x, rest)
unfolding item_at kind_at byte_at spelling
reads_back (item.Event e) rest f = rw (event_field.again e rest f) refl
reads_back (item.Side s) rest f = rw (side_field.again s rest f) refl
reads_back (item.Frame s) rest f = rw (frame_field.again s rest f) refl
reads_back (item.Row r) rest f = rw (row_field.again r rest f) refl
reads_back (item.Late l) rest f = rw (late_field.again l rest f) refl
reads_back (item.Mark t) rest f = rw (mark_field.again t rest f) refl
reads_back item.Done rest f = refl
reads_back item.Idle rest f = refl

-- ---- what is read is spelled so

-- a kind of item, by its tag
kind_spelled : {A : Type 0} {F : A → Type 0} {s : A → List ℕ} {f : Reads A} (make : A → Item) (tag : ℕ)
    → ((a : A) → (spelling (make a) ≡ tag ∷ s a)) → ((a : A) → F a → ItemFits (make a)) → IsField F s f
    → (bytes : List ℕ) (x : Item) (rest : List ℕ) → AreBytes bytes → made make f bytes ≡ Some (x, rest) → (tag ∷ bytes ≡ spelling x ++ rest) × ItemFits x
kind_spelled {A} {F} {s} {f} make tag spelled fits one bytes x rest small e =
    let first = taken_apart (f bytes) (λ a. Some (make a.0, a.1)) (x, rest) e in
    let front = one.spelled bytes first.0.0 first.0.1 small first.1 in
    subst (λ (q : Item × List ℕ). (tag ∷ bytes ≡ spelling q.0 ++ q.1) × ItemFits q.0) (same_in (make first.0.0, first.0.1) (x, rest) first.2)
    (rw (spelled first.0.0) (ap (λ (l : List ℕ). tag ∷ l) front.0), fits first.0.0 front.1)

pub none_is : {A : Type 0} (a : A) → None ≡ Some a → ⊥
none_is a e = cc

no_kind : (t : ℕ) (bytes : List ℕ) → 8 < t → kind_at t bytes ≡ None
unfolding kind_at
no_kind t bytes above = rw (ne_eqb t 1 (λ e. omega arith), ne_eqb t 2 (λ e. omega arith), ne_eqb t 3 (λ e. omega arith), ne_eqb t 4 (λ e. omega arith), ne_eqb t 5 (λ e. omega arith), ne_eqb t 6 (λ e. omega arith), ne_eqb t 7 (λ e. omega arith), ne_eqb t 8 (λ e. omega arith)) refl

kind_so : (tag : ℕ) (bytes : List ℕ) (x : Item) (rest : List ℕ) → AreBytes bytes → kind_at tag bytes ≡ Some (x, rest) → (tag ∷ bytes ≡ spelling x ++ rest) × ItemFits x
unfolding kind_at spelling
kind_so zero bytes x rest small e = cc
kind_so (suc zero) bytes x rest small e = kind_spelled (λ e. item.Event e) 1 (λ e. refl) (λ e f. f) event_field bytes x rest small e
kind_so (suc (suc zero)) bytes x rest small e = kind_spelled (λ s. item.Side s) 2 (λ s. refl) (λ s f. f) side_field bytes x rest small e
kind_so (suc (suc (suc zero))) bytes x rest small e = kind_spelled (λ s. item.Frame s) 3 (λ s. refl) (λ s f. f) frame_field bytes x rest small e
kind_so (suc (suc (suc (suc zero)))) bytes x rest small e = kind_spelled (λ r. item.Row r) 4 (λ r. refl) (λ r f. f) row_field bytes x rest small e
kind_so (suc (suc (suc (suc (suc zero))))) bytes x rest small e = kind_spelled (λ l. item.Late l) 5 (λ l. refl) (λ l f. f) late_field bytes x rest small e
kind_so (suc (suc (suc (suc (suc (suc zero)))))) bytes x rest small e = kind_spelled (λ t. item.Mark t) 6 (λ t. refl) (λ t f. f) mark_field bytes x rest small e
kind_so (suc (suc (suc (suc (suc (suc (suc zero))))))) bytes x rest small e =
    subst (λ (q : Item × List ℕ). (7 ∷ bytes ≡ spelling q.0 ++ q.1) × ItemFits q.0) (same_in (item.Done, bytes) (x, rest) e) (refl, tt)
kind_so (suc (suc (suc (suc (suc (suc (suc (suc zero)))))))) bytes x rest small e =
    subst (λ (q : Item × List ℕ). (8 ∷ bytes ≡ spelling q.0 ++ q.1) × ItemFits q.0) (same_in (item.Idle, bytes) (x, rest) e) (refl, tt)
kind_so (suc (suc (suc (suc (suc (suc (suc (suc (suc n))))))))) bytes x rest small e = absurd (none_is (x, rest) (sym (no_kind (suc (suc (suc (suc (suc (suc (suc (suc (suc n))))))))) bytes (omega arith)) ∙ e))

pub spelled_so : (bytes : List ℕ) (x : Item) (rest : List ℕ) → AreBytes bytes → item_at bytes ≡ Some (x, rest) → (bytes ≡ spelling x ++ rest) × ItemFits x
unfolding item_at byte_at
spelled_so [] x rest small e = cc
spelled_so (tag ∷ bytes) x rest small e = kind_so tag bytes x rest (λ i. small (suc i)) e

pub one_spelling : (x y : Item) (a b : List ℕ) → ItemFits x → ItemFits y → spelling x ++ a ≡ spelling y ++ b → (x ≡ y) × (a ≡ b)
one_spelling x y a b fx fy e =
    let both : (x, a) ≡ (y, b) = same_in (x, a) (y, b) (sym (reads_back x a fx) ∙ ap item_at e ∙ reads_back y b fy) in
    (ap (λ (p : Item × List ℕ). p.0) both, ap (λ (p : Item × List ℕ). p.1) both)

-- ---- how many bytes an item takes

pub begins_with : (bytes left : List ℕ) (x : Item) (n : ℕ) → (bytes ≡ spelling x ++ left) × ItemFits x → n ≡ length bytes - length left
    → (length left ≤ length bytes) × (drop n bytes ≡ left) × BeginsWith x n bytes
begins_with bytes left x n (is, fits) taken =
    let all : length bytes ≡ length (spelling x) + length left = ap length is ∙ length-append (spelling x) left in
    let len : n ≡ length (spelling x) = omega arith in
    let behind : drop n bytes ≡ left = ap (λ (l : List ℕ). drop n l) is ∙ drop_at (spelling x) left n (sym len) in
    (omega arith, behind, record { fits = fits; len = len; begins = is ∙ ap (λ (l : List ℕ). spelling x ++ l) (sym behind) })

pub begins_none : (bytes : List ℕ) → item_at bytes ≡ None → BeginsNone bytes
begins_none bytes none x rest fits is = none_is (x, rest) (sym none ∙ ap item_at is ∙ reads_back x rest fits)
