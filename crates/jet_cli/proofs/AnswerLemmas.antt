-- What Done to `window` says of late lines, and what a bad line does.
use Rattle.jet_laws.specs.InTime.{IsInTime, NoneIsBehind}
use Rattle.std.proofs.Common.{◌≡◌, ℕ, List, [], ◌∷◌, ◌++◌, map, filter, Bool, true, false, cond, Option, Some, None, refl, ap, sym, ◌∙◌, subst, append-nil, All, pos, ◌≤ℤ◌}
use Rattle.std.specs.Prelude.{IsSomeAnd, Any, ◌==◌}
use Rattle.std.specs.List.Sorted.{IsPermutation}
use Rattle.std.specs.List.{AllZip}
use Rattle.std.proofs.lemmas.List.Elements.{All-head, All-tail, All-cons, All-nil}
use Rattle.std.proofs.lemmas.List.Sorted.{All-permutation}
use Rattle.jet_items.specs.Rows.{Inflow}
use Rattle.jet_items.specs.Values.{EventValue, LateValue}
use Rattle.jet_lines.specs.Files.{first_bad_line, most_lines}
use Rattle.jet_lines.specs.Readings.{event_line}
use Rattle.jet_lines.specs.declared.fault.LineFault.{LineFault}
use Rattle.jet_file.specs.Headline.{late_at}
use Rattle.jet_file.specs.Outside.{Told, WhereTold}
use Rattle.jet_file.specs.Text.{late_text}
use Rattle.jet_file.specs.declared.outside.Out.TheVariants.{Notes}
use Rattle.jet_cli.specs.Answers.{HasGoodFile}
use Rattle.jet_cli.specs.Base.{base_window, base_events, base_behind}
use Rattle.jet_cli.specs.Done.{IsDone, IsQuiet, IsQuietInTime}
use Rattle.jet_cli.specs.LineStops.{IsFirstBadLine}
use Rattle.jet_cli.specs.Words.{WindowCommand}
use Rattle.jet_cli.proofs.DoneLemmas.{one_of}

pub all_front : {X : Type 0} (P : X → Type 0) (xs ys : List X) → All P (xs ++ ys) → All P xs
all_front P [] ys h = All-nil P
all_front P (x ∷ xs) ys h = All-cons P x xs (All-head P x (xs ++ ys) h) (all_front P xs ys (All-tail P x (xs ++ ys) h))

-- a late event is one of the window's events
none_late : (behind : EventValue → Bool) (inflow : Inflow) (late : List LateValue) → inflow.window.vertex ≡ 2 → All (λ l. behind l.event ≡ true) late
    → All (λ l. Any (λ (e : Inflow). e.window.vertex ≡ l.vertex) (inflow ∷ [])) late → All (λ e. behind e ≡ false) (late_at 2 late) → late ≡ []
none_late behind inflow [] two late_behind at fresh = refl
none_late behind inflow (l ∷ late) two late_behind at fresh =
    let vertex : l.vertex ≡ 2 = sym (one_of (λ (e : Inflow). e.window.vertex ≡ l.vertex) inflow (All-head (λ (l : LateValue). Any (λ (e : Inflow). e.window.vertex ≡ l.vertex) (inflow ∷ [])) l late at)) ∙ two in
    let here : late_at 2 (l ∷ late) ≡ l.event ∷ late_at 2 late =
    ap (λ (v : ℕ). map (λ (x : LateValue). x.event) (cond (v == 2) (l ∷ filter (λ (x : LateValue). x.vertex == 2) late) (filter (λ (x : LateValue). x.vertex == 2) late))) vertex in
    let first : behind l.event ≡ false =
    All-head (λ (e : EventValue). behind e ≡ false) l.event (late_at 2 late) (subst (λ (es : List EventValue). All (λ (e : EventValue). behind e ≡ false) es) here fresh) in
    absurd (not_both (behind l.event) (All-head (λ (l : LateValue). behind l.event ≡ true) l late late_behind) first)
  where
    not_both : (b : Bool) → b ≡ true → b ≡ false → ⊥
    not_both b t f = cc

late_of_one : (behind : EventValue → Bool) (inflow : Inflow) (late : List LateValue) (kept : List Inflow) → inflow.window.vertex ≡ 2 → All (λ e. behind e ≡ false) inflow.events
    → AllZip (λ (e k : Inflow). (k.window ≡ e.window) × IsPermutation e.events (late_at e.window.vertex late ++ k.events)) (inflow ∷ []) kept → All (λ e. behind e ≡ false) (late_at 2 late)
late_of_one behind inflow late [] two fresh once = absurd once
late_of_one behind inflow late (k ∷ kept) two fresh once =
    let all : All (λ (e : EventValue). behind e ≡ false) (late_at inflow.window.vertex late ++ k.events) =
    All-permutation (λ (e : EventValue). behind e ≡ false) inflow.events (late_at inflow.window.vertex late ++ k.events) once.0.1 fresh in
    subst (λ (v : ℕ). All (λ (e : EventValue). behind e ≡ false) (late_at v late)) two (all_front (λ (e : EventValue). behind e ≡ false) (late_at inflow.window.vertex late) k.events all)

pub quiet_is : (c : WindowCommand) (before now : ℕ → Bool) (old new : Told) → IsDone c before now old new → IsQuiet c old new
quiet_is c before now old new d =
    subst (λ (o : Option (List ℕ)). IsSomeAnd o (λ (content : List ℕ). All (λ (e : EventValue). base_behind c content e ≡ false) (base_events content) → new.written Notes ≡ old.written Notes)) (sym d.content_is)
    (λ none.
    let counted = d.headline.counted in
    let inflow : Inflow = record { window = base_window c; events = base_events d.content } in
    let fresh = late_of_one (base_behind c d.content) inflow d.headline.late counted.kept refl none counted.once in
    let late : d.headline.late ≡ [] = none_late (base_behind c d.content) inflow d.headline.late refl counted.late_behind counted.late_somewhere fresh in
    d.notes_written ∙ ap (λ (l : List ℕ). old.written Notes ++ l) (d.headline.notes_are ∙ ap (late_text (base_window c ∷ [])) late) ∙ append-nil (old.written Notes))

some_weaker : {X : Type 0} (o : Option X) (P Q : X → Type 0) → ((x : X) → P x → Q x) → IsSomeAnd o P → IsSomeAnd o Q
some_weaker None P Q f h = h
some_weaker (Some x) P Q f h = f x h

-- events in time leave no late line
pub in_time_is : (law : NoneIsBehind) (c : WindowCommand) (old new : Told) → pos 1 ≤ℤ pos c.slide → IsQuiet c old new → IsQuietInTime c old new
in_time_is law c old new step =
    some_weaker (old.content c.file) (λ content. All (λ e. base_behind c content e ≡ false) (base_events content) → new.written Notes ≡ old.written Notes)
    (λ content. IsInTime (pos c.lag) (base_events content) → new.written Notes ≡ old.written Notes)
    (λ content quiet in_time. quiet (law (pos c.lag) (pos c.slide) (base_events content) step in_time))

pub none_bad : (o : Option (List ℕ)) (n : ℕ) (why : LineFault) → IsSomeAnd o (λ content. first_bad_line (event_line 0) most_lines content ≡ None)
    → IsSomeAnd o (λ content. first_bad_line (event_line 0) most_lines content ≡ Some (n, why)) → ⊥
none_bad None n why good bad = good
none_bad (Some content) n why good bad = cc (sym good ∙ bad)

-- in a good file no line is bad
pub never_bad : (c : WindowCommand) (old new : Option Told) (p l : ℕ) (w : LineFault) → HasGoodFile c old → WhereTold (λ a b. IsFirstBadLine c p l w a) old new → ⊥
never_bad c None new p l w good h = good
never_bad c (Some old) None p l w good h = h
never_bad c (Some old) (Some new) p l w good h = none_bad (old.content c.file) l w good h.1
