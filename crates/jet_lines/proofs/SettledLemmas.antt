-- What `next` answers is settled by what it has.
use Rattle.std.proofs.Common.{◌≡◌, ◌⊎◌, ℕ, ◌+◌, ◌<◌, ◌≤◌, List, [], ◌∷◌, ◌++◌, Bool, false, length, get_or, refl, ap, subst, sym, ◌∙◌, inl, inr, arith, length-append}
use Rattle.std.proofs.lemmas.Bool.{cases_lt}
use Rattle.std.proofs.Math.ListN.{get_or-append}
use Rattle.std.proofs.Math.Seq.{get_or-append_seam}
use Rattle.std.proofs.lemmas.List.{append-nil}
use Rattle.std.specs.Str.Lines.{strip_carriage_return}
use Rattle.jet_lines.specs.Cutting.{BeginsWith, HasLine, HasLongLine, IsOpen, NextIs}
use Rattle.jet_lines.specs.Feeds.{NoFeed}
use Rattle.jet_lines.specs.Lines.{lines_of}
use Rattle.jet_lines.specs.LinesValue.{LinesValue}
use Rattle.jet_lines.specs.declared.cut.Cut.{Cut}
use Rattle.jet_lines.specs.declared.cut.Cut.TheVariants as cut
use Rattle.jet_lines.specs.declared.fault.LineFault.{LineFault}
use Rattle.jet_lines.specs.declared.fault.LineFault.TheVariants as fault
use Rattle.jet_lines.proofs.CutLemmas.{last_is, some_line}

-- an answer that a line is bad
Why : LinesValue → ℕ → LineFault → Type 0
Why v n f = (n ≡ v.number + 1)
    × (((f ≡ fault.TooMany) × (v.most < n) × HasLine v.ended v.rest) ⊎ ((f ≡ fault.TooLong) × (n ≤ v.most) × HasLongLine v.ended v.rest))

why : (v x : LinesValue) (n : ℕ) (f : LineFault) → NextIs v (cut.Bad n f) x → Why v n f
unfolding Why
why v x n fault.TooMany p = (p.0, inl (refl, p.1, p.2))
why v x n fault.TooLong p = (p.0, inr (refl, p.1, p.2))
why v x n (fault.BadByte at) p = absurd p
why v x n fault.Quote p = absurd p
why v x n fault.Fields p = absurd p
why v x n (fault.Number i) p = absurd p
why v x n (fault.Key k) p = absurd p
why v x n fault.KeyFull p = absurd p

line_now : (ended : Bool) (rest line after : List ℕ) → BeginsWith ended rest line after → lines_of rest ≡ line ∷ lines_of after
line_now ended rest line after begins =
    ap lines_of (sym (append-nil rest)) ∙ begins [] (λ e. refl) ∙ ap (λ (t : List ℕ). line ∷ lines_of t) (append-nil after)

some_now : (ended : Bool) (rest : List ℕ) → HasLine ended rest → (line : List ℕ) × (others : List (List ℕ)) × (lines_of rest ≡ line ∷ others)
some_now ended rest has =
    let (line, others, e) = has [] (λ e. refl) in (line, others, ap lines_of (sym (append-nil rest)) ∙ e)

long_now : (ended : Bool) (rest : List ℕ) → HasLongLine ended rest → (line : List ℕ) × (others : List (List ℕ)) × (lines_of rest ≡ line ∷ others) × (512 < length line)
long_now ended rest has =
    let (line, others, e, n) = has [] (λ e. refl) in (line, others, ap lines_of (sym (append-nil rest)) ∙ e, n)

no_line : (rest : List ℕ) (line : List ℕ) (others : List (List ℕ)) → rest ≡ [] → lines_of rest ≡ line ∷ others → ⊥
no_line rest line others none e = cc (sym (ap lines_of none) ∙ e)

one_more : (rest : List ℕ) → NoFeed rest (length rest) → NoFeed (rest ++ 65 ∷ []) (length (rest ++ 65 ∷ []))
one_more rest none k below e = elim (cases_lt k (length rest)) [
  | inl before ↦ none k before (sym (get_or-append rest (65 ∷ []) 0 k before) ∙ e)
  | inr from ↦
      let here : length rest ≡ k = omega (arith, below, length-append rest (65 ∷ [])) in
      cc (sym (get_or-append_seam rest 65 [] 0) ∙ ap (λ i. get_or (rest ++ 65 ∷ []) i 0) here ∙ e)
]

-- a line cannot both stand ready and be open
line_open : (rest line after : List ℕ) → BeginsWith false rest line after → IsOpen rest → ⊥
line_open rest line after begins open_line =
    let longer = last_is (rest ++ 65 ∷ []) (omega (arith, length-append rest (65 ∷ []))) (one_more rest open_line.0) in
    let both = sym longer ∙ begins (65 ∷ []) (λ e. cc e) in
    let (next, others, e) = some_line (after ++ 65 ∷ []) (omega (arith, length-append after (65 ∷ []))) in
    cc (both ∙ ap (λ (all : List (List ℕ)). line ∷ all) e)

long_open : (rest : List ℕ) → HasLongLine false rest → IsOpen rest → ⊥
long_open rest has open_line =
    let (line, others, e, n) = long_now false rest has in
    elim (cases_lt 0 (length rest)) [
      | inl some ↦
          let one = sym (last_is rest some open_line.0) ∙ e in
          let same : strip_carriage_return rest ≡ line = cc one in
          absurd (omega (arith, ap length same, n, open_line.1))
      | inr none ↦ no_line rest line others (empty rest none) e
    ]
  where
    empty : (xs : List ℕ) → length xs ≤ 0 → xs ≡ []
    empty [] h = refl
    empty (x ∷ xs) h = absurd (omega arith)

line_long : (ended : Bool) (rest line after : List ℕ) → BeginsWith ended rest line after → length line ≤ 512 → HasLongLine ended rest → ⊥
line_long ended rest line after begins few has =
    let (other, others, e, n) = long_now ended rest has in
    let both = sym (line_now ended rest line after begins) ∙ e in
    let same : line ≡ other = cc both in
    absurd (omega (arith, ap length same, few, n))

-- which answers shut each other out
line_more : (v : LinesValue) (n : ℕ) (x : LinesValue) {y : LinesValue} → NextIs v (cut.Line n) x → NextIs v cut.More y → ⊥
line_more v n x p q = line_open v.rest x.line x.rest (subst (λ (e : Bool). BeginsWith e v.rest x.line x.rest) q.0 p.3) q.1

line_bad : (v : LinesValue) (n m : ℕ) (f : LineFault) (x : LinesValue) → NextIs v (cut.Line n) x → Why v m f → ⊥
unfolding Why
line_bad v n m f x p (is, inl many) = absurd (omega (arith, p.0, p.1, is, many.1))
line_bad v n m f x p (is, inr long) = line_long v.ended v.rest x.line x.rest p.3 p.2 long.2

more_bad : (v : LinesValue) (m : ℕ) (f : LineFault) (x : LinesValue) → NextIs v cut.More x → Why v m f → ⊥
unfolding Why
more_bad v m f x p (is, inr long) = long_open v.rest (subst (λ (e : Bool). HasLongLine e v.rest) p.0 long.2) p.1
more_bad v m f x p (is, inl many) =
    let (line, others, e) = some_now v.ended v.rest many.2 in no_line v.rest line others (p.2 (omega (arith, is, many.1))) e

bad_end : (v : LinesValue) (n : ℕ) (f : LineFault) → Why v n f → v.rest ≡ [] → ⊥
unfolding Why
bad_end v n f (is, inl many) none = let (line, others, e) = some_now v.ended v.rest many.2 in no_line v.rest line others none e
bad_end v n f (is, inr long) none = let (line, others, e, k) = long_now v.ended v.rest long.2 in no_line v.rest line others none e

bad_bad : (v : LinesValue) (n m : ℕ) (f g : LineFault) → Why v n f → Why v m g → cut.Bad n f ≡ cut.Bad m g
unfolding Why
bad_bad v n m f g (is, inl one) (also, inl two) = cc (is, also, one.0, two.0)
bad_bad v n m f g (is, inr one) (also, inr two) = cc (is, also, one.0, two.0)
bad_bad v n m f g (is, inl one) (also, inr two) = absurd (omega (arith, is, also, one.1, two.1))
bad_bad v n m f g (is, inr one) (also, inl two) = absurd (omega (arith, is, also, one.1, two.1))

-- two answers to the same are one
pub settled : (v x y : LinesValue) (a b : Cut) → NextIs v a x → NextIs v b y → a ≡ b
unfolding Why
settled v x y (cut.Line n) (cut.Line m) p q = ap cut.Line (p.0 ∙ sym q.0)
settled v x y (cut.Line n) cut.More p q = absurd (line_more v n x p q)
settled v x y (cut.Line n) (cut.Bad m f) p q = absurd (line_bad v n m f x p (why v y m f q))
settled v x y (cut.Line n) cut.End p q = absurd (no_line v.rest x.line (lines_of x.rest) q.1 (line_now v.ended v.rest x.line x.rest p.3))
settled v x y cut.More (cut.Line m) p q = absurd (line_more v m y q p)
settled v x y cut.More cut.More p q = refl
settled v x y cut.More (cut.Bad m f) p q = absurd (more_bad v m f x p (why v y m f q))
settled v x y cut.More cut.End p q = absurd (cc (sym p.0 ∙ q.0))
settled v x y (cut.Bad n f) (cut.Line m) p q = absurd (line_bad v m n f y q (why v x n f p))
settled v x y (cut.Bad n f) cut.More p q = absurd (more_bad v n f y q (why v x n f p))
settled v x y (cut.Bad n f) (cut.Bad m g) p q = bad_bad v n m f g (why v x n f p) (why v y m g q)
settled v x y (cut.Bad n f) cut.End p q = absurd (bad_end v n f (why v x n f p) q.1)
settled v x y cut.End (cut.Line m) p q = absurd (no_line v.rest y.line (lines_of y.rest) p.1 (line_now v.ended v.rest y.line y.rest q.3))
settled v x y cut.End cut.More p q = absurd (cc (sym q.0 ∙ p.0))
settled v x y cut.End (cut.Bad m f) p q = absurd (bad_end v m f (why v y m f q) p.1)
settled v x y cut.End cut.End p q = refl
