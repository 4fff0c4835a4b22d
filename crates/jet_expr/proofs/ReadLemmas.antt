-- The tokens of a text, one behind the other.
use Rattle.std.proofs.Common.{◌≡◌, ◌≢◌, ℕ, zero, suc, ◌+◌, ◌-◌, ◌≤◌, ◌<◌, Bool, true, false, cond, List, [], ◌∷◌, length, drop, take, get_or, Option, Some, None, Result, Err, refl, ap, sym, ◌∙◌, arith, drop-cons, length-drop, subst, pred}
use Rattle.std.proofs.lemmas.Bool.{cond_both, cond-true, cond-false, eqb-true, eq-eqb, ne_eqb}
use Rattle.std.proofs.lemmas.List.Folds.{length-prefix_len}
use Rattle.std.proofs.lemmas.List.Sums.{prefix_len-le-length}
use Rattle.std.proofs.lemmas.List.{drop-drop, take_all}
use Rattle.std.specs.Prelude.{◌==◌, ◌||◌, slice_index, take_while}
use Rattle.std.specs.List.{prefix_len}
use Rattle.std.specs.Int.{is_in_range}
use Rattle.std.specs.Char.{is_ascii_digit, is_ascii_alphabetic, is_ascii_alphanumeric}
use Rattle.jet_expr.specs.Tokens.{token_of, tokens_from, number_token, word_token, sign_of, sign_token}
use Rattle.jet_items.specs.declared.no_memory.Refused.{Refused}
use Rattle.jet_items.specs.declared.no_memory.Refused.TheVariants as refused
use Rattle.jet_expr.specs.Term.{Term}
use Rattle.jet_items.specs.Gives.{Fails}
use Rattle.jet_expr.specs.Advances.{Refuses}
use Rattle.jet_expr.specs.Machine.{State, terms, outcome, advance, on_step, fault_at, is_full}
use Rattle.jet_expr.specs.declared.fault.ExprFault.{ExprFault}
use Rattle.jet_expr.specs.declared.token.Token.{Token}
use Rattle.jet_expr.specs.declared.token.Token.TheVariants.{Sign}
use Rattle.jet_expr.specs.declared.operator.Operator.TheVariants.{Unequal, AtMost, AtLeast}

pub record HasSize (xs : List ℕ) (r : Token × ℕ) : Type 0 where
  pub some : 1 ≤ r.1
  pub within : r.1 ≤ length xs

front_size : (p : ℕ → Bool) (c : ℕ) (xs : List ℕ) (t : Token) → p c ≡ true → HasSize (c ∷ xs) (t, length (take_while p (c ∷ xs)))
front_size p c xs t e = record {
  some = omega (arith, length-prefix_len p (c ∷ xs), first);
  within = omega (arith, length-prefix_len p (c ∷ xs), prefix_len-le-length p (c ∷ xs));
}
  where
    first : prefix_len p (c ∷ xs) ≡ 1 + prefix_len p xs
    first = ap (λ (b : Bool). cond b (1 + prefix_len p xs) 0) e

one_size : (c : ℕ) (xs : List ℕ) (t : Token) → HasSize (c ∷ xs) (t, 1)
one_size c xs t = record { some = omega arith; within = omega arith }

two_size : (c : ℕ) (xs : List ℕ) (t : Token) → 2 ≤ length (c ∷ xs) → HasSize (c ∷ xs) (t, 2)
two_size c xs t h = record { some = omega arith; within = h }

sign_size : (c : ℕ) (xs : List ℕ) (next : ℕ) → (next ≡ 61 → 2 ≤ length (c ∷ xs)) → HasSize (c ∷ xs) (sign_of c next)
sign_size c xs next long =
    cond_both (next == 61) _ (sign_token c, 1) (HasSize (c ∷ xs))
    (λ e. let two = long (eqb-true next 61 e) in
    cond_both (c == 33) (Sign Unequal, 2) _ (HasSize (c ∷ xs)) (λ d. two_size c xs (Sign Unequal) two)
    (λ d. cond_both (c == 60) (Sign AtMost, 2) _ (HasSize (c ∷ xs)) (λ f. two_size c xs (Sign AtMost) two)
    (λ f. cond_both (c == 62) (Sign AtLeast, 2) (sign_token c, 1) (HasSize (c ∷ xs)) (λ g. two_size c xs (Sign AtLeast) two) (λ g. one_size c xs (sign_token c)))))
    (λ e. one_size c xs (sign_token c))

two_bytes : (c : ℕ) (xs : List ℕ) → slice_index (c ∷ xs) 1 ≡ 61 → 2 ≤ length (c ∷ xs)
two_bytes c [] e = absurd (omega (arith, e))
two_bytes c (x ∷ xs) e = omega arith

or_more : (a b d : Bool) → (a || b) ≡ true → ((d || a) || b) ≡ true
or_more a b true e = refl
or_more a b false e = e

letter : (c : ℕ) → is_ascii_alphabetic c ≡ true → is_ascii_alphanumeric c ≡ true
letter c e = or_more (is_in_range 65 90 c) (is_in_range 97 122 c) (is_in_range 48 57 c) e

-- a token has some bytes of the text, and no more than there are
token_size : (c : ℕ) (xs : List ℕ) → HasSize (c ∷ xs) (token_of (c ∷ xs))
token_size c xs =
    cond_both (is_ascii_digit c) (number_token (take_while is_ascii_digit (c ∷ xs)), length (take_while is_ascii_digit (c ∷ xs))) _ (HasSize (c ∷ xs))
    (λ e. front_size is_ascii_digit c xs _ e)
    (λ e. cond_both (is_ascii_alphabetic c) (word_token (take_while is_ascii_alphanumeric (c ∷ xs)), length (take_while is_ascii_alphanumeric (c ∷ xs))) _ (HasSize (c ∷ xs))
    (λ d. front_size is_ascii_alphanumeric c xs _ (letter c d))
    (λ d. sign_size c xs (slice_index (c ∷ xs) 1) (two_bytes c xs)))

skipped : (at k : ℕ) (xs : List ℕ) → k ≤ length xs → tokens_from at k xs ≡ tokens_from (at + k) 0 (drop k xs)
skipped at zero xs h = ap (λ (n : ℕ). tokens_from n 0 xs) (omega arith)
skipped at (suc k) [] h = absurd (omega (arith, h))
skipped at (suc k) (x ∷ xs) h = skipped (at + 1) k xs (omega (arith, h)) ∙ ap (λ (n : ℕ). tokens_from n 0 (drop k xs)) (omega arith)

-- the tokens from a place on, where the text goes on
pub record ReadsOn (text : List ℕ) (at : ℕ) : Type 0 where
  pub blank : get_or text at 0 ≡ 32 → tokens_from at 0 (drop at text) ≡ tokens_from (at + 1) 0 (drop (at + 1) text)
  pub token : get_or text at 0 ≢ 32 → tokens_from at 0 (drop at text) ≡ (at, (token_of (drop at text)).0) ∷ tokens_from (at + (token_of (drop at text)).1) 0 (drop (at + (token_of (drop at text)).1) text)
  pub some : 1 ≤ (token_of (drop at text)).1
  pub within : at + (token_of (drop at text)).1 ≤ length text

drop_on : (text : List ℕ) (at c n : ℕ) (xs : List ℕ) → drop at text ≡ c ∷ xs → 1 ≤ n → drop (at + n) text ≡ drop (pred n) xs
drop_on text at c zero xs is h = absurd (omega (arith, h))
drop_on text at c (suc n) xs is h = sym (drop-drop (suc n) at text) ∙ ap (drop (suc n)) is

goes_at : (text : List ℕ) (at c : ℕ) (xs : List ℕ) → drop at text ≡ c ∷ xs → get_or text at 0 ≡ c → at < length text → ReadsOn text at
goes_at text at c xs is first below =
    let t = token_of (c ∷ xs) in
    let s = token_size c xs in
    let all : length text ≡ at + length (c ∷ xs) = omega (arith, length-drop at text, ap length is, below) in
    record {
      blank = λ e.
          ap (tokens_from at 0) is
          ∙ (cond-true (c == 32) (tokens_from (at + 1) 0 xs) ((at, t.0) ∷ tokens_from (at + 1) (pred t.1) xs) (eq-eqb c 32 (sym first ∙ e))
          ∙ ap (tokens_from (at + 1) 0) (sym (drop_on text at c 1 xs is (omega arith))));
      token = λ ne.
          ap (tokens_from at 0) is
          ∙ (cond-false (c == 32) (tokens_from (at + 1) 0 xs) ((at, t.0) ∷ tokens_from (at + 1) (pred t.1) xs) (ne_eqb c 32 (λ e. ne (first ∙ e)))
          ∙ (ap (λ (x : List (ℕ × Token)). (at, t.0) ∷ x)
          (skipped (at + 1) (pred t.1) xs (omega (arith, s.some, s.within))
          ∙ (ap (tokens_from (at + 1 + pred t.1) 0) (sym (drop_on text at c t.1 xs is s.some)) ∙ ap (λ (n : ℕ). tokens_from n 0 (drop (at + t.1) text)) (omega (arith, s.some))))
          ∙ ap (λ (ys : List ℕ). (at, (token_of ys).0) ∷ tokens_from (at + (token_of ys).1) 0 (drop (at + (token_of ys).1) text)) (sym is)));
      some = subst (λ (ys : List ℕ). 1 ≤ (token_of ys).1) (sym is) s.some;
      within = subst (λ (ys : List ℕ). at + (token_of ys).1 ≤ length text) (sym is) (omega (arith, s.within, all));
    }

pub goes : (text : List ℕ) (at : ℕ) → at < length text → ReadsOn text at
goes text at below = goes_at text at (get_or text at 0) (drop (suc at) text) (drop-cons text at 0 below) refl below

-- what the text gives from a place on
abbrev pub from_here : State Term → List ℕ → ℕ → Result Term ExprFault
from_here s text at = outcome terms s (tokens_from at 0 (drop at text))

pub over_blank : (text : List ℕ) (at : ℕ) (s : State Term) → at < length text → get_or text at 0 ≡ 32 → from_here s text (at + 1) ≡ from_here s text at
over_blank text at s below is = ap (outcome terms s) (sym ((goes text at below).blank is))

pub record Moves (text : List ℕ) (at : ℕ) (s next : State Term) (size : ℕ) : Type 0 where
  pub on : at < at + size
  pub within : at + size ≤ length text
  pub same : from_here next text (at + size) ≡ from_here s text at

at_token : (text : List ℕ) (at : ℕ) (s : State Term) → at < length text → get_or text at 0 ≢ 32
    → from_here s text at ≡ outcome terms s ((at, (token_of (drop at text)).0) ∷ tokens_from (at + (token_of (drop at text)).1) 0 (drop (at + (token_of (drop at text)).1) text))
at_token text at s below ne = ap (outcome terms s) ((goes text at below).token ne)

pub over_token : (text : List ℕ) (at : ℕ) (s next : State Term) → at < length text → get_or text at 0 ≢ 32 → advance terms s (token_of (drop at text)).0 ≡ Some next
    → Moves text at s next (token_of (drop at text)).1
over_token text at s next below ne is =
    let t = token_of (drop at text) in
    let g = goes text at below in
    record {
      on = omega (arith, g.some);
      within = g.within;
      same = sym (at_token text at s below ne
          ∙ ap (λ (o : Option (State Term)). on_step o (λ n. outcome terms n (tokens_from (at + t.1) 0 (drop (at + t.1) text))) (Err (fault_at (is_full s) at t.0))) is);
    }

pub at_fault : (text : List ℕ) (at : ℕ) (s : State Term) → at < length text → get_or text at 0 ≢ 32 → advance terms s (token_of (drop at text)).0 ≡ None
    → from_here s text at ≡ Err (fault_at (is_full s) at (token_of (drop at text)).0)
at_fault text at s below ne is =
    let t = token_of (drop at text) in
    at_token text at s below ne ∙ ap (λ (o : Option (State Term)). on_step o (λ n. outcome terms n (tokens_from (at + t.1) 0 (drop (at + t.1) text))) (Err (fault_at (is_full s) at t.0))) is

pub rest_slice : (text : List ℕ) (at : ℕ) → take (length text - at) (drop at text) ≡ drop at text
rest_slice text at = take_all (length text - at) (drop at text) (omega (arith, length-drop at text))

-- a token's fault is that of the text
pub fails_from : (e : Refused ExprFault) (s : State Term) (at : ℕ) (t : Token) (wanted : Result Term ExprFault) → Refuses e s at t
    → (advance terms s t ≡ None → wanted ≡ Err (fault_at (is_full s) at t)) → Fails e wanted
fails_from (refused.Fault f) s at t wanted h is = is h.0 ∙ ap Err (sym h.1)
fails_from refused.NoMemory s at t wanted h is = tt
