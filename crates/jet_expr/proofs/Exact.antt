-- The answer of a text is what the grammar says of it.
use Rattle.std.proofs.Common.{◌≡◌, ◌≢◌, ℕ, zero, suc, ◌≤◌, ◌<◌, ◌+◌, Bool, true, false, cond, List, [], ◌∷◌, ◌++◌, length, Option, Some, None, Result, Ok, Err, refl, ap, sym, subst, ◌∙◌, arith, inl, inr}
use Rattle.std.proofs.lemmas.Bool.{le-leb, lt-leb, leb-true, leb-false, cond_both, cases_lt}
use Rattle.std.proofs.lemmas.Option.{same_Some, none-some}
use Rattle.std.proofs.lemmas.List.{append-nil}
use Rattle.std.specs.Prelude.{nat_le, not, pred, ◌==◌, ◌⊎◌}
use Rattle.std.proofs.lemmas.Int.{ints}
use Rattle.jet_items.specs.Ranges.{most_time}
use Rattle.jet_expr.specs.Term.{Term, AreSmall}
use Rattle.jet_expr.specs.Syntax.{Syntax, number, read, group, one, two, choose, meaning, IsFormed, marked}
use Rattle.jet_expr.specs.Tokens.{tokens_of, tokens_from, token_of}
use Rattle.jet_expr.specs.Grammar.{Fits, Starts, open_first, tokens_in, IsExpression, IsFull, Opens, IsAbove, IsCause, Faults, IsFaultOf, IsRefusal}
use Rattle.jet_items.specs.Gives.{Fails}
use Rattle.jet_items.specs.declared.no_memory.Refused.{Refused}
use Rattle.jet_items.specs.declared.no_memory.Refused.TheVariants as refused
use Rattle.jet_expr.specs.Machine.{terms, State, want, named, have, done, open_in, advance, on_step, ended, fault_at, is_full, outcome, expr_at}
use Rattle.jet_expr.specs.declared.fault.ExprFault.{ExprFault}
use Rattle.jet_expr.specs.declared.fault.ExprFault.TheVariants as fault
use Rattle.jet_expr.specs.declared.operator.Operator.TheVariants.{Subtract}
use Rattle.jet_expr.specs.declared.token.Token.{Token}
use Rattle.jet_expr.specs.declared.token.Token.TheVariants as token
use Rattle.jet_expr.proofs.Follows.{trees, reads_all}
use Rattle.jet_expr.proofs.Goes.{run, goes, Gone, follows_low, Read, run_read, begun, starts, starts_low, read_more}
use Rattle.jet_expr.proofs.Ends.{AreDone, done_advance}
use Rattle.jet_expr.proofs.Maps.{outcome_terms, result_terms}

-- ---- the causes

IsUnknown : Token → Type 0
IsUnknown token.Unknown = Unit {0}
IsUnknown x = ⊥

unknown_not : (t : Token) → (IsUnknown t → ⊥) → t ≢ token.Unknown
unfolding IsUnknown
unknown_not t h e = h (subst IsUnknown (sym e) tt)

above_not : (n : ℕ) → token.Number n ≢ token.Unknown
unfolding IsUnknown
above_not n e = subst IsUnknown (sym e) tt

-- `full` says whether as many openers are open as may be
pub record Decides (full : Bool) (before : List Token) : Type 0 where
  pub yes_full : full ≡ true → IsFull before
  pub not_full : full ≡ false → IsFull before → ⊥

plain : (before : List Token) (at : ℕ) (t : Token) → (IsUnknown t → ⊥) → (IsAbove t → ⊥) → (Opens t → ⊥) → IsCause (fault.Expected at) before at t
plain before at t u a o = (refl, unknown_not t u, a, λ h. o h.0)

opener : (full : Bool) (before : List Token) (at : ℕ) (t : Token) → Decides full before → (IsUnknown t → ⊥) → (IsAbove t → ⊥) → Opens t
    → IsCause (cond full fault.Deep (fault.Expected at)) before at t
opener true before at t d u a o = (o, d.yes_full refl)
opener false before at t d u a o = (refl, unknown_not t u, a, λ h. d.not_full refl h.1)

caused_number : (n : ℕ) (before : List Token) (at : ℕ) → IsCause (cond (nat_le n most_time) (fault.Expected at) (fault.NumberRange at)) before at (token.Number n)
unfolding IsUnknown
caused_number n before at =
    cond_both (nat_le n most_time) (fault.Expected at) (fault.NumberRange at) (λ (f : ExprFault). IsCause f before at (token.Number n))
    (λ e. plain before at (token.Number n) (λ x. x) (λ x. omega (arith, x, leb-true n most_time e)) (λ x. x))
    (λ e. (refl, leb-false n most_time e))

-- the fault that is answered has its cause
pub caused : (full : Bool) (before : List Token) (at : ℕ) (t : Token) → Decides full before → IsCause (fault_at full at t) before at t
unfolding IsUnknown
caused full before at (token.Number n) d = caused_number n before at
caused full before at token.Unknown d = (refl, refl)
caused full before at token.Open d = opener full before at token.Open d (λ x. x) (λ x. x) tt
caused full before at token.Not d = opener full before at token.Not d (λ x. x) (λ x. x) tt
caused full before at (token.Sign Subtract) d = opener full before at (token.Sign Subtract) d (λ x. x) (λ x. x) tt
caused full before at t d = plain before at t (λ x. x) (λ x. x) (λ x. x)

above_alone : (t : Token) → IsAbove t → Opens t → ⊥
above_alone (token.Number n) a o = o
above_alone t a o = a

-- and no other
pub one_cause : (f g : ExprFault) (before : List Token) (at : ℕ) (t : Token) → IsCause f before at t → IsCause g before at t → f ≡ g
one_cause (fault.Unknown p) (fault.Unknown q) before at t c d = ap fault.Unknown (c.0 ∙ sym d.0)
one_cause (fault.Unknown p) (fault.NumberRange q) before at t c d = absurd (subst IsAbove c.1 d.1)
one_cause (fault.Unknown p) fault.Deep before at t c d = absurd (subst Opens c.1 d.0)
one_cause (fault.Unknown p) (fault.Expected q) before at t c d = absurd (d.1 c.1)
one_cause (fault.Unknown p) fault.Large before at t c d = absurd d
one_cause (fault.NumberRange p) (fault.Unknown q) before at t c d = absurd (subst IsAbove d.1 c.1)
one_cause (fault.NumberRange p) (fault.NumberRange q) before at t c d = ap fault.NumberRange (c.0 ∙ sym d.0)
one_cause (fault.NumberRange p) fault.Deep before at t c d = absurd (above_alone t c.1 d.0)
one_cause (fault.NumberRange p) (fault.Expected q) before at t c d = absurd (d.2 c.1)
one_cause (fault.NumberRange p) fault.Large before at t c d = absurd d
one_cause fault.Deep (fault.Unknown q) before at t c d = absurd (subst Opens d.1 c.0)
one_cause fault.Deep (fault.NumberRange q) before at t c d = absurd (above_alone t d.1 c.0)
one_cause fault.Deep fault.Deep before at t c d = refl
one_cause fault.Deep (fault.Expected q) before at t c d = absurd (d.3 c)
one_cause fault.Deep fault.Large before at t c d = absurd d
one_cause (fault.Expected p) (fault.Unknown q) before at t c d = absurd (c.1 d.1)
one_cause (fault.Expected p) (fault.NumberRange q) before at t c d = absurd (c.2 d.1)
one_cause (fault.Expected p) fault.Deep before at t c d = absurd (c.3 d)
one_cause (fault.Expected p) (fault.Expected q) before at t c d = ap fault.Expected (c.0 ∙ sym d.0)
one_cause (fault.Expected p) fault.Large before at t c d = absurd d
one_cause fault.Large g before at t c d = absurd c

-- ---- runs

run_step : (s next : State Syntax) (t : Token) (ts : List Token) → advance trees s t ≡ Some next → run s (t ∷ ts) ≡ run next ts
run_step s next t ts e = ap (λ (o : Option (State Syntax)). on_step o (λ n. run n ts) None) e

run_append_some : (xs ys : List Token) (s mid : State Syntax) → run s xs ≡ Some mid → run s (xs ++ ys) ≡ run mid ys
run_append_some [] ys s mid e = ap (λ (x : State Syntax). run x ys) (same_Some s mid e)
run_append_some (t ∷ xs) ys s mid e = over xs ys mid (advance trees s t) (λ next is. run_append_some xs ys next mid is) e
  where
    over : (xs ys : List Token) (mid : State Syntax) (o : Option (State Syntax)) → ((next : State Syntax) → run next xs ≡ Some mid → run next (xs ++ ys) ≡ run mid ys)
        → on_step o (λ n. run n xs) None ≡ Some mid → on_step o (λ n. run n (xs ++ ys)) None ≡ run mid ys
    over xs ys mid None more e = absurd (none-some mid e)
    over xs ys mid (Some next) more e = more next e

-- the tokens of a text of the grammar are gone over
pub starts_run : (ts : List Token) (s : Starts ts) → Gone (want []) ts s.rest (done s.tree)
starts_run ts s = goes ts (want []) (done s.tree) (marked s.tree) s.rest (reads_all s.tree s.formed) refl s.fits

-- what is full by its tokens is so by the state behind them
pub full_decides : (ts : List Token) (s : State Syntax) → run (want []) ts ≡ Some s → Decides (is_full s) ts
full_decides ts s e = record {
  yes_full = λ is x.
      let g = starts_run ts x in
      let same : s ≡ g.state = same_Some s g.state (sym e ∙ g.runs) in
      let low : open_in g.state ≤ open_first x.rest = follows_low g.state (done x.tree) x.rest g.follows refl in
      let high : 31 < open_in s = leb-false (open_in s) 31 (not_true (nat_le (open_in s) 31) is) in
      omega (arith, low, high, ap open_in same);
  not_full = λ is full.
      let r = run_read ts [] (want []) s begun e in
      let low : open_in s ≤ 31 = leb-true (open_in s) 31 (not_false (nat_le (open_in s) 31) is) in
      let high : 32 ≤ open_first (starts s ts r).rest = full (starts s ts r) in
      omega (arith, low, high, starts_low s ts r);
}
  where
    not_true : (b : Bool) → not b ≡ true → b ≡ false
    not_true true e = sym e
    not_true false e = refl

    not_false : (b : Bool) → not b ≡ false → b ≡ true
    not_false true e = refl
    not_false false e = sym e

-- ---- the answer at a token at which nothing goes on

outcome_runs : (ps : List (ℕ × Token)) (qs : List (ℕ × Token)) (s mid : State Syntax) → run s (tokens_in ps) ≡ Some mid → outcome trees s (ps ++ qs) ≡ outcome trees mid qs
outcome_runs [] qs s mid e = ap (λ (x : State Syntax). outcome trees x qs) (same_Some s mid e)
outcome_runs (p ∷ ps) qs s mid e = over p ps qs mid (Err (fault_at (is_full s) p.0 p.1)) (advance trees s p.1) (λ next is. outcome_runs ps qs next mid is) e
  where
    over : (p : ℕ × Token) (ps qs : List (ℕ × Token)) (mid : State Syntax) (stop : Result Syntax ExprFault) (o : Option (State Syntax))
        → ((next : State Syntax) → run next (tokens_in ps) ≡ Some mid → outcome trees next (ps ++ qs) ≡ outcome trees mid qs)
        → on_step o (λ n. run n (tokens_in ps)) None ≡ Some mid → on_step o (λ n. outcome trees n (ps ++ qs)) stop ≡ outcome trees mid qs
    over p ps qs mid stop None more e = absurd (none-some mid e)
    over p ps qs mid stop (Some next) more e = more next e

-- ---- answers

ok_or : {A E : Type 0} → A → Result A E → A
ok_or d (Ok x) = x
ok_or d (Err f) = d

ok_same : {A E : Type 0} (x y : A) → ◌≡◌ {A = Result A E} (Ok x) (Ok y) → x ≡ y
unfolding ok_or
ok_same x y e = ap (ok_or x) e

err_or : {A E : Type 0} → E → Result A E → E
err_or d (Ok x) = d
err_or d (Err f) = f

err_same : {A E : Type 0} (f g : E) → ◌≡◌ {A = Result A E} (Err f) (Err g) → f ≡ g
unfolding err_or
err_same f g e = ap (err_or f) e

IsFine : {A E : Type 0} → Result A E → Type 0
IsFine (Ok x) = Unit {0}
IsFine (Err f) = ⊥

ok_err : {A E : Type 0} (x : A) (f : E) → ◌≡◌ {A = Result A E} (Ok x) (Err f) → ⊥
unfolding IsFine
ok_err x f e = subst IsFine e tt

-- ---- a text ends with its end

abbrev EndsWell : List (ℕ × Token) → Type 0
EndsWell [] = ⊥
EndsWell (p ∷ []) = p.1 ≡ token.End
EndsWell (p ∷ q ∷ ps) = EndsWell (q ∷ ps)

ends_more : (p : ℕ × Token) (ps : List (ℕ × Token)) → EndsWell ps → EndsWell (p ∷ ps)
ends_more p [] h = absurd h
ends_more p (q ∷ ps) h = h

tokens_end : (at rest : ℕ) (text : List ℕ) → EndsWell (tokens_from at rest text)
tokens_end at rest [] = refl
tokens_end at (suc rest) (c ∷ text) = tokens_end (at + 1) rest text
tokens_end at zero (c ∷ text) =
    cond_both (c == 32) (tokens_from (at + 1) 0 text) ((at, (token_of (c ∷ text)).0) ∷ tokens_from (at + 1) (pred (token_of (c ∷ text)).1) text) EndsWell
    (λ e. tokens_end (at + 1) 0 text)
    (λ e. ends_more (at, (token_of (c ∷ text)).0) (tokens_from (at + 1) (pred (token_of (c ∷ text)).1) text) (tokens_end (at + 1) (pred (token_of (c ∷ text)).1) text))

no_fault : (s : State Syntax) (f : ExprFault) → AreDone (Some s) → ended s ≡ Err f → ⊥
no_fault (want K) f h e = h
no_fault (named b K) f h e = h
no_fault (have K x) f h e = h
no_fault (done x) f h e = ok_err x f e

-- ---- where the machine stops

pub record Stopped (s : State Syntax) (ps : List (ℕ × Token)) (f : ExprFault) : Type 0 where
  pub earlier : List (ℕ × Token)
  pub later : List (ℕ × Token)
  pub at : ℕ
  pub next : Token
  pub state : State Syntax
  pub cut : ps ≡ earlier ++ (at, next) ∷ later
  pub runs : run s (tokens_in earlier) ≡ Some state
  pub stops : advance trees state next ≡ None
  pub fault : f ≡ fault_at (is_full state) at next

stops_here : (s : State Syntax) (p : ℕ × Token) (ps : List (ℕ × Token)) (f : ExprFault) → advance trees s p.1 ≡ None → ◌≡◌ {A = Result Syntax ExprFault} (Err (fault_at (is_full s) p.0 p.1)) (Err f) → Stopped s (p ∷ ps) f
stops_here s p ps f none e = record {
  earlier = [];
  later = ps;
  at = p.0;
  next = p.1;
  state = s;
  cut = refl;
  runs = refl;
  stops = none;
  fault = sym (err_same _ _ e);
}

stops_later : (s next : State Syntax) (p : ℕ × Token) (ps : List (ℕ × Token)) (f : ExprFault) → advance trees s p.1 ≡ Some next → Stopped next ps f → Stopped s (p ∷ ps) f
stops_later s next p ps f is r = record {
  earlier = p ∷ r.earlier;
  later = r.later;
  at = r.at;
  next = r.next;
  state = r.state;
  cut = ap (λ (x : List (ℕ × Token)). p ∷ x) r.cut;
  runs = run_step s next p.1 (tokens_in r.earlier) is ∙ r.runs;
  stops = r.stops;
  fault = r.fault;
}

last_stops : (s : State Syntax) (p : ℕ × Token) (f : ExprFault) (o : Option (State Syntax)) → advance trees s p.1 ≡ o → AreDone o
    → on_step o ended (Err (fault_at (is_full s) p.0 p.1)) ≡ Err f → Stopped s (p ∷ []) f
last_stops s p f None is h e = stops_here s p [] f is e
last_stops s p f (Some next) is h e = absurd (no_fault next f h e)

more_stops : (s : State Syntax) (p : ℕ × Token) (ps : List (ℕ × Token)) (f : ExprFault) (o : Option (State Syntax)) → advance trees s p.1 ≡ o
    → ((next : State Syntax) → outcome trees next ps ≡ Err f → Stopped next ps f)
    → on_step o (λ n. outcome trees n ps) (Err (fault_at (is_full s) p.0 p.1)) ≡ Err f → Stopped s (p ∷ ps) f
more_stops s p ps f None is more e = stops_here s p ps f is e
more_stops s p ps f (Some next) is more e = stops_later s next p ps f is (more next e)

stopped : (ps : List (ℕ × Token)) (s : State Syntax) (f : ExprFault) → EndsWell ps → outcome trees s ps ≡ Err f → Stopped s ps f
stopped [] s f h e = absurd h
stopped (p ∷ []) s f h e =
    last_stops s p f (advance trees s p.1) refl (subst (λ (t : Token). AreDone (advance trees s t)) (sym h) (done_advance trees s)) e
stopped (p ∷ q ∷ ps) s f h e = more_stops s p (q ∷ ps) f (advance trees s p.1) refl (λ next is. stopped (q ∷ ps) next f h is) e

-- ---- where it comes to the end

ended_done : (s : State Syntax) (e : Syntax) → ended s ≡ Ok e → s ≡ done e
ended_done (want K) e is = absurd (ok_err e _ (sym is))
ended_done (named b K) e is = absurd (ok_err e _ (sym is))
ended_done (have K x) e is = absurd (ok_err e _ (sym is))
ended_done (done x) e is = ap done (ok_same x e is)

comes : (s : State Syntax) (p : ℕ × Token) (ps : List (ℕ × Token)) (e : Syntax) (stop : ExprFault) (o : Option (State Syntax))
    → ((next : State Syntax) → outcome trees next ps ≡ Ok e → run next (tokens_in ps) ≡ Some (done e))
    → on_step o (λ n. outcome trees n ps) (Err stop) ≡ Ok e → on_step o (λ n. run n (tokens_in ps)) None ≡ Some (done e)
comes s p ps e stop None more is = absurd (ok_err e stop (sym is))
comes s p ps e stop (Some next) more is = more next is

ok_runs : (ps : List (ℕ × Token)) (s : State Syntax) (e : Syntax) → outcome trees s ps ≡ Ok e → run s (tokens_in ps) ≡ Some (done e)
ok_runs [] s e is = ap Some (ended_done s e is)
ok_runs (p ∷ ps) s e is = comes s p ps e (fault_at (is_full s) p.0 p.1) (advance trees s p.1) (λ next q. ok_runs ps next e q) is

-- ---- what a text gives, as trees

-- the machine stops where the grammar says
stops_of : (text : List ℕ) (f : ExprFault) → length text ≤ 1024 → outcome trees (want []) (tokens_of text) ≡ Err f → Faults text f
stops_of text f short e =
    let s = stopped (tokens_of text) (want []) f (tokens_end 0 0 text) e in
    let before = tokens_in s.earlier in
    record {
      short = short;
      before = before;
      at = s.at;
      next = s.next;
      stops = record {
        earlier = s.earlier;
        later = s.later;
        cut = s.cut;
        are = refl;
        goes = starts s.state before (run_read before [] (want []) s.state begun s.runs);
        ends = λ x.
            let g = starts_run (before ++ s.next ∷ []) x in
            none-some g.state (sym (run_append_some before (s.next ∷ []) (want []) s.state s.runs ∙ ap (λ (o : Option (State Syntax)). on_step o (λ n. run n []) None) s.stops) ∙ g.runs);
      };
      cause = subst (λ (x : ExprFault). IsCause x before s.at s.next) (sym s.fault) (caused (is_full s.state) before s.at s.next (full_decides before s.state s.runs));
    }

none_goes : (s : State Syntax) (before : List Token) (t : Token) (o : Option (State Syntax)) → Read s before → advance trees s t ≡ o → (Starts (before ++ t ∷ []) → ⊥) → o ≡ None
none_goes s before t None r is ends = refl
none_goes s before t (Some next) r is ends = absurd (ends (starts next (before ++ t ∷ []) (read_more s before t next r is)))

-- and answers why
stops_back : (text : List ℕ) (f : ExprFault) → Faults text f → outcome trees (want []) (tokens_of text) ≡ Err f
stops_back text f x =
    let g = starts_run x.before x.stops.goes in
    let runs : run (want []) (tokens_in x.stops.earlier) ≡ Some g.state = ap (run (want [])) x.stops.are ∙ g.runs in
    let r = run_read x.before [] (want []) g.state begun g.runs in
    let none = none_goes g.state x.before x.next (advance trees g.state x.next) r refl x.stops.ends in
    ap (outcome trees (want [])) x.stops.cut
    ∙ (outcome_runs x.stops.earlier ((x.at, x.next) ∷ x.stops.later) (want []) g.state runs
    ∙ (ap (λ (o : Option (State Syntax)). on_step o (λ n. outcome trees n x.stops.later) (Err (fault_at (is_full g.state) x.at x.next))) none
    ∙ ap Err (one_cause (fault_at (is_full g.state) x.at x.next) f x.before x.at x.next (caused (is_full g.state) x.before x.at x.next (full_decides x.before g.state g.runs)) x.cause)))

tree_is : (text : List ℕ) (e : Syntax) → outcome trees (want []) (tokens_of text) ≡ Ok e → IsFormed e × Fits (tokens_in (tokens_of text)) (marked e) []
tree_is text e is =
    let r = run_read (tokens_in (tokens_of text)) [] (want []) (done e) begun (ok_runs (tokens_of text) (want []) e is) in
    (r.good, r.fits)

tree_back : (text : List ℕ) (e : Syntax) → IsFormed e → Fits (tokens_in (tokens_of text)) (marked e) [] → outcome trees (want []) (tokens_of text) ≡ Ok e
tree_back text e formed fits =
    let g = goes (tokens_in (tokens_of text)) (want []) (done e) (marked e) [] (reads_all e formed) refl fits in
    let runs = outcome_runs (tokens_of text) [] (want []) g.state g.runs in
    ap (outcome trees (want [])) (sym (append-nil (tokens_of text))) ∙ (runs ∙ ap ended g.follows)

-- ---- terms

pub record OkOf (r : Result Syntax ExprFault) (t : Term) : Type 0 where
  pub tree : Syntax
  pub is : r ≡ Ok tree
  pub means : meaning tree ≡ t

ok_of : (r : Result Syntax ExprFault) (t : Term) → result_terms r ≡ Ok t → OkOf r t
ok_of (Ok e) t h = record { tree = e; is = refl; means = ok_same (meaning e) t h }
ok_of (Err f) t h = absurd (ok_err t f (sym h))

err_of : (r : Result Syntax ExprFault) (f : ExprFault) → result_terms r ≡ Err f → r ≡ Err f
err_of (Ok e) f h = absurd (ok_err (meaning e) f h)
err_of (Err g) f h = ap Err (err_same g f h)

read_terms : (text : List ℕ) → length text ≤ 1024 → expr_at text ≡ result_terms (outcome trees (want []) (tokens_of text))
read_terms text short =
    ap (λ (b : Bool). cond b (outcome terms (want []) (tokens_of text)) (Err fault.Large)) (le-leb (length text) 1024 short) ∙ outcome_terms (want []) (tokens_of text)

not_short : (text : List ℕ) → 1024 < length text → expr_at text ≡ Err fault.Large
not_short text long = ap (λ (b : Bool). cond b (outcome terms (want []) (tokens_of text)) (Err fault.Large)) (lt-leb (length text) 1024 long)

large_or : (text : List ℕ) → (length text ≤ 1024) ⊎ (1024 < length text)
large_or text = elim (cases_lt 1024 (length text)) [
  | inl long ↦ inr long
  | inr short ↦ inl short
]

pub expression_is : (text : List ℕ) (t : Term) → expr_at text ≡ Ok t → IsExpression text t
expression_is text t e = elim (large_or text) [
  | inl short ↦ (let o = ok_of (outcome trees (want []) (tokens_of text)) t (sym (read_terms text short) ∙ e) in
      let f = tree_is text o.tree o.is in
      record { short = short; tree = o.tree; formed = f.0; fits = f.1; means = o.means })
  | inr long ↦ absurd (ok_err t fault.Large (sym e ∙ not_short text long))
]

pub expression_back : (text : List ℕ) (t : Term) → IsExpression text t → expr_at text ≡ Ok t
expression_back text t x = read_terms text x.short ∙ (ap result_terms (tree_back text x.tree x.formed x.fits) ∙ ap Ok x.means)

not_large : (text : List ℕ) (f : ExprFault) → Faults text f → IsFaultOf text f
not_large text fault.Large x = absurd x.cause
not_large text f x = x

pub fault_is : (text : List ℕ) (f : ExprFault) → expr_at text ≡ Err f → IsFaultOf text f
fault_is text f e = elim (large_or text) [
  | inl short ↦ not_large text f (stops_of text f short (err_of (outcome trees (want []) (tokens_of text)) f (sym (read_terms text short) ∙ e)))
  | inr long ↦ subst (IsFaultOf text) (err_same fault.Large f (sym (not_short text long) ∙ e)) long
]

fault_in : (text : List ℕ) (f : ExprFault) → Faults text f → expr_at text ≡ Err f
fault_in text f x = read_terms text x.short ∙ ap result_terms (stops_back text f x)

pub fault_back : (text : List ℕ) (f : ExprFault) → IsFaultOf text f → expr_at text ≡ Err f
fault_back text (fault.Unknown p) x = fault_in text (fault.Unknown p) x
fault_back text (fault.Expected p) x = fault_in text (fault.Expected p) x
fault_back text (fault.NumberRange p) x = fault_in text (fault.NumberRange p) x
fault_back text fault.Deep x = fault_in text fault.Deep x
fault_back text fault.Large x = not_short text x

-- the numbers of an expression are small
small_meaning : (e : Syntax) → IsFormed e → AreSmall (meaning e)
small_meaning (number n) f = (omega (arith, ints), omega (arith, ints, f))
small_meaning (read x) f = tt
small_meaning (group a) f = small_meaning a f
small_meaning (one op a) f = small_meaning a f.1
small_meaning (two op a b) f = (small_meaning a f.2, small_meaning b f.3)
small_meaning (choose c a b) f = (small_meaning c f.0, (small_meaning a f.1, small_meaning b f.2))

pub small_term : (text : List ℕ) (t : Term) → expr_at text ≡ Ok t → AreSmall t
small_term text t e = let x = expression_is text t e in subst AreSmall x.means (small_meaning x.tree x.formed)

pub refused_is : (text : List ℕ) (e : Refused ExprFault) → Fails e (expr_at text) → IsRefusal text e
refused_is text (refused.Fault f) h = fault_is text f h
refused_is text refused.NoMemory h = tt
