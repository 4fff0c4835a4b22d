use Rattle.std.proofs.lemmas.Bool.{eqb-false}
use Rattle.std.proofs.Common.{◌≡◌, ℕ, zero, suc, ◌+◌, ◌<◌, ◌≤◌, Bool, true, false, not, nat_eq, refl, sym, ◌∙◌, ap, subst, inl, inr, arith, eqb-true}
use Rattle.jet_router.specs.Router.{View, view, sent_count, free_count}
use Rattle.jet_items.specs.Partition.{item_key}
use Rattle.jet_router.proofs.Counting.{sent_and_free, free_falls}
use Rattle.jet_tasklet.specs.Outputs.{Says}
use Rattle.jet_tasklet.proofs.Giving.{given_next, is_all, not_all}
use Rattle.jet_items.specs.declared.item.Item.{Item}
use Rattle.jet_tasklet.proofs.Owing.{given_waits, says_true}
use Rattle.jet_tasklet.specs.Outputs.{Waits}
use Rattle.jet_tasklet.proofs.output.Output.give_to_each.Goals as goal
use Rattle.jet_tasklet.proofs.output.Output.give_to_each.Goals.{in-All, in_default}

pub returns-clause-gives : goal.returns-clause-gives
returns-clause-gives c =
    let is : c.match-matches.self ≡ is_all c.give.result = elim c.match-matches.branch [
      | in-All w ↦ w.self-is ∙ sym (ap is_all w.in-All.is)
      | in_default w ↦ w.self-is ∙ sym (not_all c.give.result w.in_default.not-All)
    ] in λ gave g.
    given_next c.give.result c.match-matches.self gave c.args.item.now (view c.args.self.now.router) (view c.give.new.self) is c.give.ensures.dealt c.give.ensures.all c.give.ensures.in_hand c.args.self.now.had c.requires.waits g

eq_of_nat_eq : (m n : ℕ) → nat_eq m n ≡ true → m ≡ n
eq_of_nat_eq m n e = eqb-true m n e

nat_eq_false : (m n : ℕ) → nat_eq m n ≡ false → m ≡ n → ⊥
nat_eq_false m n e is = eqb-false m n e is

below : (m n : ℕ) → m ≤ n → (m ≡ n → ⊥) → m < n
below zero zero le differ = absurd (differ refl)
below zero (suc n) le differ = omega arith
below (suc m) zero le differ = absurd (omega (arith, le))
below (suc m) (suc n) le differ = let rest : m < n = below m n (omega (arith, le)) (λ e. differ (ap suc e)) in omega (arith, rest)

says_by : (b : Bool) (s t f g : ℕ) → nat_eq g f ≡ b → t + g ≡ s + f → g ≤ f → Says (not b) s t
says_by true s t f g is sum le = let same : g ≡ f = eq_of_nat_eq g f is in omega (arith, same, sum)
says_by false s t f g is sum le = let differ : g ≡ f → ⊥ = λ e. absurd (nat_eq_false g f is e) in let lt : g < f = below g f le differ in omega (arith, lt, sum)

pub returns-clause-pushed : goal.returns-clause-pushed
returns-clause-pushed c =
    let a : View = view c.args.self.now.router in
    let b : View = view c.give.new.self in
    let before : free_count a ≡ c.free-free.result = sym c.free-free.ensures in
    let after : free_count b ≡ c.free.result = sym c.free.ensures in
    let sum = sent_and_free a b c.give.ensures.reach in
    let falls = free_falls a b c.give.ensures.fewer in
    says_by (nat_eq c.free.result c.free-free.result) (sent_count a) (sent_count b) c.free-free.result c.free.result refl (omega (arith, before, after, sum)) (omega (arith, before, after, falls))

pub returns-clause-waits : goal.returns-clause-waits
returns-clause-waits c =
    let a : View = view c.args.self.now.router in
    let b : View = view c.give.new.self in
    let x : Item = c.args.item.now in
    let is : c.match-matches.self ≡ is_all c.give.result = elim c.match-matches.branch [
      | in-All w ↦ w.self-is ∙ sym (ap is_all w.in-All.is)
      | in_default w ↦ w.self-is ∙ sym (not_all c.give.result w.in_default.not-All)
    ] in
    let says = returns-clause-pushed c in λ w.
    elim (given_waits a b c.give.result a.route a.table (item_key x) x c.args.self.now.had c.give.ensures.same.rings_kept c.give.ensures.gives w) [
      | inl lt ↦ inl (says_true (not (nat_eq c.free.result c.free-free.result)) (sent_count a) (sent_count b) says lt)
      | inr still ↦ inr (subst (λ (h : Bool). Waits (record { router = b; had = h })) (sym is) still)
    ]

pub returns-clause-goes : goal.returns-clause-goes
returns-clause-goes c = record { same = c.give.ensures.same; sent = c.give.ensures.more; still_free = c.give.ensures.reach }
