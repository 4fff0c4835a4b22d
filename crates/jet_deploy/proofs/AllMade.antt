-- Tasklets made one after another.
use Rattle.std.proofs.Common.{arith, ◌≡◌, ◌≢◌, ◌∙◌, ◌+◌, ◌<◌, ◌≤◌, ◌++◌, ◌⊎◌, inl, inr, ℕ, zero, suc, false, List, [], ◌∷◌, Option, None, Some, map, length, ap, refl, sym, subst}
use Rattle.std.specs.Prelude.{slice_get}
use Rattle.std.proofs.lemmas.List.{length-append}
use Rattle.std.proofs.lemmas.Option.{same_Some, slice_get_within, slice_get_past}
use Rattle.jet_items.specs.declared.item.Item.{Item}
use Rattle.jet_boxes.specs.declared.port.Port.{Port}
use Rattle.jet_boxes.specs.declared.port.Port.TheVariants.{Stream}
use Rattle.jet_harness.specs.declared.harness.Harness.{Harness}
use Rattle.jet_harness.specs.Harness.{txs_of, rxs_of, fresh_tx, fresh_rx}
use Rattle.jet_layout.specs.declared.joint.Joint.{Joint}
use Rattle.jet_layout.specs.declared.task.Instance.{Instance}
use Rattle.jet_layout.specs.declared.task.Link.{Link}
use Rattle.jet_layout.specs.declared.task.Task.{Task}
use Rattle.jet_layout.specs.declared.task.Task.TheVariants.{Run, Send, Receive}
use Rattle.jet_layout.specs.Ports.{joints_out}
use Rattle.jet_ring.specs.Ring.{Ring, TxView, RxView}
use Rattle.jet_router.specs.Router as router
use Rattle.jet_tasklet.specs.declared.any.AnyTasklet.{AnyTasklet}
use Rattle.jet_tasklet.specs.Any.{AnyKeeps}
use Rattle.jet_tasklet.specs.Inputs.{InputView}
use Rattle.jet_tasklet.specs.Meeting.{AreLinkEnds}
use Rattle.jet_tasklet.specs.Outputs.{ready}
use Rattle.jet_deploy.specs.Ends.{input_at, output_at, input_over, inputs_from, router_over, outputs_from, Fits, FitAll}
use Rattle.jet_deploy.specs.inner.Places.{made_before}
use Rattle.jet_deploy.specs.Making.{Ground, IsInstance, IsMade, AreMade, CanRun, CanLink, CanMake, HasFreshEnds, Remains, vertex_ports}

-- ---- what is left

pub remains_all : (a : Harness) → Remains 0 a a
remains_all a = record { rxs = λ t n le. refl; txs = λ t n le. refl; files = refl; sink = refl }

pub remains_on : (m k : ℕ) (a b c : Harness) → m ≤ k → Remains m a b → Remains k b c → Remains k a c
remains_on m k a b c le r s =
    record {
      rxs = λ t n h. s.rxs t n h ∙ r.rxs t n (omega (arith, h, le));
      txs = λ t n h. s.txs t n h ∙ r.txs t n (omega (arith, h, le));
      files = s.files ∙ r.files;
      sink = s.sink ∙ r.sink;
    }

module _ (m : ℕ) (a b : Harness) (r : Remains m a b) where
  pub fresh_still : (k : ℕ) → m ≤ k → HasFreshEnds a k → HasFreshEnds b k
  fresh_still k le f =
      record {
        rxs = λ n. let x = f.rxs n in (x.0, r.rxs k n le ∙ x.1, x.2);
        txs = λ n. let x = f.txs n in (x.0, r.txs k n le ∙ x.1);
      }

  fit_still : (k members n i : ℕ) (js : List Joint) → m ≤ k → FitAll a k members n i js → FitAll b k members n i js
  fit_still k members n i [] le f = tt
  fit_still k members n i (j ∷ js) le f =
      (subst (λ (txs : List (TxView Item)). Fits members j j.distributed n (length txs)) (sym (r.txs k i le)) f.0, fit_still k members n (i + 1) js le f.1)

  pub can_run_still : (g : Ground) (k : ℕ) (i : Instance) → m ≤ k → CanRun g a k i → CanRun g b k i
  can_run_still g k i le c =
      record {
        vertex = c.vertex;
        there = c.there;
        no_sink = c.no_sink;
        member = c.member;
        some = c.some;
        few = c.few;
        fit = fit_still k g.members i.member 0 (joints_out g.dag g.joints c.vertex.name) le c.fit;
        fresh = fresh_still k le c.fresh;
      }

  pub can_link_still : (g : Ground) (k : ℕ) (l : Link) → m ≤ k → CanLink g a k l → CanLink g b k l
  can_link_still g k l le c =
      record {
        joint = c.joint;
        at = c.at;
        member = c.member;
        fit = subst (λ (txs : List (TxView Item)). Fits g.members c.joint false l.to (length txs)) (sym (r.txs (k + 1) 0 (omega (arith, le)))) c.fit;
        from = fresh_still k le c.from;
        to = fresh_still (k + 1) (omega (arith, le)) c.to;
      }

  same_inputs : (k n : ℕ) (ps : List Port) → m ≤ k → inputs_from b k n ps ≡ inputs_from a k n ps
  same_inputs k n [] le = refl
  same_inputs k n (p ∷ ps) le = ap (λ rxs. input_over p rxs ∷ inputs_from b k (n + 1) ps) (r.rxs k n le) ∙ ap (λ l. input_over p (rxs_of a (input_at k n)) ∷ l) (same_inputs k (n + 1) ps le)

  same_outputs : (k members i n : ℕ) (js : List Joint) → m ≤ k → outputs_from b k members i n js ≡ outputs_from a k members i n js
  same_outputs k members i n [] le = refl
  same_outputs k members i n (j ∷ js) le =
      ap (λ (txs : List (TxView Item)). router_over members j j.distributed i txs ∷ outputs_from b k members i (n + 1) js) (r.txs k n le) ∙ ap (λ l. router_over members j j.distributed i (txs_of a (output_at k n)) ∷ l) (same_outputs k members i (n + 1) js le)

  pub made_first : (g : Ground) (k : ℕ) (task : Task) (t : AnyTasklet) → m ≤ k → IsMade g b k task t → IsMade g a k task t
  made_first g k (Run i) t le is =
      record {
        vertex = is.vertex;
        there = is.there;
        kind = is.kind;
        more = is.more;
        inputs = is.inputs ∙ same_inputs k 0 (vertex_ports g.dag is.vertex) le;
        outputs = is.outputs ∙ ap (map ready) (same_outputs k g.members i.member 0 (joints_out g.dag g.joints is.vertex.name) le);
      }
  made_first g k (Send l) t le is = record { inputs = is.inputs ∙ ap (λ rxs. input_over Stream rxs ∷ []) (r.rxs k 0 le); outputs = is.outputs }
  made_first g k (Receive l) t le is =
      record { joint = is.joint; at = is.at; inputs = is.inputs; outputs = is.outputs ∙ ap (λ (txs : List (TxView Item)). ready (router_over g.members is.joint false l.to txs) ∷ []) (r.txs k 0 le) }

-- ---- one more, and two

pushed : {X : Type 0} (xs : List X) (x : X) (k : ℕ) (y : X) → slice_get (xs ++ x ∷ []) k ≡ Some y → (slice_get xs k ≡ Some y) ⊎ ((k ≡ length xs) × (x ≡ y))
pushed [] x zero y h = inr (refl, same_Some x y h)
pushed [] x (suc k) y h = absurd (cc h)
pushed (z ∷ xs) x zero y h = inl h
pushed (z ∷ xs) x (suc k) y h = elim (pushed xs x k y h) [
  | inl a ↦ inl a
  | inr b ↦ inr ((let e = b.0 in omega (arith, e)), b.1)
]

pub none_made : (g : Ground) (h : Harness) (tasks : List Task) → AreMade g h tasks []
none_made g h tasks = record { made = λ k task t at there. absurd (cc there); keeps = λ k t there. absurd (cc there); linked = λ k l t u at there next. absurd (cc there) }

-- the tasklet behind those that are made is not that of a link's receiver whose sender is the last of them
module _ (g : Ground) (h : Harness) (tasks : List Task) (ts : List AnyTasklet) (m : AreMade g h tasks ts) where
  pub one_more : (task : Task) (t : AnyTasklet) → slice_get tasks (length ts) ≡ Some task → IsMade g h (length ts) task t → AnyKeeps t [] []
      → ((k : ℕ) (l : Link) (s : AnyTasklet) → k + 1 ≡ length ts → slice_get tasks k ≡ Some (Send l) → slice_get ts k ≡ Some s → AreLinkEnds s t) → AreMade g h tasks (ts ++ t ∷ [])
  one_more task t at is keeps linked =
      record {
        made = λ k other u here there. elim (pushed ts t k u there) [
          | inl old ↦ m.made k other u here old
          | inr new ↦ subst (λ (v : AnyTasklet). IsMade g h k other v) new.1 (subst (λ (n : ℕ). IsMade g h n other t) (sym new.0) (subst (λ (x : Task). IsMade g h (length ts) x t) (same_Some task other (sym at ∙ (ap (slice_get tasks) (sym new.0) ∙ here))) is))
        ];
        keeps = λ k u there. elim (pushed ts t k u there) [
          | inl old ↦ m.keeps k u old
          | inr new ↦ subst (λ (v : AnyTasklet). AnyKeeps v [] []) new.1 keeps
        ];
        linked = λ k l s u here there next. elim (pushed ts t k s there) [
          | inl old ↦ elim (pushed ts t (k + 1) u next) [
            | inl more ↦ m.linked k l s u here old more
            | inr new ↦ subst (λ (v : AnyTasklet). AreLinkEnds s v) new.1 (linked k l s new.0 here old)
          ]
          | inr last ↦
              let far : length (ts ++ t ∷ []) ≡ length ts + 1 = simp length-append in
              let none = slice_get_past (ts ++ t ∷ []) (k + 1) (let e = last.0 in omega (arith, far, e)) in
              absurd (cc (none, next))
        ];
      }

-- ---- task by task

none_receives : (o : Option Task) (n : ℕ) → ((l : Link) → o ≡ Some (Receive l) → ⊥) → made_before o n ≡ n
none_receives None n other = refl
none_receives (Some (Run i)) n other = refl
none_receives (Some (Send l)) n other = refl
none_receives (Some (Receive l)) n other = absurd (other l refl)

at_end : {X : Type 0} (xs : List X) (x : X) → slice_get (xs ++ x ∷ []) (length xs) ≡ Some x
at_end [] x = refl
at_end (y ∷ xs) x = at_end xs x

pub record Stands (g : Ground) (h : Harness) (tasks : List Task) (n : ℕ) (ts : List AnyTasklet) (now : Harness) : Type 0 where
  pub count : length ts ≡ made_before (slice_get tasks n) n
  pub made : AreMade g h tasks ts
  pub rest : Remains (length ts) h now

module _ (g : Ground) (h : Harness) (tasks : List Task) (can : CanMake g h tasks) where
  pub begins : Stands g h tasks 0 [] h
  begins = record { count = sym (none_receives (slice_get tasks 0) 0 can.first); made = none_made g h tasks; rest = remains_all h }

  module _ (n : ℕ) (ts us : List AnyTasklet) (one two : Harness) (s : Stands g h tasks n ts one) where
    pub run_made : (i : Instance) (t : AnyTasklet) → slice_get tasks n ≡ Some (Run i) → IsInstance g one n i t → AnyKeeps t [] [] → Remains (n + 1) one two → us ≡ ts ++ t ∷ [] → Stands g h tasks (n + 1) us two
    run_made i t at is keeps left more =
        let size : length ts ≡ n = s.count ∙ ap (λ o. made_before o n) at in
        let here : slice_get tasks (length ts) ≡ Some (Run i) = ap (slice_get tasks) size ∙ at in
        let rest : Remains n h one = subst (λ k. Remains k h one) size s.rest in
        let first : IsMade g h (length ts) (Run i) t = subst (λ k. IsMade g h k (Run i) t) (sym size) (made_first n h one rest g n (Run i) t (omega arith) is) in
        let grown : length (ts ++ t ∷ []) ≡ length ts + 1 = simp length-append in
        let long : length us ≡ n + 1 = ap length more ∙ (grown ∙ ap (λ k. k + 1) size) in
        let other : (l : Link) → slice_get tasks (n + 1) ≡ Some (Receive l) → ⊥ = λ l e. cc (can.before n l e, at) in
        record {
          count = long ∙ sym (none_receives (slice_get tasks (n + 1)) (n + 1) other);
          made = subst (AreMade g h tasks) (sym more) (one_more g h tasks ts s.made (Run i) t here first keeps (λ k l v e sends there. absurd (cc (ap (slice_get tasks) e ∙ here, can.behind k l sends))));
          rest = subst (λ k. Remains k h two) (sym long) (remains_on n (n + 1) h one two (omega arith) rest left);
        }

    pub link_made : (vs : List AnyTasklet) (l : Link) (a b : AnyTasklet) → slice_get tasks n ≡ Some (Send l) → IsMade g one n (Send l) a → IsMade g one (n + 1) (Receive l) b → AnyKeeps a [] [] → AnyKeeps b [] [] → AreLinkEnds a b
        → Remains (n + 2) one two → us ≡ ts ++ a ∷ [] → vs ≡ us ++ b ∷ [] → Stands g h tasks (n + 1) vs two
    link_made vs l a b at sends receives keeps keeps_too linked left more again =
        let size : length ts ≡ n = s.count ∙ ap (λ o. made_before o n) at in
        let here : slice_get tasks (length ts) ≡ Some (Send l) = ap (slice_get tasks) size ∙ at in
        let rest : Remains n h one = subst (λ k. Remains k h one) size s.rest in
        let first : IsMade g h (length ts) (Send l) a = subst (λ k. IsMade g h k (Send l) a) (sym size) (made_first n h one rest g n (Send l) a (omega arith) sends) in
        let grown : length (ts ++ a ∷ []) ≡ length ts + 1 = simp length-append in
        let long : length us ≡ n + 1 = ap length more ∙ (grown ∙ ap (λ k. k + 1) size) in
        let made : AreMade g h tasks us = subst (AreMade g h tasks) (sym more) (one_more g h tasks ts s.made (Send l) a here first keeps (λ k m v e from there. absurd (cc (ap (slice_get tasks) e ∙ here, can.behind k m from)))) in
        let next : slice_get tasks (length us) ≡ Some (Receive l) = ap (slice_get tasks) long ∙ can.behind n l at in
        let second : IsMade g h (length us) (Receive l) b = subst (λ k. IsMade g h k (Receive l) b) (sym long) (made_first n h one rest g (n + 1) (Receive l) b (omega arith) receives) in
        let last : slice_get us n ≡ Some a = ap (λ l. slice_get l n) more ∙ (ap (slice_get (ts ++ a ∷ [])) (sym size) ∙ at_end ts a) in
        let grown_too : length (us ++ b ∷ []) ≡ length us + 1 = simp length-append in
        let longer : length vs ≡ n + 2 = (let x = ap length again ∙ grown_too in omega (arith, x, long)) in
        record {
          count = longer ∙ (sum ∙ sym (ap (λ o. made_before o (n + 1)) (can.behind n l at)));
          made = subst (AreMade g h tasks) (sym again) (one_more g h tasks us made (Receive l) b next second keeps_too (λ k m v e from there.
              let same : k ≡ n = omega (arith, e, long) in
              subst (λ x. AreLinkEnds x b) (same_Some a v (sym last ∙ (ap (slice_get us) (sym same) ∙ there))) linked));
          rest = subst (λ k. Remains k h two) (sym longer) (remains_on n (n + 2) h one two (omega arith) rest left);
        }
      where
        sum : n + 2 ≡ n + 1 + 1
        sum = omega arith

    pub receiver_made : (l : Link) → slice_get tasks n ≡ Some (Receive l) → us ≡ ts → two ≡ one → Stands g h tasks (n + 1) us two
    receiver_made l at same left =
        let size : length ts ≡ n + 1 = s.count ∙ ap (λ o. made_before o n) at in
        let other : (m : Link) → slice_get tasks (n + 1) ≡ Some (Receive m) → ⊥ = λ m e. cc (can.before n m e, at) in
        record {
          count = ap length same ∙ (size ∙ sym (none_receives (slice_get tasks (n + 1)) (n + 1) other));
          made = subst (AreMade g h tasks) (sym same) s.made;
          rest = subst (λ x. Remains (length us) h x) (sym left) (subst (λ l. Remains (length l) h one) (sym same) s.rest);
        }

  pub ends : (n : ℕ) (ts : List AnyTasklet) (now : Harness) → Stands g h tasks n ts now → length tasks ≤ n → n ≤ length tasks → length ts ≡ length tasks
  ends n ts now s past within = let none = slice_get_past tasks n past in let size : length ts ≡ n = s.count ∙ ap (λ o. made_before o n) none in omega (arith, size, past, within)
