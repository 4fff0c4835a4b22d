-- Tasklets that are dealt one after another.
use Rattle.std.proofs.Common.{arith, ◌≡◌, ◌≢◌, ◌⊎◌, inl, inr, ◌∙◌, ◌+◌, ◌*◌, ◌%◌, ◌<◌, ◌≤◌, ◌^◌, ◌++◌, ◌∷◌, [], ℕ, zero, suc, List, length, set, get_or, append_assoc, ap, refl, sym, subst, mul-le-mul}
use Rattle.std.specs.Prelude.{All, Option, Some, ◌==◌, slice_get}
use Rattle.std.proofs.Math.Nat.{mod-add-mod, mod-lt, mod-eq_of_lt, mul_comm, mul-le-mul_right}
use Rattle.std.proofs.lemmas.Bool.{cases_eq}
use Rattle.std.proofs.lemmas.Bool.Decides.{nat_tests}
use Rattle.std.proofs.lemmas.List.{get_or-set_same, get_or-set_other, length-append, length-set, length_push}
use Rattle.std.proofs.lemmas.List.Sums.{count_by_more_yes, count_by_more_no}
use Rattle.std.proofs.lemmas.Nat.{mul-add-lt}
use Rattle.std.proofs.lemmas.Option.{slice_get_cases, slice_get_within, slice_get-get_or, get_or_from_slice_get}
use Rattle.jet_crew.specs.Gather.{Placed, gather, lookup, task_in}
use Rattle.jet_crew.specs.declared.spot.Spot.{Spot}
use Rattle.jet_crew.specs.declared.worker.Worker.{Worker}
use Rattle.jet_layout.specs.Tasks.{member_of}
use Rattle.jet_layout.specs.declared.task.Task.{Task}
use Rattle.jet_deploy.specs.Dealing.{IsDealt, before_on}
use Rattle.jet_deploy.proofs.EachLink.{no_task}
use Rattle.jet_deploy.proofs.EachRing.{at_push}

-- ---- before any task

module _ {T : Type 0} (ws : List (Worker T)) (idle : All (λ (w : Worker T). w.tasks.items ≡ []) ws) where
  nothing_there : (i j : ℕ) (t : T) → lookup ws i j ≡ Some t → ⊥
  nothing_there i j t here = elim ((slice_get_cases ws i).1) [
    | inl w ↦
        let none : w.0.tasks.items ≡ [] = ap (λ (x : Worker T). x.tasks.items) (sym w.3) ∙ idle i w.0 w.1 in
        let gone = ap (λ (l : List T). slice_get l j) (sym none) ∙ ap (λ (o : Option (Worker T)). task_in o j) (sym w.2) ∙ here in
        cc gone
    | inr past ↦ let gone = ap (λ (o : Option (Worker T)). task_in o j) (sym past.1) ∙ here in cc gone
  ]

  -- workers without tasks have a place for each of no tasks
  pub placed_none : Placed ws []
  placed_none = record { filled = refl; apart = tt; covered = λ i j t here. absurd (nothing_there i j t here) }

-- ---- whose turn it is

-- after the first n tasklets, on each member
abbrev pub AreTurns : ℕ → List Task → ℕ → List ℕ → Type 0
AreTurns each sites n next = (m : ℕ) → m < 4 → get_or next m 0 ≡ before_on sites n m % each

-- a worker of a member is one of all
worker_fits : (members each member turn : ℕ) → member < members → turn < each → member * each + turn < members * each
worker_fits members each member turn inside own = subst (λ (n : ℕ). member * each + turn < n) (mul_comm each members) (mul-add-lt member each turn members inside own)

one_later : (each k b turn : ℕ) → turn ≡ b % each → k ≡ b + 1 → (turn + 1) % each ≡ k % each
one_later each k b turn is more = ap (λ (n : ℕ). (n + 1) % each) is ∙ mod-add-mod b each 1 ∙ ap (λ (n : ℕ). n % each) (sym more)

module _ (each : ℕ) (sites : List Task) (n : ℕ) (site : Task) (at : slice_get sites n ≡ Some site) where
  here : get_or sites n site ≡ site
  here = get_or_from_slice_get sites n site site at

  one_more : (m : ℕ) → m ≡ member_of site → before_on sites (n + 1) m ≡ before_on sites n m + 1
  one_more m same = count_by_more_yes (λ (s : Task). member_of s == m) sites n site (slice_get_within sites n site at)
      (ap (λ (s : Task). member_of s == m) here ∙ (grind (arith, nat_tests)))

  no_more : (m : ℕ) → m ≢ member_of site → before_on sites (n + 1) m ≡ before_on sites n m
  no_more m other = count_by_more_no (λ (s : Task). member_of s == m) sites n site (slice_get_within sites n site at)
      (ap (λ (s : Task). member_of s == m) here ∙ (grind (arith, nat_tests)))

  -- the turn of the member of tasklet n is taken
  turns_more : (next after : List ℕ) (turn : ℕ) → AreTurns each sites n next → length next ≡ 4 → member_of site < 4 → turn ≡ get_or next (member_of site) 0
      → after ≡ set next (member_of site) ((turn + 1) % each) → AreTurns each sites (n + 1) after
  turns_more next after turn turns long inside is becomes m small = ap (λ (l : List ℕ). get_or l m 0) becomes ∙ elim (cases_eq m (member_of site)) [
    | inl same ↦
        ap (λ (i : ℕ). get_or (set next (member_of site) ((turn + 1) % each)) i 0) same
        ∙ get_or-set_same next (member_of site) ((turn + 1) % each) 0 (omega (arith, inside, long))
        ∙ one_later each (before_on sites (n + 1) m) (before_on sites n m) turn (is ∙ ap (λ (i : ℕ). get_or next i 0) (sym same) ∙ turns m small) (one_more m same)
    | inr other ↦ get_or-set_other next (member_of site) m ((turn + 1) % each) 0 other ∙ turns m small ∙ ap (λ (k : ℕ). k % each) (sym (no_more m other))
  ]

  -- ---- one more has its place

  this_one : (spot : Spot) → spot.worker ≡ member_of site * each + before_on sites n (member_of site) % each
      → (k : ℕ) (other : Task) → k ≡ n → slice_get sites k ≡ Some other → spot.worker ≡ member_of other * each + before_on sites k (member_of other) % each
  this_one spot is k other same there =
      let task : site ≡ other = let both = ap (slice_get sites) same in cc (at, there, both) in
      is ∙ ap (λ (s : Task). member_of s * each + before_on sites n (member_of s) % each) task ∙ ap (λ (i : ℕ). member_of other * each + before_on sites i (member_of other) % each) (sym same)

  added : (order : List Spot) (spot : Spot) → IsDealt each sites order → length order ≡ n → spot.worker ≡ member_of site * each + before_on sites n (member_of site) % each
      → (k : ℕ) (other : Task) (s : Spot) → slice_get sites k ≡ Some other → (slice_get order k ≡ Some s) ⊎ ((k ≡ length order) × (spot ≡ s))
      → s.worker ≡ member_of other * each + before_on sites k (member_of other) % each
  added order spot dealt count is k other s there (inl before) = dealt.turn k other s there before
  added order spot dealt count is k other s there (inr last) = ap (λ (x : Spot). x.worker) (sym last.1) ∙ this_one spot is k other (last.0 ∙ count) there

  -- tasklet n is given to this worker
  dealt_more : (order more : List Spot) (spot : Spot) → IsDealt each sites order → length order ≡ n → spot.worker ≡ member_of site * each + before_on sites n (member_of site) % each
      → more ≡ order ++ spot ∷ [] → IsDealt each sites more
  dealt_more order more spot dealt count is becomes = record {
    turn = λ k other s there found. added order spot dealt count is k other s there (at_push order spot k s (ap (λ (l : List Spot). slice_get l k) (sym becomes) ∙ found));
  }

-- ---- the tasks that came so far, and those that are left

-- no member had a turn
abbrev first_turns : List ℕ
first_turns = 0 ∷ 0 ∷ 0 ∷ 0 ∷ []

zeros : (m : ℕ) → get_or first_turns m 0 ≡ 0
zeros zero = refl
zeros (suc zero) = refl
zeros (suc (suc zero)) = refl
zeros (suc (suc (suc zero))) = refl
zeros (suc (suc (suc (suc m)))) = refl

-- so many workers fit
pub few : (members each : ℕ) → members ≤ 4 → each ≤ 8 → members * each ≤ 32
few members each small own = let most = mul-le-mul_right each small in omega (arith, most, own)

pub record IsDealing {T : Type 0} (members each : ℕ) (sites : List Task) (ws : List (Worker T)) (order : List Spot) (next : List ℕ) (given left all : List T) : Type 0 where
  pub rest : given ++ left ≡ all
  pub tasks : gather ws order ≡ given
  pub placed : Placed ws order
  pub count : length ws ≡ members * each
  pub four : length next ≡ 4
  pub turns : AreTurns each sites (length order) next
  pub dealt : IsDealt each sites order

module _ {T : Type 0} (members each : ℕ) (sites : List Task) (ws : List (Worker T)) where
  pub begins : (order : List Spot) (left all : List T) → order ≡ [] → left ≡ all → All (λ (w : Worker T). w.tasks.items ≡ []) ws → length ws ≡ members * each → 1 ≤ each → IsDealing members each sites ws order first_turns [] left all
  begins order left all none same idle count some = subst (λ (o : List Spot). IsDealing members each sites ws o first_turns [] left all) (sym none) (record {
    rest = same;
    tasks = refl;
    placed = placed_none ws idle;
    count = count;
    four = refl;
    turns = λ m small. zeros m ∙ sym (none_before m);
    dealt = record { turn = λ n site spot at there. absurd (cc there) };
  })
    where
      none_before : (m : ℕ) → before_on sites 0 m % each ≡ 0
      none_before m = mod-eq_of_lt (omega (arith, some))

  -- one more task comes
  module _ {order : List Spot} {next : List ℕ} {given left all : List T} {task : T} {later : List T} (now : IsDealing members each sites ws order next given left all) (comes : left ≡ task ∷ later)
      (sized : length sites ≡ length all) (inside : All (λ (s : Task). member_of s < members) sites) (n : ℕ) (number : n ≡ length order) where
    pub index_fits : n < length sites
    index_fits =
        let all_of = ap length now.rest in
        let parts = length-append given left in
        let one = ap length comes in
        let so_far = ap length now.tasks in
        omega (arith, all_of, parts, one, so_far, now.placed.filled, sized, number)

    module _ (small : members ≤ 4) (some : 1 ≤ each) (member : ℕ) (is : member ≡ member_of (get_or sites n no_task)) where
      member_fits : member < members
      member_fits = subst (λ (m : ℕ). m < members) (sym is) (inside n no_task index_fits)

      pub member_small : member < 4
      member_small = let fits = member_fits in omega (arith, fits, small)

      turn_is : get_or next member 0 ≡ before_on sites n member % each
      turn_is = now.turns member member_small ∙ ap (λ (k : ℕ). before_on sites k member % each) (sym number)

      pub turn_fits : get_or next member 0 < each
      turn_fits = subst (λ (k : ℕ). k < each) (sym turn_is) (mod-lt (before_on sites n member) (omega (arith, some)))

      module _ (turn : ℕ) (taken : turn ≡ get_or next member 0) where
        pub place_fits : member * each + turn < length ws
        place_fits = subst (λ (k : ℕ). member * each + turn < k) (sym now.count) (worker_fits members each member turn member_fits (subst (λ (k : ℕ). k < each) (sym taken) turn_fits))

        pub place_small : each ≤ 8 → member * each + turn < 32
        place_small own = let fits = place_fits in let most = few members each small own in omega (arith, fits, most, now.count)

        pub goes_on : (vs : List (Worker T)) (more : List Spot) (after : List ℕ) (slot : ℕ)
            → gather vs more ≡ gather ws order ++ task ∷ [] → more ≡ order ++ record { worker = member * each + turn; slot = slot } ∷ [] → Placed vs more → length vs ≡ length ws
            → after ≡ set next member ((turn + 1) % each) → IsDealing members each sites vs more after (given ++ task ∷ []) later all
        goes_on vs more after slot gathered becomes placed same moved =
            let site = get_or sites n no_task in
            let at : slice_get sites n ≡ Some site = slice_get-get_or sites n no_task index_fits in
            let size = ap length becomes ∙ length_push order (record { worker = member * each + turn; slot = slot }) in
            let count : length more ≡ n + 1 = omega (arith, size, number) in
            record {
              rest = append_assoc given (task ∷ []) later ∙ ap (λ (l : List T). given ++ l) (sym comes) ∙ now.rest;
              tasks = gathered ∙ ap (λ (l : List T). l ++ task ∷ []) now.tasks;
              placed = placed;
              count = same ∙ now.count;
              four = ap length moved ∙ length-set next member ((turn + 1) % each) ∙ now.four;
              turns = subst (λ (k : ℕ). AreTurns each sites k after) (sym count)
                  (turns_more each sites n site at next after turn (subst (λ (k : ℕ). AreTurns each sites k next) (sym number) now.turns) now.four (subst (λ (k : ℕ). k < 4) is member_small) (taken ∙ ap (λ (k : ℕ). get_or next k 0) is) (moved ∙ ap (λ (k : ℕ). set next k ((turn + 1) % each)) is));
              dealt = dealt_more each sites n site at order more (record { worker = member * each + turn; slot = slot }) now.dealt (sym number)
                  (ap (λ (k : ℕ). member * each + k) (taken ∙ turn_is) ∙ ap (λ (k : ℕ). k * each + before_on sites n k % each) is) becomes;
            }

-- there are some workers, and not many
pub some_workers : (n members each : ℕ) → n ≡ members * each → (1 ≤ members) × (members ≤ 4) → (1 ≤ each) × (each ≤ 8) → (0 < n) × (n < 2 ^ 32)
some_workers n members each e m w =
    let least : 1 * 1 ≤ members * each = mul-le-mul m.0 w.0 in
    let most : members * each ≤ 4 * 8 = mul-le-mul m.1 w.1 in
    (omega (arith, e, least), omega (arith, e, most))
