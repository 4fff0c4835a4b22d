-- What a stamp knows of its queues, and how the watermark goes on.
use Rattle.std.proofs.Common.{◌≡◌, ℕ, ◌<◌, Bool, true, false, not, ◌||◌, cond, ℤ, ◌≤ℤ◌, ◌<ℤ◌, List, [], ◌∷◌, ◌++◌, length, Option, Some, None, refl, ap, sym, ◌∙◌, subst, arith, rules, inl, inr}
use Rattle.std.specs.Prelude.{int_lt, slice_get, ◌⊎◌}
use Rattle.std.specs.Option.{IsSomeAnd}
use Rattle.std.proofs.lemmas.Int.{ints}
use Rattle.std.proofs.lemmas.Option.{slice_get_within}
use Rattle.jet_coalescer.specs.declared.queue.Queue.{Queue}
use Rattle.jet_coalescer.specs.Low.{has_risen, risen}
use Rattle.jet_coalescer.specs.Queues.{counts, greater, HoldsNoneBack, RisesToLeast, IsLeast}
use Rattle.jet_coalescer.specs.View.{View}
use Rattle.jet_boxes.specs.Entry.{CallEntry}
use Rattle.jet_stages.specs.Stamp.{is_closed, is_idle, IsLeastMark, WasLeast, IsLow}
use Rattle.jet_stages.specs.Stamping.{Rises, LowIs, queue_known}
use Rattle.jet_stages.proofs.Stamping.{least_is_one, low_is_one, was_before, was_now, was_either}

some_is : {X : Type 0} {x y : X} → Some x ≡ Some y → x ≡ y
some_is {X} {x} {y} h = cc

-- ---- the least mark of what a coalescer knows is that of what was taken

-- what a coalescer knows of the queues is what was taken
abbrev pub AreKnown : ℕ → ℤ → ℤ → View → List CallEntry → Type 0
AreKnown n lag grain queues taken = (q : ℕ) → q < n → slice_get queues.queues q ≡ Some (queue_known lag grain q taken)

counts_if : (done idle : Bool) → done ≡ false → idle ≡ false → not (done || idle) ≡ true
counts_if true idle d i = cc
counts_if false true d i = cc
counts_if false false d i = refl

counted : (done idle : Bool) → not (done || idle) ≡ true → (done ≡ false) × (idle ≡ false)
counted true idle h = cc
counted false true h = cc
counted false false h = (refl, refl)

least_known : (n : ℕ) (lag grain : ℤ) (queues : View) (taken : List CallEntry) (t : ℤ) → length queues.queues ≡ n → AreKnown n lag grain queues taken → IsLeast queues.queues t → IsLeastMark n lag grain taken t
least_known n lag grain queues taken t count known h =
    let inside : h.q < n = subst (λ (m : ℕ). h.q < m) count (slice_get_within queues.queues h.q h.queue h.is) in
    let same : h.queue ≡ queue_known lag grain h.q taken = some_is (sym h.is ∙ known h.q inside) in
    let open_awake = counted (is_closed h.q taken) (is_idle h.q taken) (subst (λ (p : Queue). counts p ≡ true) same h.counted) in
    record {
      reached = λ q lt going awake. h.reached q (queue_known lag grain q taken) (known q lt) (counts_if (is_closed q taken) (is_idle q taken) going awake);
      queue = h.q;
      exists = inside;
      going = open_awake.0;
      awake = open_awake.1;
      has = subst (λ (p : Queue). p.mark ≡ Some t) same h.has;
    }

low_holds : (n : ℕ) (lag grain : ℤ) (queues : View) (taken : List CallEntry) (s : ℤ) → length queues.queues ≡ n → AreKnown n lag grain queues taken → HoldsNoneBack queues → IsLeastMark n lag grain taken s → IsSomeAnd queues.low (λ t. s ≤ℤ t)
low_holds n lag grain queues taken s count known holds h =
    holds s h.queue (queue_known lag grain h.queue taken)
    (λ k p is counts_p.
    let inside : k < n = subst (λ (m : ℕ). k < m) count (slice_get_within queues.queues k p is) in
    let same : p ≡ queue_known lag grain k taken = some_is (sym is ∙ known k inside) in
    let open_awake = counted (is_closed k taken) (is_idle k taken) (subst (λ (x : Queue). counts x ≡ true) same counts_p) in
    subst (λ (x : Queue). IsSomeAnd x.mark (λ m. s ≤ℤ m)) (sym same) (h.reached k inside open_awake.0 open_awake.1))
    (known h.queue h.exists) (counts_if (is_closed h.queue taken) (is_idle h.queue taken) h.going h.awake)

-- ---- a watermark rises, or stays

pub data Step (old new told : Option ℤ) : Type 0 where
  Rose : (t : ℤ) → told ≡ Some t → new ≡ Some t → has_risen old t ≡ true → Step old new told
  Stayed : told ≡ None → new ≡ old → Step old new told

not_above : (s : ℤ) → int_lt s s ≡ false
not_above s = grind (arith, ints, rules)

same_step : (old : Option ℤ) → risen old old ≡ None
same_step None = refl
same_step (Some s) = ap (λ b. cond b (Some s) None) (not_above s)

above_step : (s m : ℤ) (b : Bool) → int_lt m s ≡ b → (told : Option ℤ) → told ≡ risen (Some s) (Some (cond b s m)) → Step (Some s) (Some (cond b s m)) told
above_step s m true is told h = Stayed (h ∙ same_step (Some s)) refl
above_step s m false is told h = up (int_lt s m) refl
  where
    level : int_lt s m ≡ false → m ≡ s
    level k = grind (arith, ints, rules, is, k)

    up : (b : Bool) → int_lt s m ≡ b → Step (Some s) (Some m) told
    up true k = Rose m (h ∙ ap (λ c. cond c (Some m) None) k) refl k
    up false k = Stayed (h ∙ ap (λ c. cond c (Some m) None) k) (ap Some (level k))

step_by : (old now told : Option ℤ) → told ≡ risen old (greater old now) → Step old (greater old now) told
step_by old None told h = Stayed (h ∙ same_step old) refl
step_by None (Some m) told h = Rose m h refl refl
step_by (Some s) (Some m) told h = above_step s m (int_lt m s) refl told h

pub step : (old new now told : Option ℤ) → new ≡ greater old now → told ≡ risen old new → Step old new told
step old new now told is h = subst (λ (o : Option ℤ). Step old o told) (sym is) (step_by old now told (h ∙ ap (risen old) is))

lt_is : (a b : ℤ) → int_lt a b ≡ true → a <ℤ b
lt_is a b h = grind (arith, ints, rules, h)

le_lt : (a b c : ℤ) → a ≤ℤ b → b <ℤ c → a <ℤ c
le_lt a b c h k = omega (arith, ints, h, k)

lt_le : (a b : ℤ) → a <ℤ b → a ≤ℤ b
lt_le a b h = omega (arith, ints, h)

at_most : (s t : ℤ) → s ≡ t → s ≤ℤ t
at_most s t h = omega (arith, ints, h)

-- a watermark that rises is above each least mark before
above_all : (n : ℕ) (lag grain : ℤ) (taken : List CallEntry) (old : Option ℤ) (t : ℤ) → LowIs n lag grain taken old → has_risen old t ≡ true → (s : ℤ) → WasLeast n lag grain taken s → s <ℤ t
above_all n lag grain taken None t low rose s was = absurd (low s was)
above_all n lag grain taken (Some l) t low rose s was = le_lt s l t (low.greatest s was) (lt_is l t rose)

-- after one entry more the least mark is the watermark that rose
rose_low : (n : ℕ) (lag grain : ℤ) (taken : List CallEntry) (entry : CallEntry) (t : ℤ) → IsLeastMark n lag grain (taken ++ entry ∷ []) t → ((s : ℤ) → WasLeast n lag grain taken s → s <ℤ t) → IsLow n lag grain (taken ++ entry ∷ []) t
rose_low n lag grain taken entry t least above =
    record { was = was_now n lag grain (taken ++ entry ∷ []) t least; greatest = λ s was. by s (was_either n lag grain taken entry s was) }
  where
    by : (s : ℤ) → IsLeastMark n lag grain (taken ++ entry ∷ []) s ⊎ WasLeast n lag grain taken s → s ≤ℤ t
    by s (inl now) = at_most s t (least_is_one n lag grain s t (taken ++ entry ∷ []) now least)
    by s (inr was) = lt_le s t (above s was)

-- the least mark of now is not above the watermark, which stayed
abbrev Holds : ℕ → ℤ → ℤ → List CallEntry → Option ℤ → Type 0
Holds n lag grain after low = (s : ℤ) → IsLeastMark n lag grain after s → IsSomeAnd low (λ t. s ≤ℤ t)

stayed_low : (n : ℕ) (lag grain : ℤ) (taken : List CallEntry) (entry : CallEntry) (low : Option ℤ) → LowIs n lag grain taken low → Holds n lag grain (taken ++ entry ∷ []) low → LowIs n lag grain (taken ++ entry ∷ []) low
stayed_low n lag grain taken entry None none holds = λ t was. by t (was_either n lag grain taken entry t was)
  where
    by : (t : ℤ) → IsLeastMark n lag grain (taken ++ entry ∷ []) t ⊎ WasLeast n lag grain taken t → ⊥
    by t (inl now) = holds t now
    by t (inr was) = none t was
stayed_low n lag grain taken entry (Some l) low holds =
    record { was = was_before n lag grain taken entry l low.was; greatest = λ s was. by s (was_either n lag grain taken entry s was) }
  where
    by : (s : ℤ) → IsLeastMark n lag grain (taken ++ entry ∷ []) s ⊎ WasLeast n lag grain taken s → s ≤ℤ l
    by s (inl now) = holds s now
    by s (inr was) = low.greatest s was

back_to : (n : ℕ) (lag grain : ℤ) (taken after : List CallEntry) (low : Option ℤ) → LowIs n lag grain taken low → LowIs n lag grain after low → (t : ℤ) → IsLow n lag grain after t → IsLow n lag grain taken t
back_to n lag grain taken after None was now t low = absurd (now t low.was)
back_to n lag grain taken after (Some l) was now t low = subst (IsLow n lag grain taken) (low_is_one n lag grain l t after now low) was

-- what the watermark is after one entry more, and what was told of it
pub record NextLow (n : ℕ) (lag grain : ℤ) (taken : List CallEntry) (entry : CallEntry) (low told : Option ℤ) : Type 0 where
  pub low_is : LowIs n lag grain (taken ++ entry ∷ []) low
  pub rises : Rises n lag grain taken (taken ++ entry ∷ []) told

stays : (n : ℕ) (lag grain : ℤ) (taken : List CallEntry) (entry : CallEntry) (low : Option ℤ) → LowIs n lag grain taken low → Holds n lag grain (taken ++ entry ∷ []) low → NextLow n lag grain taken entry low None
stays n lag grain taken entry low was holds =
    let now = stayed_low n lag grain taken entry low was holds in
    record { low_is = now; rises = record { rose = tt; stayed = back_to n lag grain taken (taken ++ entry ∷ []) low was now } }

rises_to : (n : ℕ) (lag grain : ℤ) (taken : List CallEntry) (entry : CallEntry) (old : Option ℤ) (t : ℤ) → LowIs n lag grain taken old → has_risen old t ≡ true → IsLeastMark n lag grain (taken ++ entry ∷ []) t → NextLow n lag grain taken entry (Some t) (Some t)
rises_to n lag grain taken entry old t was rose least =
    let above = above_all n lag grain taken old t was rose in
    record { low_is = rose_low n lag grain taken entry t least above; rises = record { rose = (least, above); stayed = tt } }

pub goes_on : (n : ℕ) (lag grain : ℤ) (taken : List CallEntry) (entry : CallEntry) (queues queues' : View) (told : Option ℤ) → LowIs n lag grain taken queues.low → length queues'.queues ≡ n → AreKnown n lag grain queues' (taken ++ entry ∷ []) → HoldsNoneBack queues' → RisesToLeast queues.low queues' → Step queues.low queues'.low told → NextLow n lag grain taken entry queues'.low told
goes_on n lag grain taken entry queues queues' told was count known holds least (Rose t tells now rose) =
    subst (λ (o : Option ℤ). NextLow n lag grain taken entry o told) (sym now)
    (subst (λ (o : Option ℤ). NextLow n lag grain taken entry (Some t) o) (sym tells)
    (rises_to n lag grain taken entry queues.low t was rose (least_known n lag grain queues' (taken ++ entry ∷ []) t count known (least t now rose))))
goes_on n lag grain taken entry queues queues' told was count known holds least (Stayed tells now) =
    subst (λ (o : Option ℤ). NextLow n lag grain taken entry queues'.low o) (sym tells)
    (stays n lag grain taken entry queues'.low (subst (LowIs n lag grain taken) (sym now) was) (λ s h. low_holds n lag grain queues' (taken ++ entry ∷ []) s count known holds h))

-- nothing was told to the coalescer
pub still : (n : ℕ) (lag grain : ℤ) (taken : List CallEntry) (entry : CallEntry) (queues : View) → LowIs n lag grain taken queues.low → length queues.queues ≡ n → AreKnown n lag grain queues (taken ++ entry ∷ []) → HoldsNoneBack queues → NextLow n lag grain taken entry queues.low None
still n lag grain taken entry queues was count known holds =
    stays n lag grain taken entry queues.low was (λ s h. low_holds n lag grain queues (taken ++ entry ∷ []) s count known holds h)
