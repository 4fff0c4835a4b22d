-- Frames that sum events: by bags, over several instances, and by keys.
use Rattle.std.proofs.Common.{◌≡◌, ℕ, zero, suc, Bool, true, false, cond, ◌&&◌, List, [], ◌∷◌, ◌++◌, filter, refl, sym, ◌∙◌, ap, ℤ, Option, None}
use Rattle.std.specs.Prelude.{bytes_eq}
use Rattle.std.specs.Ordering.{int_eq}
use Rattle.std.proofs.lemmas.Slice.Eq.{bytes_eq-Decides}
use Rattle.jet_items.specs.Bag.{SameBag, all_of}
use Rattle.jet_items.specs.Values.{EventValue, AccValue, FrameValue}
use Rattle.jet_items.specs.Totals.{one, both, total}
use Rattle.jet_items.specs.Rows.{first_value}
use Rattle.jet_items.specs.Frames.{only, frame_at, event_at, FramesSum, frame_end}
use Rattle.jet_items.proofs.Totaling.{total-append, total-SameBag}

pub FramesSum-none : (slide : ℤ) → FramesSum slide [] []
FramesSum-none slide = record { at = λ end key. refl }

-- both sides count as bags
pub FramesSum-SameBag : (slide : ℤ) {fs gs : List FrameValue} {xs ys : List EventValue} → SameBag fs gs → SameBag xs ys → FramesSum slide fs xs → FramesSum slide gs ys
FramesSum-SameBag slide f x h = record { at = λ end key. sym (total-SameBag (frame_at end key) f) ∙ (h.at end key ∙ total-SameBag (event_at slide end key) x) }

-- two instances together
pub FramesSum-append : (slide : ℤ) (fs gs : List FrameValue) (xs ys : List EventValue) → FramesSum slide fs xs → FramesSum slide gs ys → FramesSum slide (fs ++ gs) (xs ++ ys)
FramesSum-append slide fs gs xs ys h k =
    record { at = λ end key. total-append (frame_at end key) fs gs ∙ (ap (λ a. both a (total (frame_at end key) gs)) (h.at end key) ∙ (ap (both (total (event_at slide end key) xs)) (k.at end key) ∙ sym (total-append (event_at slide end key) xs ys))) }

-- any number of them
pub FramesSum-all : (slide : ℤ) (frames : ℕ → List FrameValue) (events : ℕ → List EventValue) → ((i : ℕ) → FramesSum slide (frames i) (events i)) → (n : ℕ) → FramesSum slide (all_of n frames) (all_of n events)
FramesSum-all slide frames events h zero = FramesSum-none slide
FramesSum-all slide frames events h (suc n) = FramesSum-append slide (all_of n frames) (frames n) (all_of n events) (events n) (FramesSum-all slide frames events h n) (h n)

-- ---- the frames of some keys sum the events of those keys
picked_if : {X : Type 0} (p : Bool) (share : X → Option AccValue) (x : X) (xs rest : List X) → (p ≡ false → share x ≡ None) → total share rest ≡ total share xs → total share (cond p (x ∷ rest) rest) ≡ both (share x) (total share xs)
picked_if true share x xs rest h k = ap (both (share x)) k
picked_if false share x xs rest h k = rw (h refl) k

-- where those that are left out bring nothing, nothing is lost
pub total-picked : {X : Type 0} (p : X → Bool) (share : X → Option AccValue) → ((x : X) → p x ≡ false → share x ≡ None) → (xs : List X) → total share (filter p xs) ≡ total share xs
total-picked p share h [] = refl
total-picked p share h (x ∷ xs) = picked_if (p x) share x xs (filter p xs) (h x) (total-picked p share h xs)

dropped_if : {X : Type 0} (p : Bool) (share : X → Option AccValue) (x : X) (rest : List X) → (p ≡ true → share x ≡ None) → total share rest ≡ None → total share (cond p (x ∷ rest) rest) ≡ None
dropped_if true share x rest h k = rw (h refl) k
dropped_if false share x rest h k = k

-- where those that are kept bring nothing, nothing is there
pub total-dropped : {X : Type 0} (p : X → Bool) (share : X → Option AccValue) → ((x : X) → p x ≡ true → share x ≡ None) → (xs : List X) → total share (filter p xs) ≡ None
total-dropped p share h [] = refl
total-dropped p share h (x ∷ xs) = dropped_if (p x) share x (filter p xs) (h x) (total-dropped p share h xs)

other_key : (p : List ℕ → Bool) (k key : List ℕ) (b c : Bool) (acc : AccValue) → p key ≡ b → (p k ≡ b → ⊥) → only (bytes_eq k key && c) acc ≡ None
other_key p k key b c acc h ne = test (bytes_eq k key) (bytes_eq-Decides k key).0
  where
    test : (t : Bool) → (t ≡ true → k ≡ key) → only (t && c) acc ≡ None
    test true is = absurd (ne (ap p (is refl) ∙ h))
    test false is = refl

apart : (b : Bool) → b ≡ true → b ≡ false → ⊥
apart true h k = absurd (cc)
apart false h k = absurd (cc)

sums_of_keys : (slide : ℤ) (p : List ℕ → Bool) (frames : List FrameValue) (events : List EventValue) → FramesSum slide frames events → (end : ℤ) (key : List ℕ) (b : Bool) → p key ≡ b → total (frame_at end key) (filter (λ f. p f.key) frames) ≡ total (event_at slide end key) (filter (λ x. p x.key) events)
sums_of_keys slide p frames events h end key true is =
    total-picked (λ (f : FrameValue). p f.key) (frame_at end key) (λ f no. other_key p f.key key true (int_eq f.end end) f.acc is (λ yes. apart (p f.key) yes no)) frames
    ∙ (h.at end key ∙ sym (total-picked (λ (x : EventValue). p x.key) (event_at slide end key) (λ x no. other_key p x.key key true (int_eq (frame_end slide x.ts) end) (one (first_value x)) is (λ yes. apart (p x.key) yes no)) events))
sums_of_keys slide p frames events h end key false is =
    total-dropped (λ (f : FrameValue). p f.key) (frame_at end key) (λ f yes. other_key p f.key key false (int_eq f.end end) f.acc is (λ no. apart (p f.key) yes no)) frames
    ∙ sym (total-dropped (λ (x : EventValue). p x.key) (event_at slide end key) (λ x yes. other_key p x.key key false (int_eq (frame_end slide x.ts) end) (one (first_value x)) is (λ no. apart (p x.key) yes no)) events)

pub FramesSum-keys : (slide : ℤ) (p : List ℕ → Bool) (frames : List FrameValue) (events : List EventValue) → FramesSum slide frames events → FramesSum slide (filter (λ f. p f.key) frames) (filter (λ x. p x.key) events)
FramesSum-keys slide p frames events h = record { at = λ end key. sums_of_keys slide p frames events h end key (p key) refl }
