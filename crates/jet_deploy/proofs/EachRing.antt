-- The sites of rings, found ring by ring.
use Rattle.std.proofs.Common.{arith, ◌≡◌, ◌⊎◌, inl, inr, ◌≢◌, ◌∙◌, ◌+◌, ◌++◌, ◌∷◌, [], ℕ, zero, suc, Bool, true, false, List, map, length, take, ap, refl, sym, subst}
use Rattle.std.specs.Prelude.{Some, count_by, slice_get}
use Rattle.std.proofs.lemmas.List.{length_push}
use Rattle.std.proofs.lemmas.List.Sums.{count_by_more_yes, count_by_more_no}
use Rattle.std.proofs.lemmas.Option.{same_Some, slice_get_within, get_or_from_slice_get}
use Rattle.jet_harness.specs.declared.channel.Channel.{Channel}
use Rattle.jet_harness.specs.declared.channel.Giver.{Giver}
use Rattle.jet_harness.specs.declared.channel.Giver.TheVariants.{Output, File}
use Rattle.jet_harness.specs.Channels.{channels, wire_channel, file_channel, same_giver, same_taker}
use Rattle.jet_layout.specs.declared.layout.Layout.{Layout}
use Rattle.jet_layout.specs.declared.wire.Port.{Port}
use Rattle.jet_layout.specs.declared.wire.Taker.{Taker}
use Rattle.jet_layout.specs.declared.wire.Taker.TheVariants.{Input, Sink}
use Rattle.jet_layout.specs.declared.wire.Wire.{Wire}
use Rattle.jet_deploy.specs.Sites.{EachOf, NoFileToSink, joins_tasklets, is_between}

-- what stands in no list of rings
abbrev pub no_channel : Channel
no_channel = record { giver = Output (record { task = 0; number = 0 }); taker = Input (record { task = 0; number = 0 }) }

module _ {X : Type 0} where
  later : (z : X) (zs : List X) (y : X) (k : ℕ) (x : X) → (slice_get zs k ≡ Some x) ⊎ ((k ≡ length zs) × (y ≡ x)) → (slice_get (z ∷ zs) (suc k) ≡ Some x) ⊎ ((suc k ≡ length (z ∷ zs)) × (y ≡ x))
  later z zs y k x (inl e) = inl e
  later z zs y k x (inr e) = inr (ap suc e.0, e.1)

  -- an element of a list with one more is one of those before, or it is that one
  pub at_push : (xs : List X) (y : X) (k : ℕ) (x : X) → slice_get (xs ++ y ∷ []) k ≡ Some x → (slice_get xs k ≡ Some x) ⊎ ((k ≡ length xs) × (y ≡ x))
  at_push [] y zero x h = inr (refl, same_Some y x h)
  at_push [] y (suc k) x h = cc
  at_push (z ∷ zs) y zero x h = inl h
  at_push (z ∷ zs) y (suc k) x h = later z zs y k x (at_push zs y k x h)

  grown : (Is : ℕ → ℕ → Channel → X → Type 0) (xs : List X) (y : X) (n : ℕ) (c : Channel) → EachOf Is xs → Is (length xs) n c y → (k : ℕ) (x : X) → (slice_get xs k ≡ Some x) ⊎ ((k ≡ length xs) × (y ≡ x)) → (m : ℕ) × (d : Channel) × Is k m d x
  grown Is xs y n c each is k x (inl e) = each k x e
  grown Is xs y n c each is k x (inr e) = (n, c, subst (λ (z : X). Is k n c z) e.1 (subst (λ (i : ℕ). Is i n c y) (sym e.0) is))

  -- the ring n passes the test, and its site is added
  pub one_more : (Is : ℕ → ℕ → Channel → X → Type 0) (p : Channel → Bool) (cs : List Channel) (n : ℕ) (c : Channel) (xs ys : List X) (y : X)
      → slice_get cs n ≡ Some c → p c ≡ true → ys ≡ xs ++ y ∷ [] → EachOf Is xs → length xs ≡ count_by p (take n cs) → Is (count_by p (take n cs)) n c y
      → EachOf Is ys × (length ys ≡ count_by p (take (n + 1) cs))
  one_more Is p cs n c xs ys y at passes e each count is =
      let more = count_by_more_yes p cs n c (slice_get_within cs n c at) (ap p (get_or_from_slice_get cs n c c at) ∙ passes) in
      let long = length_push xs y in
      let all : EachOf Is (xs ++ y ∷ []) = λ k x here. grown Is xs y n c each (subst (λ (i : ℕ). Is i n c y) (sym count) is) k x (at_push xs y k x here) in
      (subst (λ (l : List X). EachOf Is l) (sym e) all, ap length e ∙ omega (arith, more, long, count))

  -- the ring n does not pass it
  pub none_more : (Is : ℕ → ℕ → Channel → X → Type 0) (p : Channel → Bool) (cs : List Channel) (n : ℕ) (c : Channel) (xs ys : List X)
      → slice_get cs n ≡ Some c → p c ≡ false → ys ≡ xs → EachOf Is xs → length xs ≡ count_by p (take n cs)
      → EachOf Is ys × (length ys ≡ count_by p (take (n + 1) cs))
  none_more Is p cs n c xs ys at fails e each count =
      let same = count_by_more_no p cs n c (slice_get_within cs n c at) (ap p (get_or_from_slice_get cs n c c at) ∙ fails) in
      (subst (λ (l : List X). EachOf Is l) (sym e) each, ap length e ∙ count ∙ sym same)

-- which rings are between two tasklets
pub between : (c : Channel) (p q : Port) → c.giver ≡ Output p → c.taker ≡ Input q → is_between c ≡ true
between c p q e f = ap (λ (g : Giver). joins_tasklets g c.taker) e ∙ ap (joins_tasklets (Output p)) f

to_sink : (g : Giver) → joins_tasklets g Sink ≡ false
to_sink (Output p) = refl
to_sink File = refl

pub into_sink : (c : Channel) → c.taker ≡ Sink → is_between c ≡ false
into_sink c e = ap (joins_tasklets c.giver) e ∙ to_sink c.giver

pub of_file : (c : Channel) → c.giver ≡ File → is_between c ≡ false
of_file c e = ap (λ (g : Giver). joins_tasklets g c.taker) e

-- the ring of a file is not into the sink
apart : (p : Port) → Output p ≢ File
apart p e = cc

enters : (p : Port) → Input p ≢ Sink
enters p e = cc

no_sink : (t : Taker) → t ≢ Sink → same_taker Sink t ≡ false
no_sink (Input q) ne = refl
no_sink Sink ne = absurd (ne refl)

no_giver : (g : Giver) → g ≢ File → same_giver File g ≡ false
no_giver (Output q) ne = refl
no_giver File ne = absurd (ne refl)

-- what else gives is no file, and what else takes is not the sink
pub not_file : (c : Channel) → c.giver ≢ File → same_giver File c.giver ≡ false
not_file c ne = no_giver c.giver ne

pub not_sink : (c : Channel) → c.taker ≢ Sink → same_taker Sink c.taker ≡ false
not_sink c ne = no_sink c.taker ne

pub file_enters : (cs : List Channel) (n : ℕ) (c : Channel) → NoFileToSink cs → slice_get cs n ≡ Some c → c.giver ≡ File → same_taker Sink c.taker ≡ false
file_enters cs n c enter at file = no_sink c.taker (enter n c at file)

past_files : (ps : List Port) (n : ℕ) (c : Channel) → slice_get (map file_channel ps) n ≡ Some c → c.taker ≢ Sink
past_files [] n c at = cc
past_files (p ∷ ps) zero c at = let e : Input p ≡ c.taker = ap (λ (x : Channel). x.taker) (same_Some (file_channel p) c at) in λ sink. enters p (e ∙ sink)
past_files (p ∷ ps) (suc n) c at = past_files ps n c at

no_file : (ws : List Wire) (ps : List Port) (n : ℕ) (c : Channel) → slice_get (map wire_channel ws ++ map file_channel ps) n ≡ Some c → c.giver ≡ File → c.taker ≢ Sink
no_file [] ps n c at file = past_files ps n c at
no_file (w ∷ ws) ps zero c at file = let e : Output w.giver ≡ c.giver = ap (λ (x : Channel). x.giver) (same_Some (wire_channel w) c at) in absurd (apart w.giver (e ∙ file))
no_file (w ∷ ws) ps (suc n) c at file = no_file ws ps n c at file

pub no_file_to_sink : (l : Layout) → NoFileToSink (channels l)
no_file_to_sink l = λ n c at file. no_file l.wires l.files n c at file
