-- Where the ends of a ring stand.
use Rattle.std.proofs.Common.{arith, ◌≡◌, ◌∙◌, ◌<◌, ◌∷◌, [], ℕ, zero, suc, List, length, ap, refl, sym}
use Rattle.std.specs.Prelude.{Some, option_map, slice_get, count_by}
use Rattle.std.proofs.lemmas.Option.{slice_get-map, slice_get_within, get_or_from_slice_get}
use Rattle.std.proofs.lemmas.List.{length-map}
use Rattle.std.proofs.Math.Seq.{take-length}
use Rattle.jet_ring.specs.Ring.{Ring}
use Rattle.jet_layout.specs.declared.wire.Taker.{Taker}
use Rattle.jet_harness.specs.declared.channel.Channel.{Channel}
use Rattle.jet_harness.specs.declared.channel.Giver.{Giver}
use Rattle.jet_harness.specs.declared.harness.Harness.{Harness}
use Rattle.jet_harness.specs.Channels.{same_giver, same_taker}
use Rattle.jet_harness.specs.Harness.{txs_of, rxs_of, fresh_tx, fresh_rx, given_by, taken_by, Joins}
use Rattle.jet_harness.specs.Places.{place_at_giver, place_at_taker, IsPlaced, IsOneAtGiver, IsOneAtTaker}
use Rattle.jet_harness.proofs.Chosen.{chosen_at, length_chosen, found, only_one}
use Rattle.jet_harness.proofs.Same.{giver_true, giver_itself, taker_true, taker_itself}

there_is : {X : Type 0} (xs : List X) (n : ℕ) → n < length xs → (x : X) × (slice_get xs n ≡ Some x)
there_is [] n h = absurd (omega arith)
there_is (x ∷ xs) zero h = (x, refl)
there_is (x ∷ xs) (suc n) h = there_is xs n (omega arith)

module _ (cs : List Channel) (capacity : ℕ) (rings : List Ring) (h : Harness) (j : Joins cs capacity rings h) where
  pub placed : (n : ℕ) (c : Channel) (r : Ring) → slice_get cs n ≡ Some c → slice_get rings n ≡ Some r → IsPlaced cs h n c r
  placed n c r at there = record {
    giver = ap (λ l. slice_get l (place_at_giver cs n c.giver)) (j.givers c.giver)
        ∙ slice_get-map fresh_tx (given_by c.giver cs rings) (place_at_giver cs n c.giver)
        ∙ ap (option_map fresh_tx) (chosen_at (λ d. same_giver c.giver d.giver) cs rings n c r at there (giver_itself c.giver));
    taker = ap (λ l. slice_get l (place_at_taker cs n c.taker)) (j.takers c.taker)
        ∙ slice_get-map fresh_rx (taken_by c.taker cs rings) (place_at_taker cs n c.taker)
        ∙ ap (option_map fresh_rx) (chosen_at (λ d. same_taker c.taker d.taker) cs rings n c r at there (taker_itself c.taker));
  }

  pub joined : (n : ℕ) (c : Channel) → slice_get cs n ≡ Some c → (r : Ring) × (slice_get rings n ≡ Some r) × (r.cap ≡ capacity) × IsPlaced cs h n c r
  joined n c at =
      let lt : n < length rings = let w = slice_get_within cs n c at in omega (arith, w, j.one_each) in
      let r = there_is rings n lt in
      (r.0, r.1, ap (λ (x : Ring). x.cap) (sym (get_or_from_slice_get rings n r.0 r.0 r.1)) ∙ j.sizes n r.0 lt, placed n c r.0 at r.1)

  -- there are as many ends as channels
  pub sends : (g : Giver) → length (txs_of h g) ≡ place_at_giver cs (length cs) g
  sends g =
      ap length (j.givers g) ∙ length-map (given_by g cs rings) fresh_tx ∙ length_chosen (λ (c : Channel). same_giver g c.giver) cs rings j.one_each
      ∙ ap (count_by (λ (c : Channel). same_giver g c.giver)) (sym (take-length cs))

  pub receives : (t : Taker) → length (rxs_of h t) ≡ place_at_taker cs (length cs) t
  receives t =
      ap length (j.takers t) ∙ length-map (taken_by t cs rings) fresh_rx ∙ length_chosen (λ (c : Channel). same_taker t c.taker) cs rings j.one_each
      ∙ ap (count_by (λ (c : Channel). same_taker t c.taker)) (sym (take-length cs))

  pub one_at_giver : (g : Giver) (d : ℕ) → d < length (txs_of h g) → (n : ℕ) × IsOneAtGiver cs g d n
  one_at_giver g d lt =
      let p = λ (c : Channel). same_giver g c.giver in
      let many : length (txs_of h g) ≡ count_by p cs = sends g ∙ ap (count_by p) (take-length cs) in
      let f = found p cs d (omega (arith, many, lt)) in (
        f.number,
        record {
          channel = f.channel;
          at = f.at;
          giver = sym (giver_true g f.channel.giver f.passes);
          place = f.before;
          only = λ m other there e k. only_one p cs f.number m f.channel other f.at f.passes there (ap (same_giver g) e ∙ giver_itself g) (f.before ∙ sym k);
        },
      )

  pub one_at_taker : (t : Taker) (q : ℕ) → q < length (rxs_of h t) → (n : ℕ) × IsOneAtTaker cs t q n
  one_at_taker t q lt =
      let p = λ (c : Channel). same_taker t c.taker in
      let many : length (rxs_of h t) ≡ count_by p cs = receives t ∙ ap (count_by p) (take-length cs) in
      let f = found p cs q (omega (arith, many, lt)) in (
        f.number,
        record {
          channel = f.channel;
          at = f.at;
          taker = sym (taker_true t f.channel.taker f.passes);
          place = f.before;
          only = λ m other there e k. only_one p cs f.number m f.channel other f.at f.passes there (ap (same_taker t) e ∙ taker_itself t) (f.before ∙ sym k);
        },
      )
