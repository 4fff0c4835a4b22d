-- The ends outside of a job, and the members of its tasks.
use Rattle.std.proofs.Common.{arith, ◌≡◌, ◌∙◌, ◌+◌, ◌<◌, ◌≤◌, ◌++◌, ℕ, zero, suc, cond, List, [], ◌∷◌, Some, map, length, ap, refl, sym, subst}
use Rattle.std.specs.Prelude.{slice_get, get_or, count_by, take}
use Rattle.std.specs.List.{All}
use Rattle.std.proofs.lemmas.List.Sums.{sum_by-cons}
use Rattle.std.proofs.lemmas.Option.{slice_get-get_or}
use Rattle.std.proofs.Math.Seq.{take-length}
use Rattle.jet_flow.specs.DataFiles.{data_files}
use Rattle.jet_harness.specs.declared.channel.Channel.{Channel}
use Rattle.jet_harness.specs.declared.channel.Giver.TheVariants.{File}
use Rattle.jet_harness.specs.declared.harness.Harness.{Harness}
use Rattle.jet_harness.specs.Channels.{channels, wire_channel, file_channel, same_giver, same_taker}
use Rattle.jet_harness.specs.Harness.{txs_of, rxs_of}
use Rattle.jet_layout.specs.declared.layout.Layout.{Layout}
use Rattle.jet_layout.specs.declared.task.Instance.{Instance}
use Rattle.jet_layout.specs.declared.task.Link.{Link}
use Rattle.jet_layout.specs.declared.task.Task.{Task}
use Rattle.jet_layout.specs.declared.task.Task.TheVariants.{Run, Send, Receive}
use Rattle.jet_layout.specs.declared.wire.Port.{Port}
use Rattle.jet_layout.specs.declared.wire.Taker.TheVariants.{Sink}
use Rattle.jet_layout.specs.declared.wire.Wire.{Wire}
use Rattle.jet_layout.specs.Files.{files}
use Rattle.jet_layout.specs.Places.{IsInstance, IsLink}
use Rattle.jet_layout.specs.Tasks.{member_of}
use Rattle.jet_plan.specs.declared.dag.Dag.{Dag}
use Rattle.jet_deploy.proofs.FileCount.{one_for_each}
use Rattle.jet_deploy.proofs.FreshEnds.{Counted, few_at}

abbrev is_of_file : Channel → ℕ
is_of_file c = cond (same_giver File c.giver) 1 0

files_alone : (ps : List Port) → count_by (λ c. same_giver File c.giver) (map file_channel ps) ≡ length ps
files_alone [] = refl
files_alone (p ∷ ps) =
    let e = sum_by-cons is_of_file (file_channel p) (map file_channel ps) in
    let more = files_alone ps in
    omega (arith, e, more)

past_wires : (ws : List Wire) (ps : List Port) → count_by (λ c. same_giver File c.giver) (map wire_channel ws ++ map file_channel ps) ≡ length ps
past_wires [] ps = files_alone ps
past_wires (w ∷ ws) ps =
    let e = sum_by-cons is_of_file (wire_channel w) (map wire_channel ws ++ map file_channel ps) in
    let more = past_wires ws ps in
    omega (arith, e, more)

-- there is an end for each data file
pub one_a_file : (dag : Dag) (members : ℕ) (l : Layout) (h : Harness) → l.files ≡ files members dag → Counted (channels l) h → length (txs_of h File) ≡ length (data_files dag)
one_a_file dag members l h e c =
    c.sends File ∙ ap (count_by (λ x. same_giver File x.giver)) (take-length (channels l)) ∙ past_wires l.wires l.files ∙ ap length e ∙ one_for_each members dag

pub few_into_sink : (cs : List Channel) (h : Harness) → Counted cs h → length cs ≤ 2000000 → length (rxs_of h Sink) ≤ 2000000
few_into_sink cs h c few =
    let e = c.receives Sink in
    let le = few_at cs (λ x. same_taker Sink x.taker) in
    omega (arith, e, le, few)

module _ (dag : Dag) (width : ℕ) (l : Layout)
    (instances : (k : ℕ) (i : Instance) → slice_get l.tasks k ≡ Some (Run i) → IsInstance dag width i)
    (senders : (k : ℕ) (x : Link) → slice_get l.tasks k ≡ Some (Send x) → IsLink width l.joints x)
    (receivers : (k : ℕ) (x : Link) → slice_get l.tasks k ≡ Some (Receive x) → IsLink width l.joints x) where
  inside_at : (k : ℕ) (task : Task) → slice_get l.tasks k ≡ Some task → member_of task < width
  inside_at k (Run i) at = (instances k i at).inside
  inside_at k (Send x) at = (senders k x at).from
  inside_at k (Receive x) at = (receivers k x at).to

  -- each task stands on one of the members
  pub all_inside : All (λ task. member_of task < width) l.tasks
  all_inside = λ k d lt. inside_at k (get_or l.tasks k d) (slice_get-get_or l.tasks k d lt)
