-- A job put together from its parts is deployed.
use Rattle.std.proofs.Common.{arith, ◌≡◌, ◌∙◌, ◌*◌, ◌<◌, ◌≤◌, ◌^◌, ℕ, zero, suc, ℤ, List, [], ◌∷◌, Some, map, length, ap, refl, sym, subst}
use Rattle.std.specs.Prelude.{slice_get, get_or}
use Rattle.std.specs.List.{All}
use Rattle.std.proofs.lemmas.List.{length-map}
use Rattle.std.proofs.lemmas.List.Elements.{All-nil, All-cons}
use Rattle.std.proofs.lemmas.Option.{slice_get-get_or}
use Rattle.jet_conveyor.specs.Conveyor.{IsNew, view}
use Rattle.jet_crew.specs.Gather.{Placed}
use Rattle.jet_engine.specs.declared.job.Job.{Job}
use Rattle.jet_engine.specs.declared.places.LinkAt.{LinkAt}
use Rattle.jet_engine.specs.Jobs.{IsReady, tasklets_of}
use Rattle.jet_engine.specs.Wiring.{IsWired}
use Rattle.jet_flow.specs.DataFiles.{data_files}
use Rattle.jet_harness.specs.Channels.{channels}
use Rattle.jet_harness.specs.declared.channel.Giver.TheVariants.{File}
use Rattle.jet_harness.specs.declared.harness.Harness.{Harness}
use Rattle.jet_harness.specs.Harness.{txs_of, rxs_of, fresh_tx, fresh_rx, given_by, taken_by, Joins}
use Rattle.jet_items.specs.declared.item.Item.{Item}
use Rattle.jet_layout.specs.declared.layout.Layout.{Layout}
use Rattle.jet_layout.specs.declared.wire.Taker.TheVariants.{Sink}
use Rattle.jet_layout.specs.Tasks.{member_of}
use Rattle.jet_plan.specs.declared.dag.Dag.{Dag}
use Rattle.jet_plan.specs.declared.settings.Settings.{Settings}
use Rattle.jet_plan.specs.Rings.{members}
use Rattle.jet_ring.specs.Ring.{Ring, TxView, RxView, tx_view, rx_view, sent, received}
use Rattle.jet_ring.specs.declared.ends.Rx.{Rx}
use Rattle.jet_ring.specs.declared.ends.Tx.{Tx}
use Rattle.jet_tasklet.specs.declared.any.AnyTasklet.{AnyTasklet}
use Rattle.jet_tasklet.specs.declared.any.AnyTasklet.TheVariants as any
use Rattle.jet_tasklet.specs.Any.{AnyKeeps, AnyIsLawful}
use Rattle.jet_deploy.specs.Deployed.{IsDeployed}
use Rattle.jet_deploy.specs.Making.{AreMade, CanMake, Remains}
use Rattle.jet_deploy.specs.Sites.{AreSites, EachLink}
use Rattle.jet_deploy.specs.inner.Standing.{WiresAll, StandsReady, ground_over}

-- what has taken and given nothing keeps its laws
lawful : (t : AnyTasklet) → AnyKeeps t [] [] → AnyIsLawful t
lawful (any.Stamp t) k = record { came = []; gave = []; keeps = k }
lawful (any.Map t) k = record { came = []; gave = []; keeps = k }
lawful (any.Filter t) k = record { came = []; gave = []; keeps = k }
lawful (any.Flat t) k = record { came = []; gave = []; keeps = k }
lawful (any.Join t) k = record { came = []; gave = []; keeps = k }
lawful (any.Frame t) k = record { came = []; gave = []; keeps = k }
lawful (any.Combine t) k = record { came = []; gave = []; keeps = k }
lawful (any.Send t) k = record { came = []; gave = []; keeps = k }
lawful (any.Receive t) k = record { came = []; gave = []; keeps = k }

none_sent : (txs : List (Tx Item)) (rs : List Ring) → map tx_view txs ≡ map fresh_tx rs → All (λ tx. sent tx ≡ []) txs
none_sent [] rs e = All-nil (λ tx. sent tx ≡ [])
none_sent (x ∷ xs) [] e = cc
none_sent (x ∷ xs) (r ∷ rs) e =
    let here : tx_view x ≡ fresh_tx r = cc in
    let more : map tx_view xs ≡ map fresh_tx rs = cc in
    All-cons (λ tx. sent tx ≡ []) x xs (ap (λ (v : TxView Item). v.sent) here) (none_sent xs rs more)

none_received : (rxs : List (Rx Item)) (rs : List Ring) → map rx_view rxs ≡ map fresh_rx rs → All (λ rx. received rx ≡ []) rxs
none_received [] rs e = All-nil (λ rx. received rx ≡ [])
none_received (x ∷ xs) [] e = cc
none_received (x ∷ xs) (r ∷ rs) e =
    let here : rx_view x ≡ fresh_rx r = cc in
    let more : map rx_view xs ≡ map fresh_rx rs = cc in
    All-cons (λ rx. received rx ≡ []) x xs (ap (λ (v : RxView Item). v.received) here) (none_received xs rs more)

-- what the laws say of the fresh rings of a layout
pub stands_ready : (dag : Dag) (s : Settings) (l : Layout) (h : Harness) (capacity : ℕ) (rings : List Ring) → Joins (channels l) capacity rings h
    → ((grain : ℤ) → CanMake (ground_over dag l (members s) grain) h l.tasks) → WiresAll dag l h → length (channels l) ≤ 2000000 → All (λ task. member_of task < members s) l.tasks
    → length (rxs_of h Sink) ≤ 2000000 → length (txs_of h File) ≡ length (data_files dag) → StandsReady dag s l h
stands_ready dag s l h capacity rings j can wires few inside sink files =
    let from = ap length (j.givers File) ∙ length-map (given_by File (channels l) rings) fresh_tx in
    let into = ap length (j.takers Sink) ∙ length-map (taken_by Sink (channels l) rings) fresh_rx in
    record {
      can = can;
      wires = wires;
      few = few;
      inside = inside;
      files = given_by File (channels l) rings;
      fed = j.givers File;
      one_each = sym from ∙ files;
      queues = taken_by Sink (channels l) rings;
      drained = j.takers Sink;
      few_queues = omega (arith, into, sink);
    }

deployed : (files : ℕ) (j : Job) (ts : List AnyTasklet) (queues : List (Rx Item)) (rs qs : List Ring)
    → tasklets_of j ≡ ts → Placed j.workers.items j.order.items → (0 < length j.workers.items) × (length j.workers.items < 2 ^ 32)
    → ((k : ℕ) (t : AnyTasklet) → slice_get ts k ≡ Some t → AnyKeeps t [] []) → IsWired ts (map tx_view j.feeds.items) (view j.sink) j.wiring
    → length (map tx_view j.feeds.items) ≡ files → map tx_view j.feeds.items ≡ map fresh_tx rs → IsNew (view j.sink) queues → map rx_view queues ≡ map fresh_rx qs
    → IsDeployed files j
deployed files j ts queues rs qs e placed some keeps wired long txs new rxs =
    record {
      ready = record {
        some = some;
        placed = placed;
        lawful = subst (All AnyIsLawful) (sym e) (λ k d lt. lawful (get_or ts k d) (keeps k (get_or ts k d) (slice_get-get_or ts k d lt)));
        wired = subst (λ (l : List AnyTasklet). IsWired l (map tx_view j.feeds.items) (view j.sink) j.wiring) (sym e) wired;
      };
      fresh = subst (All (λ t. AnyKeeps t [] [])) (sym e) (λ k d lt. keeps k (get_or ts k d) (slice_get-get_or ts k d lt));
      one_each = sym (length-map j.feeds.items tx_view) ∙ long;
      unsent = none_sent j.feeds.items rs txs;
      queues = queues;
      sink = new;
      untaken = none_received queues qs rxs;
    }

-- all parts together, over the fresh rings of a layout
pub put_together : (dag : Dag) (s : Settings) (l : Layout) (h rest : Harness) (j : Job) (ts : List AnyTasklet) (grain : ℤ) (links : List LinkAt) (queues : List (Rx Item)) → StandsReady dag s l h
    → length ts ≡ length l.tasks → AreMade (ground_over dag l (members s) grain) h l.tasks ts → Remains (length l.tasks) h rest
    → tasklets_of j ≡ ts → Placed j.workers.items j.order.items → (0 < length j.workers.items) × (length j.workers.items < 2 ^ 32)
    → AreSites (channels l) j.wiring → EachLink l.tasks links → j.wiring.links.items ≡ links
    → map tx_view j.feeds.items ≡ txs_of rest File → IsNew (view j.sink) queues → map rx_view queues ≡ rxs_of rest Sink
    → IsDeployed (length (data_files dag)) j
put_together dag s l h rest j ts grain links queues ready count made remains e placed some sites each same feeds new rxs =
    let few = ready.few in
    let txs = feeds ∙ remains.files in
    let sink = rxs ∙ remains.sink in
    let wired = ready.wires (members s) grain ts j.wiring (map tx_view j.feeds.items) (view j.sink) queues count made sites (subst (EachLink l.tasks) (sym same) each) txs new sink (omega (arith, few)) in
    deployed (length (data_files dag)) j ts queues ready.files ready.queues e placed some made.keeps wired (ap length (txs ∙ ready.fed) ∙ length-map ready.files fresh_tx ∙ ready.one_each) (txs ∙ ready.fed) new (sink ∙ ready.drained)
