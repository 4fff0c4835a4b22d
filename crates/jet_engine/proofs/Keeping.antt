-- A job stays ready through meetings and epochs.
use Rattle.std.proofs.Common.{◌≡◌, ◌<◌, ◌^◌, ℕ, suc, List, [], ◌∷◌, map, get_or, length, refl, sym, ap, subst, arith}
use Rattle.std.specs.List.{All}
use Rattle.jet_items.specs.declared.item.Item.{Item}
use Rattle.jet_tasklet.specs.declared.any.AnyTasklet.{AnyTasklet}
use Rattle.jet_tasklet.specs.declared.any.AnyTasklet.TheVariants as any
use Rattle.jet_tasklet.specs.declared.arrival.Arrival.{Arrival}
use Rattle.jet_tasklet.specs.Any.{AnyKeeps, AnyIsLawful}
use Rattle.jet_tasklet.specs.Crew.{TaskSaid}
use Rattle.jet_tasklet.specs.Turns.{AnyWent}
use Rattle.jet_conveyor.specs.Conveyor.{view}
use Rattle.jet_ring.specs.Ring.{tx_view}
use Rattle.jet_crew.specs.declared.end.EpochEnd.{EpochEnd}
use Rattle.jet_crew.specs.declared.worker.Worker.{Worker}
use Rattle.jet_crew.specs.Epoch.{Placewise, EpochOver}
use Rattle.jet_crew.specs.Gather.{gather, Placed, epochs_of}
use Rattle.jet_engine.specs.declared.job.Job.{Job}
use Rattle.jet_engine.specs.Jobs.{tasklets_of, IsReady}
use Rattle.jet_engine.specs.Lasting.{KeepsRings}
use Rattle.jet_engine.specs.Wiring.{Attended, IsWired}
use Rattle.jet_engine.proofs.Lasting.{turns_keep, wired_still}

-- the items of which it keeps its laws
kept_of : (t : AnyTasklet) → AnyIsLawful t → (came : List Arrival) × (gave : List Item) × AnyKeeps t came gave
kept_of (any.Stamp t) h = (h.came, h.gave, h.keeps)
kept_of (any.Map t) h = (h.came, h.gave, h.keeps)
kept_of (any.Filter t) h = (h.came, h.gave, h.keeps)
kept_of (any.Flat t) h = (h.came, h.gave, h.keeps)
kept_of (any.Join t) h = (h.came, h.gave, h.keeps)
kept_of (any.Frame t) h = (h.came, h.gave, h.keeps)
kept_of (any.Combine t) h = (h.came, h.gave, h.keeps)
kept_of (any.Send t) h = (h.came, h.gave, h.keeps)
kept_of (any.Receive t) h = (h.came, h.gave, h.keeps)

lawful_of : (t : AnyTasklet) (came : List Arrival) (gave : List Item) → AnyKeeps t came gave → AnyIsLawful t
lawful_of (any.Stamp t) came gave k = record { came = came; gave = gave; keeps = k }
lawful_of (any.Map t) came gave k = record { came = came; gave = gave; keeps = k }
lawful_of (any.Filter t) came gave k = record { came = came; gave = gave; keeps = k }
lawful_of (any.Flat t) came gave k = record { came = came; gave = gave; keeps = k }
lawful_of (any.Join t) came gave k = record { came = came; gave = gave; keeps = k }
lawful_of (any.Frame t) came gave k = record { came = came; gave = gave; keeps = k }
lawful_of (any.Combine t) came gave k = record { came = came; gave = gave; keeps = k }
lawful_of (any.Send t) came gave k = record { came = came; gave = gave; keeps = k }
lawful_of (any.Receive t) came gave k = record { came = came; gave = gave; keeps = k }

pub lawful_still : (ts us : List AnyTasklet) → Placewise Attended ts us → All AnyIsLawful ts → All AnyIsLawful us
lawful_still ts us m all = λ k d l.
    let inside : k < length ts = let n = m.count in omega (arith, n, l) in
    let h = kept_of (get_or ts k d) (all k d inside) in
    lawful_of (get_or us k d) h.0 h.1 ((m.each k d inside).keeps h.0 h.1 h.2)

-- ---- a job through an epoch
pub same_count : (ws vs : List (Worker AnyTasklet)) → epochs_of vs ≡ epochs_of ws → length vs ≡ length ws
same_count [] [] e = refl
same_count [] (v ∷ vs) e = absurd (cc e)
same_count (w ∷ ws) [] e = absurd (cc e)
same_count (w ∷ ws) (v ∷ vs) e = ap suc (same_count ws vs (ap tail_of e))
  where
    tail_of : List ℕ → List ℕ
    tail_of [] = []
    tail_of (x ∷ xs) = xs

all_kept : (ts us : List AnyTasklet) → Placewise AnyWent ts us → Placewise KeepsRings ts us
all_kept ts us w = record { count = w.count; each = λ k d l. turns_keep (get_or ts k d) (get_or us k d) (w.each k d l).turned }

-- what is ready stays so with these workers in the place of its own
pub ready_after : (j : Job) (vs xs : List (Worker AnyTasklet)) (end : EpochEnd) → IsReady j → xs ≡ vs → length vs ≡ length j.workers.items → Placed vs j.order.items → All AnyIsLawful (gather vs j.order.items) → EpochOver AnyWent TaskSaid end (tasklets_of j) (gather vs j.order.items)
    → ((0 < length xs) × (length xs < 2 ^ 32)) × Placed xs j.order.items × All AnyIsLawful (gather xs j.order.items) × IsWired (gather xs j.order.items) (map tx_view j.feeds.items) (view j.sink) j.wiring
ready_after j vs xs end h is count placed lawful over =
    let wired = wired_still (tasklets_of j) (gather vs j.order.items) (map tx_view j.feeds.items) (view j.sink) j.wiring (all_kept (tasklets_of j) (gather vs j.order.items) over.went_all) h.wired in
    let a = h.some.0 in
    let b = h.some.1 in
    subst (λ (ws : List (Worker AnyTasklet)). ((0 < length ws) × (length ws < 2 ^ 32)) × Placed ws j.order.items × All AnyIsLawful (gather ws j.order.items) × IsWired (gather ws j.order.items) (map tx_view j.feeds.items) (view j.sink) j.wiring)
    (sym is) ((omega (arith, a, count), omega (arith, b, count)), placed, lawful, wired)
