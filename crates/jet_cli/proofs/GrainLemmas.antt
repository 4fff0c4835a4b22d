-- What a check of the files of a valid job is of.
use Rattle.std.proofs.Common.{◌≡◌, ℕ, zero, suc, ◌<◌, ◌%◌, List, [], ◌∷◌, None, refl, arith}
use Rattle.std.specs.Prelude.{unsigned_abs}
use Rattle.std.specs.Int.{IsGcd, ◌∣◌}
use Rattle.std.proofs.lemmas.List.Elements.{All-nil, All-cons, All-head, All-tail, All-weaker}
use Rattle.std.proofs.lemmas.Nat.Gcd.{IsGcd-from_zero, IsGcd-from_mod, dvd-zero, dvd_trans}
use Rattle.jet_plan.specs.declared.dag.Dag.{Dag}
use Rattle.jet_plan.specs.declared.settings.Settings.{Settings}
use Rattle.jet_plan.specs.Faults.{fault}
use Rattle.jet_flow.specs.DataFiles.{data_files}
use Rattle.jet_flow.specs.Grain.{IsGreatestDivisor, slides}
use Rattle.jet_worker.specs.CheckText.{Checks}
use Rattle.jet_worker.specs.Checked.{IsCheckOf}
use Rattle.jet_cli.specs.inner.RangeLaws.{AllowsLines}

-- ---- the unit of the watermarks
-- two numbers have a greatest common divisor
gcd_within : (most a b : ℕ) → b < most → (g : ℕ) × IsGcd a b g
gcd_within zero a b small = absurd (omega (arith, small))
gcd_within (suc most) a zero small = (a, IsGcd-from_zero a zero refl)
gcd_within (suc most) a (suc b) small =
    let less : a % suc b < suc b = omega arith in
    let inner = gcd_within most (suc b) (a % suc b) (omega (arith, less, small)) in
    (inner.0, IsGcd-from_mod a (suc b) inner.0 inner.1)

-- and so have all numbers of a list
pub divisor_of : (ns : List ℕ) → (g : ℕ) × IsGreatestDivisor ns g
divisor_of [] = (0, record { divides = All-nil (λ n. 0 ∣ n); greatest = λ d each. dvd-zero d })
divisor_of (n ∷ ns) =
    let rest = divisor_of ns in
    let both = gcd_within (suc rest.0) n rest.0 (omega arith) in
    let g = both.0 in (
      g,
      record {
        divides = All-cons (λ m. g ∣ m) n ns both.1.0 (All-weaker (λ m. rest.0 ∣ m) (λ m. g ∣ m) (λ m d. dvd_trans g both.1.1 d) ns rest.1.divides);
        greatest = λ d each. both.1.2 d (All-head (λ m. d ∣ m) n ns each) (rest.1.greatest d (All-tail (λ m. d ∣ m) n ns each));
      },
    )

-- a valid job has a check
pub check_of : AllowsLines → (dag : Dag) (s : Settings) → fault dag s ≡ None → (k : Checks) × IsCheckOf dag s k
check_of allows dag s valid =
    let unit = divisor_of (slides dag) in
    let k : Checks = record { files = data_files dag; most = unsigned_abs s.lines; unit = unit.0 } in
    (k, record { files = refl; most = allows dag s valid; unit = unit.1 })
