-- The greatest divisor of the slides, vertex by vertex.
use Rattle.std.proofs.Common.{◌≡◌, ℕ, ◌+◌, ◌<◌, List, [], ◌∷◌, ◌++◌, length, take, get_or, refl, sym, ap, ◌∙◌, subst, append-nil, add-one, Some}
use Rattle.std.specs.Prelude.{flat_map}
use Rattle.std.specs.Int.{IsGcd, ◌∣◌}
use Rattle.std.proofs.Math.Seq.{take-suc}
use Rattle.std.proofs.lemmas.Grind.{flat_map-append}
use Rattle.std.proofs.lemmas.List.Elements.{All-nil, All-cons, All-head, All-push, All-pop, All-weaker}
use Rattle.std.proofs.lemmas.Nat.Gcd.{dvd-zero, dvd_refl, dvd_trans}
use Rattle.std.specs.Prelude.{ℤ}
use Rattle.jet_plan.specs.declared.vertex.Vertex.{Vertex}
use Rattle.jet_plan.specs.declared.kind.Kind.{Kind}
use Rattle.jet_plan.specs.declared.kind.Kind.TheVariants.{Source, Side, Map, Filter, Flat, Join, Accumulate, Combine, Sink}
use Rattle.jet_flow.specs.Grain.{IsGreatestDivisor, slides_of}

-- of no numbers it is 0
pub of_none : IsGreatestDivisor [] 0
of_none = record { divides = All-nil (λ n. 0 ∣ n); greatest = λ d each. dvd-zero d }

-- with one number more
pub of_one_more : (ns : List ℕ) (n u g : ℕ) → IsGreatestDivisor ns u → IsGcd u n g → IsGreatestDivisor (ns ++ n ∷ []) g
of_one_more ns n u g h k =
    record {
      divides = All-push (λ m. g ∣ m) ns n (All-weaker (λ m. u ∣ m) (λ m. g ∣ m) (λ m d. dvd_trans g k.0 d) ns h.divides) k.1;
      greatest = λ d each. let parts = All-pop (λ m. d ∣ m) (ns ++ n ∷ []) ns (Some n) refl each in k.2 d (h.greatest d parts.0) parts.1;
    }

-- what a list gives, with an element more
taken_more : {X Y : Type 0} (f : X → List Y) (xs : List X) (i : ℕ) (d : X) → i < length xs → flat_map f (take (i + 1) xs) ≡ flat_map f (take i xs) ++ f (get_or xs i d)
taken_more f xs i d within =
    ap (λ ys. flat_map f ys) (rw add-one (take-suc xs i d within))
    ∙ (flat_map-append f (take i xs) (get_or xs i d ∷ [])
    ∙ ap (λ ys. flat_map f (take i xs) ++ ys) (append-nil (f (get_or xs i d))))

-- no slide but that of an accumulate vertex
pub no_slide : (kind : Kind) → ((size slide : ℤ) → kind ≡ Accumulate size slide → ⊥) → slides_of kind ≡ []
no_slide (Accumulate size slide) h = absurd (h size slide refl)
no_slide (Source files lag) h = refl
no_slide (Side file) h = refl
no_slide (Map set) h = refl
no_slide (Filter test) h = refl
no_slide (Flat legs) h = refl
no_slide (Join mode rekey fields) h = refl
no_slide Combine h = refl
no_slide Sink h = refl

-- the slides of the first vertices
abbrev pub slides_before : List Vertex → ℕ → List ℕ
slides_before vertices i = flat_map (λ v. slides_of v.kind) (take i vertices)

-- with one vertex more
pub of_vertex_more : (vertices : List Vertex) (i : ℕ) (v : Vertex) (ns : List ℕ) (g : ℕ) → i < length vertices → v ≡ get_or vertices i v → slides_of v.kind ≡ ns
    → IsGreatestDivisor (slides_before vertices i ++ ns) g → IsGreatestDivisor (slides_before vertices (i + 1)) g
of_vertex_more vertices i v ns g within at is h =
    let last : slides_of (get_or vertices i v).kind ≡ ns = ap (λ (u : Vertex). slides_of u.kind) (sym at) ∙ is in
    subst (λ ms. IsGreatestDivisor ms g) (sym (taken_more (λ v. slides_of v.kind) vertices i v within ∙ ap (λ ms. slides_before vertices i ++ ms) last)) h

-- a number is the greatest divisor of itself
pub of_one : (n : ℕ) → IsGreatestDivisor (n ∷ []) n
of_one n = record { divides = All-cons (λ m. n ∣ m) n [] (dvd_refl n) (All-nil (λ m. n ∣ m)); greatest = λ d each. All-head (λ m. d ∣ m) n [] each }
