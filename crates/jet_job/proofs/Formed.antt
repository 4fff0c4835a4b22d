-- What a value of each form holds.
use Rattle.std.proofs.Common.{◌≡◌, ℕ, suc, ◌<◌, ◌≤◌, ℤ, pos, negsuc, ◌≤ℤ◌, Bool, true, false, List, [], ◌∷◌, ◌&&◌, ◌==◌, length, nat_le, int_le, refl, sym, ◌∙◌, ap, subst, arith}
use Rattle.std.proofs.lemmas.Bool.Decides.{nat_tests}
use Rattle.std.proofs.lemmas.List.Elements.{All-nil, All-cons}
use Rattle.std.specs.Prelude.{Option, Some, None, option_map, option_and_then, bytes_eq, Result, if◌then◌else◌, All}
use Rattle.std.specs.List.{find}
use Rattle.serde_json.specs.Data.{Data, Items, no_items, item}
use Rattle.serde_json.specs.Events.{items_len}
use Rattle.serde_json.specs.Find.{as_str, as_array}
use Rattle.jet_job.specs.declared.fault.JobFault.{JobFault}
use Rattle.jet_job.specs.Forms.{where_fits, whole, whole_from, text_form, word_form, each_form}
use Rattle.jet_job.specs.Members.{each_at}
use Rattle.jet_job.specs.Words.{joint_fields}
use Rattle.jet_job.specs.Files.{files_form, files_in}
use Rattle.jet_job.specs.Joints.{fields_form, fields_in}
use Rattle.jet_job.specs.Vertices.{size_of}
use Rattle.jet_job.specs.InForm.{IsFew}
use Rattle.jet_job.proofs.Sound.{Sound, Plain, then_sound}

fits_if : {X : Type 0} (p : X → Bool) (y x : X) (b : Bool) → p y ≡ b → (if b then Some y else None) ≡ Some x → (p x ≡ true) × (Some y ≡ Some x)
fits_if p y x true holds is = let same : y ≡ x = cc in (ap p (sym same) ∙ holds, is)
fits_if p y x false holds is = absurd (cc is)

-- what fits passes the test, and is what there was
fits : {X : Type 0} (p : X → Bool) (o : Option X) (x : X) → option_and_then (where_fits p) o ≡ Some x → (p x ≡ true) × (o ≡ Some x)
fits p None x is = absurd (cc is)
fits p (Some y) x is = fits_if p y x (p y) refl is

few_in : (o : Option Items) (fs : List (List ℕ)) → option_and_then files_in o ≡ Some fs → IsFew 256 fs
few_in None fs is = absurd (cc is)
few_in (Some ds) fs is =
    let test = (fits (λ xs. nat_le 1 (length xs) && nat_le (length xs) 256) (each_form text_form ds) fs is).0 in
    (grind (arith, nat_tests), grind (arith, nat_tests))

pub few_files : (d : Data) (fs : List (List ℕ)) → files_form d ≡ Some fs → IsFew 256 fs
few_files d fs is = few_in (as_array d) fs is

between : (least most z : ℤ) → (int_le least z && int_le z most) ≡ true → (least ≤ℤ z) × (z ≤ℤ most)
between least most z test = (grind (arith, nat_tests), grind (arith, nat_tests))

pub in_range : (least most : ℤ) (d : Data) (z : ℤ) → whole_from least most d ≡ Some z → (least ≤ℤ z) × (z ≤ℤ most)
in_range least most d z is = between least most z (fits (λ y. int_le least y && int_le y most) (whole d) z is).0

-- a whole number from 1 to 8, as a natural one
pub size_in : (z : ℤ) → (pos 1 ≤ℤ z) × (z ≤ℤ pos 8) → (1 ≤ size_of z) × (size_of z ≤ 8)
size_in (pos n) range = (grind (arith, range), grind (arith, range))
size_in (negsuc n) range = absurd (grind (arith, range))

-- each of the words stands for what has the property
abbrev EachWord : {X : Type 0} → (X → Type 0) → List (List ℕ × X) → Type 0
EachWord P [] = Unit {0}
EachWord P (w ∷ ws) = P w.1 × EachWord P ws

-- the first word that passes, or what is found behind it
found_if : {X : Type 0} (P : X → Type 0) (w : List ℕ × X) (rest : Option (List ℕ × X)) (x : X) → P w.1 → (option_map (λ v. v.1) rest ≡ Some x → P x) → (b : Bool)
    → option_map (λ v. v.1) (if b then Some w else rest) ≡ Some x → P x
found_if P w rest x first behind true is = let same : w.1 ≡ x = cc in subst P same first
found_if P w rest x first behind false is = behind is

found : {X : Type 0} (P : X → Type 0) (p : List ℕ × X → Bool) (ws : List (List ℕ × X)) (x : X) → EachWord P ws → option_map (λ v. v.1) (find p ws) ≡ Some x → P x
found P p [] x each is = absurd (cc is)
found P p (w ∷ ws) x each is = found_if P w (find p ws) x each.0 (found P p ws x each.1) (p w) is

in_words : {X : Type 0} (P : X → Type 0) (words : List (List ℕ × X)) → EachWord P words → (o : Option (List ℕ)) (x : X)
    → option_and_then (λ s. option_map (λ w. w.1) (find (λ w. bytes_eq s w.0) words)) o ≡ Some x → P x
in_words P words each None x is = absurd (cc is)
in_words P words each (Some s) x is = found P (λ w. bytes_eq s w.0) words x each is

small_words : EachWord (λ n. n < 8) joint_fields
small_words = (omega arith, (omega arith, (omega arith, (omega arith, (omega arith, (omega arith, (omega arith, (omega arith, tt))))))))

one_more : {X : Type 0} (P : X → Type 0) (f : Option X) (o : Option (List X)) (xs : List X) → ((x : X) → f ≡ Some x → P x) → ((ys : List X) → o ≡ Some ys → All P ys)
    → option_and_then (λ x. option_map (λ ys. x ∷ ys) o) f ≡ Some xs → All P xs
one_more P None o xs first rest is = absurd (cc is)
one_more P (Some x) None xs first rest is = absurd (cc is)
one_more P (Some x) (Some ys) xs first rest is = let same : (x ∷ ys) ≡ xs = cc in subst (All P) same (All-cons P x ys (first x refl) (rest ys refl))

each_holds : {X : Type 0} (P : X → Type 0) (form : Data → Option X) → ((d : Data) (x : X) → form d ≡ Some x → P x) → (ds : Items) (xs : List X) → each_form form ds ≡ Some xs → All P xs
each_holds P form holds no_items xs is = let none : [] ≡ xs = cc in subst (All P) none (All-nil P)
each_holds P form holds (item d ds) xs is = one_more P (form d) (each_form form ds) xs (holds d) (λ ys e. each_holds P form holds ds ys e) is

small_in : (o : Option Items) (fs : List ℕ) → option_and_then fields_in o ≡ Some fs → All (λ n. n < 8) fs
small_in None fs is = absurd (cc is)
small_in (Some ds) fs is =
    each_holds (λ n. n < 8) (word_form joint_fields) (λ d n e. in_words (λ m. m < 8) joint_fields small_words (as_str d) n e) ds fs
    (fits (λ xs. length xs == 4) (each_form (word_form joint_fields) ds) fs is).1

pub small_fields : (d : Data) (fs : List ℕ) → fields_form d ≡ Some fs → All (λ n. n < 8) fs
small_fields d fs is = small_in (as_array d) fs is

pub own_small : All (λ (n : ℕ). n < 8) (0 ∷ 1 ∷ 2 ∷ 3 ∷ [])
own_small =
    All-cons (λ (n : ℕ). n < 8) 0 (1 ∷ 2 ∷ 3 ∷ []) (omega arith)
    (All-cons (λ (n : ℕ). n < 8) 1 (2 ∷ 3 ∷ []) (omega arith)
    (All-cons (λ (n : ℕ). n < 8) 2 (3 ∷ []) (omega arith) (All-cons (λ (n : ℕ). n < 8) 3 [] (omega arith) (All-nil (λ (n : ℕ). n < 8)))))

-- a list that was read has an item for each value
pub each_length : {X : Type 0} (reader : ℕ → Data → Result X JobFault) → ((n : ℕ) (d : Data) → Sound Plain (reader n d)) → (n : ℕ) (ds : Items)
    → Sound (λ xs. length xs ≡ items_len ds) (each_at reader n ds)
each_length reader h n no_items = refl
each_length reader h n (item d ds) =
    then_sound Plain (λ xs. length xs ≡ suc (items_len ds)) (reader n d) _ (h n d)
    (λ x _. then_sound (λ xs. length xs ≡ items_len ds) (λ xs. length xs ≡ suc (items_len ds)) (each_at reader (suc n) ds) _ (each_length reader h (suc n) ds) (λ xs e. ap suc e))

pub few_items : (n : ℕ) → (nat_le 1 n && nat_le n 8) ≡ true → (1 ≤ n) × (n ≤ 8)
few_items n test = (grind (arith, nat_tests), grind (arith, nat_tests))
