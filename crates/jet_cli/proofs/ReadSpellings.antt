-- What is read as a command was spelled.
use Rattle.std.proofs.Common.{◌≡◌, ℕ, ◌&&◌, ◌||◌, ◌⊎◌, Bool, true, false, not, List, [], ◌∷◌, ◌++◌, map, Option, Some, None, is_some, refl, sym, ap, ◌∙◌, subst, inl, inr}
use Rattle.std.specs.Prelude.{ℤ, bytes_eq, codes, position, if◌then◌else◌}
use Rattle.std.specs.Cmp.{unsigned_Decides}
use Rattle.std.specs.List.{AllByRecursion, list_all, filter_map, before_first, after_first}
use Rattle.std.proofs.lemmas.List.Folds.{list_all-append}
use Rattle.jet_cli.specs.JobWords.{Part, Operand, Given, is_option_word, has_equals, alone, takes, marked_parts, is_end_of_options, parts_of, number_within, is_known, operand_in, workers_in, members_in, ring_in, JobCommand, job_from, job_in}
use Rattle.jet_cli.specs.Spelling.{Spelling, Bare, Joined, Parted, spelled, spelled_all, part_of, is_option_name, IsSpelling, IsSpelled}
use Rattle.jet_cli.specs.Words.{job_of}
use Rattle.jet_cli.proofs.Cuts.{Lacks, some-at, some-Lacks, before-Lacks, after-Lacks, before-at, after-at, Cut, cut_of}
use Rattle.jet_cli.proofs.PartLemmas.{next_of, none_of}
use Rattle.jet_cli.proofs.SpellingLemmas.{clash, same_bytes, equals, alone_lone, alone_given, read_back}

both : (a b : Bool) → (a && b) ≡ true → (a ≡ true) × (b ≡ true)
both true b h = (refl, h)
both false b h = absurd (clash (sym h))

one_of : (a b c : Bool) (x y z : Option ℤ)
    → (is_some (if a then x else None) || is_some (if b then y else None) || is_some (if c then z else None)) ≡ true → (a || (b || (c || false))) ≡ true
one_of true b c x y z h = refl
one_of false true c x y z h = refl
one_of false false true x y z h = refl
one_of false false false x y z h = h

-- an option with a value that counts has one of the three names
known_name : (name value : List ℕ) → is_known (Given name value) ≡ true → is_option_name name ≡ true
known_name name value =
    one_of (bytes_eq name (codes "--workers")) (bytes_eq name (codes "--members")) (bytes_eq name (codes "--ring"))
    (number_within 1 8 value) (number_within 1 4 value) (number_within 2 65536 value)

record One (word : List ℕ) : Type 0 where
  spelling : Spelling
  is : IsSpelling spelling
  whole : spelled spelling ≡ word ∷ []

-- a word that says something alone is spelled
one_back : (word : List ℕ) → is_known (alone word) ≡ true → One word
one_back word k = option (is_option_word word) refl
  where
    cut : is_option_word word ≡ true → Lacks equals word ⊎ Cut equals word → One word
    cut e (inl none) = absurd (clash (sym k ∙ ap is_known (alone_lone word e (some-Lacks equals word none))))
    cut e (inr c) =
        let here = (unsigned_Decides c.here 61).0 c.passes in
        let some : has_equals word ≡ true = subst (λ (w : List ℕ). is_some (position equals w) ≡ true) (sym c.whole) (some-at equals c.before c.here c.behind c.lacks c.passes) in
        let front : before_first equals word ≡ c.before = ap (before_first equals) c.whole ∙ before-at equals c.before c.here c.behind c.lacks c.passes in
        let back : after_first equals word ≡ c.behind = ap (after_first equals) c.whole ∙ after-at equals c.before c.here c.behind c.lacks c.passes in
        let given = alone_given word c.before c.behind e some front back in
        record {
          spelling = Joined c.before c.behind;
          is = known_name c.before c.behind (sym (ap is_known given) ∙ k);
          whole = ap (λ (w : List ℕ). w ∷ []) (sym (c.whole ∙ ap (λ (n : ℕ). c.before ++ n ∷ c.behind) here));
        }

    option : (t : Bool) → is_option_word word ≡ t → One word
    option false e = record { spelling = Bare word; is = e; whole = refl }
    option true e = cut e (cut_of equals word)

record Back (words : List (List ℕ)) : Type 0 where
  spellings : List Spelling
  are : AllByRecursion IsSpelling spellings
  whole : words ≡ spelled_all spellings

onto : (word : List ℕ) (words : List (List ℕ)) → One word → Back words → Back (word ∷ words)
onto word words one rest = record {
  spellings = one.spelling ∷ rest.spellings;
  are = (one.is, rest.are);
  whole = ap (λ (ws : List (List ℕ)). word ∷ ws) rest.whole ∙ sym (ap (λ (ws : List (List ℕ)). ws ++ spelled_all rest.spellings) one.whole);
}

last_bare : (a b c : Bool) → (a && b && not c) ≡ true → c ≡ false
last_bare true true false h = refl
last_bare true true true h = absurd (clash (sym h))
last_bare true false c h = absurd (clash (sym h))
last_bare false b c h = absurd (clash (sym h))

step : (word next : List ℕ) (rest : List (List ℕ)) → (list_all is_known (marked_parts rest) ≡ true → Back rest)
    → (list_all is_known (marked_parts (next ∷ rest)) ≡ true → Back (next ∷ rest)) → list_all is_known (marked_parts (word ∷ next ∷ rest)) ≡ true
    → Back (word ∷ next ∷ rest)
step word next rest behind_next behind k = go (takes word next) refl
  where
    go : (t : Bool) → takes word next ≡ t → Back (word ∷ next ∷ rest)
    go true e =
        let known = both (is_known (Given word next)) (list_all is_known (marked_parts rest)) (ap (list_all is_known) (sym (next_of word next rest e)) ∙ k) in
        let more = behind_next known.1 in
        record {
          spellings = Parted word next ∷ more.spellings;
          are = ((known_name word next known.0, last_bare (is_option_word word) (not (has_equals word)) (is_option_word next) e), more.are);
          whole = ap (λ (ws : List (List ℕ)). word ∷ next ∷ ws) more.whole;
        }
    go false e =
        let known = both (is_known (alone word)) (list_all is_known (marked_parts (next ∷ rest))) (ap (list_all is_known) (sym (none_of word next rest e)) ∙ k) in
        onto word (next ∷ rest) (one_back word known.0) (behind known.1)

-- words whose parts all say something are spelled
back : (words : List (List ℕ)) → list_all is_known (marked_parts words) ≡ true → Back words
unfolding marked_parts
back [] k = record { spellings = []; are = tt; whole = refl }
back (word ∷ []) k = onto word [] (one_back word (both (is_known (alone word)) true k).0) (record { spellings = []; are = tt; whole = refl })
back (word ∷ next ∷ rest) k = step word next rest (back rest) (back (next ∷ rest)) k

none_is_not_some : {c : JobCommand} → None ≡ Some c → ⊥
none_is_not_some e = cc

known_all : (parts : List Part) (c : JobCommand) → job_in parts ≡ Some c → list_all is_known parts ≡ true
known_all parts c h = go (list_all is_known parts) refl
  where
    made : Option JobCommand
    made = job_from (filter_map operand_in parts) (filter_map workers_in parts) (filter_map members_in parts) (filter_map ring_in parts)

    go : (t : Bool) → list_all is_known parts ≡ t → list_all is_known parts ≡ true
    go true e = e
    go false e = absurd (none_is_not_some (sym (ap (λ (t : Bool). if t then made else None) e) ∙ h))

-- words that are a command spell it
pub read_is_spelled : (words : List (List ℕ)) (c : JobCommand) → job_of words ≡ Some c → IsSpelled words c
read_is_spelled words c h = go (cut_of is_end_of_options words)
  where
    known_front : (front os : List (List ℕ)) → parts_of words ≡ marked_parts front ++ map Operand os → list_all is_known (marked_parts front) ≡ true
    known_front front os same =
        let all = known_all (marked_parts front ++ map Operand os) c (ap job_in (sym same) ∙ h) in
        (both (list_all is_known (marked_parts front)) (list_all is_known (map Operand os)) (sym (list_all-append is_known (marked_parts front) (map Operand os)) ∙ all)).0

    makes : (front os : List (List ℕ)) (b : Back front) → parts_of words ≡ marked_parts front ++ map Operand os → job_in (map part_of b.spellings ++ map Operand os) ≡ Some c
    makes front os b same =
        ap (λ (ps : List Part). job_in (ps ++ map Operand os)) (sym (ap marked_parts b.whole ∙ read_back b.spellings b.are)) ∙ (ap job_in (sym same) ∙ h)

    go : Lacks is_end_of_options words ⊎ Cut is_end_of_options words → IsSpelled words c
    go (inl none) =
        let same : parts_of words ≡ marked_parts words ++ map Operand [] = rw (before-Lacks is_end_of_options words none, after-Lacks is_end_of_options words none) refl in
        let b = back words (known_front words [] same) in
        record { spellings = b.spellings; operands = []; are = b.are; words_are = inr (b.whole, refl); makes = makes words [] b same }
    go (inr cut) =
        let here = same_bytes cut.here (codes "--") cut.passes in
        let front = before-at is_end_of_options cut.before cut.here cut.behind cut.lacks cut.passes in
        let behind = after-at is_end_of_options cut.before cut.here cut.behind cut.lacks cut.passes in
        let same : parts_of words ≡ marked_parts cut.before ++ map Operand cut.behind = ap parts_of cut.whole ∙ rw (front, behind) refl in
        let b = back cut.before (known_front cut.before cut.behind same) in
        record {
          spellings = b.spellings;
          operands = cut.behind;
          are = b.are;
          words_are = inl (cut.whole ∙ ap (λ (w : List ℕ). cut.before ++ w ∷ cut.behind) here ∙ ap (λ (ws : List (List ℕ)). ws ++ codes "--" ∷ cut.behind) b.whole);
          makes = makes cut.before cut.behind b same;
        }
