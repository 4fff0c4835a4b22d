-- The later of two marks, and what it makes due.
use Rattle.std.proofs.Common.{◌≡◌, Bool, true, false, cond, ◌||◌, ℤ, ◌<ℤ◌, ◌≤ℤ◌, Option, Some, None, refl, arith}
use Rattle.std.specs.Prelude.{int_le}
use Rattle.std.specs.Int.{int_max}
use Rattle.std.proofs.lemmas.Int.{ints, clamps, by_lt_z}
use Rattle.jet_items.proofs.Covering.{Decides-int_le, false_from, not_so}
use Rattle.jet_window.specs.Taken.{is_due}

-- the later of two marks, each of which may be missing
abbrev pub later_of : Option ℤ → Option ℤ → Option ℤ
later_of None o = o
later_of (Some b) None = Some b
later_of (Some b) (Some t) = Some (int_max b t)

-- an end is due, and above the mark that a vertex began with
abbrev pub newly : Option ℤ → (ℤ → Bool) → ℤ → Bool
newly begun due e = cond (is_due begun e) false (due e)

due_not : (p e : ℤ) → p <ℤ e → int_le e p ≡ false
due_not p e h = false_from (int_le e p) (Decides-int_le e p) (λ le. absurd (omega (arith, ints)))

le_max : (b t d : ℤ) → d ≤ℤ t → d ≤ℤ int_max b t
le_max b t d h = omega (arith, ints, clamps)

max_left : (b t d : ℤ) → d ≤ℤ b → d ≤ℤ int_max b t
max_left b t d h = omega (arith, ints, clamps)

max_or : (b t d : ℤ) → b <ℤ d → t <ℤ d → int_max b t <ℤ d
max_or b t d h k = omega (arith, ints, clamps)

above_false : (p e : ℤ) → int_le e p ≡ false → p <ℤ e
above_false p e h = by_lt_z p e (λ lt. lt) (λ le. absurd (not_so (int_le e p) (Decides-int_le e p) h le))

-- what either closes is due
pub later_due : (b o : Option ℤ) (d : ℤ) → is_due (later_of b o) d ≡ (is_due b d || is_due o d)
later_due None o d = refl
later_due (Some b) None d = none_more (int_le d b)
  where
    none_more : (x : Bool) → x ≡ (x || false)
    none_more true = refl
    none_more false = refl
later_due (Some b) (Some t) d = by (int_le d b) (int_le d t) refl refl
  where
    by : (x y : Bool) → int_le d b ≡ x → int_le d t ≡ y → int_le d (int_max b t) ≡ (int_le d b || int_le d t)
    by true y is past = rw is ((Decides-int_le d (int_max b t)).1 (max_left b t d ((Decides-int_le d b).0 is)))
    by false true is past = rw (is, past) ((Decides-int_le d (int_max b t)).1 (le_max b t d ((Decides-int_le d t).0 past)))
    by false false is past = rw (is, past) (due_not (int_max b t) d (max_or b t d (above_false b d is) (above_false t d past)))

-- above the first mark the later one closes what the other does
pub newly_later : (b o : Option ℤ) (d : ℤ) → newly b (is_due (later_of b o)) d ≡ newly b (is_due o) d
newly_later b o d = rw (later_due b o d) (same (is_due b d) (is_due o d))
  where
    same : (x y : Bool) → cond x false (x || y) ≡ cond x false y
    same true y = refl
    same false y = refl
