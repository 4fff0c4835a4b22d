-- Parts written one behind another.
use Rattle.std.proofs.Common.{◌≡◌, ℕ, List, ◌++◌, append_assoc}

pub four : (s : List ℕ) {s1 s2 s3 s4 : List ℕ} (a b c d : List ℕ) → s1 ≡ s ++ a → s2 ≡ s1 ++ b → s3 ≡ s2 ++ c → s4 ≡ s3 ++ d
    → s4 ≡ s ++ (a ++ (b ++ (c ++ d)))
four s a b c d e1 e2 e3 e4 = rw (e4, e3, e2, e1) (simp append_assoc)

pub five : (s : List ℕ) {s1 s2 s3 s4 s5 : List ℕ} (a b c d e : List ℕ) → s1 ≡ s ++ a → s2 ≡ s1 ++ b → s3 ≡ s2 ++ c → s4 ≡ s3 ++ d → s5 ≡ s4 ++ e
    → s5 ≡ s ++ (a ++ (b ++ (c ++ (d ++ e))))
five s a b c d e e1 e2 e3 e4 e5 = rw (e5, e4, e3, e2, e1) (simp append_assoc)
