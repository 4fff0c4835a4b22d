use Rattle.std.proofs.Common.{◌≡◌, ℕ, Bool, true, false, List, Option, refl, ap, ◌∙◌, subst, sym}
use Rattle.std.specs.Result.{result_ok}
use Rattle.jet_items.specs.KeyBytes.{is_key}
use Rattle.jet_spell.proofs.Keys.{key_is_read}
use Rattle.jet_spell.specs.Reading.{Answers, key_at, only_if}
use Rattle.jet_spell.proofs.reader.Reader.key.Goals as goal

answered : (read : Option (List ℕ × List ℕ)) (t : Bool) (k rest : List ℕ) → read ≡ only_if t (k, rest) → Answers read (only_if t k) rest
answered read true k rest is = is
answered read false k rest is = is

pub returns : goal.returns
unfolding key_at
returns c =
    let found = c.ok.ensures.value ∙ ap result_ok c.read.ensures.value ∙ key_is_read c.in_ok-bytes.bytes.now in
    let read : key_at c.args.self.now ≡ only_if (is_key 40 c.in_ok-bytes.bytes.now) (c.in_ok-bytes.bytes.now, c.bytes.new.self) = rw (c.in_ok-len.ensures, c.in_ok-bytes.ensures) refl in
    subst (λ (r : Option (List ℕ)). Answers (key_at c.args.self.now) r c.bytes.new.self) (sym found) (answered _ _ _ _ read)
