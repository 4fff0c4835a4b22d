-- How a file that comes in pieces is cut into lines.
use Rattle.std.specs.Prelude.{◌≡◌, ℕ, ◌+◌, ◌≤◌, ◌<◌, Bool, true, false, List, [], ◌∷◌, ◌++◌, length, take, drop}
use Rattle.std.specs.Str.Lines.{strip_carriage_return}
use Rattle.jet_lines.specs.Feeds.{NoFeed}
use Rattle.jet_lines.specs.Lines.{lines_of}
use Rattle.jet_lines.specs.LinesValue.{LinesValue}
use Rattle.jet_lines.specs.declared.fault.LineFault.TheVariants as fault
use Rattle.jet_lines.specs.declared.cut.Cut.{Cut}
use Rattle.jet_lines.specs.declared.cut.Cut.TheVariants as cut
use Rattle.jet_lines.specs.declared.cut.Front.{Front}
use Rattle.jet_lines.specs.declared.cut.Front.TheVariants as front

-- more may come only before the end
abbrev pub MayCome : Bool → List ℕ → Type 0
MayCome ended more = ended ≡ true → more ≡ []

-- however the file goes on, the bytes that are left are this line and what follows it
abbrev pub BeginsWith : Bool → List ℕ → List ℕ → List ℕ → Type 0
BeginsWith ended rest line after = (more : List ℕ) → MayCome ended more → lines_of (rest ++ more) ≡ line ∷ lines_of (after ++ more)

-- however the file goes on, there is a line more
abbrev pub HasLine : Bool → List ℕ → Type 0
HasLine ended rest = (more : List ℕ) → MayCome ended more → (line : List ℕ) × (others : List (List ℕ)) × (lines_of (rest ++ more) ≡ line ∷ others)

-- the same, and it has more than 512 bytes
abbrev pub HasLongLine : Bool → List ℕ → Type 0
HasLongLine ended rest = (more : List ℕ) → MayCome ended more
    → (line : List ℕ) × (others : List (List ℕ)) × (lines_of (rest ++ more) ≡ line ∷ others) × (512 < length line)

-- the front of a line that is not too long, as far as it came
abbrev pub IsOpen : List ℕ → Type 0
IsOpen rest = NoFeed rest (length rest) × (length (strip_carriage_return rest) ≤ 512)

-- what the front of the bytes that are left is
abbrev pub IsFront : List ℕ → Bool → Front → Type 0
IsFront rest ended (front.Line len taken) = (len ≤ taken) × (taken ≤ len + 2) × (taken ≤ length rest) × (len ≤ 512) × BeginsWith ended rest (take len rest) (drop taken rest)
IsFront rest ended front.More = (ended ≡ false) × IsOpen rest
IsFront rest ended front.Long = HasLongLine ended rest
IsFront rest ended front.End = (ended ≡ true) × (rest ≡ [])

-- what the next line is
abbrev pub NextIs : LinesValue → Cut → LinesValue → Type 0
NextIs old (cut.Line n) new = (n ≡ old.number + 1) × (n ≤ old.most) × (length new.line ≤ 512) × BeginsWith old.ended old.rest new.line new.rest
    × (new ≡ record old { number = n; line = new.line; rest = new.rest })
NextIs old cut.More new = (old.ended ≡ false) × IsOpen old.rest × (old.most ≤ old.number → old.rest ≡ []) × (new ≡ old)
NextIs old (cut.Bad n fault.TooMany) new = (n ≡ old.number + 1) × (old.most < n) × HasLine old.ended old.rest × (new ≡ old)
NextIs old (cut.Bad n fault.TooLong) new = (n ≡ old.number + 1) × (n ≤ old.most) × HasLongLine old.ended old.rest × (new ≡ old)
NextIs old (cut.Bad n other) new = ⊥
NextIs old cut.End new = (old.ended ≡ true) × (old.rest ≡ []) × (new ≡ old)
