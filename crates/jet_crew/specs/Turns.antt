-- Turns in a row, and what their answers say together.
use Rattle.std.specs.Prelude.{◌≡◌, ◌⊎◌, ℕ, List, [], ◌∷◌, All, length}
use Rattle.std.specs.List.{Contains}
use Rattle.jet_crew.specs.declared.end.EpochEnd.{EpochEnd}
use Rattle.jet_crew.specs.declared.end.EpochEnd.TheVariants.{Moved, Idle, Done, NoMemory}

-- NoMemory where one of the answers is that, else Moved where one is, else Done where each is, else Idle
abbrev pub Together : List EpochEnd → EpochEnd → Type 0
Together answers NoMemory = Contains answers NoMemory
Together answers Moved = Contains answers Moved × (Contains answers NoMemory → ⊥)
Together answers Idle = Contains answers Idle × All (λ e. (e ≡ Idle) ⊎ (e ≡ Done)) answers
Together answers Done = All (λ e. e ≡ Done) answers

-- what a task says that moved something, and then answered this
abbrev pub after_moving : EpochEnd → EpochEnd
after_moving Moved = Moved
after_moving Idle = Moved
after_moving Done = Moved
after_moving NoMemory = NoMemory

-- what the answers of two turns in a row of one task say together
abbrev pub joined : EpochEnd → EpochEnd → EpochEnd
joined Moved then = after_moving then
joined Idle then = then
joined Done then = then
joined NoMemory then = NoMemory

-- turns in a row, each with its answer
abbrev pub InRow : {T : Type 0} → (T → T → Type 0) → (EpochEnd → T → T → Type 0) → List EpochEnd → T → T → Type 0
InRow {T} went said [] a b = b ≡ a
InRow {T} went said (answer ∷ answers) a b = (m : T) × went a m × said answer a m × InRow went said answers m b

-- so many turns, and what they came to
pub record Took {T : Type 0} (went : T → T → Type 0) (said : EpochEnd → T → T → Type 0) (turns : ℕ) (end : EpochEnd) (a b : T) : Type 0 where
  pub answers : List EpochEnd
  pub count : length answers ≡ turns
  pub in_row : InRow went said answers a b
  pub together : Together answers end
