-- What contracts see of buffers and their stock.
use Rattle.std.specs.Prelude.{◌≡◌, ◌≤◌, ◌<◌, ◌^◌, ℕ, List, [], length, All}

-- how many bytes a buffer has room for, and those in it
pub record BufValue : Type 0 where
  pub room : ℕ
  pub bytes : List ℕ

-- a buffer of this room with nothing in it
abbrev pub empty_buf : ℕ → BufValue
empty_buf room = record { room = room; bytes = [] }

-- how many buffers a stock was made with, the room of each, and how many are inside
pub record StockValue : Type 0 where
  pub n : ℕ
  pub room : ℕ
  pub inside : ℕ

-- a stock has at most n buffers inside, each empty and of the stock's room, and its list has room for all n
pub record IsStock (n room : ℕ) (buffers : List BufValue) (capacity : ℕ) : Type 0 where
  pub few : n < 2 ^ 32
  pub most : length buffers ≤ n
  pub reserved : n ≤ capacity
  pub empty : All (λ b. b ≡ empty_buf room) buffers
