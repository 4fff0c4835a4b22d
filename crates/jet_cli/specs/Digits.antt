-- Numbers as words.
use Rattle.std.specs.Prelude.{ℕ, nat_le, ◌&&◌, Bool, List, length, Option, Some, None, if◌then◌else◌}
use Rattle.std.specs.List.{list_all}
use Rattle.std.specs.Char.{is_ascii_digit}
use Rattle.std.specs.Str.Parse.{digits_value}

-- one digit to so many of them
abbrev pub is_digits : ℕ → List ℕ → Bool
is_digits most digits = nat_le 1 (length digits) && nat_le (length digits) most && list_all is_ascii_digit digits

-- the number of one digit to so many, leading zeros among them
abbrev pub digits_word : ℕ → List ℕ → Option ℕ
digits_word most digits = if is_digits most digits then Some (digits_value 10 digits) else None
