-- Numbers of up to 18 digits (SQL Language Reference, "NUMBER Data Type"; the 18 digits are this project's profile).
use Rattle.std.specs.Prelude.{ℤ, pos, negsuc, ◌≤ℤ◌}

-- at most 18 digits, with a sign or without
pub record FitsDigits (number : ℤ) : Type 0 where
  pub low : negsuc 999_999_999_999_999_998 ≤ℤ number
  pub high : number ≤ℤ pos 999_999_999_999_999_999
