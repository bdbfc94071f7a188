-- How bytes that others wrote are shown (this project's choice).
use Rattle.std.specs.Prelude.{ℕ, ◌==◌, ◌&&◌, nat_le, nat_lt, if◌then◌else◌}

-- a tab as a blank, what is printed in ASCII as it is, and all else as a question mark
abbrev pub shown_letter : ℕ → ℕ
shown_letter byte = if byte == 9 then 32 else if nat_le 32 byte && nat_lt byte 127 then byte else 63
