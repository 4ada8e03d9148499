-- Bytes that stand for others outside quotes.
use Rattle.std.specs.Prelude.{ℕ, Bool, ◌||◌, ◌==◌}

-- * or ?
abbrev pub is_wildcard : ℕ → Bool
is_wildcard c = c == 42 || c == 63
