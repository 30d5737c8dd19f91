-- The version of the calls, which the archive carries (include/hauklivo.h).
use Rattle.std.specs.Prelude.{ℕ}

-- raised by one where a call, what it answers or leaves, a record or a number changes
abbrev pub version : ℕ
version = 5
