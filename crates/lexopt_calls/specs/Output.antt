-- The bytes that a run of a script reads. The source is `docs/formats.md`.
use Rattle.std.specs.Prelude.{◌≤◌, ℕ, List, length, Option}
use Rattle.std.specs.Io.KnownBytes.{Consumes, IsAtEnd}
use Rattle.lexopt_calls.specs.Script.{most_bytes}

-- the size of one read, in bytes
abbrev pub read_room : ℕ
read_room = 512

-- these bytes were read: all that the reader had, and no more than a script may have
abbrev pub ReadsWhole : Option (List ℕ) → Option (List ℕ) → List ℕ → Type 0
ReadsWhole old new script = Consumes old new script × IsAtEnd new × (length script ≤ most_bytes)
