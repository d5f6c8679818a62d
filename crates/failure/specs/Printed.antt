-- What a failure prints.
use Rattle.std.specs.Prelude.{ℕ, List, Some, Ok, Err, Option, Result, codes, string_bytes}
use Rattle.std.specs.declared.alloc.AllocError.{AllocError}
use Rattle.std.specs.Fmt.{debug_str}
use Rattle.std.specs.declared.string.String.{String}
use Rattle.std.specs.declared.alloc.Global.{Global}

-- the text in quotes, or that there is no memory for it
abbrev pub printed : Result (String Global) AllocError → Option (List ℕ)
printed (Ok text) = debug_str (string_bytes text)
printed (Err e) = Some (codes "\"there is no memory\"")
