-- What a walk under way has still to give, and what it means to have given it.
use Rattle.std.specs.Prelude.{◌≡◌, ℕ, List, [], ◌∷◌, Some, None, Ok, Err, Option, Result}
use Rattle.std.specs.Iterator.{AlwaysYields}
use Rattle.std.specs.Iterator.Adapters.{enumerate_source, enumerate_count}
use Rattle.std.specs.Slice.Iter.{iter_rest}
use Rattle.fault.specs.declared.Fault.{Fault}
use Rattle.layout.specs.declared.Entry.{Entry}
use Rattle.layout.specs.declared.Entry.TheVariants.{Blank, Sealed}
use Rattle.walk.specs.declared.Entries.{Entries}
use Rattle.walk.specs.Contents.{Content, blank, sealed, Outcome, walk_on}

-- an entry by its values: the sealed bytes themselves in place of the borrow
abbrev pub held : Entry → Content
held Blank = blank
held (Sealed key bytes) = sealed key bytes.now

abbrev pub seen : Result Entry Fault → Outcome
seen (Ok e) = Ok (held e)
seen (Err f) = Err f

-- the records that a walk has still to go over, and the sector of the first of them
abbrev pub records_left : Entries → List (List ℕ)
records_left e = iter_rest (enumerate_source e.records)

abbrev pub next_sector : Entries → ℕ
next_sector e = enumerate_count e.records

-- what the walk has still to give, in order
abbrev pub coming : Entries → List Outcome
coming e = walk_on (next_sector e) (records_left e)

-- an answer of `next` and what is still to come after it
abbrev pub answered : Option (Result Entry Fault) → List Outcome → List Outcome
answered None rest = []
answered (Some r) rest = seen r ∷ rest

-- one call of `next`: it answers with the first of what was to come and leaves the rest, and with nothing where nothing was
abbrev pub Steps : Entries → Option (Result Entry Fault) → Entries → Type 0
Steps e r after = coming e ≡ answered r (coming after)

-- the answer of the call that begins a walk: what is then to come, or the refusal
abbrev pub begun : Result Entries Fault → Result (List Outcome) Fault
begun (Ok e) = Ok (coming e)
begun (Err f) = Err f

-- every run of calls of `next` gives, one by one, exactly these, and then nothing
abbrev pub Gives : Entries → List Outcome → Type 0
Gives e outcomes = AlwaysYields Steps seen e outcomes
