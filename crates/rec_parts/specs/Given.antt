-- What a call that reads at the front of bytes answers.
use Rattle.std.specs.Prelude.{◌≡◌, ⊤, Option, Some, None, Result, Ok, Err}
use Rattle.rec_parts.specs.declared.read_error.ReadError.{ReadError}
use Rattle.rec_parts.specs.declared.read_error.ReadError.TheVariants.{Memory, NoFrame}

-- an error says that nothing can be read there, or that there was no memory
abbrev pub Fails : {Y : Type 0} → ReadError → Option Y → Type 0
Fails Memory read = ⊤
Fails NoFrame read = read ≡ None

-- what is seen of the answer is what was to be read, or there was no memory
abbrev pub Gives : {X Y : Type 0} → (X → Y) → Result X ReadError → Option Y → Type 0
Gives view (Ok x) read = read ≡ Some (view x)
Gives view (Err e) read = Fails e read
