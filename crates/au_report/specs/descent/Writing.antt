-- Writers that stand between two lines.
use Rattle.std.specs.Prelude.{◌≡◌, ℕ, List, Some, Vec, false}
use Rattle.std.specs.Io.KnownBytes.{Appends}
use Rattle.std.specs.declared.alloc.Global.{Global}
use Rattle.csv.specs.Writing.{default_writer, fields_written, has_written, text_written, writer_setup}
use Rattle.csv.specs.declared.writer.Writer.{Writer}

-- it writes as the crate does by default, and no line is begun
pub record IsReady (writer : Writer (Vec ℕ Global)) : Type 0 where
  pub setup : writer_setup writer ≡ default_writer
  pub fresh : fields_written writer ≡ 0
  pub clean : has_written writer ≡ false

-- the second is the first with this text written behind
abbrev pub Adds : Writer (Vec ℕ Global) → Writer (Vec ℕ Global) → List ℕ → Type 0
Adds before after text = Appends (text_written (λ v. Some v.items) before) (text_written (λ v. Some v.items) after) text
