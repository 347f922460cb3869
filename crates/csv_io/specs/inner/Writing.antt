-- A writer between two records.
use Rattle.std.specs.Prelude.{◌≡◌, ℕ, false, List, Some, IsUtf8, Vec}
use Rattle.std.specs.declared.alloc.Global.{Global}
use Rattle.csv.specs.Writing.{default_writer, fields_written, has_written, text_written, writer_setup}
use Rattle.csv.specs.declared.writer.Writer.{Writer}

-- the writer, which writes the default form, stands before a record, and wrote this text
pub record HasWritten (w : Writer (Vec ℕ Global)) (text : List ℕ) : Type 0 where
  pub setup : writer_setup w ≡ default_writer
  pub fields : fields_written w ≡ 0
  pub fresh : has_written w ≡ false
  pub bytes : text_written (λ (v : Vec ℕ Global). Some v.items) w ≡ Some text
  pub utf8 : IsUtf8 text
