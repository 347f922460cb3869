-- What inner calls suppose.
use Rattle.row_store.specs.Rows.{Rows}
use Rattle.id_sets.specs.IdNumbers.{IdNumbers}
use Rattle.foreign_keys.specs.KeyParts.{FkParts}
use Rattle.foreign_keys.specs.Seeking.{AreFirstLed}
use Rattle.op_fk_decompose.specs.Decompose.{leads}

-- each identifier has the least of these rows of S that leads to it, where these dangle
abbrev pub FindsLeads : FkParts → Rows → Rows → IdNumbers → Type 0
FindsLeads k dangling s led = AreFirstLed (leads k dangling) s led
