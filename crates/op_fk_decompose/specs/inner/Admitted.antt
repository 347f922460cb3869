-- DECOMPOSE ON FK: which target belongs to a source and auxiliary tables.
use Rattle.std.specs.Prelude.{◌≡◌, ℕ, [], true, ◌&&◌, Option, Some, None}
use Rattle.id_memory.specs.Pairs.{Pairs}
use Rattle.op_law.specs.Tables.{Tables}
use Rattle.foreign_keys.specs.KeyParts.{FkParts}
use Rattle.op_tables.specs.SideTables.{first_table, second_table}
use Rattle.op_tables.specs.Wide.{are_wide}
use Rattle.op_fk_decompose.specs.Decompose.{decompose_source, decompose_aux, decompose_read}

-- the target that is read has rows of z and b values, gives back the source, and has these auxiliary tables
abbrev pub Agrees : FkParts → ℕ → ℕ → Tables → Tables → Pairs → Tables → Type 0
Agrees k z b near aux memory far =
    (memory ≡ []) × (((are_wide z (first_table far) && are_wide b (second_table far)) ≡ true) × ((decompose_source k far ≡ near) × (decompose_aux k far ≡ aux)))

-- the target that is read where it agrees, and none where it doesn't
abbrev pub IsTold : FkParts → ℕ → ℕ → Tables → Tables → Pairs → Option Tables → Type 0
IsTold k z b near aux memory (Some far) = (far ≡ decompose_read k near aux) × Agrees k z b near aux memory far
IsTold k z b near aux memory None = Agrees k z b near aux memory (decompose_read k near aux) → ⊥

-- a target has a source exactly where nothing is kept beside
abbrev pub IsToldBack : FkParts → Tables → Tables → Pairs → Option Tables → Type 0
IsToldBack k near aux memory (Some far) = (far ≡ decompose_source k near) × ((memory ≡ []) × (aux ≡ []))
IsToldBack k near aux memory None = (memory ≡ []) × (aux ≡ []) → ⊥
