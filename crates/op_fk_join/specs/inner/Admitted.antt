-- JOIN ON FK: which source belongs to a target and auxiliary tables.
use Rattle.std.specs.Prelude.{◌≡◌, ℕ, [], true, ◌&&◌, Option, Some, None}
use Rattle.id_memory.specs.Pairs.{Pairs}
use Rattle.op_law.specs.Tables.{Tables}
use Rattle.foreign_keys.specs.KeyParts.{FkParts}
use Rattle.op_tables.specs.SideTables.{first_table, second_table}
use Rattle.op_tables.specs.Wide.{are_wide}
use Rattle.op_fk_join.specs.Join.{join_target, join_aux, join_read}

-- the source that is read has rows of z and b values, gives back the target, and has these auxiliary tables
abbrev pub JoinAgrees : FkParts → ℕ → ℕ → Tables → Tables → Pairs → Tables → Type 0
JoinAgrees k z b near aux memory far =
    (memory ≡ []) × (((are_wide z (first_table far) && are_wide b (second_table far)) ≡ true) × ((join_target k far ≡ near) × (join_aux k far near ≡ aux)))

-- the source that is read where it agrees, and none where it doesn't
abbrev pub IsJoinTold : FkParts → ℕ → ℕ → Tables → Tables → Pairs → Option Tables → Type 0
IsJoinTold k z b near aux memory (Some far) = (far ≡ join_read k near aux) × JoinAgrees k z b near aux memory far
IsJoinTold k z b near aux memory None = JoinAgrees k z b near aux memory (join_read k near aux) → ⊥

-- a source has a target exactly where nothing is kept beside
abbrev pub IsJoinToldOn : FkParts → Tables → Tables → Pairs → Option Tables → Type 0
IsJoinToldOn k near aux memory (Some far) = (far ≡ join_target k near) × ((memory ≡ []) × (aux ≡ []))
IsJoinToldOn k near aux memory None = (memory ≡ []) × (aux ≡ []) → ⊥
