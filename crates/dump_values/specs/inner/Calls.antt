-- What inner calls suppose and ensure.
use Rattle.std.specs.Prelude.{ℕ, ◌<◌, List, [], ◌∷◌, codes}
use Rattle.id_memory.specs.Pairs.{Pairs}
use Rattle.serde_json.specs.Data.{Data, Members, put}
use Rattle.json_members.specs.Members.{number_json}

-- every identifier of the entries is below this one
abbrev pub EndBefore : Pairs → ℕ → Type 0
EndBefore [] n = Unit {0}
EndBefore (e ∷ es) n = (e.0 < n) × EndBefore es n

-- members with those of the graph
abbrev pub with_graph : Data → Data → ℕ → ℕ → Members → Members
with_graph operators versions last_operator last_table ms = put (codes "last_table") (number_json last_table) (put (codes "last_operator") (number_json last_operator) (put (codes "versions") versions (put (codes "operators") operators ms)))

-- members with those of tables and memories
abbrev pub with_tables : Data → Data → Data → Members → Members
with_tables stored auxes memories ms = put (codes "memories") memories (put (codes "aux") auxes (put (codes "stored") stored ms))

-- members with the layout, the next identifier and the format
abbrev pub with_layout : Data → ℕ → Members → Members
with_layout layout next ms = put (codes "format") (number_json 1) (put (codes "next") (number_json next) (put (codes "layout") layout ms))
