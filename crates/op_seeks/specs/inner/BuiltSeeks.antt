-- Each operator keeps the laws of seeking.
use Rattle.std.proofs.Common.{None}
use Rattle.op_law.specs.Meaning.{Meaning}
use Rattle.op_any.specs.Operators.{Built, joining_by, meaning_of, outer_by}
use Rattle.op_any.specs.Operators.{CreateTable, DropTable, Rename, AddColumn, AddTracked, DropColumn, Split, Merge, DecomposeSingle, DecomposePk, OuterJoinPk, JoinPk, DecomposeFk, OuterJoinFk, JoinFk, JoinOn, DecomposeOn, OuterJoinOn}
use Rattle.equal_columns.specs.Columns.{equal_in}
use Rattle.op_seeks.specs.Places.{place_of}
use Rattle.pair_parts.proofs.MemoryLaws.{none_stand}
use Rattle.op_seeks.specs.Seeking.{SeekLaws}
use Rattle.op_seeks.specs.inner.SplitsBy.{decompose_by, decompose_on_by, join_by, join_on_by, outer_by as outer_key_by, outer_on_by}

-- an operator that seeks nothing promises nothing
none_seeks : (m : Meaning) → SeekLaws m None
none_seeks m = record { splits = λ known ids P hs ht p none closing listed pair. absurd none; memory = λ place none hs ht p pair. absurd (cc) }

pub built_seeks : (b : Built) → SeekLaws (meaning_of b) (place_of b)
built_seeks CreateTable = none_seeks (meaning_of CreateTable)
built_seeks (DropTable width) = none_seeks (meaning_of (DropTable width))
built_seeks Rename = none_seeks (meaning_of Rename)
built_seeks (AddColumn place e) = none_seeks (meaning_of (AddColumn place e))
built_seeks (AddTracked e) = none_seeks (meaning_of (AddTracked e))
built_seeks (DropColumn place e) = none_seeks (meaning_of (DropColumn place e))
built_seeks (Split width first second) = none_seeks (meaning_of (Split width first second))
built_seeks (Merge width first second) = none_seeks (meaning_of (Merge width first second))
built_seeks (DecomposeSingle columns width) = none_seeks (meaning_of (DecomposeSingle columns width))
built_seeks (DecomposePk first second) = none_seeks (meaning_of (DecomposePk first second))
built_seeks (OuterJoinPk first second) = none_seeks (meaning_of (OuterJoinPk first second))
built_seeks (JoinPk first second) = none_seeks (meaning_of (JoinPk first second))
built_seeks (DecomposeFk first second place) = record { splits = decompose_by first second place; memory = λ seeks some hs ht p pair. none_stand p.memory pair.related.0 }
built_seeks (OuterJoinFk first second place) = record { splits = outer_key_by first second place; memory = λ seeks some hs ht p pair. none_stand p.memory pair.related.0 }
built_seeks (JoinFk first second place) = record { splits = join_by first second place; memory = λ seeks some hs ht p pair. none_stand p.memory pair.related.0 }
built_seeks (JoinOn first second c) = record {
  splits = join_on_by (joining_by first second c) (equal_in (joining_by first second c) c);
  memory = λ seeks some hs ht p pair. record { rises = pair.related.rises; one = pair.related.one };
}
built_seeks (DecomposeOn first second c) = record {
  splits = decompose_on_by (joining_by first second c) (equal_in (joining_by first second c) c);
  memory = λ seeks some hs ht p pair. record { rises = pair.related.rises; one = pair.related.one };
}
built_seeks (OuterJoinOn first second c) = record {
  splits = outer_on_by (outer_by first second c) (equal_in (outer_by first second c) c);
  memory = λ seeks some hs ht p pair. record { rises = pair.related.joined.rises; one = pair.related.joined.one };
}
