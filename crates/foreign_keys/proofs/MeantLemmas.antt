-- Rows that are meant, one by one.
use Rattle.std.proofs.Common.{◌≡◌, ℕ, ◌+◌, List, [], ◌∷◌, ◌++◌, Bool, true, cond, sym, ap, ◌∙◌, subst, arith}
use Rattle.std.proofs.lemmas.List.{append_assoc}
use Rattle.par_base.specs.declared.value.Value.{Value}
use Rattle.row_store.specs.Rows.{Rows, RiseFrom, AreBelow}
use Rattle.row_store.specs.inner.FoundRows.{rise_more}
use Rattle.row_parts.specs.RowCells.{by_test}
use Rattle.key_index.proofs.BuildLemmas.{below_first}
use Rattle.foreign_keys.specs.Least.{meant_rows}

module _ (meant : ℕ → List Value → Bool) where
  -- rows that are meant rise, as all do
  meant_rise : (n : ℕ) (rows : Rows) → RiseFrom n rows → RiseFrom n (meant_rows meant rows)
  meant_rise n [] rise = tt
  meant_rise n (r ∷ rs) rise =
      by_test (meant r.0 r.1)
      (λ e. rw e (rise.0, meant_rise (r.0 + 1) rs rise.1))
      (λ e. rw e (rise_more n (r.0 + 1) (meant_rows meant rs) (omega (arith, rise.0)) (meant_rise (r.0 + 1) rs rise.1)))

  -- those that were put are below the next one
  pub meant_below : (made rest rows : Rows) (row : ℕ × List Value) → RiseFrom 0 rows → made ++ meant_rows meant (row ∷ rest) ≡ meant_rows meant rows → meant row.0 row.1 ≡ true → AreBelow made row.0
  meant_below made rest rows row rise all is =
      let parts : made ++ row ∷ meant_rows meant rest ≡ meant_rows meant rows = rw is at all in
      below_first 0 made (meant_rows meant rest) row (subst (RiseFrom 0) (sym parts) (meant_rise 0 rows rise))

  -- one more
  pub meant_more : (made now rest : Rows) (row : ℕ × List Value) → now ≡ made ++ cond (meant row.0 row.1) (row ∷ []) [] → now ++ meant_rows meant rest ≡ made ++ meant_rows meant (row ∷ rest)
  meant_more made now rest row is =
      ap (λ (rows : Rows). rows ++ meant_rows meant rest) is ∙ by_test (meant row.0 row.1)
      (λ e. rw e (append_assoc made (row ∷ []) (meant_rows meant rest)))
      (λ e. rw e (append_assoc made [] (meant_rows meant rest)))
