-- What the rows of each identifier admit is what the tables admit.
use Rattle.std.proofs.Common.{◌≡◌, ℕ, zero, suc, ◌+◌, ◌==◌, List, [], ◌∷◌, Bool, true, false, cond, length, Option, Some, None, refl, ap, sym, ◌∙◌, subst, arith}
use Rattle.std.proofs.lemmas.Bool.{false≢true}
use Rattle.std.proofs.lemmas.Bool.Decides.{nat_tests}
use Rattle.par_base.specs.declared.value.Value.{Value}
use Rattle.id_memory.specs.Pairs.{Pairs}
use Rattle.row_store.specs.Rows.{Rows, RiseFrom, row_of}
use Rattle.row_store.specs.States.{TableState}
use Rattle.row_store.specs.inner.FoundRows.{none_under}
use Rattle.op_law.specs.Tables.{Tables, Heading, contents, RowsWide, AreTablesOf}
use Rattle.op_law.specs.Identifiers.{ids_over}
use Rattle.op_law.specs.Premises.{IsPair}
use Rattle.op_law.specs.Calls.{Admits}
use Rattle.op_rows.specs.Cells.{Cells, cells_at, nones, first_cell, other_cells, tables_from, CellWide, AreCellsOf}
use Rattle.op_rows.specs.inner.CellLemmas.{has_id, AllRise, ext_all, rise_ids, none_at}
use Rattle.op_rows.specs.inner.Tabulated.{row_from, at_from, all_rise_from, tables_long, cells_well, cells_long}
use Rattle.op_rows.specs.RowMeaning.{RowMeaning, RowHalf, rowwise}
use Rattle.op_rows.specs.RowCalls.{RowBelongs, AdmitsRows}
use Rattle.op_rows.specs.inner.RowwiseAt.{none_pair, aux_at, aux_rise}
use Rattle.op_rows.specs.inner.Passes.{read_at, AdmitsEach}
use Rattle.op_rows.specs.inner.RowwiseLocal.{made_long}
use Rattle.op_rows.proofs.PremiseLemmas.{belongs_at, contents_long}

-- made tables at an identifier that is listed, and at one that isn't
at_listed : (k : ℕ) (ids : List ℕ) (f : ℕ → Cells) (id : ℕ) → length (f id) ≡ k → has_id ids id ≡ true → cells_at (tables_from k ids f) id ≡ f id
at_listed k ids f id long has = at_from k ids f id long (λ out. absurd (false≢true (sym out ∙ has)))

at_unlisted : (k : ℕ) (ids : List ℕ) (f : ℕ → Cells) (id : ℕ) → has_id ids id ≡ false → cells_at (tables_from k ids f) id ≡ nones k
at_unlisted zero ids f id out = refl
at_unlisted (suc k) ids f id out =
    let first : row_of _ id ≡ None = row_from ids (λ id. first_cell (f id)) id ∙ ap (λ (b : Bool). cond b (first_cell (f id)) None) out in
    ap (λ (c : Option (List Value)). c ∷ cells_at (tables_from k ids (λ id. other_cells (f id))) id) first
    ∙ ap (λ (cs : Cells). None ∷ cs) (at_unlisted k ids (λ id. other_cells (f id)) id out)

-- rows are as wide as what the table has at each identifier
wide_by_cells : (w n : ℕ) (rows : Rows) → RiseFrom n rows → ((id : ℕ) → CellWide w (row_of rows id)) → RowsWide w rows
wide_by_cells w n [] rise wide = tt
wide_by_cells w n (r ∷ rs) rise wide =
    let same : (r.0 == r.0) ≡ true = grind (arith, nat_tests) in
    let own : CellWide w (Some r.1) = subst (λ (b : Bool). CellWide w (cond b (Some r.1) (row_of rs r.0))) same (wide r.0) in (
      own,
      wide_by_cells w (r.0 + 1) rs rise.1 (λ id.
          let M : Bool → Type 0 = λ b. (r.0 == id) ≡ b → CellWide w (cond b (Some r.1) (row_of rs id)) → CellWide w (row_of rs id) in
          let both : M (r.0 == id) = elim (r.0 == id) as (λ b. M b) [
            | true ↦ λ e here. let none : row_of rs id ≡ None = none_under (r.0 + 1) rs id rise.1 (grind (arith, nat_tests)) in rw none tt
            | false ↦ λ e here. here
          ] in
          both refl (wide id)),
    )

tables_by_cells : (hs : List Heading) (ts : Tables) → AllRise ts → ((id : ℕ) → AreCellsOf hs (cells_at ts id)) → AreTablesOf hs ts
tables_by_cells [] [] rise cells = tt
tables_by_cells [] (t ∷ ts) rise cells = absurd (cells 0)
tables_by_cells (h ∷ hs) [] rise cells = absurd (cells 0)
tables_by_cells (h ∷ hs) (t ∷ ts) rise cells = ((rise.0, wide_by_cells (length h.columns) 0 t rise.0 (λ id. (cells id).0)), tables_by_cells hs ts rise.1 (λ id. (cells id).1))

-- what is read back of tables whose rows are admitted at each identifier
module _ (r : RowMeaning) (h : RowHalf r) (near aux : Tables) (memory : Pairs) (no_memory : memory ≡ []) (near_rise : AllRise near) (aux_rise_all : AllRise aux) (many : length aux ≡ r.source_aux) (admits : (id : ℕ) → has_id (ids_over near (ids_over aux [])) id ≡ true → AdmitsRows r (cells_at near id) (cells_at aux id) (Some (read_at r near aux id))) where
  listed_belongs : (hs ht : List Heading) → r.Fits hs ht → AreTablesOf hs near → (id : ℕ) → has_id (ids_over near (ids_over aux [])) id ≡ true → RowBelongs r hs ht (cells_at aux id) (cells_at near id) (cells_at (tables_from r.targets (ids_over near (ids_over aux [])) (read_at r near aux)) id)
  listed_belongs hs ht fits near_of id has =
      let belongs = (admits id has).1 hs ht fits (cells_well hs near id near_of) in
      let long = cells_long ht (read_at r near aux id) belongs.pair.target_of ∙ (h.fits_long hs ht fits).1 in
      subst (λ (far : Cells). RowBelongs r hs ht (cells_at aux id) (cells_at near id) far) (sym (at_listed r.targets (ids_over near (ids_over aux [])) (read_at r near aux) id long has)) belongs

  unlisted_belongs : (hs ht : List Heading) → r.Fits hs ht → AreTablesOf hs near → (id : ℕ) → has_id (ids_over near (ids_over aux [])) id ≡ false → RowBelongs r hs ht (cells_at aux id) (cells_at near id) (cells_at (tables_from r.targets (ids_over near (ids_over aux [])) (read_at r near aux)) id)
  unlisted_belongs hs ht fits near_of id out =
      let a = none_at near (ids_over aux []) id out in
      let of_near : cells_at near id ≡ nones r.sources = a.0 ∙ ap nones (tables_long hs near near_of ∙ (h.fits_long hs ht fits).0) in
      let of_aux : cells_at aux id ≡ nones r.source_aux = (none_at aux [] id a.1).0 ∙ ap nones many in
      let of_far = at_unlisted r.targets (ids_over near (ids_over aux [])) (read_at r near aux) id out in
      rw (of_near, of_aux, of_far) (record { pair = none_pair r h hs ht fits; aux_is = sym h.aux_nothing })

  row_belongs : (hs ht : List Heading) → r.Fits hs ht → AreTablesOf hs near → (id : ℕ) → RowBelongs r hs ht (cells_at aux id) (cells_at near id) (cells_at (tables_from r.targets (ids_over near (ids_over aux [])) (read_at r near aux)) id)
  row_belongs hs ht fits near_of id =
      let M : Bool → Type 0 = λ b. has_id (ids_over near (ids_over aux [])) id ≡ b → RowBelongs r hs ht (cells_at aux id) (cells_at near id) (cells_at (tables_from r.targets (ids_over near (ids_over aux [])) (read_at r near aux)) id) in
      let both : M (has_id (ids_over near (ids_over aux [])) id) = elim (has_id (ids_over near (ids_over aux [])) id) as (λ b. M b) [
        | true ↦ listed_belongs hs ht fits near_of id
        | false ↦ unlisted_belongs hs ht fits near_of id
      ] in
      both refl

  read_pair : (hs ht : List Heading) → r.Fits hs ht → AreTablesOf hs near → IsPair (rowwise r) hs ht (record { source = near; target = tables_from r.targets (ids_over near (ids_over aux [])) (read_at r near aux); memory = memory })
  read_pair hs ht fits near_of = record {
    fits = fits;
    related = (no_memory, λ id. (row_belongs hs ht fits near_of id).pair.related);
    source_of = near_of;
    target_of = tables_by_cells ht _ (all_rise_from r.targets _ _ (rise_ids near _ near_rise (rise_ids aux [] aux_rise_all tt))) (λ id. (row_belongs hs ht fits near_of id).pair.target_of);
  }

  pub admits_all : Admits (rowwise r) near aux memory (Some (tables_from r.targets (ids_over near (ids_over aux [])) (read_at r near aux)))
  admits_all hs ht fits near_of =
      let pair = read_pair hs ht fits near_of in
      record {
        pair = pair;
        aux_is = ext_all aux _ aux_rise_all (aux_rise r h hs ht _ pair) (λ id. (row_belongs hs ht fits near_of id).aux_is ∙ sym (aux_at r h hs ht _ pair id));
      }

none_of_none : (memory : Pairs) → length memory ≡ 0 → memory ≡ []
none_of_none [] h = refl
none_of_none (e ∷ es) h = absurd (omega arith)

-- what a pass over all identifiers answers
pub admits_made : (r : RowMeaning) (h : RowHalf r) (near aux : Tables) (memory : Pairs) (first second made : List TableState) (count : ℕ) (ids : List ℕ) (far : Tables) → contents first ≡ near → contents second ≡ aux → AllRise (contents first) → AllRise (contents second) → ids ≡ ids_over (contents first) (ids_over (contents second) []) → length memory ≡ 0 → length second ≡ r.source_aux → count ≡ r.targets → AdmitsEach r near aux count ids (Some made) → far ≡ contents made → Admits (rowwise r) near aux memory (Some far)
admits_made r h near aux memory first second made count ids far is_near is_aux first_rise second_rise all none many targets each is =
    let near_rise = subst AllRise is_near first_rise in
    let aux_rise_all = subst AllRise is_aux second_rise in
    let listed : ids ≡ ids_over near (ids_over aux []) = all ∙ ap (λ (ts : Tables). ids_over ts (ids_over (contents second) [])) is_near ∙ ap (λ (ts : Tables). ids_over near (ids_over ts [])) is_aux in
    let long : length aux ≡ r.source_aux = sym (ap length is_aux) ∙ contents_long second ∙ many in
    let admits : (id : ℕ) → has_id (ids_over near (ids_over aux [])) id ≡ true → AdmitsRows r (cells_at near id) (cells_at aux id) (Some (read_at r near aux id)) = λ id has. each.1 id (ap (λ (xs : List ℕ). has_id xs id) listed ∙ has) in
    let same : far ≡ tables_from r.targets (ids_over near (ids_over aux [])) (read_at r near aux) = is ∙ each.0 ∙ ap (λ (k : ℕ). tables_from k ids (read_at r near aux)) targets ∙ ap (λ (xs : List ℕ). tables_from r.targets xs (read_at r near aux)) listed in
    subst (λ (ts : Tables). Admits (rowwise r) near aux memory (Some ts)) (sym same) (admits_all r h near aux memory (none_of_none memory none) near_rise aux_rise_all long admits)

module _ (r : RowMeaning) (h : RowHalf r) (near aux : Tables) (memory : Pairs) where
  -- rows of one identifier that are not admitted
  pub admits_no_row : (id : ℕ) → AdmitsRows r (cells_at near id) (cells_at aux id) None → Admits (rowwise r) near aux memory None
  admits_no_row id refuses hs ht far belongs = refuses hs ht (cells_at far id) (belongs_at r h hs ht aux (record { source = near; target = far; memory = memory }) belongs id)

  -- a memory that isn't empty
  pub admits_no_memory : (length memory ≡ 0 → ⊥) → Admits (rowwise r) near aux memory None
  admits_no_memory some hs ht far belongs = some (ap length belongs.pair.related.0)

  -- another number of auxiliary tables
  pub admits_no_number : (length aux ≡ r.source_aux → ⊥) → Admits (rowwise r) near aux memory None
  admits_no_number other hs ht far belongs = other (ap length belongs.aux_is ∙ made_long r.source_aux _ _)
