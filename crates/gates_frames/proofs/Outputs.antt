-- The literal of a table has the value that its rows say.
use Rattle.std.proofs.Common.{◌≡◌, ℕ, zero, suc, ◌+◌, ◌<◌, ◌≤◌, ℤ, neg_ℤ, Bool, true, false, not, cond, ◌&&◌, ◌||◌, List, [], ◌∷◌, ◌++◌, map, fold, length, get_or, refl, sym, ap, ◌∙◌, subst, arith}
use Rattle.std.specs.Bool.{IsTrue}
use Rattle.std.specs.List.{list_any, All}
use Rattle.std.specs.Prelude.{nat_le}
use Rattle.std.proofs.lemmas.Bool.{leb-true}
use Rattle.std.proofs.lemmas.List.{length-map}
use Rattle.clauses.specs.Literals.{clause_within, is_within}
use Rattle.clauses.specs.Models.{Assignment, is_true}
use Rattle.netlist.specs.declared.rows.Mark.{Mark}
use Rattle.netlist.specs.declared.table.Table.{Table}
use Rattle.netlist.specs.Valuations.{bit, fits_row, output_by}
use Rattle.gates_nodes.specs.declared.cover.Cover.{Cover}
use Rattle.gates_nodes.specs.declared.node.Node.{Node}
use Rattle.gates_nodes.specs.Folding.{Built}
use Rattle.gates_nodes.specs.Makes.{AreSound, Makes}
use Rattle.gates_nodes.specs.Nodes.{IsExact, cover_at, fits_some, variables_of, yes}
use Rattle.gates_nodes.specs.Tables.{some_row, tabled}
use Rattle.gates_nodes.proofs.Literals.{first_within, more_within, rest_within, yes-within}
use Rattle.gates_nodes.proofs.Luts.{makes-tabled, says}
use Rattle.gates_nodes.proofs.Making.{makes-as, makes-negated}
use Rattle.gates_nodes.proofs.Rows.{makes-rows}
use Rattle.gates_frames.specs.Frames.{IsCover, literal_or, signed, table_of}

-- rows read no further than they go
fits-longer : (row : List Mark) (values more : List Bool) → length row ≤ length values → fits_row row (values ++ more) ≡ fits_row row values
fits-longer [] values more fits = refl
fits-longer (mark ∷ row) [] more fits = absurd (omega arith)
fits-longer (mark ∷ row) (value ∷ values) more fits = rw (fits-longer row values more (omega arith)) refl

some-longer : (n : ℕ) (rows : List (List Mark)) (values more : List Bool) → All (λ row. length row ≡ n) rows → length values ≡ n → fits_some rows (values ++ more) ≡ fits_some rows values
some-longer n [] values more sized size = refl
some-longer n (row ∷ rows) values more sized size =
    let here : length row ≡ n = sized 0 row (omega arith) in
    rw (fits-longer row values more (omega arith), some-longer n rows values more (λ k d below. sized (suc k) d (omega arith)) size) refl

-- four literals from at most four, and what comes behind
pub record Padded (given : ℕ) (literals : List ℤ) : Type 0 where
  pub more : List ℤ
  pub is : (literal_or given literals 0 ∷ literal_or given literals 1 ∷ literal_or given literals 2 ∷ literal_or given literals 3 ∷ []) ≡ literals ++ more

padded : (given : ℕ) (literals : List ℤ) → length literals ≤ 4 → Padded given literals
padded given [] few = record { more = yes given ∷ yes given ∷ yes given ∷ yes given ∷ []; is = refl }
padded given (a ∷ []) few = record { more = yes given ∷ yes given ∷ yes given ∷ []; is = refl }
padded given (a ∷ b ∷ []) few = record { more = yes given ∷ yes given ∷ []; is = refl }
padded given (a ∷ b ∷ c ∷ []) few = record { more = yes given ∷ []; is = refl }
padded given (a ∷ b ∷ c ∷ d ∷ []) few = record { more = []; is = refl }
padded given (a ∷ b ∷ c ∷ d ∷ e ∷ literals) few = absurd (omega arith)

or_within : (n given : ℕ) (literals : List ℤ) (place : ℕ) → suc given ≤ n → IsTrue (clause_within n literals) → IsTrue (is_within n (literal_or given literals place))
or_within n given [] place few within = yes-within n given few
or_within n given (l ∷ literals) zero few within = first_within n l literals within
or_within n given (l ∷ literals) (suc place) few within = or_within n given literals place few (rest_within n l literals within)

map-join : (f : ℤ → Bool) (xs ys : List ℤ) → map f (xs ++ ys) ≡ map f xs ++ map f ys
map-join f [] ys = refl
map-join f (x ∷ xs) ys = ap (λ rest. f x ∷ rest) (map-join f xs ys)

abbrev pub four_of : ℕ → List ℤ → List ℤ
four_of given literals = literal_or given literals 0 ∷ literal_or given literals 1 ∷ literal_or given literals 2 ∷ literal_or given literals 3 ∷ []

-- what a cover says of four literals
cover-says : (v : Assignment) (given : ℕ) (table : Table) (cover : Cover) (literals : List ℤ) → IsCover table cover → All (λ row. length row ≡ length table.inputs) table.rows →
    length literals ≡ length table.inputs → length literals ≤ 4 →
    fits_some cover.on (map (is_true v) (four_of given literals))
    ≡ output_by table (map (is_true v) literals)
cover-says v given table cover literals is sized size few = by_value table.value refl
  where
    rows_say : (rows : List (List Mark)) → rows ≡ table.rows → fits_some rows (map (is_true v) (four_of given literals)) ≡ fits_some table.rows (map (is_true v) literals)
    rows_say rows e =
        let pad = padded given literals few in
        ap (λ r. fits_some r (map (is_true v) (four_of given literals))) e
        ∙ ap (λ ls. fits_some table.rows (map (is_true v) ls)) pad.is
        ∙ ap (fits_some table.rows) (map-join (is_true v) literals pad.more)
        ∙ some-longer (length table.inputs) table.rows (map (is_true v) literals) (map (is_true v) pad.more) sized (length-map literals (is_true v) ∙ size)

    cond_self : (b : Bool) → b ≡ cond b true false
    cond_self true = refl
    cond_self false = refl

    cond_not : (b : Bool) → not b ≡ cond b false true
    cond_not true = refl
    cond_not false = refl

    by_value : (t : Bool) → table.value ≡ t → fits_some cover.on (map (is_true v) (four_of given literals)) ≡ output_by table (map (is_true v) literals)
    by_value true e =
        let on : cover.on ≡ table.rows = sym (ap (λ t. cond t cover.on cover.off) e) ∙ is.rows in
        let any = fits_some table.rows (map (is_true v) literals) in
        rows_say cover.on on ∙ cond_self any ∙ ap (λ t. cond any t (not t)) (sym e)
    by_value false e =
        let off : cover.off ≡ table.rows = sym (ap (λ t. cond t cover.on cover.off) e) ∙ is.rows in
        let any = fits_some table.rows (map (is_true v) literals) in
        is.exact.one_side (is_true v (literal_or given literals 0)) (is_true v (literal_or given literals 1)) (is_true v (literal_or given literals 2)) (is_true v (literal_or given literals 3))
        ∙ ap not (rows_say cover.off off) ∙ cond_not any ∙ ap (λ t. cond any t (not t)) (sym e)

module _ (covers : List Cover) (given : ℕ) where
  signed-made : (nodes : List Node) (value : Bool) (built : Built) (any : Assignment → Bool) → Makes covers given nodes built any →
      Makes covers given nodes (signed value built) (λ v. cond (any v) value (not value))
  signed-made nodes true built any makes = makes-as covers given nodes built any (λ v. cond (any v) true false) makes (λ source v is. self (any v))
    where
      self : (b : Bool) → b ≡ cond b true false
      self true = refl
      self false = refl
  signed-made nodes false built any makes =
      makes-as covers given nodes (record { nodes = built.nodes; output = neg_ℤ built.output }) (λ v. not (any v)) (λ v. cond (any v) false true)
      (makes-negated covers given nodes built any makes) (λ source v is. other (any v))
    where
      other : (b : Bool) → not b ≡ cond b false true
      other true = refl
      other false = refl

  pub table-made : (nodes : List Node) (number : ℕ) (table : Table) (literals : List ℤ) → AreSound given nodes → IsTrue (clause_within (variables_of given nodes) literals) →
      IsExact (cover_at covers number) → (IsTrue (nat_le (length table.inputs) 4) → IsCover table (cover_at covers number)) → All (λ row. length row ≡ length table.inputs) table.rows →
      length literals ≡ length table.inputs →
      Makes covers given nodes (table_of covers given nodes number table literals) (λ v. output_by table (map (is_true v) literals))
  table-made nodes number table literals sound within exact is sized size = by_size (nat_le (length table.inputs) 4) refl
    where
      by_size : (t : Bool) → nat_le (length table.inputs) 4 ≡ t →
          Makes covers given nodes
          (cond t (tabled covers given nodes number (literal_or given literals 0) (literal_or given literals 1) (literal_or given literals 2) (literal_or given literals 3))
          (signed table.value (some_row given nodes table.rows literals))) (λ v. output_by table (map (is_true v) literals))
      by_size true e =
          let n = variables_of given nodes in
          let few : length literals ≤ 4 = omega (arith, leb-true (length table.inputs) 4 e) in
          let at = λ (place : ℕ). or_within n given literals place (omega arith) within in
          let l = λ (place : ℕ). literal_or given literals place in
          let four = l 0 ∷ l 1 ∷ l 2 ∷ l 3 ∷ [] in
          let names : IsTrue (clause_within n four) =
          more_within n (l 0) (l 1 ∷ l 2 ∷ l 3 ∷ []) (at 0) (more_within n (l 1) (l 2 ∷ l 3 ∷ []) (at 1) (more_within n (l 2) (l 3 ∷ []) (at 2) (more_within n (l 3) [] (at 3) refl))) in
          makes-as covers given nodes (tabled covers given nodes number (l 0) (l 1) (l 2) (l 3)) (says covers number four) (λ v. output_by table (map (is_true v) literals))
          (makes-tabled covers given nodes number (l 0) (l 1) (l 2) (l 3) sound exact names)
          (λ source v holds. cover-says v given table (cover_at covers number) literals (is e) sized size few)
      by_size false e =
          signed-made nodes table.value (some_row given nodes table.rows literals) (λ v. fits_some table.rows (map (is_true v) literals)) (makes-rows covers given nodes table.rows literals sound within)
