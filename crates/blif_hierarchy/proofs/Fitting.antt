-- Where connections are in form, the names that are connected with nothing are all but these.
use Rattle.std.proofs.Common.{◌≡◌, ℕ, zero, suc, ◌+◌, ◌-◌, ◌<◌, ◌≤◌, ◌⊎◌, inl, inr, true, cond, is_none, eqb, List, [], ◌∷◌, ◌++◌, length, map, Option, Some, None, refl, sym, ◌∙◌, subst, arith}
use Rattle.std.proofs.lemmas.Bool.{cases_lt}
use Rattle.std.proofs.lemmas.List.{length-map}
use Rattle.blif_flattening.specs.declared.model.Connection.{Connection}
use Rattle.blif_flattening.specs.declared.model.Placement.{Placement}
use Rattle.blif_flattening.specs.declared.model.Model.{Model}
use Rattle.blif_flattening.specs.Hierarchy.{actual_in}
use Rattle.blif_flattening.specs.Instances.{names_of}
use Rattle.blif_flattening.specs.Members.{Among}
use Rattle.blif_flattening.proofs.Members.{from_map}
use Rattle.blif_hierarchy.specs.Drivers.{count_where, times, IsInForm}
use Rattle.blif_hierarchy.specs.Sums.{own_count}
use Rattle.blif_hierarchy.proofs.Connecting.{left_alone, onto_left, left-within, left-there, left-apart, formal-among, unconnected}
use Rattle.blif_hierarchy.proofs.Counting.{count_where-append, count_where-alike, times-none, times-once}

count-all : (xs : List ℕ) → count_where (λ x. true) xs ≡ length xs
count-all [] = refl
count-all (x ∷ xs) = omega (arith, count-all xs)

left-length : (connections : List Connection) (count : ℕ) → length (left_alone connections count) ≡ own_count connections count
unfolding left_alone onto_left
left-length connections zero = refl
left-length connections (suc last) = by_actual (actual_in connections last) (left-length connections last)
  where
    by_actual : (actual : Option ℕ) → length (left_alone connections last) ≡ own_count connections last
        → length (onto_left actual last (left_alone connections last)) ≡ own_count connections last + cond (is_none actual) 1 0
    by_actual None same = omega (arith, same)
    by_actual (Some actual) same = omega (arith, same)

all-own : (count : ℕ) → own_count [] count ≡ count
all-own zero = refl
all-own (suc last) = omega (arith, all-own last)

module _ (Line : Type 0) (models : List (Model Line)) (placement : Placement) (form : IsInForm models placement) where
  formals : List ℕ
  formals = map (λ (c : Connection). c.formal) placement.connections

  count : ℕ
  count = names_of models placement.model

  below : (name : ℕ) → Among name formals → name < count
  unfolding formals count
  below name there =
      let by = from_map (λ (c : Connection). c.formal) name placement.connections there in
      subst (λ n. n < names_of models placement.model) by.2 (form.formals by.0 by.1)

  alike-below : (name : ℕ) → name < count → (actual : Option ℕ) → actual_in placement.connections name ≡ actual
      → times name (left_alone [] count) ≡ times name (left_alone placement.connections count) + times name formals
  unfolding formals count
  alike-below name lt None none =
      let all = times-once name (left_alone [] count) (left-apart [] count) (left-there [] count name lt refl) in
      let left = times-once name (left_alone placement.connections count) (left-apart placement.connections count) (left-there placement.connections count name lt none) in
      let formal = times-none name formals (unconnected placement.connections name none) in
      omega (arith, all, left, formal)
  alike-below name lt (Some actual) some =
      let all = times-once name (left_alone [] count) (left-apart [] count) (left-there [] count name lt refl) in
      let left = times-none name (left_alone placement.connections count) (λ there.
      let bad : None ≡ Some actual = sym (left-within placement.connections count name there).1 ∙ some in cc) in
      let formal = times-once name formals form.once (formal-among placement.connections name actual some) in
      omega (arith, all, left, formal)

  alike : (name : ℕ) → times name (left_alone [] count) ≡ times name (left_alone placement.connections count ++ formals)
  unfolding formals count
  alike name =
      by_limit (cases_lt name count) ∙ sym (count_where-append (λ other. eqb other name) (left_alone placement.connections count) formals)
    where
      by_limit : (name < count) ⊎ (count ≤ name) → times name (left_alone [] count) ≡ times name (left_alone placement.connections count) + times name formals
      by_limit (inl lt) = alike-below name lt (actual_in placement.connections name) refl
      by_limit (inr past) =
          let all = times-none name (left_alone [] count) (λ there. let lt = (left-within [] count name there).0 in absurd (omega (arith, lt))) in
          let left = times-none name (left_alone placement.connections count) (λ there. let lt = (left-within placement.connections count name there).0 in absurd (omega (arith, lt))) in
          let formal = times-none name formals (λ there. let lt = below name there in absurd (omega (arith, lt))) in
          omega (arith, all, left, formal)

  pub own-is : names_of models placement.model - length placement.connections ≡ own_count placement.connections (names_of models placement.model)
  unfolding formals count
  own-is =
      let both = count_where-alike (λ x. true) (left_alone [] count) (left_alone placement.connections count ++ formals) alike in
      let split = count_where-append (λ x. true) (left_alone placement.connections count) formals in
      let sizes = length-map placement.connections (λ (c : Connection). c.formal) in
      omega (
        arith,
        both,
        split,
        sizes,
        count-all (left_alone [] count),
        count-all (left_alone placement.connections count),
        count-all formals,
        left-length [] count,
        left-length placement.connections count,
        all-own count,
      )
